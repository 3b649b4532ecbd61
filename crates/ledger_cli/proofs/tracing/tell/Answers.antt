use Rattle.std.proofs.Common.{ℕ, List, Err, inl, refl, subst}
use Rattle.clue_lineage.specs.Making.{Makes}
use Rattle.clue_lineage.specs.declared.answer.LineageErr.{LineageErr}
use Rattle.ledger_cli.specs.Asking.{IsLineageOf, IsUntraced}
use Rattle.ledger_cli.specs.Runs.{handed, Signs}
use Rattle.ledger_cli.proofs.AskLaws.{nothing_told, one_told}
use Rattle.ledger_cli.proofs.tracing.tell.Goals as goal

pub returns-in-Ok : goal.returns-in-Ok
returns-in-Ok g c = λ source.
    one_told c.args.book.now (IsLineageOf c.args.from c.args.clue.now) (IsUntraced c.args.from c.args.clue.now) (λ h. tt) source source refl (g.K.Sink.state c.args.sink.now) (g.K.Sink.state c.write_text.new.sink) c.in-Ok.text c.write_text.result
    (λ h serves. let made = c.in-Ok.ensures.answer h serves in record { some = made.0; text_is = made.1; accepted = c.in-Ok.ensures.accepted h serves })
    (λ other disks notary.
    subst (λ (text : List ℕ). Signs text c.write_text.result (handed other (g.K.Sink.state c.args.sink.now) disks notary) (handed other (g.K.Sink.state c.write_text.new.sink) disks notary))
    c.as_slice.ensures (c.write_text.ensures other disks notary))

pub returns-in-Err-NoLineage : goal.returns-in-Err-NoLineage
returns-in-Err-NoLineage g c = λ source.
    nothing_told c.args.book.now (IsLineageOf c.args.from c.args.clue.now) (IsUntraced c.args.from c.args.clue.now) _ source source (g.K.Sink.state c.args.sink.now)
    (λ h serves. (refl, subst (λ (e : LineageErr). Makes c.args.from c.args.clue.now h (Err e)) c.in-Err-NoLineage.field-0-is (c.in-Err-NoLineage.ensures.answer h serves)))
    (λ disks n m. record { source_is = refl; sink_is = (refl, refl); disks_are = record { a = refl; b = refl } })

pub returns-in-Err-NoMemory : goal.returns-in-Err-NoMemory
returns-in-Err-NoMemory g c = λ source.
    nothing_told c.args.book.now (IsLineageOf c.args.from c.args.clue.now) (IsUntraced c.args.from c.args.clue.now) _ source source (g.K.Sink.state c.args.sink.now)
    (λ h serves. (refl, tt)) (λ disks n m. record { source_is = inl refl; sink_is = (refl, refl); disks_are = record { a = refl; b = refl } })
