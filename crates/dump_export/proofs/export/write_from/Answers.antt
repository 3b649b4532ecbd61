use Rattle.std.proofs.Common.{◌++◌, Err, subst}
use Rattle.dump_model.specs.Dumps.{dump_text}
use Rattle.dump_model.specs.Shown.{ledger_dump}
use Rattle.std.specs.Io.KnownBytes.{Appends}
use Rattle.dump_export.specs.Exports.{TellsDamage, Writes, handed}
use Rattle.dump_export.specs.Texts.{front_text, journals_text, tail_text}
use Rattle.dump_export.proofs.Exporting.{Answer, as_text, both, handed_on, stops}
use Rattle.dump_export.proofs.Items.{told_behind, whole_tells}
use Rattle.dump_export.proofs.Texts.{dump_parts}
use Rattle.dump_export.proofs.export.write_from.Goals as goal

pub returns-in_err-write_front-clause-writes : goal.returns-in_err-write_front-clause-writes
returns-in_err-write_front-clause-writes g c =
    let tells = g.D.Disk.tells in
    let book = c.args.book.now in
    let places = c.args.places.now.list in
    let file = g.D.Disk.state c.args.file.now in
    let notary = g.N.Notary.state c.args.notary.now in
    let x = handed file notary (g.K.Sink.state c.args.sink.now) in
    let y = handed file notary (g.K.Sink.state c.write_front.new.sink) in
    let e = c.in_err-write_front.field-0.0 in
    handed_on c.from_residual.result e (λ (a : Answer). Writes tells book places dump_text a x y) c.from_residual.ensures
    (as_text tells book places (λ d. front_text d ++ (journals_text d ++ tail_text d)) dump_text (Err e) x y (λ told h is. dump_parts (ledger_dump h notary.entries))
    (stops tells book places front_text (λ d. journals_text d ++ tail_text d) e x y (c.in_err-write_front.ensures.writes tells places file notary)))

pub returns-in_err-write_journals-clause-writes : goal.returns-in_err-write_journals-clause-writes
returns-in_err-write_journals-clause-writes g c =
    let tells = g.D.Disk.tells in
    let book = c.args.book.now in
    let places = c.args.places.now.list in
    let file = g.D.Disk.state c.args.file.now in
    let later = g.D.Disk.state c.write_journals.new.file in
    let notary = g.N.Notary.state c.args.notary.now in
    let x = handed file notary (g.K.Sink.state c.args.sink.now) in
    let y = handed file notary (g.K.Sink.state c.write_front.new.sink) in
    let z = handed later notary (g.K.Sink.state c.write_journals.new.sink) in
    let e = c.in_err-write_journals.field-0.0 in
    handed_on c.from_residual-in_err-write_journals.result e (λ (a : Answer). Writes tells book places dump_text a x z) c.from_residual-in_err-write_journals.ensures
    (as_text tells book places (λ d. front_text d ++ (journals_text d ++ tail_text d)) dump_text (Err e) x z (λ told h is. dump_parts (ledger_dump h notary.entries))
    (both tells book places front_text (λ d. journals_text d ++ tail_text d) (Err e) x y z (c.in_ok-write_front.ensures.writes tells places file notary)
    (stops tells book places journals_text tail_text e y z (c.in_err-write_journals.ensures.writes notary))))

pub returns-in_err-write_journals-clause-damages : goal.returns-in_err-write_journals-clause-damages
returns-in_err-write_journals-clause-damages g c = λ told h is.
    let file = g.D.Disk.state c.args.file.now in
    let notary = g.N.Notary.state c.args.notary.now in
    let first = g.K.Sink.state c.args.sink.now in
    let here = g.K.Sink.state c.write_front.new.sink in
    let last = g.K.Sink.state c.write_journals.new.sink in
    let e = c.in_err-write_journals.field-0.0 in
    let front = front_text (ledger_dump h notary.entries) in
    let wrote = c.in_ok-write_front.ensures.writes g.D.Disk.tells c.args.places.now.list file notary in
    handed_on c.from_residual-in_err-write_journals.result e (λ (a : Answer). TellsDamage front h a first last) c.from_residual-in_err-write_journals.ensures
    (told_behind front h (Err e) first here last (subst (Appends first.held here.held) (wrote.written told h is) wrote.appended)
    (c.in_err-write_journals.ensures.damages told h is))

pub returns-clause-writes : goal.returns-clause-writes
returns-clause-writes g c =
    let tells = g.D.Disk.tells in
    let book = c.args.book.now in
    let places = c.args.places.now.list in
    let file = g.D.Disk.state c.args.file.now in
    let later = g.D.Disk.state c.write_journals.new.file in
    let notary = g.N.Notary.state c.args.notary.now in
    let x = handed file notary (g.K.Sink.state c.args.sink.now) in
    let y = handed file notary (g.K.Sink.state c.write_front.new.sink) in
    let z = handed later notary (g.K.Sink.state c.write_journals.new.sink) in
    let u = handed later (g.N.Notary.state c.write_tail.new.notary) (g.K.Sink.state c.write_tail.new.sink) in
    as_text tells book places (λ d. front_text d ++ (journals_text d ++ tail_text d)) dump_text c.write_tail.result x u (λ told h is. dump_parts (ledger_dump h notary.entries))
    (both tells book places front_text (λ d. journals_text d ++ tail_text d) c.write_tail.result x y u (c.in_ok-write_front.ensures.writes tells places file notary)
    (both tells book places journals_text tail_text c.write_tail.result y z u (c.in_ok-write_journals.ensures.writes notary)
    (c.write_tail.ensures.writes tells places later)))

pub returns-clause-damages : goal.returns-clause-damages
returns-clause-damages g c = λ told h is.
    let front = front_text (ledger_dump h (g.N.Notary.state c.args.notary.now).entries) in
    whole_tells front h c.write_tail.result (g.K.Sink.state c.args.sink.now) (g.K.Sink.state c.write_tail.new.sink) (c.in_ok-write_journals.ensures.damages told h is) c.write_tail.ensures.only
