use Rattle.std.proofs.Common.{List, ℕ, ◌∙◌, subst}
use Rattle.ledger_cli.specs.Runs.{handed, Signs}
use Rattle.ledger_cli.proofs.TopLaws.{wrote_nothing}
use Rattle.ledger_cli.proofs.top.write_chain.Goals as goal

pub returns-in-Ok : goal.returns-in-Ok
returns-in-Ok g c = λ source disks notary.
    subst (λ (text : List ℕ). Signs text c.write_text.result (handed source (g.K.Sink.state c.args.sink.now) disks notary) (handed source (g.K.Sink.state c.write_text.new.sink) disks notary))
    (c.as_slice.ensures.value ∙ c.in-Ok.ensures) (c.write_text.ensures source disks notary)

pub returns-in-Err : goal.returns-in-Err
returns-in-Err g c = λ source disks notary. wrote_nothing _ (handed source (g.K.Sink.state c.args.sink.now) disks notary)
