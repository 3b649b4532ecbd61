use Rattle.std.proofs.Common.{ap, ◌∙◌}
use Rattle.std.specs.Prelude.{fold}
use Rattle.proof_board.specs.Growing.{grown}
use Rattle.proof_board.specs.Rule.{aware_of}
use Rattle.proof_board.proofs.Steps.{begins, stays}
use Rattle.proof_board.proofs.opening.writer_of.Goals as goal

pub new-requires-clause-rule : goal.new-requires-clause-rule
new-requires-clause-rule g c = begins c.args.first c.requires.whole c.requires.wide

pub publish_as-writer-requires : goal.publish_as-writer-requires
publish_as-writer-requires g c next is =
    let x = c.in_ok-writer.writer.desk.shown.value in
    stays _ _ x next (is ∙ ap (fold grown x) c.in_ok-writer.ensures.1)

pub returns-in-Ok-clause-shown : goal.returns-in-Ok-clause-shown
returns-in-Ok-clause-shown g c =
    let x = c.in_ok-writer.writer.desk.shown.value in
    let values = rw c.in-Ok.is at c.publish_as-writer.ensures.values in
    values.0 ∙ ap (fold grown x) c.in_ok-writer.ensures.1 ∙ c.in_ok-writer.ensures.0

pub returns-in-Ok-clause-aware : goal.returns-in-Ok-clause-aware
returns-in-Ok-clause-aware g c =
    let x = c.in_ok-writer.writer.desk.shown.value in
    let values = rw c.in-Ok.is at c.publish_as-writer.ensures.values in
    let saw = rw c.in-Ok.is at c.publish_as-writer.ensures.rule in
    let same = values.0 ∙ ap (fold grown x) c.in_ok-writer.ensures.1 ∙ c.in_ok-writer.ensures.0 in
    saw.is ∙ (λ i. aware_of (same i).base (same i).at)
