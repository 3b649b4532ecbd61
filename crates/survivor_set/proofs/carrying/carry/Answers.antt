use Rattle.std.proofs.Common.{◌≡◌, ◌++◌, ◌∙◌, ap, List, ℕ}
use Rattle.ledger_book.specs.Books.{leaf_digests}
use Rattle.survivor_set.specs.Sets.{front_text, set_text}
use Rattle.survivor_set.specs.Outcomes.{AreJournalsOf, carried_set, set_refusal, later_refusal}
use Rattle.survivor_set.proofs.Checked.{or_err, or_ok, root_told}
use Rattle.survivor_set.proofs.Growth.{carries_err, carried_told}
use Rattle.survivor_set.proofs.Readable.{carried_is_set}
use Rattle.survivor_set.proofs.Wholes.{set_only}
use Rattle.survivor_set.proofs.carrying.carry.Goals as goal

pub returns-in_err-check_set-clause-answer : goal.returns-in_err-check_set-clause-answer
returns-in_err-check_set-clause-answer c = λ h s.
    let e = c.in_err-check_set.field-0.0 in
    carries_err h c.args.set.now c.args.point c.from_residual.result e c.from_residual.ensures (or_err (set_refusal h c.args.set.now) (later_refusal h c.args.set.now c.args.point) e (c.in_err-check_set.ensures.judged h s))

pub returns-in_err-check_later-clause-answer : goal.returns-in_err-check_later-clause-answer
returns-in_err-check_later-clause-answer c = λ h s.
    let e = c.in_err-check_later.field-0.0 in
    carries_err h c.args.set.now c.args.point c.from_residual-in_err-check_later.result e c.from_residual-in_err-check_later.ensures
    (or_ok (set_refusal h c.args.set.now) (later_refusal h c.args.set.now c.args.point) (c.in_ok-check_set.ensures.judged h s) ∙ c.in_err-check_later.ensures.judged h s)

pub returns-clause-answer : goal.returns-clause-answer
returns-clause-answer c = λ h s.
    let stands = c.tree-tree.ensures.stands h s.stands in
    let carried = carried_set h c.args.point c.args.set.now in
    let text : AreJournalsOf h c.args.set.now → c.finish.result ≡ set_text carried =
    λ are. c.finish.ensures
    ∙ carried_told h c.args.set.now c.tree-tree.result.now c.args.point c.id.result c.in_ok-root.root c.count.result c.put_front.new.fields c.put_all.new.fields stands c.id.ensures
    (c.in_ok-root.ensures.root (leaf_digests h) stands ∙ root_told h c.args.point) c.count.ensures.count
    (c.in_ok-put_front.ensures ∙ ap (λ (t : List ℕ). t ++ front_text c.id.result c.args.point c.in_ok-root.root c.count.result) c.new-fields.ensures) c.in_ok-put_all.ensures are in (
      or_ok (set_refusal h c.args.set.now) (later_refusal h c.args.set.now c.args.point) (c.in_ok-check_set.ensures.judged h s) ∙ c.in_ok-check_later.ensures.judged h s,
      text,
      λ are. set_only c.finish.result carried (carried_is_set h c.args.point c.args.set.now c.count.ensures.rules c.ranges.point.fits) (text are),
    )
