use Rattle.std.proofs.Common.{◌++◌, ◌∙◌, List, ℕ, [], ap, sym, refl, arith, length}
use Rattle.std.proofs.lemmas.Bool.{true≢false}
use Rattle.ledger_book.specs.Books.{leaf_digests}
use Rattle.survivor_set.specs.Sets.{front_text}
use Rattle.survivor_set.proofs.Checked.{root_told, size_of}
use Rattle.survivor_set.proofs.Kept.{point_stops, keeps_set}
use Rattle.survivor_set.proofs.Readable.{kept_is_set}
use Rattle.survivor_set.proofs.Shows.{showable}
use Rattle.survivor_set.proofs.keeping.keep_from.Goals as goal

pub returns-in_err-check_point-clause-answer : goal.returns-in_err-check_point-clause-answer
returns-in_err-check_point-clause-answer g c = λ tells h r.
    point_stops h c.args.point c.args.ns.now c.from_residual.result c.in_err-check_point.field-0.0 c.from_residual.ensures (c.in_err-check_point.ensures.judged h r.ends.serves r.floor)

pub returns-in_err-root-clause-answer : goal.returns-in_err-root-clause-answer
returns-in_err-root-clause-answer g c = λ tells h r.
    let s = r.ends.serves.stands in
    absurd (true≢false (sym (c.in_err-root.ensures.ok (omega (arith, c.tree.ensures.floor, c.in_ok-check_point.ensures.low))
    (omega (arith, c.in_ok-check_point.ensures.high, size_of h c.tree.result.now (c.tree.ensures.stands h s), s.counts.size)))))

pub returns-clause-answer : goal.returns-clause-answer
returns-clause-answer g c = λ tells h r.
    let s = r.ends.serves.stands in
    keeps_set h c.args.point c.args.ns.now c.id.result c.in_ok-root.root (length c.args.ns.now) [] c.put_front.new.fields c.keep_all.new.fields c.finish.result (c.in_ok-check_point.ensures.judged h r.ends.serves r.floor)
    (c.id.ensures h s) (c.in_ok-root.ensures.root (leaf_digests h) (c.tree.ensures.stands h s) ∙ root_told h c.args.point) refl
    (c.in_ok-put_front.ensures ∙ ap (λ (t : List ℕ). t ++ front_text c.id.result c.args.point c.in_ok-root.root (length c.args.ns.now)) c.new-fields.ensures)
    (c.in_ok-keep_all.ensures.kept tells h r) c.finish.ensures
    (λ t none of. kept_is_set h c.args.point s.lawful (showable _ h s.lawful r.erased) c.args.ns.now t c.requires.some c.requires.few c.requires.ascending none of)
