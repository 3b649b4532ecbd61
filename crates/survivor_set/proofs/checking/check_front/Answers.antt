use Rattle.std.proofs.Common.{◌∙◌, sym, arith}
use Rattle.std.proofs.lemmas.Bool.{true≢false}
use Rattle.ledger_book.specs.Books.{leaf_digests}
use Rattle.survivor_set.proofs.Checked.{other_id, same_id, absent, purged, other_root, same_root, size_of, root_of}
use Rattle.survivor_set.proofs.checking.check_front.Goals as goal

pub returns-then-ne-clause-judged : goal.returns-then-ne-clause-judged
returns-then-ne-clause-judged c = λ h s. other_id h c.args.set.now c.id.result c.id-id.result c.id.ensures (c.id-id.ensures h s.stands) c.if-ne.ensures

pub returns-then-point-size-clause-judged : goal.returns-then-point-size-clause-judged
returns-then-point-size-clause-judged c = λ h s.
    let one = same_id h c.args.set.now c.id.result c.id-id.result c.id.ensures (c.id-id.ensures h s.stands) c.if-ne.ensures in
    let all = size_of h c.tree-tree.result.now (c.tree-tree.ensures.stands h s.stands) in
    absent h c.args.set.now one c.size-then-point-size.result (c.size-then-point-size.ensures ∙ all) (omega (arith, c.if-point-size.true, c.size.ensures, all, c.point-point.ensures))

pub returns-then-point-clause-judged : goal.returns-then-point-clause-judged
returns-then-point-clause-judged c = λ h s.
    let one = same_id h c.args.set.now c.id.result c.id-id.result c.id.ensures (c.id-id.ensures h s.stands) c.if-ne.ensures in
    let all = size_of h c.tree-tree.result.now (c.tree-tree.ensures.stands h s.stands) in
    purged h c.args.set.now one (omega (arith, c.if-point-size.false, c.size.ensures, all, c.point-point.ensures)) c.point-point-then-point.result (c.point-point-then-point.ensures.point h s) (omega (arith, c.if-point.true, c.point.ensures.point h s, c.point-point.ensures))

pub returns-in_err-root-clause-judged : goal.returns-in_err-root-clause-judged
returns-in_err-root-clause-judged c = λ h s.
    absurd (true≢false (sym (c.in_err-root.ensures.ok (omega (arith, c.tree-tree.ensures.floor, s.seen, c.if-point.false, c.point.ensures.value)) (omega (arith, c.if-point-size.false, c.size.ensures)))))

pub returns-then-ne-2-clause-judged : goal.returns-then-ne-2-clause-judged
returns-then-ne-2-clause-judged c = λ h s.
    let one = same_id h c.args.set.now c.id.result c.id-id.result c.id.ensures (c.id-id.ensures h s.stands) c.if-ne.ensures in
    let all = size_of h c.tree-tree.result.now (c.tree-tree.ensures.stands h s.stands) in
    let root = root_of h c.args.set.now c.point-point.result c.in_ok-root.root c.point-point.ensures (c.in_ok-root.ensures.root (leaf_digests h) (c.tree-tree.ensures.stands h s.stands)) in
    other_root h c.args.set.now one (omega (arith, c.if-point-size.false, c.size.ensures, all, c.point-point.ensures)) (omega (arith, c.if-point.false, c.point.ensures.point h s, c.point-point.ensures)) c.root.result c.in_ok-root.root c.root.ensures root c.if-ne-2.ensures

pub returns-clause-judged : goal.returns-clause-judged
returns-clause-judged c = λ h s.
    let one = same_id h c.args.set.now c.id.result c.id-id.result c.id.ensures (c.id-id.ensures h s.stands) c.if-ne.ensures in
    let all = size_of h c.tree-tree.result.now (c.tree-tree.ensures.stands h s.stands) in
    let root = root_of h c.args.set.now c.point-point.result c.in_ok-root.root c.point-point.ensures (c.in_ok-root.ensures.root (leaf_digests h) (c.tree-tree.ensures.stands h s.stands)) in
    same_root h c.args.set.now one (omega (arith, c.if-point-size.false, c.size.ensures, all, c.point-point.ensures)) (omega (arith, c.if-point.false, c.point.ensures.point h s, c.point-point.ensures)) c.root.result c.in_ok-root.root c.root.ensures root c.if-ne-2.ensures
