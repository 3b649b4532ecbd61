use Rattle.std.proofs.Common.{◌≡◌, map, ap, sym, ◌∙◌, subst, ◌++◌}
use Rattle.ledger_bytes.specs.declared.digest.Digest.{Digest}
use Rattle.proof_board.specs.History.{Digests, leaves_of}
use Rattle.proof_board.specs.Growing.{base_of, growth, kept_of, IsHeld}
use Rattle.proof_board.proofs.Held.{none_kept, held_new, held_same, kept_same, held_more, kept_more}
use Rattle.proof_board.proofs.shown.Shown.new.Goals as goal

pub invariant_of-result : goal.invariant_of-result
invariant_of-result c =
    let ps : Digests = map (λ (d : Digest). d.0) c.args.peaks.now in
    let more : Digests = leaves_of c.args.stretches.now in
    let made = c.in_ok-tree.ensures in
    let zero = held_new c.in_ok-tree.tree c.args.floor ps made.floor (made.over c.requires.ones) made.stands in
    let one = held_same c.in_ok-tree.tree c.reserve.new.self ps c.reserve.ensures.floor c.reserve.ensures.over c.reserve.ensures.stands zero in
    let two = held_more c.reserve.new.self c.add_all.new.tree ps more c.add_all.ensures.floor c.add_all.ensures.over c.add_all.ensures.stands one in
    let three = held_same c.add_all.new.tree c.reserve-2.new.self ps c.reserve-2.ensures.floor c.reserve-2.ensures.over c.reserve-2.ensures.stands two in
    subst (IsHeld c.reserve-2.new.self) (sym (ap (map (λ (d : Digest). d.0)) (c.in_ok-extend_from_slice.ensures.items ∙ ap (λ l. l ++ c.args.peaks.now) c.new-kept.ensures.items))) three

pub returns : goal.returns
returns c =
    let ps : Digests = map (λ (d : Digest). d.0) c.args.peaks.now in
    let more : Digests = leaves_of c.args.stretches.now in
    let made = c.in_ok-tree.ensures in
    let zero = held_new c.in_ok-tree.tree c.args.floor ps made.floor (made.over c.requires.ones) made.stands in
    let one = held_same c.in_ok-tree.tree c.reserve.new.self ps c.reserve.ensures.floor c.reserve.ensures.over c.reserve.ensures.stands zero in
    let two = held_more c.reserve.new.self c.add_all.new.tree ps more c.add_all.ensures.floor c.add_all.ensures.over c.add_all.ensures.stands one in
    let floor = c.reserve-2.ensures.floor ∙ (c.add_all.ensures.floor ∙ (c.reserve.ensures.floor ∙ made.floor)) in
    let none = none_kept c.in_ok-tree.tree c.args.floor ps made.floor (made.over c.requires.ones) in
    let kept : kept_of c.reserve-2.new.self ≡ more =
    kept_same c.add_all.new.tree c.reserve-2.new.self ps c.reserve-2.ensures.floor c.reserve-2.ensures.over two
    ∙ kept_more c.reserve.new.self c.add_all.new.tree ps more c.add_all.ensures.floor c.add_all.ensures.over one
    ∙ ap (λ (l : Digests). l ++ more) (kept_same c.in_ok-tree.tree c.reserve.new.self ps c.reserve.ensures.floor c.reserve.ensures.over zero ∙ none) in
    let items = ap (map (λ (d : Digest). d.0)) (c.in_ok-extend_from_slice.ensures.items ∙ ap (λ l. l ++ c.args.peaks.now) c.new-kept.ensures.items) in
    λ i. growth (base_of (floor i) (items i)) (kept i) c.args.at
