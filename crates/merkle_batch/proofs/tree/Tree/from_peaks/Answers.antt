use Rattle.std.proofs.Common.{arith, refl, ap, subst, ◌∙◌, map, [], length, drop}
use Rattle.merkle_batch.specs.Rows.{KeepsNodes, HasCounted, HasRoom}
use Rattle.merkle_batch.proofs.Peaking.{stands_peaks}
use Rattle.std.proofs.lemmas.List.{length-map}
use Rattle.merkle_batch.specs.Over.{KeepsOver}
use Rattle.merkle_batch.proofs.Over.{over_peaks}
use Rattle.merkle_batch.proofs.Standing.{some_peaks}
use Rattle.merkle_batch.proofs.tree.Tree.from_peaks.Goals as goal

pub invariant_of-result : goal.invariant_of-result
invariant_of-result g c =
    let none = ap length c.new-rows.ensures.items in
    let counts = subst (λ n. HasCounted c.args.p c.args.p (drop n c.rows_of.new.rows.items)) none c.in_ok-rows_of.ensures.counts in
    (omega arith, counts, subst (λ n. HasRoom 0 (drop n c.rows_of.new.rows.items)) none c.in_ok-rows_of.ensures.room, omega arith, some_peaks g.H.TreeHash.of _ c.args.p refl refl counts)

pub returns-clause-stands : goal.returns-clause-stands
returns-clause-stands g c ds len is =
    let hash = g.H.TreeHash.of in
    stands_peaks hash _ c.args.p ds refl refl len
    (subst (λ n. KeepsNodes hash c.args.p (drop n c.rows_of.new.rows.items) ds) (ap length c.new-rows.ensures.items) (c.in_ok-rows_of.ensures.keeps hash ds len is))

pub returns-clause-over : goal.returns-clause-over
returns-clause-over g c ones =
    let hash = g.H.TreeHash.of in
    let peaks = map (λ d. d.0) c.args.peaks.now in
    over_peaks hash _ c.args.p peaks refl refl (length-map c.args.peaks.now (λ d. d.0) ∙ ones)
    (subst (λ n. KeepsOver hash c.args.p c.args.p (drop n c.rows_of.new.rows.items) peaks []) (ap length c.new-rows.ensures.items) (c.in_ok-rows_of.ensures.over hash ones))
