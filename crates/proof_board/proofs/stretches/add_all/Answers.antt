use Rattle.std.proofs.Common.{arith, ap, length}
use Rattle.std.proofs.lemmas.List.Folds.{length-flat_map-take}
use Rattle.merkle_batch.specs.Stretches.{Leaves}
use Rattle.proof_board.proofs.stretches.add_all.Goals as goal

pub add_stretch-requires-clause-room : goal.add_stretch-requires-clause-room
add_stretch-requires-clause-room c =
    let fits = length-flat_map-take (λ (s : Leaves). s.leaves) c.args.stretches.now c.loop-stretch.stretch-index c.stretch-item.result c.loop-stretch-test.true in
    omega (arith, fits, ap (λ (s : Leaves). length s.leaves) c.stretch-item.is, c.loop-stretch.invariant.4, c.requires.room)

pub add_stretch-requires-clause-small : goal.add_stretch-requires-clause-small
add_stretch-requires-clause-small c =
    let fits = length-flat_map-take (λ (s : Leaves). s.leaves) c.args.stretches.now c.loop-stretch.stretch-index c.stretch-item.result c.loop-stretch-test.true in
    omega (arith, fits, ap (λ (s : Leaves). length s.leaves) c.stretch-item.is, c.loop-stretch.invariant.2, c.requires.small)
