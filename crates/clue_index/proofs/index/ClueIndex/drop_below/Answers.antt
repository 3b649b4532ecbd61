use Rattle.std.proofs.Common.{refl, sym, subst}
use Rattle.clue_index.specs.Index.{StandsForTrails}
use Rattle.clue_index.proofs.IndexLaws.{stands_dropped}
use Rattle.clue_index.proofs.index.ClueIndex.drop_below.Goals as goal

pub returns : goal.returns
returns c a st =
    let st' = subst (λ k. StandsForTrails k a) (sym c.self.view_is) st in
    stands_dropped _ _ a c.args.p c.max-self-inside.ensures refl st'
