use Rattle.std.proofs.Common.{length, sym, ap, subst, ◌∙◌}
use Rattle.std.proofs.lemmas.Map.Entries.{length-keys_of}
use Rattle.clue_index.specs.Index.{StandsForTrails}
use Rattle.clue_index.proofs.StateLaws.{keys-trails}
use Rattle.clue_index.proofs.index.ClueIndex.clues.Goals as goal

pub returns : goal.returns
returns c a st =
    let st' = subst (λ k. StandsForTrails k a) (sym c.self.view_is) st in
    c.len.ensures.len ∙ (sym (length-keys_of c.self.inside.slots.entries) ∙ ap length (keys-trails _ a st' c.len.ensures.ordered))
