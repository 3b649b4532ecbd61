use Rattle.std.proofs.Common.{ap, sym, ◌∙◌}
use Rattle.std.proofs.lemmas.List.{nil_from_length}
use Rattle.merkle_batch.specs.Stretches.{lowest}
use Rattle.merkle_batch.proofs.Stretching.{lowest_none, lowest_first}
use Rattle.merkle_batch.proofs.stretch.Stretch.leaves.Goals as goal

pub returns-in-empty : goal.returns-in-empty
returns-in-empty g c =
    sym (nil_from_length (lowest c.as_slice.result.now) (lowest_none c.as_slice.result.now c.in-empty.len_below)) ∙ ap lowest c.as_slice.ensures.value ∙ ap (λ s. s.leaves) c.self.view_is

pub returns-in-len1-up : goal.returns-in-len1-up
returns-in-len1-up g c =
    c.nodes.ensures ∙ sym (lowest_first c.as_slice.result.now c.row-item.result c.in-len1-up.len_at_least c.row-item.is) ∙ ap lowest c.as_slice.ensures.value ∙ ap (λ s. s.leaves) c.self.view_is
