use Rattle.std.proofs.Common.{ap, ◌∙◌, ◌-◌, ◌≤◌, inl, inr, List, ℕ, length, take, sym, subst, arith}
use Rattle.block_file.specs.File.{IsGroupOf}
use Rattle.block_file.specs.Writing.{BlockBytes}
use Rattle.block_file.proofs.WriterLaws.{ended_group, but_last}
use Rattle.block_file.proofs.writer.BlockWriter.ended.Goals as goal

pub returns-clause-bytes : goal.returns-clause-bytes
returns-clause-bytes c =
    c.split_at.ensures.front ∙ ap (λ (n : ℕ). take n c.as_slice.result.now) c.saturating_sub.ensures ∙ ap (λ (l : List ℕ). take (c.self.inside.begins - 1) l) c.as_slice.ensures.value
    ∙ but_last c.self.inside.begins c.self.inside.bytes.items within ∙ ap (λ (b : BlockBytes). take (length b.before - 1) b.before) c.self.view_is where
      within : c.self.inside.begins ≤ length c.self.inside.bytes.items
      within = elim c.self.invariant [ inl here ↦ omega (arith, here) | inr far ↦ omega (arith, far) ]

pub returns-clause-group : goal.returns-clause-group
returns-clause-group c ended is some =
    subst (λ (l : List ℕ). IsGroupOf ended l) (sym (returns-clause-bytes c ∙ ap (λ (l : List ℕ). take (length l - 1) l) is)) (ended_group ended some)
