use Rattle.std.proofs.Common.{ap, ◌∙◌, ◌++◌, List, ℕ, drop, sym, take-append-drop}
use Rattle.block_file.specs.Writing.{BlockBytes}
use Rattle.block_file.proofs.writer.BlockWriter.as_slice.Goals as goal

pub returns : goal.returns
returns c =
    c.split_at.ensures.back ∙ ap (λ (l : List ℕ). drop c.self.inside.begins l) c.as_slice.ensures.value ∙ sym (take-append-drop 44 (drop c.self.inside.begins c.self.inside.bytes.items))
    ∙ ap (λ (b : BlockBytes). b.head ++ b.body) c.self.view_is
