use Rattle.std.proofs.Common.{ap, length, drop, arith, length-drop}
use Rattle.block_file.specs.Writing.{BlockBytes}
use Rattle.block_file.proofs.writer.BlockWriter.len.Goals as goal

pub returns-clause-len : goal.returns-clause-len
returns-clause-len c =
    let items = c.self.inside.bytes.items in
    omega (
      arith,
      c.saturating_sub.ensures,
      c.len.ensures,
      c.self.inside.bytes.ok.0,
      ap (λ (b : BlockBytes). length b.body) c.self.view_is,
      length-drop 44 (drop c.self.inside.begins items),
      length-drop c.self.inside.begins items,
    )
