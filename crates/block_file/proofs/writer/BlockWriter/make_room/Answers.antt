use Rattle.std.proofs.Common.{ap, ◌∙◌, sym, length}
use Rattle.block_file.specs.Writing.{BlockBytes}
use Rattle.block_file.proofs.WriterLaws.{room_kept}
use Rattle.block_file.proofs.writer.BlockWriter.make_room.Goals as goal

pub returns-else-len-self-clause-room : goal.returns-else-len-self-clause-room
returns-else-len-self-clause-room c =
    ap (λ (b : BlockBytes). length b.head) (sym c.self.view_is)
    ∙ room_kept c.self.inside.begins c.self.inside.bytes.items c.self.invariant (λ here. c.if-len-self.false (c.len.ensures ∙ c.self.inside.bytes.ok.0 ∙ here))
