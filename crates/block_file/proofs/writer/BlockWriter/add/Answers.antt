use Rattle.std.proofs.Common.{ap, ◌∙◌, length, ◌++◌, arith}
use Rattle.block_file.specs.Writing.{BlockBytes}
use Rattle.block_file.proofs.WriterLaws.{add_room, add_body, add_before, long}
use Rattle.block_file.proofs.writer.BlockWriter.add.Goals as goal

pub returns-clause-room : goal.returns-clause-room
returns-clause-room c =
    add_room c.self.inside.begins c.self.inside.bytes.items c.args.piece.now _ (ap (λ (b : BlockBytes). length b.head) c.self.view_is ∙ c.requires) c.in_ok-extend_from_slice.ensures.items

pub returns-clause-body : goal.returns-clause-body
returns-clause-body c =
    add_body c.self.inside.begins c.self.inside.bytes.items c.args.piece.now _ (ap (λ (b : BlockBytes). length b.head) c.self.view_is ∙ c.requires) c.in_ok-extend_from_slice.ensures.items
    ∙ ap (λ (b : BlockBytes). b.body ++ c.args.piece.now) c.self.view_is

pub returns-clause-before : goal.returns-clause-before
returns-clause-before c =
    add_before c.self.inside.begins c.self.inside.bytes.items c.args.piece.now _ (omega (arith, long c.self.inside.begins c.self.inside.bytes.items (ap (λ (b : BlockBytes). length b.head) c.self.view_is ∙ c.requires))) c.in_ok-extend_from_slice.ensures.items
    ∙ ap (λ (b : BlockBytes). b.before) c.self.view_is
