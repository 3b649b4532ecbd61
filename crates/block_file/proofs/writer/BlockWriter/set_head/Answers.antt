use Rattle.std.proofs.Common.{ap, ◌∙◌, length}
use Rattle.block_file.specs.Writing.{BlockBytes, block_head}
use Rattle.block_file.proofs.WriterLaws.{back_before, back_head, back_body, long}
use Rattle.block_file.proofs.writer.BlockWriter.set_head.Goals as goal

pub returns-clause-head : goal.returns-clause-head
returns-clause-head c =
    back_head c.self.inside.begins c.self.inside.bytes.len c.self.inside.bytes.items c.as_mut_slice.result.now c.overwrite.new.bytes (block_head c.args.count c.len-len.result c.args.root.now.0) c.overwrite.ensures.bytes c.as_mut_slice.ensures.value c.as_mut_slice.ensures.len c.overwrite.ensures.size
    (long c.self.inside.begins c.self.inside.bytes.items (ap (λ (b : BlockBytes). length b.head) c.self.view_is ∙ c.requires)) ∙ ap (λ n. block_head c.args.count n c.args.root.now.0) c.len-len.ensures.len

pub returns-clause-body : goal.returns-clause-body
returns-clause-body c =
    back_body c.self.inside.begins c.self.inside.bytes.len c.self.inside.bytes.items c.as_mut_slice.result.now c.overwrite.new.bytes (block_head c.args.count c.len-len.result c.args.root.now.0) c.overwrite.ensures.bytes c.as_mut_slice.ensures.value c.as_mut_slice.ensures.len c.overwrite.ensures.size
    (long c.self.inside.begins c.self.inside.bytes.items (ap (λ (b : BlockBytes). length b.head) c.self.view_is ∙ c.requires)) ∙ ap (λ (b : BlockBytes). b.body) c.self.view_is

pub returns-clause-before : goal.returns-clause-before
returns-clause-before c =
    back_before c.self.inside.begins c.self.inside.bytes.len c.self.inside.bytes.items c.as_mut_slice.result.now c.overwrite.new.bytes (block_head c.args.count c.len-len.result c.args.root.now.0) c.overwrite.ensures.bytes c.as_mut_slice.ensures.value c.as_mut_slice.ensures.len c.overwrite.ensures.size
    (long c.self.inside.begins c.self.inside.bytes.items (ap (λ (b : BlockBytes). length b.head) c.self.view_is ∙ c.requires)) ∙ ap (λ (b : BlockBytes). b.before) c.self.view_is

pub returns-clause-size : goal.returns-clause-size
returns-clause-size c =
    ap length
    (back_head c.self.inside.begins c.self.inside.bytes.len c.self.inside.bytes.items c.as_mut_slice.result.now c.overwrite.new.bytes (block_head c.args.count c.len-len.result c.args.root.now.0) c.overwrite.ensures.bytes c.as_mut_slice.ensures.value c.as_mut_slice.ensures.len c.overwrite.ensures.size
    (long c.self.inside.begins c.self.inside.bytes.items (ap (λ (b : BlockBytes). length b.head) c.self.view_is ∙ c.requires))) ∙ c.overwrite.ensures.size
