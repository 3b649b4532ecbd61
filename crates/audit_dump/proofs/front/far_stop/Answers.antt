use Rattle.std.proofs.Common.{[], ◌∙◌, sym}
use Rattle.audit_dump.proofs.BaseReads.{base_far, not_whole}
use Rattle.audit_dump.proofs.front.far_stop.Goals as goal

pub unreachable-requires : goal.unreachable-requires
unreachable-requires c =
    let far = base_far c.args.bytes.now [] c.requires.far in
    not_whole c.in-Ok.field-0 far.0 (sym c.in-Ok.ensures.decodes ∙ far.1)
