use Rattle.std.proofs.Common.{ap, ◌∙◌, take}
use Rattle.audit_dump.proofs.Pieces.{time_is}
use Rattle.audit_dump.proofs.ending.time_of.Goals as goal

pub returns : goal.returns
returns c = time_is c.first_bytes.result c.args.entry.now c.from_be_bytes.result (c.first_bytes.ensures ∙ ap (take 8) c.as_slice.ensures) c.from_be_bytes.ensures
