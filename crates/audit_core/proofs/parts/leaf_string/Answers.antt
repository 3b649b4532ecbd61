use Rattle.std.proofs.Common.{rules, ◌≡◌, length, refl}
use Rattle.audit_core.proofs.PartLaws.{string_rest}
use Rattle.audit_core.proofs.parts.leaf_string.Goals as goal

pub invariant_of-result : goal.invariant_of-result
invariant_of-result c =
    let front = c.copy_from_slice.new.self in
    let size : length front ≡ length c.args.leaf.now = search rules in
    record { rest = string_rest (length c.args.leaf.now) front _ size refl }
