use Rattle.std.proofs.Common.{arith, ap, length}
use Rattle.notary_ledger.proofs.ListLaws.{size_is}
use Rattle.notary_ledger.proofs.list.Entries.push.Goals as goal

pub add_leaves-requires-clause-small : goal.add_leaves-requires-clause-small
add_leaves-requires-clause-small c = omega (arith, size_is _ _ c.self.invariant.0, ap (λ v. length v.entries) c.self.view_is, c.requires.few)
