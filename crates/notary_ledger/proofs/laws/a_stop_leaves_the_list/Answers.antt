use Rattle.std.proofs.Common.{inl, inr}
use Rattle.notary_ledger.proofs.UniqueLaws.{lists_unique}
use Rattle.notary_ledger.proofs.laws.a_stop_leaves_the_list.Goals as goal

pub returns-clause-whole : goal.returns-clause-whole
returns-clause-whole c es fs file may lists = lists_unique fs es file lists may

pub returns-clause-half : goal.returns-clause-half
returns-clause-half c es fs e file may lists = elim may [ inl old ↦ inl (lists_unique fs es file lists old) | inr more ↦ inr (lists_unique fs _ file lists more) ]
