use Rattle.audit_core.proofs.Truths.{chain_true, extended}
use Rattle.audit_core.proofs.laws.extensions_are_true.Goals as goal

pub returns-clause-list : goal.returns-clause-list
returns-clause-list c hash m old extensions size root list makes leads size_is root_is = chain_true hash makes m old extensions size root list leads size_is root_is

pub returns-clause-next : goal.returns-clause-next
returns-clause-next c hash which first root extensions m head bytes trust it leads = extended hash which first root extensions m head bytes trust it leads
