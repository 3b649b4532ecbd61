use Rattle.honest_dump.proofs.Joined.{audit_never_fails}
use Rattle.honest_dump.proofs.laws.audits_of_runs_have_no_fault.Goals as goal

pub returns : goal.returns
returns c scheme h entries before after report run pegged input told = audit_never_fails scheme h run entries pegged before after report input told
