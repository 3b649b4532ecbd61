use Rattle.audit_dump.proofs.Audited.{of_input}
use Rattle.audit_dump.proofs.laws.an_audit_reports_its_input.Goals as goal

pub returns : goal.returns
returns c scheme given input before after report is told = of_input scheme given input before after report is told
