use Rattle.audit_dump.proofs.ByteReports.{told_of_bytes, bytes_tell}
use Rattle.audit_dump.proofs.laws.the_bytes_of_a_dump_have_its_report.Goals as goal

pub returns-clause-told : goal.returns-clause-told
returns-clause-told c scheme given dump report fits is = told_of_bytes scheme given dump fits report is

pub returns-clause-only : goal.returns-clause-only
returns-clause-only c scheme given dump report fits told = bytes_tell scheme given dump fits report told
