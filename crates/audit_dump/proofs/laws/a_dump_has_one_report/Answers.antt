use Rattle.audit_dump.proofs.ByteReports.{one_of_bytes}
use Rattle.audit_dump.proofs.OneReport.{one_report}
use Rattle.audit_dump.proofs.laws.a_dump_has_one_report.Goals as goal

pub returns-clause-dump : goal.returns-clause-dump
returns-clause-dump c scheme given dump report other is also = one_report scheme given dump report other is also

pub returns-clause-bytes : goal.returns-clause-bytes
returns-clause-bytes c scheme given bytes report other is also = one_of_bytes scheme given bytes report other is also
