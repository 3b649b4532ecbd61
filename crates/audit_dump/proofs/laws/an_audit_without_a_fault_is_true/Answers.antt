use Rattle.audit_dump.proofs.Truth.{true_or_clash, true_bytes}
use Rattle.audit_dump.proofs.laws.an_audit_without_a_fault_is_true.Goals as goal

pub returns-clause-dump : goal.returns-clause-dump
returns-clause-dump c scheme given dump report headers entries fits is none size root count noted_root =
    true_or_clash scheme given dump report headers entries fits is none size root count noted_root

pub returns-clause-bytes : goal.returns-clause-bytes
returns-clause-bytes c scheme given bytes report plain is none = true_bytes scheme given bytes report plain is none
