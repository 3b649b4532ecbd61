use Rattle.audit_dump.proofs.front.read_front.Goals as goal

pub returns-in-Err-Broken-clause-over : goal.returns-in-Err-Broken-clause-over
returns-in-Err-Broken-clause-over g c =
    let stopped = rw c.in-Err-Broken.field-0-is at c.in-Err-Broken.ensures.reads in
    (stopped.bytes, stopped.read_bytes, stopped.told)
