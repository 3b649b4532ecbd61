-- A job with its line may cross threads: `search` finds that part by part, and not at once.
use denote.Param.Send.{IsSend, sendable}
use Rattle.std.proofs.Crossing.{crosses}
use Rattle.journal_record.specs.contracts.approval.Approval as Approval
use Rattle.ledger_bytes.specs.contracts.bytes.Bytes as Bytes
use Rattle.ledger_bytes.specs.contracts.digest.Digest as Digest
use Rattle.ledger_bytes.specs.contracts.items.Items as Items
use Rattle.ledger_bytes.specs.contracts.refusal.Refusal as Refusal
use Rattle.ledger_book.specs.contracts.prepared.Prepared as Prepared
use Rattle.ledger_model.specs.contracts.job.Job as Job

pub bytes_send : IsSend Bytes.the_row
bytes_send = search (sendable, crosses) depth 20

digest_send : IsSend Digest.the_row
digest_send = search (sendable, crosses) depth 20

refusal_send : IsSend Refusal.the_row
refusal_send = search (digest_send, sendable, crosses) depth 60 fits 20000

approval_send : IsSend Approval.the_row
approval_send = search (bytes_send, digest_send, sendable, crosses) depth 20

given_send : IsSend (Items.the_row Approval.the_row)
given_send = search (approval_send, sendable, crosses) depth 20

pub job_send : IsSend Job.the_row
job_send = search (bytes_send, digest_send, refusal_send, approval_send, given_send, sendable, crosses) depth 60 fits 20000

pub prepared_send : IsSend Prepared.the_row
prepared_send = search (job_send, sendable, crosses) depth 60 fits 20000
