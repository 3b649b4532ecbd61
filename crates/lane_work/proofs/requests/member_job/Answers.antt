use Rattle.lane_work.proofs.RequestLaws.{member_is}
use Rattle.lane_work.proofs.requests.member_job.Goals as goal

pub returns-clause-job : goal.returns-clause-job
returns-clause-job g c =
    member_is _ c.args.id.now.0 c.args.number c.args.key c.args.proof c.as_slice.result.now c.member_request_digest-request.result c.key_of-shown.result c.member_request_digest-request.ensures c.key_of-shown.ensures c.as_slice.ensures
