use Rattle.std.proofs.Common.{ap, length, ◌∙◌}
use Rattle.ledger_model.specs.Fitting.{fits_job}
use Rattle.ledger_model.proofs.KeepLaws.{record_fits}
use Rattle.lane_work.proofs.RequestLaws.{record_is}
use Rattle.lane_work.proofs.requests.record_job.Goals as goal

pub returns-clause-job : goal.returns-clause-job
returns-clause-job g c =
    record_is _ c.args.id.now.0 c.args.member c.args.clue c.args.content c.args.proof c.as_slice.result.now c.as_slice-3.result.now (length c.as_slice-2.result.now) c.content_digest-digest.result c.request_behind-request.result c.key_of-key.result c.approval_digest-who.result c.args.number
    c.content_digest-digest.ensures c.as_slice.ensures c.request_behind-request.ensures (ap length c.as_slice-2.ensures) c.key_of-key.ensures c.as_slice-3.ensures c.approval_digest-who.ensures

pub returns-clause-fits : goal.returns-clause-fits
returns-clause-fits g c =
    ap fits_job (returns-clause-job g c) ∙ record_fits _ c.args.id.now.0 c.args.member c.args.clue c.args.content c.args.proof c.args.number c.requires.content c.requires.proof
