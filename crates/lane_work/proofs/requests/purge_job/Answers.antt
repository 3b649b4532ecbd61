use Rattle.std.proofs.Common.{ap, ◌∙◌}
use Rattle.ledger_model.specs.Fitting.{fits_job}
use Rattle.ledger_model.proofs.KeepLaws.{purge_fits}
use Rattle.lane_work.proofs.RequestLaws.{purge_is}
use Rattle.lane_work.proofs.requests.purge_job.Goals as goal

pub returns-clause-job : goal.returns-clause-job
returns-clause-job g c =
    let a = c.args in
    ap (Rattle.ledger_model.specs.declared.job.Job.TheVariants.Purge a.point a.root) c.of.ensures
    ∙ purge_is _ a.id.now.0 a.point a.root a.given.now c.purge_request_digest-request.result.0 c.in_ok-shown.shown.items c.purge_request_digest-request.ensures c.in_ok-shown.ensures

pub returns-clause-fits : goal.returns-clause-fits
returns-clause-fits g c =
    let a = c.args in
    ap fits_job (returns-clause-job g c) ∙ purge_fits _ a.id.now.0 a.point a.root a.given.now c.requires
