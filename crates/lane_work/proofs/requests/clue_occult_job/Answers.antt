use Rattle.std.proofs.Common.{ap, ◌∙◌}
use Rattle.ledger_model.specs.Fitting.{fits_job}
use Rattle.ledger_model.proofs.KeepLaws.{clue_occult_fits}
use Rattle.lane_work.proofs.RequestLaws.{clue_occult_is}
use Rattle.lane_work.proofs.requests.clue_occult_job.Goals as goal

pub returns-clause-job : goal.returns-clause-job
returns-clause-job g c =
    let a = c.args in
    ap (Rattle.ledger_model.specs.declared.job.Job.TheVariants.OccultClue c.clue_digest-clue.result a.count) c.of.ensures
    ∙ clue_occult_is _ a.id.now.0 a.name.now c.clue_digest-clue.result a.count a.given.now c.clue_occult_request_digest-request.result.0 c.in_ok-shown.shown.items c.clue_digest-clue.ensures c.clue_occult_request_digest-request.ensures c.in_ok-shown.ensures

pub returns-clause-fits : goal.returns-clause-fits
returns-clause-fits g c =
    let a = c.args in
    ap fits_job (returns-clause-job g c) ∙ clue_occult_fits _ a.id.now.0 a.name.now a.count a.given.now c.requires
