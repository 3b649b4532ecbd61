use Rattle.std.proofs.Common.{◌∙◌, subst}
use Rattle.survivor_set.specs.Outcomes.{Tells}
use Rattle.survivor_set.proofs.Checked.{handed_err, path_first, body_next, who_last, path_seen, body_seen_as, who_seen}
use Rattle.survivor_set.proofs.checking.check_survivor.Goals as goal

pub returns-in_err-check_path : goal.returns-in_err-check_path
returns-in_err-check_path c =
    let e = c.in_err-check_path.field-0.0 in
    handed_err c.from_residual.result e _ c.from_residual.ensures
    (path_first c.args.set.now c.args.survivor.now e (path_seen c.args.set.now c.args.survivor.now c.header-header.result.now c.path.result.now c.header-header.ensures c.path.ensures ∙ c.in_err-check_path.ensures))

pub returns-in_err-check_body : goal.returns-in_err-check_body
returns-in_err-check_body c =
    let e = c.in_err-check_body.field-0.0 in
    let path = path_seen c.args.set.now c.args.survivor.now c.header-header.result.now c.path.result.now c.header-header.ensures c.path.ensures ∙ c.in_ok-check_path.ensures in
    handed_err c.from_residual-in_err-check_body.result e _ c.from_residual-in_err-check_body.ensures
    (body_next c.args.set.now c.args.survivor.now e path (body_seen_as c.args.survivor.now c.header-header.result.now _ c.header-header.ensures c.body.ensures ∙ c.in_err-check_body.ensures))

pub returns : goal.returns
returns c =
    let path = path_seen c.args.set.now c.args.survivor.now c.header-header.result.now c.path.result.now c.header-header.ensures c.path.ensures ∙ c.in_ok-check_path.ensures in
    let body = body_seen_as c.args.survivor.now c.header-header.result.now _ c.header-header.ensures c.body.ensures ∙ c.in_ok-check_body.ensures in
    who_last c.args.set.now c.args.survivor.now c.check_part.result path body
    (subst (Tells c.check_part.result) (who_seen c.args.survivor.now c.header-header.result.now c.who.result.now c.who_digest.result c.header-header.ensures c.who.ensures c.who_digest.ensures) c.check_part.ensures)
