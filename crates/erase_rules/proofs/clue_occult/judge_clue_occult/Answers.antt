use Rattle.std.proofs.Common.{◌∙◌, [], ◌∷◌}
use Rattle.journal_record.specs.Members.{keys}
use Rattle.member_book.specs.Approvals.{approvals_refusal}
use Rattle.member_book.specs.Erasures.{clue_row}
use Rattle.erase_rules.proofs.RowLaws.{judged_before, judged_last}
use Rattle.erase_rules.proofs.clue_occult.judge_clue_occult.Goals as goal

pub returns-in-Some : goal.returns-in-Some
returns-in-Some c =
    let f = c.args.facts.now in
    judged_before (clue_row f.count f.shown c.args.count) (approvals_refusal (keys c.args.members.now) c.args.given.now (0 ∷ 1 ∷ [])) c.in-Some.refusal c.in-Some.ensures

pub returns-in-None : goal.returns-in-None
returns-in-None c =
    let f = c.args.facts.now in
    c.check_approvals.ensures
    ∙ judged_last (clue_row f.count f.shown c.args.count) (approvals_refusal (keys c.args.members.now) c.args.given.now (0 ∷ 1 ∷ [])) c.in-None.ensures
