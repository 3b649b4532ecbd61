use Rattle.std.proofs.Common.{sym}
use Rattle.script_lines.proofs.Given.{approval_of-more}
use Rattle.script_lines.proofs.spellings.read_approval.Goals as goal

pub returns-in-Some-split_once-clause-approval : goal.returns-in-Some-split_once-clause-approval
returns-in-Some-split_once-clause-approval c =
    let last = c.in-Some-split_once.field-0 in
    sym (approval_of-more c.args.text.now c.in-Some.member.now c.in-Some.proof.now last.0.now last.1.now c.in-Some.ensures c.in-Some-split_once.ensures)
