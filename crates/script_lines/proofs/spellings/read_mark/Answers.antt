use Rattle.std.proofs.Common.{rules}
use Rattle.script_lines.proofs.Given.{mark_from-parts}
use Rattle.script_lines.proofs.spellings.read_mark.Goals as goal

pub returns-in-Some : goal.returns-in-Some
returns-in-Some c =
    let first = c.in_ok-jsn in
    let second = c.in_ok-index in
    let last = c.in-Some.field-0 in
    let none = mark_from-parts c.args.text.now first.jsn.now first.rest.now second.index.now second.time.now last.0.now last.1.now first.ensures second.ensures c.in-Some.ensures in
    rw none (search rules)
