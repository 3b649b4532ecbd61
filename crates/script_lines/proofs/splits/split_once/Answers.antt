use Rattle.std.proofs.Common.{sym, ◌∙◌}
use Rattle.script_lines.proofs.Cuts.{parts_at, parts_none}
use Rattle.script_lines.proofs.splits.split_once.Goals as goal

pub returns-in-Some : goal.returns-in-Some
returns-in-Some c = parts_at c.args.separator c.args.text.now c.in-Some.at (sym c.find.ensures ∙ c.in-Some.is)

pub returns-in-None : goal.returns-in-None
returns-in-None c = parts_none c.args.separator c.args.text.now (sym c.find.ensures ∙ c.in-None.is)
