use Rattle.script_lines.proofs.Cuts.{position-first}
use Rattle.script_lines.proofs.splits.find.Goals as goal

pub returns : goal.returns
returns c = position-first c.args.byte c.args.text.now c.memchr.result c.memchr.ensures
