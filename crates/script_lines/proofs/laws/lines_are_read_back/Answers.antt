use Rattle.script_lines.proofs.Sayings.{spoken-line_text}
use Rattle.script_lines.proofs.laws.lines_are_read_back.Goals as goal

pub returns : goal.returns
returns c = spoken-line_text
