use Rattle.script_lines.proofs.ReceiptLaws.{line_written}
use Rattle.script_lines.proofs.laws.a_written_line_is_a_reply.Goals as goal

pub returns : goal.returns
returns c = line_written
