use Rattle.audit_core.specs.Trust.{nothing_trusted}
use Rattle.audit_cli.specs.Answers.{answer_to}
use Rattle.audit_cli.proofs.LineLaws.{reply_line, text_lines}
use Rattle.audit_cli.proofs.laws.replies_are_lines.Goals as goal

pub returns-clause-reply : goal.returns-clause-reply
returns-clause-reply c hash trust number line = reply_line number (answer_to hash trust line)

pub returns-clause-text : goal.returns-clause-text
returns-clause-text c hash lines = text_lines hash nothing_trusted 1 lines
