use Rattle.std.proofs.Common.{rules}
use Rattle.journal_record.specs.Items.{item_text}
use Rattle.journal_record.proofs.ItemLaws.{item_of_only}
use Rattle.journal_record.proofs.record.Record.encode.Goals as goal

pub returns-clause-text : goal.returns-clause-text
unfolding item_text
returns-clause-text c = search rules

pub returns-clause-again : goal.returns-clause-again
returns-clause-again c = λ fits. item_of_only c.finish.result c.args.self.now fits (returns-clause-text c)
