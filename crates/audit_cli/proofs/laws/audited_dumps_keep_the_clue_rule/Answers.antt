use Rattle.audit_cli.proofs.RuleLaws.{dump_rule, lawful_dump, list_rule, under_head}
use Rattle.audit_cli.proofs.laws.audited_dumps_keep_the_clue_rule.Goals as goal

pub returns-clause-lawful : goal.returns-clause-lawful
returns-clause-lawful c scheme given dump report fits is none whole = lawful_dump scheme given dump report fits is none whole

pub returns-clause-rule : goal.returns-clause-rule
returns-clause-rule c scheme given dump report fits is none whole = dump_rule scheme given dump report fits is none whole

pub returns-clause-lists : goal.returns-clause-lists
returns-clause-lists c scheme given dump report headers fits is none whole size root =
    list_rule dump given.ledger whole (under_head scheme given dump report fits is none) (dump_rule scheme given dump report fits is none whole) headers size root
