use Rattle.audit_cli.proofs.RuleLaws.{accepted_whole, dump_rule, under_head, whole_or_clash}
use Rattle.audit_cli.proofs.laws.lineages_under_audited_heads_are_whole.Goals as goal

pub returns-clause-reported : goal.returns-clause-reported
returns-clause-reported c scheme given dump report bytes clue run fits is none whole plain accepted =
    whole_or_clash dump given.ledger whole (under_head scheme given dump report fits is none) (dump_rule scheme given dump report fits is none whole) bytes clue run plain accepted

pub returns-clause-read : goal.returns-clause-read
returns-clause-read c ledger notary text bytes clue run told whole plain accepted =
    accepted_whole told.dump ledger whole told.head (told.rule whole) bytes clue run plain accepted
