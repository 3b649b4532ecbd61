use Rattle.ledger_model.specs.History.{journals}
use Rattle.audit_dump.proofs.Kept.{kept_next, all_next}
use Rattle.audit_dump.proofs.laws.kept_journals_are_next.Goals as goal

pub returns-clause-whole : goal.returns-clause-whole
returns-clause-whole c h lawful = all_next (journals h) lawful

pub returns-clause-behind : goal.returns-clause-behind
returns-clause-behind c h lawful some = kept_next h lawful some
