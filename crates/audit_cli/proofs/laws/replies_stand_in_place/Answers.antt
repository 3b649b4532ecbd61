use Rattle.audit_cli.proofs.TextLaws.{text_placed}
use Rattle.audit_cli.proofs.YesLaws.{told_yes}
use Rattle.audit_cli.proofs.laws.replies_stand_in_place.Goals as goal

pub returns-clause-place : goal.returns-clause-place
returns-clause-place c hash lines line rest = text_placed hash lines line rest

pub returns-clause-told : goal.returns-clause-told
returns-clause-told c number reply = told_yes number reply
