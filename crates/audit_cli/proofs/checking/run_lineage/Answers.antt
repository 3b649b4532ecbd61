use Rattle.audit_cli.proofs.CheckLaws.{answered_sound}
use Rattle.audit_cli.proofs.checking.run_lineage.Goals as goal

pub returns-in-Ok-clause-sound : goal.returns-in-Ok-clause-sound
returns-in-Ok-clause-sound g c zero_is =
    answered_sound c.args.clue.now c.args.head.now _ _ _ (record { answer = c.in-Ok.answer; is = c.in-Ok.ensures.answer; told = c.tell.ensures }) zero_is
