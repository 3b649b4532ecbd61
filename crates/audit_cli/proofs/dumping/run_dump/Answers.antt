use Rattle.audit_cli.proofs.DumpLaws.{told_sound}
use Rattle.audit_cli.proofs.dumping.run_dump.Goals as goal

pub returns-in-Ok-clause-sound : goal.returns-in-Ok-clause-sound
returns-in-Ok-clause-sound g c zero_is =
    told_sound (g.V.Verifier.shows c.args.verifier.now) c.args.id.now c.args.ledger.now c.args.notary.now _ _ _
    (record { report = c.in-Ok.report; tells = c.in-Ok.ensures.report; counts = c.in-Ok.ensures.counts; told = c.tell.ensures }) zero_is
