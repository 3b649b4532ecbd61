use Rattle.std.proofs.lemmas.Result.{IfOk-weaker}
use Rattle.journal_record.specs.Members.{keys}
use Rattle.audit_dump.proofs.Decisions.{placed_verdict}
use Rattle.audit_dump.proofs.deciding.is_placed.Goals as goal

pub returns : goal.returns
returns g c =
    IfOk-weaker c.is_placed_among.result _ _
    (λ good told start before same asked.
    placed_verdict (g.V.Verifier.shows c.args.verifier.now) c.args.id.now.0 start before c.args.journal.now (keys c.args.known.now) c.args.needed.now c.args.root good same asked told)
    c.is_placed_among.ensures
