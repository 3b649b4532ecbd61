use Rattle.std.proofs.Common.{◌≡◌, refl}
use Rattle.ledger_soak.specs.Posts.{notary_state}
use Rattle.ledger_soak.specs.declared.running.Fuses.TheVariants.{Off}
use Rattle.ledger_soak.proofs.RunLaws.{begun_so}
use Rattle.ledger_soak.proofs.running.Run.begun.Goals as goal
use Rattle.ledger_soak.proofs.running.Run.begun.Goals.{then-stop-eq0, else-stop-eq0}

pub returns-clause-underway : goal.returns-clause-underway
returns-clause-underway c =
    let unfused : c.args.stop ≡ 0 → c.if-stop-eq0.result ≡ Off = λ none. elim c.if-stop-eq0.branch [
      | then-stop-eq0 w ↦ w.result-is
      | else-stop-eq0 w ↦ absurd (w.if-stop-eq0.false none)
    ] in
    begun_so c.args.seed _ (notary_state c.founded.new.notary) c.in_ok-post.ensures refl refl refl c.new-2.ensures.ledger c.new-2.ensures.notary c.new-3.ensures.items refl refl refl refl refl refl unfused
