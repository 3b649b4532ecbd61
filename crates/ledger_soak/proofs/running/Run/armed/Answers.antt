use Rattle.std.proofs.Common.{refl}
use Rattle.std.proofs.lemmas.Bool.{true≢false}
use Rattle.ledger_soak.proofs.GlueLaws.{armed_so}
use Rattle.ledger_soak.proofs.running.Run.armed.Goals as goal

pub returns-then-eq-clause-underway : goal.returns-then-eq-clause-underway
returns-then-eq-clause-underway c =
    λ seed x. armed_so seed c.args.self x _ refl c.with_fuses.ensures.same c.with_fuses.ensures.ended refl refl refl refl refl refl refl refl refl refl
    (λ off. absurd (true≢false (rw off at c.if-eq.ensures)))
