use Rattle.std.proofs.Common.{◌+◌, ap, subst, ◌∙◌}
use Rattle.ledger_soak.specs.Runs.{ComesTo}
use Rattle.ledger_soak.specs.declared.running.Asked.{Asked}
use Rattle.ledger_soak.proofs.AuditLaws.{ok_and}
use Rattle.ledger_soak.proofs.running.Run.turn.Goals as goal

pub ask-requires-clause-underway : goal.ask-requires-clause-underway
ask-requires-clause-underway g c = (c.requires.underway.0, c.armed-run.ensures.underway c.requires.underway.0 c.requires.underway.1)

pub returns-in-Answered-clause-underway : goal.returns-in-Answered-clause-underway
returns-in-Answered-clause-underway g c =
    ok_and _ _
    (λ run counted seed y.
    let e = subst (λ (a : Asked). ComesTo seed c.ask.new.self a) c.in-Answered.is (c.in_ok-asked.ensures.comes seed (c.armed-run.ensures.underway seed y)) in
    counted seed e.0 e.1)
    c.answered.result c.answered.ensures.underway

pub returns-in-InHand-clause-underway : goal.returns-in-InHand-clause-underway
returns-in-InHand-clause-underway g c =
    ok_and _ _
    (λ run counted seed y.
    let e = subst (λ (a : Asked). ComesTo seed c.ask.new.self a) c.in-InHand.is (c.in_ok-asked.ensures.comes seed (c.armed-run.ensures.underway seed y)) in
    counted seed e.0 e.1)
    c.stopped.result c.stopped.ensures.underway

pub returns-in-Answered-clause-taken : goal.returns-in-Answered-clause-taken
returns-in-Answered-clause-taken g c = ok_and _ _ (λ run is. is ∙ c.in_ok-asked.ensures.taken ∙ ap (λ n. n + 1) c.armed-run.ensures.taken) c.answered.result c.answered.ensures.taken

pub returns-in-Answered-clause-stop : goal.returns-in-Answered-clause-stop
returns-in-Answered-clause-stop g c = ok_and _ _ (λ run is. is ∙ c.in_ok-asked.ensures.stop ∙ c.armed-run.ensures.stop) c.answered.result c.answered.ensures.stop

pub returns-in-InHand-clause-taken : goal.returns-in-InHand-clause-taken
returns-in-InHand-clause-taken g c = ok_and _ _ (λ run is. is ∙ c.in_ok-asked.ensures.taken ∙ ap (λ n. n + 1) c.armed-run.ensures.taken) c.stopped.result c.stopped.ensures.taken

pub returns-in-InHand-clause-stop : goal.returns-in-InHand-clause-stop
returns-in-InHand-clause-stop g c = ok_and _ _ (λ run is. is ∙ c.in_ok-asked.ensures.stop ∙ c.armed-run.ensures.stop) c.stopped.result c.stopped.ensures.stop
