use Rattle.std.proofs.Common.{sym, subst, ap, ◌∙◌, ℕ, List}
use Rattle.std.specs.Prelude.{Option}
use Rattle.std.proofs.lemmas.Result.{on_ok_weaker}
use Rattle.ledger_disk.specs.Disk.{settled_state}
use Rattle.notary_ledger.specs.Slots.{Shut, OnDisk}
use Rattle.notary_ledger.proofs.SlotLaws.{err_both, stages}
use Rattle.notary_ledger.proofs.slot.put_entry.Goals as goal

pub returns-clause-ok : goal.returns-clause-ok
returns-clause-ok g c = on_ok_weaker c.open_gate.result (λ ok told es place on.
    let s = (g.D.Disk.state c.shut_again.new.disk).bytes in
    let shut : Shut es s = c.in_ok-shut_again.ensures.ok told es place on in
    ok told es shut.gate _ place (c.in_ok-stage.ensures.ok told ∙ ap settled_state (stages es c.args.entry.now s c.args.at place (g.met.D.Disk.seen_may_be_left c.shut_again.new.disk told) shut))) c.open_gate.ensures.ok

pub returns-clause-err : goal.returns-clause-err
returns-clause-err g c = err_both c.open_gate.result _ _ _ (λ err half told es place list on.
    let s = (g.D.Disk.state c.shut_again.new.disk).bytes in
    let shut : Shut es s = c.in_ok-shut_again.ensures.ok told es place on in
    subst (λ (h : Option (List ℕ)). OnDisk es h (g.D.Disk.state c.open_gate.new.disk).bytes) (sym half)
    (err told es shut.gate _ place list (c.in_ok-stage.ensures.ok told ∙ ap settled_state (stages es c.args.entry.now s c.args.at place (g.met.D.Disk.seen_may_be_left c.shut_again.new.disk told) shut)))) c.open_gate.ensures.err c.open_gate.ensures.half
