use Rattle.std.proofs.Common.{rules, arith, sym, subst, ap, ◌∙◌, ◌≡◌, ◌∷◌, [], length}
use Rattle.std.proofs.lemmas.Result.{on_ok_weaker}
use Rattle.ledger_disk.specs.Disk.{State, settled_state, overlay}
use Rattle.notary_ledger.specs.Slots.{Shut}
use Rattle.notary_ledger.proofs.OpenLaws.{tail_shut, lists_short, lists_outside, inside_of, none_long, some_same}
use Rattle.notary_ledger.proofs.SlotLaws.{err_both}
use Rattle.ledger_disk.specs.Guards.{Confined}
use Rattle.ledger_disk.proofs.Confining.{confined_image, confined_settled}
use Rattle.std.proofs.Common.{inl, inr}
use Rattle.notary_ledger.proofs.open.shut_tail.Goals as goal

pub returns-clause-ok : goal.returns-clause-ok
returns-clause-ok g c = on_ok_weaker c.write_gate.result (λ ok told quiet es place lists.
    subst (λ (s : State). Shut es s) (sym (ok told ∙ ap (λ (s : State). settled_state (overlay c.args.at (0 ∷ []) s.seen)) (c.is_shut.ensures.state told)))
    (tail_shut es (g.D.Disk.state c.args.disk.now).bytes.seen c.args.at place lists)) c.write_gate.ensures.ok

pub returns-clause-err : goal.returns-clause-err
returns-clause-err g c = err_both c.write_gate.result _ _ _ (λ err short told image quiet es place lists left.
    let seen = (g.D.Disk.state c.args.disk.now).bytes.seen in
    let size : length seen ≡ c.args.len = some_same _ _ _ (g.met.D.Disk.length_is c.args.disk.now told) c.requires.told in
    let same = c.is_shut.ensures.state told ∙ quiet in
    elim (c.in_ok-is_shut.ensures.open_ (search rules)) [
      | inl none ↦
          let empty : length seen ≡ 0 = omega (arith, size, none) in
          lists_short es seen image lists empty (omega (arith, short told image (same ∙ ap settled_state (none_long seen empty)) left, c.requires.within, none))
      | inr gate ↦
          let long = inside_of seen c.args.at (gate told) in
          lists_outside es seen image c.args.at place lists (gate told) long
          (confined_image c.args.at 1 seen _ image (err told seen long (subst (λ (s : State). Confined c.args.at 1 seen s) (sym same) (confined_settled c.args.at 1 seen))) left)
    ])
    c.write_gate.ensures.err c.write_gate.ensures.short
