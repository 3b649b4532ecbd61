use Rattle.std.proofs.Common.{sym, subst, ap, ◌∙◌, ◌∷◌, ◌++◌, []}
use Rattle.ledger_disk.specs.Disk.{State, settled_state, overlay}
use Rattle.notary_ledger.specs.Slots.{Shut}
use Rattle.notary_ledger.proofs.SlotLaws.{opens}
use Rattle.notary_ledger.proofs.slot.open_gate.Goals as goal

pub returns-clause-ok : goal.returns-clause-ok
returns-clause-ok g c told es gate rest place is =
    subst (λ (s : State). Shut (es ++ c.args.entry.now ∷ []) s) (sym (c.in_ok-write_gate.ensures.ok told ∙ ap (λ (s : State). settled_state (overlay c.args.at (1 ∷ []) s.seen)) is))
    (opens es c.args.entry.now gate rest c.args.at place)
