use Rattle.std.proofs.Common.{arith, sym, subst, ap, ◌∙◌, ◌≡◌, ◌+◌, ◌*◌, ℕ, List}
use Rattle.ledger_disk.specs.Disk.{State, settled_state}
use Rattle.notary_ledger.specs.Slots.{Lists, tail_of}
use Rattle.notary_ledger.proofs.LocalLaws.{tail_length, more_told}
use Rattle.notary_ledger.proofs.SlotLaws.{on_err}
use Rattle.notary_ledger.proofs.UniqueLaws.{lists_unique}
use Rattle.notary_ledger.proofs.open.load.Goals as goal

pub returns-clause-sound : goal.returns-clause-sound
returns-clause-sound g c =
    let es = c.in_ok-list.list.entries in
    let list = c.in_ok-list.ensures.list in
    let place : tail_of es ≡ 73 * c.len-2.result = tail_length es list.widths ∙ ap (λ n. 73 * n) (sym c.len-2.ensures) in
    record {
      list = list;
      told = more_told _ (tail_of es + 1) (73 * c.len-2.result + 1) (omega (arith, place)) c.in_ok-shut_tail.ensures.told;
      on_disk = λ told.
          let settled_is = c.read_slots.ensures.state told ∙ (c.len.ensures.state told ∙ c.in_ok-sync.ensures.ok told) in
          c.in_ok-shut_tail.ensures.ok told (settled_is ∙ ap (λ (s : State). settled_state s.seen) (sym settled_is)) es place
          (subst (λ (s : State). Lists es s.seen) (sym (c.read_slots.ensures.state told)) (c.in_ok-list.ensures.lists told));
    }

pub returns-in_err-shut_tail-clause-err : goal.returns-in_err-shut_tail-clause-err
returns-in_err-shut_tail-clause-err g c = on_err c.from_residual-in_err-shut_tail.result _ (λ told image left.
    let seen = (g.D.Disk.state c.args.disk.now).bytes.seen in
    let es = c.in_ok-list.list.entries in
    let list = c.in_ok-list.ensures.list in
    let place : tail_of es ≡ 73 * c.len-2.result = tail_length es list.widths ∙ ap (λ n. 73 * n) (sym c.len-2.ensures) in
    let first = c.len.ensures.state told ∙ c.in_ok-sync.ensures.ok told in
    let settled_is = c.read_slots.ensures.state told ∙ first in
    let lists : Lists es seen = subst (λ (s : State). Lists es s.seen) first (c.in_ok-list.ensures.lists told) in
    let kept : Lists es image = c.in_err-shut_tail.ensures.err told image (settled_is ∙ ap (λ (s : State). settled_state s.seen) (sym settled_is)) es place
    (subst (λ (s : State). Lists es s.seen) (sym settled_is) lists) left in
    (seen, g.met.D.Disk.seen_may_be_left c.args.disk.now told, λ fs l. subst (λ (k : List (List ℕ)). Lists k image) (lists_unique es fs seen lists l) kept))
