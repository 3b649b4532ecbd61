use Rattle.std.proofs.Common.{◌≡◌, List, [], ℕ, cond, take, get_or, ap, length, arith, refl, sym, subst, ◌∙◌, Some}
use Rattle.std.proofs.lemmas.List.{take_more}
use Rattle.clue_index.specs.Added.{added_at_first}
use Rattle.clue_index.specs.declared.state.ClueState.{ClueState}
use Rattle.clue_index.specs.Index.{StandsForTrails, trail_in}
use Rattle.clue_index.proofs.IndexLaws.{stands_empty, stands_begun}
use Rattle.clue_index.proofs.TableLaws.{tie, trail_from}
use Rattle.clue_index.proofs.index.ClueIndex.from_states.Goals as goal

pub loop-state-init : goal.loop-state-init
loop-state-init c = (omega (arith, ap length c.new-slots.ensures.empty), λ named. stands_empty _ refl c.new-slots.ensures.empty)

pub loop-state-preserved : goal.loop-state-preserved
loop-state-preserved c = (
  search (arith, c.loop-state.invariant.0, c.in_ok-insert.ensures.len),
  λ named.
      let states = c.args.states.now in
      let i = c.loop-state.state-index in
      let none : ClueState = record { clue = record { 0 = [] }; count = 0; last = 0 } in
      let s : ClueState = get_or states i none in
      let trails : (q : List ℕ) → trail_in q c.insert.new.self.entries ≡ cond (tie s.clue.0 q) (Some (trail_from s)) (trail_in q c.loop-state.slots.entries) =
      λ q. c.in_ok-insert.ensures.updates.0 q ∙ ap (λ t. cond (tie s.clue.0 q) (Some t) (trail_in q c.loop-state.slots.entries)) c.of_state.ensures in
      subst (λ xs. StandsForTrails (record { trails = c.insert.new.self.entries; floor = 0 }) (added_at_first xs)) (sym (take_more states i none c.loop-state-test.true))
      (stands_begun (record { trails = c.loop-state.slots.entries; floor = 0 }) _ (take i states) s refl trails (c.loop-state.invariant.1 named) (named i none c.loop-state-test.true)),
)
