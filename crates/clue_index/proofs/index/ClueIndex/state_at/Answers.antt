use Rattle.std.proofs.Common.{◌≡◌, ◌∷◌, [], map, arith, sym, ap, subst, ◌∙◌, rules}
use Rattle.std.proofs.lemmas.List.{map-append, length-append}
use Rattle.std.proofs.lemmas.Map.Iter.{iter_end}
use Rattle.std.specs.Map.Iter.{deref_pair}
use Rattle.clue_index.specs.Added.{begun_states}
use Rattle.clue_index.specs.Index.{StandsForTrails}
use Rattle.clue_index.proofs.StateLaws.{Fit, states_of, states_told, state_pushed, state_passed}
use Rattle.clue_index.proofs.index.ClueIndex.state_at.Goals as goal

pub loop-clue-preserved-in-Continue-1 : goal.loop-clue-preserved-in-Continue-1
loop-clue-preserved-in-Continue-1 c = (
  search (arith, c.loop-clue.invariant.0, length-append),
  λ fit.
      let e = c.state_below-state.ensures in
      let more = map-append deref_pair c.loop-clue.yielded ((c.in-Some.clue, c.in-Some.slot) ∷ []) in
      state_pushed c.args.p (map deref_pair c.loop-clue.yielded) c.in-Some.clue.now c.in-Some.slot.now c.state_below-state.result _ _ c.loop-clue.invariant.1 e.clue e.count e.last c.if-state-gt0.true c.in_ok-push.ensures.items (subst (Fit c.args.p) more fit)
      ∙ ap (λ es. begun_states (states_of c.args.p es)) (sym more),
)

pub loop-clue-preserved : goal.loop-clue-preserved
loop-clue-preserved c = (
  search (arith, c.loop-clue.invariant.0, length-append),
  λ fit.
      let e = c.state_below-state.ensures in
      let more = map-append deref_pair c.loop-clue.yielded ((c.in-Some.clue, c.in-Some.slot) ∷ []) in
      state_passed c.args.p (map deref_pair c.loop-clue.yielded) c.in-Some.clue.now c.in-Some.slot.now c.state_below-state.result _ c.loop-clue.invariant.1 e.clue e.count e.last c.if-state-gt0.false (subst (Fit c.args.p) more fit)
      ∙ ap (λ es. begun_states (states_of c.args.p es)) (sym more),
)

pub returns-clause-states : goal.returns-clause-states
returns-clause-states c a st le fits =
    let st' = subst (λ k. StandsForTrails k a) (sym c.self.view_is) st in
    let all : map deref_pair c.loop-clue.yielded ≡ c.self.inside.slots.entries = search (rules, iter_end) in
    states_told _ a c.args.p c.loop-clue.states.items st' le fits c.iter-clue-items.ensures.ordered c.iter-clue-items.ensures.found
    (λ fit. c.loop-clue.invariant.1 (subst (Fit c.args.p) (sym all) fit) ∙ ap (λ es. begun_states (states_of c.args.p es)) all)
