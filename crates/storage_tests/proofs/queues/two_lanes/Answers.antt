use Rattle.std.proofs.Common.{◌≡◌, List, [], ◌∷◌, ◌++◌, length, length-append, arith, ap, ◌∙◌, refl, subst, vec_items}
use Rattle.intake_queue.specs.declared.intake.LanePass.{LanePass}
use Rattle.storage_tests.specs.declared.queues.Slip.{Slip}
use Rattle.intake_queue.specs.Lanes.{Plan, plan_of, taker}
use Rattle.intake_queue.specs.Passes.{AreNew}
use Rattle.storage_tests.proofs.queues.two_lanes.Goals as goal

-- a list of two ends with both
two : {X : Type 0} (xs front : List X) (a b : X) → length xs ≡ 2 → xs ≡ (front ++ a ∷ []) ++ b ∷ [] → xs ≡ a ∷ b ∷ []
two xs [] a b long e = e
two xs (x ∷ front) a b long e =
    let l = ap length e in
    let m = length-append (x ∷ (front ++ a ∷ [])) (b ∷ []) in
    let n = length-append front (a ∷ []) in
    absurd (omega (arith, long, l, m, n))

planned : plan_of (1 ∷ 5 ∷ []) (2 ∷ 1 ∷ []) ≡ (1, 2) ∷ (5, 1) ∷ []
unfolding plan_of
planned = refl

pub returns-clause-first : goal.returns-clause-first
returns-clause-first c =
    let lanes : List (LanePass Slip) = vec_items c.in_ok-intake.lanes in
    let first = c.in-Some-Some.first in
    let second = c.in-Some-Some.second in
    let whole = c.in-Some-Some.ensures.items ∙ ap (λ (l : List (LanePass Slip)). l ++ second ∷ []) c.in-Some-Some.ensures'.items in
    let pair = two lanes _ first second c.in_ok-intake.ensures.lanes.0 whole in
    subst (λ (y : Plan × List (LanePass Slip)). AreNew c.in_ok-intake.intake y.0 y.1) (λ i. (planned i, pair i)) c.in_ok-intake.ensures.lanes.1 0 first (omega arith)

pub returns-clause-second : goal.returns-clause-second
returns-clause-second c =
    let lanes : List (LanePass Slip) = vec_items c.in_ok-intake.lanes in
    let first = c.in-Some-Some.first in
    let second = c.in-Some-Some.second in
    let whole = c.in-Some-Some.ensures.items ∙ ap (λ (l : List (LanePass Slip)). l ++ second ∷ []) c.in-Some-Some.ensures'.items in
    let pair = two lanes _ first second c.in_ok-intake.ensures.lanes.0 whole in
    subst (λ (y : Plan × List (LanePass Slip)). AreNew c.in_ok-intake.intake y.0 y.1) (λ i. (planned i, pair i)) c.in_ok-intake.ensures.lanes.1 1 second (omega arith)

pub returns-clause-taker : goal.returns-clause-taker
returns-clause-taker c = (c.in_ok-intake.ensures.taker.0, c.in_ok-intake.ensures.taker.1 ∙ ap (λ (p : Plan). taker p [] 2 []) planned)
