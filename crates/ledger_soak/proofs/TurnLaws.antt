-- Jobs of a soak, and one more behind them.
use Rattle.std.specs.Prelude.{Bool, true, false}
use Rattle.std.proofs.Common.{◌≡◌, ℕ, ◌+◌, ◌*◌, ◌≤◌, List, [], ◌∷◌, ◌++◌, length, cond, refl, ap, sym, subst, ◌∙◌, arith}
use Rattle.std.proofs.lemmas.Bool.{true≢false}
use Rattle.ledger_soak.specs.Turns.{Fate, answered, kept_in_hand, lost_in_hand, Turn, Stage, IsTurn, AreTurns, next_stage, last_stage, turn_count, was_in_hand, was_stopped}

module _ (stop : ℕ) where
  pub turns_more : (s : Stage) (ts : List Turn) (t : Turn) → AreTurns stop s ts → IsTurn stop (last_stage s ts) t → AreTurns stop s (ts ++ t ∷ [])
  turns_more s [] t are one = (one, tt)
  turns_more s (u ∷ ts) t are one = (are.0, turns_more (next_stage s u) ts t are.1 one)

  -- without fuses no job was in hand at a stop
  pub none_stopped : (s : Stage) (ts : List Turn) → stop ≡ 0 → AreTurns stop s ts → turn_count was_stopped s ts ≡ 0
  none_stopped s [] none are = refl
  none_stopped s (t ∷ ts) none are =
      let one : ℕ = 1 in
      let first : cond (was_in_hand t.fate) one 0 ≡ 0 = ap (λ f. cond (was_in_hand f) one 0) (are.0.unfused none) in
      omega (arith, first, none_stopped (next_stage s t) ts none are.1)

pub last_more : (s : Stage) (ts : List Turn) (t : Turn) → last_stage s (ts ++ t ∷ []) ≡ next_stage (last_stage s ts) t
last_more s [] t = refl
last_more s (u ∷ ts) t = last_more (next_stage s u) ts t

module _ (is_so : Stage → Turn → Bool) where
  pub count_more : (s : Stage) (ts : List Turn) (t : Turn) → turn_count is_so s (ts ++ t ∷ []) ≡ turn_count is_so s ts + cond (is_so (last_stage s ts) t) 1 0
  count_more s [] t = omega arith
  count_more s (u ∷ ts) t = ap (λ n. cond (is_so s u) 1 0 + n) (count_more (next_stage s u) ts t) ∙ omega arith

  one_most : (b : Bool) → cond b 1 0 ≤ 1
  one_most true = omega arith
  one_most false = omega arith

  pub count_few : (s : Stage) (ts : List Turn) → turn_count is_so s ts ≤ length ts
  count_few s [] = omega arith
  count_few s (u ∷ ts) = omega (arith, one_most (is_so s u), count_few (next_stage s u) ts)

-- no two jobs one right behind the other were in hand at a stop, so at most every other was
few_more : (stop : ℕ) (s : Stage) (t : Turn) (ts : List Turn) → IsTurn stop s t → 2 * turn_count was_stopped (next_stage s t) ts ≤ length ts + cond (was_in_hand t.fate) 0 1
    → 2 * turn_count was_stopped s (t ∷ ts) ≤ length (t ∷ ts) + cond s.stopped 0 1
few_more stop s t ts turn rest = by_fate t.fate refl where
  free : Bool → ℕ
  free b = cond b 0 1

  fewer : ℕ
  fewer = turn_count was_stopped (next_stage s t) ts

  after : (b : Bool) → was_in_hand t.fate ≡ b → 2 * fewer ≤ length ts + cond b 0 1
  after b is = subst (λ (a : Bool). 2 * fewer ≤ length ts + cond a 0 1) is rest

  unstopped : (b : Bool) → s.stopped ≡ b → (b ≡ true → ⊥) → free s.stopped ≡ 1
  unstopped true is never = absurd (never refl)
  unstopped false is never = ap free is

  counted : (b : Bool) → was_in_hand t.fate ≡ b → turn_count was_stopped s (t ∷ ts) ≡ cond b 1 0 + fewer
  counted b is = ap (λ (a : Bool). cond a 1 0 + fewer) is

  in_hand : was_in_hand t.fate ≡ true → (t.fate ≡ answered → ⊥) → 2 * turn_count was_stopped s (t ∷ ts) ≤ length (t ∷ ts) + cond s.stopped 0 1
  in_hand is never = omega (arith, counted true is, after true is, unstopped s.stopped refl (λ stopped. never (turn.first stopped)))

  by_fate : (f : Fate) → t.fate ≡ f → 2 * turn_count was_stopped s (t ∷ ts) ≤ length (t ∷ ts) + cond s.stopped 0 1
  by_fate answered is = omega (arith, counted false (ap was_in_hand is), after false (ap was_in_hand is))
  by_fate kept_in_hand is = in_hand (ap was_in_hand is) (λ un. true≢false (sym (ap was_in_hand is) ∙ ap was_in_hand un))
  by_fate lost_in_hand is = in_hand (ap was_in_hand is) (λ un. true≢false (sym (ap was_in_hand is) ∙ ap was_in_hand un))

pub stops_few : (stop : ℕ) (s : Stage) (ts : List Turn) → AreTurns stop s ts → 2 * turn_count was_stopped s ts ≤ length ts + cond s.stopped 0 1
stops_few stop s [] are = omega arith
stops_few stop s (t ∷ ts) are = few_more stop s t ts are.0 (stops_few stop (next_stage s t) ts are.1)
