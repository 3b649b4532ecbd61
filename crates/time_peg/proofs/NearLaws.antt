-- The bounds are the nearest marks.
use Rattle.std.proofs.Common.{◌≡◌, inl, inr, ℕ, ◌<◌, ◌≤◌, Bool, true, false, cond, List, [], ◌∷◌, refl, sym, subst, arith, Option, Some, None, nat_lt}
use Rattle.std.specs.List.{AllByRecursion}
use Rattle.std.proofs.lemmas.Bool.{ltb-true, ltb-false}
use Rattle.ledger_bytes.specs.declared.mark.TimeMark.{TimeMark}
use Rattle.time_peg.specs.Times.{Rises, first_mark, last_mark, marks_before, marks_behind, lower_bound, upper_bound, IsOneOf, IsNearestBefore, IsNearestBehind}

all_map : (P Q : TimeMark → Type 0) → ((m : TimeMark) → P m → Q m) → (ms : List TimeMark) → AllByRecursion P ms → AllByRecursion Q ms
all_map P Q f [] all = all
all_map P Q f (m ∷ ms) all = (f m all.0, all_map P Q f ms all.1)

all_has : (P : TimeMark → Type 0) (b : TimeMark) (ms : List TimeMark) → AllByRecursion P ms → IsOneOf b ms → P b
all_has P b [] all has = absurd has
all_has P b (m ∷ ms) all (inl same) = subst P (sym same) all.0
all_has P b (m ∷ ms) all (inr more) = all_has P b ms all.1 more

last_some : (k : TimeMark) (ks : List TimeMark) → last_mark (k ∷ ks) ≡ None → ⊥
last_some k [] is = cc
last_some k (j ∷ ks) is = last_some j ks is

before_more : (n : ℕ) (m : TimeMark) (ms : List TimeMark) (o : Option TimeMark) → (o ≡ None → ⊥) → AllByRecursion (λ k. m.jsn < k.jsn) ms → IsNearestBefore n ms o → IsNearestBefore n (m ∷ ms) o
before_more n m ms None some rise near = absurd (some refl)
before_more n m ms (Some b) some rise near =
    let less : m.jsn < b.jsn = all_has (λ k. m.jsn < k.jsn) b ms rise near.0 in
    (inr near.0, near.1, ((λ low. omega (arith, less)), near.2))

before_true : (n : ℕ) (m : TimeMark) (ms fs : List TimeMark) → m.jsn < n → AllByRecursion (λ k. m.jsn < k.jsn) ms → IsNearestBefore n ms (last_mark fs) → IsNearestBefore n (m ∷ ms) (last_mark (m ∷ fs))
before_true n m ms [] less rise near = (inl refl, less, ((λ low. omega arith), all_map (λ k. n ≤ k.jsn) (λ k. k.jsn < n → k.jsn ≤ m.jsn) (λ k high low. absurd (omega (arith, high, low))) ms near))
before_true n m ms (f ∷ fs) less rise near = before_more n m ms (last_mark (f ∷ fs)) (last_some f fs) rise near

before_false : (n : ℕ) (m : TimeMark) (ms : List TimeMark) (o : Option TimeMark) → n ≤ m.jsn → IsNearestBefore n ms o → IsNearestBefore n (m ∷ ms) o
before_false n m ms None high near = (high, near)
before_false n m ms (Some b) high near = (inr near.0, near.1, ((λ low. absurd (omega (arith, high, low))), near.2))

pub nearest_before : (n : ℕ) (ms : List TimeMark) → Rises ms → IsNearestBefore n ms (lower_bound n ms)
nearest_before n [] rise = rise
nearest_before n (m ∷ ms) rise = by (nearest_before n ms rise.1) (nat_lt m.jsn n) refl
  where
    by : IsNearestBefore n ms (lower_bound n ms) → (b : Bool) → nat_lt m.jsn n ≡ b → IsNearestBefore n (m ∷ ms) (last_mark (cond b (m ∷ marks_before n ms) (marks_before n ms)))
    by near true is = before_true n m ms (marks_before n ms) (ltb-true m.jsn n is) rise.0 near
    by near false is = before_false n m ms (last_mark (marks_before n ms)) (ltb-false m.jsn n is) near

behind_false : (n : ℕ) (m : TimeMark) (ms : List TimeMark) (o : Option TimeMark) → m.jsn ≤ n → IsNearestBehind n ms o → IsNearestBehind n (m ∷ ms) o
behind_false n m ms None low near = (low, near)
behind_false n m ms (Some b) low near = (inr near.0, near.1, ((λ high. absurd (omega (arith, high, low))), near.2))

pub nearest_behind : (n : ℕ) (ms : List TimeMark) → Rises ms → IsNearestBehind n ms (upper_bound n ms)
nearest_behind n [] rise = rise
nearest_behind n (m ∷ ms) rise = by (nearest_behind n ms rise.1) (nat_lt n m.jsn) refl
  where
    by : IsNearestBehind n ms (upper_bound n ms) → (b : Bool) → nat_lt n m.jsn ≡ b → IsNearestBehind n (m ∷ ms) (first_mark (cond b (m ∷ marks_behind n ms) (marks_behind n ms)))
    by near true is = (inl refl, ltb-true n m.jsn is, ((λ high. omega arith), all_map (λ k. m.jsn < k.jsn) (λ k. n < k.jsn → m.jsn ≤ k.jsn) (λ k less high. omega (arith, less)) ms rise.0))
    by near false is = behind_false n m ms (first_mark (marks_behind n ms)) (ltb-false n m.jsn is) near
