-- Laws of marks that rise.
use Rattle.std.proofs.Common.{◌≡◌, ℕ, zero, suc, ◌+◌, ◌-◌, ◌<◌, ◌≤◌, Bool, true, false, List, [], ◌∷◌, ◌++◌, length, get_or, take, drop, filter, refl, sym, ap, ◌∙◌, arith, rules, cond, slice_get}
use Rattle.std.specs.List.{AllByRecursion, AllWithin}
use Rattle.std.specs.List.Sorted.{IsPartitionedBy, IsPartitionPoint}
use Rattle.std.proofs.lemmas.Bool.{cond-true, cond-false}
use Rattle.std.proofs.lemmas.List.Elements.{All-from_recursion}
use Rattle.ledger_bytes.specs.declared.mark.TimeMark.{TimeMark}
use Rattle.time_peg.specs.Times.{Rises, first_mark, last_mark}

-- a mark behind all others keeps the order
all_push : (n : ℕ) (ms : List TimeMark) (m : TimeMark) → AllByRecursion (λ k. n < k.jsn) ms → n < m.jsn → AllByRecursion (λ k. n < k.jsn) (ms ++ m ∷ [])
all_push n [] m all less = search rules
all_push n (k ∷ ms) m all less = (all.0, all_push n ms m all.1 less)

pub rises_push : (ms : List TimeMark) (m : TimeMark) → Rises ms → AllByRecursion (λ k. k.jsn < m.jsn) ms → Rises (ms ++ m ∷ [])
rises_push [] m rise low = search rules
rises_push (k ∷ ms) m rise low = (all_push k.jsn ms m rise.0 low.0, rises_push ms m rise.1 low.1)

-- so do some of them
all_filter : (p : TimeMark → Bool) (n : ℕ) (ms : List TimeMark) → AllByRecursion (λ k. n < k.jsn) ms → AllByRecursion (λ k. n < k.jsn) (filter p ms)
all_filter p n [] all = search rules
all_filter p n (m ∷ ms) all =
    let rest = all_filter p n ms all.1 in
    let by : (b : Bool) → AllByRecursion (λ k. n < k.jsn) (cond b (m ∷ filter p ms) (filter p ms)) = elim [ true ↦ (all.0, rest) | false ↦ rest ] in
    by (p m)

pub rises_filter : (p : TimeMark → Bool) (ms : List TimeMark) → Rises ms → Rises (filter p ms)
rises_filter p [] rise = search rules
rises_filter p (m ∷ ms) rise =
    let rest = rises_filter p ms rise.1 in
    let by : (b : Bool) → Rises (cond b (m ∷ filter p ms) (filter p ms)) = elim [ true ↦ (all_filter p m.jsn ms rise.0, rest) | false ↦ rest ] in
    by (p m)

-- the last of some marks stands at their end
last_at_end : (ms : List TimeMark) (i : ℕ) → i + 1 ≡ length ms → slice_get ms i ≡ last_mark ms
last_at_end [] i end = absurd (omega arith)
last_at_end (m ∷ []) zero end = refl
last_at_end (m ∷ []) (suc i) end = absurd (omega arith)
last_at_end (m ∷ k ∷ ms) zero end = absurd (omega arith)
last_at_end (m ∷ k ∷ ms) (suc i) end = last_at_end (k ∷ ms) i (omega arith)

pub last_is : (ms : List TimeMark) → slice_get ms (length ms - 1) ≡ last_mark ms
last_is [] = refl
last_is (m ∷ ms) = last_at_end (m ∷ ms) (length (m ∷ ms) - 1) (omega arith)

pub first_is : (ms : List TimeMark) → slice_get ms 0 ≡ first_mark ms
first_is [] = refl
first_is (m ∷ ms) = refl

-- what is true of a mark is true of those before it
pub partitioned : (p : TimeMark → Bool) (ms : List TimeMark) → ((a b : TimeMark) → a.jsn < b.jsn → p b ≡ true → p a ≡ true) → Rises ms → IsPartitionedBy p ms
partitioned p [] falls rise i j d before within passes = absurd (omega arith)
partitioned p (m ∷ ms) falls rise zero zero d before within passes = passes
partitioned p (m ∷ ms) falls rise zero (suc j) d before within passes =
    falls m (get_or ms j d) (All-from_recursion (λ k. m.jsn < k.jsn) ms rise.0 j d (omega arith)) passes
partitioned p (m ∷ ms) falls rise (suc i) zero d before within passes = absurd (omega arith)
partitioned p (m ∷ ms) falls rise (suc i) (suc j) d before within passes = partitioned p ms falls rise.1 i j d (omega arith) (omega arith) passes

none_in_front : (p : TimeMark → Bool) (ms : List TimeMark) → AllWithin (λ m. p m ≡ false) ms 0 (length ms) → filter p ms ≡ []
none_in_front p [] all = refl
none_in_front p (m ∷ ms) all = cond-false _ _ _ (all 0 m (omega arith) (omega arith)) ∙ none_in_front p ms (λ k d low high. all (suc k) d (omega arith) (omega arith))

pub in_front : (p : TimeMark → Bool) (ms : List TimeMark) (i : ℕ) → i ≤ length ms → IsPartitionPoint (λ m. p m ≡ true) (λ m. p m ≡ false) ms i → take i ms ≡ filter p ms
in_front p [] zero within point = refl
in_front p [] (suc i) within point = absurd (omega arith)
in_front p (m ∷ ms) zero within point = sym (none_in_front p (m ∷ ms) point.1)
in_front p (m ∷ ms) (suc i) within point =
    ap (λ rest. m ∷ rest) (in_front p ms i (omega arith) (λ k d low high. point.0 (suc k) d (omega arith) (omega arith), λ k d low high. point.1 (suc k) d (omega arith) (omega arith)))
    ∙ sym (cond-true _ _ _ (point.0 0 m (omega arith) (omega arith)))

all_behind : (p q : TimeMark → Bool) → ((m : TimeMark) → p m ≡ false → q m ≡ true) → (ms : List TimeMark) → AllWithin (λ m. p m ≡ false) ms 0 (length ms) → filter q ms ≡ ms
all_behind p q other [] all = refl
all_behind p q other (m ∷ ms) all =
    cond-true _ _ _ (other m (all 0 m (omega arith) (omega arith))) ∙ ap (λ rest. m ∷ rest) (all_behind p q other ms (λ k d low high. all (suc k) d (omega arith) (omega arith)))

pub behind : (p q : TimeMark → Bool) → ((m : TimeMark) → p m ≡ true → q m ≡ false) → ((m : TimeMark) → p m ≡ false → q m ≡ true) → (ms : List TimeMark) (i : ℕ) → i ≤ length ms
    → IsPartitionPoint (λ m. p m ≡ true) (λ m. p m ≡ false) ms i → drop i ms ≡ filter q ms
behind p q one other [] zero within point = refl
behind p q one other [] (suc i) within point = absurd (omega arith)
behind p q one other (m ∷ ms) zero within point = sym (all_behind p q other (m ∷ ms) point.1)
behind p q one other (m ∷ ms) (suc i) within point =
    behind p q one other ms i (omega arith) (λ k d low high. point.0 (suc k) d (omega arith) (omega arith), λ k d low high. point.1 (suc k) d (omega arith) (omega arith))
    ∙ sym (cond-false _ _ _ (one m (point.0 0 m (omega arith) (omega arith))))
