-- Laws of a clue's journals.
use Rattle.std.proofs.Common.{◌≡◌, ℕ, zero, suc, ◌+◌, ◌-◌, ◌<◌, ◌≤◌, Bool, true, false, List, [], ◌∷◌, ◌++◌, length, get_or, take, drop, filter, refl, sym, ap, subst, ◌∙◌, arith, ⊎_elim, cond, Some, slice_get, nat_lt, nat_le}
use Rattle.std.specs.List.{AllByRecursion, AllWithin}
use Rattle.std.specs.List.Sorted.{IsPartitionedBy, IsPartitionPoint}
use Rattle.std.proofs.lemmas.Bool.{cond-true, cond-false, lt-ltb, ltb-true, ltb-false, le-leb, lt-leb, le-ltb, leb-true, cases_lt}
use Rattle.std.proofs.lemmas.List.Elements.{All-from_recursion, filter-append}
use Rattle.std.proofs.lemmas.List.{append-nil}
use Rattle.clue_index.specs.Trail.{Trail, last_from, count_of, last_of, below, seen_from, grown_trail, Ascends}

-- what is behind some numbers is their last
pub last_from-push : (last : ℕ) (ns : List ℕ) (n : ℕ) → last_from last (ns ++ n ∷ []) ≡ n
last_from-push last [] n = refl
last_from-push last (m ∷ ns) n = last_from-push m ns n

last_from_end : (last : ℕ) (ns : List ℕ) (n i : ℕ) → i + 1 ≡ length ns → slice_get ns i ≡ Some n → last_from last ns ≡ n
last_from_end last [] n i end is = absurd (omega arith)
last_from_end last (m ∷ []) n zero end is = cc
last_from_end last (m ∷ []) n (suc i) end is = absurd (omega arith)
last_from_end last (m ∷ k ∷ ns) n zero end is = absurd (omega arith)
last_from_end last (m ∷ k ∷ ns) n (suc i) end is = last_from_end m (k ∷ ns) n i (omega arith) is

-- the last of some numbers is the one at their end
pub last_from_at : (last : ℕ) (ms ns : List ℕ) (n : ℕ) → ms ≡ ns → Some n ≡ slice_get ms (length ms - 1) → last_from last ns ≡ n
last_from_at last ms [] n same is = cc (ap (λ xs. slice_get xs (length xs - 1)) same)
last_from_at last ms (m ∷ ns) n same is =
    let end : (length (m ∷ ns) - 1) + 1 ≡ length (m ∷ ns) = omega arith in
    last_from_end last (m ∷ ns) n (length (m ∷ ns) - 1) end (subst (λ xs. slice_get xs (length xs - 1) ≡ Some n) same (sym is))

-- of numbers that ascend, none below p stands behind one that isn't
pub partitioned : (p : ℕ) (ns : List ℕ) → Ascends ns → IsPartitionedBy (λ n. nat_lt n p) ns
partitioned p [] rise i j d before within passes = absurd (omega arith)
partitioned p (n ∷ ns) rise zero zero d before within passes = passes
partitioned p (n ∷ ns) rise zero (suc j) d before within passes =
    let above : n < get_or ns j d = All-from_recursion (λ m. n < m) ns rise.0 j d (omega arith) in
    let low : get_or ns j d < p = ltb-true (get_or ns j d) p passes in
    lt-ltb n p (omega arith)
partitioned p (n ∷ ns) rise (suc i) zero d before within passes = absurd (omega arith)
partitioned p (n ∷ ns) rise (suc i) (suc j) d before within passes =
    partitioned p ns rise.1 i j d (omega arith) (omega arith) passes

-- numbers that are all at or above p are kept from p on
kept_whole : (p : ℕ) (ns : List ℕ) → AllWithin (λ n. nat_lt n p ≡ false) ns 0 (length ns) → filter (λ n. nat_le p n) ns ≡ ns
kept_whole p [] all = refl
kept_whole p (n ∷ ns) all =
    let first = le-leb p n (ltb-false n p (all 0 0 (omega arith) (omega arith))) in
    cond-true _ _ _ first ∙ ap (λ rest. n ∷ rest) (kept_whole p ns (λ k d low high. all (suc k) d (omega arith) (omega arith)))

-- behind the place below which numbers are below p stand those that are kept from p on
pub kept_behind : (p : ℕ) (ns : List ℕ) (i : ℕ) → i ≤ length ns
    → IsPartitionPoint (λ n. nat_lt n p ≡ true) (λ n. nat_lt n p ≡ false) ns i → drop i ns ≡ filter (λ n. nat_le p n) ns
kept_behind p [] zero within point = refl
kept_behind p [] (suc i) within point = absurd (omega arith)
kept_behind p (n ∷ ns) zero within point = sym (kept_whole p (n ∷ ns) point.1)
kept_behind p (n ∷ ns) (suc i) within point =
    let first = lt-leb p n (ltb-true n p (point.0 0 0 (omega arith) (omega arith))) in
    kept_behind p ns i (omega arith) (λ k d low high. point.0 (suc k) d (omega arith) (omega arith), λ k d low high. point.1 (suc k) d (omega arith) (omega arith))
    ∙ sym (cond-false _ _ _ first)

-- numbers of which none is below p
none_early : (p : ℕ) (ns : List ℕ) → AllWithin (λ n. nat_lt n p ≡ false) ns 0 (length ns) → filter (λ n. nat_lt n p) ns ≡ []
none_early p [] all = refl
none_early p (n ∷ ns) all =
    cond-false _ _ _ (all 0 0 (omega arith) (omega arith)) ∙ none_early p ns (λ k d low high. all (suc k) d (omega arith) (omega arith))

-- in front of the place below which numbers are below p stand all that are
pub early_in_front : (p : ℕ) (ns : List ℕ) (i : ℕ) → i ≤ length ns
    → IsPartitionPoint (λ n. nat_lt n p ≡ true) (λ n. nat_lt n p ≡ false) ns i → take i ns ≡ filter (λ n. nat_lt n p) ns
early_in_front p [] zero within point = refl
early_in_front p [] (suc i) within point = absurd (omega arith)
early_in_front p (n ∷ ns) zero within point = sym (none_early p (n ∷ ns) point.1)
early_in_front p (n ∷ ns) (suc i) within point =
    ap (λ rest. n ∷ rest) (early_in_front p ns i (omega arith) (λ k d low high. point.0 (suc k) d (omega arith) (omega arith), λ k d low high. point.1 (suc k) d (omega arith) (omega arith)))
    ∙ sym (cond-true _ _ _ (point.0 0 0 (omega arith) (omega arith)))

-- each number is below p, or kept from p on
lengths_split : (p : ℕ) (ns : List ℕ) → length (filter (λ n. nat_lt n p) ns) + length (filter (λ n. nat_le p n) ns) ≡ length ns
lengths_split p [] = refl
lengths_split p (n ∷ ns) =
    ⊎_elim (λ low. let yes = lt-ltb n p low in let no = lt-leb p n low in rw (yes, no) (omega (arith, lengths_split p ns)))
    (λ high. let no = le-ltb n p high in let yes = le-leb p n high in rw (no, yes) (omega (arith, lengths_split p ns)))
    (cases_lt n p)

-- all numbers pass a test that all pass
filter_whole : (test : ℕ → Bool) (ns : List ℕ) → AllByRecursion (λ n. test n ≡ true) ns → filter test ns ≡ ns
filter_whole test [] all = refl
filter_whole test (n ∷ ns) all = cond-true _ _ _ all.0 ∙ ap (λ rest. n ∷ rest) (filter_whole test ns all.1)

-- none passes that none passes
filter_none : (test : ℕ → Bool) (ns : List ℕ) → AllByRecursion (λ n. test n ≡ false) ns → filter test ns ≡ []
filter_none test [] all = refl
filter_none test (n ∷ ns) all = cond-false _ _ _ all.0 ∙ filter_none test ns all.1

weaker : (P Q : ℕ → Type 0) → ((n : ℕ) → P n → Q n) → (ns : List ℕ) → AllByRecursion P ns → AllByRecursion Q ns
weaker P Q from [] all = tt
weaker P Q from (n ∷ ns) all = (from n all.0, weaker P Q from ns all.1)

-- the last of numbers that ascend is the last of those from p on, or else of those below
last_from_split : (p last : ℕ) (ns : List ℕ) → Ascends ns
    → last_from (last_from last (filter (λ n. nat_lt n p) ns)) (filter (λ n. nat_le p n) ns) ≡ last_from last ns
last_from_split p last [] rise = refl
last_from_split p last (n ∷ ns) rise =
    ⊎_elim (λ low. let yes = lt-ltb n p low in let no = lt-leb p n low in rw (yes, no) (last_from_split p n ns rise.1))
    (λ high.
    let above = weaker (λ m. n < m) (λ m. p ≤ m) (λ m more. omega arith) ns rise.0 in
    let none : filter (λ n. nat_lt n p) (n ∷ ns) ≡ [] =
    filter_none (λ n. nat_lt n p) (n ∷ ns) (le-ltb n p high, weaker (λ m. p ≤ m) (λ m. nat_lt m p ≡ false) (λ m le. le-ltb m p le) ns above) in
    let whole : filter (λ n. nat_le p n) (n ∷ ns) ≡ n ∷ ns =
    filter_whole (λ n. nat_le p n) (n ∷ ns) (le-leb p n high, weaker (λ m. p ≤ m) (λ m. nat_le p m ≡ true) (λ m le. le-leb p m le) ns above) in
    ap (λ ms. last_from (last_from last ms) (filter (λ n. nat_le p n) (n ∷ ns))) none ∙ ap (last_from last) whole)
    (cases_lt n p)

-- filters change places
filters_swap : (t u : ℕ → Bool) (ns : List ℕ) → filter t (filter u ns) ≡ filter u (filter t ns)
filters_swap t u [] = refl
filters_swap t u (n ∷ ns) =
    elim (t n) as (λ b. t n ≡ b → filter t (cond (u n) (n ∷ filter u ns) (filter u ns)) ≡ filter u (cond b (n ∷ filter t ns) (filter t ns))) [
      | true ↦ λ is. elim (u n) as (λ d. u n ≡ d → filter t (cond d (n ∷ filter u ns) (filter u ns)) ≡ cond d (n ∷ filter u (filter t ns)) (filter u (filter t ns))) [
        | true ↦ λ _. cond-true _ _ _ is ∙ ap (λ rest. n ∷ rest) (filters_swap t u ns)
        | false ↦ λ _. filters_swap t u ns
      ] refl
      | false ↦ λ is. elim (u n) as (λ d. filter t (cond d (n ∷ filter u ns) (filter u ns)) ≡ filter u (filter t ns)) [
        | true ↦ cond-false _ _ _ is ∙ filters_swap t u ns
        | false ↦ filters_swap t u ns
      ]
    ] refl

-- where whatever passes one test passes another, the other takes nothing away
filter_weaker : (t u : ℕ → Bool) → ((n : ℕ) → t n ≡ true → u n ≡ true) → (ns : List ℕ) → filter t (filter u ns) ≡ filter t ns
filter_weaker t u from [] = refl
filter_weaker t u from (n ∷ ns) =
    elim (t n) as (λ b. t n ≡ b → filter t (cond (u n) (n ∷ filter u ns) (filter u ns)) ≡ cond b (n ∷ filter t ns) (filter t ns)) [
      | true ↦ λ is. ap (filter t) (cond-true _ _ _ (from n is)) ∙ (cond-true _ _ _ is ∙ ap (λ rest. n ∷ rest) (filter_weaker t u from ns))
      | false ↦ λ is. elim (u n) as (λ d. filter t (cond d (n ∷ filter u ns) (filter u ns)) ≡ filter t ns) [
        | true ↦ cond-false _ _ _ is ∙ filter_weaker t u from ns
        | false ↦ filter_weaker t u from ns
      ]
    ] refl

pub all_filter : (P : ℕ → Type 0) (t : ℕ → Bool) (ns : List ℕ) → AllByRecursion P ns → AllByRecursion P (filter t ns)
all_filter P t [] all = tt
all_filter P t (n ∷ ns) all =
    elim (t n) as (λ b. AllByRecursion P (cond b (n ∷ filter t ns) (filter t ns))) [ true ↦ (all.0, all_filter P t ns all.1) | false ↦ all_filter P t ns all.1 ]

-- what is left of numbers that ascend ascends
pub Ascends-filter : (t : ℕ → Bool) (ns : List ℕ) → Ascends ns → Ascends (filter t ns)
Ascends-filter t [] rise = tt
Ascends-filter t (n ∷ ns) rise =
    elim (t n) as (λ b. Ascends (cond b (n ∷ filter t ns) (filter t ns))) [ true ↦ (all_filter (λ m. n < m) t ns rise.0, Ascends-filter t ns rise.1) | false ↦ Ascends-filter t ns rise.1 ]

-- a number above all may stand behind them
pub Ascends-push : (ns : List ℕ) (n : ℕ) → Ascends ns → AllByRecursion (λ m. m < n) ns → Ascends (ns ++ n ∷ [])
Ascends-push [] n rise above = (tt, tt)
Ascends-push (m ∷ ns) n rise above = (all_push (λ k. m < k) ns n rise.0 above.0, Ascends-push ns n rise.1 above.1) where
  all_push : (P : ℕ → Type 0) (ks : List ℕ) (k : ℕ) → AllByRecursion P ks → P k → AllByRecursion P (ks ++ k ∷ [])
  all_push P [] k all one = (one, tt)
  all_push P (j ∷ ks) k all one = (all.0, all_push P ks k all.1 one)

-- the count doesn't depend on where the journals are looked at from
pub count_seen : (p : ℕ) (t : Trail) → count_of (seen_from p t) ≡ count_of t
count_seen p t = omega (arith, lengths_split p t.jsns)

-- nor does the last number, where the numbers ascend
pub last_seen : (p : ℕ) (t : Trail) → Ascends t.jsns → last_of (seen_from p t) ≡ last_of t
last_seen p t rise = last_from_split p t.last t.jsns rise

-- what is seen from a later journal is seen behind an earlier one
pub seen_later : (p q : ℕ) (t : Trail) → p ≤ q → Ascends t.jsns → seen_from q (seen_from p t) ≡ seen_from q t
seen_later p q t le rise =
    let ns = t.jsns in
    let low : ℕ → Bool = λ n. nat_lt n q in
    let kept : ℕ → Bool = λ n. nat_le p n in
    let early : filter (λ n. nat_lt n p) (filter low ns) ≡ filter (λ n. nat_lt n p) ns =
    filter_weaker (λ n. nat_lt n p) low (λ n is. lt-ltb n q (let less = ltb-true n p is in omega arith)) ns in
    let swapped = filters_swap low kept ns in
    let late : filter (λ n. nat_le q n) (filter kept ns) ≡ filter (λ n. nat_le q n) ns =
    filter_weaker (λ n. nat_le q n) kept (λ n is. le-leb p n (let less = leb-true q n is in omega arith)) ns in
    let counts : (t.count + length (filter (λ n. nat_lt n p) ns)) + length (filter low (filter kept ns)) ≡ t.count + length (filter low ns) =
    rw (swapped, ← early) (omega (arith, lengths_split p (filter low ns))) in
    let lasts : last_from (last_from t.last (filter (λ n. nat_lt n p) ns)) (filter low (filter kept ns)) ≡ last_from t.last (filter low ns) =
    rw (swapped, ← early) (last_from_split p t.last (filter low ns) (Ascends-filter low ns rise)) in
    λ i. record { count = counts i; last = lasts i; jsns = late i }

-- a journal from p on is seen from p
pub seen_grown : (p jsn : ℕ) (t : Trail) → p ≤ jsn → seen_from p (grown_trail jsn t) ≡ grown_trail jsn (seen_from p t)
seen_grown p jsn t le =
    let low : filter (λ n. nat_lt n p) (t.jsns ++ jsn ∷ []) ≡ filter (λ n. nat_lt n p) t.jsns =
    filter-append (λ n. nat_lt n p) t.jsns (jsn ∷ []) ∙ (ap (λ more. filter (λ n. nat_lt n p) t.jsns ++ more) (cond-false _ _ _ (le-ltb jsn p le)) ∙ append-nil _) in
    let kept : filter (λ n. nat_le p n) (t.jsns ++ jsn ∷ []) ≡ filter (λ n. nat_le p n) t.jsns ++ jsn ∷ [] =
    filter-append (λ n. nat_le p n) t.jsns (jsn ∷ []) ∙ ap (λ more. filter (λ n. nat_le p n) t.jsns ++ more) (cond-true _ _ _ (le-leb p jsn le)) in
    λ i. record { count = t.count + length (low i); last = last_from t.last (low i); jsns = kept i }

-- numbers of which those from p on are below jsn, where p is at most jsn, are all below it
pub all_below : (p jsn : ℕ) (ns : List ℕ) → p ≤ jsn → AllByRecursion (λ n. n < jsn) (filter (λ n. nat_le p n) ns) → AllByRecursion (λ n. n < jsn) ns
all_below p jsn [] le all = tt
all_below p jsn (n ∷ ns) le all =
    ⊎_elim (λ low. let no = lt-leb p n low in
    let rest = subst (λ b. AllByRecursion (λ n. n < jsn) (cond b (n ∷ filter (λ n. nat_le p n) ns) (filter (λ n. nat_le p n) ns))) no all in
    (omega arith, all_below p jsn ns le rest))
    (λ high. let yes = le-leb p n high in
    let both = subst (λ b. AllByRecursion (λ n. n < jsn) (cond b (n ∷ filter (λ n. nat_le p n) ns) (filter (λ n. nat_le p n) ns))) yes all in
    (both.0, all_below p jsn ns le both.1))
    (cases_lt n p)

-- no more journals are below a number than there are
pub count_below : (p : ℕ) (t : Trail) → count_of (below p t) ≤ count_of t
count_below p t = omega (arith, lengths_split p t.jsns)
