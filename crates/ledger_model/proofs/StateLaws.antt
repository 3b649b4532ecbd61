-- The states of clues at a point of a history are those of a base.
use Rattle.std.specs.List.{list_any, AllByRecursion}
use Rattle.std.specs.List.Sorted.{IsStrictlySortedBy}
use Rattle.std.specs.Cmp.Lexicographic.{slice_cmp}
use Rattle.std.specs.Ordering.{nat_cmp, is_lt, ordering_then}
use Rattle.std.specs.declared.cmp.Ordering.TheVariants.{Less, Equal, Greater}
use Rattle.std.specs.Prelude.{⊤, All, IsTrue, filter, nat_lt, nat_eq, bytes_eq, zero, suc, replicate}
use Rattle.std.proofs.Common.{◌≡◌, ◌≢◌, ℕ, ◌+◌, ◌<◌, ◌≤◌, ◌&&◌, ◌||◌, Bool, true, false, cond, List, [], ◌∷◌, length, map, refl, sym, ◌∙◌, ap, subst, arith}
use Rattle.std.proofs.lemmas.Bool.{le-leb, le-ltb, lt-ltb, ltb-true, true≢false, eqb-true, false_from_ne_true}
use Rattle.std.proofs.lemmas.List.Elements.{All-nil, All-cons, All-head, All-tail}
use Rattle.ledger_bytes.specs.Digests.{zero_digest}
use Rattle.ledger_bytes.specs.declared.digest.Digest.{Digest}
use Rattle.clue_index.specs.Added.{Added, Mark, no_clue, jsns_of, state_at, begun_states}
use Rattle.clue_index.specs.Trail.{Ascends, last_from}
use Rattle.clue_index.specs.declared.state.ClueState.{ClueState}
use Rattle.clue_index.proofs.TableLaws.{tie, tie_same, same_tie}
use Rattle.clue_index.proofs.TrailLaws.{all_filter, Ascends-filter}
use Rattle.journal_record.specs.Entry.{Entry}
use Rattle.journal_record.specs.Header.{HasWidths as AreHeaderWidths}
use Rattle.pseudo_genesis.specs.Bases.{is_inside, IsWide, AreStates, HasStateWidths, IsBase, HasWidths}
use Rattle.pseudo_genesis.specs.declared.base.Base.{Base}
use Rattle.ledger_model.specs.Bases.{clue_mark_of, clues_added}
use Rattle.ledger_model.specs.Clues.{has_clue}
use Rattle.ledger_model.proofs.LawfulLaws.{AreFrom, clued_behind}
use Rattle.ledger_model.proofs.MarkLaws.{marks}

-- ---- numbers of a clue's journals

-- numbers that ascend from m on, none of which is that of journal 0
record Rising (m : ℕ) (ns : List ℕ) : Type 0 where
  from : AllByRecursion (λ n. m ≤ n) ns
  some : AllByRecursion (λ n. 1 ≤ n) ns
  rise : Ascends ns

lower : (m k : ℕ) (ns : List ℕ) → m ≤ k → AllByRecursion (λ n. k ≤ n) ns → AllByRecursion (λ n. m ≤ n) ns
lower m k [] le all = tt
lower m k (n ∷ ns) le all = (omega (arith, le, all.0), lower m k ns le all.1)

above : (j : ℕ) (ns : List ℕ) → AllByRecursion (λ n. j + 1 ≤ n) ns → AllByRecursion (λ n. j < n) ns
above j [] all = tt
above j (n ∷ ns) all = (omega (arith, all.0), above j ns all.1)

abbrev same_clue : List ℕ → Mark → Bool
same_clue clue m = bytes_eq clue m.clue

rising : (clue : List ℕ) (m : ℕ) (es : List Entry) → AreFrom m es → Rising m (jsns_of clue (marks es))
rising clue m [] from = record { from = tt; some = tt; rise = tt }
rising clue m (e ∷ es) from =
    let later = rising clue (m + 1) es from.2 in
    let skip : Rising m (jsns_of clue (marks es)) = record { from = lower m (m + 1) (jsns_of clue (marks es)) (omega arith) later.from; some = later.some; rise = later.rise } in
    elim (has_clue e) as (λ v. has_clue e ≡ v → Rising m (jsns_of clue (map clue_mark_of (cond v (e ∷ filter has_clue es) (filter has_clue es))))) [
      | true ↦ λ has. elim (bytes_eq clue e.header.clue.0) as (λ v. Rising m (map (λ (x : Mark). x.jsn) (cond v (clue_mark_of e ∷ filter (same_clue clue) (marks es)) (filter (same_clue clue) (marks es))))) [
        | true ↦ record {
          from = (omega (arith, from.0), lower m (m + 1) (jsns_of clue (marks es)) (omega arith) later.from);
          some = (clued_behind e.header.kind e.header.clue e.header.jsn has from.1.clue from.1.jsn, later.some);
          rise = (above e.header.jsn (jsns_of clue (marks es)) (lower (e.header.jsn + 1) (m + 1) (jsns_of clue (marks es)) (omega (arith, from.0)) later.from), later.rise);
        }
        | false ↦ skip
      ]
      | false ↦ λ none. skip
    ] refl

passes : (p : ℕ) (ns : List ℕ) → AllByRecursion (λ n. n < p) (filter (λ n. nat_lt n p) ns)
passes p [] = tt
passes p (n ∷ ns) = elim (nat_lt n p) as (λ v. nat_lt n p ≡ v → AllByRecursion (λ n. n < p) (cond v (n ∷ filter (λ n. nat_lt n p) ns) (filter (λ n. nat_lt n p) ns))) [
  | true ↦ λ lt. (ltb-true n p lt, passes p ns)
  | false ↦ λ ge. passes p ns
] refl

few : (m p : ℕ) (ns : List ℕ) → Ascends ns → AllByRecursion (λ n. m ≤ n) ns → AllByRecursion (λ n. n < p) ns → m ≤ p → m + length ns ≤ p
few m p [] rise from below le = omega (arith, le)
few m p (n ∷ ns) rise from below le = omega (arith, from.0, few (n + 1) p ns rise.1 (next n ns rise.0) below.1 (omega (arith, below.0))) where
  next : (n : ℕ) (ns : List ℕ) → AllByRecursion (λ k. n < k) ns → AllByRecursion (λ k. n + 1 ≤ k) ns
  next n [] all = tt
  next n (k ∷ ks) all = (omega (arith, all.0), next n ks all.1)

last_is : (P : ℕ → Type 0) (d n : ℕ) (ns : List ℕ) → P n → AllByRecursion P ns → P (last_from d (n ∷ ns))
last_is P d n [] here all = here
last_is P d n (k ∷ ks) here all = last_is P n k ks all.0 all.1

-- a state of a clue that has a journal, each behind journal 0 and below p
pub record Between (p : ℕ) (s : ClueState) : Type 0 where
  pub count : IsTrue (is_inside p s.count)
  pub last : IsTrue (is_inside p s.last)

inside : (p n : ℕ) → 1 ≤ n → n < p → IsTrue (is_inside p n)
inside p n one lt = ap (λ v. v && nat_lt n p) (le-leb 1 n one) ∙ lt-ltb n p lt

module _ (p : ℕ) (es : List Entry) (from : AreFrom 0 es) (some_p : 1 ≤ p) where
  abbrev a : Added
  a = clues_added 0 es

  abbrev low : List ℕ → List ℕ
  low clue = filter (λ n. nat_lt n p) (jsns_of clue (marks es))

  pub between : (clue : List ℕ) → 0 < (state_at p a clue).count → Between p (state_at p a clue)
  between clue some =
      let r = rising clue 0 es from in
      let ones = all_filter (λ n. 1 ≤ n) (λ n. nat_lt n p) (jsns_of clue (marks es)) r.some in
      let rise = Ascends-filter (λ n. nat_lt n p) (jsns_of clue (marks es)) r.rise in
      let under = passes p (jsns_of clue (marks es)) in
      let count = few 1 p (low clue) rise ones under some_p in
      record {
        count = inside p (0 + length (low clue)) (omega (arith, some)) (omega (arith, count));
        last = by_last (low clue) some ones under;
      }
    where
      by_last : (ns : List ℕ) → 0 < 0 + length ns → AllByRecursion (λ n. 1 ≤ n) ns → AllByRecursion (λ n. n < p) ns → IsTrue (is_inside p (last_from 0 ns))
      by_last [] none ones under = absurd (omega (arith, none))
      by_last (n ∷ ns) some ones under = inside p (last_from 0 (n ∷ ns)) (last_is (λ k. 1 ≤ k) 0 n ns ones.0 ones.1) (last_is (λ k. k < p) 0 n ns under.0 under.1)

  -- what holds of each state that speaks of a journal
  pub begun_all : (P : ClueState → Type 0) (Q : List ℕ → Type 0) → ((clue : List ℕ) → Q clue → 0 < (state_at p a clue).count → P (state_at p a clue)) → (clues : List (List ℕ)) → AllByRecursion Q clues → AllByRecursion P (begun_states (map (state_at p a) clues))
  begun_all P Q each [] all = tt
  begun_all P Q each (c ∷ clues) all =
      let rest = begun_all P Q each clues all.1 in
      elim (nat_lt 0 (state_at p a c).count) as (λ v. nat_lt 0 (state_at p a c).count ≡ v → AllByRecursion P (cond v (state_at p a c ∷ begun_states (map (state_at p a) clues)) (begun_states (map (state_at p a) clues)))) [
        | true ↦ λ is. (each c all.0 (ltb-true 0 (state_at p a c).count is), rest)
        | false ↦ λ is. rest
      ] refl

-- what is listed is one of those
pub listed_is : (P : List ℕ → Type 0) (q : List ℕ) (xs : List (List ℕ)) → AllByRecursion P xs → list_any (tie q) xs ≡ true → P q
listed_is P q [] all is = absurd (true≢false (sym is))
listed_is P q (x ∷ xs) all is = elim (tie q x) as (λ v. tie q x ≡ v → (v || list_any (tie q) xs) ≡ true → P q) [
  | true ↦ λ same _. subst P (sym (same_tie q x same)) all.0
  | false ↦ λ other more. listed_is P q xs all.1 more
] refl is

pub all_listed : (P : List ℕ → Type 0) (xs : List (List ℕ)) → ((q : List ℕ) → list_any (tie q) xs ≡ true → P q) → AllByRecursion P xs
all_listed P [] each = tt
all_listed P (x ∷ xs) each = (each x (ap (λ v. v || list_any (tie x) xs) (tie_same x x refl)), all_listed P xs (λ q is. each q (ap (λ v. tie q x || v) is ∙ or_true (tie q x)))) where
  or_true : (v : Bool) → (v || true) ≡ true
  or_true true = refl
  or_true false = refl

pub all_true : {X : Type 0} (xs : List X) → AllByRecursion (λ (x : X). ⊤) xs
all_true [] = tt
all_true (x ∷ xs) = (tt, all_true xs)

-- the clues of wide headers are wide
pub clues_wide : (es : List Entry) → All (λ (e : Entry). AreHeaderWidths e.header) es → AllByRecursion (λ (c : List ℕ). length c ≡ 32) (map (λ (m : Mark). m.clue) (marks es))
clues_wide [] all = tt
clues_wide (e ∷ es) all =
    let rest = clues_wide es (All-tail (λ (e : Entry). AreHeaderWidths e.header) e es all) in
    elim (has_clue e) as (λ v. AllByRecursion (λ (c : List ℕ). length c ≡ 32) (map (λ (m : Mark). m.clue) (map clue_mark_of (cond v (e ∷ filter has_clue es) (filter has_clue es))))) [
      | true ↦ ((All-head (λ (e : Entry). AreHeaderWidths e.header) e es all).clue, rest)
      | false ↦ rest
    ]

-- ---- the order of clues

-- zeros stand in front of every other clue
zeros_first : (n : ℕ) (c : List ℕ) → length c ≡ n → c ≢ replicate n 0 → slice_cmp nat_cmp (replicate n 0) c ≡ Less
zeros_first zero [] wide apart = absurd (apart refl)
zeros_first zero (x ∷ c) wide apart = absurd (omega (arith, wide))
zeros_first (suc n) [] wide apart = absurd (omega (arith, wide))
zeros_first (suc n) (zero ∷ c) wide apart = zeros_first n c (omega (arith, wide)) (λ same. apart (ap (λ (l : List ℕ). 0 ∷ l) same))
zeros_first (suc n) (suc x ∷ c) wide apart = ap (λ v. ordering_then (cond v Less (cond (nat_eq 0 (suc x)) Equal Greater)) (slice_cmp nat_cmp (replicate n 0) c)) (lt-ltb 0 (suc x) (omega arith))

pub states_ordered : (p : ℕ) (before : Digest) (ss : List ClueState) → IsStrictlySortedBy (slice_cmp nat_cmp) (before.0 ∷ map (λ (s : ClueState). s.clue.0) ss) → AllByRecursion (Between p) ss → AreStates p before ss
unfolding IsStrictlySortedBy
states_ordered p before [] rise all = tt
states_ordered p before (s ∷ ss) rise all = (
  record { clue = ap is_lt rise.0.0; count = all.0.count; last = all.0.last },
  states_ordered p s.clue ss rise.1 all.1,
)

pub behind_zeros : (ss : List ClueState) → AllByRecursion (λ (s : ClueState). (length s.clue.0 ≡ 32) × (s.clue.0 ≢ no_clue)) ss → AllByRecursion (λ (c : List ℕ). slice_cmp nat_cmp no_clue c ≡ Less) (map (λ (s : ClueState). s.clue.0) ss)
behind_zeros [] all = tt
behind_zeros (s ∷ ss) all = (zeros_first 32 s.clue.0 all.0.0 all.0.1, behind_zeros ss all.1)

-- ---- no state of a base is of zeros

-- no digest stands in front of zeros
never_below : (n : ℕ) (c : List ℕ) → length c ≡ n → is_lt (slice_cmp nat_cmp c (replicate n 0)) ≡ false
never_below zero [] wide = refl
never_below zero (x ∷ c) wide = absurd (omega (arith, wide))
never_below (suc n) [] wide = absurd (omega (arith, wide))
never_below (suc n) (zero ∷ c) wide = never_below n c (omega (arith, wide))
never_below (suc n) (suc x ∷ c) wide =
    ap (λ v. is_lt (ordering_then (cond v Less (cond (nat_eq (suc x) 0) Equal Greater)) (slice_cmp nat_cmp c (replicate n 0)))) (le-ltb (suc x) 0 (omega arith))
    ∙ ap (λ v. is_lt (ordering_then (cond false Less (cond v Equal Greater)) (slice_cmp nat_cmp c (replicate n 0)))) (false_from_ne_true (nat_eq (suc x) 0) (λ is. let bad : ⊥ = omega (arith, eqb-true (suc x) 0 is) in bad))

named : (p : ℕ) (before : Digest) (ss : List ClueState) → IsWide before → All HasStateWidths ss → AreStates p before ss → All (λ (s : ClueState). s.clue.0 ≢ no_clue) ss
named p before [] wide all are = All-nil (λ (s : ClueState). s.clue.0 ≢ no_clue)
named p before (s ∷ ss) wide all are =
    All-cons (λ (s : ClueState). s.clue.0 ≢ no_clue) s ss
    (λ same. true≢false (sym are.0.clue ∙ ap (λ (c : List ℕ). is_lt (slice_cmp nat_cmp before.0 c)) same ∙ never_below 32 before.0 wide))
    (named p s.clue ss (All-head HasStateWidths s ss all).clue (All-tail HasStateWidths s ss all) are.1)

pub base_named : (b : Base) → IsBase b → HasWidths b → All (λ (s : ClueState). s.clue.0 ≢ no_clue) b.clues
base_named b rules widths = named b.point zero_digest b.clues refl widths.clues rules.clues
