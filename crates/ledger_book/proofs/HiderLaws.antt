-- Lemmas on the numbers of those that hide others, where a journal more is placed.
use Rattle.std.proofs.Common.{◌≡◌, ◌≢◌, ℕ, zero, suc, ◌+◌, ◌-◌, ◌<◌, ◌≤◌, ◌||◌, ◌==◌, Bool, true, false, List, [], ◌∷◌, ◌++◌, length, map, filter, drop, get_or, Option, Some, None, refl, sym, ◌∙◌, ap, subst, cond, arith, length-append, not, set, get_or-set_same, get_or-set_other}
use Rattle.std.specs.List.{list_any, AllByRecursion}
use Rattle.std.specs.Option.{is_some, option_or}
use Rattle.std.specs.Prelude.{IsTrue, nat_le, slice_get}
use Rattle.std.proofs.lemmas.Bool.{eqb-true, eq-eqb, ne_eqb, leb-true, leb-false, ltb-true, true≢false}
use Rattle.std.proofs.lemmas.List.{length-set}
use Rattle.std.proofs.lemmas.List.Folds.{list_any-append}
use Rattle.std.proofs.lemmas.Option.{slice_get_within}
use Rattle.ledger_bytes.specs.declared.digest.Digest.{Digest}
use Rattle.clue_index.specs.Index as index
use Rattle.journal_record.specs.Entry.{Entry}
use Rattle.journal_record.specs.Rules.{IsHeader, a_ok, is_no_clue, link_ok}
use Rattle.journal_record.specs.declared.header.Header.{Header}
use Rattle.journal_record.specs.declared.header.Kind.{Kind}
use Rattle.journal_record.specs.declared.header.Kind.TheVariants as kind
use Rattle.ledger_model.specs.Clues.{is_of_clue, numbers_of}
use Rattle.ledger_model.specs.History.{History, history, journals, size}
use Rattle.ledger_model.specs.Lawful.{AreLawful}
use Rattle.ledger_model.specs.Targets.{hides_as, hides, is_hidden_by, hider}
use Rattle.ledger_model.proofs.HideLaws.{hider_at, hider_kept, hider_made, hidden_kept, hides_behind, named_is, none_named, number_at, header_at, past, covers_is}
use Rattle.ledger_model.proofs.KeepLaws.{journals_wider}
use Rattle.ledger_model.proofs.LawfulLaws.{AreFrom, lawful_from, lawful_more, some_journal}
use Rattle.ledger_book.specs.Hiders.{told_hider, hider_in, TellHiders, hidden_at, hidden_all, targets_as, with_hider_of}
use Rattle.ledger_book.specs.Steps.{MayPlace}

-- ---- the list

-- a number that none hides, at the end
get_pushed : (ns : List ℕ) (i : ℕ) → get_or (ns ++ 0 ∷ []) i 0 ≡ get_or ns i 0
get_pushed [] zero = refl
get_pushed [] (suc i) = refl
get_pushed (n ∷ ns) zero = refl
get_pushed (n ∷ ns) (suc i) = get_pushed ns i

get_dropped : (c : ℕ) (ns : List ℕ) (i : ℕ) → get_or (drop c ns) i 0 ≡ get_or ns (c + i) 0
get_dropped zero ns i = ap (λ k. get_or ns k 0) (let same : i ≡ 0 + i = omega arith in same)
get_dropped (suc c) [] i = refl
get_dropped (suc c) (n ∷ ns) i = get_dropped c ns i ∙ ap (λ k. get_or (n ∷ ns) k 0) (let same : suc (c + i) ≡ suc c + i = omega arith in same)

hidden_other : (place jsn i : ℕ) (ns : List ℕ) → i ≢ place → get_or (hidden_at place jsn ns) i 0 ≡ get_or ns i 0
hidden_other place jsn i ns other = elim (get_or ns place 0 == 0) as (λ v. get_or (cond v (set ns place jsn) ns) i 0 ≡ get_or ns i 0) [
  | true ↦ get_or-set_other ns place i jsn 0 other
  | false ↦ refl
]

hidden_here : (place jsn : ℕ) (ns : List ℕ) → place < length ns → get_or (hidden_at place jsn ns) place 0 ≡ cond (get_or ns place 0 == 0) jsn (get_or ns place 0)
hidden_here place jsn ns lt = elim (get_or ns place 0 == 0) as (λ v. get_or (cond v (set ns place jsn) ns) place 0 ≡ cond v jsn (get_or ns place 0)) [
  | true ↦ get_or-set_same ns place jsn 0 lt
  | false ↦ refl
]

hidden_len : (place jsn : ℕ) (ns : List ℕ) → length (hidden_at place jsn ns) ≡ length ns
hidden_len place jsn ns = elim (get_or ns place 0 == 0) as (λ v. length (cond v (set ns place jsn) ns) ≡ length ns) [
  | true ↦ length-set ns place jsn
  | false ↦ refl
]

-- ---- several that are hidden

-- one target more is hidden behind the others
pub hidden_more : (floor jsn target : ℕ) (ts ns : List ℕ) → hidden_all floor jsn (ts ++ target ∷ []) ns ≡ hidden_at (target - floor) jsn (hidden_all floor jsn ts ns)
hidden_more floor jsn target [] ns = refl
hidden_more floor jsn target (t ∷ ts) ns = hidden_more floor jsn target ts (hidden_at (t - floor) jsn ns)

abbrev pub among : ℕ → List ℕ → Bool
among n ts = list_any (λ t. t == n) ts

abbrev pub AreKept : ℕ → List ℕ → Type 0
AreKept floor ts = AllByRecursion (λ t. floor ≤ t) ts

pub or_false : (v : Bool) → (v || false) ≡ v
or_false true = refl
or_false false = refl

pub or_true : (v : Bool) → (v || true) ≡ true
or_true true = refl
or_true false = refl

apart_parts : (v w : Bool) → (v || w) ≡ false → (v ≡ false) × (w ≡ false)
apart_parts true w none = absurd (true≢false none)
apart_parts false w none = (refl, none)

-- whom none of them is
told_other : (floor jsn n : ℕ) (ts ns : List ℕ) → floor ≤ n → AreKept floor ts → among n ts ≡ false → get_or (hidden_all floor jsn ts ns) (n - floor) 0 ≡ get_or ns (n - floor) 0
told_other floor jsn n [] ns le low none = refl
told_other floor jsn n (t ∷ ts) ns le low none =
    let parts = apart_parts (t == n) (among n ts) none in
    told_other floor jsn n ts (hidden_at (t - floor) jsn ns) le low.1 parts.1
    ∙ hidden_other (t - floor) jsn (n - floor) ns (λ same. true≢false (sym (eq-eqb t n (let at : t ≡ n = omega (arith, same, le, low.0) in at)) ∙ parts.0))

-- the number that is there stays, and else this one comes
abbrev kept_or : ℕ → ℕ → ℕ
kept_or old jsn = cond (old == 0) jsn old

kept_twice : (old jsn : ℕ) → 1 ≤ jsn → kept_or (kept_or old jsn) jsn ≡ kept_or old jsn
kept_twice old jsn some = elim (old == 0) as (λ v. (old == 0) ≡ v → kept_or (cond v jsn old) jsn ≡ cond v jsn old) [
  | true ↦ λ e. ap (λ v. cond v jsn jsn) (ne_eqb jsn 0 (λ is. let bad : ⊥ = omega (arith, is, some) in bad))
  | false ↦ λ e. ap (λ v. cond v jsn old) e
] refl

-- whom one of them is
told_here : (floor jsn n : ℕ) (ts ns : List ℕ) → floor ≤ n → AreKept floor ts → 1 ≤ jsn → n - floor < length ns → among n ts ≡ true → get_or (hidden_all floor jsn ts ns) (n - floor) 0 ≡ kept_or (get_or ns (n - floor) 0) jsn
told_here floor jsn n [] ns le low some within is = absurd (true≢false (sym is))
told_here floor jsn n (t ∷ ts) ns le low some within is =
    by_first (told_here floor jsn n ts (hidden_at (t - floor) jsn ns) le low.1 some (omega (arith, within, hidden_len (t - floor) jsn ns))) (t == n) refl
  where
    after : List ℕ
    after = hidden_at (t - floor) jsn ns

    here : t ≡ n → get_or after (n - floor) 0 ≡ kept_or (get_or ns (n - floor) 0) jsn
    here at = ap (λ m. get_or (hidden_at (m - floor) jsn ns) (n - floor) 0) at ∙ hidden_here (n - floor) jsn ns within

    by_rest : (among n ts ≡ true → get_or (hidden_all floor jsn ts after) (n - floor) 0 ≡ kept_or (get_or after (n - floor) 0) jsn) → t ≡ n → (rest : Bool) → among n ts ≡ rest → get_or (hidden_all floor jsn ts after) (n - floor) 0 ≡ kept_or (get_or ns (n - floor) 0) jsn
    by_rest again at true e =
        again e
        ∙ ap (λ old. kept_or old jsn) (here at)
        ∙ kept_twice (get_or ns (n - floor) 0) jsn some
    by_rest again at false e = told_other floor jsn n ts after le low.1 e ∙ here at

    by_first : (among n ts ≡ true → get_or (hidden_all floor jsn ts after) (n - floor) 0 ≡ kept_or (get_or after (n - floor) 0) jsn) → (v : Bool) → (t == n) ≡ v → get_or (hidden_all floor jsn ts after) (n - floor) 0 ≡ kept_or (get_or ns (n - floor) 0) jsn
    by_first again true e = by_rest again (eqb-true t n e) (among n ts) refl
    by_first again false e =
        let more : among n ts ≡ true = sym (ap (λ v. v || among n ts) e) ∙ is in
        again more
        ∙ ap (λ old. kept_or old jsn) (hidden_other (t - floor) jsn (n - floor) ns (λ same. true≢false (sym (eq-eqb t n (let at : t ≡ n = omega (arith, same, le, low.0) in at)) ∙ e)))

-- what a number tells
told_some : (n : ℕ) → 1 ≤ n → told_hider n ≡ Some n
told_some n some = ap (λ v. cond v None (Some n)) (ne_eqb n 0 (λ is. let bad : ⊥ = omega (arith, is, some) in bad))

told_kept : (old jsn : ℕ) → 1 ≤ jsn → told_hider (kept_or old jsn) ≡ option_or (told_hider old) (Some jsn)
told_kept old jsn some = elim (old == 0) as (λ v. (old == 0) ≡ v → told_hider (cond v jsn old) ≡ option_or (cond v None (Some old)) (Some jsn)) [
  | true ↦ λ e. told_some jsn some
  | false ↦ λ e. ap (λ v. cond v None (Some old)) e
] refl

-- ---- whom a journal hides

-- what stands at a place is hidden by a journal; nothing is where nothing stands
abbrev pub covers : Entry → Option Entry → Bool
covers j None = false
covers j (Some e) = hides e j

-- the kept ones of its clue, where it is an occult by clue
abbrev pub AreOfClue : ℕ → List Entry → Header → List ℕ → Type 0
AreOfClue floor es x clued = x.kind ≡ kind.ClueOccult → clued ≡ filter (λ n. nat_le floor n) (numbers_of x.link es)

-- whether what stands at a place has a clue
abbrev of_clue_at : Digest → Option Entry → Bool
of_clue_at clue None = false
of_clue_at clue (Some e) = is_of_clue clue e

-- numbers of later journals are others
numbers_later : (m n : ℕ) (clue : Digest) (es : List Entry) → AreFrom m es → n < m → among n (numbers_of clue es) ≡ false
numbers_later m n clue [] from lt = refl
numbers_later m n clue (e ∷ es) from lt =
    let later = numbers_later (m + 1) n clue es from.2 (omega (arith, lt)) in
    elim (is_of_clue clue e) as (λ v. among n (map (λ (x : Entry). x.header.jsn) (cond v (e ∷ filter (is_of_clue clue) es) (filter (is_of_clue clue) es))) ≡ false) [
      | true ↦ ap (λ v. v || among n (numbers_of clue es)) (ne_eqb e.header.jsn n (λ is. let bad : ⊥ = omega (arith, is, from.0, lt) in bad)) ∙ later
      | false ↦ later
    ]

-- a number is among those of a clue where the journal there has it
numbers_at : (m i : ℕ) (clue : Digest) (es : List Entry) → AreFrom m es → among (m + i) (numbers_of clue es) ≡ of_clue_at clue (slice_get es i)
numbers_at m i clue [] from = refl
numbers_at m zero clue (e ∷ es) from =
    elim (is_of_clue clue e) as (λ v. is_of_clue clue e ≡ v → among (m + 0) (map (λ (x : Entry). x.header.jsn) (cond v (e ∷ filter (is_of_clue clue) es) (filter (is_of_clue clue) es))) ≡ is_of_clue clue e) [
      | true ↦ λ is. ap (λ v. v || among (m + 0) (numbers_of clue es)) (eq-eqb e.header.jsn (m + 0) (omega (arith, from.0))) ∙ sym is
      | false ↦ λ is. numbers_later (m + 1) (m + 0) clue es from.2 (omega arith) ∙ sym is
    ] refl
numbers_at m (suc i) clue (e ∷ es) from =
    let rest = ap (λ n. among n (numbers_of clue es)) (let same : m + suc i ≡ (m + 1) + i = omega arith in same) ∙ numbers_at (m + 1) i clue es from.2 in
    elim (is_of_clue clue e) as (λ v. among (m + suc i) (map (λ (x : Entry). x.header.jsn) (cond v (e ∷ filter (is_of_clue clue) es) (filter (is_of_clue clue) es))) ≡ of_clue_at clue (slice_get es i)) [
      | true ↦ ap (λ v. v || among (m + suc i) (numbers_of clue es)) (ne_eqb e.header.jsn (m + suc i) (λ is. let bad : ⊥ = omega (arith, is, from.0) in bad)) ∙ rest
      | false ↦ rest
    ]

among_kept : (floor n : ℕ) (ns : List ℕ) → floor ≤ n → among n (filter (λ m. nat_le floor m) ns) ≡ among n ns
among_kept floor n [] le = refl
among_kept floor n (m ∷ ns) le = elim (nat_le floor m) as (λ v. nat_le floor m ≡ v → among n (cond v (m ∷ filter (λ k. nat_le floor k) ns) (filter (λ k. nat_le floor k) ns)) ≡ ((m == n) || among n ns)) [
  | true ↦ λ e. ap (λ v. (m == n) || v) (among_kept floor n ns le)
  | false ↦ λ e. among_kept floor n ns le ∙ sym (ap (λ v. v || among n ns) (ne_eqb m n (λ is. let bad : ⊥ = omega (arith, is, le, leb-false floor m e) in bad)))
] refl

low_kept : (floor : ℕ) (ns : List ℕ) → AreKept floor (filter (λ m. nat_le floor m) ns)
low_kept floor [] = tt
low_kept floor (m ∷ ns) = elim (nat_le floor m) as (λ v. nat_le floor m ≡ v → AreKept floor (cond v (m ∷ filter (λ k. nat_le floor k) ns) (filter (λ k. nat_le floor k) ns))) [
  | true ↦ λ e. (leb-true floor m e, low_kept floor ns)
  | false ↦ λ e. low_kept floor ns
] refl

-- journals from one on, and the next one behind them
module _ (first floor : ℕ) (es : List Entry) (j : Entry) (clued : List ℕ) (from : AreFrom first es) (above : first ≤ floor) (layout : IsHeader j.header) (at : j.header.jsn ≡ first + length es) (clued_are : AreOfClue floor es j.header clued) where
  abbrev targets : List ℕ
  targets = targets_as j.header.kind floor j.header clued

  targets_low : AreKept floor targets
  targets_low = by_kind j.header.kind refl where
    by_kind : (k : Kind) → j.header.kind ≡ k → AreKept floor (targets_as k floor j.header clued)
    by_kind kind.Genesis is = tt
    by_kind kind.Content is = tt
    by_kind kind.Member is = tt
    by_kind kind.Time is = tt
    by_kind kind.Purge is = tt
    by_kind kind.Occult is = elim (nat_le floor j.header.a) as (λ v. nat_le floor j.header.a ≡ v → AreKept floor (cond v (j.header.a ∷ []) [])) [ true ↦ λ e. (leb-true floor j.header.a e, tt) | false ↦ λ e. tt ] refl
    by_kind kind.ClueOccult is = subst (AreKept floor) (sym (clued_are is)) (low_kept floor (numbers_of j.header.link es))

  -- the number of the one at a place
  number_is : (n : ℕ) (e : Entry) → first ≤ n → slice_get es (n - first) ≡ Some e → e.header.jsn ≡ n
  number_is n e le there = number_at first (n - first) es e from there ∙ omega (arith, le)

  -- the targets are those that it hides
  targets_are : (n : ℕ) → floor ≤ n → among n targets ≡ covers j (slice_get es (n - first))
  targets_are n le = by_kind j.header.kind refl (slice_get es (n - first)) refl where
    none_of : (k : Kind) (t : Option Entry) → j.header.kind ≡ k → ((x target : Header) → hides_as k x target ≡ false) → false ≡ covers j t
    none_of k None is none = refl
    none_of k (Some e) is none = sym (ap (λ (y : Kind). hides_as y j.header e.header) is ∙ none j.header e.header)

    named : (v : Bool) → nat_le floor j.header.a ≡ v → among n (cond v (j.header.a ∷ []) []) ≡ (j.header.a == n)
    named true e = or_false (j.header.a == n)
    named false e = sym (ne_eqb j.header.a n (λ is. let bad : ⊥ = omega (arith, is, le, leb-false floor j.header.a e) in bad))

    before : IsTrue (a_ok kind.Occult j.header.jsn j.header.a) → j.header.a < j.header.jsn
    before ok = ltb-true j.header.a j.header.jsn ok

    some_clue : (v : Bool) → not v ≡ true → v ≡ false
    some_clue true is = absurd (true≢false (sym is))
    some_clue false is = refl

    by_kind : (k : Kind) → j.header.kind ≡ k → (t : Option Entry) → slice_get es (n - first) ≡ t → among n (targets_as k floor j.header clued) ≡ covers j t
    by_kind kind.Genesis is t there = none_of kind.Genesis t is (λ x target. refl)
    by_kind kind.Content is t there = none_of kind.Content t is (λ x target. refl)
    by_kind kind.Member is t there = none_of kind.Member t is (λ x target. refl)
    by_kind kind.Time is t there = none_of kind.Time t is (λ x target. refl)
    by_kind kind.Purge is t there = none_of kind.Purge t is (λ x target. refl)
    by_kind kind.Occult is None there =
        named (nat_le floor j.header.a) refl
        ∙ ne_eqb j.header.a n (λ same. let bad : ⊥ = omega (arith, same, le, above, past es (n - first) there, at, before (subst (λ (y : Kind). IsTrue (a_ok y j.header.jsn j.header.a)) is layout.a)) in bad)
    by_kind kind.Occult is (Some e) there =
        named (nat_le floor j.header.a) refl
        ∙ ap (λ m. j.header.a == m) (sym (number_is n e (omega (arith, le, above)) there))
        ∙ sym (ap (λ (y : Kind). hides_as y j.header e.header) is)
    by_kind kind.ClueOccult is t there =
        ap (among n) (clued_are is)
        ∙ among_kept floor n (numbers_of j.header.link es) le
        ∙ ap (λ m. among m (numbers_of j.header.link es)) (let same : n ≡ first + (n - first) = omega (arith, le, above) in same)
        ∙ numbers_at first (n - first) j.header.link es from
        ∙ by_clue t there
      where
        by_clue : (t : Option Entry) → slice_get es (n - first) ≡ t → of_clue_at j.header.link (slice_get es (n - first)) ≡ covers j t
        by_clue None there = ap (of_clue_at j.header.link) there
        by_clue (Some e) there =
            ap (of_clue_at j.header.link) there
            ∙ sym (covers_is j.header e (header_at first (n - first) es e from there) (some_clue (is_no_clue j.header.link) (subst (λ (y : Kind). IsTrue (link_ok y j.header.link)) is layout.link)) (omega (arith, number_is n e (omega (arith, le, above)) there, slice_get_within es (n - first) e there, at, le, above)))
            ∙ sym (ap (λ (y : Kind). hides_as y j.header e.header) is)

  -- of one that it doesn't hide, and of one that it hides
  pub uncovered : (ns : List ℕ) (n : ℕ) → floor ≤ n → covers j (slice_get es (n - first)) ≡ false → hider_in floor (with_hider_of floor j.header clued ns) n ≡ hider_in floor ns n
  uncovered ns n le none =
      ap told_hider (told_other floor j.header.jsn n targets (ns ++ 0 ∷ []) le targets_low (targets_are n le ∙ none) ∙ get_pushed ns (n - floor))

  pub covered : (ns : List ℕ) (n : ℕ) → floor ≤ n → 1 ≤ j.header.jsn → floor + length ns ≡ first + length es → covers j (slice_get es (n - first)) ≡ true → hider_in floor (with_hider_of floor j.header clued ns) n ≡ option_or (hider_in floor ns n) (Some j.header.jsn)
  covered ns n le some all is = by_target (slice_get es (n - first)) refl is where
    by_target : (t : Option Entry) → slice_get es (n - first) ≡ t → covers j t ≡ true → hider_in floor (with_hider_of floor j.header clued ns) n ≡ option_or (hider_in floor ns n) (Some j.header.jsn)
    by_target None there hidden = absurd (true≢false (sym hidden))
    by_target (Some e) there hidden =
        ap told_hider (
        told_here floor j.header.jsn n targets (ns ++ 0 ∷ []) le targets_low some (omega (arith, le, above, all, slice_get_within es (n - first) e there, length-append ns (0 ∷ []))) (targets_are n le ∙ is)
        ∙ ap (λ old. kept_or old j.header.jsn) (get_pushed ns (n - floor))
        )
        ∙ told_kept (get_or ns (n - floor) 0) j.header.jsn some

-- ---- a journal more in a history

module _ (numbers : List ℕ) (floor : ℕ) (h : History) (j : Entry) (clued : List ℕ) (lawful : AreLawful (journals h)) (next : MayPlace h j.header) (index : TellHiders numbers floor h) (all : floor + length numbers ≡ size h) (clued_are : AreOfClue floor (journals h) j.header clued) where
  abbrev more : History
  more = history h.closed (h.waiting ++ j ∷ [])

  more_of : (n : ℕ) → hider more n ≡ hider_at (journals h ++ j ∷ []) n
  more_of n = ap (λ es. hider_at es n) (journals_wider h j)

  all_from : AreFrom 0 (journals h ++ j ∷ [])
  all_from = lawful_from (journals h ++ j ∷ []) (lawful_more (journals h) j lawful next)

  some : 1 ≤ j.header.jsn
  some = omega (arith, next.jsn, some_journal (journals h) lawful)

  all_are : floor + length numbers ≡ 0 + length (journals h)
  all_are = all ∙ omega arith

  hidden_made : (n : ℕ) → (t : Option Entry) → slice_get (journals h) n ≡ t → covers j t ≡ true → hider_at (journals h ++ j ∷ []) n ≡ option_or (hider h n) (Some j.header.jsn)
  hidden_made n None at is = absurd (true≢false (sym is))
  hidden_made n (Some e) at is = by_hider (hider h n) refl where
    by_hider : (o : Option ℕ) → hider h n ≡ o → hider_at (journals h ++ j ∷ []) n ≡ option_or o (Some j.header.jsn)
    by_hider None none = hider_made (journals h) j e n at (ap is_some none) is
    by_hider (Some k) before = hidden_kept (journals h) j n k before

  pub hiders_more : TellHiders (with_hider_of floor j.header clued numbers) floor more
  hiders_more n le = by_place (slice_get (journals h) n) refl where
    same_place : n - 0 ≡ n
    same_place = omega arith

    by_place : (t : Option Entry) → slice_get (journals h) n ≡ t → hider_in floor (with_hider_of floor j.header clued numbers) n ≡ hider more n
    by_place t at = by_cover (covers j t) refl where
      cover_is : covers j (slice_get (journals h) (n - 0)) ≡ covers j t
      cover_is = ap (λ i. covers j (slice_get (journals h) i)) same_place ∙ ap (covers j) at

      by_cover : (v : Bool) → covers j t ≡ v → hider_in floor (with_hider_of floor j.header clued numbers) n ≡ hider more n
      by_cover false none =
          uncovered 0 floor (journals h) j clued (lawful_from (journals h) lawful) (omega arith) next.layout (next.jsn ∙ omega arith) clued_are numbers n le (cover_is ∙ none)
          ∙ (index n le ∙ (sym (hider_kept (journals h) j n all_from (λ e there. sym (ap (covers j) (sym at ∙ there)) ∙ none)) ∙ sym (more_of n)))
      by_cover true is =
          covered 0 floor (journals h) j clued (lawful_from (journals h) lawful) (omega arith) next.layout (next.jsn ∙ omega arith) clued_are numbers n le some all_are (cover_is ∙ is)
          ∙ ap (λ o. option_or o (Some j.header.jsn)) (index n le)
          ∙ (sym (hidden_made n t at is) ∙ sym (more_of n))

-- ---- a journal more behind a base

some_or : (o : Option ℕ) (n : ℕ) → is_some (option_or o (Some n)) ≡ true
some_or None n = refl
some_or (Some m) n = refl

still_at : (es : List Entry) (j e : Entry) (i : ℕ) → slice_get es i ≡ Some e → slice_get (es ++ j ∷ []) i ≡ Some e
still_at [] j e i is = absurd cc
still_at (x ∷ es) j e zero is = is
still_at (x ∷ es) j e (suc i) is = still_at es j e i is

-- behind the last there is the new one, or none
new_at : (es : List Entry) (j e : Entry) (i : ℕ) → (let none : Option Entry = None in slice_get es i ≡ none) → slice_get (es ++ j ∷ []) i ≡ Some e → e ≡ j
new_at [] j e zero none is = cc
new_at [] j e (suc i) none is = absurd cc
new_at (x ∷ es) j e zero none is = absurd cc
new_at (x ∷ es) j e (suc i) none is = new_at es j e i none is

module _ (first : ℕ) (numbers : List ℕ) (es : List Entry) (j : Entry) (clued : List ℕ) (from : AreFrom first (es ++ j ∷ [])) (front : AreFrom first es) (layout : IsHeader j.header) (at : j.header.jsn ≡ first + length es) (some : 1 ≤ j.header.jsn) (all : first + length numbers ≡ first + length es) (clued_are : AreOfClue first es j.header clued) where
  pub hidden_next : ((n : ℕ) → first ≤ n → is_some (hider_in first numbers n) ≡ is_hidden_by es (slice_get es (n - first)))
      → (n : ℕ) → first ≤ n → is_some (hider_in first (with_hider_of first j.header clued numbers) n) ≡ is_hidden_by (es ++ j ∷ []) (slice_get (es ++ j ∷ []) (n - first))
  hidden_next before n le = by_place (slice_get es (n - first)) refl where
    by_place : (t : Option Entry) → slice_get es (n - first) ≡ t → is_some (hider_in first (with_hider_of first j.header clued numbers) n) ≡ is_hidden_by (es ++ j ∷ []) (slice_get (es ++ j ∷ []) (n - first))
    by_place (Some e) there =
        by_cover (hides e j) refl
        ∙ sym (list_any-append (hides e) es (j ∷ []))
        ∙ sym (ap (is_hidden_by (es ++ j ∷ [])) (still_at es j e (n - first) there))
      where
        by_cover : (v : Bool) → hides e j ≡ v → is_some (hider_in first (with_hider_of first j.header clued numbers) n) ≡ (list_any (hides e) es || (hides e j || false))
        by_cover true is =
            ap is_some (covered first first es j clued front (omega arith) layout at clued_are numbers n le some all (ap (covers j) there ∙ is))
            ∙ some_or (hider_in first numbers n) j.header.jsn
            ∙ sym (ap (λ v. list_any (hides e) es || (v || false)) is ∙ or_true (list_any (hides e) es))
        by_cover false none =
            ap is_some (uncovered first first es j clued front (omega arith) layout at clued_are numbers n le (ap (covers j) there ∙ none))
            ∙ (before n le ∙ ap (is_hidden_by es) there)
            ∙ sym (ap (λ v. list_any (hides e) es || (v || false)) none ∙ or_false (list_any (hides e) es))
    by_place None there =
        ap is_some (uncovered first first es j clued front (omega arith) layout at clued_are numbers n le (ap (covers j) there))
        ∙ (before n le ∙ ap (is_hidden_by es) there)
        ∙ sym (by_new (slice_get (es ++ j ∷ []) (n - first)) refl)
      where
        by_new : (t : Option Entry) → slice_get (es ++ j ∷ []) (n - first) ≡ t → is_hidden_by (es ++ j ∷ []) t ≡ false
        by_new None is = refl
        by_new (Some e) is =
            ap (λ (x : Entry). list_any (hides x) (es ++ j ∷ [])) (new_at es j e (n - first) there is)
            ∙ named_is (hides j) (es ++ j ∷ [])
            ∙ ap is_some (none_named (hides j) first j.header.jsn (es ++ j ∷ []) (hides_behind j) from (omega (arith, at, length-append es (j ∷ []))))

-- one that hides none changes nothing but its own number
pub unhiding : (floor : ℕ) (x : Header) (clued ns : List ℕ) → x.kind ≡ kind.Member → with_hider_of floor x clued ns ≡ ns ++ 0 ∷ []
unhiding floor x clued ns member = ap (λ (k : Kind). hidden_all floor x.jsn (targets_as k floor x clued) (ns ++ 0 ∷ [])) member

-- ---- the hiders of those from a later journal on

pub hiders_from : (floor p : ℕ) (ns cut : List ℕ) (n : ℕ) → floor ≤ p → cut ≡ drop (p - floor) ns → p ≤ n → hider_in p cut n ≡ hider_in floor ns n
hiders_from floor p ns cut n low is le =
    ap (λ l. hider_in p l n) is ∙ ap told_hider (get_dropped (p - floor) ns (n - p) ∙ ap (λ i. get_or ns i 0) (let at : p - floor + (n - p) ≡ n - floor = omega (arith, low, le) in at))
