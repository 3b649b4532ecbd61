-- A lawful history has no more clues than there may be.
use Rattle.std.specs.List.{list_any}
use Rattle.std.specs.Prelude.{filter, nat_lt, nat_le, bytes_eq, Some, None}
use Rattle.std.specs.Set.{distinct_count, unique_keys}
use Rattle.std.proofs.Common.{◌≡◌, ℕ, ◌+◌, ◌<◌, ◌≤◌, ◌&&◌, ◌||◌, ◌==◌, Bool, true, false, cond, not, List, [], ◌∷◌, ◌++◌, length, map, refl, sym, ◌∙◌, ap, subst, arith, append-nil, append_assoc}
use Rattle.std.proofs.lemmas.Bool.{ltb-true, ltb-false, true≢false, leb-false, eqb-true, eq-eqb, false_from_ne_true}
use Rattle.std.proofs.lemmas.List.{map-append}
use Rattle.std.proofs.lemmas.List.Folds.{list_any-append}
use Rattle.std.proofs.lemmas.List.Elements.{filter-append}
use Rattle.std.proofs.lemmas.Option.{none-some}
use Rattle.std.proofs.lemmas.Slice.Eq.{bytes_eq-Decides}
use Rattle.ledger_bytes.specs.declared.digest.Digest.{Digest}
use Rattle.ledger_bytes.specs.declared.refusal.Refusal.TheVariants.{CluesFull}
use Rattle.journal_record.specs.Entry.{Entry}
use Rattle.journal_record.specs.Rules.{IsHeader, clue_ok, is_no_clue}
use Rattle.journal_record.specs.declared.header.Kind.{Kind}
use Rattle.journal_record.specs.declared.header.Kind.TheVariants as kind
use Rattle.ledger_model.specs.Clues.{has_clue, is_of_clue, numbers_of, jsns_with, clues_of, clue_count}
use Rattle.ledger_model.specs.History.{History, history}
use Rattle.ledger_model.specs.Judgements.{clues_full}
use Rattle.ledger_model.specs.Lawful.{IsNext, IsNextOf, AreNext}
use Rattle.ledger_model.specs.Limits.{real_limits}

-- how many different ones there are
abbrev many : List (List ℕ) → ℕ
many xs = distinct_count bytes_eq xs

one_more : (xs : List (List ℕ)) (x : List ℕ) → many (xs ++ x ∷ []) ≤ many xs + 1
one_more [] x = omega arith
one_more (y ∷ ys) x =
    let later = one_more ys x in
    let split = list_any-append (bytes_eq y) ys (x ∷ []) in
    elim (list_any (bytes_eq y) ys) as (λ v. list_any (bytes_eq y) ys ≡ v → length (cond (list_any (bytes_eq y) (ys ++ x ∷ [])) (unique_keys bytes_eq (ys ++ x ∷ [])) (y ∷ unique_keys bytes_eq (ys ++ x ∷ []))) ≤ length (cond v (unique_keys bytes_eq ys) (y ∷ unique_keys bytes_eq ys)) + 1) [
      | true ↦ λ is.
          let at : list_any (bytes_eq y) (ys ++ x ∷ []) ≡ true = split ∙ ap (λ v. v || list_any (bytes_eq y) (x ∷ [])) is in
          omega (arith, later, ap (λ v. length (cond v (unique_keys bytes_eq (ys ++ x ∷ [])) (y ∷ unique_keys bytes_eq (ys ++ x ∷ [])))) at)
      | false ↦ λ is. elim (list_any (bytes_eq y) (ys ++ x ∷ [])) as (λ v. length (cond v (unique_keys bytes_eq (ys ++ x ∷ [])) (y ∷ unique_keys bytes_eq (ys ++ x ∷ []))) ≤ length (y ∷ unique_keys bytes_eq ys) + 1) [
        | true ↦ omega (arith, later)
        | false ↦ omega (arith, later)
      ]
    ] refl

no_more : (xs : List (List ℕ)) (x : List ℕ) → list_any (bytes_eq x) xs ≡ true → many (xs ++ x ∷ []) ≤ many xs
no_more [] x is = absurd (true≢false (sym is))
no_more (y ∷ ys) x is =
    let split = list_any-append (bytes_eq y) ys (x ∷ []) in
    elim (bytes_eq x y) as (λ v. bytes_eq x y ≡ v → (v || list_any (bytes_eq x) ys) ≡ true → many ((y ∷ ys) ++ x ∷ []) ≤ many (y ∷ ys)) [
      | true ↦ λ same all.
          let x_is : x ≡ y = (bytes_eq-Decides x y).0 same in
          let last : list_any (bytes_eq y) (x ∷ []) ≡ true = ap (λ v. v || false) ((bytes_eq-Decides y x).1 (sym x_is)) in
          let at : list_any (bytes_eq y) (ys ++ x ∷ []) ≡ true = split ∙ ap (λ v. list_any (bytes_eq y) ys || v) last ∙ or_true (list_any (bytes_eq y) ys) in
          let whole : many ((y ∷ ys) ++ x ∷ []) ≡ many (ys ++ x ∷ []) = ap (λ v. length (cond v (unique_keys bytes_eq (ys ++ x ∷ [])) (y ∷ unique_keys bytes_eq (ys ++ x ∷ [])))) at in
          elim (list_any (bytes_eq y) ys) as (λ v. list_any (bytes_eq y) ys ≡ v → many ((y ∷ ys) ++ x ∷ []) ≤ length (cond v (unique_keys bytes_eq ys) (y ∷ unique_keys bytes_eq ys))) [
            | true ↦ λ there. omega (arith, whole, no_more ys x (ap (λ z. list_any (bytes_eq z) ys) x_is ∙ there))
            | false ↦ λ there. omega (arith, whole, one_more ys x)
          ] refl
      | false ↦ λ other all.
          let last : list_any (bytes_eq y) (x ∷ []) ≡ false = ap (λ v. v || false) (false_from_ne_true (bytes_eq y x) (λ eq. true≢false (sym ((bytes_eq-Decides x y).1 (sym ((bytes_eq-Decides y x).0 eq))) ∙ other))) in
          let at : list_any (bytes_eq y) (ys ++ x ∷ []) ≡ list_any (bytes_eq y) ys = split ∙ ap (λ v. list_any (bytes_eq y) ys || v) last ∙ or_false (list_any (bytes_eq y) ys) in
          let later = no_more ys x all in
          let whole : many ((y ∷ ys) ++ x ∷ []) ≡ length (cond (list_any (bytes_eq y) ys) (unique_keys bytes_eq (ys ++ x ∷ [])) (y ∷ unique_keys bytes_eq (ys ++ x ∷ []))) = ap (λ v. length (cond v (unique_keys bytes_eq (ys ++ x ∷ [])) (y ∷ unique_keys bytes_eq (ys ++ x ∷ [])))) at in
          omega (arith, whole, less (list_any (bytes_eq y) ys) later)
    ] refl is
  where
    or_true : (v : Bool) → (v || true) ≡ true
    or_true true = refl
    or_true false = refl

    or_false : (v : Bool) → (v || false) ≡ v
    or_false true = refl
    or_false false = refl

    less : (v : Bool) → many (ys ++ x ∷ []) ≤ many ys → length (cond v (unique_keys bytes_eq (ys ++ x ∷ [])) (y ∷ unique_keys bytes_eq (ys ++ x ∷ []))) ≤ length (cond v (unique_keys bytes_eq ys) (y ∷ unique_keys bytes_eq ys))
    less true later = later
    less false later = omega (arith, later)

-- a clue that has a journal is one of the clues
listed : (clue : Digest) (es : List Entry) → 0 < length (numbers_of clue es) → list_any (bytes_eq clue.0) (clues_of es) ≡ true
listed clue [] some = absurd (omega (arith, some))
listed clue (e ∷ es) some =
    elim (has_clue e) as (λ v. has_clue e ≡ v → 0 < length (map (λ (j : Entry). j.header.jsn) (cond (v && bytes_eq clue.0 e.header.clue.0) (e ∷ filter (is_of_clue clue) es) (filter (is_of_clue clue) es))) → list_any (bytes_eq clue.0) (map (λ (j : Entry). j.header.clue.0) (cond v (e ∷ filter has_clue es) (filter has_clue es))) ≡ true) [
      | true ↦ λ has there. elim (bytes_eq clue.0 e.header.clue.0) as (λ v. 0 < length (map (λ (j : Entry). j.header.jsn) (cond v (e ∷ filter (is_of_clue clue) es) (filter (is_of_clue clue) es))) → (v || list_any (bytes_eq clue.0) (clues_of es)) ≡ true) [
        | true ↦ λ _. refl
        | false ↦ λ more. listed clue es more
      ] there
      | false ↦ λ has there. listed clue es there
    ] refl some

abbrev pub HasClues : List Entry → Type 0
HasClues es = many (clues_of es) ≤ 1_048_576

clues_same : (es : List Entry) (e : Entry) → has_clue e ≡ false → clues_of (es ++ e ∷ []) ≡ clues_of es
clues_same es e none = ap (map (λ (j : Entry). j.header.clue.0)) (filter-append has_clue es (e ∷ []) ∙ ap (λ v. filter has_clue es ++ cond v (e ∷ []) []) none ∙ append-nil (filter has_clue es))

clues_more : (es : List Entry) (e : Entry) → has_clue e ≡ true → clues_of (es ++ e ∷ []) ≡ clues_of es ++ e.header.clue.0 ∷ []
clues_more es e has =
    ap (map (λ (j : Entry). j.header.clue.0)) (filter-append has_clue es (e ∷ []) ∙ ap (λ v. filter has_clue es ++ cond v (e ∷ []) []) has)
    ∙ map-append (λ (j : Entry). j.header.clue.0) (filter has_clue es) (e ∷ [])

pub no_room : (h : History) (clue : Digest) → clues_full real_limits h clue ≡ None → is_no_clue clue ≡ false → length (jsns_with h clue) ≡ 0 → clue_count h < 1_048_576
unfolding clues_full
no_room h clue room has none =
    elim (nat_le 1_048_576 (clue_count h)) as (λ v. nat_le 1_048_576 (clue_count h) ≡ v → clue_count h < 1_048_576) [
      | true ↦ λ full. absurd (none-some CluesFull (sym room
          ∙ ap (λ v. cond ((not v && length (jsns_with h clue) == 0) && nat_le 1_048_576 (clue_count h)) (Some CluesFull) None) has
          ∙ ap (λ v. cond (v && nat_le 1_048_576 (clue_count h)) (Some CluesFull) None) (eq-eqb (length (jsns_with h clue)) 0 none)
          ∙ ap (λ v. cond v (Some CluesFull) None) full))
      | false ↦ λ low. leb-false 1_048_576 (clue_count h) low
    ] refl

clues_by : (before : List Entry) (e : Entry) (k : Kind) → e.header.kind ≡ k → has_clue e ≡ true → IsNextOf (history [] before) e.header k → IsHeader e.header → HasClues before → HasClues (before ++ e ∷ [])
unfolding clue_count jsns_with
clues_by before e kind.Content is has own layout few =
    let at = ap many (clues_more before e has) in
    elim (length (numbers_of e.header.clue before) == 0) as (λ v. (length (numbers_of e.header.clue before) == 0) ≡ v → HasClues (before ++ e ∷ [])) [
      | true ↦ λ none.
          let low = no_room (history [] before) e.header.clue own.room (flip (is_no_clue e.header.clue) has) (eqb-true (length (numbers_of e.header.clue before)) 0 none) in
          omega (arith, at, one_more (clues_of before) e.header.clue.0, low)
      | false ↦ λ some.
          let there : 0 < length (numbers_of e.header.clue before) = positive (length (numbers_of e.header.clue before)) some in
          omega (arith, at, no_more (clues_of before) e.header.clue.0 (listed e.header.clue before there), few)
    ] refl
  where
    flip : (v : Bool) → not v ≡ true → v ≡ false
    flip true is = absurd (true≢false (sym is))
    flip false is = refl

    positive : (n : ℕ) → (n == 0) ≡ false → 0 < n
    positive n is = elim (nat_lt 0 n) as (λ v. nat_lt 0 n ≡ v → 0 < n) [ true ↦ λ lt. ltb-true 0 n lt | false ↦ λ no. absurd (true≢false (sym (eq-eqb n 0 (omega (arith, ltb-false 0 n no))) ∙ is)) ] refl
clues_by before e kind.Genesis is has own layout few = absurd (true≢false (sym has ∙ ap not (subst (λ (k : Kind). clue_ok k e.header.clue ≡ true) is layout.clue)))
clues_by before e kind.Member is has own layout few = absurd (true≢false (sym has ∙ ap not (subst (λ (k : Kind). clue_ok k e.header.clue ≡ true) is layout.clue)))
clues_by before e kind.Time is has own layout few = absurd (true≢false (sym has ∙ ap not (subst (λ (k : Kind). clue_ok k e.header.clue ≡ true) is layout.clue)))
clues_by before e kind.Occult is has own layout few = absurd (true≢false (sym has ∙ ap not (subst (λ (k : Kind). clue_ok k e.header.clue ≡ true) is layout.clue)))
clues_by before e kind.ClueOccult is has own layout few = absurd (true≢false (sym has ∙ ap not (subst (λ (k : Kind). clue_ok k e.header.clue ≡ true) is layout.clue)))
clues_by before e kind.Purge is has own layout few = absurd (true≢false (sym has ∙ ap not (subst (λ (k : Kind). clue_ok k e.header.clue ≡ true) is layout.clue)))

clues_step : (before : List Entry) (e : Entry) → IsNext (history [] before) e.header → HasClues before → HasClues (before ++ e ∷ [])
clues_step before e next few = elim (has_clue e) as (λ v. has_clue e ≡ v → HasClues (before ++ e ∷ [])) [
  | true ↦ λ has. clues_by before e e.header.kind refl has next.own next.layout few
  | false ↦ λ none. omega (arith, ap many (clues_same before e none), few)
] refl

pub next_clues : (before es : List Entry) → AreNext before es → HasClues before → HasClues (before ++ es)
next_clues before [] next few = subst HasClues (sym (append-nil before)) few
next_clues before (e ∷ es) next few = subst HasClues (append_assoc before (e ∷ []) es) (next_clues (before ++ e ∷ []) es next.1 (clues_step before e next.0 few))
