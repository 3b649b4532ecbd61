-- Lemmas on the records of a clue that are kept and that none hides: as numbers, and as journals.
use Rattle.std.specs.List.{list_any}
use Rattle.std.specs.Prelude.{nat_le, slice_get}
use Rattle.std.proofs.Common.{◌≡◌, ℕ, suc, ◌+◌, ◌≤◌, ◌&&◌, Bool, true, false, cond, not, List, [], ◌∷◌, length, map, filter, Some, refl, sym, ◌∙◌, ap, arith}
use Rattle.std.proofs.lemmas.Bool.{le-leb, lt-leb, leb-true, leb-false}
use Rattle.ledger_bytes.specs.declared.digest.Digest.{Digest}
use Rattle.journal_record.specs.Entry.{Entry}
use Rattle.ledger_model.specs.Clues.{is_of_clue, numbers_of}
use Rattle.ledger_model.specs.Targets.{hides}
use Rattle.ledger_model.proofs.LawfulLaws.{AreFrom}

abbrev jsn : Entry → ℕ
jsn e = e.header.jsn

-- a record of a clue that is kept, where p is the point, and that none of these journals hides
abbrev pub is_shown : Digest → ℕ → List Entry → Entry → Bool
is_shown clue p all e = is_of_clue clue e && (nat_le p e.header.jsn && not (list_any (hides e) all))

-- the numbers of those that are kept and shown are those of the journals of which that is so
pub shown_numbers : (first p : ℕ) (hidden : ℕ → Bool) (clue : Digest) (all es : List Entry) → AreFrom first es → ((i : ℕ) (e : Entry) → slice_get es i ≡ Some e → hidden (first + i) ≡ list_any (hides e) all)
    → filter (λ n. nat_le p n && not (hidden n)) (numbers_of clue es) ≡ map jsn (filter (is_shown clue p all) es)
shown_numbers first p hidden clue all [] from same = refl
shown_numbers first p hidden clue all (e ∷ es) from same =
    let rest = shown_numbers (first + 1) p hidden clue all es from.2 (λ i x at. ap hidden (let at_is : (first + 1) + i ≡ first + suc i = omega arith in at_is) ∙ same (suc i) x at) in
    let here : (nat_le p e.header.jsn && not (hidden e.header.jsn)) ≡ (nat_le p e.header.jsn && not (list_any (hides e) all)) = ap (λ v. nat_le p e.header.jsn && not v) (ap hidden (let at_is : e.header.jsn ≡ first + 0 = omega (arith, from.0) in at_is) ∙ same 0 e refl) in
    elim (is_of_clue clue e) as (λ v. filter (λ n. nat_le p n && not (hidden n)) (map jsn (cond v (e ∷ filter (is_of_clue clue) es) (filter (is_of_clue clue) es))) ≡ map jsn (cond (v && (nat_le p e.header.jsn && not (list_any (hides e) all))) (e ∷ filter (is_shown clue p all) es) (filter (is_shown clue p all) es))) [
      | true ↦
          ap (λ v. cond v (e.header.jsn ∷ filter (λ n. nat_le p n && not (hidden n)) (numbers_of clue es)) (filter (λ n. nat_le p n && not (hidden n)) (numbers_of clue es))) here
          ∙ (elim (nat_le p e.header.jsn && not (list_any (hides e) all)) as (λ v. cond v (e.header.jsn ∷ filter (λ n. nat_le p n && not (hidden n)) (numbers_of clue es)) (filter (λ n. nat_le p n && not (hidden n)) (numbers_of clue es)) ≡ map jsn (cond v (e ∷ filter (is_shown clue p all) es) (filter (is_shown clue p all) es))) [
            | true ↦ ap (λ ns. e.header.jsn ∷ ns) rest
            | false ↦ rest
          ])
      | false ↦ rest
    ]

-- none of those in front of the point is kept
pub front_gone : (m p : ℕ) (hidden : ℕ → Bool) (clue : Digest) (es : List Entry) → AreFrom m es → m + length es ≤ p → filter (λ n. nat_le p n && not (hidden n)) (numbers_of clue es) ≡ []
front_gone m p hidden clue [] from below = refl
front_gone m p hidden clue (e ∷ es) from below =
    let rest = front_gone (m + 1) p hidden clue es from.2 (omega (arith, below)) in
    elim (is_of_clue clue e) as (λ v. filter (λ n. nat_le p n && not (hidden n)) (map jsn (cond v (e ∷ filter (is_of_clue clue) es) (filter (is_of_clue clue) es))) ≡ []) [
      | true ↦ ap (λ v. cond (v && not (hidden e.header.jsn)) (e.header.jsn ∷ filter (λ n. nat_le p n && not (hidden n)) (numbers_of clue es)) (filter (λ n. nat_le p n && not (hidden n)) (numbers_of clue es))) (lt-leb p e.header.jsn (omega (arith, from.0, below))) ∙ rest
      | false ↦ rest
    ]

-- all numbers of journals from one on are kept from there on
pub all_kept : (first : ℕ) (clue : Digest) (es : List Entry) (m : ℕ) → AreFrom m es → first ≤ m → filter (λ n. nat_le first n) (numbers_of clue es) ≡ numbers_of clue es
all_kept first clue [] m from le = refl
all_kept first clue (e ∷ es) m from le =
    let rest = all_kept first clue es (m + 1) from.2 (omega (arith, le)) in
    elim (is_of_clue clue e) as (λ v. filter (λ n. nat_le first n) (map jsn (cond v (e ∷ filter (is_of_clue clue) es) (filter (is_of_clue clue) es))) ≡ map jsn (cond v (e ∷ filter (is_of_clue clue) es) (filter (is_of_clue clue) es))) [
      | true ↦ ap (λ v. cond v (e.header.jsn ∷ filter (λ n. nat_le first n) (numbers_of clue es)) (filter (λ n. nat_le first n) (numbers_of clue es))) (le-leb first e.header.jsn (omega (arith, from.0, le))) ∙ ap (λ ns. e.header.jsn ∷ ns) rest
      | false ↦ rest
    ]

-- those that are kept from a floor on and shown, where what is told of them there is so
pub shown_kept : (floor point : ℕ) (told hidden : ℕ → Bool) → floor ≤ point → ((n : ℕ) → floor ≤ n → told n ≡ hidden n) → (ns : List ℕ) → filter (λ n. nat_le point n && not (told n)) (filter (λ n. nat_le floor n) ns) ≡ filter (λ n. nat_le point n && not (hidden n)) ns
shown_kept floor point told hidden low same [] = refl
shown_kept floor point told hidden low same (n ∷ ns) =
    let rest = shown_kept floor point told hidden low same ns in
    elim (nat_le floor n) as (λ v. nat_le floor n ≡ v → filter (λ m. nat_le point m && not (told m)) (cond v (n ∷ filter (λ m. nat_le floor m) ns) (filter (λ m. nat_le floor m) ns)) ≡ cond (nat_le point n && not (hidden n)) (n ∷ filter (λ m. nat_le point m && not (hidden m)) ns) (filter (λ m. nat_le point m && not (hidden m)) ns)) [
      | true ↦ λ e.
          ap (λ v. cond (nat_le point n && not v) (n ∷ filter (λ m. nat_le point m && not (told m)) (filter (λ m. nat_le floor m) ns)) (filter (λ m. nat_le point m && not (told m)) (filter (λ m. nat_le floor m) ns))) (same n (leb-true floor n e))
          ∙ ap (λ l. cond (nat_le point n && not (hidden n)) (n ∷ l) l) rest
      | false ↦ λ e.
          rest ∙ sym (ap (λ v. cond (v && not (hidden n)) (n ∷ filter (λ m. nat_le point m && not (hidden m)) ns) (filter (λ m. nat_le point m && not (hidden m)) ns)) (lt-leb point n (let below = leb-false floor n e in omega (arith, below, low))))
    ] refl
