-- What is spelled alike, with something behind it, is the same.
use Rattle.std.proofs.Common.{◌≡◌, ℕ, List, [], ◌∷◌, ◌++◌, length, All, Result, Ok, refl, sym, ap, ap₂, ◌∙◌, append_assoc, arith}
use Rattle.std.specs.List.{flat_map, concat}
use Rattle.std.proofs.lemmas.List.Elements.{All-head, All-tail}
use Rattle.ledger_bytes.specs.declared.failure.Bad.{Bad}
use Rattle.ledger_bytes.specs.Fields.{Unread, left_from, ReadsBack}
use Rattle.ledger_bytes.proofs.Fields.{ok_is}

-- two texts that are read as values, whatever follows, and stand in front of the same bytes
pub same_read : {A : Type 0} (read : Unread → Result (A × Unread) Bad) (x y : A) (text other rest more : List ℕ)
    → read (left_from 0 (text ++ rest)) ≡ Ok (x, left_from 0 rest) → read (left_from 0 (other ++ more)) ≡ Ok (y, left_from 0 more)
    → text ++ rest ≡ other ++ more → (x ≡ y) × (rest ≡ more)
same_read {A} read x y text other rest more first second same =
    let both : (x, left_from 0 rest) ≡ (y, left_from 0 more) = ok_is (x, left_from 0 rest) (y, left_from 0 more) (sym first ∙ ap (λ bytes. read (left_from 0 bytes)) same ∙ second) in
    (ap (λ (p : A × Unread). p.0) both, ap (λ (p : A × Unread). p.1.rest) both)

-- the same of a spelling that a reading takes back
pub same_spelled : {A : Type 0} (read : Unread → Result (A × Unread) Bad) (spell : A → List ℕ) (fits : A → Type 0) → ReadsBack read spell fits
    → (x y : A) (rest more : List ℕ) → fits x → fits y → spell x ++ rest ≡ spell y ++ more → (x ≡ y) × (rest ≡ more)
same_spelled read spell fits back x y rest more fit_x fit_y same =
    same_read read x y (spell x) (spell y) rest more (back.again x 0 rest fit_x) (back.again y 0 more fit_y) same

-- and of as many on both sides, one behind the other
pub same_many : {A : Type 0} (read : Unread → Result (A × Unread) Bad) (spell : A → List ℕ) (fits : A → Type 0) → ReadsBack read spell fits
    → (xs ys : List A) (rest more : List ℕ) → All fits xs → All fits ys → length xs ≡ length ys
    → flat_map spell xs ++ rest ≡ flat_map spell ys ++ more → (xs ≡ ys) × (rest ≡ more)
same_many read spell fits back [] [] rest more fit_xs fit_ys count same = (refl, same)
same_many read spell fits back [] (y ∷ ys) rest more fit_xs fit_ys count same = absurd (omega (arith, count))
same_many read spell fits back (x ∷ xs) [] rest more fit_xs fit_ys count same = absurd (omega (arith, count))
same_many read spell fits back (x ∷ xs) (y ∷ ys) rest more fit_xs fit_ys count same =
    let moved : spell x ++ (flat_map spell xs ++ rest) ≡ spell y ++ (flat_map spell ys ++ more) =
    sym (append_assoc (spell x) (flat_map spell xs) rest) ∙ same ∙ append_assoc (spell y) (flat_map spell ys) more in
    let first = same_spelled read spell fits back x y (flat_map spell xs ++ rest) (flat_map spell ys ++ more) (All-head fits x xs fit_xs) (All-head fits y ys fit_ys) moved in
    let others = same_many read spell fits back xs ys rest more (All-tail fits x xs fit_xs) (All-tail fits y ys fit_ys) (omega (arith, count)) first.1 in
    (ap₂ (λ z zs. z ∷ zs) first.0 others.0, others.1)

-- lists in a row are what each of them spells
pub concat_is : (xs : List (List ℕ)) → concat xs ≡ flat_map (λ x. x) xs
concat_is [] = refl
concat_is (x ∷ xs) = ap (λ rest. x ++ rest) (concat_is xs)
