-- Items that are read or written one after the other.
use Rattle.std.proofs.Common.{◌≡◌, ℕ, zero, suc, ◌+◌, ◌-◌, ◌<◌, Bool, true, List, [], ◌∷◌, ◌++◌, length, Result, Ok, Err, refl, sym, ap, subst, ◌∙◌, append_assoc, append-nil, arith}
use Rattle.std.specs.Prelude.{⊤, IfErr}
use Rattle.std.specs.List.{flat_map}
use Rattle.ledger_bytes.specs.declared.failure.Bad.{Bad}
use Rattle.ledger_bytes.specs.Fields.{Unread, ◌>>=◌, IsBytes, Took}
use Rattle.ledger_bytes.proofs.Fields.{bind_ok, ok_is, Took-then, IsTextOf, text_none, text_then}
use Rattle.journal_record.proofs.ReadingSteps.{ruled, field_text}
use Rattle.pseudo_genesis.specs.Reading.{many_at, IsBreak}

-- items were read already, and what is read behind them
abbrev pub after_items : {A : Type 0} → List A → Result (List A × Unread) Bad → Result (List A × Unread) Bad
after_items items read = read >>= λ more. Ok (items ++ more.0, more.1)

-- a reading that is followed by nothing
pub text_last : {A B : Type 0} (read : Unread → Result (A × Unread) Bad) (f : A × Unread → Result (B × Unread) Bad) (whole : ℕ) (t : List ℕ) (x : A) (y : B)
    → IsTextOf read whole t x → IsTextOf (λ l. f (x, l)) whole [] y → IsTextOf (λ l. read l >>= f) whole t y
text_last read f whole t x y first second =
    subst (λ (s : List ℕ). IsTextOf (λ l. read l >>= f) whole s y) (append-nil t) (text_then read f whole t [] x y first second)

-- a field that keeps its rule and is followed by nothing
pub text_end : {A B : Type 0} (read : Unread → Result (A × Unread) Bad) (ok : A → Bool) (bad : A → Bad) (f : A × Unread → Result (B × Unread) Bad) (whole : ℕ) (t : List ℕ) (x : A) (y : B)
    → IsTextOf read whole t x → ok x ≡ true → IsTextOf (λ l. f (x, l)) whole [] y → IsTextOf (λ l. read l >>= ruled ok bad f) whole t y
text_end read ok bad f whole t x y first rule second =
    subst (λ (s : List ℕ). IsTextOf (λ l. read l >>= ruled ok bad f) whole s y) (append-nil t) (field_text read ok bad f whole t [] x y first rule second)

-- which breaks there are behind a reading
pub then_breaks : {A B : Type 0} (r : Result A Bad) (f : A → Result B Bad) → IfErr r IsBreak → ((x : A) → IfErr (f x) IsBreak) → IfErr (r >>= f) IsBreak
then_breaks (Ok x) f first second = second x
then_breaks (Err bad) f first second = first

module _ {S A : Type 0} (read : S → Unread → Result (A × Unread) Bad) (next : S → A → S) where
  -- an item more was read
  one_more : (n : ℕ) (known : S) (l after : Unread) (items : List A) (item : A) → read known l ≡ Ok (item, after)
      → after_items items (many_at read next (suc n) known l) ≡ after_items (items ++ item ∷ []) (many_at read next n (next known item) after)
  one_more n known l after items item is =
      ap (λ r. after_items items (r >>= λ x. many_at read next n (next known x.0) x.1 >>= λ more. Ok (x.0 ∷ more.0, more.1))) is
      ∙ regrouped (many_at read next n (next known item) after) where
        regrouped : (r : Result (List A × Unread) Bad) → after_items items (r >>= λ more. Ok (item ∷ more.0, more.1)) ≡ after_items (items ++ item ∷ []) r
        regrouped (Ok more) = ap (λ xs. Ok (xs, more.1)) (sym (append_assoc items (item ∷ []) more.0))
        regrouped (Err bad) = refl

  pub step_read : (count at : ℕ) (known : S) (l after : Unread) (items : List A) (item : A) (whole : Result (List A × Unread) Bad) → at < count → read known l ≡ Ok (item, after)
      → whole ≡ after_items items (many_at read next (count - at) known l) → whole ≡ after_items (items ++ item ∷ []) (many_at read next (count - (at + 1)) (next known item) after)
  step_read count at known l after items item whole below is so_far =
      let left_over : count - at ≡ suc (count - (at + 1)) = omega (arith, below) in
      so_far ∙ ap (λ n. after_items items (many_at read next n known l)) left_over ∙ one_more (count - (at + 1)) known l after items item is

  -- an item breaks
  pub step_broken : (count at : ℕ) (known : S) (l : Unread) (items : List A) (bad : Bad) (whole : Result (List A × Unread) Bad) → at < count → read known l ≡ Err bad
      → whole ≡ after_items items (many_at read next (count - at) known l) → whole ≡ Err bad
  step_broken count at known l items bad whole below is so_far =
      let left_over : count - at ≡ suc (count - (at + 1)) = omega (arith, below) in
      so_far ∙ ap (λ n. after_items items (many_at read next n known l)) left_over
      ∙ ap (λ r. after_items items (r >>= λ x. many_at read next (count - (at + 1)) (next known x.0) x.1 >>= λ more. Ok (x.0 ∷ more.0, more.1))) is

  -- all were read
  pub all_read : (count at : ℕ) (known : S) (l : Unread) (items : List A) (whole : Result (List A × Unread) Bad) → at ≡ count
      → whole ≡ after_items items (many_at read next (count - at) known l) → whole ≡ Ok (items, l)
  all_read count at known l items whole done so_far =
      let none : count - at ≡ 0 = omega (arith, done) in
      so_far ∙ ap (λ n. after_items items (many_at read next n known l)) none ∙ ap (λ xs. Ok (xs, l)) (append-nil items)

  -- what breaks
  pub many_breaks : ((known : S) (l : Unread) → IfErr (read known l) IsBreak) → (n : ℕ) (known : S) (l : Unread) → IfErr (many_at read next n known l) IsBreak
  many_breaks each zero known l = tt
  many_breaks each (suc n) known l =
      then_breaks (read known l) (λ x. many_at read next n (next known x.0) x.1 >>= λ more. Ok (x.0 ∷ more.0, more.1)) (each known l)
      (λ x. then_breaks (many_at read next n (next known x.0) x.1) (λ more. Ok (x.0 ∷ more.0, more.1)) (many_breaks each n (next known x.0) x.1) (λ more. tt))

  module _ (text : A → List ℕ) (fits : S → A → Type 0) where
    -- each item fits behind those in front of it
    abbrev pub AreFit : S → List A → Type 0
    AreFit known [] = ⊤
    AreFit known (x ∷ xs) = fits known x × AreFit (next known x) xs

    -- what is read is spelled so
    pub many_takes : ((known : S) (l : Unread) (x : A) (after : Unread) → IsBytes l.rest → read known l ≡ Ok (x, after) → Took l (text x) after × fits known x)
        → (n : ℕ) (known : S) (l : Unread) (xs : List A) (after : Unread) → IsBytes l.rest → many_at read next n known l ≡ Ok (xs, after) → Took l (flat_map text xs) after × AreFit known xs × (length xs ≡ n)
    many_takes each zero known l xs after bytes e =
        subst (λ (y : List A × Unread). Took l (flat_map text y.0) y.1 × AreFit known y.0 × (length y.0 ≡ 0)) (ok_is ([], l) (xs, after) e)
        (record { whole = refl; parts = refl; bytes = bytes }, tt, refl)
    many_takes each (suc n) known l xs after bytes e =
        let first = bind_ok (read known l) (λ x. many_at read next n (next known x.0) x.1 >>= λ more. Ok (x.0 ∷ more.0, more.1)) (xs, after) e in
        let took = each known l first.0.0 first.0.1 bytes first.1 in
        let rest = bind_ok (many_at read next n (next known first.0.0) first.0.1) (λ more. Ok (first.0.0 ∷ more.0, more.1)) (xs, after) first.2 in
        let more = many_takes each n (next known first.0.0) first.0.1 rest.0.0 rest.0.1 took.0.bytes rest.1 in
        subst (λ (y : List A × Unread). Took l (flat_map text y.0) y.1 × AreFit known y.0 × (length y.0 ≡ suc n)) (ok_is (first.0.0 ∷ rest.0.0, rest.0.1) (xs, after) rest.2)
        (Took-then l (text first.0.0) first.0.1 (flat_map text rest.0.0) rest.0.1 took.0 more.0, (took.1, more.1), ap suc more.2)

    -- what is spelled is read
    pub many_text : (whole : ℕ) → ((known : S) (x : A) → fits known x → IsTextOf (read known) whole (text x) x)
        → (known : S) (xs : List A) → AreFit known xs → IsTextOf (many_at read next (length xs) known) whole (flat_map text xs) xs
    many_text whole each known [] fit = text_none whole []
    many_text whole each known (x ∷ xs) fit =
        text_then (read known) (λ v. many_at read next (length xs) (next known v.0) v.1 >>= λ more. Ok (v.0 ∷ more.0, more.1)) whole (text x) (flat_map text xs) x (x ∷ xs) (each known x fit.0)
        (text_last (many_at read next (length xs) (next known x)) (λ more. Ok (x ∷ more.0, more.1)) whole (flat_map text xs) xs (x ∷ xs) (many_text whole each (next known x) xs fit.1) (text_none whole (x ∷ xs)))
