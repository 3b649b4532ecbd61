-- Steps of a reading: a field and the rule that it keeps, and a text that is all of the bytes.
use Rattle.std.proofs.Common.{◌≡◌, ℕ, zero, suc, ◌-◌, Bool, true, cond, eqb, List, [], ◌++◌, length, Option, Some, None, Result, Ok, Err, refl, sym, ap, subst, ◌∙◌, ◌+◌, take, append_assoc, arith, inl, inr}
use Rattle.std.specs.Prelude.{ok_or}
use Rattle.std.proofs.lemmas.Bool.{eqb-true, cases_lt}
use Rattle.std.proofs.lemmas.List.{append-nil, nil_from_length, take-append-le}
use Rattle.ledger_bytes.specs.declared.failure.Bad.{Bad}
use Rattle.ledger_bytes.specs.declared.failure.Bad.TheVariants.{Trailing}
use Rattle.ledger_bytes.specs.Fields.{Unread, left_from, ◌>>=◌, end_at, IsBytes, Took, ReadsBack}
use Rattle.ledger_bytes.proofs.Fields.{bind_ok, check_ok, ok_is, IsTextOf, text_then, all_of}
use Rattle.journal_record.specs.declared.header.Kind.{Kind}
use Rattle.journal_record.specs.declared.header.Kind.TheVariants.{Genesis, Content, Member, Time, Occult, Purge, ClueOccult}
use Rattle.journal_record.specs.Header.{code_of}
use Rattle.journal_record.specs.Rules.{kind_of}
use Rattle.journal_record.specs.Reading.{known_kind}
use Rattle.std.proofs.Math.Seq.{take-append-add}

-- a reading's answer
abbrev pub ended : {A : Type 0} → A → Unread → Result (A × Unread) Bad
ended x after = Ok (x, after)

-- a test that ends the reading where it fails
abbrev pub test : Bool → Bad → Result (Unit {0}) Bad
test ok bad = cond ok (Ok tt) (Err bad)

-- what follows a field that has a rule
abbrev pub ruled : {A B : Type 0} → (A → Bool) → (A → Bad) → (A × Unread → Result B Bad) → A × Unread → Result B Bad
ruled ok bad f v = test (ok v.0) (bad v.0) >>= λ _. f v

module _ {A B : Type 0} (read : Unread → Result (A × Unread) Bad) (spell : A → List ℕ) (fits : A → Type 0) (back : ReadsBack read spell fits) where
  -- a field, whatever it is
  pub plain_takes : (f : A × Unread → Result B Bad) (l : Unread) (y : B) → IsBytes l.rest → (read l >>= f) ≡ Ok y → (v : A × Unread) × Took l (spell v.0) v.1 × fits v.0 × (f v ≡ Ok y)
  plain_takes f l y bytes e =
      let a = bind_ok (read l) f y e in
      let t = back.takes l a.0.0 a.0.1 bytes a.1 in
      (a.0, t.0, t.1, a.2)

  module _ (ok : A → Bool) (bad : A → Bad) where
    -- a field that has a rule
    pub field_takes : (f : A × Unread → Result B Bad) (l : Unread) (y : B) → IsBytes l.rest → (read l >>= ruled ok bad f) ≡ Ok y → (v : A × Unread) × Took l (spell v.0) v.1 × fits v.0 × (ok v.0 ≡ true) × (f v ≡ Ok y)
    field_takes f l y bytes e =
        let a = plain_takes (ruled ok bad f) l y bytes e in
        let b = bind_ok (test (ok a.0.0) (bad a.0.0)) (λ _. f a.0) y a.3 in
        let rule = check_ok (ok a.0.0) (bad a.0.0) tt b.0 b.1 in
        (a.0, a.1, a.2, rule.0, b.2)

-- a field that keeps its rule, and what follows it
pub field_text : {A B : Type 0} (read : Unread → Result (A × Unread) Bad) (ok : A → Bool) (bad : A → Bad) (f : A × Unread → Result (B × Unread) Bad) (whole : ℕ) (t u : List ℕ) (x : A) (y : B)
    → IsTextOf read whole t x → ok x ≡ true → IsTextOf (λ l. f (x, l)) whole u y → IsTextOf (λ l. read l >>= ruled ok bad f) whole (t ++ u) y
field_text read ok bad f whole t u x y first rule second =
    text_then read (ruled ok bad f) whole t u x y first (subst (λ b. IsTextOf (λ l. test b (bad x) >>= λ _. f (x, l)) whole u y) (sym rule) second)

-- what is looked at in front, before the whole is read from the same place
pub guard_text : {A B : Type 0} (guard : Unread → Result (A × Unread) Bad) (read : Unread → Result (B × Unread) Bad) (whole : ℕ) (p q : List ℕ) (u : A) (x : B)
    → IsTextOf guard whole p u → IsTextOf read whole (p ++ q) x → IsTextOf (λ l. guard l >>= λ _. read l) whole (p ++ q) x
guard_text guard read whole p q u x first second = record {
  again = λ rest.
      ap (λ (s : List ℕ). guard (left_from whole s) >>= λ _. read (left_from whole ((p ++ q) ++ rest))) (append_assoc p q rest)
      ∙ (ap (λ r. r >>= λ _. read (left_from whole ((p ++ q) ++ rest))) (first.again (q ++ rest)) ∙ second.again rest);
  cut = λ k lt.
      elim (cases_lt k (length p)) [
        | inl within ↦
            let e : take k (p ++ q) ≡ take k p = take-append-le k p q (omega arith) in
            ap (λ (s : List ℕ). guard (left_from whole s) >>= λ _. read (left_from whole (take k (p ++ q)))) e
            ∙ ap (λ r. r >>= λ _. read (left_from whole (take k (p ++ q)))) (first.cut k within)
        | inr past ↦
            let n : k ≡ length p + (k - length p) = omega arith in
            let e : take k (p ++ q) ≡ p ++ take (k - length p) q = ap (λ (i : ℕ). take i (p ++ q)) n ∙ take-append-add p q (k - length p) in
            ap (λ (s : List ℕ). guard (left_from whole s) >>= λ _. read (left_from whole (take k (p ++ q)))) e
            ∙ (ap (λ r. r >>= λ _. read (left_from whole (take k (p ++ q)))) (first.again (take (k - length p) q)) ∙ second.cut k lt)
      ];
}

-- what was taken is what is answered
pub answered : {A : Type 0} (text : A → List ℕ) (fits : A → Type 0) (l : Unread) (x y : A) (b c : Unread) → ended x b ≡ ended y c → Took l (text x) b → fits x → Took l (text y) c × fits y
answered text fits l x y b c e took fit =
    subst (λ z. Took l (text z.0) z.1 × fits z.0) (ok_is (x, b) (y, c) e) (took, fit)

-- ---- a text that is all of the bytes

-- what is read of all bytes is spelled so, each byte of it
pub whole_takes : {A : Type 0} (read : Unread → Result (A × Unread) Bad) (spell : A → List ℕ) (fits : A → Type 0) → ReadsBack read spell fits
    → (bytes : List ℕ) (x : A) → IsBytes bytes → all_of read bytes ≡ Ok x → fits x × (bytes ≡ spell x)
whole_takes read spell fits back bytes x plain e =
    let start : Unread = left_from (length bytes) bytes in
    let r = bind_ok (read start) (λ r. end_at r.0 r.1) x e in
    let c = check_ok (eqb (length r.0.1.rest) 0) (Trailing (r.0.1.whole - length r.0.1.rest)) r.0.0 x r.2 in
    let took = back.takes start r.0.0 r.0.1 plain r.1 in
    let nothing : r.0.1.rest ≡ [] = nil_from_length r.0.1.rest (eqb-true _ _ c.0) in
    let is : bytes ≡ spell r.0.0 = took.0.parts ∙ ap (λ (rest : List ℕ). spell r.0.0 ++ rest) nothing ∙ append-nil (spell r.0.0) in
    subst (λ y. fits y × (bytes ≡ spell y)) c.1 (took.1, is)

-- what all bytes spell is read
pub whole_told : {A : Type 0} (read : Unread → Result (A × Unread) Bad) (bytes text : List ℕ) (x : A) → IsTextOf read (length bytes) text x → bytes ≡ text → all_of read bytes ≡ Ok x
whole_told read bytes text x is e =
    ap (λ (s : List ℕ). read (left_from (length bytes) s) >>= λ r. end_at r.0 r.1) (e ∙ sym (append-nil text))
    ∙ ap (λ r. r >>= λ r. end_at r.0 r.1) (is.again [])

-- ---- the kinds

-- a value that is there
ok_or_ok : {A : Type 0} (o : Option A) (d : Bad) (x : A) → ok_or o d ≡ Ok x → o ≡ Some x
ok_or_ok None d x e = absurd cc
ok_or_ok (Some y) d x e = cc

-- a number stands for one kind
pub kind_code : (n : ℕ) (kind : Kind) → kind_of n ≡ Some kind → code_of kind ≡ n
kind_code zero kind e = let is : Genesis ≡ kind = cc in ap code_of (sym is)
kind_code (suc zero) kind e = let is : Content ≡ kind = cc in ap code_of (sym is)
kind_code (suc (suc zero)) kind e = let is : Member ≡ kind = cc in ap code_of (sym is)
kind_code (suc (suc (suc zero))) kind e = let is : Time ≡ kind = cc in ap code_of (sym is)
kind_code (suc (suc (suc (suc zero)))) kind e = let is : Occult ≡ kind = cc in ap code_of (sym is)
kind_code (suc (suc (suc (suc (suc zero))))) kind e = let is : Purge ≡ kind = cc in ap code_of (sym is)
kind_code (suc (suc (suc (suc (suc (suc zero)))))) kind e = let is : ClueOccult ≡ kind = cc in ap code_of (sym is)
kind_code (suc (suc (suc (suc (suc (suc (suc n))))))) kind e = absurd cc

-- a kind that is known has that number
pub kind_takes : (n : ℕ) (kind : Kind) → known_kind n ≡ Ok kind → code_of kind ≡ n
kind_takes n kind e = kind_code n kind (ok_or_ok (kind_of n) _ kind e)

-- the number of a kind stands for it
pub kind_again : (kind : Kind) → known_kind (code_of kind) ≡ Ok kind
kind_again Genesis = refl
kind_again Content = refl
kind_again Member = refl
kind_again Time = refl
kind_again Occult = refl
kind_again Purge = refl
kind_again ClueOccult = refl
