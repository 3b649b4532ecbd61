-- How claims are parted in two while entries are held against them.
use Rattle.std.specs.Prelude.{All, MatchOption, Bool, true, false, bytes_eq, min, not, slice_get, zero, suc}
use Rattle.std.specs.Bool.{Decides}
use Rattle.std.specs.List.{IsFirstAndRest}
use Rattle.std.specs.List.Sorted.{IsNonDecreasingBy, IsPermutation}
use Rattle.std.proofs.Common.{◌≡◌, inl, inr, ℕ, ◌+◌, ◌<◌, ◌≤◌, List, [], ◌∷◌, ◌++◌, length, length-append, take, get_or, append_assoc, arith, Option, Some, None, refl, sym, ap, subst, ◌∙◌}
use Rattle.std.proofs.lemmas.Bool.{cases_lt}
use Rattle.std.proofs.lemmas.List.{take_more}
use Rattle.std.proofs.lemmas.List.Elements.{All-nil, All-push, All-head, All-tail, All-contains, Contains-append_left, Contains-push}
use Rattle.std.proofs.lemmas.List.Sorted.{All-permutation, Contains-permutation, IsPermutation-sym}
use Rattle.std.proofs.lemmas.Option.{slice_get_past}
use Rattle.std.proofs.lemmas.Slice.Eq.{bytes_eq-Decides}
use Rattle.audit_dump.specs.Claims.{ArePartedAt, HaveMet, IsLeastUnmet, IsMet}
use Rattle.audit_dump.specs.declared.claims.Claim.{Claim}
use Rattle.audit_dump.specs.declared.claims.Meeting.{Meeting}

-- ---- entries

-- one entry more is behind the others
pub earlier_stays : (es : List (List ℕ)) (e : List ℕ) (i : ℕ) → i < length es → slice_get (es ++ e ∷ []) i ≡ slice_get es i
earlier_stays [] e i lt = absurd (omega (arith, lt))
earlier_stays (x ∷ es) e zero lt = refl
earlier_stays (x ∷ es) e (suc i) lt = earlier_stays es e i (omega (arith, lt))

last_is : (es : List (List ℕ)) (e : List ℕ) → slice_get (es ++ e ∷ []) (length es) ≡ Some e
last_is [] e = refl
last_is (x ∷ es) e = last_is es e

some_same : (x y : List ℕ) → Some x ≡ Some y → x ≡ y
some_same x y same = cc

-- the claim of the last entry is met exactly where it is that one
pub met_last : (es : List (List ℕ)) (e : List ℕ) (c : Claim) → c.index ≡ length es → c.entry ≡ e → IsMet (es ++ e ∷ []) c
met_last es e c at same = ap (slice_get (es ++ e ∷ [])) at ∙ last_is es e ∙ ap Some (sym same)

pub unmet_last : (es : List (List ℕ)) (e : List ℕ) (c : Claim) → c.index ≡ length es → (c.entry ≡ e → ⊥) → IsMet (es ++ e ∷ []) c → ⊥
unmet_last es e c at other met = other (some_same c.entry e (sym met ∙ ap (slice_get (es ++ e ∷ [])) at ∙ last_is es e))

-- what a test of two entries tells
told_same : (a b : List ℕ) (t : Bool) → Decides t (a ≡ b) → not t ≡ false → a ≡ b
told_same a b true tells said = tells.0 refl
told_same a b false tells said = absurd cc

told_other : (a b : List ℕ) (t : Bool) → Decides t (a ≡ b) → not t ≡ true → a ≡ b → ⊥
told_other a b true tells said same = absurd cc
told_other a b false tells said same = let never : false ≡ true = tells.1 same in absurd cc

pub is_same : (a b : List ℕ) (ne : Bool) → ne ≡ not (bytes_eq a b) → ne ≡ false → a ≡ b
is_same a b ne is said = told_same a b (bytes_eq a b) (bytes_eq-Decides a b) (sym is ∙ said)

pub is_other : (a b : List ℕ) (ne : Bool) → ne ≡ not (bytes_eq a b) → ne ≡ true → a ≡ b → ⊥
is_other a b ne is said = told_other a b (bytes_eq a b) (bytes_eq-Decides a b) (sym is ∙ said)

-- no entry is there yet
unmet_past : (es : List (List ℕ)) (c : Claim) → length es ≤ c.index → IsMet es c → ⊥
unmet_past es c past met = let none : None ≡ Some c.entry = sym (slice_get_past es c.index past) ∙ met in absurd cc

-- ---- the least number

-- a later entry changes nothing for claims of earlier ones
least_stays : (looked : List Claim) (es : List (List ℕ)) (e : List ℕ) (r : Option ℕ) → All (λ c. c.index < length es) looked → IsLeastUnmet looked es r → IsLeastUnmet looked (es ++ e ∷ []) r
least_stays looked es e None below all = λ k d lt. earlier_stays es e (get_or looked k d).index (below k d lt) ∙ all k d lt
least_stays looked es e (Some n) below is = record {
  claim = is.claim;
  among = is.among;
  number_is = is.number_is;
  fails = λ met. is.fails (sym (earlier_stays es e is.claim.index (All-contains (λ (c : Claim). c.index < length es) looked is.claim below is.among)) ∙ met);
  others = λ k d lt less. earlier_stays es e (get_or looked k d).index (below k d lt) ∙ is.others k d lt less;
}

-- one claim more, which is met
pub least_met : (looked : List Claim) (es : List (List ℕ)) (r : Option ℕ) (c : Claim) → IsLeastUnmet looked es r → IsMet es c → IsLeastUnmet (looked ++ c ∷ []) es r
least_met looked es None c all met = All-push (IsMet es) looked c all met
least_met looked es (Some n) c is met = record {
  claim = is.claim;
  among = Contains-append_left looked (c ∷ []) is.claim is.among;
  number_is = is.number_is;
  fails = is.fails;
  others = All-push (λ (o : Claim). o.number < n → IsMet es o) looked c is.others (λ less. met);
}

-- one claim more, which isn't met
pub least_unmet : (looked : List Claim) (es : List (List ℕ)) (r : Option ℕ) (c : Claim) (n : ℕ) → IsLeastUnmet looked es r → (IsMet es c → ⊥) → MatchOption r (n ≡ c.number) (λ l. n ≡ min l c.number)
    → IsLeastUnmet (looked ++ c ∷ []) es (Some n)
least_unmet looked es None c n all fails is = record {
  claim = c;
  among = Contains-push looked c;
  number_is = sym is;
  fails = fails;
  others = All-push (λ (o : Claim). o.number < n → IsMet es o) looked c (λ k d lt less. all k d lt) (λ less. absurd (omega (arith, is, less)));
}
least_unmet looked es (Some l) c n old fails is = elim (cases_lt c.number l) [
  | inl less ↦ record {
    claim = c;
    among = Contains-push looked c;
    number_is = omega (arith, is, less);
    fails = fails;
    others = All-push (λ (o : Claim). o.number < n → IsMet es o) looked c (λ k d lt below. old.others k d lt (omega (arith, is, less, below))) (λ below. absurd (omega (arith, is, less, below)));
  }
  | inr most ↦ record {
    claim = old.claim;
    among = Contains-append_left looked (c ∷ []) old.claim old.among;
    number_is = omega (arith, old.number_is, is, most);
    fails = old.fails;
    others = All-push (λ (o : Claim). o.number < n → IsMet es o) looked c (λ k d lt below. old.others k d lt (omega (arith, is, most, below))) (λ below. absurd (omega (arith, is, most, below)));
  }
]

-- the order of claims doesn't matter
least_moved : (xs ys : List Claim) (es : List (List ℕ)) (r : Option ℕ) → IsPermutation xs ys → IsLeastUnmet xs es r → IsLeastUnmet ys es r
least_moved xs ys es None moved all = All-permutation (IsMet es) xs ys moved all
least_moved xs ys es (Some n) moved is = record {
  claim = is.claim;
  among = Contains-permutation xs ys is.claim moved is.among;
  number_is = is.number_is;
  fails = is.fails;
  others = All-permutation (λ (o : Claim). o.number < n → IsMet es o) xs ys moved is.others;
}

-- ---- parts

-- no entry yet
pub parted_first : (claims : List Claim) (m : Meeting) → IsPermutation claims m.rest.now → IsNonDecreasingBy (λ (c : Claim). c.index) m.rest.now → m.least ≡ None → HaveMet claims [] m
parted_first claims m moved sorted none = record {
  looked = [];
  moved = moved;
  below = All-nil (λ (c : Claim). c.index < 0);
  least = subst (λ (r : Option ℕ). IsLeastUnmet [] [] r) (sym none) (All-nil (IsMet []));
  behind = λ k d lt. omega arith;
  sorted = sorted;
}

-- the next entry comes
pub parted_next : (claims : List Claim) (es : List (List ℕ)) (e : List ℕ) (m : Meeting) → HaveMet claims es m → ArePartedAt (length es) claims (es ++ e ∷ []) m
parted_next claims es e m h = record {
  looked = h.looked;
  moved = h.moved;
  below = λ k d lt. omega (arith, h.below k d lt, length-append es (e ∷ []));
  least = least_stays h.looked es e m.least h.below h.least;
  behind = h.behind;
  sorted = h.sorted;
}

-- one claim more is looked at
pub parted_more : (n : ℕ) (claims : List Claim) (es : List (List ℕ)) (old new : Meeting) (c : Claim) (p : ArePartedAt n claims es old) → IsFirstAndRest old.rest.now c new.rest.now → c.index < length es
    → IsLeastUnmet (p.looked ++ c ∷ []) es new.least → ArePartedAt n claims es new
parted_more n claims es old new c p first below least = record {
  looked = p.looked ++ c ∷ [];
  moved = subst (λ (t : List Claim). IsPermutation claims t) (ap (λ (t : List Claim). p.looked ++ t) first.0 ∙ sym (append_assoc p.looked (c ∷ []) new.rest.now)) p.moved;
  below = All-push (λ (o : Claim). o.index < length es) p.looked c p.below below;
  least = least;
  behind = All-tail (λ (o : Claim). n ≤ o.index) c new.rest.now (subst (λ (t : List Claim). All (λ o. n ≤ o.index) t) first.0 p.behind);
  sorted = λ i j d le lt. subst (λ (t : List Claim). IsNonDecreasingBy (λ o. o.index) t) first.0 p.sorted (suc i) (suc j) d (omega (arith, le)) (omega (arith, lt));
}

-- no claim of the last entry is left, since the first that is left is of a later one
pub parted_past : (n : ℕ) (claims : List Claim) (es : List (List ℕ)) (m : Meeting) (c : Claim) (rest : List Claim) → ArePartedAt n claims es m → length es ≡ n + 1 → IsFirstAndRest m.rest.now c rest → (c.index ≡ n → ⊥) → HaveMet claims es m
parted_past n claims es m c rest p long first other = record {
  looked = p.looked;
  moved = p.moved;
  below = p.below;
  least = p.least;
  behind = λ k d lt. omega (arith, long, after, from_first k d lt);
  sorted = p.sorted;
}
  where
    head : (d : Claim) → get_or m.rest.now 0 d ≡ c
    head d = ap (λ (t : List Claim). get_or t 0 d) first.0

    from_first : (k : ℕ) (d : Claim) → k < length m.rest.now → c.index ≤ (get_or m.rest.now k d).index
    from_first k d lt = omega (arith, p.sorted 0 k d (omega arith) lt, ap (λ (o : Claim). o.index) (head d))

    least_one : n ≤ c.index
    least_one = All-head (λ (o : Claim). n ≤ o.index) c rest (subst (λ (t : List Claim). All (λ o. n ≤ o.index) t) first.0 p.behind)

    after : n < c.index
    after = elim (cases_lt n c.index) [ inl more ↦ more | inr most ↦ absurd (other (omega (arith, least_one, most))) ]

-- ---- the end

-- of the claims that weren't looked at one more is counted, which isn't met
pub left_more : (claims : List Claim) (es : List (List ℕ)) (m : Meeting) (h : HaveMet claims es m) (i : ℕ) (d : Claim) (r : Option ℕ) (n : ℕ) → i < length m.rest.now → IsLeastUnmet (h.looked ++ take i m.rest.now) es r
    → MatchOption r (n ≡ (get_or m.rest.now i d).number) (λ l. n ≡ min l (get_or m.rest.now i d).number) → IsLeastUnmet (h.looked ++ take (i + 1) m.rest.now) es (Some n)
left_more claims es m h i d r n lt before is =
    let c = get_or m.rest.now i d in
    subst (λ (t : List Claim). IsLeastUnmet t es (Some n)) (append_assoc h.looked (take i m.rest.now) (c ∷ []) ∙ ap (λ (t : List Claim). h.looked ++ t) (sym (take_more m.rest.now i d lt)))
    (least_unmet (h.looked ++ take i m.rest.now) es r c n before (unmet_past es c (h.behind i d lt)) is)

-- all are counted
pub left_all : (claims : List Claim) (es : List (List ℕ)) (m : Meeting) (h : HaveMet claims es m) (r : Option ℕ) → IsLeastUnmet (h.looked ++ m.rest.now) es r → IsLeastUnmet claims es r
left_all claims es m h r is = least_moved (h.looked ++ m.rest.now) claims es r (IsPermutation-sym claims (h.looked ++ m.rest.now) h.moved) is
