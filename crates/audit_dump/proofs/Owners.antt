-- Whose records a purge behind a base takes, by the headers from the point in force on.
use Rattle.std.specs.Prelude.{filter, max, min, nat_le, nat_lt, slice_get, zero, suc}
use Rattle.std.specs.Option.{option_to_list}
use Rattle.std.proofs.Common.{◌≡◌, ℕ, ◌+◌, ◌-◌, ◌≤◌, ◌&&◌, Bool, true, false, cond, List, [], ◌∷◌, ◌++◌, length, map, take, drop, Option, None, refl, sym, ◌∙◌, ap, ap₂, subst, arith, length-append}
use Rattle.std.proofs.lemmas.Bool.{le-leb, lt-leb, le-ltb, lt-ltb, ltb-true, ltb-false, leb-true, leb-false}
use Rattle.std.proofs.lemmas.List.{length-map, length-drop, take_all}
use Rattle.journal_record.specs.Entry.{Entry}
use Rattle.journal_record.specs.declared.header.Header.{Header}
use Rattle.member_book.specs.Erasures.{is_record}
use Rattle.pseudo_genesis.specs.declared.base.Base.{Base}
use Rattle.ledger_model.specs.Behind.{AreBehind, first_of, next_number}
use Rattle.ledger_model.specs.History.{greatest_point, history, point}
use Rattle.ledger_model.specs.Needs.{is_taken, purge_needs}
use Rattle.ledger_model.proofs.LawfulLaws.{AreFrom}
use Rattle.ledger_book.specs.Books.{Kept}
use Rattle.ledger_book.specs.Purges.{owners_in}
use Rattle.ledger_book.specs.Reading.{StandsBehind}

and_out : (a b c : Bool) → b ≡ false → (a && b && c) ≡ false
and_out true b c is = ap (λ v. v && c) is
and_out false b c is = refl

and_last : (a b c : Bool) → c ≡ false → (a && b && c) ≡ false
and_last true true c is = is
and_last true false c is = refl
and_last false b c is = refl

and_all : (a b c : Bool) → b ≡ true → c ≡ true → (a && b && c) ≡ a
and_all true b c first last = ap (λ v. v && c) first ∙ last
and_all false b c first last = refl

drop_none : (n : ℕ) → ◌≡◌ {A = List Entry} (drop n []) []
drop_none zero = refl
drop_none (suc n) = refl

take_none : (n : ℕ) → ◌≡◌ {A = List Entry} (take n []) []
take_none zero = refl
take_none (suc n) = refl

abbrev member : Entry → ℕ
member e = e.header.member

abbrev owned : List Entry → List ℕ
owned es = map (λ (x : Header). x.member) (filter (λ (x : Header). is_record x.kind) (map (λ (e : Entry). e.header) es))

taken_from : (m from to : ℕ) (es : List Entry) → AreFrom m es → map member (filter (is_taken from to) es) ≡ owned (take (to - max from m) (drop (from - m) es))
taken_from m from to [] numbered = sym (ap (λ (l : List Entry). owned (take (to - max from m) l)) (drop_none (from - m)) ∙ ap owned (take_none (to - max from m)))
taken_from m from to (e ∷ es) numbered =
    let rest = filter (is_taken from to) es in
    let later = taken_from (m + 1) from to es numbered.2 in
    let own = is_record e.header.kind in
    elim (nat_lt m from) as (λ v. nat_lt m from ≡ v → map member (filter (is_taken from to) (e ∷ es)) ≡ owned (take (to - max from m) (drop (from - m) (e ∷ es)))) [
      | true ↦ λ is.
          let lt = ltb-true m from is in
          let count : to - max from (m + 1) ≡ to - max from m = omega (arith, lt) in
          let place : from - m ≡ suc (from - (m + 1)) = omega (arith, lt) in
          ap (λ v. map member (cond v (e ∷ rest) rest)) (and_out own (nat_le from e.header.jsn) (nat_lt e.header.jsn to) (lt-leb from e.header.jsn (omega (arith, lt, numbered.0))))
          ∙ later ∙ ap (λ n. owned (take n (drop (from - (m + 1)) es))) count ∙ sym (ap (λ n. owned (take (to - max from m) (drop n (e ∷ es)))) place)
      | false ↦ λ is.
          let le = ltb-false m from is in
          let place : from - m ≡ 0 = omega (arith, le) in
          let next : from - (m + 1) ≡ 0 = omega (arith, le) in
          elim (nat_lt m to) as (λ v. nat_lt m to ≡ v → map member (filter (is_taken from to) (e ∷ es)) ≡ owned (take (to - max from m) (drop (from - m) (e ∷ es)))) [
            | true ↦ λ below.
                let lt = ltb-true m to below in
                let count : to - max from m ≡ suc (to - max from (m + 1)) = omega (arith, lt, le) in
                let ends : owned (take (to - max from m) (drop (from - m) (e ∷ es))) ≡ owned (e ∷ take (to - max from (m + 1)) es) = ap (λ n. owned (take (to - max from m) (drop n (e ∷ es)))) place ∙ ap (λ n. owned (take n (e ∷ es))) count in
                let here : map member rest ≡ owned (take (to - max from (m + 1)) es) = later ∙ ap (λ n. owned (take (to - max from (m + 1)) (drop n es))) next in
                ap (λ v. map member (cond v (e ∷ rest) rest)) (and_all own (nat_le from e.header.jsn) (nat_lt e.header.jsn to) (le-leb from e.header.jsn (omega (arith, le, numbered.0))) (lt-ltb e.header.jsn to (omega (arith, lt, numbered.0))))
                ∙ by_own (is_record e.header.kind) rest (take (to - max from (m + 1)) es) here ∙ sym ends
            | false ↦ λ above.
                let high = ltb-false m to above in
                let count : to - max from m ≡ 0 = omega (arith, high, le) in
                let after : to - max from (m + 1) ≡ 0 = omega (arith, high, le) in
                ap (λ v. map member (cond v (e ∷ rest) rest)) (and_last own (nat_le from e.header.jsn) (nat_lt e.header.jsn to) (le-ltb e.header.jsn to (omega (arith, high, numbered.0))))
                ∙ later ∙ ap (λ n. owned (take n (drop (from - (m + 1)) es))) after ∙ sym (ap (λ n. owned (take n (drop (from - m) (e ∷ es)))) count)
          ] refl
    ] refl
  where
    by_own : (own : Bool) (rest more : List Entry) → map member rest ≡ owned more
        → map member (cond own (e ∷ rest) rest) ≡ map (λ (x : Header). x.member) (cond own (e.header ∷ filter (λ (x : Header). is_record x.kind) (map (λ (e : Entry). e.header) more)) (filter (λ (x : Header). is_record x.kind) (map (λ (e : Entry). e.header) more)))
    by_own true rest more is = ap (λ (l : List ℕ). e.header.member ∷ l) is
    by_own false rest more is = is

take_headers : (n : ℕ) (es : List Entry) → map (λ (e : Entry). e.header) (take n es) ≡ take n (map (λ (e : Entry). e.header) es)
take_headers zero es = refl
take_headers (suc n) [] = refl
take_headers (suc n) (e ∷ es) = ap (λ (l : List Header). e.header ∷ l) (take_headers n es)

drop_headers : (n : ℕ) (es : List Entry) → map (λ (e : Entry). e.header) (drop n es) ≡ drop n (map (λ (e : Entry). e.header) es)
drop_headers zero es = refl
drop_headers (suc n) [] = refl
drop_headers (suc n) (e ∷ es) = drop_headers n es

-- each journal behind a base has the number of its place
numbered : (start : Option Base) (before es : List Entry) → AreBehind start before es → AreFrom (next_number start before) es
numbered start before [] behind = tt
numbered start before (e ∷ es) behind =
    let next : next_number start (before ++ e ∷ []) ≡ next_number start before + 1 = omega (arith, length-append before (e ∷ [])) in
    (behind.0.jsn, behind.0.layout, subst (λ n. AreFrom n es) next (numbered start (before ++ e ∷ []) es behind.1))

-- the needs of a purge are the owners of the kept headers from the point in force on
module _ (k : Kept) (start : Option Base) (before : List Entry) (stands : StandsBehind k start before) (p first : ℕ) (first_is : first ≡ max k.point k.floor) where
  all_told : owners_in (take (p - first) (drop (first - k.floor) k.headers)) ≡ purge_needs (history [] before) p
  unfolding point
  all_told =
      let m = first_of start in
      let from = greatest_point before in
      let begins : next_number start [] ≡ m = omega arith in
      let count : p - max from m ≡ p - first = omega (arith, first_is, stands.point, stands.floor) in
      let place : from - m ≡ first - k.floor = omega (arith, first_is, stands.point, stands.floor) in
      let taken = taken_from m from p before (subst (λ n. AreFrom n before) begins (numbered start [] before stands.are)) in
      let same = ap₂ (λ (c d : ℕ). owned (take c (drop d before))) count place in
      let kept : map (λ (e : Entry). e.header) (take (p - first) (drop (first - k.floor) before)) ≡ take (p - first) (drop (first - k.floor) k.headers) =
      take_headers (p - first) (drop (first - k.floor) before) ∙ ap (take (p - first)) (drop_headers (first - k.floor) before ∙ ap (drop (first - k.floor)) (sym stands.headers_are)) in
      sym (ap (λ (l : List ℕ). 0 ∷ l) (taken ∙ same ∙ ap (λ (l : List Header). map (λ (x : Header). x.member) (filter (λ (x : Header). is_record x.kind) l)) kept))

  -- behind the last of them there is nothing to take
  pub needs_told : (n : ℕ) → n ≡ max (min p k.size) first → owners_in (take (n - first) (drop (first - k.floor) k.headers)) ≡ purge_needs (history [] before) p
  needs_told n n_is =
      let long : length (drop (first - k.floor) k.headers) ≤ k.size - first =
      omega (arith, first_is, stands.size_is, stands.floor, ap length stands.headers_are, length-map before (λ (e : Entry). e.header), length-drop (first - k.floor) k.headers) in
      elim (nat_le p k.size) as (λ v. nat_le p k.size ≡ v → owners_in (take (n - first) (drop (first - k.floor) k.headers)) ≡ purge_needs (history [] before) p) [
        | true ↦ λ is.
            let same : n - first ≡ p - first = omega (arith, n_is, leb-true p k.size is) in
            ap (λ c. owners_in (take c (drop (first - k.floor) k.headers))) same ∙ all_told
        | false ↦ λ is.
            let high = leb-false p k.size is in
            let one : length (drop (first - k.floor) k.headers) ≤ n - first = omega (arith, n_is, high, long) in
            let two : length (drop (first - k.floor) k.headers) ≤ p - first = omega (arith, high, long) in
            ap owners_in (take_all (n - first) (drop (first - k.floor) k.headers) one ∙ sym (take_all (p - first) (drop (first - k.floor) k.headers) two)) ∙ all_told
      ] refl

-- one header more
take_next : (k : ℕ) (xs : List Header) → take (suc k) xs ≡ take k xs ++ option_to_list (slice_get xs k)
take_next zero [] = refl
take_next (suc k) [] = refl
take_next zero (x ∷ xs) = refl
take_next (suc k) (x ∷ xs) = ap (λ (l : List Header). x ∷ l) (take_next k xs)

got_behind : (d k : ℕ) (xs : List Header) → slice_get (drop d xs) k ≡ slice_get xs (d + k)
got_behind zero k xs = let same : k ≡ 0 + k = omega arith in ap (slice_get xs) same
got_behind (suc d) k [] = got_none k ∙ sym (got_none (suc d + k))
  where
    got_none : (n : ℕ) → slice_get {X = Header} [] n ≡ None
    got_none n = refl
got_behind (suc d) k (x ∷ xs) = let same : suc (d + k) ≡ suc d + k = omega arith in got_behind d k xs ∙ ap (slice_get (x ∷ xs)) same

pub next_header : (floor first n : ℕ) (xs : List Header) → floor ≤ first → first ≤ n
    → take (n - first) (drop (first - floor) xs) ++ option_to_list (slice_get xs (n - floor)) ≡ take ((n + 1) - first) (drop (first - floor) xs)
next_header floor first n xs low le =
    let place : n - floor ≡ (first - floor) + (n - first) = omega (arith, low, le) in
    let count : (n + 1) - first ≡ suc (n - first) = omega (arith, le) in
    ap (λ (o : Option Header). take (n - first) (drop (first - floor) xs) ++ option_to_list o) (ap (slice_get xs) place ∙ sym (got_behind (first - floor) (n - first) xs))
    ∙ sym (take_next (n - first) (drop (first - floor) xs)) ∙ ap (λ c. take c (drop (first - floor) xs)) (sym count)
