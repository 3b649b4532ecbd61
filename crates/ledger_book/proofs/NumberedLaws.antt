-- Lemmas on the last record with a number.
use Rattle.std.specs.Prelude.{◌==◌, nat_le, max, not, slice_get, get_or, Result, Ok, Err, OnOk, OnErr}
use Rattle.std.specs.Option.{is_some, option_or}
use Rattle.std.specs.Str.{bytes_eq}
use Rattle.std.proofs.Common.{◌≡◌, ℕ, zero, suc, ◌+◌, ◌-◌, ◌<◌, ◌≤◌, ◌&&◌, Bool, true, false, cond, List, [], ◌∷◌, ◌++◌, length, map, drop, Option, Some, None, refl, sym, ap, ◌∙◌, arith, drop-drop}
use Rattle.std.proofs.lemmas.Bool.{le-leb, lt-leb, leb-true, leb-false, eqb-true, eq-eqb, true≢false, false_from_ne_true, and_parts, and_from}
use Rattle.std.proofs.lemmas.List.{drop-map}
use Rattle.std.proofs.lemmas.Slice.Eq.{bytes_eq-Decides}
use Rattle.journal_record.specs.Entry.{Entry}
use Rattle.journal_record.specs.declared.header.Header.{Header}
use Rattle.member_book.specs.Erasures.{is_record}
use Rattle.ledger_bytes.specs.declared.digest.Digest.{Digest}
use Rattle.ledger_bytes.specs.declared.refusal.Refusal.TheVariants.{NumberTaken}
use Rattle.ledger_model.specs.History.{History, journals, point, greatest_point}
use Rattle.ledger_model.specs.Numbers.{place_from, numbered_in, numbered, link_at, taken_by, repeated_by, number_taken, repeated}
use Rattle.pseudo_genesis.specs.declared.base.Base.{Base}
use Rattle.ledger_model.specs.Behind.{first_of, numbered_from}
use Rattle.ledger_book.specs.Books.{Kept, Stands, Serves}
use Rattle.ledger_book.specs.Reading.{StandsBehind}
use Rattle.ledger_book.proofs.StandsLaws.{point_is}
use Rattle.ledger_model.specs.Numbers as model
use Rattle.ledger_book.specs.Numbered.{key_eq, is_numbered, is_with, last_with, from_on, told_of, IndexesNumbers, PutsNumber, IsAdded, IsSameIndex, told_number}

abbrev IsNothing : Option ℕ → Type 0
IsNothing o = let none : Option ℕ = None in o ≡ none

nothing_some : (n : ℕ) → (let none : Option ℕ = None in none ≡ Some n) → ⊥
nothing_some n is = cc is

-- ---- pairs of a member and a number

same_key : (k e : ℕ × ℕ) → key_eq k e ≡ true → k ≡ e
same_key k e is =
    let both = and_parts (k.0 == e.0) (k.1 == e.1) is in
    ap (λ (n : ℕ). (n, k.1)) (eqb-true k.0 e.0 both.0) ∙ ap (λ (n : ℕ). (e.0, n)) (eqb-true k.1 e.1 both.1)

own_key : (k : ℕ × ℕ) → key_eq k k ≡ true
own_key k = and_from (k.0 == k.0) (k.1 == k.1) (eq-eqb k.0 k.0 refl) (eq-eqb k.1 k.1 refl)

-- the pair of a numbered header is that of a member and a number where the header is that of their record
key_is : (x : Header) (m r : ℕ) → is_numbered x ≡ true → key_eq (x.member, x.a) (m, r) ≡ is_with m r x
key_is x m r some = sym (ap (λ v. v && (x.member == m && x.a == r)) (and_parts (is_record x.kind) (not (x.a == 0)) some).0)

-- a header without a number is no record with one
none_with : (x : Header) (m r : ℕ) → is_numbered x ≡ false → 1 ≤ r → is_with m r x ≡ false
none_with x m r none some = false_from_ne_true (is_with m r x) (λ is.
    let own = and_parts (is_record x.kind) (x.member == m && x.a == r) is in
    let at = eqb-true x.a r (and_parts (x.member == m) (x.a == r) own.1).1 in
    true≢false (sym (and_from (is_record x.kind) (not (x.a == 0)) own.0 (ap not (false_from_ne_true (x.a == 0) (λ zero_is. let no : ⊥ = omega (arith, eqb-true x.a 0 zero_is, at, some) in no)))) ∙ none))

-- ---- the last

pub last_more : (first m r : ℕ) (xs : List Header) (x : Header) → last_with first m r (xs ++ x ∷ []) ≡ cond (is_with m r x) (Some (first + length xs)) (last_with first m r xs)
last_more first m r [] x = ap (λ n. cond (is_with m r x) (Some n) None) (let e : first ≡ first + 0 = omega arith in e)
last_more first m r (y ∷ ys) x =
    ap (λ o. option_or o (cond (is_with m r y) (Some first) None)) (last_more (first + 1) m r ys x)
    ∙ elim (is_with m r x) as (λ v. option_or (cond v (Some (first + 1 + length ys)) (last_with (first + 1) m r ys)) (cond (is_with m r y) (Some first) None) ≡ cond v (Some (first + length (y ∷ ys))) (option_or (last_with (first + 1) m r ys) (cond (is_with m r y) (Some first) None))) [
      | true ↦ ap (λ n. Some n) (let e : first + 1 + length ys ≡ first + length (y ∷ ys) = omega arith in e)
      | false ↦ refl
    ]

-- none stands in front of the first
low_by : (first : ℕ) (b : Bool) (later : Option ℕ) → from_on first later ≡ later → from_on first (option_or later (cond b (Some first) None)) ≡ option_or later (cond b (Some first) None)
low_by first b (Some n) is = is
low_by first true None is = ap (λ v. cond v (Some first) None) (le-leb first first (omega arith))
low_by first false None is = refl

less_far : (p q : ℕ) (o : Option ℕ) → p ≤ q → from_on q o ≡ o → from_on p o ≡ o
less_far p q None le is = refl
less_far p q (Some n) le is = by_test (nat_le q n) refl is where
  by_test : (b : Bool) → nat_le q n ≡ b → cond b (Some n) None ≡ Some n → cond (nat_le p n) (Some n) None ≡ Some n
  by_test true e same = ap (λ v. cond v (Some n) None) (le-leb p n (omega (arith, le, leb-true q n e)))
  by_test false e same = absurd cc

pub low : (first m r : ℕ) (xs : List Header) → from_on first (last_with first m r xs) ≡ last_with first m r xs
low first m r [] = refl
low first m r (x ∷ xs) = low_by first (is_with m r x) (last_with (first + 1) m r xs) (less_far first (first + 1) (last_with (first + 1) m r xs) (omega arith) (low (first + 1) m r xs))

-- one in front of p isn't told
front_by : (p first : ℕ) (b : Bool) (later : Option ℕ) → first < p → from_on p (option_or later (cond b (Some first) None)) ≡ from_on p later
front_by p first b (Some n) lt = refl
front_by p first true None lt = ap (λ v. cond v (Some first) None) (lt-leb p first lt)
front_by p first false None lt = refl

goes : (p m r : ℕ) (zs : List Header) (n at : ℕ) → p ≡ at + n → last_with p m r (drop n zs) ≡ from_on p (last_with at m r zs)
goes p m r [] zero at is = refl
goes p m r [] (suc n) at is = refl
goes p m r (z ∷ zs) zero at is =
    let same : p ≡ at = omega (arith, is) in
    sym (low p m r (z ∷ zs)) ∙ ap (λ k. from_on p (last_with k m r (z ∷ zs))) same
goes p m r (z ∷ zs) (suc n) at is = goes p m r zs n (at + 1) (omega (arith, is)) ∙ sym (front_by p at (is_with m r z) (last_with (at + 1) m r zs) (omega (arith, is)))

pub kept : (first p m r : ℕ) (xs : List Header) → first ≤ p → last_with p m r (drop (p - first) xs) ≡ from_on p (last_with first m r xs)
kept first p m r xs le = goes p m r xs (p - first) first (omega (arith, le))

-- a journal that is behind both
pub further : (p q : ℕ) (o : Option ℕ) → p ≤ q → from_on q (from_on p o) ≡ from_on q o
further p q None le = refl
further p q (Some n) le = by_test (nat_le p n) refl where
  by_test : (b : Bool) → nat_le p n ≡ b → from_on q (cond b (Some n) None) ≡ from_on q (Some n)
  by_test true e = refl
  by_test false e = sym (ap (λ v. cond v (Some n) None) (lt-leb q n (omega (arith, le, leb-false p n e))))

-- ---- the index

added_by : (first at : ℕ) (b : Bool) (old : Option ℕ) (last : Option ℕ) → first ≤ at → from_on first old ≡ last → from_on first (cond b (Some at) old) ≡ cond b (Some at) last
added_by first at true old last le is = ap (λ v. cond v (Some at) None) (le-leb first at le)
added_by first at false old last le is = is

-- a header more
pub unnumbered_added : (entries : List (List (ℕ × ℕ))) (first : ℕ) (xs : List Header) (x : Header) → is_numbered x ≡ false → IndexesNumbers entries first xs → IndexesNumbers entries first (xs ++ x ∷ [])
unnumbered_added entries first xs x none index m r some =
    index m r some ∙ sym (last_more first m r xs x ∙ ap (λ v. cond v (Some (first + length xs)) (last_with first m r xs)) (none_with x m r none some))

numbered_added : (old new : List (List (ℕ × ℕ))) (first jsn : ℕ) (xs : List Header) (x : Header) → is_numbered x ≡ true → PutsNumber old new (x.member, x.a) (Some jsn) → IndexesNumbers old first xs → jsn ≡ first + length xs → IndexesNumbers new first (xs ++ x ∷ [])
numbered_added old new first jsn xs x some puts index at m r one =
    ap (from_on first) (puts (m, r))
    ∙ (added_by first jsn (key_eq (x.member, x.a) (m, r)) (told_of (m, r) old) (last_with first m r xs) (omega (arith, at)) (index m r one)
    ∙ (ap (λ v. cond v (Some jsn) (last_with first m r xs)) (key_is x m r some)
    ∙ (ap (λ n. cond (is_with m r x) (Some n) (last_with first m r xs)) at
    ∙ sym (last_more first m r xs x))))

pub put_added : {T E : Type 0} (result : Result T E) (old new : List (List (ℕ × ℕ))) (jsn : ℕ) (x : Header) → is_numbered x ≡ true → OnOk result (PutsNumber old new (x.member, x.a) (Some jsn))
    → OnOk result ((first : ℕ) (xs : List Header) → IndexesNumbers old first xs → jsn ≡ first + length xs → IndexesNumbers new first (xs ++ x ∷ []))
put_added (Ok before) old new jsn x some puts = λ first xs index at. numbered_added old new first jsn xs x some puts index at
put_added (Err error) old new jsn x some puts = tt

-- an index that tells the same
pub same_indexed : (old new : List (List (ℕ × ℕ))) (first : ℕ) (xs : List Header) → IsSameIndex old new → IndexesNumbers old first xs → IndexesNumbers new first xs
same_indexed old new first xs same index m r some = ap (from_on first) (same (m, r)) ∙ index m r some

-- what was put is taken back
pub taken_back : (first old new : List (List (ℕ × ℕ))) (key : ℕ × ℕ) (jsn : ℕ) (before : Option ℕ) → PutsNumber first old key (Some jsn) → before ≡ told_of key first → PutsNumber old new key before → IsSameIndex first new
taken_back first old new key jsn before puts is back k =
    back k ∙ (ap (λ o. cond (key_eq key k) before o) (puts k) ∙ by_key (key_eq key k) refl) where
      by_key : (b : Bool) → key_eq key k ≡ b → cond b before (cond b (Some jsn) (told_of k first)) ≡ told_of k first
      by_key true e = is ∙ ap (λ l. told_of l first) (same_key key k e)
      by_key false e = refl

pub put_back : {T E : Type 0} (result : Result T E) (first old new : List (List (ℕ × ℕ))) (x : Header) (jsn last : ℕ) → is_numbered x ≡ true → OnOk result (PutsNumber old new (x.member, x.a) (Some last)) → OnErr result (IsNothing (told_of (x.member, x.a) old))
    → IsAdded x first jsn (Some last) old → IsSameIndex first new
put_back (Ok t) first old new x jsn last some ok absent added = taken_back first old new (x.member, x.a) jsn (Some last) (added.puts some) (added.before_is some) ok
put_back (Err e) first old new x jsn last some ok absent added =
    let told : told_of (x.member, x.a) old ≡ Some jsn =
    added.puts some (x.member, x.a) ∙ ap (λ b. cond b (Some jsn) (told_of (x.member, x.a) first)) (own_key (x.member, x.a)) in
    absurd (nothing_some jsn (sym absent ∙ told))

-- the headers from a journal on, where what is told of journals in front of it is dropped
pub cut_indexed : (entries cut : List (List (ℕ × ℕ))) (first p : ℕ) (xs ys : List Header) → first ≤ p → ys ≡ drop (p - first) xs → ((key : ℕ × ℕ) → told_of key cut ≡ from_on p (told_of key entries)) → IndexesNumbers entries first xs → IndexesNumbers cut p ys
cut_indexed entries cut first p xs ys le is kept_same index m r some =
    ap (from_on p) (kept_same (m, r)) ∙ further p p (told_of (m, r) entries) (omega arith) ∙ sym (further first p (told_of (m, r) entries) le) ∙ (ap (from_on p) (index m r some) ∙ (sym (kept first p m r xs le) ∙ ap (last_with p m r) (sym is)))

-- ---- what a book tells

number_some : (r : ℕ) → (r == 0) ≡ false → 1 ≤ r
number_some zero none = absurd (true≢false none)
number_some (suc r) none = omega arith

pub told_by : (entries : List (List (ℕ × ℕ))) (first point m r : ℕ) (xs : List Header) → (r == 0) ≡ false → IndexesNumbers entries first xs → from_on point (from_on first (told_of (m, r) entries)) ≡ told_number first point m r xs
told_by entries first point m r xs none index =
    ap (from_on point) (index m r (number_some r none)) ∙ sym (ap (λ b. cond b None (from_on point (last_with first m r xs))) none)

last_place : (first m r : ℕ) (es : List Entry) → last_with first m r (map (λ (e : Entry). e.header) es) ≡ place_from first (model.is_numbered m r) es
last_place first m r [] = refl
last_place first m r (e ∷ es) = ap (λ o. option_or o (cond (is_with m r e.header) (Some first) None)) (last_place (first + 1) m r es)

-- headers from the point on, where the point may lie in front of the first
from_point : (first p m r : ℕ) (xs : List Header) → from_on p (last_with first m r xs) ≡ last_with (first + (p - first)) m r (drop (p - first) xs)
from_point first p m r xs = by_low (nat_le first p) refl where
  by_low : (b : Bool) → nat_le first p ≡ b → from_on p (last_with first m r xs) ≡ last_with (first + (p - first)) m r (drop (p - first) xs)
  by_low true e =
      let le : first ≤ p = leb-true first p e in
      sym (kept first p m r xs le) ∙ ap (λ n. last_with n m r (drop (p - first) xs)) (let at : p ≡ first + (p - first) = omega (arith, le) in at)
  by_low false e =
      let lt : p < first = leb-false first p e in
      less_far p first (last_with first m r xs) (omega (arith, lt)) (low first m r xs)
      ∙ (ap (λ n. last_with n m r xs) (let same : first ≡ first + 0 = omega arith in same)
      ∙ ap (λ n. last_with (first + n) m r (drop n xs)) (let at : 0 ≡ p - first = omega (arith, lt) in at))

pub told_numbered : (first p m r : ℕ) (es : List Entry) (xs : List Header) → xs ≡ map (λ (e : Entry). e.header) es → told_number first p m r xs ≡ numbered_from first p es m r
told_numbered first p m r es xs is =
    ap (λ o. cond (r == 0) None o)
    (from_point first p m r xs
    ∙ (ap (λ l. last_with (first + (p - first)) m r (drop (p - first) l)) is
    ∙ (ap (λ l. last_with (first + (p - first)) m r l) (drop-map (λ (e : Entry). e.header) (p - first) es)
    ∙ last_place (first + (p - first)) m r (drop (p - first) es))))

-- the journals from a floor on, which isn't behind the point, tell what all do
pub from_floor : (h : History) (floor p m r : ℕ) → p ≡ point h → floor ≤ p → numbered_from floor p (drop floor (journals h)) m r ≡ numbered h m r
unfolding numbered
from_floor h floor p m r is le =
    let at : floor + (p - floor) ≡ p = omega (arith, le) in
    ap (λ n. numbered_in n (drop (p - floor) (drop floor (journals h))) m r) at
    ∙ (ap (λ l. numbered_in p l m r) (drop-drop (p - floor) floor (journals h))
    ∙ (ap (λ n. numbered_in p (drop n (journals h)) m r) at
    ∙ ap (λ n. numbered_in n (drop n (journals h)) m r) is))

-- ---- where there is none

none_part : (o rest : Option ℕ) → IsNothing (option_or o rest) → IsNothing o
none_part None rest is = refl
none_part (Some n) rest is = absurd cc

none_later : (n at : ℕ) (is : Entry → Bool) (es : List Entry) → IsNothing (place_from at is es) → IsNothing (place_from (at + n) is (drop n es))
none_later zero at is es none = ap (λ k. place_from k is es) (let same : at + 0 ≡ at = omega arith in same) ∙ none
none_later (suc n) at is [] none = refl
none_later (suc n) at is (e ∷ es) none =
    ap (λ k. place_from k is (drop n es)) (let same : at + suc n ≡ at + 1 + n = omega arith in same) ∙ none_later n (at + 1) is es (none_part (place_from (at + 1) is es) (cond (is e) (Some at) None) none)

none_from : (p q m r : ℕ) (js : List Entry) (b : Bool) → p ≤ q → IsNothing (cond b None (place_from p (model.is_numbered m r) (drop p js))) → IsNothing (cond b None (place_from q (model.is_numbered m r) (drop q js)))
none_from p q m r js true le none = refl
none_from p q m r js false le none =
    let at : p + (q - p) ≡ q = omega (arith, le) in
    ap (λ n. place_from n (model.is_numbered m r) (drop n js)) (sym at) ∙ (ap (λ l. place_from (p + (q - p)) (model.is_numbered m r) l) (sym (drop-drop (q - p) p js)) ∙ none_later (q - p) p (model.is_numbered m r) (drop p js) none)

-- where none of the kept records has a number, none of those behind a base has
pub fresh_behind : (h : History) (p g m r : ℕ) → point h ≤ p + (g - p) → IsNothing (numbered h m r) → IsNothing (numbered_from p g (drop p (journals h)) m r)
unfolding numbered
fresh_behind h p g m r le none =
    ap (λ l. numbered_in (p + (g - p)) l m r) (drop-drop (g - p) p (journals h)) ∙ none_from (point h) (p + (g - p)) m r (journals h) (r == 0) le none

-- ---- what a book tells, by its index

-- a journal that is in front of neither
from_both : (p q : ℕ) (o : Option ℕ) → from_on (max p q) o ≡ from_on p (from_on q o)
from_both p q None = refl
from_both p q (Some n) = by_first (nat_le q n) refl where
  by_last : (v : Bool) → nat_le p n ≡ v → q ≤ n → from_on (max p q) (Some n) ≡ cond v (Some n) None
  by_last true is low = ap (λ v. cond v (Some n) None) (le-leb (max p q) n (let le = leb-true p n is in omega (arith, le, low)))
  by_last false is low = ap (λ v. cond v (Some n) None) (lt-leb (max p q) n (let lt = leb-false p n is in omega (arith, lt)))

  by_first : (v : Bool) → nat_le q n ≡ v → from_on (max p q) (Some n) ≡ from_on p (cond v (Some n) None)
  by_first true is = by_last (nat_le p n) refl (leb-true q n is)
  by_first false is = ap (λ v. cond v (Some n) None) (lt-leb (max p q) n (let lt = leb-false q n is in omega (arith, lt)))

pub told_last : (entries : List (List (ℕ × ℕ))) (first point m r : ℕ) (xs : List Header) → (r == 0) ≡ false → IndexesNumbers entries first xs → from_on (max point first) (told_of (m, r) entries) ≡ told_number first point m r xs
told_last entries first point m r xs none index = from_both point first (told_of (m, r) entries) ∙ told_by entries first point m r xs none index

pub told_stands : (k : Kept) (h : History) (m r : ℕ) → Serves k h → told_number k.floor k.point m r k.headers ≡ numbered h m r
told_stands k h m r s =
    told_numbered k.floor k.point m r (drop k.floor (journals h)) k.headers (s.stands.tree.headers_are ∙ drop-map (λ (e : Entry). e.header) k.floor (journals h))
    ∙ from_floor h k.floor k.point m r (point_is k h s) s.seen

pub told_behind : (k : Kept) (start : Option Base) (es : List Entry) (m r : ℕ) → StandsBehind k start es → told_number k.floor k.point m r k.headers ≡ numbered_from (first_of start) (greatest_point es) es m r
told_behind k start es m r s =
    ap (λ n. told_number n k.point m r k.headers) s.floor ∙ (ap (λ n. told_number (first_of start) n m r k.headers) s.point ∙ told_numbered (first_of start) (greatest_point es) m r es k.headers s.headers_are)

-- ---- what a number tells of a request

module _ (h : History) (member number : ℕ) (request : Digest) where
  pub taken_none : IsNothing (numbered h member number) → number_taken h member number request ≡ None
  unfolding number_taken
  taken_none is = ap (taken_by h request) is

  pub repeated_none : IsNothing (numbered h member number) → repeated h member number request ≡ None
  unfolding repeated
  repeated_none is = ap (repeated_by h request) is

  pub taken_same : (n : ℕ) → numbered h member number ≡ Some n → request.0 ≡ link_at h n → number_taken h member number request ≡ None
  unfolding number_taken
  taken_same n is same = ap (taken_by h request) is ∙ ap (λ b. cond b None (Some (NumberTaken n))) ((bytes_eq-Decides request.0 (link_at h n)).1 same)

  pub repeated_same : (n : ℕ) → numbered h member number ≡ Some n → request.0 ≡ link_at h n → repeated h member number request ≡ Some n
  unfolding repeated
  repeated_same n is same = ap (repeated_by h request) is ∙ ap (λ b. cond b (Some n) None) ((bytes_eq-Decides request.0 (link_at h n)).1 same)

  pub taken_other : (n : ℕ) → numbered h member number ≡ Some n → (request.0 ≡ link_at h n → ⊥) → number_taken h member number request ≡ Some (NumberTaken n)
  unfolding number_taken
  taken_other n is other =
      ap (taken_by h request) is ∙ ap (λ b. cond b None (Some (NumberTaken n))) (false_from_ne_true (bytes_eq request.0 (link_at h n)) (λ e. other ((bytes_eq-Decides request.0 (link_at h n)).0 e)))

-- the link of a kept journal
link_in : (js : List Entry) (n : ℕ) (x : Header) → slice_get (map (λ (e : Entry). e.header) js) n ≡ Some x → x.link.0 ≡ get_or (map (λ (e : Entry). e.header.link.0) js) n []
link_in [] n x is = absurd cc
link_in (j ∷ js) zero x is = let same : j.header ≡ x = cc is in ap (λ (y : Header). y.link.0) (sym same)
link_in (j ∷ js) (suc n) x is = link_in js n x is

get_drop : {A : Type 0} (n m : ℕ) (xs : List A) → slice_get (drop n xs) m ≡ slice_get xs (n + m)
get_drop zero m xs = ap (λ k. slice_get xs k) (let same : m ≡ 0 + m = omega arith in same)
get_drop (suc n) m [] = refl
get_drop (suc n) m (x ∷ xs) = get_drop n m xs ∙ ap (λ k. slice_get (x ∷ xs) k) (let same : suc (n + m) ≡ suc n + m = omega arith in same)

pub link_is : (k : Kept) (h : History) (n : ℕ) (x : Header) → Stands k h → k.floor ≤ n → slice_get k.headers (n - k.floor) ≡ Some x → x.link.0 ≡ link_at h n
link_is k h n x s le is =
    link_in (journals h) n x
    (ap (λ i. slice_get (map (λ (e : Entry). e.header) (journals h)) i) (let at : n ≡ k.floor + (n - k.floor) = omega (arith, le) in at)
    ∙ (sym (get_drop k.floor (n - k.floor) (map (λ (e : Entry). e.header) (journals h))) ∙ (ap (λ l. slice_get l (n - k.floor)) (sym s.tree.headers_are) ∙ is)))

pub some_known : (o : Option ℕ) → is_some o ≡ true → IsNothing o → ⊥
some_known o some none = true≢false (sym some ∙ ap is_some none)

pub none_known : (o : Option ℕ) → is_some o ≡ false → IsNothing o
none_known None none = refl
none_known (Some n) none = absurd (true≢false none)
