-- The marks of journals stay right with one more, and tell the first that is erased or hidden wrongly.
use Rattle.std.specs.Prelude.{if◌then◌else◌, ◌&&◌, ◌||◌, ◌==◌, set, get_or, nat_lt, bytes_eq, ⊤}
use Rattle.std.specs.BTreeMap.{is_at}
use Rattle.std.specs.Cmp.Lexicographic.{slice_cmp}
use Rattle.std.specs.List.{list_any}
use Rattle.std.specs.Ordering.{nat_cmp}
use Rattle.std.proofs.Common.{◌≡◌, ◌⊎◌, inl, inr, ℕ, zero, suc, ◌+◌, ◌<◌, ◌≤◌, Bool, true, false, eqb, List, [], ◌∷◌, ◌++◌, length, map, All, Option, Some, None, refl, sym, ap, ap₂, subst, arith, ◌∙◌, cond}
use Rattle.std.proofs.Math.Bool.{or-false}
use Rattle.std.proofs.lemmas.Bool.{ne_eqb, eq-eqb, or_from, ltb-true, lt-ltb, true≢false}
use Rattle.std.proofs.lemmas.List.{map-append, length-map, get_or-map, get_or_append_left, get_or_default}
use Rattle.std.proofs.lemmas.List.Folds.{list_any-append}
use Rattle.std.proofs.lemmas.List.Sums.{fold-append}
use Rattle.std.proofs.lemmas.Map.Text.{is_eq-slice_cmp}
use Rattle.journal_record.specs.Items.{Item}
use Rattle.journal_record.specs.declared.header.Header.{Header}
use Rattle.journal_record.specs.declared.header.Kind.{Kind}
use Rattle.journal_record.specs.declared.header.Kind.TheVariants as kind
use Rattle.member_book.specs.Erasures.{is_record}
use Rattle.dump_model.specs.Checks.{is_occult, hides_as, hides, is_erased, is_hidden}
use Rattle.audit_dump.specs.Ending.{IsFirstWithout}
use Rattle.audit_dump.specs.Notes.{AreInOrder, AreMarksOf, Erased, IsErasedRightly, as_named, record_clue, is_before, is_clue_occult, is_hidden_by_clue, is_marked_hidden, last_named, last_in, last_occult, mark_of, marks_of, named_at, names, names_clue}
use Rattle.audit_dump.specs.declared.erasing.Mark.{Mark}

-- ---- one is named

-- none is that isn't there
not_there : (first n : ℕ) (marks : List Mark) → n < first → named_at first n marks ≡ marks
not_there first n [] lt = refl
not_there first n (m ∷ ms) lt =
    let off : eqb n first ≡ false = ne_eqb n first (λ is. omega (arith, is, lt)) in
    ap₂ (λ (x : Mark) (xs : List Mark). x ∷ xs) (rw off refl) (not_there (suc first) n ms (omega (arith, lt)))

pub below : (first n : ℕ) (marks : List Mark) → n < first → marks ≡ named_at first n marks
below first n marks lt = sym (not_there first n marks lt)

-- it stands at its place
pub there : (k first n : ℕ) (marks : List Mark) (d : Mark) → n ≡ first + k → named_at first n marks ≡ set marks k (as_named (get_or marks k d))
there k first n [] d is = refl
there zero first n (m ∷ ms) d is =
    let on : eqb n first ≡ true = eq-eqb n first (omega (arith, is)) in
    ap₂ (λ (x : Mark) (xs : List Mark). x ∷ xs) (rw on refl) (not_there (suc first) n ms (omega (arith, is)))
there (suc k) first n (m ∷ ms) d is =
    let off : eqb n first ≡ false = ne_eqb n first (λ same. omega (arith, is, same)) in
    ap₂ (λ (x : Mark) (xs : List Mark). x ∷ xs) (rw off refl) (there k (suc first) n ms d (omega (arith, is)))

-- none is behind all
pub beyond : (first n : ℕ) (marks : List Mark) → first + length marks ≤ n → marks ≡ named_at first n marks
beyond first n [] le = refl
beyond first n (m ∷ ms) le =
    let off : eqb n first ≡ false = ne_eqb n first (λ same. omega (arith, le, same)) in
    ap₂ (λ (x : Mark) (xs : List Mark). x ∷ xs) (sym (rw off refl)) (beyond (suc first) n ms (omega (arith, le)))

-- one behind all isn't
pushed : (first n : ℕ) (marks : List Mark) (m : Mark) → n < first + length marks → named_at first n (marks ++ m ∷ []) ≡ named_at first n marks ++ m ∷ []
pushed first n [] m lt = not_there first n (m ∷ []) (omega (arith, lt))
pushed first n (k ∷ ms) m lt = ap (λ (xs : List Mark). (if n == first then as_named k else k) ∷ xs) (pushed (suc first) n ms m (omega (arith, lt)))

-- ---- one journal more

-- the number of the last of some journals, and what names a journal in front of it
last_in_order : (n : ℕ) (items : List Item) (x : Item) → AreInOrder n (items ++ x ∷ []) → (x.header.jsn ≡ n + length items) × (is_occult x.header.kind ≡ true → x.header.a < n + length items) × AreInOrder n items
last_in_order n [] x o = (omega (arith, o.0), λ is. omega (arith, o.1 is), tt)
last_in_order n (y ∷ items) x o =
    let more = last_in_order (suc n) items x o.2 in
    (omega (arith, more.0), λ is. omega (arith, more.1 is), (o.0, o.1, more.2))

-- no journal names one behind it
in_front : (m n : ℕ) (items : List Item) → AreInOrder n items → n + length items ≤ m → list_any (names m) items ≡ false
in_front m n [] o le = refl
in_front m n (y ∷ items) o le = or_from (names m y) (list_any (names m) items) first (in_front m (suc n) items o.2 (omega (arith, le)))
  where
    first : names m y ≡ false
    first = elim (is_occult y.header.kind) as (λ v. is_occult y.header.kind ≡ v → (v && eqb y.header.a m) ≡ false) [
      | true ↦ λ is. ne_eqb y.header.a m (λ same. omega (arith, same, o.1 is, le))
      | false ↦ λ is. refl
    ] refl

-- what names a journal with one more
names_more : (n : ℕ) (items : List Item) (x : Item) → list_any (names n) (items ++ x ∷ []) ≡ (list_any (names n) items || names n x)
names_more n items x = list_any-append (names n) items (x ∷ []) ∙ ap (λ (v : Bool). list_any (names n) items || v) (or-false (names n x))

-- a mark, by whether its journal is named
abbrev mark_with : Item → Bool → Mark
mark_with y named = record { erased = is_erased y; named = named; clue = record_clue y.header }

-- none is where it is no occult
not_naming : (items : List Item) (x y : Item) → is_occult x.header.kind ≡ false → mark_of (items ++ x ∷ []) y ≡ mark_of items y
not_naming items x y other =
    let none : names y.header.jsn x ≡ false = rw other refl in
    ap (mark_with y) (names_more y.header.jsn items x ∙ ap (λ (v : Bool). list_any (names y.header.jsn) items || v) none ∙ or-false (list_any (names y.header.jsn) items))

marks_same : (items xs : List Item) (x : Item) → is_occult x.header.kind ≡ false → map (mark_of items) xs ≡ map (mark_of (items ++ x ∷ [])) xs
marks_same items [] x other = refl
marks_same items (y ∷ xs) x other = ap₂ (λ (m : Mark) (ms : List Mark). m ∷ ms) (sym (not_naming items x y other)) (marks_same items xs x other)

-- and an occult names one
naming : (n : ℕ) (items : List Item) (x y : Item) → is_occult x.header.kind ≡ true → y.header.jsn ≡ n → (if x.header.a == n then as_named (mark_of items y) else mark_of items y) ≡ mark_of (items ++ x ∷ []) y
naming n items x y is at = elim (eqb x.header.a n) as (λ v. eqb x.header.a n ≡ v → (if v then as_named (mark_of items y) else mark_of items y) ≡ mark_of (items ++ x ∷ []) y) [
  | true ↦ λ e.
      let named : names y.header.jsn x ≡ true = rw (is, at, e) refl in
      ap (mark_with y) (sym (names_more y.header.jsn items x ∙ ap (λ (v : Bool). list_any (names y.header.jsn) items || v) named ∙ or_true (list_any (names y.header.jsn) items)))
  | false ↦ λ e.
      let none : names y.header.jsn x ≡ false = rw (is, at, e) refl in
      ap (mark_with y) (sym (names_more y.header.jsn items x ∙ ap (λ (v : Bool). list_any (names y.header.jsn) items || v) none ∙ or-false (list_any (names y.header.jsn) items)))
] refl
  where
    or_true : (v : Bool) → (v || true) ≡ true
    or_true true = refl
    or_true false = refl

marks_named : (n : ℕ) (items xs : List Item) (x : Item) → is_occult x.header.kind ≡ true → AreInOrder n xs → named_at n x.header.a (map (mark_of items) xs) ≡ map (mark_of (items ++ x ∷ [])) xs
marks_named n items [] x is o = refl
marks_named n items (y ∷ xs) x is o = ap₂ (λ (m : Mark) (ms : List Mark). m ∷ ms) (naming n items x y is o.0) (marks_named (suc n) items xs x is o.2)

-- the mark of the last journal
new_mark : (n : ℕ) (items : List Item) (x : Item) → AreInOrder n (items ++ x ∷ []) → mark_of (items ++ x ∷ []) x ≡ mark_with x false
new_mark n items x o =
    let last = last_in_order n items x o in
    let front : list_any (names x.header.jsn) items ≡ false = in_front x.header.jsn n items last.2 (omega (arith, last.0)) in
    let own : names x.header.jsn x ≡ false = elim (is_occult x.header.kind) as (λ v. is_occult x.header.kind ≡ v → (v && eqb x.header.a x.header.jsn) ≡ false) [
      | true ↦ λ is. ne_eqb x.header.a x.header.jsn (λ same. omega (arith, same, last.0, last.1 is))
      | false ↦ λ is. refl
    ] refl in
    ap (mark_with x) (names_more x.header.jsn items x ∙ ap₂ (λ (v w : Bool). v || w) front own)

marks_plain : (n : ℕ) (items : List Item) (x : Item) → AreInOrder n (items ++ x ∷ []) → is_occult x.header.kind ≡ false → marks_of items ++ mark_with x false ∷ [] ≡ marks_of (items ++ x ∷ [])
marks_plain n items x o other =
    ap₂ (λ (ms : List Mark) (m : Mark). ms ++ m ∷ []) (marks_same items items x other) (sym (new_mark n items x o))
    ∙ sym (map-append (mark_of (items ++ x ∷ [])) items (x ∷ []))

marks_occult : (n : ℕ) (items : List Item) (x : Item) → AreInOrder n (items ++ x ∷ []) → is_occult x.header.kind ≡ true → named_at n x.header.a (marks_of items ++ mark_with x false ∷ []) ≡ marks_of (items ++ x ∷ [])
marks_occult n items x o is =
    let last = last_in_order n items x o in
    pushed n x.header.a (marks_of items) (mark_with x false) (omega (arith, last.1 is, length-map items (mark_of items)))
    ∙ ap₂ (λ (ms : List Mark) (m : Mark). ms ++ m ∷ []) (marks_named n items items x is last.2) (sym (new_mark n items x o))
    ∙ sym (map-append (mark_of (items ++ x ∷ [])) items (x ∷ []))

-- ---- the last occult by a clue

last_more : (clue : List ℕ) (items : List Item) (x : Item) → last_occult clue (items ++ x ∷ []) ≡ (if names_clue clue x then Some x.header.jsn else last_occult clue items)
last_more clue items x = fold-append (λ (last : Option ℕ) (item : Item). if names_clue clue item then Some item.header.jsn else last) None items (x ∷ [])

last_same : (clue : List ℕ) (items : List Item) (x : Item) → is_clue_occult x.header.kind ≡ false → last_occult clue (items ++ x ∷ []) ≡ last_occult clue items
last_same clue items x other = last_more clue items x ∙ rw other refl

last_new : (clue : List ℕ) (items : List Item) (x : Item) → is_clue_occult x.header.kind ≡ true
    → last_occult clue (items ++ x ∷ []) ≡ cond (is_at (slice_cmp nat_cmp x.header.link.0) clue) (Some x.header.jsn) (last_occult clue items)
last_new clue items x is =
    let named : names_clue clue x ≡ is_at (slice_cmp nat_cmp x.header.link.0) clue = rw is (sym (is_eq-slice_cmp x.header.link.0 clue)) in
    last_more clue items x ∙ ap (λ (v : Bool). cond v (Some x.header.jsn) (last_occult clue items)) named

-- ---- one journal more is marked

-- journals of the other kinds name nothing
pub names_nothing : (k : Kind) → (k ≡ kind.Genesis) ⊎ ((k ≡ kind.Content) ⊎ ((k ≡ kind.Member) ⊎ ((k ≡ kind.Time) ⊎ (k ≡ kind.Purge)))) → (is_occult k ≡ false) × (is_clue_occult k ≡ false)
names_nothing k (inl is) = (ap is_occult is, ap is_clue_occult is)
names_nothing k (inr (inl is)) = (ap is_occult is, ap is_clue_occult is)
names_nothing k (inr (inr (inl is))) = (ap is_occult is, ap is_clue_occult is)
names_nothing k (inr (inr (inr (inl is)))) = (ap is_occult is, ap is_clue_occult is)
names_nothing k (inr (inr (inr (inr is)))) = (ap is_occult is, ap is_clue_occult is)

-- the three ways: it names nothing, a journal, or a clue
module _ (items : List Item) (x : Item) (old new : Erased) (erased : Bool) (o : AreInOrder old.first (items ++ x ∷ [])) (told : is_erased x ≡ erased) (are : AreMarksOf items old) where
  -- the marks with that of the journal
  abbrev pushed_marks : List Mark
  pushed_marks = old.marks ++ record { erased = erased; named = false; clue = record_clue x.header } ∷ []

  with_mark : pushed_marks ≡ marks_of items ++ mark_with x false ∷ []
  with_mark = ap₂ (λ (ms : List Mark) (e : Bool). ms ++ record { erased = e; named = false; clue = record_clue x.header } ∷ []) are.marks (sym told)

  pub more_plain : is_occult x.header.kind ≡ false → is_clue_occult x.header.kind ≡ false → new.marks ≡ pushed_marks → new.clues ≡ old.clues → AreMarksOf (items ++ x ∷ []) new
  more_plain other others marks same = record {
    marks = marks ∙ with_mark ∙ marks_plain old.first items x o other;
    clues = λ clue. ap (last_in clue) same ∙ are.clues clue ∙ sym (last_same clue items x others);
  }

  pub more_named : is_occult x.header.kind ≡ true → is_clue_occult x.header.kind ≡ false → new.marks ≡ named_at old.first x.header.a pushed_marks → new.clues ≡ old.clues → AreMarksOf (items ++ x ∷ []) new
  more_named is others marks same = record {
    marks = marks ∙ ap (named_at old.first x.header.a) with_mark ∙ marks_occult old.first items x o is;
    clues = λ clue. ap (last_in clue) same ∙ are.clues clue ∙ sym (last_same clue items x others);
  }

  pub more_by_clue : is_occult x.header.kind ≡ false → is_clue_occult x.header.kind ≡ true → new.marks ≡ pushed_marks
      → ((clue : List ℕ) → last_in clue new.clues ≡ cond (is_at (slice_cmp nat_cmp x.header.link.0) clue) (Some x.header.jsn) (last_in clue old.clues)) → AreMarksOf (items ++ x ∷ []) new
  more_by_clue other is marks put = record {
    marks = marks ∙ with_mark ∙ marks_plain old.first items x o other;
    clues = λ clue. put clue ∙ ap (cond (is_at (slice_cmp nat_cmp x.header.link.0) clue) (Some x.header.jsn)) (are.clues clue) ∙ sym (last_new clue items x is);
  }

-- ---- what is hidden

any_splits : (p q r : Item → Bool) (xs : List Item) → ((x : Item) → p x ≡ (q x || r x)) → list_any p xs ≡ (list_any q xs || list_any r xs)
any_splits p q r [] each = refl
any_splits p q r (x ∷ xs) each = ap₂ (λ (v w : Bool). v || w) (each x) (any_splits p q r xs each) ∙ mixed (q x) (r x) (list_any q xs) (list_any r xs)
  where
    mixed : (a b c d : Bool) → ((a || b) || (c || d)) ≡ ((a || c) || (b || d))
    mixed true b c d = refl
    mixed false true true d = refl
    mixed false true false d = refl
    mixed false false c d = refl

any_same : (p q : Item → Bool) (xs : List Item) → ((x : Item) → p x ≡ q x) → list_any p xs ≡ list_any q xs
any_same p q [] each = refl
any_same p q (x ∷ xs) each = ap₂ (λ (v w : Bool). v || w) (each x) (any_same p q xs each)

any_none : (p : Item → Bool) (xs : List Item) → ((x : Item) → p x ≡ false) → list_any p xs ≡ false
any_none p [] each = refl
any_none p (x ∷ xs) each = ap₂ (λ (v w : Bool). v || w) (each x) (any_none p xs each)

-- whether a journal hides a record, or what isn't one, by its clue
abbrev hides_clue : Bool → Header → Item → Bool
hides_clue record_is t x = is_clue_occult x.header.kind && (record_is && (nat_lt t.jsn x.header.jsn && bytes_eq x.header.link.0 t.clue.0))

hides_splits : (t : Header) (x : Item) → hides t x ≡ (names t.jsn x || hides_clue (is_record t.kind) t x)
hides_splits t x = by_kind x.header.kind
  where
    by_kind : (k : Kind) → hides_as k x.header t ≡ ((is_occult k && x.header.a == t.jsn) || (is_clue_occult k && (is_record t.kind && (nat_lt t.jsn x.header.jsn && bytes_eq x.header.link.0 t.clue.0))))
    by_kind kind.Genesis = refl
    by_kind kind.Content = refl
    by_kind kind.Member = refl
    by_kind kind.Time = refl
    by_kind kind.Occult = sym (or-false (x.header.a == t.jsn))
    by_kind kind.Purge = refl
    by_kind kind.ClueOccult = refl

-- the last occult by a clue stands behind a journal where one of them does
abbrev IsBelow : Option ℕ → ℕ → Type 0
IsBelow None n = ⊤
IsBelow (Some last) n = last < n

below_next : (last : Option ℕ) (n : ℕ) → IsBelow last n → IsBelow last (suc n)
below_next None n lt = tt
below_next (Some last) n lt = omega (arith, lt)

last_behind : (n k : ℕ) (clue : List ℕ) (last : Option ℕ) (items : List Item) → AreInOrder n items → IsBelow last n
    → is_before k (last_named last clue items) ≡ (is_before k last || list_any (λ x. names_clue clue x && nat_lt k x.header.jsn) items)
last_behind n k clue last [] o lt = sym (or-false (is_before k last))
last_behind n k clue last (x ∷ items) o lt =
    elim (names_clue clue x) as (λ v. is_before k (last_named (if v then Some x.header.jsn else last) clue items) ≡ (is_before k last || ((v && nat_lt k x.header.jsn) || list_any (λ y. names_clue clue y && nat_lt k y.header.jsn) items))) [
      | true ↦ last_behind (suc n) k clue (Some x.header.jsn) items o.2 (omega (arith, o.0)) ∙ swallowed last lt (nat_lt k x.header.jsn) refl
      | false ↦ last_behind (suc n) k clue last items o.2 (below_next last n lt)
    ]
  where
    rest : Bool
    rest = list_any (λ y. names_clue clue y && nat_lt k y.header.jsn) items

    swallowed : (last : Option ℕ) → IsBelow last n → (v : Bool) → nat_lt k x.header.jsn ≡ v → (v || rest) ≡ (is_before k last || (v || rest))
    swallowed None lt v is = refl
    swallowed (Some m) lt v is = by (nat_lt k m) refl v is
      where
        by : (u : Bool) → nat_lt k m ≡ u → (v : Bool) → nat_lt k x.header.jsn ≡ v → (v || rest) ≡ (u || (v || rest))
        by true before true is = refl
        by true before false is = absurd (true≢false (sym (lt-ltb k x.header.jsn (omega (arith, ltb-true k m before, lt, o.0))) ∙ is))
        by false before v is = refl

-- ---- the first that is wrong

-- what the mark at a place tells is right
abbrev pub IsRightAt : Erased → ℕ → Type 0
IsRightAt kept k = (d : Mark) → (get_or kept.marks k d).erased ≡ is_marked_hidden kept.clues (kept.first + k) (get_or kept.marks k d)

-- .. which one look at it tells, however it's read
pub right_by : (kept : Erased) (k : ℕ) (d : Mark) → k < length kept.marks → (get_or kept.marks k d).erased ≡ is_marked_hidden kept.clues (kept.first + k) (get_or kept.marks k d) → IsRightAt kept k
right_by kept k d within is e =
    let same : get_or kept.marks k d ≡ get_or kept.marks k e = get_or_default kept.marks k d e within in
    sym (ap (λ (m : Mark). m.erased) same) ∙ is ∙ ap (is_marked_hidden kept.clues (kept.first + k)) same

jsn_there : (n k : ℕ) (items : List Item) (other : Item) → AreInOrder n items → k < length items → (get_or items k other).header.jsn ≡ n + k
jsn_there n k [] other o lt = absurd (omega (arith, lt))
jsn_there n zero (x ∷ items) other o lt = omega (arith, o.0)
jsn_there n (suc k) (x ∷ items) other o lt = omega (arith, jsn_there (suc n) k items other o.2 (omega (arith, lt)))

-- a list before and behind a place
record IsSplitAt (items : List Item) (k : ℕ) : Type 0 where
  front : List Item
  item : Item
  more : List Item
  items_are : items ≡ front ++ item ∷ more
  long : length front ≡ k

split_at : (items : List Item) (k : ℕ) → k < length items → IsSplitAt items k
split_at [] k lt = absurd (omega (arith, lt))
split_at (x ∷ items) zero lt = record { front = []; item = x; more = items; items_are = refl; long = refl }
split_at (x ∷ items) (suc k) lt =
    let s = split_at items k (omega (arith, lt)) in
    record { front = x ∷ s.front; item = s.item; more = s.more; items_are = ap (λ (xs : List Item). x ∷ xs) s.items_are; long = ap suc s.long }

at_length : (front more : List Item) (item other : Item) → get_or (front ++ item ∷ more) (length front) other ≡ item
at_length [] more item other = refl
at_length (x ∷ front) more item other = at_length front more item other

module _ (kept : Erased) (items : List Item) (o : AreInOrder kept.first items) (are : AreMarksOf items kept) where
  hidden_is : (x : Item) → is_marked_hidden kept.clues x.header.jsn (mark_of items x) ≡ is_hidden items x
  hidden_is x =
      ap (λ (v : Bool). list_any (names x.header.jsn) items || v) (by_record (is_record x.header.kind))
      ∙ sym (any_splits (hides x.header) (names x.header.jsn) (hides_clue (is_record x.header.kind) x.header) items (hides_splits x.header))
    where
      turned : (a l b : Bool) → ((a && b) && l) ≡ (a && (true && (l && b)))
      turned true true true = refl
      turned true true false = refl
      turned true false true = refl
      turned true false false = refl
      turned false l b = refl

      nothing : (a : Bool) → (a && false) ≡ false
      nothing true = refl
      nothing false = refl

      by_record : (r : Bool) → is_hidden_by_clue kept.clues x.header.jsn (if r then Some x.header.clue else None) ≡ list_any (hides_clue r x.header) items
      by_record true =
          ap (is_before x.header.jsn) (are.clues x.header.clue.0) ∙ last_behind kept.first x.header.jsn x.header.clue.0 None items o tt
          ∙ any_same (λ y. names_clue x.header.clue.0 y && nat_lt x.header.jsn y.header.jsn) (hides_clue true x.header) items (λ y. turned (is_clue_occult y.header.kind) (nat_lt x.header.jsn y.header.jsn) (bytes_eq y.header.link.0 x.header.clue.0))
      by_record false = sym (any_none (hides_clue false x.header) items (λ y. nothing (is_clue_occult y.header.kind)))

  mark_there : (k : ℕ) (d : Mark) (other : Item) → k < length items → get_or kept.marks k d ≡ mark_of items (get_or items k other)
  mark_there k d other lt = ap (λ (ms : List Mark). get_or ms k d) are.marks ∙ get_or-map (mark_of items) items k other d lt

  hidden_there : (k : ℕ) (d : Mark) (other : Item) → k < length items → is_marked_hidden kept.clues (kept.first + k) (get_or kept.marks k d) ≡ is_hidden items (get_or items k other)
  hidden_there k d other lt =
      ap₂ (λ (n : ℕ) (m : Mark). is_marked_hidden kept.clues n m) (sym (jsn_there kept.first k items other o lt)) (mark_there k d other lt) ∙ hidden_is (get_or items k other)

  right_there : (k : ℕ) (other : Item) → k < length items → IsRightAt kept k → IsErasedRightly items (get_or items k other)
  right_there k other lt right =
      let d = mark_of items other in
      sym (ap (λ (m : Mark). m.erased) (mark_there k d other lt)) ∙ right d ∙ hidden_there k d other lt

  pub all_right : ((k : ℕ) → k < length kept.marks → IsRightAt kept k) → All (IsErasedRightly items) items
  all_right each k other lt = right_there k other lt (each k (omega (arith, lt, ap length are.marks, length-map items (mark_of items))))

  pub first_wrong : (k : ℕ) → k < length kept.marks → ((j : ℕ) → j < k → IsRightAt kept j) → (IsRightAt kept k → ⊥) → IsFirstWithout (IsErasedRightly items) items (kept.first + k)
  first_wrong k within each wrong =
      let lt : k < length items = omega (arith, within, ap length are.marks, length-map items (mark_of items)) in
      let s = split_at items k lt in
      let there : get_or items k s.item ≡ s.item = ap₂ (λ (xs : List Item) (j : ℕ). get_or xs j s.item) s.items_are (sym s.long) ∙ at_length s.front s.more s.item s.item in
      record {
        front = s.front;
        item = s.item;
        more = s.more;
        items_are = s.items_are;
        passed = λ j other below.
            let few : j < k = omega (arith, below, s.long) in
            subst (IsErasedRightly items) (ap (λ (xs : List Item). get_or xs j other) s.items_are ∙ get_or_append_left s.front (s.item ∷ s.more) other j below) (right_there j other (omega (arith, few, lt)) (each j few));
        fails = λ same. wrong (λ d. ap (λ (m : Mark). m.erased) (mark_there k d s.item lt) ∙ ap is_erased there ∙ same ∙ ap (is_hidden items) (sym there) ∙ sym (hidden_there k d s.item lt));
        number_is = sym (ap (λ (x : Item). x.header.jsn) (sym there) ∙ jsn_there kept.first k items s.item o lt);
      }
