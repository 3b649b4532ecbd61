-- A run by ordinals is all records of a clue between two of them.
use Rattle.std.proofs.Common.{◌≡◌, ℕ, zero, suc, ◌+◌, ◌-◌, ◌<◌, ◌≤◌, Bool, true, false, cond, inl, inr, List, [], ◌∷◌, ◌++◌, length, get_or, take, drop, Result, Ok, Err, refl, sym, ap, subst, ◌∙◌, arith, length-drop, length-take-le, length-append, append-nil, append_assoc}
use Rattle.std.specs.Prelude.{filter, nat_le, nat_lt, ◌&&◌, ◌==◌, All}
use Rattle.std.specs.List.{AllByRecursion}
use Rattle.std.proofs.lemmas.Bool.{cases_Bool, leb-true, leb-false, le-leb, lt-leb, ltb-true}
use Rattle.std.proofs.lemmas.List.{get_or-take, get_or-drop, ext_get_or, length-map, take_at, drop_all}
use Rattle.std.proofs.lemmas.List.Elements.{All-head, All-tail, filter-append}
use Rattle.ledger_bytes.specs.declared.digest.Digest.{Digest}
use Rattle.ledger_bytes.specs.declared.failure.Bad.{Bad}
use Rattle.ledger_bytes.specs.Fields.{IsBytes}
use Rattle.journal_record.specs.declared.header.Header.{Header}
use Rattle.journal_record.specs.declared.header.Kind.TheVariants.{Content}
use Rattle.journal_record.specs.Header as headers
use Rattle.journal_record.specs.Reading.{header_of}
use Rattle.journal_record.specs.Rules.{is_no_clue}
use Rattle.journal_record.proofs.ReadingLaws.{header_of_only}
use Rattle.tree_model.specs.Tree.{Hash}
use Rattle.merkle_tree.specs.declared.head.Head.{Head}
use Rattle.clue_lineage.specs.declared.answer.Run.{Run}
use Rattle.clue_lineage.specs.Lineages.{LineageItem, Lineage, IsItem}
use Rattle.clue_lineage.specs.Reading.{lineage_of}
use Rattle.clue_lineage.specs.Accepting.{last_ordinal, run_of, acceptance, IsRecordOf, FollowOn, AreLinked}
use Rattle.clue_lineage.specs.Judging.{IsOf, AreOfList, IsTrueOf}
use Rattle.clue_lineage.specs.Runs.{reads_record, is_of, read_ordinal, ordinal_of, records_in, KeepsClueRule, records_between, headers_of, headers_read}
use Rattle.clue_lineage.proofs.Accepted.{record_means, record_told, accepted_found}
use Rattle.clue_lineage.proofs.Spelled.{lineage_of_only}

-- ---- lists of items that pass a test, each of which is numbered

module _ (test : List ℕ → Bool) where
  -- an item that passes stands among those that pass behind those before it
  place_of : (list : List (List ℕ)) (n : ℕ) → n < length list → test (get_or list n []) ≡ true
      → (length (filter test (take n list)) < length (filter test list)) × (get_or (filter test list) (length (filter test (take n list))) [] ≡ get_or list n [])
  place_of [] n within passes = absurd (omega arith)
  place_of (x ∷ xs) zero within passes = rw passes (omega arith, refl)
  place_of (x ∷ xs) (suc n) within passes = elim (cases_Bool (test x)) [
    | inl one ↦ let rest = place_of xs n (omega arith) passes in rw one (omega (arith, rest.0), rest.1)
    | inr none ↦ rw none (place_of xs n (omega arith) passes)
  ]

  module _ (number : List ℕ → ℕ) where
    -- each item that passes has as its number one more than how many pass before it
    abbrev IsNumbered : List (List ℕ) → Type 0
    IsNumbered list = (n : ℕ) → n < length list → test (get_or list n []) ≡ true → number (get_or list n []) ≡ suc (length (filter test (take n list)))

    -- an item of a list that passes, with its number
    pub record IsAt (list : List (List ℕ)) (is : ℕ) (item : List ℕ) : Type 0 where
      pub place : ℕ
      pub within : place < length list
      pub item_is : item ≡ get_or list place []
      pub passes : test item ≡ true
      pub numbered : number item ≡ is

    module _ (list : List (List ℕ)) (rule : IsNumbered list) where
      -- an item with its number stands there
      at_number : (is : ℕ) (item : List ℕ) → 1 ≤ is → IsAt list is item → (is - 1 < length (filter test list)) × (get_or (filter test list) (is - 1) [] ≡ item)
      at_number is item some a =
          let passes : test (get_or list a.place []) ≡ true = ap test (sym a.item_is) ∙ a.passes in
          let spot = place_of list a.place a.within passes in
          let count : suc (length (filter test (take a.place list))) ≡ is = sym (rule a.place a.within passes) ∙ ap number (sym a.item_is) ∙ a.numbered in
          let index : length (filter test (take a.place list)) ≡ is - 1 = omega arith in
          (omega (arith, spot.0), ap (λ j. get_or (filter test list) j []) (sym index) ∙ spot.1 ∙ sym a.item_is)

      pub run_is_whole : (items : List (List ℕ)) (first : ℕ) → 1 ≤ first → ((i : ℕ) → i < length items → IsAt list (first + i) (get_or items i [])) → items ≡ take (length items) (drop (first - 1) (filter test list))
      run_is_whole [] first some run = refl
      run_is_whole (x ∷ xs) first some run =
          let count : ℕ = length (x ∷ xs) in
          let all = filter test list in
          let last = at_number (first + (count - 1)) (get_or (x ∷ xs) (count - 1) []) (omega arith) (run (count - 1) (omega arith)) in
          let behind : length (drop (first - 1) all) ≡ length all - (first - 1) = length-drop (first - 1) all in
          let len : length (take count (drop (first - 1) all)) ≡ count = length-take-le count (drop (first - 1) all) (omega (arith, last.0)) in
          ext_get_or [] (x ∷ xs) (take count (drop (first - 1) all)) (sym len)
          (λ i inside.
          let one = at_number (first + i) (get_or (x ∷ xs) i []) (omega arith) (run i inside) in
          let spot : first - 1 + i ≡ first + i - 1 = omega arith in
          sym one.1 ∙ ap (λ j. get_or all j []) (sym spot) ∙ sym (get_or-drop (first - 1) all i []) ∙ sym (get_or-take count (drop (first - 1) all) i [] inside))

    -- ---- those between two numbers

    -- numbers that count up
    abbrev CountsUp : ℕ → List (List ℕ) → Type 0
    CountsUp m [] = Unit {0}
    CountsUp m (x ∷ xs) = (number x ≡ m) × CountsUp (m + 1) xs

    counts_drop : (k m : ℕ) (xs : List (List ℕ)) → CountsUp m xs → CountsUp (m + k) (drop k xs)
    counts_drop zero m xs counts = subst (λ n. CountsUp n xs) (omega arith) counts
    counts_drop (suc k) m [] counts = tt
    counts_drop (suc k) m (x ∷ xs) counts = subst (λ n. CountsUp n (drop k xs)) (omega arith) (counts_drop k (m + 1) xs counts.1)

    all_from : (first m : ℕ) (xs : List (List ℕ)) → CountsUp m xs → first ≤ m → filter (λ x. nat_le first (number x)) xs ≡ xs
    all_from first m [] counts low = refl
    all_from first m (x ∷ xs) counts low = rw (le-leb first (number x) (omega (arith, counts.0, low))) (ap (λ rest. x ∷ rest) (all_from first (m + 1) xs counts.1 (omega (arith, low))))

    from_first : (first m : ℕ) (xs : List (List ℕ)) → CountsUp m xs → filter (λ x. nat_le first (number x)) xs ≡ drop (first - m) xs
    from_first first m [] counts = sym (drop_all (first - m) [] (omega arith))
    from_first first m (x ∷ xs) counts = elim (cases_Bool (nat_le first (number x))) [
      | inl one ↦
          let low : first ≤ m = omega (arith, leb-true first (number x) one, counts.0) in
          let none : first - m ≡ 0 = omega (arith, low) in
          all_from first m (x ∷ xs) counts low ∙ ap (λ k. drop k (x ∷ xs)) (sym none)
      | inr other ↦
          let high : m < first = omega (arith, leb-false first (number x) other, counts.0) in
          let one : first - m ≡ suc (first - (m + 1)) = omega (arith, high) in
          let left : filter (λ x. nat_le first (number x)) (x ∷ xs) ≡ filter (λ x. nat_le first (number x)) xs = rw other refl in
          left ∙ from_first first (m + 1) xs counts.1 ∙ ap (λ k. drop k (x ∷ xs)) (sym one)
    ]

    none_to : (last m : ℕ) (xs : List (List ℕ)) → CountsUp m xs → last < m → filter (λ x. nat_le (number x) last) xs ≡ []
    none_to last m [] counts high = refl
    none_to last m (x ∷ xs) counts high = rw (lt-leb (number x) last (omega (arith, counts.0, high))) (none_to last (m + 1) xs counts.1 (omega (arith, high)))

    to_last : (last m : ℕ) (xs : List (List ℕ)) → CountsUp m xs → filter (λ x. nat_le (number x) last) xs ≡ take (last + 1 - m) xs
    to_last last m [] counts = sym (nothing (last + 1 - m)) where
      nothing : (k : ℕ) → (let none : List (List ℕ) = [] in take k none ≡ none)
      nothing zero = refl
      nothing (suc k) = refl
    to_last last m (x ∷ xs) counts = elim (cases_Bool (nat_le (number x) last)) [
      | inl one ↦
          let low : m ≤ last = omega (arith, leb-true (number x) last one, counts.0) in
          let more : last + 1 - m ≡ suc (last + 1 - (m + 1)) = omega (arith, low) in
          let with_it : filter (λ x. nat_le (number x) last) (x ∷ xs) ≡ x ∷ filter (λ x. nat_le (number x) last) xs = rw one refl in
          with_it ∙ ap (λ rest. x ∷ rest) (to_last last (m + 1) xs counts.1) ∙ ap (λ k. take k (x ∷ xs)) (sym more)
      | inr other ↦
          let high : last < m = omega (arith, leb-false (number x) last other, counts.0) in
          let none : last + 1 - m ≡ 0 = omega (arith, high) in
          none_to last m (x ∷ xs) counts high ∙ ap (λ k. take k (x ∷ xs)) (sym none)
    ]

    stands_at : (front : List (List ℕ)) (x : List ℕ) (back : List (List ℕ)) → get_or (front ++ x ∷ back) (length front) [] ≡ x
    stands_at [] x back = refl
    stands_at (y ∷ front) x back = stands_at front x back

    -- numbers of a numbered list
    counts_up : (list front back : List (List ℕ)) → IsNumbered list → list ≡ front ++ back → CountsUp (1 + length (filter test front)) (filter test back)
    counts_up list front [] rule is = tt
    counts_up list front (x ∷ back) rule is =
        let all : list ≡ (front ++ x ∷ []) ++ back = is ∙ sym (append_assoc front (x ∷ []) back) in
        let later = counts_up list (front ++ x ∷ []) back rule all in
        let there : get_or list (length front) [] ≡ x = ap (λ (l : List (List ℕ)). get_or l (length front) []) is ∙ stands_at front x back in
        let before : take (length front) list ≡ front = ap (take (length front)) is ∙ take_at front (x ∷ back) (length front) refl in
        let within : length front < length list = omega (arith, ap length is, length-append front (x ∷ back)) in
        elim (cases_Bool (test x)) [
          | inl one ↦
              let now : number x ≡ 1 + length (filter test front) =
              ap number (sym there) ∙ rule (length front) within (ap test there ∙ one) ∙ ap (λ (l : List (List ℕ)). suc (length (filter test l))) before ∙ (let same : suc (length (filter test front)) ≡ 1 + length (filter test front) = omega arith in same) in
              let count : length (filter test (front ++ x ∷ [])) ≡ length (filter test front) + 1 = ap length (filter-append test front (x ∷ []) ∙ ap (λ b. filter test front ++ cond b (x ∷ []) []) one) ∙ length-append (filter test front) (x ∷ []) in
              subst (λ b. CountsUp (1 + length (filter test front)) (cond b (x ∷ filter test back) (filter test back))) (sym one)
              (now, subst (λ n. CountsUp n (filter test back)) (omega (arith, count)) later)
          | inr none ↦
              let count : length (filter test (front ++ x ∷ [])) ≡ length (filter test front) = ap length (filter-append test front (x ∷ []) ∙ ap (λ b. filter test front ++ cond b (x ∷ []) []) none ∙ append-nil (filter test front)) in
              subst (λ b. CountsUp (1 + length (filter test front)) (cond b (x ∷ filter test back) (filter test back))) (sym none)
              (subst (λ n. CountsUp n (filter test back)) (omega (arith, count)) later)
        ]

  -- one filter behind another
  both_filters : (p q : List ℕ → Bool) (xs : List (List ℕ)) → filter (λ x. test x && (p x && q x)) xs ≡ filter q (filter p (filter test xs))
  both_filters p q [] = refl
  both_filters p q (x ∷ xs) = by (test x) (p x) (q x) refl refl refl (both_filters p q xs) where
    by : (t a b : Bool) → test x ≡ t → p x ≡ a → q x ≡ b → filter (λ y. test y && (p y && q y)) xs ≡ filter q (filter p (filter test xs))
        → filter (λ y. test y && (p y && q y)) (x ∷ xs) ≡ filter q (filter p (filter test (x ∷ xs)))
    by true true true t a b rest = rw (t, a, b) (ap (λ l. x ∷ l) rest)
    by true true false t a b rest = rw (t, a, b) rest
    by true false b t a is rest = rw (t, a) rest
    by false a b t is other rest = rw t rest

-- ---- a list of headers that keeps the rule of clues

module _ (clue : Digest) (some : is_no_clue clue ≡ false) where
  abbrev IsRead : List ℕ → Type 0
  IsRead bytes = (x : Header) × (header_of bytes ≡ Ok x) × (x.kind ≡ Content) × (x.clue ≡ clue)

  read_by : (read : Result Header Bad) → reads_record clue read ≡ true → (x : Header) × (read ≡ Ok x) × (x.kind ≡ Content) × (x.clue ≡ clue)
  read_by (Ok x) e = let r = record_means clue (record { header = x; path = [] }) e in (x, refl, r.kind, r.clue_is)
  read_by (Err bad) e = absurd cc

  numbered : (list : List (List ℕ)) → KeepsClueRule list → IsNumbered (is_of clue) ordinal_of list
  numbered list rule n within passes =
      let read = read_by (header_of (get_or list n [])) passes in
      let next = rule n read.0 within read.1 read.2 (ap is_no_clue read.3 ∙ some) in
      let count : read.0.clue_ord ≡ suc (length (records_in clue (take n list))) = next.ordinal ∙ ap (λ (d : Digest). length (records_in d (take n list)) + 1) read.3 ∙ (let same : length (records_in clue (take n list)) + 1 ≡ suc (length (records_in clue (take n list))) = omega arith in same) in
      ap read_ordinal read.1 ∙ count

  -- those between two ordinals
  between_is : (first last : ℕ) (list : List (List ℕ)) → KeepsClueRule list → 1 ≤ first → records_between clue first last list ≡ take (last + 1 - first) (drop (first - 1) (records_in clue list))
  between_is first last list rule low =
      let counts = counts_up (is_of clue) ordinal_of list [] list (numbered list rule) refl in
      let front : filter (λ x. nat_le first (ordinal_of x)) (records_in clue list) ≡ drop (first - 1) (records_in clue list) = from_first (is_of clue) ordinal_of first 1 (records_in clue list) counts in
      let later = counts_drop (is_of clue) ordinal_of (first - 1) 1 (records_in clue list) counts in
      let start : 1 + (first - 1) ≡ first = omega (arith, low) in
      both_filters (is_of clue) (λ x. nat_le first (ordinal_of x)) (λ x. nat_le (ordinal_of x) last) list
      ∙ ap (filter (λ x. nat_le (ordinal_of x) last)) front
      ∙ to_last (is_of clue) ordinal_of last first (drop (first - 1) (records_in clue list)) (subst (λ n. CountsUp (is_of clue) ordinal_of n (drop (first - 1) (records_in clue list))) start later)

-- ---- the journals of an accepted lineage

-- a journal as a list tells it
record Told (clue : Digest) (list : List (List ℕ)) (item : LineageItem) : Type 0 where
  fits : IsItem item
  record_of : IsRecordOf clue item
  of : IsOf list item

told_all : (clue : Digest) (list : List (List ℕ)) (items : List LineageItem) → All IsItem items → AllByRecursion (IsRecordOf clue) items → AllByRecursion (IsOf list) items → AllByRecursion (Told clue list) items
told_all clue list [] fits records of = tt
told_all clue list (x ∷ xs) fits records of = (record { fits = All-head IsItem x xs fits; record_of = records.0; of = of.0 }, told_all clue list xs (All-tail IsItem x xs fits) records.1 of.1)

header_read : (item : LineageItem) → IsItem item → header_of (headers.spelling item.header) ≡ Ok item.header
header_read item fits = header_of_only (headers.spelling item.header) item.header fits.rules fits.widths refl

module _ (clue : Digest) (list : List (List ℕ)) where
  at_place : (item : LineageItem) (n : ℕ) → Told clue list item → item.header.clue_ord ≡ n → IsAt (is_of clue) ordinal_of list n (headers.spelling item.header)
  at_place item n t is = record {
    place = item.header.jsn;
    within = t.of.within;
    item_is = sym t.of.stands;
    passes = ap (reads_record clue) (header_read item t.fits) ∙ record_told clue item t.record_of;
    numbered = ap read_ordinal (header_read item t.fits) ∙ is;
  }

  run_behind : (before : Header) (n : ℕ) (items : List LineageItem) → before.clue_ord ≡ n → FollowOn before items → AllByRecursion (Told clue list) items
      → (i : ℕ) → i < length (headers_of items) → IsAt (is_of clue) ordinal_of list (n + 1 + i) (get_or (headers_of items) i [])
  run_behind before n [] is behind told i inside = absurd (omega (arith, inside))
  run_behind before n (x ∷ xs) is behind told zero inside = at_place x (n + 1 + 0) told.0 (omega (arith, behind.0.ordinal, is))
  run_behind before n (x ∷ xs) is behind told (suc i) inside =
      subst (λ k. IsAt (is_of clue) ordinal_of list k (get_or (headers_of xs) i [])) (omega arith)
      (run_behind x.header (n + 1) xs (omega (arith, behind.0.ordinal, is)) behind.1 told.1 i (omega (arith, inside)))

  run_linked : (items : List LineageItem) → AreLinked items → AllByRecursion (Told clue list) items
      → (i : ℕ) → i < length (headers_of items) → IsAt (is_of clue) ordinal_of list ((run_of items).first + i) (get_or (headers_of items) i [])
  run_linked [] linked told i inside = absurd (omega (arith, inside))
  run_linked (x ∷ xs) linked told zero inside = at_place x (x.header.clue_ord + 0) told.0 (omega arith)
  run_linked (x ∷ xs) linked told (suc i) inside =
      subst (λ k. IsAt (is_of clue) ordinal_of list k (get_or (headers_of xs) i [])) (omega arith)
      (run_behind x.header x.header.clue_ord xs refl linked told.1 i (omega (arith, inside)))

-- the ordinals of a run count up
last_behind : (before : Header) (items : List LineageItem) → FollowOn before items → last_ordinal before.clue_ord items ≡ before.clue_ord + length items
last_behind before [] behind = omega arith
last_behind before (x ∷ xs) behind = omega (arith, last_behind x.header xs behind.1, behind.0.ordinal)

run_counts : (items : List LineageItem) → 1 ≤ length items → AreLinked items → (run_of items).last + 1 ≡ (run_of items).first + (run_of items).count
run_counts [] some linked = absurd (omega (arith, some))
run_counts (x ∷ xs) some linked = omega (arith, last_behind x.header xs linked)

run_count : (items : List LineageItem) → (run_of items).count ≡ length (headers_of items)
run_count [] = refl
run_count (x ∷ xs) = omega (arith, length-map (x ∷ xs) (λ (i : LineageItem). headers.spelling i.header))

pub run_counted : (hash : Hash) (bytes : List ℕ) (clue : Digest) (head : Head) (run : Run) → IsBytes bytes → acceptance hash bytes clue head ≡ Ok run → run.last + 1 ≡ run.first + run.count
run_counted hash bytes clue head run plain e =
    let a = accepted_found hash bytes clue head run plain e in
    subst (λ (r : Run). r.last + 1 ≡ r.first + r.count) (sym a.run_is) (run_counts a.lineage.items a.is_lineage.some a.linked)

first_some : (clue : Digest) (items : List LineageItem) → is_no_clue clue ≡ false → 1 ≤ length items → All IsItem items → AllByRecursion (IsRecordOf clue) items → 1 ≤ (run_of items).first
first_some clue [] some long fits records = absurd (omega (arith, long))
first_some clue (x ∷ xs) some long fits records =
    let rules = All-head IsItem x xs fits in
    let positive : nat_lt 0 x.header.clue_ord ≡ true = ap (λ b. cond b (x.header.clue_ord == 0) (nat_lt 0 x.header.clue_ord)) (sym (ap is_no_clue records.0.clue_is ∙ some)) ∙ rules.rules.clue_ord in
    omega (arith, ltb-true 0 x.header.clue_ord positive)

pub true_is_whole : (hash : Hash) (bytes : List ℕ) (clue : Digest) (head : Head) (run : Run) (list : List (List ℕ)) → IsBytes bytes → acceptance hash bytes clue head ≡ Ok run → IsTrueOf list bytes → KeepsClueRule list
    → headers_read (lineage_of bytes) ≡ records_between clue run.first run.last list
unfolding IsTrueOf
true_is_whole hash bytes clue head run list plain e of rule =
    let a = accepted_found hash bytes clue head run plain e in
    let items = a.lineage.items in
    let read : lineage_of bytes ≡ Ok a.lineage = lineage_of_only bytes a.lineage a.is_lineage a.text in
    let own : AllByRecursion (IsOf list) items = subst (λ (r : Result Lineage Bad). AreOfList list r) read of in
    let told = told_all clue list items a.is_lineage.items a.records own in
    let first : run.first ≡ (run_of items).first = ap (λ (r : Run). r.first) a.run_is in
    let low : 1 ≤ (run_of items).first = first_some clue items a.some a.is_lineage.some a.is_lineage.items a.records in
    let whole = run_is_whole (is_of clue) ordinal_of list (numbered clue a.some list rule) (headers_of items) (run_of items).first low (run_linked clue list items a.linked told) in
    let counts = run_counts items a.is_lineage.some a.linked in
    let number : (run_of items).count ≡ length (headers_of items) = run_count items in
    let count : length (headers_of items) ≡ (run_of items).last + 1 - (run_of items).first = omega (arith, counts, number) in
    ap headers_read read ∙ whole ∙ ap (λ n. take n (drop ((run_of items).first - 1) (records_in clue list))) count
    ∙ sym (between_is clue a.some (run_of items).first (run_of items).last list rule low)
    ∙ ap (λ (r : Run). records_between clue r.first r.last list) (sym a.run_is)
