-- The report of bytes: there is one, and it is that of the dump which they spell.
use Rattle.std.specs.Prelude.{nat_lt}
use Rattle.std.specs.Int.{w64}
use Rattle.std.specs.List.{flat_map}
use Rattle.std.proofs.Common.{◌≡◌, ◌⊎◌, ℕ, ◌+◌, ◌-◌, ◌<◌, ◌≤◌, Bool, true, false, List, [], ◌∷◌, ◌++◌, length, Option, None, Result, Ok, Err, inl, inr, refl, sym, ap, ap₂, ◌∙◌, subst, arith, append_assoc, length-append}
use Rattle.std.proofs.lemmas.Bool.{lt-ltb, le-ltb, ltb-false}
use Rattle.std.proofs.lemmas.List.Elements.{recursion_from_All, All-from_recursion}
use Rattle.ledger_bytes.specs.Fields.{Unread, left_from, number_at, IsBytes}
use Rattle.ledger_bytes.specs.declared.failure.Bad.{Bad}
use Rattle.ledger_bytes.proofs.Fields.{ok_is}
use Rattle.journal_record.specs.Items.{Item, IsItem, item_at, item_text}
use Rattle.pseudo_genesis.specs.declared.base.Base.{Base}
use Rattle.ledger_model.specs.Scheme.{Scheme}
use Rattle.dump_model.specs.Dumps.{Dump, IsDump, IsNotaryEntry, base_text, dump_text, first_of, magic, number_text}
use Rattle.dump_model.proofs.Same.{concat_is}
use Rattle.audit_dump.specs.Breaks.{Front, Tail, front_at, place_behind, place_within, tail_at}
use Rattle.audit_dump.specs.Bytes.{HaveBeenRead, IsBroken, IsFaultBehind, IsLastFault, IsNextFault, IsReportBehind, IsReportOf, IsReportOfCount, IsReportOfFront, dump_of}
use Rattle.audit_dump.specs.Ending.{Given}
use Rattle.audit_dump.specs.Known.{journals_of}
use Rattle.audit_dump.specs.Reading.{AreGood}
use Rattle.audit_dump.specs.Reports.{Check, Counts, EndsEarly, EndsLate, Fault, IsReport, Report, fault_at}
use Rattle.audit_dump.specs.Reports.Check.{form, early}
use Rattle.audit_dump.proofs.OneReport.{none_fails, same_check, same_end, same_report}
use Rattle.audit_dump.proofs.Parts.{count_back, count_takes, front_back, front_takes, items_back, items_take, tail_back, tail_takes, tail_text}

-- ---- two readings of the same bytes

-- a reading goes on where another ended
abbrev GoesOn : List Item → Unread → List Item → Type 0
GoesOn read after items = (x : Item) × (next : Unread) × (more : List Item) × (items ≡ read ++ x ∷ more) × (item_at after ≡ Ok (x, next))

longer : (x y : Item) (r s : List Item) (a : Unread) → x ≡ y → GoesOn r a s → GoesOn (x ∷ r) a (y ∷ s)
longer x y r s a same on = (on.0, on.1, on.2, ap₂ (λ v t. v ∷ t) (sym same) on.3, on.4)

split : (l : Unread) (r s : List Item) (a b : Unread) → HaveBeenRead l r a → HaveBeenRead l s b → ((r ≡ s) × (a ≡ b)) ⊎ (GoesOn r a s ⊎ GoesOn s b r)
split l [] [] a b p q = inl (refl, p ∙ sym q)
split l [] (y ∷ s) a b p q = inr (inl (y, q.0, s, refl, subst (λ u. item_at u ≡ Ok (y, q.0)) (sym p) q.1))
split l (x ∷ r) [] a b p q = inr (inr (x, p.0, r, refl, subst (λ u. item_at u ≡ Ok (x, p.0)) (sym q) p.1))
split l (x ∷ r) (y ∷ s) a b p q =
    let both : (x, p.0) ≡ (y, q.0) = ok_is (x, p.0) (y, q.0) (sym p.1 ∙ q.1) in
    let same : x ≡ y = ap (λ (v : Item × Unread). v.0) both in
    let next : p.0 ≡ q.0 = ap (λ (v : Item × Unread). v.1) both in
    elim (split q.0 r s a b (subst (λ u. HaveBeenRead u r a) next p.2) q.2) [
      | inl e ↦ inl (ap₂ (λ v t. v ∷ t) same e.0, e.1)
      | inr (inl on) ↦ inr (inl (longer x y r s a same on))
      | inr (inr on) ↦ inr (inr (longer y x s r b (sym same) on))
    ]

-- a reading in two parts
parted : (l : Unread) (read : List Item) (x : Item) (more : List Item) (end : Unread) → HaveBeenRead l (read ++ x ∷ more) end
    → (after : Unread) × (next : Unread) × HaveBeenRead l read after × (item_at after ≡ Ok (x, next))
parted l [] x more end p = (l, p.0, refl, p.1)
parted l (y ∷ read) x more end p =
    let rest = parted p.0 read x more end p.2 in
    (rest.0, rest.1, (p.0, p.1, rest.2), rest.3)

-- what goes on is longer
is_longer : (r s : List Item) (a : Unread) → GoesOn r a s → length r < length s
is_longer r s a on = omega (arith, ap length on.3, length-append r (on.0 ∷ on.2))

-- ---- one report

same_counts : (start : Option Base) (read : List Item) (r s : Report) → Counts start read r → Counts start read s → r.fault ≡ s.fault → r ≡ s
same_counts start read r s a b fault =
    same_report r s (a.size ∙ sym b.size) (a.kept ∙ sym b.kept) (a.point ∙ sym b.point) (a.occulted ∙ sym b.occulted) (a.times ∙ sym b.times) fault

module _ (scheme : Scheme) (given : Given) where
  same_next : (front : Front) (read : List Item) (after : Unread) (got : Result (Item × Unread) Bad) (f g : Option Fault) → IsNextFault scheme front read after got f → IsNextFault scheme front read after got g → f ≡ g
  same_next front read after (Err bad) f g a b = a ∙ sym b
  same_next front read after (Ok x) f g a b =
      let same = same_check scheme front.id.0 front.base (journals_of read) x.0 a.0 b.0 a.1 b.1 in
      a.2 ∙ ap (λ c. fault_at (early c) (first_of front.base + length read)) same ∙ sym b.2

  same_last : (front : Front) (read : List Item) (got : Result Tail Bad) (f g : Option Fault) → IsLastFault given front read got f → IsLastFault given front read got g → f ≡ g
  same_last front read (Err bad) f g a b = a ∙ sym b
  same_last front read (Ok tail) f g a b = same_end given (dump_of front read tail) f g a b

  same_behind : (front : Front) (read : List Item) (after : Unread) (f g : Option Fault) (more : Bool) → IsFaultBehind scheme given front read after f more → IsFaultBehind scheme given front read after g more → f ≡ g
  same_behind front read after f g true a b = same_next front read after (item_at after) f g a b
  same_behind front read after f g false a b = same_last front read (tail_at after) f g a b

  -- where a report ends, no reading of which all passes goes on
  ends_there : (front : Front) (count : ℕ) (l : Unread) (r : Report) (is : IsReportBehind scheme given front count l r) (s : List Item) → length s ≤ count
      → AreGood scheme front.id.0 front.base [] s → GoesOn is.read is.after s → ⊥
  ends_there front count l r is s few good on =
      let more : nat_lt (length is.read) count ≡ true = lt-ltb (length is.read) count (omega (arith, few, is_longer is.read s is.after on)) in
      let told = subst (λ v. IsFaultBehind scheme given front is.read is.after r.fault v) more is.fault in
      let fails = subst (λ v. IsNextFault scheme front is.read is.after v r.fault) on.4 told in
      none_fails scheme front.id.0 front.base [] is.read on.0 on.2 fails.0 (subst (AreGood scheme front.id.0 front.base []) on.3 good) fails.1

  one_behind : (front : Front) (count : ℕ) (l : Unread) (r s : Report) → IsReportBehind scheme given front count l r → IsReportBehind scheme given front count l s → r ≡ s
  one_behind front count l r s a b =
      elim (split l a.read b.read a.after b.after a.have_been_read b.have_been_read) [
        | inl same ↦
            let counts : Counts front.base b.read r = subst (λ t. Counts front.base t r) same.0 a.counts in
            let moved = subst (λ t. IsFaultBehind scheme given front t a.after r.fault (nat_lt (length t) count)) same.0 a.fault in
            let fault = subst (λ u. IsFaultBehind scheme given front b.read u r.fault (nat_lt (length b.read) count)) same.1 moved in
            same_counts front.base b.read r s counts b.counts (same_behind front b.read b.after r.fault s.fault (nat_lt (length b.read) count) fault b.fault)
        | inr (inl on) ↦ absurd (ends_there front count l r a b.read b.few b.passed on)
        | inr (inr on) ↦ absurd (ends_there front count l s b a.read a.few a.passed on)
      ]

  one_broken : (start : Option Base) (bad : Bad) (r s : Report) → IsBroken start bad r → IsBroken start bad s → r ≡ s
  one_broken start bad r s a b = same_counts start [] r s a.counts b.counts (a.fault ∙ sym b.fault)

  one_of_count : (front : Front) (got : Result (ℕ × Unread) Bad) (r s : Report) → IsReportOfCount scheme given front got r → IsReportOfCount scheme given front got s → r ≡ s
  one_of_count front (Err bad) r s a b = one_broken front.base bad r s a b
  one_of_count front (Ok count) r s a b = one_behind front count.0 count.1 r s a b

  one_of_front : (got : Result (Front × Unread) Bad) (r s : Report) → IsReportOfFront scheme given got r → IsReportOfFront scheme given got s → r ≡ s
  one_of_front (Err bad) r s a b = one_broken None bad r s a b
  one_of_front (Ok front) r s a b = one_of_count front.0 (number_at w64 front.1) r s a b

  pub one_of_bytes : (bytes : List ℕ) (r s : Report) → IsReportOf scheme given bytes r → IsReportOf scheme given bytes s → r ≡ s
  one_of_bytes bytes r s a b = one_of_front (front_at (left_from (length bytes) bytes)) r s a b

  -- ---- the bytes of a dump

  module _ (dump : Dump) (fits : IsDump dump) where
    abbrev front : Front
    front = record { id = dump.id; base = dump.base }

    abbrev tail : Tail
    tail = record { head = dump.head; entries = dump.entries; notary_root = dump.notary_root }

    abbrev whole : ℕ
    whole = length (dump_text dump)

    abbrev at_items : Unread
    at_items = left_from whole (flat_map item_text dump.items ++ tail_text tail)

    abbrev at_tail : Unread
    at_tail = left_from whole (tail_text tail)

    text_is : dump_text dump ≡ magic ++ (dump.id.0 ++ (number_text (length (base_text dump.base)) ++ (base_text dump.base ++ (number_text (length dump.items) ++ (flat_map item_text dump.items ++ tail_text tail)))))
    unfolding dump_text
    text_is =
        ap
        (λ es.
        magic
        ++ (dump.id.0 ++ (number_text (length (base_text dump.base)) ++ (base_text dump.base ++ (number_text (length dump.items) ++ (flat_map item_text dump.items
        ++ (number_text dump.head.size ++ (dump.head.root.0 ++ (number_text (length dump.entries) ++ (es ++ dump.notary_root.0))))))))))
        (concat_is dump.entries)

    front_is : front_at (left_from whole (dump_text dump)) ≡ Ok (front, left_from whole (number_text (length dump.items) ++ (flat_map item_text dump.items ++ tail_text tail)))
    front_is = ap (λ t. front_at (left_from whole t)) text_is ∙ front_back front whole (number_text (length dump.items) ++ (flat_map item_text dump.items ++ tail_text tail)) (record { id = fits.id; base = fits.base })

    count_is : number_at w64 (left_from whole (number_text (length dump.items) ++ (flat_map item_text dump.items ++ tail_text tail))) ≡ Ok (length dump.items, at_items)
    count_is = count_back (length dump.items) whole (flat_map item_text dump.items ++ tail_text tail) fits.item_count

    items_are : HaveBeenRead at_items dump.items at_tail
    items_are = items_back dump.items whole (tail_text tail) (recursion_from_All IsItem dump.items fits.items)

    tail_is : tail_at at_tail ≡ Ok tail
    tail_is = tail_back tail whole (record { size = fits.size; root = fits.root; entries = recursion_from_All IsNotaryEntry dump.entries fits.entries; count = fits.entry_count; notary_root = fits.notary_root })

    -- a report of the bytes is one of what stands behind the front
    to_behind : (r : Report) → IsReportOf scheme given (dump_text dump) r → IsReportBehind scheme given front (length dump.items) at_items r
    to_behind r is = subst (λ v. IsReportOfCount scheme given front v r) count_is (subst (λ v. IsReportOfFront scheme given v r) front_is is)

    from_behind : (r : Report) → IsReportBehind scheme given front (length dump.items) at_items r → IsReportOf scheme given (dump_text dump) r
    from_behind r is = subst (λ v. IsReportOfFront scheme given v r) (sym front_is) (subst (λ v. IsReportOfCount scheme given front v r) (sym count_is) is)

    pub told_of_bytes : (r : Report) → IsReport scheme given dump r → IsReportOf scheme given (dump_text dump) r
    told_of_bytes r is = from_behind r (by is.fault)
      where
        by : EndsEarly scheme dump is.read r.fault ⊎ EndsLate scheme given dump is.read r.fault → IsReportBehind scheme given front (length dump.items) at_items r
        by (inl fails) =
            let at = parted at_items is.read fails.1.item fails.1.more at_tail (subst (λ t. HaveBeenRead at_items t at_tail) fails.1.items_are items_are) in
            let low : length is.read < length dump.items = omega (arith, ap length fails.1.items_are, length-append is.read (fails.1.item ∷ fails.1.more)) in
            let next : IsNextFault scheme front is.read at.0 (item_at at.0) r.fault = subst (λ v. IsNextFault scheme front is.read at.0 v r.fault) (sym at.3) (fails.0, fails.1.fails, fails.2) in
            record {
              read = is.read;
              after = at.0;
              have_been_read = at.2;
              few = omega (arith, low);
              passed = fails.1.passed;
              counts = is.counts;
              fault = subst (λ v. IsFaultBehind scheme given front is.read at.0 r.fault v) (sym (lt-ltb (length is.read) (length dump.items) low)) next;
            }
        by (inr all) =
            let last : IsLastFault given front dump.items (tail_at at_tail) r.fault = subst (λ v. IsLastFault given front dump.items v r.fault) (sym tail_is) all.2 in
            record {
              read = dump.items;
              after = at_tail;
              have_been_read = items_are;
              few = omega arith;
              passed = all.1;
              counts = subst (λ t. Counts dump.base t r) all.0 is.counts;
              fault = subst (λ v. IsFaultBehind scheme given front dump.items at_tail r.fault v) (sym (le-ltb (length dump.items) (length dump.items) (omega arith))) last;
            }

    pub bytes_tell : (r : Report) → IsReportOf scheme given (dump_text dump) r → IsReport scheme given dump r
    bytes_tell r told =
        let is = to_behind r told in
        elim (split at_items is.read dump.items is.after at_tail is.have_been_read items_are) [
          | inl same ↦
              let none : nat_lt (length is.read) (length dump.items) ≡ false = le-ltb (length is.read) (length dump.items) (omega (arith, ap length same.0)) in
              let last = subst (λ v. IsFaultBehind scheme given front is.read is.after r.fault v) none is.fault in
              let there = subst (λ u. IsLastFault given front is.read (tail_at u) r.fault) same.1 last in
              let whole_one = subst (λ v. IsLastFault given front is.read v r.fault) tail_is there in
              record {
                read = is.read;
                counts = is.counts;
                fault = inr (same.0, subst (AreGood scheme dump.id.0 dump.base []) same.0 is.passed, subst (λ t. IsLastFault given front t (Ok tail) r.fault) same.0 whole_one);
              }
          | inr (inl on) ↦
              let more : nat_lt (length is.read) (length dump.items) ≡ true = lt-ltb (length is.read) (length dump.items) (is_longer is.read dump.items is.after on) in
              let next = subst (λ v. IsFaultBehind scheme given front is.read is.after r.fault v) more is.fault in
              let fails = subst (λ v. IsNextFault scheme front is.read is.after v r.fault) on.4 next in
              record {
                read = is.read;
                counts = is.counts;
                fault = inl (fails.0, record { item = on.0; more = on.2; items_are = on.3; passed = is.passed; fails = fails.1 }, fails.2);
              }
          | inr (inr on) ↦ absurd (omega (arith, is.few, is_longer dump.items is.read at_tail on))
        ]

  -- ---- bytes without a fault

  -- a dump of these bytes, of which this is the report
  abbrev IsDumpOf : List ℕ → Report → Dump → Type 0
  IsDumpOf bytes r dump = IsDump dump × (bytes ≡ dump_text dump) × IsReport scheme given dump r

  -- bytes of which nothing was read
  abbrev unread : List ℕ → Unread
  unread bytes = left_from (length bytes) bytes

  never : (r : Report) (check : Check) (place : ℕ) → r.fault ≡ None → r.fault ≡ fault_at check place → ⊥
  never r check place none some = let same : fault_at check place ≡ None = sym some ∙ none in cc

  joined : (bytes : List ℕ) (front : Front) (count : ℕ) (items : List Item) (tail : Tail) (a b c : List ℕ) → bytes ≡ (magic ++ (front.id.0 ++ (number_text (length (base_text front.base)) ++ base_text front.base))) ++ a
      → a ≡ number_text count ++ b → b ≡ flat_map item_text items ++ c → c ≡ tail_text tail → count ≡ length items → bytes ≡ dump_text (dump_of front items tail)
  unfolding dump_text
  joined bytes front count items tail a b c one two three four same =
      let spread : (x y z w rest : List ℕ) → (x ++ (y ++ (z ++ w))) ++ rest ≡ x ++ (y ++ (z ++ (w ++ rest))) =
      λ x y z w rest. append_assoc x (y ++ (z ++ w)) rest ∙ ap (λ t. x ++ t) (append_assoc y (z ++ w) rest ∙ ap (λ t. y ++ t) (append_assoc z w rest)) in
      let inner : a ≡ number_text (length items) ++ (flat_map item_text items ++ tail_text tail) =
      two ∙ ap₂ (λ k t. number_text k ++ t) same (three ∙ ap (λ t. flat_map item_text items ++ t) four) in
      one ∙ ap (λ t. (magic ++ (front.id.0 ++ (number_text (length (base_text front.base)) ++ base_text front.base))) ++ t) inner
      ∙ spread magic front.id.0 (number_text (length (base_text front.base))) (base_text front.base) (number_text (length items) ++ (flat_map item_text items ++ tail_text tail))
      ∙ ap
      (λ es.
      magic
      ++ (front.id.0 ++ (number_text (length (base_text front.base)) ++ (base_text front.base ++ (number_text (length items) ++ (flat_map item_text items
      ++ (number_text tail.head.size ++ (tail.head.root.0 ++ (number_text (length tail.entries) ++ (es ++ tail.notary_root.0))))))))))
      (sym (concat_is tail.entries))

  pub found_dump : (bytes : List ℕ) (r : Report) → IsBytes bytes → IsReportOf scheme given bytes r → r.fault ≡ None → (dump : Dump) × IsDumpOf bytes r dump
  found_dump bytes r plain is none = by_front (front_at (unread bytes)) refl is
    where
      by_tail : (front : Front) (a : Unread) (count : ℕ) (b : Unread) (told : IsReportBehind scheme given front count b r) → front_at (unread bytes) ≡ Ok (front, a) → number_at w64 a ≡ Ok (count, b) → count ≡ length told.read
          → (got : Result Tail Bad) → tail_at told.after ≡ got → IsLastFault given front told.read got r.fault → (dump : Dump) × IsDumpOf bytes r dump
      by_tail front a count b told at_front at_count same (Err bad) at_tail last = absurd (never r form (place_within bad) none last)
      by_tail front a count b told at_front at_count same (Ok tail) at_tail last =
          let one = front_takes (unread bytes) front a plain at_front in
          let two = count_takes a count b one.0.bytes at_count in
          let three = items_take b told.read told.after two.0.bytes told.have_been_read in
          let four = tail_takes told.after tail three.0.bytes at_tail in
          let fits : IsDump (dump_of front told.read tail) = record {
            id = one.1.id;
            base = one.1.base;
            items = All-from_recursion IsItem told.read three.1;
            item_count = omega (arith, two.1, same);
            size = four.1.size;
            root = four.1.root;
            entries = All-from_recursion IsNotaryEntry tail.entries four.1.entries;
            entry_count = four.1.count;
            notary_root = four.1.notary_root;
          } in (
            dump_of front told.read tail,
            (
              fits,
              joined bytes front count told.read tail a.rest b.rest told.after.rest one.0.parts two.0.parts three.0.parts four.0 same,
              record { read = told.read; counts = told.counts; fault = inr (refl, told.passed, last) },
            ),
          )

      by_more : (front : Front) (a : Unread) (count : ℕ) (b : Unread) (told : IsReportBehind scheme given front count b r) → front_at (unread bytes) ≡ Ok (front, a) → number_at w64 a ≡ Ok (count, b)
          → (more : Bool) → nat_lt (length told.read) count ≡ more → IsFaultBehind scheme given front told.read told.after r.fault more → (dump : Dump) × IsDumpOf bytes r dump
      by_more front a count b told at_front at_count true is fault = absurd (next (item_at told.after) fault)
        where
          next : (got : Result (Item × Unread) Bad) → IsNextFault scheme front told.read told.after got r.fault → ⊥
          next (Err bad) f = never r form (place_behind (told.after.whole - length told.after.rest) bad) none f
          next (Ok x) f = never r (early f.0) (first_of front.base + length told.read) none f.2
      by_more front a count b told at_front at_count false is fault =
          by_tail front a count b told at_front at_count (omega (arith, told.few, ltb-false (length told.read) count is)) (tail_at told.after) refl fault

      by_count : (front : Front) (a : Unread) (got : Result (ℕ × Unread) Bad) → front_at (unread bytes) ≡ Ok (front, a) → number_at w64 a ≡ got → IsReportOfCount scheme given front got r → (dump : Dump) × IsDumpOf bytes r dump
      by_count front a (Err bad) at_front at_count told = absurd (never r form (place_within bad) none told.fault)
      by_count front a (Ok count) at_front at_count told = by_more front a count.0 count.1 told at_front at_count (nat_lt (length told.read) count.0) refl told.fault

      by_front : (got : Result (Front × Unread) Bad) → front_at (unread bytes) ≡ got → IsReportOfFront scheme given got r → (dump : Dump) × IsDumpOf bytes r dump
      by_front (Err bad) at_front told = absurd (never r form (place_within bad) none told.fault)
      by_front (Ok front) at_front told = by_count front.0 front.1 (number_at w64 front.1) at_front refl told
