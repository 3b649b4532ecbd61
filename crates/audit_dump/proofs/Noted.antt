-- What is kept of the journals of a dump stays right with one more.
use Rattle.std.specs.List.{count_by}
use Rattle.std.proofs.Common.{◌≡◌, ℕ, suc, ◌+◌, ◌-◌, ◌<◌, ◌≤◌, Bool, true, false, cond, List, [], ◌∷◌, ◌++◌, length, length-append, map, filter, Option, Some, None, refl, sym, ap, ap₂, subst, arith, ◌∙◌, append-nil}
use Rattle.std.proofs.lemmas.Bool.{ltb-true}
use Rattle.std.proofs.lemmas.List.{map-append, length-map, take-append-le}
use Rattle.std.proofs.lemmas.List.Elements.{filter-append}
use Rattle.std.proofs.lemmas.List.Sums.{length-filter, sum_by-cons}
use Rattle.ledger_bytes.specs.declared.digest.Digest.{Digest}
use Rattle.journal_record.specs.Entry.{Entry}
use Rattle.journal_record.specs.Items.{Item}
use Rattle.journal_record.specs.Rules.{a_ok}
use Rattle.journal_record.specs.declared.header.Kind.{Kind}
use Rattle.journal_record.specs.declared.header.Kind.TheVariants as kind
use Rattle.member_book.specs.Erasures.{is_time}
use Rattle.pseudo_genesis.specs.declared.base.Base.{Base}
use Rattle.ledger_model.specs.Behind.{IsNextBehind, first_of, next_number}
use Rattle.ledger_model.specs.Scheme.{Scheme}
use Rattle.dump_model.specs.Checks.{is_erased, is_occult}
use Rattle.audit_dump.specs.Claims.{claim_by, claim_of, claims_of}
use Rattle.audit_dump.specs.Ending.{IsOwnId}
use Rattle.audit_dump.specs.Journals.{AreCounted, AreKept, AreOneBehind, IsSought, IsToldAt}
use Rattle.audit_dump.specs.Known.{journal_of, journals_of, root_behind}
use Rattle.audit_dump.specs.Notes.{AreInOrder, AreMarksOf, Erased, mark_of}
use Rattle.audit_dump.specs.Passing.{Passed, StandsAfter}
use Rattle.audit_dump.specs.Reading.{Early, FailsBy, IsGood}
use Rattle.audit_dump.specs.Reports.{Counts}
use Rattle.audit_dump.specs.declared.base_purge.BasePurge.{BasePurge}
use Rattle.audit_dump.specs.declared.claims.Claim.{Claim}
use Rattle.audit_dump.specs.declared.erasing.Mark.{Mark}
use Rattle.audit_dump.specs.declared.journals.Journals.{Journals}

-- ---- the first journal

pub told_first : (scheme : Scheme) (id : List ℕ) (start : Option Base) (items : List Item) (item : Item) (new : Passed) → start ≡ None → items ≡ []
    → IsGood scheme id None [] item × StandsAfter new None (journal_of item ∷ []) → IsToldAt scheme id start items item None (Some new)
told_first scheme id start items item new none empty is =
    subst (λ (s : Option Base). IsToldAt scheme id s items item None (Some new)) (sym none) (subst (λ (xs : List Item). IsToldAt scheme id None xs item None (Some new)) (sym empty) is)

pub fails_first : (scheme : Scheme) (id : List ℕ) (start : Option Base) (items : List Item) (item : Item) (check : Early) → start ≡ None → items ≡ []
    → FailsBy scheme id None [] item check → FailsBy scheme id start (journals_of items) item check
fails_first scheme id start items item check none empty is =
    subst (λ (s : Option Base). FailsBy scheme id s (journals_of items) item check) (sym none) (subst (λ (xs : List Item). FailsBy scheme id None (journals_of xs) item check) (sym empty) is)

-- ---- one journal more

journals_more : (items : List Item) (x : Item) → journals_of (items ++ x ∷ []) ≡ journals_of items ++ journal_of x ∷ []
journals_more items x = map-append journal_of items (x ∷ [])

order_more : (n : ℕ) (items : List Item) (x : Item) → AreInOrder n items → x.header.jsn ≡ n + length items → (is_occult x.header.kind ≡ true → x.header.a < x.header.jsn) → AreInOrder n (items ++ x ∷ [])
order_more n [] x o is below = (omega (arith, is), λ hides. omega (arith, is, below hides), tt)
order_more n (y ∷ items) x o is below = (o.0, o.1, order_more (suc n) items x o.2 (omega (arith, is)) below)

occult_below : (k : Kind) (jsn a : ℕ) → is_occult k ≡ true → a_ok k jsn a ≡ true → a < jsn
occult_below kind.Genesis jsn a is ok = absurd cc
occult_below kind.Content jsn a is ok = absurd cc
occult_below kind.Member jsn a is ok = absurd cc
occult_below kind.Time jsn a is ok = absurd cc
occult_below kind.Occult jsn a is ok = ltb-true a jsn ok
occult_below kind.Purge jsn a is ok = absurd cc
occult_below kind.ClueOccult jsn a is ok = absurd cc

-- the number of the next journal
pub next_is : (start : Option Base) (items : List Item) (x : Item) → IsNextBehind start (journals_of items) x.header → x.header.jsn ≡ first_of start + length items
next_is start items x next = omega (arith, next.jsn, length-map items journal_of)

pub order_then : (start : Option Base) (items : List Item) (x : Item) → AreInOrder (first_of start) items → IsNextBehind start (journals_of items) x.header → AreInOrder (first_of start) (items ++ x ∷ [])
order_then start items x o next = order_more (first_of start) items x o (next_is start items x next) (λ is. occult_below x.header.kind x.header.jsn x.header.a is next.layout.a)

-- ---- claims

-- one journal more changes no root in front of it
root_stays : (start : Option Base) (before : List Entry) (j : Entry) (m : ℕ) → m ≤ next_number start before → root_behind start (before ++ j ∷ []) m ≡ root_behind start before m
unfolding root_behind
root_stays start before j m within = rw (take-append-le (m - first_of start) before (j ∷ []) (omega (arith, within))) refl

claims_stay : (id : List ℕ) (start : Option Base) (before : List Entry) (j : Entry) (n : ℕ) (items : List Item) → AreInOrder n items → n + length items ≤ next_number start before
    → map (claim_of id start (before ++ j ∷ [])) (filter (λ item. is_time item.header.kind) items) ≡ map (claim_of id start before) (filter (λ item. is_time item.header.kind) items)
claims_stay id start before j n [] o within = refl
claims_stay id start before j n (x ∷ items) o within = by (claims_stay id start before j (suc n) items o.2 (omega (arith, within))) (is_time x.header.kind) refl
  where
    by : map (claim_of id start (before ++ j ∷ [])) (filter (λ item. is_time item.header.kind) items) ≡ map (claim_of id start before) (filter (λ item. is_time item.header.kind) items)
        → (v : Bool) → is_time x.header.kind ≡ v
        → map (claim_of id start (before ++ j ∷ [])) (filter (λ item. is_time item.header.kind) (x ∷ items)) ≡ map (claim_of id start before) (filter (λ item. is_time item.header.kind) (x ∷ items))
    by rest true is = rw is (ap₂ (λ (c : Claim) (cs : List Claim). c ∷ cs) (ap (λ r. claim_by id r x.header) (root_stays start before j x.header.jsn (omega (arith, within, o.0)))) rest)
    by rest false is = rw is rest

module _ (id : List ℕ) (start : Option Base) (items : List Item) (x : Item) (o : AreInOrder (first_of start) items) where
  filter_more : filter (λ item. is_time item.header.kind) (items ++ x ∷ []) ≡ filter (λ item. is_time item.header.kind) items ++ filter (λ item. is_time item.header.kind) (x ∷ [])
  filter_more = filter-append (λ item. is_time item.header.kind) items (x ∷ [])

  claims_then : claims_of id start (items ++ x ∷ [])
      ≡ claims_of id start items ++ map (claim_of id start (journals_of (items ++ x ∷ []))) (filter (λ item. is_time item.header.kind) (x ∷ []))
  claims_then =
      let f = claim_of id start (journals_of (items ++ x ∷ [])) in
      ap (map f) filter_more ∙ map-append f (filter (λ item. is_time item.header.kind) items) (filter (λ item. is_time item.header.kind) (x ∷ []))
      ∙ ap (λ (cs : List Claim). cs ++ map f (filter (λ item. is_time item.header.kind) (x ∷ [])))
      (ap (λ (js : List Entry). map (claim_of id start js) (filter (λ item. is_time item.header.kind) items)) (journals_more items x)
      ∙ claims_stay id start (journals_of items) (journal_of x) (first_of start) items o (omega (arith, length-map items journal_of)))

  pub claims_same : is_time x.header.kind ≡ false → claims_of id start items ≡ claims_of id start (items ++ x ∷ [])
  claims_same is =
      let none : filter (λ (item : Item). is_time item.header.kind) (x ∷ []) ≡ [] = rw is refl in
      sym (claims_then ∙ ap (λ (xs : List Item). claims_of id start items ++ map (claim_of id start (journals_of (items ++ x ∷ []))) xs) none ∙ append-nil (claims_of id start items))

  pub claims_more : is_time x.header.kind ≡ true → (root : Digest) → root.0 ≡ root_behind start (journals_of (items ++ x ∷ [])) x.header.jsn
      → claims_of id start items ++ claim_by id root.0 x.header ∷ [] ≡ claims_of id start (items ++ x ∷ [])
  claims_more is root same =
      let one : filter (λ (item : Item). is_time item.header.kind) (x ∷ []) ≡ x ∷ [] = rw is refl in
      ap (λ (r : List ℕ). claims_of id start items ++ claim_by id r x.header ∷ []) same
      ∙ sym (claims_then ∙ ap (λ (xs : List Item). claims_of id start items ++ map (claim_of id start (journals_of (items ++ x ∷ []))) xs) one)

-- ---- all that is kept

pub noted : (id : Digest) (start : Option Base) (items : List Item) (x : Item) (old : Journals) (own : Digest) (purge : Option BasePurge) (erasures : Erased) (claims : List Claim) → AreOneBehind id start items x old
    → IsOwnId start (items ++ x ∷ []) own → IsSought purge start (items ++ x ∷ []) → AreMarksOf (items ++ x ∷ []) erasures × (erasures.first ≡ old.erasures.first)
    → claims ≡ claims_of id.0 start (items ++ x ∷ []) → AreKept id start (items ++ x ∷ []) (record { id = old.id; own = Some own; standing = old.standing; erasures = erasures; purge = purge; claims = claims })
noted id start items x old own purge erasures claims k owned sought marks claimed = record {
  held = record {
    id_is = k.id_is;
    own = owned;
    standing = k.standing;
    order = order_then start items x k.order k.next;
    purge = sought;
    marked = record {
      first = marks.1 ∙ k.counted.marked.first;
      marks = marks.0;
      few = omega (arith, length-append items (x ∷ []), next_is start items x k.next, k.next.below);
    };
  };
  claims = claimed;
}

-- ---- counts

erased_count : (items xs : List Item) → count_by (λ (m : Mark). m.erased) (map (mark_of items) xs) ≡ count_by is_erased xs
erased_count items [] = refl
erased_count items (x ∷ xs) =
    sum_by-cons (λ (m : Mark). cond m.erased 1 0) (mark_of items x) (map (mark_of items) xs) ∙ ap (λ (n : ℕ). cond (is_erased x) 1 0 + n) (erased_count items xs)
    ∙ sym (sum_by-cons (λ (y : Item). cond (is_erased y) 1 0) x xs)

pub counted : (id : Digest) (start : Option Base) (items : List Item) (j : Journals) (first count erased claims : ℕ) → AreCounted id start items j → first ≡ j.erasures.first → count ≡ length j.erasures.marks
    → erased ≡ count_by (λ (m : Mark). m.erased) j.erasures.marks → claims ≡ length j.claims
    → Counts start items (record { size = first + count; kept = count; point = first; occulted = erased; times = claims; fault = None })
counted id start items j first count erased claims is one two three four =
    let kept : count ≡ length items = two ∙ ap length is.marked.marks.marks ∙ length-map items (mark_of items) in
    record {
      size = omega (arith, one, is.marked.first, kept);
      kept = kept;
      point = one ∙ is.marked.first;
      occulted = three ∙ ap (count_by (λ (m : Mark). m.erased)) is.marked.marks.marks ∙ erased_count items items;
      times = four ∙ ap length is.claims
          ∙ length-map (filter (λ (item : Item). is_time item.header.kind) items) (claim_of id.0 start (journals_of items)) ∙ length-filter (λ (item : Item). is_time item.header.kind) items;
    }
