-- The first check at the end that fails, by what is kept of the journals and what was read behind them.
use Rattle.std.specs.Prelude.{◌↔◌}
use Rattle.std.specs.List.{AllByRecursion, Contains}
use Rattle.std.proofs.Common.{◌≡◌, ℕ, zero, suc, ◌+◌, ◌-◌, ◌<◌, ◌≤◌, Bool, true, false, List, [], ◌∷◌, length, get_or, map, filter, take, All, Option, Some, None, refl, sym, ap, ap₂, subst, arith, ◌∙◌}
use Rattle.std.proofs.lemmas.List.{length-map, take_all}
use Rattle.std.proofs.lemmas.Simd.{map-map}
use Rattle.std.proofs.lemmas.List.Elements.{All-contains, All-cons, All-head, All-nil, All-tail, All-from_recursion, recursion_from_All, Contains-append_right}
use Rattle.sha2.specs.Sha256.{sha256}
use Rattle.ledger_bytes.specs.declared.digest.Digest.{Digest}
use Rattle.journal_record.specs.Entry.{Entry}
use Rattle.journal_record.specs.Header.{spelling}
use Rattle.journal_record.specs.Items.{Item}
use Rattle.journal_record.specs.declared.header.Kind.{Kind}
use Rattle.journal_record.specs.declared.header.Kind.TheVariants as kind
use Rattle.member_book.specs.Erasures.{is_time}
use Rattle.merkle_tree.specs.declared.head.Head.{Head}
use Rattle.pseudo_genesis.specs.declared.base.Base.{Base}
use Rattle.ledger_model.specs.Behind.{first_of}
use Rattle.ledger_model.specs.History.{leaf_digest}
use Rattle.dump_model.specs.Checks.{HasLedgerHead}
use Rattle.dump_model.specs.Dumps.{Dump, peaks_of, root_of}
use Rattle.tree_model.specs.RootFrom.{root_from}
use Rattle.tree_model.specs.Tree.{leaf}
use Rattle.audit_dump.specs.Audits.{IsHeadShown, dump_behind}
use Rattle.audit_dump.specs.Breaks.{Tail}
use Rattle.audit_dump.specs.Claims.{IsLeastNumber, IsLeastUnmet, IsMet, claim_of, claims_of}
use Rattle.audit_dump.specs.Ending.{Given, HasItsEntry, IsOwnId, IsFirstWithout, IsLateFault, IsPlaceOf, Late, Passes, late_number}
use Rattle.audit_dump.specs.Ending.Late.{of_id, of_erasures, of_purge, of_ledger, of_times, of_notary}
use Rattle.audit_dump.specs.Known.{journal_of, journals_of, root_behind}
use Rattle.audit_dump.specs.Notes.{AreInOrder}
use Rattle.audit_dump.specs.Reports.{IsEndFaultBy}
use Rattle.audit_dump.specs.Told.{check_of, late_of}
use Rattle.audit_dump.specs.declared.claims.Claim.{Claim}
use Rattle.audit_dump.specs.declared.report.Check.TheVariants as told
use Rattle.audit_dump.specs.declared.report.Fault.{Fault as FaultTold}
use Rattle.audit_dump.specs.declared.report.LateCheck.{LateCheck}

-- ---- the ledger's head

abbrev head_with : ℕ → List ℕ → Head
head_with size root = record { size = size; root = record { 0 = root } }

same_head : (a b : Head) → a.size ≡ b.size → a.root.0 ≡ b.root.0 → a ≡ b
same_head a b size root = ap₂ head_with size root

-- the root over all journals is that of the dump
root_whole : (start : Option Base) (items : List Item) → root_behind start (journals_of items) (first_of start + length items) ≡ root_from sha256 (peaks_of start) (first_of start) (map (leaf sha256) (map (λ (item : Item). spelling item.header) items))
unfolding root_behind
root_whole start items =
    let all : take ((first_of start + length items) - first_of start) (journals_of items) ≡ journals_of items =
    take_all ((first_of start + length items) - first_of start) (journals_of items) (omega (arith, length-map items journal_of)) in
    ap (λ (js : List Entry). root_from sha256 (peaks_of start) (first_of start) (map leaf_digest js)) all
    ∙ ap (root_from sha256 (peaks_of start) (first_of start)) (map-map leaf_digest journal_of items ∙ sym (map-map (leaf sha256) (λ (item : Item). spelling item.header) items))

pub ledger_head : (id : Digest) (start : Option Base) (items : List Item) (tail : Tail) (told shown given : Head) → IsHeadShown start items (Some shown) → told ≡ tail.head
    → ((told ≡ shown) × (told ≡ given)) ↔ HasLedgerHead sha256 (dump_behind id start items tail) given
ledger_head id start items tail told shown given is same = (there, back)
  where
    root : root_behind start (journals_of items) (first_of start + length items) ≡ root_of sha256 (dump_behind id start items tail)
    root = root_whole start items

    there : (told ≡ shown) × (told ≡ given) → HasLedgerHead sha256 (dump_behind id start items tail) given
    there both = record {
      size = sym is.0 ∙ ap (λ (h : Head). h.size) (sym both.0 ∙ same);
      given_size = ap (λ (h : Head). h.size) (sym same ∙ both.1);
      root = sym (is.1 ∙ root) ∙ ap (λ (h : Head). h.root.0) (sym both.0 ∙ same);
      given_root = ap (λ (h : Head). h.root.0) (sym same ∙ both.1);
    }

    back : HasLedgerHead sha256 (dump_behind id start items tail) given → (told ≡ shown) × (told ≡ given)
    back has = (
      same ∙ same_head tail.head shown (sym has.size ∙ sym is.0) (sym has.root ∙ sym (is.1 ∙ root)),
      same ∙ same_head tail.head given has.given_size has.given_root,
    )

-- where there is neither a base nor a journal no id is shown
pub no_own : (start : Option Base) (items : List Item) (id : Digest) → start ≡ None → items ≡ [] → IsOwnId start items id → ⊥
no_own start items id none empty is =
    let bare : IsOwnId None items id = subst (λ (s : Option Base). IsOwnId s items id) none is in
    subst (λ (xs : List Item). IsOwnId None xs id) empty bare

-- ---- entries

is_time_is : (k : Kind) → is_time k ≡ true → k ≡ kind.Time
is_time_is kind.Genesis is = absurd cc
is_time_is kind.Content is = absurd cc
is_time_is kind.Member is = absurd cc
is_time_is kind.Time is = refl
is_time_is kind.Occult is = absurd cc
is_time_is kind.ClueOccult is = absurd cc
is_time_is kind.Purge is = absurd cc

module _ (id : Digest) (start : Option Base) (items : List Item) (tail : Tail) where
  dump : Dump
  dump = dump_behind id start items tail

  abbrev of_item : Item → Claim
  of_item item = claim_of id.0 start (journals_of items) item

  abbrev tells : Item → Bool
  tells item = is_time item.header.kind

  -- one that tells no time has its entry
  no_entry : (x : Item) → tells x ≡ false → HasItsEntry (dump_behind id start items tail) x
  no_entry x none is = absurd (let never : false ≡ true = sym none ∙ ap is_time is in cc)

  met_items : (xs : List Item) → AllByRecursion (IsMet tail.entries) (map of_item (filter tells xs)) → AllByRecursion (HasItsEntry (dump_behind id start items tail)) xs
  met_items [] all = tt
  met_items (x ∷ xs) all = by (λ more. met_items xs more) (tells x) refl all
    where
      by : (AllByRecursion (IsMet tail.entries) (map of_item (filter tells xs)) → AllByRecursion (HasItsEntry (dump_behind id start items tail)) xs) → (v : Bool) → tells x ≡ v
          → AllByRecursion (IsMet tail.entries) (map of_item (filter tells (x ∷ xs))) → AllByRecursion (HasItsEntry (dump_behind id start items tail)) (x ∷ xs)
      by rest true is more = let both = rw is at more in ((λ time. both.0), rest both.1)
      by rest false is more = (no_entry x is, rest (rw is at more))

  -- the numbers of claims rise
  behind : (n : ℕ) (xs : List Item) → AreInOrder n xs → All (λ (c : Claim). n ≤ c.number) (map of_item (filter tells xs))
  behind n [] o = All-nil (λ (c : Claim). n ≤ c.number)
  behind n (x ∷ xs) o = by (λ k d lt. omega (arith, behind (suc n) xs o.2 k d lt)) (tells x) refl
    where
      by : All (λ (c : Claim). n ≤ c.number) (map of_item (filter tells xs)) → (v : Bool) → tells x ≡ v → All (λ (c : Claim). n ≤ c.number) (map of_item (filter tells (x ∷ xs)))
      by rest true is = rw is (All-cons (λ (c : Claim). n ≤ c.number) (of_item x) (map of_item (filter tells xs)) (omega (arith, o.0)) rest)
      by rest false is = rw is rest

  -- in front of the first without stands one that has its entry
  without_more : (x : Item) (xs : List Item) (number : ℕ) → HasItsEntry (dump_behind id start items tail) x → IsFirstWithout (HasItsEntry (dump_behind id start items tail)) xs number
      → IsFirstWithout (HasItsEntry (dump_behind id start items tail)) (x ∷ xs) number
  without_more x xs number has w = record {
    front = x ∷ w.front;
    item = w.item;
    more = w.more;
    items_are = ap (λ (ys : List Item). x ∷ ys) w.items_are;
    passed = All-cons (HasItsEntry (dump_behind id start items tail)) x w.front has w.passed;
    fails = w.fails;
    number_is = w.number_is;
  }

  -- a claim that isn't met is that of the first journal, or of one behind it
  first_or_later : (n : ℕ) (x : Item) (xs : List Item) (number : ℕ) → AreInOrder n (x ∷ xs) → tells x ≡ true
      → (IsLeastNumber (map of_item (filter tells xs)) tail.entries number → IsFirstWithout (HasItsEntry (dump_behind id start items tail)) xs number)
      → (l : IsLeastNumber (of_item x ∷ map of_item (filter tells xs)) tail.entries number)
      → (k : ℕ) → k < length (of_item x ∷ map of_item (filter tells xs)) → get_or (of_item x ∷ map of_item (filter tells xs)) k l.claim ≡ l.claim
      → IsFirstWithout (HasItsEntry (dump_behind id start items tail)) (x ∷ xs) number
  first_or_later n x xs number o time rest l zero lt same = record {
    front = [];
    item = x;
    more = xs;
    items_are = refl;
    passed = All-nil (HasItsEntry (dump_behind id start items tail));
    fails = λ has. l.fails (subst (IsMet tail.entries) same (has (is_time_is x.header.kind time)));
    number_is = sym (ap (λ (c : Claim). c.number) same ∙ l.number_is);
  }
  first_or_later n x xs number o time rest l (suc k) lt same =
      let there : Contains (map of_item (filter tells xs)) l.claim = (k, omega (arith, lt), same) in
      let later : suc n ≤ l.claim.number = All-contains (λ (c : Claim). suc n ≤ c.number) (map of_item (filter tells xs)) l.claim (behind (suc n) xs o.2) there in
      let met : IsMet tail.entries (of_item x) = All-head (λ (c : Claim). c.number < number → IsMet tail.entries c) (of_item x) (map of_item (filter tells xs)) l.others (omega (arith, o.0, later, l.number_is)) in
      without_more x xs number (λ is. met)
      (rest (record {
        claim = l.claim;
        among = there;
        number_is = l.number_is;
        fails = l.fails;
        others = All-tail (λ (c : Claim). c.number < number → IsMet tail.entries c) (of_item x) (map of_item (filter tells xs)) l.others;
      }))

  first_unmet : (n : ℕ) (xs : List Item) (number : ℕ) → AreInOrder n xs → IsLeastNumber (map of_item (filter tells xs)) tail.entries number → IsFirstWithout (HasItsEntry (dump_behind id start items tail)) xs number
  first_unmet n [] number o is = absurd (omega (arith, is.among.1))
  first_unmet n (x ∷ xs) number o is = by (λ least. first_unmet (suc n) xs number o.2 least) (tells x) refl is
    where
      by : (IsLeastNumber (map of_item (filter tells xs)) tail.entries number → IsFirstWithout (HasItsEntry (dump_behind id start items tail)) xs number) → (v : Bool) → tells x ≡ v
          → IsLeastNumber (map of_item (filter tells (x ∷ xs))) tail.entries number → IsFirstWithout (HasItsEntry (dump_behind id start items tail)) (x ∷ xs) number
      by rest false none least = without_more x xs number (no_entry x none) (rest (rw none at least))
      by rest true time least = let l = rw time at least in first_or_later n x xs number o time rest l l.among.0 l.among.1 l.among.2

  pub entries_met : IsLeastUnmet (claims_of id.0 start items) tail.entries None → All (HasItsEntry (dump_behind id start items tail)) items
  entries_met all = All-from_recursion (HasItsEntry (dump_behind id start items tail)) items (met_items items (recursion_from_All (IsMet tail.entries) (claims_of id.0 start items) all))

  pub entry_unmet : (number : ℕ) → AreInOrder (first_of start) items → IsLeastUnmet (claims_of id.0 start items) tail.entries (Some number) → IsFirstWithout (HasItsEntry (dump_behind id start items tail)) items number
  entry_unmet number o is = first_unmet (first_of start) items number o is

-- ---- the first that fails

pub differ : (b : Bool) → b ≡ false → b ≡ true → ⊥
differ b off on = let never : false ≡ true = sym off ∙ on in cc

-- the fault of a check at the end
pub by_late : (given : Given) (dump : Dump) (fault : FaultTold) (check : LateCheck) (place : ℕ) → fault ≡ record { check = told.Late check; place = place } → IsLateFault given dump (late_of check) place
    → IsEndFaultBy given dump fault.place (check_of fault.check)
by_late given dump fault check place is holds = subst (λ (f : FaultTold). IsEndFaultBy given dump f.place (check_of f.check)) (sym is) holds

-- where one is the first without, not all have it
pub not_all : (Holds : Item → Type 0) (items : List Item) (number : ℕ) → IsFirstWithout Holds items number → All Holds items → ⊥
not_all Holds items number w all =
    w.fails (All-contains Holds items w.item all (subst (λ (xs : List Item). Contains xs w.item) (sym w.items_are) (Contains-append_right w.front (w.item ∷ w.more) w.item (0, omega arith, refl))))

module _ (given : Given) (dump : Dump) where
  pub fault_id : (Passes given dump of_id → ⊥) → IsLateFault given dump of_id 0
  fault_id fails = record { passed = passed; fails = fails; place_is = refl }
    where
      passed : (other : Late) → late_number other < late_number of_id → Passes given dump other
      passed of_id lt = absurd (omega (arith, lt))
      passed of_erasures lt = absurd (omega (arith, lt))
      passed of_purge lt = absurd (omega (arith, lt))
      passed of_ledger lt = absurd (omega (arith, lt))
      passed of_times lt = absurd (omega (arith, lt))
      passed of_notary lt = absurd (omega (arith, lt))

  module _ (one : Passes given dump of_id) where
    pub fault_erasures : (place : ℕ) → (Passes given dump of_erasures → ⊥) → IsPlaceOf dump of_erasures place → IsLateFault given dump of_erasures place
    fault_erasures place fails is = record { passed = passed; fails = fails; place_is = is }
      where
        passed : (other : Late) → late_number other < late_number of_erasures → Passes given dump other
        passed of_id lt = one
        passed of_erasures lt = absurd (omega (arith, lt))
        passed of_purge lt = absurd (omega (arith, lt))
        passed of_ledger lt = absurd (omega (arith, lt))
        passed of_times lt = absurd (omega (arith, lt))
        passed of_notary lt = absurd (omega (arith, lt))

    module _ (two : Passes given dump of_erasures) where
      pub fault_purge : (place : ℕ) → (Passes given dump of_purge → ⊥) → IsPlaceOf dump of_purge place → IsLateFault given dump of_purge place
      fault_purge place fails is = record { passed = passed; fails = fails; place_is = is }
        where
          passed : (other : Late) → late_number other < late_number of_purge → Passes given dump other
          passed of_id lt = one
          passed of_erasures lt = two
          passed of_purge lt = absurd (omega (arith, lt))
          passed of_ledger lt = absurd (omega (arith, lt))
          passed of_times lt = absurd (omega (arith, lt))
          passed of_notary lt = absurd (omega (arith, lt))

      module _ (three : Passes given dump of_purge) where
        pub fault_ledger : (place : ℕ) → (Passes given dump of_ledger → ⊥) → IsPlaceOf dump of_ledger place → IsLateFault given dump of_ledger place
        fault_ledger place fails is = record { passed = passed; fails = fails; place_is = is }
          where
            passed : (other : Late) → late_number other < late_number of_ledger → Passes given dump other
            passed of_id lt = one
            passed of_erasures lt = two
            passed of_purge lt = three
            passed of_ledger lt = absurd (omega (arith, lt))
            passed of_times lt = absurd (omega (arith, lt))
            passed of_notary lt = absurd (omega (arith, lt))

        module _ (four : Passes given dump of_ledger) where
          pub fault_times : (place : ℕ) → (Passes given dump of_times → ⊥) → IsPlaceOf dump of_times place → IsLateFault given dump of_times place
          fault_times place fails is = record { passed = passed; fails = fails; place_is = is }
            where
              passed : (other : Late) → late_number other < late_number of_times → Passes given dump other
              passed of_id lt = one
              passed of_erasures lt = two
              passed of_purge lt = three
              passed of_ledger lt = four
              passed of_times lt = absurd (omega (arith, lt))
              passed of_notary lt = absurd (omega (arith, lt))

          module _ (five : Passes given dump of_times) where
            pub fault_notary : (place : ℕ) → (Passes given dump of_notary → ⊥) → IsPlaceOf dump of_notary place → IsLateFault given dump of_notary place
            fault_notary place fails is = record { passed = passed; fails = fails; place_is = is }
              where
                passed : (other : Late) → late_number other < late_number of_notary → Passes given dump other
                passed of_id lt = one
                passed of_erasures lt = two
                passed of_purge lt = three
                passed of_ledger lt = four
                passed of_times lt = five
                passed of_notary lt = absurd (omega (arith, lt))

            pub no_fault : Passes given dump of_notary → (check : Late) → Passes given dump check
            no_fault six of_id = one
            no_fault six of_erasures = two
            no_fault six of_purge = three
            no_fault six of_ledger = four
            no_fault six of_times = five
            no_fault six of_notary = six
