-- Two reports of one dump are one.
use Rattle.std.proofs.Common.{◌≡◌, ◌⊎◌, inl, inr, ℕ, ◌+◌, ◌==◌, length, Bool, true, false, List, [], ◌∷◌, ◌++◌, Option, Some, None, refl, sym, ap, ap₂, ◌∙◌, subst, arith, append-nil, append_assoc}
use Rattle.std.specs.Prelude.{if◌then◌else◌, nat_le}
use Rattle.std.specs.List.{AllByRecursion}
use Rattle.std.proofs.lemmas.Bool.{leb-true, leb-false}
use Rattle.std.proofs.lemmas.List.Elements.{recursion_from_All}
use Rattle.journal_record.specs.Entry.{Entry}
use Rattle.journal_record.specs.Items.{Item}
use Rattle.pseudo_genesis.specs.declared.base.Base.{Base}
use Rattle.ledger_model.specs.Scheme.{Scheme}
use Rattle.dump_model.specs.Checks.{is_erased, is_hidden}
use Rattle.dump_model.specs.Dumps.{Dump, first_of}
use Rattle.audit_dump.specs.Ending.{Given, HasItsEntry, IsFirstWithout, IsLateFault, IsPlaceOf, Late, late_number}
use Rattle.audit_dump.specs.Ending.Late.{of_id, of_erasures, of_purge, of_ledger, of_times, of_notary}
use Rattle.audit_dump.specs.Known.{journal_of, journals_of}
use Rattle.audit_dump.specs.Reading.{AreGood, Early, FailsBy, IsGood}
use Rattle.audit_dump.specs.Reading.Early.{of_order, of_parts, of_approvals}
use Rattle.audit_dump.specs.Reports.{Check, Counts, EndsEarly, EndsLate, Fault, IsEndFault, IsReport, Report, fault_at}
use Rattle.audit_dump.specs.Reports.Check.{form, early, late}

-- ---- a journal that fails as it is read

module _ (scheme : Scheme) (id : List ℕ) (start : Option Base) where
  good_not_failing : (before : List Entry) (x : Item) (check : Early) → IsGood scheme id start before x → FailsBy scheme id start before x check → ⊥
  good_not_failing before x of_order good fails = fails good.next
  good_not_failing before x of_parts good fails = fails.1 good.whole
  good_not_failing before x of_approvals good fails = fails.2 good.placed

  pub same_check : (before : List Entry) (x : Item) (c d : Early) → FailsBy scheme id start before x c → FailsBy scheme id start before x d → c ≡ d
  same_check before x of_order of_order f g = refl
  same_check before x of_order of_parts f g = absurd (f g.0)
  same_check before x of_order of_approvals f g = absurd (f g.0)
  same_check before x of_parts of_order f g = absurd (g f.0)
  same_check before x of_parts of_parts f g = refl
  same_check before x of_parts of_approvals f g = absurd (f.1 g.1)
  same_check before x of_approvals of_order f g = absurd (g f.0)
  same_check before x of_approvals of_parts f g = absurd (g.1 f.1)
  same_check before x of_approvals of_approvals f g = refl

  -- a fault behind one journal more
  one_more : (before : List Entry) (y : Item) (read : List Item) (x : Item) (c : Early) → FailsBy scheme id start (before ++ journals_of (y ∷ read)) x c
      → FailsBy scheme id start ((before ++ journal_of y ∷ []) ++ journals_of read) x c
  one_more before y read x c fails = subst (λ l. FailsBy scheme id start l x c) (sym (append_assoc before (journal_of y ∷ []) (journals_of read))) fails

  at_first : (before : List Entry) (x : Item) (c : Early) → FailsBy scheme id start (before ++ journals_of []) x c → FailsBy scheme id start before x c
  at_first before x c fails = subst (λ l. FailsBy scheme id start l x c) (append-nil before) fails

  -- of journals that all pass none fails
  pub none_fails : (before : List Entry) (read : List Item) (x : Item) (more : List Item) (c : Early) → AreGood scheme id start before (read ++ x ∷ more)
      → FailsBy scheme id start (before ++ journals_of read) x c → ⊥
  none_fails before [] x more c good fails = good_not_failing before x c good.0 (at_first before x c fails)
  none_fails before (y ∷ read) x more c good fails = none_fails (before ++ journal_of y ∷ []) read x more c good.1 (one_more before y read x c fails)

  -- the first that fails is one
  same_stop : (before : List Entry) (r s : List Item) (x y : Item) (m n : List Item) (c d : Early) → r ++ x ∷ m ≡ s ++ y ∷ n
      → AreGood scheme id start before r → FailsBy scheme id start (before ++ journals_of r) x c
      → AreGood scheme id start before s → FailsBy scheme id start (before ++ journals_of s) y d → (r ≡ s) × (c ≡ d)
  same_stop before [] [] x y m n c d is good fails well falls =
      let same : y ≡ x = cc in
      (refl, same_check before x c d (at_first before x c fails) (subst (λ z. FailsBy scheme id start before z d) same (at_first before y d falls)))
  same_stop before [] (z ∷ s) x y m n c d is good fails well falls =
      let same : z ≡ x = cc in
      absurd (good_not_failing before x c (subst (λ w. IsGood scheme id start before w) same well.0) (at_first before x c fails))
  same_stop before (w ∷ r) [] x y m n c d is good fails well falls =
      let same : w ≡ y = cc in
      absurd (good_not_failing before y d (subst (λ z. IsGood scheme id start before z) same good.0) (at_first before y d falls))
  same_stop before (w ∷ r) (z ∷ s) x y m n c d is good fails well falls =
      let same : z ≡ w = cc in
      let rest : r ++ x ∷ m ≡ s ++ y ∷ n = cc in
      let both = same_stop (before ++ journal_of w ∷ []) r s x y m n c d rest good.1 (one_more before w r x c fails)
      (subst (λ v. AreGood scheme id start (before ++ journal_of v ∷ []) s) same well.1)
      (subst (λ v. FailsBy scheme id start ((before ++ journal_of v ∷ []) ++ journals_of s) y d) same (one_more before z s y d falls)) in
      (ap₂ (λ v l. v ∷ l) (sym same) both.0, both.1)

-- ---- the first without

same_first : (P : Item → Type 0) (r s : List Item) (x y : Item) (m n : List Item) → r ++ x ∷ m ≡ s ++ y ∷ n
    → AllByRecursion P r → (P x → ⊥) → AllByRecursion P s → (P y → ⊥) → x ≡ y
same_first P [] [] x y m n is all fails each falls = cc
same_first P [] (z ∷ s) x y m n is all fails each falls =
    let same : z ≡ x = cc in
    absurd (fails (subst P same each.0))
same_first P (w ∷ r) [] x y m n is all fails each falls =
    let same : w ≡ y = cc in
    absurd (falls (subst P same all.0))
same_first P (w ∷ r) (z ∷ s) x y m n is all fails each falls =
    let rest : r ++ x ∷ m ≡ s ++ y ∷ n = cc in
    same_first P r s x y m n rest all.1 fails each.1 falls

one_without : (P : Item → Type 0) (items : List Item) (p q : ℕ) → IsFirstWithout P items p → IsFirstWithout P items q → p ≡ q
one_without P items p q a b =
    let same = same_first P a.front b.front a.item b.item a.more b.more (sym a.items_are ∙ b.items_are) (recursion_from_All P a.front a.passed) a.fails (recursion_from_All P b.front b.passed) b.fails in
    a.number_is ∙ ap (λ (x : Item). x.header.jsn) same ∙ sym b.number_is

-- ---- a check at the end

same_place : (dump : Dump) (check : Late) (p q : ℕ) → IsPlaceOf dump check p → IsPlaceOf dump check q → p ≡ q
same_place dump of_id p q a b = a ∙ sym b
same_place dump of_erasures p q a b = one_without (λ item. is_erased item ≡ is_hidden dump.items item) dump.items p q a b
same_place dump of_purge p q a b = a ∙ sym b
same_place dump of_ledger p q a b = a ∙ sym b
same_place dump of_times p q a b = one_without (HasItsEntry dump) dump.items p q a b
same_place dump of_notary p q a b = a ∙ sym b

late_at : ℕ → Late
late_at n =
    if n == 2 then of_id else (if n == 6 then of_erasures else (if n == 7 then of_purge else (if n == 8 then of_ledger else (if n == 9 then of_times else of_notary))))

number_back : (c : Late) → late_at (late_number c) ≡ c
unfolding late_at
number_back of_id = refl
number_back of_erasures = refl
number_back of_purge = refl
number_back of_ledger = refl
number_back of_times = refl
number_back of_notary = refl

same_late : (given : Given) (dump : Dump) (c d : Late) (p q : ℕ) → IsLateFault given dump c p → IsLateFault given dump d q → (c ≡ d) × (p ≡ q)
same_late given dump c d p q a b = by (nat_le (late_number c) (late_number d)) (nat_le (late_number d) (late_number c)) refl refl
  where
    by : (v w : Bool) → nat_le (late_number c) (late_number d) ≡ v → nat_le (late_number d) (late_number c) ≡ w → (c ≡ d) × (p ≡ q)
    by false w is other = absurd (b.fails (a.passed d (leb-false (late_number c) (late_number d) is)))
    by true false is other = absurd (a.fails (b.passed c (leb-false (late_number d) (late_number c) other)))
    by true true is other =
        let numbers : late_number c ≡ late_number d = omega (arith, leb-true (late_number c) (late_number d) is, leb-true (late_number d) (late_number c) other) in
        let same : c ≡ d = sym (number_back c) ∙ ap late_at numbers ∙ number_back d in
        (same, same_place dump d p q (subst (λ e. IsPlaceOf dump e p) same a.place_is) b.place_is)

-- ---- the fault

pub same_end : (given : Given) (dump : Dump) (f g : Option Fault) → IsEndFault given dump f → IsEndFault given dump g → f ≡ g
same_end given dump None None a b = refl
same_end given dump None (Some g) a b = absurd (never g.place g.check a b)
  where
    never : (place : ℕ) (check : Check) → IsEndFault given dump None → IsEndFault given dump (fault_at check place) → ⊥
    never place form a b = b
    never place (early c) a b = b
    never place (late c) a b = b.fails (a c)
same_end given dump (Some f) None a b = absurd (never f.place f.check b a)
  where
    never : (place : ℕ) (check : Check) → IsEndFault given dump None → IsEndFault given dump (fault_at check place) → ⊥
    never place form a b = b
    never place (early c) a b = b
    never place (late c) a b = b.fails (a c)
same_end given dump (Some f) (Some g) a b = both f.check g.check f.place g.place a b
  where
    both : (c d : Check) (p q : ℕ) → IsEndFault given dump (fault_at c p) → IsEndFault given dump (fault_at d q) → fault_at c p ≡ fault_at d q
    both form d p q a b = absurd a
    both (early c) d p q a b = absurd a
    both (late c) form p q a b = absurd b
    both (late c) (early d) p q a b = absurd b
    both (late c) (late d) p q a b =
        let same = same_late given dump c d p q a b in
        ap₂ fault_at (ap late same.0) same.1

module _ (scheme : Scheme) (given : Given) (dump : Dump) where
  not_both : (read seen : List Item) (f g : Option Fault) → EndsEarly scheme dump read f → EndsLate scheme given dump seen g → ⊥
  not_both read seen f g a b =
      none_fails scheme dump.id.0 dump.base [] read a.1.item a.1.more a.0 (subst (AreGood scheme dump.id.0 dump.base []) a.1.items_are b.1) a.1.fails

  same_fault : (read seen : List Item) (f g : Option Fault) → EndsEarly scheme dump read f ⊎ EndsLate scheme given dump read f
      → EndsEarly scheme dump seen g ⊎ EndsLate scheme given dump seen g → (read ≡ seen) × (f ≡ g)
  same_fault read seen f g (inl a) (inl b) =
      let same = same_stop scheme dump.id.0 dump.base [] read seen a.1.item b.1.item a.1.more b.1.more a.0 b.0 (sym a.1.items_are ∙ b.1.items_are) a.1.passed a.1.fails b.1.passed b.1.fails in
      (same.0, a.2 ∙ ap₂ (λ c (l : List Item). fault_at (early c) (first_of dump.base + length l)) same.1 same.0 ∙ sym b.2)
  same_fault read seen f g (inl a) (inr b) = absurd (not_both read seen f g a b)
  same_fault read seen f g (inr a) (inl b) = absurd (not_both seen read g f b a)
  same_fault read seen f g (inr a) (inr b) = (a.0 ∙ sym b.0, same_end given dump f g a.2 b.2)

-- ---- the report

abbrev Parts : Type 0
Parts = (ℕ × ℕ) × ((ℕ × ℕ) × (ℕ × Option Fault))

abbrev build : Parts → Report
build p = record { size = p.0.0; kept = p.0.1; point = p.1.0.0; occulted = p.1.0.1; times = p.1.1.0; fault = p.1.1.1 }

abbrev pair : {A B : Type 0} → A → B → A × B
pair a b = (a, b)

pub same_report : (r s : Report) → r.size ≡ s.size → r.kept ≡ s.kept → r.point ≡ s.point → r.occulted ≡ s.occulted → r.times ≡ s.times → r.fault ≡ s.fault → r ≡ s
same_report r s a b c d e f = ap build (ap₂ pair (ap₂ pair a b) (ap₂ pair (ap₂ pair c d) (ap₂ pair e f)))

pub one_report : (scheme : Scheme) (given : Given) (dump : Dump) (r s : Report) → IsReport scheme given dump r → IsReport scheme given dump s → r ≡ s
one_report scheme given dump r s a b =
    let same = same_fault scheme given dump a.read b.read r.fault s.fault a.fault b.fault in
    let counts : Counts dump.base b.read r = subst (λ l. Counts dump.base l r) same.0 a.counts in
    same_report r s (counts.size ∙ sym b.counts.size) (counts.kept ∙ sym b.counts.kept) (counts.point ∙ sym b.counts.point)
    (counts.occulted ∙ sym b.counts.occulted) (counts.times ∙ sym b.counts.times) same.1
