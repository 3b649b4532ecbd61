-- The bounds of a journal are the nearest time journals that are kept.
use Rattle.std.specs.Prelude.{nat_le, filter}
use Rattle.std.specs.List.{AllByRecursion}
use Rattle.std.specs.Option.{option_map}
use Rattle.std.proofs.Common.{◌≡◌, ℕ, zero, suc, ◌+◌, ◌<◌, ◌≤◌, Bool, true, false, cond, inl, inr, List, [], ◌∷◌, map, drop, slice_get, Option, Some, None, refl, sym, ap, subst, ◌∙◌, arith}
use Rattle.std.proofs.lemmas.Bool.{true≢false, le-leb, lt-leb, leb-true}
use Rattle.std.proofs.lemmas.Option.{same_Some}
use Rattle.ledger_bytes.specs.declared.mark.TimeMark.{TimeMark}
use Rattle.journal_record.specs.Entry.{Entry}
use Rattle.journal_record.specs.declared.header.Kind.{Kind}
use Rattle.journal_record.specs.declared.header.Kind.TheVariants as kind
use Rattle.proof_codec.specs.Claims.{mark_of}
use Rattle.proof_codec.specs.Reading.{is_time}
use Rattle.time_peg.specs.Times.{Rises, IsOneOf, marks_from, lower_bound, upper_bound, IsNearestBefore as IsMarkBefore, IsNearestBehind as IsMarkBehind}
use Rattle.time_peg.proofs.TimesLaws.{rises_filter}
use Rattle.time_peg.proofs.NearLaws.{nearest_before, nearest_behind}
use Rattle.ledger_model.specs.Bounds.{marks_of, time_marks, journal_at, lower_journal, upper_journal, IsKeptTime, IsNearestBefore, IsNearestBehind}
use Rattle.ledger_model.specs.History.{History, journals, point}
use Rattle.ledger_model.specs.Lawful.{AreLawful}
use Rattle.ledger_model.proofs.LawfulLaws.{AreFrom, lawful_from}

time_kind : (k : Kind) → is_time k ≡ true → k ≡ kind.Time
time_kind kind.Time is = refl
time_kind kind.Genesis is = absurd (true≢false (sym is))
time_kind kind.Content is = absurd (true≢false (sym is))
time_kind kind.Member is = absurd (true≢false (sym is))
time_kind kind.Occult is = absurd (true≢false (sym is))
time_kind kind.ClueOccult is = absurd (true≢false (sym is))
time_kind kind.Purge is = absurd (true≢false (sym is))

-- the marks with a journal in front of the others
abbrev more_marks : Bool → Entry → List Entry → List TimeMark
more_marks timed e es = map (λ (j : Entry). mark_of j.header) (cond timed (e ∷ filter (λ (j : Entry). is_time j.header.kind) es) (filter (λ (j : Entry). is_time j.header.kind) es))

-- ---- marks rise as the numbers of journals do

later_marks : (n m : ℕ) (es : List Entry) → n < m → AreFrom m es → AllByRecursion (λ (k : TimeMark). n < k.jsn) (marks_of es)
later_marks n m [] less from = tt
later_marks n m (e ∷ es) less from =
    let rest = later_marks n (m + 1) es (omega (arith, less)) from.2 in
    elim (is_time e.header.kind) as (λ v. AllByRecursion (λ (k : TimeMark). n < k.jsn) (more_marks v e es)) [ true ↦ (omega (arith, less, from.0), rest) | false ↦ rest ]

marks_rise : (m : ℕ) (es : List Entry) → AreFrom m es → Rises (marks_of es)
marks_rise m [] from = tt
marks_rise m (e ∷ es) from =
    let rest = marks_rise (m + 1) es from.2 in
    elim (is_time e.header.kind) as (λ v. Rises (more_marks v e es)) [ true ↦ (later_marks e.header.jsn (m + 1) es (omega (arith, from.0)) from.2, rest) | false ↦ rest ]

pub time_marks_rise : (h : History) → AreLawful (journals h) → Rises (time_marks h)
time_marks_rise h lawful = rises_filter (λ m. nat_le (point h) m.jsn) (marks_of (journals h)) (marks_rise 0 (journals h) (lawful_from (journals h) lawful))

-- the marks from journal p on are those of the journals from an earlier one on
pub later_marks_same : (f m p : ℕ) (es : List Entry) → AreFrom m es → m + f ≤ p → marks_from p (marks_of (drop f es)) ≡ marks_from p (marks_of es)
later_marks_same zero m p es from le = refl
later_marks_same (suc f) m p [] from le = refl
later_marks_same (suc f) m p (e ∷ es) from le =
    later_marks_same f (m + 1) p es from.2 (omega (arith, le))
    ∙ sym (elim (is_time e.header.kind) as (λ v. marks_from p (more_marks v e es) ≡ marks_from p (marks_of es)) [ true ↦ rw (lt-leb p e.header.jsn (omega (arith, le, from.0))) refl | false ↦ refl ])

-- ---- each mark is that of a kept time journal, and each of these has its mark

record HasMark (b : TimeMark) (m : ℕ) (es : List Entry) : Type 0 where
  place : ℕ
  journal : Entry
  number : b.jsn ≡ m + place
  there : slice_get es place ≡ Some journal
  time : journal.header.kind ≡ kind.Time
  mark : mark_of journal.header ≡ b

later_mark : (b : TimeMark) (m : ℕ) (e : Entry) (es : List Entry) → HasMark b (m + 1) es → HasMark b m (e ∷ es)
later_mark b m e es x = record { place = suc x.place; journal = x.journal; number = omega (arith, x.number); there = x.there; time = x.time; mark = x.mark }

marked_by : (b : TimeMark) (m : ℕ) (es : List Entry) → AreFrom m es → IsOneOf b (marks_of es) → HasMark b m es
marked_by b m [] from has = absurd has
marked_by b m (e ∷ es) from has =
    elim (is_time e.header.kind) as (λ v. is_time e.header.kind ≡ v → IsOneOf b (more_marks v e es) → HasMark b m (e ∷ es)) [
      | true ↦ λ is one. elim one [
        | inl same ↦ record { place = 0; journal = e; number = omega (arith, ap (λ (k : TimeMark). k.jsn) same, from.0); there = refl; time = time_kind e.header.kind is; mark = sym same }
        | inr more ↦ later_mark b m e es (marked_by b (m + 1) es from.2 more)
      ]
      | false ↦ λ is more. later_mark b m e es (marked_by b (m + 1) es from.2 more)
    ] refl has

has_mark : (e : Entry) (i : ℕ) (es : List Entry) → slice_get es i ≡ Some e → e.header.kind ≡ kind.Time → IsOneOf (mark_of e.header) (marks_of es)
has_mark e i [] is time = absurd cc
has_mark e zero (x ∷ es) is time =
    let same = same_Some x e is in
    subst (λ v. IsOneOf (mark_of e.header) (more_marks v x es)) (sym (ap is_time (ap (λ (j : Entry). j.header.kind) same ∙ time))) (inl (sym (ap (λ (j : Entry). mark_of j.header) same)))
has_mark e (suc i) (x ∷ es) is time =
    let rest = has_mark e i es is time in
    elim (is_time x.header.kind) as (λ v. IsOneOf (mark_of e.header) (more_marks v x es)) [ true ↦ inr rest | false ↦ rest ]

kept_mark : (p : TimeMark → Bool) (b : TimeMark) (ms : List TimeMark) → IsOneOf b (filter p ms) → (p b ≡ true) × IsOneOf b ms
kept_mark p b [] has = absurd has
kept_mark p b (m ∷ ms) has =
    elim (p m) as (λ v. p m ≡ v → IsOneOf b (cond v (m ∷ filter p ms) (filter p ms)) → (p b ≡ true) × IsOneOf b (m ∷ ms)) [
      | true ↦ λ is one. elim one [ inl same ↦ (ap p same ∙ is, inl same) | inr more ↦ (let rest = kept_mark p b ms more in (rest.0, inr rest.1)) ]
      | false ↦ λ is more. (let rest = kept_mark p b ms more in (rest.0, inr rest.1))
    ] refl has

keeps_mark : (p : TimeMark → Bool) (b : TimeMark) (ms : List TimeMark) → p b ≡ true → IsOneOf b ms → IsOneOf b (filter p ms)
keeps_mark p b [] keeps has = absurd has
keeps_mark p b (m ∷ ms) keeps (inl same) = subst (λ v. IsOneOf b (cond v (m ∷ filter p ms) (filter p ms))) (sym (ap p (sym same) ∙ keeps)) (inl same)
keeps_mark p b (m ∷ ms) keeps (inr more) =
    let rest = keeps_mark p b ms keeps more in
    elim (p m) as (λ v. IsOneOf b (cond v (m ∷ filter p ms) (filter p ms))) [ true ↦ inr rest | false ↦ rest ]

each_mark : (P : TimeMark → Type 0) (b : TimeMark) (ms : List TimeMark) → AllByRecursion P ms → IsOneOf b ms → P b
each_mark P b [] all has = absurd has
each_mark P b (m ∷ ms) all (inl same) = subst P (sym same) all.0
each_mark P b (m ∷ ms) all (inr more) = each_mark P b ms all.1 more

module _ (h : History) (lawful : AreLawful (journals h)) where
  -- the journal of a mark
  record IsOf (b : TimeMark) (e : Entry) : Type 0 where
    kept : IsKeptTime h e
    mark : mark_of e.header ≡ b

  journal_of : (b : TimeMark) → IsOneOf b (time_marks h) → (e : Entry) × (journal_at h (Some b) ≡ Some e) × IsOf b e
  journal_of b has =
      let parts = kept_mark (λ m. nat_le (point h) m.jsn) b (marks_of (journals h)) has in
      let x = marked_by b 0 (journals h) (lawful_from (journals h) lawful) parts.1 in
      let at : slice_get (journals h) b.jsn ≡ Some x.journal = ap (slice_get (journals h)) (omega (arith, x.number)) ∙ x.there in
      let number : x.journal.header.jsn ≡ b.jsn = ap (λ (m : TimeMark). m.jsn) x.mark in (
        x.journal,
        at,
        record { kept = record { place = ap (slice_get (journals h)) number ∙ at; time = x.time; kept = omega (arith, number, leb-true (point h) b.jsn parts.0) }; mark = x.mark },
      )

  mark_there : (e : Entry) → IsKeptTime h e → IsOneOf (mark_of e.header) (time_marks h)
  mark_there e kept = keeps_mark (λ m. nat_le (point h) m.jsn) (mark_of e.header) (marks_of (journals h)) (le-leb (point h) e.header.jsn kept.kept) (has_mark e e.header.jsn (journals h) kept.place kept.time)

  pub nearest_lower : (n : ℕ) → IsNearestBefore h n (lower_journal h n)
  unfolding lower_journal
  nearest_lower n = by_mark (lower_bound n (time_marks h)) (nearest_before n (time_marks h) (time_marks_rise h lawful)) where
    by_mark : (o : Option TimeMark) → IsMarkBefore n (time_marks h) o → IsNearestBefore h n (journal_at h o)
    by_mark None near = λ e kept. each_mark (λ m. n ≤ m.jsn) (mark_of e.header) (time_marks h) near (mark_there e kept)
    by_mark (Some b) near =
        let x = journal_of b near.0 in
        let number : x.0.header.jsn ≡ b.jsn = ap (λ (m : TimeMark). m.jsn) x.2.mark in
        subst (IsNearestBefore h n) (sym x.1) (
          x.2.kept,
          omega (arith, number, near.1),
          λ e kept less. omega (arith, number, each_mark (λ m. m.jsn < n → m.jsn ≤ b.jsn) (mark_of e.header) (time_marks h) near.2 (mark_there e kept) less),
        )

  pub nearest_upper : (n : ℕ) → IsNearestBehind h n (upper_journal h n)
  unfolding upper_journal
  nearest_upper n = by_mark (upper_bound n (time_marks h)) (nearest_behind n (time_marks h) (time_marks_rise h lawful)) where
    by_mark : (o : Option TimeMark) → IsMarkBehind n (time_marks h) o → IsNearestBehind h n (journal_at h o)
    by_mark None near = λ e kept. each_mark (λ m. m.jsn ≤ n) (mark_of e.header) (time_marks h) near (mark_there e kept)
    by_mark (Some b) near =
        let x = journal_of b near.0 in
        let number : x.0.header.jsn ≡ b.jsn = ap (λ (m : TimeMark). m.jsn) x.2.mark in
        subst (IsNearestBehind h n) (sym x.1) (
          x.2.kept,
          omega (arith, number, near.1),
          λ e kept less. omega (arith, number, each_mark (λ m. n < m.jsn → b.jsn ≤ m.jsn) (mark_of e.header) (time_marks h) near.2 (mark_there e kept) less),
        )

  -- the marks of the bounds
  mark_again : (o : Option TimeMark) → ((b : TimeMark) → o ≡ Some b → IsOneOf b (time_marks h)) → option_map (λ (e : Entry). mark_of e.header) (journal_at h o) ≡ o
  mark_again None there = refl
  mark_again (Some b) there =
      let x = journal_of b (there b refl) in
      ap (option_map (λ (e : Entry). mark_of e.header)) x.1 ∙ ap Some x.2.mark

  pub lower_mark_is : (n : ℕ) → option_map (λ (e : Entry). mark_of e.header) (lower_journal h n) ≡ lower_bound n (time_marks h)
  unfolding lower_journal
  lower_mark_is n = mark_again (lower_bound n (time_marks h)) (λ b is. (subst (IsMarkBefore n (time_marks h)) is (nearest_before n (time_marks h) (time_marks_rise h lawful))).0)

  pub upper_mark_is : (n : ℕ) → option_map (λ (e : Entry). mark_of e.header) (upper_journal h n) ≡ upper_bound n (time_marks h)
  unfolding upper_journal
  upper_mark_is n = mark_again (upper_bound n (time_marks h)) (λ b is. (subst (IsMarkBehind n (time_marks h)) is (nearest_behind n (time_marks h) (time_marks_rise h lawful))).0)
