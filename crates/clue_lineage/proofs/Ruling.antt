-- The headers of a lawful history keep the rule of clues.
use Rattle.std.proofs.Common.{◌≡◌, ℕ, zero, suc, ◌<◌, true, false, inl, inr, List, [], ◌∷◌, ◌++◌, length, map, get_or, take, Ok, refl, sym, ap, subst, ◌∙◌, arith, append-nil, append_assoc}
use Rattle.std.specs.Prelude.{filter, bytes_eq}
use Rattle.std.specs.List.{AllByRecursion}
use Rattle.std.proofs.lemmas.Bool.{cases_Bool, true≢false}
use Rattle.std.proofs.lemmas.List.{length-map, map-append, take_at}
use Rattle.ledger_bytes.specs.declared.digest.Digest.{Digest}
use Rattle.ledger_bytes.proofs.Fields.{ok_is}
use Rattle.audit_core.proofs.RootLaws.{same_bytes}
use Rattle.journal_record.specs.Entry.{Entry}
use Rattle.journal_record.specs.Header as headers
use Rattle.journal_record.specs.Reading.{header_of}
use Rattle.journal_record.specs.Rules.{IsHeader, is_no_clue}
use Rattle.journal_record.specs.declared.header.Header.{Header}
use Rattle.journal_record.proofs.ReadingLaws.{header_of_only}
use Rattle.ledger_model.specs.Clues.{is_of_clue, numbers_of, last_of}
use Rattle.ledger_model.specs.History.{History, history, journals, leaves}
use Rattle.ledger_model.specs.Lawful.{IsNext, AreNext, AreLawful}
use Rattle.clue_lineage.specs.Lineages.{LineageItem}
use Rattle.clue_lineage.specs.Accepting.{is_record_of}
use Rattle.clue_lineage.specs.Runs.{reads_record, is_of, read_number, number_of, records_in, KeepsClueRule, AreWide}
use Rattle.clue_lineage.proofs.Accepted.{record_means, record_told}
use Rattle.clue_lineage.proofs.Chains.{record_numbers, own_clue, clued_is_record}

abbrev text : Entry → List ℕ
text e = headers.spelling e.header

record Fits (e : Entry) : Type 0 where
  rules : IsHeader e.header
  widths : headers.HasWidths e.header

reads : (e : Entry) → Fits e → header_of (text e) ≡ Ok e.header
reads e fits = header_of_only (text e) e.header fits.rules fits.widths refl

-- a header is of a record with a clue where its journal is
same_test : (clue : Digest) (e : Entry) → is_no_clue clue ≡ false → Fits e → is_of clue (text e) ≡ is_of_clue clue e
same_test clue e some fits = ap (reads_record clue) (reads e fits) ∙ (elim (cases_Bool (is_of_clue clue e)) [
  | inl is ↦
      let own = own_clue clue e is in
      let kind = clued_is_record e.header.kind e.header.clue (ap is_no_clue own.0 ∙ own.1) fits.rules.clue in
      record_told clue (item_of e) (record { kind = kind; clue_is = own.0 }) ∙ sym is
  | inr other ↦ elim (cases_Bool (is_record_of clue e.header)) [
    | inl is ↦
        let r = record_means clue (item_of e) is in
        absurd (true≢false (sym (of_clue clue e some r.clue_is) ∙ other))
    | inr none ↦ none ∙ sym other
  ]
]) where
  item_of : Entry → LineageItem
  item_of e = record { header = e.header; path = [] }

  of_clue : (clue : Digest) (e : Entry) → is_no_clue clue ≡ false → e.header.clue ≡ clue → is_of_clue clue e ≡ true
  of_clue clue e some is = rw (ap is_no_clue is ∙ some) (ap (λ (d : Digest). bytes_eq clue.0 d.0) is ∙ same_bytes clue.0)

records_same : (clue : Digest) (es : List Entry) → is_no_clue clue ≡ false → AllByRecursion Fits es → records_in clue (map text es) ≡ map text (filter (is_of_clue clue) es)
records_same clue [] some fits = refl
records_same clue (e ∷ es) some fits = elim (cases_Bool (is_of_clue clue e)) [
  | inl is ↦ rw (same_test clue e some fits.0, is) (ap (λ rest. text e ∷ rest) (records_same clue es some fits.1))
  | inr other ↦ rw (same_test clue e some fits.0, other) (records_same clue es some fits.1)
]

numbers_same : (clue : Digest) (es : List Entry) → AllByRecursion Fits es → map number_of (map text (filter (is_of_clue clue) es)) ≡ numbers_of clue es
numbers_same clue [] fits = refl
numbers_same clue (e ∷ es) fits = elim (cases_Bool (is_of_clue clue e)) [
  | inl is ↦ rw is (ap (λ rest. number_of (text e) ∷ rest) (numbers_same clue es fits.1) ∙ ap (λ n. n ∷ numbers_of clue es) (ap read_number (reads e fits.0)))
  | inr other ↦ rw other (numbers_same clue es fits.1)
]

-- some journals, one, and the others
record Split (n : ℕ) (es : List Entry) : Type 0 where
  front : List Entry
  one : Entry
  back : List Entry
  is : es ≡ front ++ one ∷ back
  count : length front ≡ n

split_at : (n : ℕ) (es : List Entry) → n < length es → Split n es
split_at n [] within = absurd (omega (arith, within))
split_at zero (e ∷ es) within = record { front = []; one = e; back = es; is = refl; count = refl }
split_at (suc n) (e ∷ es) within =
    let rest = split_at n es (omega (arith, within)) in
    record { front = e ∷ rest.front; one = rest.one; back = rest.back; is = ap (λ l. e ∷ l) rest.is; count = ap suc rest.count }

next_at : (before front : List Entry) (e : Entry) (back : List Entry) → AreNext before (front ++ e ∷ back) → IsNext (history [] (before ++ front)) e.header
next_at before [] e back next = subst (λ (l : List Entry). IsNext (history [] l) e.header) (sym (append-nil before)) next.0
next_at before (x ∷ front) e back next = subst (λ (l : List Entry). IsNext (history [] l) e.header) (append_assoc before (x ∷ []) front) (next_at (before ++ x ∷ []) front e back next.1)

fit_all : (before es : List Entry) → AreNext before es → AreWide es → AllByRecursion Fits es
fit_all before [] next wide = tt
fit_all before (e ∷ es) next wide = (record { rules = next.0.layout; widths = wide.0 }, fit_all (before ++ e ∷ []) es next.1 wide.1)

front_fits : (front : List Entry) (e : Entry) (back : List Entry) → AllByRecursion Fits (front ++ e ∷ back) → AllByRecursion Fits front × Fits e
front_fits [] e back all = (tt, all.0)
front_fits (x ∷ front) e back all = let rest = front_fits front e back all.1 in ((all.0, rest.0), rest.1)

text_there : (front : List Entry) (e : Entry) (back : List Entry) → get_or (map text (front ++ e ∷ back)) (length front) [] ≡ text e
text_there [] e back = refl
text_there (x ∷ front) e back = text_there front e back

pub keeps_rule : (h : History) → AreLawful (journals h) → AreWide (journals h) → KeepsClueRule (leaves h)
keeps_rule h lawful wide n x within read kind some =
    let split = split_at n (journals h) (omega (arith, within, length-map (journals h) text)) in
    let fits = fit_all [] (journals h) lawful.next wide in
    let parts = front_fits split.front split.one split.back (subst (λ (l : List Entry). AllByRecursion Fits l) split.is fits) in
    let next : IsNext (history [] split.front) split.one.header = next_at [] split.front split.one split.back (subst (λ (l : List Entry). AreNext [] l) split.is lawful.next) in
    let bytes : get_or (leaves h) n [] ≡ text split.one = ap (λ (l : List Entry). get_or (map text l) n []) split.is ∙ ap (λ m. get_or (map text (split.front ++ split.one ∷ split.back)) m []) (sym split.count) ∙ text_there split.front split.one split.back in
    let x_is : x ≡ split.one.header = ok_is x split.one.header (sym read ∙ ap header_of bytes ∙ reads split.one parts.1) in
    let before : take n (leaves h) ≡ map text split.front =
    ap (λ (l : List Entry). take n (map text l)) split.is ∙ ap (take n) (map-append text split.front (split.one ∷ split.back)) ∙ take_at (map text split.front) (map text (split.one ∷ split.back)) n (length-map split.front text ∙ split.count) in
    let records : records_in x.clue (take n (leaves h)) ≡ map text (filter (is_of_clue x.clue) split.front) = ap (records_in x.clue) before ∙ records_same x.clue split.front some parts.0 in
    let own : IsNext (history [] split.front) x = subst (λ (y : Header). IsNext (history [] split.front) y) (sym x_is) next in
    let numbers = record_numbers split.front x x.kind refl some own.layout.clue own.own in
    record {
      ordinal = omega (arith, numbers.0, ap length records, length-map (filter (is_of_clue x.clue) split.front) text, length-map (filter (is_of_clue x.clue) split.front) (λ (e : Entry). e.header.jsn));
      previous = numbers.1 ∙ ap last_of (sym (numbers_same x.clue split.front parts.0)) ∙ ap (λ (l : List (List ℕ)). last_of (map number_of l)) (sym records);
    }
