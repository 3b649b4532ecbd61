-- How many bytes a journal has, that bytes behind a window that is full enough don't matter, and what a walk over journals has read.
use Rattle.std.proofs.Common.{◌≡◌, ◌⊎◌, inl, inr, ℕ, ◌+◌, ◌-◌, ◌≤◌, true, eqb, List, [], ◌++◌, length, length-append, take, arith, Result, Ok, Err, refl, sym, ap, subst, ◌∙◌, take_at}
use Rattle.std.proofs.lemmas.Bool.{cases_Bool, eqb-true}
use Rattle.std.proofs.lemmas.List.{append-nil, nil_from_length, take_all}
use Rattle.ledger_bytes.specs.Causes.{count_after}
use Rattle.ledger_bytes.specs.declared.failure.Bad.{Bad}
use Rattle.ledger_bytes.specs.declared.failure.Bad.TheVariants.{Trailing}
use Rattle.ledger_bytes.specs.Fields.{Unread, left_from, end_at, IsBytes, Took}
use Rattle.ledger_io.specs.Outside.{SourceState}
use Rattle.ledger_io.specs.Windows.{Seen, HasEnough}
use Rattle.ledger_io.specs.declared.failure.LineErr.{LineErr}
use Rattle.ledger_io.specs.declared.failure.LineErr.TheVariants.{ReadFault, LineTooLong, ScriptTooLong, NoMemory}
use Rattle.journal_record.specs.Items.{Item, IsItem, item_text, item_at, most_bytes, with_more}
use Rattle.journal_record.proofs.ItemLaws.{item_back}
use Rattle.journal_record.proofs.Near.{item_near}
use Rattle.audit_dump.specs.Breaks.{place_behind}
use Rattle.audit_dump.specs.Walking.{BeginsWith, HasItem, IsBreakAt, IsNextItem, in_whole, place_left, place_of}
use Rattle.audit_dump.specs.declared.walking.Break.{Break}
use Rattle.audit_dump.proofs.Moving.{item_moves}

-- ---- the next journal

-- the test that nothing is left
abbrev ends : Unread → Result (Unit {0}) Bad
ends l = end_at tt l

abbrev done : Result (Unit {0}) Bad
done = Ok tt

abbrev failed : Bad → Result (Unit {0}) Bad
failed bad = Err bad

end_here : (l : Unread) → ends l ≡ done → length l.rest ≡ 0
end_here l e = elim (cases_Bool (eqb (length l.rest) 0)) [
  | inl none ↦ eqb-true (length l.rest) 0 none
  | inr some ↦ absurd (let never : failed (Trailing (l.whole - length l.rest)) ≡ done = sym (rw some refl) ∙ e in cc)
]

end_there : (l : Unread) (bad : Bad) → ends l ≡ failed bad → place_left bad ≡ l.whole - length l.rest
end_there l bad e = elim (cases_Bool (eqb (length l.rest) 0)) [
  | inl none ↦ absurd (let never : done ≡ failed bad = sym (rw none refl) ∙ e in cc)
  | inr some ↦
      let same : failed (Trailing (l.whole - length l.rest)) ≡ failed bad = sym (rw some refl) ∙ e in
      let is : Trailing (l.whole - length l.rest) ≡ bad = cc in
      ap place_left (sym is)
]

module _ (bytes : List ℕ) (x : Item) (after : Unread) (fits : IsBytes bytes) (e : item_at (left_from (length bytes) bytes) ≡ Ok (x, after)) where
  taken : Took (left_from (length bytes) bytes) (item_text x) after × IsItem x
  taken = item_back.takes (left_from (length bytes) bytes) x after fits e

  -- the bytes are a journal
  pub whole_item : ends after ≡ done → HasItem bytes (length bytes)
  whole_item end =
      let none : after.rest ≡ [] = nil_from_length after.rest (end_here after end) in
      let is : bytes ≡ item_text x = taken.0.parts ∙ ap (λ t. item_text x ++ t) none ∙ append-nil (item_text x) in
      (omega arith, (x, taken.1, take_all (length bytes) bytes (omega arith) ∙ is))

  -- others stand behind a journal
  pub part_item : (bad : Bad) → ends after ≡ failed bad → HasItem bytes (place_left bad)
  part_item bad end =
      let parts : bytes ≡ item_text x ++ after.rest = taken.0.parts in
      let len : length bytes ≡ length (item_text x) + length after.rest = ap length parts ∙ length-append (item_text x) after.rest in
      let place : place_left bad ≡ length (item_text x) = omega (arith, end_there after bad end, taken.0.whole, len) in
      (omega (arith, place, len), (x, taken.1, ap (take (place_left bad)) parts ∙ take_at (item_text x) after.rest (place_left bad) (sym place)))

-- a break of bytes is one of the input that ends with them
pub broken_there : (start : ℕ) (bytes : List ℕ) (bad : Bad) (broken : Break) → item_at (left_from (length bytes) bytes) ≡ Err bad → broken.bad ≡ in_whole (start + length bytes) bad → broken.place ≡ place_behind start broken.bad
    → IsBreakAt start bytes broken
broken_there start bytes bad broken e is place = (item_moves (length bytes) (start + length bytes) bytes bad e ∙ ap Err (sym is), place)

-- what follows makes no difference, where enough is held or nothing follows
pub next_is : (w : Seen) (answer : Result ℕ Break) → IsBytes w.held → BeginsWith (place_of w) w.held answer → (most_bytes ≤ length w.held) ⊎ (w.ended ≡ true) → IsNextItem w answer
next_is w (Ok n) fits begins enough = begins
next_is w (Err broken) fits begins (inl long) = λ further may. (
  let whole : ℕ = place_of w + length w.held in
      let longer : ℕ = place_of w + length (w.held ++ further) in
      item_near whole longer w.held further fits long ∙ ap (with_more longer further) begins.0,
  begins.1,
)
next_is w (Err broken) fits begins (inr ended) = λ further may.
    subst (λ (t : List ℕ). IsBreakAt (place_of w) t broken) (sym (ap (λ t. w.held ++ t) (may ended) ∙ append-nil w.held)) begins

-- ---- errors

-- an error of the last reading is that of the walk, where none failed before
pub errors_then : (a b c : SourceState) (want : ℕ) (z : Seen) (e : LineErr) → b.faults ≡ a.faults → HasEnough b c want z (Err e) → HasEnough a c want z (Err e)
errors_then a b c want z ReadFault same is = is ∙ ap count_after same
errors_then a b c want z LineTooLong same is = is
errors_then a b c want z ScriptTooLong same is = (is.0 ∙ same, is.1)
errors_then a b c want z NoMemory same is = is ∙ same
