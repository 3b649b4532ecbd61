-- What the last journal hides or purges was given up, or a disk failed meanwhile.
use Rattle.std.specs.Prelude.{◌≢◌, Bool, true, false, IsTrue, IsSomeAnd, Option, Some, None}
use Rattle.std.specs.Option.{is_some}
use Rattle.std.proofs.Common.{◌≡◌, inl, inr, ℕ, ◌+◌, ◌-◌, ◌<◌, ◌≤◌, List, [], length, get_or, drop, refl, ap, sym, subst, ◌∙◌, arith}
use Rattle.std.proofs.lemmas.Bool.{true≢false, cases_lt}
use Rattle.std.proofs.lemmas.List.{get_or-drop}
use Rattle.block_file.specs.File.{IsShutAt}
use Rattle.ledger_book.specs.Books as books
use Rattle.ledger_book.proofs.StandsLaws.{point_is}
use Rattle.ledger_disk.specs.Disk.{DiskState, State, settled_state}
use Rattle.ledger_disk.specs.Guards.{Outside}
use Rattle.ledger_model.specs.History.{History, point}
use Rattle.ledger_open.proofs.OldLaws.{same_edition}
use Rattle.ledger_open.specs.Heads.{Edition, edition_of}
use Rattle.ledger_open.specs.Cutting.{IsPrepared, gate_behind}
use Rattle.ledger_open.specs.Erasing.{GivesUp, LeavesRest, StandsMeanwhile}
use Rattle.ledger_open.specs.Opening.{CountsTwoErr}
use Rattle.ledger_open.specs.Purging.{Ledger, FinishesPurge, StandsOpen, StandsPurging, IsCleanOpen, IsAtGate}
use Rattle.ledger_open.specs.Standing.{floor_behind, hidden_before, point_before}
use Rattle.ledger_open.specs.Places.{AreInOrder}
use Rattle.ledger_open.specs.declared.failure.OpenErr.{OpenErr}
use Rattle.ledger_open.specs.declared.failure.OpenErr.TheVariants.{DiskFault}
use Rattle.block_file.specs.declared.place.PlaceAt.{PlaceAt}
use Rattle.ledger_open.specs.declared.purging.Purge.{Purge}
use Rattle.ledger_open.proofs.FinishLaws.{given_clean}
use Rattle.ledger_open.proofs.FinishedLaws.{falls, floor_under, under}
use Rattle.twin_file.specs.Twin.{open_of, other_of}
use Rattle.batch_committer.specs.Committed.{IsStanding, IsFinished, IsUnfinished, open_bytes, other_bytes}
use Rattle.batch_committer.specs.World.{Pair}
use Rattle.batch_committer.proofs.Closing.{pair_alone, open_left, length_clean}
use Rattle.batch_committer.proofs.Ending.{ledger_of}
use Rattle.batch_committer.proofs.Finishing.{both_quiet, quiet_open}
use Rattle.batch_committer.proofs.Ordering.{between_order}
use Rattle.batch_committer.proofs.Parting.{gate_one}

-- ---- what was prepared

-- there is a purge to finish
pub prepared_some : (book : books.Kept) (places : List PlaceAt) (o : Option Purge) (v : Bool) → v ≡ is_some o → v ≡ true → IsPrepared book places o → book.floor < book.point
prepared_some book places None v is some p = absurd (true≢false (sym some ∙ is))
prepared_some book places (Some purge) v is some p = p.0.0.before

-- .. or there is none
pub prepared_none : (book : books.Kept) (places : List PlaceAt) (o : Option Purge) (v : Bool) → v ≡ is_some o → v ≡ false → IsPrepared book places o → IsPrepared book places None
prepared_none book places None v is none p = p
prepared_none book places (Some purge) v is none p = absurd (true≢false (sym is ∙ none))

-- ---- a file, but for its contents

-- a gate is still shut behind all contents that may be given up
still_shut : (place : ℕ) (old new : List ℕ) → Outside 0 (place - 0) old new → IsShutAt place old → IsShutAt place new
still_shut place old new o s =
    let whole : 0 + (place - 0) ≡ place = omega arith in
    let behind : drop place new ≡ drop place old = ap (λ (n : ℕ). drop n new) (sym whole) ∙ o.after ∙ ap (λ (n : ℕ). drop n old) whole in
    let first : (file : List ℕ) → get_or file place 0 ≡ get_or (drop place file) 0 0 = λ file. ap (λ (n : ℕ). get_or file n 0) (omega arith) ∙ sym (get_or-drop place file 0 0) in (
      omega (arith, o.size, s.0),
      λ open_gate. s.1 (first old ∙ ap (λ (l : List ℕ). get_or l 0 0) (sym behind) ∙ sym (first new) ∙ open_gate),
    )

-- ---- contents that were given up

module _ (tells : Bool) (book : books.Kept) (places : List PlaceAt) (place : ℕ) (in_a : Bool) (edition : Edition) (before after : Pair)
    (other : other_of in_a after.a after.b ≡ other_of in_a before.a before.b) where
  abbrev old : Ledger
  old = ledger_of book places before place in_a edition

  abbrev new : Ledger
  new = ledger_of book places after place in_a edition

  other_same : other_bytes in_a after ≡ other_bytes in_a before
  other_same = by in_a other where
    by : (v : Bool) → other_of v after.a after.b ≡ other_of v before.a before.b → other_bytes v after ≡ other_bytes v before
    by true is = ap (λ d. d.bytes) is
    by false is = ap (λ d. d.bytes) is

  module _ (none : IsPrepared book places None) (order : AreInOrder 64 place places)
      (gives : IsTrue tells → GivesUp book places (open_of in_a before.a before.b).bytes (open_of in_a after.a after.b).bytes)
      (rest : IsTrue tells → LeavesRest places (open_of in_a before.a before.b).bytes (open_of in_a after.a after.b).bytes) where
    gives_bytes : IsTrue tells → GivesUp book places (open_bytes in_a before) (open_bytes in_a after)
    gives_bytes t = by in_a (gives t) where
      by : (v : Bool) → GivesUp book places (open_of v before.a before.b).bytes (open_of v after.a after.b).bytes → GivesUp book places (open_bytes v before) (open_bytes v after)
      by true x = x
      by false x = x

    rest_bytes : IsTrue tells → LeavesRest places (open_bytes in_a before) (open_bytes in_a after)
    rest_bytes t = by in_a (rest t) where
      by : (v : Bool) → LeavesRest places (open_of v before.a before.b).bytes (open_of v after.a after.b).bytes → LeavesRest places (open_bytes v before) (open_bytes v after)
      by true x = x
      by false x = x

    edition_same : IsTrue tells → edition_of (open_bytes in_a after).seen ≡ edition_of (open_bytes in_a before).seen
    edition_same t = same_edition (open_bytes in_a after).seen (open_bytes in_a before).seen (rest_bytes t 64 place (between_order 64 64 place places (omega arith) order)).before

    -- no purge is left undone: the file begins at the point
    at_point : (h : History) → StandsOpen (old) h → book.floor ≡ point h
    at_point h s =
        elim (cases_lt book.floor book.point) [
          | inl less ↦ absurd (none place _ _ _ (falls (old) h s less) (floor_under (old) h s less))
          | inr most ↦ omega (arith, most, s.ends.serves.seen, point_is book h s.ends.serves)
        ]

    given : IsTrue tells → (h : History) → IsStanding (old) h → IsCleanOpen (new) h
    given t h s =
        let x = s.stands in
        let floor : x.stands.floor ≡ point h = x.floor ∙ at_point h x in
        let all = x.stands.file.lawful.blocks_are in
        let tail : place ≡ gate_behind (floor_behind h x.stands.file.parts.gone) x.stands.file.parts.kept = x.tail ∙ gate_one h all book.floor x.stands.floor (sym x.floor) x.ends.parts x.stands.file.parts in
        let ends = length_clean x.stands.floor (hidden_before h) (open_bytes in_a before).seen h place x.stands.file s.ends tail in
        let gone = gives_bytes t h x.ends (quiet_open in_a before.a.bytes before.b.bytes x.quiet_a x.quiet_b) x.stands floor in
        let empty : other_bytes in_a after ≡ settled_state [] = other_same ∙ s.empty in
        let quiet = both_quiet in_a after.a.bytes after.b.bytes gone.quiet empty in record {
          quiet_a = quiet.0;
          quiet_b = quiet.1;
          ends = x.ends;
          floor = at_point h x;
          tail = x.tail;
          clean = given_clean (open_bytes in_a before) (open_bytes in_a after) h x.stands ends floor gone;
          empty = ap (λ (d : State). length d.seen) empty;
          newer = ap (λ (e : Edition). e.version) (edition_same t) ∙ s.newer;
          edition = x.edition ∙ sym (edition_same t);
        }

    pub erased_finished : IsSomeAnd (open_of in_a after.a after.b).told (λ n. place + 1 ≤ n) → (after.a.faults ≡ before.a.faults) × (after.b.faults ≡ before.b.faults) → IsFinished tells (old) (new) before after
    erased_finished told faults = record {
      clean = given;
      gate = λ t g. record {
        shut = still_shut place (open_bytes in_a before).seen (open_bytes in_a after).seen (rest_bytes t 0 place (between_order 0 64 place places (omega arith) order)) g.shut;
        edition = g.edition ∙ sym (edition_same t);
      };
      told = told;
      order = λ o. o;
      limits = refl;
      size = refl;
      sealed = refl;
      faults_a = faults.0;
      faults_b = faults.1;
    }

  -- .. or that failed
  pub erased_unfinished : (e : OpenErr) → e ≡ DiskFault → CountsTwoErr e before.a.faults after.a.faults before.b.faults after.b.faults
      → (IsTrue tells → StandsMeanwhile book places (open_of in_a before.a before.b).bytes (open_of in_a after.a after.b).bytes) → IsUnfinished tells (old) before after
  erased_unfinished e is counts meanwhile = record {
    meanwhile = λ t h s i j left_a left_b.
        pair_alone in_a after.a.bytes after.b.bytes i j h (other_same ∙ s.empty) left_a left_b
        (by in_a (meanwhile t) h s.stands.ends (quiet_open in_a before.a.bytes before.b.bytes s.stands.quiet_a s.stands.quiet_b) s.stands.stands (open_of in_a i j) (open_left in_a after.a.bytes after.b.bytes i j left_a left_b)).0;
    failed = subst (λ (x : OpenErr). CountsTwoErr x before.a.faults after.a.faults before.b.faults after.b.faults) is counts;
  } where
    by : (v : Bool) → StandsMeanwhile book places (open_of v before.a before.b).bytes (open_of v after.a after.b).bytes → StandsMeanwhile book places (open_bytes v before) (open_bytes v after)
    by true x = x
    by false x = x

-- ---- a purge that was finished, or a disk failed meanwhile

-- where the open file begins in front of the point, the last journal is a purge
purge_there : (l : Ledger) (h : History) → StandsOpen l h → l.known.book.floor < l.known.book.point → point_before h ≢ point h
purge_there l h s below same =
    let less = under l h s below in
    elim s.stands.begins [ inl at ↦ omega (arith, at, less) | inr at ↦ omega (arith, at, same, less) ]

pub purge_unfinished : (tells : Bool) (old : Ledger) (before after : Pair) (e : OpenErr) → old.known.book.floor < old.known.book.point → e ≡ DiskFault → CountsTwoErr e before.a.faults after.a.faults before.b.faults after.b.faults
    → (IsTrue tells → StandsPurging old after.a.bytes after.b.bytes) → IsUnfinished tells old before after
purge_unfinished tells old before after e less is counts images = record {
  meanwhile = λ t h s i j left_a left_b. record { pair = images t h s.stands i j left_a left_b; alone = inr (purge_there old h s.stands less) };
  failed = subst (λ (x : OpenErr). CountsTwoErr x before.a.faults after.a.faults before.b.faults after.b.faults) is counts;
}

pub purge_finished : (tells : Bool) (old new : Ledger) (before after : Pair) → old.known.book.floor < old.known.book.point → (IsTrue tells → FinishesPurge old new) → (IsTrue tells → IsAtGate old → IsAtGate new)
    → IsSomeAnd (open_of new.in_a after.a after.b).told (λ n. new.known.gate + 1 ≤ n) → (AreInOrder 64 old.known.gate old.known.places → AreInOrder 64 new.known.gate new.known.places) → new.known.book.limits ≡ old.known.book.limits
    → (new.known.book.size ≡ old.known.book.size) × (new.known.book.sealed ≡ old.known.book.sealed) → (after.a.faults ≡ before.a.faults) × (after.b.faults ≡ before.b.faults) → IsFinished tells old new before after
purge_finished tells old new before after less clean gate told order limits sizes faults = record {
  clean = λ t h s. clean t less h s.stands;
  gate = gate;
  told = told;
  order = order;
  limits = limits;
  size = sizes.0;
  sealed = sizes.1;
  faults_a = faults.0;
  faults_b = faults.1;
}

-- ---- the length that is told of the open one of two disks

pub told_apart : (in_a : Bool) (a b : DiskState) (place : ℕ) → IsSomeAnd (open_of in_a a b).told (λ n. place + 1 ≤ n) → IsSomeAnd (open_of in_a a.told b.told) (λ n. place + 1 ≤ n)
told_apart true a b place told = told
told_apart false a b place told = told

pub told_together : (in_a : Bool) (a b : DiskState) (place : ℕ) → IsSomeAnd (open_of in_a a.told b.told) (λ n. place + 1 ≤ n) → IsSomeAnd (open_of in_a a b).told (λ n. place + 1 ≤ n)
told_together true a b place told = told
told_together false a b place told = told
