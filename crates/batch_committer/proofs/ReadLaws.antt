-- Reading changes nothing that counts.
use Rattle.std.specs.Prelude.{Bool, true, false, IsTrue, IsSomeAnd, Option, Some, None}
use Rattle.std.proofs.Common.{◌≡◌, inl, ℕ, ◌+◌, ◌≤◌, List, [], ◌++◌, refl, ap, sym, subst, ◌∙◌, append-nil}
use Rattle.std.proofs.KnownBytes.{Appends-nil}
use Rattle.block_file.specs.File.{IsShutAt}
use Rattle.journal_record.specs.Entry.{Entry}
use Rattle.ledger_disk.specs.Disk.{DiskState, State, KeepsLength}
use Rattle.ledger_io.specs.Outside.{SinkState}
use Rattle.ledger_model.specs.Growing.{Grows}
use Rattle.ledger_model.specs.History.{History, history}
use Rattle.ledger_model.specs.declared.due.Due.{Due}
use Rattle.ledger_model.proofs.GrowLaws.{grows_not}
use Rattle.ledger_book.specs.Books as books
use Rattle.twin_file.specs.Twin.{open_of}
use Rattle.ledger_book.specs.Books.{Serves}
use Rattle.block_file.specs.Places.{body_from, places_in}
use Rattle.ledger_open.specs.Heads.{edition_of}
use Rattle.ledger_open.specs.Places.{places_from}
use Rattle.ledger_open.specs.Standing.{floor_behind, IsErased}
use Rattle.ledger_open.specs.Pieces.{IsReadAs, WasOnlyRead}
use Rattle.batch_committer.specs.Read.{WereRead, NoneFailed, ReadingEnds}
use Rattle.batch_committer.specs.World.{Pair, CommitterState, world, ReadsAsLeft, Fits, IsCleanFor, Holds, Goes, Says, EndsBy, EndsOnTheWay, sealed_part, stored_part}
use Rattle.batch_committer.specs.declared.failure.CommitErr.{CommitErr}
use Rattle.batch_committer.specs.declared.failure.CommitErr.TheVariants.{DiskFault, WriteFault, NoMemory, Closed}
use Rattle.batch_committer.proofs.Closing.{sealed_same}
use Rattle.batch_committer.proofs.Ending.{stops_before}
use Rattle.batch_committer.proofs.Grouped.{none_gathered, located_held}
use Rattle.batch_committer.proofs.WayLaws.{begins_not}

-- ---- nothing was read

keeps_length : (o : Option ℕ) → KeepsLength o o
keeps_length None = tt
keeps_length (Some n) = refl

unread_one : (tells : Bool) (d : DiskState) → WasOnlyRead tells d d
unread_one tells d = record { bytes = λ _. refl; told = keeps_length d.told }

pub unread : (tells : Bool) (disks : Pair) → WereRead tells disks disks
unread tells disks = record { a = unread_one tells disks.a; b = unread_one tells disks.b }

-- ---- what is held, where the disks were read

module _ (tells : Bool) (old new : Pair) (read : WereRead tells old new) where
  holds_read : (k : CommitterState) (sink : SinkState) (h : History) → Holds tells (world k old sink) h → Holds tells (world k new sink) h
  holds_read k sink h p = record {
    told = p.told;
    keeps = p.keeps;
    disks = subst (λ (b : State). IsCleanFor k.in_a k.gate (history p.keeps.group.stored []) new.a.bytes b) (sym (read.b.bytes p.told))
        (subst (λ (a : State). IsCleanFor k.in_a k.gate (history p.keeps.group.stored []) a old.b.bytes) (sym (read.a.bytes p.told)) p.disks);
  }

  told_still : (place : ℕ) (o n : Option ℕ) → KeepsLength o n → IsSomeAnd o (λ (m : ℕ). place + 1 ≤ m) → IsSomeAnd n (λ (m : ℕ). place + 1 ≤ m)
  told_still place None n keeps is = absurd is
  told_still place (Some m) n keeps is = subst (λ (x : Option ℕ). IsSomeAnd x (λ (y : ℕ). place + 1 ≤ y)) (sym keeps) is

  reads_one : (place : ℕ) (d x : DiskState) → WasOnlyRead tells d x → ReadsAsLeft tells place d → ReadsAsLeft tells place x
  reads_one place d x r s = record { told = told_still place d.told x.told r.told s.told; shut = λ t. subst (λ (b : State). IsShutAt place b.seen) (sym (r.bytes t)) (s.shut t) }

  reads_by : (in_a : Bool) (place : ℕ) → ReadsAsLeft tells place (open_of in_a old.a old.b) → ReadsAsLeft tells place (open_of in_a new.a new.b)
  reads_by true place s = reads_one place old.a new.a read.a s
  reads_by false place s = reads_one place old.b new.b read.b s

  edition_by : (in_a : Bool) → IsTrue tells → edition_of (open_of in_a new.a new.b).bytes.seen ≡ edition_of (open_of in_a old.a old.b).bytes.seen
  edition_by true t = ap (λ (b : State). edition_of b.seen) (read.a.bytes t)
  edition_by false t = ap (λ (b : State). edition_of b.seen) (read.b.bytes t)

  pub fits_read : (k : CommitterState) (sink : SinkState) → Fits tells (world k old sink) → Fits tells (world k new sink)
  fits_read k sink f = record { reads = reads_by k.in_a k.gate f.reads; edition = λ t. f.edition t ∙ sym (edition_by k.in_a t); copy = f.copy; few = f.few; order = f.order; next = f.next; some = f.some; room = f.room; spelled = f.spelled; owed = f.owed; clear = f.clear }

  -- reading leads to the same history, and nothing becomes due by it
  pub goes_read : (k : CommitterState) (sink : SinkState) → NoneFailed old new → Goes tells (world k old sink) (λ h. h) (λ h. []) (world k new sink)
  goes_read k sink none = record {
    holds = λ h p. holds_read k sink h p;
    grows = λ h p. grows_not h;
    stays = λ h p. begins_not (stored_part k h).closed;
    sofar = [];
    appended = Appends-nil sink.held;
    writes = λ h p. record { done = []; split = append-nil k.dues; kept = tt; text = λ f y z. refl };
    no_fault = record { a = none.0; b = none.1; sink = (refl, refl) };
  }

  says_none : (end : CommitErr) → ReadingEnds end old new → Says end [] []
  says_none DiskFault e = refl
  says_none WriteFault e = absurd e
  says_none NoMemory e = refl
  says_none Closed e = absurd e

  ends_by : (end : CommitErr) (k t : CommitterState) (sink : SinkState) → ReadingEnds end old new → EndsBy end (world k old sink) (world t new sink)
  ends_by DiskFault k t sink e = (e, (refl, refl))
  ends_by WriteFault k t sink e = absurd e
  ends_by NoMemory k t sink e = record { a = e.0; b = e.1; sink = (refl, refl) }
  ends_by Closed k t sink e = absurd e

  -- a run that reading ended, on the way to a history
  pub read_ended : (k t : CommitterState) (sink : SinkState) (f : History → History) (d : History → List Due) (end : CommitErr) → ((h : History) → Grows h (f h)) → ReadingEnds end old new → EndsOnTheWay tells (world k old sink) f d end (world t new sink)
  read_ended k t sink f d end grows e = record {
    grows = λ h p. grows h;
    part = [];
    appended = Appends-nil sink.held;
    stops = λ h p. stops_before tells (world k new sink) h (f h) (k.dues ++ d h) end (says_none end e) (grows h) (holds_read k sink h p);
    cause = ends_by end k t sink e;
  }

-- the same for a book that is known by an equation
pub holds_book : (tells : Bool) (k : CommitterState) (book : books.Kept) (disks : Pair) (sink : SinkState) (h : History) → book ≡ k.book → Holds tells (world k disks sink) h → Holds tells (world (record k { book = book }) disks sink) h
holds_book tells k book disks sink h is p = subst (λ b. Holds tells (world (record k { book = b }) disks sink) h) (sym is) p

-- ---- what is read of a history that is held, where none of its journals waits

pub read_as_held : (tells : Bool) (k : CommitterState) (disks : Pair) (sink : SinkState) (h : History) → Holds tells (world k disks sink) h → h.waiting ≡ [] → k.ended ≡ 0 → (in_a : Bool) → k.in_a ≡ in_a → IsReadAs k.book k.places (open_of in_a disks.a.bytes disks.b.bytes).seen h
read_as_held tells k disks sink h p none settled in_a is =
    let g = sealed_part h in
    let l = located_held tells (world k disks sink) h p in
    let from = floor_behind g l.parts.gone in
    subst (IsReadAs k.book k.places (open_of in_a disks.a.bytes disks.b.bytes).seen) (sealed_same h none)
    (record {
      ends = record {
        serves = subst (Serves k.book) (sym (sealed_same h none)) p.keeps.serves;
        begins = inl p.keeps.floor;
        parts = l.parts;
        places_are = l.places ∙ ap (λ (w : List Entry). places_from from l.parts.kept ++ places_in (body_from k.next) w) none ∙ append-nil (places_from from l.parts.kept);
        none = refl;
      };
      floor = p.keeps.floor;
      erased = subst (λ (v : Bool). IsErased (open_of v disks.a.bytes disks.b.bytes).seen g) is
          (subst (IsErased (open_of k.in_a disks.a.bytes disks.b.bytes).seen) (none_gathered k h p.keeps.group settled) p.disks.erased);
    })
