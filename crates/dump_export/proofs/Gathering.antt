-- Journals that are gathered, and written many in one piece.
use Rattle.std.specs.Prelude.{All, Bool, IsTrue, Some, slice_get, take}
use Rattle.std.proofs.Common.{◌≡◌, ◌≤◌, inl, inr, ℕ, ◌+◌, ◌-◌, List, [], ◌++◌, Err, refl, sym, ap, subst, ◌∙◌, append_assoc}
use Rattle.std.proofs.KnownBytes.{Appends-nil, Appends-trans}
use Rattle.block_file.specs.declared.place.PlaceAt.{PlaceAt}
use Rattle.dump_model.specs.Dumps.{Dump}
use Rattle.dump_model.specs.Shown.{ledger_dump}
use Rattle.ledger_book.specs.Books.{Kept}
use Rattle.ledger_disk.specs.Disk.{DiskState, State}
use Rattle.ledger_io.specs.Outside.{SinkState}
use Rattle.ledger_model.specs.History.{History, point}
use Rattle.ledger_open.specs.Pieces.{IsReadAs, WasOnlyRead}
use Rattle.time_peg.specs.Entries.{NotaryState}
use Rattle.dump_export.specs.Damages.{IsWholeIn, shown_journals}
use Rattle.dump_export.specs.Exports.{DamagesAt, Handed, MeetsCause, Puts, IsUndamaged, IsWritten, ReadEnds, TellsDamage, TellsOneDamage, Writes, done, handed}
use Rattle.dump_export.specs.Gathers.{AddsShown, Gathers, GivesUp, IsOnlyTold, PassesOn}
use Rattle.dump_export.specs.Texts.{first_journals, journal_at, journals_text}
use Rattle.dump_export.specs.declared.failure.DumpErr.{DumpErr}
use Rattle.dump_export.specs.declared.failure.DumpErr.TheVariants.{DiskFault, NotaryFault, WriteFault, Damaged, NoMemory}
use Rattle.dump_export.proofs.Exporting.{Answer, as_text, asked_same, met_behind, met_none, none_none, one_fails, put_met, read_both, read_same, stops, unwritten, written_both}
use Rattle.dump_export.proofs.Items.{first_appended, first_told, no_notary, one_unread, read_met, shown_there, whole_more}
use Rattle.dump_export.proofs.Texts.{behind_journals, journal_text_is, next_journal, split_journals}

-- bytes that wait are told only in front of a damage
pub gives_same : (e : DumpErr) (old new : List ℕ) (r : Answer) (s t : SinkState) → ((IsUndamaged e → ⊥) → new ≡ old) → GivesUp e new r s t → GivesUp e old r s t
gives_same DiskFault old new r s t same up = up
gives_same NotaryFault old new r s t same up = up
gives_same WriteFault old new r s t same up = up
gives_same (Damaged damage) old new r s t same up = subst (λ (l : List ℕ). GivesUp (Damaged damage) l r s t) (same (λ never. never)) up
gives_same NoMemory old new r s t same up = up

-- a fault of writing tells no damage
pub put_tells : (h : History) (piece : List ℕ) (e : DumpErr) (x s t : SinkState) → Puts piece (Err e) s t → TellsDamage [] h (Err e) x t
put_tells h piece e x s t put = subst (λ (f : DumpErr). TellsDamage [] h (Err f) x t) (sym put.met.0) tt

module _ (tells : Bool) (book : Kept) (places : List PlaceAt) where
  -- nothing is gathered of a text that is empty
  pub gathers_none : (text : Dump → List ℕ) (x : Handed) → ((d : Dump) → [] ≡ text d) → Gathers tells book places text [] x x
  gathers_none text x empty = record {
    part = [];
    appended = Appends-nil x.sink.held;
    gathered = λ t h is. empty (ledger_dump h x.notary.entries);
    read = read_same tells x.file;
    asked = asked_same x.notary;
    met = met_none x;
  }

  -- the disk is read
  pub gathers_read : (text : Dump → List ℕ) (waiting : List ℕ) (x : Handed) (file later : DiskState) (notary : NotaryState) (sink : SinkState)
      → Gathers tells book places text waiting x (handed file notary sink) → WasOnlyRead tells file later → later.faults ≡ file.faults
      → Gathers tells book places text waiting x (handed later notary sink)
  gathers_read text waiting x file later notary sink g read faults = record {
    part = g.part;
    appended = g.appended;
    gathered = g.gathered;
    read = read_both tells x.file file later g.read read;
    asked = g.asked;
    met = record { disk_is = faults ∙ g.met.disk_is; notary_is = g.met.notary_is; sink_is = g.met.sink_is };
  }

  -- a journal more waits
  pub gathers_more : (k n : ℕ) (old new : List ℕ) (x : Handed) (file : DiskState) (notary : NotaryState) (sink : SinkState)
      → Gathers tells book places (first_journals k) old x (handed file notary sink) → book.floor ≤ n → n - book.floor ≡ k
      → (IsTrue tells → (h : History) → IsReadAs book places file.bytes.seen h → AddsShown h n old new)
      → Gathers tells book places (first_journals (k + 1)) new x (handed file notary sink)
  gathers_more k n old new x file notary sink g low at shown = record {
    part = g.part;
    appended = g.appended;
    gathered = λ t h is.
        let adds = shown t h (subst (λ (s : State). IsReadAs book places s.seen h) (sym (g.read.bytes t)) is) in
        let d = ledger_dump h x.notary.entries in
        let one : adds.0 ≡ journal_at k d =
        adds.1.bytes_are ∙ journal_text_is h x.notary.entries (n - book.floor) adds.1.e (shown_there h book.floor n adds.1.e is.floor low adds.1.there) ∙ ap (λ (m : ℕ). journal_at m d) at in
        ap (λ (l : List ℕ). g.part ++ l) adds.2 ∙ sym (append_assoc g.part old adds.0) ∙ ap (λ (l : List ℕ). l ++ adds.0) (g.gathered t h is) ∙ ap (λ (l : List ℕ). first_journals k d ++ l) one ∙ next_journal k d;
    read = g.read;
    asked = g.asked;
    met = g.met;
  }

  -- what waits is written from the front
  pub gathers_passed : (text : Dump → List ℕ) (old new : List ℕ) (x : Handed) (file : DiskState) (notary : NotaryState) (s t : SinkState)
      → Gathers tells book places text old x (handed file notary s) → PassesOn old new done s t → Gathers tells book places text new x (handed file notary t)
  gathers_passed text old new x file notary s t g on = record {
    part = g.part ++ on.0;
    appended = Appends-trans x.sink.held s.held t.held g.part on.0 g.appended on.2;
    gathered = λ told h is. append_assoc g.part on.0 new ∙ ap (λ (l : List ℕ). g.part ++ l) (sym on.1) ∙ g.gathered told h is;
    read = g.read;
    asked = g.asked;
    met = record { disk_is = g.met.disk_is; notary_is = g.met.notary_is; sink_is = none_none x.sink s t g.met.sink_is on.3 };
  }

  -- all that waits is written, or a beginning of it
  pub gathers_put : (text : Dump → List ℕ) (waiting : List ℕ) (r : Answer) (x : Handed) (file : DiskState) (notary : NotaryState) (s t : SinkState)
      → Gathers tells book places text waiting x (handed file notary s) → Puts waiting r s t → Writes tells book places text r x (handed file notary t)
  gathers_put text waiting r x file notary s t g put = record {
    part = g.part ++ put.part;
    appended = Appends-trans x.sink.held s.held t.held g.part put.part g.appended put.appended;
    written = λ told h is. subst (IsWritten r (g.part ++ put.part)) (g.gathered told h is) (written_both r g.part put.part g.part waiting refl put.written);
    read = g.read;
    asked = g.asked;
    met = met_behind r x (handed file notary s) (handed file notary t) g.met (put_met r file notary s t put.met);
  }

  -- an error ends it, and what waits is given up
  pub gathers_stops : (text : Dump → List ℕ) (waiting : List ℕ) (e : DumpErr) (x : Handed) (file later : DiskState) (notary : NotaryState) (sink : SinkState)
      → Gathers tells book places text waiting x (handed file notary sink) → WasOnlyRead tells file later → MeetsCause e (handed file notary sink) (handed later notary sink)
      → Writes tells book places text (Err e) x (handed later notary sink)
  gathers_stops text waiting e x file later notary sink g read cause = record {
    part = g.part;
    appended = g.appended;
    written = λ t h is. record { rest = waiting; is = sym (g.gathered t h is) };
    read = read_both tells x.file file later g.read read;
    asked = g.asked;
    met = met_behind (Err e) x (handed file notary sink) (handed later notary sink) g.met cause;
  }

  -- of the first journals a beginning is written, and so it is of all
  pub of_all : (k : ℕ) (e : DumpErr) (x z : Handed) → Writes tells book places (first_journals k) (Err e) x z → Writes tells book places journals_text (Err e) x z
  of_all k e x z w =
      as_text tells book places (λ d. (first_journals k d ++ journal_at k d) ++ behind_journals (k + 1) d) journals_text (Err e) x z (λ t h is. split_journals k (ledger_dump h x.notary.entries))
      (stops tells book places (λ d. first_journals k d ++ journal_at k d) (behind_journals (k + 1)) e x z (stops tells book places (first_journals k) (journal_at k) e x z w))

  module _ (k : ℕ) (waiting : List ℕ) (x : Handed) (file later : DiskState) (notary : NotaryState) (s t : SinkState)
      (g : Gathers tells book places (first_journals k) waiting x (handed file notary s)) (read : WasOnlyRead tells file later) where
    -- an error that writes nothing
    only_told : (e : DumpErr) (r : Answer) → ReadEnds e file.faults later.faults → IsOnlyTold e r s t → Writes tells book places journals_text r x (handed later notary t)
    only_told e r ends told =
        let none = of_all k e x (handed later notary s) (gathers_stops (first_journals k) waiting e x file later notary s g read (read_met e file later notary s ends)) in
        subst (λ (a : Answer). Writes tells book places journals_text a x (handed later notary t)) (sym told.0)
        (subst (λ (u : SinkState). Writes tells book places journals_text (Err e) x (handed later notary u)) (sym told.1) none)

    -- what is written where the next journal isn't read
    pub given_up : (e : DumpErr) (r : Answer) → ReadEnds e file.faults later.faults → GivesUp e waiting r s t → Writes tells book places journals_text r x (handed later notary t)
    given_up DiskFault r ends up = only_told DiskFault r ends up
    given_up NotaryFault r ends up = only_told NotaryFault r ends up
    given_up WriteFault r ends up = only_told WriteFault r ends up
    given_up (Damaged damage) r ends (inl put) =
        subst (λ (a : Answer). Writes tells book places journals_text a x (handed later notary t)) (sym put.0)
        (one_fails tells book places first_journals journal_at behind_journals journals_text split_journals k (Damaged damage) x (handed file notary t) (handed later notary t)
        (gathers_put (first_journals k) waiting done x file notary s t g put.1)
        (unwritten tells book places (journal_at k) (Damaged damage) file later notary notary t read (asked_same notary) (read_met (Damaged damage) file later notary t ends)))
    given_up (Damaged damage) r ends (inr put) =
        subst (λ (a : Answer). Writes tells book places journals_text a x (handed later notary t)) (sym put.0)
        (of_all k WriteFault x (handed later notary t)
        (gathers_put (first_journals k) waiting (Err WriteFault) x later notary s t (gathers_read (first_journals k) waiting x file later notary s g read ends) put.1))
    given_up NoMemory r ends up = only_told NoMemory r ends up

  -- what is told of damages then
  pub given_up_tells : (k n : ℕ) (waiting : List ℕ) (file : DiskState) (x s t : SinkState) (first : DiskState) (e : DumpErr) (r : Answer) (h : History)
      → Gathers tells book places (first_journals k) waiting (handed first no_notary x) (handed file no_notary s) → IsTrue tells → IsReadAs book places first.bytes.seen h
      → book.floor ≤ n → n - book.floor ≡ k → All (IsWholeIn h) (take k (shown_journals h)) → DamagesAt h n e → GivesUp e waiting r s t → TellsDamage [] h r x t
  given_up_tells k n waiting file x s t first DiskFault r h g told is low at all of up = subst (λ (a : Answer). TellsDamage [] h a x t) (sym up.0) tt
  given_up_tells k n waiting file x s t first NotaryFault r h g told is low at all of up = subst (λ (a : Answer). TellsDamage [] h a x t) (sym up.0) tt
  given_up_tells k n waiting file x s t first WriteFault r h g told is low at all of up = subst (λ (a : Answer). TellsDamage [] h a x t) (sym up.0) tt
  given_up_tells k n waiting file x s t first (Damaged damage) r h g told is low at all of (inl put) =
      let written = gathers_put (first_journals k) waiting done (handed first no_notary x) file no_notary s t g put.1 in
      subst (λ (a : Answer). TellsDamage [] h a x t) (sym put.0)
      (first_told h k (Damaged damage) x t t all (first_appended tells book places k (handed first no_notary x) (handed file no_notary t) written told h is)
      (subst (λ (m : ℕ). TellsOneDamage h m (Err (Damaged damage)) t t) at (one_unread h book.floor n (Damaged damage) t is.floor low of)))
  given_up_tells k n waiting file x s t first (Damaged damage) r h g told is low at all of (inr put) = subst (λ (a : Answer). TellsDamage [] h a x t) (sym put.0) tt
  given_up_tells k n waiting file x s t first NoMemory r h g told is low at all of up = subst (λ (a : Answer). TellsDamage [] h a x t) (sym up.0) tt

  -- the journals are whole that were gathered
  pub whole_then : (k n : ℕ) (old new : List ℕ) (h : History) → book.floor ≡ point h → book.floor ≤ n → n - book.floor ≡ k → AddsShown h n old new
      → All (IsWholeIn h) (take k (shown_journals h)) → All (IsWholeIn h) (take (k + 1) (shown_journals h))
  whole_then k n old new h floor low at adds all =
      whole_more h k adds.1.e all (subst (λ (m : ℕ). slice_get (shown_journals h) m ≡ Some adds.1.e) at (shown_there h book.floor n adds.1.e floor low adds.1.there)) adds.1.whole
