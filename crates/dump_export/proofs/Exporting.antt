-- Writing one piece of a dump after the other.
use Rattle.std.specs.Prelude.{Bool, IsTrue, IsErr, IsErrAnd, IfOk, OnOk, MatchResult}
use Rattle.std.proofs.Common.{◌≡◌, inl, inr, ℕ, ◌+◌, List, [], ◌++◌, take, drop, Option, Some, None, Result, Ok, Err, refl, sym, ap, ap₂, subst, ◌∙◌, append_assoc}
use Rattle.std.proofs.lemmas.List.{take-append-drop}
use Rattle.std.proofs.KnownBytes.{Appends-nil, Appends-trans}
use Rattle.block_file.specs.declared.place.PlaceAt.{PlaceAt}
use Rattle.dump_model.specs.Dumps.{Dump}
use Rattle.dump_model.specs.Shown.{ledger_dump}
use Rattle.ledger_book.specs.Books.{Kept}
use Rattle.ledger_bytes.specs.Begins.{Begins}
use Rattle.ledger_bytes.specs.Causes.{count_after}
use Rattle.ledger_disk.specs.Disk.{DiskState, State, KeepsLength}
use Rattle.ledger_io.specs.Outside.{SinkState, MeetsNone, MeetsOne}
use Rattle.ledger_io.specs.Writing.{WritesFirst}
use Rattle.ledger_io.specs.declared.writer.WriteErr.{WriteErr}
use Rattle.ledger_io.specs.declared.writer.WriteErr.TheVariants as write_err
use Rattle.ledger_model.specs.History.{History}
use Rattle.ledger_open.specs.Pieces.{IsReadAs, WasOnlyRead}
use Rattle.time_peg.specs.Entries.{NotaryState, CountsFailures}
use Rattle.time_peg.specs.declared.notary.NotaryErr.{NotaryErr}
use Rattle.time_peg.specs.declared.notary.NotaryErr.TheVariants.{Failed}
use Rattle.dump_export.specs.Exports.{Handed, handed, IsOnlyAsked, Meets, MeetsNothing, MeetsCause, MeetsBy, IsWritten, Writes, Puts, done}
use Rattle.dump_export.specs.declared.failure.DumpErr.{DumpErr}
use Rattle.dump_export.specs.declared.failure.DumpErr.TheVariants.{DiskFault, NotaryFault, WriteFault, Damaged, NoMemory}

-- ---- answers

abbrev pub Answer : Type 0
Answer = Result (Unit {0}) DumpErr

-- what holds of an error holds of the answer that hands it on
pub handed_on : (r : Answer) (e : DumpErr) (P : Answer → Type 0) → IsErr r × IsErrAnd r (λ f. f ≡ e) → P (Err e) → P r
handed_on (Ok end) e P is holds = absurd (cc is.0)
handed_on (Err f) e P is holds = subst (λ (x : DumpErr). P (Err x)) (sym is.1) holds

-- what holds of a value by two clauses
pub both_ok : {T : Type 0} (r : Result T DumpErr) (P R : T → Type 0) (Q : Type 0) → ((x : T) → P x → Q → R x) → IfOk r P → OnOk r Q → IfOk r R
both_ok (Ok x) P R Q to p q = to x p q
both_ok (Err e) P R Q to p q = tt

-- ---- how far a text was written

pub written_both : (r : Answer) (a b x y : List ℕ) → a ≡ x → IsWritten r b y → IsWritten r (a ++ b) (x ++ y)
written_both (Ok end) a b x y p q = ap₂ (λ (k l : List ℕ). k ++ l) p q
written_both (Err e) a b x y p q = record {
  rest = q.rest;
  is = ap₂ (λ (k l : List ℕ). k ++ l) (sym p) q.is ∙ sym (append_assoc a b q.rest);
}

pub written_front : (a x y : List ℕ) → Begins a x → Begins a (x ++ y)
written_front a x y p = record { rest = p.rest ++ y; is = ap (λ (l : List ℕ). l ++ y) p.is ∙ append_assoc a p.rest y }

-- ---- what was read and asked

keeps_same : (o : Option ℕ) → KeepsLength o o
keeps_same None = tt
keeps_same (Some n) = refl

pub read_same : (tells : Bool) (d : DiskState) → WasOnlyRead tells d d
read_same tells d = record { bytes = λ _. refl; told = keeps_same d.told }

keeps_both : (a b c : Option ℕ) → KeepsLength a b → KeepsLength b c → KeepsLength a c
keeps_both None b c p q = tt
keeps_both (Some n) b c p q = subst (λ (o : Option ℕ). KeepsLength o c) p q

pub read_both : (tells : Bool) (a b c : DiskState) → WasOnlyRead tells a b → WasOnlyRead tells b c → WasOnlyRead tells a c
read_both tells a b c p q = record { bytes = λ t. q.bytes t ∙ p.bytes t; told = keeps_both a.told b.told c.told p.told q.told }

pub asked_same : (n : NotaryState) → IsOnlyAsked n n
asked_same n = record { entries = refl; origin = refl }

pub asked_both : (a b c : NotaryState) → IsOnlyAsked a b → IsOnlyAsked b c → IsOnlyAsked a c
asked_both a b c p q = record { entries = q.entries ∙ p.entries; origin = q.origin ∙ p.origin }

-- ---- faults

pub none_none : (x y z : SinkState) → MeetsNone x y → MeetsNone y z → MeetsNone x z
none_none x y z p q = (q.0 ∙ p.0, q.1 ∙ p.1)

none_one : (x y z : SinkState) → MeetsNone x y → MeetsOne y z → MeetsOne x z
none_one x y z p (inl q) = inl (q.0 ∙ ap count_after p.0, q.1 ∙ p.1)
none_one x y z p (inr q) = inr (q.0 ∙ p.0, q.1 ∙ ap count_after p.1)

-- a fault behind none is the only one
behind_none : (disk notary : ℕ → ℕ → Type 0) (sink : SinkState → SinkState → Type 0) (x y z : Handed) → MeetsNothing x y → (sink y.sink z.sink → sink x.sink z.sink) → Meets disk notary sink y z → Meets disk notary sink x z
behind_none disk notary sink x y z p to q = record {
  disk_is = subst (λ (n : ℕ). disk n z.file.faults) p.disk_is q.disk_is;
  notary_is = subst (λ (n : ℕ). notary n z.notary.faults) p.notary_is q.notary_is;
  sink_is = to q.sink_is;
}

pub met_behind : (r : Answer) (x y z : Handed) → MeetsNothing x y → MeetsBy r y z → MeetsBy r x z
met_behind (Ok end) x y z p q = behind_none _ _ _ x y z p (none_none x.sink y.sink z.sink p.sink_is) q
met_behind (Err DiskFault) x y z p q = behind_none _ _ _ x y z p (none_none x.sink y.sink z.sink p.sink_is) q
met_behind (Err NotaryFault) x y z p q = behind_none _ _ _ x y z p (none_none x.sink y.sink z.sink p.sink_is) q
met_behind (Err WriteFault) x y z p q = behind_none _ _ _ x y z p (none_one x.sink y.sink z.sink p.sink_is) q
met_behind (Err (Damaged damage)) x y z p q = behind_none _ _ _ x y z p (none_none x.sink y.sink z.sink p.sink_is) q
met_behind (Err NoMemory) x y z p q = behind_none _ _ _ x y z p (none_none x.sink y.sink z.sink p.sink_is) q

pub met_none : (x : Handed) → MeetsNothing x x
met_none x = record { disk_is = refl; notary_is = refl; sink_is = (refl, refl) }

-- one piece
pub put_met : (r : Answer) (file : DiskState) (notary : NotaryState) (s t : SinkState) → MatchResult r (λ (_ : Unit {0}). MeetsNone s t) (λ e. (e ≡ WriteFault) × MeetsOne s t) → MeetsBy r (handed file notary s) (handed file notary t)
put_met (Ok end) file notary s t m = record { disk_is = refl; notary_is = refl; sink_is = m }
put_met (Err e) file notary s t m =
    subst (λ (x : DumpErr). MeetsCause x (handed file notary s) (handed file notary t)) (sym m.0) (record { disk_is = refl; notary_is = refl; sink_is = m.1 })

-- a piece isn't written whole
pub put_failed : (piece : List ℕ) (e : WriteErr) (s t : SinkState) → WritesFirst s.held t.held piece e → MeetsOne s t → Puts piece (Err WriteFault) s t
put_failed piece (write_err.WriteFault taken) s t first one = record {
  part = take taken piece;
  appended = first.1;
  written = record { rest = drop taken piece; is = sym (take-append-drop taken piece) };
  met = (refl, one);
}

-- ---- writing

module _ (tells : Bool) (book : Kept) (places : List PlaceAt) where
  -- one text is written, and then another
  pub both : (first second : Dump → List ℕ) (r : Answer) (x y z : Handed) → Writes tells book places first done x y → Writes tells book places second r y z → Writes tells book places (λ d. first d ++ second d) r x z
  both first second r x y z a b = record {
    part = a.part ++ b.part;
    appended = Appends-trans x.sink.held y.sink.held z.sink.held a.part b.part a.appended b.appended;
    written = λ t h is.
        let later = subst (λ (s : State). IsReadAs book places s.seen h) (sym (a.read.bytes t)) is in
        let behind = subst (λ (es : List (List ℕ)). IsWritten r b.part (second (ledger_dump h es))) a.asked.entries (b.written t h later) in
        written_both r a.part b.part (first (ledger_dump h x.notary.entries)) (second (ledger_dump h x.notary.entries)) (a.written t h is) behind;
    read = read_both tells x.file y.file z.file a.read b.read;
    asked = asked_both x.notary y.notary z.notary a.asked b.asked;
    met = met_behind r x y z a.met b.met;
  }

  -- one text isn't written whole, and nothing of another
  pub stops : (first second : Dump → List ℕ) (e : DumpErr) (x y : Handed) → Writes tells book places first (Err e) x y → Writes tells book places (λ d. first d ++ second d) (Err e) x y
  stops first second e x y a = record {
    part = a.part;
    appended = a.appended;
    written = λ t h is. written_front a.part (first (ledger_dump h x.notary.entries)) (second (ledger_dump h x.notary.entries)) (a.written t h is);
    read = a.read;
    asked = a.asked;
    met = a.met;
  }

  -- two texts of which the dump has the same bytes
  pub as_text : (first second : Dump → List ℕ) (r : Answer) (x y : Handed)
      → (IsTrue tells → (h : History) → IsReadAs book places x.file.bytes.seen h → first (ledger_dump h x.notary.entries) ≡ second (ledger_dump h x.notary.entries))
      → Writes tells book places first r x y → Writes tells book places second r x y
  as_text first second r x y same a = record {
    part = a.part;
    appended = a.appended;
    written = λ t h is. subst (IsWritten r a.part) (same t h is) (a.written t h is);
    read = a.read;
    asked = a.asked;
    met = a.met;
  }

  -- one piece is written
  pub one_piece : (text : Dump → List ℕ) (piece : List ℕ) (r : Answer) (file : DiskState) (notary : NotaryState) (s t : SinkState)
      → (IsTrue tells → (h : History) → IsReadAs book places file.bytes.seen h → piece ≡ text (ledger_dump h notary.entries))
      → Puts piece r s t → Writes tells book places text r (handed file notary s) (handed file notary t)
  one_piece text piece r file notary s t is put = record {
    part = put.part;
    appended = put.appended;
    written = λ told h read. subst (IsWritten r put.part) (is told h read) put.written;
    read = read_same tells file;
    asked = asked_same notary;
    met = put_met r file notary s t put.met;
  }

  -- nothing is written of a text that is empty
  pub nothing : (text : Dump → List ℕ) (x : Handed) → ((d : Dump) → [] ≡ text d) → Writes tells book places text done x x
  nothing text x empty = record {
    part = [];
    appended = Appends-nil x.sink.held;
    written = λ t h is. empty (ledger_dump h x.notary.entries);
    read = read_same tells x.file;
    asked = asked_same x.notary;
    met = met_none x;
  }

  -- an error comes before anything is written
  pub unwritten : (text : Dump → List ℕ) (e : DumpErr) (file later : DiskState) (notary after : NotaryState) (sink : SinkState)
      → WasOnlyRead tells file later → IsOnlyAsked notary after → MeetsCause e (handed file notary sink) (handed later after sink)
      → Writes tells book places text (Err e) (handed file notary sink) (handed later after sink)
  unwritten text e file later notary after sink read asked met = record {
    part = [];
    appended = Appends-nil sink.held;
    written = λ t h is. record { rest = text (ledger_dump h notary.entries); is = refl };
    read = read;
    asked = asked;
    met = met;
  }

  -- want of memory comes before anything is done
  pub want_of_memory : (text : Dump → List ℕ) (r : Answer) (file : DiskState) (notary : NotaryState) (sink : SinkState)
      → IsErr r × IsErrAnd r (λ e. e ≡ NoMemory) → Writes tells book places text r (handed file notary sink) (handed file notary sink)
  want_of_memory text r file notary sink is =
      let x = handed file notary sink in
      handed_on r NoMemory (λ (a : Answer). Writes tells book places text a x x) is
      (unwritten text NoMemory file file notary notary sink (read_same tells file) (asked_same notary) (met_none x))

  -- the notary answered
  pub ask : (file : DiskState) (old new : NotaryState) (sink : SinkState) → new.entries ≡ old.entries → new.origin ≡ old.origin → new.faults ≡ old.faults
      → Writes tells book places (λ d. []) done (handed file old sink) (handed file new sink)
  ask file old new sink entries origin faults = record {
    part = [];
    appended = Appends-nil sink.held;
    written = λ t h is. refl;
    read = read_same tells file;
    asked = record { entries = entries; origin = origin };
    met = record { disk_is = refl; notary_is = faults; sink_is = (refl, refl) };
  }

  -- the notary failed
  pub notary_failed : (T : Type 0) (text : Dump → List ℕ) (file : DiskState) (old new : NotaryState) (sink : SinkState) (e : NotaryErr)
      → e ≡ Failed → new.entries ≡ old.entries → new.origin ≡ old.origin → CountsFailures {T = T} (Err e) old.faults new.faults
      → Writes tells book places text (Err NotaryFault) (handed file old sink) (handed file new sink)
  notary_failed T text file old new sink e is entries origin faults =
      let counted : CountsFailures {T = T} (Err Failed) old.faults new.faults = subst (λ (x : NotaryErr). CountsFailures {T = T} (Err x) old.faults new.faults) is faults in
      unwritten text NotaryFault file file old new sink (read_same tells file) (record { entries = entries; origin = origin })
      (record { disk_is = refl; notary_is = counted; sink_is = (refl, refl) })

  -- one more of many texts is written
  pub one_more : (first one : ℕ → Dump → List ℕ) → ((k : ℕ) (d : Dump) → first k d ++ one k d ≡ first (k + 1) d)
      → (k : ℕ) (x y z : Handed) → Writes tells book places (first k) done x y → Writes tells book places (one k) done y z → Writes tells book places (first (k + 1)) done x z
  one_more first one next k x y z a b =
      as_text (λ d. first k d ++ one k d) (first (k + 1)) done x z (λ t h is. next k (ledger_dump h x.notary.entries)) (both (first k) (one k) done x y z a b)

  -- one of many texts isn't written whole, and nothing of those behind it
  pub one_fails : (first one behind : ℕ → Dump → List ℕ) (all : Dump → List ℕ) → ((k : ℕ) (d : Dump) → (first k d ++ one k d) ++ behind (k + 1) d ≡ all d)
      → (k : ℕ) (e : DumpErr) (x y z : Handed) → Writes tells book places (first k) done x y → Writes tells book places (one k) (Err e) y z → Writes tells book places all (Err e) x z
  one_fails first one behind all split k e x y z a b =
      as_text (λ d. (first k d ++ one k d) ++ behind (k + 1) d) all (Err e) x z (λ t h is. split k (ledger_dump h x.notary.entries))
      (stops (λ d. first k d ++ one k d) (behind (k + 1)) e x z (both (first k) (one k) (Err e) x y z a b))

  -- the disk was read
  pub only_read : (old new : DiskState) (notary : NotaryState) (sink : SinkState) → WasOnlyRead tells old new → new.faults ≡ old.faults
      → Writes tells book places (λ d. []) done (handed old notary sink) (handed new notary sink)
  only_read old new notary sink read faults = record {
    part = [];
    appended = Appends-nil sink.held;
    written = λ t h is. refl;
    read = read;
    asked = asked_same notary;
    met = record { disk_is = faults; notary_is = refl; sink_is = (refl, refl) };
  }
