-- What is read of a journal is what its ledger shows of it.
use Rattle.std.specs.Prelude.{◌≤◌, ◌<◌, ◌-◌, if◌then◌else◌, nat_le, nat_lt, slice_get, map, All, IfErr, IsTrue}
use Rattle.std.specs.List.{flat_map}
use Rattle.std.specs.Io.KnownBytes.{Appends}
use Rattle.std.proofs.Common.{◌≡◌, ◌≢◌, inl, inr, ℕ, zero, suc, ◌+◌, Bool, true, false, cond, List, [], ◌∷◌, ◌++◌, take, length, Option, Some, None, Ok, Err, refl, sym, ◌∙◌, ap, ap₂, subst, arith}
use Rattle.std.proofs.KnownBytes.{Appends-trans}
use Rattle.std.proofs.Math.Seq.{take-add}
use Rattle.std.proofs.lemmas.Bool.{lt-leb}
use Rattle.std.proofs.lemmas.List.{length-map, take_all}
use Rattle.std.proofs.lemmas.List.Elements.{All-append, All-cons, All-nil}
use Rattle.std.proofs.lemmas.Option.{none-some}
use Rattle.block_file.specs.declared.failure.Damage.{Damage}
use Rattle.block_file.specs.declared.place.PlaceAt.{PlaceAt}
use Rattle.journal_record.specs.Entry.{Entry, content_digest_of, who_digest_of}
use Rattle.journal_record.specs.Items.{Item, item_text}
use Rattle.journal_record.specs.declared.header.Header.{Header}
use Rattle.ledger_book.specs.Books.{Kept, headers}
use Rattle.ledger_disk.specs.Disk.{DiskState}
use Rattle.ledger_io.specs.Outside.{SinkState}
use Rattle.ledger_model.specs.History.{History, journals, size, point}
use Rattle.ledger_model.specs.Outcomes.{view}
use Rattle.ledger_model.specs.Targets.{is_hidden}
use Rattle.ledger_model.specs.declared.view.View.{View}
use Rattle.ledger_model.specs.declared.view.View.TheVariants.{Absent, Purged, Occulted, Whole}
use Rattle.ledger_open.specs.Pieces.{IsReadAs}
use Rattle.ledger_open.specs.Places.{entry_at}
use Rattle.ledger_open.proofs.PieceLaws.{get_drop, journal_at, none_there, IsJournalAt}
use Rattle.time_peg.specs.Entries.{NotaryState}
use Rattle.dump_model.specs.Shown.{shown}
use Rattle.dump_export.specs.Damages.{shown_journals, IsShownWhole, IsOtherPart, IsDamageOf, IsWholeIn}
use Rattle.dump_export.specs.Exports.{Handed, handed, done, IsBookOf, Writes, shown_item, DamagesOf, DamagesAt, IsShownText, IsUndamaged, MeetsCause, ReadEnds, TellsDamage, TellsOneDamage}
use Rattle.dump_export.specs.Texts.{first_journals}
use Rattle.dump_export.specs.declared.failure.DumpErr.{DumpErr}
use Rattle.dump_export.specs.declared.failure.DumpErr.TheVariants.{DiskFault, NotaryFault, WriteFault, Damaged, NoMemory}
use Rattle.dump_export.proofs.Exporting.{Answer}
use Rattle.dump_export.proofs.Texts.{count_is, items_are, one_at}

-- ---- whether it is hidden

pub occulted_hides : (h : History) (n : ℕ) → Occulted ≡ view h n → true ≡ is_hidden h n
unfolding view
occulted_hides h n is = by_tests (nat_le (size h) n) (nat_lt n (point h)) (is_hidden h n) is where
  by_tests : (absent purged hidden : Bool) → Occulted ≡ cond absent Absent (cond purged (Purged (point h)) (cond hidden Occulted Whole)) → true ≡ hidden
  by_tests true purged hidden e = absurd cc
  by_tests false true hidden e = absurd cc
  by_tests false false true e = refl
  by_tests false false false e = absurd cc

pub others_show : (h : History) (n : ℕ) (v : View) → point h ≤ n → n < size h → v ≡ view h n → v ≢ Occulted → false ≡ is_hidden h n
unfolding view
others_show h n v low high is other = by_hidden (is_hidden h n) shows where
  not_below : (m p : ℕ) → p ≤ m → nat_lt m p ≡ false
  not_below m p le = lt-leb (suc m) p (omega (arith, le))

  shows : v ≡ cond (is_hidden h n) Occulted Whole
  shows =
      is ∙ ap (λ (b : Bool). cond b Absent (cond (nat_lt n (point h)) (Purged (point h)) (cond (is_hidden h n) Occulted Whole))) (lt-leb (size h) n high)
      ∙ ap (λ (b : Bool). cond b (Purged (point h)) (cond (is_hidden h n) Occulted Whole)) (not_below n (point h) low)

  by_hidden : (hidden : Bool) → v ≡ cond hidden Occulted Whole → false ≡ hidden
  by_hidden true e = absurd (other e)
  by_hidden false e = refl

-- ---- the parts that stand in the file

same_entry : (e f : Entry) → f.header ≡ e.header → f.who ≡ e.who → f.content ≡ e.content → f ≡ e
same_entry e f header who content =
    ap (λ (x : Header). record { header = x; content = f.content; who = f.who }) header
    ∙ ap₂ (λ (x y : List ℕ). record { header = e.header; content = x; who = y }) content who

module _ (e f : Entry) (header : f.header ≡ e.header) (who : f.who ≡ e.who) where
  same_item : (hidden : Bool) → (hidden ≡ false → f.content ≡ e.content) → shown_item hidden f ≡ shown_item hidden e
  same_item true content = ap₂ (λ (x : Header) (y : List ℕ). record { header = x; body = None; who = y }) header who
  same_item false content = ap (shown_item false) (same_entry e f header who (content refl))

  same_whole : (hidden : Bool) → (hidden ≡ false → f.content ≡ e.content) → IsShownWhole hidden f → IsShownWhole hidden e
  same_whole hidden content whole = record {
    content = λ shows. ap content_digest_of (sym (content shows)) ∙ whole.content shows ∙ ap (λ (x : Header). x.content_digest.0) header;
    who = ap who_digest_of (sym who) ∙ whole.who ∙ ap (λ (x : Header). x.who_digest.0) header;
  }

  same_damage : (hidden : Bool) → (hidden ≡ false → f.content ≡ e.content) → (damage : Damage) → IsDamageOf hidden f damage → IsDamageOf hidden e damage
  same_damage false content damage of = subst (λ (x : Entry). IsDamageOf false x damage) (same_entry e f header who (content refl)) of
  same_damage true content damage (inl of) = absurd cc
  same_damage true content damage (inr of) = inr (
    λ shows. absurd cc,
    subst (λ (x : List ℕ). IsOtherPart e.header.jsn e.header.who_digest (who_digest_of x) damage) who
        (subst (λ (x : Header). IsOtherPart x.jsn x.who_digest (who_digest_of f.who) damage) header of.1),
  )

  same_damages : (hidden : Bool) → (hidden ≡ false → f.content ≡ e.content) → (end : DumpErr) → DamagesOf hidden f end → DamagesOf hidden e end
  same_damages hidden content DiskFault of = tt
  same_damages hidden content NotaryFault of = tt
  same_damages hidden content WriteFault of = tt
  same_damages hidden content (Damaged damage) of = same_damage hidden content damage of
  same_damages hidden content NoMemory of = tt

-- an element is there
none_within : (es : List Entry) (n : ℕ) → n < length es → (let none : Option Entry = None in slice_get es n ≡ none) → ⊥
none_within [] n within gone = absurd (omega (arith, within))
none_within (e ∷ es) zero within gone = none-some e (sym gone)
none_within (e ∷ es) (suc n) within gone = none_within es n (omega (arith, within)) gone

module _ (image : List ℕ) (h : History) (book : Kept) (places : List PlaceAt) (r : IsReadAs book places image h) (n : ℕ) (low : book.floor ≤ n) where
  -- a place is told of each journal
  pub place_told : n < book.size → (let none : Option PlaceAt = None in none ≡ (if nat_le book.floor n then slice_get places (n - book.floor) else None)) → ⊥
  place_told high told =
      let none : Option Entry = None in
      let gone : slice_get (journals h) n ≡ none = none_there image h book places r n low told in
      let within : n < length (journals h) = omega (arith, high, r.ends.serves.stands.counts.size) in
      absurd (none_within (journals h) n within gone)

  module _ (header : Header) (p : PlaceAt)
      (told : Some header ≡ (if nat_le book.floor n then slice_get (headers h) n else None))
      (found : Some p ≡ (if nat_le book.floor n then slice_get places (n - book.floor) else None))
      (hidden : Bool) (hides : hidden ≡ is_hidden h n) where
    here : IsJournalAt image h n header p
    here = journal_at image h book places r n header p low told found

    hides_it : hidden ≡ is_hidden h here.e.header.jsn
    hides_it = hides ∙ ap (is_hidden h) (sym here.number)

    content_is : hidden ≡ false → (entry_at image header p).content ≡ here.e.content
    content_is shows = here.kept.shown (sym hides_it ∙ shows)

    pub text_told : (bytes : List ℕ) → bytes ≡ item_text (shown_item hidden (entry_at image header p)) → IsShownWhole hidden (entry_at image header p) → IsShownText h n bytes
    text_told bytes is whole = record {
      e = here.e;
      there = here.there;
      whole = subst (λ (v : Bool). IsShownWhole v here.e) hides_it (same_whole here.e (entry_at image header p) here.header_is here.kept.who hidden content_is whole);
      bytes_are =
          is ∙ ap item_text (same_item here.e (entry_at image header p) here.header_is here.kept.who hidden content_is)
          ∙ ap (λ (v : Bool). item_text (shown_item v here.e)) hides_it;
    }

    pub damages_told : (end : DumpErr) → DamagesOf hidden (entry_at image header p) end → DamagesAt h n end
    damages_told end of = record {
      e = here.e;
      there = here.there;
      damages = subst (λ (v : Bool). DamagesOf v here.e end) hides_it (same_damages here.e (entry_at image header p) here.header_is here.kept.who hidden content_is end of);
    }

-- ---- the faults of reading

pub read_met : (e : DumpErr) (old new : DiskState) (notary : NotaryState) (sink : SinkState) → ReadEnds e old.faults new.faults → MeetsCause e (handed old notary sink) (handed new notary sink)
read_met DiskFault old new notary sink ends = record { disk_is = ends; notary_is = refl; sink_is = (refl, refl) }
read_met NotaryFault old new notary sink ends = absurd ends
read_met WriteFault old new notary sink ends = absurd ends
read_met (Damaged damage) old new notary sink ends = record { disk_is = ends; notary_is = refl; sink_is = (refl, refl) }
read_met NoMemory old new notary sink ends = record { disk_is = ends; notary_is = refl; sink_is = (refl, refl) }

-- ---- damages of journals that are shown

-- a journal is one of those that are shown
pub shown_there : (h : History) (floor n : ℕ) (e : Entry) → floor ≡ point h → floor ≤ n → slice_get (journals h) n ≡ Some e → slice_get (shown_journals h) (n - floor) ≡ Some e
shown_there h floor n e at low is =
    ap (λ (p : ℕ). slice_get (shown_journals h) (n - p)) at ∙ get_drop (point h) n (journals h) (omega (arith, at, low)) ∙ is

-- nothing is written of a journal that isn't read
pub one_unread : (h : History) (floor n : ℕ) (e : DumpErr) (sink : SinkState) → floor ≡ point h → floor ≤ n → DamagesAt h n e → TellsOneDamage h (n - floor) (Err e) sink sink
one_unread h floor n DiskFault sink at low d = tt
one_unread h floor n NotaryFault sink at low d = tt
one_unread h floor n WriteFault sink at low d = tt
one_unread h floor n (Damaged damage) sink at low d = (d.e, shown_there h floor n d.e at low d.there, d.damages, refl)
one_unread h floor n NoMemory sink at low d = tt

-- one whole journal more
pub whole_more : (h : History) (k : ℕ) (e : Entry) → All (IsWholeIn h) (take k (shown_journals h)) → slice_get (shown_journals h) k ≡ Some e → IsWholeIn h e → All (IsWholeIn h) (take (k + 1) (shown_journals h))
whole_more h k e all there whole =
    subst (All (IsWholeIn h)) (sym (take-add k 1 (shown_journals h) ∙ ap (λ (l : List Entry). take k (shown_journals h) ++ l) (one_at (shown_journals h) k e there)))
    (All-append (IsWholeIn h) (take k (shown_journals h)) (e ∷ []) all (All-cons (IsWholeIn h) e [] whole (All-nil (IsWholeIn h))))

-- the damage of one is that of the first, where those in front of it are whole and were written
pub first_told : (h : History) (k : ℕ) (e : DumpErr) (x y z : SinkState) → All (IsWholeIn h) (take k (shown_journals h))
    → Appends x.held y.held (flat_map item_text (take k (map (shown h) (shown_journals h)))) → TellsOneDamage h k (Err e) y z → TellsDamage [] h (Err e) x z
first_told h k DiskFault x y z all appended one = tt
first_told h k NotaryFault x y z all appended one = tt
first_told h k WriteFault x y z all appended one = tt
first_told h k (Damaged damage) x y z all appended one = record {
  index = k;
  e = one.0;
  there = one.1;
  first = all;
  other = one.2;
  appended = subst (λ (s : SinkState). Appends x.held s.held (flat_map item_text (take k (map (shown h) (shown_journals h))))) (sym one.3) appended;
}
first_told h k NoMemory x y z all appended one = tt

-- what is told of damages once something else was written in front
pub told_behind : (front : List ℕ) (h : History) (r : Answer) (x y z : SinkState) → Appends x.held y.held front → TellsDamage [] h r y z → TellsDamage front h r x z
told_behind front h (Ok end) x y z appended told = told
told_behind front h (Err DiskFault) x y z appended told = tt
told_behind front h (Err NotaryFault) x y z appended told = tt
told_behind front h (Err WriteFault) x y z appended told = tt
told_behind front h (Err (Damaged damage)) x y z appended told = record {
  index = told.index;
  e = told.e;
  there = told.there;
  first = told.first;
  other = told.other;
  appended = Appends-trans x.held y.held z.held front _ appended told.appended;
}
told_behind front h (Err NoMemory) x y z appended told = tt

-- an error that is no damage tells nothing of one
pub undamaged_tells : (front : List ℕ) (h : History) (e : DumpErr) (x z : SinkState) → IsUndamaged e → TellsDamage front h (Err e) x z
undamaged_tells front h DiskFault x z free = tt
undamaged_tells front h NotaryFault x z free = tt
undamaged_tells front h WriteFault x z free = tt
undamaged_tells front h (Damaged damage) x z free = absurd free
undamaged_tells front h NoMemory x z free = tt

-- all were whole, and then something else was written
pub whole_tells : (front : List ℕ) (h : History) (r : Answer) (x z : SinkState) → All (IsWholeIn h) (shown_journals h) → IfErr r IsUndamaged → TellsDamage front h r x z
whole_tells front h (Ok end) x z all only = all
whole_tells front h (Err e) x z all only = undamaged_tells front h e x z only

-- ---- the first journals

-- a notary with an empty list
pub no_notary : NotaryState
no_notary = record { origin = record { making = None; faults = 0 }; entries = []; faults = 0 }

-- what was appended where the first journals were written
pub first_appended : (tells : Bool) (book : Kept) (places : List PlaceAt) (k : ℕ) (x y : Handed) → Writes tells book places (first_journals k) done x y
    → IsTrue tells → (h : History) → IsReadAs book places x.file.bytes.seen h → Appends x.sink.held y.sink.held (flat_map item_text (take k (map (shown h) (shown_journals h))))
first_appended tells book places k x y w t h r =
    subst (Appends x.sink.held y.sink.held) (w.written t h r ∙ ap (λ (l : List Item). flat_map item_text (take k l)) (items_are h x.notary.entries)) w.appended

-- all that are shown are among so many
pub whole_all : (book : Kept) (h : History) (k : ℕ) → IsBookOf book h → book.size - book.floor ≤ k → All (IsWholeIn h) (take k (shown_journals h)) → All (IsWholeIn h) (shown_journals h)
whole_all book h k of many all =
    let le : length (shown_journals h) ≤ k = omega (arith, many, count_is book h [] of, ap length (items_are h []), length-map (shown_journals h) (shown h)) in
    subst (All (IsWholeIn h)) (take_all k (shown_journals h) le) all
