-- What is kept of a history, and why it isn't.
use Rattle.std.specs.Prelude.{◌≡◌, ℕ, ◌/◌, ◌<◌, length, nat_le, nat_lt, Bool, if◌then◌else◌, List, [], ◌∷◌, ◌++◌, map, drop, slice_get, All, Option, Some, None, option_map, Result, Ok, Err, ⊤}
use Rattle.std.specs.Option.{option_or}
use Rattle.block_file.specs.declared.failure.Damage.TheVariants.{Content}
use Rattle.dump_export.specs.declared.failure.DumpErr.{DumpErr}
use Rattle.dump_export.specs.declared.failure.DumpErr.TheVariants as dump_err
use Rattle.dump_model.specs.Shown.{shown}
use Rattle.journal_record.specs.Entry.{Entry}
use Rattle.journal_record.specs.Items.{IsItem}
use Rattle.ledger_book.specs.Books.{Kept, Stands}
use Rattle.ledger_bytes.specs.Causes.{count_after}
use Rattle.ledger_bytes.specs.Digests.{digest}
use Rattle.ledger_bytes.specs.declared.refusal.Refusal.{Refusal}
use Rattle.ledger_bytes.specs.declared.refusal.Refusal.TheVariants.{NoJournal, Purged, Damaged}
use Rattle.ledger_model.specs.Getting.{content_damage, who_damage}
use Rattle.ledger_model.specs.History.{History, journals, id, size, point, root}
use Rattle.ledger_model.specs.Targets.{is_hidden}
use Rattle.survivor_set.specs.Outcomes.{path_below, time_refusal}
use Rattle.survivor_set.specs.Reading.{set_of}
use Rattle.survivor_set.specs.Sets.{Saved, SavedSet, saved_text, survivors_text, set_text}
use Rattle.survivor_set.specs.declared.failure.SetErr.{SetErr}
use Rattle.survivor_set.specs.declared.failure.SetErr.TheVariants.{Refused, Bad, NotBelow, OtherLedger, LeafPath, DiskFault, NoMemory}

-- ---- the set of some journals at a point

-- a survivor is journal n as its ledger shows it, without its content where that is hidden, with its path under the root over the
-- journals in front of the point
pub record IsKeptAt (h : History) (p n : ℕ) (x : Saved) : Type 0 where
  pub e : Entry
  pub there : slice_get (journals h) n ≡ Some e
  pub item_is : x.item ≡ shown h e
  pub path_is : x.path ≡ path_below h p n

-- survivors are the journals with these numbers, one for each
abbrev pub AreKept : History → ℕ → List ℕ → List Saved → Type 0
AreKept h p [] [] = ⊤
AreKept h p [] (x ∷ xs) = ⊥
AreKept h p (n ∷ ns) [] = ⊥
AreKept h p (n ∷ ns) (x ∷ xs) = IsKeptAt h p n x × AreKept h p ns xs

-- A set is that of the journals with these numbers at a point.
-- Example: of a history of six journals the set of journal 2 at the time journal 3 has the root over journals 0 to 2, and the path of
-- journal 2 under it: the root over journals 0 and 1.
pub record IsSetOf (h : History) (p : ℕ) (ns : List ℕ) (s : SavedSet) : Type 0 where
  pub id_is : s.id ≡ digest (id h)
  pub point_is : s.point ≡ p
  pub root_is : s.root ≡ digest (root h p)
  pub are : AreKept h p ns s.survivors

-- all journals that the ledger shows can stand in a set: their headers keep their rules, and what is shown of their parts has the
-- length that there may be
abbrev pub AreShowable : History → Type 0
AreShowable h = All IsItem (map (shown h) (drop (point h) (journals h)))

-- ---- why it isn't made

-- nothing is kept in front of journal p, since there is no such journal, it was purged, or it tells no time
unfoldable pub point_refusal : History → ℕ → Option SetErr
point_refusal h p =
    if nat_le (size h) p then Some (Refused (NoJournal (size h)))
    else if nat_lt p (point h) then Some (Refused (Purged (point h)))
    else time_refusal (slice_get (journals h) p)

-- journal n isn't kept in front of journal p, by its number: it was purged, or it isn't below that
unfoldable pub place_refusal : History → ℕ → ℕ → Option SetErr
place_refusal h p n =
    if nat_lt n (point h) then Some (Refused (Purged (point h)))
    else if nat_le p n then Some (NotBelow p)
    else None

-- a part of a journal has another digest than its header names: its content, unless that is hidden, or its who
abbrev pub damage_of : Bool → Entry → Option Refusal
damage_of hidden e = option_or (if hidden then None else content_damage e.header e.content) (who_damage e.header e.who)

-- a journal, where there is one, is damaged as its ledger shows it
abbrev pub journal_refusal : History → Option Entry → Option SetErr
journal_refusal h None = None
journal_refusal h (Some e) = option_map Refused (damage_of (is_hidden h e.header.jsn) e)

-- why journal n isn't kept in front of journal p
abbrev pub number_refusal : History → ℕ → ℕ → Option SetErr
number_refusal h p n = option_or (place_refusal h p n) (journal_refusal h (slice_get (journals h) n))

-- why the first isn't kept of those that aren't
abbrev pub numbers_refusal : History → ℕ → List ℕ → Option SetErr
numbers_refusal h p [] = None
numbers_refusal h p (n ∷ ns) = option_or (number_refusal h p n) (numbers_refusal h p ns)

-- why a set isn't made: the point is judged first, and then number by number
abbrev pub keep_refusal : History → ℕ → List ℕ → Option SetErr
keep_refusal h p ns = option_or (point_refusal h p) (numbers_refusal h p ns)

-- ---- what is answered

-- A call that reads a disk ends with an error: that of a refusal; or the disk failed, or memory was short, which may come before
-- all is judged.
abbrev pub StopsBy : Option SetErr → SetErr → Type 0
StopsBy why (Refused refusal) = why ≡ Some (Refused refusal)
StopsBy why (Bad bad) = ⊥
StopsBy why (NotBelow p) = why ≡ Some (NotBelow p)
StopsBy why (OtherLedger kept) = ⊥
StopsBy why LeafPath = ⊥
StopsBy why DiskFault = ⊤
StopsBy why NoMemory = ⊤

-- what comes of keeping journal n: it was added, where nothing refuses it
abbrev pub KeepsOne : History → ℕ → ℕ → Result (Unit {0}) SetErr → List ℕ → List ℕ → Type 0
KeepsOne h p n (Ok done) old new = (number_refusal h p n ≡ None) × (x : Saved) × IsKeptAt h p n x × (new ≡ old ++ saved_text x)
KeepsOne h p n (Err e) old new = StopsBy (number_refusal h p n) e

-- what comes of keeping the journals with these numbers
abbrev pub KeepsAll : History → ℕ → List ℕ → Result (Unit {0}) SetErr → List ℕ → List ℕ → Type 0
KeepsAll h p ns (Ok done) old new = (numbers_refusal h p ns ≡ None) × (xs : List Saved) × AreKept h p ns xs × (new ≡ old ++ survivors_text xs)
KeepsAll h p ns (Err e) old new = StopsBy (numbers_refusal h p ns) e

-- what comes of keeping the journals with these numbers at a point: the bytes of their set, which is read back from them, where nothing
-- refuses it
abbrev pub KeepsSet : History → ℕ → List ℕ → Result (List ℕ) SetErr → Type 0
KeepsSet h p ns (Ok bytes) = (keep_refusal h p ns ≡ None) × (s : SavedSet) × IsSetOf h p ns s × (bytes ≡ set_text s) × (set_of bytes ≡ Ok s)
KeepsSet h p ns (Err e) = StopsBy (keep_refusal h p ns) e

-- the disk's count of faults rises by one exactly where its failure is answered; at the end of its type it stays
abbrev pub CountsDisk : {A : Type 0} → Result A SetErr → ℕ → ℕ → Type 0
CountsDisk (Ok x) before now = now ≡ before
CountsDisk (Err (Refused why)) before now = now ≡ before
CountsDisk (Err (Bad bad)) before now = now ≡ before
CountsDisk (Err (NotBelow p)) before now = now ≡ before
CountsDisk (Err (OtherLedger kept)) before now = now ≡ before
CountsDisk (Err LeafPath) before now = now ≡ before
CountsDisk (Err DiskFault) before now = now ≡ count_after before
CountsDisk (Err NoMemory) before now = now ≡ before

-- an error that is no failure of a disk
abbrev pub IsDiskless : SetErr → Type 0
IsDiskless (Refused why) = ⊤
IsDiskless (Bad bad) = ⊤
IsDiskless (NotBelow p) = ⊤
IsDiskless (OtherLedger kept) = ⊤
IsDiskless LeafPath = ⊤
IsDiskless DiskFault = ⊥
IsDiskless NoMemory = ⊤

-- numbers stand in ascending order, each above the last
abbrev pub AreAscending : List ℕ → Type 0
AreAscending [] = ⊤
AreAscending (n ∷ []) = ⊤
AreAscending (n ∷ m ∷ ns) = (n < m) × AreAscending (m ∷ ns)

-- why a journal isn't read, where the ledger has so many; in one that was opened there is no other damage than that of a part
abbrev pub of_dump : ℕ → DumpErr → SetErr
of_dump size dump_err.DiskFault = DiskFault
of_dump size dump_err.NotaryFault = Refused (NoJournal size)
of_dump size dump_err.WriteFault = Refused (NoJournal size)
of_dump size (dump_err.Damaged (Content jsn kept found)) = Refused (Damaged kept found)
of_dump size (dump_err.Damaged other) = Refused (NoJournal size)
of_dump size dump_err.NoMemory = NoMemory

-- A journal was added that is spelled so, with its path under the root over the first p journals of each history that the book stands
-- for; or memory was short.
abbrev pub PutsKept : Kept → ℕ → ℕ → List ℕ → Result (Unit {0}) SetErr → List ℕ → List ℕ → Type 0
PutsKept book p n item (Ok done) old new =
    (h : History) → Stands book h → new ≡ old ++ (item ++ (length (path_below h p n) / 32 ∷ path_below h p n))
PutsKept book p n item (Err (Refused why)) old new = (h : History) → Stands book h → ⊥
PutsKept book p n item (Err (Bad bad)) old new = ⊥
PutsKept book p n item (Err (NotBelow q)) old new = ⊥
PutsKept book p n item (Err (OtherLedger kept)) old new = ⊥
PutsKept book p n item (Err LeafPath) old new = ⊥
PutsKept book p n item (Err DiskFault) old new = ⊥
PutsKept book p n item (Err NoMemory) old new = ⊤
