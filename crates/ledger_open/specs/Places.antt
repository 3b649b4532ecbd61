-- Where journals stand in a file.
use Rattle.std.specs.Prelude.{◌≡◌, ℕ, ◌+◌, ◌≤◌, Bool, List, [], ◌∷◌, length, take, drop, ⊤}
use Rattle.block_file.specs.Places.{places_at}
use Rattle.journal_record.specs.Entry.{Entry}
use Rattle.journal_record.specs.declared.header.Header.{Header}
use Rattle.ledger_model.specs.History.{History, journals, journals_of}
use Rattle.ledger_open.specs.Standing.{Floor, floor_behind, IsKept, StandsBy}
use Rattle.block_file.specs.declared.place.PlaceAt.{PlaceAt}
use Rattle.ledger_model.specs.Targets.{is_hidden}

-- the places of journals, and how many more there is room for
pub record PlaceList : Type 0 where
  pub list : List PlaceAt
  pub spare : ℕ

-- the contents at these places stand one behind the other between two offsets
abbrev pub AreInOrder : ℕ → ℕ → List PlaceAt → Type 0
AreInOrder from to [] = from ≤ to
AreInOrder from to (p ∷ places) = (from ≤ p.content_at) × AreInOrder (p.content_at + p.content_len) to places

-- the journal with this header, whose content and who are what stands in a file at this place
abbrev pub entry_at : List ℕ → Header → PlaceAt → Entry
entry_at file header place =
    record {
      header = header;
      content = take place.content_len (drop place.content_at file);
      who = take place.who_len (drop place.who_at file);
    }

-- At these places in a file stands what is kept of these journals, each at its own: its content, unless that is
-- hidden, and its who; and zeros where the content is gone.
abbrev pub AllAt : (ℕ → Bool) → (ℕ → Bool) → List ℕ → List Entry → List PlaceAt → Type 0
AllAt hid gone file [] [] = ⊤
AllAt hid gone file (e ∷ es) (p ∷ ps) =
    IsKept hid gone e (entry_at file e.header p) × AllAt hid gone file es ps
AllAt hid gone file _ _ = ⊥

-- the places of the journals of these blocks in a file that has them and begins at this floor
abbrev pub places_from : Floor → List (List Entry) → List PlaceAt
places_from floor blocks = places_at (64 + length floor.base) blocks

-- At its place stands each journal that a file has of a history, but for contents that are hidden, and zeros where they are
-- gone (`journals_stand_at_their_places`).
abbrev pub AreAtPlaces : Type 0
AreAtPlaces =
    (floor : ℕ) (zeros : ℕ → Bool) (image : List ℕ) (h : History) (x : StandsBy floor zeros image h)
    → AllAt (is_hidden h) zeros image (journals_of x.parts.kept) (places_from (floor_behind h x.parts.gone) x.parts.kept)

-- the journals that a file has of a history are all those from its floor on
abbrev pub AreAllThere : Type 0
AreAllThere =
    (floor : ℕ) (zeros : ℕ → Bool) (image : List ℕ) (h : History) (x : StandsBy floor zeros image h)
    → journals_of x.parts.kept ≡ drop floor (journals h)
