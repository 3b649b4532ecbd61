-- How the contents that the last journal hides are given up.
use Rattle.std.specs.List.{Contains}
use Rattle.std.specs.Prelude.{◌≡◌, ◌⊎◌, ℕ, ◌+◌, ◌-◌, ◌≤◌, ◌&&◌, if◌then◌else◌, All, List, [], ◌∷◌, Bool, false, not, length, map, take, drop, get_or, nat_le, replicate}
use Rattle.block_file.specs.File.{IsSettled}
use Rattle.journal_record.specs.Entry.{Entry}
use Rattle.ledger_book.specs.Books.{Kept, Serves}
use Rattle.ledger_disk.specs.Disk.{State, MayLeave, overlay, settled_state}
use Rattle.ledger_disk.specs.Guards.{Outside}
use Rattle.ledger_model.specs.History.{History, point}
use Rattle.ledger_model.specs.Targets.{is_hidden}
use Rattle.ledger_open.specs.Places.{places_from}
use Rattle.ledger_open.specs.Standing.{Floor, floor_behind, hidden_before, point_before, Parts, AreZeros, StandsBy, StandsFor, IsErased}
use Rattle.block_file.specs.declared.place.PlaceAt.{PlaceAt}

-- ---- contents in a file

-- each content at these places ends here or before
abbrev pub AllInside : ℕ → List PlaceAt → Type 0
AllInside end places = All (λ p. p.content_at + p.content_len ≤ end) places

-- each content at these places stands between two bounds
abbrev pub AreBetween : ℕ → ℕ → List PlaceAt → Type 0
AreBetween low high places = All (λ p. (low ≤ p.content_at) × (p.content_at + p.content_len ≤ high)) places

-- where the content of journal n stands in a file that has these blocks and begins at this floor
abbrev pub content_place : Floor → List (List Entry) → ℕ → ℕ
content_place floor blocks n = get_or (map (λ p. p.content_at) (places_from floor blocks)) (n - floor.first) 0

-- how long the content of journal n is in a file that has these blocks and begins at this floor
abbrev pub content_size : Floor → List (List Entry) → ℕ → ℕ
content_size floor blocks n = get_or (map (λ p. p.content_len) (places_from floor blocks)) (n - floor.first) 0

-- a file reads as one that stands for a history, but for the bytes of the content of journal n
abbrev pub IsOutsideOf : {floor : ℕ} {zeros : ℕ → Bool} {image : List ℕ} {h : History} → StandsBy floor zeros image h → ℕ → List ℕ → Type 0
IsOutsideOf {image = image} {h = h} file n new =
    Outside (content_place (floor_behind h file.parts.gone) file.parts.kept n) (content_size (floor_behind h file.parts.gone) file.parts.kept n) image new

-- zeros stand in a file where one that stands for a history has the content of journal n
abbrev pub IsZeroedIn : {floor : ℕ} {zeros : ℕ → Bool} {image : List ℕ} {h : History} → StandsBy floor zeros image h → ℕ → List ℕ → Type 0
IsZeroedIn {h = h} file n new =
    AreZeros (take (content_size (floor_behind h file.parts.gone) file.parts.kept n) (drop (content_place (floor_behind h file.parts.gone) file.parts.kept n) new))

-- a file with zeros in place of the contents at these places, one after the other
abbrev pub with_zeros : List PlaceAt → List ℕ → List ℕ
with_zeros [] file = file
with_zeros (p ∷ places) file = with_zeros places (overlay p.content_at (replicate p.content_len 0) file)

-- ---- the contents that the last journal hides

-- whether the content of journal n is given up: no purge took it, the last journal of the history hides it, and none before
-- that does
abbrev pub is_given_up : History → ℕ → Bool
is_given_up h n = nat_le (point h) n && (is_hidden h n && not (hidden_before h n))

-- of the places of journals from this number on, those of journals whose numbers are such
abbrev pub places_of : (ℕ → Bool) → ℕ → List PlaceAt → List PlaceAt
places_of is first [] = []
places_of is first (p ∷ places) =
    if is first then p ∷ places_of is (first + 1) places else places_of is (first + 1) places

-- a file that begins at this floor and has these blocks of a history, with zeros in place of each content that is given up
abbrev pub given_up : History → Floor → List (List Entry) → List ℕ → List ℕ
given_up h floor blocks file = with_zeros (places_of (is_given_up h) floor.first (places_from floor blocks)) file

-- the same of a file that stands for a history
abbrev pub given_up_in : {floor : ℕ} {zeros : ℕ → Bool} {image : List ℕ} {h : History} → StandsBy floor zeros image h → List ℕ → List ℕ
given_up_in {h = h} stands file = given_up h (floor_behind h stands.parts.gone) stands.parts.kept file

-- ---- a ledger in memory

-- The book and the places are those of this history, none of whose journals waits, in a file that begins where the book
-- does: at the point, or at the point before the last journal.
pub record EndsAs (book : Kept) (places : List PlaceAt) (h : History) : Type 0 where
  pub serves : Serves book h
  pub begins : (book.floor ≡ point h) ⊎ (book.floor ≡ point_before h)
  pub parts : Parts book.floor h
  pub places_are : places ≡ places_from (floor_behind h parts.gone) parts.kept
  pub none : h.waiting ≡ []

-- The book and the places are those of this history, none of whose journals waits, in a file that begins where the book
-- does, wherever that is.
pub record AreOf (book : Kept) (places : List PlaceAt) (h : History) : Type 0 where
  pub serves : Serves book h
  pub parts : Parts book.floor h
  pub places_are : places ≡ places_from (floor_behind h parts.gone) parts.kept
  pub none : h.waiting ≡ []

-- of a file that stood for this history all that it hides is gone for good, and the file is as long as before
pub record IsGivenUp (old new : State) (h : History) : Type 0 where
  pub quiet : IsSettled new
  pub erased : IsErased new.seen h
  pub size : length new.seen ≡ length old.seen

-- ---- the disk of an open file with this book and these places, before and after what the last journal hides is given up

-- what giving them up leaves of a file that begins at the point: all that its history hides is gone
abbrev pub GivesUp : Kept → List PlaceAt → State → State → Type 0
GivesUp book places old new =
    (h : History) → EndsAs book places h → IsSettled old → (stands : StandsFor old.seen h) → stands.floor ≡ point h
    → IsGivenUp old new h

-- zeros were written over each content that is given up, and nothing else was
abbrev pub WritesZeros : Kept → List PlaceAt → State → State → Type 0
WritesZeros book places old new =
    (h : History) (are : AreOf book places h) → IsSettled old
    → new ≡ settled_state (given_up h (floor_behind h are.parts.gone) are.parts.kept old.seen)

-- while contents are given up, a crash at any time leaves a file of the same edition that stands for the history
abbrev pub StandsMeanwhile : Kept → List PlaceAt → State → State → Type 0
StandsMeanwhile book places old new =
    (h : History) → EndsAs book places h → IsSettled old → (stands : StandsFor old.seen h)
    → (image : List ℕ) → MayLeave new image → (s : StandsFor image h) × (s.file.edition ≡ stands.file.edition)

-- where no content is given up, nothing was written
abbrev pub LeavesShown : Kept → List PlaceAt → State → State → Type 0
LeavesShown book places old new =
    (h : History) → AreOf book places h → ((n : ℕ) → is_given_up h n ≡ false) → new ≡ old

-- where all that is hidden was gone before, nothing was written
abbrev pub LeavesErased : Kept → List PlaceAt → State → State → Type 0
LeavesErased book places old new =
    (h : History) → EndsAs book places h → IsSettled old → IsErased old.seen h → new ≡ old

-- whatever the book says, a file reads as before in front of and behind all contents
abbrev pub LeavesRest : List PlaceAt → State → State → Type 0
LeavesRest places old new = (low high : ℕ) → AreBetween low high places → Outside low (high - low) old.seen new.seen

-- the file as it was, but with zeros for some of the contents at these places
pub record ErasesSome (places : List PlaceAt) (old new : List ℕ) : Type 0 where
  pub some : List PlaceAt
  pub listed : All (Contains places) some
  pub is : new ≡ with_zeros some old

-- a disk has the file as it was, but with zeros for some of the contents at these places, and nothing is pending
abbrev pub WritesSome : List PlaceAt → State → State → Type 0
WritesSome places old new =
    IsSettled old → (file : List ℕ) × ErasesSome places old.seen file × (new ≡ settled_state file)
