-- What falls away from a file by a purge, and the base behind which the rest of it stands.
use Rattle.std.specs.Prelude.{◌≡◌, ℕ, ◌+◌, ◌^◌, ◌<◌, ◌≤◌, List, [], ◌∷◌, ◌++◌, length, drop, Option, Some, None, ⊤}
use Rattle.journal_record.specs.Entry.{Entry}
use Rattle.ledger_book.specs.Books.{Kept, Serves}
use Rattle.ledger_model.specs.Bases.{base_of}
use Rattle.ledger_model.specs.History.{History, journals_of}
use Rattle.pseudo_genesis.specs.Bases.{HasCounts, base_spelling}
use Rattle.pseudo_genesis.specs.declared.base.Base.{Base}
use Rattle.ledger_open.specs.Erasing.{AllInside}
use Rattle.ledger_open.specs.Opening.{Known, known_from}
use Rattle.ledger_open.specs.Places.{AreInOrder, places_from}
use Rattle.block_file.specs.Places.{after_at}
use Rattle.ledger_open.specs.Standing.{Floor}
use Rattle.block_file.specs.declared.place.PlaceAt.{PlaceAt}
use Rattle.ledger_open.specs.declared.purging.Cut.{Cut}
use Rattle.ledger_open.specs.declared.purging.Purge.{Purge}

-- ---- what falls away

-- where the first gate stands of a file that begins at this floor: behind its head and its base
abbrev pub first_gate : Floor → ℕ
first_gate floor = 64 + length floor.base

-- where the gate stands behind some blocks of a file that begins at this floor
abbrev pub gate_behind : Floor → List (List Entry) → ℕ
gate_behind floor blocks = after_at (first_gate floor) blocks

-- there are blocks, and the first of them has a journal
abbrev pub BeginsSome : List (List Entry) → Type 0
BeginsSome [] = ⊥
BeginsSome ([] ∷ bs) = ⊥
BeginsSome ((e ∷ es) ∷ bs) = ⊤

-- Of a file that begins at this floor and has the blocks of both lists the first ones fall away: the book's point is where
-- the others begin. Book and places are those of such a file.
-- Example: a file without a base has the blocks [0] [1 2] [3] [4], where journal 4 is the purge to journal 3. Then [0] [1 2]
-- fall away, and [3] [4] stay: 0 and the three journals in front make the point 3.
pub record FallsAway (known : Known) (floor : Floor) (front behind : List (List Entry)) : Type 0 where
  pub first : known.book.floor ≡ floor.first
  pub point : floor.first + length (journals_of front) ≡ known.book.point
  pub most : known.book.point ≤ known.book.sealed
  pub some : BeginsSome behind
  pub places : known.places ≡ places_from floor (front ++ behind)
  pub tail : known.gate ≡ gate_behind floor (front ++ behind)

-- a cut is where the blocks end that fall away: it tells how many journals they have, and where the gate behind them stands
pub record IsCutAt (floor : Floor) (front : List (List Entry)) (cut : Cut) : Type 0 where
  pub count : cut.count ≡ length (journals_of front)
  pub gate : cut.gate ≡ gate_behind floor front

-- a book's point lies behind the first journal of its file, and the cut there inside of the file: the contents behind it
-- stand in order from its gate on
pub record IsCutInside (book : Kept) (places : List PlaceAt) (cut : Cut) : Type 0 where
  pub before : book.floor < book.point
  pub point : cut.point ≡ book.point
  pub most : book.point ≤ book.sealed
  pub size : book.point ≤ book.size
  pub count : cut.count < length places
  pub gate : (end : ℕ) → AllInside end places → cut.gate ≤ end
  pub behind : (from to : ℕ) → AreInOrder from to places → AreInOrder cut.gate to (drop cut.count places)

-- where the rest of a file begins behind the blocks that fall away; without a cut nothing of the file falls away
abbrev pub IsCutOf : Kept → List PlaceAt → Option Cut → Type 0
IsCutOf book places None =
    (place : ℕ) (floor : Floor) (front behind : List (List Entry)) → FallsAway (known_from book places place) floor front behind
    → floor.first < book.point → ⊥
IsCutOf book places (Some cut) =
    IsCutInside book places cut
    × ((place : ℕ) (floor : Floor) (front behind : List (List Entry)) → FallsAway (known_from book places place) floor front behind
    → IsCutAt floor front cut)

-- these bytes spell the base at this journal of each history that a book is one of
pub record IsBaseAt (book : Kept) (p : ℕ) (bytes : List ℕ) : Type 0 where
  pub base : Base
  pub spelled : bytes ≡ base_spelling base
  pub short : length bytes < 2 ^ 64
  pub counts : HasCounts base
  pub point : base.point ≡ p
  pub base_is : (h : History) → Serves book h → base ≡ base_of h p

-- what finishing a purge needs is known: where the rest of the file begins, and the bytes of the base in front of it; or no
-- purge is to be finished
abbrev pub IsPrepared : Kept → List PlaceAt → Option Purge → Type 0
IsPrepared book places None = IsCutOf book places None
IsPrepared book places (Some purge) = IsCutOf book places (Some purge.cut) × IsBaseAt book book.point purge.base
