-- What a book is made of and led on by, where headers are read from a file.
use Rattle.std.specs.Prelude.{◌≡◌, List, [], ◌∷◌, ◌++◌, take, drop, Option, Some, Result, Ok, Err}
use Rattle.block_file.specs.declared.failure.Damage.{Damage}
use Rattle.block_file.specs.declared.failure.Damage.TheVariants as damage
use Rattle.ledger_bytes.specs.declared.digest.Digest.{Digest}
use Rattle.journal_record.specs.Entry.{Entry, content_digest_of}
use Rattle.journal_record.specs.declared.header.Header.{Header}
use Rattle.ledger_model.specs.History.{History, history}
use Rattle.ledger_model.specs.Outcomes.{with_waiting}
use Rattle.pseudo_genesis.specs.declared.base.Base.{Base}
use Rattle.ledger_model.specs.Behind.{IsNextBehind}
use Rattle.ledger_book.specs.Books.{Kept, Stands, Serves}
use Rattle.ledger_book.specs.Reading.{StandsBehind}
use Rattle.ledger_book.specs.Steps.{MayPlace}

-- a first journal with this header: the halves of its content are the two keys, and it has the digest that the header names
pub record IsFirst (header : Header) (operator regulator : Digest) (journal : Entry) : Type 0 where
  pub header_is : journal.header ≡ header
  pub operator_is : operator.0 ≡ take 32 journal.content
  pub regulator_is : regulator.0 ≡ drop 32 journal.content
  pub digest_is : header.content_digest.0 ≡ content_digest_of journal.content

-- the history that has this journal alone, in a block of its own
abbrev pub begun_with : Entry → History
begun_with journal = history ((journal ∷ []) ∷ []) []

-- The header is the next one, and the book keeps a journal of it behind those that were there: of each history that it kept,
-- where that may go on so, and behind a base.
pub record IsPlaced (old : Kept) (header : Header) (new : Kept) : Type 0 where
  pub stands : (h : History) (journal : Entry) → Stands old h → MayPlace h header → journal.header ≡ header → Stands new (with_waiting (Some journal) h)
  pub next : (h : History) → Serves old h → MayPlace h header
  pub stands_behind : (start : Option Base) (journals : List Entry) (journal : Entry) → StandsBehind old start journals → journal.header ≡ header
      → StandsBehind new start (journals ++ journal ∷ [])
  pub next_behind : (start : Option Base) (journals : List Entry) → StandsBehind old start journals → IsNextBehind start journals header

-- the header isn't the next one, and nothing has changed
pub record IsNotPlaced (old : Kept) (header : Header) (told : Damage) (new : Kept) : Type 0 where
  pub told_is : told ≡ damage.Entry old.size
  pub same : new ≡ old
  pub never : (h : History) → Serves old h → MayPlace h header → ⊥
  pub never_behind : (start : Option Base) (journals : List Entry) → StandsBehind old start journals → IsNextBehind start journals header → ⊥

-- what replaying a header tells: it is the next one and the book keeps a journal of it, or it isn't and nothing has changed
abbrev pub Replays : Kept → Header → Result Unit Damage → Kept → Type 0
Replays old header (Ok done) new = IsPlaced old header new
Replays old header (Err told) new = IsNotPlaced old header told new
