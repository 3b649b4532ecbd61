-- What a window on a source holds: the next bytes of an input that is read from its front.
use Rattle.std.specs.Prelude.{◌≡◌, ℕ, ◌+◌, ◌≤◌, ◌⊎◌, Bool, true, List, [], ◌++◌, length, Result, Ok, Err}
use Rattle.std.specs.Io.KnownBytes.{Consumes, IsAtEnd}
use Rattle.ledger_bytes.specs.Causes.{count_after}
use Rattle.ledger_io.specs.Lines.{script_limit}
use Rattle.ledger_io.specs.Outside.{SourceState}
use Rattle.ledger_io.specs.declared.failure.LineErr.{LineErr}
use Rattle.ledger_io.specs.declared.failure.LineErr.TheVariants.{ReadFault, LineTooLong, ScriptTooLong, NoMemory}

-- the bytes that were read and not yet given away, how many were read in all, and whether the source told its end
pub record Seen : Type 0 where
  pub held : List ℕ
  pub total : ℕ
  pub ended : Bool

-- bytes were read behind those that are held, and nothing is read once the end was told
pub record HasSeen (before after : SourceState) (old new : Seen) (bytes : List ℕ) : Type 0 where
  pub consumed : Consumes before.left after.left bytes
  pub held : new.held ≡ old.held ++ bytes
  pub total : new.total ≡ old.total + length bytes
  pub bounded : new.total ≤ script_limit
  pub end : new.ended ≡ true → (old.ended ≡ true) ⊎ IsAtEnd after.left
  pub again : old.ended ≡ true → (bytes ≡ []) × (after ≡ before) × (new.ended ≡ true)

-- why so many bytes aren't held, where they aren't: the source has ended, a read failed, or as many bytes were read as may be
abbrev pub HasEnough : SourceState → SourceState → ℕ → Seen → Result Unit LineErr → Type 0
HasEnough before after want new (Ok done) = (after.faults ≡ before.faults) × ((want ≤ length new.held) ⊎ (new.ended ≡ true))
HasEnough before after want new (Err ReadFault) = after.faults ≡ count_after before.faults
HasEnough before after want new (Err LineTooLong) = ⊥
HasEnough before after want new (Err ScriptTooLong) = (after.faults ≡ before.faults) × (new.total ≡ script_limit)
HasEnough before after want new (Err NoMemory) = after.faults ≡ before.faults

-- why a piece wasn't read: the read failed, or memory was wanted
abbrev pub IsPieceErr : SourceState → SourceState → LineErr → Type 0
IsPieceErr before after ReadFault = after.faults ≡ count_after before.faults
IsPieceErr before after LineTooLong = ⊥
IsPieceErr before after ScriptTooLong = ⊥
IsPieceErr before after NoMemory = after.faults ≡ before.faults
