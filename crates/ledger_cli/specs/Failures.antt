-- How often a notary failed, whatever is known of the ledger.
use Rattle.std.specs.Prelude.{◌≡◌, ℕ, ◌≤◌, Bool, true, false, List, [], ◌∷◌, length}
use Rattle.std.specs.Io.KnownBytes.{Consumes}
use Rattle.ledger_bytes.specs.Causes.{count_after}
use Rattle.ledger_io.specs.Lines.{lines_of}
use Rattle.ledger_io.specs.Outside.{SourceState}
use Rattle.time_peg.specs.Entries.{NotaryState}

-- the count of failures after some calls, by whether each failed
abbrev pub count_failed : List Bool → ℕ → ℕ
count_failed [] n = n
count_failed (false ∷ calls) n = count_failed calls n
count_failed (true ∷ calls) n = count_failed calls (count_after n)

-- so many calls at most were made, each that failed was counted, and what stays of the notary stayed
pub record FailsIn (most : ℕ) (before now : NotaryState) : Type 0 where
  pub origin : now.origin ≡ before.origin
  pub calls : List Bool
  pub few : length calls ≤ most
  pub counted : now.faults ≡ count_failed calls before.faults

-- the notary was called once at most for each line that was read, each call that failed was counted, and what stays of it stayed
pub record FailsByLines (source source_now : SourceState) (before now : NotaryState) : Type 0 where
  pub read : List ℕ
  pub consumed : Consumes source.left source_now.left read
  pub fails : FailsIn (length (lines_of read)) before now
