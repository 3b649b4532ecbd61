-- How a soak ends.
use Rattle.std.specs.Prelude.{◌≡◌, ℕ, ◌<◌, List, length}
use Rattle.std.specs.Io.KnownBytes.{Appends}
use Rattle.ledger_bytes.specs.Begins.{Begins}
use Rattle.ledger_io.specs.Outside.{SinkState, MeetsNone, MeetsOne}
use Rattle.ledger_soak.specs.Soaks.{TellsSoak}
use Rattle.ledger_soak.specs.declared.running.SoakEnd.{SoakEnd}
use Rattle.ledger_soak.specs.declared.running.SoakEnd.TheVariants.{Done, WriteFault, NoMemory}

-- the line of a soak with these numbers was written whole, and the sink met no fault
pub record WroteSoak (seed count stop : ℕ) (before after : SinkState) : Type 0 where
  pub text : List ℕ
  pub tells : TellsSoak seed count stop text
  pub appended : Appends before.held after.held text
  pub no_fault : MeetsNone before after

-- the first bytes of a soak's line were written, and the sink met the fault that ended the writing
pub record BrokeSoak (seed count stop : ℕ) (before after : SinkState) : Type 0 where
  pub text : List ℕ
  pub tells : TellsSoak seed count stop text
  pub part : List ℕ
  pub appended : Appends before.held after.held part
  pub front : Begins part text
  pub shorter : length part < length text
  pub one_fault : MeetsOne before after

-- what a soak did, by its end: for want of memory nothing was written
abbrev pub Soaked : ℕ → ℕ → ℕ → SoakEnd → SinkState → SinkState → Type 0
Soaked seed count stop Done before after = WroteSoak seed count stop before after
Soaked seed count stop WriteFault before after = BrokeSoak seed count stop before after
Soaked seed count stop NoMemory before after = after ≡ before
