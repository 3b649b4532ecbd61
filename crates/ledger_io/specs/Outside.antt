-- What clauses know of the objects outside: what a source has left to read, what a sink holds, and how often calls failed.
use Rattle.std.specs.Prelude.{◌≡◌, ℕ, ◌≤◌, ◌⊎◌, Bool, ◌==◌, ◌&&◌, nat_lt, if◌then◌else◌, List, length, Option, Result, Ok, Err}
use Rattle.ledger_bytes.specs.Causes.{count_after}

-- a source: the bytes that are left to read, where it tells them, and how many of its calls failed
pub record SourceState : Type 0 where
  pub left : Option (List ℕ)
  pub faults : ℕ

-- a sink: the bytes that were written so far, where it tells them, how many of its calls failed, and how often it took nothing of a piece that wasn't empty
pub record SinkState : Type 0 where
  pub held : Option (List ℕ)
  pub faults : ℕ
  pub idles : ℕ

-- the count of failed calls after a call: one more exactly where it failed
abbrev pub faults_after : {T E : Type 0} → ℕ → Result T E → ℕ
faults_after before (Ok value) = before
faults_after before (Err error) = count_after before

-- a write that took n bytes took nothing of a piece that isn't empty
abbrev pub is_idle : ℕ → List ℕ → Bool
is_idle n piece = (n == 0) && nat_lt 0 (length piece)

-- the count of idle writes after a write: one more exactly where the write was idle
abbrev pub idles_after : {E : Type 0} → ℕ → Result ℕ E → List ℕ → ℕ
idles_after before (Ok n) piece = if is_idle n piece then count_after before else before
idles_after before (Err error) piece = before

-- the count of idle writes doesn't fall, and it is the one after this write
pub record CountsIdle {E : Type 0} (before now : ℕ) (result : Result ℕ E) (piece : List ℕ) : Type 0 where
  pub later : before ≤ now
  pub count : now ≡ idles_after before result piece

-- writing met no fault
abbrev pub MeetsNone : SinkState → SinkState → Type 0
MeetsNone before after = (after.faults ≡ before.faults) × (after.idles ≡ before.idles)

-- writing met exactly one fault: the sink failed, or it was idle
abbrev pub MeetsOne : SinkState → SinkState → Type 0
MeetsOne before after = ((after.faults ≡ count_after before.faults) × (after.idles ≡ before.idles)) ⊎ ((after.faults ≡ before.faults) × (after.idles ≡ count_after before.idles))

-- the objects that a run is handed: what it reads from and what it writes to
pub record Outside : Type 0 where
  pub source : SourceState
  pub sink : SinkState

-- a source and a sink, as a run is handed them
abbrev pub outside : SourceState → SinkState → Outside
outside source sink = record { source = source; sink = sink }
