-- What clauses see of a source and a sink in memory.
use Rattle.std.specs.Prelude.{◌≡◌, ℕ, ◌-◌, Bool, true, false, if◌then◌else◌, List, ◌++◌, length, take, drop, min, Result, Ok, Err, Some}
use Rattle.ledger_bytes.specs.Causes.{count_after}
use Rattle.ledger_io.specs.Outside.{SourceState, SinkState, is_idle}

-- the calls of an object: the number of the next, the numbers of those that fail, and how many failed
pub record Plan : Type 0 where
  pub next : ℕ
  pub fail_at : List ℕ
  pub faults : ℕ

-- the calls that are to fail, before the first was made
abbrev pub unused_plan : List ℕ → Plan
unused_plan fail_at = record { next = 0; fail_at = fail_at; faults = 0 }

-- the calls after one more, which failed or didn't
abbrev pub after_call : Plan → Bool → Plan
after_call plan failed = record plan { next = count_after plan.next; faults = if failed then count_after plan.faults else plan.faults }

-- a source in memory: the bytes left, and its calls
pub record Feed : Type 0 where
  pub left : List ℕ
  pub plan : Plan

-- what a source in memory tells, as each source does
abbrev pub source_state : Feed → SourceState
source_state feed = record { left = Some feed.left; faults = feed.plan.faults }

-- what a read into `room` bytes does: it gives as many bytes as there are and as fit, or it fails and only counts
abbrev pub Feeds : {E : Type 0} → Feed → Feed → ℕ → Result ℕ E → Type 0
Feeds old new room (Ok n) = (n ≡ min (length old.left) room) × (new ≡ record { left = drop n old.left; plan = after_call old.plan false })
Feeds old new room (Err e) = new ≡ record old { plan = after_call old.plan true }

-- a sink in memory: the bytes written, for how many it has room in all, its calls, and how many writes were idle
pub record Store : Type 0 where
  pub held : List ℕ
  pub room : ℕ
  pub plan : Plan
  pub idles : ℕ

-- what a sink in memory tells, as each sink does
abbrev pub sink_state : Store → SinkState
sink_state store = record { held = Some store.held; faults = store.plan.faults; idles = store.idles }

-- what a write does: it takes as many bytes as its room leaves, or it fails and only counts
abbrev pub Stores : {E : Type 0} → Store → Store → List ℕ → Result ℕ E → Type 0
Stores old new piece (Ok n) = (n ≡ min (length piece) (old.room - length old.held))
    × (new ≡ record old { held = old.held ++ take n piece; plan = after_call old.plan false; idles = if is_idle n piece then count_after old.idles else old.idles })
Stores old new piece (Err e) = new ≡ record old { plan = after_call old.plan true }
