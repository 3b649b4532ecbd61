use Rattle.std.proofs.Common.{◌≡◌, ℕ, List, length}
use Rattle.audit_dump.specs.Claims.{MeetFirst}
use Rattle.audit_dump.specs.Tails.{HasTakenEntries}
use Rattle.audit_dump.proofs.ending.read_entries.Given as goal

-- the entries so far were taken, are kept, and are held against the claims
abbrev pub invariant-loop-index : goal.invariant-loop-index
invariant-loop-index g l =
    let state = g.S.Source.state in
    (es : List (List ℕ)) × (length es ≡ l.index) × HasTakenEntries (state l.fn.source) (state l.source) l.fn.window l.window es l.entries × MeetFirst es l.fn.meeting l.meeting
