-- The bytes that show who placed a journal.
use Rattle.std.specs.Prelude.{ℕ, List, ◌++◌, length}
use Rattle.std.specs.Int.{w16, w32, to_be_bytes}
use Rattle.std.specs.List.{flat_map}
use Rattle.journal_record.specs.declared.approval.Approval.{Approval}

-- an approval's bytes: the member's number, the proof's length and the proof
abbrev pub approval_bytes : Approval → List ℕ
approval_bytes a = to_be_bytes w32 a.member ++ to_be_bytes w16 (length a.proof) ++ a.proof

-- the bytes of all approvals, one after the other
abbrev pub who_of : List Approval → List ℕ
who_of given = flat_map approval_bytes given
