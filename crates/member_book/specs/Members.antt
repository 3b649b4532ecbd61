-- The members in front of a journal, and why one isn't admitted.
use Rattle.std.specs.Prelude.{ℕ, ◌+◌, List, drop, count_by, nat_lt, Option, Some, None}
use Rattle.ledger_bytes.specs.declared.refusal.Refusal.{Refusal}
use Rattle.ledger_bytes.specs.declared.refusal.Refusal.TheVariants as refusal
use Rattle.journal_record.specs.declared.member.Member.{Member}
use Rattle.member_book.specs.declared.book.AddErr.{AddErr}
use Rattle.member_book.specs.declared.book.AddErr.TheVariants.{MembersFull, MemberNumber, NoMemory}

-- how many members there are below a journal: the operator, the regulator, and those whose journal's number is lower
abbrev pub count_below : ℕ → List Member → ℕ
count_below p members = 2 + count_by (λ m. nat_lt m.jsn p) (drop 2 members)

-- the refusal that an error of admitting a member tells
abbrev pub refusal_of : AddErr → Option Refusal
refusal_of MembersFull = Some refusal.MembersFull
refusal_of (MemberNumber next) = Some (refusal.MemberNumber next)
refusal_of NoMemory = None
