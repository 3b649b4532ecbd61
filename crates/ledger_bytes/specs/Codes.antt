-- The codes by which replies name refusals.
use Rattle.std.specs.Prelude.{ℕ}
use Rattle.ledger_bytes.specs.declared.refusal.Refusal.{Refusal}
use Rattle.ledger_bytes.specs.declared.refusal.Refusal.TheVariants.{BadVerb, BadField, BadLane, Damaged, UnknownMember, WrongKey, MissingApproval, ApprovalOrder, MemberNumber, MembersFull, NoJournal, Purged, NotData, NotTime, AlreadyOcculted, LeafDiffers, RootDiffers, NotaryFault, NotaryFull, Full, BadSize, CluesFull, NumberTaken, ClueDiffers, NothingToHide}

-- the number by which replies name a refusal
abbrev pub refusal_code : Refusal → ℕ
refusal_code BadVerb = 10
refusal_code (BadField column) = 11
refusal_code BadLane = 12
refusal_code (Damaged kept found) = 13
refusal_code (UnknownMember member) = 14
refusal_code (WrongKey member) = 15
refusal_code (MissingApproval member) = 16
refusal_code (ApprovalOrder at) = 17
refusal_code (MemberNumber next) = 18
refusal_code MembersFull = 19
refusal_code (NoJournal size) = 20
refusal_code (Purged point) = 21
refusal_code (NotData kind) = 22
refusal_code (NotTime kind) = 23
refusal_code (AlreadyOcculted by) = 24
refusal_code (LeafDiffers kept) = 25
refusal_code (RootDiffers kept) = 26
refusal_code NotaryFault = 27
refusal_code NotaryFull = 28
refusal_code (Full kept size) = 29
refusal_code (BadSize size) = 33
refusal_code CluesFull = 42
refusal_code (NumberTaken jsn) = 48
refusal_code (ClueDiffers count) = 49
refusal_code NothingToHide = 50
