-- The receipts among the whole lines of what was written.
use Rattle.std.specs.Prelude.{◌≡◌, ◌≢◌, ◌⊎◌, ℕ, ◌^◌, ◌==◌, ◌<◌, if◌then◌else◌, List, [], ◌∷◌, ◌++◌, codes, decimal, Option, Some, None, ⊤}
use Rattle.std.specs.List.{flat_map}
use Rattle.hex.specs.Hex.{IsBytes}
use Rattle.ledger_bytes.specs.declared.digest.Digest.{Digest}
use Rattle.ledger_bytes.specs.declared.refusal.Refusal.{Refusal}
use Rattle.ledger_bytes.specs.declared.refusal.Refusal.TheVariants as refusals
use Rattle.script_lines.specs.Replies.{reply_words, reply_text}
use Rattle.script_lines.specs.Words.{spaced_words}
use Rattle.script_lines.specs.declared.reply.Reply.{Reply}
use Rattle.script_lines.specs.declared.said.Which.TheVariants as which
use Rattle.script_lines.specs.declared.reply.Reply.TheVariants.{Placed, Whole, Occulted, Proof, Extension, Clue, Head, Refused}

-- the whole lines of some bytes, where the first of them was begun before
abbrev pub lines_after : List ℕ → List ℕ → List (List ℕ)
lines_after begun [] = []
lines_after begun (b ∷ bs) =
    if b == 10 then begun ∷ lines_after [] bs else lines_after (begun ++ b ∷ []) bs

-- the whole lines of some bytes, without their newlines
abbrev pub whole_lines : List ℕ → List (List ℕ)
whole_lines bytes = lines_after [] bytes

-- a line is one of some
abbrev pub IsAmong : List (List ℕ) → List ℕ → Type 0
IsAmong [] line = ⊥
IsAmong (first ∷ lines) line = (first ≡ line) ⊎ IsAmong lines line

-- a reply's line without its newline
abbrev pub reply_line : ℕ → ℕ → Reply → List ℕ
reply_line lane index reply =
    decimal lane ++ codes "." ++ decimal index ++ spaced_words (reply_words reply)

-- a whole line of these bytes is a receipt of this journal with this leaf digest. `a_written_receipt_is_kept` says that its
-- journal stands in the blocks that the dues are in
pub record IsReceipted (bytes : List ℕ) (jsn : ℕ) (leaf : Digest) : Type 0 where
  pub lane : ℕ
  pub index : ℕ
  pub block : ℕ
  pub size : ℕ
  pub root : Digest
  pub stamp : Option (ℕ × ℕ)
  pub line : IsAmong (whole_lines bytes) (reply_line lane index (Placed jsn leaf block size root stamp))
  pub lane_fits : lane < 2 ^ 64
  pub index_fits : index < 2 ^ 64
  pub jsn_fits : jsn < 2 ^ 64
  pub leaf_fits : IsBytes leaf.0

-- a reply with the line that it answers
pub record Told : Type 0 where
  pub lane : ℕ
  pub index : ℕ
  pub reply : Reply

-- the text of replies, one line for each
abbrev pub told_text : List Told → List ℕ
told_text replies = flat_map (λ told. reply_text told.lane told.index told.reply) replies

-- a receipt has a property of its journal's number and leaf digest; another reply is no receipt
abbrev pub OfReceipt : (ℕ → Digest → Type 0) → Reply → Type 0
OfReceipt Holds (Placed jsn leaf block size root stamp) = Holds jsn leaf
OfReceipt Holds (Whole header content who) = ⊤
OfReceipt Holds (Occulted header who) = ⊤
OfReceipt Holds (Proof n leaf lo hi proof) = ⊤
OfReceipt Holds (Extension which m size root proof) = ⊤
OfReceipt Holds (Clue count kept) = ⊤
OfReceipt Holds (Head id size root blocks point notary_size notary_root) = ⊤
OfReceipt Holds (Refused refusal) = ⊤

-- each receipt among these replies has the property
abbrev pub EachReceipt : (ℕ → Digest → Type 0) → List Told → Type 0
EachReceipt Holds [] = ⊤
EachReceipt Holds (told ∷ replies) = OfReceipt Holds told.reply × EachReceipt Holds replies

-- bytes without a space or a newline
abbrev pub IsWord : List ℕ → Type 0
IsWord [] = ⊤
IsWord (b ∷ bs) = (b ≢ 32) × (b ≢ 10) × IsWord bs

-- each of some words is without a space or a newline
abbrev pub AreWords : List (List ℕ) → Type 0
AreWords [] = ⊤
AreWords (word ∷ words) = IsWord word × AreWords words

-- a number is below 2^64, as programs have it
abbrev pub FitsWord : ℕ → Type 0
FitsWord n = n < 2 ^ 64

-- each of some numbers is below 2^64
abbrev pub AllFits : List ℕ → Type 0
AllFits [] = ⊤
AllFits (n ∷ ns) = FitsWord n × AllFits ns

-- the numbers of a stamp are below 2^64, where there is one
abbrev pub StampFits : Option (ℕ × ℕ) → Type 0
StampFits None = ⊤
StampFits (Some stamp) = FitsWord stamp.0 × FitsWord stamp.1

-- The numbers of a refusal are below 2^64. Of its digests nothing is asked: no hexadecimal digit breaks a line.
abbrev pub RefusalFits : Refusal → Type 0
RefusalFits refusals.BadVerb = ⊤
RefusalFits (refusals.BadField column) = FitsWord column
RefusalFits refusals.BadLane = ⊤
RefusalFits (refusals.Damaged kept found) = ⊤
RefusalFits (refusals.UnknownMember member) = FitsWord member
RefusalFits (refusals.WrongKey member) = FitsWord member
RefusalFits (refusals.MissingApproval member) = FitsWord member
RefusalFits (refusals.ApprovalOrder at) = FitsWord at
RefusalFits (refusals.MemberNumber next) = FitsWord next
RefusalFits refusals.MembersFull = ⊤
RefusalFits (refusals.NoJournal size) = FitsWord size
RefusalFits (refusals.Purged point) = FitsWord point
RefusalFits (refusals.NotData kind) = FitsWord kind
RefusalFits (refusals.NotTime kind) = FitsWord kind
RefusalFits (refusals.AlreadyOcculted by) = FitsWord by
RefusalFits (refusals.LeafDiffers kept) = ⊤
RefusalFits (refusals.RootDiffers kept) = ⊤
RefusalFits refusals.NotaryFault = ⊤
RefusalFits refusals.NotaryFull = ⊤
RefusalFits (refusals.Full kept size) = FitsWord kept × FitsWord size
RefusalFits (refusals.BadSize size) = FitsWord size
RefusalFits refusals.CluesFull = ⊤
RefusalFits (refusals.NumberTaken jsn) = FitsWord jsn
RefusalFits (refusals.ClueDiffers count) = FitsWord count
RefusalFits refusals.NothingToHide = ⊤

-- The numbers of a reply are below 2^64, and the leaf digest of a receipt is bytes. Nothing is asked of a proof: it is no
-- receipt, whatever its numbers.
abbrev pub ReplyFits : Reply → Type 0
ReplyFits (Placed jsn leaf block size root stamp) =
    FitsWord jsn × IsBytes leaf.0 × FitsWord block × FitsWord size × StampFits stamp
ReplyFits (Whole header content who) = ⊤
ReplyFits (Occulted header who) = ⊤
ReplyFits (Proof n leaf lo hi proof) = ⊤
ReplyFits (Extension which m size root proof) = ⊤
ReplyFits (Clue count kept) = FitsWord count × AllFits kept
ReplyFits (Head id size root blocks point notary_size notary_root) =
    FitsWord size × FitsWord blocks × FitsWord point × FitsWord notary_size
ReplyFits (Refused refusal) = RefusalFits refusal

-- a reply and the line that it answers have such numbers
pub record FitsReply (told : Told) : Type 0 where
  pub lane : FitsWord told.lane
  pub index : FitsWord told.index
  pub reply : ReplyFits told.reply

-- all of some replies have such numbers. `the_replies_of_a_run_fit` says that those of a run do
abbrev pub AllFit : List Told → Type 0
AllFit [] = ⊤
AllFit (told ∷ replies) = FitsReply told × AllFit replies

-- a reply is one of some
abbrev pub IsOneOf : List Told → Told → Type 0
IsOneOf [] told = ⊥
IsOneOf (first ∷ replies) told = (first ≡ told) ⊎ IsOneOf replies told

-- a line is that of one of some replies
pub record IsLineOf (replies : List Told) (line : List ℕ) : Type 0 where
  pub told : Told
  pub one : IsOneOf replies told
  pub line_is : reply_line told.lane told.index told.reply ≡ line

-- ---- heads

-- the size and the root of the ledger's tree that a reply names have a property; of a reply that names none nothing is asked
abbrev pub OfHead : (ℕ → Digest → Type 0) → Reply → Type 0
OfHead Holds (Placed jsn leaf block size root stamp) = Holds size root
OfHead Holds (Whole header content who) = ⊤
OfHead Holds (Occulted header who) = ⊤
OfHead Holds (Proof n leaf lo hi proof) = ⊤
OfHead Holds (Extension which.Ledger m size root proof) = Holds size root
OfHead Holds (Extension which.Notary m size root proof) = ⊤
OfHead Holds (Clue count kept) = ⊤
OfHead Holds (Head id size root blocks point notary_size notary_root) = Holds size root
OfHead Holds (Refused refusal) = ⊤

-- a line is that of a reply, and the head of the ledger that the reply names, where it names one, has a property
pub record IsLineWithHead (Holds : ℕ → Digest → Type 0) (line : List ℕ) : Type 0 where
  pub told : Told
  pub line_is : reply_line told.lane told.index told.reply ≡ line
  pub head : OfHead Holds told.reply

-- Each head of the ledger that stands in a whole line of these bytes has a property: in a receipt, in the reply to `head`, or in
-- that to `extend ledger`.
-- Example: the bytes are `0.1 head I 5 R 3 0 0 E`, a newline and `0.2 ok 5`. The head of size 5 with the root R has the
-- property; of the line that was cut nothing is said.
abbrev pub AllHeads : (ℕ → Digest → Type 0) → List ℕ → Type 0
AllHeads Holds bytes = (line : List ℕ) → IsAmong (whole_lines bytes) line → IsLineWithHead Holds line
