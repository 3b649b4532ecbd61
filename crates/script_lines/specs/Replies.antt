-- The text of each reply.
use Rattle.std.specs.Prelude.{ℕ, List, [], ◌∷◌, ◌++◌, codes, decimal, Option, Some, None, option_map}
use Rattle.ledger_bytes.specs.Codes.{refusal_code}
use Rattle.ledger_bytes.specs.declared.refusal.Refusal.{Refusal}
use Rattle.ledger_bytes.specs.declared.refusal.Refusal.TheVariants.{BadVerb, BadField, BadLane, Damaged, UnknownMember, WrongKey, MissingApproval, ApprovalOrder, MemberNumber, MembersFull, NoJournal, Purged, NotData, NotTime, AlreadyOcculted, LeafDiffers, RootDiffers, NotaryFault, NotaryFull, Full, BadSize, CluesFull, NumberTaken, ClueDiffers, NothingToHide}
use Rattle.ledger_bytes.specs.declared.mark.TimeMark.{TimeMark}
use Rattle.script_lines.specs.declared.reply.Reply.{Reply}
use Rattle.script_lines.specs.declared.reply.Reply.TheVariants.{Placed, Whole, Occulted, Proof, Extension, Clue, Head, Refused}
use Rattle.script_lines.specs.Words.{hex_of, hex_or_dash, list_text, mark_text, spaced_words, which_text}

-- the fields that are printed behind a refusal's code
abbrev pub refusal_fields : Refusal → List (List ℕ)
refusal_fields BadVerb = []
refusal_fields (BadField column) = decimal column ∷ []
refusal_fields BadLane = []
refusal_fields (Damaged kept found) = hex_of kept ∷ hex_of found ∷ []
refusal_fields (UnknownMember member) = decimal member ∷ []
refusal_fields (WrongKey member) = decimal member ∷ []
refusal_fields (MissingApproval member) = decimal member ∷ []
refusal_fields (ApprovalOrder at) = decimal at ∷ []
refusal_fields (MemberNumber next) = decimal next ∷ []
refusal_fields MembersFull = []
refusal_fields (NoJournal size) = decimal size ∷ []
refusal_fields (Purged point) = decimal point ∷ []
refusal_fields (NotData kind) = decimal kind ∷ []
refusal_fields (NotTime kind) = decimal kind ∷ []
refusal_fields (AlreadyOcculted by) = decimal by ∷ []
refusal_fields (LeafDiffers kept) = hex_of kept ∷ []
refusal_fields (RootDiffers kept) = hex_of kept ∷ []
refusal_fields NotaryFault = []
refusal_fields NotaryFull = []
refusal_fields (Full kept size) = decimal kept ∷ decimal size ∷ []
refusal_fields (BadSize size) = decimal size ∷ []
refusal_fields CluesFull = []
refusal_fields (NumberTaken jsn) = decimal jsn ∷ []
refusal_fields (ClueDiffers count) = decimal count ∷ []
refusal_fields NothingToHide = []

-- the words that tell a refusal: its code, and its fields
abbrev pub refusal_words : Refusal → List (List ℕ)
refusal_words refusal = decimal (refusal_code refusal) ∷ refusal_fields refusal

-- the words of a notary's stamp, where there is one: its index and time
abbrev pub stamp_words : Option (ℕ × ℕ) → List (List ℕ)
stamp_words None = []
stamp_words (Some stamp) = decimal stamp.0 ∷ decimal stamp.1 ∷ []

-- the mark that three numbers tell: a journal's number, an index and a time
abbrev pub mark_told : ℕ × ℕ × ℕ → TimeMark
mark_told said = record { jsn = said.0; index = said.1; time = said.2 }

-- the same where a mark is told at all
abbrev pub time_mark : Option (ℕ × ℕ × ℕ) → Option TimeMark
time_mark said = option_map mark_told said

-- the words of a reply behind its lane and number
abbrev pub reply_words : Reply → List (List ℕ)
reply_words (Placed jsn leaf block size root stamp) =
    codes "ok" ∷ decimal jsn ∷ hex_of leaf ∷ decimal block ∷ decimal size ∷ hex_of root ∷ stamp_words stamp
reply_words (Whole header content who) = codes "whole" ∷ hex_or_dash header ∷ hex_or_dash content ∷ hex_or_dash who ∷ []
reply_words (Occulted header who) = codes "occulted" ∷ hex_or_dash header ∷ hex_or_dash who ∷ []
reply_words (Proof n leaf lo hi proof) =
    codes "proof" ∷ decimal n ∷ hex_of leaf ∷ mark_text (time_mark lo) ∷ mark_text (time_mark hi) ∷ hex_or_dash proof ∷ []
reply_words (Extension which m size root proof) =
    codes "extension" ∷ which_text which ∷ decimal m ∷ decimal size ∷ hex_of root ∷ hex_or_dash proof ∷ []
reply_words (Clue count kept) = codes "clue" ∷ decimal count ∷ list_text kept ∷ []
reply_words (Head id size root blocks point notary_size notary_root) =
    codes "head" ∷ hex_of id ∷ decimal size ∷ hex_of root ∷ decimal blocks ∷ decimal point ∷ decimal notary_size ∷ hex_of notary_root ∷ []
reply_words (Refused refusal) = codes "no" ∷ refusal_words refusal

-- the line by which the line with this number in its lane is answered
abbrev pub reply_text : ℕ → ℕ → Reply → List ℕ
reply_text lane index reply =
    decimal lane ++ codes "." ++ decimal index ++ spaced_words (reply_words reply) ++ codes "\n"
