-- The text of each reply.
use Rattle.std.specs.Prelude.{◌≡◌, ℕ, List, [], ◌∷◌, ◌++◌, codes, decimal}
use Rattle.ledger_io.specs.Lines.{IsUnbroken}
use Rattle.script_lines.specs.Replies.{refusal_words}
use Rattle.script_lines.specs.Words.{hex_of, hex_or_dash, spaced_words}
use Rattle.audit_core.specs.declared.refusal.No.{No}
use Rattle.audit_core.specs.declared.refusal.No.TheVariants.{HeadUnknown, LeafPath, LowerBound, UpperBound, NotaryPath, TimesCross}
use Rattle.audit_core.specs.declared.refusal.No.TheVariants.{ClaimDiffers, Malformed, BadExtension, HeadDiffers, HeadsFull}
use Rattle.audit_cli.specs.declared.reply.Reply.{Reply}
use Rattle.audit_cli.specs.declared.reply.Reply.TheVariants as reply

-- the code of what the auditor says no for, and the fields that are printed behind it
abbrev pub no_words : No → List (List ℕ)
no_words (HeadUnknown size) = decimal 34 ∷ decimal size ∷ []
no_words LeafPath = decimal 35 ∷ []
no_words LowerBound = decimal 36 ∷ []
no_words UpperBound = decimal 37 ∷ []
no_words NotaryPath = decimal 38 ∷ []
no_words TimesCross = decimal 39 ∷ []
no_words ClaimDiffers = decimal 40 ∷ []
no_words (Malformed at) = decimal 41 ∷ decimal at ∷ []
no_words BadExtension = decimal 43 ∷ []
no_words (HeadDiffers kept) = decimal 44 ∷ hex_of kept ∷ []
no_words HeadsFull = decimal 45 ∷ []

-- the words of a reply behind its line's number
abbrev pub reply_words : Reply → List (List ℕ)
reply_words reply.Yes = codes "yes" ∷ []
reply_words (reply.No why) = codes "no" ∷ no_words why
reply_words reply.True = codes "true" ∷ []
reply_words (reply.Unaccepted why) = codes "unaccepted" ∷ no_words why
reply_words (reply.Clash told truth) = codes "clash" ∷ hex_or_dash told ∷ hex_or_dash truth ∷ []
reply_words (reply.Refused refusal) = codes "no" ∷ refusal_words refusal

-- the line by which the line with this number is answered
abbrev pub reply_text : ℕ → Reply → List ℕ
reply_text number reply = decimal number ++ spaced_words (reply_words reply) ++ codes "\n"

-- a text is one line: it ends with a newline, and has no other
pub record IsOneLine (text : List ℕ) : Type 0 where
  pub front : List ℕ
  pub is : text ≡ front ++ codes "\n"
  pub unbroken : IsUnbroken front
