-- The text of an audit: the replies to its lines, one after the other.
use Rattle.std.specs.Prelude.{ℕ, ◌+◌, List, [], ◌∷◌, ◌++◌, length}
use Rattle.tree_model.specs.Tree.{Hash}
use Rattle.audit_core.specs.Trust.{Trust, nothing_trusted}
use Rattle.audit_cli.specs.declared.reply.Reply.{Reply}
use Rattle.audit_cli.specs.Answers.{answer_to, trust_after}
use Rattle.audit_cli.specs.Replies.{reply_text}

-- what is trusted after lines, one after the other
abbrev pub trust_through : Hash → Trust → List (List ℕ) → Trust
trust_through hash trust [] = trust
trust_through hash trust (line ∷ lines) = trust_through hash (trust_after hash trust line) lines

-- the text of lines, where this is trusted in front of them, and the first has this number
abbrev pub text_from : Hash → Trust → ℕ → List (List ℕ) → List ℕ
text_from hash trust number [] = []
text_from hash trust number (line ∷ lines) =
    reply_text number (answer_to hash trust line) ++ text_from hash (trust_after hash trust line) (number + 1) lines

-- the text that an audit writes: the replies to the lines of a script, which are numbered from 1; nothing is trusted in front
-- of them
abbrev pub audit_text : Hash → List (List ℕ) → List ℕ
audit_text hash lines = text_from hash nothing_trusted 1 lines

-- what is trusted after the first lines of a script
abbrev pub trusted_behind : Hash → List (List ℕ) → Trust
trusted_behind hash lines = trust_through hash nothing_trusted lines

-- the reply to a line of a script that stands behind these
abbrev pub reply_behind : Hash → List (List ℕ) → List ℕ → Reply
reply_behind hash lines line = answer_to hash (trusted_behind hash lines) line

-- the text of that reply
abbrev pub next_text : Hash → List (List ℕ) → List ℕ → List ℕ
next_text hash lines line = reply_text (length lines + 1) (reply_behind hash lines line)
