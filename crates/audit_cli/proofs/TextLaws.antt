-- Lemmas on the text of an audit.
use Rattle.std.proofs.Common.{◌≡◌, ℕ, inl, inr, ◌+◌, List, [], ◌∷◌, ◌++◌, length, refl, sym, ap, ◌∙◌, arith, append_assoc, append-nil}
use Rattle.std.specs.Prelude.{decimal}
use Rattle.ledger_bytes.specs.Begins.{Begins}
use Rattle.ledger_io.specs.Runs.{AreWhole}
use Rattle.ledger_io.proofs.RunLaws.{whole_append}
use Rattle.script_lines.specs.Words.{spaced_words}
use Rattle.tree_model.specs.Tree.{Hash}
use Rattle.audit_core.specs.Trust.{Trust, nothing_trusted}
use Rattle.audit_cli.specs.Answers.{answer_to, trust_after}
use Rattle.audit_cli.specs.Replies.{reply_words, reply_text}
use Rattle.audit_cli.specs.Texts.{trust_through, text_from, audit_text, trusted_behind, next_text}

pub trust_through-push : (hash : Hash) (trust : Trust) (lines : List (List ℕ)) (line : List ℕ) → trust_through hash trust (lines ++ line ∷ []) ≡ trust_after hash (trust_through hash trust lines) line
trust_through-push hash trust [] line = refl
trust_through-push hash trust (first ∷ lines) line = trust_through-push hash (trust_after hash trust first) lines line

-- the text of lines and of those behind them
text_from-append : (hash : Hash) (trust : Trust) (number : ℕ) (lines tail : List (List ℕ))
    → text_from hash trust number (lines ++ tail) ≡ text_from hash trust number lines ++ text_from hash (trust_through hash trust lines) (length lines + number) tail
text_from-append hash trust number [] tail = let none : number ≡ 0 + number = omega arith in ap (λ n. text_from hash trust n tail) none
text_from-append hash trust number (first ∷ lines) tail =
    let one : length lines + (number + 1) ≡ length (first ∷ lines) + number = omega arith in
    let reply = reply_text number (answer_to hash trust first) in
    let behind = trust_after hash trust first in
    ap (λ text. reply ++ text) (text_from-append hash behind (number + 1) lines tail)
    ∙ sym (append_assoc reply (text_from hash behind (number + 1) lines) (text_from hash (trust_through hash behind lines) (length lines + (number + 1)) tail))
    ∙ ap (λ n. (reply ++ text_from hash behind (number + 1) lines) ++ text_from hash (trust_through hash behind lines) n tail) one

-- a line more at the end
pub text_more : (hash : Hash) (lines : List (List ℕ)) (line : List ℕ) → audit_text hash (lines ++ line ∷ []) ≡ audit_text hash lines ++ next_text hash lines line
text_more hash lines line =
    text_from-append hash nothing_trusted 1 lines (line ∷ []) ∙ ap (λ text. audit_text hash lines ++ text) (append-nil (next_text hash lines line))

-- the text of lines is that of the first, the answer to the next, and that of those behind it
pub text_placed : (hash : Hash) (lines : List (List ℕ)) (line : List ℕ) (rest : List (List ℕ))
    → audit_text hash (lines ++ line ∷ rest)
    ≡ audit_text hash lines ++ (next_text hash lines line ++ text_from hash (trusted_behind hash (lines ++ line ∷ [])) (length lines + 2) rest)
text_placed hash lines line rest =
    let reply = next_text hash lines line in
    let number : (length lines + 1) + 1 ≡ length lines + 2 = omega arith in
    text_from-append hash nothing_trusted 1 lines (line ∷ rest)
    ∙ ap (λ trust. audit_text hash lines ++ (reply ++ text_from hash trust ((length lines + 1) + 1) rest)) (sym (trust_through-push hash nothing_trusted lines line))
    ∙ ap (λ n. audit_text hash lines ++ (reply ++ text_from hash (trusted_behind hash (lines ++ line ∷ [])) n rest)) number

-- the text of some lines begins that of these and any that follow them
pub text_begins : (hash : Hash) (lines tail : List (List ℕ)) → Begins (audit_text hash lines) (audit_text hash (lines ++ tail))
text_begins hash lines tail = record {
  rest = text_from hash (trust_through hash nothing_trusted lines) (length lines + 1) tail;
  is = text_from-append hash nothing_trusted 1 lines tail;
}

-- each reply ends with its newline
text_from-whole : (hash : Hash) (trust : Trust) (number : ℕ) (lines : List (List ℕ)) → AreWhole (text_from hash trust number lines)
text_from-whole hash trust number [] = inl refl
text_from-whole hash trust number (line ∷ lines) =
    let reply = answer_to hash trust line in
    whole_append (reply_text number reply) (text_from hash (trust_after hash trust line) (number + 1) lines)
    (inr (decimal number ++ spaced_words (reply_words reply), refl)) (text_from-whole hash (trust_after hash trust line) (number + 1) lines)

pub text_whole : (hash : Hash) (lines : List (List ℕ)) → AreWhole (audit_text hash lines)
text_whole hash lines = text_from-whole hash nothing_trusted 1 lines
