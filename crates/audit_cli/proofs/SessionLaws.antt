-- Lemmas on a session: how far it came.
use Rattle.std.proofs.Common.{◌≡◌, ℕ, ◌+◌, false, List, [], ◌∷◌, ◌++◌, length, None, refl, ap, sym, subst, ◌∙◌, arith, length-append}
use Rattle.std.specs.Io.KnownBytes.{Appends}
use Rattle.std.proofs.KnownBytes.{Appends-nil, Appends-trans}
use Rattle.ledger_io.specs.Outside.{SourceState, SinkState, Outside, outside, MeetsNone}
use Rattle.ledger_io.specs.Reading.{Reading, ReadsBytes, GivesLine}
use Rattle.ledger_io.proofs.ReadingLaws.{HasGiven, read_none, read_more}
use Rattle.tree_model.specs.Tree.{Hash}
use Rattle.audit_core.specs.Trust.{Trust, nothing_trusted}
use Rattle.audit_cli.specs.Answers.{answer_to, trust_after}
use Rattle.audit_cli.specs.Replies.{reply_text}
use Rattle.audit_cli.specs.Texts.{trust_through, audit_text, next_text}
use Rattle.audit_cli.proofs.TextLaws.{trust_through-push, text_more}

-- how far the writing came: these lines were answered
pub record HasWritten (hash : Hash) (before now : SinkState) (lines : List (List ℕ)) : Type 0 where
  pub appended : Appends before.held now.held (audit_text hash lines)
  pub none : MeetsNone before now

-- how far a session came
pub record SoFar (hash : Hash) (before now : Outside) (reading : Reading) (trust : Trust) (count : ℕ) : Type 0 where
  pub lines : List (List ℕ)
  pub input : HasGiven before.source now.source reading lines
  pub output : HasWritten hash before.sink now.sink lines
  pub trust_is : trust ≡ trust_through hash nothing_trusted lines
  pub count_is : count ≡ length lines

-- the beginning of a session
pub sofar_none : (hash : Hash) (before : Outside) (reading : Reading) (trust : Trust) → reading ≡ record { held = []; total = 0; ended = false; failed = None } → trust ≡ nothing_trusted → SoFar hash before before reading trust 0
sofar_none hash before reading trust is none = record {
  lines = [];
  input = read_none before.source reading is;
  output = record { appended = Appends-nil before.sink.held; none = (refl, refl) };
  trust_is = none;
  count_is = refl;
}

-- a piece that is written is the text that answers the line that was given
pub answers_line : (hash : Hash) (trust : Trust) (number : ℕ) (piece text given line : List ℕ) → piece ≡ text → text ≡ reply_text number (answer_to hash trust given) → given ≡ line → piece ≡ reply_text number (answer_to hash trust line)
answers_line hash trust number piece text given line p t g = p ∙ t ∙ ap (λ x. reply_text number (answer_to hash trust x)) g

-- the text that answers the next line
pub next_is : (hash : Hash) (before now : Outside) (reading : Reading) (trust : Trust) (count : ℕ) (line : List ℕ) (s : SoFar hash before now reading trust count)
    → reply_text (count + 1) (answer_to hash trust line) ≡ next_text hash s.lines line
next_is hash before now reading trust count line s =
    ap (λ n. reply_text (n + 1) (answer_to hash trust line)) s.count_is ∙ ap (λ t. reply_text (length s.lines + 1) (answer_to hash t line)) s.trust_is

-- a session goes on: a line was given, and its answer written
pub sofar_more : (hash : Hash) (before now : Outside) (source : SourceState) (sink : SinkState) (old new : Reading) (bytes line : List ℕ) (trust trust' : Trust) (count : ℕ)
    → SoFar hash before now old trust count → ReadsBytes now.source source old new bytes → source.faults ≡ now.source.faults → GivesLine source old new bytes line
    → Appends now.sink.held sink.held (reply_text (count + 1) (answer_to hash trust line)) → MeetsNone now.sink sink
    → trust' ≡ trust_after hash trust line
    → SoFar hash before (outside source sink) new trust' (count + 1)
sofar_more hash before now source sink old new bytes line trust trust' count s r k g appended none trusted = record {
  lines = s.lines ++ line ∷ [];
  input = read_more before.source now.source source old new bytes line s.lines s.input r k g;
  output = record {
    appended = subst (Appends before.sink.held sink.held) (sym (text_more hash s.lines line))
        (Appends-trans before.sink.held now.sink.held sink.held (audit_text hash s.lines) (next_text hash s.lines line) s.output.appended
        (subst (Appends now.sink.held sink.held) (next_is hash before now old trust count line s) appended));
    none = (none.0 ∙ s.output.none.0, none.1 ∙ s.output.none.1);
  };
  trust_is = trusted ∙ ap (λ t. trust_after hash t line) s.trust_is ∙ sym (trust_through-push hash nothing_trusted s.lines line);
  count_is = omega (arith, s.count_is, length-append s.lines (line ∷ []));
}
