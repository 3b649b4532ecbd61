-- Lemmas on the ends of a session.
use Rattle.std.proofs.Common.{◌≡◌, ◌≢◌, ℕ, ◌+◌, ◌<◌, inl, inr, List, [], ◌∷◌, ◌++◌, length, take, drop, Option, None, Some, Err, ap, sym, subst, ◌∙◌, arith, append_assoc, length-append}
use Rattle.std.specs.Io.KnownBytes.{Consumes, Appends}
use Rattle.std.proofs.KnownBytes.{Appends-trans}
use Rattle.std.proofs.lemmas.List.{take-append-drop, length-take-le}
use Rattle.ledger_bytes.specs.Begins.{Begins}
use Rattle.ledger_io.specs.Endings.{ending_of}
use Rattle.ledger_io.specs.Outside.{SourceState, SinkState, MeetsOne, Outside, outside}
use Rattle.ledger_io.specs.Reading.{Reading, ReadsBytes, GivesLine, GivesNone, Fails, Gives, faults_next}
use Rattle.ledger_io.specs.Runs.{FallsShort, SomeAnswer}
use Rattle.ledger_io.specs.Writing.{WritesFirst}
use Rattle.ledger_io.specs.declared.ending.Ending.TheVariants as ending
use Rattle.ledger_io.specs.declared.failure.LineErr.{LineErr}
use Rattle.ledger_io.specs.declared.failure.LineErr.TheVariants.{ReadFault, LineTooLong, ScriptTooLong, NoMemory}
use Rattle.ledger_io.specs.declared.writer.WriteErr.{WriteErr}
use Rattle.ledger_io.specs.declared.writer.WriteErr.TheVariants.{WriteFault}
use Rattle.ledger_io.proofs.ReadingLaws.{HasGiven, read_more, given_consumed}
use Rattle.ledger_io.proofs.RunLaws.{ended_whole, ended_failed, some_at_failure, some_of_given, served_end}
use Rattle.tree_model.specs.Tree.{Hash}
use Rattle.audit_core.specs.Trust.{Trust}
use Rattle.audit_cli.specs.Answers.{answer_to}
use Rattle.audit_cli.specs.Replies.{reply_text}
use Rattle.audit_cli.specs.Runs.{AnswersScript, ServedScript}
use Rattle.audit_cli.specs.Texts.{audit_text, next_text}
use Rattle.tree_model.proofs.PathClashes.{Makes}
use Rattle.audit_cli.proofs.SoundLaws.{answered}
use Rattle.audit_cli.proofs.TextLaws.{text_more, text_begins, text_whole}
use Rattle.audit_cli.proofs.SessionLaws.{SoFar, next_is}

-- the text of some lines, and part of what answers the next
part_begins : (hash : Hash) (lines tail : List (List ℕ)) (line : List ℕ) (taken : ℕ) → taken < length (next_text hash lines line)
    → FallsShort (audit_text hash lines ++ take taken (next_text hash lines line)) (audit_text hash ((lines ++ line ∷ []) ++ tail))
part_begins hash lines tail line taken fewer =
    let text = audit_text hash lines in
    let reply = next_text hash lines line in
    let more = text_begins hash (lines ++ line ∷ []) tail in
    let whole : text ++ reply ≡ (text ++ take taken reply) ++ drop taken reply = ap (λ x. text ++ x) (sym (take-append-drop taken reply)) ∙ sym (append_assoc text (take taken reply) (drop taken reply)) in
    let all : audit_text hash ((lines ++ line ∷ []) ++ tail) ≡ (text ++ take taken reply) ++ (drop taken reply ++ more.rest) =
    more.is ∙ ap (λ x. x ++ more.rest) (text_more hash lines line ∙ whole) ∙ append_assoc (text ++ take taken reply) (drop taken reply) more.rest in
    let short : length (text ++ take taken reply) < length (audit_text hash ((lines ++ line ∷ []) ++ tail)) =
    omega (arith, fewer, ap length all, ap length whole, length-append text reply, length-append text (take taken reply), length-append (text ++ take taken reply) (drop taken reply ++ more.rest), length-append (drop taken reply) more.rest, length-append (text ++ take taken reply) (drop taken reply), length-take-le taken reply (omega (arith, fewer))) in
    (record { rest = drop taken reply ++ more.rest; is = all }, short)

module _ (hash : Hash) (makes : Makes hash) (before now : Outside) (source : SourceState) (old new : Reading) (bytes : List ℕ) (trust : Trust) (count : ℕ) (s : SoFar hash before now old trust count) (r : ReadsBytes now.source source old new bytes) where
  read_consumed : Consumes before.source.left source.left (s.input.read ++ bytes)
  read_consumed = given_consumed before.source now.source source old new bytes s.lines s.input r

  -- the session is done
  pub served_done : source.faults ≡ now.source.faults → GivesNone now.source source old new bytes → ServedScript hash ending.Done before (outside source now.sink)
  served_done k g =
      served_end (AnswersScript hash) before None source now.sink (s.input.read ++ bytes) (audit_text hash s.lines) s.lines read_consumed
      (ended_whole before.source now.source source old new bytes s.lines s.input r k g) (answered hash makes s.lines) s.output.appended s.output.none

  -- the text that was written begins that of the lines that were given and any that follow
  begun : (tail : List (List ℕ)) → SomeAnswer (AnswersScript hash) (s.lines ++ tail) (Begins (audit_text hash s.lines))
  begun tail = (audit_text hash (s.lines ++ tail), answered hash makes (s.lines ++ tail), text_begins hash s.lines tail)

  -- an error of reading ends the session
  failed : (error : LineErr) → error ≢ NoMemory → source.faults ≡ faults_next {T = Option (List ℕ)} (Err error) old.failed now.source.faults → Fails now.source source old new bytes error
      → ServedScript hash (ending_of error) before (outside source now.sink)
  failed error other k f =
      served_end (AnswersScript hash) before (Some error) source now.sink (s.input.read ++ bytes) (audit_text hash s.lines) s.lines read_consumed
      (ended_failed before.source now.source source old new bytes s.lines s.input r error other k f) (answered hash makes s.lines) s.output.appended s.output.none

  served_failed : (error : LineErr) → source.faults ≡ faults_next {T = Option (List ℕ)} (Err error) old.failed now.source.faults → Fails now.source source old new bytes error
      → ServedScript hash (ending_of error) before (outside source now.sink)
  served_failed ReadFault k f = failed ReadFault (λ e. let no : ⊥ = cc e in no) k f
  served_failed LineTooLong k f = failed LineTooLong (λ e. let no : ⊥ = cc e in no) k f
  served_failed ScriptTooLong k f = failed ScriptTooLong (λ e. let no : ⊥ = cc e in no) k f
  served_failed NoMemory k f = record {
    read = s.input.read ++ bytes;
    replies = audit_text hash s.lines;
    consumed = read_consumed;
    appended = s.output.appended;
    replied = (s.output.none, text_whole hash s.lines, some_at_failure before.source now.source source old new bytes s.lines s.input r (AnswersScript hash) (Begins (audit_text hash s.lines)) k f begun);
  }

  pub served_error : (error : LineErr) → source.faults ≡ faults_next {T = Option (List ℕ)} (Err error) old.failed now.source.faults → Gives now.source source old new bytes (Err error)
      → ServedScript hash (ending_of error) before (outside source now.sink)
  served_error error k g =
      elim g [
        | inl again ↦ absurd (let no : ⊥ = cc (again.0, s.input.sound) in no)
        | inr f ↦ served_failed error k f
      ]

  module _ (line : List ℕ) (k : source.faults ≡ now.source.faults) (g : GivesLine source old new bytes line) where
    abbrev more : HasGiven before.source source new (s.lines ++ line ∷ [])
    more = read_more before.source now.source source old new bytes line s.lines s.input r k g

    -- the session ends for want of memory, with a line in hand
    pub served_memory : ServedScript hash ending.NoMemory before (outside source now.sink)
    served_memory = record {
      read = more.read;
      replies = audit_text hash s.lines;
      consumed = more.consumed;
      appended = s.output.appended;
      replied = (
        s.output.none,
        text_whole hash s.lines,
        some_of_given (AnswersScript hash) before.source source new (s.lines ++ line ∷ []) more (Begins (audit_text hash s.lines))
            (λ tail. subst (λ all. SomeAnswer (AnswersScript hash) all (Begins (audit_text hash s.lines))) (sym (append_assoc s.lines (line ∷ []) tail)) (begun (line ∷ tail))),
      );
    }

    -- the session ends with a fault of writing, after so many bytes of an answer
    served_fault : (sink : SinkState) (taken : ℕ) → taken < length (next_text hash s.lines line) → Appends now.sink.held sink.held (take taken (next_text hash s.lines line))
        → MeetsOne now.sink sink → ServedScript hash ending.WriteFault before (outside source sink)
    served_fault sink taken fewer part one =
        let replies = audit_text hash s.lines ++ take taken (next_text hash s.lines line) in
        let none = s.output.none in record {
          read = more.read;
          replies = replies;
          consumed = more.consumed;
          appended = Appends-trans before.sink.held now.sink.held sink.held (audit_text hash s.lines) (take taken (next_text hash s.lines line)) s.output.appended part;
          replied = (
            rw (none.0, none.1) at one,
            some_of_given (AnswersScript hash) before.source source new (s.lines ++ line ∷ []) more (FallsShort replies)
                (λ tail. (audit_text hash ((s.lines ++ line ∷ []) ++ tail), answered hash makes ((s.lines ++ line ∷ []) ++ tail), part_begins hash s.lines tail line taken fewer)),
          );
        }

    -- .. of which the sink took the first bytes
    pub served_write : (sink : SinkState) (piece : List ℕ) (error : WriteErr) → piece ≡ reply_text (count + 1) (answer_to hash trust line) → WritesFirst now.sink.held sink.held piece error
        → MeetsOne now.sink sink → ServedScript hash ending.WriteFault before (outside source sink)
    served_write sink piece (WriteFault taken) is first one =
        let text = is ∙ next_is hash before now old trust count line s in
        served_fault sink taken (subst (λ x. taken < length x) text first.0) (subst (λ x. Appends now.sink.held sink.held (take taken x)) text first.1) one
