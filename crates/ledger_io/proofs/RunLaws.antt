-- Lemmas on what a run did: how its reading ended, and what it wrote until then.
use Rattle.std.proofs.Common.{◌≡◌, ℕ, ◌<◌, inl, inr, true, false, List, [], ◌∷◌, ◌++◌, length, Option, Some, None, Result, Ok, Err, refl, ap, sym, subst, ◌∙◌, arith, append_assoc, append-nil, length-append}
use Rattle.std.specs.Io.KnownBytes.{Consumes, Appends}
use Rattle.std.proofs.KnownBytes.{Consumes-nil, Appends-nil}
use Rattle.std.proofs.lemmas.List.Elements.{All-nil}
use Rattle.ledger_bytes.specs.Begins.{Begins}
use Rattle.ledger_io.specs.Lines.{script_limit, IsLine, BeginsTooLong}
use Rattle.ledger_bytes.specs.Causes.{count_after}
use Rattle.ledger_io.specs.Outside.{SourceState, SinkState, Outside, outside, MeetsNone}
use Rattle.ledger_io.specs.Reading.{Reading, ReadsBytes, GivesNone, Fails, faults_next}
use Rattle.ledger_io.specs.Runs.{EndsBehind, EndsReading, ending_after, SomeAnswer, SomeOfScript, AreWhole, Served}
use Rattle.std.specs.Prelude.{IfErr}
use Rattle.std.specs.Result.{IsErrAnd}
use Rattle.ledger_io.specs.declared.ending.Ending.{Ending}
use Rattle.ledger_io.specs.declared.ending.Ending.TheVariants as ending
use Rattle.ledger_io.specs.declared.failure.LineErr.{LineErr}
use Rattle.ledger_io.specs.declared.failure.LineErr.TheVariants.{ReadFault, LineTooLong, ScriptTooLong, NoMemory}
use Rattle.ledger_io.proofs.ReadingLaws.{HasGiven, given_all, given_split}

-- whole replies behind whole replies are whole
pub whole_append : (front back : List ℕ) → AreWhole front → AreWhole back → AreWhole (front ++ back)
whole_append front back whole more =
    elim more [
      | inl none ↦ subst AreWhole (sym (append-nil front) ∙ ap (λ x. front ++ x) (sym none)) whole
      | inr last ↦ inr (front ++ last.0, ap (λ x. front ++ x) last.1 ∙ sym (append_assoc front last.0 (10 ∷ [])))
    ]

module _ (before mid after : SourceState) (old new : Reading) (bytes : List ℕ) (lines : List (List ℕ)) (h : HasGiven before mid old lines) (r : ReadsBytes mid after old new bytes) where
  -- at the end of the source all lines are answered
  pub ended_whole : after.faults ≡ mid.faults → GivesNone mid after old new bytes → EndsReading None before after (h.read ++ bytes) lines
  ended_whole k g =
      let end = given_all before mid after old new bytes lines h r g in
      let few : length (h.read ++ bytes) < script_limit = omega (arith, g.short, r.total, h.total, length-append h.read bytes) in
      (k ∙ h.faults, end.1, few, sym end.0, h.each)

  behind : (error : LineErr) (IsRest : List ℕ → Type 0) → Fails mid after old new bytes error → IsRest new.held → EndsBehind (h.read ++ bytes) lines IsRest
  behind error IsRest f rest = record { rest = new.held; split = given_split before mid after old new bytes lines h r error f; rest_is = rest }

  -- at an error the lines that were given are answered
  pub ended_failed : (error : LineErr) → ((error ≡ NoMemory) → ⊥) → after.faults ≡ faults_next {T = Option (List ℕ)} (Err error) old.failed mid.faults → Fails mid after old new bytes error → EndsReading (Some error) before after (h.read ++ bytes) lines
  ended_failed ReadFault other k f =
      let few : length (h.read ++ bytes) < script_limit = omega (arith, f.cause.2, r.total, h.total, length-append h.read bytes) in
      (subst (λ n. after.faults ≡ count_after n) h.faults f.cause.0, few, behind ReadFault IsLine f f.cause.1)
  ended_failed LineTooLong other k f = (k ∙ h.faults, behind LineTooLong BeginsTooLong f f.cause)
  ended_failed ScriptTooLong other k f =
      let all : length (h.read ++ bytes) ≡ script_limit = omega (arith, f.cause.0, r.total, h.total, length-append h.read bytes) in
      (k ∙ h.faults, all, behind ScriptTooLong IsLine f f.cause.1)
  ended_failed NoMemory other k f = absurd (other refl)

  -- for want of memory nothing more is answered
  pub some_at_failure : (answers : List (List ℕ) → List ℕ → Type 0) (IsSo : List ℕ → Type 0) → after.faults ≡ mid.faults → Fails mid after old new bytes NoMemory
      → ((tail : List (List ℕ)) → SomeAnswer answers (lines ++ tail) IsSo) → SomeOfScript answers before after (h.read ++ bytes) IsSo
  some_at_failure answers IsSo k f ahead = inl (k ∙ h.faults, (lines, new.held, given_split before mid after old new bytes lines h r NoMemory f, ahead))

-- some text of the script is so, where some is of the lines that were given, whatever lines follow them
pub some_of_given : (answers : List (List ℕ) → List ℕ → Type 0) (before now : SourceState) (reading : Reading) (lines : List (List ℕ)) (h : HasGiven before now reading lines) (IsSo : List ℕ → Type 0)
    → ((tail : List (List ℕ)) → SomeAnswer answers (lines ++ tail) IsSo) → SomeOfScript answers before now h.read IsSo
some_of_given answers before now reading lines h IsSo ahead =
    elim reading.ended as (λ e. reading.ended ≡ e → SomeOfScript answers before now h.read IsSo) [
      | true ↦ λ e. inr (None, lines, (h.faults, h.at_end e, h.short e, sym (h.ended e), h.each), subst (λ all. SomeAnswer answers all IsSo) (append-nil lines) (ahead []))
      | false ↦ λ e. inl (h.faults, (lines, reading.held, record { is = h.unended e; each = h.each }, ahead))
    ] refl

module _ (answers : List (List ℕ) → List ℕ → Type 0) (before : Outside) where
  -- a run is done, or a fault of reading or what is too long ended it: the lines that are answered then were
  pub served_end : (end : Option LineErr) (source : SourceState) (sink : SinkState) (read replies : List ℕ) (lines : List (List ℕ)) → Consumes before.source.left source.left read
      → EndsReading end before.source source read lines → answers lines replies → Appends before.sink.held sink.held replies → MeetsNone before.sink sink
      → Served answers (ending_after end) before (outside source sink)
  served_end None source sink read replies lines consumed e a appended none = record { read = read; replies = replies; consumed = consumed; appended = appended; replied = record { lines = lines; ended = e; answered = a; written = none } }
  served_end (Some ReadFault) source sink read replies lines consumed e a appended none = record { read = read; replies = replies; consumed = consumed; appended = appended; replied = record { lines = lines; ended = e; answered = a; written = none } }
  served_end (Some LineTooLong) source sink read replies lines consumed e a appended none = record { read = read; replies = replies; consumed = consumed; appended = appended; replied = record { lines = lines; ended = e; answered = a; written = none } }
  served_end (Some ScriptTooLong) source sink read replies lines consumed e a appended none = record { read = read; replies = replies; consumed = consumed; appended = appended; replied = record { lines = lines; ended = e; answered = a; written = none } }
  served_end (Some NoMemory) source sink read replies lines consumed e a appended none = absurd e

  -- words of no form: nothing is read or written
  pub served_usage : Served answers ending.Usage before before
  served_usage = record { read = []; replies = []; consumed = Consumes-nil before.source.left; appended = Appends-nil before.sink.held; replied = (refl, refl, refl) }

  -- memory is missing before the first line
  pub served_unstarted : ((lines : List (List ℕ)) → SomeAnswer answers lines (Begins [])) → Served answers ending.NoMemory before before
  served_unstarted some = record {
    read = [];
    replies = [];
    consumed = Consumes-nil before.source.left;
    appended = Appends-nil before.sink.held;
    replied = ((refl, refl), inl refl, inl (refl, ([], [], record { is = refl; each = All-nil IsLine }, λ further. some further)));
  }

-- an error is the ending that it brings
pub ends_by : {T : Type 0} (IsSo : Ending → Type 0) (result : Result T Ending) (wanted : Ending) → IsErrAnd result (λ ending. ending ≡ wanted) → IsSo wanted → IfErr result IsSo
ends_by IsSo (Ok value) wanted is so = tt
ends_by IsSo (Err ending) wanted is so = subst IsSo (sym is) so
