-- Lemmas on a run over a lineage.
use Rattle.std.proofs.Common.{◌≡◌, ◌<◌, ℕ, List, length, take, drop, Result, Ok, Err, refl, sym, ◌∙◌, subst, arith, take-append-drop}
use Rattle.std.proofs.lemmas.List.{length-take-le}
use Rattle.sha2.specs.Sha256.{sha256}
use Rattle.ledger_bytes.specs.declared.digest.Digest.{Digest}
use Rattle.ledger_io.specs.Outside.{MeetsOne, SinkState, Outside}
use Rattle.ledger_io.specs.Writing.{WritesFirst}
use Rattle.ledger_io.specs.declared.ending.Ending.{Ending}
use Rattle.ledger_io.specs.declared.ending.Ending.TheVariants.{Done, Usage, ReadFault, WriteFault, NoMemory, LineTooLong, ScriptTooLong}
use Rattle.ledger_io.specs.declared.writer.WriteErr.{WriteErr}
use Rattle.ledger_io.specs.declared.writer.WriteErr.TheVariants as write_err
use Rattle.merkle_tree.specs.declared.head.Head.{Head}
use Rattle.clue_lineage.specs.declared.answer.LineageNo.{LineageNo}
use Rattle.clue_lineage.specs.declared.answer.Run.{Run}
use Rattle.clue_lineage.proofs.Accepted.{accepted_found}
use Rattle.audit_cli.specs.Lineages.{lineage_line, WritesAnswer, answer_status_behind, AnsweredLineage, SoundLineage}

-- a line that was written in part
pub answer_part : (answer : Result Run LineageNo) (piece : List ℕ) (before after : SinkState) (error : WriteErr) → piece ≡ lineage_line answer → WritesFirst before.held after.held piece error
    → MeetsOne before after → WritesAnswer answer WriteFault before after
answer_part answer piece before after (write_err.WriteFault taken) is first one = record {
  written = take taken piece;
  appended = first.1;
  output = (
    (record { rest = drop taken piece; is = sym is ∙ sym (take-append-drop taken piece) }, subst (λ text. length (take taken piece) < length text) is (omega (arith, first.0, length-take-le taken piece (omega (arith, first.0))))),
    one,
  );
}

-- the status 0 is that of a line that was written whole, and is a yes
is_yes : (ending : Ending) (answer : Result Run LineageNo) → answer_status_behind ending answer ≡ 0 → (run : Run) × (answer ≡ Ok run)
is_yes Done (Ok run) is = (run, refl)
is_yes Done (Err why) is = absurd cc
is_yes Usage answer is = absurd cc
is_yes ReadFault answer is = absurd cc
is_yes WriteFault answer is = absurd cc
is_yes NoMemory answer is = absurd cc
is_yes LineTooLong answer is = absurd cc
is_yes ScriptTooLong answer is = absurd cc

-- what was read then is a lineage that is accepted
pub answered_sound : (clue : Digest) (head : Head) (status : ℕ) (before after : Outside) → AnsweredLineage clue head status before after → status ≡ 0 → SoundLineage clue head before after
answered_sound clue head status before after a zero_is =
    let yes = is_yes a.told.ending a.answer (sym a.told.status_is ∙ zero_is) in
    record {
      bytes = a.is.bytes;
      consumed = a.is.consumed;
      at_end = a.is.at_end;
      run = yes.0;
      accepted = λ plain. accepted_found sha256 a.is.bytes clue head yes.0 plain (sym a.is.answer_is ∙ yes.1);
    }
