-- Lemmas on a run over a dump.
use Rattle.std.proofs.Common.{◌≡◌, ◌<◌, ℕ, List, [], length, take, drop, Option, Some, None, option_map, refl, sym, ◌∙◌, subst, arith, append-nil, take-append-drop}
use Rattle.std.proofs.lemmas.List.{length-take-le}
use Rattle.ledger_io.specs.Outside.{MeetsOne, SinkState, Outside}
use Rattle.ledger_io.specs.Writing.{WritesFirst}
use Rattle.ledger_io.specs.declared.ending.Ending.{Ending}
use Rattle.ledger_io.specs.declared.ending.Ending.TheVariants.{Done, Usage, ReadFault, WriteFault, NoMemory, LineTooLong, ScriptTooLong}
use Rattle.ledger_io.specs.declared.writer.WriteErr.{WriteErr}
use Rattle.ledger_io.specs.declared.writer.WriteErr.TheVariants as write_err
use Rattle.ledger_model.specs.Scheme.{Scheme}
use Rattle.audit_dump.specs.Bytes.{IsReportOf}
use Rattle.audit_dump.specs.Reports.{Fault, Report}
use Rattle.audit_dump.specs.Told.{fault_of, report_of}
use Rattle.audit_dump.specs.declared.late.Given.{Given}
use Rattle.audit_dump.specs.declared.report.Fault.{Fault as FaultTold}
use Rattle.audit_dump.proofs.Truth.{true_bytes}
use Rattle.merkle_tree.specs.declared.head.Head.{Head}
use Rattle.ledger_bytes.specs.declared.digest.Digest.{Digest}
use Rattle.audit_cli.specs.Dumps.{Reported, SoundDump, WritesLine, status_behind}
use Rattle.audit_cli.specs.ReportLines.{report_line}
use Rattle.audit_cli.proofs.RuleLaws.{dump_rule, lawful_dump, under_head}

-- a line that was written in part
pub line_part : (report : Report) (piece : List ℕ) (before after : SinkState) (error : WriteErr) → piece ≡ report_line report → WritesFirst before.held after.held piece error
    → MeetsOne before after → WritesLine report WriteFault before after
line_part report piece before after (write_err.WriteFault taken) is first one = record {
  written = take taken piece;
  appended = first.1;
  output = (
    (record { rest = drop taken piece; is = sym is ∙ sym (take-append-drop taken piece) }, subst (λ text. length (take taken piece) < length text) is (omega (arith, first.0, length-take-le taken piece (omega (arith, first.0))))),
    one,
  );
}

-- ---- a dump without a fault

-- the status 0 is that of a line that was written whole, of a report without a fault
no_fault : (ending : Ending) (fault : Option Fault) → status_behind ending fault ≡ 0 → fault ≡ None
no_fault Done None is = refl
no_fault Done (Some fault) is = absurd cc
no_fault Usage fault is = absurd cc
no_fault ReadFault fault is = absurd cc
no_fault WriteFault fault is = absurd cc
no_fault NoMemory fault is = absurd cc
no_fault LineTooLong fault is = absurd cc
no_fault ScriptTooLong fault is = absurd cc

told_none : (fault : Option FaultTold) → option_map fault_of fault ≡ None → fault ≡ None
told_none None is = refl
told_none (Some fault) is = absurd cc

-- what was read then is a true dump
pub told_sound : (scheme : Scheme) (id : Digest) (ledger notary : Head) (status : ℕ) (before after : Outside) → Reported scheme id ledger notary status before after → status ≡ 0
    → SoundDump ledger notary before after
told_sound scheme id ledger notary status before after r zero_is =
    let none : (report_of r.report).fault ≡ None = no_fault r.told.ending (report_of r.report).fault (sym r.told.status_is ∙ zero_is) in
    let is = subst (λ bytes. IsReportOf scheme (record { id = id; ledger = ledger; notary = notary }) bytes (report_of r.report)) (append-nil r.tells.bytes) (r.tells.over [] (λ end. refl)) in
    record {
      bytes = r.tells.bytes;
      consumed = r.tells.consumed;
      at_end = r.tells.end (told_none r.report.fault none);
      sound = λ plain.
          let given : Given = record { id = id; ledger = ledger; notary = notary } in
          let dump = true_bytes scheme given r.tells.bytes (report_of r.report) plain is none in
          record {
            dump = dump.0;
            dump_is = dump.1;
            text = dump.2;
            head = under_head scheme given dump.0 (report_of r.report) dump.1 dump.3 none;
            lawful = lawful_dump scheme given dump.0 (report_of r.report) dump.1 dump.3 none;
            rule = dump_rule scheme given dump.0 (report_of r.report) dump.1 dump.3 none;
            holds = dump.4;
          };
    }
