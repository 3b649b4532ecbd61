-- The dump of a history that runs make has no fault.
use Rattle.std.proofs.Common.{◌≡◌, ℕ, ◌+◌, length, List, [], ◌∷◌, ◌++◌, map, drop, inr, Option, None, Some, refl, sym, ap, ◌∙◌, subst, append_assoc}
use Rattle.std.specs.Prelude.{count_by}
use Rattle.std.specs.Option.{option_map}
use Rattle.std.proofs.lemmas.List.{map-append}
use Rattle.ledger_io.specs.Outside.{SourceState}
use Rattle.journal_record.specs.Entry.{Entry}
use Rattle.member_book.specs.Erasures.{is_time}
use Rattle.ledger_model.specs.Behind.{AreBehind, first_of}
use Rattle.ledger_model.specs.History.{History, id, journals, point}
use Rattle.ledger_model.specs.Pegs.{Pegged}
use Rattle.ledger_model.specs.Scheme.{Scheme}
use Rattle.dump_model.specs.Checks.{is_erased}
use Rattle.dump_model.specs.Dumps.{Dump, IsDump, dump_text}
use Rattle.dump_model.specs.Shown.{base_at, shown, ledger_dump}
use Rattle.audit_dump.specs.Audits.{TellsReport}
use Rattle.audit_dump.specs.Ending.{Late}
use Rattle.audit_dump.specs.Ending.Late.{of_id, of_erasures, of_purge, of_ledger, of_times, of_notary}
use Rattle.audit_dump.specs.Reading.{AreGood}
use Rattle.audit_dump.specs.Reports.{Report}
use Rattle.audit_dump.specs.Told.{fault_of, report_of}
use Rattle.audit_dump.specs.declared.report.Fault.{Fault}
use Rattle.audit_dump.specs.declared.report.Report.{Report as ReportTold}
use Rattle.audit_dump.proofs.Audited.{of_input}
use Rattle.audit_dump.proofs.ByteReports.{bytes_tell, told_of_bytes}
use Rattle.audit_dump.proofs.OneReport.{one_report}
use Rattle.honest_dump.specs.Runs.{honest_given, IsHonestReport, IsHonestReportOfBytes, IsOfRuns, PassesHonestly}
use Rattle.honest_dump.proofs.Behind.{placed_behind}
use Rattle.honest_dump.proofs.Dumped.{dump_fits}
use Rattle.honest_dump.proofs.Facts.{before, made, whole_is}
use Rattle.honest_dump.proofs.Heads.{has_erasures, has_id, has_ledger_head, has_notary_list}
use Rattle.honest_dump.proofs.Links.{has_purge}
use Rattle.honest_dump.proofs.Order.{dump_behind, journals_are, seen_all, whole_item}
use Rattle.honest_dump.proofs.Seen.{seen}
use Rattle.honest_dump.proofs.Times.{has_times}

-- the report without a fault
abbrev pub clean_report : Dump → Report
clean_report dump =
    record {
      size = first_of dump.base + length dump.items;
      kept = length dump.items;
      point = first_of dump.base;
      occulted = count_by is_erased dump.items;
      times = count_by (λ item. is_time item.header.kind) dump.items;
      fault = None;
    }

no_fault_told : (fault : Option Fault) → option_map fault_of fault ≡ None → fault ≡ None
no_fault_told None is = refl
no_fault_told (Some fault) is = absurd cc

module _ (scheme : Scheme) (h : History) (r : IsOfRuns scheme h) where
  kept_good : (front es : List Entry) → drop (point h) (journals h) ≡ front ++ es → AreBehind (base_at h (point h)) (seen_all h front) (seen_all h es) → AreGood scheme (id h) (base_at h (point h)) (seen_all h front) (map (shown h) es)
  kept_good front [] is next = tt
  kept_good front (e ∷ es) is next =
      let m = made scheme h r in
      let one : seen_all h (front ++ e ∷ []) ≡ seen_all h front ++ seen h e ∷ [] = map-append (seen h) front (e ∷ []) in (
        record {
          next = next.0;
          whole = whole_item h m (before h m front e es is) e es (whole_is h m front e es is);
          placed = placed_behind scheme h r front e es is;
        },
        subst (λ (l : List Entry). AreGood scheme (id h) (base_at h (point h)) l (map (shown h) es)) one
            (kept_good (front ++ e ∷ []) es (is ∙ sym (append_assoc front (e ∷ []) es)) (subst (λ (l : List Entry). AreBehind (base_at h (point h)) l (seen_all h es)) (sym one) next.1)),
      )

  pub all_good : (entries : List (List ℕ)) → AreGood scheme (id h) (ledger_dump h entries).base [] (ledger_dump h entries).items
  unfolding ledger_dump
  all_good entries =
      let kept = drop (point h) (journals h) in
      kept_good [] kept refl (subst (AreBehind (base_at h (point h)) []) (journals_are h kept) (dump_behind h (made scheme h r) entries))

  module _ (entries : List (List ℕ)) (pegged : Pegged h entries) where
    pub passes_all : (check : Late) → PassesHonestly h entries check
    passes_all of_id = has_id h (made scheme h r) entries
    passes_all of_erasures = has_erasures h (made scheme h r) entries
    passes_all of_purge = has_purge scheme h entries r (made scheme h r)
    passes_all of_ledger = has_ledger_head h (made scheme h r) entries
    passes_all of_times = has_times h (made scheme h r) entries pegged
    passes_all of_notary = has_notary_list h (made scheme h r) entries pegged

    pub clean : IsHonestReport scheme h entries (clean_report (ledger_dump h entries))
    unfolding ledger_dump
    clean = record {
      read = (ledger_dump h entries).items;
      counts = record { size = refl; kept = refl; point = refl; occulted = refl; times = refl };
      fault = inr (refl, all_good entries, passes_all);
    }

    pub never_fails : (report : Report) → IsHonestReport scheme h entries report → report.fault ≡ None
    never_fails report is = ap (λ (x : Report). x.fault) (one_report scheme _ (ledger_dump h entries) report (clean_report (ledger_dump h entries)) is clean)

    -- ---- its bytes

    fits : IsDump (ledger_dump h entries)
    fits = dump_fits h (made scheme h r) entries pegged

    pub clean_bytes : IsHonestReportOfBytes scheme h entries (clean_report (ledger_dump h entries))
    clean_bytes = told_of_bytes scheme _ (ledger_dump h entries) fits (clean_report (ledger_dump h entries)) clean

    pub bytes_never_fail : (report : Report) → IsHonestReportOfBytes scheme h entries report → report.fault ≡ None
    bytes_never_fail report is = never_fails report (bytes_tell scheme _ (ledger_dump h entries) fits report is)

    -- what an audit tells of them
    pub audit_never_fails : (before after : SourceState) (report : ReportTold) → before.left ≡ Some (dump_text (ledger_dump h entries)) → TellsReport scheme (honest_given h entries) before after report → report.fault ≡ None
    audit_never_fails before after report input told =
        no_fault_told report.fault (bytes_never_fail (report_of report) (of_input scheme (honest_given h entries) (dump_text (ledger_dump h entries)) before after report input told))
