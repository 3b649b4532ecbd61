-- A dump of which no fault is reported is true, or shows where it isn't.
use Rattle.std.proofs.Common.{◌≡◌, ◌⊎◌, inl, inr, ℕ, List, length, None, subst}
use Rattle.journal_record.specs.Items.{Item}
use Rattle.sha2.specs.Sha256.{sha256}
use Rattle.sha2.proofs.Facts256.{length-sha256}
use Rattle.tree_model.specs.Tree.{mth}
use Rattle.tree_model.specs.TreeClash.{ShowsOr}
use Rattle.ledger_model.specs.Scheme.{Scheme}
use Rattle.dump_model.specs.Dumps.{Dump, IsDump, dump_text}
use Rattle.dump_model.specs.Truth.{IsTrueDump, dump_clash}
use Rattle.dump_model.proofs.Sound.{sound}
use Rattle.ledger_bytes.specs.Fields.{IsBytes}
use Rattle.audit_dump.specs.Bytes.{IsReportOf}
use Rattle.audit_dump.proofs.ByteReports.{found_dump}
use Rattle.audit_dump.specs.Ending.{Given, Late, Passes}
use Rattle.audit_dump.specs.Ending.Late.{of_erasures, of_purge, of_ledger, of_notary}
use Rattle.audit_dump.specs.Reports.{EndsEarly, EndsLate, IsReport, Report}

-- where no fault is told every check at the end is passed
none_told : (scheme : Scheme) (given : Given) (dump : Dump) (read : List Item) → EndsEarly scheme dump read None ⊎ EndsLate scheme given dump read None → (check : Late) → Passes given dump check
none_told scheme given dump read (inl a) = absurd (let never = a.2 in cc)
none_told scheme given dump read (inr a) = a.2

pub true_or_clash : (scheme : Scheme) (given : Given) (dump : Dump) (report : Report) (headers entries : List (List ℕ)) → IsDump dump → IsReport scheme given dump report → report.fault ≡ None
    → length headers ≡ given.ledger.size → mth sha256 headers ≡ given.ledger.root.0 → length entries ≡ given.notary.size → mth sha256 entries ≡ given.notary.root.0
    → ShowsOr sha256 (IsTrueDump sha256 headers entries dump) (dump_clash sha256 headers entries dump)
true_or_clash scheme given dump report headers entries fits is none size root count noted_root =
    let passed = none_told scheme given dump is.read (subst (λ f. EndsEarly scheme dump is.read f ⊎ EndsLate scheme given dump is.read f) none is.fault) in
    sound sha256 length-sha256 dump given.ledger given.notary headers entries fits (passed of_erasures) (passed of_purge) (passed of_ledger) (passed of_notary).head size root count noted_root

-- the same of bytes: they are those of a dump, and it is so
pub true_bytes : (scheme : Scheme) (given : Given) (bytes : List ℕ) (report : Report) → IsBytes bytes → IsReportOf scheme given bytes report → report.fault ≡ None
    → (dump : Dump) × IsDump dump × (bytes ≡ dump_text dump) × IsReport scheme given dump report
    × ((headers entries : List (List ℕ)) → length headers ≡ given.ledger.size → mth sha256 headers ≡ given.ledger.root.0 → length entries ≡ given.notary.size → mth sha256 entries ≡ given.notary.root.0
    → ShowsOr sha256 (IsTrueDump sha256 headers entries dump) (dump_clash sha256 headers entries dump))
true_bytes scheme given bytes report plain is none =
    let found = found_dump scheme given bytes report plain is none in
    (found.0, found.1.0, found.1.1, found.1.2, λ headers entries size root count noted_root. true_or_clash scheme given found.0 report headers entries found.1.0 found.1.2 none size root count noted_root)
