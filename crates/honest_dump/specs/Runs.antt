-- The histories that runs of lines on new ledgers make, and what an auditor reports who is told the truth of one.
use Rattle.std.specs.Prelude.{◌≡◌, ℕ, ◌<◌, List, [], ◌∷◌, length, take, ⊤}
use Rattle.sha2.specs.Sha256.{sha256}
use Rattle.ledger_bytes.specs.Digests.{digest}
use Rattle.time_peg.specs.Entries.{NotaryState}
use Rattle.tree_model.specs.Tree.{mth}
use Rattle.ledger_model.specs.Genesis.{HasKeys, new_ledger}
use Rattle.ledger_model.specs.History.{History, history, id, root, size}
use Rattle.ledger_model.specs.Rules.{after}
use Rattle.ledger_model.specs.Scheme.{Scheme}
use Rattle.ledger_model.specs.Step.{Step}
use Rattle.ledger_model.specs.Took.{TookAll}
use Rattle.ledger_model.specs.declared.genesis.Genesis.{Genesis}
use Rattle.dump_model.specs.Dumps.{dump_text}
use Rattle.dump_model.specs.Shown.{ledger_dump}
use Rattle.audit_dump.specs.Bytes.{IsReportOf}
use Rattle.audit_dump.specs.Ending.{Late, Passes}
use Rattle.audit_dump.specs.Reports.{IsReport, Report}
use Rattle.audit_dump.specs.declared.late.Given.{Given}

-- A run of lines, in whatever windows, while a notary takes part, and how many blocks are left of what it makes: all, or fewer where
-- it was stopped before the last ones were on the disk.
pub record Run : Type 0 where
  pub windows : List (List Step)
  pub old_notary : NotaryState
  pub new_notary : NotaryState
  pub left : ℕ

-- the first blocks of a history, or all where there are no more
abbrev pub first_blocks : ℕ → History → History
first_blocks n h = history (take n h.closed) []

-- what is left of a run on a history
abbrev pub left_of : Scheme → History → Run → History
left_of scheme h run = first_blocks run.left (after scheme h run.windows)

-- what is left of some runs, each on what the one before it left
abbrev pub left_of_all : Scheme → History → List Run → History
left_of_all scheme h [] = h
left_of_all scheme h (run ∷ runs) = left_of_all scheme (left_of scheme h run) runs

-- along each of these runs the notary goes from its first state to its last, and of each at least the first block is left
abbrev pub AreRuns : Scheme → History → List Run → Type 0
AreRuns scheme h [] = ⊤
AreRuns scheme h (run ∷ runs) =
    (0 < run.left) × TookAll scheme h run.old_notary run.windows run.new_notary × AreRuns scheme (left_of scheme h run) runs

-- A history is what runs on a new ledger made, one after the other. Each may have another notary, and each may have been stopped.
-- Example: journal 0 alone; and journals 0 to 4, where a first run made journals 1 to 3, of which the blocks with 1 and 2 were left, and
-- a second one made journals 3 and 4.
pub record IsOfRuns (scheme : Scheme) (h : History) : Type 0 where
  pub genesis : Genesis
  pub keys : HasKeys genesis
  pub runs : List Run
  pub are : AreRuns scheme (new_ledger genesis) runs
  pub history_is : h ≡ left_of_all scheme (new_ledger genesis) runs

-- what an auditor is given who is told the truth: the ledger's id, its head, and the notary's
abbrev pub honest_given : History → List (List ℕ) → Given
honest_given h entries =
    record {
      id = digest (id h);
      ledger = record { size = size h; root = digest (root h (size h)) };
      notary = record { size = length entries; root = digest (mth sha256 entries) };
    }

-- a report of the dump of a history and of a notary's list, where the auditor is told the truth
abbrev pub IsHonestReport : Scheme → History → List (List ℕ) → Report → Type 0
IsHonestReport scheme h entries report = IsReport scheme (honest_given h entries) (ledger_dump h entries) report

-- that dump passes one of the checks that are made at the end, where the auditor is told the truth
abbrev pub PassesHonestly : History → List (List ℕ) → Late → Type 0
PassesHonestly h entries check = Passes (honest_given h entries) (ledger_dump h entries) check

-- a report of that dump's bytes, where the auditor is told the truth
abbrev pub IsHonestReportOfBytes : Scheme → History → List (List ℕ) → Report → Type 0
IsHonestReportOfBytes scheme h entries report = IsReportOf scheme (honest_given h entries) (dump_text (ledger_dump h entries)) report
