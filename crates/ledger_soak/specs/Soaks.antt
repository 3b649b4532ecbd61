-- What the summary of a soak says of its jobs.
use Rattle.std.specs.Prelude.{◌≡◌, ℕ, ◌+◌, false, List, [], ◌∷◌, ◌++◌, codes, decimal, length, map}
use Rattle.ledger_bytes.specs.Digests.{digest}
use Rattle.script_lines.specs.Words.{hex_of, spaced_words}
use Rattle.journal_record.specs.Tags.{tag_key_of}
use Rattle.time_peg.specs.Entries.{NotaryState}
use Rattle.ledger_model.specs.Genesis.{new_ledger}
use Rattle.ledger_model.specs.History.{id, size, point, root}
use Rattle.ledger_model.specs.Rules.{after_window}
use Rattle.ledger_model.specs.Step.{Step}
use Rattle.ledger_model.specs.Took.{Took}
use Rattle.notary_ledger.specs.Notaries.{memory_origin}
use Rattle.ledger_soak.specs.Lines.{member_line}
use Rattle.ledger_soak.specs.Turns.{Turn, Stage, AreTurns, last_stage, soak_genesis, turn_count, was_stopped, was_answered_by, is_no, is_proof_reply}
use Rattle.ledger_soak.specs.declared.summary.Summary.{Summary}

-- the notary of a soak before the first line: its list is empty, and nothing failed
abbrev pub silent_notary : NotaryState
silent_notary = record { origin = memory_origin; entries = []; faults = 0 }

-- where a line stands: its lane, and its number there
abbrev pub place_of : Step → ℕ × ℕ
place_of step = (step.lane, step.index)

-- The window in which members 2, 3 and 4 are placed in a new ledger, each by a line that is the first of lane 0: the notary's part in
-- its steps, in which it doesn't fail.
pub record IsSetUp (steps : List Step) (notary : NotaryState) : Type 0 where
  pub places : map place_of steps ≡ (0, 1) ∷ (0, 1) ∷ (0, 1) ∷ []
  pub lines : map (λ step. step.line) steps ≡ map (member_line (id (new_ledger soak_genesis))) (2 ∷ 3 ∷ 4 ∷ [])
  pub took : Took tag_key_of (new_ledger soak_genesis) silent_notary steps notary
  pub unfailed : notary.faults ≡ 0

-- where a soak stands before its first job
abbrev pub first_stage : ℕ → List Step → NotaryState → Stage
first_stage seed steps notary = record {
  draws = seed;
  history = after_window tag_key_of (new_ledger soak_genesis) steps;
  entries = notary.entries;
  stopped = false;
}

-- Some jobs were drawn and went so, and the summary's numbers are theirs: how many were in hand at a stop, what the ledger is
-- behind the last one, and how many were answered `no`, and by a proof.
pub record IsSoaked (x : Summary) : Type 0 where
  pub setup : List Step
  pub notary : NotaryState
  pub is_set_up : IsSetUp setup notary
  pub turns : List Turn
  pub count_is : length turns ≡ x.count
  pub are_turns : AreTurns x.stop (first_stage x.seed setup notary) turns
  pub sessions_are : x.sessions ≡ turn_count was_stopped (first_stage x.seed setup notary) turns + 1
  pub size_is : x.size ≡ size (last_stage (first_stage x.seed setup notary) turns).history
  pub point_is : x.point ≡ point (last_stage (first_stage x.seed setup notary) turns).history
  pub root_is : let h = (last_stage (first_stage x.seed setup notary) turns).history in x.root ≡ digest (root h (size h))
  pub refused_are : x.refused ≡ turn_count (was_answered_by is_no) (first_stage x.seed setup notary) turns
  pub proofs_are : x.proofs ≡ turn_count (was_answered_by is_proof_reply) (first_stage x.seed setup notary) turns

-- no receipt was lost, and every proof was accepted
pub record IsFaultless (x : Summary) : Type 0 where
  pub none_lost : x.lost ≡ 0
  pub all_accepted : x.yes ≡ x.proofs

-- the line that a soak writes of itself
abbrev pub summary_text : Summary → List ℕ
summary_text x =
    codes "soak" ++ spaced_words (decimal x.seed ∷ decimal x.count ∷ decimal x.stop
    ∷ codes "sessions" ∷ decimal x.sessions ∷ codes "size" ∷ decimal x.size ∷ codes "point" ∷ decimal x.point ∷ [])
    ++ spaced_words (codes "refused" ∷ decimal x.refused ∷ codes "proofs" ∷ decimal x.proofs ∷ codes "yes" ∷ decimal x.yes
    ∷ codes "lost" ∷ decimal x.lost ∷ codes "root" ∷ hex_of x.root ∷ []) ++ codes "\n"

-- a text is that of the summary of a soak with these numbers
pub record TellsSoak (seed count stop : ℕ) (text : List ℕ) : Type 0 where
  pub summary : Summary
  pub seed_is : summary.seed ≡ seed
  pub count_is : summary.count ≡ count
  pub stop_is : summary.stop ≡ stop
  pub soaked : IsSoaked summary
  pub faultless : IsFaultless summary
  -- without stops there is one session
  pub one : stop ≡ 0 → summary.sessions ≡ 1
  pub text_is : text ≡ summary_text summary
