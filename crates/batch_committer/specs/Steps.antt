-- The steps that a committer takes, one after the other.
use Rattle.std.specs.Prelude.{◌≡◌, ◌≢◌, ℕ, ◌+◌, ◌-◌, ◌<◌, ◌≤◌, false, List, [], ◌∷◌, ◌++◌, length, All}
use Rattle.ledger_bytes.specs.Digests.{digest}
use Rattle.sha2.specs.Sha256.{sha256}
use Rattle.tree_model.specs.Tree.{mth}
use Rattle.journal_record.specs.Blocks.{record_bytes, body_of, block_bytes, AreFrom}
use Rattle.journal_record.specs.Entry.{Entry}
use Rattle.journal_record.specs.Header.{HasWidths}
use Rattle.journal_record.specs.declared.approval.Approval.{Approval}
use Rattle.ledger_model.specs.Dues.{IsWithin}
use Rattle.ledger_model.specs.History.{History, blocks, leaves, root, point, block_of, end_of}
use Rattle.ledger_model.specs.Anchors.{stamp_of}
use Rattle.ledger_model.specs.Lawful.{AllGather}
use Rattle.ledger_model.specs.Limits.{real_limits}
use Rattle.ledger_model.specs.Outcomes.{with_job, outcome}
use Rattle.ledger_model.specs.Rules.{closes_after}
use Rattle.ledger_model.specs.Step.{Step}
use Rattle.ledger_model.specs.Texts.{answer_for}
use Rattle.ledger_model.specs.declared.answer.Answer.{Answer}
use Rattle.ledger_model.specs.declared.due.Due.{Due}
use Rattle.ledger_model.specs.declared.job.Job.{Job}
use Rattle.ledger_model.specs.declared.job.Job.TheVariants.{Append, NewMember, Anchor, Occult, OccultClue, Purge}
use Rattle.ledger_book.specs.Books.{Kept, Serves, sealed_size}
use Rattle.ledger_book.specs.Steps.{OpenGathers}
use Rattle.script_lines.specs.BlockEnds.{BlockEnd, block_end}
use Rattle.block_file.specs.Places.{body_from, place_at}
use Rattle.ledger_open.specs.Places.{AreInOrder}
use Rattle.batch_committer.specs.World.{CommitterState, IsGathering, Located, sealed_part}

-- the answer to a job that is judged against g, by what came of it, with the lane and number of its line
abbrev pub due_by : History → Step → Job → Due
due_by g step job = record { lane = step.lane; index = step.index; answer = answer_for g step (outcome real_limits (stamp_of step) g job) }

-- the end of the block that holds a journal, as its receipt tells it
abbrev pub end_in : History → ℕ → BlockEnd
end_in h jsn = block_end (block_of h jsn) (end_of h jsn) (digest (root h (end_of h jsn)))

-- the end of the last block that has ended
abbrev pub last_end : History → BlockEnd
last_end h = block_end (blocks h - 1) (sealed_size h) (digest (root h (sealed_size h)))

-- From this journal on, every journal of the ended blocks stands in the last of them.
-- Example: with the blocks [0] [1 2 3] [4 5] that is so from journal 4 on, and from journal 6 on, of which there is none.
abbrev pub AreLastFrom : ℕ → History → Type 0
AreLastFrom first h = (jsn : ℕ) → first ≤ jsn → jsn < sealed_size h → end_in h jsn ≡ last_end h

-- of all that is due each receipt's journal stands in a block that has ended, and none is told that is no longer kept
abbrev pub AllKept : Kept → List Due → Type 0
AllKept book dues = All (λ due. IsWithin book.floor book.sealed due.answer) dues

-- the bytes of the open block, as it stands in a file once it has ended
abbrev pub last_bytes : History → List ℕ
last_bytes h = block_bytes (mth sha256 (leaves h)) h.waiting

-- the content and the approvals of a job that may place a journal; no other job has these
abbrev pub HasParts : Job → List ℕ → List Approval → Type 0
HasParts (Append member clue record_content content_digest request by who number) content given = (content ≡ record_content) × (given ≡ by ∷ [])
HasParts (NewMember number key by) content given = (content ≡ []) × (given ≡ by ∷ [])
HasParts Anchor content given = (content ≡ []) × (given ≡ [])
HasParts (Occult target leaf approvals) content given = (content ≡ []) × (given ≡ approvals)
HasParts (OccultClue clue count approvals) content given = (content ≡ []) × (given ≡ approvals)
HasParts (Purge p told approvals) content given = (content ≡ []) × (given ≡ approvals)
HasParts other content given = ⊥

-- a journal was gathered behind those of the open block
pub record IsGathered (old new : CommitterState) (journal : Entry) : Type 0 where
  pub widths : HasWidths journal.header
  pub body : new.body ≡ old.body ++ record_bytes journal
  pub before : new.before ≡ old.before
  pub places : new.places ≡ old.places ++ place_at (body_from old.next + length old.body) journal ∷ []

-- what a committer keeps is what this history says, but for what is due, of which nothing is said
pub record Gathers (k : CommitterState) (h : History) : Type 0 where
  pub serves : Serves k.book h
  pub limits : k.book.limits ≡ real_limits
  pub floor : k.book.floor ≡ point (sealed_part h)
  pub body : k.body ≡ body_of h.waiting
  pub next : AreFrom (sealed_size h) h.waiting
  pub gathered : length h.waiting ≢ 1 → AllGather h.waiting
  pub group : IsGathering k h
  pub located : Located k h group.stored group.blocks

-- a job was judged against g and its journal gathered: this is the answer to it, and but for what is due all is kept as the
-- history after it says
pub record Judged (new : CommitterState) (g : History) (step : Step) (job : Job) (answer : Answer) : Type 0 where
  pub answer_is : answer ≡ answer_for g step (outcome real_limits (stamp_of step) g job)
  pub gathers : Gathers new (with_job real_limits (stamp_of step) g job)

-- the open file is as before, its tail gate stands where it stood, and no block ended
pub record KeepsFile (old new : CommitterState) : Type 0 where
  pub gate : new.gate ≡ old.gate
  pub ended : new.ended ≡ old.ended
  pub next : new.next ≡ old.next
  pub in_a : new.in_a ≡ old.in_a
  pub edition : new.edition ≡ old.edition
  pub copy : new.copy ≡ old.copy

-- the open file and what is due are as before
pub record KeepsRest (old new : CommitterState) : Type 0 where
  pub file : KeepsFile old new
  pub dues : new.dues ≡ old.dues
  pub spelled : new.spelled ≡ old.spelled
  pub lines : new.lines ≡ old.lines

-- at most one journal was placed by a call, no block ended, and those that are gathered are the same
abbrev pub HasGrown : CommitterState → CommitterState → Type 0
HasGrown old new = (new.book.size ≤ old.book.size + 1) × (new.book.sealed ≡ old.book.sealed) × (new.before ≡ old.before)

-- the journals that wait may share their block as before, where the job's own isn't a block of its own
abbrev pub StaysGathered : CommitterState → CommitterState → Job → Type 0
StaysGathered old new job = closes_after job ≡ false → OpenGathers old.book → OpenGathers new.book

-- the contents still stand in their order in front of the place of the next gate
abbrev pub StaysInOrder : CommitterState → CommitterState → Type 0
StaysInOrder old new = AreInOrder 64 (body_from old.next + length old.body) old.places → AreInOrder 64 (body_from new.next + length new.body) new.places
