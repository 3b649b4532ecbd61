-- What is written for a run.
use Rattle.std.specs.Prelude.{if◌then◌else◌, ℕ, List, [], ◌∷◌, ◌++◌, length, filter, Option, None, nat_le}
use Rattle.std.specs.Option.{option_map}
use Rattle.sha2.specs.Sha256.{sha256}
use Rattle.tree_model.specs.Tree.{mth}
use Rattle.ledger_bytes.specs.Digests.{digest}
use Rattle.ledger_bytes.specs.declared.digest.Digest.{Digest}
use Rattle.ledger_bytes.specs.declared.refusal.Refusal.TheVariants.{NotaryFault}
use Rattle.ledger_bytes.specs.declared.mark.TimeMark.{TimeMark}
use Rattle.journal_record.specs.declared.stamp.Stamp.{Stamp}
use Rattle.proof_codec.specs.Claims.{claim_of}
use Rattle.proof_codec.specs.Proofs.{Shown, spelling}
use Rattle.script_lines.specs.Replies.{reply_text}
use Rattle.script_lines.specs.declared.reply.Reply.{Reply as AnyReply}
use Rattle.script_lines.specs.declared.said.Which.{Which}
use Rattle.script_lines.specs.declared.said.Which.TheVariants.{Ledger, Notary}
use Rattle.script_lines.specs.declared.reply.Reply.TheVariants as reply
use Rattle.ledger_model.specs.Clues.{jsns_with}
use Rattle.ledger_model.specs.Getting.{get_reply, reply_unless}
use Rattle.ledger_model.specs.History.{History, id, size, root, blocks, point, block_of, end_of}
use Rattle.ledger_model.specs.Limits.{real_limits}
use Rattle.ledger_model.specs.Outcomes.{outcome}
use Rattle.ledger_model.specs.Anchors.{stamp_of, no_stamp}
use Rattle.ledger_model.specs.Proofs.{shown_of, extension_in, list_extension, size_refusal}
use Rattle.ledger_model.specs.Rules.{job_of, judged_at, after_step, after_window}
use Rattle.ledger_model.specs.Scheme.{Scheme}
use Rattle.ledger_model.specs.Step.{Step}
use Rattle.ledger_model.specs.declared.answer.Answer.{Answer}
use Rattle.ledger_model.specs.declared.answer.Answer.TheVariants.{Reply, Receipt}
use Rattle.ledger_model.specs.declared.job.Job.{Job}
use Rattle.ledger_model.specs.declared.outcome.Outcome.{Outcome}
use Rattle.ledger_model.specs.declared.outcome.Outcome.TheVariants.{Refused, Placed, Again, StampWanted, Reading}
use Rattle.ledger_model.specs.declared.outcome.Query.{Query}
use Rattle.ledger_model.specs.declared.outcome.Query.TheVariants.{Get, Prove, Extend, Clue, Head}

-- the numbers of a clue's journals that are kept, in order: what `clue` lists beside the count of all that there ever were
abbrev pub kept_with : History → Digest → List ℕ
kept_with h clue = filter (λ jsn. nat_le (point h) jsn) (jsns_with h clue)

-- a bound as a reply tells it: the time journal's number, its place in the notary's list, and its time
abbrev pub told_mark : Option TimeMark → Option (ℕ × ℕ × ℕ)
told_mark mark = option_map (λ m. (m.jsn, m.index, m.time)) mark

-- the reply to `prove`: the claim of a proof, and its bytes
abbrev pub proof_reply : Shown → AnyReply
proof_reply shown =
    let claim = claim_of shown in
    reply.Proof claim.n claim.leaf (told_mark claim.lo) (told_mark claim.hi) (spelling shown)

-- the reply to `extend`: the head over a whole list, and the proof that the list goes on from its first m
abbrev pub extension_reply : Which → ℕ → ℕ → List ℕ → List ℕ → AnyReply
extension_reply which m size root proof = reply.Extension which m size (digest root) proof

-- what is told to a job that asks for something, judged against h: one equation for each query; a notary that failed is told
-- in its place
abbrev pub told_reply : History → Step → Query → AnyReply
told_reply h step (Get n) = get_reply h n
told_reply h step (Clue clue) = reply.Clue (length (jsns_with h clue)) (kept_with h clue)
told_reply h step (Prove n) = if step.failed then reply.Refused NotaryFault else proof_reply (shown_of h step.after n)
told_reply h step (Extend Ledger m) = extension_reply Ledger m (size h) (root h (size h)) (extension_in h m)
told_reply h step (Extend Notary m) =
    if step.failed then reply.Refused NotaryFault
    else reply_unless (size_refusal (length step.after) m)
    (extension_reply Notary m (length step.after) (mth sha256 step.after) (list_extension step.after m))
told_reply h step Head =
    if step.failed then reply.Refused NotaryFault
    else reply.Head (digest (id h)) (size h) (digest (root h (size h))) (blocks h) (point h) (length step.after) (digest (mth sha256 step.after))

-- the answer to a job that is judged against h, by what came of it: a refusal, a receipt that waits for its block's end, one that
-- is told once more, why there is no stamp, or what is read
abbrev pub answer_for : History → Step → Outcome → Answer
answer_for h step (Refused refusal) = Reply (reply.Refused refusal)
answer_for h step (Placed placed) = Receipt placed.jsn placed.leaf (stamp_of step)
answer_for h step (Again jsn leaf) = Receipt jsn leaf None
answer_for h step StampWanted = Reply (reply.Refused (no_stamp step))
answer_for h step (Reading query) = Reply (told_reply h step query)

-- the answer to a job, judged against all that was placed before it
unfoldable pub answer_to : History → Step → Job → Answer
answer_to h step job =
    let g = judged_at h job in
    answer_for g step (outcome real_limits (stamp_of step) g job)

-- what a receipt tells of a stamp: its index and its time
abbrev pub told_stamp : Option Stamp → Option (ℕ × ℕ)
told_stamp stamp = option_map (λ s. (s.index, s.time)) stamp

-- The reply of an answer, in a history where the journal's block has ended: a receipt carries that block's number, and the
-- size and root at its end.
-- Example: in a history with the blocks [0] [1 2 3] [4] the receipt of journal 2 reads block 1, size 4 and the root over the
-- first four journals. Every other answer is its reply already.
abbrev pub reply_in : History → Answer → AnyReply
reply_in window (Reply reply) = reply
reply_in window (Receipt jsn leaf stamp) =
    reply.Placed jsn leaf (block_of window jsn) (end_of window jsn) (digest (root window (end_of window jsn))) (told_stamp stamp)

-- the line that is written for a step that is taken against h; `window` is the history at the window's end, where all blocks
-- have ended
unfoldable pub step_text : Scheme → History → History → Step → List ℕ
step_text scheme window h step = reply_text step.lane step.index (reply_in window (answer_to h step (job_of scheme (id h) step.line)))

-- the lines that are written for some steps, each taken against the history that the one before it left
abbrev pub steps_text : Scheme → History → History → List Step → List ℕ
steps_text scheme window h [] = []
steps_text scheme window h (step ∷ steps) = step_text scheme window h step ++ steps_text scheme window (after_step scheme h step) steps

-- the lines that are written for a window
abbrev pub window_text : Scheme → History → List Step → List ℕ
window_text scheme h steps = steps_text scheme (after_window scheme h steps) h steps

-- The lines that are written for some windows, one after the other.
-- Example: on a new ledger, blocks [0], one window has an accepted record, `head` and an accepted record. `head` ends the
-- block of the first, and the window that of the last: [0] [1] [2]. So the text has the receipt of journal 1 with block 1
-- and size 2, a head of size 2, and the receipt of journal 2 with block 2 and size 3.
abbrev pub text : Scheme → History → List (List Step) → List ℕ
text scheme h [] = []
text scheme h (window ∷ windows) = window_text scheme h window ++ text scheme (after_window scheme h window) windows
