-- Lemmas on what is due: each receipt's journal is there, and what is due is the same in each later history.
use Rattle.std.proofs.Common.{◌≡◌, ℕ, ◌+◌, ◌<◌, ◌≤◌, List, [], ◌∷◌, ◌++◌, Option, Some, None, refl, ap, sym, ◌∙◌, arith, append_assoc, length-append}
use Rattle.std.specs.Prelude.{⊤}
use Rattle.ledger_bytes.specs.Digests.{digest}
use Rattle.ledger_bytes.specs.declared.digest.Digest.{Digest}
use Rattle.ledger_bytes.specs.declared.refusal.Refusal.{Refusal}
use Rattle.journal_record.specs.Entry.{Entry}
use Rattle.journal_record.specs.declared.stamp.Stamp.{Stamp}
use Rattle.script_lines.specs.Replies.{reply_text}
use Rattle.script_lines.specs.declared.reply.Reply.TheVariants as reply
use Rattle.std.specs.Option.{option_map}
use Rattle.ledger_model.specs.Anchors.{stamp_of, time_journal}
use Rattle.ledger_model.specs.Appends.{append_journal, member_journal, occult_journal, clue_occult_journal, purge_journal}
use Rattle.ledger_model.specs.Dues.{due_for, dues, IsWithin}
use Rattle.ledger_model.specs.Growing.{Grows}
use Rattle.ledger_model.specs.History.{History, id, journals_of, size, root, close, block_of, end_of}
use Rattle.ledger_model.specs.Judgements.{own_refusal}
use Rattle.ledger_model.specs.Limits.{real_limits}
use Rattle.ledger_model.specs.Numbers.{repeated, unless_repeated}
use Rattle.ledger_model.specs.Outcomes.{record_outcome, with_waiting, anchor_outcome, after_judgement, with_job, placed_as, judged_outcome, outcome}
use Rattle.ledger_model.specs.Rules.{settled_history, job_of, after_job, after_step, after_steps, after_window, after}
use Rattle.ledger_model.specs.Scheme.{Scheme}
use Rattle.ledger_model.specs.Step.{Step}
use Rattle.ledger_model.specs.Texts.{answer_for, answer_to, told_stamp, reply_in, step_text, steps_text, window_text, text}
use Rattle.ledger_model.specs.declared.answer.Answer.{Answer}
use Rattle.ledger_model.specs.declared.answer.Answer.TheVariants.{Reply, Receipt}
use Rattle.ledger_model.specs.declared.due.Due.{Due}
use Rattle.ledger_model.specs.declared.job.Job.{Job}
use Rattle.ledger_model.specs.declared.job.Job.TheVariants.{Refused, Append, NewMember, Anchor, Occult, OccultClue, Purge, Ask}
use Rattle.ledger_model.proofs.ProveLaws.{asked}
use Rattle.ledger_model.proofs.RepeatLaws.{repeated_within}
use Rattle.ledger_model.proofs.GrowLaws.{moves_close, grows_not, grows_moved, grows_job, grows_settled, grows_then, grows_size, root_kept, block_of-grows, end_of-grows, end_of-le}

-- each receipt's journal has a number of this range
abbrev pub AllWithin : ℕ → ℕ → List Due → Type 0
AllWithin low high [] = ⊤
AllWithin low high (due ∷ dues) = IsWithin low high due.answer × AllWithin low high dues

-- a journal that is placed has the next number
within_judged : (k : History) (step : Step) (job : Job) (refusal : Option Refusal) (journal : Entry)
    → IsWithin 0 (size (settled_history job (after_judgement refusal (Some journal) k))) (answer_for k step (judged_outcome refusal (placed_as (size k) journal)))
within_judged k step job (Some refusal) journal = tt
within_judged k step job None journal =
    let g = with_waiting (Some journal) k in
    let placed : size k + 1 ≤ size g = omega (arith, length-append (journals_of k.closed) (k.waiting ++ journal ∷ []), length-append k.waiting (journal ∷ []), length-append (journals_of k.closed) k.waiting) in
    (omega arith, omega (arith, placed, grows_size g (settled_history job g) (grows_settled job g)))

-- a record that is repeated is there
within_record : (k : History) (step : Step) (job : Job) (refusal : Option Refusal) (again : Option ℕ) (journal : Entry) → ((n : ℕ) → again ≡ Some n → n < size k)
    → IsWithin 0 (size (settled_history job (after_judgement refusal (unless_repeated again (Some journal)) k))) (answer_for k step (judged_outcome refusal (record_outcome k again journal)))
within_record k step job refusal None journal there = within_judged k step job refusal journal
within_record k step job (Some refusal) (Some n) journal there = tt
within_record k step job None (Some n) journal there = (omega arith, omega (arith, there n refl, grows_size k (settled_history job k) (grows_settled job k)))

-- a time journal has the next number
within_anchor : (k : History) (step : Step) (refusal : Option Refusal) (stamp : Option Stamp)
    → IsWithin 0 (size (settled_history Anchor (after_judgement refusal (option_map (time_journal (size k)) stamp) k))) (answer_for k step (judged_outcome refusal (anchor_outcome k stamp)))
within_anchor k step (Some refusal) stamp = tt
within_anchor k step None None = tt
within_anchor k step None (Some stamp) = within_judged k step Anchor None (time_journal (size k) stamp)

-- a receipt's journal is there: it is the one that the job places, or that it repeats
pub within_job : (k : History) (step : Step) (job : Job) → IsWithin 0 (size (after_job k step job)) (answer_to k step job)
unfolding after_job answer_to with_job outcome
within_job k step (Refused refusal) = tt
within_job k step (Append member clue content content_digest request by who number) =
    let job = Append member clue content content_digest request by who number in
    within_record k step job (own_refusal real_limits k job) (repeated k member number request) (append_journal k member clue content content_digest request by who number) (λ n is. (repeated_within k member number request n is).1)
within_job k step (NewMember number key by) =
    let job = NewMember number key by in within_judged k step job (own_refusal real_limits k job) (member_journal (size k) number key by)
within_job k step Anchor = within_anchor (close k) step (own_refusal real_limits (close k) Anchor) (stamp_of step)
within_job k step (Occult target leaf given) =
    let job = Occult target leaf given in
    within_judged (close k) step job (own_refusal real_limits (close k) job) (occult_journal (size (close k)) target leaf given)
within_job k step (OccultClue clue count given) =
    let job = OccultClue clue count given in
    within_judged (close k) step job (own_refusal real_limits (close k) job) (clue_occult_journal (size (close k)) clue count given)
within_job k step (Purge p told given) =
    let job = Purge p told given in
    within_judged (close k) step job (own_refusal real_limits (close k) job) (purge_journal (close k) p given)
within_job k step (Ask query) = asked (IsWithin _ _) (close k) step (own_refusal real_limits (close k) (Ask query)) query (λ why is. tt) tt

within_step : (scheme : Scheme) (k : History) (step : Step) → IsWithin 0 (size (after_step scheme k step)) (due_for scheme k step).answer
unfolding after_step
within_step scheme k step = within_job k step (job_of scheme (id k) step.line)

pub grows_step : (scheme : Scheme) (k : History) (step : Step) → Grows k (after_step scheme k step)
unfolding after_step
grows_step scheme k step = grows_job k step (job_of scheme (id k) step.line)

pub grows_steps : (scheme : Scheme) (k : History) (steps : List Step) → Grows k (after_steps scheme k steps)
grows_steps scheme k [] = grows_not k
grows_steps scheme k (step ∷ steps) = grows_then k (after_step scheme k step) (after_steps scheme (after_step scheme k step) steps) (grows_step scheme k step) (grows_steps scheme (after_step scheme k step) steps)

pub grows_window : (scheme : Scheme) (k : History) (steps : List Step) → Grows k (after_window scheme k steps)
grows_window scheme k steps = grows_then k (after_steps scheme k steps) (after_window scheme k steps) (grows_steps scheme k steps) (grows_moved (after_steps scheme k steps) (close (after_steps scheme k steps)) (moves_close (after_steps scheme k steps)))

pub grows_windows : (scheme : Scheme) (k : History) (windows : List (List Step)) → Grows k (after scheme k windows)
grows_windows scheme k [] = grows_not k
grows_windows scheme k (window ∷ windows) =
    let g = after_window scheme k window in grows_then k g (after scheme g windows) (grows_window scheme k window) (grows_windows scheme g windows)

pub within_wider : (low lower high higher : ℕ) (answer : Answer) → lower ≤ low → high ≤ higher → IsWithin low high answer → IsWithin lower higher answer
within_wider low lower high higher (Reply reply) l h w = tt
within_wider low lower high higher (Receipt jsn leaf stamp) l h w = (omega (arith, w.0), omega (arith, w.1))

-- the receipts of some steps are for journals that are there
pub dues_within : (scheme : Scheme) (k : History) (steps : List Step) → AllWithin 0 (size (after_steps scheme k steps)) (dues scheme k steps)
dues_within scheme k [] = tt
dues_within scheme k (step ∷ steps) =
    let g = after_step scheme k step in
    let last = after_steps scheme g steps in (
      within_wider 0 0 (size g) (size last) (due_for scheme k step).answer (omega arith) (grows_size g last (grows_steps scheme g steps)) (within_step scheme k step),
      dues_within scheme g steps,
    )

-- the replies of answers in one history are those in another
abbrev Agree : History → History → Answer → Type 0
Agree window g answer = reply_in window answer ≡ reply_in g answer

pub receipt_kept : (g window : History) (jsn : ℕ) (leaf : Digest) (stamp : Option Stamp) → g.waiting ≡ [] → Grows g window → jsn < size g → Agree window g (Receipt jsn leaf stamp)
receipt_kept g window jsn leaf stamp none a below =
    let at = end_of-grows g window jsn none a below in
    ap (λ b. reply.Placed jsn leaf b (end_of window jsn) (digest (root window (end_of window jsn))) (told_stamp stamp)) (block_of-grows g window jsn none a below)
    ∙ ap (λ n. reply.Placed jsn leaf (block_of g jsn) n (digest (root window n)) (told_stamp stamp)) at
    ∙ ap (λ r. reply.Placed jsn leaf (block_of g jsn) (end_of g jsn) (digest r) (told_stamp stamp)) (root_kept g window a.more (end_of g jsn) a.journals_are (end_of-le g jsn none below))

pub answer_kept : (g window : History) (low : ℕ) (answer : Answer) → g.waiting ≡ [] → Grows g window → IsWithin low (size g) answer → Agree window g answer
answer_kept g window low (Reply reply) none a w = refl
answer_kept g window low (Receipt jsn leaf stamp) none a w = receipt_kept g window jsn leaf stamp none a w.1

-- the text of some steps in a later history is that in the history where their blocks have ended
pub steps_kept : (scheme : Scheme) (k g window : History) (low : ℕ) (steps : List Step) → g.waiting ≡ [] → Grows g window → AllWithin low (size g) (dues scheme k steps) → steps_text scheme window k steps ≡ steps_text scheme g k steps
unfolding step_text
steps_kept scheme k g window low [] none a w = refl
steps_kept scheme k g window low (step ∷ steps) none a w =
    ap (λ r. reply_text step.lane step.index r ++ steps_text scheme window (after_step scheme k step) steps) (answer_kept g window low (due_for scheme k step).answer none a w.0)
    ∙ ap (λ rest. step_text scheme g k step ++ rest) (steps_kept scheme (after_step scheme k step) g window low steps none a w.1)

steps_text-append : (scheme : Scheme) (window k : History) (xs ys : List Step) → steps_text scheme window k (xs ++ ys) ≡ steps_text scheme window k xs ++ steps_text scheme window (after_steps scheme k xs) ys
steps_text-append scheme window k [] ys = refl
steps_text-append scheme window k (x ∷ xs) ys =
    ap (λ rest. step_text scheme window k x ++ rest) (steps_text-append scheme window (after_step scheme k x) xs ys)
    ∙ sym (append_assoc (step_text scheme window k x) (steps_text scheme window (after_step scheme k x) xs) (steps_text scheme window (after_steps scheme (after_step scheme k x) xs) ys))

pub after_steps-append : (scheme : Scheme) (k : History) (xs ys : List Step) → after_steps scheme k (xs ++ ys) ≡ after_steps scheme (after_steps scheme k xs) ys
after_steps-append scheme k [] ys = refl
after_steps-append scheme k (x ∷ xs) ys = after_steps-append scheme (after_step scheme k x) xs ys

pub all_higher : (low high higher : ℕ) (ds : List Due) → high ≤ higher → AllWithin low high ds → AllWithin low higher ds
all_higher low high higher [] h w = tt
all_higher low high higher (due ∷ ds) h w = (within_wider low low high higher due.answer (omega arith) h w.0, all_higher low high higher ds h w.1)

-- what is due for steps and more
pub dues-append : (scheme : Scheme) (k : History) (xs ys : List Step) → dues scheme k (xs ++ ys) ≡ dues scheme k xs ++ dues scheme (after_steps scheme k xs) ys
dues-append scheme k [] ys = refl
dues-append scheme k (x ∷ xs) ys = ap (λ rest. due_for scheme k x ∷ rest) (dues-append scheme (after_step scheme k x) xs ys)

-- the text of some windows and more
pub text-append : (scheme : Scheme) (k : History) (xs ys : List (List Step)) → text scheme k (xs ++ ys) ≡ text scheme k xs ++ text scheme (after scheme k xs) ys
text-append scheme k [] ys = refl
text-append scheme k (x ∷ xs) ys =
    ap (λ rest. window_text scheme k x ++ rest) (text-append scheme (after_window scheme k x) xs ys) ∙ sym (append_assoc (window_text scheme k x) (text scheme (after_window scheme k x) xs) (text scheme (after scheme (after_window scheme k x) xs) ys))
