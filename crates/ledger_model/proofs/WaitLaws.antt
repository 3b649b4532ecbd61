-- Lemmas on receipts that wait for their block's end, and on what is written once it has ended.
use Rattle.std.specs.Prelude.{slice_get}
use Rattle.std.proofs.Common.{true, false, cond, ◌≡◌, ℕ, zero, suc, ◌<◌, ◌≤◌, ◌⊎◌, inl, inr, List, [], ◌∷◌, ◌++◌, length, Option, Some, None, refl, ap, sym, subst, ◌∙◌, arith, append_assoc, append-nil, length-append}
use Rattle.std.proofs.lemmas.List.{map-append, length-map}
use Rattle.std.proofs.lemmas.List.Concat.{flat_map-append}
use Rattle.std.proofs.lemmas.Option.{none-some, slice_get_within}
use Rattle.ledger_bytes.specs.Begins.{Begins}
use Rattle.ledger_bytes.specs.Digests.{digest}
use Rattle.ledger_bytes.specs.declared.digest.Digest.{Digest}
use Rattle.ledger_bytes.specs.declared.refusal.Refusal.{Refusal}
use Rattle.journal_record.specs.Entry.{Entry}
use Rattle.script_lines.specs.Replies.{reply_text}
use Rattle.ledger_model.specs.Appends.{append_journal, member_journal, occult_journal, clue_occult_journal, purge_journal}
use Rattle.ledger_model.specs.Dues.{IsWithin, due_line, due_lines, digests_of, HasLeaf, IsHeadOf, IsWaiting, AllWaiting, IsIn, AllIn}
use Rattle.ledger_model.specs.Growing.{Grows}
use Rattle.ledger_model.specs.History.{History, history, id, blocks, point, journals, journals_of, size, root, close, leaf_digest}
use Rattle.ledger_model.specs.Judgements.{own_refusal}
use Rattle.ledger_model.specs.Limits.{real_limits}
use Rattle.ledger_model.specs.Numbers.{repeated, unless_repeated}
use Rattle.ledger_model.specs.Outcomes.{record_outcome, placed_journal, with_waiting, after_judgement, with_job, placed_as, anchor_outcome, judged_outcome, outcome}
use Rattle.ledger_model.specs.Anchors.{stamp_of, time_journal}
use Rattle.std.specs.Option.{option_map}
use Rattle.sha2.specs.Sha256.{sha256}
use Rattle.tree_model.specs.Tree.{mth}
use Rattle.journal_record.specs.declared.stamp.Stamp.{Stamp}
use Rattle.ledger_bytes.specs.declared.refusal.Refusal.TheVariants.{NotaryFault}
use Rattle.script_lines.specs.Receipts.{OfReceipt, OfHead}
use Rattle.script_lines.specs.declared.reply.Reply.{Reply as AnyReply}
use Rattle.script_lines.specs.declared.said.Which.{Which}
use Rattle.script_lines.specs.declared.said.Which.TheVariants.{Ledger, Notary}
use Rattle.script_lines.specs.declared.reply.Reply.TheVariants as reply
use Rattle.ledger_model.specs.declared.outcome.Query.TheVariants as query
use Rattle.ledger_model.specs.Step.{Step}
use Rattle.ledger_model.specs.Getting.{reply_unless}
use Rattle.ledger_model.specs.Proofs.{list_extension, size_refusal}
use Rattle.ledger_model.specs.Rules.{closes_before}
use Rattle.ledger_model.specs.Texts.{told_reply, answer_for, extension_reply}
use Rattle.ledger_model.specs.declared.answer.Answer.{Answer}
use Rattle.ledger_model.specs.declared.answer.Answer.TheVariants.{Reply, Receipt}
use Rattle.ledger_model.specs.declared.due.Due.{Due}
use Rattle.ledger_model.specs.declared.job.Job.{Job}
use Rattle.ledger_model.specs.declared.job.Job.TheVariants.{Refused, Append, NewMember, Anchor, Occult, OccultClue, Purge, Ask}
use Rattle.ledger_model.proofs.DueLaws.{answer_kept}
use Rattle.ledger_model.proofs.RepeatLaws.{leaf_there, point_before, repeated_within}
use Rattle.ledger_model.specs.declared.outcome.Outcome.TheVariants.{Reading}
use Rattle.ledger_model.specs.declared.outcome.Query.{Query}
use Rattle.ledger_model.proofs.GetLaws.{get_told}
use Rattle.ledger_model.proofs.ProveLaws.{told_proof}
use Rattle.ledger_model.proofs.GrowLaws.{close_none, grows_close, grows_size, size_closed, root_kept}

-- an element that is there stays there
pub slice_get-more : {A : Type 0} (xs ys : List A) (i : ℕ) (a : A) → slice_get xs i ≡ Some a → slice_get (xs ++ ys) i ≡ Some a
slice_get-more [] ys i a is = absurd (none-some a is)
slice_get-more (x ∷ xs) ys zero a is = is
slice_get-more (x ∷ xs) ys (suc i) a is = slice_get-more xs ys i a is

pub slice_get-last : {A : Type 0} (xs : List A) (a : A) → slice_get (xs ++ a ∷ []) (length xs) ≡ Some a
slice_get-last [] a = refl
slice_get-last (x ∷ xs) a = slice_get-last xs a

abbrev digest_at : Entry → Digest
digest_at journal = digest (leaf_digest journal)

-- a journal that is there stays there
pub leaf_more : (js more : List Entry) (jsn : ℕ) (leaf : Digest) → HasLeaf js jsn leaf → HasLeaf (js ++ more) jsn leaf
leaf_more js more jsn leaf has = ap (λ ds. slice_get ds jsn) (map-append digest_at js more) ∙ slice_get-more (digests_of js) (digests_of more) jsn leaf has

leaf_last : (js : List Entry) (journal : Entry) → HasLeaf (js ++ journal ∷ []) (length js) (digest (leaf_digest journal))
leaf_last js journal =
    ap (λ ds. slice_get ds (length js)) (map-append digest_at js (journal ∷ []))
    ∙ ap (λ n. slice_get (digests_of js ++ digest_at journal ∷ []) n) (sym (length-map js digest_at))
    ∙ slice_get-last (digests_of js) (digest_at journal)

pub leaf_within : (js : List Entry) (jsn : ℕ) (leaf : Digest) → HasLeaf js jsn leaf → suc jsn ≤ length js
leaf_within js jsn leaf has = omega (arith, slice_get_within (digests_of js) jsn leaf has, length-map js digest_at)

-- journals more wait in the open block
pub record Waits (h g : History) : Type 0 where
  pub more : List Entry
  pub is : g ≡ history h.closed (h.waiting ++ more)

pub waits_not : (h : History) → Waits h h
waits_not h = record { more = []; is = ap (history h.closed) (sym (append-nil h.waiting)) }

waits_with : (h : History) (journal : Option Entry) → Waits h (with_waiting journal h)
waits_with h None = waits_not h
waits_with h (Some journal) = record { more = journal ∷ []; is = refl }

waits_judged : (h : History) (refusal : Option Refusal) (journal : Option Entry) → Waits h (after_judgement refusal journal h)
waits_judged h (Some refusal) journal = waits_not h
waits_judged h None journal = waits_with h journal

pub waits_job : (h : History) (step : Step) (job : Job) → Waits h (with_job real_limits (stamp_of step) h job)
unfolding with_job
waits_job h step job = waits_judged h (own_refusal real_limits h job) (placed_journal h (stamp_of step) job)

waits_journals : (h g : History) (x : Waits h g) → journals g ≡ journals h ++ x.more
waits_journals h g x = ap journals x.is ∙ sym (append_assoc (journals_of h.closed) h.waiting x.more)

pub waits_closed : (h g : History) → Waits h g → g.closed ≡ h.closed
waits_closed h g x = ap (λ (k : History). k.closed) x.is

-- receipts that waited wait on
still_waiting : (h g : History) (answer : Answer) → Waits h g → IsWaiting h answer → IsWaiting g answer
still_waiting h g (Reply reply) x w = (w.0, subst (λ (bs : List (List Entry)). OfHead (IsHeadOf (journals_of bs)) reply) (sym (waits_closed h g x)) w.1)
still_waiting h g (Receipt jsn leaf stamp) x w = (
  subst (λ (bs : List (List Entry)). (length (journals_of bs) ≤ jsn) ⊎ (point (history bs []) ≤ jsn)) (sym (waits_closed h g x)) w.0,
  ap (λ js. slice_get (digests_of js) jsn) (waits_journals h g x) ∙ leaf_more (journals h) x.more jsn leaf w.1,
)

pub all_still_waiting : (h g : History) (ds : List Due) → Waits h g → AllWaiting h ds → AllWaiting g ds
all_still_waiting h g [] x w = tt
all_still_waiting h g (d ∷ ds) x w = (still_waiting h g d.answer x w.0, all_still_waiting h g ds x w.1)

pub waiting-append : (h : History) (xs ys : List Due) → AllWaiting h xs → AllWaiting h ys → AllWaiting h (xs ++ ys)
waiting-append h [] ys x y = y
waiting-append h (d ∷ xs) ys x y = (x.0, waiting-append h xs ys x.1 y)

pub waiting-first : (h : History) (xs ys : List Due) → AllWaiting h (xs ++ ys) → AllWaiting h xs
waiting-first h [] ys x = tt
waiting-first h (d ∷ xs) ys x = (x.0, waiting-first h xs ys x.1)

-- what is due for a job waits with its journal
placed_waits : (h : History) (step : Step) (refusal : Option Refusal) (journal : Entry) → IsWaiting (after_judgement refusal (Some journal) h) (answer_for h step (judged_outcome refusal (placed_as (size h) journal)))
placed_waits h step (Some refusal) journal = (tt, tt)
placed_waits h step None journal = (
  inl (omega (arith, length-append (journals_of h.closed) h.waiting)),
  ap (λ js. slice_get (digests_of js) (size h)) (sym (append_assoc (journals_of h.closed) h.waiting (journal ∷ []))) ∙ leaf_last (journals h) journal,
)

-- a record that is repeated is there
record_waits : (h : History) (step : Step) (refusal : Option Refusal) (again : Option ℕ) (journal : Entry) → ((n : ℕ) → again ≡ Some n → (point h ≤ n) × (n < size h))
    → IsWaiting (after_judgement refusal (unless_repeated again (Some journal)) h) (answer_for h step (judged_outcome refusal (record_outcome h again journal)))
record_waits h step refusal None journal there = placed_waits h step refusal journal
record_waits h step (Some refusal) (Some n) journal there = (tt, tt)
record_waits h step None (Some n) journal there = (inr (omega (arith, (there n refl).0, point_before h)), leaf_there h n (there n refl).1)

anchor_waits : (h : History) (step : Step) (refusal : Option Refusal) (stamp : Option Stamp)
    → IsWaiting (after_judgement refusal (option_map (time_journal (size h)) stamp) h) (answer_for h step (judged_outcome refusal (anchor_outcome h stamp)))
anchor_waits h step (Some refusal) stamp = (tt, tt)
anchor_waits h step None None = (tt, tt)
anchor_waits h step None (Some stamp) = placed_waits h step None (time_journal (size h) stamp)

-- a reply that is no receipt, and names no head but one of the ended blocks
abbrev IsPlain : History → AnyReply → Type 0
IsPlain h told = OfReceipt (λ jsn leaf. ⊥) told × OfHead (IsHeadOf (journals_of h.closed)) told

-- where nothing waits the head of all journals is one of the ended blocks
pub head_there : (h : History) → h.waiting ≡ [] → IsHeadOf (journals_of h.closed) (size h) (digest (root h (size h)))
head_there h none =
    let few = size_closed h none in
    (omega (arith, few), ap digest (root_kept (history [] (journals_of h.closed)) h [] (size h) (ap (λ w. journals_of h.closed ++ w) none) (omega (arith, few))))

head_waits : (h : History) (step : Step) → h.waiting ≡ [] → IsPlain h (told_reply h step query.Head)
head_waits h step none =
    elim step.failed as (λ v. IsPlain h (cond v (reply.Refused NotaryFault) (reply.Head (digest (id h)) (size h) (digest (root h (size h))) (blocks h) (point h) (length step.after) (digest (mth sha256 step.after))))) [
      | true ↦ (tt, tt)
      | false ↦ (tt, head_there h none)
    ]

extension_waits : (h : History) (step : Step) (tree : Which) (m : ℕ) → h.waiting ≡ [] → IsPlain h (told_reply h step (query.Extend tree m))
extension_waits h step Ledger m none = (tt, head_there h none)
extension_waits h step Notary m none =
    let told = extension_reply Notary m (length step.after) (mth sha256 step.after) (list_extension step.after m) in
    elim step.failed as (λ v. IsPlain h (cond v (reply.Refused NotaryFault) (reply_unless (size_refusal (length step.after) m) told))) [
      | true ↦ (tt, tt)
      | false ↦ elim (size_refusal (length step.after) m) as (λ o. IsPlain h (reply_unless o told)) [ Some why ↦ (tt, tt) | None ↦ (tt, tt) ]
    ]

told_waits : (h : History) (step : Step) (q : Query) → h.waiting ≡ [] → IsPlain h (told_reply h step q)
told_waits h step (query.Get n) none = get_told (IsPlain h) h n (λ why. (tt, tt)) (λ header content who. (tt, tt)) (λ header who. (tt, tt))
told_waits h step (query.Prove n) none = told_proof (IsPlain h) h step n (tt, tt) (λ m leaf lo hi bytes. (tt, tt))
told_waits h step (query.Extend tree m) none = extension_waits h step tree m none
told_waits h step (query.Clue clue) none = (tt, tt)
told_waits h step query.Head none = head_waits h step none

asked_waits : (h : History) (step : Step) (refusal : Option Refusal) (q : Query) → IsPlain h (told_reply h step q) → IsWaiting (after_judgement refusal None h) (answer_for h step (judged_outcome refusal (Reading q)))
asked_waits h step None q told = told
asked_waits h step (Some refusal) q told = (tt, tt)

pub answer_waits : (h : History) (step : Step) (job : Job) → (closes_before job ≡ true → h.waiting ≡ []) → IsWaiting (with_job real_limits (stamp_of step) h job) (answer_for h step (outcome real_limits (stamp_of step) h job))
unfolding outcome with_job
answer_waits h step (Refused refusal) settled = (tt, tt)
answer_waits h step (Append member clue content content_digest request by who number) settled =
    record_waits h step (own_refusal real_limits h (Append member clue content content_digest request by who number)) (repeated h member number request) (append_journal h member clue content content_digest request by who number) (λ n is. repeated_within h member number request n is)
answer_waits h step (NewMember number key by) settled = placed_waits h step (own_refusal real_limits h (NewMember number key by)) (member_journal (size h) number key by)
answer_waits h step Anchor settled = anchor_waits h step (own_refusal real_limits h Anchor) (stamp_of step)
answer_waits h step (Occult target leaf given) settled = placed_waits h step (own_refusal real_limits h (Occult target leaf given)) (occult_journal (size h) target leaf given)
answer_waits h step (OccultClue clue count given) settled = placed_waits h step (own_refusal real_limits h (OccultClue clue count given)) (clue_occult_journal (size h) clue count given)
answer_waits h step (Purge p told given) settled = placed_waits h step (own_refusal real_limits h (Purge p told given)) (purge_journal h p given)
answer_waits h step (Ask query) settled = asked_waits h step (own_refusal real_limits h (Ask query)) query (told_waits h step query (settled refl))

-- journals in blocks

pub in-append : (blocks : List (List Entry)) (xs ys : List Due) → AllIn blocks xs → AllIn blocks ys → AllIn blocks (xs ++ ys)
in-append blocks [] ys x y = y
in-append blocks (d ∷ xs) ys x y = (x.0, in-append blocks xs ys x.1 y)

pub in-first : (blocks : List (List Entry)) (xs ys : List Due) → AllIn blocks (xs ++ ys) → AllIn blocks xs
in-first blocks [] ys x = tt
in-first blocks (d ∷ xs) ys x = (x.0, in-first blocks xs ys x.1)

-- a head of some journals is one of these and more
pub head_wider : (js more : List Entry) (n : ℕ) (told : Digest) → IsHeadOf js n told → IsHeadOf (js ++ more) n told
head_wider js more n told x = (omega (arith, x.0, length-append js more), x.1 ∙ ap digest (sym (root_kept (history [] js) (history [] (js ++ more)) more n refl x.0)))

-- what holds of the head that a reply names may be said otherwise
of_head : (P Q : ℕ → Digest → Type 0) → ((n : ℕ) (told : Digest) → P n told → Q n told) → (r : AnyReply) → OfHead P r → OfHead Q r
of_head P Q f (reply.Placed jsn leaf block size root stamp) x = f size root x
of_head P Q f (reply.Whole header content who) x = tt
of_head P Q f (reply.Occulted header who) x = tt
of_head P Q f (reply.Proof n leaf lo hi proof) x = tt
of_head P Q f (reply.Extension Ledger m size root proof) x = f size root x
of_head P Q f (reply.Extension Notary m size root proof) x = tt
of_head P Q f (reply.Clue count kept) x = tt
of_head P Q f (reply.Head id size root blocks point notary_size notary_root) x = f size root x
of_head P Q f (reply.Refused refusal) x = tt

-- a reply that is no receipt has each
pub none_each : (P : ℕ → Digest → Type 0) (r : AnyReply) → OfReceipt (λ jsn leaf. ⊥) r → OfReceipt P r
none_each P (reply.Placed jsn leaf block size root stamp) none = absurd none
none_each P (reply.Whole header content who) none = tt
none_each P (reply.Occulted header who) none = tt
none_each P (reply.Proof n leaf lo hi proof) none = tt
none_each P (reply.Extension which m size root proof) none = tt
none_each P (reply.Clue count kept) none = tt
none_each P (reply.Head id size root blocks point notary_size notary_root) none = tt
none_each P (reply.Refused refusal) none = tt

heads_wider : (bs more : List (List Entry)) (r : AnyReply) → Begins bs more → OfHead (IsHeadOf (journals_of bs)) r → OfHead (IsHeadOf (journals_of more)) r
heads_wider bs more r b x =
    let all : journals_of more ≡ journals_of bs ++ journals_of b.rest = ap journals_of b.is ∙ flat_map-append (λ (block : List Entry). block) bs b.rest in
    subst (λ js. OfHead (IsHeadOf js) r) (sym all) (of_head (IsHeadOf (journals_of bs)) (IsHeadOf (journals_of bs ++ journals_of b.rest)) (head_wider (journals_of bs) (journals_of b.rest)) r x)

-- journals that stand in some blocks stand in these and more
in_more : (blocks more : List (List Entry)) (answer : Answer) → Begins blocks more → IsIn blocks answer → IsIn more answer
in_more blocks more (Reply reply) b x = (x.0, heads_wider blocks more reply b x.1)
in_more blocks more (Receipt jsn leaf stamp) b x =
    ap (λ js. slice_get (digests_of js) jsn) (ap journals_of b.is ∙ flat_map-append (λ (block : List Entry). block) blocks b.rest) ∙ leaf_more (journals_of blocks) (journals_of b.rest) jsn leaf x

pub all_in_more : (blocks more : List (List Entry)) (ds : List Due) → Begins blocks more → AllIn blocks ds → AllIn more ds
all_in_more blocks more [] b x = tt
all_in_more blocks more (d ∷ ds) b x = (in_more blocks more d.answer b x.0, all_in_more blocks more ds b x.1)

pub begins_closed : (h g : History) → Grows h g → Begins h.closed g.closed
begins_closed h g x = record { rest = x.blocks; is = x.closed_are }

-- once the open block has ended, the journals of all receipts that waited stand in blocks
in_ended : (h : History) (answer : Answer) → IsWaiting h answer → IsIn (close h).closed answer
in_ended h (Reply reply) x = (x.0, heads_wider h.closed (close h).closed reply (begins_closed h (close h) (grows_close h)) x.1)
in_ended h (Receipt jsn leaf stamp) x =
    let g = close h in
    let later = grows_close h in
    let all : journals_of g.closed ≡ journals h ++ later.more = sym (ap (λ (w : List Entry). journals_of g.closed ++ w) (close_none h) ∙ append-nil (journals_of g.closed)) ∙ later.journals_are in
    ap (λ js. slice_get (digests_of js) jsn) all ∙ leaf_more (journals h) later.more jsn leaf x.1

pub all_in_ended : (h : History) (ds : List Due) → AllWaiting h ds → AllIn (close h).closed ds
all_in_ended h [] x = tt
all_in_ended h (d ∷ ds) x = (in_ended h d.answer x.0, all_in_ended h ds x.1)

-- lines at a block's end

within_of : (h : History) (answer : Answer) → IsWaiting h answer → IsWithin 0 (size (close h)) answer
within_of h (Reply reply) x = tt
within_of h (Receipt jsn leaf stamp) x =
    (omega arith, omega (arith, grows_size h (close h) (grows_close h), leaf_within (journals h) jsn leaf x.1))

-- the line that is due where the open block has ended
line_ended : (h f : History) (due : Due) → Grows (close h) f → IsWaiting h due.answer → due_line f due ≡ due_line (close h) due
line_ended h f due later x =
    ap (reply_text due.lane due.index) (answer_kept (close h) f 0 due.answer (close_none h) later (within_of h due.answer x))

-- what is written at a block's end are the lines of all that was due, in each later history
pub lines_ended : (h f : History) (ds : List Due) → Grows (close h) f → AllWaiting h ds → due_lines (close h) ds ≡ due_lines f ds
lines_ended h f [] later x = refl
lines_ended h f (d ∷ ds) later x =
    let g = close h in
    ap (λ l. l ++ due_lines g ds) (sym (line_ended h f d later x.0)) ∙ ap (λ l. due_line f d ++ l) (lines_ended h f ds later x.1)
