-- The proofs that a run writes are accepted.
use Rattle.std.specs.Prelude.{nat_le, nat_lt}
use Rattle.std.specs.Option.{option_or}
use Rattle.std.proofs.Common.{◌≡◌, ℕ, ◌<◌, ◌≤◌, ◌||◌, ◌==◌, Bool, true, false, cond, List, [], ◌∷◌, length, map, take, Option, Some, None, refl, sym, ap, ◌∙◌, subst, arith, length-append}
use Rattle.std.proofs.lemmas.Bool.{or_parts, eqb-false, leb-false, ltb-false}
use Rattle.std.proofs.lemmas.List.{length-map, take-append-le}
use Rattle.sha2.specs.Sha256.{sha256}
use Rattle.tree_model.specs.Tree as tree
use Rattle.ledger_bytes.specs.Begins.{Begins}
use Rattle.ledger_bytes.specs.Digests.{digest}
use Rattle.ledger_bytes.specs.declared.mark.TimeMark.{TimeMark}
use Rattle.ledger_bytes.specs.declared.refusal.Refusal.{Refusal}
use Rattle.ledger_bytes.specs.declared.refusal.Refusal.TheVariants.{NoJournal, Purged, BadSize, NotaryFault}
use Rattle.journal_record.specs.Entry.{Entry}
use Rattle.journal_record.specs.declared.stamp.Stamp.{Stamp}
use Rattle.proof_codec.specs.Claims.{claim_of}
use Rattle.proof_codec.specs.Proofs.{spelling}
use Rattle.proof_codec.specs.declared.claim.Claim.{Claim}
use Rattle.time_peg.specs.Entries.{Making, NotaryState, IsList}
use Rattle.script_lines.specs.Replies.{time_mark}
use Rattle.script_lines.specs.declared.reply.Reply.TheVariants as reply
use Rattle.script_lines.specs.declared.said.Which.TheVariants.{Ledger, Notary}
use Rattle.ledger_model.specs.Anchors.{stamp_of}
use Rattle.ledger_model.specs.Appends.{append_journal, member_journal, occult_journal, clue_occult_journal, purge_journal}
use Rattle.ledger_model.specs.Getting.{reply_unless}
use Rattle.ledger_model.specs.History as model
use Rattle.ledger_model.specs.History.{History, journals, id, close}
use Rattle.ledger_model.specs.Judgements.{ask_judgements, own_refusal}
use Rattle.member_book.specs.Erasures.{first_refusal}
use Rattle.ledger_model.specs.Lawful.{IsLawful}
use Rattle.ledger_model.specs.Limits.{real_limits}
use Rattle.ledger_model.specs.Notary.{ChangesBy}
use Rattle.ledger_model.specs.Numbers.{repeated}
use Rattle.ledger_model.specs.Outcomes.{placed_as, record_outcome, anchor_outcome, judged_outcome, outcome}
use Rattle.ledger_model.specs.Pegs.{Pegged}
use Rattle.ledger_model.specs.Proofs.{shown_of, prove_refusal, extend_refusal, size_refusal, extension_in, list_extension}
use Rattle.ledger_model.specs.Rules.{job_of, judged_at, after_step, after_steps, after_window}
use Rattle.ledger_model.specs.Scheme.{Scheme}
use Rattle.ledger_model.specs.Step.{Step}
use Rattle.ledger_model.specs.Took.{notary_after, Took, TookAll}
use Rattle.ledger_model.specs.Texts.{told_mark, proof_reply, extension_reply, told_reply, answer_for, answer_to}
use Rattle.ledger_model.specs.declared.job.Job.{Job}
use Rattle.ledger_model.specs.declared.job.Job.TheVariants.{Refused, Append, NewMember, Anchor, Occult, OccultClue, Purge, Ask}
use Rattle.ledger_model.specs.declared.outcome.Outcome.TheVariants.{Reading}
use Rattle.ledger_model.specs.declared.outcome.Query.{Query}
use Rattle.ledger_model.specs.declared.outcome.Query.TheVariants as query
use Rattle.ledger_model.proofs.FitLaws.{size_few}
use Rattle.ledger_model.proofs.GetLaws.{get_told}
use Rattle.ledger_model.proofs.GrowLaws.{root_kept}
use Rattle.ledger_model.proofs.KeepLaws.{close_lawful, step_lawful, steps_lawful}
use Rattle.ledger_model.proofs.LawfulLaws.{some_journal}
use Rattle.ledger_model.proofs.PegLaws.{pegged_job, pegged_close, pegged_steps}
use Rattle.ledger_book.specs.Books.{leaf_digests}
use Rattle.ledger_book.specs.Seals.{head_at}
use Rattle.audit_core.specs.Acceptance.{IsAccepted}
use Rattle.proof_maker.specs.Making.{IsMade, TrustsFirst}
use Rattle.proof_maker.specs.Written.{claim_told, IsGood, IsGoodAnswer, IsGoodStep, AreGood, AllGood, HasWideTimes, LeadsOn}
use Rattle.proof_maker.specs.declared.made.Made.{Made}
use Rattle.proof_maker.proofs.AcceptLaws.{made_accepted}
use Rattle.proof_maker.proofs.ExtendLaws.{extension_accepted, list_accepted}
use Rattle.proof_maker.proofs.FoldLaws.{leaves_wide}
use Rattle.proof_maker.proofs.SpellLaws.{shown_spelled, extension_short}
use Rattle.proof_maker.proofs.TreeLaws.{all_wide, root_told, whole_root}
use Rattle.proof_maker.proofs.WideLaws.{wide_close, wide_after}

-- ---- what isn't refused is there

there_of : (g : History) (n : ℕ) → prove_refusal g n ≡ None → n < model.size g
unfolding prove_refusal
there_of g n none = by (nat_le (model.size g) n) refl none where
  by : (v : Bool) → nat_le (model.size g) n ≡ v → cond v (Some (NoJournal (model.size g))) (cond (nat_lt n (model.point g)) (Some (Purged (model.point g))) None) ≡ None → n < model.size g
  by true is e = absurd cc
  by false is e = leb-false (model.size g) n is

within_of : (m size : ℕ) → size_refusal size m ≡ None → (0 < m) × (m ≤ size)
within_of m size none = by (m == 0 || nat_lt size m) refl none where
  by : (v : Bool) → (m == 0 || nat_lt size m) ≡ v → cond v (Some (BadSize size)) None ≡ None → (0 < m) × (m ≤ size)
  by true is e = absurd cc
  by false is e = let parts = or_parts (m == 0) (nat_lt size m) is in (omega (arith, eqb-false m 0 parts.0), ltb-false size m parts.1)

first_none : (a b : Option Refusal) → option_or a b ≡ None → a ≡ None
first_none None b is = refl
first_none (Some why) b is = absurd cc

stands_of : (g : History) (m : ℕ) → extend_refusal g m ≡ None → (0 < m) × (m ≤ model.size g)
unfolding extend_refusal
stands_of g m none = within_of m (model.size g) (first_none (size_refusal (model.size g) m) _ none)

-- ---- a bound that is told is the one that is claimed

mark_again : (o : Option TimeMark) → time_mark (told_mark o) ≡ o
mark_again None = refl
mark_again (Some mark) = refl

claim_again : (claim : Claim) → claim_told claim.n claim.leaf (told_mark claim.lo) (told_mark claim.hi) ≡ claim
claim_again claim =
    ap (λ lo. record { n = claim.n; leaf = claim.leaf; lo = lo; hi = time_mark (told_mark claim.hi) }) (mark_again claim.lo)
    ∙ ap (λ hi. record { n = claim.n; leaf = claim.leaf; lo = claim.lo; hi = hi }) (mark_again claim.hi)

-- ---- the proofs that are told

good_ledger : (g : History) (es : List (List ℕ)) (m : ℕ) → IsLawful g → 0 < m → m ≤ model.size g → IsGood g es (extension_reply Ledger m (model.size g) (model.root g (model.size g)) (extension_in g m))
good_ledger g es m lawful some le = λ trust trusts.
    let ds = leaf_digests g in
    let long : length ds ≡ model.size g = length-map (journals g) model.leaf_digest in
    let short = extension_short ds m (all_wide g) some (omega (arith, le, long)) (omega (arith, long, size_few g lawful)) in
    extension_accepted Ledger ds m (model.size g) (head_at g (model.size g)) (digest (model.root g m)) (digest (model.root g (model.size g))) (extension_in g m) trust (all_wide g) some (omega (arith, le, long)) long refl refl
    (sym (whole_root g)) (sym (root_told g m)) refl (omega (arith, short.few)) trusts

good_list : (g : History) (es : List (List ℕ)) (m : ℕ) → IsList es → 0 < m → m ≤ length es → IsGood g es (extension_reply Notary m (length es) (tree.mth sha256 es) (list_extension es m))
good_list g es m list some le = λ trust trusts.
    let ds = map (tree.leaf sha256) es in
    let long : length ds ≡ length es = length-map es (tree.leaf sha256) in
    let short = extension_short ds m (leaves_wide es) some (omega (arith, le, long)) (omega (arith, long, list.few)) in
    list_accepted es m (record { size = length es; root = digest (tree.mth sha256 es) }) (list_extension es m) trust some le refl refl refl (omega (arith, short.few)) trusts

module _ (g : History) (es : List (List ℕ)) (lawful : IsLawful g) (wide : HasWideTimes g) (pegged : Pegged g es) where
  good_proof : (n : ℕ) → n < model.size g → IsGood g es (proof_reply (shown_of g es n))
  unfolding shown_of
  good_proof n less = λ trust head list.
      let shown = shown_of g es n in
      let made : Made = record { claim = claim_of shown; proof = spelling shown } in
      let is : IsMade shown made = record { is_proof = shown_spelled g lawful.journals_are wide (omega (arith, size_few g lawful)) es n pegged.list.few less; claim_is = refl; proof_is = refl } in
      subst (λ claim. IsAccepted sha256 (spelling shown) claim trust) (sym (claim_again (claim_of shown))) (made_accepted g es trust lawful.journals_are pegged n made less head list is)

-- ---- what is due for a step

placed_good : (g : History) (es : List (List ℕ)) (step : Step) (refusal : Option Refusal) (jsn : ℕ) (journal : Entry) → IsGoodAnswer g es (answer_for g step (judged_outcome refusal (placed_as jsn journal)))
placed_good g es step (Some why) jsn journal = tt
placed_good g es step None jsn journal = tt

record_good : (g : History) (es : List (List ℕ)) (step : Step) (refusal : Option Refusal) (again : Option ℕ) (journal : Entry) → IsGoodAnswer g es (answer_for g step (judged_outcome refusal (record_outcome g again journal)))
record_good g es step refusal None journal = placed_good g es step refusal (model.size g) journal
record_good g es step (Some why) (Some n) journal = tt
record_good g es step None (Some n) journal = tt

anchor_good : (g : History) (es : List (List ℕ)) (step : Step) (refusal : Option Refusal) (stamp : Option Stamp) → IsGoodAnswer g es (answer_for g step (judged_outcome refusal (anchor_outcome g stamp)))
anchor_good g es step (Some why) stamp = tt
anchor_good g es step None None = tt
anchor_good g es step None (Some s) = tt

head_good : (g : History) (es : List (List ℕ)) (step : Step) → IsGood g es (told_reply g step query.Head)
head_good g es step =
    elim step.failed as (λ v. IsGood g es (cond v (reply.Refused NotaryFault)
    (reply.Head (digest (model.id g)) (model.size g) (digest (model.root g (model.size g))) (model.blocks g) (model.point g) (length step.after) (digest (tree.mth sha256 step.after))))) [ true ↦ tt | false ↦ tt ]

prove_good : (g : History) (step : Step) (n : ℕ) → IsLawful g → HasWideTimes g → Pegged g step.after → (refusal : Option Refusal) → prove_refusal g n ≡ refusal
    → IsGoodAnswer g step.after (answer_for g step (judged_outcome (first_refusal (refusal ∷ [])) (Reading (query.Prove n))))
prove_good g step n lawful wide pegged (Some why) is = tt
prove_good g step n lawful wide pegged None is =
    elim step.failed as (λ v. IsGood g step.after (cond v (reply.Refused NotaryFault) (proof_reply (shown_of g step.after n)))) [ true ↦ tt | false ↦ good_proof g step.after lawful wide pegged n (there_of g n is) ]

extend_good : (g : History) (step : Step) (m : ℕ) → IsLawful g → (refusal : Option Refusal) → extend_refusal g m ≡ refusal → IsGoodAnswer g step.after (answer_for g step (judged_outcome (first_refusal (refusal ∷ [])) (Reading (query.Extend Ledger m))))
extend_good g step m lawful (Some why) is = tt
extend_good g step m lawful None is = let fits = stands_of g m is in good_ledger g step.after m lawful fits.0 fits.1

list_good : (g : History) (step : Step) (m : ℕ) → IsList step.after → IsGood g step.after (told_reply g step (query.Extend Notary m))
list_good g step m list =
    let told = extension_reply Notary m (length step.after) (tree.mth sha256 step.after) (list_extension step.after m) in
    let by : (refusal : Option Refusal) → size_refusal (length step.after) m ≡ refusal → IsGood g step.after (reply_unless refusal told) = elim [
      | None ↦ λ is. (let fits = within_of m (length step.after) is in good_list g step.after m list fits.0 fits.1)
      | Some why ↦ λ is. tt
    ] in
    elim step.failed as (λ v. IsGood g step.after (cond v (reply.Refused NotaryFault) (reply_unless (size_refusal (length step.after) m) told))) [ true ↦ tt | false ↦ by (size_refusal (length step.after) m) refl ]

-- what is told to a job that asks
asked_good : (g : History) (step : Step) (q : Query) → IsLawful g → HasWideTimes g → Pegged g step.after → IsGoodAnswer g step.after (answer_for g step (judged_outcome (first_refusal (ask_judgements g q)) (Reading q)))
asked_good g step (query.Get n) lawful wide pegged = get_told (IsGood g step.after) g n (λ why. tt) (λ header content who. tt) (λ header who. tt)
asked_good g step (query.Prove n) lawful wide pegged = prove_good g step n lawful wide pegged (prove_refusal g n) refl
asked_good g step (query.Extend Ledger m) lawful wide pegged = extend_good g step m lawful (extend_refusal g m) refl
asked_good g step (query.Extend Notary m) lawful wide pegged = list_good g step m pegged.list
asked_good g step (query.Clue clue) lawful wide pegged = tt
asked_good g step query.Head lawful wide pegged = head_good g step.after step

pub good_answer : (making : Option Making) (h : History) (step : Step) (job : Job) → IsLawful h → HasWideTimes h → Pegged h step.before → ChangesBy (judged_at h job) making step job → IsGoodAnswer (judged_at h job) step.after (answer_to h step job)
unfolding answer_to outcome
good_answer making h step (Refused refusal) lawful wide pegged changes = tt
good_answer making h step (Append member clue content content_digest request by who number) lawful wide pegged changes =
    record_good h step.after step (own_refusal real_limits h (Append member clue content content_digest request by who number)) (repeated h member number request) (append_journal h member clue content content_digest request by who number)
good_answer making h step (NewMember number key by) lawful wide pegged changes = placed_good h step.after step (own_refusal real_limits h (NewMember number key by)) (model.size h) (member_journal (model.size h) number key by)
good_answer making h step Anchor lawful wide pegged changes = anchor_good (close h) step.after step (own_refusal real_limits (close h) Anchor) (stamp_of step)
good_answer making h step (Occult target leaf given) lawful wide pegged changes =
    placed_good (close h) step.after step (own_refusal real_limits (close h) (Occult target leaf given)) (model.size (close h)) (occult_journal (model.size (close h)) target leaf given)
good_answer making h step (OccultClue clue count given) lawful wide pegged changes =
    placed_good (close h) step.after step (own_refusal real_limits (close h) (OccultClue clue count given)) (model.size (close h)) (clue_occult_journal (model.size (close h)) clue count given)
good_answer making h step (Purge p told given) lawful wide pegged changes =
    placed_good (close h) step.after step (own_refusal real_limits (close h) (Purge p told given)) (model.size (close h)) (purge_journal (close h) p given)
good_answer making h step (Ask query) lawful wide pegged changes =
    let g = close h in
    let p = subst (Pegged g) (sym changes) (pegged_close h step.before (some_journal (journals h) lawful.journals_are) pegged) in
    asked_good g step query (close_lawful h lawful) (wide_close h wide) p

-- ---- steps and windows

judged_lawful : (h : History) (job : Job) → IsLawful h → IsLawful (judged_at h job)
judged_lawful h job lawful = by _ where
  by : (b : Bool) → IsLawful (cond b (close h) h)
  by true = close_lawful h lawful
  by false = lawful

module _ (scheme : Scheme) where
  pub good_step : (making : Option Making) (h : History) (step : Step) → IsLawful h → HasWideTimes h → Pegged h step.before → ChangesBy (judged_at h (job_of scheme (id h) step.line)) making step (job_of scheme (id h) step.line) → IsGoodStep scheme h step
  good_step making h step lawful wide pegged changes = good_answer making h step (job_of scheme (id h) step.line) lawful wide pegged changes

  pub wide_step : (making : Option Making) (h : History) (step : Step) → IsLawful h → HasWideTimes h → ChangesBy (judged_at h (job_of scheme (id h) step.line)) making step (job_of scheme (id h) step.line) → HasWideTimes (after_step scheme h step)
  unfolding after_step
  wide_step making h step lawful wide changes = let job = job_of scheme (id h) step.line in wide_after making h step job (judged_lawful h job lawful) wide changes

  pub pegged_on : (making : Option Making) (h : History) (step : Step) → IsLawful h → Pegged h step.before → ChangesBy (judged_at h (job_of scheme (id h) step.line)) making step (job_of scheme (id h) step.line) → Pegged (after_step scheme h step) step.after
  unfolding after_step
  pegged_on making h step lawful pegged changes = pegged_job making h step (job_of scheme (id h) step.line) (some_journal (journals h) lawful.journals_are) pegged changes

  pub good_steps : (h : History) (n m : NotaryState) (steps : List Step) → IsLawful h → HasWideTimes h → Took scheme h n steps m → Pegged h n.entries → AreGood scheme h steps
  good_steps h n m [] lawful wide took pegged = tt
  good_steps h n m (step ∷ steps) lawful wide took pegged =
      let before = subst (Pegged h) (sym took.0) pegged in
      let changes = took.1.list in (
        good_step n.origin.making h step lawful wide before changes,
        good_steps (after_step scheme h step) (notary_after n step) m steps (step_lawful scheme h step lawful) (wide_step n.origin.making h step lawful wide changes) took.2 (pegged_on n.origin.making h step lawful before changes),
      )

  pub wide_steps : (h : History) (n m : NotaryState) (steps : List Step) → IsLawful h → HasWideTimes h → Took scheme h n steps m → HasWideTimes (after_steps scheme h steps)
  wide_steps h n m [] lawful wide took = wide
  wide_steps h n m (step ∷ steps) lawful wide took = wide_steps (after_step scheme h step) (notary_after n step) m steps (step_lawful scheme h step lawful) (wide_step n.origin.making h step lawful wide took.1.list) took.2

  pub good_windows : (h : History) (n m : NotaryState) (windows : List (List Step)) → IsLawful h → HasWideTimes h → TookAll scheme h n windows m → Pegged h n.entries → AllGood scheme h windows
  good_windows h n m [] lawful wide took pegged = tt
  good_windows h n m (window ∷ windows) lawful wide took pegged =
      let last = after_steps scheme h window in
      let legal = steps_lawful scheme h window lawful in (
        good_steps h n took.0 window lawful wide took.1 pegged,
        good_windows (after_window scheme h window) took.0 m windows (close_lawful last legal) (wide_close last (wide_steps h n took.0 window lawful wide took.1)) took.2
            (pegged_close last took.0.entries (some_journal (journals last) legal.journals_are) (pegged_steps scheme h n took.0 window (some_journal (journals h) lawful.journals_are) took.1 pegged)),
      )

-- ---- an earlier head leads to a later one

pub leads_on : (h f : History) (es later : List (List ℕ)) → IsLawful f → Begins (journals h) (journals f) → IsList later → Begins es later → LeadsOn h f es later
leads_on h f es later lawful goes list more = record {
  journals_are = goes;
  list_is = more;
  ledger = λ m trust some le trusts.
      good_ledger f [] m lawful some (let e = ap length goes.is in let l = length-append (journals h) goes.rest in omega (arith, e, l, le)) trust
      (subst (λ root. TrustsFirst Ledger trust m (model.size f) (digest root) (digest (model.root f (model.size f)))) (sym (root_kept h f goes.rest m goes.is le)) trusts);
  notary = λ m trust some le trusts.
      good_list f later m list some (let e = ap length more.is in let l = length-append es more.rest in omega (arith, e, l, le)) trust
      (subst (λ front. TrustsFirst Notary trust m (length later) (digest (tree.mth sha256 front)) (digest (tree.mth sha256 later)))
      (sym (ap (take m) more.is ∙ take-append-le m es more.rest le)) trusts);
}
