-- What is told to a line that asks for a proof: a proof, or a refusal.
use Rattle.std.specs.Prelude.{nat_lt}
use Rattle.std.specs.Option.{option_or}
use Rattle.std.proofs.Common.{◌≡◌, ℕ, ◌<◌, ◌≤◌, ◌||◌, ◌==◌, true, false, cond, List, [], ◌∷◌, length, Option, Some, None, refl, ap, ◌∙◌, arith}
use Rattle.std.proofs.lemmas.Bool.{lt-leb, le-ltb, ne_eqb}
use Rattle.sha2.specs.Sha256.{sha256}
use Rattle.tree_model.specs.Tree.{mth}
use Rattle.ledger_bytes.specs.declared.digest.Digest.{Digest}
use Rattle.ledger_bytes.specs.declared.refusal.Refusal.{Refusal as AnyRefusal}
use Rattle.ledger_bytes.specs.declared.refusal.Refusal.TheVariants.{NotaryFault, BadSize, Purged}
use Rattle.script_lines.specs.declared.reply.Reply.{Reply as AnyReply}
use Rattle.script_lines.specs.declared.reply.Reply.TheVariants.{Proof, Extension, Refused}
use Rattle.script_lines.specs.declared.said.Which.{Which}
use Rattle.script_lines.specs.declared.said.Which.TheVariants.{Ledger, Notary}
use Rattle.ledger_model.specs.Getting.{reply_unless}
use Rattle.ledger_model.specs.History.{History, size, point, greatest_point, root, close}
use Rattle.ledger_model.specs.Judgements.{own_refusal}
use Rattle.member_book.specs.Erasures.{first_refusal}
use Rattle.ledger_model.specs.Limits.{real_limits}
use Rattle.ledger_model.specs.Outcomes.{judged_outcome, outcome}
use Rattle.ledger_model.specs.Proofs.{shown_of, extension_in, list_extension, prove_refusal, size_refusal, extend_refusal}
use Rattle.ledger_model.specs.Step.{Step}
use Rattle.ledger_model.specs.Texts.{told_reply, answer_for, answer_to, proof_reply, extension_reply}
use Rattle.ledger_model.specs.declared.answer.Answer.{Answer}
use Rattle.ledger_model.specs.declared.answer.Answer.TheVariants.{Reply}
use Rattle.ledger_model.specs.declared.job.Job.TheVariants.{Ask}
use Rattle.ledger_model.specs.declared.outcome.Outcome.TheVariants.{Reading}
use Rattle.ledger_model.specs.declared.outcome.Query.{Query}
use Rattle.ledger_model.specs.declared.outcome.Query.TheVariants as query
use Rattle.ledger_model.proofs.KeepLaws.{journals_close}

-- what is due for a job that only asks
pub asked : (P : Answer → Type 0) (h : History) (step : Step) (refusal : Option AnyRefusal) (q : Query) → ((why : AnyRefusal) → refusal ≡ Some why → P (Reply (Refused why))) → P (Reply (told_reply h step q))
    → P (answer_for h step (judged_outcome refusal (Reading q)))
asked P h step None q refused told = told
asked P h step (Some why) q refused told = refused why refl

pub told_proof : (P : AnyReply → Type 0) (h : History) (step : Step) (n : ℕ) → P (Refused NotaryFault) → ((m : ℕ) (leaf : Digest) (lo hi : Option (ℕ × ℕ × ℕ)) (bytes : List ℕ) → P (Proof m leaf lo hi bytes)) → P (told_reply h step (query.Prove n))
told_proof P h step n fault proof =
    elim step.failed as (λ v. P (cond v (Refused NotaryFault) (proof_reply (shown_of h step.after n)))) [ true ↦ fault | false ↦ proof _ _ _ _ _ ]

pub told_extension : (P : AnyReply → Type 0) (h : History) (step : Step) (which : Which) (m : ℕ) → P (Refused NotaryFault) → P (Refused (BadSize (length step.after)))
    → ((tree : Which) (k size : ℕ) (root : Digest) (bytes : List ℕ) → P (Extension tree k size root bytes)) → P (told_reply h step (query.Extend which m))
told_extension P h step Ledger m fault size extension = extension _ _ _ _ _
told_extension P h step Notary m fault size extension =
    let reply = extension_reply Notary m (length step.after) (mth sha256 step.after) (list_extension step.after m) in
    elim step.failed as (λ v. P (cond v (Refused NotaryFault) (reply_unless (cond (m == 0 || nat_lt (length step.after) m) (Some (BadSize (length step.after))) None) reply))) [
      | true ↦ fault
      | false ↦ elim (m == 0 || nat_lt (length step.after) m) as (λ v. P (reply_unless (cond v (Some (BadSize (length step.after))) None) reply)) [ true ↦ size | false ↦ extension _ _ _ _ _ ]
    ]

-- ---- what isn't refused is proved

none_refuses : (h : History) (n : ℕ) → point h ≤ n → n < size h → prove_refusal h n ≡ None
unfolding prove_refusal
none_refuses h n kept less = rw (lt-leb (size h) n less, le-ltb n (point h) kept) refl

within_size : (m size : ℕ) → 0 < m → m ≤ size → size_refusal size m ≡ None
within_size m size some le = rw (ne_eqb m 0 (λ none. omega (arith, none, some)), le-ltb size m le) refl

none_stands : (h : History) (m : ℕ) → 0 < m → m ≤ size h → point h ≤ m → extend_refusal h m ≡ None
unfolding extend_refusal
none_stands h m some le kept = ap (λ o. option_or o (cond (nat_lt m (point h)) (Some (Purged (point h))) None)) (within_size m (size h) some le) ∙ rw (le-ltb m (point h) kept) refl

same_point : (h : History) → point (close h) ≡ point h
unfolding point
same_point h = ap greatest_point (journals_close h)

same_size : (h : History) → size (close h) ≡ size h
same_size h = ap length (journals_close h)

-- the answer to a job that isn't refused
told_answer : (h : History) (step : Step) (refusal : Option AnyRefusal) (q : Query) → refusal ≡ None → answer_for h step (judged_outcome refusal (Reading q)) ≡ Reply (told_reply h step q)
told_answer h step refusal q none = ap (λ o. answer_for h step (judged_outcome o (Reading q))) none

pub kept_is_proved : (h : History) (step : Step) (n : ℕ) → point h ≤ n → n < size h → step.failed ≡ false → answer_to h step (Ask (query.Prove n)) ≡ Reply (proof_reply (shown_of (close h) step.after n))
unfolding answer_to outcome
kept_is_proved h step n kept less well =
    let g = close h in
    let none = none_refuses g n (omega (arith, kept, same_point h)) (omega (arith, less, same_size h)) in
    told_answer g step (own_refusal real_limits g (Ask (query.Prove n))) (query.Prove n) (ap (λ o. first_refusal (o ∷ [])) none)
    ∙ ap (λ v. Reply (cond v (Refused NotaryFault) (proof_reply (shown_of g step.after n)))) well

pub kept_is_extended : (h : History) (step : Step) (m : ℕ) → 0 < m → m ≤ size h → point h ≤ m → answer_to h step (Ask (query.Extend Ledger m)) ≡ Reply (extension_reply Ledger m (size (close h)) (root (close h) (size (close h))) (extension_in (close h) m))
unfolding answer_to outcome
kept_is_extended h step m some le kept =
    let g = close h in
    let none = none_stands g m some (omega (arith, le, same_size h)) (omega (arith, kept, same_point h)) in
    told_answer g step (own_refusal real_limits g (Ask (query.Extend Ledger m))) (query.Extend Ledger m) (ap (λ o. first_refusal (o ∷ [])) none)

pub list_is_extended : (h : History) (step : Step) (m : ℕ) → 0 < m → m ≤ length step.after → step.failed ≡ false
    → answer_to h step (Ask (query.Extend Notary m)) ≡ Reply (extension_reply Notary m (length step.after) (mth sha256 step.after) (list_extension step.after m))
unfolding answer_to outcome
list_is_extended h step m some le well =
    let reply = extension_reply Notary m (length step.after) (mth sha256 step.after) (list_extension step.after m) in
    ap (λ v. Reply (cond v (Refused NotaryFault) (reply_unless (size_refusal (length step.after) m) reply))) well
    ∙ ap (λ o. Reply (reply_unless o reply)) (within_size m (length step.after) some le)
