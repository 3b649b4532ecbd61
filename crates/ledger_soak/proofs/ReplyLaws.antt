-- Which replies are refusals and proofs, and how their lines begin.
use Rattle.std.specs.Prelude.{IfSome, codes, decimal, Bool, true, false, cond}
use Rattle.std.proofs.Common.{◌≡◌, ◌≢◌, ℕ, List, [], ◌∷◌, ◌++◌, length, slice_get, Option, Some, None, refl, ap, sym, ◌∙◌, arith}
use Rattle.std.proofs.lemmas.Bool.{true≢false}
use Rattle.ledger_bytes.specs.declared.refusal.Refusal.{Refusal as AnyRefusal}
use Rattle.member_book.specs.Erasures.{first_refusal}
use Rattle.journal_record.specs.declared.stamp.Stamp.{Stamp}
use Rattle.script_lines.specs.Replies.{reply_text}
use Rattle.script_lines.specs.declared.reply.Reply.{Reply as AnyReply}
use Rattle.script_lines.specs.declared.reply.Reply.TheVariants as reply
use Rattle.ledger_model.specs.Anchors.{stamp_of}
use Rattle.ledger_model.specs.Appends.{append_journal}
use Rattle.ledger_bytes.specs.Digests.{digest}
use Rattle.ledger_bytes.specs.declared.refusal.Refusal.TheVariants.{NotaryFault}
use Rattle.sha2.specs.Sha256.{sha256}
use Rattle.tree_model.specs.Tree.{mth}
use Rattle.script_lines.specs.Replies.{reply_words}
use Rattle.script_lines.specs.Words.{spaced_words}
use Rattle.std.proofs.lemmas.Fmt.{decimal_digit}
use Rattle.ledger_model.specs.History.{History, id, size, root, blocks, point, close}
use Rattle.ledger_model.specs.Judgements.{own_refusal}
use Rattle.ledger_model.specs.Limits.{real_limits}
use Rattle.ledger_model.specs.Numbers.{repeated}
use Rattle.ledger_model.specs.Outcomes.{judged_outcome, accepted_outcome, anchor_outcome, record_outcome, outcome}
use Rattle.ledger_model.specs.Proofs.{shown_of, prove_refusal}
use Rattle.ledger_model.specs.Rules.{judged_at}
use Rattle.ledger_model.specs.Step.{Step}
use Rattle.ledger_model.specs.Texts.{told_reply, answer_for, answer_to, proof_reply, reply_in}
use Rattle.ledger_model.specs.declared.answer.Answer.{Answer}
use Rattle.ledger_model.specs.declared.answer.Answer.TheVariants.{Reply, Receipt}
use Rattle.ledger_model.specs.declared.job.Job.{Job}
use Rattle.ledger_model.specs.declared.job.Job.TheVariants.{Refused, Append, NewMember, Anchor, Occult, OccultClue, Purge, Ask}
use Rattle.ledger_model.specs.declared.outcome.Outcome.{Outcome}
use Rattle.ledger_model.specs.declared.outcome.Outcome.TheVariants.{Reading}
use Rattle.ledger_model.specs.declared.outcome.Query.{Query}
use Rattle.ledger_model.specs.declared.outcome.Query.TheVariants as query
use Rattle.ledger_model.proofs.GetLaws.{get_told}
use Rattle.ledger_model.proofs.ProveLaws.{told_extension}
use Rattle.ledger_soak.specs.Turns.{is_no, is_proof_reply, is_reply}

-- ---- only a job that asks for a proof is answered by one

unless_refused : (P : Answer → Type 0) (g : History) (step : Step) (refusal : Option AnyRefusal) (out : Outcome) → ((why : AnyRefusal) → P (Reply (reply.Refused why))) → P (answer_for g step out) → P (answer_for g step (judged_outcome refusal out))
unless_refused P g step None out refused told = told
unless_refused P g step (Some why) out refused told = refused why

abbrev Proves : Answer → Type 0
Proves a = is_reply is_proof_reply a ≡ false

anchor_unproved : (g : History) (step : Step) (stamp : Option Stamp) → Proves (answer_for g step (anchor_outcome g stamp))
anchor_unproved g step None = refl
anchor_unproved g step (Some stamp) = refl

one_of : (b : Bool) (x y : AnyReply) → is_proof_reply x ≡ false → is_proof_reply y ≡ false → is_proof_reply (cond b x y) ≡ false
one_of true x y p q = p
one_of false x y p q = q

head_unproved : (g : History) (step : Step) → is_proof_reply (told_reply g step query.Head) ≡ false
head_unproved g step =
    one_of step.failed (reply.Refused NotaryFault)
    (reply.Head (digest (id g)) (size g) (digest (root g (size g))) (blocks g) (point g) (length step.after) (digest (mth sha256 step.after))) refl refl

-- only to what asks for a proof one is told
told_unproved : (g : History) (step : Step) (q : Query) → ((n : ℕ) → q ≡ query.Prove n → ⊥) → is_proof_reply (told_reply g step q) ≡ false
told_unproved g step (query.Get n) other = get_told (λ r. is_proof_reply r ≡ false) g n (λ why. refl) (λ header content who. refl) (λ header who. refl)
told_unproved g step (query.Prove n) other = absurd (other n refl)
told_unproved g step (query.Extend which m) other = told_extension (λ r. is_proof_reply r ≡ false) g step which m refl refl (λ tree k size root bytes. refl)
told_unproved g step (query.Clue clue) other = refl
told_unproved g step query.Head other = head_unproved g step

accepted_unproved : (g : History) (step : Step) (job : Job) → ((n : ℕ) → job ≡ Ask (query.Prove n) → ⊥) → Proves (answer_for g step (accepted_outcome g (stamp_of step) job))
accepted_unproved g step (Refused why) other = refl
accepted_unproved g step (Append member clue content content_digest request by who number) other = by_repeat (repeated g member number request)
  where
    by_repeat : (again : Option ℕ) → Proves (answer_for g step (record_outcome g again (append_journal g member clue content content_digest request by who number)))
    by_repeat None = refl
    by_repeat (Some n) = refl
accepted_unproved g step (NewMember number key by) other = refl
accepted_unproved g step Anchor other = anchor_unproved g step (stamp_of step)
accepted_unproved g step (Occult target leaf given) other = refl
accepted_unproved g step (OccultClue clue count given) other = refl
accepted_unproved g step (Purge p told given) other = refl
accepted_unproved g step (Ask asked) other = told_unproved g step asked (λ n is. other n (ap Ask is))

pub proves_only : (h : History) (step : Step) (job : Job) → ((n : ℕ) → job ≡ Ask (query.Prove n) → ⊥) → is_reply is_proof_reply (answer_to h step job) ≡ false
unfolding answer_to outcome
proves_only h step job other =
    let g = judged_at h job in
    unless_refused Proves g step (own_refusal real_limits g job) (accepted_outcome g (stamp_of step) job) (λ why. refl) (accepted_unproved g step job other)

-- which journal is asked for, where the answer is a proof
pub asks_for : (h : History) (step : Step) (job : Job) → is_reply is_proof_reply (answer_to h step job) ≡ true → (n : ℕ) × (job ≡ Ask (query.Prove n))
asks_for h step (Refused why) is = absurd (true≢false (sym is ∙ proves_only h step (Refused why) (λ n e. let bad : ⊥ = cc in bad)))
asks_for h step (Append member clue content content_digest request by who number) is = absurd (true≢false (sym is ∙ proves_only h step (Append member clue content content_digest request by who number) (λ n e. let bad : ⊥ = cc in bad)))
asks_for h step (NewMember number key by) is = absurd (true≢false (sym is ∙ proves_only h step (NewMember number key by) (λ n e. let bad : ⊥ = cc in bad)))
asks_for h step Anchor is = absurd (true≢false (sym is ∙ proves_only h step Anchor (λ n e. let bad : ⊥ = cc in bad)))
asks_for h step (Occult target leaf given) is = absurd (true≢false (sym is ∙ proves_only h step (Occult target leaf given) (λ n e. let bad : ⊥ = cc in bad)))
asks_for h step (OccultClue clue count given) is = absurd (true≢false (sym is ∙ proves_only h step (OccultClue clue count given) (λ n e. let bad : ⊥ = cc in bad)))
asks_for h step (Purge p told given) is = absurd (true≢false (sym is ∙ proves_only h step (Purge p told given) (λ n e. let bad : ⊥ = cc in bad)))
asks_for h step (Ask asked) is = by asked is where
  other : (q : Query) → ((n : ℕ) → q ≡ query.Prove n → ⊥) → is_reply is_proof_reply (answer_to h step (Ask q)) ≡ true → (n : ℕ) × (Ask q ≡ Ask (query.Prove n))
  other q none is = absurd (true≢false (sym is ∙ proves_only h step (Ask q) (λ n e. none n (cc e))))

  by : (q : Query) → is_reply is_proof_reply (answer_to h step (Ask q)) ≡ true → (n : ℕ) × (Ask q ≡ Ask (query.Prove n))
  by (query.Prove n) is = (n, refl)
  by (query.Get m) is = other (query.Get m) (λ n e. let bad : ⊥ = cc in bad) is
  by (query.Extend which m) is = other (query.Extend which m) (λ n e. let bad : ⊥ = cc in bad) is
  by (query.Clue clue) is = other (query.Clue clue) (λ n e. let bad : ⊥ = cc in bad) is
  by query.Head is = other query.Head (λ n e. let bad : ⊥ = cc in bad) is

-- a proof is that of the journal that is asked for
pub record IsProved (h : History) (step : Step) (n : ℕ) : Type 0 where
  pub unrefused : prove_refusal (close h) n ≡ None
  pub answer_is : answer_to h step (Ask (query.Prove n)) ≡ Reply (proof_reply (shown_of (close h) step.after n))

pub proof_told : (h : History) (step : Step) (n : ℕ) → step.failed ≡ false → is_reply is_proof_reply (answer_to h step (Ask (query.Prove n))) ≡ true → IsProved h step n
unfolding answer_to outcome
proof_told h step n unfailed is = by_refusal (prove_refusal (close h) n) refl where
  by_refusal : (o : Option AnyRefusal) → prove_refusal (close h) n ≡ o → IsProved h step n
  by_refusal None none = record {
    unrefused = none;
    answer_is =
        ap (λ o. answer_for (close h) step (judged_outcome (first_refusal (o ∷ [])) (Reading (query.Prove n)))) none
        ∙ ap (λ v. Reply (cond v (reply.Refused NotaryFault) (proof_reply (shown_of (close h) step.after n)))) unfailed;
  }
  by_refusal (Some why) some =
      let refused : is_reply is_proof_reply (answer_for (close h) step (judged_outcome (first_refusal (prove_refusal (close h) n ∷ [])) (Reading (query.Prove n)))) ≡ false =
      ap (λ o. is_reply is_proof_reply (answer_for (close h) step (judged_outcome (first_refusal (o ∷ [])) (Reading (query.Prove n))))) some in
      absurd (true≢false (sym is ∙ refused))

-- ---- the first letter of a reply's first word

letter : AnyReply → ℕ
letter (reply.Placed jsn leaf block size root stamp) = 111
letter (reply.Whole header content who) = 119
letter (reply.Occulted header who) = 111
letter (reply.Proof n leaf lo hi proof) = 112
letter (reply.Extension which m size root proof) = 101
letter (reply.Clue count kept) = 99
letter (reply.Head ledger size root blocks point notary_size notary_root) = 104
letter (reply.Refused refusal) = 110

starts : (r : AnyReply) → slice_get (48 ∷ [] ++ codes "." ++ 49 ∷ [] ++ spaced_words (reply_words r) ++ codes "\n") 4 ≡ Some (letter r)
unfolding letter
starts (reply.Placed jsn leaf block size root stamp) = refl
starts (reply.Whole header content who) = refl
starts (reply.Occulted header who) = refl
starts (reply.Proof n leaf lo hi proof) = refl
starts (reply.Extension which m size root proof) = refl
starts (reply.Clue count kept) = refl
starts (reply.Head ledger size root blocks point notary_size notary_root) = refl
starts (reply.Refused refusal) = refl

letter_is : (r : AnyReply) → slice_get (reply_text 0 1 r) 4 ≡ Some (letter r)
letter_is r =
    ap (λ (a : List ℕ). slice_get (a ++ codes "." ++ decimal 1 ++ spaced_words (reply_words r) ++ codes "\n") 4) (decimal_digit 0 (omega arith))
    ∙ ap (λ (a : List ℕ). slice_get (48 ∷ [] ++ codes "." ++ a ++ spaced_words (reply_words r) ++ codes "\n") 4) (decimal_digit 1 (omega arith))
    ∙ starts r

pub record TellsKind (r : AnyReply) (refused proved : Bool) : Type 0 where
  pub no_is : is_no r ≡ refused
  pub proof_is : is_proof_reply r ≡ proved

no_by : (r : AnyReply) → letter r ≡ 110 → TellsKind r true false
unfolding letter
no_by (reply.Placed jsn leaf block size root stamp) e = absurd (omega (arith, e))
no_by (reply.Whole header content who) e = absurd (omega (arith, e))
no_by (reply.Occulted header who) e = absurd (omega (arith, e))
no_by (reply.Proof n leaf lo hi proof) e = absurd (omega (arith, e))
no_by (reply.Extension which m size root proof) e = absurd (omega (arith, e))
no_by (reply.Clue count kept) e = absurd (omega (arith, e))
no_by (reply.Head ledger size root blocks point notary_size notary_root) e = absurd (omega (arith, e))
no_by (reply.Refused refusal) e = record { no_is = refl; proof_is = refl }

proof_by : (r : AnyReply) → letter r ≡ 112 → TellsKind r false true
unfolding letter
proof_by (reply.Placed jsn leaf block size root stamp) e = absurd (omega (arith, e))
proof_by (reply.Whole header content who) e = absurd (omega (arith, e))
proof_by (reply.Occulted header who) e = absurd (omega (arith, e))
proof_by (reply.Proof n leaf lo hi proof) e = record { no_is = refl; proof_is = refl }
proof_by (reply.Extension which m size root proof) e = absurd (omega (arith, e))
proof_by (reply.Clue count kept) e = absurd (omega (arith, e))
proof_by (reply.Head ledger size root blocks point notary_size notary_root) e = absurd (omega (arith, e))
proof_by (reply.Refused refusal) e = absurd (omega (arith, e))

other_by : (r : AnyReply) → letter r ≢ 110 → letter r ≢ 112 → TellsKind r false false
unfolding letter
other_by (reply.Placed jsn leaf block size root stamp) a b = record { no_is = refl; proof_is = refl }
other_by (reply.Whole header content who) a b = record { no_is = refl; proof_is = refl }
other_by (reply.Occulted header who) a b = record { no_is = refl; proof_is = refl }
other_by (reply.Proof n leaf lo hi proof) a b = absurd (b refl)
other_by (reply.Extension which m size root proof) a b = record { no_is = refl; proof_is = refl }
other_by (reply.Clue count kept) a b = record { no_is = refl; proof_is = refl }
other_by (reply.Head ledger size root blocks point notary_size notary_root) a b = record { no_is = refl; proof_is = refl }
other_by (reply.Refused refusal) a b = absurd (a refl)

-- what a line tells of the answer that it is due for
pub record TellsAnswer (a : Answer) (refused proved : Bool) : Type 0 where
  pub no_is : is_reply is_no a ≡ refused
  pub proof_is : is_reply is_proof_reply a ≡ proved

of_kind : (f : History) (a : Answer) (refused proved : Bool) → TellsKind (reply_in f a) refused proved → TellsAnswer a refused proved
of_kind f (Reply r) refused proved k = record { no_is = k.no_is; proof_is = k.proof_is }
of_kind f (Receipt jsn leaf stamp) refused proved k = record { no_is = k.no_is; proof_is = k.proof_is }

module _ (f : History) (a : Answer) (text : List ℕ) (is : text ≡ reply_text 0 1 (reply_in f a)) where
  fifth : slice_get text 4 ≡ Some (letter (reply_in f a))
  fifth = ap (λ t. slice_get t 4) is ∙ letter_is (reply_in f a)

  module _ (k : ℕ) (told : IfSome (slice_get text 4) (λ b. k ≡ b)) where
    kind : k ≡ letter (reply_in f a)
    kind = rw fifth at told

    pub tells_no : k ≡ 110 → TellsAnswer a true false
    tells_no e = of_kind f a true false (no_by (reply_in f a) (sym kind ∙ e))

    pub tells_proof : k ≡ 112 → TellsAnswer a false true
    tells_proof e = of_kind f a false true (proof_by (reply_in f a) (sym kind ∙ e))

    pub tells_other : k ≢ 110 → k ≢ 112 → TellsAnswer a false false
    tells_other x y = of_kind f a false false (other_by (reply_in f a) (λ e. x (kind ∙ e)) (λ e. y (kind ∙ e)))
