-- An extension couldn't be made: what is told, and the notary's part in that.
use Rattle.std.specs.Prelude.{Bool, true, false, ◌||◌, ◌==◌, nat_lt, Err}
use Rattle.std.proofs.Common.{◌≡◌, ℕ, inl, inr, cond, List, [], ◌∷◌, length, Option, Some, None, refl, ap, sym, ◌∙◌}
use Rattle.sha2.specs.Sha256.{sha256}
use Rattle.tree_model.specs.Tree.{mth}
use Rattle.ledger_bytes.specs.Causes.{count_after}
use Rattle.ledger_bytes.specs.declared.refusal.Refusal.{Refusal}
use Rattle.ledger_bytes.specs.declared.refusal.Refusal.TheVariants.{NotaryFault, BadSize}
use Rattle.script_lines.specs.declared.reply.Reply.{Reply}
use Rattle.script_lines.specs.declared.reply.Reply.TheVariants as reply
use Rattle.script_lines.specs.declared.said.Which.{Which}
use Rattle.script_lines.specs.declared.said.Which.TheVariants.{Ledger, Notary}
use Rattle.time_peg.specs.Entries.{NotaryState}
use Rattle.ledger_model.specs.Getting.{reply_unless}
use Rattle.ledger_model.specs.History.{History, size}
use Rattle.ledger_model.specs.Judgements.{own_refusal}
use Rattle.member_book.specs.Erasures.{first_refusal}
use Rattle.ledger_model.specs.Limits.{real_limits}
use Rattle.ledger_model.specs.Proofs.{extend_refusal, size_refusal, list_extension}
use Rattle.ledger_model.specs.Texts.{told_reply, extension_reply}
use Rattle.ledger_model.specs.declared.job.Job.TheVariants.{Ask}
use Rattle.ledger_model.specs.declared.outcome.Query.TheVariants as query
use Rattle.proof_maker.specs.Making.{ExtendsWhich, is_fault}
use Rattle.proof_maker.specs.declared.made.MakeErr.TheVariants.{Refused}
use Rattle.batch_committer.specs.Attending.{step_in, Attended}

-- what was looked at doesn't refuse
unrefused : (o : Option Refusal) (why : Refusal) → first_refusal (o ∷ []) ≡ None → o ≡ Some why → ⊥
unrefused None why none is = let no : ⊥ = cc is in no
unrefused (Some refusal) why none is = let no : ⊥ = cc none in no

-- that a list has no such size is no failure
no_fault : (v : Bool) (size : ℕ) (why : Refusal) → cond v (Some (BadSize size)) None ≡ Some why → is_fault why ≡ false
no_fault true size why is = let e : BadSize size ≡ why = cc is in sym (ap is_fault e)
no_fault false size why is = absurd (let no : ⊥ = cc is in no)

-- what is told of the notary's list where it didn't fail
abbrev list_reply : List (List ℕ) → ℕ → Reply
list_reply es k = reply_unless (size_refusal (length es) k) (extension_reply Notary k (length es) (mth sha256 es) (list_extension es k))

module _ (n m : NotaryState) (same : m.entries ≡ n.entries) (k : ℕ) (h : History) (lane index : ℕ) (line : List ℕ) where
  -- it was refused: the notary failed, or its list has no such size
  pub refused_told : (which : Which) (why : Refusal) → own_refusal real_limits h (Ask (query.Extend which k)) ≡ None → ExtendsWhich which h n.entries k (Err (Refused why)) → reply.Refused why ≡ told_reply h (step_in n m (is_fault why) lane index line) (query.Extend which k)
  refused_told Ledger why none is = absurd (unrefused (extend_refusal h k) why none is)
  refused_told Notary why none (inl is) =
      sym (ap (λ o. reply_unless o (extension_reply Notary k (length n.entries) (mth sha256 n.entries) (list_extension n.entries k))) is)
      ∙ ap (λ es. list_reply es k) (sym same)
      ∙ sym (ap (λ v. cond v (reply.Refused NotaryFault) (list_reply m.entries k)) (no_fault (k == 0 || nat_lt (length n.entries) k) (length n.entries) why is))
  refused_told Notary why none (inr is) = ap (λ w. reply.Refused w) is ∙ sym (ap (λ w. cond (is_fault w) (reply.Refused NotaryFault) (list_reply m.entries k)) is)

  pub refused_attended : (which : Which) (why : Refusal) → own_refusal real_limits h (Ask (query.Extend which k)) ≡ None → ExtendsWhich which h n.entries k (Err (Refused why)) → m.origin ≡ n.origin → m.faults ≡ cond (is_fault why) (count_after n.faults) n.faults → Attended n m h (step_in n m (is_fault why) lane index line) (Ask (query.Extend which k))
  refused_attended Ledger why none is origin count = absurd (unrefused (extend_refusal h k) why none is)
  refused_attended Notary why none x origin count = record { list = record { list = same; called = λ _. refl }; origin = origin; count = count }
