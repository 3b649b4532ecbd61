-- What is known between two jobs stays known where the history and the notary's list go on.
use Rattle.std.specs.Prelude.{Bool, true, false, IfSome, All}
use Rattle.std.proofs.Common.{◌≡◌, ℕ, ◌<◌, ◌≤◌, ◌⊎◌, inl, inr, cond, List, [], ◌∷◌, length, take, Option, Some, None, refl, ap, sym, subst, ◌∙◌, arith, append-nil, length-append}
use Rattle.std.proofs.lemmas.List.{take-append-le}
use Rattle.std.proofs.lemmas.List.Elements.{All-weaker}
use Rattle.sha2.specs.Sha256.{sha256}
use Rattle.tree_model.specs.Tree.{mth}
use Rattle.ledger_bytes.specs.Begins.{Begins}
use Rattle.ledger_bytes.specs.Causes.{count_after}
use Rattle.ledger_bytes.specs.Digests.{digest}
use Rattle.journal_record.specs.Tags.{tag_key_of}
use Rattle.merkle_tree.specs.declared.head.Head.{Head}
use Rattle.time_peg.specs.Entries.{Making, IsList, entry_of}
use Rattle.ledger_model.specs.Dues.{HasLeaf}
use Rattle.ledger_model.specs.Growing.{Grows}
use Rattle.ledger_model.specs.History.{History, journals, id, size, close}
use Rattle.ledger_model.specs.Notary.{Changes, asks, Attends}
use Rattle.ledger_model.specs.Anchors.{peg_at}
use Rattle.ledger_model.specs.Pegs.{Pegged}
use Rattle.ledger_model.specs.Rules.{job_of, judged_at, after_job, after_step, after_window}
use Rattle.ledger_model.specs.Step.{Step}
use Rattle.ledger_model.proofs.GrowLaws.{grows_close, grows_job, grows_then, grows_not, grows_size, root_kept}
use Rattle.ledger_model.proofs.PegLaws.{pegged_job, pegged_close, pegged_longer}
use Rattle.ledger_model.proofs.WaitLaws.{leaf_more}
use Rattle.notary_ledger.specs.Notaries.{memory_origin}
use Rattle.ledger_soak.specs.Auditing.{IsHeadOfFirst, IsListHead}
use Rattle.ledger_soak.specs.Runs.{IsHeld, Recalls}
use Rattle.ledger_soak.specs.declared.receipts.Receipt.{Receipt}
use Rattle.ledger_soak.specs.declared.auditor.Auditor.{Auditor}

-- ---- the notary's list

pub record ListGoesOn (es later : List (List ℕ)) : Type 0 where
  pub begins : Begins es later
  pub list : IsList later

pub list_goes_on : (making : Option Making) (asked failed : Bool) (peg : List ℕ) (es later : List (List ℕ)) → IsList es → Changes asked failed making peg es later → ListGoesOn es later
list_goes_on making false failed peg es later list c = record { begins = record { rest = []; is = c ∙ sym (append-nil es) }; list = subst IsList (sym c) list }
list_goes_on making true false peg es later list c = record { begins = record { rest = entry_of c.0.0 peg c.0.1 ∷ []; is = c.0.3 }; list = c.1 }
list_goes_on making true true peg es later list (inl same) = record { begins = record { rest = []; is = same ∙ sym (append-nil es) }; list = subst IsList (sym same) list }
list_goes_on making true true peg es later list (inr more) = record { begins = record { rest = entry_of more.0.0 peg more.0.1 ∷ []; is = more.0.3 }; list = more.1 }

-- ---- the window of a step

abbrev pub window_of : History → Step → History
window_of h step = after_window tag_key_of h (step ∷ [])

pub window_is : (h : History) (step : Step) → window_of h step ≡ close (after_job h step (job_of tag_key_of (id h) step.line))
unfolding after_step
window_is h step = refl

pub window_grows : (h : History) (step : Step) → Grows h (window_of h step)
window_grows h step =
    let k = after_job h step (job_of tag_key_of (id h) step.line) in
    subst (Grows h) (sym (window_is h step)) (grows_then h k (close k) (grows_job h step (job_of tag_key_of (id h) step.line)) (grows_close k))

-- ---- what is kept

head_on : (h g : History) (head : Head) → Grows h g → IsHeadOfFirst h head → IsHeadOfFirst g head
head_on h g head grows x = record {
  some = x.some;
  within = omega (arith, x.within, grows_size h g grows);
  root_is = x.root_is ∙ ap digest (sym (root_kept h g grows.more head.size grows.journals_are x.within));
}

list_on : (es later : List (List ℕ)) (head : Head) → Begins es later → IsListHead es head → IsListHead later head
list_on es later head b x = record {
  within = omega (arith, x.within, ap length b.is, length-append es b.rest);
  root_is = x.root_is ∙ ap (λ l. digest (mth sha256 l)) (sym (ap (take head.size) b.is ∙ take-append-le head.size es b.rest x.within));
}

some_on : {A : Type 0} (P Q : A → Type 0) → ((a : A) → P a → Q a) → (o : Option A) → IfSome o P → IfSome o Q
some_on P Q weaker None p = p
some_on P Q weaker (Some a) p = weaker a p

pub receipts_on : (h g : History) (rs : List Receipt) → Grows h g → All (IsHeld h) rs → All (IsHeld g) rs
receipts_on h g rs grows all =
    All-weaker (IsHeld h) (IsHeld g) (λ r at. subst (λ js. HasLeaf js r.jsn r.leaf) (sym grows.journals_are) (leaf_more (journals h) grows.more r.jsn r.leaf at)) rs all

module _ (auditor : Auditor) (rs : List Receipt) where
  pub recalls_on : (h g : History) (es later : List (List ℕ)) → Grows h g → Begins es later → Pegged g later → Recalls auditor rs h es → Recalls auditor rs g later
  recalls_on h g es later grows begins pegged x = record {
    pegged = pegged;
    follows = record {
      ledger = some_on (IsHeadOfFirst h) (IsHeadOfFirst g) (λ head. head_on h g head grows) auditor.ledger x.follows.ledger;
      notary = some_on (IsListHead es) (IsListHead later) (λ head. list_on es later head begins) auditor.notary x.follows.notary;
    };
    receipts_held = receipts_on h g rs grows x.receipts_held;
  }

  -- behind the window of a step in which the notary took part
  pub recalls_window : (h : History) (step : Step) → 1 ≤ size h → Attends tag_key_of h memory_origin.making step → Recalls auditor rs h step.before → Recalls auditor rs (window_of h step) step.after
  recalls_window h step some attends x =
      let job = job_of tag_key_of (id h) step.line in
      let k = after_job h step job in
      let on = list_goes_on memory_origin.making (asks (judged_at h job) step.before job) step.failed (peg_at (judged_at h job) (size (judged_at h job))) step.before step.after x.pegged.list attends.list in
      let more : 0 < size k = omega (arith, some, grows_size h k (grows_job h step job)) in
      recalls_on h (window_of h step) step.before step.after (window_grows h step) on.begins
      (subst (λ g. Pegged g step.after) (sym (window_is h step)) (pegged_close k step.after more (pegged_job memory_origin.making h step job (omega (arith, some)) x.pegged attends.list))) x

  -- where nothing of the step is left but its entry in the list
  pub recalls_list : (h : History) (step : Step) → (step.after ≡ step.before) ⊎ Attends tag_key_of h memory_origin.making step → Recalls auditor rs h step.before → Recalls auditor rs h step.after
  recalls_list h step (inl same) x = subst (Recalls auditor rs h) (sym same) x
  recalls_list h step (inr attends) x =
      let job = job_of tag_key_of (id h) step.line in
      let on = list_goes_on memory_origin.making (asks (judged_at h job) step.before job) step.failed (peg_at (judged_at h job) (size (judged_at h job))) step.before step.after x.pegged.list attends.list in
      recalls_on h h step.before step.after (grows_not h) on.begins
      (subst (Pegged h) (sym on.begins.is) (pegged_longer h step.before on.begins.rest (subst IsList on.begins.is on.list) x.pegged)) x

-- ---- counts of faults

-- a count that is 0 after a call was 0 before, and the call didn't fail
pub none_failed : (failed : Bool) (old new : ℕ) → new ≡ cond failed (count_after old) old → new ≡ 0 → failed ≡ false
none_failed false old new is none = refl
none_failed true old new is none = absurd (omega (arith, is, none))
