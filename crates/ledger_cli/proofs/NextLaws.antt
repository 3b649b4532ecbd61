-- Lemmas on how one history comes next to another.
use Rattle.std.specs.Prelude.{Contains, ◌||◌}
use Rattle.std.specs.Option.{option_map}
use Rattle.std.proofs.Common.{◌≡◌, ◌⊎◌, ℕ, ◌+◌, ◌-◌, Bool, true, false, cond, nat_le, inl, inr, List, [], ◌∷◌, ◌++◌, length, map, get_or, slice_get, Option, Some, None, refl, ap, sym, subst, ◌∙◌, arith, append_assoc, append-nil, length-append}
use Rattle.std.proofs.lemmas.List.{map-append, length-map}
use Rattle.std.proofs.lemmas.List.Elements.{Contains-push_cases}
use Rattle.std.proofs.lemmas.Option.{same_Some, slice_get-get_or, slice_get-map}
use Rattle.std.proofs.Math.Seq.{get_or-append_seam}
use Rattle.journal_record.specs.Entry.{Entry}
use Rattle.journal_record.specs.declared.header.Header.{Header}
use Rattle.journal_record.specs.declared.approval.Approval.{Approval}
use Rattle.ledger_bytes.specs.declared.digest.Digest.{Digest}
use Rattle.journal_record.specs.declared.stamp.Stamp.{Stamp}
use Rattle.ledger_bytes.specs.declared.limits.TheConstants.{BLOCK_LIMIT}
use Rattle.ledger_bytes.specs.declared.refusal.Refusal.{Refusal}
use Rattle.ledger_model.specs.Anchors.{stamp_of, time_header, time_journal}
use Rattle.ledger_model.specs.Appends.{occult_header, occult_journal, clue_occult_header, clue_occult_journal, purge_header, purge_journal}
use Rattle.ledger_model.specs.Ends.{ends_from}
use Rattle.ledger_model.specs.Growing.{Grows}
use Rattle.ledger_model.specs.History.{History, history, close, close_by, ends, journals, journals_of, size}
use Rattle.ledger_model.specs.Judgements.{own_refusal}
use Rattle.ledger_model.specs.Lawful.{gathers}
use Rattle.ledger_model.specs.Limits.{real_limits}
use Rattle.ledger_model.specs.Outcomes.{after_judgement, placed_journal, with_job}
use Rattle.ledger_model.specs.Rules.{after_job}
use Rattle.ledger_model.specs.Step.{Step}
use Rattle.ledger_model.specs.declared.job.Job.{Job}
use Rattle.ledger_model.specs.declared.job.Job.TheVariants.{Refused, Append, NewMember, Anchor, Occult, OccultClue, Purge, Ask}
use Rattle.ledger_model.proofs.EndLaws.{ends_split}
use Rattle.ledger_model.proofs.GrowLaws.{close_none, close_settled, grows_close, grows_not, grows_then, journals_of-push, size_close}
use Rattle.ledger_book.specs.Books.{headers}
use Rattle.ledger_cli.specs.Boards.{IsBlockEnd, IsNextTo}

-- a block more, with which all ends
push_ended : (blocks : List (List Entry)) (block : List Entry) (n : ℕ) → Contains (ends_from 0 (blocks ++ block ∷ [])) n → Contains (ends_from 0 blocks) n ⊎ (n ≡ length (journals_of blocks ++ block))
push_ended blocks block n e =
    elim (Contains-push_cases (ends_from 0 blocks) (0 + length (journals_of blocks) + length block) n (subst (λ (l : List ℕ). Contains l n) (ends_split 0 blocks (block ∷ [])) e)) [
      | inl old ↦ inl old
      | inr is ↦ inr (sym is ∙ (let l = length-append (journals_of blocks) block in omega (arith, l)))
    ]

close_ended_by : (blocks : List (List Entry)) (waiting : List Entry) (n : ℕ) → IsBlockEnd (close_by blocks waiting) n → IsBlockEnd (history blocks waiting) n ⊎ (n ≡ length (journals_of blocks ++ waiting))
close_ended_by blocks [] n e = inl e
close_ended_by blocks (journal ∷ rest) n e = push_ended blocks (journal ∷ rest) n e

-- the end of the open block
close_end : (h : History) (n : ℕ) → IsBlockEnd (close h) n → IsBlockEnd h n ⊎ (n ≡ size h)
unfolding close
close_end h n e = close_ended_by h.closed h.waiting n e

pub next_close : (h : History) → IsNextTo h (close h)
next_close h = record {
  grows = grows_close h;
  ended = λ n e. elim (close_end h n e) [ inl old ↦ inl old | inr is ↦ inr (close_none h, inl (is ∙ sym (size_close h))) ];
}

-- a job that doesn't end the open block before it: no block ended yet, and then the open one may
module _ (h k : History) (grows : Grows h k) (closed : k.closed ≡ h.closed) where
  as_before : (n : ℕ) → IsBlockEnd k n → IsBlockEnd h n
  as_before n e = subst (λ (bs : List (List Entry)). Contains (ends_from 0 bs) n) closed e

  gathered : (b : Bool) → IsNextTo h (cond b (close k) k)
  gathered false = record { grows = grows; ended = λ n e. inl (as_before n e) }
  gathered true = record {
    grows = grows_then h k (close k) grows (grows_close k);
    ended = λ n e. elim (close_end k n e) [ inl old ↦ inl (as_before n old) | inr is ↦ inr (close_none k, inl (is ∙ sym (size_close k))) ];
  }

judged_closed : (refusal : Option Refusal) (journal : Option Entry) (h : History) → (after_judgement refusal journal h).closed ≡ h.closed
judged_closed (Some refusal) journal h = refl
judged_closed None None h = refl
judged_closed None (Some journal) h = refl

judged_grows : (refusal : Option Refusal) (journal : Option Entry) (h : History) → Grows h (after_judgement refusal journal h)
judged_grows (Some refusal) journal h = grows_not h
judged_grows None None h = grows_not h
judged_grows None (Some journal) h = record { more = journal ∷ []; journals_are = sym (append_assoc (journals_of h.closed) h.waiting (journal ∷ [])); blocks = []; closed_are = sym (append-nil h.closed) }

next_gathered : (refusal : Option Refusal) (journal : Option Entry) (h : History) (b : Bool) → IsNextTo h (cond b (close (after_judgement refusal journal h)) (after_judgement refusal journal h))
next_gathered refusal journal h b = gathered h (after_judgement refusal journal h) (judged_grows refusal journal h) (judged_closed refusal journal h) b

-- a job that ends it, and places nothing
next_read : (refusal : Option Refusal) (h : History) (b : Bool) → IsNextTo h (cond b (close (after_judgement refusal None (close h))) (after_judgement refusal None (close h)))
next_read refusal h b = by refusal b
  where
    same : (b : Bool) → IsNextTo h (cond b (close (close h)) (close h))
    same false = next_close h
    same true = subst (IsNextTo h) (close_settled (close h) (close_none h)) (next_close h)

    by : (refusal : Option Refusal) (b : Bool) → IsNextTo h (cond b (close (after_judgement refusal None (close h))) (after_judgement refusal None (close h)))
    by None b = same b
    by (Some why) b = same b

-- .. or a journal that stands alone
own_block : (g : History) (journal : Entry) → g.waiting ≡ [] → close (history g.closed (g.waiting ++ journal ∷ [])) ≡ history (g.closed ++ (journal ∷ []) ∷ []) []
unfolding close
own_block g journal none = ap (λ (w : List Entry). close_by g.closed (w ++ journal ∷ [])) none

last_header : (g : History) (journal : Entry) → slice_get (headers (history (g.closed ++ (journal ∷ []) ∷ []) [])) (size (history (g.closed ++ (journal ∷ []) ∷ []) []) - 1) ≡ Some journal.header
last_header g journal =
    let js : journals (history (g.closed ++ (journal ∷ []) ∷ []) []) ≡ journals_of g.closed ++ journal ∷ [] = journals_of-push g.closed (journal ∷ []) in
    let at : size (history (g.closed ++ (journal ∷ []) ∷ []) []) - 1 ≡ length (journals_of g.closed) = (let a = ap length js in let b = length-append (journals_of g.closed) (journal ∷ []) in omega (arith, a, b)) in
    slice_get-map (λ (e : Entry). e.header) (journals (history (g.closed ++ (journal ∷ []) ∷ []) [])) (size (history (g.closed ++ (journal ∷ []) ∷ []) []) - 1)
    ∙ ap (option_map (λ (e : Entry). e.header))
    ((λ i. slice_get (js i) (at i)) ∙ slice_get-get_or (journals_of g.closed ++ journal ∷ []) (length (journals_of g.closed)) journal (let b = length-append (journals_of g.closed) (journal ∷ []) in omega (arith, b))
    ∙ ap Some (get_or-append_seam (journals_of g.closed) journal [] journal))

close_journals_by : (blocks : List (List Entry)) (waiting : List Entry) → journals (close_by blocks waiting) ≡ journals_of blocks ++ waiting
close_journals_by blocks [] = refl
close_journals_by blocks (x ∷ rest) = journals_of-push blocks (x ∷ rest)

close_journals : (h : History) → journals (close h) ≡ journals h
unfolding close
close_journals h = close_journals_by h.closed h.waiting

module _ (h : History) (journal : Entry) where
  abbrev g : History
  g = close h

  abbrev last : History
  last = history (g.closed ++ (journal ∷ []) ∷ []) []

  js : journals last ≡ journals_of g.closed ++ journal ∷ []
  js = journals_of-push g.closed (journal ∷ [])

  g_is : journals_of g.closed ≡ journals h
  g_is = sym (ap (λ (w : List Entry). journals_of g.closed ++ w) (close_none h) ∙ append-nil (journals_of g.closed)) ∙ close_journals h

  before : size h ≡ size last - 1
  before = let a = ap length js in let b = length-append (journals_of g.closed) (journal ∷ []) in let d = ap length g_is in omega (arith, a, b, d)

  grows_alone : Grows h last
  grows_alone =
      let c = grows_close h in
      record { more = journal ∷ []; journals_are = js ∙ ap (λ (l : List Entry). l ++ journal ∷ []) g_is; blocks = c.blocks ++ (journal ∷ []) ∷ []; closed_are = ap (λ (bs : List (List Entry)). bs ++ (journal ∷ []) ∷ []) c.closed_are ∙ append_assoc h.closed c.blocks ((journal ∷ []) ∷ []) }

  next_alone : gathers journal.header.kind ≡ false → IsNextTo h (close (history g.closed (g.waiting ++ journal ∷ [])))
  next_alone kind =
      subst (IsNextTo h) (sym (own_block g journal (close_none h))) (record {
        grows = grows_alone;
        ended = λ n e. elim (push_ended g.closed (journal ∷ []) n e) [
          | inl old ↦ elim (close_end h n old) [
            | inl older ↦ inl older
            | inr is ↦ inr (refl, inr (is ∙ before, (journal.header, last_header g journal, kind)))
          ]
          | inr is ↦ inr (refl, inl (is ∙ ap length (sym js)))
        ];
      })

next_own : (refusal : Option Refusal) (journal : Option Entry) (h : History) → ((e : Entry) → journal ≡ Some e → gathers e.header.kind ≡ false) → IsNextTo h (close (after_judgement refusal journal (close h)))
next_own (Some why) journal h kind = next_read (Some why) h true
next_own None None h kind = next_read None h true
next_own None (Some journal) h kind = next_alone h journal (kind journal refl)

-- journals that stand alone
time_alone : (jsn : ℕ) (s : Stamp) → gathers (time_journal jsn s).header.kind ≡ false
unfolding time_header
time_alone jsn s = refl

occult_alone : (jsn target : ℕ) (leaf : Digest) (given : List Approval) → gathers (occult_journal jsn target leaf given).header.kind ≡ false
unfolding occult_header
occult_alone jsn target leaf given = refl

clue_occult_alone : (jsn : ℕ) (clue : Digest) (count : ℕ) (given : List Approval) → gathers (clue_occult_journal jsn clue count given).header.kind ≡ false
unfolding clue_occult_header
clue_occult_alone jsn clue count given = refl

purge_alone : (h : History) (p : ℕ) (given : List Approval) → gathers (purge_journal h p given).header.kind ≡ false
unfolding purge_header
purge_alone h p given = refl

-- .. where there is one
kind_as : (journal e : Entry) → gathers journal.header.kind ≡ false → Some journal ≡ Some e → gathers e.header.kind ≡ false
kind_as journal e kind is = ap (λ (x : Entry). gathers x.header.kind) (sym (same_Some _ _ is)) ∙ kind

-- the history after a job
pub next_job : (h : History) (step : Step) (job : Job) → IsNextTo h (after_job h step job)
unfolding after_job with_job
next_job h step (Refused why) = next_gathered (own_refusal real_limits h (Refused why)) None h _
next_job h step (Append member clue content digest request by who number) = next_gathered (own_refusal real_limits h (Append member clue content digest request by who number)) (placed_journal h (stamp_of step) (Append member clue content digest request by who number)) h _
next_job h step (NewMember number key by) = next_gathered (own_refusal real_limits h (NewMember number key by)) (placed_journal h (stamp_of step) (NewMember number key by)) h _
next_job h step Anchor = next_own (own_refusal real_limits (close h) Anchor) (option_map (time_journal (size (close h))) (stamp_of step)) h (by (stamp_of step))
  where
    by : (stamp : Option Stamp) (e : Entry) → option_map (time_journal (size (close h))) stamp ≡ Some e → gathers e.header.kind ≡ false
    by None e is = absurd (let no : ⊥ = cc is in no)
    by (Some s) e is = kind_as (time_journal (size (close h)) s) e (time_alone (size (close h)) s) is
next_job h step (Occult target leaf given) = next_own (own_refusal real_limits (close h) (Occult target leaf given)) (Some (occult_journal (size (close h)) target leaf given)) h (λ e is. kind_as (occult_journal (size (close h)) target leaf given) e (occult_alone (size (close h)) target leaf given) is)
next_job h step (OccultClue clue count given) = next_own (own_refusal real_limits (close h) (OccultClue clue count given)) (Some (clue_occult_journal (size (close h)) clue count given)) h (λ e is. kind_as (clue_occult_journal (size (close h)) clue count given) e (clue_occult_alone (size (close h)) clue count given) is)
next_job h step (Purge p told given) = next_own (own_refusal real_limits (close h) (Purge p told given)) (Some (purge_journal (close h) p given)) h (λ e is. kind_as (purge_journal (close h) p given) e (purge_alone (close h) p given) is)
next_job h step (Ask query) = next_read (own_refusal real_limits (close h) (Ask query)) h _
