-- Lemmas on how a history grows, and on what stays true of the part that was there.
use Rattle.std.specs.Prelude.{Bool, ◌||◌}
use Rattle.std.proofs.Common.{◌≡◌, ℕ, ◌+◌, ◌<◌, ◌≤◌, ◌⊎◌, inl, inr, true, false, cond, nat_lt, nat_le, List, [], ◌∷◌, ◌++◌, length, map, take, Option, Some, None, refl, ap, sym, ◌∙◌, arith, append_assoc, append-nil, length-append}
use Rattle.std.proofs.lemmas.Bool.{ltb-false}
use Rattle.std.proofs.lemmas.List.{map-append, length-map, take-append-le}
use Rattle.std.proofs.lemmas.List.Concat.{flat_map-append}
use Rattle.sha2.specs.Sha256.{sha256}
use Rattle.tree_model.specs.Tree.{mth}
use Rattle.ledger_bytes.specs.declared.limits.TheConstants.{BLOCK_LIMIT}
use Rattle.ledger_bytes.specs.declared.refusal.Refusal.{Refusal}
use Rattle.journal_record.specs.Entry.{Entry}
use Rattle.journal_record.specs.declared.stamp.Stamp.{Stamp}
use Rattle.ledger_model.specs.declared.limits.Limits.{Limits}
use Rattle.journal_record.specs.Header.{spelling}
use Rattle.ledger_model.specs.Growing.{Grows}
use Rattle.ledger_model.specs.History.{History, history, journals_of, journals, size, leaves, root, close_by, close, block_from, end_from, block_of, end_of}
use Rattle.ledger_model.specs.Judgements.{own_refusal}
use Rattle.ledger_model.specs.Limits.{real_limits}
use Rattle.ledger_model.specs.Outcomes.{placed_journal, after_judgement, with_job}
use Rattle.ledger_model.specs.Anchors.{stamp_of}
use Rattle.ledger_model.specs.Rules.{closes_before, closes_after, judged_at, settled_history, after_job}
use Rattle.ledger_model.specs.Step.{Step}
use Rattle.ledger_model.specs.declared.job.Job.{Job}

-- a block more has ended, and nothing waits
pub record IsEnded (k g : History) : Type 0 where
  pub block : List Entry
  pub closed_are : g.closed ≡ k.closed ++ block ∷ []
  pub none : g.waiting ≡ []

-- one history comes of another by one job: journals came behind, and at most one block has ended
pub record Moves (k g : History) : Type 0 where
  pub more : List Entry
  pub journals_are : journals g ≡ journals k ++ more
  pub blocks_are : (g.closed ≡ k.closed) ⊎ IsEnded k g

-- the journals of blocks and one more
pub journals_of-push : (blocks : List (List Entry)) (block : List Entry) → journals_of (blocks ++ block ∷ []) ++ [] ≡ journals_of blocks ++ block
journals_of-push blocks block =
    append-nil (journals_of (blocks ++ block ∷ [])) ∙ flat_map-append (λ (b : List Entry). b) blocks (block ∷ []) ∙ ap (λ x. journals_of blocks ++ x) (append-nil block)

moves_close_by : (blocks : List (List Entry)) (waiting : List Entry) → Moves (history blocks waiting) (close_by blocks waiting)
moves_close_by blocks [] = record { more = []; journals_are = sym (append-nil (journals_of blocks ++ [])); blocks_are = inl refl }
moves_close_by blocks (journal ∷ rest) = record {
  more = [];
  journals_are = journals_of-push blocks (journal ∷ rest) ∙ sym (append-nil (journals_of blocks ++ (journal ∷ rest)));
  blocks_are = inr (record { block = journal ∷ rest; closed_are = refl; none = refl });
}

-- the end of the open block
pub moves_close : (k : History) → Moves k (close k)
unfolding close
moves_close k = moves_close_by k.closed k.waiting

close_by_none : (blocks : List (List Entry)) (waiting : List Entry) → (close_by blocks waiting).waiting ≡ []
close_by_none blocks [] = refl
close_by_none blocks (journal ∷ rest) = refl

-- nothing waits once the open block has ended
pub close_none : (k : History) → (close k).waiting ≡ []
unfolding close
close_none k = close_by_none k.closed k.waiting

-- later journals change no root over the first
pub root_kept : (k g : History) (more : List Entry) (m : ℕ) → journals g ≡ journals k ++ more → m ≤ size k → root g m ≡ root k m
unfolding root
root_kept k g more m is le =
    let f : Entry → List ℕ = λ journal. spelling journal.header in
    let whole : leaves g ≡ leaves k ++ map f more = ap (map f) is ∙ map-append f (journals k) more in
    ap (λ xs. mth sha256 (take m xs)) whole ∙ ap (mth sha256) (take-append-le m (leaves k) (map f more) (omega (arith, length-map (journals k) f)))

pub length-journals_of : (block : List Entry) (blocks : List (List Entry)) → length (journals_of (block ∷ blocks)) ≡ length block + length (journals_of blocks)
length-journals_of block blocks = length-append block (journals_of blocks)

-- later blocks change no block of the journals before them
block_from-append : (n : ℕ) (blocks more : List (List Entry)) (jsn : ℕ) → jsn < n + length (journals_of blocks) → n ≤ jsn → block_from n (blocks ++ more) jsn ≡ block_from n blocks jsn
block_from-append n [] more jsn below above = absurd (omega arith)
block_from-append n (block ∷ blocks) more jsn below above =
    elim (nat_lt jsn (n + length block)) as (λ v. nat_lt jsn (n + length block) ≡ v → cond v 0 (block_from (n + length block) (blocks ++ more) jsn + 1) ≡ cond v 0 (block_from (n + length block) blocks jsn + 1)) [
      | true ↦ λ e. refl
      | false ↦ λ e. ap (λ x. x + 1) (block_from-append (n + length block) blocks more jsn (omega (arith, length-journals_of block blocks)) (omega (arith, ltb-false jsn (n + length block) e)))
    ] refl

end_from-append : (n : ℕ) (blocks more : List (List Entry)) (jsn : ℕ) → jsn < n + length (journals_of blocks) → n ≤ jsn → end_from n (blocks ++ more) jsn ≡ end_from n blocks jsn
end_from-append n [] more jsn below above = absurd (omega arith)
end_from-append n (block ∷ blocks) more jsn below above =
    elim (nat_lt jsn (n + length block)) as (λ v. nat_lt jsn (n + length block) ≡ v → cond v (n + length block) (end_from (n + length block) (blocks ++ more) jsn) ≡ cond v (n + length block) (end_from (n + length block) blocks jsn)) [
      | true ↦ λ e. refl
      | false ↦ λ e. end_from-append (n + length block) blocks more jsn (omega (arith, length-journals_of block blocks)) (omega (arith, ltb-false jsn (n + length block) e))
    ] refl

-- the end of a journal's block is no later than the end of all blocks
end_from-le : (n : ℕ) (blocks : List (List Entry)) (jsn : ℕ) → jsn < n + length (journals_of blocks) → n ≤ jsn → end_from n blocks jsn ≤ n + length (journals_of blocks)
end_from-le n [] jsn below above = absurd (omega arith)
end_from-le n (block ∷ blocks) jsn below above =
    elim (nat_lt jsn (n + length block)) as (λ v. nat_lt jsn (n + length block) ≡ v → cond v (n + length block) (end_from (n + length block) blocks jsn) ≤ n + length (journals_of (block ∷ blocks))) [
      | true ↦ λ e. omega (arith, length-journals_of block blocks)
      | false ↦ λ e. omega (arith, length-journals_of block blocks, end_from-le (n + length block) blocks jsn (omega (arith, length-journals_of block blocks)) (omega (arith, ltb-false jsn (n + length block) e)))
    ] refl

-- nothing came behind
pub grows_not : (k : History) → Grows k k
grows_not k = record { more = []; journals_are = sym (append-nil (journals k)); blocks = []; closed_are = sym (append-nil k.closed) }

pub grows_moved : (k g : History) → Moves k g → Grows k g
grows_moved k g m = record {
  more = m.more;
  journals_are = m.journals_are;
  blocks = elim m.blocks_are [ inl same ↦ [] | inr ended ↦ ended.block ∷ [] ];
  closed_are = elim m.blocks_are as (λ b. g.closed ≡ k.closed ++ elim b [ inl same ↦ [] | inr ended ↦ ended.block ∷ [] ]) [ inl same ↦ same ∙ sym (append-nil k.closed) | inr ended ↦ ended.closed_are ];
}

pub grows_then : (k g h : History) → Grows k g → Grows g h → Grows k h
grows_then k g h a b = record {
  more = a.more ++ b.more;
  journals_are = b.journals_are ∙ ap (λ x. x ++ b.more) a.journals_are ∙ append_assoc (journals k) a.more b.more;
  blocks = a.blocks ++ b.blocks;
  closed_are = b.closed_are ∙ ap (λ x. x ++ b.blocks) a.closed_are ∙ append_assoc k.closed a.blocks b.blocks;
}

-- the end of the open block, and a job
pub grows_close : (h : History) → Grows h (close h)
grows_close h = grows_moved h (close h) (moves_close h)

-- .. that the job wants
grows_if : (h : History) (b : Bool) → Grows h (cond b (close h) h)
grows_if h true = grows_close h
grows_if h false = grows_not h

pub grows_asked : (h : History) (job : Job) → Grows h (judged_at h job)
grows_asked h job = grows_if h (closes_before job)

pub grows_settled : (job : Job) (h : History) → Grows h (settled_history job h)
grows_settled job h = grows_if h (closes_after job || nat_le BLOCK_LIMIT (length h.waiting))

-- a journal that waits
grows_judged : (h : History) (refusal : Option Refusal) (journal : Option Entry) → Grows h (after_judgement refusal journal h)
grows_judged h (Some refusal) journal = grows_not h
grows_judged h None None = grows_not h
grows_judged h None (Some journal) = record { more = journal ∷ []; journals_are = sym (append_assoc (journals_of h.closed) h.waiting (journal ∷ [])); blocks = []; closed_are = sym (append-nil h.closed) }

pub grows_with : (limits : Limits) (stamp : Option Stamp) (h : History) (job : Job) → Grows h (with_job limits stamp h job)
unfolding with_job
grows_with limits stamp h job = grows_judged h (own_refusal limits h job) (placed_journal h stamp job)

pub grows_after : (h : History) (step : Step) (job : Job) → Grows (judged_at h job) (after_job h step job)
unfolding after_job
grows_after h step job =
    let g = judged_at h job in
    let k = with_job real_limits (stamp_of step) g job in
    grows_then g k (settled_history job k) (grows_with real_limits (stamp_of step) g job) (grows_settled job k)

pub grows_job : (h : History) (step : Step) (job : Job) → Grows h (after_job h step job)
grows_job h step job = grows_then h (judged_at h job) (after_job h step job) (grows_asked h job) (grows_after h step job)

pub grows_size : (k g : History) → Grows k g → size k ≤ size g
grows_size k g a = omega (arith, ap length a.journals_are, length-append (journals k) a.more)

-- where nothing waits, all journals stand in blocks that have ended
pub size_closed : (k : History) → k.waiting ≡ [] → size k ≡ length (journals_of k.closed)
size_closed k none = ap (λ w. length (journals_of k.closed ++ w)) none ∙ ap length (append-nil (journals_of k.closed))

-- the end of the open block adds no journal
pub size_close : (k : History) → size (close k) ≡ size k
unfolding close
size_close k = by_waiting k.closed k.waiting where
  by_waiting : (blocks : List (List Entry)) (waiting : List Entry) → length (journals (close_by blocks waiting)) ≡ length (journals_of blocks ++ waiting)
  by_waiting blocks [] = refl
  by_waiting blocks (journal ∷ rest) = ap length (journals_of-push blocks (journal ∷ rest))

-- what a receipt says doesn't change when the history goes on
pub block_of-grows : (k g : History) (jsn : ℕ) → k.waiting ≡ [] → Grows k g → jsn < size k → block_of g jsn ≡ block_of k jsn
unfolding block_of
block_of-grows k g jsn none a below = ap (λ bs. block_from 0 bs jsn) a.closed_are ∙ block_from-append 0 k.closed a.blocks jsn (omega (arith, size_closed k none)) (omega arith)

pub end_of-grows : (k g : History) (jsn : ℕ) → k.waiting ≡ [] → Grows k g → jsn < size k → end_of g jsn ≡ end_of k jsn
unfolding end_of
end_of-grows k g jsn none a below = ap (λ bs. end_from 0 bs jsn) a.closed_are ∙ end_from-append 0 k.closed a.blocks jsn (omega (arith, size_closed k none)) (omega arith)

pub end_of-le : (k : History) (jsn : ℕ) → k.waiting ≡ [] → jsn < size k → end_of k jsn ≤ size k
unfolding end_of
end_of-le k jsn none below = omega (arith, end_from-le 0 k.closed jsn (omega (arith, size_closed k none)) (omega arith), size_closed k none)

-- where nothing waits, the open block has nothing to end
pub close_settled : (k : History) → k.waiting ≡ [] → k ≡ close k
unfolding close
close_settled k none = sym (ap (close_by k.closed) none ∙ ap (history k.closed) (sym none))

-- where nothing waits, nothing ends behind a job
pub settled_none : (k : History) (job : Job) → k.waiting ≡ [] → k ≡ settled_history job k
settled_none k job none = by_cases (closes_after job || nat_le BLOCK_LIMIT (length k.waiting)) where
  by_cases : (b : Bool) → k ≡ cond b (close k) k
  by_cases true = close_settled k none
  by_cases false = refl

close_some : (blocks closed : List (List Entry)) (waiting : List Entry) → 0 < length waiting → closed ≡ blocks ++ waiting ∷ [] → history closed [] ≡ close_by blocks waiting
close_some blocks closed [] some is = absurd (omega (arith, some))
close_some blocks closed (journal ∷ rest) some is = ap (λ bs. history bs []) is

-- the open block ended, where it has a journal
pub close_ended : (k : History) (closed : List (List Entry)) (block waiting : List Entry) → 0 < length k.waiting → closed ≡ k.closed ++ block ∷ [] → block ≡ k.waiting → waiting ≡ [] → history closed waiting ≡ close k
unfolding close
close_ended k closed block waiting some is same none =
    ap (history closed) none ∙ close_some k.closed closed k.waiting some (is ∙ ap (λ b. k.closed ++ b ∷ []) same)
