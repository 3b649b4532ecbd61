-- Lemmas on a board that follows a ledger.
use Rattle.std.specs.Prelude.{All, Contains}
use Rattle.std.proofs.Common.{◌≡◌, ◌≢◌, ◌⊎◌, ℕ, ◌+◌, ◌-◌, ◌<◌, ◌≤◌, true, false, inl, inr, List, [], ◌∷◌, ◌++◌, length, get_or, slice_get, Some, option_map, refl, ap, sym, subst, ◌∙◌, arith, append-nil, length-append, true≢false}
use Rattle.std.proofs.lemmas.List.Elements.{All-nil, All-cons, All-weaker, All-contains, Contains-append_left, Contains-append_right, Contains-push}
use Rattle.std.proofs.lemmas.List.{get_or-append_right}
use Rattle.std.proofs.lemmas.List.Folds.{list_all_at}
use Rattle.std.proofs.lemmas.Option.{slice_get-map, slice_get_cases, same_Some}
use mathlib.Core.List.{IsPrefix}
use mathlib.Core.Logic.{dite}
use native.Mathlib.Decide.{ℕ_discrete}
use Rattle.journal_record.specs.declared.header.Header.{Header}
use Rattle.ledger_model.specs.Lawful.{IsBlock, gathers}
use Rattle.proof_board.specs.History.{Digests}
use Rattle.proof_board.specs.declared.view.Base.{Base}
use Rattle.proof_board.proofs.Fronts.{prefix_shorter}
use Rattle.ledger_model.specs.Growing.{Grows}
use Rattle.ledger_model.specs.Ends.{ends_from}
use Rattle.ledger_model.specs.History.{History, ends, journals, journals_of, size}
use Rattle.ledger_model.proofs.EndLaws.{ends_split}
use Rattle.ledger_model.proofs.GrowLaws.{journals_of-push, length-journals_of}
use Rattle.journal_record.specs.Entry.{Entry}
use Rattle.std.specs.Prelude.{MatchBool}
use Rattle.std.proofs.Common.{Bool}
use Rattle.std.proofs.lemmas.List.{length-map}
use Rattle.sha2.specs.Sha256.{sha256}
use Rattle.ledger_book.specs.Books.{Kept, Serves, headers, leaf_digests}
use Rattle.ledger_model.specs.History.{leaf_digest}
use Rattle.merkle_batch.specs.Rows.{Levels}
use Rattle.merkle_batch.proofs.Keeping.{stands_size}
use Rattle.proof_board.proofs.Fronts.{prefix_self}
use Rattle.proof_board.specs.Words.{shown_by, history_of}
use Rattle.ledger_cli.specs.declared.posting.Posting.{Posting}
use Rattle.ledger_cli.specs.Beside.{IsPublished, posted_by}
use Rattle.ledger_cli.specs.Boards.{Posted, Lasting, IsAlone, IsBlockEnd, IsNextTo, IsShownSize, IsPosted, board_limit, lasting, published_size, list_size}

-- ---- block ends stay

grown_end : (h g : History) (n : ℕ) → Grows h g → IsBlockEnd h n → IsBlockEnd g n
grown_end h g n a e =
    subst (λ (bs : List (List Entry)). Contains (ends_from 0 bs) n) (sym a.closed_are)
    (subst (λ (l : List ℕ). Contains l n) (sym (ends_split 0 h.closed a.blocks)) (Contains-append_left (ends_from 0 h.closed) (ends_from (0 + length (journals_of h.closed)) a.blocks) n e))

-- ---- the last block's end

ends_last : (n : ℕ) (block : List Entry) (blocks : List (List Entry)) → Contains (ends_from n (block ∷ blocks)) (n + length (journals_of (block ∷ blocks)))
ends_last n block [] = subst (λ (m : ℕ). Contains (ends_from n (block ∷ [])) m) (ap (λ (l : List Entry). n + length l) (sym (append-nil block))) (Contains-push [] (n + length block))
ends_last n block (next ∷ blocks) =
    subst (λ (m : ℕ). Contains (ends_from n (block ∷ next ∷ blocks)) m) (let l = length-journals_of block (next ∷ blocks) in omega (arith, l))
    (Contains-append_right ((n + length block) ∷ []) (ends_from (n + length block) (next ∷ blocks)) (n + length block + length (journals_of (next ∷ blocks))) (ends_last (n + length block) next blocks))

closed_end : (blocks : List (List Entry)) → 0 < length (journals_of blocks) → Contains (ends_from 0 blocks) (length (journals_of blocks))
closed_end [] some = absurd (omega (arith, some))
closed_end (block ∷ blocks) some = subst (Contains (ends_from 0 (block ∷ blocks))) (let n : 0 + length (journals_of (block ∷ blocks)) ≡ length (journals_of (block ∷ blocks)) = omega arith in n) (ends_last 0 block blocks)

-- where nothing waits the last block ended at the whole size
pub settled_end : (h : History) → h.waiting ≡ [] → 0 < size h → IsBlockEnd h (size h)
settled_end h none some =
    let is : length (journals_of h.closed) ≡ size h = ap length (sym (append-nil (journals_of h.closed)) ∙ ap (λ (w : List Entry). journals_of h.closed ++ w) (sym none)) in
    subst (IsBlockEnd h) is (closed_end h.closed (omega (arith, is, some)))

-- a block ends within the whole size
ends_within : (n : ℕ) (blocks : List (List Entry)) → All (λ e. e ≤ n + length (journals_of blocks)) (ends_from n blocks)
ends_within n [] = All-nil (λ e. e ≤ n + length (journals_of []))
ends_within n (block ∷ blocks) =
    let all = length-journals_of block blocks in
    All-cons (λ e. e ≤ n + length (journals_of (block ∷ blocks))) (n + length block) (ends_from (n + length block) blocks) (omega (arith, all))
    (All-weaker (λ e. e ≤ n + length block + length (journals_of blocks)) (λ e. e ≤ n + length (journals_of (block ∷ blocks))) (λ e l. omega (arith, all, l)) (ends_from (n + length block) blocks) (ends_within (n + length block) blocks))

pub end_le : (h : History) (n : ℕ) → IsBlockEnd h n → n ≤ size h
end_le h n e =
    let l = All-contains (λ e. e ≤ 0 + length (journals_of h.closed)) (ends h) n (ends_within 0 h.closed) e in
    let all = length-append (journals_of h.closed) h.waiting in
    omega (arith, l, all)

-- ---- a journal that stands alone

split_last : (blocks : List (List Entry)) → 0 < length blocks → (front : List (List Entry)) × ((last : List Entry) × (blocks ≡ front ++ last ∷ []))
split_last [] some = absurd (omega (arith, some))
split_last (block ∷ []) some = ([], (block, refl))
split_last (block ∷ next ∷ blocks) some = let s = split_last (next ∷ blocks) (omega arith) in (block ∷ s.0, (s.1.0, ap (λ (l : List (List Entry)). block ∷ l) s.1.1))

some_block : (h : History) → h.waiting ≡ [] → 0 < size h → 0 < length h.closed
some_block h none some = by h.closed (omega (arith, some, ap (λ (w : List Entry). length (journals_of h.closed ++ w)) none, length-append (journals_of h.closed) []))
  where
    by : (blocks : List (List Entry)) → 0 < length (journals_of blocks) → 0 < length blocks
    by [] l = l
    by (block ∷ blocks) l = omega arith

-- the last block has one journal, where that is of a kind that shares none, so that the block in front of it ended there
pub alone_end : (h : History) → h.waiting ≡ [] → All IsBlock h.closed → IsAlone h → 1 < size h → IsBlockEnd h (size h - 1)
alone_end h none blocks alone some =
    let s = split_last h.closed (some_block h none (omega (arith, some))) in
    let front = s.0 in
    let last = s.1.0 in
    let js : journals h ≡ journals_of front ++ last =
    ap (λ (y : List (List Entry) × List Entry). journals_of y.0 ++ y.1) (λ i. (s.1.1 i, none i)) ∙ journals_of-push front last in
    let all : size h ≡ length (journals_of front) + length last = ap length js ∙ length-append (journals_of front) last in
    let block : IsBlock last = All-contains IsBlock (front ++ last ∷ []) last (subst (All IsBlock) s.1.1 blocks) (Contains-push front last) in
    dite (ℕ_discrete (length last) 1)
    (λ (one : length last ≡ 1).
    let n : length (journals_of front) ≡ size h - 1 = omega (arith, all, one) in
    subst (IsBlockEnd h) n
    (subst (λ (l : List ℕ). Contains l (length (journals_of front))) (sym (ap (ends_from 0) s.1.1 ∙ ends_split 0 front (last ∷ [])))
    (Contains-append_left (ends_from 0 front) (ends_from (0 + length (journals_of front)) (last ∷ [])) (length (journals_of front)) (closed_end front (omega (arith, n, some))))))
    (λ (many : length last ≢ 1).
    let gathered = block.gathered many in
    let k = size h - 1 in
    let got : option_map (λ (e : Entry). e.header) (slice_get (journals h) k) ≡ Some alone.0 = sym (slice_get-map (λ (e : Entry). e.header) (journals h) k) ∙ alone.1 in
    elim (slice_get_cases (journals h) k).1 [
      | inl there ↦
          let e = there.0 in
          let header : e.header ≡ alone.0 = same_Some _ _ (sym (ap (option_map (λ (x : Entry). x.header)) there.2) ∙ got) in
          let place : get_or last (k - length (journals_of front)) e ≡ e = sym (get_or-append_right (journals_of front) last (length (journals_of front)) k e refl (let b = block.some in omega (arith, all, b))) ∙ ap (λ (l : List Entry). get_or l k e) (sym js) ∙ there.3 in
          let no = list_all_at (λ (x : Entry). gathers x.header.kind) last (k - length (journals_of front)) e (let b = block.some in omega (arith, all, b)) (ap (λ (x : Entry). gathers x.header.kind) place ∙ ap (λ (x : Header). gathers x.kind) header ∙ alone.2) in
          absurd (true≢false (sym gathered ∙ no))
      | inr past ↦ absurd (let no : ⊥ = cc (sym (ap (option_map (λ (x : Entry). x.header)) past.1) ∙ got) in no)
    ])

pub alone_not : (h : History) (x : Header) → slice_get (headers h) (size h - 1) ≡ Some x → gathers x.kind ≡ true → IsAlone h → ⊥
alone_not h x is kind alone = true≢false (sym kind ∙ ap (λ (y : Header). gathers y.kind) (same_Some _ _ (sym is ∙ alone.1)) ∙ alone.2)

-- ---- a look

-- the beginnings of a list with one element more
push_cases : {A : Type 0} (xs ys : List A) (y : A) → IsPrefix xs (ys ++ y ∷ []) → IsPrefix xs ys ⊎ (xs ≡ ys ++ y ∷ [])
push_cases {A = A} xs ys y (rest, is) = by rest is
  where
    by : (rest : List A) → xs ++ rest ≡ ys ++ y ∷ [] → IsPrefix xs ys ⊎ (xs ≡ ys ++ y ∷ [])
    by [] is = inr (sym (append-nil xs) ∙ is)
    by (z ∷ rest) is =
        let l = ap length is in let m = length-append xs (z ∷ rest) in let n = length-append ys (y ∷ []) in
        inl (prefix_shorter xs ys (ys ++ y ∷ []) (z ∷ rest, is) (y ∷ [], refl) (omega (arith, l, m, n)))

-- what a board shows once its ledger went on by one step
module _ (first : ℕ) (h g : History) (old new : Posted) (next : IsNextTo h g) (f : IsPosted first h old) (base : new.growth.base ≡ old.growth.base) where
  shown_on : (l : List Digests) → IsPrefix l old.growth.at.log → 0 < length l → IsShownSize first old.growth.base.floor g (list_size old.growth.base l)
  shown_on l begins some = let s = f.shown l begins some in record { ended = grown_end h g (list_size old.growth.base l) next.grows s.ended; few = s.few }

  -- an end of a block that the board may keep is shown, or is one with which the step ended
  pub shown_or_new : old.lacking ≡ false → (n : ℕ) → IsBlockEnd g n → n ≤ old.growth.base.floor + board_limit
      → (n ≤ published_size old.growth) ⊎ ((g.waiting ≡ []) × ((n ≡ size g) ⊎ ((n ≡ size g - 1) × IsAlone g)))
  shown_or_new not n e few = elim (next.ended n e) [ inl before ↦ inl (f.most not n before few) | inr now ↦ inr now ]

  -- nothing was published
  pub posted_same : new.growth.at.log ≡ old.growth.at.log → (new.lacking ≡ false → new.waiting ≡ [])
      → (new.lacking ≡ false → (n : ℕ) → IsBlockEnd g n → n ≤ old.growth.base.floor + board_limit → n ≤ published_size old.growth) → IsPosted first g new
  posted_same log waits most = record {
    shown = λ l begins some. subst (λ (b : Base). IsShownSize first b.floor g (list_size b l)) (sym base) (shown_on l (subst (IsPrefix l) log begins) some);
    some = subst (λ (l : List Digests). 0 < length l) (sym log) f.some;
    none_waits = waits;
    most = λ not n e few. subst (λ (y : Base × List Digests). n ≤ list_size y.0 y.1) (λ i. (sym base i, sym log i)) (most not n e (subst (λ (b : Base). n ≤ b.floor + board_limit) base few));
  }

  -- one batch was
  pub posted_more : (batch : Digests) (to : ℕ) → new.growth.at.log ≡ old.growth.at.log ++ batch ∷ [] → published_size new.growth ≡ to → (new.lacking ≡ false → new.waiting ≡ []) → IsBlockEnd g to → to ≤ old.growth.base.floor + board_limit
      → ((n : ℕ) → IsBlockEnd g n → n ≤ old.growth.base.floor + board_limit → n ≤ to) → IsPosted first g new
  posted_more batch to log is waits ended few most = record {
    shown = λ l begins some. subst (λ (b : Base). IsShownSize first b.floor g (list_size b l)) (sym base)
        (elim (push_cases l old.growth.at.log batch (subst (IsPrefix l) log begins)) [
          | inl less ↦ shown_on l less some
          | inr whole ↦ subst (IsShownSize first old.growth.base.floor g) (sym (is_to l whole)) (record { ended = ended; few = inl few })
        ]);
    some = subst (λ (l : List Digests). 0 < length l) (sym log) (omega (arith, length-append old.growth.at.log (batch ∷ [])));
    none_waits = waits;
    most = λ not n e below. subst (λ (m : ℕ). n ≤ m) (sym is) (most n e (subst (λ (b : Base). n ≤ b.floor + board_limit) base below));
  }
    where
      is_to : (l : List Digests) → l ≡ old.growth.at.log ++ batch ∷ [] → list_size old.growth.base l ≡ to
      is_to l whole = ap (λ (y : Base × List Digests). list_size y.0 y.1) (λ i. (sym base i, (whole ∙ sym log) i)) ∙ is

-- the tree of a book that serves a history has as many leaves as that has journals
pub tree_size : (k : Kept) (h : History) → Serves k h → k.tree.size ≡ size h
tree_size k h s = let l = stands_size sha256 k.tree (leaf_digests h) s.stands.tree.leaves in let m = length-map (journals h) leaf_digest in omega (arith, l, m)

module _ {R : Type 0} (first : ℕ) (h g : History) (old new : Posting R) (tree : Levels) (to : ℕ) (next : IsNextTo h g) (f : IsPosted first h (posted_by old)) (same : lasting (posted_by new) ≡ lasting (posted_by old))
    (x : MatchBool new.lacking (history_of new.writer ≡ history_of old.writer) (IsPublished old new tree to)) where
  base_same : (shown_by new.writer).base ≡ (shown_by old.writer).base
  base_same = ap (λ (l : Lasting). l.base) same

  pub look_follows : IsBlockEnd g to → to ≤ (shown_by old.writer).base.floor + board_limit → ((n : ℕ) → IsBlockEnd g n → n ≤ (shown_by old.writer).base.floor + board_limit → n ≤ to) → IsPosted first g (posted_by new)
  look_follows ended few most = by new.lacking refl x
    where
      by : (b : Bool) → new.lacking ≡ b → MatchBool b (history_of new.writer ≡ history_of old.writer) (IsPublished old new tree to) → IsPosted first g (posted_by new)
      by true is same_log = posted_same first h g (posted_by old) (posted_by new) next f base_same same_log (λ no. absurd (true≢false (sym is ∙ no))) (λ no. absurd (true≢false (sym is ∙ no)))
      by false is y = posted_more first h g (posted_by old) (posted_by new) next f base_same y.batch to y.history y.size_is (λ no. y.none_waits) ended few most

-- a board shows no more than there is
pub posted_le : (first : ℕ) (h : History) (p : Posted) → IsPosted first h p → published_size p.growth ≤ size h
posted_le first h p f = end_le h (published_size p.growth) (f.shown p.growth.at.log (prefix_self p.growth.at.log) f.some).ended
