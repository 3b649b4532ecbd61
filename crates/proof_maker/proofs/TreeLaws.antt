-- The tree of a book, and the history that the book serves.
use Rattle.std.proofs.Common.{◌≡◌, ℕ, ◌<◌, ◌≤◌, List, [], ◌∷◌, map, take, refl, sym, ap, ◌∙◌, subst, arith}
use Rattle.std.specs.Prelude.{All}
use Rattle.std.proofs.lemmas.List.{take-map, take_all, length-map}
use Rattle.sha2.specs.Sha256.{sha256}
use Rattle.tree_model.specs.Tree as tree
use Rattle.merkle_batch.specs.Rows.{Levels, StandsFor}
use Rattle.merkle_tree.specs.declared.head.Head.{Head}
use Rattle.journal_record.specs.Entry.{Entry}
use Rattle.journal_record.specs.Header.{spelling}
use Rattle.ledger_model.specs.History as model
use Rattle.ledger_model.specs.History.{History, journals, leaf_digest}
use Rattle.ledger_book.specs.Books.{Kept, Stands, Serves, leaf_digests, sealed_size}
use Rattle.ledger_book.specs.Seals.{head_at, head_of}
use Rattle.ledger_book.proofs.StandsLaws.{point_is}
use Rattle.proof_maker.specs.Parts.{IsAt}
use Rattle.tree_model.proofs.Widths.{IsWide}
use Rattle.proof_maker.proofs.FoldLaws.{leaves_wide}
use Rattle.proof_maker.proofs.HeaderLaws.{above, within}
use Rattle.proof_maker.proofs.RowLaws.{size_is}

pub digests_of : (js : List Entry) → map leaf_digest js ≡ map (tree.leaf sha256) (map (λ (j : Entry). spelling j.header) js)
digests_of [] = refl
digests_of (j ∷ js) = ap (λ rest. leaf_digest j ∷ rest) (digests_of js)

-- the root over the first leaves is the history's
pub root_told : (h : History) (m : ℕ) → tree.root sha256 (take m (leaf_digests h)) ≡ model.root h m
unfolding model.root
root_told h m =
    ap (λ ds. tree.root sha256 (take m ds)) (digests_of (journals h))
    ∙ ap (tree.root sha256) (take-map (tree.leaf sha256) m (map (λ (j : Entry). spelling j.header) (journals h)))

-- nothing waits: all journals stand in blocks that have ended
pub settled_size : (k : Kept) (h : History) → Stands k h → k.sealed ≡ k.size → sealed_size h ≡ model.size h
settled_size k h s settled = sym s.counts.sealed_is ∙ settled ∙ s.counts.size

module _ (k : Kept) (t : Levels) (stands : (h : History) → Stands k h → StandsFor sha256 t (leaf_digests h)) (floor : t.floor ≡ k.floor) (h : History) (s : Serves k h) where
  pub tree_is : StandsFor sha256 t (leaf_digests h)
  tree_is = stands h s.stands

  pub size_told : t.size ≡ model.size h
  size_told = sym (size_is t (leaf_digests h) tree_is) ∙ length-map (journals h) leaf_digest

  -- a journal that is kept has its leaf
  pub leaf_kept : (n : ℕ) → model.point h ≤ n → t.floor ≤ n
  leaf_kept n kept = omega (arith, floor, s.seen, point_is k h s, kept)

  pub leaf_there : (n : ℕ) → n < model.size h → n < t.size
  leaf_there n there = omega (arith, size_told, there)

  pub time_kept : (jsn : ℕ) (e : Entry) → IsAt h jsn e → t.floor ≤ jsn
  time_kept jsn e at = omega (arith, floor, above k h s e at.kept, at.number)

  pub time_there : (jsn : ℕ) (e : Entry) → IsAt h jsn e → jsn < t.size
  time_there jsn e at = omega (arith, size_told, within k h s e at.kept, at.number)

-- the head at the last block's end is that over all journals
pub settled_head : (k : Kept) (h : History) → Stands k h → (head : Head) → k.sealed ≡ k.size → head ≡ head_of h → head ≡ head_at h (model.size h)
settled_head k h s head settled is = is ∙ ap (head_at h) (settled_size k h s settled)

-- the root over all leaves
pub whole_root : (h : History) → tree.root sha256 (leaf_digests h) ≡ model.root h (model.size h)
whole_root h = ap (tree.root sha256) (sym (take_all (model.size h) (leaf_digests h) (omega (arith, length-map (journals h) leaf_digest)))) ∙ root_told h (model.size h)

pub all_wide : (h : History) → All IsWide (leaf_digests h)
all_wide h = subst (All IsWide) (sym (digests_of (journals h))) (leaves_wide (map (λ (j : Entry). spelling j.header) (journals h)))
