-- The tree of a book, and the history that the book serves.
use Rattle.std.proofs.Common.{◌≡◌, ℕ, ◌<◌, ◌≤◌, List, length, map, take, inl, inr, ap, sym, subst, ◌∙◌, arith}
use Rattle.std.specs.Prelude.{IsOk, Result, Ok, Err}
use Rattle.std.proofs.lemmas.Bool.{cases_lt}
use Rattle.std.proofs.lemmas.List.{take-map, length-map}
use Rattle.sha2.specs.Sha256.{sha256}
use Rattle.tree_model.specs.Tree as tree
use Rattle.merkle_batch.specs.Rows.{Levels, StandsFor}
use Rattle.merkle_batch.specs.declared.tree.TreeErr.{TreeErr}
use Rattle.merkle_batch.specs.declared.tree.TreeErr.TheVariants.{Beyond}
use Rattle.ledger_bytes.specs.declared.digest.Digest.{Digest}
use Rattle.merkle_tree.specs.declared.head.Head.{Head}
use Rattle.journal_record.specs.Entry.{Entry}
use Rattle.journal_record.specs.Header.{spelling}
use Rattle.ledger_model.specs.History as model
use Rattle.ledger_model.specs.History.{History, journals, leaf_digest}
use Rattle.ledger_book.specs.Books.{Kept, Stands, Serves, leaf_digests, sealed_size}
use Rattle.ledger_book.specs.Seals.{head_at, head_of}
use Rattle.ledger_book.proofs.StandsLaws.{point_is, digests_of}

-- the root over the first leaves is the history's
pub root_before : (h : History) (m : ℕ) → tree.root sha256 (take m (leaf_digests h)) ≡ model.root h m
unfolding model.root
root_before h m =
    ap (λ ds. tree.root sha256 (take m ds)) (digests_of (journals h))
    ∙ ap (tree.root sha256) (take-map (tree.leaf sha256) m (map (λ (j : Entry). spelling j.header) (journals h)))

-- nothing waits: all journals stand in blocks that have ended
settled_size : (k : Kept) (h : History) → Stands k h → k.sealed ≡ k.size → sealed_size h ≡ model.size h
settled_size k h s settled = sym s.counts.sealed_is ∙ settled ∙ s.counts.size

-- the head at the last block's end is that over all journals
pub settled_head : (k : Kept) (h : History) → Stands k h → (head : Head) → k.sealed ≡ k.size → head ≡ head_of h → head ≡ head_at h (model.size h)
settled_head k h s head settled is = is ∙ ap (head_at h) (settled_size k h s settled)

leaves_count : (t : Levels) (ds : List (List ℕ)) → StandsFor sha256 t ds → length ds ≡ t.size
unfolding StandsFor
leaves_count t ds stands = stands.0

module _ (k : Kept) (t : Levels) (stands : (h : History) → Stands k h → StandsFor sha256 t (leaf_digests h)) (floor : t.floor ≡ k.floor) (h : History) (s : Serves k h) where
  pub size_told : t.size ≡ model.size h
  size_told = sym (leaves_count t (leaf_digests h) (stands h s.stands)) ∙ length-map (journals h) leaf_digest

  -- a journal that is kept has its leaf
  pub leaf_kept : (n : ℕ) → model.point h ≤ n → t.floor ≤ n
  leaf_kept n kept = omega (arith, floor, s.seen, point_is k h s, kept)

  pub leaf_there : (n : ℕ) → n < model.size h → n < t.size
  leaf_there n there = omega (arith, size_told, there)

  -- a leaf that is told is there, and one that isn't told lies behind them all
  pub leaf_within : (n : ℕ) → model.point h ≤ n → (r : Result Digest TreeErr) (leaf : Digest) → r ≡ Ok leaf → (t.floor ≤ n → t.size ≤ n → r ≡ Err (Beyond t.size)) → n < model.size h
  leaf_within n kept r leaf is beyond = elim (cases_lt n t.size) [
    | inl less ↦ omega (arith, less, size_told)
    | inr le ↦ let bad : Ok leaf ≡ Err (Beyond t.size) = sym is ∙ beyond (leaf_kept n kept) le in absurd cc
  ]

  pub leaf_beyond : (n : ℕ) → model.point h ≤ n → (r : Result Digest TreeErr) (e : TreeErr) → r ≡ Err e → (t.floor ≤ n → n < t.size → IsOk r) → model.size h ≤ n
  leaf_beyond n kept r e is ok = elim (cases_lt n t.size) [
    | inl less ↦ let bad : IsOk {T = Digest} (Err e) = subst IsOk is (ok (leaf_kept n kept) less) in absurd cc
    | inr le ↦ omega (arith, le, size_told)
  ]
