-- What a board begins with.
use Rattle.std.proofs.Common.{◌≡◌, ℕ, zero, suc, ◌-◌, ◌<◌, List, [], ◌∷◌, ◌++◌, take, drop, refl, sym, ap, ◌∙◌, arith, append-nil, length-drop, length-take-le}
use Rattle.std.specs.Prelude.{All}
use Rattle.std.proofs.lemmas.List.{take_all}
use Rattle.sha2.specs.Sha256.{sha256}
use Rattle.tree_model.specs.Peaks.{peaks as peaks_of}
use Rattle.merkle_batch.specs.Rows.{Levels, StandsFor}
use Rattle.merkle_batch.proofs.Keeping.{stands_size}
use Rattle.proof_board.specs.declared.view.Growth.{Growth}
use Rattle.proof_board.specs.History.{Digests, IsWide, all_leaves}
use Rattle.proof_board.specs.Growing.{base_of, IsListOf}

-- a history of one batch
pub one_batch : (x : Growth) (batch : Digests) → x.leaves ≡ batch → x.at.log ≡ batch ∷ [] → x.leaves ≡ all_leaves x.at.log
unfolding all_leaves
one_batch x batch leaves log = leaves ∙ sym (append-nil batch) ∙ sym (ap all_leaves log)

cut_at : {A : Type 0} (k : ℕ) (xs : List A) → xs ≡ take k xs ++ drop k xs
cut_at zero xs = refl
cut_at (suc k) [] = refl
cut_at (suc k) (x ∷ xs) = ap (λ l. x ∷ l) (cut_at k xs)

-- the board stands for each list that the tree stood for
pub opened_list : (tree : Levels) (ds ps batch : Digests) (floor : ℕ) → StandsFor sha256 tree ds → tree.floor < tree.size → All IsWide ds → floor ≡ tree.floor → ps ≡ peaks_of sha256 (take floor ds)
    → batch ≡ take (tree.size - tree.floor) (drop tree.floor ds) → (x : Growth) → x.base ≡ base_of floor ps → x.at.log ≡ batch ∷ [] → IsListOf x.base (all_leaves x.at.log) ds
unfolding all_leaves
opened_list tree ds ps batch floor stands some wide same peaks leaves x base log =
    let long = stands_size sha256 tree ds stands in
    let rest : batch ≡ drop floor ds = leaves ∙ take_all (tree.size - tree.floor) (drop tree.floor ds) (omega (arith, length-drop tree.floor ds, long)) ∙ ap (λ (k : ℕ). drop k ds) (sym same) in
    let all : all_leaves x.at.log ≡ drop floor ds = ap all_leaves log ∙ append-nil batch ∙ rest in record {
      front = take floor ds;
      whole = cut_at floor ds ∙ ap (λ (l : Digests). take floor ds ++ l) (sym all);
      count = length-take-le floor ds (omega (arith, long, some, same)) ∙ sym (ap (λ b. b.floor) base);
      peaks = sym peaks ∙ sym (ap (λ b. b.peaks) base);
      wide = wide;
    }
