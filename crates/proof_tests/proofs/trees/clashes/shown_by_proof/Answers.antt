use Rattle.std.proofs.Common.{◌≡◌, ℕ, ◌*◌, ◌-◌, ◌≤◌, false, List, length, take, drop, sym, ap, ◌∙◌, arith, ◌/◌}
use Rattle.std.specs.Str.{bytes_eq}
use Rattle.std.proofs.lemmas.Bool.{false≢true}
use Rattle.std.proofs.lemmas.Slice.Eq.{bytes_eq-Decides}
use Rattle.tree_model.specs.Tree.{Hash, mth, cut}
use Rattle.tree_model.proofs.Pieces.{take-cut}
use Rattle.proof_tests.proofs.trees.clashes.shown_by_proof.Goals as goal

-- the root over the first leaves of one byte, which are some bytes, is another
other_root : (hash : Hash) (m : ℕ) (leaves front old root : List ℕ) → m ≤ length leaves / 1 → front ≡ take (m - 0) (drop 0 leaves) → root ≡ mth hash (cut 1 front) → bytes_eq root old ≡ false
    → old ≡ mth hash (take m (cut 1 leaves)) → ⊥
other_root hash m leaves front old root within front_is root_is other is =
    let cuts : take m (cut 1 leaves) ≡ cut 1 front =
    take-cut 1 (omega arith) m leaves within ∙ ap (λ j. cut 1 (take j leaves)) (let one : m * 1 ≡ m - 0 = omega arith in one) ∙ ap (cut 1) (sym front_is) in
    let same : root ≡ old = root_is ∙ ap (mth hash) (sym cuts) ∙ sym is in
    false≢true (sym other ∙ (bytes_eq-Decides root old).1 same)

pub clash_proof-requires-clause-other : goal.clash_proof-requires-clause-other
clash_proof-requires-clause-other c is =
    let found = c.in_ok-get.ensures.lookup.0 in
    other_root _ c.args.m _ c.in_ok-get.field-0.now c.args.old.now.0 c.mth.result.0 found.1 found.2 c.mth.ensures (sym c.eq.ensures ∙ c.if-eq.false) is
