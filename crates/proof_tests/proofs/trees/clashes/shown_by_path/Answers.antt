use Rattle.std.proofs.Common.{◌≡◌, ℕ, ◌+◌, ◌*◌, ◌<◌, ◌/◌, ◌-◌, false, List, [], length, get_or, take, drop, sym, ap, ◌∙◌, arith}
use Rattle.std.specs.Str.{bytes_eq}
use Rattle.std.proofs.lemmas.Bool.{false≢true}
use Rattle.std.proofs.lemmas.List.{get_or-map}
use Rattle.std.proofs.lemmas.Slice.Eq.{bytes_eq-Decides}
use Rattle.ledger_bytes.specs.Toy.{toy}
use Rattle.tree_model.specs.Tree.{Hash, leaf, cut}
use Rattle.tree_model.proofs.Pieces.{length-cut}
use Rattle.tree_model.proofs.PlacedPieces.{get_or-cut}
use Rattle.merkle_tree.specs.Part.{leaves_of}
use Rattle.proof_tests.proofs.trees.clashes.shown_by_path.Goals as goal

-- the digest of a leaf of one byte, which is some byte, is another
other_leaf : (hash : Hash) (n : ℕ) (leaves byte told digest : List ℕ) → n < length leaves / 1 → byte ≡ take ((n + 1) - n) (drop n leaves) → digest ≡ leaf hash byte → bytes_eq digest told ≡ false
    → told ≡ get_or (leaves_of hash 1 leaves) n [] → ⊥
other_leaf hash n leaves byte told digest within byte_is digest_is other is =
    let one : n * 1 ≡ n = omega arith in
    let wide : (n + 1) - n ≡ 1 = omega arith in
    let piece : get_or (cut 1 leaves) n [] ≡ byte =
    get_or-cut n 1 leaves within ∙ ap (λ j. take 1 (drop j leaves)) one ∙ ap (λ j. take j (drop n leaves)) (sym wide) ∙ sym byte_is in
    let same : digest ≡ told = digest_is ∙ ap (leaf hash) (sym piece) ∙ sym (get_or-map (leaf hash) (cut 1 leaves) n [] [] (omega (arith, within, length-cut 1 leaves))) ∙ sym is in
    false≢true (sym other ∙ (bytes_eq-Decides digest told).1 same)

pub clash_path-requires-clause-other : goal.clash_path-requires-clause-other
clash_path-requires-clause-other c is =
    let found = c.in_ok-get.ensures.lookup.0 in
    let within : c.args.n < 5 / 1 = omega (arith, found.1) in
    other_leaf toy c.args.n _ c.in_ok-get.field-0.now c.args.leaf.now.0 c.leaf_of.result.0 within found.2 c.leaf_of.ensures (sym c.eq.ensures ∙ c.if-eq.false) is
