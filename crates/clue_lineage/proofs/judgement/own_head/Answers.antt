use Rattle.std.proofs.Common.{ℕ, List, ◌/◌, length, sym, ap, ◌∙◌}
use Rattle.ledger_bytes.specs.Digests.{digest}
use Rattle.tree_model.specs.Tree.{mth, cut}
use Rattle.tree_model.proofs.Pieces.{length-cut}
use Rattle.merkle_tree.specs.declared.head.Head.{Head}
use Rattle.clue_lineage.proofs.judgement.own_head.Goals as goal

head_of : ℕ → List ℕ → Head
head_of size root = record { size = size; root = digest root }

pub returns : goal.returns
unfolding head_of
returns g c =
    ap (λ (root : List ℕ). head_of (length c.args.headers.now / 174) root) c.mth.ensures ∙ ap (λ n. head_of n (mth g.H.TreeHash.of (cut 174 c.args.headers.now))) (sym (length-cut 174 c.args.headers.now))
