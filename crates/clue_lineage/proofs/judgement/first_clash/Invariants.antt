use Rattle.std.proofs.Common.{length, Option}
use Rattle.std.specs.List.{AllByRecursion}
use Rattle.tree_model.specs.Tree.{cut}
use Rattle.merkle_tree.specs.declared.clash.Clash.{Clash}
use Rattle.audit_core.specs.Parts.{Finds}
use Rattle.clue_lineage.specs.Judging.{Gives, parts_of}
use Rattle.clue_lineage.proofs.judgement.first_clash.Given as goal

-- what is found among the journals that are left is found among all
abbrev pub invariant-loop-item : goal.invariant-loop-item
invariant-loop-item g l = record {
  gives : AllByRecursion (Gives g.H.TreeHash.of (cut 174 l.headers)) l.rest;
  behind : (found : Option Clash) → Finds g.H.TreeHash.of (parts_of g.H.TreeHash.of (cut 174 l.headers) l.rest) found → Finds g.H.TreeHash.of (parts_of g.H.TreeHash.of (cut 174 l.headers) l.items) found;
}

abbrev pub decreases-loop-item : goal.decreases-loop-item
decreases-loop-item g l = length l.rest
