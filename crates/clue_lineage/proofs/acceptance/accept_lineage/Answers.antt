use Rattle.std.proofs.Common.{sym, ◌∙◌, arith}
use Rattle.clue_lineage.proofs.Accepted.{accepted_found, accepted_only}
use Rattle.clue_lineage.proofs.acceptance.accept_lineage.Goals as goal

pub returns-clause-yes : goal.returns-clause-yes
returns-clause-yes g c run = (
  λ is. accepted_found g.H.TreeHash.of c.args.proof.now c.args.clue.now c.args.head.now run (λ i. omega (arith, c.type_inv.proof i)) (sym c.answer_of.ensures ∙ is),
  λ it. c.answer_of.ensures ∙ accepted_only g.H.TreeHash.of c.args.proof.now c.args.clue.now c.args.head.now run it,
)
