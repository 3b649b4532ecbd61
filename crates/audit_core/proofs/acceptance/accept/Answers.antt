use Rattle.std.proofs.Common.{arith}
use Rattle.script_lines.specs.declared.said.Which.TheVariants.{Notary}
use Rattle.audit_core.specs.Trust.{root_of, ledger_at}
use Rattle.audit_core.proofs.Accepting.{yes_found, yes_only}
use Rattle.audit_core.proofs.acceptance.accept.Goals as goal

pub returns-clause-yes : goal.returns-clause-yes
returns-clause-yes g c = (
  λ ok. yes_found g.H.TreeHash.of c.args.proof.now c.args.claim.now (ledger_at c.args.heads.now) (root_of Notary c.args.heads.now) c.answer_of.result (λ i. omega (arith, c.type_inv.proof i)) c.answer_of.ensures ok,
  λ it. yes_only g.H.TreeHash.of c.args.proof.now c.args.claim.now (ledger_at c.args.heads.now) (root_of Notary c.args.heads.now) c.answer_of.result c.answer_of.ensures it,
)
