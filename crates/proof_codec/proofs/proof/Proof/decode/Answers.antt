use Rattle.std.proofs.Common.{◌∙◌, arith}
use Rattle.proof_codec.proofs.Wholes.{proof_of_found, proof_of_only}
use Rattle.proof_codec.proofs.Breaks.{breaks_of, proof_of_cut, proof_of_trailing, proof_of_version, proof_of_flag}
use Rattle.proof_codec.proofs.proof.Proof.decode.Goals as goal

pub returns-clause-found : goal.returns-clause-found
returns-clause-found c = proof_of_found c.args.bytes.now c.read.result (λ i. omega (arith, c.type_inv.bytes i)) c.read.ensures

pub returns-clause-only : goal.returns-clause-only
returns-clause-only c = λ p is_proof e. c.read.ensures ∙ proof_of_only c.args.bytes.now p is_proof e

pub returns-clause-breaks : goal.returns-clause-breaks
returns-clause-breaks c = breaks_of c.args.bytes.now c.read.result c.read.ensures

pub returns-clause-cut : goal.returns-clause-cut
returns-clause-cut c = λ p k is_proof lt e. c.read.ensures ∙ proof_of_cut c.args.bytes.now p k is_proof lt e

pub returns-clause-trailing : goal.returns-clause-trailing
returns-clause-trailing c = λ p rest is_proof some room e. c.read.ensures ∙ proof_of_trailing c.args.bytes.now p rest is_proof some room e

pub returns-clause-version : goal.returns-clause-version
returns-clause-version c = λ version rest other room e. c.read.ensures ∙ proof_of_version c.args.bytes.now version rest other room e

pub returns-clause-flag : goal.returns-clause-flag
returns-clause-flag c = λ p at flag rest is_proof place high room e. c.read.ensures ∙ proof_of_flag c.args.bytes.now p at flag rest is_proof place high room e
