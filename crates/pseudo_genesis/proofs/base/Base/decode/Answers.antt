use Rattle.std.proofs.Common.{subst, arith}
use Rattle.pseudo_genesis.specs.Reading.{ReadsBase}
use Rattle.pseudo_genesis.proofs.Wholes.{read_found, read_only, base_of_only, base_of_cut, base_of_trailing}
use Rattle.pseudo_genesis.proofs.Breaks.{read_breaks}
use Rattle.pseudo_genesis.proofs.base.Base.decode.Goals as goal

pub returns-clause-found : goal.returns-clause-found
returns-clause-found c = read_found c.args.bytes.now c.read.result (λ i. omega (arith, c.type_inv.bytes i)) c.read.ensures

pub returns-clause-only : goal.returns-clause-only
returns-clause-only c = λ b rules widths e. read_only c.args.bytes.now c.read.result b (base_of_only c.args.bytes.now b rules widths e) c.read.ensures

pub returns-clause-breaks : goal.returns-clause-breaks
returns-clause-breaks c = read_breaks c.args.bytes.now c.read.result c.read.ensures

pub returns-clause-cut : goal.returns-clause-cut
returns-clause-cut c = λ b k rules widths lt e. subst (ReadsBase c.read.result) (base_of_cut c.args.bytes.now b k rules widths lt e) c.read.ensures

pub returns-clause-trailing : goal.returns-clause-trailing
returns-clause-trailing c = λ b rest rules widths some e. subst (ReadsBase c.read.result) (base_of_trailing c.args.bytes.now b rest rules widths some e) c.read.ensures
