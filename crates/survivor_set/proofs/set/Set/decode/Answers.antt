use Rattle.std.proofs.Common.{◌∙◌, arith}
use Rattle.survivor_set.proofs.Wholes.{set_found, set_only, set_trailing}
use Rattle.survivor_set.proofs.set.Set.decode.Goals as goal

pub returns-clause-found : goal.returns-clause-found
returns-clause-found c = set_found c.args.bytes.now c.read_set.result (λ i. omega (arith, c.type_inv.bytes i)) c.read_set.ensures

pub returns-clause-only : goal.returns-clause-only
returns-clause-only c = λ s fits e. c.read_set.ensures ∙ set_only c.args.bytes.now s fits e

pub returns-clause-trailing : goal.returns-clause-trailing
returns-clause-trailing c = λ s rest fits some e. c.read_set.ensures ∙ set_trailing c.args.bytes.now s rest fits some e
