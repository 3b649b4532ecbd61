use Rattle.std.proofs.Common.{◌∙◌, arith}
use Rattle.journal_record.proofs.ItemLaws.{item_of_found, item_of_only, item_of_cut, item_of_trailing}
use Rattle.journal_record.proofs.record.Record.decode.Goals as goal

pub returns-clause-found : goal.returns-clause-found
returns-clause-found c = item_of_found c.args.bytes.now c.read.result (λ i. omega (arith, c.type_inv.bytes i)) c.read.ensures

pub returns-clause-only : goal.returns-clause-only
returns-clause-only c = λ x fits e. c.read.ensures ∙ item_of_only c.args.bytes.now x fits e

pub returns-clause-cut : goal.returns-clause-cut
returns-clause-cut c = λ x k fits lt e. c.read.ensures ∙ item_of_cut c.args.bytes.now x k fits lt e

pub returns-clause-trailing : goal.returns-clause-trailing
returns-clause-trailing c = λ x rest fits some e. c.read.ensures ∙ item_of_trailing c.args.bytes.now x rest fits some e
