use Rattle.std.proofs.Common.{◌∙◌, arith}
use Rattle.journal_record.proofs.ReadingLaws.{header_of_found, header_of_only, header_of_cut, header_of_trailing}
use Rattle.journal_record.proofs.header.Header.decode.Goals as goal

pub returns-clause-found : goal.returns-clause-found
returns-clause-found c = header_of_found c.args.bytes.now c.read.result (λ i. omega (arith, c.type_inv.bytes i)) c.read.ensures

pub returns-clause-only : goal.returns-clause-only
returns-clause-only c = λ h rules widths e. c.read.ensures ∙ header_of_only c.args.bytes.now h rules widths e

pub returns-clause-cut : goal.returns-clause-cut
returns-clause-cut c = λ h k rules widths lt e. c.read.ensures ∙ header_of_cut c.args.bytes.now h k rules widths lt e

pub returns-clause-trailing : goal.returns-clause-trailing
returns-clause-trailing c = λ h rest rules widths some e. c.read.ensures ∙ header_of_trailing c.args.bytes.now h rest rules widths some e
