use Rattle.std.specs.Int.{w64}
use Rattle.std.proofs.Common.{rules}
use Rattle.ledger_bytes.specs.Fields.{number_at}
use Rattle.audit_dump.specs.Breaks.{base_part_at}
use Rattle.audit_dump.specs.Fronts.{base_behind}
use Rattle.audit_dump.proofs.Fronts.{base_stops, reads_then}
use Rattle.audit_dump.proofs.front.take_base.Goals as goal

pub returns-clause-reads : goal.returns-clause-reads
unfolding base_part_at
returns-clause-reads g c =
    let state = g.S.Source.state in
    reads_then (number_at w64) (λ len. base_behind len.0 len.1) (state c.args.source.now) (state c.take_number.new.source) c.args.window.now c.take_number.new.window (state c.base_of_len.new.source) c.base_of_len.new.window c.in_ok-len.len c.base_of_len.result c.in_ok-len.ensures c.base_of_len.ensures.reads

pub returns-in_err-len-clause-reads : goal.returns-in_err-len-clause-reads
returns-in_err-len-clause-reads g c =
    let state = g.S.Source.state in
    let stopped = base_stops (state c.args.source.now) (state c.take_number.new.source) c.args.window.now c.take_number.new.window c.in_err-len.field-0.0 c.in_err-len.ensures in
    search (stopped, rules)
