use Rattle.std.proofs.Common.{rules}
use Rattle.audit_dump.proofs.Fronts.{base_part_stops, front_ends, front_stops, id_stops}
use Rattle.audit_dump.proofs.front.take_front.Goals as goal

pub returns-in_err-take_magic-clause-reads : goal.returns-in_err-take_magic-clause-reads
returns-in_err-take_magic-clause-reads g c =
    let state = g.S.Source.state in
    let stopped = front_stops (state c.args.source.now) (state c.take_magic.new.source) c.args.window.now c.take_magic.new.window c.in_err-take_magic.field-0.0 c.in_err-take_magic.ensures in
    search (stopped, rules)

pub returns-in_err-id-clause-reads : goal.returns-in_err-id-clause-reads
returns-in_err-id-clause-reads g c =
    let state = g.S.Source.state in
    let stopped =
    id_stops (state c.args.source.now) (state c.take_magic.new.source) c.args.window.now c.take_magic.new.window (state c.take_digest.new.source) c.take_digest.new.window c.in_ok-take_magic.ensures c.in_err-id.field-0.0 c.in_err-id.ensures in
    search (stopped, rules)

pub returns-in_err-base-clause-reads : goal.returns-in_err-base-clause-reads
returns-in_err-base-clause-reads g c =
    let state = g.S.Source.state in
    let stopped =
    base_part_stops (state c.args.source.now) (state c.take_magic.new.source) c.args.window.now c.take_magic.new.window (state c.take_digest.new.source) c.take_digest.new.window c.in_ok-take_magic.ensures
    (state c.take_base.new.source) c.take_base.new.window c.in_ok-id.id c.in_ok-id.ensures c.in_err-base.field-0.0 c.in_err-base.ensures.reads in
    search (stopped, rules)

pub returns-clause-reads : goal.returns-clause-reads
returns-clause-reads g c =
    let state = g.S.Source.state in
    front_ends (state c.args.source.now) (state c.take_magic.new.source) c.args.window.now c.take_magic.new.window (state c.take_digest.new.source) c.take_digest.new.window c.in_ok-take_magic.ensures
    (state c.take_base.new.source) c.take_base.new.window c.in_ok-id.id c.in_ok-id.ensures c.in_ok-base.base c.in_ok-base.ensures.reads
