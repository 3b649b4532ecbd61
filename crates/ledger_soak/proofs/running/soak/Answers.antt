use Rattle.ledger_soak.proofs.WriteLaws.{broken_so}
use Rattle.ledger_soak.proofs.running.soak.Goals as goal

pub returns : goal.returns
returns g c = broken_so c.args.seed c.args.count c.args.stop c.in-Ok.text.items c.as_slice.result.now c.in-Ok.ensures c.as_slice.ensures.value (g.K.Sink.state c.args.sink.now) (g.K.Sink.state c.write_all.new.sink) c.in-Err.field-0 c.in-Err.ensures.taken c.in-Err.ensures.once
