use Rattle.dump_export.proofs.Exporting.{put_failed}
use Rattle.dump_export.proofs.piece.put.Goals as goal

pub returns-in-Err-clause-puts : goal.returns-in-Err-clause-puts
returns-in-Err-clause-puts g c = put_failed c.args.piece.now c.in-Err.field-0 (g.K.Sink.state c.args.sink.now) (g.K.Sink.state c.write_all.new.sink) c.in-Err.ensures.taken c.in-Err.ensures.once
