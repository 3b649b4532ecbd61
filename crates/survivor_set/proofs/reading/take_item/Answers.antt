use Rattle.survivor_set.proofs.Near.{near_of}
use Rattle.survivor_set.proofs.reading.take_item.Goals as goal

pub break_at-requires-clause-near : goal.break_at-requires-clause-near
break_at-requires-clause-near c = near_of c.args.reader.now c.in-Err.bad c.requires.bytes c.in-Err.ensures
