use Rattle.std.proofs.Common.{◌∙◌, ◌<◌, arith}
use Rattle.ledger_io.proofs.Pieces.{Appends-take}
use Rattle.ledger_io.proofs.WritingLaws.{idles_same}
use Rattle.ledger_io.proofs.writer.write_all.Goals as goal

pub loop-taken-preserved : goal.loop-taken-preserved
loop-taken-preserved g c = record {
  within = omega (arith, c.in-Ok.ensures.bound);
  appended = Appends-take _ _ _ c.args.piece.now _ c.loop-taken.taken c.in-Ok.count c.split_at.ensures.back c.loop-taken.invariant.appended c.in-Ok.ensures.bytes;
  none =
      let some : 0 < c.in-Ok.count = omega arith in
      let none = c.loop-taken.invariant.none in
      (c.in-Ok.ensures.counts ∙ none.0, c.in-Ok.ensures.idle.count ∙ idles_same _ c.in-Ok.count _ some ∙ none.1);
}
