use Rattle.std.proofs.Common.{◌∙◌, ap, length}
use Rattle.survivor_set.proofs.Growth.{is_saved, puts_same, puts_other}
use Rattle.survivor_set.proofs.carrying.put_carried.Goals as goal

pub returns-then-from-point : goal.returns-then-from-point
returns-then-from-point c =
    puts_same c.put_survivor.result c.args.tree.now c.args.from c.args.point c.args.survivor.now c.item.result.now c.path.result.now c.args.fields.now c.put_survivor.new.fields c.if-from-point.true c.requires.saved c.item.ensures c.path.ensures c.put_survivor.ensures

pub put_survivor-requires-2 : goal.put_survivor-requires-2
put_survivor-requires-2 c =
    is_saved c.args.survivor.now c.as_slice.result.now c.item-2.result.now c.number.result c.args.point c.requires.saved c.item-2.ensures (ap length c.as_slice.ensures ∙ c.in_ok-row.ensures.len) c.ranges.point.fits

pub returns : goal.returns
returns c =
    puts_other c.put_survivor-2.result c.args.tree.now c.args.from c.args.point c.number.result c.args.survivor.now c.item-2.result.now c.in_ok-row.row c.as_slice.result.now c.path-2.result.now c.args.fields.now c.put_survivor-2.new.fields
    c.number.ensures c.item-2.ensures c.path-2.ensures c.as_slice.ensures c.in_ok-row.ensures.path c.put_survivor-2.ensures
