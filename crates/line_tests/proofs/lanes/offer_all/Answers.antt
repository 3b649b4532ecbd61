use Rattle.std.proofs.Common.{arith, vec_items}
use Rattle.lane_work.proofs.Lines.{lines_short}
use Rattle.lane_work.proofs.Setting.{long_vec}
use Rattle.line_tests.proofs.lanes.offer_all.Goals as goal

pub run_lanes-requires-clause-numbers : goal.run_lanes-requires-clause-numbers
run_lanes-requires-clause-numbers g c κs within k low =
    let one = c.all_ones-first.ensures k low in
    let short = lines_short k (vec_items c.args.lines) in
    let long = long_vec c.args.lines in
    let few = c.requires.1 in
    omega (arith, one, short, long, few)
