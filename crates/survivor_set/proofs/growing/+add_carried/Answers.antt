use Rattle.std.proofs.Common.{◌<◌, rules, arith}
use Rattle.tree_model.proofs.Splits.{split_pos}
use Rattle.survivor_set.proofs.Carried.{IsLast, front_length, back_length, carries_front, carries_over, inner_length, carries_back, below_some, above_some, on_ok, len_front, len_over, len_back}
use Rattle.survivor_set.proofs.growing.+add_carried.Goals as goal

pub unreachable-requires : goal.unreachable-requires
unreachable-requires g t c =
    let few = c.in_default.ensures.cases in
    let long = above_some c.args.point c.args.size c.args.above.now c.split-count.result c.split-count.ensures c.requires.above in
    omega (arith, few, long)

pub add_carried-requires : goal.add_carried-requires
add_carried-requires g t c κs within =
    let cases = c.in-Some.ensures.cases in
    let parts : IsLast c.args.above.now c.in-Some.front.now c.in-Some.last.now = record { front_is = cases.0; last_is = cases.1; some = cases.2 } in
    let less : c.split-count.result < c.args.size = c.split-count.ensures.below in
    let len = front_length g.H.TreeHash.of c.split-count.result c.args.n c.args.point c.args.size c.args.leaf.now.0 c.args.below.now c.args.above.now c.in-Some.front.now c.in-Some.last.now c.args.fields.now c.args.fields.now c.split-count.ensures c.requires.kept c.requires.more c.requires.below c.requires.above parts c.if-point-count.true in
    (search rules, (search rules, (omega arith, (omega arith, (c.requires.below, len)))))

pub returns-then-point-count-clause-path : goal.returns-then-point-count-clause-path
returns-then-point-count-clause-path g t c =
    let cases = c.in-Some.ensures.cases in
    let parts : IsLast c.args.above.now c.in-Some.front.now c.in-Some.last.now = record { front_is = cases.0; last_is = cases.1; some = cases.2 } in
    on_ok c.put_slice.result _ _
    (carries_front g.H.TreeHash.of c.split-count.result c.args.n c.args.point c.args.size c.args.leaf.now.0 c.args.below.now c.args.above.now c.in-Some.front.now c.in-Some.last.now c.args.fields.now c.put_slice.new.self c.split-count.ensures c.requires.kept c.requires.more c.requires.below c.requires.above parts
    c.add_carried.new.fields c.if-point-count.true c.in_ok-add_carried.ensures.path)
    c.put_slice.ensures.ok

pub inner-inner-requires : goal.inner-inner-requires
inner-inner-requires g t c =
    let cases = c.in-Some.ensures.cases in
    let parts : IsLast c.args.above.now c.in-Some.front.now c.in-Some.last.now = record { front_is = cases.0; last_is = cases.1; some = cases.2 } in
    below_some g.H.TreeHash.of c.split-count.result c.args.n c.args.point c.args.size c.args.leaf.now.0 c.args.below.now c.args.above.now c.in-Some.front.now c.in-Some.last.now c.args.fields.now c.args.fields.now c.split-count.ensures c.requires.kept c.requires.more c.requires.below c.requires.above parts

pub add_over-requires : goal.add_over-requires
add_over-requires g t c =
    let cases = c.in-Some.ensures.cases in
    let parts : IsLast c.args.above.now c.in-Some.front.now c.in-Some.last.now = record { front_is = cases.0; last_is = cases.1; some = cases.2 } in
    record {
      within = omega (arith, c.split-count.ensures.below);
      front = back_length g.H.TreeHash.of c.split-count.result c.args.n c.args.point c.args.size c.args.leaf.now.0 c.args.below.now c.args.above.now c.in-Some.front.now c.in-Some.last.now c.args.fields.now c.args.fields.now c.split-count.ensures c.requires.kept c.requires.more c.requires.below c.requires.above parts c.if-point-count.false;
    }

pub returns-then-n-count-clause-path : goal.returns-then-n-count-clause-path
returns-then-n-count-clause-path g t c =
    let cases = c.in-Some.ensures.cases in
    let parts : IsLast c.args.above.now c.in-Some.front.now c.in-Some.last.now = record { front_is = cases.0; last_is = cases.1; some = cases.2 } in
    on_ok c.add_over.result _ _
    (carries_over g.H.TreeHash.of c.split-count.result c.args.n c.args.point c.args.size c.args.leaf.now.0 c.args.below.now c.args.above.now c.in-Some.front.now c.in-Some.last.now c.args.fields.now c.add_over.new.fields c.split-count.ensures c.requires.kept c.requires.more c.requires.below c.requires.above parts
    c.inner-inner.result.now c.if-point-count.false c.if-n-count.true c.inner-inner.ensures)
    c.add_over.ensures.over

pub add_carried-requires-2 : goal.add_carried-requires-2
add_carried-requires-2 g t c κs within =
    let cases = c.in-Some.ensures.cases in
    let parts : IsLast c.args.above.now c.in-Some.front.now c.in-Some.last.now = record { front_is = cases.0; last_is = cases.1; some = cases.2 } in
    let less : c.split-count.result < c.args.size = c.split-count.ensures.below in
    let some : 0 < c.split-count.result = split_pos c.split-count.result c.args.size c.split-count.ensures in
    let len = back_length g.H.TreeHash.of c.split-count.result c.args.n c.args.point c.args.size c.args.leaf.now.0 c.args.below.now c.args.above.now c.in-Some.front.now c.in-Some.last.now c.args.fields.now c.args.fields.now c.split-count.ensures c.requires.kept c.requires.more c.requires.below c.requires.above parts c.if-point-count.false in
    let inside = inner_length g.H.TreeHash.of c.split-count.result c.args.n c.args.point c.args.size c.args.leaf.now.0 c.args.below.now c.args.above.now c.in-Some.front.now c.in-Some.last.now c.args.fields.now c.args.fields.now c.split-count.ensures c.requires.kept c.requires.more c.requires.below c.requires.above parts
    c.inner-inner.result.now c.if-n-count.false c.inner-inner.ensures in
    (search rules, (search rules, (omega arith, (omega arith, (inside, len)))))

pub returns-clause-path : goal.returns-clause-path
returns-clause-path g t c =
    let cases = c.in-Some.ensures.cases in
    let parts : IsLast c.args.above.now c.in-Some.front.now c.in-Some.last.now = record { front_is = cases.0; last_is = cases.1; some = cases.2 } in
    on_ok c.put_slice-2.result _ _
    (carries_back g.H.TreeHash.of c.split-count.result c.args.n c.args.point c.args.size c.args.leaf.now.0 c.args.below.now c.args.above.now c.in-Some.front.now c.in-Some.last.now c.args.fields.now c.put_slice-2.new.self c.split-count.ensures c.requires.kept c.requires.more c.requires.below c.requires.above parts
    c.inner-inner.result.now c.add_carried-2.new.fields c.if-n-count.false c.inner-inner.ensures c.in_ok-add_carried-2.ensures.path)
    c.put_slice-2.ensures.ok

pub returns-then-point-count-clause-len : goal.returns-then-point-count-clause-len
returns-then-point-count-clause-len g t c =
    let cases = c.in-Some.ensures.cases in
    on_ok c.put_slice.result _ _
    (len_front c.split-count.result c.args.n c.args.point c.args.size c.args.above.now c.in-Some.last.now c.args.fields.now c.add_carried.new.fields c.put_slice.new.self c.split-count.ensures c.requires.kept c.if-point-count.true cases.1 (omega (arith, cases.2)) c.in_ok-add_carried.ensures.len)
    c.put_slice.ensures.ok

pub returns-then-n-count-clause-len : goal.returns-then-n-count-clause-len
returns-then-n-count-clause-len g t c =
    on_ok c.add_over.result _ _
    (len_over c.split-count.result c.args.n c.args.point c.args.size c.args.below.now c.inner-inner.result.now c.args.fields.now c.add_over.new.fields c.split-count.ensures c.requires.kept c.requires.more c.if-point-count.false c.if-n-count.true c.requires.below c.inner-inner.ensures)
    c.add_over.ensures.len

pub returns-clause-len : goal.returns-clause-len
returns-clause-len g t c =
    let cases = c.in-Some.ensures.cases in
    on_ok c.put_slice-2.result _ _
    (len_back c.split-count.result c.args.n c.args.size c.args.above.now c.in-Some.last.now c.args.fields.now c.add_carried-2.new.fields c.put_slice-2.new.self c.split-count.ensures c.if-n-count.false cases.1 (omega (arith, cases.2)) c.in_ok-add_carried-2.ensures.len)
    c.put_slice-2.ensures.ok
