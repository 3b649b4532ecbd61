use Rattle.std.proofs.Common.{sym, ◌∙◌, ap, arith, ℕ, drop}
use Rattle.block_file.proofs.RecordLaws.{whole, taken_more, pushed, rest_bytes}
use Rattle.block_file.proofs.records.read_records.Goals as goal

pub split_at-requires : goal.split_at-requires
split_at-requires c = let w = whole _ _ _ _ _ _ _ c.loop-left.invariant c.loop-left-test.true in omega (arith, w.long)

pub number32-requires : goal.number32-requires
number32-requires c = let w = whole _ _ _ _ _ _ _ c.loop-left.invariant c.loop-left-test.true in omega (arith, w.long)

pub split_at-requires-in-loop-left : goal.split_at-requires-in-loop-left
split_at-requires-in-loop-left c = let w = whole _ _ _ _ _ _ _ c.loop-left.invariant c.loop-left-test.true in omega (arith, w.within, c.record_len-len.ensures.len)

pub loop-left-preserved : goal.loop-left-preserved
loop-left-preserved c =
    let f = c.in-Some.ensures.found in
    taken_more _ _ _ _ _ _ _ c.loop-left.invariant c.loop-left-test.true c.in-Some.header
    (rest_bytes _ _ _ _ _ _ _ c.loop-left.invariant c.loop-left-test.true (λ i. omega (arith, c.type_inv.body i)))
    f.0 f.1 (sym f.2 ∙ c.split_at.ensures.front) _ _ _ (c.split_at-in-loop-left.ensures.back ∙ ap (λ (n : ℕ). drop n c.loop-left.rest.now) c.record_len-len.ensures.len) c.record_len-len.ensures.len (pushed _ _ _ _ _ _ _ _ c.in-Ok-push.ensures.items c.from-in-loop-left.ensures c.number32.ensures)
