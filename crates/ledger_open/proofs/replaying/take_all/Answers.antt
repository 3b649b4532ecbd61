use Rattle.std.proofs.Common.{refl, arith, ◌∙◌, ◌+◌, ◌++◌, drop, inl, inr}
use Rattle.ledger_open.specs.Ahead.{blocks_in}
use Rattle.ledger_open.proofs.AheadLaws.{taken_none, taken_here, taken_more, taken_all}
use Rattle.ledger_open.proofs.replaying.take_all.Goals as goal

pub loop-block-init : goal.loop-block-init
loop-block-init c = record { taken = taken_none c.args.book.now c.args.places.now.list c.args.blocks.now; limits = refl }

pub take_next-requires-clause-ahead : goal.take_next-requires-clause-ahead
take_next-requires-clause-ahead c =
    let a = c.requires.ahead in
    let t = taken_here c.args.book.now c.args.places.now.list c.loop-block.book c.loop-block.places.list c.args.blocks.now c.loop-block.block-index c.block-item.result c.loop-block-test.true c.block-item.is c.loop-block.invariant.taken in
    let g = t.goes a.0 a.1 a.2 a.3 a.4 a.5 in
    (a.0, a.1, g.0, blocks_in (drop (c.loop-block.block-index + 1) c.args.blocks.now) ++ a.3, a.4, g.2)

pub returns-in-Err-clause-err : goal.returns-in-Err-clause-err
returns-in-Err-clause-err c = elim c.in-Err.ensures.err [
  | inl none ↦ inl none
  | inr why ↦ inr (
    why.0,
    why.1,
    record {
      bad = λ tells file at more stop a told.
          let t = taken_here c.args.book.now c.args.places.now.list c.loop-block.book c.loop-block.places.list c.args.blocks.now c.loop-block.block-index c.block-item.result c.loop-block-test.true c.block-item.is c.loop-block.invariant.taken in
          let g = t.goes tells file at more stop a in
          why.2.bad tells file g.0 (blocks_in (drop (c.loop-block.block-index + 1) c.args.blocks.now) ++ more) stop g.2 told;
    },
  )
]

pub loop-block-preserved : goal.loop-block-preserved
loop-block-preserved c = record {
  taken =
      taken_more c.args.book.now c.args.places.now.list c.loop-block.book c.loop-block.places.list c.take_next.new.book c.take_next.new.places.list c.args.blocks.now (drop (c.loop-block.block-index + 1) c.args.blocks.now) c.block-item.result
      (taken_here c.args.book.now c.args.places.now.list c.loop-block.book c.loop-block.places.list c.args.blocks.now c.loop-block.block-index c.block-item.result c.loop-block-test.true c.block-item.is c.loop-block.invariant.taken)
      c.in_default.ensures.ok.goes;
  limits = c.in_default.ensures.limits ∙ c.loop-block.invariant.limits;
}

pub returns-clause-ok : goal.returns-clause-ok
returns-clause-ok c = record { goes = taken_all c.args.book.now c.args.places.now.list c.loop-block.book c.loop-block.places.list c.args.blocks.now c.loop-block.block-index (omega (arith, c.loop-block-test.false, c.loop-block.auto.block-index-end)) c.loop-block.invariant.taken }
