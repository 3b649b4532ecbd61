use Rattle.std.proofs.Common.{◌≡◌, ◌+◌, ◌-◌, [], ◌∷◌, length, length-append, rules, ap, subst, sym, arith}
use Rattle.pseudo_genesis.specs.Reading.{digests_at}
use Rattle.pseudo_genesis.proofs.Many.{after_items}
use Rattle.pseudo_genesis.proofs.Loops.{digest_read, digest_broken, digests_read}
use Rattle.pseudo_genesis.proofs.reading.take_digests.Goals as goal

pub returns-in_err-digest-clause-digests : goal.returns-in_err-digest-clause-digests
returns-in_err-digest-clause-digests c =
    let whole = digests_at c.args.count c.args.reader.now in
    let broken = digest_broken c.args.count c.loop.counter c.loop.reader c.loop.digests.items c.in_err-digest.field-0.0 whole (omega (arith, c.loop-test.true)) c.in_err-digest.ensures.0 c.loop.invariant.0 in
    search (broken, rules)

pub loop-preserved : goal.loop-preserved
loop-preserved c =
    let whole = digests_at c.args.count c.args.reader.now in
    let items = c.in_ok-keep.ensures.ok in
    let read = digest_read c.args.count c.loop.counter c.loop.reader c.take_digest.new.self c.loop.digests.items c.in_ok-digest.digest whole (omega (arith, c.loop-test.true)) c.in_ok-digest.ensures c.loop.invariant.0 in (
      subst (λ xs. whole ≡ after_items xs (digests_at (c.args.count - (c.loop.counter + 1)) c.take_digest.new.self)) (sym items) read,
      omega (arith, ap length items, length-append c.loop.digests.items (c.in_ok-digest.digest ∷ []), c.loop.invariant.1),
    )

pub returns-clause-digests : goal.returns-clause-digests
returns-clause-digests c =
    let whole = digests_at c.args.count c.args.reader.now in
    let read = digests_read c.args.count c.loop.counter c.loop.reader c.loop.digests.items whole (omega (arith, c.loop-test.false, c.loop.auto.counter-end)) c.loop.invariant.0 in
    search (read, c.of.ensures, rules)
