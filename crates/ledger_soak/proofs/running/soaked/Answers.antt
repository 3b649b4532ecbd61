use Rattle.std.proofs.Common.{◌≡◌, ◌+◌, ap, ◌∙◌, arith}
use Rattle.ledger_soak.proofs.AuditLaws.{ok_and}
use Rattle.ledger_soak.proofs.running.soaked.Goals as goal

pub loop-done-init : goal.loop-done-init
loop-done-init g c = record { underway = c.in_ok-run.ensures.underway; taken = c.in_ok-run.ensures.taken; stop = c.in_ok-run.ensures.stop }

pub turn-requires-clause-underway : goal.turn-requires-clause-underway
turn-requires-clause-underway g c = (c.args.seed, c.loop-done.invariant.underway)

pub turn-requires-clause-few : goal.turn-requires-clause-few
turn-requires-clause-few g c = omega (arith, c.loop-done.invariant.taken, c.loop-done-test.true, c.ranges.count.fits)

pub loop-done-preserved : goal.loop-done-preserved
loop-done-preserved g c =
    let x = c.loop-done.invariant in record {
      underway = c.in_ok-run-2.ensures.underway c.args.seed x.underway;
      taken = c.in_ok-run-2.ensures.taken ∙ ap (λ n. n + 1) x.taken;
      stop = c.in_ok-run-2.ensures.stop ∙ x.stop;
    }

pub summary-requires : goal.summary-requires
summary-requires g c = omega (arith, c.loop-done.invariant.taken, c.loop-done.auto.done-end, c.ranges.count.fits)

pub returns : goal.returns
returns g c =
    let x = c.loop-done.invariant in
    let same : c.loop-done.done ≡ c.args.count = omega (arith, c.loop-done-test.false, c.loop-done.auto.done-end) in
    ok_and _ _
    (λ text is.
    record {
      summary = c.summary.result;
      seed_is = c.summary.ensures.seed;
      count_is = c.summary.ensures.count;
      stop_is = c.summary.ensures.stop ∙ x.stop;
      soaked = (c.summary.ensures.soaked x.underway (x.taken ∙ same)).0;
      faultless = (c.summary.ensures.soaked x.underway (x.taken ∙ same)).1;
      one = λ none. c.summary.ensures.one x.underway (x.stop ∙ none);
      text_is = is;
    })
    c.text.result c.text.ensures
