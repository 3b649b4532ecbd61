use Rattle.std.proofs.Common.{◌∙◌, ◌++◌, ◌∷◌, [], length-append, sym, ap, subst, arith, refl, take}
use Rattle.ledger_io.specs.Windows.{Seen}
use Rattle.audit_dump.specs.Journals.{HasWalked}
use Rattle.audit_dump.specs.Prepared.{ArePrepared}
use Rattle.audit_dump.proofs.Walked.{good_more, memory_wanted, walked_fails, walked_more, walked_none, walked_seen}
use Rattle.audit_dump.proofs.reading.read_journals.Goals as goal

pub loop-read-init : goal.loop-read-init
loop-read-init g c =
    let ahead = ArePrepared (g.V.Verifier.shows c.args.verifier.now) c.args.front.now.id.0 c.args.window.now.held in
    record { faults = refl; walked = ([], walked_none (g.S.Source.state c.args.source.now) c.args.window.now, tt, c.requires, refl); ahead = subst ahead (sym c.new-queue.ensures) tt }

pub returns-in-Ok-Some-clause-read : goal.returns-in-Ok-Some-clause-read
returns-in-Ok-Some-clause-read g c =
    let state = g.S.Source.state in
    let front = c.args.front.now in
    let so_far = c.loop-read.invariant.walked in
    let seen = c.in-Ok-Ok.ensures.seen in
    let there = rw c.in-Ok-Ok.field-0-is at c.in-Ok-Ok.ensures.told in
    let judged = rw c.in-Ok-Some.field-0-is at c.in-Ok-Some.ensures in
    let told = judged front.id front.base so_far.0 so_far.3 in
    record {
      items = so_far.0;
      walked = walked_seen (state c.args.source.now) (state c.loop-read.source) (state c.next_prepared.new.source) c.args.window.now c.loop-read.window c.next_prepared.new.window so_far.0 so_far.1 seen;
      good = so_far.2;
      counted = told.3.1;
      ends = (
        omega (arith, so_far.4, c.loop-read-test.true),
        record { len = c.in-Ok-Ok.next.len; item = told.0; layout = told.1; held = (there.0, ap (take c.in-Ok-Ok.next.len) (sym c.as_slice.ensures) ∙ told.2); fails = told.3.0 },
      );
    }

pub returns-in-Err-check_item-clause-errors : goal.returns-in-Err-check_item-clause-errors
returns-in-Err-check_item-clause-errors g c =
    let state = g.S.Source.state in
    let so_far = c.loop-read.invariant.walked in
    let seen = c.in-Ok-Ok.ensures.seen in
    memory_wanted (state c.args.source.now) (state c.loop-read.source) (state c.next_prepared.new.source) c.args.window.now c.loop-read.window c.next_prepared.new.window so_far.0 so_far.1 seen (c.in-Ok-Ok.ensures.counts ∙ c.loop-read.invariant.faults)

pub returns-in-Ok-Err-clause-read : goal.returns-in-Ok-Err-clause-read
returns-in-Ok-Err-clause-read g c =
    let state = g.S.Source.state in
    let so_far = c.loop-read.invariant.walked in
    let seen = c.in-Ok-Err.ensures.seen in
    let told = rw c.in-Ok-Err.field-0-is at c.in-Ok-Err.ensures.told in
    record {
      items = so_far.0;
      walked = walked_seen (state c.args.source.now) (state c.loop-read.source) (state c.next_prepared.new.source) c.args.window.now c.loop-read.window c.next_prepared.new.window so_far.0 so_far.1 seen;
      good = so_far.2;
      counted = record { marked = so_far.3.held.marked; claims = so_far.3.claims };
      ends = (omega (arith, so_far.4, c.loop-read-test.true), told);
    }

pub returns-in-Err-clause-errors : goal.returns-in-Err-clause-errors
returns-in-Err-clause-errors g c =
    let state = g.S.Source.state in
    let so_far = c.loop-read.invariant.walked in
    let seen = c.in-Err.ensures.seen in
    walked_fails (state c.args.source.now) (state c.loop-read.source) (state c.next_prepared.new.source) c.args.window.now c.loop-read.window c.next_prepared.new.window so_far.0 c.in-Err.e so_far.1 seen c.loop-read.invariant.faults c.in-Err.ensures.errors

pub loop-read-preserved : goal.loop-read-preserved
loop-read-preserved g c =
    let state = g.S.Source.state in
    let front = c.args.front.now in
    let scheme = g.V.Verifier.shows c.args.verifier.now in
    let so_far = c.loop-read.invariant.walked in
    let seen = c.in-Ok-Ok.ensures.seen in
    let there = rw c.in-Ok-Ok.field-0-is at c.in-Ok-Ok.ensures.told in
    let judged = rw c.in-Ok-None.field-0-is at c.in-Ok-None.ensures in
    let told = judged front.id front.base so_far.0 so_far.3 in
    let more = so_far.0 ++ told.0 ∷ [] in
    let text = ap (take c.in-Ok-Ok.next.len) (sym c.as_slice.ensures) ∙ told.2 in
    let walked = walked_seen (state c.args.source.now) (state c.loop-read.source) (state c.next_prepared.new.source) c.args.window.now c.loop-read.window c.next_prepared.new.window so_far.0 so_far.1 seen in
    record {
      faults = c.in-Ok-Ok.ensures.counts ∙ c.loop-read.invariant.faults;
      walked = (
        more,
        subst (λ (w : Seen). HasWalked (state c.args.source.now) (state c.next_prepared.new.source) c.args.window.now w more) (sym c.consume.ensures)
            (walked_more (state c.args.source.now) (state c.next_prepared.new.source) c.args.window.now c.next_prepared.new.window so_far.0 c.in-Ok-Ok.next.len told.0 walked text told.1),
        good_more scheme front.id.0 front.base [] so_far.0 told.0 so_far.2 told.3.0,
        told.3.1,
        omega (arith, so_far.4, length-append so_far.0 (told.0 ∷ [])),
      );
      ahead = subst (λ (w : Seen). ArePrepared scheme front.id.0 w.held c.next_prepared.new.queue) (sym c.consume.ensures) there.2;
    }
