use Rattle.std.proofs.Common.{rules, ◌+◌, ◌<◌, length, Bool, true, false, arith, refl, sym, ap, subst}
use Rattle.ledger_open.proofs.ZeroingLaws.{WroteTo, from_first, to_end, given_told_at, got_at, wrote_left, wrote_more, more_images, more_shown, more_idle, more_rest, wrote_all, wrote_some, none_settled, synced_images, synced_shown, synced_idle, synced_rest, same_images, same_shown, same_idle, same_rest}
use Rattle.ledger_open.proofs.erasing.finish_in.Goals as goal
use Rattle.ledger_open.proofs.erasing.finish_in.Goals.{then-gives_up+in_ok-clear_range, else-gives_up}

pub returns-in_err-clear_range-clause-images : goal.returns-in_err-clear_range-clause-images
returns-in_err-clear_range-clause-images g c = λ tells.
    let book = c.args.book.now in
    let places = c.args.places.now.list in
    let i = c.loop-index.index in
    let lt : i < length places = omega (arith, c.loop-index-test.true, c.span-first.ensures.within, ap length c.as_slice.ensures) in
    more_images book places (g.D.Disk.state c.args.disk.now).bytes i _ (got_at places c.as_slice-in-loop-index.result.now i _ c.as_slice-in-loop-index.ensures lt) c.loop-index.given_up (g.D.Disk.state c.loop-index.disk).bytes (c.loop-index.invariant.wrote tells)
    (given_told_at book places i c.floor-floor.result c.saturating_add.result lt c.floor-floor.ensures c.saturating_add.ensures c.gives_up.result true c.gives_up.ensures c.if-gives_up.true)
    c.from.result c.from.ensures (g.D.Disk.state c.clear_range.new.disk).bytes (c.clear_range.ensures.within tells) (c.clear_range.ensures.idle tells)

pub returns-in_err-clear_range-clause-rest : goal.returns-in_err-clear_range-clause-rest
returns-in_err-clear_range-clause-rest g c = λ tells.
    let book = c.args.book.now in
    let places = c.args.places.now.list in
    let i = c.loop-index.index in
    let lt : i < length places = omega (arith, c.loop-index-test.true, c.span-first.ensures.within, ap length c.as_slice.ensures) in
    more_rest book places (g.D.Disk.state c.args.disk.now).bytes i _ (got_at places c.as_slice-in-loop-index.result.now i _ c.as_slice-in-loop-index.ensures lt) c.loop-index.given_up (g.D.Disk.state c.loop-index.disk).bytes (c.loop-index.invariant.wrote tells)
    (given_told_at book places i c.floor-floor.result c.saturating_add.result lt c.floor-floor.ensures c.saturating_add.ensures c.gives_up.result true c.gives_up.ensures c.if-gives_up.true)
    c.from.result c.from.ensures (g.D.Disk.state c.clear_range.new.disk).bytes (c.clear_range.ensures.within tells) (c.clear_range.ensures.idle tells)

pub returns-in_err-clear_range-clause-shown : goal.returns-in_err-clear_range-clause-shown
returns-in_err-clear_range-clause-shown g c = λ tells.
    let book = c.args.book.now in
    let places = c.args.places.now.list in
    let i = c.loop-index.index in
    let lt : i < length places = omega (arith, c.loop-index-test.true, c.span-first.ensures.within, ap length c.as_slice.ensures) in
    more_shown book places (g.D.Disk.state c.args.disk.now).bytes i _ (got_at places c.as_slice-in-loop-index.result.now i _ c.as_slice-in-loop-index.ensures lt) c.loop-index.given_up (g.D.Disk.state c.loop-index.disk).bytes (c.loop-index.invariant.wrote tells)
    (given_told_at book places i c.floor-floor.result c.saturating_add.result lt c.floor-floor.ensures c.saturating_add.ensures c.gives_up.result true c.gives_up.ensures c.if-gives_up.true)
    c.from.result c.from.ensures (g.D.Disk.state c.clear_range.new.disk).bytes (c.clear_range.ensures.within tells) (c.clear_range.ensures.idle tells)

pub returns-in_err-clear_range-clause-idle : goal.returns-in_err-clear_range-clause-idle
returns-in_err-clear_range-clause-idle g c = λ tells.
    let book = c.args.book.now in
    let places = c.args.places.now.list in
    let i = c.loop-index.index in
    let lt : i < length places = omega (arith, c.loop-index-test.true, c.span-first.ensures.within, ap length c.as_slice.ensures) in
    more_idle book places (g.D.Disk.state c.args.disk.now).bytes i _ (got_at places c.as_slice-in-loop-index.result.now i _ c.as_slice-in-loop-index.ensures lt) c.loop-index.given_up (g.D.Disk.state c.loop-index.disk).bytes (c.loop-index.invariant.wrote tells)
    (given_told_at book places i c.floor-floor.result c.saturating_add.result lt c.floor-floor.ensures c.saturating_add.ensures c.gives_up.result true c.gives_up.ensures c.if-gives_up.true)
    c.from.result c.from.ensures (g.D.Disk.state c.clear_range.new.disk).bytes (c.clear_range.ensures.within tells) (c.clear_range.ensures.idle tells)

pub loop-index-init : goal.loop-index-init
loop-index-init g c = record {
  wrote = λ tells. from_first c.args.book.now c.args.places.now.list (g.D.Disk.state c.args.disk.now).bytes c.as_slice.result.now c.as_slice.ensures c.span-first.result c.span-first.ensures.order c.span-first.ensures.within c.span-first.ensures.others;
  same = search rules;
  keeps = search rules;
  faults = search rules;
}

pub loop-index-preserved : goal.loop-index-preserved
loop-index-preserved g c =
    let book = c.args.book.now in
    let places = c.args.places.now.list in
    let i = c.loop-index.index in
    let some = c.loop-index.given_up in
    let old = (g.D.Disk.state c.args.disk.now).bytes in
    let mid = (g.D.Disk.state c.loop-index.disk).bytes in
    let lt : i < length places = omega (arith, c.loop-index-test.true, c.span-first.ensures.within, ap length c.as_slice.ensures) in
    let got = got_at places c.as_slice-in-loop-index.result.now i _ c.as_slice-in-loop-index.ensures lt in
    let given = λ (v : Bool). given_told_at book places i c.floor-floor.result c.saturating_add.result lt c.floor-floor.ensures c.saturating_add.ensures c.gives_up.result v c.gives_up.ensures in
    elim c.if-gives_up.branch [
      | then-gives_up+in_ok-clear_range w ↦ record {
        wrote = λ tells.
            subst (λ (v : Bool). WroteTo book places (i + 1) v old (g.D.Disk.state c.if-gives_up.disk).bytes) (sym w.given_up-is)
            (subst (λ (d : _). WroteTo book places (i + 1) true old (g.D.Disk.state d).bytes) (sym w.disk-is)
            (wrote_more book places old i _ got some mid (c.loop-index.invariant.wrote tells) (given true w.if-gives_up.true) w.from.result w.from.ensures (g.D.Disk.state w.clear_range.new.disk).bytes (w.clear_range.ensures.within tells) (w.clear_range.ensures.idle tells) (w.in_ok-clear_range.ensures.seen tells)));
        same = search rules;
        keeps = search rules;
        faults = search rules;
      }
      | else-gives_up w ↦ record {
        wrote = λ tells.
            subst (λ (v : Bool). WroteTo book places (i + 1) v old (g.D.Disk.state c.if-gives_up.disk).bytes) (sym w.given_up-is)
            (subst (λ (d : _). WroteTo book places (i + 1) some old (g.D.Disk.state d).bytes) (sym w.disk-is)
            (wrote_left book places old i _ got some mid (c.loop-index.invariant.wrote tells) (given false w.if-gives_up.false)));
        same = search rules;
        keeps = search rules;
        faults = search rules;
      }
    ]

pub returns-in_err-sync-clause-images : goal.returns-in_err-sync-clause-images
returns-in_err-sync-clause-images g c = λ tells.
    let book = c.args.book.now in
    let places = c.args.places.now.list in
    let old = (g.D.Disk.state c.args.disk.now).bytes in
    let mid = (g.D.Disk.state c.loop-index.disk).bytes in
    let some = c.loop-index.given_up in
    let wrote = to_end book places old c.as_slice.result.now c.as_slice.ensures c.span-first.result c.span-first.ensures.order c.span-first.ensures.within c.span-first.ensures.others c.loop-index.index some mid (c.loop-index.invariant.wrote tells) (omega (arith, c.loop-index-test.false, c.loop-index.auto.index-end)) in
    same_images book places some old mid wrote (g.D.Disk.state c.sync.new.disk).bytes (c.in_err-sync.ensures.err tells)

pub returns-in_err-sync-clause-shown : goal.returns-in_err-sync-clause-shown
returns-in_err-sync-clause-shown g c = λ tells.
    let book = c.args.book.now in
    let places = c.args.places.now.list in
    let old = (g.D.Disk.state c.args.disk.now).bytes in
    let mid = (g.D.Disk.state c.loop-index.disk).bytes in
    let some = c.loop-index.given_up in
    let wrote = to_end book places old c.as_slice.result.now c.as_slice.ensures c.span-first.result c.span-first.ensures.order c.span-first.ensures.within c.span-first.ensures.others c.loop-index.index some mid (c.loop-index.invariant.wrote tells) (omega (arith, c.loop-index-test.false, c.loop-index.auto.index-end)) in
    same_shown book places some old mid wrote (g.D.Disk.state c.sync.new.disk).bytes (c.in_err-sync.ensures.err tells)

pub returns-in_err-sync-clause-idle : goal.returns-in_err-sync-clause-idle
returns-in_err-sync-clause-idle g c = λ tells.
    let book = c.args.book.now in
    let places = c.args.places.now.list in
    let old = (g.D.Disk.state c.args.disk.now).bytes in
    let mid = (g.D.Disk.state c.loop-index.disk).bytes in
    let some = c.loop-index.given_up in
    let wrote = to_end book places old c.as_slice.result.now c.as_slice.ensures c.span-first.result c.span-first.ensures.order c.span-first.ensures.within c.span-first.ensures.others c.loop-index.index some mid (c.loop-index.invariant.wrote tells) (omega (arith, c.loop-index-test.false, c.loop-index.auto.index-end)) in
    same_idle book places some old mid wrote (g.D.Disk.state c.sync.new.disk).bytes (c.in_err-sync.ensures.err tells)

pub returns-in_err-sync-clause-rest : goal.returns-in_err-sync-clause-rest
returns-in_err-sync-clause-rest g c = λ tells.
    let book = c.args.book.now in
    let places = c.args.places.now.list in
    let old = (g.D.Disk.state c.args.disk.now).bytes in
    let mid = (g.D.Disk.state c.loop-index.disk).bytes in
    let some = c.loop-index.given_up in
    let wrote = to_end book places old c.as_slice.result.now c.as_slice.ensures c.span-first.result c.span-first.ensures.order c.span-first.ensures.within c.span-first.ensures.others c.loop-index.index some mid (c.loop-index.invariant.wrote tells) (omega (arith, c.loop-index-test.false, c.loop-index.auto.index-end)) in
    same_rest book places some old mid wrote (g.D.Disk.state c.sync.new.disk).bytes (c.in_err-sync.ensures.err tells)

pub returns-in_ok-sync-clause-bytes : goal.returns-in_ok-sync-clause-bytes
returns-in_ok-sync-clause-bytes g c = λ tells.
    let book = c.args.book.now in
    let places = c.args.places.now.list in
    let old = (g.D.Disk.state c.args.disk.now).bytes in
    let mid = (g.D.Disk.state c.loop-index.disk).bytes in
    let some = c.loop-index.given_up in
    let wrote = to_end book places old c.as_slice.result.now c.as_slice.ensures c.span-first.result c.span-first.ensures.order c.span-first.ensures.within c.span-first.ensures.others c.loop-index.index some mid (c.loop-index.invariant.wrote tells) (omega (arith, c.loop-index-test.false, c.loop-index.auto.index-end)) in
    wrote_all book places some old mid wrote (g.D.Disk.state c.sync.new.disk).bytes (λ quiet. c.in_ok-sync.ensures.ok tells)

pub returns-in_ok-sync-clause-some : goal.returns-in_ok-sync-clause-some
returns-in_ok-sync-clause-some g c = λ tells.
    let book = c.args.book.now in
    let places = c.args.places.now.list in
    let old = (g.D.Disk.state c.args.disk.now).bytes in
    let mid = (g.D.Disk.state c.loop-index.disk).bytes in
    let some = c.loop-index.given_up in
    let wrote = to_end book places old c.as_slice.result.now c.as_slice.ensures c.span-first.result c.span-first.ensures.order c.span-first.ensures.within c.span-first.ensures.others c.loop-index.index some mid (c.loop-index.invariant.wrote tells) (omega (arith, c.loop-index-test.false, c.loop-index.auto.index-end)) in
    wrote_some book places some old mid wrote (g.D.Disk.state c.sync.new.disk).bytes (λ quiet. c.in_ok-sync.ensures.ok tells)

pub returns-in_ok-sync-clause-images : goal.returns-in_ok-sync-clause-images
returns-in_ok-sync-clause-images g c = λ tells.
    let book = c.args.book.now in
    let places = c.args.places.now.list in
    let old = (g.D.Disk.state c.args.disk.now).bytes in
    let mid = (g.D.Disk.state c.loop-index.disk).bytes in
    let some = c.loop-index.given_up in
    let wrote = to_end book places old c.as_slice.result.now c.as_slice.ensures c.span-first.result c.span-first.ensures.order c.span-first.ensures.within c.span-first.ensures.others c.loop-index.index some mid (c.loop-index.invariant.wrote tells) (omega (arith, c.loop-index-test.false, c.loop-index.auto.index-end)) in
    synced_images book places some old mid wrote c.if-given_up.true (g.met.D.Disk.seen_may_be_left c.loop-index.disk tells) (g.D.Disk.state c.sync.new.disk).bytes (c.in_ok-sync.ensures.ok tells)

pub returns-in_ok-sync-clause-shown : goal.returns-in_ok-sync-clause-shown
returns-in_ok-sync-clause-shown g c = λ tells.
    let book = c.args.book.now in
    let places = c.args.places.now.list in
    let old = (g.D.Disk.state c.args.disk.now).bytes in
    let mid = (g.D.Disk.state c.loop-index.disk).bytes in
    let some = c.loop-index.given_up in
    let wrote = to_end book places old c.as_slice.result.now c.as_slice.ensures c.span-first.result c.span-first.ensures.order c.span-first.ensures.within c.span-first.ensures.others c.loop-index.index some mid (c.loop-index.invariant.wrote tells) (omega (arith, c.loop-index-test.false, c.loop-index.auto.index-end)) in
    synced_shown book places some old mid wrote c.if-given_up.true (g.met.D.Disk.seen_may_be_left c.loop-index.disk tells) (g.D.Disk.state c.sync.new.disk).bytes (c.in_ok-sync.ensures.ok tells)

pub returns-in_ok-sync-clause-idle : goal.returns-in_ok-sync-clause-idle
returns-in_ok-sync-clause-idle g c = λ tells.
    let book = c.args.book.now in
    let places = c.args.places.now.list in
    let old = (g.D.Disk.state c.args.disk.now).bytes in
    let mid = (g.D.Disk.state c.loop-index.disk).bytes in
    let some = c.loop-index.given_up in
    let wrote = to_end book places old c.as_slice.result.now c.as_slice.ensures c.span-first.result c.span-first.ensures.order c.span-first.ensures.within c.span-first.ensures.others c.loop-index.index some mid (c.loop-index.invariant.wrote tells) (omega (arith, c.loop-index-test.false, c.loop-index.auto.index-end)) in
    synced_idle book places some old mid wrote c.if-given_up.true (g.met.D.Disk.seen_may_be_left c.loop-index.disk tells) (g.D.Disk.state c.sync.new.disk).bytes (c.in_ok-sync.ensures.ok tells)

pub returns-in_ok-sync-clause-rest : goal.returns-in_ok-sync-clause-rest
returns-in_ok-sync-clause-rest g c = λ tells.
    let book = c.args.book.now in
    let places = c.args.places.now.list in
    let old = (g.D.Disk.state c.args.disk.now).bytes in
    let mid = (g.D.Disk.state c.loop-index.disk).bytes in
    let some = c.loop-index.given_up in
    let wrote = to_end book places old c.as_slice.result.now c.as_slice.ensures c.span-first.result c.span-first.ensures.order c.span-first.ensures.within c.span-first.ensures.others c.loop-index.index some mid (c.loop-index.invariant.wrote tells) (omega (arith, c.loop-index-test.false, c.loop-index.auto.index-end)) in
    synced_rest book places some old mid wrote c.if-given_up.true (g.met.D.Disk.seen_may_be_left c.loop-index.disk tells) (g.D.Disk.state c.sync.new.disk).bytes (c.in_ok-sync.ensures.ok tells)

pub returns-else-given_up-clause-bytes : goal.returns-else-given_up-clause-bytes
returns-else-given_up-clause-bytes g c = λ tells.
    let book = c.args.book.now in
    let places = c.args.places.now.list in
    let old = (g.D.Disk.state c.args.disk.now).bytes in
    let mid = (g.D.Disk.state c.loop-index.disk).bytes in
    let some = c.loop-index.given_up in
    let wrote = to_end book places old c.as_slice.result.now c.as_slice.ensures c.span-first.result c.span-first.ensures.order c.span-first.ensures.within c.span-first.ensures.others c.loop-index.index some mid (c.loop-index.invariant.wrote tells) (omega (arith, c.loop-index-test.false, c.loop-index.auto.index-end)) in
    wrote_all book places some old mid wrote mid (none_settled book places some old mid wrote c.if-given_up.false)

pub returns-else-given_up-clause-some : goal.returns-else-given_up-clause-some
returns-else-given_up-clause-some g c = λ tells.
    let book = c.args.book.now in
    let places = c.args.places.now.list in
    let old = (g.D.Disk.state c.args.disk.now).bytes in
    let mid = (g.D.Disk.state c.loop-index.disk).bytes in
    let some = c.loop-index.given_up in
    let wrote = to_end book places old c.as_slice.result.now c.as_slice.ensures c.span-first.result c.span-first.ensures.order c.span-first.ensures.within c.span-first.ensures.others c.loop-index.index some mid (c.loop-index.invariant.wrote tells) (omega (arith, c.loop-index-test.false, c.loop-index.auto.index-end)) in
    wrote_some book places some old mid wrote mid (none_settled book places some old mid wrote c.if-given_up.false)

pub returns-else-given_up-clause-images : goal.returns-else-given_up-clause-images
returns-else-given_up-clause-images g c = λ tells.
    let book = c.args.book.now in
    let places = c.args.places.now.list in
    let old = (g.D.Disk.state c.args.disk.now).bytes in
    let mid = (g.D.Disk.state c.loop-index.disk).bytes in
    let some = c.loop-index.given_up in
    let wrote = to_end book places old c.as_slice.result.now c.as_slice.ensures c.span-first.result c.span-first.ensures.order c.span-first.ensures.within c.span-first.ensures.others c.loop-index.index some mid (c.loop-index.invariant.wrote tells) (omega (arith, c.loop-index-test.false, c.loop-index.auto.index-end)) in
    same_images book places some old mid wrote mid refl

pub returns-else-given_up-clause-shown : goal.returns-else-given_up-clause-shown
returns-else-given_up-clause-shown g c = λ tells.
    let book = c.args.book.now in
    let places = c.args.places.now.list in
    let old = (g.D.Disk.state c.args.disk.now).bytes in
    let mid = (g.D.Disk.state c.loop-index.disk).bytes in
    let some = c.loop-index.given_up in
    let wrote = to_end book places old c.as_slice.result.now c.as_slice.ensures c.span-first.result c.span-first.ensures.order c.span-first.ensures.within c.span-first.ensures.others c.loop-index.index some mid (c.loop-index.invariant.wrote tells) (omega (arith, c.loop-index-test.false, c.loop-index.auto.index-end)) in
    same_shown book places some old mid wrote mid refl

pub returns-else-given_up-clause-idle : goal.returns-else-given_up-clause-idle
returns-else-given_up-clause-idle g c = λ tells.
    let book = c.args.book.now in
    let places = c.args.places.now.list in
    let old = (g.D.Disk.state c.args.disk.now).bytes in
    let mid = (g.D.Disk.state c.loop-index.disk).bytes in
    let some = c.loop-index.given_up in
    let wrote = to_end book places old c.as_slice.result.now c.as_slice.ensures c.span-first.result c.span-first.ensures.order c.span-first.ensures.within c.span-first.ensures.others c.loop-index.index some mid (c.loop-index.invariant.wrote tells) (omega (arith, c.loop-index-test.false, c.loop-index.auto.index-end)) in
    same_idle book places some old mid wrote mid refl

pub returns-else-given_up-clause-rest : goal.returns-else-given_up-clause-rest
returns-else-given_up-clause-rest g c = λ tells.
    let book = c.args.book.now in
    let places = c.args.places.now.list in
    let old = (g.D.Disk.state c.args.disk.now).bytes in
    let mid = (g.D.Disk.state c.loop-index.disk).bytes in
    let some = c.loop-index.given_up in
    let wrote = to_end book places old c.as_slice.result.now c.as_slice.ensures c.span-first.result c.span-first.ensures.order c.span-first.ensures.within c.span-first.ensures.others c.loop-index.index some mid (c.loop-index.invariant.wrote tells) (omega (arith, c.loop-index-test.false, c.loop-index.auto.index-end)) in
    same_rest book places some old mid wrote mid refl
