use Rattle.audit_dump.proofs.Ahead.{cut_first, cut_then}
use Rattle.audit_dump.proofs.preparing.cut.Goals as goal

pub loop-init : goal.loop-init
loop-init c =
    let is = cut_first c.args.bytes.now c.args.first c.split_at.result.0 c.split_at.result.1.now c.in_ok-items.items.items c.in_ok-items.ensures.items c.split_at.ensures.front c.split_at.ensures.back c.requires in
    record { parts = is.parts; each = is.each; some = is.some }

pub loop-preserved : goal.loop-preserved
loop-preserved c =
    let before = c.loop.invariant in
    let is =
    cut_then c.args.bytes.now c.loop.rest.now c.in-Ok.len c.split_at-in-loop.result.0 c.split_at-in-loop.result.1.now c.loop.items.items c.push.new.self.items c.in_ok-push.ensures.items c.split_at-in-loop.ensures.front
    c.split_at-in-loop.ensures.back c.in-Ok.ensures.begins (record { parts = before.parts; each = before.each; some = before.some }) in
    record { parts = is.parts; each = is.each; some = is.some }

pub returns-clause-cut : goal.returns-clause-cut
returns-clause-cut c = record { rest = c.loop.rest.now; parts = c.loop.invariant.parts; each = c.loop.invariant.each }

pub returns-clause-some : goal.returns-clause-some
returns-clause-some c = c.loop.invariant.some
