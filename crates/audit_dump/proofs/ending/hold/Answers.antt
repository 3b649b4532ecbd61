use Rattle.audit_dump.proofs.Pieces.{taken_seen, ends_here, failed_here}
use Rattle.audit_dump.proofs.ending.hold.Goals as goal

pub returns-then-held-want-clause-stopped : goal.returns-then-held-want-clause-stopped
returns-then-held-want-clause-stopped g c =
    let seen = c.in-Ok.ensures.seen in (
      taken_seen _ _ c.args.window.now c.fill.new.self seen.0 seen.1 c.in-Ok.ensures.enough.0,
      ends_here c.args.want c.fill.new.self c.in-Ok.ensures.enough.1 c.as_slice-held.result.now c.as_slice-held.ensures c.if-held-want.true c.place.result c.place.ensures,
    )

pub returns-in-Err-clause-stopped : goal.returns-in-Err-clause-stopped
returns-in-Err-clause-stopped g c = let seen = c.in-Err.ensures.seen in failed_here _ _ c.args.window.now c.fill.new.self seen.0 c.args.want c.in-Err.e seen.1 c.in-Err.ensures.enough
