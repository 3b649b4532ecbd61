use Rattle.std.proofs.Common.{◌≡◌, ℕ, Option, None, Some, refl, ap, get_or}
use Rattle.std.specs.Prelude.{IfNone}
use Rattle.batch_committer.specs.declared.failure.CommitErr.{CommitErr}
use Rattle.ledger_cli.specs.Desks.{told_desk, SameDesk}
use Rattle.ledger_cli.specs.Pieces.{Stays, Told}
use Rattle.ledger_cli.specs.declared.desk.Desk.{Desk}
use Rattle.ledger_cli.proofs.PieceLaws.{ran_all, ran_some}
use Rattle.ledger_cli.proofs.desk.Desk.run.Given.{Over}
use Rattle.ledger_cli.proofs.desk.Desk.run.Goals as goal

-- what a desk tells
tell : (g : Over) → Desk g.row.D.Denot g.row.K.Denot g.row.N.Denot g.row.W.Denot → Told
tell g s = told_desk g.D.Disk.state g.K.Sink.state g.N.Notary.state g.W.Follower.board s

same_name : (k : ℕ) (new old : Stays) → new ≡ old → get_or new.names k 0 ≡ get_or old.names k 0
same_name k new old is = ap (λ (s : Stays). get_or s.names k 0) is

same_desk : (g : Over) (new old : Desk g.row.D.Denot g.row.K.Denot g.row.N.Denot g.row.W.Denot) → (tell g new).names ≡ (tell g old).names → SameDesk g.W.Follower.board old new
unfolding tell
same_desk g new old is = (same_name 0 _ _ is, same_name 1 _ _ is, same_name 2 _ _ is, same_name 3 _ _ is, same_name 4 _ _ is, same_name 5 _ _ is, ap (λ (s : Stays). s.board) is)

none_stays : (end : Option CommitErr) → IfNone end (end ≡ None)
none_stays None = refl
none_stays (Some end) = tt

pub returns-in-Ok : goal.returns-in-Ok
unfolding tell
returns-in-Ok g c =
    let r = ran_all (tell g) _ _ g.D.Disk.tells c.args.first.now c.args.lines.items c.args.self.now c.run_lanes.new.taker c.requires.open c.id-id.ensures c.requires.fresh c.in-Ok.ensures.ok in
    record { fresh = none_stays c.run_lanes.new.taker.end; same = same_desk g c.run_lanes.new.taker c.args.self.now r.0; takes = r.1 }

pub returns-in-Err : goal.returns-in-Err
unfolding tell
returns-in-Err g c =
    let r = ran_some (tell g) _ _ g.D.Disk.tells c.args.first.now c.args.lines.items c.args.self.now c.run_lanes.new.taker c.requires.open c.id-id.ensures c.in-Err.ensures.err in
    record { fresh = tt; same = same_desk g c.run_lanes.new.taker c.args.self.now r.0; takes = r.1 }
