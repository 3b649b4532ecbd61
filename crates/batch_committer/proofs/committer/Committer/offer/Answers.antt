use Rattle.std.proofs.Common.{◌≡◌, false, sym, ap, ◌∙◌}
use Rattle.batch_committer.specs.World.{Held}
use Rattle.batch_committer.specs.declared.failure.CommitErr.TheVariants.{Closed}
use Rattle.batch_committer.proofs.Judging.{on_ok_then}
use Rattle.batch_committer.proofs.Offering.{if_err_then}
use Rattle.batch_committer.proofs.Taken.{takes_at, ends_at, never_ends_closed}
use Rattle.batch_committer.proofs.WayLaws.{err_not}
use Rattle.batch_committer.proofs.committer.Committer.offer.Goals as goal

pub returns-clause-ok : goal.returns-clause-ok
returns-clause-ok g c =
    on_ok_then c.take-result.result (λ x. (x.0, λ line. takes_at g.D.Disk.tells _ _ (ap (λ (k : Held). k.kept) c.self.view_is) _ _ _ _ _ _ _ (x.1 line))) c.take-result.ensures.ok

pub returns-clause-err : goal.returns-clause-err
returns-clause-err g c =
    if_err_then c.take-result.result (λ end x still. ends_at g.D.Disk.tells _ _ (ap (λ (k : Held). k.kept) c.self.view_is) _ _ _ _ _ _ _ _ end x) c.take-result.ensures.err

pub returns-clause-closed : goal.returns-clause-closed
returns-clause-closed g c =
    let still : c.args.self.now.ended ≡ false = sym (ap (λ (k : Held). k.ended) c.self.view_is) ∙ c.if-self.false in
    (λ is. absurd (err_not _ c.take-result.result Closed (λ x. never_ends_closed g.D.Disk.tells _ _ _ _ _ _ _ x) c.take-result.ensures.err is), λ is. absurd (let no : ⊥ = cc (still, is) in no))
