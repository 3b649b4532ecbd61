use Rattle.std.proofs.Common.{◌≢◌, [], sym, ap, subst, ◌∙◌}
use Rattle.std.proofs.lemmas.Bool.{true≢false}
use Rattle.block_file.specs.File.{IsGroupOf}
use Rattle.batch_committer.specs.Committed.{IsCommitted, IsUncommitted}
use Rattle.batch_committer.specs.World.{CommitterState, pair}
use Rattle.batch_committer.specs.contracts.taking.Taking.{the_view}
use Rattle.batch_committer.proofs.Ending.{fits_at, goes_at, goes_to, ended_at}
use Rattle.batch_committer.proofs.Settling.{gate_then, commit_goes, commit_fits, commit_ended, no_sink}
use Rattle.batch_committer.proofs.WayLaws.{err_is, ended_by, goes_same}
use Rattle.batch_committer.proofs.taking.Taking.commit_ended.Goals as goal

pub commit-requires : goal.commit-requires
commit-requires g c = (fits_at g.D.Disk.tells _ _ c.self.view_is _ _ (c.requires.fits (no_sink))).reads

pub returns-then-is_stored-clause-ok : goal.returns-then-is_stored-clause-ok
returns-then-is_stored-clause-ok g c = λ sink. goes_same g.D.Disk.tells _

pub returns-in_err-commit-clause-err : goal.returns-in_err-commit-clause-err
returns-in_err-commit-clause-err g c =
    let i = the_view c.self.inside in
    let e = c.in_err-commit.ensures in
    let disks = pair (g.D.Disk.state c.args.a.now) (g.D.Disk.state c.args.b.now) in
    let after = pair (g.D.Disk.state c.commit.new.a) (g.D.Disk.state c.commit.new.b) in
    let ended : i.ended ≢ 0 = λ none. true≢false (sym (c.is_stored.ensures.1 (sym (ap (λ (k : CommitterState). k.ended) c.self.view_is) ∙ none)) ∙ c.if-is_stored.false) in
    err_is _ c.from_residual.result _ c.from_residual.ensures.1
    (λ sink. ended_by g.D.Disk.tells _ _ (λ h. h) (λ h. []) _ _ e.only
    (ended_at g.D.Disk.tells _ _ c.self.view_is disks sink _ (λ h. h) (λ h. []) _
    (commit_ended g.D.Disk.tells i disks after sink ended (λ group is some. subst (IsGroupOf group) c.ended.ensures.bytes (c.ended.ensures.group group is some)) _
    (subst (λ l. IsUncommitted g.D.Disk.tells i.in_a i.gate l disks after) c.ended.ensures.bytes e.err))))

pub returns-clause-ok : goal.returns-clause-ok
returns-clause-ok g c = λ sink.
    let i = the_view c.self.inside in
    let e = c.in_ok-commit.ensures in
    let disks = pair (g.D.Disk.state c.args.a.now) (g.D.Disk.state c.args.b.now) in
    let after = pair (g.D.Disk.state c.commit.new.a) (g.D.Disk.state c.commit.new.b) in
    let ended : i.ended ≢ 0 = λ none. true≢false (sym (c.is_stored.ensures.1 (sym (ap (λ (k : CommitterState). k.ended) c.self.view_is) ∙ none)) ∙ c.if-is_stored.false) in
    let f = fits_at g.D.Disk.tells _ _ c.self.view_is disks sink (c.requires.fits sink) in
    let gate = e.gate ∙ gate_then i.gate i.before c.ended.result.now c.ended.ensures.bytes (f.some ended) in
    goes_to g.D.Disk.tells _ _ _ (λ j. record i { gate = gate j; in_a = e.in_a j; edition = e.edition j; copy = e.copy j; ended = 0; before = c.drop_ended.ensures.before j; body = c.drop_ended.ensures.body j }) after sink (λ h. h) (λ h. [])
    (goes_at g.D.Disk.tells _ _ c.self.view_is disks sink _ (λ h. h) (λ h. [])
    (commit_goes g.D.Disk.tells i disks after sink ended (λ group is some. subst (IsGroupOf group) c.ended.ensures.bytes (c.ended.ensures.group group is some)) f
    (subst (λ l. IsCommitted g.D.Disk.tells i.in_a i.gate l disks after) c.ended.ensures.bytes e.ok)))

pub returns-clause-fits : goal.returns-clause-fits
returns-clause-fits g c = λ sink.
    let i = the_view c.self.inside in
    let e = c.in_ok-commit.ensures in
    let disks = pair (g.D.Disk.state c.args.a.now) (g.D.Disk.state c.args.b.now) in
    let after = pair (g.D.Disk.state c.commit.new.a) (g.D.Disk.state c.commit.new.b) in
    let ended : i.ended ≢ 0 = λ none. true≢false (sym (c.is_stored.ensures.1 (sym (ap (λ (k : CommitterState). k.ended) c.self.view_is) ∙ none)) ∙ c.if-is_stored.false) in
    let f = fits_at g.D.Disk.tells _ _ c.self.view_is disks sink (c.requires.fits sink) in
    let gate = e.gate ∙ gate_then i.gate i.before c.ended.result.now c.ended.ensures.bytes (f.some ended) in
    fits_at g.D.Disk.tells _ _ (λ j. record i { gate = gate j; in_a = e.in_a j; edition = e.edition j; copy = e.copy j; ended = 0; before = c.drop_ended.ensures.before j; body = c.drop_ended.ensures.body j }) after sink
    (commit_fits g.D.Disk.tells i disks after sink ended (λ group is some. subst (IsGroupOf group) c.ended.ensures.bytes (c.ended.ensures.group group is some)) f
    (subst (λ l. IsCommitted g.D.Disk.tells i.in_a i.gate l disks after) c.ended.ensures.bytes e.ok))
