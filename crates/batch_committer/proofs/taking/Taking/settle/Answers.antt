use Rattle.std.proofs.Common.{[], drop, length, sym, ap, subst, ◌∙◌}
use Rattle.ledger_model.proofs.GrowLaws.{grows_not}
use Rattle.batch_committer.specs.World.{CommitterState, HasRoom, pair}
use Rattle.batch_committer.proofs.Ending.{no_memory, fits_at}
use Rattle.batch_committer.proofs.Judging.{on_ok_then}
use Rattle.batch_committer.proofs.Offering.{if_err_then}
use Rattle.batch_committer.proofs.Settling.{fits_any, write_fits, drop_all}
use Rattle.batch_committer.proofs.WayLaws.{err_is, goes_then, ended_then}
use Rattle.batch_committer.proofs.taking.Taking.settle.Goals as goal

pub returns-in_err-spell_rest-clause-err : goal.returns-in_err-spell_rest-clause-err
returns-in_err-spell_rest-clause-err g c = err_is _ c.from_residual.result _ c.from_residual.ensures.1 (no_memory g.D.Disk.tells _ _ (λ h. h) (λ h. []) (λ h p. grows_not h))

pub commit_ended-requires : goal.commit_ended-requires
commit_ended-requires g c =
    let at = g.K.Sink.state c.args.sink.now in
    let disks = pair (g.D.Disk.state c.args.a.now) (g.D.Disk.state c.args.b.now) in
    record { fits = λ sink. fits_any g.D.Disk.tells _ _ at sink (c.in_ok-spell_rest.ensures.fits g.D.Disk.tells disks at c.requires.fits) }

pub returns-in_err-commit_ended-clause-err : goal.returns-in_err-commit_ended-clause-err
returns-in_err-commit_ended-clause-err g c =
    let at = g.K.Sink.state c.args.sink.now in
    let disks = pair (g.D.Disk.state c.args.a.now) (g.D.Disk.state c.args.b.now) in
    err_is _ c.from_residual-in_err-commit_ended.result _ c.from_residual-in_err-commit_ended.ensures.1
    (ended_then g.D.Disk.tells _ _ _ (λ h. h) (λ h. h) (λ h. []) (λ h. []) _ (c.in_ok-spell_rest.ensures.ok g.D.Disk.tells disks at) (c.in_err-commit_ended.ensures.err at))

pub write_lines-requires-clause-few : goal.write_lines-requires-clause-few
write_lines-requires-clause-few g c = (c.in_ok-commit_ended.ensures.fits (g.K.Sink.state c.args.sink.now)).spelled

pub write_lines-requires-clause-none : goal.write_lines-requires-clause-none
write_lines-requires-clause-none g c = ap (λ (k : CommitterState). k.ended) c.in_ok-commit_ended.ensures.same

pub returns-clause-ok : goal.returns-clause-ok
returns-clause-ok g c =
    let at = g.K.Sink.state c.args.sink.now in
    let disks = pair (g.D.Disk.state c.args.a.now) (g.D.Disk.state c.args.b.now) in
    let after = pair (g.D.Disk.state c.commit_ended.new.a) (g.D.Disk.state c.commit_ended.new.b) in
    on_ok_then c.write_lines.result
    (λ x. goes_then g.D.Disk.tells _ _ _ (λ h. h) (λ h. h) (λ h. []) (λ h. [])
    (goes_then g.D.Disk.tells _ _ _ (λ h. h) (λ h. h) (λ h. []) (λ h. []) (c.in_ok-spell_rest.ensures.ok g.D.Disk.tells disks at) (c.in_ok-commit_ended.ensures.ok at)) (x g.D.Disk.tells after))
    c.write_lines.ensures.ok

pub returns-clause-err : goal.returns-clause-err
returns-clause-err g c =
    let at = g.K.Sink.state c.args.sink.now in
    let disks = pair (g.D.Disk.state c.args.a.now) (g.D.Disk.state c.args.b.now) in
    let after = pair (g.D.Disk.state c.commit_ended.new.a) (g.D.Disk.state c.commit_ended.new.b) in
    if_err_then c.write_lines.result
    (λ end x. ended_then g.D.Disk.tells _ _ _ (λ h. h) (λ h. h) (λ h. []) (λ h. []) end
    (goes_then g.D.Disk.tells _ _ _ (λ h. h) (λ h. h) (λ h. []) (λ h. []) (c.in_ok-spell_rest.ensures.ok g.D.Disk.tells disks at) (c.in_ok-commit_ended.ensures.ok at)) (x g.D.Disk.tells after))
    c.write_lines.ensures.err

pub returns-clause-fits : goal.returns-clause-fits
returns-clause-fits g c =
    let at = g.K.Sink.state c.args.sink.now in
    let after = pair (g.D.Disk.state c.commit_ended.new.a) (g.D.Disk.state c.commit_ended.new.b) in
    let none = ap (λ (k : CommitterState). k.ended) c.in_ok-commit_ended.ensures.same in
    on_ok_then c.write_lines.result
    (λ same. fits_at g.D.Disk.tells _ _ same after _ (write_fits g.D.Disk.tells c.commit_ended.new.self after at _ none (c.in_ok-commit_ended.ensures.fits at))) c.write_lines.ensures.same

pub returns-clause-same : goal.returns-clause-same
returns-clause-same g c =
    let x = c.in_ok-spell_rest.ensures.same in
    let y = c.in_ok-commit_ended.ensures.same in
    on_ok_then c.write_lines.result
    (λ z. (ap (λ (k : CommitterState). k.book) z ∙ ap (λ (k : CommitterState). k.book) y ∙ ap (λ (k : CommitterState). k.book) x, ap (λ (k : CommitterState). k.ended) z ∙ ap (λ (k : CommitterState). k.ended) y))
    c.write_lines.ensures.same

pub returns-clause-room : goal.returns-clause-room
returns-clause-room g c =
    let x = c.in_ok-spell_rest.ensures.same in
    let y = c.in_ok-commit_ended.ensures.same in
    on_ok_then c.write_lines.result
    (λ z room. subst HasRoom (sym z) (subst (λ (k : CommitterState). HasRoom (record k { dues = drop k.spelled k.dues; spelled = 0; lines = [] })) (sym y)
    (subst (λ (k : CommitterState). HasRoom k) (sym x) room)))
    c.write_lines.ensures.same

pub returns-clause-empty : goal.returns-clause-empty
returns-clause-empty g c =
    let x = c.in_ok-spell_rest.ensures in
    let y = c.in_ok-commit_ended.ensures.same in
    let dues = ap (λ (k : CommitterState). k.dues) y ∙ ap (λ (k : CommitterState). k.dues) x.same in
    on_ok_then c.write_lines.result
    (λ z size.
    let spelled = ap (λ (k : CommitterState). k.spelled) y ∙ x.all size in
    ap (λ (k : CommitterState). k.dues) z ∙ ap (λ n. drop n c.commit_ended.new.self.dues) spelled ∙ ap (drop (length c.args.self.now.dues)) dues ∙ drop_all c.args.self.now.dues)
    c.write_lines.ensures.same
