use Rattle.std.proofs.Common.{◌<◌, ◌≤◌, ◌-◌, [], length, take, sym, ap, subst, ◌∙◌}
use Rattle.std.specs.Io.KnownBytes.{Appends}
use Rattle.batch_committer.specs.World.{CommitterState}
use Rattle.batch_committer.specs.contracts.taking.Taking.{the_view}
use Rattle.batch_committer.proofs.Ending.{goes_at, goes_to, ended_at, first_of_text}
use Rattle.batch_committer.proofs.Settling.{write_goes, write_ended, rest_left}
use Rattle.batch_committer.proofs.WayLaws.{err_is}
use Rattle.batch_committer.proofs.taking.Taking.write_lines.Goals as goal

pub returns-in_err-write_all-clause-err : goal.returns-in_err-write_all-clause-err
returns-in_err-write_all-clause-err g c =
    let i = the_view c.self.inside in
    let before = g.K.Sink.state c.args.sink.now in
    let after = g.K.Sink.state c.write_all.new.sink in
    let e = c.in_err-write_all.ensures in
    let t = first_of_text before after c.as_slice.result.now c.in_err-write_all.field-0.0 e.taken in
    let none = ap (λ (k : CommitterState). k.ended) c.self.view_is ∙ c.requires.none in
    err_is _ c.from_residual.result _ c.from_residual.ensures.1
    (λ tells disks. ended_at tells _ _ c.self.view_is disks before _ (λ h. h) (λ h. []) _
    (write_ended tells i disks before after none _ t.0 (subst (λ l. t.0 < length l) c.as_slice.ensures.value t.1) (subst (λ l. Appends before.held after.held (take t.0 l)) c.as_slice.ensures.value t.2) e.once))

pub returns-clause-ok : goal.returns-clause-ok
returns-clause-ok g c = λ tells disks.
    let i = the_view c.self.inside in
    let before = g.K.Sink.state c.args.sink.now in
    let after = g.K.Sink.state c.write_all.new.sink in
    let o = c.in_ok-write_all.ensures in
    let few = subst (λ (k : CommitterState). k.spelled ≤ length k.dues) (sym c.self.view_is) c.requires.few in
    let none = ap (λ (k : CommitterState). k.ended) c.self.view_is ∙ c.requires.none in
    goes_at tells _ _ c.self.view_is disks before _ (λ h. h) (λ h. [])
    (goes_to tells _ _ _ (λ j. record i { dues = (rest_left i.dues c.rotate_left.new.self.items c.truncate.new.self.items i.spelled (c.len.result - i.spelled) few (ap (λ n. n - i.spelled) (c.len.ensures ∙ c.self.inside.dues.ok.0)) c.rotate_left.ensures.items c.truncate.ensures.items) j; spelled = 0; lines = c.clear.ensures.items j }) disks after (λ h. h) (λ h. [])
    (write_goes tells i disks before after none (subst (Appends before.held after.held) c.as_slice.ensures.value o.ok) o.once))
