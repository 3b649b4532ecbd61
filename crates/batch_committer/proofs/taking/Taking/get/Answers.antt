use Rattle.std.proofs.Common.{◌≡◌, true, false, sym, subst, ◌∙◌}
use Rattle.std.proofs.lemmas.Result.{IfOk-weaker}
use Rattle.batch_committer.specs.World.{CommitterState, Holds, world, pair}
use Rattle.batch_committer.proofs.ReadLaws.{read_as_held}
use Rattle.batch_committer.proofs.taking.Taking.get.Goals as goal

pub returns-then-in_a-clause-told : goal.returns-then-in_a-clause-told
returns-then-in_a-clause-told g c =
    let disks = pair (g.D.Disk.state c.args.a.now) (g.D.Disk.state c.args.b.now) in
    IfOk-weaker c.get.result _ _
    (λ reply told h sink holds none settled.
    let p = subst (λ (k : CommitterState). Holds g.D.Disk.tells (world k disks sink) h) (sym c.self.view_is) holds in
    told p.told h (read_as_held g.D.Disk.tells _ disks sink h p none (subst (λ (k : CommitterState). k.ended ≡ 0) (sym c.self.view_is) settled) true (sym c.in_a.ensures ∙ c.if-in_a.true)))
    c.get.ensures.told

pub returns-else-in_a-clause-told : goal.returns-else-in_a-clause-told
returns-else-in_a-clause-told g c =
    let disks = pair (g.D.Disk.state c.args.a.now) (g.D.Disk.state c.args.b.now) in
    IfOk-weaker c.get-else-in_a.result _ _
    (λ reply told h sink holds none settled.
    let p = subst (λ (k : CommitterState). Holds g.D.Disk.tells (world k disks sink) h) (sym c.self.view_is) holds in
    told p.told h (read_as_held g.D.Disk.tells _ disks sink h p none (subst (λ (k : CommitterState). k.ended ≡ 0) (sym c.self.view_is) settled) false (sym c.in_a.ensures ∙ c.if-in_a.false)))
    c.get-else-in_a.ensures.told
