use Rattle.std.proofs.Common.{sym, ◌∙◌}
use Rattle.batch_committer.proofs.Committing.{committed_a, committed_b, uncommitted_a, uncommitted_b}
use Rattle.batch_committer.proofs.commit.commit.Goals as goal

pub returns-then-in_a-clause-err : goal.returns-then-in_a-clause-err
returns-then-in_a-clause-err g c =
    let e = c.commit_in.ensures in
    uncommitted_a c.commit_in.result g.D.Disk.tells _ _ c.args.bytes.now _ _ (g.D.Disk.state c.commit_in.new.file) (sym c.in_a.ensures ∙ c.if-in_a.true) e.err e.failed

pub returns-else-in_a-clause-err : goal.returns-else-in_a-clause-err
returns-else-in_a-clause-err g c =
    let e = c.commit_in-else-in_a.ensures in
    uncommitted_b c.commit_in-else-in_a.result g.D.Disk.tells _ _ c.args.bytes.now _ _ (g.D.Disk.state c.commit_in-else-in_a.new.file) (sym c.in_a.ensures ∙ c.if-in_a.false) e.err e.failed

pub returns-then-in_a-clause-ok : goal.returns-then-in_a-clause-ok
returns-then-in_a-clause-ok g c =
    let e = c.commit_in.ensures in
    committed_a c.commit_in.result g.D.Disk.tells _ _ _ c.args.bytes.now _ _ (g.D.Disk.state c.commit_in.new.file) (sym c.in_a.ensures ∙ c.if-in_a.true) e.ok e.ends e.reads e.gate e.head e.counts

pub returns-else-in_a-clause-ok : goal.returns-else-in_a-clause-ok
returns-else-in_a-clause-ok g c =
    let e = c.commit_in-else-in_a.ensures in
    committed_b c.commit_in-else-in_a.result g.D.Disk.tells _ _ _ c.args.bytes.now _ _ (g.D.Disk.state c.commit_in-else-in_a.new.file) (sym c.in_a.ensures ∙ c.if-in_a.false) e.ok e.ends e.reads e.gate e.head e.counts
