use Rattle.std.proofs.lemmas.Result.{IfOk-weaker, IfErr-weaker}
use Rattle.twin_file.proofs.TakeLaws.{reopened_takes, reopen_err}
use Rattle.twin_file.proofs.twin.Twin.reopen.Goals as goal

pub returns-clause-takes : goal.returns-clause-takes
returns-clause-takes g c = IfOk-weaker c.look.result _ _ (λ found is told in_a file opens. reopened_takes (g.D.Disk.state c.args.a.now).bytes.seen (g.D.Disk.state c.args.b.now).bytes.seen found (is told) in_a file opens) c.look.ensures.answer

pub returns-clause-takes_err : goal.returns-clause-takes_err
returns-clause-takes_err g c = IfErr-weaker c.look.result _ _ (λ e err told in_a file opens. reopen_err (g.D.Disk.state c.args.a.now).bytes.seen (g.D.Disk.state c.args.b.now).bytes.seen e in_a file opens (err told)) c.look.ensures.err
