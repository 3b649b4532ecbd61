use Rattle.std.proofs.Common.{ap, subst, ◌∙◌, length, List, ℕ, replicate, take, ◌≡◌}
use Rattle.std.proofs.lemmas.List.{take-replicate, length-replicate}
use Rattle.std.proofs.lemmas.Result.{on_ok_weaker}
use Rattle.ledger_disk.specs.Disk.{overlay, with_write}
use Rattle.block_file.proofs.zeroing.write_zeros.Goals as goal

pub returns-clause-ok : goal.returns-clause-ok
returns-clause-ok g c = on_ok_weaker c.write.result (λ h told.
    let seen = (g.D.Disk.state c.args.disk.now).bytes.seen in
    let is : take c.args.n (replicate {A = ℕ} 4096 0) ≡ replicate c.args.n 0 = take-replicate c.args.n 4096 0 c.requires.piece in
    let now = subst (λ (p : List ℕ). (g.D.Disk.state c.write.new.self).bytes ≡ with_write c.args.at (length p) (overlay c.args.at p seen) (g.D.Disk.state c.args.disk.now).bytes) is (h told) in
    now ∙ ap (λ (k : ℕ). with_write c.args.at k (overlay c.args.at (replicate c.args.n 0) seen) (g.D.Disk.state c.args.disk.now).bytes) (length-replicate c.args.n 0)) c.write.ensures.ok
