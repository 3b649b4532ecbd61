use Rattle.std.specs.Prelude.{IsTrue}
use Rattle.std.proofs.Common.{sym, subst, ap, refl, ◌∙◌, inl, take, drop, ◌≡◌, ◌+◌, ◌∷◌, ◌++◌, [], arith}
use Rattle.ledger_disk.specs.Disk.{State, MayLeave, settled_state, overlay}
use Rattle.ledger_disk.proofs.Guarding.{settled_image}
use Rattle.block_file.specs.File.{IsSettled, staged_file}
use Rattle.block_file.proofs.WriteLaws.{on_err, kept_image, all_or_none, with_group, shut_after, ends_after, front_stays, gate_over}
use Rattle.block_file.proofs.file.BlockFile.commit_blocks.Goals as goal

pub returns-in_err-stage-clause-err : goal.returns-in_err-stage-clause-err
returns-in_err-stage-clause-err g c = on_err c.from_residual.result _ (λ told group is_group quiet front blocks stands place image left.
    inl (kept_image front blocks _ _ stands place _ quiet refl _ image (c.in_err-stage.ensures.err told) left))

pub returns-in_err-open_gate-clause-err : goal.returns-in_err-open_gate-clause-err
returns-in_err-open_gate-clause-err g c = on_err c.from_residual-in_err-open_gate.result _ (λ told group is_group quiet front blocks stands place image left.
    let is = c.in_ok-stage.ensures.ok told in
    let mid : IsSettled (g.D.Disk.state c.stage.new.disk).bytes = is ∙ ap (λ (s : State). settled_state s.seen) (sym is) in
    let torn = c.in_err-open_gate.ensures.err told mid image left in
    all_or_none front blocks _ c.args.self.now.at stands place c.args.bytes.now group is_group torn.0 image
    (torn.1 ∙ ap (λ (s : State). take c.args.self.now.at s.seen ++ torn.0 ∷ drop (c.args.self.now.at + 1) s.seen) is))

pub returns-clause-ok : goal.returns-clause-ok
returns-clause-ok g c group is_group =
    let at = c.args.self.now.at in
    let bytes = c.args.bytes.now in
    let old = (g.D.Disk.state c.args.disk.now).bytes in
    let new = (g.D.Disk.state c.open_gate.new.disk).bytes in
    let seen : IsTrue g.D.Disk.tells → new.seen ≡ take at (staged_file at bytes old.seen) ++ 1 ∷ drop (at + 1) (staged_file at bytes old.seen) =
    λ told. ap (λ (s : State). s.seen) (c.in_ok-open_gate.ensures.ok told) ∙ ap (λ (s : State). overlay at (1 ∷ []) s.seen) (c.in_ok-stage.ensures.ok told) ∙ gate_over at _ in
    let pending : IsTrue g.D.Disk.tells → IsSettled new =
    λ told. c.in_ok-open_gate.ensures.ok told ∙ ap (λ (s : State). settled_state s.seen) (sym (c.in_ok-open_gate.ensures.ok told)) in
    record {
      has = λ told front blocks stands place. record { nothing_pending = pending told; stands = with_group front blocks _ at stands place bytes group is_group _ (seen told) };
      images = λ told front blocks stands place image left. with_group front blocks _ at stands place bytes group is_group image (settled_image _ image (subst (λ (s : State). MayLeave s image) (pending told) left) ∙ seen told);
      gate = λ told. shut_after at bytes _ _ (c.requires.gate told) (seen told);
      head = λ told. front_stays 64 at bytes _ _ (omega (arith, c.args.self.now.behind)) (c.requires.gate told) (seen told);
      ends = λ told size. ends_after at bytes _ _ size (seen told);
    }

pub returns-clause-length : goal.returns-clause-length
returns-clause-length g c = c.in_ok-open_gate.ensures.told _ c.in_ok-stage.ensures.told
