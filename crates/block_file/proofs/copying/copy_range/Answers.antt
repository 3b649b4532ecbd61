use Rattle.std.specs.Prelude.{IsSomeAnd}
use Rattle.std.proofs.Common.{rules, arith, sym, ap, subst, ◌∙◌, length, List, ℕ, take, drop, ◌+◌, ◌≤◌, add_assoc}
use Rattle.ledger_disk.specs.Disk.{State, overlay}
use Rattle.ledger_disk.specs.Guards.{Guards}
use Rattle.ledger_disk.proofs.Guarding.{guards_may, guards_wrote}
use Rattle.block_file.proofs.WriteLaws.{told_within_some}
use Rattle.block_file.proofs.CopyLaws.{keeps_some, keeps_keeps, copied_more}
use Rattle.block_file.proofs.copying.copy_range.Goals as goal

pub returns-in_err-copy_piece-clause-guards : goal.returns-in_err-copy_piece-clause-guards
returns-in_err-copy_piece-clause-guards g c told front guards le =
    guards_may (g.D.Disk.state c.loop-done.to).bytes (g.D.Disk.state c.copy_piece.new.to).bytes front _ _ (c.loop-done.invariant.guards told front guards le) (omega arith) (c.in_err-copy_piece.ensures.err told)

pub loop-done-preserved : goal.loop-done-preserved
loop-done-preserved g c = record {
  within = omega (arith, c.min-n.ensures, c.loop-done.invariant.within, c.loop-done-test.true);
  from = keeps_some _ _ _ c.copy_piece.ensures.from c.loop-done.invariant.from;
  keeps = keeps_keeps _ _ _ c.loop-done.invariant.keeps c.copy_piece.ensures.from;
  to = subst (λ (k : ℕ). IsSomeAnd (g.D.Disk.state c.copy_piece.new.to).told (λ m. k ≤ m)) (add_assoc c.args.place c.loop-done.done c.min-n.result) c.in_ok-copy_piece.ensures.to;
  seen = λ told.
      let source = (g.D.Disk.state c.args.from.now).bytes.seen in
      let first = (g.D.Disk.state c.args.to.now).bytes.seen in
      let long : c.args.at + c.args.len ≤ length source = told_within_some _ (length source) (c.args.at + c.args.len) (g.met.D.Disk.length_is c.args.from.now told) c.requires.from in
      let there : c.args.place ≤ length first = told_within_some _ (length first) c.args.place (g.met.D.Disk.length_is c.args.to.now told) c.requires.to in
      ap (λ (s : State). s.seen) (c.in_ok-copy_piece.ensures.ok told)
      ∙ ap (λ (s : State). overlay (c.args.place + c.loop-done.done) (take c.min-n.result (drop (c.args.at + c.loop-done.done) s.seen)) (g.D.Disk.state c.loop-done.to).bytes.seen) (c.loop-done.invariant.same told)
      ∙ ap (λ (l : List ℕ). overlay (c.args.place + c.loop-done.done) (take c.min-n.result (drop (c.args.at + c.loop-done.done) source)) l) (c.loop-done.invariant.seen told)
      ∙ copied_more c.args.place c.args.at c.loop-done.done c.min-n.result c.args.len source first long (omega (arith, c.min-n.ensures, c.loop-done-test.true)) there;
  guards = λ told front guards le.
      subst (λ (s : State). Guards s front) (sym (c.in_ok-copy_piece.ensures.ok told)) (guards_wrote (g.D.Disk.state c.loop-done.to).bytes front _ _ _ (c.loop-done.invariant.guards told front guards le) (omega arith));
  same = λ told. c.copy_piece.ensures.same told ∙ c.loop-done.invariant.same told;
  faults_from = search rules;
  faults_to = search rules;
}
