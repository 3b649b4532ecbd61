use Rattle.std.proofs.Common.{rules, arith, sym, ap, subst, ◌∙◌, length, List, ℕ, replicate, ◌+◌, ◌≤◌}
use Rattle.std.proofs.lemmas.List.{replicate-append-replicate, length-replicate}
use Rattle.ledger_disk.specs.Disk.{State, overlay}
use Rattle.ledger_disk.proofs.Confining.{confined_may, overlaid_more}
use Rattle.block_file.specs.File.{IsZeros}
use Rattle.block_file.proofs.WriteLaws.{told_within_some}
use Rattle.block_file.proofs.CopyLaws.{keeps_keeps}
use Rattle.block_file.proofs.WithinLaws.{within_may}
use Rattle.block_file.proofs.ZeroLaws.{outside_may, zeros_part}
use Rattle.block_file.proofs.zeroing.zero_pieces.Goals as goal

pub returns-in_err-clear_piece-clause-outside : goal.returns-in_err-clear_piece-clause-outside
returns-in_err-clear_piece-clause-outside g c told =
    let seen = (g.D.Disk.state c.args.disk.now).bytes.seen in
    let within : c.args.at + c.args.len ≤ length seen = told_within_some _ (length seen) (c.args.at + c.args.len) (g.met.D.Disk.length_is c.args.disk.now told) c.requires.length in
    outside_may c.args.at c.args.len (c.args.at + c.loop-done.done) c.min-n.result seen (g.D.Disk.state c.loop-done.disk).bytes (g.D.Disk.state c.clear_piece.new.disk).bytes (c.loop-done.invariant.outside told) (omega arith) (omega (arith, c.min-n.ensures, c.loop-done-test.true)) within (c.clear_piece.ensures.state told)

pub returns-in_err-clear_piece-clause-confined : goal.returns-in_err-clear_piece-clause-confined
returns-in_err-clear_piece-clause-confined g c told quiet =
    let seen = (g.D.Disk.state c.args.disk.now).bytes.seen in
    let within : c.args.at + c.args.len ≤ length seen = told_within_some _ (length seen) (c.args.at + c.args.len) (g.met.D.Disk.length_is c.args.disk.now told) c.requires.length in
    confined_may c.args.at c.args.len (c.args.at + c.loop-done.done) c.min-n.result seen (g.D.Disk.state c.loop-done.disk).bytes (g.D.Disk.state c.clear_piece.new.disk).bytes (c.loop-done.invariant.confined told quiet) (omega arith) (omega (arith, c.min-n.ensures, c.loop-done-test.true)) within (c.clear_piece.ensures.state told)

pub returns-in_err-clear_piece-clause-within : goal.returns-in_err-clear_piece-clause-within
returns-in_err-clear_piece-clause-within g c told =
    let seen = (g.D.Disk.state c.args.disk.now).bytes.seen in
    let long : c.args.at + c.args.len ≤ length seen = told_within_some _ (length seen) (c.args.at + c.args.len) (g.met.D.Disk.length_is c.args.disk.now told) c.requires.length in
    within_may c.args.at c.args.len (c.args.at + c.loop-done.done) c.min-n.result (g.D.Disk.state c.args.disk.now).bytes (g.D.Disk.state c.loop-done.disk).bytes (g.D.Disk.state c.clear_piece.new.disk).bytes
    (g.met.D.Disk.seen_may_be_left c.loop-done.disk told) (c.loop-done.invariant.changes told) (omega arith) (omega (arith, c.min-n.ensures, c.loop-done-test.true)) long (c.clear_piece.ensures.state told)

pub returns-in_err-clear_piece-clause-idle : goal.returns-in_err-clear_piece-clause-idle
returns-in_err-clear_piece-clause-idle g c told zeros =
    let seen = (g.D.Disk.state c.args.disk.now).bytes.seen in
    let so_far = c.loop-done.invariant.idle told zeros in
    let part = zeros_part c.args.at c.args.len c.loop-done.done c.min-n.result seen zeros (omega (arith, c.min-n.ensures, c.loop-done-test.true)) in
    c.clear_piece.ensures.idle told (subst (λ (s : State). IsZeros (c.args.at + c.loop-done.done) c.min-n.result s.seen) (sym so_far) part) ∙ so_far

pub loop-done-preserved : goal.loop-done-preserved
loop-done-preserved g c =
    let at = c.args.at in
    let n = c.min-n.result in
    let done = c.loop-done.done in
    let seen = (g.D.Disk.state c.args.disk.now).bytes.seen in
    let before = (g.D.Disk.state c.loop-done.disk).bytes in
    let after = (g.D.Disk.state c.clear_piece.new.disk).bytes in
    let high : at + done + n ≤ at + c.args.len = omega (arith, c.min-n.ensures, c.loop-done-test.true) in
    record {
      within = omega (arith, high);
      length = keeps_keeps _ _ _ c.loop-done.invariant.length c.clear_piece.ensures.length;
      seen = λ told.
          let within : at + c.args.len ≤ length seen = told_within_some _ (length seen) (at + c.args.len) (g.met.D.Disk.length_is c.args.disk.now told) c.requires.length in
          let zeros = length-replicate {A = ℕ} done 0 in
          c.in_ok-clear_piece.ensures.seen told
          ∙ ap (λ (l : List ℕ). overlay (at + done) (replicate n 0) l) (c.loop-done.invariant.seen told)
          ∙ ap (λ (k : ℕ). overlay (at + k) (replicate n 0) (overlay at (replicate done 0) seen)) (sym zeros)
          ∙ overlaid_more at (replicate done 0) (replicate n 0) seen (omega (arith, within))
          ∙ ap (λ (l : List ℕ). overlay at l seen) (replicate-append-replicate done n 0);
      outside = λ told.
          let within : at + c.args.len ≤ length seen = told_within_some _ (length seen) (at + c.args.len) (g.met.D.Disk.length_is c.args.disk.now told) c.requires.length in
          outside_may at c.args.len (at + done) n seen before after (c.loop-done.invariant.outside told) (omega arith) high within (c.clear_piece.ensures.state told);
      confined = λ told quiet.
          let within : at + c.args.len ≤ length seen = told_within_some _ (length seen) (at + c.args.len) (g.met.D.Disk.length_is c.args.disk.now told) c.requires.length in
          confined_may at c.args.len (at + done) n seen before after (c.loop-done.invariant.confined told quiet) (omega arith) high within (c.clear_piece.ensures.state told);
      changes = λ told.
          let long : at + c.args.len ≤ length seen = told_within_some _ (length seen) (at + c.args.len) (g.met.D.Disk.length_is c.args.disk.now told) c.requires.length in
          within_may at c.args.len (at + done) n (g.D.Disk.state c.args.disk.now).bytes before after (g.met.D.Disk.seen_may_be_left c.loop-done.disk told) (c.loop-done.invariant.changes told) (omega arith) high long (c.clear_piece.ensures.state told);
      idle = λ told zeros.
          let so_far = c.loop-done.invariant.idle told zeros in
          let part = zeros_part at c.args.len done n seen zeros (omega (arith, high)) in
          c.clear_piece.ensures.idle told (subst (λ (s : State). IsZeros (at + done) n s.seen) (sym so_far) part) ∙ so_far;
      faults = search rules;
    }
