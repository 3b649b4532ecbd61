use Rattle.std.proofs.Common.{ℕ, ◌+◌, List, length, None, Some, refl, ap, sym, ◌∙◌}
use Rattle.ledger_io.proofs.ReadingLaws.{line_smaller}
use Rattle.ledger_model.specs.Windows.{fills_window}
use Rattle.ledger_cli.proofs.RunsLaws.{sofar_begins, sofar_taken, sofar_added, sofar_window, ran_broken, ran_whole, ran_cut, ran_starved, ran_lacking, ran_unended, ends_whole, ends_failed, few_numbers, numbers_now}
use Rattle.ledger_cli.proofs.TakeLaws.{ends_as, not_done, end_of_lines}
use Rattle.ledger_cli.proofs.session.answer_lines.Goals as goal

pub loop-line-init : goal.loop-line-init
loop-line-init g c = record {
  ready = c.requires.open;
  fresh = c.requires.fresh;
  same = (refl, refl, refl, refl, refl, refl, refl);
  sofar = sofar_begins _ _ _ _ _ _ _ _ _ _ _ _ c.new-lines.ensures c.new-piece.ensures.lines c.new-piece.ensures.first c.new-piece.ensures.next c.new-window.ensures.lines c.new-window.ensures.bytes;
}

pub end_window-requires-clause-numbers : goal.end_window-requires-clause-numbers
end_window-requires-clause-numbers g c κs within k less = (few_numbers _ _ _ _ _ _ _ _ _ _ _ _ _ _ _ _ c.requires.open.room (c.requires.none, c.requires.open.fits.clear c.requires.none) c.loop-line.invariant.sofar k less).0

pub returns-in_err-end_window-in-Ok-None-clause-ended : goal.returns-in_err-end_window-in-Ok-None-clause-ended
returns-in_err-end_window-in-Ok-None-clause-ended g c =
    let e = rw c.in-Ok-None.field-0-is at c.in-Ok-None.ensures in
    let end = ends_whole _ _ _ _ _ _ _ _ _ _ _ _ _ _ _ _ c.requires.open.room (c.requires.none, c.requires.open.fits.clear c.requires.none) c.loop-line.invariant.sofar _ _ _ e.gives.1 e.counts e.gives.2 in
    ends_as _ c.from_residual.result _ c.from_residual.ensures.1
    (ran_cut _ _ _ _ _ _ _ _ _ _ _ _ _ _ _ _ c.requires.open.room (c.requires.none, c.requires.open.fits.clear c.requires.none) c.loop-line.invariant.sofar _ _ _ e.gives.1 None end _ refl refl refl _ _ c.in_err-end_window-in-Ok-None.field-0.0 c.in_err-end_window-in-Ok-None.ensures.takes)

pub returns-in-Ok-None-clause-done : goal.returns-in-Ok-None-clause-done
returns-in-Ok-None-clause-done g c =
    let e = rw c.in-Ok-None.field-0-is at c.in-Ok-None.ensures in
    let end = ends_whole _ _ _ _ _ _ _ _ _ _ _ _ _ _ _ _ c.requires.open.room (c.requires.none, c.requires.open.fits.clear c.requires.none) c.loop-line.invariant.sofar _ _ _ e.gives.1 e.counts e.gives.2 in
    ran_whole _ _ _ _ _ _ _ _ _ _ _ _ _ _ _ _ c.requires.open.room (c.requires.none, c.requires.open.fits.clear c.requires.none) c.loop-line.invariant.sofar _ _ _ e.gives.1 None end _ refl refl refl _ c.in_ok-end_window-in-Ok-None.ensures.takes.0 (c.in_ok-end_window-in-Ok-None.ensures.takes.2, c.in_ok-end_window-in-Ok-None.ensures.takes.1.fits.clear c.in_ok-end_window-in-Ok-None.ensures.takes.2) c.in_ok-end_window-in-Ok-None.ensures.takes.3

pub returns-in-NoMemory-clause-ended : goal.returns-in-NoMemory-clause-ended
returns-in-NoMemory-clause-ended g c =
    let e = rw c.in-NoMemory.is at c.in-Err.ensures in
    ran_starved _ _ _ _ _ _ _ _ _ _ _ _ _ _ _ _ c.requires.open.room (c.requires.none, c.requires.open.fits.clear c.requires.none) c.loop-line.invariant.sofar _ _ _ e.gives.1 _ e.counts e.gives.2

pub end_window-requires-in-Err-clause-numbers : goal.end_window-requires-in-Err-clause-numbers
end_window-requires-in-Err-clause-numbers g c κs within k less = (few_numbers _ _ _ _ _ _ _ _ _ _ _ _ _ _ _ _ c.requires.open.room (c.requires.none, c.requires.open.fits.clear c.requires.none) c.loop-line.invariant.sofar k less).0

pub returns-in_err-end_window-in-Err : goal.returns-in_err-end_window-in-Err
returns-in_err-end_window-in-Err g c =
    let e = c.in-Err.ensures in
    let end = ends_failed _ _ _ _ _ _ _ _ _ _ _ _ _ _ _ _ c.requires.open.room (c.requires.none, c.requires.open.fits.clear c.requires.none) c.loop-line.invariant.sofar _ _ _ e.gives.1 c.in-Err.error c.in_default.not-NoMemory e.counts e.gives.2 in record {
      same = (c.in_err-end_window-in-Err.ensures.same.0 ∙ c.loop-line.invariant.same.0, c.in_err-end_window-in-Err.ensures.same.1 ∙ c.loop-line.invariant.same.1, c.in_err-end_window-in-Err.ensures.same.2 ∙ c.loop-line.invariant.same.2, c.in_err-end_window-in-Err.ensures.same.3 ∙ c.loop-line.invariant.same.3, c.in_err-end_window-in-Err.ensures.same.4 ∙ c.loop-line.invariant.same.4, c.in_err-end_window-in-Err.ensures.same.5 ∙ c.loop-line.invariant.same.5, c.in_err-end_window-in-Err.ensures.same.6 ∙ c.loop-line.invariant.same.6);
      done = not_done _ _ c.from_residual-in_err-end_window-in-Err.result c.from_residual-in_err-end_window-in-Err.ensures.1;
      ended =
          ends_as _ c.from_residual-in_err-end_window-in-Err.result _ c.from_residual-in_err-end_window-in-Err.ensures.1
          (ran_cut _ _ _ _ _ _ _ _ _ _ _ _ _ _ _ _ c.requires.open.room (c.requires.none, c.requires.open.fits.clear c.requires.none) c.loop-line.invariant.sofar _ _ _ e.gives.1 (Some c.in-Err.error) end _ refl refl refl _ _ c.in_err-end_window-in-Err.field-0.0 c.in_err-end_window-in-Err.ensures.takes);
      unrefused = ends_as _ c.from_residual-in_err-end_window-in-Err.result _ c.from_residual-in_err-end_window-in-Err.ensures.1 (end_of_lines c.in_err-end_window-in-Err.field-0.0);
    }

pub returns-in-Err : goal.returns-in-Err
returns-in-Err g c =
    let e = c.in-Err.ensures in
    let end = ends_failed _ _ _ _ _ _ _ _ _ _ _ _ _ _ _ _ c.requires.open.room (c.requires.none, c.requires.open.fits.clear c.requires.none) c.loop-line.invariant.sofar _ _ _ e.gives.1 c.in-Err.error c.in_default.not-NoMemory e.counts e.gives.2 in record {
      same = (c.in_ok-end_window-in-Err.ensures.same.0 ∙ c.loop-line.invariant.same.0, c.in_ok-end_window-in-Err.ensures.same.1 ∙ c.loop-line.invariant.same.1, c.in_ok-end_window-in-Err.ensures.same.2 ∙ c.loop-line.invariant.same.2, c.in_ok-end_window-in-Err.ensures.same.3 ∙ c.loop-line.invariant.same.3, c.in_ok-end_window-in-Err.ensures.same.4 ∙ c.loop-line.invariant.same.4, c.in_ok-end_window-in-Err.ensures.same.5 ∙ c.loop-line.invariant.same.5, c.in_ok-end_window-in-Err.ensures.same.6 ∙ c.loop-line.invariant.same.6);
      done = tt;
      ended = rw c.from.ensures (ran_whole _ _ _ _ _ _ _ _ _ _ _ _ _ _ _ _ c.requires.open.room (c.requires.none, c.requires.open.fits.clear c.requires.none) c.loop-line.invariant.sofar _ _ _ e.gives.1 (Some c.in-Err.error) end _ refl refl refl _ c.in_ok-end_window-in-Err.ensures.takes.0 (c.in_ok-end_window-in-Err.ensures.takes.2, c.in_ok-end_window-in-Err.ensures.takes.1.fits.clear c.in_ok-end_window-in-Err.ensures.takes.2) c.in_ok-end_window-in-Err.ensures.takes.3);
      unrefused = refl;
    }

pub add-requires : goal.add-requires
add-requires g c k less = (few_numbers _ _ _ _ _ _ _ _ _ _ _ _ _ _ _ _ c.requires.open.room (c.requires.none, c.requires.open.fits.clear c.requires.none) c.loop-line.invariant.sofar k less).1

pub returns-in_default-add-clause-ended : goal.returns-in_default-add-clause-ended
returns-in_default-add-clause-ended g c =
    let e = rw c.in-Ok-Some.field-0-is at c.in-Ok-Some.ensures in
    ran_lacking _ _ _ _ _ _ _ _ _ _ _ _ _ _ _ _ c.requires.open.room (c.requires.none, c.requires.open.fits.clear c.requires.none) c.loop-line.invariant.sofar _ _ _ e.gives.1 c.in-Ok-Some.line e.counts e.gives.2 _

pub end_window-requires-then-full-clause-numbers : goal.end_window-requires-then-full-clause-numbers
end_window-requires-then-full-clause-numbers g c κs within k less =
    let e = rw c.in-Ok-Some.field-0-is at c.in-Ok-Some.ensures in
    let added = c.in-Ok.ensures in
    numbers_now _ _ _ _ _ _ _ _ _ _ _ _ _ _ _ _ c.requires.open.room (c.requires.none, c.requires.open.fits.clear c.requires.none) c.loop-line.invariant.sofar _ _ _ e.gives.1 c.in-Ok-Some.line e.counts e.gives.2 added.lines.0 added.lines.1 _ added.next _ _ added.first added.lines.2 k less

-- a line that makes its window whole
pub loop-line-smaller-in-Continue-branch-3 : goal.loop-line-smaller-in-Continue-branch-3
loop-line-smaller-in-Continue-branch-3 g c =
    let e = rw c.in-Ok-Some.field-0-is at c.in-Ok-Some.ensures in
    rw c.widen.ensures (line_smaller _ _ c.loop-line.lines _ e.gives.0 c.in-Ok-Some.line e.gives.1 e.gives.2)

pub loop-line-preserved-in-Continue-branch-3 : goal.loop-line-preserved-in-Continue-branch-3
loop-line-preserved-in-Continue-branch-3 g c =
    let e = rw c.in-Ok-Some.field-0-is at c.in-Ok-Some.ensures in
    let added = c.in-Ok.ensures in
    let full = ap (λ (l : List ℕ). fills_window (c.loop-line.window.lines + 1) (c.loop-line.window.bytes + length l)) (sym c.as_slice.ensures) ∙ sym c.if-full.ensures.full in
    let taken = c.in_ok-end_window.ensures in record {
      ready = taken.takes.1;
      fresh = taken.fresh;
      same = (taken.same.0 ∙ c.loop-line.invariant.same.0, taken.same.1 ∙ c.loop-line.invariant.same.1, taken.same.2 ∙ c.loop-line.invariant.same.2, taken.same.3 ∙ c.loop-line.invariant.same.3, taken.same.4 ∙ c.loop-line.invariant.same.4, taken.same.5 ∙ c.loop-line.invariant.same.5, taken.same.6 ∙ c.loop-line.invariant.same.6);
      sofar = rw c.widen.ensures (sofar_window _ _ _ _ _ _ _ _ _ _ _ _ _ _ _ _ c.requires.open.room (c.requires.none, c.requires.open.fits.clear c.requires.none) c.loop-line.invariant.sofar _ _ _ e.gives.1 c.in-Ok-Some.line e.counts e.gives.2 added.lines.0 added.lines.1 _ added.next full _ refl refl refl _ added.lines.2 _ _ _ _ _ _ (rw added.first at taken.takes.0) taken.none taken.first taken.next c.if-full.ensures.lines c.if-full.ensures.bytes);
    }

pub returns-in_err-end_window-clause-ended : goal.returns-in_err-end_window-clause-ended
returns-in_err-end_window-clause-ended g c =
    let e = rw c.in-Ok-Some.field-0-is at c.in-Ok-Some.ensures in
    let added = c.in-Ok.ensures in
    let full = ap (λ (l : List ℕ). fills_window (c.loop-line.window.lines + 1) (c.loop-line.window.bytes + length l)) (sym c.as_slice.ensures) ∙ sym c.if-full.ensures.full in
    ends_as _ c.from_residual-in_err-end_window.result _ c.from_residual-in_err-end_window.ensures.1
    (ran_unended _ _ _ _ _ _ _ _ _ _ _ _ _ _ _ _ c.requires.open.room (c.requires.none, c.requires.open.fits.clear c.requires.none) c.loop-line.invariant.sofar _ _ _ e.gives.1 c.in-Ok-Some.line e.counts e.gives.2 added.lines.0 added.lines.1 _ added.next full _ refl refl refl _ added.lines.2 _ _ c.in_err-end_window.field-0.0 (rw added.first at c.in_err-end_window.ensures.takes))

-- no other line is there, so the piece is taken
pub take_piece-requires-clause-numbers : goal.take_piece-requires-clause-numbers
take_piece-requires-clause-numbers g c κs within k less =
    let e = rw c.in-Ok-Some.field-0-is at c.in-Ok-Some.ensures in
    let added = c.in-Ok.ensures in
    numbers_now _ _ _ _ _ _ _ _ _ _ _ _ _ _ _ _ c.requires.open.room (c.requires.none, c.requires.open.fits.clear c.requires.none) c.loop-line.invariant.sofar _ _ _ e.gives.1 c.in-Ok-Some.line e.counts e.gives.2 added.lines.0 added.lines.1 _ added.next _ _ added.first added.lines.2 k less

pub loop-line-smaller-in-Continue-branch-4 : goal.loop-line-smaller-in-Continue-branch-4
loop-line-smaller-in-Continue-branch-4 g c =
    let e = rw c.in-Ok-Some.field-0-is at c.in-Ok-Some.ensures in
    rw (c.holds_line.ensures.same ∙ c.is_due.ensures) (line_smaller _ _ c.loop-line.lines _ e.gives.0 c.in-Ok-Some.line e.gives.1 e.gives.2)

pub loop-line-preserved-in-Continue-branch-4 : goal.loop-line-preserved-in-Continue-branch-4
loop-line-preserved-in-Continue-branch-4 g c =
    let e = rw c.in-Ok-Some.field-0-is at c.in-Ok-Some.ensures in
    let added = c.in-Ok.ensures in
    let full = ap (λ (l : List ℕ). fills_window (c.loop-line.window.lines + 1) (c.loop-line.window.bytes + length l)) (sym c.as_slice.ensures) ∙ sym c.if-full.ensures.full in
    let all = sofar_added _ _ _ _ _ _ _ _ _ _ _ _ _ _ _ _ c.requires.open.room (c.requires.none, c.requires.open.fits.clear c.requires.none) c.loop-line.invariant.sofar _ _ _ e.gives.1 c.in-Ok-Some.line e.counts e.gives.2 added.lines.0 added.lines.1 _ added.next _ _ _ _ added.first added.lines.2 full c.if-full.ensures.lines (c.if-full.ensures.bytes ∙ ap (λ (l : List ℕ). c.loop-line.window.bytes + length l) c.as_slice.ensures) in
    let taken = c.in_ok-take_piece.ensures in
    record { ready = taken.takes.1; fresh = taken.fresh; same = (taken.same.0 ∙ c.loop-line.invariant.same.0, taken.same.1 ∙ c.loop-line.invariant.same.1, taken.same.2 ∙ c.loop-line.invariant.same.2, taken.same.3 ∙ c.loop-line.invariant.same.3, taken.same.4 ∙ c.loop-line.invariant.same.4, taken.same.5 ∙ c.loop-line.invariant.same.5, taken.same.6 ∙ c.loop-line.invariant.same.6); sofar = rw (c.holds_line.ensures.same ∙ c.is_due.ensures) (sofar_taken _ _ _ _ _ _ _ _ _ _ _ _ _ _ _ _ c.requires.open.room (c.requires.none, c.requires.open.fits.clear c.requires.none) all _ _ _ _ _ refl refl refl taken.takes.0 taken.none taken.first taken.next) }

pub returns-in_err-take_piece-clause-ended : goal.returns-in_err-take_piece-clause-ended
returns-in_err-take_piece-clause-ended g c =
    let e = rw c.in-Ok-Some.field-0-is at c.in-Ok-Some.ensures in
    let added = c.in-Ok.ensures in
    let full = ap (λ (l : List ℕ). fills_window (c.loop-line.window.lines + 1) (c.loop-line.window.bytes + length l)) (sym c.as_slice.ensures) ∙ sym c.if-full.ensures.full in
    let all = sofar_added _ _ _ _ _ _ _ _ _ _ _ _ _ _ _ _ c.requires.open.room (c.requires.none, c.requires.open.fits.clear c.requires.none) c.loop-line.invariant.sofar _ _ _ e.gives.1 c.in-Ok-Some.line e.counts e.gives.2 added.lines.0 added.lines.1 _ added.next _ _ _ _ added.first added.lines.2 full c.if-full.ensures.lines (c.if-full.ensures.bytes ∙ ap (λ (l : List ℕ). c.loop-line.window.bytes + length l) c.as_slice.ensures) in
    ends_as _ c.from_residual-in_err-take_piece.result _ c.from_residual-in_err-take_piece.ensures.1
    (ran_broken _ _ _ _ _ _ _ _ _ _ _ _ _ _ _ _ c.requires.open.room (c.requires.none, c.requires.open.fits.clear c.requires.none) all _ _ _ c.in_err-take_piece.field-0.0 refl refl c.in_err-take_piece.ensures.takes)

-- the line waits for those that are there already
pub loop-line-smaller : goal.loop-line-smaller
loop-line-smaller g c =
    let e = rw c.in-Ok-Some.field-0-is at c.in-Ok-Some.ensures in
    rw c.is_due.ensures (line_smaller _ _ c.loop-line.lines _ e.gives.0 c.in-Ok-Some.line e.gives.1 e.gives.2)

pub loop-line-preserved : goal.loop-line-preserved
loop-line-preserved g c =
    let e = rw c.in-Ok-Some.field-0-is at c.in-Ok-Some.ensures in
    let added = c.in-Ok.ensures in
    let full = ap (λ (l : List ℕ). fills_window (c.loop-line.window.lines + 1) (c.loop-line.window.bytes + length l)) (sym c.as_slice.ensures) ∙ sym c.if-full.ensures.full in
    let all = sofar_added _ _ _ _ _ _ _ _ _ _ _ _ _ _ _ _ c.requires.open.room (c.requires.none, c.requires.open.fits.clear c.requires.none) c.loop-line.invariant.sofar _ _ _ e.gives.1 c.in-Ok-Some.line e.counts e.gives.2 added.lines.0 added.lines.1 _ added.next _ _ _ _ added.first added.lines.2 full c.if-full.ensures.lines (c.if-full.ensures.bytes ∙ ap (λ (l : List ℕ). c.loop-line.window.bytes + length l) c.as_slice.ensures) in
    record { ready = c.loop-line.invariant.ready; fresh = c.loop-line.invariant.fresh; same = c.loop-line.invariant.same; sofar = rw c.is_due.ensures all }
