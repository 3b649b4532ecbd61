use Rattle.std.proofs.Common.{◌≡◌, ℕ, List, ap, subst, arith, refl, ◌∙◌}
use Rattle.std.specs.Prelude.{All, slice_index}
use Rattle.lane_work.specs.declared.kinds.LaneLine.{LaneLine}
use Rattle.lane_work.proofs.Ordering.{all_low, alone_all, alone_some, alone_fits, on_ok_of, on_err_of, none_offered, on_err, ran_all}
use Rattle.lane_work.proofs.lanes.run_lanes.Goals as goal

pub returns-in_err-intake-clause-err : goal.returns-in_err-intake-clause-err
returns-in_err-intake-clause-err g c = on_err c.from_residual.result (none_offered _ _ _ _ _ refl)

pub returns-in_err-hands-clause-err : goal.returns-in_err-hands-clause-err
returns-in_err-hands-clause-err g c = on_err c.from_residual-in_err-hands.result (none_offered _ _ _ _ _ refl)

pub returns-in_err-done-clause-err : goal.returns-in_err-done-clause-err
returns-in_err-done-clause-err g c = on_err c.from_residual-in_err-done.result (none_offered _ _ _ _ _ refl)

pub returns-in-Going : goal.returns-in-Going
returns-in-Going g c = record {
  ok =
      ran_all _ c.run_and_close.result c.args.first.now c.args.window.items c.args.taker.now c.run_and_close.new.taker c.in-Going.is
      (c.run_and_close.ensures c.args.first.now c.args.window.items c.in_ok-intake.ensures.window (c.len-count.ensures ∙ c.args.window.ok.0));
  err = tt;
}

pub divide_window-requires-clause-low : goal.divide_window-requires-clause-low
divide_window-requires-clause-low g c = all_low c.args.window.items

-- lines of one lane

pub bounds-first-from : goal.bounds-first-from
bounds-first-from g c = let low = c.in-Some.ensures.low in let is = c.from.ensures in omega (arith, low, is)

pub run_alone-requires-clause-numbers : goal.run_alone-requires-clause-numbers
run_alone-requires-clause-numbers g c κs within =
    let all = subst (λ (ls : List LaneLine). All (λ l. l.lane ≡ c.in-Some.lane) ls) c.as_slice.ensures.value c.in-Some.ensures.all in
    let fits = alone_fits c.in-Some.lane c.args.first.now c.args.window.items all c.in-Some.ensures.low c.requires.numbers in
    let is = ap (λ (k : ℕ). slice_index c.args.first.now k) c.from.ensures in
    let long = c.args.window.ok.0 in omega (arith, fits, is, long)

pub returns-in-Some-clause-ok : goal.returns-in-Some-clause-ok
returns-in-Some-clause-ok g c =
    let all = subst (λ (ls : List LaneLine). All (λ l. l.lane ≡ c.in-Some.lane) ls) c.as_slice.ensures.value c.in-Some.ensures.all in
    on_ok_of c.run_alone.result (alone_all _ c.in-Some.lane _ c.args.first.now c.args.window.items _ _ all (ap (λ (k : ℕ). slice_index c.args.first.now k) c.from.ensures)) c.run_alone.ensures.ok

pub returns-in-Some-clause-err : goal.returns-in-Some-clause-err
returns-in-Some-clause-err g c =
    let all = subst (λ (ls : List LaneLine). All (λ l. l.lane ≡ c.in-Some.lane) ls) c.as_slice.ensures.value c.in-Some.ensures.all in
    on_err_of c.run_alone.result (alone_some _ c.in-Some.lane _ c.args.first.now c.args.window.items _ _ all (ap (λ (k : ℕ). slice_index c.args.first.now k) c.from.ensures)) c.run_alone.ensures.err
