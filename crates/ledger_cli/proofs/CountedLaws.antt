-- The numbers of steps in which a notary with a lawful list took part are as programs have them.
use Rattle.std.specs.Int.{w64, to_be_bytes, from_be_bytes}
use Rattle.std.specs.Prelude.{◌||◌}
use Rattle.std.proofs.Common.{Option, ◌≡◌, ℕ, ◌^◌, ◌<◌, Bool, true, false, cond, List, [], ◌∷◌, ◌++◌, inl, inr, length, drop, None, refl, ap, sym, subst, ◌∙◌, arith}
use Rattle.std.proofs.lemmas.List.{take_at, drop_at}
use Rattle.std.proofs.lemmas.Nat.{from_be_bytes-to_be_bytes_8}
use Rattle.script_lines.specs.Receipts.{FitsWord, StampFits}
use Rattle.time_peg.specs.Entries.{Making, NotaryState, IsList, entry_of, time_in}
use Rattle.ledger_model.specs.Anchors.{peg_at, is_full_list, stamp_from, stamp_of}
use Rattle.ledger_model.specs.Dues.{IsCounted, AllCounted, EachCounted}
use Rattle.ledger_model.specs.History.{History, id, size}
use Rattle.ledger_model.specs.Notary.{asks, Changes, Attends}
use Rattle.ledger_model.specs.Rules.{job_of, judged_at, after_step, after_window, after}
use Rattle.ledger_model.specs.Scheme.{Scheme}
use Rattle.ledger_model.specs.Step.{Step}
use Rattle.ledger_model.specs.Texts.{told_stamp}
use Rattle.ledger_model.specs.Took.{Took, TookAll, notary_after}
use Rattle.ledger_cli.proofs.LineLaws.{Counted}
use Rattle.ledger_cli.proofs.MergeLaws.{AllNumbered, EachNumbered}
use Rattle.ledger_cli.proofs.NotaryLaws.{TookOn}

-- a step in which it took part keeps a lawful list, and its numbers fit
record IsTold (step : Step) : Type 0 where
  counted : FitsWord step.lane × FitsWord step.index → IsCounted step
  list : IsList step.after

-- ---- what a stamp tells

drop_own : (es : List (List ℕ)) → drop (length es) es ≡ []
drop_own [] = refl
drop_own (e ∷ es) = drop_own es

time_is : (time : ℕ) (peg salt : List ℕ) → time < 2 ^ 64 → time_in (entry_of time peg salt) ≡ time
unfolding time_in
time_is time peg salt fits = ap (from_be_bytes w64) (take_at (to_be_bytes w64 time) (peg ++ salt) 8 refl) ∙ from_be_bytes-to_be_bytes_8 time fits

none_fits : (b : Bool) (index : ℕ) → StampFits (told_stamp (cond b None (stamp_from index [])))
none_fits true index = tt
none_fits false index = tt

one_fits : (b : Bool) (index : ℕ) (e : List ℕ) → FitsWord index → FitsWord (time_in e) → StampFits (told_stamp (cond b None (stamp_from index (e ∷ []))))
one_fits true index e i t = tt
one_fits false index e i t = (i, t)

pub change_list : (making : Option Making) (asked failed : Bool) (peg : List ℕ) (before after : List (List ℕ)) → IsList before → Changes asked failed making peg before after → IsList after
change_list making false failed peg before after list c = subst IsList (sym c) list
change_list making true false peg before after list c = c.1
change_list making true true peg before after list (inl same) = subst IsList (sym same) list
change_list making true true peg before after list (inr more) = more.1

change_fits : (making : Option Making) (asked failed : Bool) (peg : List ℕ) (before after : List (List ℕ)) → IsList before → Changes asked failed making peg before after
    → StampFits (told_stamp (cond (failed || is_full_list before) None (stamp_from (length before) (drop (length before) after))))
change_fits making false failed peg before after list c =
    subst (λ (es : List (List ℕ)). StampFits (told_stamp (cond (failed || is_full_list before) None (stamp_from (length before) es)))) (sym (ap (drop (length before)) c ∙ drop_own before))
    (none_fits (failed || is_full_list before) (length before))
change_fits making true true peg before after list c = tt
change_fits making true false peg before after list c =
    let o = c.0 in
    let e = entry_of o.0 peg o.1 in
    subst (λ (es : List (List ℕ)). StampFits (told_stamp (cond (is_full_list before) None (stamp_from (length before) es)))) (sym (ap (drop (length before)) o.3 ∙ drop_at before (e ∷ []) (length before) refl))
    (one_fits (is_full_list before) (length before) e (let few = list.few in omega (arith, few)) (subst FitsWord (sym (time_is o.0 peg o.1 o.2)) o.2))

attends_told : (scheme : Scheme) (h : History) (making : Option Making) (step : Step) → IsList step.before → Attends scheme h making step → IsTold step
unfolding stamp_of
attends_told scheme h making step list a =
    let job = job_of scheme (id h) step.line in
    let g = judged_at h job in
    let now = change_list making (asks g step.before job) step.failed (peg_at g (size g)) step.before step.after list a.list in record {
      counted = λ f. record {
        lane = f.0;
        index = f.1;
        entries = (let few = now.few in omega (arith, few));
        stamp = change_fits making (asks g step.before job) step.failed (peg_at g (size g)) step.before step.after list a.list;
      };
      list = now;
    }

took_told : (scheme : Scheme) (h : History) (n m : NotaryState) (steps : List Step) → IsList n.entries → AllNumbered steps → Took scheme h n steps m → AllCounted steps × IsList m.entries
took_told scheme h n m [] list numbers t = (tt, subst (λ (x : NotaryState). IsList x.entries) (sym t) list)
took_told scheme h n m (step ∷ steps) list numbers t =
    let told = attends_told scheme h n.origin.making step (subst IsList (sym t.0) list) t.1 in
    let more = took_told scheme (after_step scheme h step) (notary_after n step) m steps told.list numbers.1 t.2 in
    ((told.counted numbers.0, more.0), more.1)

all_told : (scheme : Scheme) (h : History) (n m : NotaryState) (windows : List (List Step)) → IsList n.entries → EachNumbered windows → TookAll scheme h n windows m → EachCounted windows × IsList m.entries
all_told scheme h n m [] list numbers t = (tt, subst (λ (x : NotaryState). IsList x.entries) (sym t) list)
all_told scheme h n m (window ∷ windows) list numbers t =
    let first = took_told scheme h n t.0 window list numbers.0 t.1 in
    let more = all_told scheme (after_window scheme h window) t.0 m windows first.1 numbers.1 t.2 in
    ((first.0, more.0), more.1)

pub counted_all : (scheme : Scheme) (h : History) (n m : NotaryState) (windows : List (List Step)) → IsList n.entries → EachNumbered windows → TookAll scheme h n windows m → EachCounted windows
counted_all scheme h n m windows list numbers t = (all_told scheme h n m windows list numbers t).0

-- whole windows, and the first steps of the next one
pub counted_on : (scheme : Scheme) (h : History) (n m : NotaryState) (done : List (List Step)) (current : List Step) → IsList n.entries → EachNumbered done → AllNumbered current → TookOn scheme h n done current m → Counted done current
counted_on scheme h n m done current list numbers numbers_now t =
    let whole = all_told scheme h n t.between done list numbers t.whole in
    record { windows_are = whole.0; steps_are = (took_told scheme (after scheme h done) t.between m current whole.1 numbers_now t.steps).0 }
