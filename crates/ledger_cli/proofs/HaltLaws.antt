-- Lemmas on what is left, and what was written, where a run by lanes was done or stopped.
use Rattle.std.proofs.Common.{◌≡◌, ℕ, ◌^◌, ◌<◌, Bool, List, [], ◌∷◌, ◌++◌, length, map, slice_get, Some, refl, ap, sym, subst, ◌∙◌, append_assoc, append-nil}
use Rattle.std.proofs.lemmas.Option.{slice_get_within, get_or_from_slice_get}
use Rattle.journal_record.specs.Entry.{Entry}
use Rattle.journal_record.specs.Header.{HasWidths}
use Rattle.time_peg.specs.Entries.{NotaryState, IsList}
use Rattle.batch_committer.specs.World.{CommitterState, World, Holds, HasRoom, stored_part, Goes, EndsOnTheWay, LeftAtTheEnd, Writes}
use Rattle.batch_committer.specs.Opened.{IsQuietFor}
use Rattle.batch_committer.specs.declared.failure.CommitErr.{CommitErr}
use Rattle.batch_committer.proofs.Grouped.{stored_split, stored_whole}
use Rattle.batch_committer.proofs.Opening.{held_quiet, held_lawful}
use Rattle.batch_committer.proofs.WayLaws.{begins_not}
use Rattle.ledger_io.specs.Runs.{SomeAnswer}
use Rattle.ledger_model.specs.Dues.{dues, all_dues, due_lines, due_replies, AllIn}
use Rattle.ledger_model.specs.Growing.{Grows}
use Rattle.ledger_model.specs.History.{History, history, id, journals, journals_of, close, point}
use Rattle.ledger_model.specs.Lawful.{IsLawful}
use Rattle.ledger_model.specs.Merge.{said_by, IsMerge}
use Rattle.ledger_model.specs.Pegs.{PeggedFrom, Pegged}
use Rattle.ledger_model.specs.Rules.{job_of, judged_at, after_job, after_step, after}
use Rattle.ledger_model.specs.Scheme.{Scheme}
use Rattle.ledger_model.specs.Step.{Step}
use Rattle.ledger_model.specs.Texts.{text}
use Rattle.ledger_model.specs.Took.{TookAll}
use Rattle.ledger_model.specs.Windows.{Said, said_lines, windows}
use Rattle.ledger_model.specs.declared.job.Job.{Job}
use Rattle.ledger_model.specs.declared.job.Job.TheVariants.{Anchor}
use Rattle.ledger_model.proofs.CountLaws.{script_counted}
use Rattle.ledger_model.proofs.FitLaws.{run_fits, underway_fits}
use Rattle.ledger_model.proofs.DueLaws.{grows_steps, text-append}
use Rattle.ledger_model.proofs.GrowLaws.{close_settled, grows_after, grows_close, grows_not, grows_then}
use Rattle.ledger_model.proofs.KeepLaws.{run_lawful}
use Rattle.ledger_model.proofs.PegLaws.{from_windows, pegged_windows}
use Rattle.ledger_model.proofs.RunLaws.{run_lines}
use Rattle.ledger_model.proofs.WaitLaws.{begins_closed}
use Rattle.ledger_model.proofs.WrittenLaws.{heads_kept_in, receipt_kept_in}
use Rattle.ledger_open.proofs.WidthLaws.{standing_wide}
use Rattle.proof_maker.specs.Written.{HasWideTimes}
use Rattle.proof_maker.proofs.WrittenLaws.{good_windows}
use Rattle.script_lines.specs.Receipts.{AllFit}
use Rattle.ledger_cli.specs.Runs.{AllStand, AnswersOn, StopsOn}
use Rattle.ledger_cli.specs.Taken.{AllUnasked, taken, TookSome}
use Rattle.ledger_cli.proofs.CountedLaws.{counted_all}
use Rattle.ledger_cli.proofs.CarryLaws.{quiet_clean}
use Rattle.ledger_cli.proofs.HeadLaws.{heads_lead_on}
use Rattle.ledger_cli.proofs.LineLaws.{reached, owed, reach_on, owe_on, window_on, dues_on, after-append, after_none, with_end, Counted}
use Rattle.ledger_cli.proofs.MergeLaws.{merge_numbered, unasked}
use Rattle.ledger_cli.proofs.NotaryLaws.{TookOn, took_window, took_end, taken_all}
use Rattle.ledger_cli.proofs.OrderLaws.{CanGoOn, begun_goes, begun_behind, parts_of, last_after, last_owed}
use Rattle.ledger_cli.proofs.PegLaws.{pegged_some, some_journal}
use Rattle.ledger_cli.proofs.StopLaws.{CleanBy, SaidOf, said_of, stop_stands}

-- nothing is due, and no block is gathered for the disk
abbrev pub IsClear : CommitterState → Type 0
IsClear k = (k.dues ≡ []) × (k.ended ≡ 0)

-- ---- a call stopped a run behind the steps that were taken

-- Lines behind them weren't taken, and the call was on the way to some history: the open block may end behind the taken steps, and
-- the lines behind these go on from that history.
pub record Halts (scheme : Scheme) (tells : Bool) (w : World) (n : NotaryState) (done : List (List Step)) (current : List Step) (rest : List Said) (end : CommitErr) (t : World) : Type 0 where
  pub behind : List Step
  pub later : List Said
  pub split : map said_by behind ++ later ≡ rest
  pub unasked : AllUnasked n behind
  pub next : History → History
  pub ended : EndsOnTheWay tells w next (owed scheme done current) end t
  pub closes : (h : History) → Holds tells w h → Grows (next h) (close (reached scheme done current h))
  pub on : (h : History) → Holds tells w h → Grows (next h) (reached scheme done (current ++ behind) h)

-- right there
pub halts_there : (scheme : Scheme) (tells : Bool) (w : World) (n : NotaryState) (done : List (List Step)) (current : List Step) (rest : List Said) (end : CommitErr) (t : World) → EndsOnTheWay tells w (reached scheme done current) (owed scheme done current) end t → Halts scheme tells w n done current rest end t
halts_there scheme tells w n done current rest end t e = record {
  behind = [];
  later = rest;
  split = refl;
  unasked = tt;
  next = reached scheme done current;
  ended = e;
  closes = λ h p. grows_close (reached scheme done current h);
  on = λ h p. subst (λ (l : List Step). Grows (reached scheme done current h) (reached scheme done l h)) (sym (append-nil current)) (grows_not (reached scheme done current h));
}

-- .. or at an anchor, before the notary was asked
grows_anchor : (scheme : Scheme) (k : History) (step : Step) → job_of scheme (id k) step.line ≡ Anchor → Grows (close k) (after_step scheme k step)
unfolding after_step
grows_anchor scheme k step is = subst (λ (job : Job). Grows (judged_at k job) (after_job k step (job_of scheme (id k) step.line))) is (grows_after k step (job_of scheme (id k) step.line))

pub halts_at : (scheme : Scheme) (tells : Bool) (w : World) (n : NotaryState) (done : List (List Step)) (current : List Step) (x : Said) (later : List Said) (end : CommitErr) (t : World)
    → ((h : History) → Holds tells w h → job_of scheme (id (reached scheme done current h)) x.line ≡ Anchor)
    → EndsOnTheWay tells w (λ h. close (reached scheme done current h)) (owed scheme done current) end t → Halts scheme tells w n done current (x ∷ later) end t
halts_at scheme tells w n done current x later end t anchor e = record {
  behind = unasked n x ∷ [];
  later = later;
  split = refl;
  unasked = ((refl, refl, refl), tt);
  next = λ h. close (reached scheme done current h);
  ended = e;
  closes = λ h p. grows_not (close (reached scheme done current h));
  on = λ h p. subst (Grows (close (reached scheme done current h))) (reach_on scheme h done current (unasked n x ∷ [])) (grows_anchor scheme (reached scheme done current h) (unasked n x) (anchor h p));
}

-- what stands after the steps that were taken, where they end their window
module _ (scheme : Scheme) (h : History) (done : List (List Step)) (current : List Step) where
  abbrev taken_after : History
  taken_after = after scheme h (taken done current)

  closes_so : close (reached scheme done current h) ≡ taken_after
  closes_so = window_on scheme h done current

  owes_so : owed scheme done current h ≡ all_dues scheme h (taken done current)
  owes_so = dues_on scheme h done current ∙ append-nil (all_dues scheme h (taken done current))

  lines_so : due_lines taken_after (owed scheme done current h) ≡ text scheme h (taken done current)
  lines_so = ap (due_lines taken_after) owes_so ∙ run_lines scheme h taken_after (taken done current) (grows_not taken_after)

-- the headers of the history that is held have their widths
wide_held : (tells : Bool) (w : World) (h : History) → Holds tells w h → h.waiting ≡ [] → w.kept.ended ≡ 0 → HasWideTimes h
wide_held tells w h p none stored = λ j e there time.
    let part = history p.keeps.group.stored [] in
    let js = journals part in
    let at : slice_get js j ≡ Some e = ap (λ (g : History). slice_get (journals g) j) (sym (stored_split w.kept h p.keeps.group) ∙ stored_whole w.kept h stored none) ∙ there in
    subst (λ (x : Entry). HasWidths x.header) (get_or_from_slice_get js j e e at) (standing_wide _ _ _ part p.disks.erased j e (slice_get_within js j e at))

module _ (scheme : Scheme) (tells : Bool) (w : World) (h : History) (p : Holds tells w h) (room : HasRoom w.kept) (none : h.waiting ≡ []) (no_dues : w.kept.dues ≡ []) (no_group : w.kept.ended ≡ 0) (first : NotaryState) (list : IsList first.entries) where
  lawful : IsLawful h
  lawful = held_lawful tells w h p room

  wide : HasWideTimes h
  wide = wide_held tells w h p none no_group

  -- all of it is stored
  stored : stored_part w.kept h ≡ h
  stored = stored_whole w.kept h no_group none

  module _ (script : List (List ℕ)) (few : length script < 2 ^ 64) (done : List (List Step)) (current : List Step) (n : NotaryState) where
    -- a call stopped the run within the script: what was written begins the text of a merge of each script that goes on from there, and
    -- that of the steps that were taken
    module _ (rest : List Said) (end : CommitErr) (t : World) (x : Halts scheme tells w n done current rest end t) (can : CanGoOn n script done (current ++ x.behind)) (took : TookOn scheme h first done current n) where
      abbrev now_last : History
      now_last = taken_after scheme h done current

      counted : Counted done current
      counted = parts_of scheme h first n script done current x.behind can few list took

      took_all : TookAll scheme h first (taken done current) n
      took_all = took_window scheme h first done current n took

      stops_so : LeftAtTheEnd h (x.next h) (owed scheme done current h) end x.ended.part t.disks
      stops_so =
          subst (λ (k : History). LeftAtTheEnd k (x.next h) (owed scheme done current h) end x.ended.part t.disks) stored
          (subst (λ l. LeftAtTheEnd (stored_part w.kept h) (x.next h) (l ++ owed scheme done current h) end x.ended.part t.disks) no_dues (x.ended.stops h p))

      closes_now : Grows (x.next h) now_last
      closes_now = subst (Grows (x.next h)) (closes_so scheme h done current) (x.closes h p)

      settled_now : now_last.waiting ≡ []
      settled_now = after_none scheme h (taken done current) none

      written_now : SaidOf end x.ended.part (text scheme h (taken done current))
      written_now =
          said_of end now_last x.ended.part (text scheme h (taken done current)) stops_so.done stops_so.rest (stops_so.said now_last closes_now settled_now)
          (ap (due_lines now_last) (sym stops_so.split) ∙ lines_so scheme h done current)

      fits_in : (f : History) → Grows (reached scheme done current h) f → IsLawful f → AllFit (due_replies f (owed scheme done current h))
      fits_in f grows all_lawful = underway_fits scheme h f done current counted.windows_are counted.steps_are lawful all_lawful grows

      images_now : AllStand h now_last first n x.ended.part (CleanBy end h x.ended.part) t.disks
      images_now =
          let now_lawful = run_lawful scheme h (taken done current) lawful in
          stop_stands h (x.next h) now_last (owed scheme done current h) end x.ended.part t.disks first n stops_so closes_now settled_now
          (fits_in now_last (subst (Grows (reached scheme done current h)) (closes_so scheme h done current) (grows_close (reached scheme done current h))) now_lawful) none
          (from_windows scheme h first n (taken done current) (some_journal h lawful) took_all)

      pub stopped : (tail : List (List ℕ)) → SomeAnswer (StopsOn scheme h x.ended.part t.disks first n (CleanBy end h x.ended.part) (SaidOf end x.ended.part)) (script ++ tail) (SaidOf end x.ended.part)
      stopped tail =
          let g = can tail in
          let steps = g.all in
          let f = after scheme h steps in
          let settled = after_none scheme h steps none in
          let both = current ++ x.behind in
          let c = begun_goes scheme h n steps done both g.begun in
          let b = begun_behind n steps done current x.behind g.begun x.unasked in
          let all_took : TookSome scheme h first steps n = record { done = done; now = current; rest = b.rest; split = b.split; first = b.first; took = took_all } in
          let all_lawful = run_lawful scheme h steps lawful in
          let here = reached scheme done current h in
          let s = stops_so in
          let grows = grows_then (x.next h) (reached scheme done both h) f (x.on h p) c.grows in
          let more = dues scheme here x.behind ++ c.rest in
          let owes : all_dues scheme h steps ≡ owed scheme done current h ++ more =
          c.owes ∙ ap (λ l. l ++ c.rest) (sym (owe_on scheme h done current x.behind)) ∙ append_assoc (owed scheme done current h) (dues scheme here x.behind) c.rest in
          let all : due_lines f (s.done ++ (s.rest ++ more)) ≡ text scheme h steps =
          ap (due_lines f) (sym (append_assoc s.done s.rest more) ∙ ap (λ l. l ++ more) (sym s.split) ∙ sym owes)
          ∙ run_lines scheme h f steps (grows_not f) in
          let goes_on = grows_then here (reached scheme done both h) f (subst (Grows here) (reach_on scheme h done current x.behind) (grows_steps scheme here x.behind)) c.grows in (
            text scheme h steps,
            record {
              steps = steps;
              merge = g.merge;
              took = all_took;
              text_is = refl;
              written = written_now;
              images = stop_stands h (x.next h) f (owed scheme done current h) end x.ended.part t.disks first n s grows settled (fits_in f goes_on all_lawful) none
                  (pegged_some scheme h first n steps (some_journal h lawful) all_took);
              proofs = good_windows scheme h first n (taken done current) lawful wide took_all;
              heads = heads_lead_on scheme h first n (taken done current) lawful list took_all;
              images_taken = images_now;
            },
            said_of end f x.ended.part (text scheme h steps) s.done (s.rest ++ more) (s.said f grows settled) all,
          )

    -- the script has ended: a merge of all windows
    module _ (merge : IsMerge (windows (said_lines script)) (with_end done current)) (took : TookOn scheme h first done current n) where
      abbrev steps : List (List Step)
      steps = with_end done current

      -- the history after the script, and what is due in all
      abbrev last : History
      last = after scheme h steps

      last_is : close (reached scheme done current h) ≡ last
      last_is = last_after scheme h done current none

      fits_last : AllFit (due_replies last (owed scheme done current h))
      fits_last =
          subst (λ d. AllFit (due_replies last d)) (sym (last_owed scheme h done current))
          (run_fits scheme h last steps (counted_all scheme h first n steps list (merge_numbered (windows (said_lines script)) steps merge (script_counted script few)) (took_end scheme h first done current n took)) lawful (run_lawful scheme h steps lawful) (grows_not last))

      -- each time journal has its entry
      from_last : Pegged h first.entries → PeggedFrom (point h) last n.entries
      from_last = from_windows scheme h first n steps (some_journal h lawful) (took_end scheme h first done current n took)

      pegged_last : Pegged h first.entries → Pegged last n.entries
      pegged_last = pegged_windows scheme h first n steps (some_journal h lawful) (took_end scheme h first done current n took)

      text_last : due_lines last (owed scheme done current h) ≡ text scheme h steps
      text_last = ap (due_lines last) (last_owed scheme h done current) ∙ run_lines scheme h last steps (grows_not last)

      -- where all was taken, the text and the history are those of the steps
      whole_text : text scheme h (taken steps []) ≡ text scheme h steps
      whole_text = text-append scheme h steps ([] ∷ []) ∙ append-nil (text scheme h steps)

      whole_after : after scheme h (taken steps []) ≡ last
      whole_after = after-append scheme h steps ([] ∷ []) ∙ sym (close_settled last (after_none scheme h steps none))

      -- .. or where the script ended
      pub stopped_last : (end : CommitErr) (t : World) (e : EndsOnTheWay tells w (λ k. close (reached scheme done current k)) (λ k. owed scheme done current k ++ []) end t) → SomeAnswer (StopsOn scheme h e.part t.disks first n (CleanBy end h e.part) (SaidOf end e.part)) script (SaidOf end e.part)
      stopped_last end t e =
          let settled = after_none scheme h steps none in
          let due : w.kept.dues ++ (owed scheme done current h ++ []) ≡ owed scheme done current h = ap (λ l. l ++ (owed scheme done current h ++ [])) no_dues ∙ append-nil (owed scheme done current h) in
          let s =
          subst (λ (k : History). LeftAtTheEnd k (close (reached scheme done current h)) (owed scheme done current h) end e.part t.disks) stored
          (subst (λ l. LeftAtTheEnd (stored_part w.kept h) (close (reached scheme done current h)) l end e.part t.disks) due (e.stops h p)) in
          let g : Grows (close (reached scheme done current h)) last = subst (Grows (close (reached scheme done current h))) last_is (grows_not (close (reached scheme done current h))) in
          let all : due_lines last (s.done ++ s.rest) ≡ text scheme h steps = ap (due_lines last) (sym s.split) ∙ text_last in
          let said : SaidOf end e.part (text scheme h steps) = said_of end last e.part (text scheme h steps) s.done s.rest (s.said last g settled) all in
          let stand : AllStand h last first n e.part (CleanBy end h e.part) t.disks =
          stop_stands h (close (reached scheme done current h)) last (owed scheme done current h) end e.part t.disks first n s g settled fits_last none from_last in (
            text scheme h steps,
            record {
              steps = steps;
              merge = merge;
              took = record { done = steps; now = []; rest = []; split = sym (append-nil steps); first = refl; took = taken_all scheme h first steps n (took_end scheme h first done current n took) };
              text_is = refl;
              written = subst (SaidOf end e.part) (sym whole_text) said;
              images = stand;
              proofs = good_windows scheme h first n (taken steps []) lawful wide (taken_all scheme h first steps n (took_end scheme h first done current n took));
              heads = heads_lead_on scheme h first n (taken steps []) lawful list (taken_all scheme h first steps n (took_end scheme h first done current n took));
              images_taken = subst (λ (k : History). AllStand h k first n e.part (CleanBy end h e.part) t.disks) (sym whole_after) stand;
            },
            said,
          )

      -- the script was run to its end
      module _ (t : World) (x : Goes tells w (λ k. close (reached scheme done current k)) (λ k. owed scheme done current k ++ []) t) (no_more : t.kept.dues ≡ []) (all_stored : t.kept.ended ≡ 0) where
        last_whole : stored_part t.kept last ≡ last
        last_whole = stored_whole t.kept last all_stored (after_none scheme h steps none)

        quiet : IsQuietFor t.disks last
        quiet = subst (IsQuietFor t.disks) last_whole (held_quiet tells t last (subst (Holds tells t) last_is (x.holds h p)))

        abbrev written : Writes last last w.kept.dues (owed scheme done current h ++ []) t.kept.dues x.sofar
        written =
            subst (λ (k : History). Writes last k w.kept.dues (owed scheme done current h ++ []) t.kept.dues x.sofar) last_whole
            (subst (λ (k : History). Writes k (stored_part t.kept k) w.kept.dues (owed scheme done current h ++ []) t.kept.dues x.sofar) last_is (x.writes h p))

        all_done : written.done ≡ owed scheme done current h
        all_done =
            let due : owed scheme done current h ++ [] ≡ written.done ++ t.kept.dues = ap (λ l. l ++ (owed scheme done current h ++ [])) (sym no_dues) ∙ written.split in
            sym (append-nil written.done) ∙ ap (λ l. written.done ++ l) (sym no_more) ∙ sym due ∙ append-nil (owed scheme done current h)

        said_is : x.sofar ≡ due_lines last (owed scheme done current h)
        said_is = written.text last (grows_not last) (after_none scheme h steps none) ∙ ap (due_lines last) all_done

        pub answered : (IsAfter : History → Type 0) → IsAfter (close (reached scheme done current h)) → AnswersOn scheme h IsAfter t.disks first n script x.sofar
        answered IsAfter so = record {
          answers = record {
            steps = steps;
            merge = merge;
            took = took_end scheme h first done current n took;
            replies_are = said_is ∙ text_last;
            proofs = good_windows scheme h first n steps lawful wide (took_end scheme h first done current n took);
            heads = heads_lead_on scheme h first n steps lawful list (took_end scheme h first done current n took);
          };
          clean = quiet.clean;
          quiet = record { a = quiet.a; b = quiet.b };
          images = λ i j l r. record {
            kept = last;
            stands = quiet.images i j l r;
            no_shorter = begins_closed h last (subst (Grows h) last_is (x.grows h p));
            no_longer = begins_not last.closed;
            receipts = λ jsn leaf. receipt_kept_in last last.closed (owed scheme done current h) x.sofar [] jsn leaf (append-nil x.sofar ∙ said_is) fits_last (subst (AllIn last.closed) all_done written.kept);
            heads = heads_kept_in last last.closed (owed scheme done current h) x.sofar [] (after_none scheme h steps none) (begins_not last.closed) (append-nil x.sofar ∙ said_is) (subst (AllIn last.closed) all_done written.kept);
            pegs = pegged_last;
            clean = quiet_clean t.disks last quiet i j l r;
          };
          so = subst IsAfter last_is so;
        }
