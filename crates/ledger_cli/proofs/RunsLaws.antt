-- Lemmas on a session that takes its lines in pieces: how far it came, and how it ends.
use Rattle.std.proofs.Common.{◌≡◌, ◌≢◌, ℕ, ◌+◌, ◌^◌, ◌<◌, ◌≤◌, ◌==◌, inl, inr, Bool, true, false, cond, List, [], ◌∷◌, ◌++◌, length, map, filter, Option, None, Some, Err, refl, ap, sym, subst, ◌∙◌, arith, append_assoc, append-nil, length-append, eq-eqb, ne_eqb}
use Rattle.std.specs.Prelude.{if◌then◌else◌, slice_index}
use Rattle.std.proofs.lemmas.List.{map-append}
use Rattle.std.proofs.lemmas.List.Elements.{filter-append}
use Rattle.std.specs.Io.KnownBytes.{Consumes}
use mathlib.Core.Logic.{dite}
use native.Mathlib.Decide.{ℕ_discrete}
use Rattle.script_lines.specs.Grammar.{spoken_line}
use Rattle.time_peg.specs.Entries.{NotaryState}
use Rattle.batch_committer.specs.World.{Pair, World, HasRoom, Holds, Goes, EndsOnTheWay}
use Rattle.batch_committer.specs.declared.failure.CommitErr.{CommitErr}
use Rattle.batch_committer.specs.declared.failure.CommitErr.TheVariants as end
use Rattle.batch_committer.proofs.Ending.{no_memory}
use Rattle.batch_committer.proofs.WayLaws.{goes_same, goes_then, goes_as, ended_then, ended_as}
use Rattle.lane_work.specs.Making.{lines_of}
use Rattle.lane_work.specs.Orders.{numbered, IsOrderOf}
use Rattle.lane_work.specs.declared.kinds.LaneLine.{LaneLine}
use Rattle.ledger_io.specs.Outside.{SourceState}
use Rattle.ledger_io.specs.Reading.{Reading, ReadsBytes, GivesLine, GivesNone, Gives, faults_next}
use Rattle.ledger_io.specs.Runs.{EndsReading, SomeAnswer, ending_after}
use Rattle.ledger_io.specs.declared.ending.Ending.TheVariants as run
use Rattle.ledger_io.specs.declared.failure.LineErr.{LineErr}
use Rattle.ledger_io.specs.declared.failure.LineErr.TheVariants.{NoMemory}
use Rattle.ledger_io.proofs.ReadingLaws.{HasGiven, read_none, read_more, given_consumed}
use Rattle.ledger_io.proofs.RunLaws.{ended_whole, ended_failed, some_at_failure, some_of_given}
use Rattle.ledger_model.specs.Dues.{dues}
use Rattle.ledger_model.specs.History.{History, id, close}
use Rattle.ledger_model.specs.Merge.{said_by, lines_of_lane, IsMerge}
use Rattle.ledger_model.specs.Rules.{job_of, after_steps}
use Rattle.ledger_model.specs.Scheme.{Scheme}
use Rattle.ledger_model.specs.Step.{Step}
use Rattle.ledger_model.specs.Texts.{text}
use Rattle.ledger_model.specs.Took.{Took}
use Rattle.ledger_model.specs.Windows.{Said, said_lines, windows, numbered_line, count_of, line_bytes, fills_window}
use Rattle.ledger_model.specs.declared.job.Job.TheVariants.{Anchor}
use Rattle.ledger_model.proofs.GrowLaws.{close_none, grows_not}
use Rattle.ledger_model.proofs.LaneLaws.{said_after-append}
use Rattle.ledger_model.proofs.WindowLaws.{IsCut, cut_none, cut_more, cut_whole, line_bytes-push}
use Rattle.ledger_cli.specs.Endings.{ending_of_end}
use Rattle.ledger_cli.specs.Boards.{Posted, HasFollowed, IsFollowed, is_lacking}
use Rattle.ledger_cli.specs.Pieces.{At, world_at, FollowsAlong, EndsThere, EndsAtAnchor, EndsBehind, PieceTaken, PieceBroken, WindowTaken, WindowBroken}
use Rattle.ledger_cli.specs.Runs.{handed, StopsOn, Runs}
use Rattle.ledger_cli.specs.Taken.{taken}
use Rattle.ledger_cli.specs.declared.ending.LedgerEnding.TheVariants.{Run}
use Rattle.ledger_cli.specs.Leaving.{AreClean}
use Rattle.ledger_cli.specs.Failures.{FailsIn, FailsByLines}
use Rattle.ledger_cli.proofs.FailureLaws.{fails_none, fails_then, fails_wider, fails_read, given_few, given_more}
use Rattle.ledger_cli.proofs.HaltLaws.{IsClear, Halts, halts_there, halts_at, stopped, stopped_last, answered}
use Rattle.ledger_cli.proofs.LineLaws.{reached, owed, reach_on, owe_on, window_on, dues_on}
use Rattle.ledger_cli.proofs.MergeLaws.{IsOrder, order_append, order_merge, order_same, merges_append, count_more}
use Rattle.ledger_cli.proofs.NotaryLaws.{TookOn, took_none, took_on, window_took}
use Rattle.ledger_cli.proofs.OrderLaws.{CanGoOn, part_open, part_whole, last_merge}
use Rattle.ledger_cli.proofs.StopLaws.{CleanBy, SaidOf}
use Rattle.ledger_cli.proofs.SessionLaws.{few_lines, faults_end, faults_stop, reads_end, reads_stop, at_most_once, serve_stop, serve_end}

-- ---- the lines that wait to be taken

-- each lane's first and next numbers, the lines of a piece, and these lines as they are numbered in a script
pub record AreLate (first next : List ℕ) (piece : List LaneLine) (script : List (List ℕ)) (late : List Said) : Type 0 where
  pub order : IsOrderOf first piece late
  pub from : (k : ℕ) → k < 8 → slice_index next k ≡ slice_index first k + length (lines_of k piece)
  pub counts : (k : ℕ) → k < 8 → slice_index next k ≡ count_of k script + 1

numbered-push : (n : ℕ) (ls : List LaneLine) (l : LaneLine) → numbered n (ls ++ l ∷ []) ≡ numbered n ls ++ record { lane = l.lane; index = n + length ls; line = l.line } ∷ []
unfolding numbered
numbered-push n [] l = ap (λ (m : ℕ). record { lane = l.lane; index = m; line = l.line } ∷ []) (omega arith)
numbered-push n (m ∷ ls) l =
    let head : Said = record { lane = m.lane; index = n; line = m.line } in
    ap (λ (xs : List Said). head ∷ xs) (numbered-push (n + 1) ls l ∙ ap (λ (i : ℕ). numbered (n + 1) ls ++ record { lane = l.lane; index = i; line = l.line } ∷ []) (omega arith))

late_more : (first next new : List ℕ) (piece : List LaneLine) (script : List (List ℕ)) (late : List Said) (l : LaneLine) (line : List ℕ) → l.line ≡ line → AreLate first next piece script late
    → ((k : ℕ) → k < 8 → slice_index new k ≡ (if (spoken_line line).0 == k then slice_index next k + 1 else slice_index next k))
    → AreLate first new (piece ++ l ∷ []) (script ++ line ∷ []) (late ++ numbered_line (count_of (spoken_line line).0 script + 1) line ∷ [])
late_more first next new piece script late l line is a new_is =
    let lane : l.lane ≡ (spoken_line line).0 = l.is_lane ∙ ap (λ (x : List ℕ). (spoken_line x).0) is in
    let low : l.lane < 8 = (let small = l.low in omega (arith, small)) in
    let x : Said = numbered_line (count_of (spoken_line line).0 script + 1) line in
    let x_is : x ≡ record { lane = l.lane; index = slice_index first l.lane + length (lines_of l.lane piece); line = l.line } =
    λ i. record { lane = sym lane i; index = (ap (λ (k : ℕ). count_of k script + 1) (sym lane) ∙ sym (a.counts l.lane low) ∙ a.from l.lane low) i; line = sym is i } in
    let said_at : (k : ℕ) → lines_of_lane k (late ++ x ∷ []) ≡ lines_of_lane k late ++ cond (x.lane == k) (x ∷ []) [] = λ k. filter-append (λ (y : Said). y.lane == k) late (x ∷ []) in
    let lines_at : (k : ℕ) → lines_of k (piece ++ l ∷ []) ≡ lines_of k piece ++ cond (l.lane == k) (l ∷ []) [] = λ k. filter-append (λ (y : LaneLine). y.lane == k) piece (l ∷ []) in record {
      order = λ k. dite (ℕ_discrete l.lane k)
          (λ (e : l.lane ≡ k).
          said_at k ∙ ap (λ (b : Bool). lines_of_lane k late ++ cond b (x ∷ []) []) (eq-eqb x.lane k (sym lane ∙ e))
          ∙ ap (λ (ys : List Said). ys ++ x ∷ []) (a.order k)
          ∙ ap (λ (y : Said). numbered (slice_index first k) (lines_of k piece) ++ y ∷ []) x_is
          ∙ ap (λ (j : ℕ). numbered (slice_index first k) (lines_of k piece) ++ record { lane = l.lane; index = slice_index first j + length (lines_of j piece); line = l.line } ∷ []) e
          ∙ sym (numbered-push (slice_index first k) (lines_of k piece) l)
          ∙ sym (ap (numbered (slice_index first k)) (lines_at k ∙ ap (λ (b : Bool). lines_of k piece ++ cond b (l ∷ []) []) (eq-eqb l.lane k e))))
          (λ (e : l.lane ≢ k).
          said_at k ∙ ap (λ (b : Bool). lines_of_lane k late ++ cond b (x ∷ []) []) (ne_eqb x.lane k (λ q. e (lane ∙ q))) ∙ append-nil (lines_of_lane k late)
          ∙ a.order k
          ∙ sym (ap (numbered (slice_index first k)) (lines_at k ∙ ap (λ (b : Bool). lines_of k piece ++ cond b (l ∷ []) []) (ne_eqb l.lane k e) ∙ append-nil (lines_of k piece))));
      from = λ k less. dite (ℕ_discrete l.lane k)
          (λ (e : l.lane ≡ k).
          let n = new_is k less ∙ ap (λ (b : Bool). if b then slice_index next k + 1 else slice_index next k) (eq-eqb (spoken_line line).0 k (sym lane ∙ e)) in
          let m = ap length (lines_at k ∙ ap (λ (b : Bool). lines_of k piece ++ cond b (l ∷ []) []) (eq-eqb l.lane k e)) in
          let was = a.from k less in let len = length-append (lines_of k piece) (l ∷ []) in omega (arith, n, m, was, len))
          (λ (e : l.lane ≢ k).
          let n = new_is k less ∙ ap (λ (b : Bool). if b then slice_index next k + 1 else slice_index next k) (ne_eqb (spoken_line line).0 k (λ q. e (lane ∙ q))) in
          let m = ap length (lines_at k ∙ ap (λ (b : Bool). lines_of k piece ++ cond b (l ∷ []) []) (ne_eqb l.lane k e) ∙ append-nil (lines_of k piece)) in
          let was = a.from k less in omega (arith, n, m, was));
      counts = λ k less.
          new_is k less ∙ by k ((spoken_line line).0 == k) (a.counts k less) ∙ ap (λ (n : ℕ). n + 1) (sym (count_more k script line));
    }
  where
    by : (k : ℕ) (b : Bool) → slice_index next k ≡ count_of k script + 1 → (if b then slice_index next k + 1 else slice_index next k) ≡ cond b (count_of k script + 1) (count_of k script) + 1
    by k true e = ap (λ (n : ℕ). n + 1) e
    by k false e = e

late_none : (first next : List ℕ) (piece : List LaneLine) (script : List (List ℕ)) → piece ≡ [] → first ≡ next → ((k : ℕ) → k < 8 → slice_index next k ≡ count_of k script + 1) → AreLate first next piece script []
unfolding numbered
late_none first next piece script none same counts = record {
  order = λ k. sym (ap (λ (ls : List LaneLine). numbered (slice_index first k) (lines_of k ls)) none);
  from = λ k less. let e = ap (λ (l : List ℕ). slice_index l k) same in let n = ap (λ (ls : List LaneLine). length (lines_of k ls)) none in omega (arith, e, n);
  counts = counts;
}

-- an order in which they are taken
late_taken : (first next : List ℕ) (piece : List LaneLine) (script : List (List ℕ)) (late order : List Said) → AreLate first next piece script late → IsOrderOf first piece order → IsOrder late order
late_taken first next piece script late order a o k = o k ∙ sym (a.order k)

count_few : (j : ℕ) (ls : List (List ℕ)) → count_of j ls ≤ length ls
count_few j [] = omega arith
count_few j (l ∷ ls) =
    elim ((spoken_line l).0 == j) as (λ b. length (cond b (l ∷ filter (λ (x : List ℕ). (spoken_line x).0 == j) ls) (filter (λ (x : List ℕ). (spoken_line x).0 == j) ls)) ≤ length (l ∷ ls)) [
      | true ↦ (let r = count_few j ls in omega (arith, r))
      | false ↦ (let r = count_few j ls in omega (arith, r))
    ]

-- ---- how far a session came

-- These lines were given. Whole windows were taken, of the window at hand some lines, each in some order, and the others wait. The
-- notary took part in all steps so far.
pub record SoFar (scheme : Scheme) (tells : Bool) (first_w w : World) (first_n n : NotaryState) (first_b b : Option Posted) (before now : SourceState) (reading : Reading) (first next : List ℕ) (piece : List LaneLine) (lines bytes : ℕ) : Type 0 where
  pub script : List (List ℕ)
  pub input : HasGiven before now reading script
  pub windows_are : List (List Said)
  pub front : List Said
  pub cut : IsCut (said_lines script) windows_are front
  pub done : List (List Step)
  pub current : List Step
  pub late : List Said
  pub merge : IsMerge windows_are done
  pub order : IsOrder front (map said_by current ++ late)
  pub are_late : AreLate first next piece script late
  pub lines_are : lines ≡ length front
  pub bytes_are : bytes ≡ line_bytes front
  pub few : length piece ≤ lines
  pub goes : Goes tells first_w (reached scheme done current) (owed scheme done current) w
  pub took : (h : History) → Holds tells first_w h → TookOn scheme h first_n done current n
  -- the board, where there is one, follows where this came to
  pub follows : (number : ℕ) (h : History) → Holds tells first_w h → IsFollowed number h first_b → IsFollowed number (reached scheme done current h) b
  -- how many lines were taken, at each of which the notary failed once at most
  pub tried : ℕ
  pub tried_are : tried + length piece ≤ length script
  pub fails : FailsIn tried first_n n

pub sofar_begins : (scheme : Scheme) (tells : Bool) (w : World) (n : NotaryState) (b : Option Posted) (before : SourceState) (reading : Reading) (first next : List ℕ) (piece : List LaneLine) (lines bytes : ℕ)
    → reading ≡ record { held = []; total = 0; ended = false; failed = None } → piece ≡ [] → ((k : ℕ) → k < 8 → slice_index first k ≡ 1) → ((k : ℕ) → k < 8 → slice_index next k ≡ 1) → lines ≡ 0 → bytes ≡ 0
    → SoFar scheme tells w w n n b b before before reading first next piece lines bytes
unfolding numbered
sofar_begins scheme tells w n b before reading first next piece lines bytes is none f m lines_are bytes_are = record {
  script = [];
  input = read_none before reading is;
  windows_are = [];
  front = [];
  cut = cut_none;
  done = [];
  current = [];
  late = [];
  merge = tt;
  order = order_same [];
  are_late = record {
    order = λ k. sym (ap (λ (ls : List LaneLine). numbered (slice_index first k) (lines_of k ls)) none);
    from = λ k less. let a = f k less in let b = m k less in let e = ap (λ (ls : List LaneLine). length (lines_of k ls)) none in omega (arith, a, b, e);
    counts = m;
  };
  lines_are = lines_are;
  bytes_are = bytes_are;
  few = let e = ap length none in omega (arith, e);
  goes = goes_same tells w;
  took = λ h p. took_none scheme h n;
  follows = λ number h p f. f;
  tried = 0;
  tried_are = let e = ap length none in omega (arith, e);
  fails = fails_none n;
}

-- ---- lines that are taken, and ends

module _ (scheme : Scheme) (tells : Bool) (first_w w t : World) (done : List (List Step)) (current steps : List Step) (g : Goes tells first_w (reached scheme done current) (owed scheme done current) w) where
  go_on : Goes tells w (λ h. after_steps scheme h steps) (λ h. dues scheme h steps) t → Goes tells first_w (reached scheme done (current ++ steps)) (owed scheme done (current ++ steps)) t
  go_on x =
      goes_as tells first_w t (λ h. after_steps scheme (reached scheme done current h) steps) (reached scheme done (current ++ steps))
      (λ h. owed scheme done current h ++ dues scheme (reached scheme done current h) steps) (owed scheme done (current ++ steps))
      (λ h p. reach_on scheme h done current steps) (λ h p. owe_on scheme h done current steps)
      (goes_then tells first_w w t (reached scheme done current) (λ h. after_steps scheme h steps) (owed scheme done current) (λ h. dues scheme h steps) g x)

  -- .. or the run ended behind them
  module _ (n : NotaryState) (rest : List Said) (why : CommitErr) where
    break_there : EndsThere scheme tells steps why w t → Halts scheme tells first_w n done (current ++ steps) rest why t
    break_there x =
        halts_there scheme tells first_w n done (current ++ steps) rest why t
        (ended_as tells first_w t (λ h. after_steps scheme (reached scheme done current h) steps) (reached scheme done (current ++ steps))
        (λ h. owed scheme done current h ++ dues scheme (reached scheme done current h) steps) (owed scheme done (current ++ steps)) why
        (λ h p. reach_on scheme h done current steps) (λ h p. owe_on scheme h done current steps)
        (ended_then tells first_w w t (reached scheme done current) (λ h. after_steps scheme h steps) (owed scheme done current) (λ h. dues scheme h steps) why g x))

    break_at : EndsAtAnchor scheme tells steps rest why w t → Halts scheme tells first_w n done (current ++ steps) rest why t
    break_at x =
        subst (λ (l : List Said). Halts scheme tells first_w n done (current ++ steps) l why t) (sym x.split)
        (halts_at scheme tells first_w n done (current ++ steps) x.said x.later why t
        (λ h p. subst (λ (k : History). job_of scheme (id k) x.said.line ≡ Anchor) (reach_on scheme h done current steps) (x.anchor (reached scheme done current h) (g.holds h p)))
        (ended_as tells first_w t (λ h. close (after_steps scheme (reached scheme done current h) steps)) (λ h. close (reached scheme done (current ++ steps) h))
        (λ h. owed scheme done current h ++ dues scheme (reached scheme done current h) steps) (owed scheme done (current ++ steps)) why
        (λ h p. ap close (reach_on scheme h done current steps)) (λ h p. owe_on scheme h done current steps)
        (ended_then tells first_w w t (reached scheme done current) (λ h. close (after_steps scheme h steps)) (owed scheme done current) (λ h. dues scheme h steps) why g x.ended)))

    break_on : EndsBehind scheme tells steps rest why w t → Halts scheme tells first_w n done (current ++ steps) rest why t
    break_on (inl x) = break_there x
    break_on (inr x) = break_at x

  -- with the end of the window
  close_on : (h : History) → close (after_steps scheme (reached scheme done current h) steps) ≡ reached scheme (done ++ (current ++ steps) ∷ []) [] h
  close_on h = ap close (reach_on scheme h done current steps) ∙ window_on scheme h done (current ++ steps)

  due_on : (h : History) → owed scheme done current h ++ dues scheme (reached scheme done current h) steps ≡ owed scheme (done ++ (current ++ steps) ∷ []) [] h
  due_on h = owe_on scheme h done current steps ∙ dues_on scheme h done (current ++ steps)

  end_on : Goes tells w (λ h. close (after_steps scheme h steps)) (λ h. dues scheme h steps) t → Goes tells first_w (reached scheme (done ++ (current ++ steps) ∷ []) []) (owed scheme (done ++ (current ++ steps) ∷ []) []) t
  end_on x =
      goes_as tells first_w t (λ h. close (after_steps scheme (reached scheme done current h) steps)) (reached scheme (done ++ (current ++ steps) ∷ []) [])
      (λ h. owed scheme done current h ++ dues scheme (reached scheme done current h) steps) (owed scheme (done ++ (current ++ steps) ∷ []) [])
      (λ h p. close_on h) (λ h p. due_on h)
      (goes_then tells first_w w t (reached scheme done current) (λ h. close (after_steps scheme h steps)) (owed scheme done current) (λ h. dues scheme h steps) g x)

  unend_on : (why : CommitErr) → EndsOnTheWay tells w (λ h. close (after_steps scheme h steps)) (λ h. dues scheme h steps) why t → EndsOnTheWay tells first_w (reached scheme (done ++ (current ++ steps) ∷ []) []) (owed scheme (done ++ (current ++ steps) ∷ []) []) why t
  unend_on why x =
      ended_as tells first_w t (λ h. close (after_steps scheme (reached scheme done current h) steps)) (reached scheme (done ++ (current ++ steps) ∷ []) [])
      (λ h. owed scheme done current h ++ dues scheme (reached scheme done current h) steps) (owed scheme (done ++ (current ++ steps) ∷ []) []) why
      (λ h p. close_on h) (λ h p. due_on h)
      (ended_then tells first_w w t (reached scheme done current) (λ h. close (after_steps scheme h steps)) (owed scheme done current) (λ h. dues scheme h steps) why g x)

-- .. as the notary took part
module _ (scheme : Scheme) (tells : Bool) (first_w w : World) (first_n n m : NotaryState) (done : List (List Step)) (current steps : List Step) (g : Goes tells first_w (reached scheme done current) (owed scheme done current) w)
    (a : (h : History) → Holds tells first_w h → TookOn scheme h first_n done current n) where
  take_on : ((h : History) → Holds tells w h → Took scheme h n steps m) → (h : History) → Holds tells first_w h → TookOn scheme h first_n done (current ++ steps) m
  take_on b h p = took_on scheme h first_n done current steps n m (a h p) (b (reached scheme done current h) (g.holds h p))

-- a part of an order that was taken, with the rest of it
with_rest : (front late : List Said) (current part : List Step) (rest : List Said) → IsOrder front (map said_by current ++ late) → IsOrder late (map said_by part ++ rest) → IsOrder front (map said_by (current ++ part) ++ rest)
with_rest front late current part rest o p k =
    ap (lines_of_lane k) (ap (λ (l : List Said). l ++ rest) (map-append said_by current part) ∙ append_assoc (map said_by current) (map said_by part) rest)
    ∙ filter-append (λ (l : Said). l.lane == k) (map said_by current) (map said_by part ++ rest) ∙ ap (λ (l : List Said). lines_of_lane k (map said_by current) ++ l) (p k)
    ∙ sym (filter-append (λ (l : Said). l.lane == k) (map said_by current) late) ∙ o k

-- .. of which some first lines stand as steps
pub with_behind : (front : List Said) (current behind : List Step) (rest later : List Said) → map said_by behind ++ later ≡ rest → IsOrder front (map said_by current ++ rest) → IsOrder front (map said_by (current ++ behind) ++ later)
with_behind front current behind rest later split o =
    subst (IsOrder front)
    (ap (λ (l : List Said). map said_by current ++ l) (sym split) ∙ sym (append_assoc (map said_by current) (map said_by behind) later) ∙ ap (λ (l : List Said). l ++ later) (sym (map-append said_by current behind)))
    o

with_order : (front late : List Said) (current part : List Step) → IsOrder front (map said_by current ++ late) → IsOrder late (map said_by part) → IsOrder front (map said_by (current ++ part))
with_order front late current part o p k =
    ap (lines_of_lane k) (map-append said_by current part)
    ∙ filter-append (λ (l : Said). l.lane == k) (map said_by current) (map said_by part) ∙ ap (λ (l : List Said). lines_of_lane k (map said_by current) ++ l) (p k)
    ∙ sym (filter-append (λ (l : Said). l.lane == k) (map said_by current) late) ∙ o k

-- ---- a stop within the script

-- what is known of a text is told of it
stop_as : (scheme : Scheme) (h : History) (part : List ℕ) (disks : Pair) (first_n n : NotaryState) (why : CommitErr) (lines : List (List ℕ)) (IsSo : List ℕ → Type 0) → ((whole : List ℕ) → SaidOf why part whole → IsSo whole)
    → SomeAnswer (StopsOn scheme h part disks first_n n (CleanBy why h part) (SaidOf why part)) lines (SaidOf why part) → SomeAnswer (StopsOn scheme h part disks first_n n (CleanBy why h part) IsSo) lines IsSo
stop_as scheme h part disks first_n n why lines IsSo so a =
    let s = a.1 in (
      a.0,
      record {
        steps = s.steps;
        merge = s.merge;
        took = s.took;
        text_is = s.text_is;
        written = so (text scheme h (taken s.took.done s.took.now)) s.written;
        images = s.images;
        proofs = s.proofs;
        heads = s.heads;
        images_taken = s.images_taken;
      },
      so a.0 a.2,
    )

pub halt : (scheme : Scheme) (tells : Bool) (IsSo : History → History → Type 0) (first_w : World) (first_n n : NotaryState) (before now : SourceState) (reading : Reading) (script : List (List ℕ)) (input : HasGiven before now reading script) (done : List (List Step)) (current : List Step)
    → ((h : History) → Holds tells first_w h → TookOn scheme h first_n done current n)
    → HasRoom first_w.kept → IsClear first_w.kept → (rest : List Said) (why : CommitErr) (t : World) (x : Halts scheme tells first_w n done current rest why t) → CanGoOn n script done (current ++ x.behind) → FailsIn (length script) first_n n
    → Runs scheme tells first_w IsSo (ending_of_end why) (handed before first_w.sink first_w.disks first_n) (handed now t.sink t.disks n)
halt scheme tells IsSo first_w first_n n before now reading script input done current took room clear rest why t x can fails =
    let all = x.ended in record {
      serves = λ h p none list.
          let stop = stopped scheme tells first_w h p room none clear.0 clear.1 first_n list script (few_lines before now reading script input) done current n rest why t x can (took h p) in
          let here = stop [] in
          serve_stop scheme h (IsSo h) why first_w t before now first_n n all.part input.read all.cause input.consumed all.appended here.0 here.2
          (λ IsText so. some_of_given (StopsOn scheme h all.part t.disks first_n n (CleanBy why h all.part) IsText) before now reading script input IsText (λ tail. stop_as scheme h all.part t.disks first_n n why (script ++ tail) IsText so (stop tail)));
      ends = reads_stop why before now;
      faults = faults_stop why first_w t before now first_n n (inl input.faults) all.cause;
      failures = fails_read before now first_n n (length script) input.read input.consumed (given_few before now reading script input) fails;
    }

-- the script with a line that isn't taken
can_later : (n : NotaryState) (script : List (List ℕ)) (line : List ℕ) (done : List (List Step)) (current : List Step) → CanGoOn n script done current → CanGoOn n (script ++ line ∷ []) done current
can_later n script line done current can tail =
    let g = can (line ∷ tail) in record {
      all = g.all;
      merge = subst (λ l. IsMerge (windows (said_lines l)) g.all) (sym (append_assoc script (line ∷ []) tail)) g.merge;
      begun = g.begun;
    }

-- nothing more is done for want of memory
pub lacking : (scheme : Scheme) (tells : Bool) (first_w w : World) (done : List (List Step)) (current : List Step) → Goes tells first_w (reached scheme done current) (owed scheme done current) w → EndsOnTheWay tells first_w (reached scheme done current) (owed scheme done current) end.NoMemory w
lacking scheme tells first_w w done current g =
    ended_as tells first_w w (reached scheme done current) (reached scheme done current) (λ h. owed scheme done current h ++ []) (owed scheme done current) end.NoMemory (λ h p. refl) (λ h p. append-nil (owed scheme done current h))
    (ended_then tells first_w w w (reached scheme done current) (λ h. h) (owed scheme done current) (λ h. []) end.NoMemory g (no_memory tells w w.kept (λ h. h) (λ h. []) (λ h p. grows_not h)))

module _ (scheme : Scheme) (tells : Bool) (first_w w : World) (first_n n : NotaryState) (first_b b : Option Posted) (before now : SourceState) (reading : Reading) (first next : List ℕ) (piece : List LaneLine) (lines window_bytes : ℕ)
    (room : HasRoom first_w.kept) (clear : IsClear first_w.kept) (s : SoFar scheme tells first_w w first_n n first_b b before now reading first next piece lines window_bytes) where
  -- nothing more is done for want of memory
  lacks_here : Halts scheme tells first_w n s.done s.current s.late end.NoMemory w
  lacks_here = halts_there scheme tells first_w n s.done s.current s.late end.NoMemory w (lacking scheme tells first_w w s.done s.current s.goes)

  can_here : CanGoOn n s.script s.done (s.current ++ lacks_here.behind)
  can_here = part_open n s.script s.windows_are s.front s.done (s.current ++ lacks_here.behind) lacks_here.later s.cut s.merge (with_behind s.front s.current lacks_here.behind s.late lacks_here.later lacks_here.split s.order)

  -- what a piece is taken by
  module _ (held : At) (same : world_at held ≡ w) (same_n : held.notary ≡ n) where
    goes_here : Goes tells first_w (reached scheme s.done s.current) (owed scheme s.done s.current) (world_at held)
    goes_here = subst (Goes tells first_w (reached scheme s.done s.current) (owed scheme s.done s.current)) (sym same) s.goes

    took_here : (h : History) → Holds tells first_w h → TookOn scheme h first_n s.done s.current held.notary
    took_here h p = subst (TookOn scheme h first_n s.done s.current) (sym same_n) (s.took h p)

    fails_here : FailsIn s.tried first_n held.notary
    fails_here = subst (FailsIn s.tried first_n) (sym same_n) s.fails

    -- with as many lines more as wait
    fails_to : (t : At) (more : ℕ) → FailsIn more held.notary t.notary → FailsIn (s.tried + more) first_n t.notary
    fails_to t more f = fails_then s.tried more first_n held.notary t.notary fails_here f

    fails_all : (t : At) → FailsIn (length piece) held.notary t.notary → FailsIn (length s.script) first_n t.notary
    fails_all t f = fails_wider (s.tried + length piece) (length s.script) first_n t.notary s.tried_are (fails_to t (length piece) f)

  -- the board went along with lines that are taken
  module _ (held t : At) (same : world_at held ≡ w) (same_b : held.board ≡ b) where
    board_there : (number : ℕ) (h : History) → Holds tells first_w h → IsFollowed number h first_b → IsFollowed number (reached scheme s.done s.current h) held.board
    board_there number h p f = subst (IsFollowed number (reached scheme s.done s.current h)) (sym same_b) (s.follows number h p f)

    held_there : (h : History) → Holds tells first_w h → Holds tells (world_at held) (reached scheme s.done s.current h)
    held_there h p = subst (λ (x : World). Holds tells x (reached scheme s.done s.current h)) (sym same) (s.goes.holds h p)

    follow_on : (steps : List Step) → FollowsAlong tells held (λ h. after_steps scheme h steps) t → (number : ℕ) (h : History) → Holds tells first_w h → IsFollowed number h first_b → IsFollowed number (reached scheme s.done (s.current ++ steps) h) t.board
    follow_on steps x number h p f =
        subst (λ (g : History). IsFollowed number g t.board) (reach_on scheme h s.done s.current steps)
        (x number (reached scheme s.done s.current h) (held_there h p) (board_there number h p f))

    follow_end : (steps : List Step) → FollowsAlong tells held (λ h. close (after_steps scheme h steps)) t → (number : ℕ) (h : History) → Holds tells first_w h → IsFollowed number h first_b → IsFollowed number (close (reached scheme s.done (s.current ++ steps) h)) t.board
    follow_end steps x number h p f =
        subst (λ (g : History). IsFollowed number (close g) t.board) (reach_on scheme h s.done s.current steps)
        (x number (reached scheme s.done s.current h) (held_there h p) (board_there number h p f))

  -- ---- a piece

  -- its lines were taken
  pub sofar_taken : (held : At) (t : At) (new_first new_next : List ℕ) (new_piece : List LaneLine) → world_at held ≡ w → held.notary ≡ n → held.board ≡ b → PieceTaken scheme tells first piece held t → new_piece ≡ [] → new_first ≡ next → new_next ≡ next
      → SoFar scheme tells first_w (world_at t) first_n t.notary first_b t.board before now reading new_first new_next new_piece lines window_bytes
  sofar_taken held t new_first new_next new_piece same same_n same_b x none f g = record {
    script = s.script;
    input = s.input;
    windows_are = s.windows_are;
    front = s.front;
    cut = s.cut;
    done = s.done;
    current = s.current ++ x.steps;
    late = [];
    merge = s.merge;
    order = subst (IsOrder s.front) (sym (append-nil (map said_by (s.current ++ x.steps)))) (with_order s.front s.late s.current x.steps s.order (late_taken first next piece s.script s.late (map said_by x.steps) s.are_late x.is_order));
    are_late = late_none new_first new_next new_piece s.script none (f ∙ sym g) (λ k less. ap (λ (l : List ℕ). slice_index l k) g ∙ s.are_late.counts k less);
    lines_are = s.lines_are;
    bytes_are = s.bytes_are;
    few = let e = ap length none in omega (arith, e);
    goes = go_on scheme tells first_w (world_at held) (world_at t) s.done s.current x.steps (goes_here held same same_n) x.goes;
    took = take_on scheme tells first_w (world_at held) first_n held.notary t.notary s.done s.current x.steps (goes_here held same same_n) (took_here held same same_n) x.took;
    follows = follow_on held t same same_b x.steps x.follows;
    tried = s.tried + length piece;
    tried_are = let e = ap length none in let l = s.tried_are in omega (arith, e, l);
    fails = fails_to held same same_n t (length piece) x.fails;
  }

  -- .. or the run ended on the way
  pub ran_broken : (IsSo : History → History → Type 0) (held t : At) (why : CommitErr) → world_at held ≡ w → held.notary ≡ n → PieceBroken scheme tells first piece why held t
      → Runs scheme tells first_w IsSo (ending_of_end why) (handed before first_w.sink first_w.disks first_n) (handed now t.sink t.disks t.notary)
  ran_broken IsSo held t why same same_n x =
      let taken = late_taken first next piece s.script s.late (map said_by x.steps ++ x.rest) s.are_late x.is_order in
      let broken = break_on scheme tells first_w (world_at held) (world_at t) s.done s.current x.steps (goes_here held same same_n) t.notary x.rest why x.ended in
      let order = with_rest s.front s.late s.current x.steps x.rest s.order taken in
      halt scheme tells IsSo first_w first_n t.notary before now reading s.script s.input s.done (s.current ++ x.steps)
      (take_on scheme tells first_w (world_at held) first_n held.notary t.notary s.done s.current x.steps (goes_here held same same_n) (took_here held same same_n) x.took)
      room clear x.rest why (world_at t) broken
      (part_open t.notary s.script s.windows_are s.front s.done ((s.current ++ x.steps) ++ broken.behind) broken.later s.cut s.merge (with_behind s.front (s.current ++ x.steps) broken.behind x.rest broken.later broken.split order)) (fails_all held same same_n t x.fails)

  -- the numbers of lanes fit
  pub few_numbers : (k : ℕ) → k < 8 → (slice_index first k + length (lines_of k piece) < 2 ^ 64) × (slice_index next k + 1 < 2 ^ 64)
  few_numbers k less =
      let a = s.are_late.from k less in
      let b = s.are_late.counts k less in
      let c = count_few k s.script in
      let i = s.input in
      let e = i.few in let f = i.total in let g = i.bounded in
      (omega (arith, a, b, c, e, f, g), omega (arith, a, b, c, e, f, g))

  module _ (after_read : SourceState) (new : Reading) (bytes : List ℕ) (r : ReadsBytes now after_read reading new bytes) where
    abbrev read : List ℕ
    read = s.input.read ++ bytes

    consumed : Consumes before.left after_read.left read
    consumed = given_consumed before now after_read reading new bytes s.script s.input r

    few_here : length s.script < 2 ^ 64
    few_here = few_lines before now reading s.script s.input

    -- ---- reading ended

    module _ (end : Option LineErr) (e : EndsReading end before after_read read s.script) (held : At) (same : world_at held ≡ w) (same_n : held.notary ≡ n) (same_b : held.board ≡ b) where
      here : Goes tells first_w (reached scheme s.done s.current) (owed scheme s.done s.current) (world_at held)
      here = goes_here held same same_n

      there : (h : History) → Holds tells first_w h → TookOn scheme h first_n s.done s.current held.notary
      there = took_here held same same_n

      failures_read : (t : At) → FailsIn (length piece) held.notary t.notary → FailsByLines before after_read first_n t.notary
      failures_read t f = fails_read before after_read first_n t.notary (length s.script) read consumed (given_more before now reading s.script s.input bytes) (fails_all held same same_n t f)

      last_order : (steps : List Step) → IsOrderOf first piece (map said_by steps) → IsOrder s.front (map said_by (s.current ++ steps))
      last_order steps o = with_order s.front s.late s.current steps s.order (late_taken first next piece s.script s.late (map said_by steps) s.are_late o)

      -- .. and the last lines were taken, and the last block ended
      pub ran_whole : (t : At) → WindowTaken scheme tells first piece held t → IsClear t.held.kept → is_lacking t.board ≡ false → Runs scheme tells first_w (HasFollowed first_b t.board) (Run (ending_after end)) (handed before first_w.sink first_w.disks first_n) (handed after_read t.sink t.disks t.notary)
      ran_whole t x no_more none_lacks =
          let now_taken = s.current ++ x.steps in
          let all = whole_end t x in record {
            serves = λ h p none list.
                serve_end scheme h (HasFollowed first_b t.board h) end first_w (world_at t) before after_read first_n t.notary all.sofar read s.script all.no_fault.sink consumed all.appended e
                (answered scheme tells first_w h p room none clear.0 clear.1 first_n list s.script few_here s.done now_taken t.notary (last_merge s.script s.windows_are s.front s.done now_taken s.cut s.merge (last_order x.steps x.is_order))
                (take_on scheme tells first_w (world_at held) first_n held.notary t.notary s.done s.current x.steps here there x.took h p) (world_at t) all no_more.0 no_more.1
                (HasFollowed first_b t.board h)
                (record { follows = λ number f. follow_end held t same same_b x.steps x.follows number h p f; none_waits = close_none (reached scheme s.done now_taken h); none_lacks = none_lacks }));
            ends = reads_end end before after_read read s.script consumed e;
            faults = faults_end end (handed before first_w.sink first_w.disks first_n) (handed after_read t.sink t.disks t.notary) read s.script e all.no_fault.a all.no_fault.b all.no_fault.sink;
            failures = failures_read t x.fails;
          }
        where
          whole_end : (t : At) (x : WindowTaken scheme tells first piece held t) → Goes tells first_w (λ k. close (reached scheme s.done (s.current ++ x.steps) k)) (λ k. owed scheme s.done (s.current ++ x.steps) k ++ []) (world_at t)
          whole_end t x =
              goes_as tells first_w (world_at t) (λ h. close (after_steps scheme (reached scheme s.done s.current h) x.steps)) (λ k. close (reached scheme s.done (s.current ++ x.steps) k))
              (λ h. owed scheme s.done s.current h ++ dues scheme (reached scheme s.done s.current h) x.steps) (λ k. owed scheme s.done (s.current ++ x.steps) k ++ [])
              (λ h p. ap close (reach_on scheme h s.done s.current x.steps)) (λ h p. owe_on scheme h s.done s.current x.steps ∙ sym (append-nil (owed scheme s.done (s.current ++ x.steps) h)))
              (goes_then tells first_w (world_at held) (world_at t) (reached scheme s.done s.current) (λ h. close (after_steps scheme h x.steps)) (owed scheme s.done s.current) (λ h. dues scheme h x.steps) here x.goes)

      -- .. or they weren't
      pub ran_cut : (IsSo : History → History → Type 0) (t : At) (why : CommitErr) → WindowBroken scheme tells first piece why held t → Runs scheme tells first_w IsSo (ending_of_end why) (handed before first_w.sink first_w.disks first_n) (handed after_read t.sink t.disks t.notary)
      ran_cut IsSo t why (inl x) =
          let taken = late_taken first next piece s.script s.late (map said_by x.steps ++ x.rest) s.are_late x.is_order in
          let broken = break_on scheme tells first_w (world_at held) (world_at t) s.done s.current x.steps here t.notary x.rest why x.ended in
          let all = broken.ended in
          let order = with_rest s.front s.late s.current x.steps x.rest s.order taken in
          let can = part_open t.notary s.script s.windows_are s.front s.done ((s.current ++ x.steps) ++ broken.behind) broken.later s.cut s.merge (with_behind s.front (s.current ++ x.steps) broken.behind x.rest broken.later broken.split order) in record {
            serves = λ h p none list.
                let stop = subst (λ l. SomeAnswer (StopsOn scheme h all.part t.disks first_n t.notary (CleanBy why h all.part) (SaidOf why all.part)) l (SaidOf why all.part)) (append-nil s.script)
                (stopped scheme tells first_w h p room none clear.0 clear.1 first_n list s.script few_here s.done (s.current ++ x.steps) t.notary x.rest why (world_at t) broken can
                (take_on scheme tells first_w (world_at held) first_n held.notary t.notary s.done s.current x.steps here there x.took h p) []) in
                serve_stop scheme h (IsSo h) why first_w (world_at t) before after_read first_n t.notary all.part read all.cause consumed all.appended stop.0 stop.2
                (λ IsText so. inr (end, s.script, e, stop_as scheme h all.part t.disks first_n t.notary why s.script IsText so stop));
            ends = reads_stop why before after_read;
            faults = faults_stop why first_w (world_at t) before after_read first_n t.notary (at_most_once end before after_read read s.script e) all.cause;
            failures = failures_read t x.fails;
          }
      ran_cut IsSo t why (inr x) =
          let now_taken = s.current ++ x.steps in
          let all =
          ended_as tells first_w (world_at t) (λ h. close (after_steps scheme (reached scheme s.done s.current h) x.steps)) (λ k. close (reached scheme s.done (s.current ++ x.steps) k))
          (λ h. owed scheme s.done s.current h ++ dues scheme (reached scheme s.done s.current h) x.steps) (λ k. owed scheme s.done (s.current ++ x.steps) k ++ []) why
          (λ h p. ap close (reach_on scheme h s.done s.current x.steps)) (λ h p. owe_on scheme h s.done s.current x.steps ∙ sym (append-nil (owed scheme s.done (s.current ++ x.steps) h)))
          (ended_then tells first_w (world_at held) (world_at t) (reached scheme s.done s.current) (λ h. close (after_steps scheme h x.steps)) (owed scheme s.done s.current) (λ h. dues scheme h x.steps) why here x.ended) in record {
            serves = λ h p none list.
                let stop = stopped_last scheme tells first_w h p room none clear.0 clear.1 first_n list s.script few_here s.done now_taken t.notary (last_merge s.script s.windows_are s.front s.done now_taken s.cut s.merge (last_order x.steps x.is_order))
                (take_on scheme tells first_w (world_at held) first_n held.notary t.notary s.done s.current x.steps here there x.took h p) why (world_at t) all in
                serve_stop scheme h (IsSo h) why first_w (world_at t) before after_read first_n t.notary all.part read all.cause consumed all.appended stop.0 stop.2
                (λ IsText so. inr (end, s.script, e, stop_as scheme h all.part t.disks first_n t.notary why s.script IsText so stop));
            ends = reads_stop why before after_read;
            faults = faults_stop why first_w (world_at t) before after_read first_n t.notary (at_most_once end before after_read read s.script e) all.cause;
            failures = failures_read t x.fails;
          }

    pub ends_whole : after_read.faults ≡ now.faults → GivesNone now after_read reading new bytes → EndsReading None before after_read read s.script
    ends_whole k g = ended_whole before now after_read reading new bytes s.script s.input r k g

    pub ends_failed : (error : LineErr) → error ≢ NoMemory → after_read.faults ≡ faults_next {T = Option (List ℕ)} (Err error) reading.failed now.faults → Gives now after_read reading new bytes (Err error) → EndsReading (Some error) before after_read read s.script
    ends_failed error other k g =
        elim g [
          | inl again ↦ absurd (let no : ⊥ = cc (again.0, s.input.sound) in no)
          | inr f ↦ ended_failed before now after_read reading new bytes s.script s.input r error other k f
        ]

    -- a line can't be read for want of memory
    pub ran_starved : (IsSo : History → History → Type 0) → after_read.faults ≡ now.faults → Gives now after_read reading new bytes (Err NoMemory) → Runs scheme tells first_w IsSo (Run run.NoMemory) (handed before first_w.sink first_w.disks first_n) (handed after_read w.sink w.disks n)
    ran_starved IsSo k g =
        elim g [
          | inl again ↦ absurd (let no : ⊥ = cc (again.0, s.input.sound) in no)
          | inr f ↦
              let all = lacks_here.ended in record {
                serves = λ h p none list.
                    let stop = stopped scheme tells first_w h p room none clear.0 clear.1 first_n list s.script few_here s.done s.current n s.late end.NoMemory w lacks_here can_here (s.took h p) in
                    let here = stop [] in
                    serve_stop scheme h (IsSo h) end.NoMemory first_w w before after_read first_n n all.part read all.cause consumed all.appended here.0 here.2
                    (λ IsText so. some_at_failure before now after_read reading new bytes s.script s.input r (StopsOn scheme h all.part w.disks first_n n AreClean IsText) IsText k f (λ tail. stop_as scheme h all.part w.disks first_n n end.NoMemory (s.script ++ tail) IsText so (stop tail)));
                ends = tt;
                faults = faults_stop end.NoMemory first_w w before after_read first_n n (inl (k ∙ s.input.faults)) all.cause;
                failures = fails_read before after_read first_n n s.tried read consumed (let f = given_more before now reading s.script s.input bytes in let l = s.tried_are in omega (arith, f, l)) s.fails;
              }
        ]

    -- ---- a line was given

    module _ (line : List ℕ) (k : after_read.faults ≡ now.faults) (g : GivesLine after_read reading new bytes line) where
      abbrev script_now : List (List ℕ)
      script_now = s.script ++ line ∷ []

      more : HasGiven before after_read new script_now
      more = read_more before now after_read reading new bytes line s.script s.input r k g

      abbrev x : Said
      x = numbered_line (count_of (spoken_line line).0 s.script + 1) line

      said_now : said_lines script_now ≡ said_lines s.script ++ x ∷ []
      said_now = said_after-append [] s.script (line ∷ [])

      -- .. for which there is no memory
      pub ran_lacking : (IsSo : History → History → Type 0) → Runs scheme tells first_w IsSo (Run run.NoMemory) (handed before first_w.sink first_w.disks first_n) (handed after_read w.sink w.disks n)
      ran_lacking IsSo = halt scheme tells IsSo first_w first_n n before after_read new script_now more s.done s.current s.took room clear s.late end.NoMemory w lacks_here (can_later n s.script line s.done (s.current ++ lacks_here.behind) can_here) (fails_wider s.tried (length script_now) first_n n (let l = s.tried_are in let e = length-append s.script (line ∷ []) in omega (arith, l, e)) s.fails)

      order_now : IsOrder (s.front ++ x ∷ []) (map said_by s.current ++ (s.late ++ x ∷ []))
      order_now = subst (IsOrder (s.front ++ x ∷ [])) (append_assoc (map said_by s.current) s.late (x ∷ [])) (order_append s.front (x ∷ []) (map said_by s.current ++ s.late) (x ∷ []) s.order (order_same (x ∷ [])))

      full_is : (value : Bool) → fills_window (lines + 1) (window_bytes + length line) ≡ value → fills_window (length s.front + 1) (line_bytes s.front + length line) ≡ value
      full_is value e = ap (λ n. fills_window (n + 1) (line_bytes s.front + length line)) (sym s.lines_are) ∙ ap (λ n. fills_window (lines + 1) (n + length line)) (sym s.bytes_are) ∙ e

      module _ (l : LaneLine) (is : l.line ≡ line) (new_next : List ℕ) (next_is : (k : ℕ) → k < 8 → slice_index new_next k ≡ (if (spoken_line line).0 == k then slice_index next k + 1 else slice_index next k)) where
        late_now : AreLate first new_next (piece ++ l ∷ []) script_now (s.late ++ x ∷ [])
        late_now = late_more first next new_next piece s.script s.late l line is s.are_late next_is

        -- .. and waits
        pub sofar_added : (new_first : List ℕ) (new_piece : List LaneLine) (new_lines new_bytes : ℕ) → new_first ≡ first → new_piece ≡ piece ++ l ∷ [] → fills_window (lines + 1) (window_bytes + length line) ≡ false
            → new_lines ≡ lines + 1 → new_bytes ≡ window_bytes + length line → SoFar scheme tells first_w w first_n n first_b b before after_read new new_first new_next new_piece new_lines new_bytes
        sofar_added new_first new_piece new_lines new_bytes f p e lines_now bytes_now = record {
          script = script_now;
          input = more;
          windows_are = s.windows_are;
          front = s.front ++ x ∷ [];
          cut = subst (λ xs. IsCut xs s.windows_are (s.front ++ x ∷ [])) (sym said_now) (cut_more (said_lines s.script) s.windows_are s.front x s.cut (full_is false e));
          done = s.done;
          current = s.current;
          late = s.late ++ x ∷ [];
          merge = s.merge;
          order = order_now;
          are_late = subst (λ (y : List ℕ × List LaneLine). AreLate y.0 new_next y.1 script_now (s.late ++ x ∷ [])) (λ i. (sym f i, sym p i)) late_now;
          lines_are = (let a = s.lines_are in let b = length-append s.front (x ∷ []) in omega (arith, a, b, lines_now));
          bytes_are = bytes_now ∙ ap (λ n. n + length line) s.bytes_are ∙ sym (line_bytes-push s.front x);
          few = (let a = ap length p in let b = length-append piece (l ∷ []) in let c = s.few in omega (arith, a, b, c, lines_now));
          goes = s.goes;
          took = s.took;
          follows = s.follows;
          tried = s.tried;
          tried_are = (let a = ap length p in let b = length-append piece (l ∷ []) in let c = length-append s.script (line ∷ []) in let d = s.tried_are in omega (arith, a, b, c, d));
          fails = s.fails;
        }

        -- the numbers of lanes fit with it
        pub numbers_now : (new_first : List ℕ) (new_piece : List LaneLine) → new_first ≡ first → new_piece ≡ piece ++ l ∷ [] → (j : ℕ) → j < 8 → slice_index new_first j + length (lines_of j new_piece) < 2 ^ 64
        numbers_now new_first new_piece f p j less =
            let a = subst (λ (y : List ℕ × List LaneLine). slice_index new_next j ≡ slice_index y.0 j + length (lines_of j y.1)) (λ i. (sym f i, sym p i)) (late_now.from j less) in
            let b = late_now.counts j less in
            let d = count_few j script_now in
            let m = more in
            let u = m.few in let v = m.total in let w = m.bounded in
            omega (arith, a, b, d, u, v, w)

        -- .. and makes the window whole
        module _ (e : fills_window (lines + 1) (window_bytes + length line) ≡ true) (held : At) (same : world_at held ≡ w) (same_n : held.notary ≡ n) (same_b : held.board ≡ b) (new_piece : List LaneLine) (p : new_piece ≡ piece ++ l ∷ []) where
          cut_now : IsCut (said_lines script_now) (s.windows_are ++ (s.front ++ x ∷ []) ∷ []) []
          cut_now = subst (λ xs. IsCut xs (s.windows_are ++ (s.front ++ x ∷ []) ∷ []) []) (sym said_now) (cut_whole (said_lines s.script) s.windows_are s.front x s.cut (full_is true e))

          few_now : s.tried + length new_piece ≤ length script_now
          few_now = let a = ap length p in let b = length-append piece (l ∷ []) in let c = length-append s.script (line ∷ []) in let d = s.tried_are in omega (arith, a, b, c, d)

          fails_now : (t : At) → FailsIn (length new_piece) held.notary t.notary → FailsIn (length script_now) first_n t.notary
          fails_now t f = fails_wider (s.tried + length new_piece) (length script_now) first_n t.notary few_now (fails_to held same same_n t (length new_piece) f)

          taken_now : (order : List Said) → IsOrderOf first new_piece order → IsOrder (s.late ++ x ∷ []) order
          taken_now order o = late_taken first new_next new_piece script_now (s.late ++ x ∷ []) order (subst (λ y. AreLate first new_next y script_now (s.late ++ x ∷ [])) (sym p) late_now) o

          merge_now : (steps : List Step) → IsOrderOf first new_piece (map said_by steps) → IsMerge (s.windows_are ++ (s.front ++ x ∷ []) ∷ []) (s.done ++ (s.current ++ steps) ∷ [])
          merge_now steps o =
              merges_append s.windows_are ((s.front ++ x ∷ []) ∷ []) s.done ((s.current ++ steps) ∷ []) s.merge
              (order_merge (s.front ++ x ∷ []) (s.current ++ steps) (with_order (s.front ++ x ∷ []) (s.late ++ x ∷ []) s.current steps order_now (taken_now (map said_by steps) o)), tt)

          pub sofar_window : (t : At) (last_first last_next : List ℕ) (last_piece : List LaneLine) (new_lines new_bytes : ℕ) → WindowTaken scheme tells first new_piece held t → last_piece ≡ [] → last_first ≡ new_next → last_next ≡ new_next → new_lines ≡ 0 → new_bytes ≡ 0
              → SoFar scheme tells first_w (world_at t) first_n t.notary first_b t.board before after_read new last_first last_next last_piece new_lines new_bytes
          sofar_window t last_first last_next last_piece new_lines new_bytes y none f nx lines_now bytes_now = record {
            script = script_now;
            input = more;
            windows_are = s.windows_are ++ (s.front ++ x ∷ []) ∷ [];
            front = [];
            cut = cut_now;
            done = s.done ++ (s.current ++ y.steps) ∷ [];
            current = [];
            late = [];
            merge = merge_now y.steps y.is_order;
            order = order_same [];
            are_late = late_none last_first last_next last_piece script_now none (f ∙ sym nx) (λ k less. ap (λ (l : List ℕ). slice_index l k) nx ∙ late_now.counts k less);
            lines_are = lines_now;
            bytes_are = bytes_now;
            few = let d = ap length none in omega (arith, d);
            goes = end_on scheme tells first_w (world_at held) (world_at t) s.done s.current y.steps (goes_here held same same_n) y.goes;
            took = λ h q. window_took scheme h first_n s.done (s.current ++ y.steps) t.notary (take_on scheme tells first_w (world_at held) first_n held.notary t.notary s.done s.current y.steps (goes_here held same same_n) (took_here held same same_n) y.took h q);
            follows = λ number h q f.
                subst (λ (g : History). IsFollowed number g t.board) (window_on scheme h s.done (s.current ++ y.steps)) (follow_end held t same same_b y.steps y.follows number h q f);
            tried = s.tried + length new_piece;
            tried_are = let e = ap length none in let a = few_now in omega (arith, e, a);
            fails = fails_to held same same_n t (length new_piece) y.fails;
          }

          pub ran_unended : (IsSo : History → History → Type 0) (t : At) (why : CommitErr) → WindowBroken scheme tells first new_piece why held t → Runs scheme tells first_w IsSo (ending_of_end why) (handed before first_w.sink first_w.disks first_n) (handed after_read t.sink t.disks t.notary)
          ran_unended IsSo t why (inl y) =
              let broken = break_on scheme tells first_w (world_at held) (world_at t) s.done s.current y.steps (goes_here held same same_n) t.notary y.rest why y.ended in
              let order = with_rest (s.front ++ x ∷ []) (s.late ++ x ∷ []) s.current y.steps y.rest order_now (taken_now (map said_by y.steps ++ y.rest) y.is_order) in
              halt scheme tells IsSo first_w first_n t.notary before after_read new script_now more s.done (s.current ++ y.steps)
              (take_on scheme tells first_w (world_at held) first_n held.notary t.notary s.done s.current y.steps (goes_here held same same_n) (took_here held same same_n) y.took)
              room clear y.rest why (world_at t) broken
              (part_whole t.notary script_now s.windows_are (s.front ++ x ∷ []) s.done ((s.current ++ y.steps) ++ broken.behind) broken.later cut_now s.merge (with_behind (s.front ++ x ∷ []) (s.current ++ y.steps) broken.behind y.rest broken.later broken.split order)) (fails_now t y.fails)
          ran_unended IsSo t why (inr y) =
              let whole = s.done ++ (s.current ++ y.steps) ∷ [] in
              let stays = halts_there scheme tells first_w t.notary whole [] [] why (world_at t) (unend_on scheme tells first_w (world_at held) (world_at t) s.done s.current y.steps (goes_here held same same_n) why y.ended) in
              halt scheme tells IsSo first_w first_n t.notary before after_read new script_now more whole []
              (λ h q. window_took scheme h first_n s.done (s.current ++ y.steps) t.notary (take_on scheme tells first_w (world_at held) first_n held.notary t.notary s.done s.current y.steps (goes_here held same same_n) (took_here held same same_n) y.took h q))
              room clear [] why (world_at t) stays
              (part_open t.notary script_now (s.windows_are ++ (s.front ++ x ∷ []) ∷ []) [] whole ([] ++ stays.behind) stays.later cut_now (merge_now y.steps y.is_order) (with_behind [] [] stays.behind [] stays.later stays.split (order_same []))) (fails_now t y.fails)
