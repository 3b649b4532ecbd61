-- A job that is a window of one line, and what a stop leaves of it.
use Rattle.std.specs.Prelude.{Bool, true, false, ◌||◌, nat_le}
use Rattle.std.proofs.Common.{◌≡◌, ℕ, ◌+◌, ◌≤◌, ◌⊎◌, inl, inr, cond, List, [], ◌∷◌, ◌++◌, length, Option, Some, None, refl, ap, sym, subst, ◌∙◌, arith, append-nil, length-append}
use Rattle.std.specs.Io.KnownBytes.{Appends}
use Rattle.std.specs.Option.{option_map}
use Rattle.ledger_bytes.specs.Begins.{Begins}
use Rattle.ledger_bytes.specs.declared.limits.TheConstants.{BLOCK_LIMIT}
use Rattle.ledger_bytes.specs.declared.refusal.Refusal.{Refusal}
use Rattle.journal_record.specs.Entry.{Entry}
use Rattle.journal_record.specs.declared.stamp.Stamp.{Stamp}
use Rattle.ledger_io.specs.Outside.{SinkState}
use Rattle.ledger_model.specs.Anchors.{stamp_of, time_journal}
use Rattle.ledger_model.specs.Dues.{due_of, due_line, due_lines}
use Rattle.ledger_model.specs.History.{History, history, size, close, close_by}
use Rattle.ledger_model.specs.Judgements.{own_refusal}
use Rattle.ledger_model.specs.Limits.{real_limits}
use Rattle.ledger_model.specs.Outcomes.{placed_journal, after_judgement, with_waiting, with_job}
use Rattle.ledger_model.specs.Rules.{closes_before, closes_after, judged_at, settled_history, after_job}
use Rattle.ledger_model.specs.Step.{Step}
use Rattle.ledger_model.specs.declared.due.Due.{Due}
use Rattle.ledger_model.specs.declared.job.Job.{Job}
use Rattle.ledger_model.specs.declared.job.Job.TheVariants.{Anchor}
use Rattle.ledger_model.proofs.GrowLaws.{close_none, close_settled, grows_close, grows_not}
use Rattle.ledger_open.specs.Standing.{PairFor}
use Rattle.time_peg.specs.Entries.{NotaryState}
use Rattle.batch_committer.proofs.Attends.{unstamped}
use Rattle.batch_committer.proofs.Grouped.{stored_whole}
use Rattle.batch_committer.proofs.WayLaws.{goes_then, ended_then, ended_wider}
use Rattle.batch_committer.specs.Attending.{step_in, TakesJob, EndsAt, EndsUnasked, EndsTaking}
use Rattle.batch_committer.specs.World.{World, Pair, CommitterState, world, Holds, Goes, EndsOnTheWay, LeftStanding, stored_part}
use Rattle.batch_committer.specs.declared.failure.CommitErr.{CommitErr}
use Rattle.batch_committer.specs.declared.failure.CommitErr.TheVariants.{DiskFault}
use Rattle.ledger_soak.specs.Posts.{TakesWindow, StopsInWindow, StopsBefore, StopsTaking}

-- ---- at most one block more

-- the end of the open block twice is its end
close_twice : (k : History) → close (close k) ≡ close k
close_twice k = sym (close_settled (close k) (close_none k))

-- a window of one job ends its block, whether the job does or not
close_settled_job : (job : Job) (k : History) → close (settled_history job k) ≡ close k
close_settled_job job k = by_cases (closes_after job || nat_le BLOCK_LIMIT (length k.waiting)) where
  by_cases : (b : Bool) → close (cond b (close k) k) ≡ close k
  by_cases true = close_twice k
  by_cases false = refl

judged_same : (h : History) (job : Job) → h.waiting ≡ [] → judged_at h job ≡ h
judged_same h job none = by_cases (closes_before job) where
  by_cases : (b : Bool) → cond b (close h) h ≡ h
  by_cases true = sym (close_settled h none)
  by_cases false = refl

judgement_closed : (refusal : Option Refusal) (journal : Option Entry) (h : History) → (after_judgement refusal journal h).closed ≡ h.closed
judgement_closed (Some refusal) journal h = refl
judgement_closed None None h = refl
judgement_closed None (Some journal) h = refl

job_closed : (h : History) (step : Step) (job : Job) → (with_job real_limits (stamp_of step) h job).closed ≡ h.closed
unfolding with_job
job_closed h step job = judgement_closed (own_refusal real_limits h job) (placed_journal h (stamp_of step) job) h

close_by_long : (blocks : List (List Entry)) (waiting : List Entry) → length (close_by blocks waiting).closed ≤ length blocks + 1
close_by_long blocks [] = omega arith
close_by_long blocks (j ∷ js) = omega (arith, length-append blocks ((j ∷ js) ∷ []))

close_long : (k : History) → length (close k).closed ≤ length k.closed + 1
unfolding close
close_long k = close_by_long k.closed k.waiting

pub one_block : (h : History) (step : Step) (job : Job) → h.waiting ≡ [] → length (close (after_job h step job)).closed ≤ length h.closed + 1
unfolding after_job
one_block h step job none =
    let k = with_job real_limits (stamp_of step) (judged_at h job) job in
    omega (arith, close_long k, ap (λ (g : History). length g.closed) (close_settled_job job k), ap length (job_closed (judged_at h job) step job), ap (λ (g : History). length g.closed) (judged_same h job none))

-- ---- the history that an image stands for

-- two histories where nothing waits, of the same blocks
same_history : (h k : History) → h.waiting ≡ [] → k.waiting ≡ [] → k.closed ≡ h.closed → k ≡ h
same_history h k none waits is = ap (history k.closed) waits ∙ ap (λ bs. history bs []) is ∙ ap (history h.closed) (sym none)

pub one_of_two : (h g k : History) → h.waiting ≡ [] → g.waiting ≡ [] → k.waiting ≡ [] → length g.closed ≤ length h.closed + 1 → Begins h.closed k.closed → Begins k.closed g.closed → (k ≡ h) ⊎ (k ≡ g)
one_of_two h g k none ended waits few no_shorter no_longer = by_rest no_shorter.rest no_longer.rest no_shorter.is no_longer.is where
  by_rest : (more rest : List (List Entry)) → k.closed ≡ h.closed ++ more → g.closed ≡ k.closed ++ rest → (k ≡ h) ⊎ (k ≡ g)
  by_rest [] rest is then = inl (same_history h k none waits (is ∙ append-nil h.closed))
  by_rest (b ∷ bs) [] is then = inr (same_history g k ended waits (sym (then ∙ append-nil k.closed)))
  by_rest (b ∷ bs) (c ∷ cs) is then = absurd (omega (arith, few, ap length is, ap length then, length-append h.closed (b ∷ bs), length-append k.closed (c ∷ cs)))

-- what is left on the way stands for the history before or for the one behind
pub either_left : (h g : History) (done : List Due) (end : CommitErr) (i j : List ℕ) → h.waiting ≡ [] → g.waiting ≡ [] → length g.closed ≤ length h.closed + 1 → LeftStanding h g done end i j → PairFor i j h ⊎ PairFor i j g
either_left h g done end i j none ended few l =
    let waits : l.kept.waiting ≡ [] = l.stands.pair.stands.file.none in
    elim (one_of_two h g l.kept none ended waits few l.no_shorter l.no_longer) [
      | inl is ↦ inl (subst (PairFor i j) is l.stands.pair)
      | inr is ↦ inr (subst (PairFor i j) is l.stands.pair)
    ]

-- .. or, where all blocks that ended were stored, for one of the two
pub either_stored : (k : CommitterState) (h g : History) (done : List Due) (end : CommitErr) (i j : List ℕ) → k.ended ≡ 0 → h.waiting ≡ [] → g.waiting ≡ [] → length g.closed ≤ length h.closed + 1 → LeftStanding (stored_part k h) g done end i j → PairFor i j h ⊎ PairFor i j g
either_stored k h g done end i j stored none ended few l = either_left h g done end i j none ended few (subst (λ (f : History). LeftStanding f g done end i j) (stored_whole k h stored none) l)

-- ---- the history doesn't depend on the sink

pub holds_sink : (k : CommitterState) (disks : Pair) (old new : SinkState) (h : History) → Holds true (world k disks old) h → Holds true (world k disks new) h
holds_sink k disks old new h p = record { told = p.told; keeps = p.keeps; disks = p.disks }

-- ---- a window of one job

module _ (w : World) (sink : SinkState) (mid t : World) (n m : NotaryState) (job : Job) (failed : Bool) (line : List ℕ) (takes : TakesJob true (world w.kept w.disks sink) mid n m (step_in n m failed 0 1 line) job) where
  abbrev v : World
  v = world w.kept w.disks sink

  abbrev step : Step
  step = step_in n m failed 0 1 line

  abbrev behind : History → History
  behind h = close (after_job h step job)

  abbrev due : History → List Due
  due h = due_of h step job ∷ []

  holds_there : (h : History) → Holds true w h → Holds true v h
  holds_there h p = record { told = p.told; keeps = p.keeps; disks = p.disks }

  module _ (flush : Goes true mid close (λ h. []) t) where
    way : Goes true v behind due t
    way = goes_then true v mid t (λ h. after_job h step job) close due (λ h. []) takes.goes flush

    -- of one line that became due, all is written
    all_due : (h : History) (done : List Due) → w.kept.dues ≡ [] → t.kept.dues ≡ [] → w.kept.dues ++ due h ≡ done ++ t.kept.dues → done ≡ due h
    all_due h done none written split = sym (ap (λ l. l ++ due h) (sym none) ∙ split ∙ ap (λ l. done ++ l) written ∙ append-nil done)

    pub window_taken : w.kept.dues ≡ [] → t.kept.dues ≡ [] → sink.held ≡ Some [] → (held : List ℕ) → t.sink.held ≡ Some held → TakesWindow w t n m step job
    window_taken none written empty held has =
        let added : held ≡ way.sofar = subst (λ (o : Option (List ℕ)). Appends (Some []) o way.sofar) has (subst (λ (o : Option (List ℕ)). Appends o t.sink.held way.sofar) empty way.appended) in record {
          holds = λ h p. way.holds h (holds_there h p);
          attended = λ h p. takes.attended h (holds_there h p);
          dues = written;
          text = λ h p.
              let x = way.writes h (holds_there h p) in
              has
              ∙ ap Some
              (added ∙ x.text (behind h) (grows_not (behind h)) (close_none (after_job h step job))
              ∙ ap (due_lines (behind h)) (all_due h x.done none written x.split)
              ∙ append-nil (due_line (behind h) (due_of h step job)));
        }

  -- the disk failed at the end of the window
  module _ (stored : w.kept.ended ≡ 0) (ended : EndsOnTheWay true mid close (λ h. []) DiskFault t) where
    way_down : EndsOnTheWay true v behind due DiskFault t
    way_down = ended_then true v mid t (λ h. after_job h step job) close due (λ h. []) DiskFault takes.goes ended

    pub window_stopped : StopsInWindow w t n m step job
    window_stopped = record {
      leaves = λ h p none i j a b.
          let x = way_down.stops h (holds_there h p) in
          either_stored w.kept h (behind h) x.done DiskFault i j stored none (close_none (after_job h step job)) (one_block h step job none) (x.images i j a b);
      attended = λ h p. takes.attended h (holds_there h p);
    }

-- ---- the disk failed at the job itself

module _ (w : World) (sink : SinkState) (t : World) (n m : NotaryState) (job : Job) (stored : w.kept.ended ≡ 0) where
  abbrev u : World
  u = world w.kept w.disks sink

  pub offer_stopped : (failed : Bool) (line : List ℕ) → EndsAt true u t n m (step_in n m failed 0 1 line) job DiskFault → StopsInWindow w t n m (step_in n m failed 0 1 line) job
  offer_stopped failed line e =
      let step : Step = step_in n m failed 0 1 line in
      let g : History → History = λ h. close (after_job h step job) in
      let wide = ended_wider true u t (λ h. after_job h step job) g (λ h. due_of h step job ∷ []) (λ h. []) DiskFault (λ h p. grows_close (after_job h step job)) e.ended in record {
        leaves = λ h p none i j a b.
            let x = wide.stops h (holds_sink w.kept w.disks w.sink sink h p) in
            either_stored w.kept h (g h) x.done DiskFault i j stored none (close_none (after_job h step job)) (one_block h step job none) (x.images i j a b);
        attended = λ h p. e.attended h (holds_sink w.kept w.disks w.sink sink h p);
      }

  -- an anchor without a stamp places nothing
  unplaced : (h : History) (refusal : Option Refusal) (stamp : Option Stamp) → stamp ≡ None → after_judgement refusal (placed_journal h stamp Anchor) h ≡ h
  unplaced h (Some refusal) stamp none = refl
  unplaced h None stamp none = ap (λ (s : Option Stamp). with_waiting (option_map (time_journal (size h)) s) h) none

  unasked_same : (h : History) (line : List ℕ) → h.waiting ≡ [] → close (after_job h (step_in n n true 0 1 line) Anchor) ≡ h
  unfolding after_job with_job
  unasked_same h line none =
      let step : Step = step_in n n true 0 1 line in
      let k = judged_at h Anchor in
      let g = after_judgement (own_refusal real_limits k Anchor) (placed_journal k (stamp_of step) Anchor) k in
      close_settled_job Anchor g ∙ ap close (unplaced k (own_refusal real_limits k Anchor) (stamp_of step) (unstamped n true 0 1 line) ∙ judged_same h Anchor none) ∙ sym (close_settled h none)

  pub unasked_stopped : (line : List ℕ) → EndsUnasked true u t n m (step_in n m true 0 1 line) job DiskFault → StopsBefore w t n m
  unasked_stopped line e = record {
    leaves = λ h p none i j a b.
        let step : Step = step_in n m true 0 1 line in
        let g : History → History = λ h. close (after_job h step job) in
        let wide = ended_wider true u t (λ h. after_job h step job) g (λ h. []) (λ h. []) DiskFault (λ h p. grows_close (after_job h step job)) e.ended in
        let x = wide.stops h (holds_sink w.kept w.disks w.sink sink h p) in
        let same : g h ≡ h = ap (λ (j : Job). close (after_job h step j)) e.anchor ∙ ap (λ (o : NotaryState). close (after_job h (step_in n o true 0 1 line) Anchor)) e.same ∙ unasked_same h line none in
        let either = either_stored w.kept h (g h) x.done DiskFault i j stored none (close_none (after_job h step job)) (one_block h step job none) (x.images i j a b) in
        elim either [ inl at ↦ inl at | inr at ↦ inr (subst (PairFor i j) same at) ];
    same = e.same;
  }

  pub taking_stopped : EndsTaking true u t n m 0 1 job DiskFault → StopsTaking w t n m job
  taking_stopped (inl at) = inl (at.0, λ line. offer_stopped at.0 line (at.1 line))
  taking_stopped (inr at) = inr (unasked_stopped [] (at []))
