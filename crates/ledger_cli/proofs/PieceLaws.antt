-- Lemmas on the lines of a piece, as they are offered to a committer.
use Rattle.std.specs.Prelude.{◌||◌, All}
use Rattle.std.specs.Option.{option_map}
use Rattle.std.proofs.Common.{◌≡◌, ℕ, ◌+◌, ◌≤◌, ◌⊎◌, Bool, true, cond, List, [], ◌∷◌, ◌++◌, length, drop, map, Option, None, Some, inl, inr, refl, ap, sym, subst, ◌∙◌, arith, append_assoc, append-nil, length-append}
use Rattle.std.proofs.lemmas.List.{map-append}
use Rattle.batch_committer.specs.Attending.{step_in, Attended, FailsAtMostOnce, TakesJob, EndsAt, EndsUnasked, EndsTaking}
use Rattle.batch_committer.specs.World.{World, Keeps, Holds, HasRoom, Goes, EndsOnTheWay}
use Rattle.batch_committer.specs.declared.failure.CommitErr.{CommitErr}
use Rattle.batch_committer.specs.declared.failure.CommitErr.TheVariants as end
use Rattle.batch_committer.proofs.Ending.{no_memory}
use Rattle.batch_committer.proofs.Opening.{held_lawful}
use Rattle.batch_committer.proofs.Grouped.{blocks_held}
use Rattle.batch_committer.proofs.WayLaws.{goes_same, goes_then, goes_as, ended_then, ended_as}
use Rattle.lane_work.specs.Offering as lanes
use Rattle.lane_work.specs.Offering.{Stops, OffersLine, RunsAll, RunsSome}
use Rattle.std.specs.Prelude.{slice_index}
use Rattle.lane_work.specs.Making.{IsItemOf, lines_of}
use Rattle.lane_work.specs.Orders.{numbered, IsOrderOf}
use Rattle.lane_work.specs.declared.kinds.LaneLine.{LaneLine}
use Rattle.lane_work.specs.declared.taker.Flow.{Flow}
use Rattle.ledger_book.specs.declared.prepared.Prepared.{Prepared}
use Rattle.ledger_bytes.specs.declared.refusal.Refusal.{Refusal}
use Rattle.ledger_model.specs.Anchors.{is_full_list, stamp_from, stamp_of, time_journal}
use Rattle.ledger_model.specs.Dues.{due_of, dues}
use Rattle.ledger_model.specs.History.{History, id, size, journals, close}
use Rattle.ledger_model.specs.Judgements.{own_refusal}
use Rattle.ledger_model.specs.Limits.{real_limits}
use Rattle.ledger_model.specs.Merge.{said_by}
use Rattle.ledger_model.specs.Notary.{Attends, AttendsJob}
use Rattle.ledger_model.specs.Outcomes.{after_judgement, with_job}
use Rattle.ledger_model.specs.Prepared.{prepared_items, after_jobs, job_dues}
use Rattle.ledger_model.specs.Rules.{job_of, judged_at, after_job, after_step, after_steps}
use Rattle.ledger_model.specs.Scheme.{Scheme}
use Rattle.ledger_model.specs.Step.{Step}
use Rattle.ledger_model.specs.Windows.{Said}
use Rattle.ledger_model.specs.Took.{Took, notary_after}
use Rattle.time_peg.specs.Entries.{Making, NotaryState}
use Rattle.ledger_model.specs.declared.due.Due.{Due}
use Rattle.ledger_model.specs.declared.job.Job.{Job}
use Rattle.ledger_model.specs.declared.job.Job.TheVariants.{Anchor}
use Rattle.ledger_model.proofs.GrowLaws.{close_none, close_settled, grows_job, grows_not, grows_size}
use Rattle.ledger_model.proofs.LawfulLaws.{some_journal}
use Rattle.ledger_model.proofs.PreparedLaws.{after_items, dues_of_items, id_kept}
use Rattle.ledger_model.proofs.TookLaws.{took_then}
use Rattle.ledger_cli.specs.Failures.{FailsIn}
use Rattle.ledger_cli.proofs.FailureLaws.{fails_none, fails_once, fails_then, fails_wider, order_few}
use Rattle.ledger_book.specs.Books.{Kept, Serves}
use Rattle.ledger_model.specs.Lawful.{IsBlock}
use Rattle.ledger_cli.specs.Boards.{Posted, IsFollowed, IsNextTo}
use Rattle.ledger_cli.proofs.NextLaws.{next_job, next_close}
use Rattle.ledger_cli.specs.Pieces.{At, world_at, GoesAlong, FollowsAlong, IsOpen, Settled, Unsettled, TakesPiece, Told, Answered, PieceTaken, PieceBroken, WindowTaken, WindowBroken}

-- ---- a chain of values is one of what they tell

module _ {S X W : Type 0} (tell : S → W) (step : W → X → Flow → W → Type 0) where
  seen_goes : (s : S) (xs : List X) (t : S) → lanes.Goes (λ s x f t. step (tell s) x f (tell t)) s xs t → lanes.Goes step (tell s) xs (tell t)
  unfolding lanes.Goes
  seen_goes s [] t g = ap tell g
  seen_goes s (x ∷ xs) t g = (tell g.0, g.1, seen_goes g.0 xs t g.2)

  seen_stops : (s : S) (xs : List X) (t : S) → Stops (λ s x f t. step (tell s) x f (tell t)) s xs t → Stops step (tell s) xs (tell t)
  seen_stops s xs t g = record { front = g.front; last = g.last; rest = g.rest; split = g.split; mid = tell g.mid; goes = seen_goes s g.front g.mid g.goes; stops = g.stops }

-- ---- a look of the board

pub goes_along : (tells : Bool) (w : World) (old new : Option Posted) (book : Kept) → book ≡ w.kept.book
    → ((first : ℕ) (h g : History) → Serves book g → All IsBlock g.closed → IsNextTo h g → IsFollowed first h old → IsFollowed first g new)
    → (first : ℕ) (h g : History) → Holds tells w g → IsNextTo h g → IsFollowed first h old → IsFollowed first g new
goes_along tells w old new book is look first h g p next f = look first h g (subst (λ (k : Kept). Serves k g) (sym is) p.keeps.serves) (blocks_held tells w g p) next f

-- ---- jobs, on the ledger with an id

-- the history where a line's job is done has the ledger's id
IsKnown : List ℕ → History → Type 0
IsKnown key h = (id h ≡ key) × (1 ≤ size h)

known_on : (key : List ℕ) (h : History) (step : Step) (job : Job) → IsKnown key h → IsKnown key (after_job h step job)
unfolding IsKnown
known_on key h step job k = (id_kept h (after_job h step job) (grows_job h step job) k.1 ∙ k.0, (let more = grows_size h (after_job h step job) (grows_job h step job) in let some = k.1 in omega (arith, more, some)))

-- an anchor that got no stamp places nothing: the open block in front of it has ended
unasked_closes : (h : History) (step : Step) → step.failed ≡ true → after_job h step Anchor ≡ close h
unfolding after_job with_job stamp_of
unasked_closes h step failed =
    let k = close h in
    let stays : (refusal : Option Refusal) → after_judgement refusal None k ≡ k = λ refusal. elim refusal as (λ r. after_judgement r None k ≡ k) [ None ↦ refl | Some why ↦ refl ] in
    subst (λ (b : Bool). close (after_judgement (own_refusal real_limits k Anchor) (option_map (time_journal (size k)) (cond (b || is_full_list step.before) None (stamp_from (length step.before) (drop (length step.before) step.after)))) k) ≡ k) (sym failed)
    (ap close (stays (own_refusal real_limits k Anchor)) ∙ sym (close_settled k (close_none h)))

module _ (scheme : Scheme) (key : List ℕ) (tells : Bool) where
  abbrev jobs_after : List Step → History → History
  jobs_after steps h = after_jobs h (prepared_items scheme key steps)

  abbrev jobs_due : List Step → History → List Due
  jobs_due steps h = job_dues h (prepared_items scheme key steps)

  -- the step of a line with this job is one of what the line asks for
  attends_as : (h : History) (making : Option Making) (step : Step) → IsKnown key h → AttendsJob (judged_at h (job_of scheme key step.line)) making step (job_of scheme key step.line) → Attends scheme h making step
  unfolding IsKnown
  attends_as h making step k a = subst (λ (i : List ℕ). AttendsJob (judged_at h (job_of scheme i step.line)) making step (job_of scheme i step.line)) (sym k.0) a

  step_as : (h : History) (step : Step) → IsKnown key h → after_job h step (job_of scheme key step.line) ≡ after_step scheme h step
  unfolding after_step IsKnown
  step_as h step k = ap (λ (i : List ℕ). after_job h step (job_of scheme i step.line)) (sym k.0)

  -- one item, in the words of its line
  record ItemGoes (s t : At) (x : Said) : Type 0 where
    step : Step
    said : said_by step ≡ x
    goes : Goes tells (world_at s) (jobs_after (step ∷ [])) (jobs_due (step ∷ [])) (world_at t)
    before : step.before ≡ s.notary.entries
    attended : (h : History) → Holds tells (world_at s) h → AttendsJob (judged_at h (job_of scheme key step.line)) s.notary.origin.making step (job_of scheme key step.line) × (notary_after s.notary step ≡ t.notary)

  notary_is : (n m : NotaryState) (failed : Bool) (lane index : ℕ) (line : List ℕ) (g : History) (job : Job) → Attended n m g (step_in n m failed lane index line) job → notary_after n (step_in n m failed lane index line) ≡ m
  notary_is n m failed lane index line g job a = λ i. record { origin = sym a.origin i; entries = m.entries; faults = sym a.count i }

  item_goes : (s t : At) (x : Said) (item : Prepared) → IsItemOf scheme key x item
      → ((failed : Bool) × ((line : List ℕ) → TakesJob tells (world_at s) (world_at t) s.notary t.notary (step_in s.notary t.notary failed item.lane item.index line) item.job))
      → ItemGoes s t x
  item_goes s t x item is g =
      let step = step_in s.notary t.notary g.0 x.lane x.index x.line in
      let takes = subst (λ (y : ℕ × ℕ × Job). TakesJob tells (world_at s) (world_at t) s.notary t.notary (step_in s.notary t.notary g.0 y.0 y.1 x.line) y.2)
      (λ i. (is.0 i, is.1 i, is.2 i)) (g.1 x.line) in record {
        step = step;
        said = refl;
        goes = takes.goes;
        before = refl;
        attended = λ h p. let a = takes.attended h p in (a.list, notary_is s.notary t.notary g.0 x.lane x.index x.line (judged_at h (job_of scheme key x.line)) (job_of scheme key x.line) a);
      }

  -- .. that ended the run
  record ItemEnds (s t : At) (x : Said) (why : CommitErr) : Type 0 where
    step : Step
    said : said_by step ≡ x
    ended : EndsOnTheWay tells (world_at s) (jobs_after (step ∷ [])) (jobs_due (step ∷ [])) why (world_at t)
    took : (h : History) → Holds tells (world_at s) h → IsKnown key h → Took scheme h s.notary (step ∷ []) t.notary

  -- .. before the notary was asked
  record ItemUnasked (s t : At) (x : Said) (why : CommitErr) : Type 0 where
    anchor : job_of scheme key x.line ≡ Anchor
    ended : EndsOnTheWay tells (world_at s) close (λ h. []) why (world_at t)
    same : t.notary ≡ s.notary

  one_took : (h : History) (n m : NotaryState) (step : Step) → IsKnown key h → step.before ≡ n.entries → AttendsJob (judged_at h (job_of scheme key step.line)) n.origin.making step (job_of scheme key step.line) → notary_after n step ≡ m → Took scheme h n (step ∷ []) m
  one_took h n m step k before a is = (before, attends_as h n.origin.making step k a, sym is)

  item_ended : (s t : At) (x : Said) (item : Prepared) (why : CommitErr) → IsItemOf scheme key x item
      → EndsTaking tells (world_at s) (world_at t) s.notary t.notary item.lane item.index item.job why
      → ItemEnds s t x why ⊎ ItemUnasked s t x why
  item_ended s t x item why is (inl g) =
      let step = step_in s.notary t.notary g.0 x.lane x.index x.line in
      let ends = subst (λ (y : ℕ × ℕ × Job). EndsAt tells (world_at s) (world_at t) s.notary t.notary (step_in s.notary t.notary g.0 y.0 y.1 x.line) y.2 why)
      (λ i. (is.0 i, is.1 i, is.2 i)) (g.1 x.line) in inl (record {
        step = step;
        said = refl;
        ended = ends.ended;
        took = λ h p k. let a = ends.attended h p in one_took h s.notary t.notary step k refl a.list (notary_is s.notary t.notary g.0 x.lane x.index x.line (judged_at h (job_of scheme key x.line)) (job_of scheme key x.line) a);
      })
  item_ended s t x item why is (inr g) =
      let step = step_in s.notary t.notary true x.lane x.index x.line in
      let ends = subst (λ (y : ℕ × ℕ × Job). EndsUnasked tells (world_at s) (world_at t) s.notary t.notary (step_in s.notary t.notary true y.0 y.1 x.line) y.2 why)
      (λ i. (is.0 i, is.1 i, is.2 i)) (g x.line) in inr (record {
        anchor = ends.anchor;
        ended =
            ended_as tells (world_at s) (world_at t) (λ h. after_job h step (job_of scheme key x.line)) close (λ h. []) (λ h. []) why
            (λ h p. ap (after_job h step) ends.anchor ∙ unasked_closes h step refl) (λ h p. refl) ends.ended;
        same = ends.same;
      })

  jobs_after-append : (xs ys : List Step) (h : History) → jobs_after ys (jobs_after xs h) ≡ jobs_after (xs ++ ys) h
  jobs_after-append [] ys h = refl
  jobs_after-append (x ∷ xs) ys h = jobs_after-append xs ys (jobs_after (x ∷ []) h)

  jobs_due-append : (xs ys : List Step) (h : History) → jobs_due xs h ++ jobs_due ys (jobs_after xs h) ≡ jobs_due (xs ++ ys) h
  jobs_due-append [] ys h = refl
  jobs_due-append (x ∷ xs) ys h = ap (λ (l : List Due). due_of h x (job_of scheme key x.line) ∷ l) (jobs_due-append xs ys (jobs_after (x ∷ []) h))

  -- how far a chain came
  record Came (s : Told) (xs : List Said) (t : Told) : Type 0 where
    names : t.names ≡ s.names
    end : t.end ≡ s.end
    steps : List Step
    said : map said_by steps ≡ xs
    goes : Goes tells (world_at s.at) (jobs_after steps) (jobs_due steps) (world_at t.at)
    follows : FollowsAlong tells s.at (jobs_after steps) t.at
    took : (h : History) → Holds tells (world_at s.at) h → IsKnown key h → Took scheme h s.at.notary steps t.at.notary
    fails : FailsIn (length xs) s.at.notary t.at.notary
    still : IsOpen tells t.at

  took_on : (h : History) (n m t : NotaryState) (step : Step) (steps : List Step) → IsKnown key h → step.before ≡ n.entries
      → AttendsJob (judged_at h (job_of scheme key step.line)) n.origin.making step (job_of scheme key step.line) → notary_after n step ≡ m
      → Took scheme (jobs_after (step ∷ []) h) m steps t → Took scheme h n (step ∷ steps) t
  took_on h n m t step steps k before a is more = (
    before,
    attends_as h n.origin.making step k a,
    subst (λ (y : History × NotaryState). Took scheme y.0 y.1 steps t) (λ i. (step_as h step k i, sym is i)) more,
  )

  chain_goes : (s : Told) (xs : List Said) (t : Told) → IsOpen tells s.at → lanes.Goes (OffersLine scheme key (Answered tells)) s xs t → Came s xs t
  unfolding lanes.Goes
  chain_goes s [] t open_ g = subst (Came s []) (sym g) (record { names = refl; end = refl; steps = []; said = refl; goes = goes_same tells (world_at s.at); follows = λ first h p f. f; took = λ h p k. refl; fails = fails_none s.at.notary; still = open_ })
  chain_goes s (x ∷ xs) t open_ g =
      let m = g.0 in
      let o = g.1 in
      let more = chain_goes m xs t o.2.2 g.2 in
      let one = item_goes s.at m.at x o.0 o.1 o.2.5 in record {
        names = more.names ∙ o.2.0;
        end = more.end ∙ o.2.1;
        steps = one.step ∷ more.steps;
        said = ap (λ (y : Said). y ∷ map said_by more.steps) one.said ∙ ap (λ (l : List Said). x ∷ l) more.said;
        goes = goes_then tells (world_at s.at) (world_at m.at) (world_at t.at) (jobs_after (one.step ∷ [])) (jobs_after more.steps) (jobs_due (one.step ∷ [])) (jobs_due more.steps) one.goes more.goes;
        follows = λ first h p f.
            let next = jobs_after (one.step ∷ []) h in
            more.follows first next (one.goes.holds h p) (o.2.4 first h next (one.goes.holds h p) (next_job h one.step (job_of scheme key one.step.line)) f);
        took = λ h p k.
            let a = one.attended h p in
            took_on h s.at.notary m.at.notary t.at.notary one.step more.steps k one.before a.0 a.1
            (more.took (jobs_after (one.step ∷ []) h) (one.goes.holds h p) (known_on key h one.step (job_of scheme key one.step.line) k));
        fails = fails_wider (1 + length xs) (length (x ∷ xs)) s.at.notary t.at.notary (omega arith) (fails_then 1 (length xs) s.at.notary m.at.notary t.at.notary (fails_once s.at.notary m.at.notary o.2.3) more.fails);
        still = more.still;
      }

  -- .. and stopped: there, or at an anchor that comes next
  record StopsAtAnchor (s : Told) (steps : List Step) (rest : List Said) (why : CommitErr) (t : Told) : Type 0 where
    said : Said
    later : List Said
    split : rest ≡ said ∷ later
    anchor : job_of scheme key said.line ≡ Anchor
    ended : EndsOnTheWay tells (world_at s.at) (λ h. close (jobs_after steps h)) (jobs_due steps) why (world_at t.at)

  record CameToEnd (s : Told) (xs : List Said) (t : Told) : Type 0 where
    names : t.names ≡ s.names
    why : CommitErr
    end : t.end ≡ Some why
    steps : List Step
    rest : List Said
    split : xs ≡ map said_by steps ++ rest
    ended : EndsOnTheWay tells (world_at s.at) (jobs_after steps) (jobs_due steps) why (world_at t.at) ⊎ StopsAtAnchor s steps rest why t
    took : (h : History) → Holds tells (world_at s.at) h → IsKnown key h → Took scheme h s.at.notary steps t.at.notary
    fails : FailsIn (length xs) s.at.notary t.at.notary

  -- one item more
  fails_on : (s m t : Told) (xs : List Said) (x : Said) (rest : List Said) → Came s xs m → FailsAtMostOnce m.at.notary t.at.notary → FailsIn (length (xs ++ x ∷ rest)) s.at.notary t.at.notary
  fails_on s m t xs x rest c once =
      fails_wider (length xs + 1) (length (xs ++ x ∷ rest)) s.at.notary t.at.notary (let l = length-append xs (x ∷ rest) in omega (arith, l)) (fails_then (length xs) 1 s.at.notary m.at.notary t.at.notary c.fails (fails_once m.at.notary t.at.notary once))

  known_after : (steps : List Step) (h : History) → IsKnown key h → IsKnown key (jobs_after steps h)
  known_after [] h k = k
  known_after (step ∷ steps) h k = known_after steps (jobs_after (step ∷ []) h) (known_on key h step (job_of scheme key step.line) k)

  steps_as : (steps : List Step) (h : History) → IsKnown key h → jobs_after steps h ≡ after_steps scheme h steps
  unfolding IsKnown
  steps_as steps h k = after_items scheme key h steps k.0 k.1

  -- the last item was taken, and its call ended the run
  stops_there : (s m t : Told) (xs : List Said) (x : Said) (rest : List Said) (why : CommitErr) → Came s xs m → t.names ≡ m.names → t.end ≡ Some why → FailsAtMostOnce m.at.notary t.at.notary → ItemEnds m.at t.at x why → CameToEnd s (xs ++ x ∷ rest) t
  stops_there s m t xs x rest why c names end_is once one =
      let last : List Step = one.step ∷ [] in record {
        names = names ∙ c.names;
        why = why;
        end = end_is;
        steps = c.steps ++ last;
        rest = rest;
        split =
            ap (λ (l : List Said). l ++ x ∷ rest) (sym c.said) ∙ ap (λ (y : Said). map said_by c.steps ++ y ∷ rest) (sym one.said)
            ∙ sym (append_assoc (map said_by c.steps) (map said_by last) rest) ∙ ap (λ (l : List Said). l ++ rest) (sym (map-append said_by c.steps last));
        ended =
            inl (ended_as tells (world_at s.at) (world_at t.at) (λ h. jobs_after last (jobs_after c.steps h)) (jobs_after (c.steps ++ last)) (λ h. jobs_due c.steps h ++ jobs_due last (jobs_after c.steps h)) (jobs_due (c.steps ++ last)) why
            (λ h p. jobs_after-append c.steps last h) (λ h p. jobs_due-append c.steps last h)
            (ended_then tells (world_at s.at) (world_at m.at) (world_at t.at) (jobs_after c.steps) (jobs_after last) (jobs_due c.steps) (jobs_due last) why c.goes one.ended));
        took = λ h p k.
            took_then scheme h s.at.notary m.at.notary t.at.notary c.steps last (c.took h p k)
            (subst (λ (i : History). Took scheme i m.at.notary last t.at.notary) (steps_as c.steps h k)
            (one.took (jobs_after c.steps h) (c.goes.holds h p) (known_after c.steps h k)));
        fails = fails_on s m t xs x rest c once;
      }

  -- .. or it wasn't: the notary wasn't asked
  stops_before : (s m t : Told) (xs : List Said) (x : Said) (rest : List Said) (why : CommitErr) → Came s xs m → t.names ≡ m.names → t.end ≡ Some why → FailsAtMostOnce m.at.notary t.at.notary → ItemUnasked m.at t.at x why → CameToEnd s (xs ++ x ∷ rest) t
  stops_before s m t xs x rest why c names end_is once one = record {
    names = names ∙ c.names;
    why = why;
    end = end_is;
    steps = c.steps;
    rest = x ∷ rest;
    split = ap (λ (l : List Said). l ++ x ∷ rest) (sym c.said);
    ended = inr (record {
      said = x;
      later = rest;
      split = refl;
      anchor = one.anchor;
      ended =
          ended_as tells (world_at s.at) (world_at t.at) (λ h. close (jobs_after c.steps h)) (λ h. close (jobs_after c.steps h)) (λ h. jobs_due c.steps h ++ []) (jobs_due c.steps) why
          (λ h p. refl) (λ h p. append-nil (jobs_due c.steps h))
          (ended_then tells (world_at s.at) (world_at m.at) (world_at t.at) (jobs_after c.steps) close (jobs_due c.steps) (λ h. []) why c.goes one.ended);
    });
    took = λ h p k. subst (λ (n : NotaryState). Took scheme h s.at.notary c.steps n) (sym one.same) (c.took h p k);
    fails = fails_on s m t xs x rest c once;
  }

  chain_stops : (s : Told) (xs : List Said) (t : Told) → IsOpen tells s.at → Stops (OffersLine scheme key (Answered tells)) s xs t → CameToEnd s xs t
  chain_stops s xs t open_ g =
      let c = chain_goes s g.front g.mid open_ g.goes in
      let o = g.stops in
      let why = o.2.2.0 in
      subst (λ (l : List Said). CameToEnd s l t) (sym g.split) (elim (item_ended g.mid.at t.at g.last o.0 why o.1 o.2.2.2) [
        | inl one ↦ stops_there s g.mid t g.front g.last g.rest why c o.2.0 o.2.2.1 o.2.1 one
        | inr one ↦ stops_before s g.mid t g.front g.last g.rest why c o.2.0 o.2.2.1 o.2.1 one
      ])

  -- nothing more is offered for want of memory
  lacks : (s : At) (xs : List Step) (t : At) → Goes tells (world_at s) (jobs_after xs) (jobs_due xs) (world_at t) → EndsOnTheWay tells (world_at s) (jobs_after xs) (jobs_due xs) end.NoMemory (world_at t)
  lacks s xs t g =
      ended_as tells (world_at s) (world_at t) (jobs_after xs) (jobs_after xs) (λ h. jobs_due xs h ++ []) (jobs_due xs) end.NoMemory (λ h p. refl) (λ h p. append-nil (jobs_due xs h))
      (ended_then tells (world_at s) (world_at t) (world_at t) (jobs_after xs) (λ h. h) (jobs_due xs) (λ h. []) end.NoMemory g (no_memory tells (world_at t) t.held.kept (λ h. h) (λ h. []) (λ h p. grows_not h)))

  -- ---- jobs are those of the lines, where this is the ledger's id

  module _ (s : At) (key_is : (h : History) → Keeps s.held.kept h → key ≡ id h) (room : HasRoom s.held.kept) where
    known : (h : History) → Holds tells (world_at s) h → IsKnown key h
    unfolding IsKnown
    known h p = (sym (key_is h p.keeps), (let l = held_lawful tells (world_at s) h p room in omega (arith, some_journal (journals h) l.journals_are)))

    due_is : (xs : List Step) (h : History) → Holds tells (world_at s) h → jobs_due xs h ≡ dues scheme h xs
    unfolding IsKnown
    due_is xs h p = let k = known h p in dues_of_items scheme key h xs k.0 k.1

    steps_go : (xs : List Step) (t : At) → Goes tells (world_at s) (jobs_after xs) (jobs_due xs) (world_at t) → Goes tells (world_at s) (λ h. after_steps scheme h xs) (λ h. dues scheme h xs) (world_at t)
    steps_go xs t g = goes_as tells (world_at s) (world_at t) (jobs_after xs) (λ h. after_steps scheme h xs) (jobs_due xs) (λ h. dues scheme h xs) (λ h p. steps_as xs h (known h p)) (due_is xs) g

    steps_end : (xs : List Step) (why : CommitErr) (t : At) → EndsOnTheWay tells (world_at s) (jobs_after xs) (jobs_due xs) why (world_at t) → EndsOnTheWay tells (world_at s) (λ h. after_steps scheme h xs) (λ h. dues scheme h xs) why (world_at t)
    steps_end xs why t g = ended_as tells (world_at s) (world_at t) (jobs_after xs) (λ h. after_steps scheme h xs) (jobs_due xs) (λ h. dues scheme h xs) why (λ h p. steps_as xs h (known h p)) (due_is xs) g

    -- .. at an anchor that comes next
    anchor_end : (xs : List Step) (why : CommitErr) (t : At) → EndsOnTheWay tells (world_at s) (λ h. close (jobs_after xs h)) (jobs_due xs) why (world_at t) → EndsOnTheWay tells (world_at s) (λ h. close (after_steps scheme h xs)) (λ h. dues scheme h xs) why (world_at t)
    anchor_end xs why t g = ended_as tells (world_at s) (world_at t) (λ h. close (jobs_after xs h)) (λ h. close (after_steps scheme h xs)) (jobs_due xs) (λ h. dues scheme h xs) why (λ h p. ap close (steps_as xs h (known h p))) (due_is xs) g

    anchor_is : (xs : List Step) (line : List ℕ) → job_of scheme key line ≡ Anchor → (h : History) → Holds tells (world_at s) h → job_of scheme (id (after_steps scheme h xs)) line ≡ Anchor
    unfolding IsKnown
    anchor_is xs line is h p =
        let k = known h p in
        ap (λ (i : List ℕ). job_of scheme i line) (ap id (sym (steps_as xs h k)) ∙ (known_after xs h k).0) ∙ is

-- ---- what a piece came to

module _ {S : Type 0} (tell : S → Told) (scheme : Scheme) (key : List ℕ) (tells : Bool) (first : List ℕ) (lines : List LaneLine) (s t : S) (open_ : IsOpen tells (tell s).at) (key_is : (h : History) → Keeps (tell s).at.held.kept h → key ≡ id h) where
  all_taken : (order : List Said) → IsOrderOf first lines order → Came scheme key tells (tell s) order (tell t) → PieceTaken scheme tells first lines (tell s).at (tell t).at × IsOpen tells (tell t).at
  all_taken order is c = (
    record {
      steps = c.steps;
      is_order = subst (λ (l : List Said). IsOrderOf first lines l) (sym c.said) is;
      goes = steps_go scheme key tells (tell s).at key_is open_.room c.steps (tell t).at c.goes;
      follows = λ first h p f. subst (λ (g : History). IsFollowed first g (tell t).at.board) (steps_as scheme key tells c.steps h (known scheme key tells (tell s).at key_is open_.room h p)) (c.follows first h p f);
      took = λ h p. c.took h p (known scheme key tells (tell s).at key_is open_.room h p);
      fails = fails_wider (length order) (length lines) (tell s).at.notary (tell t).at.notary (order_few first lines order is) c.fails;
    },
    c.still,
  )

  some_taken : (order : List Said) → IsOrderOf first lines order → (c : CameToEnd scheme key tells (tell s) order (tell t)) → PieceBroken scheme tells first lines c.why (tell s).at (tell t).at
  some_taken order is c = record {
    steps = c.steps;
    rest = c.rest;
    is_order = subst (λ (l : List Said). IsOrderOf first lines l) c.split is;
    ended = elim c.ended [
      | inl e ↦ inl (steps_end scheme key tells (tell s).at key_is open_.room c.steps c.why (tell t).at e)
      | inr e ↦ inr (record {
        said = e.said;
        later = e.later;
        split = e.split;
        anchor = anchor_is scheme key tells (tell s).at key_is open_.room c.steps e.said.line e.anchor;
        ended = anchor_end scheme key tells (tell s).at key_is open_.room c.steps c.why (tell t).at e.ended;
      })
    ];
    took = λ h p. c.took h p (known scheme key tells (tell s).at key_is open_.room h p);
    fails = fails_wider (length order) (length lines) (tell s).at.notary (tell t).at.notary (order_few first lines order is) c.fails;
  }

  pub ran_all : (tell s).end ≡ None → RunsAll (OffersLine scheme key (λ s item f t. Answered tells (tell s) item f (tell t))) first lines s t
      → ((tell t).names ≡ (tell s).names) × TakesPiece scheme tells first lines (tell t).end (tell s).at (tell t).at
  ran_all fresh r =
      let o = OffersLine scheme key (Answered tells) in
      elim r.runs [
        | inl g ↦
            let c = chain_goes scheme key tells (tell s) r.order (tell t) open_ (seen_goes tell o s r.order t g) in
            (c.names, subst (λ (e : Option CommitErr). TakesPiece scheme tells first lines e (tell s).at (tell t).at) (sym (c.end ∙ fresh)) (all_taken r.order r.is_order c))
        | inr g ↦
            let c = chain_stops scheme key tells (tell s) r.order (tell t) open_ (seen_stops tell o s r.order t g) in
            (c.names, subst (λ (e : Option CommitErr). TakesPiece scheme tells first lines e (tell s).at (tell t).at) (sym c.end) (some_taken r.order r.is_order c))
      ]

  pub ran_some : RunsSome (OffersLine scheme key (λ s item f t. Answered tells (tell s) item f (tell t))) first lines s t
      → ((tell t).names ≡ (tell s).names) × TakesPiece scheme tells first lines (Some end.NoMemory) (tell s).at (tell t).at
  ran_some r =
      let g = r.runs in
      let c = chain_goes scheme key tells (tell s) g.front (tell t) open_ (seen_goes tell (OffersLine scheme key (Answered tells)) s g.front t g.goes) in (
        c.names,
        record {
          steps = c.steps;
          rest = g.rest;
          is_order = subst (λ (l : List Said). IsOrderOf first lines l) (g.split ∙ ap (λ (l : List Said). l ++ g.rest) (sym c.said)) r.is_order;
          ended = inl (steps_end scheme key tells (tell s).at key_is open_.room c.steps end.NoMemory (tell t).at (lacks scheme key tells (tell s).at c.steps (tell t).at c.goes));
          took = λ h p. c.took h p (known scheme key tells (tell s).at key_is open_.room h p);
          fails = fails_wider (length g.front) (length lines) (tell s).at.notary (tell t).at.notary (let e = ap length g.split in let l = length-append g.front g.rest in omega (arith, e, l, order_few first lines r.order r.is_order)) c.fails;
        },
      )

-- nothing more is done for want of memory
nothing_more : (tells : Bool) (s t : At) (next : History → History) (due : History → List Due) → Goes tells (world_at s) next due (world_at t) → EndsOnTheWay tells (world_at s) next due end.NoMemory (world_at t)
nothing_more tells s t next due g =
    ended_as tells (world_at s) (world_at t) next next (λ h. due h ++ []) due end.NoMemory (λ h p. refl) (λ h p. append-nil (due h))
    (ended_then tells (world_at s) (world_at t) (world_at t) next (λ h. h) due (λ h. []) end.NoMemory g (no_memory tells (world_at t) t.held.kept (λ h. h) (λ h. []) (λ h p. grows_not h)))

-- ---- pieces and windows

module _ (scheme : Scheme) (tells : Bool) (got first : List ℕ) (items lines : List LaneLine) (s t : At) (first_is : got ≡ first) (lines_are : items ≡ lines) where
  pub piece_taken : TakesPiece scheme tells got items None s t → PieceTaken scheme tells first lines s t
  piece_taken x = subst (λ (y : List ℕ × List LaneLine). PieceTaken scheme tells y.0 y.1 s t) (λ i. (first_is i, lines_are i)) x.0

  pub piece_open : TakesPiece scheme tells got items None s t → IsOpen tells t
  piece_open x = x.1

  pub piece_broken : (why : CommitErr) → TakesPiece scheme tells got items (Some why) s t → PieceBroken scheme tells first lines why s t
  piece_broken why x = subst (λ (y : List ℕ × List LaneLine). PieceBroken scheme tells y.0 y.1 why s t) (λ i. (first_is i, lines_are i)) x

-- its lines were all taken, and nothing more is for want of memory
pub piece_lacks : (scheme : Scheme) (tells : Bool) (first : List ℕ) (lines : List LaneLine) (s t : At) → PieceTaken scheme tells first lines s t → PieceBroken scheme tells first lines end.NoMemory s t
piece_lacks scheme tells first lines s t x = record {
  steps = x.steps;
  rest = [];
  is_order = subst (λ (l : List Said). IsOrderOf first lines l) (sym (append-nil (map said_by x.steps))) x.is_order;
  ended = inl (nothing_more tells s t (λ h. after_steps scheme h x.steps) (λ h. dues scheme h x.steps) x.goes);
  took = x.took;
  fails = x.fails;
}

-- .. at the end of a window
pub window_lacks : (scheme : Scheme) (tells : Bool) (first : List ℕ) (lines : List LaneLine) (s t : At) → WindowTaken scheme tells first lines s t → WindowBroken scheme tells first lines end.NoMemory s t
window_lacks scheme tells first lines s t x = inr (record {
  steps = x.steps;
  is_order = x.is_order;
  ended = nothing_more tells s t (λ h. close (after_steps scheme h x.steps)) (λ h. dues scheme h x.steps) x.goes;
  took = x.took;
  fails = x.fails;
})

-- no line at all
pub piece_empty : (scheme : Scheme) (tells : Bool) (first : List ℕ) (lines : List LaneLine) (s : At) → lines ≡ [] → PieceTaken scheme tells first lines s s
unfolding numbered
piece_empty scheme tells first lines s none = record {
  steps = [];
  is_order = λ k. sym (ap (λ (ls : List LaneLine). numbered (slice_index first k) (lines_of k ls)) none);
  goes = goes_same tells (world_at s);
  follows = λ first h p f. f;
  took = λ h p. refl;
  fails = fails_wider 0 (length lines) s.notary s.notary (omega arith) (fails_none s.notary);
}

module _ (scheme : Scheme) (tells : Bool) (first : List ℕ) (lines : List LaneLine) (s m t : At) (same : t.notary ≡ m.notary) (x : PieceTaken scheme tells first lines s m) where
  took_same : (h : History) → Holds tells (world_at s) h → Took scheme h s.notary x.steps t.notary
  took_same h p = subst (λ (n : NotaryState). Took scheme h s.notary x.steps n) (sym same) (x.took h p)

  fails_same : FailsIn (length lines) s.notary t.notary
  fails_same = subst (FailsIn (length lines) s.notary) (sym same) x.fails

  pub piece_settled : Settled tells m t → PieceTaken scheme tells first lines s t
  piece_settled f = record {
    steps = x.steps;
    is_order = x.is_order;
    goes =
        goes_as tells (world_at s) (world_at t) (λ h. after_steps scheme h x.steps) (λ h. after_steps scheme h x.steps) (λ h. dues scheme h x.steps ++ []) (λ h. dues scheme h x.steps)
        (λ h p. refl) (λ h p. append-nil (dues scheme h x.steps))
        (goes_then tells (world_at s) (world_at m) (world_at t) (λ h. after_steps scheme h x.steps) (λ h. h) (λ h. dues scheme h x.steps) (λ h. []) x.goes f.goes);
    follows = λ first h p y. subst (IsFollowed first (after_steps scheme h x.steps)) (sym f.board) (x.follows first h p y);
    took = took_same;
    fails = fails_same;
  }

  pub piece_unsettled : (why : CommitErr) → Unsettled tells why m t → PieceBroken scheme tells first lines why s t
  piece_unsettled why f = record {
    steps = x.steps;
    rest = [];
    is_order = subst (λ (l : List Said). IsOrderOf first lines l) (sym (append-nil (map said_by x.steps))) x.is_order;
    ended =
        inl
        (ended_as tells (world_at s) (world_at t) (λ h. after_steps scheme h x.steps) (λ h. after_steps scheme h x.steps) (λ h. dues scheme h x.steps ++ []) (λ h. dues scheme h x.steps) why
        (λ h p. refl) (λ h p. append-nil (dues scheme h x.steps))
        (ended_then tells (world_at s) (world_at m) (world_at t) (λ h. after_steps scheme h x.steps) (λ h. h) (λ h. dues scheme h x.steps) (λ h. []) why x.goes f.ended));
    took = took_same;
    fails = fails_same;
  }

  pub window_taken : Goes tells (world_at m) close (λ h. []) (world_at t) → GoesAlong tells m t → WindowTaken scheme tells first lines s t
  window_taken f along = record {
    steps = x.steps;
    is_order = x.is_order;
    goes =
        goes_as tells (world_at s) (world_at t) (λ h. close (after_steps scheme h x.steps)) (λ h. close (after_steps scheme h x.steps)) (λ h. dues scheme h x.steps ++ []) (λ h. dues scheme h x.steps)
        (λ h p. refl) (λ h p. append-nil (dues scheme h x.steps))
        (goes_then tells (world_at s) (world_at m) (world_at t) (λ h. after_steps scheme h x.steps) close (λ h. dues scheme h x.steps) (λ h. []) x.goes f);
    follows = λ start h p k.
        let last = after_steps scheme h x.steps in
        along start last (close last) (f.holds last (x.goes.holds h p)) (next_close last) (x.follows start h p k);
    took = took_same;
    fails = fails_same;
  }

  pub flush_broken : (why : CommitErr) → EndsOnTheWay tells (world_at m) close (λ h. []) why (world_at t) → WindowBroken scheme tells first lines why s t
  flush_broken why f = inr (record {
    steps = x.steps;
    is_order = x.is_order;
    ended =
        ended_as tells (world_at s) (world_at t) (λ h. close (after_steps scheme h x.steps)) (λ h. close (after_steps scheme h x.steps)) (λ h. dues scheme h x.steps ++ []) (λ h. dues scheme h x.steps) why
        (λ h p. refl) (λ h p. append-nil (dues scheme h x.steps))
        (ended_then tells (world_at s) (world_at m) (world_at t) (λ h. after_steps scheme h x.steps) close (λ h. dues scheme h x.steps) (λ h. []) why x.goes f);
    took = took_same;
    fails = fails_same;
  })
