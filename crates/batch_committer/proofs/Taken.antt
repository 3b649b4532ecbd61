-- A job is taken, and the notary takes part.
use Rattle.std.specs.Prelude.{Bool, true, false}
use Rattle.std.proofs.Common.{◌≡◌, ℕ, ◌⊎◌, inl, inr, List, [], refl, subst}
use Rattle.ledger_io.specs.Outside.{SinkState}
use Rattle.ledger_model.specs.Anchors.{stamp_of}
use Rattle.ledger_model.specs.History.{History}
use Rattle.ledger_model.specs.Limits.{real_limits}
use Rattle.ledger_model.specs.Outcomes.{with_job}
use Rattle.ledger_model.specs.Rules.{judged_at, settled_history, after_job}
use Rattle.ledger_model.specs.Step.{Step}
use Rattle.ledger_model.specs.declared.job.Job.{Job}
use Rattle.ledger_model.specs.declared.job.Job.TheVariants.{Anchor}
use Rattle.ledger_model.proofs.GrowLaws.{grows_after, grows_settled}
use Rattle.time_peg.specs.Entries.{NotaryState}
use Rattle.batch_committer.specs.Attending.{step_in, Attended, TakesJob, EndsTaking, TakesIn, EndsIn}
use Rattle.batch_committer.specs.World.{CommitterState, Pair, World, world, Goes, EndsOnTheWay}
use Rattle.batch_committer.specs.declared.failure.CommitErr.TheVariants.{Closed}
use Rattle.batch_committer.specs.declared.failure.CommitErr.{CommitErr}
use Rattle.batch_committer.proofs.Attends.{untouched_by}
use Rattle.batch_committer.proofs.Offering.{offer_goes, offer_unended, offer_unjudged, offer_unfilled, after_is}
use Rattle.batch_committer.proofs.WayLaws.{ended_then, ended_wider, ended_as, never_closed}

module _ (tells : Bool) (w m n t : World) (p q : NotaryState) (lane index : ℕ) (job : Job) (x : Goes tells w (λ h. judged_at h job) (λ h. []) m) where
  -- it is done
  pub taken : (failed : Bool) (line : List ℕ) → TakesIn tells m n p q (step_in p q failed lane index line) job → Goes tells n (settled_history job) (λ g. []) t → TakesJob tells w t p q (step_in p q failed lane index line) job
  taken failed line y z = record {
    goes = offer_goes tells w m n t (step_in p q failed lane index line) job x y.goes z;
    attended = λ h held. y.attended (judged_at h job) (x.holds h held);
  }

  -- the block that it fills couldn't be ended
  pub unfilled : (end : CommitErr) (failed : Bool) → ((line : List ℕ) → TakesIn tells m n p q (step_in p q failed lane index line) job) → EndsOnTheWay tells n (settled_history job) (λ g. []) end t → EndsTaking tells w t p q lane index job end
  unfilled end failed y z = inl (
    failed,
    λ line. record {
      ended = offer_unfilled tells w m n t (step_in p q failed lane index line) job end x (y line).goes z;
      attended = λ h held. (y line).attended (judged_at h job) (x.holds h held);
    },
  )

  -- an anchor that the notary didn't answer to
  unanswered : (step : Step) (end : CommitErr) → EndsOnTheWay tells m (λ g. with_job real_limits (stamp_of step) g job) (λ g. []) end t → EndsOnTheWay tells w (λ h. after_job h step job) (λ h. []) end t
  unanswered step end y =
      ended_as tells w t (λ h. settled_history job (with_job real_limits (stamp_of step) (judged_at h job) job)) (λ h. after_job h step job) (λ h. []) (λ h. []) end
      (λ h held. after_is h step job) (λ h held. refl)
      (ended_wider tells w t (λ h. with_job real_limits (stamp_of step) (judged_at h job) job) (λ h. settled_history job (with_job real_limits (stamp_of step) (judged_at h job) job)) (λ h. []) (λ h. []) end
      (λ h held. grows_settled job (with_job real_limits (stamp_of step) (judged_at h job) job))
      (ended_then tells w m t (λ h. judged_at h job) (λ g. with_job real_limits (stamp_of step) g job) (λ h. []) (λ g. []) end x y))

  -- it couldn't be judged
  pub unjudged : (end : CommitErr) → EndsIn tells m t p q lane index job end → EndsTaking tells w t p q lane index job end
  unjudged end (inl y) = inl (
    y.0,
    λ line. record {
      ended = offer_unjudged tells w m m t (step_in p q y.0 lane index line) job end x (y.1 line).ended;
      attended = λ h held. (y.1 line).attended (judged_at h job) (x.holds h held);
    },
  )
  unjudged end (inr y) = inr (λ line. record {
    ended = unanswered (step_in p q true lane index line) end (y line).ended;
    anchor = (y line).anchor;
    same = (y line).same;
  })

-- the block before it couldn't be ended: the notary wasn't asked
pub unended : (tells : Bool) (w t : World) (p : NotaryState) (lane index : ℕ) (job : Job) (end : CommitErr) → EndsOnTheWay tells w (λ h. judged_at h job) (λ h. []) end t → EndsTaking tells w t p p lane index job end
unended tells w t p lane index job end x = by (untouched_by p job) where
  by : ((h : History) (lane index : ℕ) (line : List ℕ) → Attended p p h (step_in p p false lane index line) job) ⊎ (job ≡ Anchor) → EndsTaking tells w t p p lane index job end
  by (inl y) = inl (false, λ line. record { ended = offer_unended tells w w w t (step_in p p false lane index line) job end x; attended = λ h held. y (judged_at h job) lane index line })
  by (inr is) = inr (λ line. record {
    ended = ended_wider tells w t (λ h. judged_at h job) (λ h. after_job h (step_in p p true lane index line) job) (λ h. []) (λ h. []) end (λ h held. grows_after h (step_in p p true lane index line) job) x;
    anchor = is;
    same = refl;
  })

-- the same for what is kept, by an equation
pub takes_at : (tells : Bool) (k0 k1 : CommitterState) → k0 ≡ k1 → (disks : Pair) (sink : SinkState) (t : World) (p q : NotaryState) (step : Step) (job : Job) → TakesJob tells (world k0 disks sink) t p q step job → TakesJob tells (world k1 disks sink) t p q step job
takes_at tells k0 k1 is disks sink t p q step job x = subst (λ k. TakesJob tells (world k disks sink) t p q step job) is x

pub ends_at : (tells : Bool) (k0 k1 : CommitterState) → k0 ≡ k1 → (disks : Pair) (sink : SinkState) (t : World) (p q : NotaryState) (lane index : ℕ) (job : Job) (end : CommitErr) → EndsTaking tells (world k0 disks sink) t p q lane index job end → EndsTaking tells (world k1 disks sink) t p q lane index job end
ends_at tells k0 k1 is disks sink t p q lane index job end x = subst (λ k. EndsTaking tells (world k disks sink) t p q lane index job end) is x

pub never_ends_closed : (tells : Bool) (w t : World) (p q : NotaryState) (lane index : ℕ) (job : Job) → EndsTaking tells w t p q lane index job Closed → ⊥
never_ends_closed tells w t p q lane index job (inl x) = never_closed tells w t _ _ Closed refl (x.1 []).ended
never_ends_closed tells w t p q lane index job (inr x) = never_closed tells w t _ _ Closed refl (x []).ended
