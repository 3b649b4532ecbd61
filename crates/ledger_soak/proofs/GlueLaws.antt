-- What a job does to a soak.
use Rattle.std.specs.Prelude.{Bool, true, false}
use Rattle.std.proofs.Common.{◌≡◌, ℕ, ◌+◌, ◌≤◌, ◌⊎◌, inl, inr, List, cond, length, Option, Some, None, refl, ap, sym, subst, ◌∙◌, arith}
use Rattle.std.proofs.lemmas.Bool.{true≢false}
use Rattle.ledger_bytes.specs.Causes.{count_after}
use Rattle.ledger_model.specs.Pegs.{Pegged}
use Rattle.journal_record.specs.Tags.{tag_key_of}
use Rattle.time_peg.specs.Entries.{NotaryState}
use Rattle.script_lines.specs.Replies.{reply_text}
use Rattle.ledger_book.specs.Books.{Serves}
use Rattle.ledger_book.proofs.StandsLaws.{waiting_count}
use Rattle.ledger_model.specs.History.{History, journals, id, size, close}
use Rattle.ledger_model.specs.Notary.{Attends, AttendsJob}
use Rattle.ledger_model.specs.Proofs.{shown_of, prove_refusal}
use Rattle.ledger_model.specs.Rules.{job_of, judged_at, after_job}
use Rattle.ledger_model.specs.Step.{Step}
use Rattle.ledger_model.specs.Texts.{proof_reply, reply_in, answer_to}
use Rattle.ledger_model.specs.declared.job.Job.{Job}
use Rattle.ledger_model.specs.declared.job.Job.TheVariants.{Ask}
use Rattle.ledger_model.specs.declared.outcome.Query.TheVariants as query
use Rattle.ledger_model.proofs.GrowLaws.{close_none, close_settled}
use Rattle.ledger_model.proofs.LawfulLaws.{some_journal}
use Rattle.notary_ledger.specs.Notaries.{MemShown, memory_origin}
use Rattle.batch_committer.specs.Attending.{step_in, Attended}
use Rattle.batch_committer.specs.World.{Keeps, Holds}
use Rattle.ledger_soak.specs.Auditing.{Follows}
use Rattle.ledger_soak.specs.Lines.{job_line}
use Rattle.ledger_soak.specs.Posts.{notary_state, TakesWindow, StopsTaking, LeavesEither, SameButFaults}
use Rattle.ledger_soak.specs.Runs.{led_to, AreTallied, Recalls, IsAtRest, IsUnderway, IsAnswered, IsInHand}
use Rattle.ledger_soak.specs.Tasks.{task_drawn, state_behind}
use Rattle.ledger_soak.specs.Turns.{answered, kept_in_hand, Turn, Stage, after_turn, answer_in, is_reply, is_proof_reply}
use Rattle.ledger_soak.specs.declared.running.Run.{Run}
use Rattle.ledger_soak.specs.declared.running.Fuses.TheVariants.{Off}
use Rattle.ledger_soak.proofs.PostLaws.{holds_same}
use Rattle.ledger_soak.proofs.ReplyLaws.{asks_for, proof_told}
use Rattle.ledger_soak.proofs.StageLaws.{window_of, window_is, recalls_window, none_failed}

-- the jobs so far are counted in the same way by a run with the same counts
pub tallied_as : (seed : ℕ) (run new : Run) (x : IsUnderway seed run) → new.stop ≡ run.stop → new.stops ≡ run.stops → new.refused ≡ run.refused → new.proofs ≡ run.proofs → new.yes ≡ run.yes → new.lost ≡ run.lost → AreTallied seed new x.past
tallied_as seed run new x stop stops refused proofs accepted lost =
    let t = x.tallied in record {
      is_set_up = t.is_set_up;
      are = rw stop t.are;
      stops_are = stops ∙ t.stops_are;
      refused_are = refused ∙ t.refused_are;
      proofs_are = proofs ∙ t.proofs_are;
      accepted = accepted ∙ t.accepted ∙ sym proofs;
      none_lost = lost ∙ t.none_lost;
    }

module _ (seed : ℕ) (run : Run) (x : IsUnderway seed run) where
  abbrev s : Stage
  s = led_to seed x.past

  abbrev h : History
  h = s.history

  abbrev rests : IsAtRest run.post h
  rests = x.stands.rests

  pub held : Holds true run.post.world h
  held = rests.holds

  pub keeps : Keeps run.post.world.kept h
  keeps = rests.holds.keeps

  pub serves : Serves run.post.world.kept.book h
  serves = rests.holds.keeps.serves

  -- no journal waits
  pub settled : run.post.world.kept.book.sealed ≡ run.post.world.kept.book.size
  settled = omega (arith, waiting_count run.post.world.kept.book h serves.stands, ap length rests.none)

  some : 1 ≤ size h
  some = some_journal (journals h) serves.stands.lawful

  -- ---- fuses

  pub armed_so : (new : Run) → new.draws ≡ run.draws → SameButFaults run.post.world new.post.world → new.post.ended ≡ run.post.ended → new.notary ≡ run.notary → new.auditor ≡ run.auditor → new.receipts.items ≡ run.receipts.items → new.taken ≡ run.taken
      → new.stop ≡ run.stop → new.stops ≡ run.stops → new.refused ≡ run.refused → new.proofs ≡ run.proofs → new.yes ≡ run.yes → new.lost ≡ run.lost → (run.fuses ≡ Off → new.fuses ≡ Off) → IsUnderway seed new
  armed_so new draws same ended notary auditor receipts taken stop stops refused proofs accepted lost off = record {
    past = x.past;
    tallied = tallied_as seed run new x stop stops refused proofs accepted lost;
    taken = taken ∙ x.taken;
    stands = record {
      draws = ap (λ d. d.state) draws ∙ x.stands.draws;
      rests = record {
        holds = holds_same run.post.world new.post.world same h held;
        none = rests.none;
        dues = ap (λ k. k.dues) same.kept ∙ rests.dues;
        open_now = ended ∙ rests.open_now;
      };
      list = ap (λ n. n.entries) notary ∙ x.stands.list;
      unfailed = ap (λ n. n.faults) notary ∙ x.stands.unfailed;
      kept = record {
        pegged = x.stands.kept.pegged;
        follows = subst (Follows h s.entries) (sym auditor) x.stands.kept.follows;
        receipts_held = rw receipts x.stands.kept.receipts_held;
      };
      unfused = λ none. off (x.stands.unfused (sym stop ∙ none));
      first = λ stopped. off (x.stands.first stopped);
    };
  }

  -- ---- a job

  module _ (new : Run) (job : Job) (n : MemShown) (job_is : (g : History) → Keeps run.post.world.kept g → job ≡ job_of tag_key_of (id g) (job_line (task_drawn run.draws.state (size g)) g)) (draws : new.draws.state ≡ state_behind run.draws.state)
      (list : n.entries ≡ run.notary.entries) (follows : (g : History) → Serves run.post.world.kept.book g → Follows g run.notary.entries run.auditor → Follows g run.notary.entries new.auditor) (receipts : new.receipts.items ≡ run.receipts.items) (well : new.notary.faults ≡ 0) (taken : new.taken ≡ run.taken + 1)
      (fuses : new.fuses ≡ run.fuses) (stop : new.stop ≡ run.stop) (stops : new.stops ≡ run.stops) (refused : new.refused ≡ run.refused) (proofs : new.proofs ≡ run.proofs) (accepted : new.yes ≡ run.yes) (lost : new.lost ≡ run.lost) where
    abbrev line : List ℕ
    line = job_line (task_drawn s.draws (size h)) h

    abbrev asked : Job
    asked = job_of tag_key_of (id h) line

    asked_is : job ≡ asked
    asked_is = job_is h keeps ∙ ap (λ d. job_of tag_key_of (id h) (job_line (task_drawn d (size h)) h)) x.stands.draws

    abbrev step : Bool → Step
    step failed = step_in (notary_state n) (notary_state new.notary) failed 0 1 line

    list_at : n.entries ≡ s.entries
    list_at = list ∙ x.stands.list

    attends_so : (failed : Bool) → Attended (notary_state n) (notary_state new.notary) (judged_at h job) (step failed) job → Attends tag_key_of h memory_origin.making (step failed)
    attends_so failed a = subst (λ j. AttendsJob (judged_at h j) memory_origin.making (step failed) j) asked_is a.list

    unfailed_so : (failed : Bool) → Attended (notary_state n) (notary_state new.notary) (judged_at h job) (step failed) job → failed ≡ false
    unfailed_so failed a = none_failed failed n.faults new.notary.faults a.count well

    tallied_now : AreTallied seed new x.past
    tallied_now = tallied_as seed run new x stop stops refused proofs accepted lost

    -- what the auditor knew is of the notary's list
    followed : Follows h run.notary.entries run.auditor
    followed = subst (λ es. Follows h es run.auditor) (sym x.stands.list) x.stands.kept.follows

    kept_now : Recalls new.auditor new.receipts.items h s.entries
    kept_now = record {
      pegged = x.stands.kept.pegged;
      follows = subst (λ es. Follows h es new.auditor) x.stands.list (follows h serves followed);
      receipts_held = rw receipts x.stands.kept.receipts_held;
    }

    window_so : (failed : Bool) → close (after_job h (step failed) job) ≡ window_of h (step failed)
    window_so failed = ap (λ j. close (after_job h (step failed) j)) asked_is ∙ sym (window_is h (step failed))

    -- it was answered
    module _ (failed : Bool) (w : TakesWindow run.post.world new.post.world (notary_state n) (notary_state new.notary) (step failed) job) (open_now : new.post.ended ≡ false) (given : Option (List ℕ))
        (line_is : (g : History) (m : ℕ) → job ≡ Ask (query.Prove m) → Serves run.post.world.kept.book g → Pegged g run.notary.entries → Follows g run.notary.entries run.auditor → n.faults ≡ 0 → prove_refusal g m ≡ None
        → given ≡ Some (reply_text 0 1 (proof_reply (shown_of g run.notary.entries m)))) where
      abbrev turn : Turn
      turn = record { step = step failed; fate = answered }

      attended_now : Attends tag_key_of h memory_origin.making (step failed)
      attended_now = attends_so failed (w.attended h held)

      unfaulted : n.faults ≡ 0
      unfaulted =
          let a = w.attended h held in
          sym (a.count ∙ ap (λ b. cond b (count_after n.faults) n.faults) (unfailed_so failed a)) ∙ well

      answer_is : answer_to h (step failed) job ≡ answer_in s turn
      answer_is = ap (answer_to h (step failed)) asked_is

      text_now : new.post.world.sink.held ≡ Some (reply_text 0 1 (reply_in (close (after_job h (step failed) job)) (answer_in s turn)))
      text_now = w.text h held ∙ ap (λ a. Some (reply_text 0 1 (reply_in (close (after_job h (step failed) job)) a))) answer_is

      given_now : is_reply is_proof_reply (answer_in s turn) ≡ true → given ≡ new.post.world.sink.held
      given_now is =
          let found = asks_for h (step failed) asked is in
          let told = proof_told h (step failed) found.0 (unfailed_so failed (w.attended h held)) (subst (λ j. is_reply is_proof_reply (answer_to h (step failed) j) ≡ true) found.1 is) in
          let same = close_settled h rests.none in
          let stays : new.notary.entries ≡ n.entries = (subst (λ j. AttendsJob (judged_at h j) memory_origin.making (step failed) j) found.1 attended_now).list in
          line_is h found.0 (asked_is ∙ found.1) serves (subst (Pegged h) (sym x.stands.list) x.stands.kept.pegged) followed unfaulted (subst (λ g. prove_refusal g found.0 ≡ None) (sym same) told.unrefused)
          ∙ ap (λ es. Some (reply_text 0 1 (proof_reply (shown_of h es found.0)))) (sym list ∙ sym stays)
          ∙ ap (λ g. Some (reply_text 0 1 (proof_reply (shown_of g new.notary.entries found.0)))) same
          ∙ ap (λ a. Some (reply_text 0 1 (reply_in (close (after_job h (step failed) job)) a))) (sym told.answer_is)
          ∙ ap (λ j. Some (reply_text 0 1 (reply_in (close (after_job h (step failed) job)) (answer_to h (step failed) j)))) (sym found.1)
          ∙ sym text_now

      pub answered_so : IsAnswered seed new turn given
      answered_so = record {
        past = x.past;
        tallied = tallied_now;
        taken = taken ∙ ap (λ k. k + 1) x.taken;
        is_turn = record {
          line_is = refl;
          lane_is = refl;
          index_is = refl;
          list_is = list_at;
          unfailed = unfailed_so failed (w.attended h held);
          part = attended_now;
          unfused = λ none. refl;
          first = λ stopped. refl;
        };
        was_answered = refl;
        stands = record {
          draws = draws ∙ ap state_behind x.stands.draws;
          rests = record {
            holds = subst (Holds true new.post.world) (window_so failed) (w.holds h held);
            none = ap (λ (g : History). g.waiting) (sym (window_so failed)) ∙ close_none (after_job h (step failed) job);
            dues = w.dues;
            open_now = open_now;
          };
          list = refl;
          unfailed = well;
          kept = recalls_window new.auditor new.receipts.items h (step failed) some attended_now (subst (Recalls new.auditor new.receipts.items h) (sym list_at) kept_now);
          unfused = λ none. fuses ∙ x.stands.unfused (sym stop ∙ none);
          first = λ stopped. absurd (true≢false (sym stopped));
        };
        text = (close (after_job h (step failed) job), text_now);
        line = given_now;
      }

    -- it was in hand at a stop
    in_hand_with : (failed : Bool) → failed ≡ false → (LeavesEither new.post.world.disks h (after_turn kept_in_hand h (step failed)) × Attends tag_key_of h memory_origin.making (step failed))
        ⊎ (LeavesEither new.post.world.disks h h × (new.notary.entries ≡ n.entries)) → IsInHand seed new (step failed)
    in_hand_with failed unfailed leaves = record {
      past = x.past;
      tallied = tallied_now;
      taken = taken ∙ ap (λ k. k + 1) x.taken;
      draws = draws ∙ ap state_behind x.stands.draws;
      line_is = refl;
      lane_is = refl;
      index_is = refl;
      list_is = list_at;
      unfailed = unfailed;
      list = refl;
      well = well;
      none = rests.none;
      some = some;
      leaves = leaves;
      kept = kept_now;
      unfused = λ none. fuses ∙ x.stands.unfused (sym stop ∙ none);
      first = λ stopped. fuses ∙ x.stands.first stopped;
    }

    pub in_hand_so : StopsTaking run.post.world new.post.world (notary_state n) (notary_state new.notary) job → (step : Step) × IsInHand seed new step
    in_hand_so (inl both) =
        let e = both.1 line in (
          step both.0,
          in_hand_with both.0 (unfailed_so both.0 (e.attended h held))
              (inl (subst (LeavesEither new.post.world.disks h) (window_so both.0) (e.leaves h held rests.none), attends_so both.0 (e.attended h held))),
        )
    in_hand_so (inr e) = (step false, in_hand_with false refl (inr (e.leaves h held rests.none, ap (λ (k : NotaryState). k.entries) e.same)))
