-- A soak from one job to the next.
use Rattle.std.specs.Prelude.{Bool, true, false, not, ◌&&◌, nat_le, All, min, IfSome}
use Rattle.std.specs.List.{count_by}
use Rattle.std.proofs.Common.{◌≡◌, ℕ, ◌+◌, ◌-◌, ◌^◌, ◌<◌, ◌≤◌, ◌⊎◌, inl, inr, cond, List, [], ◌∷◌, ◌++◌, length, Option, None, refl, ap, sym, subst, ◌∙◌, arith, length-append}
use Rattle.std.proofs.lemmas.Bool.{true≢false}
use Rattle.std.proofs.lemmas.List.Elements.{All-head, All-tail, All-nil}
use Rattle.std.proofs.lemmas.List.Sums.{sum_by-cons}
use Rattle.audit_core.proofs.RootLaws.{same_bytes}
use Rattle.journal_record.specs.Tags.{tag_key_of}
use Rattle.ledger_model.specs.History.{History, id, size, point, root, close}
use Rattle.ledger_model.specs.Notary.{Attends, AttendsJob}
use Rattle.ledger_model.specs.Genesis.{new_ledger}
use Rattle.ledger_model.specs.Rules.{job_of, judged_at, after_job, after_step}
use Rattle.ledger_model.specs.Took.{Took}
use Rattle.ledger_model.proofs.PegLaws.{pegged_new, pegged_windows}
use Rattle.time_peg.specs.Entries.{NotaryState}
use Rattle.time_peg.proofs.EntryLaws.{list_empty}
use Rattle.ledger_model.specs.Step.{Step}
use Rattle.ledger_model.proofs.GrowLaws.{close_none, grows_size}
use Rattle.ledger_model.proofs.DueLaws.{grows_steps}
use Rattle.ledger_model.proofs.PreparedLaws.{id_kept}
use Rattle.ledger_open.specs.Standing.{PairFor}
use Rattle.ledger_model.specs.declared.job.Job.{Job}
use Rattle.batch_committer.specs.Attending.{step_in, TakesJob}
use Rattle.batch_committer.specs.World.{World, Holds, Goes}
use Rattle.script_lines.specs.declared.reply.Reply.{Reply as AnyReply}
use Rattle.notary_ledger.specs.Notaries.{memory_origin}
use Rattle.ledger_soak.specs.Auditing.{IsHeadOfFirst, IsListHead, Follows, is_found, is_lost}
use Rattle.ledger_soak.specs.Posts.{Posted, OpensLeft}
use Rattle.ledger_soak.specs.Runs.{IsPlaced, IsReady, Past, begun_at, led_to, AreTallied, IsHeld, Recalls, IsAtRest, IsAtStage, IsUnderway, IsAnswered, IsInHand}
use Rattle.ledger_soak.specs.Lines.{member_line}
use Rattle.ledger_soak.specs.Turns.{soak_genesis, Fate, answered, kept_in_hand, lost_in_hand, Turn, Stage, TakesPart, IsTurn, AreTurns, next_stage, after_turn, turn_count, was_in_hand, was_stopped, was_answered_by, is_no, is_proof_reply, is_reply, answer_in}
use Rattle.ledger_soak.specs.Soaks.{IsSoaked, IsFaultless, first_stage, silent_notary}
use Rattle.ledger_soak.specs.declared.summary.Summary.{Summary}
use Rattle.ledger_bytes.specs.Digests.{digest}
use Rattle.ledger_soak.specs.declared.receipts.Receipt.{Receipt}
use Rattle.ledger_soak.specs.declared.running.Run.{Run}
use Rattle.ledger_soak.specs.declared.running.Fuses.TheVariants.{Off}
use Rattle.ledger_soak.proofs.ReplyLaws.{TellsAnswer}
use Rattle.ledger_soak.proofs.StageLaws.{recalls_window, recalls_list, window_is}
use Rattle.ledger_soak.proofs.TurnLaws.{turns_more, last_more, count_more, count_few, stops_few, none_stopped}

-- ---- receipts that are held aren't lost

not_lost : (h : History) (r : Receipt) → IsHeld h r → is_lost h r ≡ false
not_lost h r held =
    ap (λ o. nat_le (point h) r.jsn && not (is_found o r.leaf)) held
    ∙ ap (λ b. nat_le (point h) r.jsn && not b) (same_bytes r.leaf.0)
    ∙ by_kept (nat_le (point h) r.jsn) where
      by_kept : (b : Bool) → b && false ≡ false
      by_kept true = refl
      by_kept false = refl

pub none_lost : (h : History) (rs : List Receipt) → All (IsHeld h) rs → count_by (is_lost h) rs ≡ 0
none_lost h [] all = refl
none_lost h (r ∷ rs) all =
    let one : ℕ = 1 in
    let first : cond (is_lost h r) one 0 ≡ 0 = ap (λ b. cond b one 0) (not_lost h r (All-head (IsHeld h) r rs all)) in
    omega (arith, sum_by-cons (λ (x : Receipt). cond (is_lost h x) 1 0) r rs, first, none_lost h rs (All-tail (IsHeld h) r rs all))

-- ---- a job more

module _ (seed : ℕ) (p : Past) (t : Turn) where
  abbrev more : Past
  more = record { setup = p.setup; notary = p.notary; turns = p.turns ++ t ∷ [] }

  led_more : led_to seed more ≡ next_stage (led_to seed p) t
  led_more = last_more (begun_at seed p) p.turns t

  -- a test of how it went
  abbrev so : (Stage → Turn → Bool) → Bool
  so is_so = is_so (led_to seed p) t

  count_is : (is_so : Stage → Turn → Bool) (old new : ℕ) → old ≡ turn_count is_so (begun_at seed p) p.turns → new ≡ old + cond (so is_so) 1 0 → new ≡ turn_count is_so (begun_at seed more) more.turns
  count_is is_so old new was is = is ∙ ap (λ n. n + cond (so is_so) 1 0) was ∙ sym (count_more is_so (begun_at seed p) p.turns t)

  tallied_more : (run new : Run) → AreTallied seed run p → IsTurn run.stop (led_to seed p) t → new.stop ≡ run.stop → new.stops ≡ run.stops + cond (was_in_hand t.fate) 1 0
      → new.refused ≡ run.refused + cond (so (was_answered_by is_no)) 1 0 → new.proofs ≡ run.proofs + cond (so (was_answered_by is_proof_reply)) 1 0
      → new.yes ≡ run.yes + cond (so (was_answered_by is_proof_reply)) 1 0 → new.lost ≡ run.lost → AreTallied seed new more
  tallied_more run new x turn stop stops refused proofs accepted lost = record {
    is_set_up = x.is_set_up;
    are = subst (λ n. AreTurns n (begun_at seed more) more.turns) (sym stop) (turns_more run.stop (begun_at seed p) p.turns t x.are turn);
    stops_are = count_is was_stopped run.stops new.stops x.stops_are stops;
    refused_are = count_is (was_answered_by is_no) run.refused new.refused x.refused_are refused;
    proofs_are = count_is (was_answered_by is_proof_reply) run.proofs new.proofs x.proofs_are proofs;
    accepted = accepted ∙ ap (λ n. n + cond (so (was_answered_by is_proof_reply)) 1 0) x.accepted ∙ sym proofs;
    none_lost = lost ∙ x.none_lost;
  }

  underway_more : (new : Run) → AreTallied seed new more → new.taken ≡ length p.turns + 1 → IsAtStage new (next_stage (led_to seed p) t) → IsUnderway seed new
  underway_more new tallied taken stands = record {
    past = more;
    tallied = tallied;
    taken = taken ∙ sym (length-append p.turns (t ∷ []));
    stands = subst (IsAtStage new) (sym led_more) stands;
  }

-- ---- a job was answered

-- one more isn't beyond the end of the type, where no more than so many were counted
pub one_more : (b : Bool) (old all taken : ℕ) → old ≤ all → taken ≡ all + 1 → taken < 2 ^ 64 → min (old + 1) (2 ^ 64 - 1) ≡ old + 1
one_more b old all taken few is low = omega (arith, few, is, low)

answered_so : (is_so : AnyReply → Bool) (s : Stage) (t : Turn) → t.fate ≡ answered → was_answered_by is_so s t ≡ is_reply is_so (answer_in s t)
answered_so is_so s t is = ap (λ f. not (was_in_hand f) && is_reply is_so (answer_in s t)) is

module _ (seed : ℕ) (run : Run) (t : Turn) (accepted : Option (List ℕ)) (x : IsAnswered seed run t accepted) (low : run.taken < 2 ^ 64) where
  abbrev s : Stage
  s = led_to seed x.past

  pub refused_low : min (run.refused + 1) (2 ^ 64 - 1) ≡ run.refused + 1
  refused_low = omega (arith, x.tallied.refused_are, count_few (was_answered_by is_no) (begun_at seed x.past) x.past.turns, x.taken, low)

  pub proofs_low : min (run.proofs + 1) (2 ^ 64 - 1) ≡ run.proofs + 1
  proofs_low = omega (arith, x.tallied.proofs_are, count_few (was_answered_by is_proof_reply) (begun_at seed x.past) x.past.turns, x.taken, low)

  pub yes_low : min (run.yes + 1) (2 ^ 64 - 1) ≡ run.yes + 1
  yes_low = omega (arith, x.tallied.accepted, x.tallied.proofs_are, count_few (was_answered_by is_proof_reply) (begun_at seed x.past) x.past.turns, x.taken, low)

  pub answer_counted : (new : Run) (refused proved : Bool) → TellsAnswer (answer_in s t) refused proved
      → new.stop ≡ run.stop → new.stops ≡ run.stops → new.lost ≡ run.lost → new.taken ≡ run.taken
      → new.refused ≡ run.refused + cond refused 1 0 → new.proofs ≡ run.proofs + cond proved 1 0 → new.yes ≡ run.yes + cond proved 1 0
      → new.draws ≡ run.draws → new.post ≡ run.post → new.notary ≡ run.notary → new.auditor ≡ run.auditor
      → All (IsHeld (next_stage s t).history) new.receipts.items → (run.stop ≡ 0 → new.fuses ≡ Off) → IsUnderway seed new
  answer_counted new refused proved tells stop stops lost taken refused_is proofs_is yes_is draws post notary auditor receipts unfused =
      let at = x.stands in
      let no_so : was_answered_by is_no s t ≡ refused = answered_so is_no s t x.was_answered ∙ tells.no_is in
      let proof_so : was_answered_by is_proof_reply s t ≡ proved = answered_so is_proof_reply s t x.was_answered ∙ tells.proof_is in
      let tallied = tallied_more seed x.past t run new x.tallied x.is_turn stop
      (stops ∙ sym (ap (λ f. run.stops + cond (was_in_hand f) 1 0) x.was_answered ∙ nothing run.stops))
      (refused_is ∙ ap (λ b. run.refused + cond b 1 0) (sym no_so))
      (proofs_is ∙ ap (λ b. run.proofs + cond b 1 0) (sym proof_so))
      (yes_is ∙ ap (λ b. run.yes + cond b 1 0) (sym proof_so)) lost in
      underway_more seed x.past t new tallied (taken ∙ x.taken)
      (record {
        draws = ap (λ d. d.state) draws ∙ at.draws;
        rests = subst (λ q. IsAtRest q (next_stage s t).history) (sym post) at.rests;
        list = ap (λ n. n.entries) notary ∙ at.list;
        unfailed = ap (λ n. n.faults) notary ∙ at.unfailed;
        kept = record {
          pegged = at.kept.pegged;
          follows = subst (Follows (next_stage s t).history (next_stage s t).entries) (sym auditor) at.kept.follows;
          receipts_held = receipts;
        };
        unfused = λ none. unfused (sym stop ∙ none);
        first = λ stopped. absurd (true≢false (sym stopped ∙ ap was_in_hand x.was_answered));
      }) where
        nothing : (n : ℕ) → n + 0 ≡ n
        nothing n = omega arith

pub plus_none : (n : ℕ) → n ≡ n + 0
plus_none n = omega arith

-- the same but for its fuses
pub record SameButFuses (run new : Run) : Type 0 where
  pub draws : new.draws ≡ run.draws
  pub post : new.post ≡ run.post
  pub notary : new.notary ≡ run.notary
  pub auditor : new.auditor ≡ run.auditor
  pub receipts : new.receipts ≡ run.receipts
  pub stop : new.stop ≡ run.stop
  pub taken : new.taken ≡ run.taken
  pub stops : new.stops ≡ run.stops
  pub refused : new.refused ≡ run.refused
  pub proofs : new.proofs ≡ run.proofs
  pub yes : new.yes ≡ run.yes
  pub lost : new.lost ≡ run.lost
  pub unfused : run.stop ≡ 0 → run.fuses ≡ Off → new.fuses ≡ Off

module _ (seed : ℕ) (run mid : Run) (same : SameButFuses run mid) (t : Turn) (given : Option (List ℕ)) where
  pub answered_still : IsAnswered seed run t given → IsAnswered seed mid t given
  answered_still x = record {
    past = x.past;
    tallied = record {
      is_set_up = x.tallied.is_set_up;
      are = rw same.stop x.tallied.are;
      stops_are = same.stops ∙ x.tallied.stops_are;
      refused_are = same.refused ∙ x.tallied.refused_are;
      proofs_are = same.proofs ∙ x.tallied.proofs_are;
      accepted = same.yes ∙ x.tallied.accepted ∙ sym same.proofs;
      none_lost = same.lost ∙ x.tallied.none_lost;
    };
    taken = same.taken ∙ x.taken;
    is_turn = rw same.stop x.is_turn;
    was_answered = x.was_answered;
    stands = record {
      draws = ap (λ d. d.state) same.draws ∙ x.stands.draws;
      rests = rw same.post x.stands.rests;
      list = ap (λ n. n.entries) same.notary ∙ x.stands.list;
      unfailed = ap (λ n. n.faults) same.notary ∙ x.stands.unfailed;
      kept = rw (same.auditor, same.receipts) x.stands.kept;
      unfused = λ none. let before = sym same.stop ∙ none in same.unfused before (x.stands.unfused before);
      first = λ stopped. absurd (true≢false (sym stopped ∙ ap was_in_hand x.was_answered));
    };
    text = rw same.post x.text;
    line = rw same.post x.line;
  }

-- ---- a stop

module _ (seed : ℕ) (run : Run) (step : Step) (x : IsInHand seed run step) where
  abbrev before : Stage
  before = led_to seed x.past

  abbrev h : History
  h = before.history

  -- one more stop isn't beyond the end of the type
  pub hand_low : run.taken < 2 ^ 64 → min (run.stops + 1) (2 ^ 64 - 1) ≡ run.stops + 1
  hand_low low = omega (arith, x.tallied.stops_are, count_few was_stopped (begun_at seed x.past) x.past.turns, x.taken, low)

  module _ (new : Run) (stop : new.stop ≡ run.stop) (stops : new.stops ≡ run.stops + 1) (refused : new.refused ≡ run.refused) (proofs : new.proofs ≡ run.proofs) (accepted : new.yes ≡ run.yes)
      (lost : new.lost ≡ run.lost) (taken : new.taken ≡ run.taken) (draws : new.draws ≡ run.draws) (notary : new.notary ≡ run.notary) (auditor : new.auditor ≡ run.auditor)
      (receipts : new.receipts.items ≡ run.receipts.items) (off : new.fuses ≡ Off) (opens : OpensLeft run.post.world new.post.world) (open_now : new.post.ended ≡ false) (fused : run.fuses ≡ Off → ⊥) where
    ended_so : (fate : Fate) → was_in_hand fate ≡ true → TakesPart fate h step → (waits : (after_turn fate h step).waiting ≡ []) → Holds true new.post.world (after_turn fate h step)
        → Recalls run.auditor run.receipts.items (after_turn fate h step) step.after → IsUnderway seed new
    ended_so fate in_hand part waits holds kept =
        let t : Turn = record { step = step; fate = fate } in
        let turn : IsTurn run.stop before t = record {
          line_is = x.line_is;
          lane_is = x.lane_is;
          index_is = x.index_is;
          list_is = x.list_is;
          unfailed = x.unfailed;
          part = part;
          unfused = λ none. absurd (fused (x.unfused none));
          first = λ stopped. absurd (fused (x.first stopped));
        } in
        let unanswered : (is_so : AnyReply → Bool) → was_answered_by is_so before t ≡ false = λ is_so. ap (λ b. not b && is_reply is_so (answer_in before t)) in_hand in
        let tallied = tallied_more seed x.past t run new x.tallied turn stop
        (stops ∙ ap (λ b. run.stops + cond b 1 0) (sym in_hand))
        (refused ∙ nothing run.refused ∙ ap (λ b. run.refused + cond b 1 0) (sym (unanswered is_no)))
        (proofs ∙ nothing run.proofs ∙ ap (λ b. run.proofs + cond b 1 0) (sym (unanswered is_proof_reply)))
        (accepted ∙ nothing run.yes ∙ ap (λ b. run.yes + cond b 1 0) (sym (unanswered is_proof_reply))) lost in
        underway_more seed x.past t new tallied (taken ∙ x.taken)
        (record {
          draws = ap (λ d. d.state) draws ∙ x.draws;
          rests = record { holds = holds; none = waits; dues = opens.dues; open_now = open_now };
          list = ap (λ n. n.entries) notary ∙ x.list;
          unfailed = ap (λ n. n.faults) notary ∙ x.well;
          kept = record {
            pegged = kept.pegged;
            follows = subst (Follows (after_turn fate h step) step.after) (sym auditor) kept.follows;
            receipts_held = subst (All (IsHeld (after_turn fate h step))) (sym receipts) kept.receipts_held;
          };
          unfused = λ none. off;
          first = λ stopped. off;
        }) where
          nothing : (n : ℕ) → n ≡ n + 0
          nothing n = omega arith

    kept_before : Recalls run.auditor run.receipts.items h step.before
    kept_before = subst (Recalls run.auditor run.receipts.items h) (sym x.list_is) x.kept

    lost_so : PairFor opens.a opens.b h → (step.after ≡ step.before) ⊎ Attends tag_key_of h memory_origin.making step → IsUnderway seed new
    lost_so pair part = ended_so lost_in_hand refl part x.none (opens.holds h pair) (recalls_list run.auditor run.receipts.items h step part kept_before)

    kept_so : PairFor opens.a opens.b (after_turn kept_in_hand h step) → Attends tag_key_of h memory_origin.making step → IsUnderway seed new
    kept_so pair attends =
        ended_so kept_in_hand refl attends (ap (λ (g : History). g.waiting) (window_is h step) ∙ close_none _) (opens.holds (after_turn kept_in_hand h step) pair)
        (recalls_window run.auditor run.receipts.items h step x.some attends kept_before)

    pub stop_counted : IsUnderway seed new
    stop_counted = elim x.leaves [
      | inl both ↦ elim (both.0 opens.a opens.b opens.left_a opens.left_b) [ inl pair ↦ lost_so pair (inr both.1) | inr pair ↦ kept_so pair both.1 ]
      | inr none ↦ elim (none.0 opens.a opens.b opens.left_a opens.left_b) [ inl pair ↦ lost_so pair (inl none.1) | inr pair ↦ lost_so pair (inl none.1) ]
    ]

-- ---- what it comes to

module _ (seed : ℕ) (run : Run) (x : IsUnderway seed run) where
  abbrev now : Stage
  now = led_to seed x.past

  pub stops_low : run.taken < 2 ^ 64 → min (run.stops + 1) (2 ^ 64 - 1) ≡ run.stops + 1
  stops_low low = omega (arith, x.tallied.stops_are, stops_few run.stop (begun_at seed x.past) x.past.turns x.tallied.are, x.taken, low)

  pub one_session : run.stop ≡ 0 → run.stops ≡ 0
  one_session none = x.tallied.stops_are ∙ none_stopped run.stop (begun_at seed x.past) x.past.turns none x.tallied.are

  pub sums_up : (y : Summary) → y.seed ≡ seed → run.taken ≡ y.count → y.stop ≡ run.stop → y.sessions ≡ run.stops + 1 → y.size ≡ size now.history → y.point ≡ point now.history → y.root ≡ digest (root now.history (size now.history))
      → y.refused ≡ run.refused → y.proofs ≡ run.proofs → y.yes ≡ run.yes → y.lost ≡ run.lost → IsSoaked y × IsFaultless y
  sums_up y seed_is count_is stop_is sessions_is size_is point_is root_is refused_is proofs_is yes_is lost_is = (
    record {
      setup = x.past.setup;
      notary = x.past.notary;
      is_set_up = x.tallied.is_set_up;
      turns = x.past.turns;
      count_is = sym x.taken ∙ count_is;
      are_turns = rw (seed_is, stop_is) x.tallied.are;
      sessions_are = rw seed_is (sessions_is ∙ ap (λ n. n + 1) x.tallied.stops_are);
      size_is = rw seed_is size_is;
      point_is = rw seed_is point_is;
      root_is = rw seed_is root_is;
      refused_are = rw seed_is (refused_is ∙ x.tallied.refused_are);
      proofs_are = rw seed_is (proofs_is ∙ x.tallied.proofs_are);
    },
    record { none_lost = lost_is ∙ x.tallied.none_lost; all_accepted = yes_is ∙ x.tallied.accepted ∙ sym proofs_is },
  )

-- ---- the first one

some_first : 0 < size (new_ledger soak_genesis)
some_first = let one : size (new_ledger soak_genesis) ≡ 1 = refl in omega (arith, one)

pub begun_so : (seed : ℕ) (run : Run) (n : NotaryState) → IsReady run.post n → run.draws.state ≡ seed → run.notary.entries ≡ n.entries → run.notary.faults ≡ n.faults → run.auditor.ledger ≡ None → run.auditor.notary ≡ None → run.receipts.items ≡ []
    → run.taken ≡ 0 → run.stops ≡ 0 → run.refused ≡ 0 → run.proofs ≡ 0 → run.yes ≡ 0 → run.lost ≡ 0 → (run.stop ≡ 0 → run.fuses ≡ Off) → IsUnderway seed run
begun_so seed run n ready draws entries faults ledger notary receipts taken stops refused proofs accepted lost unfused =
    let s = first_stage seed ready.setup n in record {
      past = record { setup = ready.setup; notary = n; turns = [] };
      tallied = record { is_set_up = ready.is_set_up; are = tt; stops_are = stops; refused_are = refused; proofs_are = proofs; accepted = accepted ∙ sym proofs; none_lost = lost };
      taken = taken;
      stands = record {
        draws = draws;
        rests = ready.rests;
        list = entries;
        unfailed = faults ∙ ready.is_set_up.unfailed;
        kept = record {
          pegged = pegged_windows tag_key_of (new_ledger soak_genesis) silent_notary n (ready.setup ∷ []) some_first (n, ready.is_set_up.took, refl) (pegged_new soak_genesis [] list_empty);
          follows = record { ledger = subst (λ o. IfSome o (IsHeadOfFirst s.history)) (sym ledger) tt; notary = subst (λ o. IfSome o (IsListHead s.entries)) (sym notary) tt };
          receipts_held = subst (All (IsHeld s.history)) (sym receipts) (All-nil (IsHeld s.history));
        };
        unfused = unfused;
        first = λ stopped. absurd (true≢false (sym stopped));
      };
    }

-- a member is placed by the job of its line
pub placed_so : (w t : World) (n m : NotaryState) (member : ℕ) (h : History) → Holds true w h → (line : List ℕ) → line ≡ member_line (id h) member → (job : Job) → job ≡ job_of tag_key_of (id h) line → (failed : Bool)
    → TakesJob true w t n m (step_in n m failed 0 1 line) job → IsPlaced w t n m member h
unfolding after_step
placed_so w t n m member h held line line_is job job_is failed takes =
    let step : Step = step_in n m failed 0 1 line in
    let a = takes.attended h held in record {
      step = step;
      line_is = line_is;
      place_is = (refl, refl);
      holds = subst (λ (j : Job). Holds true t (after_job h step j)) job_is (takes.goes.holds h held);
      took = (refl, subst (λ (j : Job). AttendsJob (judged_at h j) n.origin.making step j) job_is a.list, λ i. record { origin = a.origin i; entries = m.entries; faults = a.count i });
    }

-- the members were placed one after the other, and then the window ended
pub founded_so : (w0 w1 w2 w3 : World) (post : Posted) (n0 n1 n2 n3 : NotaryState) → Holds true w0 (new_ledger soak_genesis) → n0 ≡ silent_notary
    → ((h : History) → Holds true w0 h → IsPlaced w0 w1 n0 n1 2 h) → ((h : History) → Holds true w1 h → IsPlaced w1 w2 n1 n2 3 h) → ((h : History) → Holds true w2 h → IsPlaced w2 w3 n2 n3 4 h)
    → Goes true w3 close (λ h. []) post.world → post.world.kept.dues ≡ [] → post.ended ≡ false → n3.faults ≡ 0 → IsReady post n3
founded_so w0 w1 w2 w3 post n0 n1 n2 n3 held silent first second third flush dues open_now unfailed =
    let h0 = new_ledger soak_genesis in
    let a = first h0 held in
    let h1 = after_step tag_key_of h0 a.step in
    let b = second h1 a.holds in
    let h2 = after_step tag_key_of h1 b.step in
    let c = third h2 b.holds in
    let same1 : id h1 ≡ id h0 = id_kept h0 h1 (grows_steps tag_key_of h0 (a.step ∷ [])) some_first in
    let same2 : id h2 ≡ id h0 = id_kept h1 h2 (grows_steps tag_key_of h1 (b.step ∷ [])) (omega (arith, grows_size h0 h1 (grows_steps tag_key_of h0 (a.step ∷ [])), some_first)) ∙ same1 in record {
      setup = a.step ∷ b.step ∷ c.step ∷ [];
      is_set_up = record {
        lines = ap (λ l. l ∷ b.step.line ∷ c.step.line ∷ []) a.line_is
            ∙ ap (λ l. member_line (id h0) 2 ∷ l ∷ c.step.line ∷ []) (b.line_is ∙ ap (λ i. member_line i 3) same1)
            ∙ ap (λ l. member_line (id h0) 2 ∷ member_line (id h0) 3 ∷ l ∷ []) (c.line_is ∙ ap (λ i. member_line i 4) same2);
        places = λ i. (a.place_is.0 i, a.place_is.1 i) ∷ (b.place_is.0 i, b.place_is.1 i) ∷ (c.place_is.0 i, c.place_is.1 i) ∷ [];
        took = subst (λ n. Took tag_key_of h0 n (a.step ∷ b.step ∷ c.step ∷ []) n3) silent (
          a.took.0,
          a.took.1,
          subst (λ n. Took tag_key_of h1 n (b.step ∷ c.step ∷ []) n3) a.took.2 (b.took.0, b.took.1, subst (λ n. Took tag_key_of h2 n (c.step ∷ []) n3) b.took.2 c.took),
        );
        unfailed = unfailed;
      };
      rests = record { holds = flush.holds (after_step tag_key_of h2 c.step) c.holds; none = close_none (after_step tag_key_of h2 c.step); dues = dues; open_now = open_now };
    }
