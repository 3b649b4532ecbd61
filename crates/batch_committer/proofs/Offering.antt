-- A job is taken: the open block may end before it and after it.
use Rattle.ledger_open.specs.Heads.{edition_of}
use Rattle.std.specs.Prelude.{◌||◌, Bool, true, false, nat_le, Result, Ok, Err, IfErr}
use Rattle.std.proofs.Common.{◌≡◌, ℕ, ◌+◌, ◌<◌, ◌≤◌, cond, List, [], ◌∷◌, ◌++◌, length, take, drop, refl, ap, sym, subst, ◌∙◌, arith, append_assoc, append-nil, length-append}
use Rattle.std.proofs.KnownBytes.{Appends-nil}
use Rattle.std.proofs.lemmas.Bool.{le-leb, lt-leb}
use Rattle.std.proofs.lemmas.List.{take-append-le, drop-append-le}
use Rattle.ledger_bytes.specs.declared.limits.TheConstants.{BLOCK_LIMIT}
use Rattle.journal_record.specs.Entry.{Entry}
use Rattle.ledger_io.specs.Outside.{SinkState}
use Rattle.ledger_model.specs.Anchors.{stamp_of}
use Rattle.ledger_model.specs.Dues.{due_of, due_lines, AllIn, AllWaiting, IsWaiting}
use Rattle.ledger_model.specs.Growing.{Grows}
use Rattle.ledger_model.specs.History.{History, history, journals, journals_of, close}
use Rattle.ledger_model.specs.Limits.{real_limits}
use Rattle.ledger_model.specs.Outcomes.{with_job}
use Rattle.ledger_model.specs.Rules.{closes_before, closes_after, judged_at, settled_history, after_job}
use Rattle.ledger_model.specs.Step.{Step}
use Rattle.ledger_model.specs.Texts.{answer_to}
use Rattle.ledger_model.specs.declared.answer.Answer.{Answer}
use Rattle.ledger_model.specs.declared.due.Due.{Due}
use Rattle.ledger_model.specs.declared.job.Job.{Job}
use Rattle.ledger_model.proofs.GrowLaws.{grows_settled, grows_then, grows_with, grows_after, close_settled, settled_none}
use Rattle.ledger_model.proofs.WaitLaws.{Waits, waits_job, waits_closed, all_still_waiting, waiting-append, answer_waits}
use Rattle.ledger_book.specs.Books.{Serves}
use Rattle.ledger_book.proofs.OpenLaws.{opens_empty}
use Rattle.twin_file.specs.Twin.{open_of}
use Rattle.batch_committer.specs.Steps.{due_by, Judged, KeepsFile, HasGrown, StaysInOrder}
use Rattle.batch_committer.specs.Read.{WereRead, NoneFailed, ReadingEnds}
use Rattle.batch_committer.specs.World.{CommitterState, World, Pair, world, ReadsAsLeft, Fits, HasRoom, Owes, IsCleanFor, Holds, Goes, EndsOnTheWay}
use Rattle.batch_committer.specs.declared.failure.CommitErr.{CommitErr}
use Rattle.batch_committer.proofs.Grouped.{stored_one, stored_stays}
use Rattle.batch_committer.proofs.ReadLaws.{goes_read, read_ended}
use Rattle.batch_committer.proofs.WayLaws.{goes_then, ended_then, goes_as, ended_as, ended_wider, goes_same}

-- ---- a job in its three steps

pub after_is : (h : History) (step : Step) (job : Job) → settled_history job (with_job real_limits (stamp_of step) (judged_at h job) job) ≡ after_job h step job
unfolding after_job
after_is h step job = refl

due_is : (h : History) (step : Step) (job : Job) → due_by (judged_at h job) step job ≡ due_of h step job
unfolding answer_to
due_is h step job = refl

module _ (tells : Bool) (w m n t : World) (step : Step) (job : Job) where
  abbrev mid_next : History → History
  mid_next h = with_job real_limits (stamp_of step) (judged_at h job) job

  abbrev mid_due : History → List Due
  mid_due h = due_by (judged_at h job) step job ∷ []

  -- the block before it was ended, it was judged, and the block that it fills was ended
  pub offer_goes : Goes tells w (λ h. judged_at h job) (λ h. []) m → Goes tells m (λ g. with_job real_limits (stamp_of step) g job) (λ g. due_by g step job ∷ []) n → Goes tells n (settled_history job) (λ g. []) t
      → Goes tells w (λ h. after_job h step job) (λ h. due_of h step job ∷ []) t
  offer_goes x y z =
      goes_as tells w t (λ h. settled_history job (mid_next h)) (λ h. after_job h step job) mid_due (λ h. due_of h step job ∷ [])
      (λ h p. after_is h step job) (λ h p. ap (λ d. d ∷ []) (due_is h step job))
      (goes_then tells w n t mid_next (settled_history job) mid_due (λ g. [])
      (goes_then tells w m n (λ h. judged_at h job) (λ g. with_job real_limits (stamp_of step) g job) (λ h. []) (λ g. due_by g step job ∷ []) x y) z)

  -- the block before it couldn't be ended
  pub offer_unended : (end : CommitErr) → EndsOnTheWay tells w (λ h. judged_at h job) (λ h. []) end t → EndsOnTheWay tells w (λ h. after_job h step job) (λ h. due_of h step job ∷ []) end t
  offer_unended end x = ended_wider tells w t (λ h. judged_at h job) (λ h. after_job h step job) (λ h. []) (λ h. due_of h step job ∷ []) end (λ h p. grows_after h step job) x

  -- it couldn't be judged
  pub offer_unjudged : (end : CommitErr) → Goes tells w (λ h. judged_at h job) (λ h. []) m → EndsOnTheWay tells m (λ g. with_job real_limits (stamp_of step) g job) (λ g. due_by g step job ∷ []) end t
      → EndsOnTheWay tells w (λ h. after_job h step job) (λ h. due_of h step job ∷ []) end t
  offer_unjudged end x y =
      ended_as tells w t (λ h. after_job h step job) (λ h. after_job h step job) mid_due (λ h. due_of h step job ∷ []) end
      (λ h p. refl) (λ h p. ap (λ d. d ∷ []) (due_is h step job))
      (ended_wider tells w t mid_next (λ h. after_job h step job) mid_due (λ h. []) end
      (λ h p. subst (Grows (mid_next h)) (after_is h step job) (grows_settled job (mid_next h)))
      (ended_then tells w m t (λ h. judged_at h job) (λ g. with_job real_limits (stamp_of step) g job) (λ h. []) (λ g. due_by g step job ∷ []) end x y))

  -- the block that it fills couldn't be ended
  pub offer_unfilled : (end : CommitErr) → Goes tells w (λ h. judged_at h job) (λ h. []) m → Goes tells m (λ g. with_job real_limits (stamp_of step) g job) (λ g. due_by g step job ∷ []) n → EndsOnTheWay tells n (settled_history job) (λ g. []) end t
      → EndsOnTheWay tells w (λ h. after_job h step job) (λ h. due_of h step job ∷ []) end t
  offer_unfilled end x y z =
      ended_as tells w t (λ h. settled_history job (mid_next h)) (λ h. after_job h step job) mid_due (λ h. due_of h step job ∷ []) end
      (λ h p. after_is h step job) (λ h p. ap (λ d. d ∷ []) (due_is h step job))
      (ended_then tells w n t mid_next (settled_history job) mid_due (λ g. []) end
      (goes_then tells w m n (λ h. judged_at h job) (λ g. with_job real_limits (stamp_of step) g job) (λ h. []) (λ g. due_by g step job ∷ []) x y) z)

-- ---- a job that was judged

abbrev due_at : Step → Answer → Due
due_at step answer = record { lane = step.lane; index = step.index; answer = answer }

-- by a value that is known by an equation, and what is due came behind
pub file_to : {old : CommitterState} (k0 k1 : CommitterState) (ds : List Due) → k1 ≡ k0 → KeepsFile old k0 → KeepsFile old (record k1 { dues = ds })
file_to {old} k0 k1 ds is f =
    let x = subst (KeepsFile old) (sym is) f in
    record { gate = x.gate; ended = x.ended; next = x.next; in_a = x.in_a; edition = x.edition; copy = x.copy }

-- what is due with one more
owes_more : (k new : CommitterState) (g f : History) (due : Due) → Owes k g → Waits g f → IsWaiting f due.answer → new.dues ≡ k.dues ++ due ∷ [] → new.spelled ≡ k.spelled → new.lines ≡ k.lines → Owes new f
owes_more k new g f due o waits answered dues spelled lines =
    let first : take new.spelled new.dues ≡ take k.spelled k.dues = ap (λ (n : ℕ). take n new.dues) spelled ∙ ap (take k.spelled) dues ∙ take-append-le k.spelled k.dues (due ∷ []) o.few in
    let rest : drop new.spelled new.dues ≡ drop k.spelled k.dues ++ due ∷ [] = ap (λ (n : ℕ). drop n new.dues) spelled ∙ ap (drop k.spelled) dues ∙ drop-append-le k.spelled k.dues (due ∷ []) o.few in record {
      few = omega (arith, o.few, spelled, ap length dues, length-append k.dues (due ∷ []));
      told = subst (λ (bs : List (List Entry)). AllIn bs (take new.spelled new.dues)) (sym (waits_closed g f waits)) (subst (AllIn g.closed) (sym first) o.told);
      lines = λ x y none. lines ∙ o.lines x (grows_then g f x (grows_waits g f waits) y) none ∙ ap (due_lines x) (sym first);
      waits = subst (AllWaiting f) (sym rest) (waiting-append f (drop k.spelled k.dues) (due ∷ []) (all_still_waiting g f (drop k.spelled k.dues) waits o.waits) (answered, tt));
    } where
      grows_waits : (g f : History) → Waits g f → Grows g f
      grows_waits g f w = record {
        more = w.more;
        journals_are = ap journals w.is ∙ sym (append_assoc (journals_of g.closed) g.waiting w.more);
        blocks = [];
        closed_are = ap (λ (k : History). k.closed) w.is ∙ sym (append-nil g.closed);
      }

pub judged_goes : (tells : Bool) (w : World) (k : CommitterState) (step : Step) (job : Job) (answer : Answer) → KeepsFile w.kept k → k.dues ≡ w.kept.dues ++ due_at step answer ∷ [] → k.spelled ≡ w.kept.spelled → k.lines ≡ w.kept.lines
    → (closes_before job ≡ true → (h : History) → Serves w.kept.book h → h.waiting ≡ [])
    → ((g : History) → Holds tells w g → (closes_before job ≡ true → g.waiting ≡ []) → Judged k g step job answer)
    → Goes tells w (λ g. with_job real_limits (stamp_of step) g job) (λ g. due_by g step job ∷ []) (world k w.disks w.sink)
judged_goes tells w k step job answer file dues spelled lines settled judged = record {
  holds = λ g p.
      let f = with_job real_limits (stamp_of step) g job in
      let j = judged g p (λ closes. settled closes g p.keeps.serves) in
      let stays = stored_one w.kept k g f p.keeps.group j.gathers.group (waits_closed g f (waits_job g step job)) file.ended in record {
        told = p.told;
        keeps = record {
          serves = j.gathers.serves;
          limits = j.gathers.limits;
          floor = j.gathers.floor;
          dues = owes_more w.kept k g f (due_at step answer) p.keeps.dues (waits_job g step job) (subst (IsWaiting f) (sym j.answer_is) (answer_waits g step job (λ closes. settled closes g p.keeps.serves))) dues spelled lines;
          body = j.gathers.body;
          next = j.gathers.next;
          gathered = j.gathers.gathered;
          group = j.gathers.group;
          located = j.gathers.located;
        };
        disks = subst (λ (bs : List (List Entry)). IsCleanFor k.in_a k.gate (history bs []) w.disks.a.bytes w.disks.b.bytes) (sym stays)
            (subst (λ v. IsCleanFor v k.gate (history p.keeps.group.stored []) w.disks.a.bytes w.disks.b.bytes) (sym file.in_a)
            (subst (λ at. IsCleanFor w.kept.in_a at (history p.keeps.group.stored []) w.disks.a.bytes w.disks.b.bytes) (sym file.gate) p.disks));
      };
  grows = λ g p. grows_with real_limits (stamp_of step) g job;
  stays = λ g p.
      let f = with_job real_limits (stamp_of step) g job in
      let y = (judged g p (λ closes. settled closes g p.keeps.serves)).gathers.group in
      stored_stays w.kept k g f p.keeps.group y (stored_one w.kept k g f p.keeps.group y (waits_closed g f (waits_job g step job)) file.ended);
  sofar = [];
  appended = Appends-nil w.sink.held;
  writes = λ g p. record {
    done = [];
    split = ap (λ (a : Answer). w.kept.dues ++ due_at step a ∷ []) (sym (judged g p (λ closes. settled closes g p.keeps.serves)).answer_is) ∙ sym dues;
    kept = tt;
    text = λ f y none. refl;
  };
  no_fault = record { a = refl; b = refl; sink = (refl, refl) };
}

-- .. while the disks were read
pub judged_read : (tells : Bool) (k t : CommitterState) (old new : Pair) (sink : SinkState) (step : Step) (job : Job) → WereRead tells old new → NoneFailed old new
    → Goes tells (world k old sink) (λ g. with_job real_limits (stamp_of step) g job) (λ g. due_by g step job ∷ []) (world t old sink)
    → Goes tells (world k old sink) (λ g. with_job real_limits (stamp_of step) g job) (λ g. due_by g step job ∷ []) (world t new sink)
judged_read tells k t old new sink step job read none x =
    goes_then tells (world k old sink) (world t old sink) (world t new sink) (λ g. with_job real_limits (stamp_of step) g job) (λ g. g) (λ g. due_by g step job ∷ []) (λ g. []) x (goes_read tells old new read t sink none)

-- .. and one for which a disk failed or memory was short
pub unjudged_ended : (tells : Bool) (k t : CommitterState) (old new : Pair) (sink : SinkState) (step : Step) (job : Job) (end : CommitErr) → WereRead tells old new → ReadingEnds end old new
    → EndsOnTheWay tells (world k old sink) (λ g. with_job real_limits (stamp_of step) g job) (λ g. due_by g step job ∷ []) end (world t new sink)
unjudged_ended tells k t old new sink step job end read e =
    read_ended tells old new read k t sink (λ g. with_job real_limits (stamp_of step) g job) (λ g. due_by g step job ∷ []) end (λ g. grows_with real_limits (stamp_of step) g job) e

-- ---- sizes

pub fits_gathered : (tells : Bool) (old new : CommitterState) (disks : Pair) (sink : SinkState) → Fits tells (world old disks sink) → HasRoom old → HasGrown old new → StaysInOrder old new → KeepsFile old new → new.spelled ≡ old.spelled → length new.dues ≡ length old.dues + 1 → Fits tells (world new disks sink)
fits_gathered tells old new disks sink f room grown order file spelled more = record {
  reads = subst (λ v. ReadsAsLeft tells new.gate (open_of v disks.a disks.b)) (sym file.in_a) (subst (λ at. ReadsAsLeft tells at (open_of old.in_a disks.a disks.b)) (sym file.gate) f.reads);
  edition = λ told. file.edition ∙ f.edition told ∙ sym (ap (λ v. edition_of (open_of v disks.a disks.b).bytes.seen) file.in_a);
  copy = file.copy ∙ f.copy;
  few = omega (arith, room.0, grown.0, grown.1);
  order = order f.order;
  next = omega (arith, f.next, file.next, file.gate, ap length grown.2);
  some = λ ended. subst (λ (l : List ℕ). 1 ≤ length l) (sym grown.2) (f.some (λ none. ended (file.ended ∙ none)));
  room = omega (arith, f.room, file.ended);
  spelled = omega (arith, f.spelled, spelled, more);
  owed = λ _. omega (arith, f.spelled, spelled, more);
  clear = λ none. absurd (omega (arith, more, ap length none));
}

pub room_empty : (k : CommitterState) → k.book.size ≡ k.book.sealed → HasRoom k
room_empty k empty = (omega (arith, empty), opens_empty k.book empty)

-- ---- before a job

judged_asked : (h : History) (job : Job) (asked : Bool) → asked ≡ closes_before job → asked ≡ true → close h ≡ judged_at h job
judged_asked h job asked is so = sym (ap (λ v. cond v (close h) h) (sym is ∙ so))

judged_kept : (h : History) (job : Job) (asked : Bool) → asked ≡ closes_before job → asked ≡ false → h ≡ judged_at h job
judged_kept h job asked is so = sym (ap (λ v. cond v (close h) h) (sym is ∙ so))

pub before_ended : (tells : Bool) (w t : World) (job : Job) (asked : Bool) (end : CommitErr) → asked ≡ closes_before job → asked ≡ true → EndsOnTheWay tells w close (λ h. []) end t → EndsOnTheWay tells w (λ h. judged_at h job) (λ h. []) end t
before_ended tells w t job asked end is so x = ended_as tells w t close (λ h. judged_at h job) (λ h. []) (λ h. []) end (λ h p. judged_asked h job asked is so) (λ h p. refl) x

pub before_kept : (tells : Bool) (w : World) (job : Job) (asked : Bool) → asked ≡ closes_before job → asked ≡ false → Goes tells w (λ h. judged_at h job) (λ h. []) w
before_kept tells w job asked is so = goes_as tells w w (λ h. h) (λ h. judged_at h job) (λ h. []) (λ h. []) (λ h p. judged_kept h job asked is so) (λ h p. refl) (goes_same tells w)

-- ---- after it: the block that is full, and the one that isn't

settled_alone : (job : Job) (h : History) → closes_after job ≡ true → close h ≡ settled_history job h
settled_alone job h alone = sym (ap (λ v. cond (v || nat_le BLOCK_LIMIT (length h.waiting)) (close h) h) alone)

settled_full : (job : Job) (h : History) → BLOCK_LIMIT ≤ length h.waiting → close h ≡ settled_history job h
settled_full job h full = sym (ap (λ v. cond (closes_after job || v) (close h) h) (le-leb BLOCK_LIMIT (length h.waiting) full) ∙ ap (λ v. cond v (close h) h) (or_true (closes_after job))) where
  or_true : (v : Bool) → (v || true) ≡ true
  or_true true = refl
  or_true false = refl

settled_room : (job : Job) (h : History) → closes_after job ≡ false → length h.waiting < BLOCK_LIMIT → h ≡ settled_history job h
settled_room job h other room = sym (ap (λ v. cond (v || nat_le BLOCK_LIMIT (length h.waiting)) (close h) h) other ∙ ap (λ v. cond v (close h) h) (lt-leb BLOCK_LIMIT (length h.waiting) room))

-- nothing ends where none waits
settled_idle : (job : Job) (h : History) → h.waiting ≡ [] → h ≡ settled_history job h
settled_idle job h none = settled_none h job none

pub idle_goes : (tells : Bool) (w t : World) (job : Job) → ((h : History) → Serves w.kept.book h → h.waiting ≡ []) → Goes tells w (λ h. h) (λ h. []) t → Goes tells w (settled_history job) (λ h. []) t
idle_goes tells w t job none x = goes_as tells w t (λ h. h) (settled_history job) (λ h. []) (λ h. []) (λ h p. settled_idle job h (none h p.keeps.serves)) (λ h p. refl) x

pub idle_ended : (tells : Bool) (w t : World) (job : Job) (end : CommitErr) → ((h : History) → Serves w.kept.book h → h.waiting ≡ []) → EndsOnTheWay tells w (λ h. h) (λ h. []) end t → EndsOnTheWay tells w (settled_history job) (λ h. []) end t
idle_ended tells w t job end none x = ended_as tells w t (λ h. h) (settled_history job) (λ h. []) (λ h. []) end (λ h p. settled_idle job h (none h p.keeps.serves)) (λ h p. refl) x

pub at_least : (most count waiting : ℕ) → most ≤ count → count ≡ waiting → most ≤ waiting
at_least most count waiting le is = subst (λ (n : ℕ). most ≤ n) is le

-- .. so that its end changes nothing
pub settle_goes : (tells : Bool) (w t : World) → ((h : History) → Serves w.kept.book h → h.waiting ≡ []) → Goes tells w (λ h. h) (λ h. []) t → Goes tells w close (λ h. []) t
settle_goes tells w t none x = goes_as tells w t (λ h. h) close (λ h. []) (λ h. []) (λ h p. close_settled h (none h p.keeps.serves)) (λ h p. refl) x

pub settle_ended : (tells : Bool) (w t : World) (end : CommitErr) → ((h : History) → Serves w.kept.book h → h.waiting ≡ []) → EndsOnTheWay tells w (λ h. h) (λ h. []) end t → EndsOnTheWay tells w close (λ h. []) end t
settle_ended tells w t end none x = ended_as tells w t (λ h. h) close (λ h. []) (λ h. []) end (λ h p. close_settled h (none h p.keeps.serves)) (λ h p. refl) x

-- the block that is full ends
pub full_goes : (tells : Bool) (w t : World) (job : Job) → ((h : History) → Serves w.kept.book h → BLOCK_LIMIT ≤ length h.waiting) → Goes tells w close (λ h. []) t → Goes tells w (settled_history job) (λ h. []) t
full_goes tells w t job full x = goes_as tells w t close (settled_history job) (λ h. []) (λ h. []) (λ h p. settled_full job h (full h p.keeps.serves)) (λ h p. refl) x

pub full_ended : (tells : Bool) (w t : World) (job : Job) (end : CommitErr) → ((h : History) → Serves w.kept.book h → BLOCK_LIMIT ≤ length h.waiting) → EndsOnTheWay tells w close (λ h. []) end t → EndsOnTheWay tells w (settled_history job) (λ h. []) end t
full_ended tells w t job end full x = ended_as tells w t close (settled_history job) (λ h. []) (λ h. []) end (λ h p. settled_full job h (full h p.keeps.serves)) (λ h p. refl) x

pub room_goes : (tells : Bool) (w : World) (job : Job) → closes_after job ≡ false → ((h : History) → Serves w.kept.book h → length h.waiting < BLOCK_LIMIT) → Goes tells w (settled_history job) (λ h. []) w
room_goes tells w job other few = goes_as tells w w (λ h. h) (settled_history job) (λ h. []) (λ h. []) (λ h p. settled_room job h other (few h p.keeps.serves)) (λ h p. refl) (goes_same tells w)

-- the block of the job alone ends
pub alone_ended : (tells : Bool) (w t : World) (job : Job) (end : CommitErr) → closes_after job ≡ true → EndsOnTheWay tells w close (λ h. []) end t → EndsOnTheWay tells w (settled_history job) (λ h. []) end t
alone_ended tells w t job end alone x = ended_as tells w t close (settled_history job) (λ h. []) (λ h. []) end (λ h p. settled_alone job h alone) (λ h p. refl) x

-- .. from the clauses of a call
pub if_err_then : {T E : Type 0} {A B : E → Type 0} (result : Result T E) → ((e : E) → A e → B e) → IfErr result A → IfErr result B
if_err_then (Ok value) f x = tt
if_err_then (Err error) f x = f error x
