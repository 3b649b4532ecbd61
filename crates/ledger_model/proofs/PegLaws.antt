-- Whatever lines are run, each time journal keeps its entry in the notary's list.
use Rattle.std.specs.Prelude.{nat_lt, nat_le}
use Rattle.std.specs.Int.{w64, to_be_bytes, from_be_bytes}
use Rattle.std.specs.List.{fold, AllByRecursion}
use Rattle.std.specs.Option.{is_none, option_map}
use Rattle.std.proofs.Common.{◌≡◌, ℕ, zero, suc, ◌<◌, ◌≤◌, ◌^◌, ◌⊎◌, ◌||◌, ◌&&◌, max, inl, inr, Bool, true, false, cond, List, [], ◌∷◌, ◌++◌, length, map, drop, slice_get, Option, Some, None, refl, ap, sym, subst, ◌∙◌, arith, append_assoc, append-nil, length-append}
use Rattle.std.proofs.lemmas.Bool.{leb-false, lt-ltb}
use Rattle.std.proofs.lemmas.List.{map-append, take_at, drop_at}
use Rattle.std.proofs.lemmas.List.Sums.{fold-append}
use Rattle.std.proofs.lemmas.Nat.{from_be_bytes-to_be_bytes_8}
use Rattle.std.proofs.lemmas.Option.{same_Some, slice_get_within}
use Rattle.sha2.specs.Sha256.{sha256}
use Rattle.sha2.proofs.Facts256.{length-sha256}
use Rattle.ledger_bytes.specs.Digests.{digest}
use Rattle.ledger_bytes.specs.declared.refusal.Refusal.{Refusal}
use Rattle.journal_record.specs.Entry.{Entry}
use Rattle.journal_record.specs.declared.header.Kind.TheVariants as kind
use Rattle.journal_record.specs.declared.rules.TheConstants.{NOTARY_LIMIT}
use Rattle.journal_record.specs.declared.stamp.Stamp.{Stamp}
use Rattle.time_peg.specs.Entries.{IsList, HasOneMore, Making, NotaryState, entry_of, peg_string, time_in}
use Rattle.ledger_model.specs.Anchors.{peg_at, time_header, time_journal, stamp_from, stamp_of, is_full_list}
use Rattle.ledger_model.specs.Appends.{append_header, append_journal, member_header, member_journal, occult_header, occult_journal, clue_occult_header, clue_occult_journal, purge_header, purge_journal}
use Rattle.ledger_model.specs.Genesis.{genesis_header, new_ledger}
use Rattle.ledger_model.specs.Growing.{Grows}
use Rattle.ledger_model.specs.History.{History, journals, size, id, root, point, first_leaf_digest, purge_point, greatest_point, close}
use Rattle.ledger_model.specs.Judgements.{own_refusal}
use Rattle.ledger_model.specs.Limits.{real_limits}
use Rattle.ledger_model.specs.Notary.{asks, MayStamp, Changes, ChangesBy}
use Rattle.ledger_model.specs.Numbers.{repeated, unless_repeated}
use Rattle.ledger_model.specs.Outcomes.{with_waiting, after_judgement, with_job}
use Rattle.ledger_model.specs.Pegs.{PeggedFrom, Pegged}
use Rattle.ledger_model.specs.Rules.{closes_before, closes_after, job_of, judged_at, settled_history, after_job, after_step, after_steps, after}
use Rattle.ledger_model.specs.Scheme.{Scheme}
use Rattle.ledger_model.specs.Step.{Step}
use Rattle.ledger_model.specs.Took.{notary_after, Took, TookAll}
use Rattle.ledger_model.specs.declared.genesis.Genesis.{Genesis}
use Rattle.ledger_model.specs.declared.job.Job.{Job}
use Rattle.ledger_model.specs.declared.job.Job.TheVariants.{Refused, Append, NewMember, Anchor, Occult, OccultClue, Purge, Ask}
use Rattle.ledger_model.proofs.DueLaws.{grows_steps, grows_windows}
use Rattle.ledger_model.proofs.GrowLaws.{root_kept, grows_asked, grows_close, grows_with, grows_job, grows_size}
use Rattle.ledger_model.proofs.KeepLaws.{journals_close, journals_wider}
use Rattle.ledger_model.proofs.WaitLaws.{slice_get-more, slice_get-last}

-- ---- what stays where journals come behind

first_kept : (js more : List Entry) → 0 < length js → first_leaf_digest (js ++ more) ≡ first_leaf_digest js
first_kept [] more some = absurd (omega (arith, some))
first_kept (j ∷ js) more some = refl

peg_kept : (k g : History) (more : List Entry) (m : ℕ) → journals g ≡ journals k ++ more → 0 < size k → m ≤ size k → peg_at g m ≡ peg_at k m
unfolding peg_at id
peg_kept k g more m is some le =
    ap (λ i. sha256 (peg_string i m (root g m))) (ap first_leaf_digest is ∙ first_kept (journals k) more some)
    ∙ ap (λ r. sha256 (peg_string (first_leaf_digest (journals k)) m r)) (root_kept k g more m is le)

peg_wide : (h : History) (m : ℕ) → length (peg_at h m) ≡ 32
unfolding peg_at
peg_wide h m = length-sha256 (peg_string (id h) m (root h m))

rises_from : (start : ℕ) (ns : List ℕ) → start ≤ fold max start ns
rises_from start [] = omega arith
rises_from start (n ∷ ns) = omega (arith, rises_from (max start n) ns)

point_kept : (k g : History) (more : List Entry) → journals g ≡ journals k ++ more → point k ≤ point g
unfolding point
point_kept k g more is =
    let front = map purge_point (journals k) in
    let back = map purge_point more in
    omega (arith, ap greatest_point is ∙ ap (fold max 0) (map-append purge_point (journals k) more) ∙ fold-append max 0 front back, rises_from (fold max 0 front) back)

-- an element of a list with one more at its end
pub last_or : {A : Type 0} (xs : List A) (x : A) (j : ℕ) (e : A) → slice_get (xs ++ x ∷ []) j ≡ Some e → ((j < length xs) × (slice_get xs j ≡ Some e)) ⊎ ((j ≡ length xs) × (x ≡ e))
last_or [] x zero e is = inr (refl, same_Some x e is)
last_or [] x (suc j) e is = absurd cc
last_or (y ∷ xs) x zero e is = inl (omega arith, is)
last_or (y ∷ xs) x (suc j) e is = elim (last_or xs x j e is) [ inl p ↦ inl (omega (arith, p.0), p.1) | inr p ↦ inr (omega (arith, p.0), p.1) ]

-- ---- the same journals, a longer list, fewer journals

-- a history of which another one has the first journals
pub from_fewer : {q : ℕ} (k g : History) (more : List Entry) (es : List (List ℕ)) → journals g ≡ journals k ++ more → 0 < size k → PeggedFrom q g es → PeggedFrom q k es
from_fewer k g more es is some p = record {
  list = p.list;
  each = λ j e at is_e time.
      let below = slice_get_within (journals k) j e is_e in
      p.each j e at (there j e is_e) time ∙ ap (λ peg. Some (entry_of e.header.b peg e.header.link.0)) (peg_kept k g more j is some (omega (arith, below)));
  rises = λ i j d e less at is_d time_d is_e time_e. p.rises i j d e less at (there i d is_d) time_d (there j e is_e) time_e;
} where
  there : (j : ℕ) (e : Entry) → slice_get (journals k) j ≡ Some e → slice_get (journals g) j ≡ Some e
  there j e is_e = ap (λ js. slice_get js j) is ∙ slice_get-more (journals k) more j e is_e

-- from a later journal on
pub from_later : {q : ℕ} (r : ℕ) (h : History) (es : List (List ℕ)) → q ≤ r → PeggedFrom q h es → PeggedFrom r h es
from_later r h es le p = record {
  list = p.list;
  each = λ j e at is_e time. p.each j e (omega (arith, le, at)) is_e time;
  rises = λ i j d e less at is_d time_d is_e time_e. p.rises i j d e less (omega (arith, le, at)) is_d time_d is_e time_e;
}

-- .. where no point is seen behind them
pub pegged_fewer : (k g : History) (more : List Entry) (es : List (List ℕ)) → journals g ≡ journals k ++ more → 0 < size k → point g ≤ point k → Pegged g es → Pegged k es
pegged_fewer k g more es is some seen p = from_later (point k) k es seen (from_fewer k g more es is some p)

from_same : {q : ℕ} (k g : History) (es : List (List ℕ)) → journals g ≡ journals k → 0 < size k → PeggedFrom q g es → PeggedFrom q k es
from_same k g es is some p = from_fewer k g [] es (is ∙ sym (append-nil (journals k))) some p

pub pegged_longer : {q : ℕ} (h : History) (es more : List (List ℕ)) → IsList (es ++ more) → PeggedFrom q h es → PeggedFrom q h (es ++ more)
pegged_longer h es more list p = record {
  list = list;
  each = λ j e at is time. slice_get-more es more e.header.a _ (p.each j e at is time);
  rises = p.rises;
}

-- ---- a journal more

-- it is no time journal, or has its entry behind those of the others
abbrev HasEntry : ℕ → History → Entry → List (List ℕ) → Type 0
HasEntry q h x es =
    (slice_get es x.header.a ≡ Some (entry_of x.header.b (peg_at h (size h)) x.header.link.0))
    × ((i : ℕ) (d : Entry) → q ≤ i → slice_get (journals h) i ≡ Some d → d.header.kind ≡ kind.Time → d.header.a < x.header.a)

module _ (q : ℕ) (h g : History) (x : Entry) (es : List (List ℕ)) (is : journals g ≡ journals h ++ x ∷ []) (some : 0 < size h) (p : PeggedFrom q h es) (new : x.header.kind ≡ kind.Time → HasEntry q h x es) where
  place : (j : ℕ) (e : Entry) → slice_get (journals g) j ≡ Some e → ((j < size h) × (slice_get (journals h) j ≡ Some e)) ⊎ ((j ≡ size h) × (x ≡ e))
  place j e is_e = last_or (journals h) x j e (sym (ap (λ js. slice_get js j) is) ∙ is_e)

  is_time : (e : Entry) → x ≡ e → e.header.kind ≡ kind.Time → x.header.kind ≡ kind.Time
  is_time e same time = ap (λ (y : Entry). y.header.kind) same ∙ time

  each_on : (j : ℕ) (e : Entry) → q ≤ j → slice_get (journals g) j ≡ Some e → e.header.kind ≡ kind.Time → slice_get es e.header.a ≡ Some (entry_of e.header.b (peg_at g j) e.header.link.0)
  each_on j e at is_e time = elim (place j e is_e) [
    | inl old ↦
        p.each j e at old.1 time
        ∙ ap (λ peg. Some (entry_of e.header.b peg e.header.link.0)) (sym (peg_kept h g (x ∷ []) j is some (omega (arith, old.0))))
    | inr last ↦
        subst (λ (y : Entry). slice_get es y.header.a ≡ Some (entry_of y.header.b (peg_at g j) y.header.link.0)) last.1
        ((new (is_time e last.1 time)).0
        ∙ ap (λ peg. Some (entry_of x.header.b peg x.header.link.0)) (sym (ap (peg_at g) last.0 ∙ peg_kept h g (x ∷ []) (size h) is some (omega arith))))
  ]

  rises_on : (i j : ℕ) (d e : Entry) → i < j → q ≤ i → slice_get (journals g) i ≡ Some d → d.header.kind ≡ kind.Time → slice_get (journals g) j ≡ Some e → e.header.kind ≡ kind.Time → d.header.a < e.header.a
  rises_on i j d e less at is_d time_d is_e time_e = elim (place i d is_d) [
    | inl old ↦ elim (place j e is_e) [
      | inl also ↦ p.rises i j d e less at old.1 time_d also.1 time_e
      | inr last ↦
          subst (λ (y : Entry). d.header.a < y.header.a) last.1
          ((new (is_time e last.1 time_e)).1 i d at old.1 time_d)
    ]
    | inr first ↦
        let few = slice_get_within (journals g) j e is_e in
        absurd (omega (arith, few, less, first.0, ap length is, length-append (journals h) (x ∷ [])))
  ]

  pub pegged_on : PeggedFrom q g es
  pegged_on = record { list = p.list; each = each_on; rises = rises_on }

-- ---- a job

-- the list goes on
changes_on : {q : ℕ} (making : Option Making) (h : History) (asked failed : Bool) (peg : List ℕ) (before after : List (List ℕ)) → Changes asked failed making peg before after → PeggedFrom q h before → PeggedFrom q h after
changes_on {q} making h false failed peg before after same p = subst (PeggedFrom q h) (sym same) p
changes_on {q} making h true false peg before after more p =
    let es = entry_of more.0.0 peg more.0.1 ∷ [] in
    subst (PeggedFrom q h) (sym more.0.3) (pegged_longer h before es (subst IsList more.0.3 more.1) p)
changes_on {q} making h true true peg before after (inl same) p = subst (PeggedFrom q h) (sym same) p
changes_on {q} making h true true peg before after (inr more) p =
    let es = entry_of more.0.0 peg more.0.1 ∷ [] in
    subst (PeggedFrom q h) (sym more.0.3) (pegged_longer h before es (subst IsList more.0.3 more.1) p)

pub from_close : {q : ℕ} (h : History) (es : List (List ℕ)) → 0 < size h → PeggedFrom q h es → PeggedFrom q (close h) es
from_close h es some p = from_same (close h) h es (sym (journals_close h)) (omega (arith, some, ap length (journals_close h))) p

from_settled : {q : ℕ} (h : History) (job : Job) (es : List (List ℕ)) → 0 < size h → PeggedFrom q h es → PeggedFrom q (settled_history job h) es
from_settled {q} h job es some p = elim (closes_after job || nat_le 64 (length h.waiting)) as (λ full. PeggedFrom q (cond full (close h) h) es) [ true ↦ from_close h es some p | false ↦ p ]

from_judged : {q : ℕ} (h : History) (job : Job) (es : List (List ℕ)) → 0 < size h → PeggedFrom q h es → PeggedFrom q (judged_at h job) es
from_judged {q} h job es some p = elim (closes_before job) as (λ first. PeggedFrom q (cond first (close h) h) es) [ true ↦ from_close h es some p | false ↦ p ]

-- what a judgement leaves
unplaced : {q : ℕ} (refusal : Option Refusal) (h : History) (es : List (List ℕ)) → PeggedFrom q h es → PeggedFrom q (after_judgement refusal None h) es
unplaced (Some refusal) h es p = p
unplaced None h es p = p

module _ (q : ℕ) (h : History) (es : List (List ℕ)) (some : 0 < size h) (p : PeggedFrom q h es) where
  -- a journal that is placed, or refused
  placed : (refusal : Option Refusal) (x : Entry) → (refusal ≡ None → x.header.kind ≡ kind.Time → HasEntry q h x es) → PeggedFrom q (after_judgement refusal (Some x) h) es
  placed (Some refusal) x new = p
  placed None x new = pegged_on q h (with_waiting (Some x) h) x es (journals_wider h x) some p (new refl)

  untimed : (refusal : Option Refusal) (x : Entry) → (x.header.kind ≡ kind.Time → ⊥) → PeggedFrom q (after_judgement refusal (Some x) h) es
  untimed refusal x not_time = placed refusal x (λ none time. absurd (not_time time))

-- the stamp that a step gave
or_parts : (v w : Bool) → (v || w) ≡ false → (v ≡ false) × (w ≡ false)
or_parts true w e = absurd cc
or_parts false w e = (refl, e)

record HasStamp (step : Step) (s : Stamp) : Type 0 where
  well : step.failed ≡ false
  room : length step.before < NOTARY_LIMIT
  from : stamp_from (length step.before) (drop (length step.before) step.after) ≡ Some s

has_stamp : (step : Step) (s : Stamp) → stamp_of step ≡ Some s → HasStamp step s
unfolding stamp_of
has_stamp step s is = by_cases (step.failed || is_full_list step.before) refl where
  by_cases : (v : Bool) → (step.failed || is_full_list step.before) ≡ v → HasStamp step s
  by_cases true e = let no : None ≡ Some s = sym (ap (λ w. cond w None (stamp_from (length step.before) (drop (length step.before) step.after))) e) ∙ is in absurd cc
  by_cases false e =
      let parts = or_parts step.failed (is_full_list step.before) e in record {
        well = parts.0;
        room = leb-false NOTARY_LIMIT (length step.before) parts.1;
        from = sym (ap (λ w. cond w None (stamp_from (length step.before) (drop (length step.before) step.after))) e) ∙ is;
      }

-- .. is that of the entry which its list has behind the others
module _ (making : Option Making) (step : Step) (s : Stamp) (has : HasStamp step s) (peg : List ℕ) (wide : length peg ≡ 32) (more : HasOneMore making peg step.before step.after) where
  abbrev e : List ℕ
  e = entry_of more.0 peg more.1

  time_is : time_in e ≡ more.0
  unfolding time_in
  time_is = ap (from_be_bytes w64) (take_at (to_be_bytes w64 more.0) (peg ++ more.1) 8 refl) ∙ from_be_bytes-to_be_bytes_8 more.0 more.2

  salt_is : drop 40 e ≡ more.1
  salt_is = ap (drop 40) (sym (append_assoc (to_be_bytes w64 more.0) peg more.1)) ∙ drop_at (to_be_bytes w64 more.0 ++ peg) more.1 40 (omega (arith, wide, length-append (to_be_bytes w64 more.0) peg))

  stamp_is : s ≡ record { index = length step.before; time = more.0; salt = digest more.1 }
  stamp_is =
      sym (same_Some _ s (
      sym (ap (stamp_from (length step.before)) (ap (drop (length step.before)) more.3 ∙ drop_at step.before (e ∷ []) (length step.before) refl)
      ∙ ap (λ t. Some (record { index = length step.before; time = t; salt = digest (drop 40 e) })) time_is
      ∙ ap (λ l. Some (record { index = length step.before; time = more.0; salt = digest l })) salt_is)
      ∙ has.from))

  index_is : s.index ≡ length step.before
  index_is = ap (λ (x : Stamp). x.index) stamp_is

  entry_is : slice_get step.after s.index ≡ Some (entry_of s.time peg s.salt.0)
  entry_is =
      ap (λ (x : Stamp). slice_get step.after x.index) stamp_is ∙ ap (λ es. slice_get es (length step.before)) more.3 ∙ slice_get-last step.before e
      ∙ sym (ap (λ (x : Stamp). Some (entry_of x.time peg x.salt.0)) stamp_is)

-- the notary was asked for it, and has one entry more
stamped_by : (making : Option Making) (h : History) (step : Step) (s : Stamp) → own_refusal real_limits h Anchor ≡ None → HasStamp step s → ChangesBy h making step Anchor → MayStamp false making (peg_at h (size h)) step.before step.after
stamped_by making h step s accepted has changes =
    let asked : asks h step.before Anchor ≡ true = ap (λ o. is_none o && nat_lt (length step.before) NOTARY_LIMIT) accepted ∙ lt-ltb (length step.before) NOTARY_LIMIT has.room in
    subst (λ v. Changes true v making (peg_at h (size h)) step.before step.after) has.well (subst (λ v. Changes v step.failed making (peg_at h (size h)) step.before step.after) asked changes)

last_width : (xs : List (List ℕ)) (e : List ℕ) → AllByRecursion (λ x. length x ≡ 72) (xs ++ e ∷ []) → length e ≡ 72
last_width [] e all = all.0
last_width (x ∷ xs) e all = last_width xs e all.1

-- .. so its time and its salt have their widths
pub stamped_fits : (making : Option Making) (h : History) (step : Step) (s : Stamp) → own_refusal real_limits h Anchor ≡ None → stamp_of step ≡ Some s → ChangesBy h making step Anchor → (s.time < 2 ^ 64) × (length s.salt.0 ≡ 32)
stamped_fits making h step s accepted is changes =
    let has = has_stamp step s is in
    let peg = peg_at h (size h) in
    let changed = stamped_by making h step s accepted has changes in
    let more = changed.0 in
    let e = entry_of more.0 peg more.1 in
    let same = stamp_is making step s has peg (peg_wide h (size h)) more in
    let width : length e ≡ 72 = last_width step.before e (subst (AllByRecursion (λ x. length x ≡ 72)) more.3 changed.1.widths) in (
      omega (arith, ap (λ (x : Stamp). x.time) same, more.2),
      ap (λ (x : Stamp). length x.salt.0) same ∙ omega (arith, width, peg_wide h (size h), length-append (to_be_bytes w64 more.0) (peg ++ more.1), length-append peg more.1),
    )

-- an anchor, where nothing waits
module _ (making : Option Making) (q : ℕ) (h : History) (step : Step) (some : 0 < size h) (before : PeggedFrom q h step.before) (attends : ChangesBy h making step Anchor) where
  after_is : PeggedFrom q h step.after
  after_is = changes_on making h (asks h step.before Anchor) step.failed (peg_at h (size h)) step.before step.after attends before

  has_entry : (s : Stamp) → own_refusal real_limits h Anchor ≡ None → HasStamp step s → HasEntry q h (time_journal (size h) s) step.after
  unfolding time_header
  has_entry s accepted has =
      let changed = stamped_by making h step s accepted has attends in (
        entry_is making step s has (peg_at h (size h)) (peg_wide h (size h)) changed.0,
        λ i d at is time. omega (arith, index_is making step s has (peg_at h (size h)) (peg_wide h (size h)) changed.0, slice_get_within step.before d.header.a _ (before.each i d at is time)),
      )

  anchor_pegged : (refusal : Option Refusal) (stamp : Option Stamp) → own_refusal real_limits h Anchor ≡ refusal → stamp_of step ≡ stamp → PeggedFrom q (after_judgement refusal (option_map (time_journal (size h)) stamp) h) step.after
  anchor_pegged (Some refusal) stamp r is = after_is
  anchor_pegged None None r is = after_is
  anchor_pegged None (Some s) r is = placed q h step.after some after_is None (time_journal (size h) s) (λ none time. has_entry s r (has_stamp step s is))

-- what is judged against a history
judged_pegged : {q : ℕ} (making : Option Making) (h : History) (step : Step) (job : Job) → 0 < size h → PeggedFrom q h step.before → ChangesBy h making step job → PeggedFrom q (with_job real_limits (stamp_of step) h job) step.after
unfolding with_job append_header member_header occult_header clue_occult_header purge_header
judged_pegged {q} making h step (Refused refusal) some p attends = subst (PeggedFrom q h) (sym attends) p
judged_pegged {q} making h step (Append member clue content content_digest request by who number) some p attends =
    by_repeat (own_refusal real_limits h (Append member clue content content_digest request by who number)) (repeated h member number request) (λ time. cc)
  where
    by_repeat : (refusal : Option Refusal) (again : Option ℕ) → ((append_journal h member clue content content_digest request by who number).header.kind ≡ kind.Time → ⊥)
        → PeggedFrom q (after_judgement refusal (unless_repeated again (Some (append_journal h member clue content content_digest request by who number))) h) step.after
    by_repeat refusal None not_time = untimed q h step.after some (subst (PeggedFrom q h) (sym attends) p) refusal (append_journal h member clue content content_digest request by who number) not_time
    by_repeat refusal (Some n) not_time = unplaced refusal h step.after (subst (PeggedFrom q h) (sym attends) p)
judged_pegged {q} making h step (NewMember number key by) some p attends =
    untimed q h step.after some (subst (PeggedFrom q h) (sym attends) p) (own_refusal real_limits h (NewMember number key by)) (member_journal (size h) number key by) (λ time. cc)
judged_pegged {q} making h step Anchor some p attends = anchor_pegged making q h step some p attends (own_refusal real_limits h Anchor) (stamp_of step) refl refl
judged_pegged {q} making h step (Occult target leaf given) some p attends =
    untimed q h step.after some (subst (PeggedFrom q h) (sym attends) p) (own_refusal real_limits h (Occult target leaf given)) (occult_journal (size h) target leaf given) (λ time. cc)
judged_pegged {q} making h step (OccultClue clue count given) some p attends =
    untimed q h step.after some (subst (PeggedFrom q h) (sym attends) p) (own_refusal real_limits h (OccultClue clue count given)) (clue_occult_journal (size h) clue count given) (λ time. cc)
judged_pegged {q} making h step (Purge to told given) some p attends =
    untimed q h step.after some (subst (PeggedFrom q h) (sym attends) p) (own_refusal real_limits h (Purge to told given)) (purge_journal h to given) (λ time. cc)
judged_pegged {q} making h step (Ask query) some p attends = unplaced (own_refusal real_limits h (Ask query)) h step.after (subst (PeggedFrom q h) (sym attends) p)

pub from_job : {q : ℕ} (making : Option Making) (h : History) (step : Step) (job : Job) → 0 < size h → PeggedFrom q h step.before → ChangesBy (judged_at h job) making step job → PeggedFrom q (after_job h step job) step.after
unfolding after_job
from_job making h step job some p attends =
    let g = judged_at h job in
    let k = with_job real_limits (stamp_of step) g job in
    let here : 0 < size g = omega (arith, some, grows_size h g (grows_asked h job)) in
    from_settled k job step.after (omega (arith, here, grows_size g k (grows_with real_limits (stamp_of step) g job)))
    (judged_pegged making g step job here (from_judged h job step.before some p) attends)

-- ---- steps and windows

module _ (scheme : Scheme) where
  step_some : (h : History) (step : Step) → 0 < size h → 0 < size (after_step scheme h step)
  unfolding after_step
  step_some h step some = omega (arith, some, grows_size h (after_step scheme h step) (grows_job h step (job_of scheme (id h) step.line)))

  from_step : {q : ℕ} (making : Option Making) (h : History) (step : Step) → 0 < size h → PeggedFrom q h step.before → ChangesBy (judged_at h (job_of scheme (id h) step.line)) making step (job_of scheme (id h) step.line) → PeggedFrom q (after_step scheme h step) step.after
  unfolding after_step
  from_step making h step some p attends = from_job making h step (job_of scheme (id h) step.line) some p attends

  pub from_steps : {q : ℕ} (h : History) (n m : NotaryState) (steps : List Step) → 0 < size h → Took scheme h n steps m → PeggedFrom q h n.entries → PeggedFrom q (after_steps scheme h steps) m.entries
  from_steps {q} h n m [] some took p = subst (λ (x : NotaryState). PeggedFrom q h x.entries) (sym took) p
  from_steps {q} h n m (step ∷ steps) some took p =
      from_steps (after_step scheme h step) (notary_after n step) m steps (step_some h step some) took.2
      (from_step n.origin.making h step some (subst (PeggedFrom q h) (sym took.0) p) took.1.list)

  pub steps_some : (h : History) (steps : List Step) → 0 < size h → 0 < size (after_steps scheme h steps)
  steps_some h [] some = some
  steps_some h (step ∷ steps) some = steps_some (after_step scheme h step) steps (step_some h step some)

  pub from_windows : {q : ℕ} (h : History) (n m : NotaryState) (windows : List (List Step)) → 0 < size h → TookAll scheme h n windows m → PeggedFrom q h n.entries → PeggedFrom q (after scheme h windows) m.entries
  from_windows {q} h n m [] some took p = subst (λ (x : NotaryState). PeggedFrom q h x.entries) (sym took) p
  from_windows {q} h n m (window ∷ windows) some took p =
      let g = after_steps scheme h window in
      let here : 0 < size g = steps_some h window some in
      from_windows (close g) took.0 m windows (omega (arith, here, ap length (journals_close g))) took.2
      (from_close g took.0.entries here (from_steps h n took.0 window some took.1 p))

  windows_some : (h : History) (windows : List (List Step)) → 0 < size h → 0 < size (after scheme h windows)
  windows_some h windows some = omega (arith, some, grows_size h (after scheme h windows) (grows_windows scheme h windows))

-- ---- .. from the point on

-- the point never falls
pub grows_point : (h g : History) → Grows h g → point h ≤ point g
grows_point h g more = point_kept h g more.more more.journals_are

pub pegged_grown : (h g : History) (es : List (List ℕ)) → Grows h g → PeggedFrom (point h) g es → Pegged g es
pegged_grown h g es more p = from_later (point g) g es (grows_point h g more) p

pub pegged_close : (h : History) (es : List (List ℕ)) → 0 < size h → Pegged h es → Pegged (close h) es
pegged_close h es some p = pegged_grown h (close h) es (grows_close h) (from_close h es some p)

pub pegged_job : (making : Option Making) (h : History) (step : Step) (job : Job) → 0 < size h → Pegged h step.before → ChangesBy (judged_at h job) making step job → Pegged (after_job h step job) step.after
pegged_job making h step job some p attends = pegged_grown h (after_job h step job) step.after (grows_job h step job) (from_job making h step job some p attends)

module _ (scheme : Scheme) where
  pub pegged_steps : (h : History) (n m : NotaryState) (steps : List Step) → 0 < size h → Took scheme h n steps m → Pegged h n.entries → Pegged (after_steps scheme h steps) m.entries
  pegged_steps h n m steps some took p = pegged_grown h (after_steps scheme h steps) m.entries (grows_steps scheme h steps) (from_steps scheme h n m steps some took p)

  pub pegged_windows : (h : History) (n m : NotaryState) (windows : List (List Step)) → 0 < size h → TookAll scheme h n windows m → Pegged h n.entries → Pegged (after scheme h windows) m.entries
  pegged_windows h n m windows some took p = pegged_grown h (after scheme h windows) m.entries (grows_windows scheme h windows) (from_windows scheme h n m windows some took p)

  -- each history on the way from the first to the last
  pub pegged_between : (h k : History) (n mid m : NotaryState) (windows : List (List Step)) (steps : List Step) (placed more : List Entry) → 0 < size h
      → TookAll scheme h n windows mid → Took scheme (after scheme h windows) mid steps m → Pegged h n.entries
      → journals k ≡ journals h ++ placed → journals (after_steps scheme (after scheme h windows) steps) ≡ journals k ++ more → Pegged k m.entries
  pegged_between h k n mid m windows steps placed more some took now p is last =
      let g = after scheme h windows in
      from_later (point k) k m.entries (point_kept h k placed is)
      (from_fewer k (after_steps scheme g steps) more m.entries last (omega (arith, some, ap length is, length-append (journals h) placed))
      (from_steps scheme g mid m steps (windows_some scheme h windows some) now (from_windows scheme h n mid windows some took p)))

-- ---- a new ledger

pub pegged_new : (genesis : Genesis) (es : List (List ℕ)) → IsList es → Pegged (new_ledger genesis) es
unfolding genesis_header
pegged_new genesis es list = record {
  list = list;
  each = λ j e at is time. absurd (untimed_new j e is time);
  rises = λ i j d e less at is_d time_d is_e time_e. absurd (untimed_new i d is_d time_d);
} where
  untimed_new : (j : ℕ) (e : Entry) → slice_get (journals (new_ledger genesis)) j ≡ Some e → e.header.kind ≡ kind.Time → ⊥
  untimed_new zero e is time = let first = ap (λ (x : Entry). x.header.kind) (same_Some _ e is) in cc
  untimed_new (suc j) e is time = cc
