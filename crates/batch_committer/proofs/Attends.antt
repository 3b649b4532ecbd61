-- What a notary does in a step, and what comes of it.
use Rattle.std.specs.Prelude.{Bool, true, false, ◌||◌, ◌&&◌, nat_lt, Err}
use Rattle.std.specs.Option.{is_none}
use Rattle.std.specs.Int.{w64, to_be_bytes, from_be_bytes}
use Rattle.std.proofs.Common.{◌≡◌, ◌≢◌, ℕ, ◌^◌, ◌<◌, ◌⊎◌, inl, inr, cond, List, [], ◌∷◌, ◌++◌, length, drop, Option, Some, None, refl, ap, sym, subst, ◌∙◌, arith, append_assoc, length-append}
use Rattle.std.proofs.lemmas.Bool.{true≢false, le-leb, lt-leb, lt-ltb, le-ltb}
use Rattle.std.proofs.lemmas.List.{take_at, drop_at}
use Rattle.std.proofs.lemmas.Nat.{from_be_bytes-to_be_bytes_8}
use Rattle.ledger_bytes.specs.Digests.{digest}
use Rattle.ledger_bytes.specs.declared.refusal.Refusal.{Refusal}
use Rattle.ledger_bytes.specs.declared.refusal.Refusal.TheVariants.{NotaryFault, NotaryFull}
use Rattle.ledger_bytes.specs.Causes.{count_after}
use Rattle.journal_record.specs.declared.rules.TheConstants.{NOTARY_LIMIT}
use Rattle.journal_record.specs.declared.stamp.Stamp.{Stamp}
use Rattle.time_peg.specs.Entries.{NotaryState, IsList, HasOneMore, IsMade, CountsFailures, entry_of, time_in}
use Rattle.time_peg.specs.declared.notary.NotaryErr.{NotaryErr}
use Rattle.time_peg.specs.declared.notary.NotaryErr.TheVariants.{Failed}
use Rattle.ledger_model.specs.Anchors.{peg_at, is_full_list, stamp_from, stamp_of, no_stamp}
use Rattle.ledger_model.specs.History.{History, size}
use Rattle.ledger_model.specs.Judgements.{own_refusal}
use Rattle.ledger_model.specs.Limits.{real_limits}
use Rattle.ledger_model.specs.Notary.{asks, Changes}
use Rattle.ledger_model.specs.declared.job.Job.{Job}
use Rattle.ledger_model.specs.declared.job.Job.TheVariants.{Refused, Append, NewMember, Anchor, Occult, OccultClue, Purge, Ask}
use Rattle.ledger_model.specs.declared.outcome.Query.TheVariants as query
use Rattle.batch_committer.specs.Attending.{step_in, Attended, EndsAsking}
use Rattle.batch_committer.specs.World.{CommitterState}

drop_own : (es : List (List ℕ)) → drop (length es) es ≡ []
drop_own [] = refl
drop_own (e ∷ es) = drop_own es

-- a step in which the notary wasn't used gave no stamp
pub unstamped : (n : NotaryState) (failed : Bool) (lane index : ℕ) (line : List ℕ) → stamp_of (step_in n n failed lane index line) ≡ None
unfolding stamp_of
unstamped n failed lane index line = by_cases (failed || is_full_list n.entries) where
  by_cases : (v : Bool) → cond v None (stamp_from (length n.entries) (drop (length n.entries) n.entries)) ≡ None
  by_cases true = refl
  by_cases false = ap (stamp_from (length n.entries)) (drop_own n.entries)

pub unstamped_same : (n m : NotaryState) (failed : Bool) (lane index : ℕ) (line : List ℕ) → m.entries ≡ n.entries → stamp_of (step_in n m failed lane index line) ≡ None
unfolding stamp_of
unstamped_same n m failed lane index line same = by_cases (failed || is_full_list n.entries) where
  by_cases : (v : Bool) → cond v None (stamp_from (length n.entries) (drop (length n.entries) m.entries)) ≡ None
  by_cases true = refl
  by_cases false = ap (λ es. stamp_from (length n.entries) (drop (length n.entries) es)) same ∙ ap (stamp_from (length n.entries)) (drop_own n.entries)

-- it didn't fail
unfailed : {called : Bool} → false ≡ true → called ≡ true
unfailed failed = absurd (true≢false (sym failed))

-- it took part in the step of a job that asks for nothing
untouched : (n : NotaryState) (h : History) (lane index : ℕ) (line : List ℕ) (job : Job) (asked : Bool) → asks h n.entries job ≡ asked → asked ≡ false → Attended n n h (step_in n n false lane index line) job
untouched n h lane index line job asked is none = record {
  list = record { list = subst (λ v. Changes v false n.origin.making (peg_at h (size h)) n.entries n.entries) (sym (is ∙ none)) refl; called = unfailed };
  origin = refl;
  count = refl;
}

-- .. of any other than an anchor, and of an anchor that is refused before it
pub attends_other : (n : NotaryState) (h : History) (lane index : ℕ) (line : List ℕ) (job : Job) → (job ≡ Anchor → own_refusal real_limits h job ≡ None → ⊥) → Attended n n h (step_in n n false lane index line) job
attends_other n h lane index line (Refused refusal) not_it = untouched n h lane index line (Refused refusal) false refl refl
attends_other n h lane index line (Append member clue content content_digest request by who number) not_it = untouched n h lane index line (Append member clue content content_digest request by who number) false refl refl
attends_other n h lane index line (NewMember number key by) not_it = untouched n h lane index line (NewMember number key by) false refl refl
attends_other n h lane index line Anchor not_it = by_refusal (own_refusal real_limits h Anchor) refl where
  by_refusal : (o : Option Refusal) → own_refusal real_limits h Anchor ≡ o → Attended n n h (step_in n n false lane index line) Anchor
  by_refusal None is = absurd (not_it refl is)
  by_refusal (Some refusal) is = untouched n h lane index line Anchor false (ap (λ o. is_none o && nat_lt (length n.entries) NOTARY_LIMIT) is) refl
attends_other n h lane index line (Occult target leaf given) not_it = untouched n h lane index line (Occult target leaf given) false refl refl
attends_other n h lane index line (OccultClue clue count given) not_it = untouched n h lane index line (OccultClue clue count given) false refl refl
attends_other n h lane index line (Purge p told given) not_it = untouched n h lane index line (Purge p told given) false refl refl
attends_other n h lane index line (Ask query) not_it = untouched n h lane index line (Ask query) false refl refl

-- of each job but an anchor
pub untouched_by : (n : NotaryState) (job : Job) → ((h : History) (lane index : ℕ) (line : List ℕ) → Attended n n h (step_in n n false lane index line) job) ⊎ (job ≡ Anchor)
untouched_by n (Refused refusal) = inl (λ h lane index line. untouched n h lane index line (Refused refusal) false refl refl)
untouched_by n (Append member clue content content_digest request by who number) = inl (λ h lane index line. untouched n h lane index line (Append member clue content content_digest request by who number) false refl refl)
untouched_by n (NewMember number key by) = inl (λ h lane index line. untouched n h lane index line (NewMember number key by) false refl refl)
untouched_by n Anchor = inr refl
untouched_by n (Occult target leaf given) = inl (λ h lane index line. untouched n h lane index line (Occult target leaf given) false refl refl)
untouched_by n (OccultClue clue count given) = inl (λ h lane index line. untouched n h lane index line (OccultClue clue count given) false refl refl)
untouched_by n (Purge p told given) = inl (λ h lane index line. untouched n h lane index line (Purge p told given) false refl refl)
untouched_by n (Ask query) = inl (λ h lane index line. untouched n h lane index line (Ask query) false refl refl)

-- a job that wasn't judged, where the notary wasn't used
pub ends_untouched : (old : CommitterState) (n : NotaryState) (job : Job) → EndsAsking old n n job
ends_untouched old n job = elim (untouched_by n job) [ inl f ↦ inl (false, λ h lane index line p. f h lane index line) | inr is ↦ inr (is, refl) ]

-- the head of its list was asked for
pub attends_head : (n m : NotaryState) (h : History) (lane index : ℕ) (line : List ℕ) → m.origin ≡ n.origin → m.entries ≡ n.entries → m.faults ≡ n.faults → Attended n m h (step_in n m false lane index line) (Ask query.Head)
attends_head n m h lane index line origin same count = record { list = record { list = same; called = unfailed }; origin = origin; count = count }

pub attends_headless : (n m : NotaryState) (h : History) (lane index : ℕ) (line : List ℕ) (e : NotaryErr) → e ≡ Failed → m.origin ≡ n.origin → m.entries ≡ n.entries → CountsFailures {T = Unit {0}} (Err e) n.faults m.faults → Attended n m h (step_in n m true lane index line) (Ask query.Head)
attends_headless n m h lane index line e is origin same count = record { list = record { list = same; called = λ failed. refl }; origin = origin; count = subst (λ x. CountsFailures {T = Unit {0}} (Err x) n.faults m.faults) is count }

-- ---- a stamp

module _ (n m : NotaryState) (peg : List ℕ) (wide : length peg ≡ 32) (s : Stamp) (fits : s.time < 2 ^ 64) (is : m.entries ≡ n.entries ++ entry_of s.time peg s.salt.0 ∷ []) (made : IsMade n.origin.making n.entries s.time s.salt.0) (list : IsList m.entries) where
  abbrev e : List ℕ
  e = entry_of s.time peg s.salt.0

  pub room : length n.entries < NOTARY_LIMIT
  room = omega (arith, list.few, ap length is, length-append n.entries (e ∷ []))

  time_is : time_in e ≡ s.time
  unfolding time_in
  time_is = ap (from_be_bytes w64) (take_at (to_be_bytes w64 s.time) (peg ++ s.salt.0) 8 refl) ∙ from_be_bytes-to_be_bytes_8 s.time fits

  salt_is : drop 40 e ≡ s.salt.0
  salt_is = ap (drop 40) (sym (append_assoc (to_be_bytes w64 s.time) peg s.salt.0)) ∙ drop_at (to_be_bytes w64 s.time ++ peg) s.salt.0 40 (omega (arith, wide, length-append (to_be_bytes w64 s.time) peg))

  -- .. is the one that the step gave
  pub stamped : (lane index : ℕ) (line : List ℕ) → s.index ≡ length n.entries → stamp_of (step_in n m false lane index line) ≡ Some s
  unfolding stamp_of
  stamped lane index line at =
      ap (λ v. cond v None (stamp_from (length n.entries) (drop (length n.entries) m.entries))) (lt-leb NOTARY_LIMIT (length n.entries) room)
      ∙ ap (λ es. stamp_from (length n.entries) es) (ap (drop (length n.entries)) is ∙ drop_at n.entries (e ∷ []) (length n.entries) refl)
      ∙ ap (λ t. Some (record { index = length n.entries; time = t; salt = digest (drop 40 e) })) time_is
      ∙ ap (λ l. Some (record { index = length n.entries; time = s.time; salt = digest l })) salt_is
      ∙ ap (λ i. Some (record { index = i; time = s.time; salt = s.salt })) (sym at)

  pub attends_stamped : (h : History) (lane index : ℕ) (line : List ℕ) → own_refusal real_limits h Anchor ≡ None → peg ≡ peg_at h (size h) → m.origin ≡ n.origin → m.faults ≡ n.faults → Attended n m h (step_in n m false lane index line) Anchor
  attends_stamped h lane index line accepted pegs origin same = record {
    list = record {
      list = subst (λ v. Changes v false n.origin.making (peg_at h (size h)) n.entries m.entries)
          (sym (ap (λ o. is_none o && nat_lt (length n.entries) NOTARY_LIMIT) accepted ∙ lt-ltb (length n.entries) NOTARY_LIMIT room))
          ((s.time, s.salt.0, fits, is ∙ ap (λ p. n.entries ++ entry_of s.time p s.salt.0 ∷ []) pegs, made), list);
      called = unfailed;
    };
    origin = origin;
    count = same;
  }

-- it failed
module _ (n m : NotaryState) (peg : List ℕ) (left : (m.entries ≡ n.entries) ⊎ HasOneMore n.origin.making peg n.entries m.entries) (list : IsList m.entries) (full : length n.entries ≢ NOTARY_LIMIT) where
  few : length n.entries < NOTARY_LIMIT
  few = elim left [
    | inl same ↦ omega (arith, list.few, ap length same, full)
    | inr more ↦ omega (arith, list.few, ap length more.3, length-append n.entries (entry_of more.0 peg more.1 ∷ []))
  ]

  pub attends_failed : (h : History) (lane index : ℕ) (line : List ℕ) → own_refusal real_limits h Anchor ≡ None → peg ≡ peg_at h (size h) → m.origin ≡ n.origin → m.faults ≡ count_after n.faults → Attended n m h (step_in n m true lane index line) Anchor
  attends_failed h lane index line accepted pegs origin rose =
      let asked : asks h n.entries Anchor ≡ true = ap (λ o. is_none o && nat_lt (length n.entries) NOTARY_LIMIT) accepted ∙ lt-ltb (length n.entries) NOTARY_LIMIT few in record {
        list = record {
          list = subst (λ v. Changes v true n.origin.making (peg_at h (size h)) n.entries m.entries) (sym asked)
              (elim left [ inl same ↦ inl same | inr more ↦ inr (subst (λ p. HasOneMore n.origin.making p n.entries m.entries) pegs more, list) ]);
          called = λ failed. asked;
        };
        origin = origin;
        count = rose;
      }

  pub failed_stamp : (lane index : ℕ) (line : List ℕ) → stamp_of (step_in n m true lane index line) ≡ None
  unfolding stamp_of
  failed_stamp lane index line = refl

  pub failed_why : (lane index : ℕ) (line : List ℕ) → no_stamp (step_in n m true lane index line) ≡ NotaryFault
  failed_why lane index line = ap (λ v. cond v NotaryFull NotaryFault) (lt-leb NOTARY_LIMIT (length n.entries) few)

-- its list is full
module _ (n m : NotaryState) (same : m.entries ≡ n.entries) (full : length n.entries ≡ NOTARY_LIMIT) where
  pub attends_full : (h : History) (lane index : ℕ) (line : List ℕ) → own_refusal real_limits h Anchor ≡ None → m.origin ≡ n.origin → m.faults ≡ n.faults → Attended n m h (step_in n m false lane index line) Anchor
  attends_full h lane index line accepted origin count = record {
    list = record {
      list = subst (λ v. Changes v false n.origin.making (peg_at h (size h)) n.entries m.entries)
          (sym (ap (λ o. is_none o && nat_lt (length n.entries) NOTARY_LIMIT) accepted ∙ le-ltb (length n.entries) NOTARY_LIMIT (omega (arith, full)))) same;
      called = unfailed;
    };
    origin = origin;
    count = count;
  }

  pub full_stamp : (lane index : ℕ) (line : List ℕ) → stamp_of (step_in n m false lane index line) ≡ None
  unfolding stamp_of
  full_stamp lane index line = ap (λ v. cond v None (stamp_from (length n.entries) (drop (length n.entries) m.entries))) (le-leb NOTARY_LIMIT (length n.entries) (omega (arith, full)))

  pub full_why : (lane index : ℕ) (line : List ℕ) → no_stamp (step_in n m false lane index line) ≡ NotaryFull
  full_why lane index line = ap (λ v. cond v NotaryFull NotaryFault) (le-leb NOTARY_LIMIT (length n.entries) (omega (arith, full)))
