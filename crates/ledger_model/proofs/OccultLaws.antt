-- What an occult of either kind that is accepted does: what it names is hidden, and nothing else changes in what can be shown.
use Rattle.std.specs.Prelude.{nat_le, nat_lt, not, slice_get, ◌==◌}
use Rattle.std.specs.Option.{is_some, option_or}
use Rattle.std.proofs.Common.{◌≡◌, ◌≢◌, ℕ, ◌+◌, ◌<◌, ◌≤◌, ◌&&◌, Bool, true, false, cond, List, [], ◌∷◌, ◌++◌, length, Option, Some, None, refl, sym, ◌∙◌, ap, subst, arith, length-append}
use Rattle.std.proofs.lemmas.Bool.{lt-leb, le-ltb, eqb-true, eq-eqb, false_from_ne_true, true≢false}
use Rattle.std.proofs.lemmas.Option.{slice_get_within}
use Rattle.ledger_bytes.specs.declared.digest.Digest.{Digest}
use Rattle.journal_record.specs.Entry.{Entry}
use Rattle.journal_record.specs.declared.approval.Approval.{Approval}
use Rattle.ledger_model.specs.Appends.{occult_header, occult_journal, clue_occult_header, clue_occult_journal}
use Rattle.journal_record.specs.Rules.{is_no_clue}
use Rattle.ledger_model.specs.Clues.{is_of_clue, jsns_with}
use Rattle.ledger_model.specs.History.{History, history, journals, size, point, close, purge_point, greatest_point}
use Rattle.ledger_model.specs.Judgements.{own_refusal}
use Rattle.ledger_model.specs.Lawful.{IsNext, IsNextOccult, IsNextClueOccult, AreLawful, IsLawful}
use Rattle.ledger_model.specs.Limits.{real_limits}
use Rattle.ledger_model.specs.Outcomes.{after_judgement, with_job, view}
use Rattle.ledger_model.specs.Rules.{after_job}
use Rattle.ledger_model.specs.Step.{Step}
use Rattle.ledger_model.specs.Targets.{hides, is_hidden_by, is_hidden, hider_among, hider, shown_with}
use Rattle.ledger_model.specs.declared.job.Job.TheVariants.{Occult, OccultClue}
use Rattle.ledger_model.specs.declared.view.View.TheVariants.{Absent, Purged, Occulted, Whole}
use Rattle.ledger_model.proofs.AcceptedLaws.{occult_own, occult_next, clue_occult_own, clue_occult_next}
use Rattle.ledger_model.proofs.GrowLaws.{size_close}
use Rattle.ledger_model.proofs.HideLaws.{hider_at, hidden_is, hider_kept, hider_made, hidden_kept, hides_behind, first_behind, number_at, header_at, past, covers_is}
use Rattle.ledger_model.proofs.KeepLaws.{journals_close, journals_wider, close_lawful, real_within}
use Rattle.ledger_model.proofs.LawfulLaws.{AreFrom, lawful_from, lawful_more}
use Rattle.ledger_model.proofs.PlaceLaws.{point_same}

-- a journal that moves no point stands behind those that were there
module _ (h later : History) (placed : Entry) (lawful : IsLawful h) (grown : journals later ≡ journals h ++ placed ∷ []) (next : IsNext (history [] (journals h)) placed.header) (stays : purge_point placed ≡ 0) where
  from_behind : AreFrom 0 (journals h ++ placed ∷ [])
  from_behind = lawful_from (journals h ++ placed ∷ []) (lawful_more (journals h) placed lawful.journals_are next)

  hider_behind : (n : ℕ) → hider later n ≡ hider_at (journals h ++ placed ∷ []) n
  hider_behind n = ap (λ es. hider_at es n) grown

  size_behind : size later ≡ size h + 1
  size_behind = ap length grown ∙ length-append (journals h) (placed ∷ [])

  point_behind : point later ≡ point h
  unfolding point
  point_behind = ap greatest_point grown ∙ point_same (journals h) placed stays

  hidden_as : (n : ℕ) → hider later n ≡ hider h n → is_hidden later n ≡ is_hidden h n
  hidden_as n same = hidden_is later n ∙ ap is_some same ∙ sym (hidden_is h n)

  -- what can be shown of one that was there and is kept
  kept_before : (n : ℕ) → n < size h → point h ≤ n → view h n ≡ cond (is_hidden h n) Occulted Whole
  unfolding view
  kept_before n there kept =
      ap (λ v. cond v Absent (cond (nat_lt n (point h)) (Purged (point h)) (cond (is_hidden h n) Occulted Whole))) (lt-leb (size h) n there)
      ∙ ap (λ v. cond v (Purged (point h)) (cond (is_hidden h n) Occulted Whole)) (le-ltb n (point h) kept)

  kept_behind : (n : ℕ) → n < size h → point h ≤ n → view later n ≡ cond (is_hidden later n) Occulted Whole
  unfolding view
  kept_behind n there kept =
      ap (λ v. cond v Absent (cond (nat_lt n (point later)) (Purged (point later)) (cond (is_hidden later n) Occulted Whole))) (lt-leb (size later) n (omega (arith, there, size_behind)))
      ∙ ap (λ v. cond v (Purged (point later)) (cond (is_hidden later n) Occulted Whole)) (le-ltb n (point later) (omega (arith, kept, point_behind)))

  -- .. and of one that is hidden as it was
  same_view : (n : ℕ) → n < size h → hider later n ≡ hider h n → view later n ≡ view h n
  unfolding view
  same_view n below same =
      ap (λ v. cond v Absent (cond (nat_lt n (point later)) (Purged (point later)) (cond (is_hidden later n) Occulted Whole))) (lt-leb (size later) n (omega (arith, below, size_behind)) ∙ sym (lt-leb (size h) n below))
      ∙ ap (λ p. cond (nat_le (size h) n) Absent (cond (nat_lt n p) (Purged p) (cond (is_hidden later n) Occulted Whole))) point_behind
      ∙ ap (λ v. cond (nat_le (size h) n) Absent (cond (nat_lt n (point h)) (Purged (point h)) (cond v Occulted Whole))) (hidden_as n same)

-- the journals behind an accepted job whose journal is a block of its own
alone_grown : (h g : History) (placed : Entry) → g ≡ close (history (close h).closed ((close h).waiting ++ placed ∷ [])) → journals g ≡ journals h ++ placed ∷ []
alone_grown h g placed is =
    let k = history (close h).closed ((close h).waiting ++ placed ∷ []) in
    ap journals is ∙ journals_close k ∙ journals_wider (close h) placed ∙ ap (λ js. js ++ placed ∷ []) (journals_close h)

module _ (h : History) (step : Step) (target : ℕ) (leaf : Digest) (given : List Approval) (lawful : IsLawful h) (accepted : own_refusal real_limits (close h) (Occult target leaf given) ≡ None) where
  abbrev placed : Entry
  placed = occult_journal (size (close h)) target leaf given

  abbrev later : History
  later = after_job h step (Occult target leaf given)

  own : IsNextOccult (close h) (occult_header (size (close h)) target leaf given)
  own = occult_own real_limits real_within (close h) target leaf given accepted

  grown : journals later ≡ journals h ++ placed ∷ []
  unfolding after_job with_job
  grown =
      alone_grown h later placed (ap (λ r. close (after_judgement r (Some (occult_journal (size (close h)) target leaf given)) (close h))) accepted)

  next : IsNext (history [] (journals h)) placed.header
  next = subst (λ js. IsNext (history [] js) placed.header) (journals_close h) (occult_next real_limits real_within (close h) target leaf given accepted (close_lawful h lawful).journals_are)

  stays : purge_point placed ≡ 0
  unfolding occult_header
  stays = refl

  -- the target was there, kept and shown
  there : target < size h
  unfolding occult_header
  there = omega (arith, own.before, size_close h)

  kept : point h ≤ target
  unfolding occult_header point
  kept = omega (arith, own.kept, ap greatest_point (journals_close h))

  shown : is_hidden h target ≡ false
  unfolding occult_header
  shown = ap (λ js. is_hidden_by js (slice_get js target)) (sym (journals_close h)) ∙ own.shown

  -- it hides the one that has its target's number
  hides_by : (n : ℕ) (e : Entry) → slice_get (journals h) n ≡ Some e → hides e placed ≡ (target == n)
  unfolding occult_header
  hides_by n e at = ap (λ m. target == m) (number_at 0 n (journals h) e (lawful_from (journals h) lawful.journals_are) at ∙ omega arith)

  -- the occult hides it
  pub target_hider : hider later target ≡ Some (size h)
  unfolding occult_header
  target_hider = by_target (slice_get (journals h) target) refl where
    by_target : (t : Option Entry) → slice_get (journals h) target ≡ t → hider later target ≡ Some (size h)
    by_target None at = absurd (omega (arith, there, past (journals h) target at))
    by_target (Some e) at =
        hider_behind h later placed lawful grown next stays target
        ∙ hider_made (journals h) placed e target at (sym (hidden_is h target) ∙ shown) (hides_by target e at ∙ eq-eqb target target refl)
        ∙ ap Some (size_close h)

  -- .. and no other
  other_hider : (n : ℕ) → n ≢ target → hider later n ≡ hider h n
  other_hider n other =
      hider_behind h later placed lawful grown next stays n
      ∙ hider_kept (journals h) placed n (from_behind h later placed lawful grown next stays) (λ e at. hides_by n e at ∙ false_from_ne_true (target == n) (λ is. other (sym (eqb-true target n is))))

  -- what can be shown of it before and after, and of all others that were there
  pub target_before : view h target ≡ Whole
  target_before = kept_before h later placed lawful grown next stays target there kept ∙ ap (λ v. cond v Occulted Whole) shown

  pub target_after : view later target ≡ Occulted
  target_after =
      kept_behind h later placed lawful grown next stays target there kept ∙ ap (λ v. cond v Occulted Whole) (hidden_is later target ∙ ap is_some target_hider)

  pub other_view : (n : ℕ) → n < size h → n ≢ target → view later n ≡ view h n
  other_view n below other = same_view h later placed lawful grown next stays n below (other_hider n other)

-- the same of an occult by clue
module _ (h : History) (step : Step) (clue : Digest) (count : ℕ) (given : List Approval) (lawful : IsLawful h) (accepted : own_refusal real_limits (close h) (OccultClue clue count given) ≡ None) where
  abbrev clue_placed : Entry
  clue_placed = clue_occult_journal (size (close h)) clue count given

  abbrev clue_later : History
  clue_later = after_job h step (OccultClue clue count given)

  clue_is_own : IsNextClueOccult (close h) (clue_occult_header (size (close h)) clue count given)
  clue_is_own = clue_occult_own real_limits real_within (close h) clue count given accepted

  pub clue_told : length (jsns_with h clue) ≡ count
  unfolding clue_occult_header jsns_with
  clue_told = ap (λ js. length (jsns_with (history [] js) clue)) (sym (journals_close h)) ∙ sym clue_is_own.count

  pub clue_some : shown_with h clue ≢ []
  unfolding clue_occult_header shown_with jsns_with point
  clue_some none = clue_is_own.shown (ap (λ js. shown_with (history [] js) clue) (journals_close h) ∙ none)

  clue_grown : journals clue_later ≡ journals h ++ clue_placed ∷ []
  unfolding after_job with_job
  clue_grown =
      alone_grown h clue_later clue_placed (ap (λ r. close (after_judgement r (Some (clue_occult_journal (size (close h)) clue count given)) (close h))) accepted)

  clue_next : IsNext (history [] (journals h)) clue_placed.header
  clue_next = subst (λ js. IsNext (history [] js) clue_placed.header) (journals_close h) (clue_occult_next real_limits real_within (close h) clue count given accepted (close_lawful h lawful).journals_are)

  clue_stays : purge_point clue_placed ≡ 0
  unfolding clue_occult_header
  clue_stays = refl

  clue_named : is_no_clue clue ≡ false
  unfolding clue_occult_header
  clue_named = not_true (is_no_clue clue) clue_next.layout.link where
    not_true : (v : Bool) → not v ≡ true → v ≡ false
    not_true true is = absurd (true≢false (sym is))
    not_true false is = refl

  -- it hides those of the clue
  clue_hides : (n : ℕ) (e : Entry) → slice_get (journals h) n ≡ Some e → hides e clue_placed ≡ is_of_clue clue e
  unfolding clue_occult_header
  clue_hides n e at =
      let from = lawful_from (journals h) lawful.journals_are in
      covers_is clue_placed.header e (header_at 0 n (journals h) e from at) clue_named (omega (arith, number_at 0 n (journals h) e from at, slice_get_within (journals h) n e at, size_close h))

  pub clue_hider : (n : ℕ) (e : Entry) → slice_get (journals h) n ≡ Some e → is_of_clue clue e ≡ true → hider clue_later n ≡ option_or (hider h n) (Some (size h))
  unfolding clue_occult_header
  clue_hider n e at is = by_hider (hider h n) refl where
    by_hider : (o : Option ℕ) → hider h n ≡ o → hider clue_later n ≡ option_or o (Some (size h))
    by_hider None none =
        hider_behind h clue_later clue_placed lawful clue_grown clue_next clue_stays n
        ∙ hider_made (journals h) clue_placed e n at (ap is_some none) (clue_hides n e at ∙ is)
        ∙ ap Some (size_close h)
    by_hider (Some j) some =
        hider_behind h clue_later clue_placed lawful clue_grown clue_next clue_stays n ∙ hidden_kept (journals h) clue_placed n j some

  clue_other : (n : ℕ) (e : Entry) → slice_get (journals h) n ≡ Some e → is_of_clue clue e ≡ false → hider clue_later n ≡ hider h n
  clue_other n e at is =
      hider_behind h clue_later clue_placed lawful clue_grown clue_next clue_stays n
      ∙ hider_kept (journals h) clue_placed n (from_behind h clue_later clue_placed lawful clue_grown clue_next clue_stays) (λ x there. clue_hides n x there ∙ ap (is_of_clue clue) (same_entry there) ∙ is)
    where
      same_entry : {x : Entry} → slice_get (journals h) n ≡ Some x → x ≡ e
      same_entry there = cc

  pub clue_after : (n : ℕ) (e : Entry) → slice_get (journals h) n ≡ Some e → is_of_clue clue e ≡ true → point h ≤ n → view clue_later n ≡ Occulted
  clue_after n e at is kept =
      kept_behind h clue_later clue_placed lawful clue_grown clue_next clue_stays n (slice_get_within (journals h) n e at) kept
      ∙ ap (λ v. cond v Occulted Whole) (hidden_is clue_later n ∙ ap is_some (clue_hider n e at is) ∙ some_or (hider h n))
    where
      some_or : (o : Option ℕ) → is_some (option_or o (Some (size h))) ≡ true
      some_or None = refl
      some_or (Some j) = refl

  pub clue_others : (n : ℕ) (e : Entry) → slice_get (journals h) n ≡ Some e → is_of_clue clue e ≡ false → view clue_later n ≡ view h n
  clue_others n e at is = same_view h clue_later clue_placed lawful clue_grown clue_next clue_stays n (slice_get_within (journals h) n e at) (clue_other n e at is)

-- what hides a journal stands behind it
pub hider_later : (h : History) (n j : ℕ) → IsLawful h → hider h n ≡ Some j → n < j
hider_later h n j lawful = by_target (slice_get (journals h) n) refl where
  by_target : (t : Option Entry) → slice_get (journals h) n ≡ t → hider_among (journals h) t ≡ Some j → n < j
  by_target None at is = absurd cc
  by_target (Some e) at is =
      let from = lawful_from (journals h) lawful.journals_are in
      omega (arith, first_behind (hides e) e.header.jsn 0 (journals h) j (hides_behind e) from is, number_at 0 n (journals h) e from at)
