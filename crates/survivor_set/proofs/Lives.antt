-- What a ledger kept it carries on and revives, however often it was carried on.
use Rattle.std.specs.Prelude.{slice_get, Result, Ok, Err}
use Rattle.std.proofs.Common.{◌≡◌, ℕ, inl, inr, List, [], ◌∷◌, Some, None, sym, ap, ◌∙◌, subst, arith}
use Rattle.std.proofs.lemmas.Option.{none-some, get_or_from_slice_get, slice_get_within}
use Rattle.ledger_bytes.specs.Begins.{Begins}
use Rattle.ledger_model.specs.History.{History, journals}
use Rattle.ledger_model.specs.Lawful.{AreLawful}
use Rattle.proof_maker.specs.declared.made.Made.{Made}
use Rattle.survivor_set.specs.Sets.{Saved, SavedSet}
use Rattle.survivor_set.specs.Outcomes.{AreJournalsOf, IsSurvivorOf, set_refusal, later_refusal, carry_refusal, carried_set, CarryEnds, CarriesOn, Revives}
use Rattle.survivor_set.specs.Keeping.{IsSetOf, keep_refusal, point_refusal, numbers_refusal}
use Rattle.survivor_set.specs.Lives.{Carry, AreCarries, set_after, history_after, purge_refusal, IsCarried, IsRevived}
use Rattle.survivor_set.specs.declared.failure.SetErr.{SetErr}
use Rattle.survivor_set.specs.declared.failure.SetErr.TheVariants.{Refused, Bad, NotBelow, OtherLedger, LeafPath, DiskFault, NoMemory}
use Rattle.survivor_set.proofs.Checked.{or_ok, neither}
use Rattle.survivor_set.proofs.Growth.{later_passes}
use Rattle.survivor_set.proofs.Kept.{point_passes}
use Rattle.survivor_set.proofs.Passing.{kept_set_refused, carried_stay, carried_set_refused}
use Rattle.survivor_set.proofs.Stays.{stays_of}

-- ---- a whole life

-- a set is of each history that goes on from this one, which refuses it only where it has purged behind the set's point
record IsGood (h : History) (s : SavedSet) : Type 0 where
  of : (k : History) → Begins (journals h) (journals k) → AreJournalsOf k s
  refused : (k : History) → Begins (journals h) (journals k) → set_refusal k s ≡ purge_refusal k s.point

kept_good : (h : History) (p : ℕ) (ns : List ℕ) (s : SavedSet) → AreLawful (journals h) → keep_refusal h p ns ≡ None → IsSetOf h p ns s → IsGood h s
kept_good h p ns s lawful none is =
    let there = point_passes h p (neither (point_refusal h p) (numbers_refusal h p ns) none).0 in
    record {
      of = λ k begins. stays_of h k p ns s lawful begins (omega (arith, there.1)) is;
      refused = λ k begins. kept_set_refused h k p ns s lawful begins none is ∙ ap (purge_refusal k) (sym is.point_is);
    }

carried_good : (h g : History) (q : ℕ) (s : SavedSet) → IsGood h s → Begins (journals h) (journals g) → carry_refusal g s q ≡ None → IsGood g (carried_set g q s)
unfolding carried_set
carried_good h g q s good begins none =
    let there = later_passes g s q (neither (set_refusal g s) (later_refusal g s q) none).1 in
    let are = good.of g begins in
    record {
      of = λ k more. carried_stay g k q more (omega (arith, there.1)) s are;
      refused = λ k more. carried_set_refused g k q s more none are;
    }

carries_good : (h : History) (s : SavedSet) (cs : List Carry) → IsGood h s → AreCarries h s cs → IsGood (history_after h cs) (set_after s cs)
carries_good h s [] good are = good
carries_good h s (c ∷ cs) good are = carries_good c.by (carried_set c.by c.to s) cs (carried_good h c.by c.to s good are.0 are.1) are.2

pub lives_on : (h k : History) (p : ℕ) (ns : List ℕ) (s : SavedSet) (cs : List Carry) → AreLawful (journals h) → keep_refusal h p ns ≡ None → IsSetOf h p ns s → AreCarries h s cs
    → Begins (journals (history_after h cs)) (journals k) → (set_refusal k (set_after s cs) ≡ purge_refusal k (set_after s cs).point) × AreJournalsOf k (set_after s cs)
lives_on h k p ns s cs lawful none is are begins =
    let good = carries_good h s cs (kept_good h p ns s lawful none is) are in
    (good.refused k begins, good.of k begins)

-- ---- what it gives

pub gives_set : (h : History) (s : SavedSet) (q : ℕ) (r : Result (List ℕ) SetErr) → set_refusal h s ≡ None → AreJournalsOf h s → CarriesOn h s q r → IsCarried h s q r
gives_set h s q (Ok bytes) none are carries = (sym (or_ok (set_refusal h s) (later_refusal h s q) none) ∙ carries.0, carries.2 are)
gives_set h s q (Err e) none are ends = subst (λ why. CarryEnds why e) (or_ok (set_refusal h s) (later_refusal h s q) none) ends

pub gives_proof : (h : History) (es : List (List ℕ)) (s : SavedSet) (i : ℕ) (x : Saved) (r : Result Made SetErr) → set_refusal h s ≡ None → AreJournalsOf h s → slice_get s.survivors i ≡ Some x
    → Revives h es (set_refusal h s) s.point x r → IsRevived h es x r
gives_proof h es s i x (Ok made) none are here gives =
    gives.1 (subst (IsSurvivorOf h s.point) (get_or_from_slice_get s.survivors i x x here) (are i x (slice_get_within s.survivors i x here)))
gives_proof h es s i x (Err (Refused why)) none are here (inl is) = absurd (none-some (Refused why) (sym none ∙ is))
gives_proof h es s i x (Err (Refused why)) none are here (inr failed) = (failed.0, failed.1)
gives_proof h es s i x (Err (Bad bad)) none are here gives = gives
gives_proof h es s i x (Err (NotBelow p)) none are here is = none-some (NotBelow p) (sym none ∙ is)
gives_proof h es s i x (Err (OtherLedger kept)) none are here is = none-some (OtherLedger kept) (sym none ∙ is)
gives_proof h es s i x (Err LeafPath) none are here is = none-some LeafPath (sym none ∙ is)
gives_proof h es s i x (Err DiskFault) none are here gives = gives
gives_proof h es s i x (Err NoMemory) none are here gives = tt
