-- A proof that is accepted under the lists' own heads is of a claim that is true of them, or it clashes with them.
use Rattle.std.proofs.Common.{◌≡◌, inl, inr, ℕ, Bool, true, false, List, [], length, Option, Some, None, Result, Ok, Err, refl, sym, ap, ◌∙◌, subst}
use Rattle.std.specs.Prelude.{IsOk, IfSome, option_map}
use Rattle.std.proofs.lemmas.Bool.{cases_Bool, cases_eq, eq-eqb, ne_eqb, false≢true}
use Rattle.ledger_bytes.specs.declared.digest.Digest.{Digest}
use Rattle.ledger_bytes.specs.declared.failure.Bad.{Bad}
use Rattle.ledger_bytes.specs.Fields.{IsBytes}
use Rattle.proof_codec.specs.declared.claim.Claim.{Claim}
use Rattle.proof_codec.specs.Proofs.{Shown, IsProof}
use Rattle.proof_codec.specs.Claims.{claim_of}
use Rattle.proof_codec.specs.Reading.{proof_of}
use Rattle.tree_model.specs.Tree.{Hash, mth}
use Rattle.tree_model.specs.Clash.{Clashes}
use Rattle.tree_model.proofs.PathClashes.{Makes}
use Rattle.merkle_tree.specs.declared.clash.Clash.{Clash}
use Rattle.audit_core.specs.declared.known.KnownLedger.{KnownLedger}
use Rattle.audit_core.specs.declared.refusal.No.{No}
use Rattle.audit_core.specs.declared.refusal.No.TheVariants.{Malformed}
use Rattle.audit_core.specs.declared.verdict.Verdict.{Verdict}
use Rattle.audit_core.specs.declared.verdict.Verdict.TheVariants.{Unaccepted, True, Clash as Clashing}
use Rattle.audit_core.specs.Bounds.{IsLowerBound, IsUpperBound}
use Rattle.audit_core.specs.Acceptance.{break_of, acceptance_of, acceptance_under, acceptance_by}
use Rattle.audit_core.specs.Truth.{Lists, HasJournal, IsTrueOf}
use Rattle.audit_core.specs.Parts.{first_of_parts, parts_of, ShownGives}
use Rattle.audit_core.specs.Deciding.{is_true}
use Rattle.audit_core.specs.Judgement.{Judgement, refused, holds, shows, shows_found, judgement_by, judgement, told_by, own_root, own_ledger, own_notary, own_acceptance, IsAcceptedByOwn, clash_of, ByOwn, Judges, JudgesShown}
use Rattle.audit_core.proofs.RootLaws.{is_root_means}
use Rattle.audit_core.proofs.ClaimLaws.{same_claim_means}
use Rattle.audit_core.proofs.BoundLaws.{lower_means, upper_means}
use Rattle.audit_core.proofs.Accepting.{Rests, under_found, is_yes, yes_found, yes_only}
use Rattle.audit_core.proofs.Bounding.{InOrder, shown_true, gives_by, order_by}
use Rattle.audit_core.proofs.DecidingLaws.{AreBytes, true_found, true_only}

-- ---- a list's own root

-- a digest is its bytes
abbrev made : List ℕ → Digest
made bytes = record { 0 = bytes }

module _ (hash : Hash) (list : List (List ℕ)) where
  pub own_is : (size : ℕ) (kept : Digest) → size ≡ length list → kept.0 ≡ mth hash list → Some kept ≡ own_root hash list size
  own_is size kept is same = rw (eq-eqb size (length list) is) (ap (λ bytes. Some (made bytes)) same)

  pub own_not : (size : ℕ) → (size ≡ length list → ⊥) → None ≡ own_root hash list size
  own_not size other = rw (ne_eqb size (length list) other) refl

  own_found : (size : ℕ) (kept : Digest) → own_root hash list size ≡ Some kept → (size ≡ length list) × (mth hash list ≡ kept.0)
  own_found size kept e = elim (cases_eq size (length list)) [
    | inl is ↦
        let both : Some (made (mth hash list)) ≡ Some kept = own_is size (made (mth hash list)) is refl ∙ e in
        let same : made (mth hash list) ≡ kept = cc in
        (is, ap (λ d. d.0) same)
    | inr other ↦ absurd (let never : None ≡ Some kept = own_not size other ∙ e in cc)
  ]

-- what is known is what it is made from
pub known_found : (id : Digest) (root : Option Digest) (ledger : KnownLedger) → option_map (λ r. record { id = id; root = r }) root ≡ Some ledger → root ≡ Some ledger.root
known_found id None ledger e = absurd cc
known_found id (Some r) ledger e =
    let known : KnownLedger = record { id = id; root = r } in
    let same : known ≡ ledger = cc in
    ap (λ (l : KnownLedger). Some l.root) same

pub known_id : (id : Digest) (root : Option Digest) (ledger : KnownLedger) → option_map (λ r. record { id = id; root = r }) root ≡ Some ledger → ledger.id ≡ id
known_id id None ledger e = absurd cc
known_id id (Some r) ledger e =
    let made_of : KnownLedger = record { id = id; root = r } in
    let same : made_of ≡ ledger = cc in
    sym (ap (λ (l : KnownLedger). l.id) same)

-- what is known of the notary's list
noted_found : (hash : Hash) (list : List (List ℕ)) (size : ℕ) (kept : Option Digest) (root : Digest) → kept ≡ own_root hash list size → kept ≡ Some root → (size ≡ length list) × (mth hash list ≡ root.0)
noted_found hash list size kept root is there = own_found hash list size root (sym is ∙ there)

-- ---- a proof that was read

module _ (hash : Hash) (lists : Lists) (claim : Claim) (p : Shown) (accepted : ByOwn hash lists claim p) where
  abbrev known : Option KnownLedger
  known = own_ledger hash lists p.size

  abbrev noted : Option Digest
  noted = own_notary hash lists p.notary_size

  -- what it rests on
  rests : Rests hash claim p known noted
  rests = under_found hash claim p known noted accepted

  own_known : (p.size ≡ length lists.headers) × (mth hash lists.headers ≡ rests.ledger.root.0) × (rests.ledger.id ≡ lists.id)
  own_known =
      let root : own_root hash lists.headers p.size ≡ Some rests.ledger.root = known_found lists.id (own_root hash lists.headers p.size) rests.ledger rests.trusted in
      let own = own_found hash lists.headers p.size rests.ledger.root root in
      (own.0, own.1, known_id lists.id (own_root hash lists.headers p.size) rests.ledger rests.trusted)

  pub own_claimed : claim_of p ≡ claim
  own_claimed = same_claim_means (claim_of p) claim rests.passing.claimed

  own_lower : IfSome p.lo (IsLowerBound hash rests.ledger noted p)
  own_lower = lower_means hash rests.ledger noted p p.lo rests.passing.lower rests.passing.lower_note

  own_upper : IfSome p.hi (IsUpperBound hash rests.ledger noted p)
  own_upper = upper_means hash rests.ledger noted p p.hi rests.passing.upper rests.passing.upper_note

  -- all that it shows leads to the lists' roots
  pub own_gives : ShownGives hash lists p
  own_gives =
      let own = own_known in
      gives_by hash lists p rests.ledger noted own.0 own.1 own.2 (λ bounded root. noted_found hash lists.entries p.notary_size noted root refl)
      (is_root_means rests.ledger.root _ rests.passing.leads) own_lower own_upper

  pub own_order : IsProof p → InOrder p
  own_order is_proof = order_by hash p rests.ledger noted is_proof own_lower own_upper

  -- where its claim isn't told to be true it shows two strings
  pub false_shows : Makes hash → IsProof p → is_true hash lists claim ≡ false → Clashes hash (first_of_parts (parts_of hash lists p))
  false_shows makes is_proof not = elim (shown_true hash makes lists p own_gives (own_order is_proof)) [
    | inl so ↦ absurd (false≢true (sym not ∙ true_only hash lists claim (subst (IsTrueOf hash lists) own_claimed so)))
    | inr clashes ↦ clashes
  ]

-- what was computed is known by the lists' own heads; of a proof that is seen as another value
pub by_own : (hash : Hash) (lists : Lists) (claim : Claim) (q p : Shown) (ledger : Option KnownLedger) (notary : Option Digest) (answer : Result (Unit {0}) No) → q ≡ p
    → ledger ≡ own_ledger hash lists q.size → notary ≡ own_notary hash lists q.notary_size → acceptance_under hash claim p ledger notary ≡ answer
    → acceptance_under hash claim p (own_ledger hash lists p.size) (own_notary hash lists p.notary_size) ≡ answer
by_own hash lists claim q p ledger notary answer view ledger_is notary_is e =
    let first : ledger ≡ own_ledger hash lists p.size = ledger_is ∙ ap (λ (t : Shown). own_ledger hash lists t.size) view in
    let second : notary ≡ own_notary hash lists p.notary_size = notary_is ∙ ap (λ (t : Shown). own_notary hash lists t.notary_size) view in
    ap (λ k. acceptance_under hash claim p k (own_notary hash lists p.notary_size)) (sym first) ∙ ap (acceptance_under hash claim p ledger) (sym second) ∙ e

-- ---- bytes

-- without bounds a claim is true where the ledger has its journal
pub unbounded_true : (hash : Hash) (lists : Lists) (claim : Claim) → claim.lo ≡ None → claim.hi ≡ None → HasJournal hash lists claim.n claim.leaf → IsTrueOf hash lists claim
unbounded_true hash lists claim lower upper it = record { journal = it; lower = rw lower tt; upper = rw upper tt }

module _ (hash : Hash) (lists : Lists) (bytes : List ℕ) (claim : Claim) (fits : IsBytes bytes) where
  pub unread : (bad : Bad) (at : ℕ) → Err bad ≡ proof_of bytes → at ≡ break_of bad → own_acceptance hash lists bytes claim ≡ Err (Malformed at)
  unfolding acceptance_by
  unread bad at read is = ap (acceptance_of hash claim (own_ledger hash lists) (own_notary hash lists)) (sym read) ∙ ap (λ n. Err (Malformed n)) (sym is)

  module _ (p : Shown) (read : Ok p ≡ proof_of bytes) where
    answer_is : acceptance_under hash claim p (own_ledger hash lists p.size) (own_notary hash lists p.notary_size) ≡ own_acceptance hash lists bytes claim
    unfolding acceptance_by
    answer_is = ap (acceptance_of hash claim (own_ledger hash lists) (own_notary hash lists)) read

    accepted_is : ByOwn hash lists claim p → IsAcceptedByOwn hash lists bytes claim
    accepted_is accepted = yes_found hash bytes claim (own_ledger hash lists) (own_notary hash lists) (Ok tt) fits (sym accepted ∙ answer_is) refl

    pub judged : (j : Judgement) → JudgesShown hash lists claim p j → Judges hash lists bytes claim j
    unfolding clash_of
    judged (refused why) it = sym answer_is ∙ it
    judged holds it = (accepted_is it.0, it.1)
    judged (shows pair) it = (accepted_is it.0, it.1, rw (← read) it.2)

-- what isn't told to be true isn't
pub untrue : (hash : Hash) (lists : Lists) (claim : Claim) → is_true hash lists claim ≡ false → IsTrueOf hash lists claim → ⊥
untrue hash lists claim not it = false≢true (sym not ∙ true_only hash lists claim it)

-- ---- verdicts

module _ (hash : Hash) (lists : Lists) (bytes : List ℕ) (claim : Claim) where
  -- what is refused isn't accepted
  refused_never : (why : No) → own_acceptance hash lists bytes claim ≡ Err why → IsAcceptedByOwn hash lists bytes claim → ⊥
  refused_never why unaccepted it =
      let ok : IsOk (own_acceptance hash lists bytes claim) = yes_only hash bytes claim (own_ledger hash lists) (own_notary hash lists) (own_acceptance hash lists bytes claim) refl it in
      let answer : Result (Unit {0}) No = Err why in
      let never : IsOk answer = subst IsOk unaccepted ok in
      absurd cc

  pub verdict_refused : (v : Verdict) (why : No) → Judges hash lists bytes claim (told_by v) → own_acceptance hash lists bytes claim ≡ Err why → v ≡ Unaccepted why
  verdict_refused (Unaccepted other) why it unaccepted =
      let told : Result (Unit {0}) No = Err other in
      let both : told ≡ Err why = sym it ∙ unaccepted in
      let same : other ≡ why = cc in
      ap Unaccepted same
  verdict_refused True why it unaccepted = absurd (refused_never why unaccepted it.0)
  verdict_refused (Clashing clash) why it unaccepted = absurd (refused_never why unaccepted it.0)

  pub verdict_true : (v : Verdict) → Judges hash lists bytes claim (told_by v) → IsAcceptedByOwn hash lists bytes claim → IsTrueOf hash lists claim → v ≡ True
  verdict_true (Unaccepted why) it accepted is_true = absurd (refused_never why it accepted)
  verdict_true True it accepted is_true = refl
  verdict_true (Clashing clash) it accepted is_true = absurd (it.1 is_true)

  pub verdict_clash : (v : Verdict) → Judges hash lists bytes claim (told_by v) → IsAcceptedByOwn hash lists bytes claim → (IsTrueOf hash lists claim → ⊥) → (clash : Clash) × (v ≡ Clashing clash)
  verdict_clash (Unaccepted why) it accepted other = absurd (refused_never why it accepted)
  verdict_clash True it accepted other = absurd (other it.1)
  verdict_clash (Clashing clash) it accepted other = (clash, refl)

-- ---- what is judged

module _ (hash : Hash) (lists : Lists) (bytes : List ℕ) (claim : Claim) where
  pub accepted_ok : IsAcceptedByOwn hash lists bytes claim → own_acceptance hash lists bytes claim ≡ Ok tt
  accepted_ok it = is_yes (own_acceptance hash lists bytes claim) (yes_only hash bytes claim (own_ledger hash lists) (own_notary hash lists) (own_acceptance hash lists bytes claim) refl it)

  pub judgement_is : AreBytes lists.headers → (j : Judgement) → Judges hash lists bytes claim j → j ≡ judgement hash lists bytes claim
  judgement_is are (refused why) it = rw it refl
  judgement_is are holds it = rw (accepted_ok it.0, true_only hash lists claim it.1) refl
  judgement_is are (shows pair) it = elim (cases_Bool (is_true hash lists claim)) [
    | inl is ↦ absurd (it.1 (true_found hash lists claim are is))
    | inr not ↦ rw (accepted_ok it.0, not, it.2.found_is) refl
  ]

-- ---- judgements

-- what holds is accepted, and is true
by_holds : (answer : Result (Unit {0}) No) (has : Bool) (found : Option (List ℕ × List ℕ)) → judgement_by answer has found ≡ holds → (answer ≡ Ok tt) × (has ≡ true)
by_holds (Err why) has found e = absurd cc
by_holds (Ok done) true found e = (refl, refl)
by_holds (Ok done) false None e = absurd cc
by_holds (Ok done) false (Some pair) e = absurd cc

-- what shows strings is accepted, and isn't true
by_shows : (answer : Result (Unit {0}) No) (has : Bool) (found : Option (List ℕ × List ℕ)) (pair : List ℕ × List ℕ) → judgement_by answer has found ≡ shows pair → (answer ≡ Ok tt) × (has ≡ false)
by_shows (Err why) has found pair e = absurd cc
by_shows (Ok done) true found pair e = absurd cc
by_shows (Ok done) false found pair e = (refl, refl)

found_shown : (found : Option (List ℕ × List ℕ)) → (pair : List ℕ × List ℕ) × (shows_found found ≡ shows pair)
found_shown None = (([], []), refl)
found_shown (Some pair) = (pair, refl)

module _ (hash : Hash) (lists : Lists) (bytes : List ℕ) (claim : Claim) (fits : IsBytes bytes) (are : AreBytes lists.headers) where
  accepted_own : own_acceptance hash lists bytes claim ≡ Ok tt → IsAcceptedByOwn hash lists bytes claim
  accepted_own e = yes_found hash bytes claim (own_ledger hash lists) (own_notary hash lists) (own_acceptance hash lists bytes claim) fits refl (subst IsOk (sym e) refl)

  pub holds_means : judgement hash lists bytes claim ≡ holds → IsAcceptedByOwn hash lists bytes claim × IsTrueOf hash lists claim
  holds_means e =
      let it = by_holds (own_acceptance hash lists bytes claim) (is_true hash lists claim) (clash_of hash lists bytes) e in
      (accepted_own it.0, true_found hash lists claim are it.1)

  pub holds_where : IsAcceptedByOwn hash lists bytes claim → IsTrueOf hash lists claim → judgement hash lists bytes claim ≡ holds
  holds_where accepted is_true = sym (judgement_is hash lists bytes claim are holds (accepted, is_true))

  pub shows_means : (pair : List ℕ × List ℕ) → judgement hash lists bytes claim ≡ shows pair → IsAcceptedByOwn hash lists bytes claim × (IsTrueOf hash lists claim → ⊥)
  shows_means pair e =
      let it = by_shows (own_acceptance hash lists bytes claim) (is_true hash lists claim) (clash_of hash lists bytes) pair e in
      (accepted_own it.0, untrue hash lists claim it.1)

  pub shows_where : IsAcceptedByOwn hash lists bytes claim → (IsTrueOf hash lists claim → ⊥) → (pair : List ℕ × List ℕ) × (judgement hash lists bytes claim ≡ shows pair)
  shows_where accepted other = elim (cases_Bool (is_true hash lists claim)) [
    | inl is ↦ absurd (other (true_found hash lists claim are is))
    | inr not ↦
        let found = found_shown (clash_of hash lists bytes) in
        (found.0, rw (accepted_ok hash lists bytes claim accepted, not) found.1)
  ]
