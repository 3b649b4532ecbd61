-- Lemmas on what comes of a job.
use Rattle.std.specs.Prelude.{All, nat_le, Result, Ok, Err, OnOk, IfOk}
use Rattle.std.specs.List.{list_all}
use Rattle.std.proofs.lemmas.Bool.{and_parts, leb-true}
use Rattle.std.proofs.lemmas.List.Elements.{All-nil, All-cons}
use Rattle.std.proofs.Common.{◌&&◌, false, true, refl, ◌-◌, ◌<◌, ◌≡◌, ℕ, ◌≤◌, List, [], ◌∷◌, length, Option, Some, None, ap, sym, subst, ◌∙◌}
use Rattle.sha2.specs.Sha256.{sha256}
use Rattle.tree_model.specs.Tree.{leaf}
use Rattle.ledger_bytes.specs.Digests.{digest}
use Rattle.ledger_bytes.specs.declared.digest.Digest.{Digest}
use Rattle.ledger_bytes.specs.declared.limits.TheConstants.{APPROVAL_LIMIT, CONTENT_LIMIT, PROOF_LIMIT}
use Rattle.ledger_bytes.specs.declared.refusal.Refusal.{Refusal}
use Rattle.journal_record.specs.Entry.{Entry}
use Rattle.journal_record.specs.Header.{spelling, HasWidths}
use Rattle.journal_record.specs.declared.approval.Approval.{Approval}
use Rattle.journal_record.specs.declared.header.Header.{Header}
use Rattle.journal_record.specs.declared.header.Kind.{Kind}
use Rattle.journal_record.specs.declared.header.Kind.TheVariants as kind
use Rattle.journal_record.specs.declared.stamp.Stamp.{Stamp}
use Rattle.ledger_model.specs.Appends.{append_header, append_journal, member_header, member_journal, occult_header, occult_journal, clue_occult_header, clue_occult_journal}
use Rattle.ledger_model.specs.Fitting.{fits_job}
use Rattle.ledger_model.specs.Clues.{next_ordinal, last_journal}
use Rattle.ledger_model.specs.History.{History, size, leaf_digest, is_purge}
use Rattle.journal_record.specs.declared.rules.TheConstants.{NOTARY_LIMIT}
use Rattle.ledger_model.specs.Anchors.{time_header, time_journal}
use Rattle.ledger_model.specs.Members.{is_member}
use Rattle.ledger_model.specs.Judgements.{own_refusal, hard_fullness, fullness, clues_full, append_judgements}
use Rattle.member_book.specs.Erasures.{first_refusal}
use Rattle.ledger_book.specs.Requests.{request_judgements, room_judgements}
use Rattle.ledger_book.proofs.JudgeLaws.{first_one, hard_not, passed_before, refused_before}
use Rattle.ledger_model.specs.Lawful.{gathers}
use Rattle.ledger_model.specs.Limits.{AreWithin}
use Rattle.ledger_model.specs.Numbers.{repeated, unless_repeated}
use Rattle.ledger_model.specs.Outcomes as outcomes
use Rattle.ledger_model.specs.Outcomes.{placed_journal, with_waiting, after_judgement, placed_as, placed_with, accepted_outcome, judged_outcome}
use Rattle.ledger_model.specs.declared.job.Job.{Job}
use Rattle.ledger_model.specs.declared.job.Job.TheVariants.{Append, NewMember, Anchor, Occult, OccultClue}
use Rattle.ledger_model.specs.declared.limits.Limits.{Limits}
use Rattle.ledger_model.specs.declared.outcome.Outcome.{Outcome}
use Rattle.ledger_model.specs.declared.outcome.Outcome.TheVariants.{Refused, Placed, StampWanted}
use Rattle.ledger_model.specs.declared.outcome.PlacedJournal.{PlacedJournal}
use Rattle.ledger_model.proofs.AcceptedLaws.{record_next, member_next, occult_next, clue_occult_next, time_next}
use Rattle.ledger_book.specs.Books.{Kept, Stands, Serves}
use Rattle.ledger_book.specs.Steps.{Anchors, Applies, IsSame, MayPlace, IsLeafOf, HasOperatorRoom, PlacesNothing}

-- a refusal changes nothing
pub applies_refused : (limits : Limits) (stamp : Option Stamp) (h : History) (job : Job) (refusal : Refusal) (k : Kept) → own_refusal limits h job ≡ Some refusal → Serves k h → Applies limits stamp h job (Refused refusal) k
unfolding outcomes.outcome outcomes.with_job
applies_refused limits stamp h job refusal k is s = record {
  outcome_is = sym (ap (λ r. judged_outcome r (accepted_outcome h stamp job)) is);
  serves = subst (Serves k) (sym (ap (λ r. after_judgement r (placed_journal h stamp job) h) is)) s;
  widths = λ p journal no _. absurd (let never : ⊥ = cc no in never);
}

-- an accepted job places its journal, of which this is told
pub applies_placed : (limits : Limits) (stamp : Option Stamp) (h : History) (job : Job) (j : Entry) (header : Header) (placed : PlacedJournal) (k : Kept) → own_refusal limits h job ≡ None → placed_journal h stamp job ≡ Some j
    → accepted_outcome h stamp job ≡ placed_as (size h) j → j.header ≡ header → placed.jsn ≡ size h → IsLeafOf header placed.leaf → placed.header ≡ spelling header → HasWidths header → Serves k (with_waiting (Some j) h) → Applies limits stamp h job (Placed placed) k
unfolding outcomes.outcome outcomes.with_job
applies_placed limits stamp h job j header placed k none is told header_is at leaf_is bytes widths s =
    let tip : placed.leaf.0 ≡ leaf_digest j = leaf_is ∙ ap (λ (x : Header). leaf sha256 (spelling x)) (sym header_is) in
    let spelled : placed.header ≡ spelling j.header = bytes ∙ ap spelling (sym header_is) in
    let made : placed ≡ placed_with (size h) j = λ i. record { jsn = at i; leaf = digest (tip i); header = spelled i } in record {
      outcome_is = ap Placed made ∙ sym (ap (λ r. judged_outcome r (accepted_outcome h stamp job)) none ∙ told);
      serves = subst (Serves k) (sym (ap (λ r. after_judgement r (placed_journal h stamp job) h) none ∙ ap (λ o. with_waiting o h) is)) s;
      widths = λ p journal _ other. let same : j ≡ journal = cc (is, other) in subst HasWidths (sym header_is ∙ ap (λ (e : Entry). e.header) same) widths;
    }

-- .. or none: it asks for something, wants a stamp, or repeats what was placed before
pub applies_nothing : (limits : Limits) (stamp : Option Stamp) (h : History) (job : Job) (came : Outcome) (k : Kept) → PlacesNothing came → own_refusal limits h job ≡ None → placed_journal h stamp job ≡ None → accepted_outcome h stamp job ≡ came
    → Serves k h → Applies limits stamp h job came k
unfolding outcomes.outcome outcomes.with_job
applies_nothing limits stamp h job came k nothing none is told s = record {
  outcome_is = sym (ap (λ r. judged_outcome r (accepted_outcome h stamp job)) none ∙ told);
  serves = subst (Serves k) (sym (ap (λ r. after_judgement r (placed_journal h stamp job) h) none ∙ ap (λ o. with_waiting o h) is)) s;
  widths = λ p journal placed _. absurd (subst PlacesNothing placed nothing);
}

-- what is judged of a member's record, in its two halves
module _ (limits : Limits) (h : History) (member : ℕ) (clue : Digest) (number : ℕ) (request : Digest) (shown : Option Digest) where
  abbrev looked_at : Option ℕ → List (Option Refusal)
  looked_at again = unless_repeated again (fullness limits h) ∷ unless_repeated again (clues_full limits h clue) ∷ []

  pub request_refused : (refusal : Refusal) → Some refusal ≡ first_refusal (request_judgements h member number request shown) → Some refusal ≡ first_refusal (append_judgements limits h member clue number request shown)
  request_refused refusal is = refused_before (request_judgements h member number request shown) (looked_at (repeated h member number request)) refusal is

  pub request_repeated : (n : ℕ) → first_refusal (request_judgements h member number request shown) ≡ None → Some n ≡ repeated h member number request → first_refusal (append_judgements limits h member clue number request shown) ≡ None
  request_repeated n passed again =
      sym (passed_before (request_judgements h member number request shown) (looked_at (repeated h member number request)) None (sym passed) (ap (λ o. first_refusal (looked_at o)) again))

  pub request_new : (told : Option Refusal) → first_refusal (request_judgements h member number request shown) ≡ None → (let none : Option ℕ = None in none ≡ repeated h member number request) → told ≡ first_refusal (room_judgements limits h clue)
      → told ≡ first_refusal (append_judgements limits h member clue number request shown)
  request_new told passed new is =
      passed_before (request_judgements h member number request shown) (looked_at (repeated h member number request)) told (sym passed) (is ∙ ap (λ o. first_refusal (looked_at o)) new)

-- the book still serves where its floor and its point are as they were
pub serves_after : (old new : Kept) (h g : History) → Serves old h → IsSame old new → Stands new g → Serves new g
serves_after old new h g s same stands = record {
  stands = stands;
  reached = same.reached ∙ s.reached;
  seen = subst (λ n. new.floor ≤ n) (sym same.point) (subst (λ n. n ≤ old.point) (sym same.floor) s.seen);
}

-- a record at its place
module _ (h : History) (member : ℕ) (clue : Digest) (content : List ℕ) (content_digest request : Digest) (by : Approval) (who : Digest) (number : ℕ) (header : Header) where
  abbrev pub record_journal : Entry
  record_journal = append_journal h member clue content content_digest request by who number

  pub record_header_is : (jsn ordinal previous : ℕ) → header ≡ append_header jsn member clue ordinal previous content content_digest request who number → jsn ≡ size h → ordinal ≡ next_ordinal h clue → previous ≡ last_journal h clue
      → record_journal.header ≡ header
  record_header_is jsn ordinal previous is j o p =
      sym (is ∙ ap (λ x. append_header x member clue ordinal previous content content_digest request who number) j
      ∙ ap (λ x. append_header (size h) member clue x previous content content_digest request who number) o
      ∙ ap (λ x. append_header (size h) member clue (next_ordinal h clue) x content content_digest request who number) p)

  pub record_kind : record_journal.header ≡ header → is_member header.kind ≡ false
  unfolding append_header
  record_kind is = ap (λ (x : Header). is_member x.kind) (sym is)

  pub record_may : (limits : Limits) (k : Kept) → AreWithin limits → own_refusal limits h (Append member clue content content_digest request by who number) ≡ None → (let none : Option ℕ = None in repeated h member number request ≡ none) → length content ≤ CONTENT_LIMIT → Stands k h → record_journal.header ≡ header → MayPlace h header
  record_may limits k within none new long s is = subst (MayPlace h) is (record_next limits within h member clue content content_digest request by who number none new s.lawful long)

-- a new member at its place
module _ (h : History) (number : ℕ) (key : Digest) (by : Approval) (header : Header) where
  pub member_kind : (member_journal (size h) number key by).header ≡ header → header.kind ≡ kind.Member
  unfolding member_header
  member_kind is = ap (λ (x : Header). x.kind) (sym is)

  pub member_may : (limits : Limits) (k : Kept) → AreWithin limits → own_refusal limits h (NewMember number key by) ≡ None → Stands k h → (member_journal (size h) number key by).header ≡ header → MayPlace h header
  member_may limits k within none s is = subst (MayPlace h) is (member_next limits within h number key by none s.lawful)

-- an occult at its place
module _ (h : History) (target : ℕ) (leaf : Digest) (given : List Approval) (header : Header) where
  pub occult_kind : (occult_journal (size h) target leaf given).header ≡ header → is_member header.kind ≡ false
  unfolding occult_header
  occult_kind is = ap (λ (x : Header). is_member x.kind) (sym is)

  pub occult_may : (limits : Limits) (k : Kept) → AreWithin limits → own_refusal limits h (Occult target leaf given) ≡ None → Stands k h → (occult_journal (size h) target leaf given).header ≡ header → MayPlace h header
  occult_may limits k within none s is = subst (MayPlace h) is (occult_next limits within h target leaf given none s.lawful)

-- an occult by clue at its place
module _ (h : History) (clue : Digest) (count : ℕ) (given : List Approval) (header : Header) where
  pub clue_occult_kind : (clue_occult_journal (size h) clue count given).header ≡ header → is_member header.kind ≡ false
  unfolding clue_occult_header
  clue_occult_kind is = ap (λ (x : Header). is_member x.kind) (sym is)

  pub clue_occult_may : (limits : Limits) (k : Kept) → AreWithin limits → own_refusal limits h (OccultClue clue count given) ≡ None → Stands k h → (clue_occult_journal (size h) clue count given).header ≡ header → MayPlace h header
  clue_occult_may limits k within none s is = subst (MayPlace h) is (clue_occult_next limits within h clue count given none s.lawful)

-- the approvals of an occult that fits
pub proofs_short : (given : List Approval) → list_all (λ (by : Approval). nat_le (length by.proof) PROOF_LIMIT) given ≡ true → All (λ (by : Approval). length by.proof ≤ PROOF_LIMIT) given
proofs_short [] all = All-nil (λ (by : Approval). length by.proof ≤ PROOF_LIMIT)
proofs_short (g ∷ gs) all =
    let both = and_parts (nat_le (length g.proof) PROOF_LIMIT) (list_all (λ (by : Approval). nat_le (length by.proof) PROOF_LIMIT) gs) all in
    All-cons (λ (by : Approval). length by.proof ≤ PROOF_LIMIT) g gs (leb-true (length g.proof) PROOF_LIMIT both.0) (proofs_short gs both.1)

pub approvals_fit : (given : List Approval) → (nat_le (length given) APPROVAL_LIMIT && list_all (λ (by : Approval). nat_le (length by.proof) PROOF_LIMIT) given) ≡ true → (length given ≤ APPROVAL_LIMIT) × All (λ (by : Approval). length by.proof ≤ PROOF_LIMIT) given
approvals_fit given fits =
    let both = and_parts (nat_le (length given) APPROVAL_LIMIT) (list_all (λ (by : Approval). nat_le (length by.proof) PROOF_LIMIT) given) fits in
    (leb-true (length given) APPROVAL_LIMIT both.0, proofs_short given both.1)

pub clue_occult_fits : (clue : Digest) (count : ℕ) (given : List Approval) → fits_job (OccultClue clue count given) ≡ true → (length given ≤ APPROVAL_LIMIT) × All (λ (by : Approval). length by.proof ≤ PROOF_LIMIT) given
clue_occult_fits clue count given fits = approvals_fit given fits

pub occult_fits : (target : ℕ) (leaf : Digest) (given : List Approval) → fits_job (Occult target leaf given) ≡ true → (length given ≤ APPROVAL_LIMIT) × All (λ (by : Approval). length by.proof ≤ PROOF_LIMIT) given
occult_fits target leaf given fits = approvals_fit given fits

-- a time journal at its place
module _ (h : History) (stamp : Stamp) (header : Header) where
  pub time_kind : (time_journal (size h) stamp).header ≡ header → is_member header.kind ≡ false
  unfolding time_header
  time_kind is = ap (λ (x : Header). is_member x.kind) (sym is)

  pub time_may : (limits : Limits) (k : Kept) → AreWithin limits → own_refusal limits h Anchor ≡ None → stamp.index < NOTARY_LIMIT → Stands k h → (time_journal (size h) stamp).header ≡ header → MayPlace h header
  time_may limits k within none few s is = subst (MayPlace h) is (time_next limits within h stamp none s.lawful few)

-- an anchor is refused where there is no room, and only there
pub anchor_refused : (limits : Limits) (h : History) (refusal : Option Refusal) → refusal ≡ hard_fullness limits h → refusal ≡ own_refusal limits h Anchor
anchor_refused limits h refusal is = is ∙ first_one (hard_fullness limits h)

-- .. so not where there is room by what is kept
pub anchor_accepted : (k : Kept) (h : History) → Serves k h → HasOperatorRoom k → own_refusal k.limits h Anchor ≡ None
anchor_accepted k h s room = sym (anchor_refused k.limits h None (hard_not k h (k.size - k.point) s refl room.0 room.1))

-- where it wants a stamp there is room
pub asked_room : (old new : Kept) (o : Outcome) → Anchors old o → o ≡ StampWanted → (PlacesNothing o → new ≡ old) → HasOperatorRoom new
asked_room old new o told is same = subst HasOperatorRoom (sym (same (subst PlacesNothing (sym is) tt))) (subst (Anchors old) is told)

-- a record and a new member may share their block with others
pub content_gathers : (jsn member : ℕ) (clue : Digest) (ordinal previous : ℕ) (content : List ℕ) (content_digest request who : Digest) (number : ℕ) (header : Header) → header ≡ append_header jsn member clue ordinal previous content content_digest request who number → gathers header.kind ≡ true
unfolding append_header
content_gathers jsn member clue ordinal previous content content_digest request who number header is = ap (λ (x : Header). gathers x.kind) is

pub gathers_no_purge : (k : Kind) → gathers k ≡ true → is_purge k ≡ false
gathers_no_purge kind.Genesis is = refl
gathers_no_purge kind.Content is = refl
gathers_no_purge kind.Member is = refl
gathers_no_purge kind.Time is = refl
gathers_no_purge kind.Occult is = refl
gathers_no_purge kind.ClueOccult is = refl
gathers_no_purge kind.Purge is = sym is

pub time_no_purge : (jsn : ℕ) (stamp : Stamp) (header : Header) → header ≡ time_header jsn stamp → is_purge header.kind ≡ false
unfolding time_header
time_no_purge jsn stamp header is = ap (λ (x : Header). is_purge x.kind) is

pub occult_no_purge : (jsn target : ℕ) (leaf : Digest) (given : List Approval) (header : Header) → header ≡ occult_header jsn target leaf given → is_purge header.kind ≡ false
unfolding occult_header
occult_no_purge jsn target leaf given header is = ap (λ (x : Header). is_purge x.kind) is

pub clue_occult_no_purge : (jsn : ℕ) (clue : Digest) (count : ℕ) (given : List Approval) (header : Header) → header ≡ clue_occult_header jsn clue count given → is_purge header.kind ≡ false
unfolding clue_occult_header
clue_occult_no_purge jsn clue count given header is = ap (λ (x : Header). is_purge x.kind) is

pub member_gathers : (jsn number : ℕ) (key : Digest) (by : Approval) (header : Header) → header ≡ member_header jsn number key by → gathers header.kind ≡ true
unfolding member_header
member_gathers jsn number key by header is = ap (λ (x : Header). gathers x.kind) is

pub member_sort : (jsn number : ℕ) (key : Digest) (by : Approval) (header : Header) → header ≡ member_header jsn number key by → header.kind ≡ kind.Member
unfolding member_header
member_sort jsn number key by header is = ap (λ (x : Header). x.kind) is

-- a result that is no error, or is one
pub on_ok_all : {T E : Type 0} {A : Type 0} (result : Result T E) → A → OnOk result A
on_ok_all (Ok value) a = a
on_ok_all (Err error) a = tt

pub if_ok_all : {T E : Type 0} {A : T → Type 0} (result : Result T E) → ((t : T) → A t) → IfOk result A
if_ok_all (Ok value) a = a value
if_ok_all (Err error) a = tt
