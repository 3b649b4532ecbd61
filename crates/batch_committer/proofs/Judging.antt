-- A job was judged by the book, and its journal gathered.
use Rattle.std.specs.Prelude.{Bool, true, false, Result, Ok, Err, OnOk, nat_le, ◌==◌, bytes_eq, sum_by}
use Rattle.std.specs.Int.{w16, w32, to_be_bytes}
use Rattle.std.specs.List.{list_all}
use Rattle.std.proofs.Common.{◌≡◌, ◌≢◌, ◌⊎◌, inl, inr, ℕ, ◌+◌, ◌*◌, ◌≤◌, ◌&&◌, List, [], ◌∷◌, ◌++◌, length, Option, Some, None, refl, ap, sym, subst, ◌∙◌, arith, append_assoc, append-nil, length-append}
use Rattle.std.proofs.lemmas.Bool.{true≢false, leb-true, and_parts}
use Rattle.std.proofs.lemmas.List.Concat.{flat_map-append}
use Rattle.std.proofs.lemmas.Option.{none-some}
use Rattle.ledger_bytes.specs.declared.digest.Digest.{Digest}
use Rattle.ledger_bytes.specs.declared.limits.TheConstants.{APPROVAL_LIMIT, CONTENT_LIMIT, PROOF_LIMIT}
use Rattle.ledger_bytes.specs.declared.refusal.Refusal.{Refusal}
use Rattle.journal_record.specs.Approval.{who_of, approval_bytes}
use Rattle.journal_record.specs.Blocks.{record_bytes, body_of, IsEntry}
use Rattle.journal_record.specs.Entry.{Entry, content_digest_of, who_digest_of}
use Rattle.journal_record.specs.Header.{HasWidths, spelling}
use Rattle.journal_record.specs.declared.approval.Approval.{Approval}
use Rattle.journal_record.specs.declared.approval.TheConstants.{WHO_LIMIT}
use Rattle.journal_record.specs.declared.header.TheConstants.{HEADER_LEN}
use Rattle.journal_record.specs.declared.stamp.Stamp.{Stamp}
use Rattle.ledger_model.specs.Anchors.{stamp_of, time_header, time_journal}
use Rattle.ledger_model.specs.Appends.{append_journal, member_journal, occult_journal, clue_occult_journal, purge_journal, append_header, member_header, occult_header, clue_occult_header, purge_header}
use Rattle.ledger_model.specs.Fitting.{fits_approval, fits_job}
use Rattle.ledger_model.specs.History.{History, history, journals, journals_of, size}
use Rattle.ledger_model.specs.Judgements.{own_refusal}
use Rattle.ledger_model.specs.Lawful.{IsNext, AreNext, AllGather, gathers}
use Rattle.ledger_model.specs.Limits.{real_limits}
use Rattle.ledger_model.specs.Numbers.{repeated, unless_repeated}
use Rattle.ledger_model.specs.Outcomes.{placed_journal, with_waiting, after_judgement, with_job, judged_outcome, accepted_outcome, record_outcome, outcome, placed_as, placed_with}
use Rattle.ledger_model.specs.Rules.{closes_before, closes_after}
use Rattle.ledger_model.specs.Step.{Step}
use Rattle.ledger_model.specs.Texts.{answer_for}
use Rattle.ledger_model.specs.declared.answer.Answer.{Answer}
use Rattle.ledger_model.specs.declared.due.Due.{Due}
use Rattle.ledger_model.specs.declared.job.Job.{Job}
use Rattle.ledger_model.specs.declared.job.Job.TheVariants.{Refused, Append, NewMember, Anchor, Occult, OccultClue, Purge, Ask}
use Rattle.ledger_model.specs.declared.limits.Limits.{Limits}
use Rattle.ledger_model.specs.declared.outcome.Outcome.{Outcome}
use Rattle.ledger_model.specs.declared.outcome.Outcome.TheVariants as came
use Rattle.ledger_model.specs.declared.outcome.PlacedJournal.{PlacedJournal}
use Rattle.ledger_book.specs.Books as books
use Rattle.ledger_book.specs.Books.{Serves, sealed_size}
use Rattle.ledger_book.specs.Steps.{PlacesNothing, Applies}
use Rattle.ledger_open.proofs.HidingLaws.{from_more}
use Rattle.block_file.specs.Places.{body_from, record_len, place_at, place_of_lengths, places_in}
use Rattle.block_file.specs.Writing.{record_with}
use Rattle.ledger_open.specs.Places.{places_from, AreInOrder}
use Rattle.ledger_open.specs.Standing.{floor_behind}
use Rattle.block_file.specs.declared.place.PlaceAt.{PlaceAt}
use Rattle.batch_committer.specs.Steps.{HasParts, IsGathered, Gathers, Judged, KeepsFile}
use Rattle.batch_committer.specs.World.{CommitterState, Keeps}
use Rattle.batch_committer.proofs.Closing.{next_rest, places_in_more, body_len}
use Rattle.batch_committer.proofs.Ending.{group_same, located_same}
use Rattle.batch_committer.proofs.Ordering.{order_then}

-- ---- what came of a job

-- a record that is repeated changes nothing
record_same : (h : History) (again : Option ℕ) (j : Entry) → PlacesNothing (judged_outcome None (record_outcome h again j)) → after_judgement None (unless_repeated again (Some j)) h ≡ h
record_same h None j none = absurd none
record_same h (Some n) j none = refl

-- a job that placed nothing changes nothing
judged_same : (stamp : Option Stamp) (h : History) (job : Job) (refusal : Option Refusal) (o : Outcome) → PlacesNothing o → o ≡ judged_outcome refusal (accepted_outcome h stamp job) → after_judgement refusal (placed_journal h stamp job) h ≡ h
judged_same stamp h job (Some refusal) o none is = refl
judged_same stamp h (Refused why) None o none is = refl
judged_same stamp h (Append member clue content content_digest request by who number) None o none is =
    record_same h (repeated h member number request) (append_journal h member clue content content_digest request by who number) (subst PlacesNothing is none)
judged_same stamp h (NewMember number key by) None o none is = absurd (subst PlacesNothing is none)
judged_same None h Anchor None o none is = refl
judged_same (Some stamp) h Anchor None o none is = absurd (subst PlacesNothing is none)
judged_same stamp h (Occult target leaf given) None o none is = absurd (subst PlacesNothing is none)
judged_same stamp h (OccultClue clue count given) None o none is = absurd (subst PlacesNothing is none)
judged_same stamp h (Purge p told given) None o none is = absurd (subst PlacesNothing is none)
judged_same stamp h (Ask query) None o none is = refl

pub same_job : (stamp : Option Stamp) (limits : Limits) (h : History) (job : Job) (o : Outcome) → PlacesNothing o → o ≡ outcome limits stamp h job → with_job limits stamp h job ≡ h
unfolding outcome with_job
same_job stamp limits h job o none is = judged_same stamp h job (own_refusal limits h job) o none is

-- what is told of a journal has its header's bytes
placed_header : (placed : PlacedJournal) (n : ℕ) (j : Entry) → came.Placed placed ≡ placed_as n j → placed.header ≡ spelling j.header
placed_header placed n j is = let same : placed ≡ placed_with n j = cc is in ap (λ (p : PlacedJournal). p.header) same

-- a job placed a journal
pub record WasPlaced (stamp : Option Stamp) (limits : Limits) (h : History) (job : Job) (placed : PlacedJournal) : Type 0 where
  pub journal : Entry
  pub header_is : placed.header ≡ spelling journal.header
  pub placed_is : placed_journal h stamp job ≡ Some journal
  pub after : with_job limits stamp h job ≡ with_waiting (Some journal) h

-- a record that is placed repeats none
record_as : (h : History) (again : Option ℕ) (j : Entry) (placed : PlacedJournal) → came.Placed placed ≡ record_outcome h again j → (placed.header ≡ spelling j.header) × (unless_repeated again (Some j) ≡ Some j)
record_as h None j placed is = (placed_header placed (size h) j is, refl)
record_as h (Some n) j placed is = absurd (let no : ⊥ = cc is in no)

record IsJudgedAs (stamp : Option Stamp) (h : History) (job : Job) (refusal : Option Refusal) (placed : PlacedJournal) : Type 0 where
  accepted : refusal ≡ None
  journal : Entry
  header_is : placed.header ≡ spelling journal.header
  placed_is : placed_journal h stamp job ≡ Some journal

judged_as : (stamp : Option Stamp) (h : History) (job : Job) (refusal : Option Refusal) (placed : PlacedJournal) → came.Placed placed ≡ judged_outcome refusal (accepted_outcome h stamp job) → IsJudgedAs stamp h job refusal placed
judged_as stamp h job (Some refusal) placed is = absurd (let no : ⊥ = cc is in no)
judged_as stamp h (Refused why) None placed is = absurd (let no : ⊥ = cc is in no)
judged_as stamp h (Append member clue content content_digest request by who number) None placed is =
    let j = append_journal h member clue content content_digest request by who number in
    let new = record_as h (repeated h member number request) j placed is in record { accepted = refl; journal = j; header_is = new.0; placed_is = new.1 }
judged_as stamp h (NewMember number key by) None placed is =
    let j = member_journal (size h) number key by in record { accepted = refl; journal = j; header_is = placed_header placed (size h) j is; placed_is = refl }
judged_as None h Anchor None placed is = absurd (let no : ⊥ = cc is in no)
judged_as (Some stamp) h Anchor None placed is = let j = time_journal (size h) stamp in record { accepted = refl; journal = j; header_is = placed_header placed (size h) j is; placed_is = refl }
judged_as stamp h (Occult target named given) None placed is =
    let j = occult_journal (size h) target named given in record { accepted = refl; journal = j; header_is = placed_header placed (size h) j is; placed_is = refl }
judged_as stamp h (OccultClue clue count given) None placed is =
    let j = clue_occult_journal (size h) clue count given in record { accepted = refl; journal = j; header_is = placed_header placed (size h) j is; placed_is = refl }
judged_as stamp h (Purge p told given) None placed is = let j = purge_journal h p given in record { accepted = refl; journal = j; header_is = placed_header placed (size h) j is; placed_is = refl }
judged_as stamp h (Ask query) None placed is = absurd (let no : ⊥ = cc is in no)

pub was_placed : (stamp : Option Stamp) (limits : Limits) (h : History) (job : Job) (placed : PlacedJournal) → came.Placed placed ≡ outcome limits stamp h job → WasPlaced stamp limits h job placed
unfolding outcome with_job
was_placed stamp limits h job placed is =
    let j = judged_as stamp h job (own_refusal limits h job) placed is in record {
      journal = j.journal;
      header_is = j.header_is;
      placed_is = j.placed_is;
      after = ap (λ r. after_judgement r (placed_journal h stamp job) h) j.accepted ∙ ap (λ o. after_judgement None o h) j.placed_is;
    }

-- ---- the journal that a job places

who_few : (by : Approval) → length by.proof ≤ PROOF_LIMIT → length (who_of (by ∷ [])) ≤ WHO_LIMIT
who_few by few =
    omega (arith, few, ap length (append-nil (approval_bytes by)), length-append (to_be_bytes w32 by.member ++ to_be_bytes w16 (length by.proof)) by.proof, length-append (to_be_bytes w32 by.member) (to_be_bytes w16 (length by.proof)))

proof_few : (member : ℕ) (by : Approval) → fits_approval member by ≡ true → length by.proof ≤ PROOF_LIMIT
proof_few member by fits = leb-true (length by.proof) PROOF_LIMIT (and_parts (by.member == member) (nat_le (length by.proof) PROOF_LIMIT) fits).1

-- .. of several approvals
whos_length : (given : List Approval) → list_all (λ by. nat_le (length by.proof) PROOF_LIMIT) given ≡ true → length (who_of given) ≤ length given * 4102
whos_length [] fits = omega arith
whos_length (by ∷ given) fits =
    let both = and_parts (nat_le (length by.proof) PROOF_LIMIT) (list_all (λ (a : Approval). nat_le (length a.proof) PROOF_LIMIT) given) fits in
    omega (arith, leb-true (length by.proof) PROOF_LIMIT both.0, whos_length given both.1, length-append (approval_bytes by) (who_of given), length-append (to_be_bytes w32 by.member ++ to_be_bytes w16 (length by.proof)) by.proof, length-append (to_be_bytes w32 by.member) (to_be_bytes w16 (length by.proof)))

whos_few : (given : List Approval) → (nat_le (length given) APPROVAL_LIMIT && list_all (λ by. nat_le (length by.proof) PROOF_LIMIT) given) ≡ true → length (who_of given) ≤ WHO_LIMIT
whos_few given fits =
    let both = and_parts (nat_le (length given) APPROVAL_LIMIT) (list_all (λ (a : Approval). nat_le (length a.proof) PROOF_LIMIT) given) fits in
    omega (arith, leb-true (length given) APPROVAL_LIMIT both.0, whos_length given both.1)

-- the parts of an occult of either kind and of a purge
pub given_parts : (job : Job) (content : List ℕ) (given approvals : List Approval)
    → ((target : ℕ) × (leaf : Digest) × (job ≡ Occult target leaf approvals)) ⊎ ((clue : Digest) × (count : ℕ) × (job ≡ OccultClue clue count approvals)) ⊎ ((p : ℕ) × (told : Digest) × (job ≡ Purge p told approvals)) → HasParts job content given
    → (content ≡ []) × (given ≡ approvals)
given_parts job content given approvals (inl x) parts = subst (λ (j : Job). HasParts j content given) x.2 parts
given_parts job content given approvals (inr (inl x)) parts = subst (λ (j : Job). HasParts j content given) x.2 parts
given_parts job content given approvals (inr (inr x)) parts = subst (λ (j : Job). HasParts j content given) x.2 parts

-- its parts
pub record IsMade (job : Job) (journal : Entry) : Type 0 where
  pub content : List ℕ
  pub given : List Approval
  pub parts : HasParts job content given
  pub content_is : journal.content ≡ content
  pub who_is : journal.who ≡ who_of given
  pub len : length journal.content ≡ journal.header.content_len
  pub few : length journal.who ≤ WHO_LIMIT
  pub gathers_is : closes_after job ≡ false → gathers journal.header.kind ≡ true

made_as : (job : Job) (got journal : Entry) → got ≡ journal → IsMade job got → IsMade job journal
made_as job got journal is m = subst (IsMade job) is m

record_is : (again : Option ℕ) (got journal : Entry) → unless_repeated again (Some got) ≡ Some journal → got ≡ journal
record_is None got journal is = cc is
record_is (Some n) got journal is = absurd (none-some journal is)

pub is_made : (stamp : Option Stamp) (h : History) (job : Job) (journal : Entry) → fits_job job ≡ true → placed_journal h stamp job ≡ Some journal → IsMade job journal
unfolding append_header member_header time_header occult_header clue_occult_header purge_header
is_made stamp h (Refused why) journal fits is = absurd (none-some journal is)
is_made stamp h (Append member clue content content_digest request by who number) journal fits is =
    made_as (Append member clue content content_digest request by who number) (append_journal h member clue content content_digest request by who number) journal
    (record_is (repeated h member number request) (append_journal h member clue content content_digest request by who number) journal is)
    (record { content = content; given = by ∷ []; parts = (refl, refl); content_is = refl; who_is = refl; len = refl; few = who_few by (proof_few member by (and_parts (nat_le (length content) CONTENT_LIMIT && bytes_eq content_digest.0 (content_digest_of content) && bytes_eq who.0 (who_digest_of (who_of (by ∷ [])))) (fits_approval member by) fits).1); gathers_is = λ other. refl })
is_made stamp h (NewMember number key by) journal fits is =
    made_as (NewMember number key by) (member_journal (size h) number key by) journal (cc is)
    (record { content = []; given = by ∷ []; parts = (refl, refl); content_is = refl; who_is = refl; len = refl; few = who_few by (proof_few 0 by fits); gathers_is = λ other. refl })
is_made None h Anchor journal fits is = absurd (none-some journal is)
is_made (Some s) h Anchor journal fits is =
    made_as Anchor (time_journal (size h) s) journal (cc is)
    (record { content = []; given = []; parts = (refl, refl); content_is = refl; who_is = refl; len = refl; few = omega arith; gathers_is = λ other. absurd (true≢false other) })
is_made stamp h (Occult target leaf given) journal fits is =
    made_as (Occult target leaf given) (occult_journal (size h) target leaf given) journal (cc is)
    (record { content = []; given = given; parts = (refl, refl); content_is = refl; who_is = refl; len = refl; few = whos_few given fits; gathers_is = λ other. absurd (true≢false other) })
is_made stamp h (OccultClue clue count given) journal fits is =
    made_as (OccultClue clue count given) (clue_occult_journal (size h) clue count given) journal (cc is)
    (record { content = []; given = given; parts = (refl, refl); content_is = refl; who_is = refl; len = refl; few = whos_few given fits; gathers_is = λ other. absurd (true≢false other) })
is_made stamp h (Purge p told given) journal fits is =
    made_as (Purge p told given) (purge_journal h p given) journal (cc is)
    (record { content = []; given = given; parts = (refl, refl); content_is = refl; who_is = refl; len = refl; few = whos_few given fits; gathers_is = λ other. absurd (true≢false other) })
is_made stamp h (Ask query) journal fits is = absurd (none-some journal is)

-- ---- the journal in the book

journals_more : (h : History) (journal : Entry) → journals (with_waiting (Some journal) h) ≡ journals h ++ journal ∷ []
journals_more h journal = sym (append_assoc (journals_of h.closed) h.waiting (journal ∷ []))

-- the journal that was placed last is the next one
last_next : (k : books.Kept) (h : History) (journal : Entry) → Serves k (with_waiting (Some journal) h) → IsNext (history [] (journals h)) journal.header
last_next k h journal s =
    (next_rest [] (journals h) (journal ∷ []) (subst (AreNext []) (journals_more h journal) s.stands.lawful.next)).0

-- the journal was gathered
pub gathered_by : (old new : CommitterState) (header content : List ℕ) (given : List Approval) (place : PlaceAt) (journal : Entry) → header ≡ spelling journal.header → HasWidths journal.header → length content ≡ journal.header.content_len → journal.content ≡ content
    → journal.who ≡ who_of given → new.body ≡ old.body ++ record_with header content (who_of given) → new.places ≡ old.places ++ place ∷ []
    → place ≡ place_of_lengths (body_from old.next + length old.body) (length content) (length (who_of given)) → new.before ≡ old.before → IsGathered old new journal
gathered_by old new header content given place journal header_is widths len content_is who_is body places place_is before =
    let at = body_from old.next + length old.body in
    let spelled = spelling journal.header in record {
      widths = widths;
      body = body ∙ ap (λ (l : List ℕ). old.body ++ record_with l content (who_of given)) header_is ∙ ap (λ (l : List ℕ). old.body ++ record_with spelled l (who_of given)) (sym content_is)
          ∙ ap (λ (l : List ℕ). old.body ++ record_with spelled journal.content l) (sym who_is);
      before = before;
      places = places ∙ ap (λ p. old.places ++ p ∷ []) (place_is ∙ ap (λ (n : ℕ). place_of_lengths at n (length (who_of given))) len ∙ ap (λ (l : List ℕ). place_of_lengths at journal.header.content_len (length l)) (sym who_is));
    }

pub gathered_at : (k0 k1 new : CommitterState) (journal : Entry) → k0 ≡ k1 → IsGathered k0 new journal → IsGathered k1 new journal
gathered_at k0 k1 new journal is g = subst (λ k. IsGathered k new journal) is g

-- ---- where contents end

-- with the place of a record more
pub order_more : (old : CommitterState) (tail : ℕ) (gathered : List ℕ) (all_places : List PlaceAt) (place : PlaceAt) (header content : List ℕ) (given : List Approval) → length header ≡ HEADER_LEN
    → place ≡ place_of_lengths (body_from old.next + length old.body) (length content) (length (who_of given)) → tail ≡ old.next → gathered ≡ old.body ++ record_with header content (who_of given) → all_places ≡ old.places ++ place ∷ []
    → AreInOrder 64 (body_from old.next + length old.body) old.places → AreInOrder 64 (body_from tail + length gathered) all_places
order_more old tail gathered all_places place header content given wide is place_is body places = λ all.
    let who = who_of given in
    let four : length (to_be_bytes w32 (length who)) ≡ 4 = refl in
    let size : length gathered ≡ length old.body + (length header + 4 + length content + length who) =
    omega (arith, ap length body, four, length-append old.body (record_with header content who), length-append header (to_be_bytes w32 (length who) ++ (content ++ who)), length-append (to_be_bytes w32 (length who)) (content ++ who), length-append content who) in
    let from = body_from old.next + length old.body in
    let end = body_from tail + length gathered in
    let at = ap (λ (p : PlaceAt). p.content_at) is in
    let len = ap (λ (p : PlaceAt). p.content_len) is in
    subst (AreInOrder 64 end) (sym places) (order_then 64 from end old.places (place ∷ []) all (omega (arith, at), omega (arith, at, len, place_is, size, wide)))

-- .. by a value that is known by an equation
pub order_at : (k0 k1 : CommitterState) → k0 ≡ k1 → AreInOrder 64 (body_from k1.next + length k1.body) k1.places → AreInOrder 64 (body_from k0.next + length k0.body) k0.places
order_at k0 k1 is all = subst (λ (k : CommitterState). AreInOrder 64 (body_from k.next + length k.body) k.places) (sym is) all

-- ---- what is kept after a job

pub gathers_kept : (k : CommitterState) (h : History) → Keeps k h → Gathers k h
gathers_kept k h p = record { serves = p.serves; limits = p.limits; floor = p.floor; body = p.body; next = p.next; gathered = p.gathered; group = p.group; located = p.located }

-- no journal was gathered
pub record IsUngrown (old new : CommitterState) : Type 0 where
  pub body : new.body ≡ old.body
  pub places : new.places ≡ old.places
  pub gate : new.gate ≡ old.gate
  pub next : new.next ≡ old.next
  pub ended : new.ended ≡ old.ended
  pub before : new.before ≡ old.before

pub ungrown : {k : CommitterState} {book : books.Kept} → IsUngrown k (record k { book = book })
ungrown {k} {book} = record { body = refl; places = refl; gate = refl; next = refl; ended = refl; before = refl }

-- by another value where nothing that counts has changed
gathers_same : (old new : CommitterState) (h : History) → new.book ≡ old.book → IsUngrown old new → Gathers old h → Gathers new h
gathers_same old new h book u g = record {
  serves = subst (λ b. Serves b h) (sym book) g.serves;
  limits = ap (λ (b : books.Kept). b.limits) book ∙ g.limits;
  floor = ap (λ (b : books.Kept). b.floor) book ∙ g.floor;
  body = u.body ∙ g.body;
  next = g.next;
  gathered = g.gathered;
  group = group_same {old = old} {new = new} {h = h} {g = h} refl u.ended u.before g.group;
  located = located_same old new h g.group.stored g.group.blocks (ap (λ (b : books.Kept). b.floor) book) u.places u.gate u.next g.located;
}

gather_more : (es : List Entry) (e : Entry) → AllGather es → gathers e.header.kind ≡ true → AllGather (es ++ e ∷ [])
gather_more [] e all is = ap (λ v. v && true) is
gather_more (x ∷ es) e all is =
    let both = and_parts (gathers x.header.kind) (list_all (λ (y : Entry). gathers y.header.kind) es) all in
    ap (λ (v : Bool). v && list_all (λ (y : Entry). gathers y.header.kind) (es ++ e ∷ [])) both.0 ∙ gather_more es e both.1 is

-- a journal that may share its block comes behind such ones, and another one stands alone
waits_so : (job : Job) (waiting : List Entry) (e : Entry) → (closes_after job ≡ false → AllGather waiting) → (closes_after job ≡ true → waiting ≡ []) → (closes_after job ≡ false → gathers e.header.kind ≡ true) → length (waiting ++ e ∷ []) ≢ 1 → AllGather (waiting ++ e ∷ [])
waits_so job waiting e all none is more = by (closes_after job) refl where
  by : (v : Bool) → closes_after job ≡ v → AllGather (waiting ++ e ∷ [])
  by true alone = absurd (more (ap (λ es. length (es ++ e ∷ [])) (none alone)))
  by false other = gather_more waiting e (all other) (is other)

-- with a journal more
pub gathers_more : (old mid new : CommitterState) (h : History) (journal : Entry) → Keeps old h → length journal.content ≡ journal.header.content_len → length journal.who ≤ WHO_LIMIT → (length (h.waiting ++ journal ∷ []) ≢ 1 → AllGather (h.waiting ++ journal ∷ [])) → Serves new.book (with_waiting (Some journal) h) → new.book.limits ≡ old.book.limits → new.book.floor ≡ old.book.floor → IsUngrown old mid
    → KeepsFile mid new → IsGathered mid new journal → Gathers new (with_waiting (Some journal) h)
gathers_more old mid new h journal p len few shape serves limits floor u file g =
    let next = last_next new.book h journal serves in
    let entry : IsEntry (sealed_size h + length h.waiting) journal = record {
      jsn = next.jsn ∙ length-append (journals_of h.closed) h.waiting;
      rules = next.layout;
      widths = g.widths;
      content = len;
      who = few;
    } in
    record {
      serves = serves;
      limits = limits ∙ p.limits;
      floor = floor ∙ p.floor;
      body = g.body ∙ ap (λ (l : List ℕ). l ++ record_bytes journal) (u.body ∙ p.body) ∙ ap (λ (l : List ℕ). body_of h.waiting ++ l) (sym (append-nil (record_bytes journal))) ∙ sym (flat_map-append record_bytes h.waiting (journal ∷ []));
      next = from_more (sealed_size h) h.waiting (journal ∷ []) p.next (entry, tt);
      gathered = shape;
      group = group_same {old = old} {new = new} {h = h} {g = with_waiting (Some journal) h} refl (file.ended ∙ u.ended) (g.before ∙ u.before) p.group;
      located =
          let parts = p.located.parts in
          let blocks = p.group.blocks in
          let before = places_from (floor_behind (history p.group.stored []) parts.gone) (parts.kept ++ blocks) in record {
            parts = record { gone = parts.gone; kept = parts.kept; are = parts.are; at = parts.at ∙ sym floor };
            places = g.places ∙ ap (λ (l : List PlaceAt). l ++ place_at (body_from mid.next + length mid.body) journal ∷ []) (u.places ∙ p.located.places)
                ∙ ap (λ (n : ℕ). (before ++ places_in (body_from old.next) h.waiting) ++ place_at n journal ∷ []) (omega (arith, u.next, ap length u.body, ap length p.body, body_len (sealed_size h) h.waiting p.next))
                ∙ append_assoc before (places_in (body_from old.next) h.waiting) (place_at (body_from old.next + sum_by record_len h.waiting) journal ∷ [])
                ∙ ap (λ (l : List PlaceAt). before ++ l) (sym (places_in_more (body_from old.next) h.waiting journal))
                ∙ ap (λ (n : ℕ). before ++ places_in (body_from n) (h.waiting ++ journal ∷ [])) (sym (file.next ∙ u.next));
            tail = file.gate ∙ u.gate ∙ p.located.tail;
            next = file.next ∙ u.next ∙ p.located.next;
          };
    }

-- ---- the judgement

pub real_applies : (stamp : Option Stamp) (old new : books.Kept) (h : History) (job : Job) (o : Outcome) → old.limits ≡ real_limits → Applies old.limits stamp h job o new → Applies real_limits stamp h job o new
real_applies stamp old new h job o is a = subst (λ limits. Applies limits stamp h job o new) is a

-- nothing was placed: what was told is due
pub judged_same_kept : (old new : CommitterState) (h : History) (step : Step) (job : Job) (o : Outcome) (answer : Answer) → Keeps old h → Applies old.book.limits None h job o new.book → PlacesNothing o → (PlacesNothing o → new.book ≡ old.book)
    → IsUngrown old new → answer ≡ answer_for h step o → stamp_of step ≡ None → Judged new h step job answer
judged_same_kept old new h step job o answer p applies none book u is unstamped =
    let a = real_applies None old.book new.book h job o p.limits applies in record {
      answer_is = is ∙ ap (answer_for h step) a.outcome_is ∙ ap (λ o. answer_for h step (outcome real_limits o h job)) (sym unstamped);
      gathers = subst (λ o. Gathers new (with_job real_limits o h job)) (sym unstamped) (subst (Gathers new) (sym (same_job None real_limits h job o none a.outcome_is)) (gathers_same old new h (book none) u (gathers_kept old h p)));
    }

-- a journal was placed
pub judged_placed : (stamp : Option Stamp) (old mid new : CommitterState) (h : History) (step : Step) (job : Job) (o : Outcome) (placed : PlacedJournal) (answer : Answer) → Keeps old h → (closes_after job ≡ false → AllGather h.waiting) → (closes_after job ≡ true → h.waiting ≡ []) → fits_job job ≡ true → Applies old.book.limits stamp h job o new.book → new.book.limits ≡ old.book.limits → new.book.floor ≡ old.book.floor → o ≡ came.Placed placed
    → ((journal : Entry) (content : List ℕ) (given : List Approval) → HasParts job content given → placed.header ≡ spelling journal.header → HasWidths journal.header → length content ≡ journal.header.content_len → journal.content ≡ content → journal.who ≡ who_of given → IsGathered mid new journal)
    → IsUngrown old mid → KeepsFile mid new → answer ≡ answer_for h step o → stamp_of step ≡ stamp → Judged new h step job answer
judged_placed stamp old mid new h step job o placed answer p all none fits applies limits floor is gathered u file answer_is stamped =
    let a = real_applies stamp old.book new.book h job o p.limits applies in
    let w = was_placed stamp real_limits h job placed (sym is ∙ a.outcome_is) in
    let m = is_made stamp h job w.journal fits w.placed_is in
    let s : Serves new.book (with_waiting (Some w.journal) h) = subst (Serves new.book) w.after a.serves in
    let g = gathered w.journal m.content m.given m.parts w.header_is (a.widths placed w.journal is w.placed_is) (ap length (sym m.content_is) ∙ m.len) m.content_is m.who_is in record {
      answer_is = answer_is ∙ ap (answer_for h step) a.outcome_is ∙ ap (λ o. answer_for h step (outcome real_limits o h job)) (sym stamped);
      gathers = subst (λ o. Gathers new (with_job real_limits o h job)) (sym stamped) (subst (Gathers new) (sym w.after) (gathers_more old mid new h w.journal p m.len m.few (waits_so job h.waiting w.journal all none m.gathers_is) s limits floor u file g));
    }

-- a job whose journal is a block of its own ends the open block first
pub alone_first : (job : Job) → closes_after job ≡ true → closes_before job ≡ true
alone_first (Refused refusal) alone = absurd (true≢false (sym alone))
alone_first (Append member clue content content_digest request by who number) alone = absurd (true≢false (sym alone))
alone_first (NewMember number key by) alone = absurd (true≢false (sym alone))
alone_first Anchor alone = refl
alone_first (Occult target leaf given) alone = refl
alone_first (OccultClue clue count given) alone = refl
alone_first (Purge p told given) alone = refl
alone_first (Ask query) alone = refl

-- from the clauses of a call
pub on_ok_then : {T E : Type 0} {A B : Type 0} (result : Result T E) → (A → B) → OnOk result A → OnOk result B
on_ok_then (Ok value) f x = f x
on_ok_then (Err error) f x = tt

-- .. by a value that is known by an equation, and what is due came behind
pub judged_dues : (k0 k1 : CommitterState) (ds : List Due) (g : History) (step : Step) (job : Job) (answer : Answer) → k1 ≡ k0 → Judged k0 g step job answer → Judged (record k1 { dues = ds }) g step job answer
judged_dues k0 k1 ds g step job answer is j =
    let f = with_job real_limits (stamp_of step) g job in
    let m = subst (λ k. Judged k g step job answer) (sym is) j in record {
      answer_is = m.answer_is;
      gathers = gathers_same k1 (record k1 { dues = ds }) f refl (record { body = refl; places = refl; gate = refl; next = refl; ended = refl; before = refl }) m.gathers;
    }
