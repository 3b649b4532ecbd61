-- Lawful histories stay lawful and sound ones sound, whatever is run.
use Rattle.std.specs.Prelude.{All, nat_le, bytes_eq}
use Rattle.std.specs.Option.{option_map}
use Rattle.journal_record.specs.declared.rules.TheConstants.{NOTARY_LIMIT}
use Rattle.journal_record.specs.declared.stamp.Stamp.{Stamp}
use Rattle.ledger_model.specs.Anchors.{stamp_of, time_journal}
use Rattle.std.proofs.Common.{Bool, ◌≢◌, ◌||◌, ◌<◌, ap, ◌≡◌, ℕ, ◌≤◌, ◌&&◌, true, false, cond, List, [], ◌∷◌, ◌++◌, length, map, Option, Some, None, Result, Ok, Err, refl, sym, ◌∙◌, ap, subst, arith, eq-eqb, append_assoc, length-append}
use Rattle.std.specs.List.{list_all}
use Rattle.std.proofs.lemmas.Bool.{le-leb, leb-true, leb-false, and_from, and_parts}
use Rattle.std.proofs.lemmas.List.{length-map}
use Rattle.std.proofs.lemmas.List.Elements.{All-nil, All-cons, All-push}
use Rattle.std.proofs.lemmas.Slice.Eq.{bytes_eq-Decides}
use Rattle.ledger_bytes.specs.declared.digest.Digest.{Digest}
use Rattle.ledger_bytes.specs.declared.limits.TheConstants.{APPROVAL_LIMIT, BLOCK_LIMIT, NAME_LIMIT, CONTENT_LIMIT, PROOF_LIMIT}
use Rattle.ledger_bytes.specs.declared.refusal.Refusal.{Refusal}
use Rattle.journal_record.specs.Approval.{who_of}
use Rattle.journal_record.specs.Entry.{Entry, content_digest_of, who_digest_of}
use Rattle.journal_record.specs.Request.{occult_request_digest_of, clue_occult_request_digest_of, purge_request_digest_of}
use Rattle.journal_record.specs.declared.approval.Approval.{Approval}
use Rattle.script_lines.specs.Grammar.{spoken_line}
use Rattle.script_lines.specs.Limits.{fits_line, fits_what, fits_approvals}
use Rattle.script_lines.specs.declared.said.SaidApproval.{SaidApproval}
use Rattle.script_lines.specs.declared.line.Line.{Line}
use Rattle.script_lines.specs.declared.line.Line.TheVariants as line
use Rattle.script_lines.proofs.Fitting.{spoken_fits}
use Rattle.ledger_model.specs.Appends.{approval_of, clue_of, request_with, append_with, member_job, occult_job, clue_occult_job, purge_job, append_header, append_journal, member_header, member_journal, occult_journal, clue_occult_journal, purge_journal}
use Rattle.ledger_model.specs.Fitting.{fits_approval, fits_job}
use Rattle.ledger_model.specs.Genesis.{HasKeys, genesis_header, genesis_journal, new_ledger}
use Rattle.ledger_model.specs.History.{History, history, journals, journals_of, size, id, close_by, close}
use Rattle.ledger_model.specs.Judgements.{own_refusal}
use Rattle.ledger_model.specs.Lawful.{AreLawful, gathers, AllGather, IsBlock, IsOpenBlock, IsLawful, IsWhole, IsSound}
use Rattle.ledger_model.specs.Limits.{real_limits, AreWithin}
use Rattle.ledger_model.specs.Outcomes.{after_judgement, with_job}
use Rattle.ledger_model.specs.Rules.{job_for, job_of, closes_after, settled_history, after_job, after_step, after_steps, after_window, after}
use Rattle.ledger_model.specs.Scheme.{Scheme}
use Rattle.ledger_model.specs.Step.{Step}
use Rattle.ledger_model.specs.declared.genesis.Genesis.{Genesis}
use Rattle.ledger_model.specs.declared.job.Job.{Job}
use Rattle.ledger_model.specs.declared.job.Job.TheVariants.{Refused, Append, NewMember, Anchor, Occult, OccultClue, Purge, Ask}
use Rattle.ledger_model.specs.Numbers.{repeated, unless_repeated}
use Rattle.ledger_model.specs.declared.outcome.Query.{Query}
use Rattle.ledger_model.specs.declared.outcome.Query.TheVariants as query
use Rattle.ledger_model.proofs.AcceptedLaws.{IsNew, record_next, record_whole, member_next, member_whole, occult_next, occult_whole, clue_occult_next, clue_occult_whole, purge_next, purge_whole, time_next, time_whole, stamp_few}
use Rattle.ledger_model.proofs.GrowLaws.{journals_of-push, close_none}
use Rattle.ledger_model.proofs.LawfulLaws.{lawful_more}

-- the end of the open block adds no journal
pub journals_close : (h : History) → journals (close h) ≡ journals h
unfolding close
journals_close h = by_waiting h.closed h.waiting where
  by_waiting : (blocks : List (List Entry)) (waiting : List Entry) → journals (close_by blocks waiting) ≡ journals_of blocks ++ waiting
  by_waiting blocks [] = refl
  by_waiting blocks (journal ∷ rest) = journals_of-push blocks (journal ∷ rest)

-- the history with a journal more that waits
abbrev wider : History → Entry → History
wider h j = history h.closed (h.waiting ++ j ∷ [])

pub journals_wider : (h : History) (j : Entry) → journals (wider h j) ≡ journals h ++ j ∷ []
journals_wider h j = sym (append_assoc (journals_of h.closed) h.waiting (j ∷ []))

no_block : IsOpenBlock []
no_block = record { room = omega arith; gathered = refl }

-- a block's end, where the open block may be one
close_keeps : (h : History) → AreLawful (journals h) → All IsBlock h.closed → length h.waiting ≤ BLOCK_LIMIT → (length h.waiting ≢ 1 → AllGather h.waiting) → IsLawful (close h)
unfolding close
close_keeps h lawful blocks most gathered = by_waiting h.closed h.waiting lawful blocks most gathered where
  by_waiting : (closed : List (List Entry)) (waiting : List Entry) → AreLawful (journals_of closed ++ waiting) → All IsBlock closed → length waiting ≤ BLOCK_LIMIT → (length waiting ≢ 1 → AllGather waiting) → IsLawful (close_by closed waiting)
  by_waiting closed [] lawful blocks most gathered = record { journals_are = lawful; blocks_are = blocks; waiting_is = no_block }
  by_waiting closed (j ∷ js) lawful blocks most gathered = record {
    journals_are = subst AreLawful (sym (journals_of-push closed (j ∷ js))) lawful;
    blocks_are = All-push IsBlock closed (j ∷ js) blocks (record { some = omega arith; most = most; gathered = gathered });
    waiting_is = no_block;
  }

pub close_lawful : (h : History) → IsLawful h → IsLawful (close h)
close_lawful h l = close_keeps h l.journals_are l.blocks_are (omega (arith, l.waiting_is.room)) (λ more. l.waiting_is.gathered)

settled_keeps : (h : History) (job : Job) → AreLawful (journals h) → All IsBlock h.closed → length h.waiting ≤ BLOCK_LIMIT → AllGather h.waiting → IsLawful (settled_history job h)
settled_keeps h job lawful blocks most gathered = by_cases (closes_after job) (nat_le BLOCK_LIMIT (length h.waiting)) refl where
  by_cases : (alone full : Bool) → nat_le BLOCK_LIMIT (length h.waiting) ≡ full → IsLawful (cond (alone || full) (close h) h)
  by_cases true full e = close_keeps h lawful blocks most (λ more. gathered)
  by_cases false true e = close_keeps h lawful blocks most (λ more. gathered)
  by_cases false false e = record { journals_are = lawful; blocks_are = blocks; waiting_is = record { room = leb-false BLOCK_LIMIT (length h.waiting) e; gathered = gathered } }

settled_lawful : (h : History) (job : Job) → IsLawful h → IsLawful (settled_history job h)
settled_lawful h job l = settled_keeps h job l.journals_are l.blocks_are (omega (arith, l.waiting_is.room)) l.waiting_is.gathered

all_gather : (es : List Entry) (e : Entry) → AllGather es → gathers e.header.kind ≡ true → AllGather (es ++ e ∷ [])
all_gather [] e all is = ap (λ b. b && true) is
all_gather (x ∷ es) e all is = let parts = and_parts (gathers x.header.kind) (list_all (λ (y : Entry). gathers y.header.kind) es) all in and_from _ _ parts.0 (all_gather es e parts.1 is)

-- a journal that is placed, or refused
placed_lawful : (h : History) (job : Job) (refusal : Option Refusal) (j : Entry) → IsLawful h → gathers j.header.kind ≡ true → (refusal ≡ None → AreLawful (journals h ++ j ∷ [])) → IsLawful (settled_history job (after_judgement refusal (Some j) h))
placed_lawful h job (Some refusal) j l is next = settled_lawful h job l
placed_lawful h job None j l is next =
    settled_keeps (wider h j) job (subst AreLawful (sym (journals_wider h j)) (next refl)) l.blocks_are (omega (arith, l.waiting_is.room, length-append h.waiting (j ∷ []))) (all_gather h.waiting j l.waiting_is.gathered is)

-- a member's record that is placed, or refused, or that repeats one
record_lawful : (h : History) (job : Job) (refusal : Option Refusal) (again : Option ℕ) (j : Entry) → IsLawful h → gathers j.header.kind ≡ true → (refusal ≡ None → IsNew again → AreLawful (journals h ++ j ∷ []))
    → IsLawful (settled_history job (after_judgement refusal (unless_repeated again (Some j)) h))
record_lawful h job refusal None j l is next = placed_lawful h job refusal j l is (λ none. next none refl)
record_lawful h job (Some refusal) (Some n) j l is next = settled_lawful h job l
record_lawful h job None (Some n) j l is next = settled_lawful h job l

pub real_within : AreWithin real_limits
real_within = record { soft = omega arith; hard = omega arith; size = omega arith; clues = omega arith }

-- the parts of a job that fits
content_short : (member : ℕ) (clue : Digest) (content : List ℕ) (content_digest request : Digest) (by : Approval) (who : Digest) (number : ℕ) → fits_job (Append member clue content content_digest request by who number) ≡ true
    → (length content ≤ CONTENT_LIMIT) × (bytes_eq content_digest.0 (content_digest_of content) ≡ true) × (bytes_eq who.0 (who_digest_of (who_of (by ∷ []))) ≡ true)
content_short member clue content content_digest request by who number fits =
    let short = nat_le (length content) CONTENT_LIMIT in
    let same = bytes_eq content_digest.0 (content_digest_of content) in
    let told = bytes_eq who.0 (who_digest_of (who_of (by ∷ []))) in
    let parts = and_parts (short && same && told) (fits_approval member by) fits in
    let digests = and_parts (short && same) told parts.0 in
    let front = and_parts short same digests.0 in
    (leb-true (length content) CONTENT_LIMIT front.0, front.1, digests.1)

-- a journal that is a block of its own, where nothing waits
alone_lawful : (h : History) (refusal : Option Refusal) (j : Entry) → IsLawful h → h.waiting ≡ [] → (refusal ≡ None → AreLawful (journals h ++ j ∷ [])) → IsLawful (close (after_judgement refusal (Some j) h))
alone_lawful h (Some refusal) j l none next = close_lawful h l
alone_lawful h None j l none next =
    let one : length (h.waiting ++ j ∷ []) ≡ 1 = ap (λ es. length (es ++ j ∷ [])) none in
    close_keeps (wider h j) (subst AreLawful (sym (journals_wider h j)) (next refl)) l.blocks_are (omega (arith, one)) (λ more. absurd (more one))

-- an anchor, where nothing waits
anchor_lawful : (h : History) (refusal : Option Refusal) (stamp : Option Stamp) → IsLawful h → h.waiting ≡ [] → refusal ≡ own_refusal real_limits h Anchor → ((s : Stamp) → stamp ≡ Some s → s.index < NOTARY_LIMIT)
    → IsLawful (close (after_judgement refusal (option_map (time_journal (size h)) stamp) h))
anchor_lawful h (Some refusal) stamp l none is few = close_lawful h l
anchor_lawful h None None l none is few = close_lawful h l
anchor_lawful h None (Some stamp) l none is few =
    let j = time_journal (size h) stamp in
    alone_lawful h None j l none (λ accepted. lawful_more (journals h) j l.journals_are (time_next real_limits real_within h stamp (sym is) l.journals_are (few stamp refl)))

-- a job that only asks places nothing
pub unplaced : (refusal : Option Refusal) (h : History) → after_judgement refusal None h ≡ h
unplaced None h = refl
unplaced (Some refusal) h = refl

pub job_lawful : (h : History) (step : Step) (job : Job) → fits_job job ≡ true → IsLawful h → IsLawful (after_job h step job)
unfolding after_job with_job append_header member_header
job_lawful h step (Refused refusal) fits l = settled_lawful h (Refused refusal) l
job_lawful h step (Append member clue content content_digest request by who number) fits l =
    let job = Append member clue content content_digest request by who number in
    record_lawful h job (own_refusal real_limits h job) (repeated h member number request) (append_journal h member clue content content_digest request by who number) l refl
    (λ none new. lawful_more (journals h) _ l.journals_are (record_next real_limits real_within h member clue content content_digest request by who number none new l.journals_are (content_short member clue content content_digest request by who number fits).0))
job_lawful h step (NewMember number key by) fits l =
    let job = NewMember number key by in
    placed_lawful h job (own_refusal real_limits h job) (member_journal _ number key by) l refl
    (λ none. lawful_more (journals h) _ l.journals_are (member_next real_limits real_within h number key by none l.journals_are))
job_lawful h step Anchor fits l = anchor_lawful (close h) (own_refusal real_limits (close h) Anchor) (stamp_of step) (close_lawful h l) (close_none h) refl (stamp_few step)
job_lawful h step (Occult target leaf given) fits l =
    let g = close h in
    alone_lawful (close h) (own_refusal real_limits (close h) (Occult target leaf given)) (occult_journal (size (close h)) target leaf given) (close_lawful h l) (close_none h)
    (λ none. lawful_more (journals (close h)) _ (close_lawful h l).journals_are (occult_next real_limits real_within (close h) target leaf given none (close_lawful h l).journals_are))
job_lawful h step (OccultClue clue count given) fits l =
    alone_lawful (close h) (own_refusal real_limits (close h) (OccultClue clue count given)) (clue_occult_journal (size (close h)) clue count given) (close_lawful h l) (close_none h)
    (λ none. lawful_more (journals (close h)) _ (close_lawful h l).journals_are (clue_occult_next real_limits real_within (close h) clue count given none (close_lawful h l).journals_are))
job_lawful h step (Purge p told given) fits l =
    let g = close h in
    let lawful = (close_lawful h l).journals_are in
    alone_lawful g (own_refusal real_limits g (Purge p told given)) (purge_journal g p given) (close_lawful h l) (close_none h)
    (λ none. lawful_more (journals g) _ lawful (purge_next real_limits real_within g p told given none _ lawful))
job_lawful h step (Ask query) fits l =
    subst (λ g. IsLawful (settled_history (Ask query) g)) (sym (unplaced (own_refusal real_limits (close h) (Ask query)) (close h))) (settled_lawful (close h) (Ask query) (close_lawful h l))

close_sound : (h : History) → IsSound h → IsSound (close h)
close_sound h s = subst (All IsWhole) (sym (journals_close h)) s

settled_sound : (h : History) (job : Job) → IsSound h → IsSound (settled_history job h)
settled_sound h job s = elim (closes_after job || nat_le BLOCK_LIMIT (length h.waiting)) as (λ full. IsSound (cond full (close h) h)) [ true ↦ close_sound h s | false ↦ s ]

placed_sound : (h : History) (job : Job) (refusal : Option Refusal) (j : Entry) → IsSound h → IsWhole j → IsSound (settled_history job (after_judgement refusal (Some j) h))
placed_sound h job (Some refusal) j s whole = settled_sound h job s
placed_sound h job None j s whole = settled_sound (wider h j) job (subst (All IsWhole) (sym (journals_wider h j)) (All-push IsWhole (journals h) j s whole))

record_sound : (h : History) (job : Job) (refusal : Option Refusal) (again : Option ℕ) (j : Entry) → IsSound h → IsWhole j → IsSound (settled_history job (after_judgement refusal (unless_repeated again (Some j)) h))
record_sound h job refusal None j s whole = placed_sound h job refusal j s whole
record_sound h job (Some refusal) (Some n) j s whole = settled_sound h job s
record_sound h job None (Some n) j s whole = settled_sound h job s

anchor_sound : (h : History) (refusal : Option Refusal) (stamp : Option Stamp) → IsSound h → IsSound (settled_history Anchor (after_judgement refusal (option_map (time_journal (size h)) stamp) h))
anchor_sound h (Some refusal) stamp s = settled_sound h Anchor s
anchor_sound h None None s = settled_sound h Anchor s
anchor_sound h None (Some stamp) s = placed_sound h Anchor None (time_journal (size h) stamp) s (time_whole (size h) stamp)

pub job_sound : (h : History) (step : Step) (job : Job) → fits_job job ≡ true → IsSound h → IsSound (after_job h step job)
unfolding after_job with_job
job_sound h step (Refused refusal) fits s = settled_sound h (Refused refusal) s
job_sound h step (Append member clue content content_digest request by who number) fits s =
    let job = Append member clue content content_digest request by who number in
    let parts = content_short member clue content content_digest request by who number fits in
    record_sound h job (own_refusal real_limits h job) (repeated h member number request) _ s (record_whole h member clue content content_digest request by who number parts.1 parts.2)
job_sound h step (NewMember number key by) fits s =
    let job = NewMember number key by in placed_sound h job (own_refusal real_limits h job) _ s (member_whole _ number key by)
job_sound h step Anchor fits s = anchor_sound (close h) (own_refusal real_limits (close h) Anchor) (stamp_of step) (close_sound h s)
job_sound h step (Occult target leaf given) fits s =
    let job = Occult target leaf given in placed_sound (close h) job (own_refusal real_limits (close h) job) _ (close_sound h s) (occult_whole _ target leaf given)
job_sound h step (OccultClue clue count given) fits s =
    let job = OccultClue clue count given in placed_sound (close h) job (own_refusal real_limits (close h) job) _ (close_sound h s) (clue_occult_whole _ clue count given)
job_sound h step (Purge p told given) fits s =
    let job = Purge p told given in placed_sound (close h) job (own_refusal real_limits (close h) job) _ (close_sound h s) (purge_whole (close h) p given)
job_sound h step (Ask query) fits s =
    subst (λ g. IsSound (settled_history (Ask query) g)) (sym (unplaced (own_refusal real_limits (close h) (Ask query)) (close h))) (settled_sound (close h) (Ask query) (close_sound h s))

same_bytes : (bytes : List ℕ) → bytes_eq bytes bytes ≡ true
same_bytes bytes = (bytes_eq-Decides bytes bytes).1 refl

-- the job of a line fits
pub record_fits : (scheme : Scheme) (id : List ℕ) (member : ℕ) (clue : Digest) (content proof : List ℕ) (number : ℕ) → length content ≤ CONTENT_LIMIT → length proof ≤ PROOF_LIMIT → fits_job (append_with scheme id member clue content proof number) ≡ true
unfolding append_with
record_fits scheme id member clue content proof number c p =
    let who = who_of (approval_of scheme member (request_with id member clue content number) proof ∷ []) in
    and_from _ _ (and_from _ _ (and_from _ _ (le-leb (length content) CONTENT_LIMIT c) (same_bytes (content_digest_of content))) (same_bytes (who_digest_of who)))
    (and_from _ _ (eq-eqb member member refl) (le-leb (length proof) PROOF_LIMIT p))

member_fits : (scheme : Scheme) (id : List ℕ) (number : ℕ) (key : Digest) (proof : List ℕ) → length proof ≤ PROOF_LIMIT → fits_job (member_job scheme id number key proof) ≡ true
unfolding member_job
member_fits scheme id number key proof p = le-leb (length proof) PROOF_LIMIT p

-- approvals that fit still do with the keys that they show
shown_fit : (scheme : Scheme) (message : List ℕ) (given : List SaidApproval) → fits_approvals given ≡ true
    → (nat_le (length (map (λ (by : SaidApproval). approval_of scheme by.member message by.proof) given)) APPROVAL_LIMIT
    && list_all (λ (by : Approval). nat_le (length by.proof) PROOF_LIMIT) (map (λ (by : SaidApproval). approval_of scheme by.member message by.proof) given))
    ≡ true
shown_fit scheme message given fits =
    let parts = and_parts (nat_le (length given) APPROVAL_LIMIT) (list_all (λ (by : SaidApproval). nat_le (length by.proof) PROOF_LIMIT) given) fits in
    and_from _ _ (ap (λ n. nat_le n APPROVAL_LIMIT) (length-map given (λ (by : SaidApproval). approval_of scheme by.member message by.proof)) ∙ parts.0) (proofs_fit given parts.1)
  where
    proofs_fit : (gs : List SaidApproval) → list_all (λ (by : SaidApproval). nat_le (length by.proof) PROOF_LIMIT) gs ≡ true
        → list_all (λ (by : Approval). nat_le (length by.proof) PROOF_LIMIT) (map (λ (by : SaidApproval). approval_of scheme by.member message by.proof) gs) ≡ true
    proofs_fit [] all = refl
    proofs_fit (g ∷ gs) all =
        let both = and_parts (nat_le (length g.proof) PROOF_LIMIT) (list_all (λ (by : SaidApproval). nat_le (length by.proof) PROOF_LIMIT) gs) all in
        and_from _ _ both.0 (proofs_fit gs both.1)

pub occult_fits : (scheme : Scheme) (id : List ℕ) (target : ℕ) (leaf : Digest) (given : List SaidApproval) → fits_approvals given ≡ true → fits_job (occult_job scheme id target leaf given) ≡ true
unfolding occult_job
occult_fits scheme id target leaf given fits = shown_fit scheme (occult_request_digest_of id target leaf.0) given fits

pub clue_occult_fits : (scheme : Scheme) (id name : List ℕ) (count : ℕ) (given : List SaidApproval) → fits_approvals given ≡ true → fits_job (clue_occult_job scheme id name count given) ≡ true
unfolding clue_occult_job
clue_occult_fits scheme id name count given fits = shown_fit scheme (clue_occult_request_digest_of id (clue_of name).0 count) given fits

pub purge_fits : (scheme : Scheme) (id : List ℕ) (p : ℕ) (told : Digest) (given : List SaidApproval) → fits_approvals given ≡ true → fits_job (purge_job scheme id p told given) ≡ true
unfolding purge_job
purge_fits scheme id p told given fits = shown_fit scheme (purge_request_digest_of id p told.0) given fits

-- What holds of each line with the job that it asks for: it is shown of each verb that a job is made for, of anchors, and of all
-- lines that ask at once.
pub each_line : (scheme : Scheme) (id : List ℕ) (P : Line → Job → Type 0)
    → ((member : ℕ) (clue content proof : List ℕ) (number : ℕ) → P (line.Append member clue content proof number) (append_with scheme id member (clue_of clue) content proof number))
    → ((number : ℕ) (key : Digest) (proof : List ℕ) → P (line.NewMember number key proof) (member_job scheme id number key proof))
    → P line.Anchor Anchor
    → ((target : ℕ) (leaf : Digest) (given : List SaidApproval) → P (line.Occult target leaf given) (occult_job scheme id target leaf given))
    → ((name : List ℕ) (count : ℕ) (given : List SaidApproval) → P (line.OccultClue name count given) (clue_occult_job scheme id name count given))
    → ((p : ℕ) (told : Digest) (given : List SaidApproval) → P (line.Purge p told given) (purge_job scheme id p told given))
    → ((said : Line) (query : Query) → P said (Ask query))
    → (said : Line) → P said (job_for scheme id (Ok said))
each_line scheme id P append member anchor occult clue_occult purge asks (line.Append number clue content proof request) = append number clue content proof request
each_line scheme id P append member anchor occult clue_occult purge asks (line.NewMember number key proof) = member number key proof
each_line scheme id P append member anchor occult clue_occult purge asks line.Anchor = anchor
each_line scheme id P append member anchor occult clue_occult purge asks (line.Occult target leaf given) = occult target leaf given
each_line scheme id P append member anchor occult clue_occult purge asks (line.OccultClue name count given) = clue_occult name count given
each_line scheme id P append member anchor occult clue_occult purge asks (line.Purge p told given) = purge p told given
each_line scheme id P append member anchor occult clue_occult purge asks (line.Get n) = asks (line.Get n) (query.Get n)
each_line scheme id P append member anchor occult clue_occult purge asks (line.Prove n) = asks (line.Prove n) (query.Prove n)
each_line scheme id P append member anchor occult clue_occult purge asks (line.Extend which m) = asks (line.Extend which m) (query.Extend which m)
each_line scheme id P append member anchor occult clue_occult purge asks (line.Clue name) = asks (line.Clue name) (query.Clue (clue_of name))
each_line scheme id P append member anchor occult clue_occult purge asks line.Head = asks line.Head query.Head

for_fits : (scheme : Scheme) (id : List ℕ) (what : Result Line Refusal) → fits_what what ≡ true → fits_job (job_for scheme id what) ≡ true
for_fits scheme id (Err refusal) fits = fits
for_fits scheme id (Ok said) fits =
    each_line scheme id (λ said job. fits_line said ≡ true → fits_job job ≡ true) append_fits
    (λ number key proof fits. member_fits scheme id number key proof (leb-true (length proof) PROOF_LIMIT fits)) (λ fits. refl)
    (occult_fits scheme id)
    (λ name count given fits. clue_occult_fits scheme id name count given (and_parts (nat_le (length name) NAME_LIMIT) (fits_approvals given) fits).1)
    (purge_fits scheme id) (λ said query fits. refl) said fits
  where
    append_fits : (member : ℕ) (clue content proof : List ℕ) (number : ℕ) → fits_line (line.Append member clue content proof number) ≡ true → fits_job (append_with scheme id member (clue_of clue) content proof number) ≡ true
    append_fits member clue content proof number fits =
        let parts = and_parts (nat_le (length clue) NAME_LIMIT && nat_le (length content) CONTENT_LIMIT) (nat_le (length proof) PROOF_LIMIT) fits in
        let front = and_parts (nat_le (length clue) NAME_LIMIT) (nat_le (length content) CONTENT_LIMIT) parts.0 in
        record_fits scheme id member _ content proof number (leb-true (length content) CONTENT_LIMIT front.1) (leb-true (length proof) PROOF_LIMIT parts.1)

pub job_fits : (scheme : Scheme) (id text : List ℕ) → fits_job (job_of scheme id text) ≡ true
unfolding job_of
job_fits scheme id text = for_fits scheme id (spoken_line text).1 (spoken_fits text)

-- whatever lines are run
module _ (scheme : Scheme) where
  pub step_lawful : (h : History) (step : Step) → IsLawful h → IsLawful (after_step scheme h step)
  unfolding after_step
  step_lawful h step l = job_lawful h step (job_of scheme (id h) step.line) (job_fits scheme (id h) step.line) l

  pub steps_lawful : (h : History) (steps : List Step) → IsLawful h → IsLawful (after_steps scheme h steps)
  steps_lawful h [] l = l
  steps_lawful h (step ∷ steps) l = steps_lawful (after_step scheme h step) steps (step_lawful h step l)

  pub run_lawful : (h : History) (windows : List (List Step)) → IsLawful h → IsLawful (after scheme h windows)
  run_lawful h [] l = l
  run_lawful h (window ∷ windows) l = run_lawful (after_window scheme h window) windows (close_lawful (after_steps scheme h window) (steps_lawful h window l))

  step_sound : (h : History) (step : Step) → IsSound h → IsSound (after_step scheme h step)
  unfolding after_step
  step_sound h step s = job_sound h step (job_of scheme (id h) step.line) (job_fits scheme (id h) step.line) s

  steps_sound : (h : History) (steps : List Step) → IsSound h → IsSound (after_steps scheme h steps)
  steps_sound h [] s = s
  steps_sound h (step ∷ steps) s = steps_sound (after_step scheme h step) steps (step_sound h step s)

  pub run_sound : (h : History) (windows : List (List Step)) → IsSound h → IsSound (after scheme h windows)
  run_sound h [] s = s
  run_sound h (window ∷ windows) s = run_sound (after_window scheme h window) windows (close_sound (after_steps scheme h window) (steps_sound h window s))

-- a new ledger
pub genesis_lawful : (genesis : Genesis) → AreLawful (genesis_journal genesis ∷ [])
unfolding genesis_header
genesis_lawful genesis = record {
  next = (
    record {
      layout = record { version = refl; jsn = refl; member = refl; clue = refl; clue_ord = refl; clue_prev = refl; a = refl; b = refl; link = refl; content_len = refl };
      jsn = refl;
      below = omega arith;
      own = tt;
    },
    tt,
  );
  founded = refl;
}

pub founded_lawful : (genesis : Genesis) → IsLawful (new_ledger genesis)
founded_lawful genesis = record {
  journals_are = genesis_lawful genesis;
  blocks_are = All-cons IsBlock (genesis_journal genesis ∷ []) [] (record { some = omega arith; most = omega arith; gathered = λ other. absurd (other refl) }) (All-nil IsBlock);
  waiting_is = no_block;
}

pub founded_sound : (genesis : Genesis) → HasKeys genesis → IsSound (new_ledger genesis)
unfolding genesis_header
founded_sound genesis keys =
    All-cons IsWhole (genesis_journal genesis) [] (record { length_is = omega (arith, length-append genesis.operator.0 genesis.regulator.0, keys.operator, keys.regulator); content_is = refl; who_is = refl }) (All-nil IsWhole)
