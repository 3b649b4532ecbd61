-- Lemmas on jobs as a line makes them.
use Rattle.std.proofs.Common.{◌≡◌, ℕ, List, [], ◌∷◌, length, map, Option, Some, None, refl, ap, ◌∙◌}
use Rattle.std.specs.Option.{option_map}
use Rattle.ledger_bytes.specs.Digests.{digest}
use Rattle.ledger_bytes.specs.declared.digest.Digest.{Digest}
use Rattle.journal_record.specs.Approval.{who_of}
use Rattle.journal_record.specs.Entry.{content_digest_of, who_digest_of}
use Rattle.journal_record.specs.Request.{request_digest_of, member_request_digest_of, occult_request_digest_of, clue_occult_request_digest_of, purge_request_digest_of, clue_digest_of}
use Rattle.journal_record.specs.declared.approval.Approval.{Approval}
use Rattle.script_lines.specs.declared.said.SaidApproval.{SaidApproval}
use Rattle.ledger_model.specs.Appends.{approval_of, append_with, request_with, member_job, occult_job, clue_occult_job, purge_job}
use Rattle.ledger_model.specs.Scheme.{Scheme}
use Rattle.ledger_model.specs.declared.job.Job.{Job}
use Rattle.ledger_model.specs.declared.job.Job.TheVariants.{Append, NewMember, Occult, OccultClue, Purge}

-- a digest is that of its bytes
some_digest : (o : Option Digest) → o ≡ option_map digest (option_map (λ (d : Digest). d.0) o)
some_digest (Some d) = refl
some_digest None = refl

pub record_is : (scheme : Scheme) (id : List ℕ) (member : ℕ) (clue : Digest) (content proof slice shown : List ℕ) (count : ℕ) (content_digest request : Digest) (key : Option Digest) (who : Digest) (number : ℕ)
    → content_digest.0 ≡ content_digest_of slice → slice ≡ content → request.0 ≡ request_digest_of id member clue.0 count content_digest.0 number → count ≡ length content
    → option_map (λ (d : Digest). d.0) key ≡ scheme request.0 shown → shown ≡ proof → who.0 ≡ who_digest_of (who_of (record { member = member; key = key; proof = proof } ∷ []))
    → Append member clue content content_digest request (record { member = member; key = key; proof = proof }) who number ≡ append_with scheme id member clue content proof number
unfolding append_with
record_is scheme id member clue content proof slice shown count content_digest request key who number c s r n k p w =
    let by : Option Digest → Approval = λ z. record { member = member; key = z; proof = proof } in
    let job : Digest → Digest → Option Digest → Digest → Job = λ x y z v. Append member clue content x y (by z) v number in
    let same : content_digest.0 ≡ content_digest_of content = c ∙ ap content_digest_of s in
    let asked : request.0 ≡ request_with id member clue content number = r ∙ ap (λ x. request_digest_of id member clue.0 x content_digest.0 number) n ∙ ap (λ x. request_digest_of id member clue.0 (length content) x number) same in
    let shows : key ≡ option_map digest (scheme (request_with id member clue content number) proof) = some_digest key ∙ ap (option_map digest) (k ∙ ap (λ x. scheme x shown) asked ∙ ap (scheme (request_with id member clue content number)) p) in
    ap (λ x. job (digest x) request key who) same
    ∙ ap (λ x. job (digest (content_digest_of content)) (digest x) key who) asked
    ∙ ap (λ x. job (digest (content_digest_of content)) (digest (request_with id member clue content number)) key (digest x)) w
    ∙ ap (λ z. job (digest (content_digest_of content)) (digest (request_with id member clue content number)) z (digest (who_digest_of (who_of (by z ∷ []))))) shows

pub member_is : (scheme : Scheme) (id : List ℕ) (number : ℕ) (key : Digest) (proof shown : List ℕ) (request : Digest) (found : Option Digest)
    → request.0 ≡ member_request_digest_of id number key.0 → option_map (λ (d : Digest). d.0) found ≡ scheme request.0 shown → shown ≡ proof
    → NewMember number key (record { member = 0; key = found; proof = proof }) ≡ member_job scheme id number key proof
unfolding member_job
member_is scheme id number key proof shown request found r k p =
    let job : Option Digest → Job = λ z. NewMember number key (record { member = 0; key = z; proof = proof }) in
    ap job (some_digest found ∙ ap (option_map digest) (k ∙ ap (λ x. scheme x shown) r ∙ ap (scheme (member_request_digest_of id number key.0)) p))

pub occult_is : (scheme : Scheme) (id : List ℕ) (target : ℕ) (leaf : Digest) (given : List SaidApproval) (request : List ℕ) (shown : List Approval)
    → request ≡ occult_request_digest_of id target leaf.0 → shown ≡ map (λ (by : SaidApproval). approval_of scheme by.member request by.proof) given
    → Occult target leaf shown ≡ occult_job scheme id target leaf given
unfolding occult_job
occult_is scheme id target leaf given request shown r s =
    ap (Occult target leaf) s ∙ ap (λ x. Occult target leaf (map (λ (by : SaidApproval). approval_of scheme by.member x by.proof) given)) r

pub clue_occult_is : (scheme : Scheme) (id name : List ℕ) (clue : Digest) (count : ℕ) (given : List SaidApproval) (request : List ℕ) (shown : List Approval)
    → clue.0 ≡ clue_digest_of name → request ≡ clue_occult_request_digest_of id clue.0 count → shown ≡ map (λ (by : SaidApproval). approval_of scheme by.member request by.proof) given
    → OccultClue clue count shown ≡ clue_occult_job scheme id name count given
unfolding clue_occult_job
clue_occult_is scheme id name clue count given request shown c r s =
    let approved : List ℕ → List Approval = λ x. map (λ (by : SaidApproval). approval_of scheme by.member x by.proof) given in
    ap (OccultClue clue count) s ∙ ap (λ x. OccultClue clue count (approved x)) r
    ∙ ap (λ x. OccultClue (digest x) count (approved (clue_occult_request_digest_of id x count))) c

pub purge_is : (scheme : Scheme) (id : List ℕ) (p : ℕ) (told : Digest) (given : List SaidApproval) (request : List ℕ) (shown : List Approval)
    → request ≡ purge_request_digest_of id p told.0 → shown ≡ map (λ (by : SaidApproval). approval_of scheme by.member request by.proof) given
    → Purge p told shown ≡ purge_job scheme id p told given
unfolding purge_job
purge_is scheme id p told given request shown r s =
    ap (Purge p told) s ∙ ap (λ x. Purge p told (map (λ (by : SaidApproval). approval_of scheme by.member x by.proof) given)) r
