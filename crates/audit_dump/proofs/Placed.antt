-- What is accepted was approved as an audit looks at it.
use Rattle.std.proofs.Common.{◌≡◌, ◌<◌, ◌≤◌, ◌-◌, ◌^◌, length, ℕ, Bool, true, false, List, [], ◌∷◌, ◌++◌, map, All, Option, Some, None, refl, sym, ap, ap₂, subst, arith, take, inl, inr, ◌∙◌}
use Rattle.std.specs.Prelude.{if◌then◌else◌, slice_get}
use Rattle.std.proofs.lemmas.List.Elements.{All-map, All-weaker}
use Rattle.ledger_bytes.specs.declared.digest.Digest.{Digest}
use Rattle.ledger_bytes.specs.declared.refusal.Refusal.{Refusal}
use Rattle.ledger_bytes.specs.declared.refusal.Refusal.TheVariants.{WrongKey, RootDiffers}
use Rattle.journal_record.specs.Members.{is_key_of, number_refusal}
use Rattle.journal_record.specs.Request.{member_request_digest_of, occult_request_digest_of, clue_occult_request_digest_of, purge_request_digest_of}
use Rattle.journal_record.specs.declared.header.Kind.TheVariants as kind
use Rattle.member_book.specs.Approvals.{approvals_refusal}
use Rattle.member_book.specs.Erasures.{first_refusal, target_row, clue_row, point_row, absent, purged_up_to, no_time, other_root}
use Rattle.script_lines.specs.declared.said.SaidApproval.{SaidApproval}
use Rattle.ledger_model.specs.Appends.{append_with, append_header, member_job, member_header, occult_job, occult_header, clue_occult_job, clue_occult_header, purge_job, purge_header, approval_of, clue_of, request_with}
use Rattle.ledger_model.specs.Clues.{jsns_with}
use Rattle.ledger_model.specs.History.{History, history, journals, id, size, point, root, leaf_digest}
use Rattle.ledger_model.specs.Needs.{purge_needs}
use Rattle.sha2.specs.Sha256.{sha256}
use Rattle.tree_model.specs.Tree.{leaf, root as root_of}
use Rattle.tree_model.specs.RootFrom.{root_from}
use Rattle.tree_model.proofs.RootsFrom.{from_none}
use Rattle.journal_record.specs.Entry.{Entry}
use Rattle.journal_record.specs.Header.{spelling}
use Rattle.std.specs.Str.{bytes_eq}
use Rattle.std.proofs.lemmas.Bool.{cases_Bool}
use Rattle.std.proofs.lemmas.Slice.Eq.{bytes_eq-Decides}
use Rattle.std.proofs.lemmas.List.{take-map}
use Rattle.std.proofs.lemmas.Simd.{map-map}
use Rattle.ledger_model.specs.Targets.{kind_at, hider, leaf_at, shown_with}
use Rattle.ledger_bytes.specs.Digests.{digest}
use Rattle.ledger_model.specs.Judgements.{own_refusal, fullness, hard_fullness, life_fullness, unknown_in, wrong_key_in}
use Rattle.ledger_model.specs.Members.{members, keys}
use Rattle.ledger_model.specs.Scheme.{Scheme}
use Rattle.ledger_model.specs.declared.limits.Limits.{Limits}
use Rattle.ledger_bytes.specs.declared.limits.TheConstants.{PROOF_LIMIT}
use Rattle.audit_dump.specs.Approvals.{IsPlacedBy, IsApprovalOf}
use Rattle.audit_dump.specs.Known.{root_behind}
use Rattle.audit_dump.specs.Placed.{shown_whole, record_placed, member_placed, occult_placed, clue_occult_placed, purge_placed}

-- nothing of a row refuses
none_first : (r : Option Refusal) (row : List (Option Refusal)) → first_refusal (r ∷ row) ≡ None → (r ≡ None) × (first_refusal row ≡ None)
none_first None row e = (refl, e)
none_first (Some why) row e = absurd cc

none_last : (row : List (Option Refusal)) (r : Option Refusal) → first_refusal (row ++ r ∷ []) ≡ None → r ≡ None
none_last [] r e = (none_first r [] e).0
none_last (x ∷ row) r e = none_last row r (none_first x (row ++ r ∷ []) e).1

-- the key is the member's
key_shown : (known : List (List ℕ)) (member : ℕ) (shown : Option Digest) → wrong_key_in known member shown ≡ None → is_key_of shown (slice_get known member) ≡ true
key_shown known member shown e = by (is_key_of shown (slice_get known member)) (WrongKey member) e
  where
    by : (test : Bool) (why : Refusal) → (if test then None else Some why) ≡ None → test ≡ true
    by true why e = refl
    by false why e = absurd cc

-- a proof that a line may give fits the bytes for its length
is_short : (proof : List ℕ) → length proof ≤ PROOF_LIMIT → length proof < 2 ^ 16
is_short proof le = omega (arith, le)

-- what a job has of approvals that were said: each of this message
all_shown : (scheme : Scheme) (message : List ℕ) (given : List SaidApproval) → All (λ by. length by.proof ≤ PROOF_LIMIT) given
    → All (IsApprovalOf scheme message) (map (λ by. approval_of scheme by.member message by.proof) given)
all_shown scheme message given fits =
    All-map (IsApprovalOf scheme message) (λ (by : SaidApproval). approval_of scheme by.member message by.proof) given
    (All-weaker (λ (by : SaidApproval). length by.proof ≤ PROOF_LIMIT) (λ (by : SaidApproval). IsApprovalOf scheme message (approval_of scheme by.member message by.proof)) (λ by le. record { short = is_short by.proof le; key_is = refl }) given fits)

module _ (scheme : Scheme) (limits : Limits) (h : History) where
  -- the members of a history are those of its journals
  same_keys : keys (history [] (journals h)) ≡ keys h
  unfolding members
  same_keys = refl

  pub record_is : (member : ℕ) (clue : Digest) (content proof : List ℕ) (number : ℕ) → length proof ≤ PROOF_LIMIT → own_refusal limits h (append_with scheme (id h) member clue content proof number) ≡ None
      → IsPlacedBy scheme (id h) None (journals h) (shown_whole (record_placed scheme h member clue content proof number)) kind.Content
  unfolding append_with append_header
  record_is member clue content proof number fits e =
      let by = approval_of scheme member (request_with (id h) member clue content number) proof in
      let key = (none_first (wrong_key_in (keys h) member by.key) _ (none_first (unknown_in (keys h) member) _ e).1).0 in (
        record { by = by; who_is = refl; member_is = refl; shown = record { short = is_short proof fits; key_is = refl }; key_is = ap (λ known. is_key_of by.key (slice_get known member)) same_keys ∙ key_shown (keys h) member by.key key },
        refl,
      )

  pub occult_is : (target : ℕ) (leaf : Digest) (given : List SaidApproval) → All (λ by. length by.proof ≤ PROOF_LIMIT) given → own_refusal limits h (occult_job scheme (id h) target leaf given) ≡ None
      → IsPlacedBy scheme (id h) None (journals h) (shown_whole (occult_placed scheme h target leaf given)) kind.Occult
  unfolding occult_job occult_header
  occult_is target hash given fits e =
      let message = occult_request_digest_of (id h) target hash.0 in
      let shown = map (λ (by : SaidApproval). approval_of scheme by.member message by.proof) given in
      let passed : approvals_refusal (keys h) shown (0 ∷ 1 ∷ []) ≡ None = none_last (target_row (size h) (point h) (kind_at h target) (hider h target) (digest (leaf_at h target)) target hash) _ (none_first (hard_fullness limits h) _ e).1 in
      record {
        given = shown;
        who_is = refl;
        shown = all_shown scheme message given fits;
        passed = ap (λ known. approvals_refusal known shown (0 ∷ 1 ∷ [])) same_keys ∙ passed;
      }

  pub clue_occult_is : (name : List ℕ) (count : ℕ) (given : List SaidApproval) → All (λ by. length by.proof ≤ PROOF_LIMIT) given → own_refusal limits h (clue_occult_job scheme (id h) name count given) ≡ None
      → IsPlacedBy scheme (id h) None (journals h) (shown_whole (clue_occult_placed scheme h name count given)) kind.ClueOccult
  unfolding clue_occult_job clue_occult_header
  clue_occult_is name count given fits e =
      let clue = clue_of name in
      let message = clue_occult_request_digest_of (id h) clue.0 count in
      let shown = map (λ (by : SaidApproval). approval_of scheme by.member message by.proof) given in
      let passed : approvals_refusal (keys h) shown (0 ∷ 1 ∷ []) ≡ None = none_last (clue_row (length (jsns_with h clue)) (length (shown_with h clue)) count) _ (none_first (hard_fullness limits h) _ e).1 in
      record {
        given = shown;
        who_is = refl;
        shown = all_shown scheme message given fits;
        passed = ap (λ known. approvals_refusal known shown (0 ∷ 1 ∷ [])) same_keys ∙ passed;
      }

  pub member_is : (number : ℕ) (key : Digest) (proof : List ℕ) → length proof ≤ PROOF_LIMIT → own_refusal limits h (member_job scheme (id h) number key proof) ≡ None
      → IsPlacedBy scheme (id h) None (journals h) (shown_whole (member_placed scheme h number key proof)) kind.Member
  unfolding member_job member_header
  member_is number key proof fits e =
      let by = approval_of scheme 0 (member_request_digest_of (id h) number key.0) proof in
      let shown = (none_first (wrong_key_in (keys h) 0 by.key) _ (none_first (number_refusal (members h) number) _ (none_first (fullness limits h) _ e).1).1).0 in
      record { by = by; who_is = refl; member_is = refl; shown = record { short = is_short proof fits; key_is = refl }; key_is = ap (λ known. is_key_of by.key (slice_get known 0)) same_keys ∙ key_shown (keys h) 0 by.key shown }

  -- the root that a purge tells is that of the journals in front of its point
  same_root : (p : ℕ) → root h p ≡ root_behind None (journals h) p
  unfolding root
  same_root p =
      let whole : p - 0 ≡ p = omega arith in
      ap (root_of sha256) (ap (map (leaf sha256)) (take-map (λ (j : Entry). spelling j.header) p (journals h)) ∙ map-map (leaf sha256) (λ (j : Entry). spelling j.header) (take p (journals h)))
      ∙ sym (from_none sha256 (map leaf_digest (take p (journals h)))) ∙ ap (λ m. root_from sha256 [] 0 (map leaf_digest (take m (journals h)))) (sym whole)

  same_needs : (p : ℕ) → purge_needs (history [] (journals h)) p ≡ purge_needs h p
  unfolding point
  same_needs p = refl

  told_is : (kept told : Digest) → other_root kept told ≡ None → told.0 ≡ kept.0
  told_is kept told e = elim (cases_Bool (bytes_eq told.0 kept.0)) [
    | inl same ↦ (bytes_eq-Decides told.0 kept.0).0 same
    | inr other ↦ absurd (let never : Some (RootDiffers kept) ≡ None = sym (rw other refl) ∙ e in cc)
  ]

  pub purge_is : (p : ℕ) (told : Digest) (given : List SaidApproval) → All (λ by. length by.proof ≤ PROOF_LIMIT) given → own_refusal limits h (purge_job scheme (id h) p told given) ≡ None
      → IsPlacedBy scheme (id h) None (journals h) (shown_whole (purge_placed scheme h p told given)) kind.Purge
  unfolding purge_job purge_header
  purge_is p told given fits e =
      let message = purge_request_digest_of (id h) p told.0 in
      let shown = map (λ (by : SaidApproval). approval_of scheme by.member message by.proof) given in
      let row = (none_first (life_fullness limits h) _ e).1 in
      let passed : approvals_refusal (keys h) shown (purge_needs h p) ≡ None = none_last (point_row (size h) (point h) (kind_at h p) (digest (root h p)) p told) _ row in
      let rest = (none_first (no_time (kind_at h p)) _ (none_first (purged_up_to (point h) p) _ (none_first (absent (size h) p) _ row).1).1).1 in
      let is : told.0 ≡ root_behind None (journals h) p = told_is (digest (root h p)) told (none_first (other_root (digest (root h p)) told) _ rest).0 ∙ same_root p in
      let same : message ≡ purge_request_digest_of (id h) p (root_behind None (journals h) p) = ap (purge_request_digest_of (id h) p) is in (
        λ le. record {
          given = shown;
          who_is = refl;
          shown = subst (λ (m : List ℕ). All (IsApprovalOf scheme m) shown) same (all_shown scheme message given fits);
          passed = ap₂ (λ known needs. approvals_refusal known shown needs) same_keys (same_needs p) ∙ passed;
        },
        λ lt. absurd (omega arith),
      )
