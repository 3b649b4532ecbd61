-- The headers of a history that runs make have the widths of their layout, and no who is too long.
use Rattle.std.specs.Int.{w16, w32, to_be_bytes}
use Rattle.std.specs.Prelude.{All, IsTrue, nat_le, nat_lt, ◌==◌, ◌&&◌, if◌then◌else◌}
use Rattle.std.specs.List.{list_all}
use Rattle.std.specs.Option.{option_map}
use Rattle.std.proofs.Common.{◌≡◌, ℕ, zero, suc, ◌+◌, ◌*◌, ◌^◌, ◌<◌, ◌≤◌, Bool, true, false, cond, List, [], ◌∷◌, ◌++◌, length, map, get_or, Option, Some, None, Result, Ok, Err, refl, sym, ap, ◌∙◌, subst, arith, append-nil, length-append}
use Rattle.std.proofs.lemmas.Bool.{and_parts, eqb-true, leb-true, ltb-true}
use Rattle.std.proofs.lemmas.List.Elements.{All-nil, All-cons, All-push}
use Rattle.std.proofs.lemmas.Option.{same_Some}
use Rattle.sha2.specs.Sha256.{sha256}
use Rattle.ledger_bytes.specs.Digests.{digest, zero_digest}
use Rattle.ledger_bytes.specs.Tags.{byte_of}
use Rattle.ledger_bytes.specs.declared.tag.Tag.TheVariants as tag
use Rattle.sha2.proofs.Facts256.{length-sha256}
use Rattle.ledger_bytes.specs.declared.digest.Digest.{Digest}
use Rattle.ledger_bytes.specs.declared.limits.TheConstants.{APPROVAL_LIMIT, MEMBER_LIMIT, CONTENT_LIMIT, NAME_LIMIT, PROOF_LIMIT}
use Rattle.journal_record.specs.Approval.{approval_bytes, who_of}
use Rattle.journal_record.specs.Entry.{Entry, content_digest_of, who_digest_of}
use Rattle.journal_record.specs.Header.{HasWidths, spelling}
use Rattle.journal_record.specs.Request.{clue_digest_of, member_request_digest_of, occult_request_digest_of, clue_occult_request_digest_of, purge_request_digest_of}
use Rattle.journal_record.specs.declared.approval.Approval.{Approval}
use Rattle.journal_record.specs.declared.approval.TheConstants.{WHO_LIMIT}
use Rattle.journal_record.specs.declared.stamp.Stamp.{Stamp}
use Rattle.script_lines.specs.declared.line.Line.{Line}
use Rattle.script_lines.specs.declared.line.Line.TheVariants as line
use Rattle.script_lines.specs.declared.said.SaidApproval.{SaidApproval}
use Rattle.script_lines.specs.Limits.{fits_approvals}
use Rattle.time_peg.specs.Entries.{Making}
use Rattle.ledger_model.specs.Anchors.{stamp_of, time_header, time_journal}
use Rattle.ledger_model.specs.Appends.{approval_of, request_with, append_header, append_with, clue_of, member_header, member_job, occult_header, occult_job, clue_occult_header, clue_occult_job, purge_header, purge_job}
use Rattle.ledger_model.specs.Clues.{jsns_with, last_journal, next_ordinal}
use Rattle.journal_record.specs.declared.header.Kind.TheVariants as kind
use Rattle.journal_record.specs.Rules.{version_of, clue_prev_ok, is_no_clue}
use Rattle.ledger_model.specs.Genesis.{HasKeys, genesis_header, new_ledger}
use Rattle.ledger_model.specs.History.{History, id, journals, leaf_digest, size, close}
use Rattle.ledger_model.specs.Limits.{real_limits}
use Rattle.ledger_model.specs.Scheme.{Scheme}
use Rattle.ledger_model.specs.Step.{Step}
use Rattle.ledger_model.specs.declared.genesis.Genesis.{Genesis}
use Rattle.ledger_model.specs.declared.job.Job.TheVariants.{Anchor}
use Rattle.ledger_model.proofs.AcceptedLaws.{record_next, member_next, occult_own, clue_occult_next, purge_own, stamp_few}
use Rattle.ledger_model.proofs.FitLaws.{size_few}
use Rattle.ledger_model.proofs.KeepLaws.{each_line, journals_close, journals_wider, real_within}
use Rattle.ledger_model.proofs.LawfulLaws.{numbers_few}
use Rattle.ledger_model.proofs.PegLaws.{stamped_fits}
use Rattle.honest_dump.proofs.Running.{Places, LinePlaces, unrepeated, wider}

-- a journal's numbers fit their fields, its digests have 32 bytes, and its who isn't too long
pub record HasSizes (e : Entry) : Type 0 where
  pub widths : HasWidths e.header
  pub who : length e.who ≤ WHO_LIMIT

-- ---- approvals

who_few : (by : Approval) → length by.proof ≤ PROOF_LIMIT → length (who_of (by ∷ [])) ≤ WHO_LIMIT
who_few by few =
    omega (arith, few, ap length (append-nil (approval_bytes by)), length-append (to_be_bytes w32 by.member ++ to_be_bytes w16 (length by.proof)) by.proof, length-append (to_be_bytes w32 by.member) (to_be_bytes w16 (length by.proof)))

module _ (scheme : Scheme) (message : List ℕ) where
  abbrev shown : SaidApproval → Approval
  shown by = approval_of scheme by.member message by.proof

  whos_length : (given : List SaidApproval) → list_all (λ by. nat_le (length by.proof) PROOF_LIMIT) given ≡ true → length (who_of (map shown given)) ≤ length given * 4102
  whos_length [] fits = omega arith
  whos_length (by ∷ given) fits =
      let both = and_parts (nat_le (length by.proof) PROOF_LIMIT) (list_all (λ (a : SaidApproval). nat_le (length a.proof) PROOF_LIMIT) given) fits in
      omega (arith, leb-true (length by.proof) PROOF_LIMIT both.0, whos_length given both.1, length-append (approval_bytes (shown by)) (who_of (map shown given)), length-append (to_be_bytes w32 by.member ++ to_be_bytes w16 (length by.proof)) by.proof, length-append (to_be_bytes w32 by.member) (to_be_bytes w16 (length by.proof)))

  whos_few : (given : List SaidApproval) → fits_approvals given ≡ true → length (who_of (map shown given)) ≤ WHO_LIMIT
  whos_few given fits =
      let both = and_parts (nat_le (length given) APPROVAL_LIMIT) (list_all (λ (a : SaidApproval). nat_le (length a.proof) PROOF_LIMIT) given) fits in
      omega (arith, leb-true (length given) APPROVAL_LIMIT both.0, whos_length given both.1)

clue_wide : (name : List ℕ) → length (clue_digest_of name) ≡ 32
clue_wide name = elim (length name == 0) as (λ v. length (if v then zero_digest.0 else sha256 (byte_of tag.ClueName ∷ name)) ≡ 32) [ true ↦ refl | false ↦ length-sha256 (byte_of tag.ClueName ∷ name) ]

leaf_wide : (es : List Entry) (n : ℕ) → n < length es → length (get_or (map leaf_digest es) n []) ≡ 32
leaf_wide [] n lt = absurd (omega (arith, lt))
leaf_wide (e ∷ es) zero lt = length-sha256 (0 ∷ spelling e.header)
leaf_wide (e ∷ es) (suc n) lt = leaf_wide es n (omega (arith, lt))

-- a clue's numbers fit
ord_few : (h : History) (clue : Digest) → next_ordinal h clue ≤ size h + 1
unfolding next_ordinal jsns_with
ord_few h clue = elim (is_no_clue clue) as (λ v. cond v 0 (length (jsns_with h clue) + 1) ≤ size h + 1) [ true ↦ omega arith | false ↦ omega (arith, numbers_few clue (journals h)) ]

prev_few : (jsn ord prev : ℕ) → IsTrue (clue_prev_ok jsn ord prev) → prev ≤ jsn
prev_few jsn ord prev ok = by (nat_le ord 1) ok where
  by : (first : Bool) → cond first (prev == 0) (nat_lt 0 prev && nat_lt prev jsn) ≡ true → prev ≤ jsn
  by true ok = omega (arith, eqb-true prev 0 ok)
  by false ok = omega (arith, ltb-true prev jsn (and_parts (nat_lt 0 prev) (nat_lt prev jsn) ok).1)

-- the version of a record has one byte
version_few : (number len : ℕ) → version_of kind.Content number len < 2 ^ 8
version_few number len = elim (number == 0 && nat_le len 65_536) as (λ first. cond first 1 2 < 2 ^ 8) [ true ↦ omega arith | false ↦ omega arith ]

-- ---- the journal that a line places

module _ (scheme : Scheme) (h : History) (making : Option Making) (step : Step) where
  record_sizes : (e : Entry) (member : ℕ) (clue content proof : List ℕ) (number : ℕ) → Places h making step (line.Append member clue content proof number) (append_with scheme (id h) member (clue_of clue) content proof number) e → HasSizes e
  unfolding append_with append_header
  record_sizes e member clue content proof number p =
      let parts = and_parts (nat_le (length clue) NAME_LIMIT && nat_le (length content) CONTENT_LIMIT) (nat_le (length proof) PROOF_LIMIT) p.fits in
      let front = and_parts (nat_le (length clue) NAME_LIMIT) (nat_le (length content) CONTENT_LIMIT) parts.0 in
      let request = request_with (id h) member (clue_of clue) content number in
      let own = unrepeated _ _ e p.placed in
      let by = approval_of scheme member request proof in
      let next = record_next real_limits real_within h member (clue_of clue) content (digest (content_digest_of content)) (digest request) by (digest (who_digest_of (who_of (by ∷ [])))) number p.accepted own.0 p.lawful.journals_are (leb-true (length content) CONTENT_LIMIT front.1) in
      subst HasSizes own.1 (record {
        widths = record {
          version = version_few number (length content);
          jsn = omega (arith, size_few h p.lawful);
          member = omega (arith, ltb-true member MEMBER_LIMIT next.layout.member);
          clue_ord = omega (arith, ord_few h (clue_of clue), next.below);
          clue_prev = omega (arith, prev_few (size h) (next_ordinal h (clue_of clue)) (last_journal h (clue_of clue)) next.layout.clue_prev, size_few h p.lawful);
          a = p.short.1;
          b = omega arith;
          content_len = omega (arith, leb-true (length content) CONTENT_LIMIT front.1);
          clue = clue_wide clue;
          link = length-sha256 _;
          content_digest = length-sha256 _;
          who_digest = length-sha256 _;
        };
        who = who_few by (leb-true (length proof) PROOF_LIMIT parts.1);
      })

  member_sizes : (e : Entry) (number : ℕ) (key : Digest) (proof : List ℕ) → Places h making step (line.NewMember number key proof) (member_job scheme (id h) number key proof) e → HasSizes e
  unfolding member_job member_header
  member_sizes e number key proof p =
      let by = approval_of scheme 0 (member_request_digest_of (id h) number key.0) proof in
      let next = member_next real_limits real_within h number key by p.accepted p.lawful.journals_are in
      subst HasSizes (same_Some _ e p.placed) (record {
        widths = record {
          version = omega arith;
          jsn = omega (arith, size_few h p.lawful);
          member = omega arith;
          clue_ord = omega arith;
          clue_prev = omega arith;
          a = omega (arith, ltb-true number MEMBER_LIMIT (and_parts (nat_le 2 number) (nat_lt number MEMBER_LIMIT) next.layout.a).1);
          b = omega arith;
          content_len = omega arith;
          clue = refl;
          link = p.short;
          content_digest = length-sha256 _;
          who_digest = length-sha256 _;
        };
        who = who_few by (leb-true (length proof) PROOF_LIMIT p.fits);
      })

  stamp_sizes : (e : Entry) → Places h making step line.Anchor Anchor e → (o : Option Stamp) → stamp_of step ≡ o → option_map (time_journal (size h)) o ≡ Some e → HasSizes e
  unfolding time_header
  stamp_sizes e p None is placed = absurd cc
  stamp_sizes e p (Some s) is placed =
      let fits = stamped_fits making h step s p.accepted is p.changes in
      subst HasSizes (same_Some _ e placed) (record {
        widths = record {
          version = omega arith;
          jsn = omega (arith, size_few h p.lawful);
          member = omega arith;
          clue_ord = omega arith;
          clue_prev = omega arith;
          a = omega (arith, stamp_few step s is);
          b = fits.0;
          content_len = omega arith;
          clue = refl;
          link = fits.1;
          content_digest = length-sha256 _;
          who_digest = length-sha256 _;
        };
        who = omega arith;
      })

  occult_sizes : (e : Entry) (target : ℕ) (leaf : Digest) (given : List SaidApproval) → Places h making step (line.Occult target leaf given) (occult_job scheme (id h) target leaf given) e → HasSizes e
  unfolding occult_job occult_header
  occult_sizes e target leaf given p =
      let message = occult_request_digest_of (id h) target leaf.0 in
      let own = occult_own real_limits real_within h target leaf (map (shown scheme message) given) p.accepted in
      let wide : length leaf.0 ≡ 32 = ap length own.leaf_is ∙ leaf_wide (journals h) target own.before in
      subst HasSizes (same_Some _ e p.placed) (record {
        widths = record {
          version = omega arith;
          jsn = omega (arith, size_few h p.lawful);
          member = omega arith;
          clue_ord = omega arith;
          clue_prev = omega arith;
          a = omega (arith, own.before, size_few h p.lawful);
          b = omega arith;
          content_len = omega arith;
          clue = refl;
          link = wide;
          content_digest = length-sha256 _;
          who_digest = length-sha256 _;
        };
        who = whos_few scheme message given p.fits;
      })

  clue_occult_sizes : (e : Entry) (name : List ℕ) (count : ℕ) (given : List SaidApproval) → Places h making step (line.OccultClue name count given) (clue_occult_job scheme (id h) name count given) e → HasSizes e
  unfolding clue_occult_job clue_occult_header
  clue_occult_sizes e name count given p =
      let parts = and_parts (nat_le (length name) NAME_LIMIT) (fits_approvals given) p.fits in
      let message = clue_occult_request_digest_of (id h) (clue_of name).0 count in
      let next = clue_occult_next real_limits real_within h (clue_of name) count (map (shown scheme message) given) p.accepted p.lawful.journals_are in
      subst HasSizes (same_Some _ e p.placed) (record {
        widths = record {
          version = omega arith;
          jsn = omega (arith, size_few h p.lawful);
          member = omega arith;
          clue_ord = omega arith;
          clue_prev = omega arith;
          a = omega (arith, leb-true count 4_294_967_295 (and_parts (nat_lt 0 count) (nat_le count 4_294_967_295) next.layout.a).1);
          b = omega arith;
          content_len = omega arith;
          clue = refl;
          link = clue_wide name;
          content_digest = length-sha256 _;
          who_digest = length-sha256 _;
        };
        who = whos_few scheme message given parts.1;
      })

  purge_sizes : (e : Entry) (q : ℕ) (told : Digest) (given : List SaidApproval) → Places h making step (line.Purge q told given) (purge_job scheme (id h) q told given) e → HasSizes e
  unfolding purge_job purge_header
  purge_sizes e q told given p =
      let message = purge_request_digest_of (id h) q told.0 in
      let own = purge_own real_limits real_within h q told (map (shown scheme message) given) p.accepted told p.lawful.journals_are in
      subst HasSizes (same_Some _ e p.placed) (record {
        widths = record {
          version = omega arith;
          jsn = omega (arith, size_few h p.lawful);
          member = omega arith;
          clue_ord = omega arith;
          clue_prev = omega arith;
          a = omega (arith, own.before, size_few h p.lawful);
          b = omega arith;
          content_len = omega arith;
          clue = refl;
          link = length-sha256 _;
          content_digest = length-sha256 _;
          who_digest = length-sha256 _;
        };
        who = whos_few scheme message given p.fits;
      })

  placed_sizes : (said : Line) (e : Entry) → LinePlaces scheme h making step said e → HasSizes e
  placed_sizes said e =
      each_line scheme (id h) (λ said job. Places h making step said job e → HasSizes e) (record_sizes e) (member_sizes e) (λ p. stamp_sizes e p (stamp_of step) refl p.placed) (occult_sizes e) (clue_occult_sizes e) (purge_sizes e)
      (λ said query p. let never = p.placed in absurd cc) said

-- ---- a history

abbrev pub HaveSizes : History → Type 0
HaveSizes h = All HasSizes (journals h)

pub sizes_ended : (h : History) → HaveSizes h → HaveSizes (close h)
sizes_ended h s = subst (All HasSizes) (sym (journals_close h)) s

pub sizes_placed : (scheme : Scheme) (h : History) (making : Option Making) (step : Step) (said : Line) (e : Entry) → LinePlaces scheme h making step said e → HaveSizes h → HaveSizes (wider h e)
sizes_placed scheme h making step said e p s = subst (All HasSizes) (sym (journals_wider h e)) (All-push HasSizes (journals h) e s (placed_sizes scheme h making step said e p))

pub sizes_new : (genesis : Genesis) → HasKeys genesis → HaveSizes (new_ledger genesis)
unfolding genesis_header
sizes_new genesis keys = All-cons HasSizes _ [] (record {
  widths = record {
    version = omega arith;
    jsn = omega arith;
    member = omega arith;
    clue_ord = omega arith;
    clue_prev = omega arith;
    a = omega arith;
    b = omega arith;
    content_len = omega arith;
    clue = refl;
    link = length-sha256 _;
    content_digest = length-sha256 _;
    who_digest = length-sha256 _;
  };
  who = omega arith;
}) (All-nil HasSizes)
