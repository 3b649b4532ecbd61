-- The proof of a journal between its bounds is accepted.
use Rattle.std.specs.Prelude.{IfSome}
use Rattle.std.specs.Int.{w64, to_be_bytes, from_be_bytes}
use Rattle.std.specs.Option.{is_some, option_map}
use Rattle.std.proofs.Common.{◌≡◌, ℕ, zero, suc, ◌<◌, ◌≤◌, ◌^◌, ◌||◌, true, List, [], ◌∷◌, ◌++◌, length, map, take, get_or, slice_get, Option, Some, None, refl, sym, ap, ◌∙◌, arith}
use Rattle.std.proofs.lemmas.Bool.{lt-ltb}
use Rattle.std.proofs.lemmas.List.{length-map, take_at}
use Rattle.std.proofs.lemmas.Nat.{from_be_bytes-to_be_bytes_8}
use Rattle.std.proofs.lemmas.Option.{same_Some, slice_get-map, slice_get_within, get_or_from_slice_get}
use Rattle.sha2.specs.Sha256.{sha256}
use Rattle.tree_model.specs.Path.{fold_bytes}
use Rattle.tree_model.specs.Extension.{fold_proof_bytes}
use Rattle.tree_model.specs.Tree as tree
use Rattle.ledger_bytes.specs.Digests.{digest}
use Rattle.journal_record.specs.Entry.{Entry}
use Rattle.time_peg.specs.Entries.{NeverFalls, entry_of, time_in}
use Rattle.proof_codec.specs.Claims.{lower_mark, mark_of}
use Rattle.proof_codec.specs.Proofs.{ShownLower, ShownUpper, HasLower, HasUpper}
use Rattle.ledger_model.specs.Anchors.{peg_at}
use Rattle.ledger_model.specs.Bounds.{has_bound, IsKeptTime, lower_journal, upper_journal}
use Rattle.ledger_model.specs.History as model
use Rattle.ledger_model.specs.History.{History, journals, leaf_digest}
use Rattle.ledger_model.specs.Lawful.{AreLawful}
use Rattle.ledger_model.specs.Pegs.{Pegged}
use Rattle.ledger_model.specs.Proofs.{shown_of, shown_between, lower_shown, upper_shown, path_in, extension_in, entry_path}
use Rattle.ledger_model.proofs.BoundLaws.{nearest_lower, nearest_upper}
use Rattle.ledger_book.specs.Books.{leaf_digests}
use Rattle.script_lines.specs.declared.said.Which.TheVariants.{Notary}
use Rattle.audit_core.specs.Acceptance.{IsAccepted}
use Rattle.audit_core.specs.Bounds.{IsNoted, IsLowerBound, IsUpperBound}
use Rattle.audit_core.specs.Trust.{Trust, root_of}
use Rattle.proof_maker.specs.Making.{IsMade, TrustsHead, TrustsList}
use Rattle.proof_maker.specs.Parts.{path_bytes}
use Rattle.proof_maker.specs.declared.made.Made.{Made}
use Rattle.proof_maker.proofs.FoldLaws.{leaf_leads, extension_leads, leaves_wide}
use Rattle.proof_maker.proofs.HeaderLaws.{not_first}
use Rattle.proof_maker.proofs.PartLaws.{kept_before, kept_behind}
use Rattle.proof_maker.proofs.TreeLaws.{root_told, whole_root, all_wide}

-- ---- times of a list

time_of : (time : ℕ) (peg salt : List ℕ) → time < 2 ^ 64 → time_in (entry_of time peg salt) ≡ time
unfolding time_in
time_of time peg salt fits = ap (from_be_bytes w64) (take_at (to_be_bytes w64 time) (peg ++ salt) 8 refl) ∙ from_be_bytes-to_be_bytes_8 time fits

never_below : (least : ℕ) (es : List (List ℕ)) (j : ℕ) (e : List ℕ) → NeverFalls least es → slice_get es j ≡ Some e → least ≤ time_in e
never_below least [] j e falls is = absurd cc
never_below least (x ∷ es) zero e falls is = omega (arith, falls.0, ap time_in (same_Some x e is))
never_below least (x ∷ es) (suc j) e falls is = omega (arith, falls.0, never_below (time_in x) es j e falls.1 is)

in_order_at : (least : ℕ) (es : List (List ℕ)) (i j : ℕ) (d e : List ℕ) → NeverFalls least es → i < j → slice_get es i ≡ Some d → slice_get es j ≡ Some e → time_in d ≤ time_in e
in_order_at least [] i j d e falls less is also = absurd cc
in_order_at least (x ∷ es) zero zero d e falls less is also = absurd (omega (arith, less))
in_order_at least (x ∷ es) zero (suc j) d e falls less is also = omega (arith, ap time_in (same_Some x d is), never_below (time_in x) es j e falls.1 also)
in_order_at least (x ∷ es) (suc i) zero d e falls less is also = absurd (omega (arith, less))
in_order_at least (x ∷ es) (suc i) (suc j) d e falls less is also = in_order_at (time_in x) es i j d e falls.1 (omega (arith, less)) is also

-- ---- what leads to the root over all journals

module _ (h : History) where
  long : length (leaf_digests h) ≡ model.size h
  long = length-map (journals h) leaf_digest

  leaf_at : (j : ℕ) (e : Entry) → slice_get (journals h) j ≡ Some e → get_or (leaf_digests h) j [] ≡ leaf_digest e
  leaf_at j e there = get_or_from_slice_get (leaf_digests h) j (leaf_digest e) [] (slice_get-map leaf_digest (journals h) j ∙ ap (option_map leaf_digest) there)

  journal_leads : (n : ℕ) → n < model.size h → fold_bytes sha256 (get_or (leaf_digests h) n []) n (model.size h) (path_in h n) ≡ Some (model.root h (model.size h))
  journal_leads n there =
      ap (λ s. fold_bytes sha256 (get_or (leaf_digests h) n []) n s (path_in h n)) (sym long) ∙ leaf_leads (leaf_digests h) n (omega (arith, long, there)) (all_wide h) ∙ ap Some (whole_root h)

  goes_on : (m : ℕ) → 0 < m → m ≤ model.size h → fold_proof_bytes sha256 m (model.root h m) (model.size h) (extension_in h m) ≡ Some (model.root h (model.size h))
  goes_on m some le =
      ap (λ r. fold_proof_bytes sha256 m r (model.size h) (extension_in h m)) (sym (root_told h m)) ∙ ap (λ s. fold_proof_bytes sha256 m (tree.root sha256 (take m (leaf_digests h))) s (extension_in h m)) (sym long)
      ∙ extension_leads (leaf_digests h) m some (omega (arith, long, le)) (all_wide h) ∙ ap Some (whole_root h)

-- ---- the bounds

module _ (h : History) (es : List (List ℕ)) (trust : Trust) (lawful : AreLawful (journals h)) (pegged : Pegged h es) where
  -- the entry of a time journal leads to the root over the list
  entry_noted : (e : Entry) → IsKeptTime h e → TrustsList trust es → IsNoted sha256 (record { id = digest (model.id h); root = digest (model.root h (model.size h)) }) (root_of Notary trust (length es)) (length es) (mark_of e.header) (digest (model.root h e.header.jsn)) e.header.link (entry_path es e.header.a)
  unfolding peg_at
  entry_noted e kept trusts =
      let j = e.header.jsn in
      let there = pegged.each j e kept.kept kept.place kept.time in
      let inside : e.header.a < length es = slice_get_within es e.header.a _ there in
      let leaves = map (tree.leaf sha256) es in
      let many : length leaves ≡ length es = length-map es (tree.leaf sha256) in
      let told : get_or leaves e.header.a [] ≡ tree.leaf sha256 (entry_of e.header.b (peg_at h j) e.header.link.0) =
      get_or_from_slice_get leaves e.header.a _ [] (slice_get-map (tree.leaf sha256) es e.header.a ∙ ap (option_map (tree.leaf sha256)) there) in
      let path : entry_path es e.header.a ≡ path_bytes leaves e.header.a = rw (lt-ltb e.header.a (length es) inside) refl in record {
        kept = digest (tree.mth sha256 es);
        trusted = trusts;
        leads =
            ap (λ (d : List ℕ). fold_bytes sha256 d e.header.a (length es) (entry_path es e.header.a)) (sym told) ∙ ap (fold_bytes sha256 (get_or leaves e.header.a []) e.header.a (length es)) path
            ∙ ap (λ s. fold_bytes sha256 (get_or leaves e.header.a []) e.header.a s (path_bytes leaves e.header.a)) (sym many) ∙ leaf_leads leaves e.header.a (omega (arith, inside, many)) (leaves_wide es);
      }

  there_at : (e : Entry) → IsKeptTime h e → e.header.jsn < model.size h
  there_at e kept = slice_get_within (journals h) e.header.jsn e kept.place

  some_at : (e : Entry) → IsKeptTime h e → 0 < e.header.jsn
  some_at e kept = not_first h e.header.jsn e lawful kept.place kept.time

  module _ (n : ℕ) where
    lower_is : (lo hi : Option Entry) → IfSome lo (λ e. IsKeptTime h e × (e.header.jsn < n)) → ((is_some lo || is_some hi) ≡ true → TrustsList trust es)
        → IfSome (option_map (lower_shown h) lo) (IsLowerBound sha256 (record { id = digest (model.id h); root = digest (model.root h (model.size h)) }) (root_of Notary trust (shown_between h es n lo hi).notary_size) (shown_between h es n lo hi))
    lower_is None hi kept trusts = tt
    lower_is (Some e) hi kept trusts = record {
      before = kept.1;
      stands = ap (λ (d : List ℕ). fold_bytes sha256 d e.header.jsn (model.size h) (path_in h e.header.jsn)) (sym (leaf_at h e.header.jsn e kept.0.place)) ∙ journal_leads h e.header.jsn (there_at e kept.0);
      extends = goes_on h e.header.jsn (some_at e kept.0) (omega (arith, there_at e kept.0));
      noted = entry_noted e kept.0 (trusts refl);
    }

    upper_is : (lo hi : Option Entry) → IfSome hi (λ e. IsKeptTime h e × (n < e.header.jsn)) → ((is_some lo || is_some hi) ≡ true → TrustsList trust es)
        → IfSome (option_map (upper_shown h) hi) (IsUpperBound sha256 (record { id = digest (model.id h); root = digest (model.root h (model.size h)) }) (root_of Notary trust (shown_between h es n lo hi).notary_size) (shown_between h es n lo hi))
    upper_is lo None kept trusts = tt
    upper_is None (Some e) kept trusts = record {
      after = kept.1;
      extends = goes_on h e.header.jsn (some_at e kept.0) (omega (arith, there_at e kept.0));
      noted = entry_noted e kept.0 (trusts refl);
    }
    upper_is (Some d) (Some e) kept trusts = record {
      after = kept.1;
      extends = goes_on h e.header.jsn (some_at e kept.0) (omega (arith, there_at e kept.0));
      noted = entry_noted e kept.0 (trusts refl);
    }

    -- the time in front isn't above the one behind
    times_are : (d e : Entry) → IsKeptTime h d → IsKeptTime h e → d.header.jsn < e.header.jsn → d.header.b < 2 ^ 64 → e.header.b < 2 ^ 64 → d.header.b ≤ e.header.b
    times_are d e front behind less fits also =
        let at = pegged.each d.header.jsn d front.kept front.place front.time in
        let then = pegged.each e.header.jsn e behind.kept behind.place behind.time in
        let rises = pegged.rises d.header.jsn e.header.jsn d e less front.kept front.place front.time behind.place behind.time in
        omega (arith, in_order_at 0 es d.header.a e.header.a _ _ pegged.list.times rises at then, time_of d.header.b (peg_at h d.header.jsn) d.header.link.0 fits, time_of e.header.b (peg_at h e.header.jsn) e.header.link.0 also)

    order_is : (lo hi : Option Entry) → IfSome lo (λ e. IsKeptTime h e × (e.header.jsn < n)) → IfSome hi (λ e. IsKeptTime h e × (n < e.header.jsn)) → IfSome (option_map (lower_shown h) lo) HasLower → IfSome (option_map (upper_shown h) hi) HasUpper
        → (l : ShownLower) (u : ShownUpper) → option_map (lower_shown h) lo ≡ Some l → option_map (upper_shown h) hi ≡ Some u → (lower_mark l).time ≤ u.mark.time
    order_is None hi front behind low high l u is also = absurd cc
    order_is (Some d) None front behind low high l u is also = absurd cc
    order_is (Some d) (Some e) front behind low high l u is also =
        omega (
          arith,
          times_are d e front.0 behind.0 (omega (arith, front.1, behind.1)) low.header.widths.b high.mark.time,
          ap (λ (x : ShownLower). (lower_mark x).time) (same_Some (lower_shown h d) l is),
          ap (λ (x : ShownUpper). x.mark.time) (same_Some (upper_shown h e) u also),
        )

    accepted_between : (lo hi : Option Entry) (made : Made) → IfSome lo (λ e. IsKeptTime h e × (e.header.jsn < n)) → IfSome hi (λ e. IsKeptTime h e × (n < e.header.jsn)) → n < model.size h → TrustsHead trust h
        → ((is_some lo || is_some hi) ≡ true → TrustsList trust es) → IsMade (shown_between h es n lo hi) made → IsAccepted sha256 made.proof made.claim trust
    accepted_between lo hi made front behind there head list is = record {
      proof = shown_between h es n lo hi;
      is_proof = is.is_proof;
      text = is.proof_is;
      claimed = sym is.claim_is;
      ledger = record { id = digest (model.id h); root = digest (model.root h (model.size h)) };
      trusted = head;
      leads = journal_leads h n there;
      lower = lower_is lo hi front list;
      upper = upper_is lo hi behind list;
      order = order_is lo hi front behind is.is_proof.fields.lower is.is_proof.fields.upper;
    }

    pub made_accepted : (made : Made) → n < model.size h → TrustsHead trust h → (has_bound h n ≡ true → TrustsList trust es) → IsMade (shown_of h es n) made → IsAccepted sha256 made.proof made.claim trust
    unfolding shown_of
    made_accepted made = accepted_between (lower_journal h n) (upper_journal h n) made (kept_before h n (lower_journal h n) (nearest_lower h lawful n)) (kept_behind h n (upper_journal h n) (nearest_upper h lawful n))
