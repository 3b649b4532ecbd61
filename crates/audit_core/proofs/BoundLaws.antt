-- The tests of a proof's bounds hold exactly where the bounds are what they should be.
use Rattle.std.proofs.Common.{◌≡◌, ℕ, ◌≤◌, true, false, ◌&&◌, ltb, List, Option, Some, None, refl, ap, ◌∙◌, arith}
use Rattle.std.specs.Prelude.{IfSome}
use Rattle.std.proofs.lemmas.Bool.{and_from, and_parts, ltb-true, lt-ltb, leb-true, le-leb}
use Rattle.ledger_bytes.specs.declared.digest.Digest.{Digest}
use Rattle.journal_record.specs.Header as headers
use Rattle.tree_model.specs.Tree.{Hash, leaf}
use Rattle.tree_model.specs.Path.{fold_bytes}
use Rattle.tree_model.specs.Extension.{fold_proof_bytes}
use Rattle.ledger_bytes.specs.declared.mark.TimeMark.{TimeMark}
use Rattle.proof_codec.specs.Proofs.{ShownLower, ShownUpper, Shown, is_bounded}
use Rattle.proof_codec.specs.Claims.{lower_mark}
use Rattle.audit_core.specs.declared.known.KnownLedger.{KnownLedger}
use Rattle.audit_core.specs.Leading.{is_root}
use Rattle.audit_core.specs.Bounds.{lower_leads, upper_leads, noted_entry, is_noted, lower_noted, upper_noted, in_order, IsNoted, IsLowerBound, IsUpperBound}
use Rattle.audit_core.specs.Acceptance.{is_unnoted}
use Rattle.audit_core.proofs.RootLaws.{is_root_means, is_root_of}

module _ (hash : Hash) (ledger : KnownLedger) where
  -- ---- an entry of the notary

  noted_means : (notary : Option Digest) (size : ℕ) (mark : TimeMark) (root salt : Digest) (path : List ℕ)
      → is_noted hash ledger notary size mark root salt path ≡ true → IsNoted hash ledger notary size mark root salt path
  noted_means None size mark root salt path e = absurd cc
  noted_means (Some kept) size mark root salt path e = record {
    kept = kept;
    trusted = refl;
    leads = is_root_means kept (fold_bytes hash (leaf hash (noted_entry hash ledger.id mark root.0 salt)) mark.index size path) e;
  }

  noted_of : (notary : Option Digest) (size : ℕ) (mark : TimeMark) (root salt : Digest) (path : List ℕ)
      → IsNoted hash ledger notary size mark root salt path → is_noted hash ledger notary size mark root salt path ≡ true
  noted_of notary size mark root salt path it =
      ap (λ n. is_noted hash ledger n size mark root salt path) it.trusted
      ∙ is_root_of it.kept (fold_bytes hash (leaf hash (noted_entry hash ledger.id mark root.0 salt)) mark.index size path) it.leads

  module _ (notary : Option Digest) (p : Shown) where
    -- ---- the lower bound

    pub lower_means : (lo : Option ShownLower) → lower_leads hash ledger p lo ≡ true → lower_noted hash ledger notary p lo ≡ true
        → IfSome lo (IsLowerBound hash ledger notary p)
    lower_means None e noted = tt
    lower_means (Some l) e noted =
        let path : Option (List ℕ) = fold_bytes hash (leaf hash (headers.spelling l.header)) (lower_mark l).jsn p.size l.path in
        let ext : Option (List ℕ) = fold_proof_bytes hash (lower_mark l).jsn l.root.0 p.size l.ext in
        let all = and_parts (ltb (lower_mark l).jsn p.n && is_root ledger.root path) (is_root ledger.root ext) e in
        let front = and_parts (ltb (lower_mark l).jsn p.n) (is_root ledger.root path) all.0 in
        record {
          before = ltb-true _ _ front.0;
          stands = is_root_means ledger.root path front.1;
          extends = is_root_means ledger.root ext all.1;
          noted = noted_means notary p.notary_size (lower_mark l) l.root l.header.link p.lo_path noted;
        }

    pub lower_leads_of : (lo : Option ShownLower) → IfSome lo (IsLowerBound hash ledger notary p) → lower_leads hash ledger p lo ≡ true
    lower_leads_of None it = refl
    lower_leads_of (Some l) it =
        let path : Option (List ℕ) = fold_bytes hash (leaf hash (headers.spelling l.header)) (lower_mark l).jsn p.size l.path in
        let ext : Option (List ℕ) = fold_proof_bytes hash (lower_mark l).jsn l.root.0 p.size l.ext in
        and_from (ltb (lower_mark l).jsn p.n && is_root ledger.root path) (is_root ledger.root ext)
        (and_from (ltb (lower_mark l).jsn p.n) (is_root ledger.root path) (lt-ltb _ _ it.before) (is_root_of ledger.root path it.stands))
        (is_root_of ledger.root ext it.extends)

    pub lower_noted_of : (lo : Option ShownLower) → IfSome lo (IsLowerBound hash ledger notary p) → lower_noted hash ledger notary p lo ≡ true
    lower_noted_of None it = refl
    lower_noted_of (Some l) it = noted_of notary p.notary_size (lower_mark l) l.root l.header.link p.lo_path it.noted

    -- ---- the upper bound

    pub upper_means : (hi : Option ShownUpper) → upper_leads hash ledger p hi ≡ true → upper_noted hash ledger notary p hi ≡ true
        → IfSome hi (IsUpperBound hash ledger notary p)
    upper_means None e noted = tt
    upper_means (Some u) e noted =
        let ext : Option (List ℕ) = fold_proof_bytes hash u.mark.jsn u.root.0 p.size u.ext in
        let all = and_parts (ltb p.n u.mark.jsn) (is_root ledger.root ext) e in
        record {
          after = ltb-true _ _ all.0;
          extends = is_root_means ledger.root ext all.1;
          noted = noted_means notary p.notary_size u.mark u.root u.salt p.hi_path noted;
        }

    pub upper_leads_of : (hi : Option ShownUpper) → IfSome hi (IsUpperBound hash ledger notary p) → upper_leads hash ledger p hi ≡ true
    upper_leads_of None it = refl
    upper_leads_of (Some u) it =
        let ext : Option (List ℕ) = fold_proof_bytes hash u.mark.jsn u.root.0 p.size u.ext in
        and_from (ltb p.n u.mark.jsn) (is_root ledger.root ext) (lt-ltb _ _ it.after) (is_root_of ledger.root ext it.extends)

    pub upper_noted_of : (hi : Option ShownUpper) → IfSome hi (IsUpperBound hash ledger notary p) → upper_noted hash ledger notary p hi ≡ true
    upper_noted_of None it = refl
    upper_noted_of (Some u) it = noted_of notary p.notary_size u.mark u.root u.salt p.hi_path it.noted

  -- ---- a head of the notary is there for them

  -- without one there is no bound
  unbounded : (p : Shown) (lo : Option ShownLower) (hi : Option ShownUpper) → IfSome lo (IsLowerBound hash ledger None p) → IfSome hi (IsUpperBound hash ledger None p)
      → is_bounded lo hi ≡ false
  unbounded p None None low high = refl
  unbounded p (Some l) hi low high = absurd (let none : None ≡ Some low.noted.kept = low.noted.trusted in cc)
  unbounded p None (Some u) low high = absurd (let none : None ≡ Some high.noted.kept = high.noted.trusted in cc)

  pub noted_for : (p : Shown) (notary : Option Digest) → IfSome p.lo (IsLowerBound hash ledger notary p) → IfSome p.hi (IsUpperBound hash ledger notary p)
      → is_unnoted p notary ≡ false
  noted_for p None low high = unbounded p p.lo p.hi low high
  noted_for p (Some notary) low high = refl

-- ---- the times

-- what is there is one
some_same : {A : Type 0} (x y : A) → Some x ≡ Some y → x ≡ y
some_same x y e = cc

pub order_means : (lo : Option ShownLower) (hi : Option ShownUpper) → in_order lo hi ≡ true
    → (l : ShownLower) (u : ShownUpper) → lo ≡ Some l → hi ≡ Some u → (lower_mark l).time ≤ u.mark.time
order_means None hi e l u low high = absurd cc
order_means (Some k) None e l u low high = absurd cc
order_means (Some k) (Some v) e l u low high =
    let first : (lower_mark k).time ≡ (lower_mark l).time = ap (λ (x : ShownLower). (lower_mark x).time) (some_same k l low) in
    let second : v.mark.time ≡ u.mark.time = ap (λ (x : ShownUpper). x.mark.time) (some_same v u high) in
    omega (arith, leb-true _ _ e)

pub order_of : (lo : Option ShownLower) (hi : Option ShownUpper)
    → ((l : ShownLower) (u : ShownUpper) → lo ≡ Some l → hi ≡ Some u → (lower_mark l).time ≤ u.mark.time) → in_order lo hi ≡ true
order_of None hi le = refl
order_of (Some l) None le = refl
order_of (Some l) (Some u) le = le-leb _ _ (le l u refl refl)
