-- What leads to the roots of lists is true of them, or shows two strings with one digest.
use Rattle.std.proofs.Common.{◌≡◌, ◌⊎◌, inl, ℕ, ◌<◌, Bool, true, false, ◌||◌, List, [], ◌∷◌, ◌++◌, length, get_or, take, Option, Some, None, refl, sym, ap, ◌∙◌, subst, append-nil}
use Rattle.std.specs.Prelude.{is_some, IfSome, option_map}
use Rattle.ledger_bytes.specs.declared.digest.Digest.{Digest}
use Rattle.ledger_bytes.specs.declared.mark.TimeMark.{TimeMark}
use Rattle.journal_record.specs.Header as journals
use Rattle.proof_codec.specs.Proofs.{ShownLower, ShownUpper, Shown, IsTimeHeader, is_bounded, HasLower, IsProof}
use Rattle.proof_codec.specs.Claims.{lower_mark, upper_mark, claim_of}
use Rattle.tree_model.specs.Tree.{Hash, leaf, mth}
use Rattle.tree_model.specs.Path.{fold_bytes}
use Rattle.tree_model.specs.Extension.{fold_proof_bytes}
use Rattle.tree_model.specs.Clash.{Clashes}
use Rattle.tree_model.proofs.ProofFolds.{fold_proof_bytes_parts}
use Rattle.tree_model.proofs.PathClashes.{Makes}
use Rattle.audit_core.specs.declared.known.KnownLedger.{KnownLedger}
use Rattle.audit_core.specs.Bounds.{noted_entry, IsNoted, IsLowerBound, IsUpperBound}
use Rattle.audit_core.specs.Truth.{Lists, IsLowerOf, IsUpperOf, IsTrueOf}
use Rattle.audit_core.specs.Parts.{Part, first_of_parts, extension_part, lower_parts, upper_parts, lower_entry_parts, upper_entry_parts, parts_of, PathGives, ExtensionGives, LowerGives, UpperGives, EntryGives, LowerEntryGives, UpperEntryGives, ShownGives}
use Rattle.audit_core.proofs.PartLaws.{Leads, path_within, path_leads_on, placed_leads_on, extension_leads_on}

-- where the bounds of a proof stand, and that the one in front is a time journal
pub record InOrder (p : Shown) : Type 0 where
  pub before : IfSome p.lo (λ l. (lower_mark l).jsn < p.n)
  pub after : IfSome p.hi (λ u. p.n < u.mark.jsn)
  pub time : IfSome p.lo (λ l. IsTimeHeader l.header)

module _ (hash : Hash) (makes : Makes hash) (lists : Lists) (p : Shown) where
  -- what the ledger's parts of a bound say
  LowerSeen : Option ShownLower → Type 0
  LowerSeen None = Unit {0}
  LowerSeen (Some l) = (journals.spelling l.header ≡ get_or lists.headers (lower_mark l).jsn []) × (l.root.0 ≡ mth hash (take (lower_mark l).jsn lists.headers))

  UpperSeen : Option ShownUpper → Type 0
  UpperSeen None = Unit {0}
  UpperSeen (Some u) = u.root.0 ≡ mth hash (take u.mark.jsn lists.headers)

  -- what all parts of a bound say
  abbrev LowerHas : Option ShownLower → Type 0
  LowerHas lo = IfSome (option_map lower_mark lo) (IsLowerOf hash lists p.n)

  abbrev UpperHas : Option ShownUpper → Type 0
  UpperHas hi = IfSome (option_map upper_mark hi) (IsUpperOf hash lists p.n)

  lower_leads_on : (lo : Option ShownLower) → IfSome lo (LowerGives hash lists.headers) → Leads hash makes lists.headers (LowerSeen lo) (lower_parts hash lists.headers lo)
  unfolding LowerSeen
  lower_leads_on None gives goal rest on = on tt
  lower_leads_on (Some l) gives goal rest on =
      placed_leads_on hash makes lists.headers (journals.spelling l.header) (lower_mark l).jsn l.path gives.stands goal (extension_part hash lists.headers (lower_mark l).jsn l.root.0 l.ext ∷ rest)
      (λ header_is. extension_leads_on hash makes lists.headers (lower_mark l).jsn l.root.0 l.ext gives.extends goal rest (λ root_is. on (header_is, root_is)))

  upper_leads_on : (hi : Option ShownUpper) → IfSome hi (UpperGives hash lists.headers) → Leads hash makes lists.headers (UpperSeen hi) (upper_parts hash lists.headers hi)
  unfolding UpperSeen
  upper_leads_on None gives goal rest on = on tt
  upper_leads_on (Some u) gives goal rest on = extension_leads_on hash makes lists.headers u.mark.jsn u.root.0 u.ext gives goal rest on

  lower_entry_leads_on : (lo : Option ShownLower) → IfSome lo (LowerGives hash lists.headers) → IfSome lo (LowerEntryGives hash lists.id lists.entries p.lo_path) → IfSome lo (λ l. (lower_mark l).jsn < p.n)
      → IfSome lo (λ l. IsTimeHeader l.header) → LowerSeen lo → Leads hash makes lists.entries (LowerHas lo) (lower_entry_parts hash lists.id lists.entries lo p.lo_path)
  unfolding LowerSeen
  lower_entry_leads_on None gives entry before time seen goal rest on = on tt
  lower_entry_leads_on (Some l) gives entry before time seen goal rest on =
      let told : List ℕ = noted_entry hash lists.id (lower_mark l) l.root.0 l.header.link in
      placed_leads_on hash makes lists.entries told (lower_mark l).index p.lo_path entry goal rest
      (λ entry_is. on (record {
        before = before;
        header = l.header;
        is_time = time;
        stands = sym seen.0;
        index = refl;
        time = refl;
        noted = record {
          within = (fold_proof_bytes_parts hash (lower_mark l).jsn l.root.0 (length lists.headers) l.ext (ap is_some gives.extends)).1;
          noted = path_within hash makes lists.entries (leaf hash told) (lower_mark l).index p.lo_path entry;
          entry = sym entry_is ∙ ap (λ r. noted_entry hash lists.id (lower_mark l) r l.header.link) seen.1;
        };
      }))

  upper_entry_leads_on : (hi : Option ShownUpper) → IfSome hi (UpperGives hash lists.headers) → IfSome hi (UpperEntryGives hash lists.id lists.entries p.hi_path) → IfSome hi (λ u. p.n < u.mark.jsn)
      → UpperSeen hi → Leads hash makes lists.entries (UpperHas hi) (upper_entry_parts hash lists.id lists.entries hi p.hi_path)
  unfolding UpperSeen
  upper_entry_leads_on None gives entry after seen goal rest on = on tt
  upper_entry_leads_on (Some u) gives entry after seen goal rest on =
      let told : List ℕ = noted_entry hash lists.id u.mark u.root.0 u.salt in
      placed_leads_on hash makes lists.entries told u.mark.index p.hi_path entry goal rest
      (λ entry_is. on (record {
        after = after;
        salt = u.salt;
        noted = record {
          within = (fold_proof_bytes_parts hash u.mark.jsn u.root.0 (length lists.headers) u.ext (ap is_some gives)).1;
          noted = path_within hash makes lists.entries (leaf hash told) u.mark.index p.hi_path entry;
          entry = sym entry_is ∙ ap (λ r. noted_entry hash lists.id u.mark r u.salt) seen;
        };
      }))

  module _ (gives : ShownGives hash lists p) (order : InOrder p) where
    -- all parts, one after the other
    pub shown_true : IsTrueOf hash lists (claim_of p) ⊎ Clashes hash (first_of_parts (parts_of hash lists p))
    shown_true =
        let goal : Type 0 = IsTrueOf hash lists (claim_of p) in
        let high_entry : List Part = upper_entry_parts hash lists.id lists.entries p.hi p.hi_path in
        let low_entry : List Part = lower_entry_parts hash lists.id lists.entries p.lo p.lo_path in
        let high : List Part = upper_parts hash lists.headers p.hi in
        let low : List Part = lower_parts hash lists.headers p.lo in
        path_leads_on hash makes lists.headers p.leaf.0 p.n p.path gives.journal goal (low ++ (high ++ (low_entry ++ high_entry)))
        (λ leaf_is. lower_leads_on p.lo gives.lower goal (high ++ (low_entry ++ high_entry))
        (λ low_seen. upper_leads_on p.hi gives.upper goal (low_entry ++ high_entry)
        (λ high_seen. lower_entry_leads_on p.lo gives.lower gives.lower_entry order.before order.time low_seen goal high_entry
        (λ low_has. subst (λ (parts : List Part). goal ⊎ Clashes hash (first_of_parts parts)) (append-nil high_entry)
        (upper_entry_leads_on p.hi gives.upper gives.upper_entry order.after high_seen goal []
        (λ high_has. inl (record {
          journal = record { within = path_within hash makes lists.headers p.leaf.0 p.n p.path gives.journal; leaf_is = sym leaf_is };
          lower = low_has;
          upper = high_has;
        })))))))

-- of two tests one holds
some_left : (a b : Bool) → a ≡ true → (a || b) ≡ true
some_left true b e = refl
some_left false b e = absurd cc

some_right : (a b : Bool) → b ≡ true → (a || b) ≡ true
some_right true b e = refl
some_right false b e = e

-- ---- what is accepted leads to the roots of the lists under the heads

module _ (hash : Hash) (lists : Lists) (p : Shown) (ledger : KnownLedger) (notary : Option Digest) (size_is : p.size ≡ length lists.headers) (root_is : mth hash lists.headers ≡ ledger.root.0) (id_is : ledger.id ≡ lists.id) where
  -- the head that is known of the notary is that of its list
  abbrev pub Notes : Type 0
  Notes = (root : Digest) → notary ≡ Some root → (p.notary_size ≡ length lists.entries) × (mth hash lists.entries ≡ root.0)

  path_by : (digest : List ℕ) (n : ℕ) (path : List ℕ) → fold_bytes hash digest n p.size path ≡ Some ledger.root.0 → PathGives hash lists.headers digest n path
  path_by digest n path folds = ap (λ size. fold_bytes hash digest n size path) (sym size_is) ∙ folds ∙ ap Some (sym root_is)

  extension_by : (m : ℕ) (old digests : List ℕ) → fold_proof_bytes hash m old p.size digests ≡ Some ledger.root.0 → ExtensionGives hash lists.headers m old digests
  extension_by m old digests folds = ap (λ size. fold_proof_bytes hash m old size digests) (sym size_is) ∙ folds ∙ ap Some (sym root_is)

  entry_by : Notes → (mark : TimeMark) (root salt : Digest) (path : List ℕ) → IsNoted hash ledger notary p.notary_size mark root salt path → EntryGives hash lists.id lists.entries mark root salt path
  entry_by noted mark root salt path it =
      let own = noted it.kept it.trusted in
      ap (λ id. fold_bytes hash (leaf hash (noted_entry hash id mark root.0 salt)) mark.index (length lists.entries) path) (sym id_is)
      ∙ ap (λ size. fold_bytes hash (leaf hash (noted_entry hash ledger.id mark root.0 salt)) mark.index size path) (sym own.0) ∙ it.leads ∙ ap Some (sym own.1)

  lower_by : (lo : Option ShownLower) → IfSome lo (IsLowerBound hash ledger notary p) → IfSome lo (LowerGives hash lists.headers)
  lower_by None it = tt
  lower_by (Some l) it = record {
    stands = path_by (leaf hash (journals.spelling l.header)) (lower_mark l).jsn l.path it.stands;
    extends = extension_by (lower_mark l).jsn l.root.0 l.ext it.extends;
  }

  upper_by : (hi : Option ShownUpper) → IfSome hi (IsUpperBound hash ledger notary p) → IfSome hi (UpperGives hash lists.headers)
  upper_by None it = tt
  upper_by (Some u) it = extension_by u.mark.jsn u.root.0 u.ext it.extends

  lower_entry_by : (lo : Option ShownLower) → (is_some lo ≡ true → Notes) → IfSome lo (IsLowerBound hash ledger notary p) → IfSome lo (LowerEntryGives hash lists.id lists.entries p.lo_path)
  lower_entry_by None noted it = tt
  lower_entry_by (Some l) noted it = entry_by (noted refl) (lower_mark l) l.root l.header.link p.lo_path it.noted

  upper_entry_by : (hi : Option ShownUpper) → (is_some hi ≡ true → Notes) → IfSome hi (IsUpperBound hash ledger notary p) → IfSome hi (UpperEntryGives hash lists.id lists.entries p.hi_path)
  upper_entry_by None noted it = tt
  upper_entry_by (Some u) noted it = entry_by (noted refl) u.mark u.root u.salt p.hi_path it.noted

  pub gives_by : (is_bounded p.lo p.hi ≡ true → Notes) → fold_bytes hash p.leaf.0 p.n p.size p.path ≡ Some ledger.root.0 → IfSome p.lo (IsLowerBound hash ledger notary p) → IfSome p.hi (IsUpperBound hash ledger notary p) → ShownGives hash lists p
  gives_by noted leads low high = record {
    journal = path_by p.leaf.0 p.n p.path leads;
    lower = lower_by p.lo low;
    upper = upper_by p.hi high;
    lower_entry = lower_entry_by p.lo (λ some. noted (some_left (is_some p.lo) (is_some p.hi) some)) low;
    upper_entry = upper_entry_by p.hi (λ some. noted (some_right (is_some p.lo) (is_some p.hi) some)) high;
  }

-- ---- the order of its bounds

module _ (hash : Hash) (p : Shown) (ledger : KnownLedger) (notary : Option Digest) where
  before_by : (lo : Option ShownLower) → IfSome lo (IsLowerBound hash ledger notary p) → IfSome lo (λ l. (lower_mark l).jsn < p.n)
  before_by None it = tt
  before_by (Some l) it = it.before

  after_by : (hi : Option ShownUpper) → IfSome hi (IsUpperBound hash ledger notary p) → IfSome hi (λ u. p.n < u.mark.jsn)
  after_by None it = tt
  after_by (Some u) it = it.after

  time_by : (lo : Option ShownLower) → IfSome lo HasLower → IfSome lo (λ l. IsTimeHeader l.header)
  time_by None it = tt
  time_by (Some l) it = it.header

  pub order_by : IsProof p → IfSome p.lo (IsLowerBound hash ledger notary p) → IfSome p.hi (IsUpperBound hash ledger notary p) → InOrder p
  order_by is_proof low high = record { before = before_by p.lo low; after = after_by p.hi high; time = time_by p.lo is_proof.fields.lower }
