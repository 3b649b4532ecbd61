-- What is accepted is true of the lists that extensions lead to, or shows two strings with one digest; and where the notary
-- is honest its bounds are moments.
use Rattle.std.proofs.Common.{◌≡◌, ◌⊎◌, inl, inr, ℕ, ◌<◌, ◌≤◌, Bool, true, false, List, [], ◌++◌, length, get_or, take, Option, Some, None, Ok, refl, sym, ap, ◌∙◌, subst, arith, length-take, take-take}
use Rattle.std.specs.Prelude.{IfSome, option_map, option_and_then}
use Rattle.std.proofs.lemmas.List.{get_or-take}
use Rattle.ledger_bytes.specs.declared.digest.Digest.{Digest}
use Rattle.ledger_bytes.specs.declared.mark.TimeMark.{TimeMark}
use Rattle.ledger_bytes.specs.Fields.{IsBytes}
use Rattle.script_lines.specs.declared.said.Which.TheVariants.{Ledger, Notary}
use Rattle.proof_codec.specs.declared.claim.Claim.{Claim}
use Rattle.proof_codec.specs.Proofs.{Shown, IsProof, is_bounded}
use Rattle.proof_codec.specs.Claims.{claim_of}
use Rattle.proof_codec.specs.Reading.{proof_of}
use Rattle.proof_codec.proofs.Wholes.{proof_of_takes}
use Rattle.time_peg.specs.Entries.{peg_string, entry_of}
use Rattle.tree_model.specs.Tree.{Hash, leaf, mth}
use Rattle.tree_model.specs.Clash.{Clashes}
use Rattle.tree_model.proofs.PathClashes.{Makes}
use Rattle.audit_core.specs.declared.known.KnownLedger.{KnownLedger}
use Rattle.audit_core.specs.Acceptance.{acceptance_of, acceptance_by, acceptance}
use Rattle.audit_core.specs.Bounds.{IsLowerBound, IsUpperBound}
use Rattle.audit_core.specs.Trust.{Trust, root_of, ledger_at}
use Rattle.audit_core.specs.Truth.{Lists, HasEntry, IsLowerOf, IsUpperOf, IsTrueOf}
use Rattle.audit_core.specs.Parts.{Part, first_of_parts, parts_of, ShownGives}
use Rattle.audit_core.specs.Judgement.{clash_of}
use Rattle.audit_core.specs.Chains.{BeginsWith, Extension, LeadsTo, IsReached, AreReached, named_by, chain_if, reached_clash}
use Rattle.audit_core.specs.Honest.{IsHonest, AreMoments}
use Rattle.audit_core.proofs.RootLaws.{is_root_means}
use Rattle.audit_core.proofs.ClaimLaws.{same_claim_means}
use Rattle.audit_core.proofs.BoundLaws.{lower_means, upper_means}
use Rattle.audit_core.proofs.Accepting.{Rests, under_found}
use Rattle.audit_core.proofs.PartLaws.{Leads}
use Rattle.audit_core.proofs.Bounding.{InOrder, shown_true, gives_by, order_by}
use Rattle.audit_core.proofs.Truths.{root_found, same_root, shown_of, chain_leads_on}

-- ---- claims stay true

module _ (hash : Hash) (p : Shown) (lists : Lists) where
  abbrev first : Lists
  first = named_by p lists

  entry_grows : (mark : TimeMark) (salt : Digest) → HasEntry hash first mark salt → HasEntry hash lists mark salt
  entry_grows mark salt it =
      let before : mark.jsn ≤ p.size = omega (arith, it.within, length-take p.size lists.headers) in
      let place : mark.index < p.notary_size = omega (arith, it.noted, length-take p.notary_size lists.entries) in
      record {
        within = omega (arith, it.within, length-take p.size lists.headers);
        noted = omega (arith, it.noted, length-take p.notary_size lists.entries);
        entry = sym (get_or-take p.notary_size lists.entries mark.index [] place) ∙ it.entry
            ∙ ap (λ (hs : List (List ℕ)). entry_of mark.time (hash (peg_string lists.id.0 mark.jsn (mth hash hs))) salt.0) (take-take mark.jsn p.size lists.headers before);
      }

  lower_grows : (n : ℕ) → n < p.size → (lo : Option TimeMark) → IfSome lo (IsLowerOf hash first n) → IfSome lo (IsLowerOf hash lists n)
  lower_grows n within None it = tt
  lower_grows n within (Some mark) it = record {
    before = it.before;
    header = it.header;
    is_time = it.is_time;
    stands = sym (get_or-take p.size lists.headers mark.jsn [] (omega (arith, it.before, within))) ∙ it.stands;
    index = it.index;
    time = it.time;
    noted = entry_grows mark it.header.link it.noted;
  }

  upper_grows : (n : ℕ) (hi : Option TimeMark) → IfSome hi (IsUpperOf hash first n) → IfSome hi (IsUpperOf hash lists n)
  upper_grows n None it = tt
  upper_grows n (Some mark) it = record { after = it.after; salt = it.salt; noted = entry_grows mark it.salt it.noted }

  pub claim_grows : (claim : Claim) → IsTrueOf hash first claim → IsTrueOf hash lists claim
  claim_grows claim it =
      let within : claim.n < p.size = omega (arith, it.journal.within, length-take p.size lists.headers) in
      record {
        journal = record {
          within = omega (arith, it.journal.within, length-take p.size lists.headers);
          leaf_is = ap (leaf hash) (sym (get_or-take p.size lists.headers claim.n [] within)) ∙ it.journal.leaf_is;
        };
        lower = lower_grows claim.n within claim.lo it.lower;
        upper = upper_grows claim.n claim.hi it.upper;
      }

-- ---- what was accepted

-- the id of what is known of a ledger is the trusted one
id_found : (id root : Option Digest) (ledger : KnownLedger) → option_and_then (λ i. option_map (λ r. record { id = i; root = r }) root) id ≡ Some ledger → id ≡ Some ledger.id
id_found None root ledger e = absurd cc
id_found (Some i) None ledger e = absurd cc
id_found (Some i) (Some r) ledger e =
    let made_of : KnownLedger = record { id = i; root = r } in
    let same : made_of ≡ ledger = cc in
    ap (λ (l : KnownLedger). Some l.id) same

same_digest : (a b : Digest) → Some a ≡ Some b → a ≡ b
same_digest a b e = cc

module _ (hash : Hash) (makes : Makes hash) (bytes : List ℕ) (claim : Claim) (trust : Trust) (lists : Lists) (p : Shown) (ledger notary : List Extension)
    (fits : IsBytes bytes) (said : acceptance hash bytes claim trust ≡ Ok tt) (read : proof_of bytes ≡ Ok p) (reached : AreReached hash trust p ledger notary lists) where
  abbrev known : Option KnownLedger
  known = ledger_at trust p.size

  abbrev noted : Option Digest
  noted = root_of Notary trust p.notary_size

  rests : Rests hash claim p known noted
  unfolding acceptance_by
  rests = under_found hash claim p known noted (ap (acceptance_of hash claim (ledger_at trust) (root_of Notary trust)) (sym read) ∙ said)

  claimed : claim_of p ≡ claim
  claimed = same_claim_means (claim_of p) claim rests.passing.claimed

  low : IfSome p.lo (IsLowerBound hash rests.ledger noted p)
  low = lower_means hash rests.ledger noted p p.lo rests.passing.lower rests.passing.lower_note

  high : IfSome p.hi (IsUpperBound hash rests.ledger noted p)
  high = upper_means hash rests.ledger noted p p.hi rests.passing.upper rests.passing.upper_note

  -- the ledger is the one with this id, and the root is the one that was extended
  id_is : rests.ledger.id ≡ lists.id
  id_is = same_digest rests.ledger.id lists.id (sym (id_found trust.id (root_of Ledger trust p.size) rests.ledger rests.trusted) ∙ reached.id)

  root_is : reached.headers.root.0 ≡ rests.ledger.root.0
  root_is = same_root reached.headers.root rests.ledger.root (sym reached.headers.trusted ∙ root_found trust.id (root_of Ledger trust p.size) rests.ledger rests.trusted)

  -- the notary's list begins with what was trusted
  NotaryStarts : Type 0
  NotaryStarts = (root : Digest) → noted ≡ Some root → BeginsWith hash lists.entries p.notary_size root.0

  notary_leads_on : (b : Bool) → (b ≡ true → IsReached hash (root_of Notary trust) p.notary_size notary lists.entries)
      → Leads hash makes lists.entries (b ≡ true → NotaryStarts) (chain_if b hash lists.entries notary)
  unfolding NotaryStarts
  notary_leads_on false it goal rest on = on (λ e. absurd cc)
  notary_leads_on true it goal rest on =
      let there = it refl in
      chain_leads_on hash makes p.notary_size there.root.0 notary (length lists.entries) (mth hash lists.entries) lists.entries there.leads refl refl goal rest
      (λ starts. on (λ e root is. subst (BeginsWith hash lists.entries p.notary_size) (same_root there.root root (sym there.trusted ∙ is)) starts))

  module _ (starts : BeginsWith hash lists.headers p.size reached.headers.root.0) (noted_starts : is_bounded p.lo p.hi ≡ true → NotaryStarts) where
    first_gives : ShownGives hash (named_by p lists) p
    unfolding NotaryStarts
    first_gives =
        gives_by hash (named_by p lists) p rests.ledger noted (omega (arith, length-take p.size lists.headers, starts.within)) (starts.root_is ∙ root_is) id_is
        (λ bounded root is.
        let it = noted_starts bounded root is in
        (omega (arith, length-take p.notary_size lists.entries, it.within), it.root_is))
        (is_root_means rests.ledger.root _ rests.passing.leads) low high

    first_true : IsTrueOf hash lists claim ⊎ Clashes hash (first_of_parts (parts_of hash (named_by p lists) p))
    first_true =
        let is_proof : IsProof p = (proof_of_takes bytes p fits read).0 in
        elim (shown_true hash makes (named_by p lists) p first_gives (order_by hash p rests.ledger noted is_proof low high)) [
          | inl holds ↦ inl (claim_grows hash p lists claim (subst (IsTrueOf hash (named_by p lists)) claimed holds))
          | inr clashes ↦ inr clashes
        ]

  pub reached_true : IsTrueOf hash lists claim ⊎ Clashes hash (reached_clash hash lists p ledger notary)
  unfolding reached_clash
  reached_true =
      let goal : Type 0 = IsTrueOf hash lists claim in
      let own : List Part = parts_of hash (named_by p lists) p in
      chain_leads_on hash makes p.size reached.headers.root.0 ledger (length lists.headers) (mth hash lists.headers) lists.headers reached.headers.leads refl refl goal
      (chain_if (is_bounded p.lo p.hi) hash lists.entries notary ++ own)
      (λ starts. notary_leads_on (is_bounded p.lo p.hi) reached.entries goal own (λ noted_starts. first_true starts noted_starts))

-- ---- without extensions

module _ (hash : Hash) (makes : Makes hash) (bytes : List ℕ) (claim : Claim) (trust : Trust) (lists : Lists) (p : Shown)
    (fits : IsBytes bytes) (said : acceptance hash bytes claim trust ≡ Ok tt) (read : proof_of bytes ≡ Ok p) (reached : AreReached hash trust p [] [] lists) where
  abbrev plain_rests : Rests hash claim p (ledger_at trust p.size) (root_of Notary trust p.notary_size)
  plain_rests = rests hash makes bytes claim trust lists p [] [] fits said read reached

  plain_gives : ShownGives hash lists p
  unfolding LeadsTo
  plain_gives =
      gives_by hash lists p plain_rests.ledger (root_of Notary trust p.notary_size) reached.headers.leads.0
      (sym reached.headers.leads.1 ∙ root_is hash makes bytes claim trust lists p [] [] fits said read reached)
      (id_is hash makes bytes claim trust lists p [] [] fits said read reached)
      (λ bounded root is.
      let there = reached.entries bounded in
      (there.leads.0, sym there.leads.1 ∙ same_root there.root root (sym there.trusted ∙ is)))
      (is_root_means plain_rests.ledger.root _ plain_rests.passing.leads)
      (low hash makes bytes claim trust lists p [] [] fits said read reached)
      (high hash makes bytes claim trust lists p [] [] fits said read reached)

  pub plain_true : IsTrueOf hash lists claim ⊎ Clashes hash (clash_of hash lists bytes)
  plain_true =
      let is_proof : IsProof p = (proof_of_takes bytes p fits read).0 in
      let order : InOrder p = order_by hash p plain_rests.ledger (root_of Notary trust p.notary_size) is_proof
      (low hash makes bytes claim trust lists p [] [] fits said read reached) (high hash makes bytes claim trust lists p [] [] fits said read reached) in
      let claimed_so : claim_of p ≡ claim = claimed hash makes bytes claim trust lists p [] [] fits said read reached in
      shown_of hash lists bytes p read (IsTrueOf hash lists claim)
      (subst (λ (c : Claim). IsTrueOf hash lists c ⊎ Clashes hash (first_of_parts (parts_of hash lists p))) claimed_so (shown_true hash makes lists p plain_gives order))

-- ---- moments

module _ (hash : Hash) (lists : Lists) (claim : Claim) (moments : List ℕ) (holds : IsTrueOf hash lists claim) (honest : IsHonest hash lists moments) where
  lower_moment : (lo : Option TimeMark) → IfSome lo (IsLowerOf hash lists claim.n) → IfSome lo (λ mark. mark.time ≤ get_or moments claim.n 0)
  lower_moment None it = tt
  lower_moment (Some mark) it =
      let within : claim.n < length moments = omega (arith, holds.journal.within, honest.count) in
      let noted : it.header.a < length lists.entries = omega (arith, it.index, it.noted.noted) in
      let peg : List ℕ = hash (peg_string lists.id.0 mark.jsn (mth hash (take mark.jsn lists.headers))) in
      let told : mark.time ≤ get_or moments mark.jsn 0 =
      honest.told mark.jsn it.header mark.time peg (omega (arith, it.before, within)) it.is_time it.stands noted (omega (arith, it.time, it.is_time.widths.b))
      (ap (λ i. get_or lists.entries i []) it.index ∙ it.noted.entry) in
      omega (arith, told, honest.rises mark.jsn claim.n (omega (arith, it.before)) within)

  upper_moment : (hi : Option TimeMark) → IfSome hi (IsUpperOf hash lists claim.n) → IfSome hi (λ mark. get_or moments claim.n 0 ≤ mark.time)
  upper_moment None it = tt
  upper_moment (Some mark) it =
      honest.pegged mark.index mark.jsn mark.time it.salt it.noted.within it.noted.noted it.noted.entry claim.n it.after (omega (arith, holds.journal.within, honest.count))

  pub moments_are : AreMoments moments claim
  moments_are = record { lower = lower_moment claim.lo holds.lower; upper = upper_moment claim.hi holds.upper }
