-- What is accepted is true of each list under the trusted head, or clashes with it.
use Rattle.std.proofs.Common.{◌≡◌, ◌⊎◌, inl, inr, ℕ, ◌<◌, ◌≤◌, List, [], ◌∷◌, ◌++◌, length, map, get_or, take, Option, Some, None, Ok, refl, sym, ap, ◌∙◌, subst, arith, length-take, take_all, take-take, append-nil}
use Rattle.std.specs.Prelude.{is_some, option_map, option_and_then, IsOk}
use Rattle.std.specs.Str.{bytes_eq}
use Rattle.std.proofs.lemmas.Bool.{cases_Bool}
use Rattle.std.proofs.lemmas.List.{get_or-take}
use Rattle.ledger_bytes.specs.declared.digest.Digest.{Digest}
use Rattle.merkle_tree.specs.declared.head.Head.{Head}
use Rattle.script_lines.specs.declared.said.Which.{Which}
use Rattle.script_lines.specs.declared.said.Which.TheVariants.{Ledger, Notary}
use Rattle.proof_codec.specs.declared.claim.Claim.{Claim}
use Rattle.proof_codec.specs.Proofs.{Shown}
use Rattle.proof_codec.specs.Claims.{lower_mark, upper_mark, claim_of}
use Rattle.proof_codec.specs.Reading.{proof_of}
use Rattle.tree_model.specs.Tree.{Hash, leaf, mth}
use Rattle.tree_model.specs.Path.{fold_bytes}
use Rattle.tree_model.specs.Extension.{fold_proof_bytes}
use Rattle.tree_model.specs.Clash.{Clashes}
use Rattle.tree_model.proofs.ProofFolds.{fold_proof_bytes_parts}
use Rattle.tree_model.proofs.PathClashes.{Makes}
use Rattle.audit_core.specs.declared.known.KnownLedger.{KnownLedger}
use Rattle.audit_core.specs.declared.refusal.No.{No}
use Rattle.audit_core.specs.Acceptance.{acceptance_of, acceptance_by, acceptance}
use Rattle.audit_core.specs.Trust.{Trust, root_of, ledger_at, head_refusal}
use Rattle.audit_core.specs.Truth.{Lists, HasJournal, IsTrueOf}
use Rattle.audit_core.specs.Judgement.{IsUnderHead, leaf_clash, clash_of}
use Rattle.audit_core.specs.Extending.{unless, extension_refusal, extension, extend_refusal, IsExtension}
use Rattle.audit_core.specs.Parts.{Part, first_of_parts, path_part, extension_clash, parts_of, PathGives, ExtensionGives}
use Rattle.audit_core.specs.Chains.{lists_until, BeginsWith, Extension, LeadsTo, chain_parts, chain_clash}
use Rattle.audit_core.proofs.Accepting.{under_leads}
use Rattle.audit_core.proofs.ExtensionLaws.{neither, extension_found}
use Rattle.audit_core.proofs.PartLaws.{Leads, told_same, digest_is, path_within, path_shows, path_leads_on, extension_shows, extension_leads_on}
use Rattle.audit_core.proofs.Judging.{known_found, unbounded_true}

-- what isn't there once it is rewritten wasn't there before
none_before : {A B : Type 0} (f : A → B) (o : Option A) → option_map f o ≡ None → o ≡ None
none_before f None e = refl
none_before f (Some x) e = absurd cc

-- the root of what is known of a ledger is the trusted one
pub root_found : (id root : Option Digest) (ledger : KnownLedger) → option_and_then (λ i. option_map (λ r. record { id = i; root = r }) root) id ≡ Some ledger → root ≡ Some ledger.root
root_found None root ledger e = absurd cc
root_found (Some i) root ledger e = known_found i root ledger e

pub same_root : (a b : Digest) → Some a ≡ Some b → a.0 ≡ b.0
same_root a b e = let same : a ≡ b = cc in ap (λ (d : Digest). d.0) same

module _ (hash : Hash) (bytes : List ℕ) (claim : Claim) (trust : Trust) (said : acceptance hash bytes claim trust ≡ Ok tt) (p : Shown) (read : proof_of bytes ≡ Ok p) where
  -- what a yes rests on
  answered : (ledger : KnownLedger) × (ledger_at trust p.size ≡ Some ledger) × (claim_of p ≡ claim) × (fold_bytes hash p.leaf.0 p.n p.size p.path ≡ Some ledger.root.0)
  unfolding acceptance_by
  answered = under_leads hash claim p (ledger_at trust p.size) (root_of Notary trust p.notary_size) (ap (acceptance_of hash claim (ledger_at trust) (root_of Notary trust)) (sym read) ∙ said)

  -- the proof is of the claim
  claimed_is : claim_of p ≡ claim
  claimed_is = answered.2

  -- its leaf leads to the trusted root
  leads_to : (root : Digest) → root_of Ledger trust p.size ≡ Some root → fold_bytes hash p.leaf.0 p.n p.size p.path ≡ Some root.0
  leads_to root trusted =
      let it = answered in
      it.3 ∙ ap Some (same_root it.0.root root (sym (root_found trust.id (root_of Ledger trust p.size) it.0 it.1) ∙ trusted))

  -- where the claim has no bounds it has none
  pub bare : claim.lo ≡ None → claim.hi ≡ None → (p.lo ≡ None) × (p.hi ≡ None)
  bare lower upper = (none_before lower_mark p.lo (ap (λ (c : Claim). c.lo) claimed_is ∙ lower), none_before upper_mark p.hi (ap (λ (c : Claim). c.hi) claimed_is ∙ upper))

-- the strings of a proof that was read are those of its bytes
pub shown_of : (hash : Hash) (lists : Lists) (bytes : List ℕ) (p : Shown) → proof_of bytes ≡ Ok p → (goal : Type 0) → goal ⊎ Clashes hash (first_of_parts (parts_of hash lists p)) → goal ⊎ Clashes hash (clash_of hash lists bytes)
unfolding clash_of
shown_of hash lists bytes p read goal found = elim found [ inl holds ↦ inl holds | inr clashes ↦ inr (rw read clashes) ]

module _ (hash : Hash) (makes : Makes hash) where
  -- ---- proofs

  -- a leaf that leads to the root of a ledger's list is in the list, or clashes with it
  leaf_true : (lists : Lists) (p : Shown) → length lists.headers ≡ p.size → fold_bytes hash p.leaf.0 p.n p.size p.path ≡ Some (mth hash lists.headers)
      → HasJournal hash lists p.n p.leaf ⊎ Clashes hash (leaf_clash hash lists p)
  leaf_true lists p size_is folds =
      let gives : PathGives hash lists.headers p.leaf.0 p.n p.path = ap (λ size. fold_bytes hash p.leaf.0 p.n size p.path) size_is ∙ folds in
      let within : p.n < length lists.headers = path_within hash makes lists.headers p.leaf.0 p.n p.path gives in
      elim (cases_Bool (bytes_eq p.leaf.0 (get_or (map (leaf hash) lists.headers) p.n []))) [
        | inl same ↦ inl (record { within = within; leaf_is = sym (digest_is hash makes lists.headers p.leaf.0 p.n within same) })
        | inr other ↦ inr (path_shows hash makes lists.headers p.leaf.0 p.n p.path gives other)
      ]

  module _ (bytes : List ℕ) (claim : Claim) (trust : Trust) (lists : Lists) (said : acceptance hash bytes claim trust ≡ Ok tt) where
    pub journal_true : (under : IsUnderHead hash trust bytes lists.headers) → HasJournal hash lists claim.n claim.leaf ⊎ Clashes hash (leaf_clash hash lists under.proof)
    journal_true under =
        let folds = leads_to hash bytes claim trust said under.proof under.read under.root under.trusted ∙ ap Some (sym under.root_is) in
        elim (leaf_true lists under.proof under.count folds) [
          | inl has ↦ inl (subst (λ (c : Claim). HasJournal hash lists c.n c.leaf) (claimed_is hash bytes claim trust said under.proof under.read) has)
          | inr clashes ↦ inr clashes
        ]

    pub yes_true : claim.lo ≡ None → claim.hi ≡ None → IsUnderHead hash trust bytes lists.headers → IsTrueOf hash lists claim ⊎ Clashes hash (clash_of hash lists bytes)
    unfolding clash_of
    yes_true lower upper under =
        let p : Shown = under.proof in
        let none = bare hash bytes claim trust said p under.read lower upper in
        let folds = leads_to hash bytes claim trust said p under.read under.root under.trusted ∙ ap Some (sym under.root_is) in
        let gives : PathGives hash lists.headers p.leaf.0 p.n p.path = ap (λ size. fold_bytes hash p.leaf.0 p.n size p.path) under.count ∙ folds in
        let parts : parts_of hash lists p ≡ path_part hash lists.headers p.leaf.0 p.n p.path ∷ [] = rw (none.0, none.1) refl in
        let claimed = claimed_is hash bytes claim trust said p under.read in
        let found : IsTrueOf hash lists claim ⊎ Clashes hash (first_of_parts (path_part hash lists.headers p.leaf.0 p.n p.path ∷ [])) =
        path_leads_on hash makes lists.headers p.leaf.0 p.n p.path gives (IsTrueOf hash lists claim) []
        (λ leaf_is. inl (unbounded_true hash lists claim lower upper
        (subst (λ (c : Claim). HasJournal hash lists c.n c.leaf) claimed (record { within = path_within hash makes lists.headers p.leaf.0 p.n p.path gives; leaf_is = sym leaf_is })))) in
        shown_of hash lists bytes p under.read (IsTrueOf hash lists claim) (subst (λ (ps : List Part). IsTrueOf hash lists claim ⊎ Clashes hash (first_of_parts ps)) (sym parts) found)

  -- ---- extensions

  pub extension_true : (list : List (List ℕ)) (m size : ℕ) (old digests : List ℕ) → length list ≡ size → fold_proof_bytes hash m old size digests ≡ Some (mth hash list)
      → BeginsWith hash list m old ⊎ Clashes hash (extension_clash hash list m old digests)
  extension_true list m size old digests size_is folds =
      let gives : ExtensionGives hash list m old digests = ap (λ count. fold_proof_bytes hash m old count digests) size_is ∙ folds in
      elim (cases_Bool (bytes_eq old (mth hash (take m list)))) [
        | inl same ↦ inl (record { within = (fold_proof_bytes_parts hash m old (length list) digests (ap is_some gives)).1; root_is = sym (told_same _ _ same) })
        | inr other ↦ inr (extension_shows hash makes list m old digests gives other)
      ]

  -- back from the last head
  pub chain_leads_on : (m : ℕ) (old : List ℕ) (es : List Extension) (size : ℕ) (root : List ℕ) (list : List (List ℕ)) → LeadsTo hash m old es size root → length list ≡ size → mth hash list ≡ root
      → Leads hash makes list (BeginsWith hash list m old) (chain_parts hash list es)
  unfolding LeadsTo
  chain_leads_on m old [] size root list leads size_is root_is goal rest on =
      let within : m ≤ length list = omega (arith, leads.0, size_is) in
      on (record { within = within; root_is = ap (mth hash) (take_all m list (omega (arith, leads.0, size_is))) ∙ root_is ∙ sym leads.1 })
  chain_leads_on m old (e ∷ es) size root list leads size_is root_is goal rest on =
      let gives : ExtensionGives hash list e.m e.old e.digests = ap (λ count. fold_proof_bytes hash e.m e.old count e.digests) size_is ∙ leads.0 ∙ ap Some (sym root_is) in
      let within : e.m ≤ length list = (fold_proof_bytes_parts hash e.m e.old (length list) e.digests (ap is_some gives)).1 in
      let shorter : length (take e.m list) ≡ e.m = omega (arith, length-take e.m list, within) in
      extension_leads_on hash makes list e.m e.old e.digests gives goal (chain_parts hash (take e.m list) es ++ rest)
      (λ same. chain_leads_on m old es e.m e.old (take e.m list) leads.1 shorter (sym same) goal rest
      (λ first.
      let before : m ≤ e.m = omega (arith, first.within, shorter) in
      on (record { within = omega (arith, before, within); root_is = ap (mth hash) (sym (take-take m e.m list before)) ∙ first.root_is })))

  pub chain_true : (m : ℕ) (old : List ℕ) (es : List Extension) (size : ℕ) (root : List ℕ) (list : List (List ℕ)) → LeadsTo hash m old es size root → length list ≡ size → mth hash list ≡ root
      → BeginsWith hash list m old ⊎ Clashes hash (chain_clash hash list es)
  unfolding chain_clash
  chain_true m old es size root list leads size_is root_is =
      subst (λ (parts : List Part). BeginsWith hash list m old ⊎ Clashes hash (first_of_parts parts)) (append-nil (chain_parts hash list es))
      (chain_leads_on m old es size root list leads size_is root_is (BeginsWith hash list m old) [] (λ starts. inl starts))

  -- a claim that is true of the first journals is true of all
  journal_grows : (lists : Lists) (m n : ℕ) (digest : Digest) → HasJournal hash (lists_until m lists) n digest → HasJournal hash lists n digest
  journal_grows lists m n digest it =
      let before : n < m = omega (arith, it.within, length-take m lists.headers) in
      record {
        within = omega (arith, it.within, length-take m lists.headers);
        leaf_is = ap (leaf hash) (sym (get_or-take m lists.headers n [] before)) ∙ it.leaf_is;
      }

  -- the journal of a claim, with bounds or without, by the ledger's extensions alone
  pub journal_stays : (bytes : List ℕ) (claim : Claim) (trust : Trust) (lists : Lists) (p : Shown) (root : Digest) (es : List Extension) → acceptance hash bytes claim trust ≡ Ok tt
      → proof_of bytes ≡ Ok p → root_of Ledger trust p.size ≡ Some root → LeadsTo hash p.size root.0 es (length lists.headers) (mth hash lists.headers)
      → HasJournal hash lists claim.n claim.leaf ⊎ (Clashes hash (chain_clash hash lists.headers es) ⊎ Clashes hash (leaf_clash hash (lists_until p.size lists) p))
  journal_stays bytes claim trust lists p root es said read trusted leads = elim (chain_true p.size root.0 es (length lists.headers) (mth hash lists.headers) lists.headers leads refl refl) [
    | inr clashes ↦ inr (inl clashes)
    | inl starts ↦
        let count : length (take p.size lists.headers) ≡ p.size = omega (arith, length-take p.size lists.headers, starts.within) in
        let under : IsUnderHead hash trust bytes (take p.size lists.headers) =
        record { proof = p; read = read; root = root; trusted = trusted; count = count; root_is = starts.root_is } in
        elim (journal_true bytes claim trust (lists_until p.size lists) said under) [
          | inr clashes ↦ inr (inr clashes)
          | inl has ↦ inl (journal_grows lists p.size claim.n claim.leaf has)
        ]
  ]

  pub yes_stays : (bytes : List ℕ) (claim : Claim) (trust : Trust) (lists : Lists) (p : Shown) (root : Digest) (es : List Extension) (head : Head) → acceptance hash bytes claim trust ≡ Ok tt → claim.lo ≡ None → claim.hi ≡ None
      → proof_of bytes ≡ Ok p → root_of Ledger trust p.size ≡ Some root → LeadsTo hash p.size root.0 es head.size head.root.0 → length lists.headers ≡ head.size → mth hash lists.headers ≡ head.root.0
      → IsTrueOf hash lists claim ⊎ (Clashes hash (chain_clash hash lists.headers es) ⊎ Clashes hash (clash_of hash (lists_until p.size lists) bytes))
  yes_stays bytes claim trust lists p root es head said lower upper read trusted leads size_is root_is = elim (chain_true p.size root.0 es head.size head.root.0 lists.headers leads size_is root_is) [
    | inr clashes ↦ inr (inl clashes)
    | inl starts ↦
        let count : length (take p.size lists.headers) ≡ p.size = omega (arith, length-take p.size lists.headers, starts.within) in
        let under : IsUnderHead hash trust bytes (take p.size lists.headers) =
        record { proof = p; read = read; root = root; trusted = trusted; count = count; root_is = starts.root_is } in
        elim (yes_true bytes claim trust (lists_until p.size lists) said lower upper under) [
          | inr clashes ↦ inr (inr clashes)
          | inl holds ↦ inl (unbounded_true hash lists claim lower upper (journal_grows lists p.size claim.n claim.leaf holds.journal))
        ]
  ]

-- an accepted extension goes on from where others lead
pub extended : (hash : Hash) (which : Which) (first : ℕ) (root : List ℕ) (es : List Extension) (m : ℕ) (head : Head) (bytes : List ℕ) (trust : Trust) (it : IsExtension hash which m head bytes trust)
    → LeadsTo hash first root es m it.old.0 → LeadsTo hash first root (record { m = m; old = it.old.0; digests = bytes } ∷ es) head.size head.root.0
unfolding LeadsTo
extended hash which first root es m head bytes trust it leads = (it.leads, leads)

-- what stands against no new head is an extension
pub extension_of : (hash : Hash) (which : Which) (m : ℕ) (head : Head) (bytes : List ℕ) (trust : Trust) → extend_refusal hash which m head bytes trust ≡ None → IsExtension hash which m head bytes trust
extension_of hash which m head bytes trust none =
    let first = neither (extension_refusal hash which m head bytes trust) (head_refusal which head trust) none in
    extension_found hash which m head bytes trust (extension hash which m head bytes trust) refl (subst (λ (o : Option No). IsOk (unless o)) (sym first.0) refl)
