-- An extension is accepted exactly where its digests lead from a trusted root to one that no other contradicts.
use Rattle.std.specs.Option.{option_or}
use Rattle.std.proofs.Common.{◌≡◌, ℕ, ◌%◌, ◌≤◌, Bool, true, false, cond, eqb, ltb, List, length, Option, Some, None, Result, refl, sym, ap, ◌∙◌, subst, eq-eqb}
use Rattle.std.specs.Prelude.{IsOk, is_some}
use Rattle.std.specs.Str.{bytes_eq}
use Rattle.std.proofs.lemmas.Bool.{ltb-false, le-ltb}
use Rattle.ledger_bytes.specs.declared.digest.Digest.{Digest}
use Rattle.merkle_tree.specs.declared.head.Head.{Head}
use Rattle.tree_model.specs.Tree.{Hash}
use Rattle.tree_model.specs.Extension.{fold_proof_bytes}
use Rattle.tree_model.proofs.ProofFolds.{fold_proof_even}
use Rattle.script_lines.specs.declared.said.Which.{Which}
use Rattle.audit_core.specs.declared.refusal.No.{No}
use Rattle.audit_core.specs.declared.refusal.No.TheVariants.{Malformed, BadExtension}
use Rattle.audit_core.specs.Trust.{Trust, root_of, digest_fault}
use Rattle.audit_core.specs.Leading.{is_root}
use Rattle.audit_core.specs.Extending.{digests_refusal, leading_refusal, extension_refusal, unless, extension, IsExtension}
use Rattle.audit_core.proofs.RootLaws.{same_bytes, same_digest, is_root_means}

-- ---- nothing stands against it

-- of two refusals neither is there
pub neither : (a b : Option No) → option_or a b ≡ None → (a ≡ None) × (b ≡ None)
neither None b e = (refl, e)
neither (Some why) b e = absurd cc

-- a test that would refuse fails
not_met : (test : Bool) (why : No) (rest : Option No) → cond test (Some why) rest ≡ None → (test ≡ false) × (rest ≡ None)
not_met true why rest e = absurd cc
not_met false why rest e = (refl, e)

-- a test that is needed holds
met : (test : Bool) (why : No) (rest : Option No) → cond test rest (Some why) ≡ None → (test ≡ true) × (rest ≡ None)
met true why rest e = (refl, e)
met false why rest e = absurd cc

unless_none : (refusal : Option No) → IsOk (unless refusal) → refusal ≡ None
unless_none None ok = refl
unless_none (Some why) ok = absurd cc

digests_none : (bytes : List ℕ) → digests_refusal bytes ≡ None → length bytes ≤ 8192
digests_none bytes e =
    let few = not_met (ltb 8192 (length bytes)) (Malformed 8192) (cond (eqb (length bytes % 32) 0) None (Some (Malformed (length bytes)))) e in
    ltb-false 8192 (length bytes) few.0

leading_none : (hash : Hash) (m : ℕ) (head : Head) (bytes : List ℕ) (kept : Option Digest) → leading_refusal hash m head bytes kept ≡ None
    → (old : Digest) × (kept ≡ Some old) × (fold_proof_bytes hash m old.0 head.size bytes ≡ Some head.root.0)
leading_none hash m head bytes None e = absurd cc
leading_none hash m head bytes (Some old) e =
    let folded : Option (List ℕ) = fold_proof_bytes hash m old.0 head.size bytes in
    (old, refl, is_root_means head.root folded (met (is_root head.root folded) BadExtension None e).0)

differing_none : (kept : Option Digest) (given : Digest) → digest_fault kept given None ≡ None → (root : Digest) → kept ≡ Some root → root ≡ given
differing_none None given e root is = absurd cc
differing_none (Some kept) given e root is =
    let which : kept ≡ root = cc in
    sym which ∙ same_digest kept given (let differs : cond (bytes_eq kept.0 given.0) None (Some _) ≡ None = e in (met (bytes_eq kept.0 given.0) _ None differs).0)

none_differing : (kept : Option Digest) (given : Digest) → ((root : Digest) → kept ≡ Some root → root ≡ given) → digest_fault kept given None ≡ None
none_differing None given agrees = refl
none_differing (Some kept) given agrees =
    let same : bytes_eq kept.0 given.0 ≡ true = sym (ap (λ (d : Digest). bytes_eq kept.0 d.0) (agrees kept refl)) ∙ same_bytes kept.0 in
    rw same refl

-- ---- the answer

module _ (hash : Hash) (which : Which) (m : ℕ) (head : Head) (bytes : List ℕ) (trust : Trust) where
  pub extension_found : (r : Result (Unit {0}) No) → r ≡ extension hash which m head bytes trust → IsOk r → IsExtension hash which m head bytes trust
  extension_found r is ok =
      let none = unless_none (extension_refusal hash which m head bytes trust) (subst IsOk is ok) in
      let a = neither (digests_refusal bytes) _ none in
      let b = neither (leading_refusal hash m head bytes (root_of which trust m)) (digest_fault (root_of which trust head.size) head.root None) a.1 in
      let c = leading_none hash m head bytes (root_of which trust m) b.0 in
      record { room = digests_none bytes a.0; old = c.0; trusted = c.1; leads = c.2; agrees = differing_none (root_of which trust head.size) head.root b.1 }

  pub extension_only : (r : Result (Unit {0}) No) → r ≡ extension hash which m head bytes trust → IsExtension hash which m head bytes trust → IsOk r
  extension_only r is it =
      let few : ltb 8192 (length bytes) ≡ false = le-ltb 8192 (length bytes) it.room in
      let whole : eqb (length bytes % 32) 0 ≡ true = eq-eqb _ _ (fold_proof_even hash m it.old.0 head.size bytes (ap is_some it.leads)) in
      let digests : digests_refusal bytes ≡ None = rw (few, whole) refl in
      let leading : leading_refusal hash m head bytes (root_of which trust m) ≡ None =
      ap (leading_refusal hash m head bytes) it.trusted ∙ rw (it.leads, same_bytes head.root.0) refl in
      let agrees : digest_fault (root_of which trust head.size) head.root None ≡ None = none_differing (root_of which trust head.size) head.root it.agrees in
      rw is (rw (digests, leading, agrees) refl)
