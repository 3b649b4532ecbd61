-- When an auditor accepts a proof of a claim, and why not.
use Rattle.std.specs.Prelude.{◌≡◌, ℕ, ◌≤◌, Bool, true, false, ◌&&◌, ◌==◌, if◌then◌else◌, List, [], ◌∷◌, Option, Some, None, IfSome, Result, Ok, Err}
use Rattle.std.specs.Str.{bytes_eq}
use Rattle.ledger_bytes.specs.declared.digest.Digest.{Digest}
use Rattle.ledger_bytes.specs.declared.failure.Bad.{Bad}
use Rattle.ledger_bytes.specs.declared.failure.Bad.TheVariants.{Short, Trailing, BadKind, BadFixedField, NewerFormat, TooLong}
use Rattle.ledger_bytes.specs.declared.mark.TimeMark.{TimeMark}
use Rattle.proof_codec.specs.declared.claim.Claim.{Claim}
use Rattle.proof_codec.specs.Proofs.{ShownLower, ShownUpper, Shown, IsProof, spelling, is_bounded}
use Rattle.proof_codec.specs.Claims.{lower_mark, claim_of}
use Rattle.proof_codec.specs.Reading.{proof_of}
use Rattle.tree_model.specs.Tree.{Hash}
use Rattle.tree_model.specs.Path.{fold_bytes}
use Rattle.script_lines.specs.declared.said.Which.TheVariants.{Notary}
use Rattle.audit_core.specs.declared.refusal.No.{No}
use Rattle.audit_core.specs.declared.refusal.No.TheVariants.{Malformed, HeadUnknown, ClaimDiffers, LeafPath, LowerBound, UpperBound, NotaryPath, TimesCross}
use Rattle.audit_core.specs.declared.known.KnownLedger.{KnownLedger}
use Rattle.audit_core.specs.Trust.{Trust, root_of, ledger_at}
use Rattle.audit_core.specs.Leading.{path_leads}
use Rattle.audit_core.specs.Bounds.{lower_leads, upper_leads, lower_noted, upper_noted, in_order, IsLowerBound, IsUpperBound}

-- the place at which bytes that spell no proof break, as it is told; bytes that are too long break behind the last that may
-- be there
abbrev pub break_of : Bad → ℕ
break_of (Short at) = at
break_of (Trailing at) = at
break_of (BadFixedField at) = at
break_of TooLong = 8192
-- nothing in a proof breaks so
break_of (BadKind found) = 0
break_of (NewerFormat found) = 0

-- whether two bounds are the same, or both are none
abbrev pub same_bound : Option TimeMark → Option TimeMark → Bool
same_bound None None = true
same_bound (Some a) (Some b) = (a.jsn == b.jsn) && (a.index == b.index) && (a.time == b.time)
same_bound (Some a) None = false
same_bound None (Some b) = false

-- whether two claims are the same: journal, leaf digest and both bounds
abbrev pub same_claim : Claim → Claim → Bool
same_claim a b = (a.n == b.n) && bytes_eq a.leaf.0 b.leaf.0 && same_bound a.lo b.lo && same_bound a.hi b.hi

-- What has to hold of a proof, in its order, with what is answered where it doesn't: 1. It is of this claim. 2. Its leaf
-- leads to the ledger's root. 3. The bound in front leads there. 4. The bound behind does. 5. The entry of the first leads
-- to the notary's root. 6. The entry of the second does. 7. Their times don't cross.
abbrev pub rows : Hash → Claim → Shown → KnownLedger → Option Digest → List (Bool × No)
rows hash claim p ledger notary =
    (same_claim (claim_of p) claim, ClaimDiffers)
    ∷ (path_leads hash ledger.root p.leaf.0 p.n p.size p.path, LeafPath)
    ∷ (lower_leads hash ledger p p.lo, LowerBound)
    ∷ (upper_leads hash ledger p p.hi, UpperBound)
    ∷ (lower_noted hash ledger notary p p.lo, NotaryPath)
    ∷ (upper_noted hash ledger notary p p.hi, NotaryPath)
    ∷ (in_order p.lo p.hi, TimesCross)
    ∷ []

-- the answer by rows: that of the first that doesn't hold, and else yes
abbrev pub first_failing : List (Bool × No) → Result (Unit {0}) No
first_failing [] = Ok tt
first_failing (row ∷ rows) = if row.0 then first_failing rows else Err row.1

-- whether a proof has a bound, and no head of the notary is known for it
abbrev pub is_unnoted : Shown → Option Digest → Bool
is_unnoted p None = is_bounded p.lo p.hi
is_unnoted p (Some notary) = false

-- the answer to a proof that was read, where this is known of the ledger at its size, and this root of the notary at its own
abbrev pub acceptance_under : Hash → Claim → Shown → Option KnownLedger → Option Digest → Result (Unit {0}) No
acceptance_under hash claim p None notary = Err (HeadUnknown p.size)
acceptance_under hash claim p (Some ledger) notary =
    if is_unnoted p notary then Err (HeadUnknown p.notary_size) else first_failing (rows hash claim p ledger notary)

-- the answer to what bytes are read as, where this is known of ledger and notary by their sizes
abbrev pub acceptance_of : Hash → Claim → (ℕ → Option KnownLedger) → (ℕ → Option Digest) → Result Shown Bad → Result (Unit {0}) No
acceptance_of hash claim ledgers notaries (Err bad) = Err (Malformed (break_of bad))
acceptance_of hash claim ledgers notaries (Ok p) = acceptance_under hash claim p (ledgers p.size) (notaries p.notary_size)

-- what an auditor answers to the bytes of a proof and a claim, where this is known of ledger and notary by their sizes
unfoldable pub acceptance_by : Hash → List ℕ → Claim → (ℕ → Option KnownLedger) → (ℕ → Option Digest) → Result (Unit {0}) No
acceptance_by hash bytes claim ledgers notaries = acceptance_of hash claim ledgers notaries (proof_of bytes)

-- what an auditor answers to the bytes of a proof and a claim under what is trusted
abbrev pub acceptance : Hash → List ℕ → Claim → Trust → Result (Unit {0}) No
acceptance hash bytes claim trust = acceptance_by hash bytes claim (ledger_at trust) (root_of Notary trust)

-- The bytes spell a proof of this very claim, whose leaf leads along its path to the ledger's root of its size, and whose
-- bounds lead there and to the notary's root and don't cross: when the answer is yes.
pub record IsAcceptedBy (hash : Hash) (bytes : List ℕ) (claim : Claim) (ledgers : ℕ → Option KnownLedger) (notaries : ℕ → Option Digest) : Type 0 where
  pub proof : Shown
  pub is_proof : IsProof proof
  pub text : bytes ≡ spelling proof
  pub claimed : claim_of proof ≡ claim
  pub ledger : KnownLedger
  pub trusted : ledgers proof.size ≡ Some ledger
  pub leads : fold_bytes hash proof.leaf.0 proof.n proof.size proof.path ≡ Some ledger.root.0
  pub lower : IfSome proof.lo (IsLowerBound hash ledger (notaries proof.notary_size) proof)
  pub upper : IfSome proof.hi (IsUpperBound hash ledger (notaries proof.notary_size) proof)
  pub order : (l : ShownLower) (u : ShownUpper) → proof.lo ≡ Some l → proof.hi ≡ Some u → (lower_mark l).time ≤ u.mark.time

-- the bytes of a proof are accepted under what is trusted
abbrev pub IsAccepted : Hash → List ℕ → Claim → Trust → Type 0
IsAccepted hash bytes claim trust = IsAcceptedBy hash bytes claim (ledger_at trust) (root_of Notary trust)
