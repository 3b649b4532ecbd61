-- When an auditor is shown that a trusted tree is the beginning of another, and why not.
use Rattle.std.specs.Prelude.{◌≡◌, ℕ, ◌%◌, ◌≤◌, ◌==◌, nat_lt, if◌then◌else◌, List, length, Option, Some, None, Result, Ok, Err}
use Rattle.std.specs.Option.{option_or}
use Rattle.ledger_bytes.specs.declared.digest.Digest.{Digest}
use Rattle.merkle_tree.specs.declared.head.Head.{Head}
use Rattle.tree_model.specs.Tree.{Hash}
use Rattle.tree_model.specs.Extension.{fold_proof_bytes}
use Rattle.script_lines.specs.declared.said.Which.{Which}
use Rattle.audit_core.specs.declared.refusal.No.{No}
use Rattle.audit_core.specs.declared.refusal.No.TheVariants.{Malformed, HeadUnknown, BadExtension}
use Rattle.audit_core.specs.Trust.{Trust, root_of, digest_fault, head_refusal}
use Rattle.audit_core.specs.Leading.{proof_leads}

-- why bytes are no digests of an extension: they are too many, or no whole digests
abbrev pub digests_refusal : List ℕ → Option No
digests_refusal bytes =
    if nat_lt 8192 (length bytes) then Some (Malformed 8192)
    else if length bytes % 32 == 0 then None
    else Some (Malformed (length bytes))

-- why digests don't lead to a head from the root that is trusted for the first m: none is trusted, or they lead elsewhere
abbrev pub leading_refusal : Hash → ℕ → Head → List ℕ → Option Digest → Option No
leading_refusal hash m head bytes None = Some (HeadUnknown m)
leading_refusal hash m head bytes (Some old) =
    if proof_leads hash head.root m old head.size bytes then None else Some BadExtension

-- Why an extension isn't accepted, in this order: 1. Its bytes are no digests. 2. No head of size m is trusted. 3. The
-- digests don't lead from that one to the new head. 4. Another root of the new size is trusted.
abbrev pub extension_refusal : Hash → Which → ℕ → Head → List ℕ → Trust → Option No
extension_refusal hash which m head bytes trust =
    option_or (digests_refusal bytes)
    (option_or (leading_refusal hash m head bytes (root_of which trust m)) (digest_fault (root_of which trust head.size) head.root None))

-- yes, unless something stands against it
abbrev pub unless : Option No → Result (Unit {0}) No
unless None = Ok tt
unless (Some why) = Err why

-- what an auditor answers to an extension of a trusted head
abbrev pub extension : Hash → Which → ℕ → Head → List ℕ → Trust → Result (Unit {0}) No
extension hash which m head bytes trust = unless (extension_refusal hash which m head bytes trust)

-- why the head of an extension isn't trusted: the extension isn't accepted, or there are too many heads
abbrev pub extend_refusal : Hash → Which → ℕ → Head → List ℕ → Trust → Option No
extend_refusal hash which m head bytes trust =
    option_or (extension_refusal hash which m head bytes trust) (head_refusal which head trust)

-- not too many digests lead from the trusted root of the first m to this head, and no other root of its size is trusted
pub record IsExtension (hash : Hash) (which : Which) (m : ℕ) (head : Head) (bytes : List ℕ) (trust : Trust) : Type 0 where
  pub room : length bytes ≤ 8192
  pub old : Digest
  pub trusted : root_of which trust m ≡ Some old
  pub leads : fold_proof_bytes hash m old.0 head.size bytes ≡ Some head.root.0
  pub agrees : (kept : Digest) → root_of which trust head.size ≡ Some kept → kept ≡ head.root
