-- How a proof of a claim is judged by the whole lists, under their own heads.
use Rattle.std.specs.Prelude.{◌≡◌, ℕ, ◌==◌, Bool, true, false, if◌then◌else◌, List, [], length, map, Option, Some, None, option_map, Result, Ok, Err}
use Rattle.ledger_bytes.specs.declared.digest.Digest.{Digest}
use Rattle.ledger_bytes.specs.declared.failure.Bad.{Bad}
use Rattle.proof_codec.specs.declared.claim.Claim.{Claim}
use Rattle.proof_codec.specs.Proofs.{Shown}
use Rattle.proof_codec.specs.Reading.{proof_of}
use Rattle.tree_model.specs.Tree.{Hash, leaf, mth, cut}
use Rattle.tree_model.specs.Clash.{path_clash}
use Rattle.merkle_tree.specs.Strings.{pair_of}
use Rattle.audit_core.specs.declared.known.KnownLedger.{KnownLedger}
use Rattle.audit_core.specs.declared.refusal.No.{No}
use Rattle.audit_core.specs.declared.verdict.Verdict.{Verdict}
use Rattle.audit_core.specs.declared.verdict.Verdict.TheVariants as verdict
use Rattle.script_lines.specs.declared.said.Which.TheVariants.{Ledger}
use Rattle.audit_core.specs.Trust.{Trust, root_of}
use Rattle.audit_core.specs.Acceptance.{acceptance_by, acceptance_under, IsAcceptedBy}
use Rattle.audit_core.specs.Truth.{Lists, IsTrueOf}
use Rattle.audit_core.specs.Parts.{first_of_parts, parts_of, IsClashOf}
use Rattle.audit_core.specs.Deciding.{is_true}

-- ---- acceptance under the lists' own heads

-- the root that a list has, at its own size and no other
abbrev pub own_root : Hash → List (List ℕ) → ℕ → Option Digest
own_root hash list size = if size == length list then Some (record { 0 = mth hash list }) else None

-- what is known of a ledger by its own list: its id, and its root at its own size
abbrev pub own_ledger : Hash → Lists → ℕ → Option KnownLedger
own_ledger hash lists size = option_map (λ root. record { id = lists.id; root = root }) (own_root hash lists.headers size)

-- what is known of a notary by its own list: its root at its own size
abbrev pub own_notary : Hash → Lists → ℕ → Option Digest
own_notary hash lists size = own_root hash lists.entries size

-- what an auditor answers who trusts the lists' own heads and no other
abbrev pub own_acceptance : Hash → Lists → List ℕ → Claim → Result (Unit {0}) No
own_acceptance hash lists bytes claim = acceptance_by hash bytes claim (own_ledger hash lists) (own_notary hash lists)

-- the bytes of a proof are accepted by an auditor who trusts the lists' own heads and no other
abbrev pub IsAcceptedByOwn : Hash → Lists → List ℕ → Claim → Type 0
IsAcceptedByOwn hash lists bytes claim = IsAcceptedBy hash bytes claim (own_ledger hash lists) (own_notary hash lists)

-- ---- lists under a trusted head

-- these bytes spell a proof, and the list has the proof's size and the root that is trusted for it
pub record IsUnderHead (hash : Hash) (trust : Trust) (bytes : List ℕ) (list : List (List ℕ)) : Type 0 where
  pub proof : Shown
  pub read : proof_of bytes ≡ Ok proof
  pub root : Digest
  pub trusted : root_of Ledger trust proof.size ≡ Some root
  pub count : length list ≡ proof.size
  pub root_is : mth hash list ≡ root.0

-- ---- the two strings that a false proof shows

-- the two strings that the path of a proof's leaf shows, going down from the root, where it tells what isn't of the headers
abbrev pub leaf_clash : Hash → Lists → Shown → Option (List ℕ × List ℕ)
leaf_clash hash lists p = path_clash hash p.leaf.0 p.n (map (leaf hash) lists.headers) (cut 32 p.path)

-- the two strings of the first part of a proof that tells what isn't of the lists; none of what doesn't read as a proof
abbrev pub clash_in : Hash → Lists → Result Shown Bad → Option (List ℕ × List ℕ)
clash_in hash lists (Ok p) = first_of_parts (parts_of hash lists p)
clash_in hash lists (Err bad) = None

-- The two strings that the bytes of a proof show: those of its first part that tells what isn't of the lists. `yes_is_true`
-- says that they clash where a proof is accepted and its claim is false.
unfoldable pub clash_of : Hash → Lists → List ℕ → Option (List ℕ × List ℕ)
clash_of hash lists bytes = clash_in hash lists (proof_of bytes)

-- ---- judgements

-- What a proof of a claim is worth by the whole lists: 1. It isn't accepted, and why (`refused`). 2. It is, and the claim
-- holds (`holds`). 3. It is, the claim doesn't hold, and two strings are shown, the proof's first (`shows`).
pub data Judgement : Type 0 where
  refused : No → Judgement
  holds : Judgement
  shows : List ℕ × List ℕ → Judgement

-- what is judged where the claim doesn't hold: it shows the strings that are found, and two empty ones where there are none
abbrev pub shows_found : Option (List ℕ × List ℕ) → Judgement
shows_found None = shows ([], [])
shows_found (Some pair) = shows pair

-- what is judged by an answer, by whether the claim holds, and by the strings that are found
abbrev pub judgement_by : Result (Unit {0}) No → Bool → Option (List ℕ × List ℕ) → Judgement
judgement_by (Err why) has found = refused why
judgement_by (Ok done) true found = holds
judgement_by (Ok done) false found = shows_found found

-- How the bytes of a proof of a claim are judged by the lists, as a function: by whether they are accepted under the lists'
-- own heads, by whether the claim is true, and by the strings of the first part that isn't of the lists.
-- Example, under the toy hash, whose digests are 31 zeros and the sum of all bytes: two journals have leaf digests that end
-- in 10 and 20, so the root ends in 31. A proof of size 2 tells journal 0 with the leaf digest 11 and the path 19. 1 + 11 +
-- 19 is 31 too, so it is accepted for the claim of 11, which is false: it shows the strings 01 11 19 and 01 10 20, each with
-- its zeros. A proof of leaf 10 with path 20 holds for the claim of 10. A proof of size 3 is refused, since no head of size
-- 3 is known.
abbrev pub judgement : Hash → Lists → List ℕ → Claim → Judgement
judgement hash lists bytes claim =
    judgement_by (own_acceptance hash lists bytes claim) (is_true hash lists claim) (clash_of hash lists bytes)

-- the judgement that a verdict of the program tells
abbrev pub told_by : Verdict → Judgement
told_by (verdict.Unaccepted why) = refused why
told_by verdict.True = holds
told_by (verdict.Clash clash) = shows (pair_of clash)

-- What each judgement of a proof's bytes means, as facts: 1. `refused`: this is the answer under the lists' own heads. 2.
-- `holds`: it is accepted under them, and the claim is true of the lists. 3. `shows`: it is accepted, the claim is false,
-- and these are two different strings with one digest, found in the proof's first part that isn't of the lists. `judgement`
-- is the same as a function, `told_by` what a verdict of the program says, and `JudgesShown` the same of a proof that was
-- read.
-- Example: the three proofs beside `judgement` are judged `shows`, `holds` and `refused` there, and each is what it means
-- here.
abbrev pub Judges : Hash → Lists → List ℕ → Claim → Judgement → Type 0
Judges hash lists bytes claim (refused why) = own_acceptance hash lists bytes claim ≡ Err why
Judges hash lists bytes claim holds = IsAcceptedByOwn hash lists bytes claim × IsTrueOf hash lists claim
Judges hash lists bytes claim (shows pair) =
    IsAcceptedByOwn hash lists bytes claim × (IsTrueOf hash lists claim → ⊥)
    × IsClashOf hash (clash_of hash lists bytes) pair

-- a proof that was read is accepted under the lists' own heads
abbrev pub ByOwn : Hash → Lists → Claim → Shown → Type 0
ByOwn hash lists claim p = acceptance_under hash claim p (own_ledger hash lists p.size) (own_notary hash lists p.notary_size) ≡ Ok tt

-- what each judgement means of a proof that was read: it isn't accepted, and why; it is, and the claim is true; it is, the
-- claim is false, and its first part that isn't of the lists shows a clash
abbrev pub JudgesShown : Hash → Lists → Claim → Shown → Judgement → Type 0
JudgesShown hash lists claim p (refused why) =
    acceptance_under hash claim p (own_ledger hash lists p.size) (own_notary hash lists p.notary_size) ≡ Err why
JudgesShown hash lists claim p holds = ByOwn hash lists claim p × IsTrueOf hash lists claim
JudgesShown hash lists claim p (shows pair) =
    ByOwn hash lists claim p × (IsTrueOf hash lists claim → ⊥) × IsClashOf hash (first_of_parts (parts_of hash lists p)) pair
