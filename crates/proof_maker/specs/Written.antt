-- The proofs that a run writes, and who accepts them.
use Rattle.std.specs.Prelude.{◌≡◌, ℕ, ◌<◌, ◌≤◌, true, List, [], ◌∷◌, length, take, Option, Some, slice_get, ⊤}
use Rattle.sha2.specs.Sha256.{sha256}
use Rattle.tree_model.specs.Tree.{mth}
use Rattle.ledger_bytes.specs.Begins.{Begins}
use Rattle.ledger_bytes.specs.Digests.{digest}
use Rattle.ledger_bytes.specs.declared.digest.Digest.{Digest}
use Rattle.journal_record.specs.Entry.{Entry}
use Rattle.journal_record.specs.Header.{HasWidths}
use Rattle.journal_record.specs.declared.header.Kind.TheVariants as kind
use Rattle.proof_codec.specs.declared.claim.Claim.{Claim}
use Rattle.script_lines.specs.Replies.{time_mark}
use Rattle.script_lines.specs.declared.reply.Reply.{Reply as AnyReply}
use Rattle.script_lines.specs.declared.said.Which.TheVariants.{Ledger, Notary}
use Rattle.script_lines.specs.declared.reply.Reply.TheVariants.{Proof, Extension}
use Rattle.ledger_model.specs.Bounds.{has_bound}
use Rattle.ledger_model.specs.History.{History, journals, id, size, root}
use Rattle.ledger_model.specs.Proofs.{extension_in, list_extension}
use Rattle.ledger_model.specs.Rules.{job_of, judged_at, after_step, after_window}
use Rattle.ledger_model.specs.Scheme.{Scheme}
use Rattle.ledger_model.specs.Step.{Step}
use Rattle.ledger_model.specs.Texts.{answer_to}
use Rattle.ledger_model.specs.declared.answer.Answer.{Answer}
use Rattle.ledger_model.specs.declared.answer.Answer.TheVariants.{Reply, Receipt}
use Rattle.audit_core.specs.Acceptance.{IsAccepted}
use Rattle.audit_core.specs.Extending.{IsExtension}
use Rattle.audit_core.specs.Trust.{Trust}
use Rattle.ledger_book.specs.Seals.{head_at}
use Rattle.proof_maker.specs.Making.{TrustsHead, TrustsList, TrustsFirst, TrustsWhich, head_over}

-- the claim that a reply tells beside its proof
abbrev pub claim_told : ℕ → Digest → Option (ℕ × ℕ × ℕ) → Option (ℕ × ℕ × ℕ) → Claim
claim_told n leaf lo hi = record { n = n; leaf = leaf; lo = time_mark lo; hi = time_mark hi }

-- A reply that is judged against g, where the notary's list is this, is accepted: a proof by an auditor who trusts the head of
-- the ledger and, where the journal has a bound, that of the list; an extension by one who trusts the root over the first of
-- that tree. Other replies prove nothing.
abbrev pub IsGood : History → List (List ℕ) → AnyReply → Type 0
IsGood g es (Proof n leaf lo hi proof) = (trust : Trust) → TrustsHead trust g → (has_bound g n ≡ true → TrustsList trust es)
    → IsAccepted sha256 proof (claim_told n leaf lo hi) trust
IsGood g es (Extension which m size root proof) = (trust : Trust) → TrustsWhich which trust g es m
    → IsExtension sha256 which m (record { size = size; root = root }) proof trust
IsGood g es other = ⊤

-- an answer that is a reply is accepted so; a receipt proves nothing
abbrev pub IsGoodAnswer : History → List (List ℕ) → Answer → Type 0
IsGoodAnswer g es (Reply reply) = IsGood g es reply
IsGoodAnswer g es (Receipt jsn leaf stamp) = ⊤

-- what is due for a step is accepted
abbrev pub IsGoodStep : Scheme → History → Step → Type 0
IsGoodStep scheme h step =
    let job = job_of scheme (id h) step.line in
    IsGoodAnswer (judged_at h job) step.after (answer_to h step job)

-- what is due for each of some steps is accepted
abbrev pub AreGood : Scheme → History → List Step → Type 0
AreGood scheme h [] = ⊤
AreGood scheme h (step ∷ steps) = IsGoodStep scheme h step × AreGood scheme (after_step scheme h step) steps

-- what is due for each step of some windows is accepted
abbrev pub AllGood : Scheme → History → List (List Step) → Type 0
AllGood scheme h [] = ⊤
AllGood scheme h (window ∷ windows) = AreGood scheme h window × AllGood scheme (after_window scheme h window) windows

-- the headers of the time journals have the widths of their layout
abbrev pub HasWideTimes : History → Type 0
HasWideTimes h = (j : ℕ) (e : Entry) → slice_get (journals h) j ≡ Some e → e.header.kind ≡ kind.Time → HasWidths e.header

-- ---- earlier heads

-- What stood at an earlier moment stands at a later one: the journals and the notary's list go on. An auditor who trusts the root
-- over all that stood earlier in a tree, or over a beginning of it, accepts the extension from there to the later head.
pub record LeadsOn (h f : History) (es later : List (List ℕ)) : Type 0 where
  pub journals_are : Begins (journals h) (journals f)
  pub list_is : Begins es later
  pub ledger : (m : ℕ) (trust : Trust) → 0 < m → m ≤ size h → TrustsFirst Ledger trust m (size f) (digest (root h m)) (digest (root f (size f)))
      → IsExtension sha256 Ledger m (head_at f (size f)) (extension_in f m) trust
  pub notary : (m : ℕ) (trust : Trust) → 0 < m → m ≤ length es
      → TrustsFirst Notary trust m (length later) (digest (mth sha256 (take m es))) (digest (mth sha256 later))
      → IsExtension sha256 Notary m (head_over later) (list_extension later m) trust
