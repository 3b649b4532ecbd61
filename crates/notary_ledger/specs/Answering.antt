-- What every notary that has its list in memory does and answers, by that list.
use Rattle.std.specs.Prelude.{◌≡◌, ℕ, List, Result, Err, Some, length, map, IfOk, OnErr, MatchResult, Vec}
use Rattle.std.proofs.Common.{Global}
use Rattle.sha2.specs.Sha256.{sha256}
use Rattle.ledger_bytes.specs.declared.digest.Digest.{Digest}
use Rattle.merkle_tree.specs.declared.head.Head.{Head}
use Rattle.tree_model.specs.Extension.{proof}
use Rattle.tree_model.specs.Path.{path}
use Rattle.tree_model.specs.Tree.{mth, leaf}
use Rattle.journal_record.specs.declared.rules.TheConstants.{NOTARY_LIMIT}
use Rattle.journal_record.specs.declared.stamp.Stamp.{Stamp}
use Rattle.time_peg.specs.Entries.{IsStamped, Times, salt_of}
use Rattle.time_peg.specs.declared.notary.NotaryErr.{NotaryErr}
use Rattle.time_peg.specs.declared.notary.NotaryErr.TheVariants.{Full, NoMemory}

-- a stamp: what it does to the list, and what it answers, with the salt that the seed gives; one that failed leaves the list
pub record Stamps (peg seed : List ℕ) (times : Times) (old new : List (List ℕ)) (result : Result Stamp NotaryErr) : Type 0 where
  pub stamped : IsStamped (Some (record { seed = seed; times = times })) peg old new result
  pub full : length old ≡ NOTARY_LIMIT → result ≡ Err Full
  pub same : OnErr result (new ≡ old)
  pub salt : IfOk result (λ s. s.salt.0 ≡ salt_of seed s.index)

-- the number of entries, and the root over them
abbrev pub AnswersHead : List (List ℕ) → Result Head NotaryErr → Type 0
AnswersHead es result = MatchResult result (λ head. (head.size ≡ length es) × (head.root.0 ≡ mth sha256 es)) (λ _. ⊥)

-- the path of an entry in the tree over all entries, or want of memory
abbrev pub AnswersPath : List (List ℕ) → ℕ → Result (Vec Digest Global) NotaryErr → Type 0
AnswersPath es k result = MatchResult result (λ v. map (λ d. d.0) v.items ≡ path sha256 k (map (leaf sha256) es)) (λ e. e ≡ NoMemory)

-- the proof that this tree goes on from the one over the first m entries, or want of memory
abbrev pub AnswersProof : List (List ℕ) → ℕ → Result (Vec Digest Global) NotaryErr → Type 0
AnswersProof es m result = MatchResult result (λ v. map (λ d. d.0) v.items ≡ proof sha256 m (map (leaf sha256) es)) (λ e. e ≡ NoMemory)
