-- Proofs as they are made, what is answered where there is none, and who accepts them.
use Rattle.std.specs.Prelude.{◌≡◌, ◌⊎◌, ℕ, ◌==◌, Bool, true, false, if◌then◌else◌, List, length, take, Some, None, Result, Ok, Err, ⊤}
use Rattle.sha2.specs.Sha256.{sha256}
use Rattle.ledger_bytes.specs.Causes.{count_after}
use Rattle.ledger_bytes.specs.Codes.{refusal_code}
use Rattle.ledger_bytes.specs.Digests.{digest}
use Rattle.ledger_bytes.specs.declared.digest.Digest.{Digest}
use Rattle.ledger_bytes.specs.declared.refusal.Refusal.{Refusal}
use Rattle.ledger_bytes.specs.declared.refusal.Refusal.TheVariants.{NoJournal, Purged, NotaryFault}
use Rattle.tree_model.specs.Tree.{mth}
use Rattle.merkle_tree.specs.declared.head.Head.{Head}
use Rattle.merkle_batch.specs.declared.tree.TreeErr.{TreeErr}
use Rattle.merkle_batch.specs.declared.tree.TreeErr.TheVariants as tree_err
use Rattle.time_peg.specs.declared.notary.NotaryErr.{NotaryErr}
use Rattle.time_peg.specs.declared.notary.NotaryErr.TheVariants as notary_err
use Rattle.proof_codec.specs.Claims.{claim_of}
use Rattle.proof_codec.specs.Proofs.{Shown, IsProof, spelling}
use Rattle.ledger_model.specs.Bounds.{has_bound}
use Rattle.ledger_model.specs.History.{History, id, size, root}
use Rattle.ledger_model.specs.Proofs.{shown_of, prove_refusal, extend_refusal, size_refusal, extension_in, list_extension}
use Rattle.ledger_book.specs.Seals.{head_at}
use Rattle.script_lines.specs.declared.said.Which.{Which}
use Rattle.script_lines.specs.declared.said.Which.TheVariants.{Ledger, Notary}
use Rattle.audit_core.specs.Trust.{Trust, ledger_at, root_of}
use Rattle.proof_maker.specs.declared.made.Made.{Made}
use Rattle.proof_maker.specs.declared.made.MadeExtension.{MadeExtension}
use Rattle.proof_maker.specs.declared.made.MakeErr.{MakeErr}
use Rattle.proof_maker.specs.declared.made.MakeErr.TheVariants.{Refused, NoMemory}

-- ---- what is made

-- the head over all entries of a notary's list
abbrev pub head_over : List (List ℕ) → Head
head_over es = record { size = length es; root = digest (mth sha256 es) }

-- what was made is a proof: its bytes spell what is shown, and its claim is the proof's
pub record IsMade (shown : Shown) (made : Made) : Type 0 where
  pub is_proof : IsProof shown
  pub claim_is : made.claim ≡ claim_of shown
  pub proof_is : made.proof ≡ spelling shown

-- what was made is the head over all journals, and the proof that the ledger goes on from its first m
pub record IsExtended (h : History) (m : ℕ) (made : MadeExtension) : Type 0 where
  pub head_is : made.head ≡ head_at h (size h)
  pub proof_is : made.proof ≡ extension_in h m

-- what was made is the head over all entries of a notary's list, and the proof that it goes on from its first m
pub record IsListExtended (es : List (List ℕ)) (m : ℕ) (made : MadeExtension) : Type 0 where
  pub size_is : made.head.size ≡ length es
  pub root_is : made.head.root.0 ≡ mth sha256 es
  pub proof_is : made.proof ≡ list_extension es m

-- ---- what is answered

-- What comes where a proof of journal n is to be made, and the notary's list is this: the proof where nothing refuses it, and
-- why there is none where something does. One with a bound may also fail by the notary.
abbrev pub Proves : History → List (List ℕ) → ℕ → Result Made MakeErr → Type 0
Proves h es n (Ok made) = (prove_refusal h n ≡ None) × IsMade (shown_of h es n) made
Proves h es n (Err (Refused why)) =
    (prove_refusal h n ≡ Some why) ⊎ ((why ≡ NotaryFault) × (has_bound h n ≡ true) × (prove_refusal h n ≡ None))
Proves h es n (Err NoMemory) = prove_refusal h n ≡ None

-- What comes where a proof of journal n is to be made from its leaf and path, and the notary's list is this: the proof; one with
-- a bound may fail by the notary.
abbrev pub ProvesFrom : History → List (List ℕ) → ℕ → Result Made MakeErr → Type 0
ProvesFrom h es n (Ok made) = IsMade (shown_of h es n) made
ProvesFrom h es n (Err (Refused why)) = (why ≡ NotaryFault) × (has_bound h n ≡ true)
ProvesFrom h es n (Err NoMemory) = ⊤

-- what comes where an extension of the ledger's first m journals is to be made: the extension, or why there is none
abbrev pub Extends : History → ℕ → Result MadeExtension MakeErr → Type 0
Extends h m (Ok made) = (extend_refusal h m ≡ None) × IsExtended h m made
Extends h m (Err (Refused why)) = extend_refusal h m ≡ Some why
Extends h m (Err NoMemory) = extend_refusal h m ≡ None

-- what comes where an extension of the first m entries of a notary's list is to be made; the notary may fail before anything
-- else is known
abbrev pub ExtendsList : List (List ℕ) → ℕ → Result MadeExtension MakeErr → Type 0
ExtendsList es m (Ok made) = (size_refusal (length es) m ≡ None) × IsListExtended es m made
ExtendsList es m (Err (Refused why)) = (size_refusal (length es) m ≡ Some why) ⊎ (why ≡ NotaryFault)
ExtendsList es m (Err NoMemory) = size_refusal (length es) m ≡ None

-- what comes where an extension of one of the two trees is to be made
abbrev pub ExtendsWhich : Which → History → List (List ℕ) → ℕ → Result MadeExtension MakeErr → Type 0
ExtendsWhich Ledger h es m result = Extends h m result
ExtendsWhich Notary h es m result = ExtendsList es m result

-- so many first ones are refused where they are none, or more than there are
abbrev pub ChecksSize : ℕ → ℕ → Result Unit MakeErr → Type 0
ChecksSize size m (Ok done) = size_refusal size m ≡ None
ChecksSize size m (Err (Refused why)) = size_refusal size m ≡ Some why
ChecksSize size m (Err NoMemory) = ⊥

-- a refusal is a failure of the notary: it has the code of one
abbrev pub is_fault : Refusal → Bool
is_fault why = refusal_code why == refusal_code NotaryFault

-- the count of the notary's faults rises by one exactly where its failure is answered; at the end of its type it stays
abbrev pub CountsFaults : {A : Type 0} → Result A MakeErr → ℕ → ℕ → Type 0
CountsFaults (Ok made) before now = now ≡ before
CountsFaults (Err (Refused why)) before now = now ≡ (if is_fault why then count_after before else before)
CountsFaults (Err NoMemory) before now = now ≡ before

-- a call that asks no notary answers no failure of one
abbrev pub NeverFaults : {A : Type 0} → Result A MakeErr → Type 0
NeverFaults (Ok made) = ⊤
NeverFaults (Err (Refused why)) = is_fault why ≡ false
NeverFaults (Err NoMemory) = ⊤

-- the answer to a tree that has no such leaf, or to its want of memory
abbrev pub of_tree : TreeErr → MakeErr
of_tree (tree_err.Below p) = Refused (Purged p)
of_tree (tree_err.Beyond size) = Refused (NoJournal size)
of_tree tree_err.NoMemory = NoMemory

-- the answer to a notary that fails; that its list is full comes of no call that a proof needs
abbrev pub of_notary : NotaryErr → MakeErr
of_notary notary_err.Failed = Refused NotaryFault
of_notary notary_err.Full = Refused NotaryFault
of_notary notary_err.NoMemory = NoMemory

-- ---- who accepts it

-- an auditor trusts the head over all journals, as one of this ledger
abbrev pub TrustsHead : Trust → History → Type 0
TrustsHead trust h = ledger_at trust (size h) ≡ Some (record { id = digest (id h); root = digest (root h (size h)) })

-- an auditor trusts the head over all entries of the notary's list
abbrev pub TrustsList : Trust → List (List ℕ) → Type 0
TrustsList trust es = root_of Notary trust (length es) ≡ Some (digest (mth sha256 es))

-- an auditor trusts this root for the first m of a tree, and for the size of a head no other root than that head's
pub record TrustsFirst (which : Which) (trust : Trust) (m size : ℕ) (first root : Digest) : Type 0 where
  pub trusted : root_of which trust m ≡ Some first
  pub agrees : (kept : Digest) → root_of which trust size ≡ Some kept → kept ≡ root

-- an auditor trusts the root over the ledger's first m journals, and for its size no other root than that over all
abbrev pub TrustsJournals : Trust → History → ℕ → Type 0
TrustsJournals trust h m = TrustsFirst Ledger trust m (size h) (digest (root h m)) (digest (root h (size h)))

-- an auditor trusts the root over the first m entries of the notary's list, and for its length no other root than that over all
abbrev pub TrustsEntries : Trust → List (List ℕ) → ℕ → Type 0
TrustsEntries trust es m = TrustsFirst Notary trust m (length es) (digest (mth sha256 (take m es))) (digest (mth sha256 es))

-- an auditor trusts such a root of one of the two trees
abbrev pub TrustsWhich : Which → Trust → History → List (List ℕ) → ℕ → Type 0
TrustsWhich Ledger trust h es m = TrustsJournals trust h m
TrustsWhich Notary trust h es m = TrustsEntries trust es m
