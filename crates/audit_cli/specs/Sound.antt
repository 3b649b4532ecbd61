-- What stands behind each `yes` in the text of an audit.
use Rattle.std.specs.Prelude.{◌≡◌, ◌⊎◌, ℕ, ◌+◌, true, List, [], ◌∷◌, ◌++◌, length, get_or, codes, decimal, Some, Ok}
use Rattle.std.specs.Io.KnownBytes.{Consumes, Appends, IsAtEnd}
use Rattle.ledger_bytes.specs.declared.digest.Digest.{Digest}
use Rattle.ledger_io.specs.Lines.{lines_of}
use Rattle.ledger_io.specs.Outside.{Outside}
use Rattle.merkle_tree.specs.declared.head.Head.{Head}
use Rattle.proof_codec.specs.declared.claim.Claim.{Claim}
use Rattle.proof_codec.specs.Proofs.{Shown, is_bounded}
use Rattle.proof_codec.specs.Reading.{proof_of}
use Rattle.script_lines.specs.declared.said.Which.{Which}
use Rattle.script_lines.specs.declared.said.Which.TheVariants.{Ledger, Notary}
use Rattle.tree_model.specs.Tree.{Hash, mth}
use Rattle.tree_model.specs.Clash.{Clashes, IsClash}
use Rattle.audit_core.specs.Trust.{Trust, root_of}
use Rattle.audit_core.specs.Judgement.{leaf_clash}
use Rattle.audit_core.specs.Truth.{Lists, HasJournal, IsTrueOf}
use Rattle.audit_core.specs.Honest.{IsHonest, AreMoments}
use Rattle.audit_core.specs.Chains.{lists_until, BeginsWith, Extension, chain_clash, reached_clash}
use Rattle.audit_cli.specs.declared.line.Line.{Line}
use Rattle.audit_cli.specs.declared.line.Line.TheVariants.{Extend, Check, Judge}
use Rattle.audit_cli.specs.declared.reply.Reply.{Reply}
use Rattle.audit_cli.specs.declared.reply.Reply.TheVariants.{Yes, Clash}
use Rattle.audit_cli.specs.Grammar.{line_of}
use Rattle.audit_cli.specs.Replies.{reply_words}
use Rattle.audit_cli.specs.Texts.{trusted_behind}
use Rattle.script_lines.specs.Words.{spaced_words}

-- the line of a script behind these asks for this, and the text that answers the script has this reply there, with its number
pub record Says (lines : List (List ℕ)) (text : List ℕ) (before : List (List ℕ)) (asked : Line) (reply : Reply) : Type 0 where
  pub line : List ℕ
  pub rest : List (List ℕ)
  pub place : lines ≡ before ++ line ∷ rest
  pub asks : line_of line ≡ Ok asked
  pub told : get_or (lines_of text) (length before) [] ≡ decimal (length before + 1) ++ spaced_words (reply_words reply)

-- the text has the reply `yes` there
abbrev pub SaysYes : List (List ℕ) → List ℕ → List (List ℕ) → Line → Type 0
SaysYes lines text before asked = Says lines text before asked Yes

-- ---- heads that a script goes on to

-- an extension that a line of the script asks for, to the head of this size and root: the text reads `yes` there, and the
-- old root is the one that is trusted in front of that line
pub record Extends (hash : Hash) (lines : List (List ℕ)) (text : List ℕ) (which : Which) (e : Extension) (size : ℕ) (root : List ℕ) : Type 0 where
  pub before : List (List ℕ)
  pub head : Head
  pub says : SaysYes lines text before (Extend which e.m head e.digests)
  pub old : Digest
  pub trusted : root_of which (trusted_behind hash before) e.m ≡ Some old
  pub old_is : e.old ≡ old.0
  pub size_is : head.size ≡ size
  pub root_is : head.root.0 ≡ root

-- the script's extensions, the last one first, lead from one head to another
unfoldable pub ScriptLeads : Hash → List (List ℕ) → List ℕ → Which → ℕ → List ℕ → List Extension → ℕ → List ℕ → Type 0
ScriptLeads hash lines text which m old [] size root = (m ≡ size) × (old ≡ root)
ScriptLeads hash lines text which m old (e ∷ es) size root =
    Extends hash lines text which e size root × ScriptLeads hash lines text which m old es e.m e.old

-- extensions lead from the trusted root of a size to the list's own head; where there are none that is the trusted one
pub record IsLed (hash : Hash) (lines : List (List ℕ)) (text : List ℕ) (which : Which) (trust : Trust) (size : ℕ) (extensions : List Extension) (list : List (List ℕ)) : Type 0 where
  pub root : Digest
  pub trusted : root_of which trust size ≡ Some root
  pub leads : ScriptLeads hash lines text which size root.0 extensions (length list) (mth hash list)

-- the script's extensions lead from the heads that a proof names to those of the lists: of the ledger with the trusted id, and
-- where the proof has a bound of its notary
pub record AreLed (hash : Hash) (lines : List (List ℕ)) (text : List ℕ) (trust : Trust) (p : Shown) (ledger notary : List Extension) (lists : Lists) : Type 0 where
  pub id : trust.id ≡ Some lists.id
  pub headers : IsLed hash lines text Ledger trust p.size ledger lists.headers
  pub entries : is_bounded p.lo p.hi ≡ true → IsLed hash lines text Notary trust p.notary_size notary lists.entries

-- ---- what is so

-- a line that ends with these words ends with those of two strings that clash, as a reply tells them
pub record ShowsClash (hash : Hash) (words : List (List ℕ)) : Type 0 where
  pub told : List ℕ
  pub truth : List ℕ
  pub spelled : spaced_words (reply_words (Clash told truth)) ++ codes "\n" ≡ spaced_words words ++ codes "\n"
  pub clash : IsClash hash told truth

-- a claim is true of the lists, and where the notary is honest its bounds are moments
pub record IsTrueInTime (hash : Hash) (lists : Lists) (claim : Claim) : Type 0 where
  pub holds : IsTrueOf hash lists claim
  pub moments : (moments : List ℕ) → IsHonest hash lists moments → AreMoments moments claim

-- what a text says of the lines of a script is so, or two different strings with one digest are shown
pub record IsSoundText (hash : Hash) (lines : List (List ℕ)) (text : List ℕ) : Type 0 where
  -- A claim that was checked is true of all lists under the heads that its proof names, and under those that the script's
  -- extensions lead to from these.
  pub checked : (before : List (List ℕ)) (claim : Claim) (bytes : List ℕ) (p : Shown) (ledger notary : List Extension) (lists : Lists)
      → SaysYes lines text before (Check claim bytes) → proof_of bytes ≡ Ok p
      → AreLed hash lines text (trusted_behind hash before) p ledger notary lists
      → IsTrueInTime hash lists claim ⊎ Clashes hash (reached_clash hash lists p ledger notary)
  -- Its journal is that of each list of headers to which the ledger's extensions lead, whatever is known of the notary.
  pub journal : (before : List (List ℕ)) (claim : Claim) (bytes : List ℕ) (p : Shown) (ledger : List Extension) (lists : Lists)
      → SaysYes lines text before (Check claim bytes) → proof_of bytes ≡ Ok p
      → IsLed hash lines text Ledger (trusted_behind hash before) p.size ledger lists.headers
      → HasJournal hash lists claim.n claim.leaf
      ⊎ (Clashes hash (chain_clash hash lists.headers ledger) ⊎ Clashes hash (leaf_clash hash (lists_until p.size lists) p))
  -- Each list under a head that the script's extensions lead to begins with items under the one that they lead from.
  pub extended : (which : Which) (m : ℕ) (old : List ℕ) (extensions : List Extension) (list : List (List ℕ))
      → ScriptLeads hash lines text which m old extensions (length list) (mth hash list)
      → BeginsWith hash list m old ⊎ Clashes hash (chain_clash hash list extensions)
  -- Where two strings stand beside `clash`, these are different and have one digest.
  pub judged : (before : List (List ℕ)) (id : Digest) (headers entries : List ℕ) (claim : Claim) (bytes told truth : List ℕ)
      → Says lines text before (Judge id headers entries claim bytes) (Clash told truth)
      → ShowsClash hash (reply_words (Clash told truth))

-- a run that read a script to its end, and wrote a text of which all that it says is so
pub record SoundRun (hash : Hash) (before after : Outside) : Type 0 where
  pub read : List ℕ
  pub text : List ℕ
  pub consumed : Consumes before.source.left after.source.left read
  pub at_end : IsAtEnd after.source.left
  pub written : Appends before.sink.held after.sink.held text
  pub sound : IsSoundText hash (lines_of read) text
