-- The words of the command line.
use Rattle.std.specs.Prelude.{ℕ, ◌-◌, ◌^◌, List, Option, Some, option_and_then}
use Rattle.audit_words.specs.Words.{Asked, asked_by, script, dump, lineage}
use Rattle.journal_record.specs.Request.{clue_digest_of}
use Rattle.ledger_bytes.specs.Digests.{digest}
use Rattle.ledger_bytes.specs.declared.digest.Digest.{Digest}
use Rattle.merkle_tree.specs.declared.head.Head.{Head}
use Rattle.script_lines.specs.Spellings.{◌>>=◌, clue_of, digest_of, number_of}
use Rattle.audit_cli.specs.declared.words.Command.{Command}
use Rattle.audit_cli.specs.declared.words.Command.TheVariants.{Script, Dump, Lineage}

-- a head by the words for its size and its root, where they are a number and a digest
abbrev pub head_of : List ℕ → List ℕ → Option Head
head_of size_word root_word = do
  size ← number_of (2 ^ 64 - 1) size_word
  root ← digest_of root_word
  Some (record { size = size; root = root })

-- what the words behind `dump` ask for, where each is of its form
abbrev pub dump_for : List ℕ → List ℕ → List ℕ → List ℕ → List ℕ → Option Command
dump_for id_word size root notary_size notary_root = do
  id ← digest_of id_word
  ledger ← head_of size root
  notary ← head_of notary_size notary_root
  Some (Dump id ledger notary)

-- the digest of a clue's name; no clue, as `-`, has 32 zero bytes
abbrev pub named_clue : List ℕ → Digest
named_clue name = digest (clue_digest_of name)

-- what the words behind `lineage` ask for, where each is of its form
abbrev pub lineage_for : List ℕ → List ℕ → List ℕ → Option Command
lineage_for name_word size root = do
  name ← clue_of name_word
  head ← head_of size root
  Some (Lineage (named_clue name) head)

-- what is asked for, where the words behind a subcommand are of their forms
abbrev pub command_for : Asked → Option Command
command_for script = Some Script
command_for (dump id size root notary_size notary_root) = dump_for id size root notary_size notary_root
command_for (lineage name size root) = lineage_for name size root

-- what the words of the command line ask for; None where `clap` refuses them or one of them isn't of its form
abbrev pub command_of : List (List ℕ) → Option Command
command_of words = option_and_then command_for (asked_by words)
