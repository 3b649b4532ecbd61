-- The words of the command line of `auditctl`: its command as `clap` has it, and what the words ask for.
use Rattle.std.specs.Prelude.{◌==◌, not, Bool, true, List, [], ◌∷◌, Option, Some, None, codes, option_and_then, if◌then◌else◌}
use Rattle.std.specs.Str.{bytes_eq}
use Rattle.clap.specs.Walk.{Row, Rule, Text, first_of}
use Rattle.clap.specs.Simple.{App, new_app, new_rule, with_rule, with_subcommand, on_top, subcommand_of}
use Rattle.clap.specs.Faults.{fault_of}
use Rattle.clap.specs.Kinds.{Kinds}
use Rattle.audit_words.specs.declared.words.Wanted.{Wanted}
use Rattle.audit_words.specs.declared.words.Wanted.TheVariants.{Script, Dump, Lineage}

-- a word that has to be there, by its name in the command
abbrev pub needed : Text → Rule
needed name = record (new_rule name) { required = true }

-- `dump` with its five words
abbrev pub dump_app : App
dump_app = with_rule (with_rule (with_rule (with_rule (with_rule (new_app (codes "dump")) (needed (codes "ID"))) (needed (codes "SIZE"))) (needed (codes "ROOT"))) (needed (codes "NSIZE"))) (needed (codes "NROOT"))

-- `lineage` with its three words
abbrev pub lineage_app : App
lineage_app = with_rule (with_rule (with_rule (new_app (codes "lineage")) (needed (codes "NAME"))) (needed (codes "SIZE"))) (needed (codes "ROOT"))

-- the command without its subcommands
abbrev pub bare_app : App
bare_app = on_top (λ s. record s { no_binary_name = true; disable_help_flag = true; disable_help_subcommand = true; subcommand_required = true }) (new_app (codes "auditctl"))

-- the command: the words begin with a subcommand, and there is no help
abbrev pub audit_app : App
audit_app = with_subcommand (with_subcommand (with_subcommand bare_app (new_app (codes "script")).top) dump_app.top) lineage_app.top

-- what words ask for, in texts
pub data Asked : Type 0 where
  -- the answers to an audit script
  script : Asked
  -- the full audit of a dump, against a ledger's id, the size and the root of its head, and those of its notary's
  dump : Text → Text → Text → Text → Text → Asked
  -- whether the records of a clue are accepted, by its name and the size and the root of a head
  lineage : Text → Text → Text → Asked

-- the five words of a dump, where they are there
abbrev pub dump_of : Option Text → Option Text → Option Text → Option Text → Option Text → Option Asked
dump_of (Some id) (Some size) (Some root) (Some notary_size) (Some notary_root) = Some (dump id size root notary_size notary_root)
dump_of id size root notary_size notary_root = None

-- the three words of a lineage, where they are there
abbrev pub lineage_of : Option Text → Option Text → Option Text → Option Asked
lineage_of (Some name) (Some size) (Some root) = Some (lineage name size root)
lineage_of name size root = None

-- what a subcommand with its words asks for
abbrev pub found_in : Text × List Row → Option Asked
found_in met =
    if bytes_eq met.0 (codes "script") then Some script
    else (if bytes_eq met.0 (codes "dump") then dump_of (first_of (codes "ID") met.1) (first_of (codes "SIZE") met.1) (first_of (codes "ROOT") met.1) (first_of (codes "NSIZE") met.1) (first_of (codes "NROOT") met.1)
    else lineage_of (first_of (codes "NAME") met.1) (first_of (codes "SIZE") met.1) (first_of (codes "ROOT") met.1))

-- what `clap` finds in the words, by its own definition
abbrev pub found_by : List Text → Option Asked
found_by words = option_and_then found_in (subcommand_of audit_app words)

-- what `clap` refuses the words for, by its own definition; nothing where it takes them
abbrev pub fault_by : List Text → Kinds
fault_by words = fault_of audit_app words

-- what was found, unless there is a fault
abbrev pub asked_from : Kinds → Option Asked → Option Asked
asked_from [] found = found
asked_from (kind ∷ kinds) found = None

-- what the words ask for; None where `clap` refuses them. `words_are_read` says of which words this is so
abbrev pub asked_by : List Text → Option Asked
asked_by words = asked_from (fault_by words) (found_by words)

-- what a program was told, as texts
abbrev pub told : Wanted → Asked
told Script = script
told (Dump id size root notary_size notary_root) = dump id.now size.now root.now notary_size.now notary_root.now
told (Lineage name size root) = lineage name.now size.now root.now

-- the word doesn't begin with a hyphen
abbrev pub is_plain_word : Text → Bool
is_plain_word [] = true
is_plain_word (byte ∷ bytes) = not (byte == 45)
