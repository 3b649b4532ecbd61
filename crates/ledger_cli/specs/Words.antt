-- The words of the command line.
use Rattle.std.specs.Prelude.{⊤, ℕ, ◌-◌, ◌^◌, ◌<◌, ◌≤◌, ◌&&◌, nat_eq, nat_le, nat_lt, Bool, true, if◌then◌else◌, List, [], ◌∷◌, length, codes, Option, Some, None, option_map}
use Rattle.ledger_model.specs.declared.genesis.Genesis.{Genesis}
use Rattle.std.specs.Cmp.Lexicographic.{pointwise}
use Rattle.script_lines.specs.Parts.{all_of, parts}
use Rattle.script_lines.specs.Spellings.{◌>>=◌, digest_of, name_of, number_of}
use Rattle.ledger_cli.specs.Chaining.{HasRange, asked_key, asked_signature}
use Rattle.journal_record.specs.Request.{clue_digest_of}
use Rattle.ledger_bytes.specs.Digests.{digest}
use Rattle.ledger_bytes.specs.declared.digest.Digest.{Digest}
use Rattle.ledger_cli.specs.Signing.{clue_of_word, request_of}
use Rattle.survivor_set.specs.Keeping.{AreAscending}
use Rattle.ledger_cli.specs.declared.words.Command.{Command}
use Rattle.ledger_cli.specs.declared.words.Command.TheVariants.{Dry, Init, Run, Export, Lineage, Board, Keep, Carry, Revive, Sign, Chain, Soak}

-- the ledger that a name and two keys make, where they are of their forms
abbrev pub genesis_of : List ℕ → List ℕ → List ℕ → Option Genesis
genesis_of name_word operator_word regulator_word = do
  name ← name_of name_word
  operator ← digest_of operator_word
  regulator ← digest_of regulator_word
  Some (record { name = name; operator = operator; regulator = regulator })

-- what the words behind `dry` ask for: `NAME OPKEY REGKEY`, a new ledger and a run on it
abbrev pub dry_of : List ℕ → List ℕ → List ℕ → Option Command
dry_of name operator regulator = option_map Dry (genesis_of name operator regulator)

-- what the words behind `init` ask for: `DIR NAME OPKEY REGKEY`, a new ledger in a folder, whose name has at least one byte
abbrev pub init_of : List ℕ → List ℕ → List ℕ → List ℕ → Option Command
init_of [] name operator regulator = None
init_of (byte ∷ bytes) name operator regulator = option_map Init (genesis_of name operator regulator)

-- what the word behind `run`, `export` or `revive` asks for: `DIR`, the ledger in a folder, whose name has at least one byte
abbrev pub in_folder : Command → List ℕ → Option Command
in_folder command [] = None
in_folder command (byte ∷ bytes) = Some command

-- the lineage of a clue from an ordinal on, which is at least 1
abbrev pub lineage_from : Digest → ℕ → Option Command
lineage_from clue from = if nat_eq from 0 then None else Some (Lineage clue from)

-- what the words behind `lineage DIR` ask for: `NAME FROM`, the lineage of the clue with this name, from an ordinal on
abbrev pub lineage_in : List ℕ → List ℕ → Option Command
lineage_in name_word from_word = do
  name ← clue_of_word name_word
  from ← number_of (2 ^ 32 - 1) from_word
  lineage_from (digest (clue_digest_of name)) from

-- what the words behind `lineage` ask for: `DIR NAME FROM`, in the ledger in a folder, whose name has at least one byte
unfoldable pub lineage_of : List ℕ → List ℕ → List ℕ → Option Command
lineage_of [] name from = None
lineage_of (byte ∷ bytes) name from = lineage_in name from

-- a run with provers beside it, at least one, each of which makes at least one proof
abbrev pub board_from : ℕ → ℕ → Option Command
board_from provers count = if nat_eq provers 0 then None else if nat_eq count 0 then None else Some (Board provers count)

-- what the words behind `board DIR` ask for: `K COUNT`, at most 8 provers, with at most 100,000 proofs each
abbrev pub board_in : List ℕ → List ℕ → Option Command
board_in provers_word count_word = do
  provers ← number_of 8 provers_word
  count ← number_of 100000 count_word
  board_from provers count

-- what the words behind `board` ask for: `DIR K COUNT`, on the ledger in a folder, whose name has at least one byte
unfoldable pub board_of : List ℕ → List ℕ → List ℕ → Option Command
board_of [] provers count = None
board_of (byte ∷ bytes) provers count = board_in provers count

-- ---- sets of survivors

-- a journal's number
abbrev pub any_number : List ℕ → Option ℕ
any_number text = number_of (2 ^ 64 - 1) text

-- each number is above the one in front of it
abbrev pub is_ascending : List ℕ → Bool
is_ascending [] = true
is_ascending (n ∷ []) = true
is_ascending (n ∷ m ∷ ns) = nat_lt n m && is_ascending (m ∷ ns)

-- the same numbers, where they are in ascending order
abbrev pub in_order : Option (List ℕ) → Option (List ℕ)
in_order None = None
in_order (Some ns) = if is_ascending ns then Some ns else None

-- the numbers that a text tells with commas between
abbrev pub numbers_told : List ℕ → Option (List ℕ)
numbers_told text = all_of any_number (parts 44 text)

-- Journals' numbers with commas between: 1 to 64 of them, each above the one in front of it.
-- Example: `2,5,11` are 2, 5 and 11; `5,2`, `2,2`, `2,` and `02` are none.
unfoldable pub numbers_of : List ℕ → Option (List ℕ)
numbers_of text = if nat_le (length (parts 44 text)) 64 then in_order (numbers_told text) else None

-- what the words behind `keep DIR` ask for: `POINT LIST`, the set of these journals in front of a time journal
abbrev pub keep_in : List ℕ → List ℕ → Option Command
keep_in point_word list_word = do
  point ← any_number point_word
  numbers ← numbers_of list_word
  Some (Keep point (record { items = numbers }))

-- what the words behind `keep` ask for: `DIR POINT LIST`, in the ledger in a folder, whose name has at least one byte
unfoldable pub keep_of : List ℕ → List ℕ → List ℕ → Option Command
keep_of [] point_word list_word = None
keep_of (byte ∷ bytes) point_word list_word = keep_in point_word list_word

-- what the words behind `carry` ask for: `DIR POINT`, a set of survivors carried on in the ledger in a folder
unfoldable pub carry_of : List ℕ → List ℕ → Option Command
carry_of [] point_word = None
carry_of (byte ∷ bytes) point_word = option_map Carry (any_number point_word)

-- ---- the other commands

-- what the words behind `sign` ask for: a verb and its words, which a key is to prove on the ledger with this id
abbrev pub sign_of : List ℕ → List ℕ → List ℕ → List (List ℕ) → Option Command
sign_of id_word key_word verb words = do
  id ← digest_of id_word
  key ← digest_of key_word
  request ← request_of verb words
  Some (Sign (record { id = id; key = key; request = request }))

-- a soak of so many jobs from a seed on, at least one, on disks that stop after so many calls
abbrev pub soak_from : ℕ → ℕ → ℕ → Option Command
soak_from seed count stop = if nat_eq count 0 then None else Some (Soak seed count stop)

-- what the words behind `soak` ask for: `SEED COUNT STOP`, at most 100,000 random jobs on a new ledger in memory, with at most
-- 1,000,000 calls to a stop
unfoldable pub soak_of : List ℕ → List ℕ → List ℕ → Option Command
soak_of seed_word count_word stop_word = do
  seed ← number_of (2 ^ 64 - 1) seed_word
  count ← number_of 100000 count_word
  stop ← number_of 1000000 stop_word
  soak_from seed count stop

-- what five words ask for that begin with `init`; other numbers of words ask for nothing
abbrev pub init_from : List ℕ → List ℕ → List ℕ → List (List ℕ) → Option Command
init_from folder name operator (regulator ∷ []) = init_of folder name operator regulator
init_from folder name operator words = None

-- what the words behind `chainkey` ask for
abbrev pub key_of : List ℕ → List ℕ → Option Command
key_of seed size = option_map Chain (asked_key seed size)

-- what five words ask for that begin with `chainsign`; other numbers of words ask for nothing
abbrev pub chain_sign_from : List ℕ → List ℕ → List ℕ → List (List ℕ) → Option Command
chain_sign_from seed size index (message ∷ []) = option_map Chain (asked_signature seed size index message)
chain_sign_from seed size index words = None

-- what two words ask for: they may be those of `run`, `export` or `revive`
abbrev pub of_two : List ℕ → List ℕ → Option Command
of_two verb folder =
    if pointwise nat_eq verb (codes "run") then in_folder Run folder
    else if pointwise nat_eq verb (codes "export") then in_folder Export folder
    else if pointwise nat_eq verb (codes "revive") then in_folder Revive folder
    else None

-- what three words ask for: they may be those of `chainkey` or `carry`
abbrev pub of_three : List ℕ → List ℕ → List ℕ → Option Command
of_three verb second third =
    if pointwise nat_eq verb (codes "chainkey") then key_of second third
    else if pointwise nat_eq verb (codes "carry") then carry_of second third
    else None

-- what four words ask for: they may be those of `dry`, `soak`, `lineage`, `keep` or `board`
unfoldable pub of_four : List ℕ → List ℕ → List ℕ → List ℕ → Option Command
of_four verb second third fourth =
    if pointwise nat_eq verb (codes "dry") then dry_of second third fourth
    else if pointwise nat_eq verb (codes "soak") then soak_of second third fourth
    else if pointwise nat_eq verb (codes "lineage") then lineage_of second third fourth
    else if pointwise nat_eq verb (codes "keep") then keep_of second third fourth
    else if pointwise nat_eq verb (codes "board") then board_of second third fourth
    else None

-- what five words and more ask for: they may be those of `init`, `sign` or `chainsign`
abbrev pub of_more : List ℕ → List ℕ → List ℕ → List ℕ → List (List ℕ) → Option Command
of_more verb second third fourth words =
    if pointwise nat_eq verb (codes "sign") then sign_of second third fourth words
    else if pointwise nat_eq verb (codes "init") then init_from second third fourth words
    else if pointwise nat_eq verb (codes "chainsign") then chain_sign_from second third fourth words
    else None

-- what the words of the command line ask for: `run DIR`, `export DIR`, `revive DIR`, `carry DIR POINT`, `chainkey SEED SIZE`,
-- `dry NAME OPKEY REGKEY`, `soak SEED COUNT STOP`, `lineage DIR NAME FROM`, `keep DIR POINT LIST`, `board DIR K COUNT`,
-- `init DIR NAME OPKEY REGKEY`, `chainsign SEED SIZE INDEX MESSAGE`, or `sign ID KEY` and then a request
abbrev pub command_of : List (List ℕ) → Option Command
command_of (verb ∷ folder ∷ []) = of_two verb folder
command_of (verb ∷ seed ∷ size ∷ []) = of_three verb seed size
command_of (verb ∷ name ∷ operator ∷ regulator ∷ []) = of_four verb name operator regulator
command_of (verb ∷ second ∷ third ∷ fourth ∷ fifth ∷ words) = of_more verb second third fourth (fifth ∷ words)
command_of words = None

-- numbers of journals that can be kept: 1 to 64 in ascending order
pub record AreKeepable (ns : List ℕ) : Type 0 where
  pub some : 1 ≤ length ns
  pub few : length ns ≤ 64
  pub ascending : AreAscending ns

-- the numbers of a command are in their ranges: those that make a key or a signature from a seed, and those of journals to keep; and a board has a prover
abbrev pub HasSizes : Command → Type 0
HasSizes (Chain text) = HasRange text
HasSizes (Dry genesis) = ⊤
HasSizes (Init genesis) = ⊤
HasSizes Run = ⊤
HasSizes Export = ⊤
HasSizes (Lineage clue from) = ⊤
HasSizes (Board provers count) = 0 < provers
HasSizes (Keep point numbers) = AreKeepable numbers.items
HasSizes (Carry point) = ⊤
HasSizes Revive = ⊤
HasSizes (Sign signing) = ⊤
HasSizes (Soak seed count stop) = ⊤
