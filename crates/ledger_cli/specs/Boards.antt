-- The board beside a run: what is known of it, and what is written of its provers.
use Rattle.std.specs.Prelude.{◌≡◌, ◌⊎◌, ⊤, ℕ, ◌+◌, ◌-◌, ◌<◌, ◌≤◌, Bool, false, All, Contains, List, [], ◌∷◌, ◌++◌, codes, decimal, length, Option, Some, None, option_map, slice_get}
use mathlib.Core.List.{IsPrefix}
use Rattle.journal_record.specs.declared.header.Header.{Header}
use Rattle.ledger_book.specs.Books.{headers}
use Rattle.ledger_io.specs.Outside.{Outside}
use Rattle.ledger_io.specs.Runs.{Wrote}
use Rattle.ledger_io.specs.declared.ending.Ending.{Ending}
use Rattle.ledger_io.specs.declared.ending.Ending.TheVariants as run
use Rattle.ledger_model.specs.Growing.{Grows}
use Rattle.ledger_model.specs.History.{History, ends, point, size}
use Rattle.ledger_model.specs.Lawful.{gathers}
use Rattle.logbook.specs.Pages.{Book}
use Rattle.proof_board.specs.History.{Digests, all_leaves}
use Rattle.proof_board.specs.declared.view.Base.{Base}
use Rattle.proof_board.specs.declared.view.Growth.{Growth}
use Rattle.proof_board.specs.declared.hands.Tally.{Tally}
use Rattle.ledger_cli.specs.Endings.{line_of}
use Rattle.ledger_cli.specs.declared.ending.LedgerEnding.{LedgerEnding}
use Rattle.ledger_cli.specs.declared.ending.LedgerEnding.TheVariants.{Run, DiskFault, Damaged, Empty, Exists, NewerFormat, NotaryFault, Refused}

-- ---- what is known of a board

-- a board as its writer has it: what it shows, what was added and isn't published, and whether memory was missing for it
pub record Posted : Type 0 where
  pub growth : Growth
  pub waiting : Digests
  pub lacking : Bool

-- the same by its parts
abbrev pub posted : Growth → Digests → Bool → Posted
posted growth waiting lacking = record { growth = growth; waiting = waiting; lacking = lacking }

-- the size of the list of some batches on a base
abbrev pub list_size : Base → List Digests → ℕ
list_size base log = base.floor + length (all_leaves log)

-- the size of the list that is published
abbrev pub published_size : Growth → ℕ
published_size g = list_size g.base g.at.log

-- memory was missing for a board, where there is one
abbrev pub is_lacking : Option Posted → Bool
is_lacking None = false
is_lacking (Some p) = p.lacking

-- what stays of a board: its base, and which history it has
pub record Lasting : Type 0 where
  pub base : Base
  pub book : Book

-- what stays of this board
abbrev pub lasting : Posted → Lasting
lasting p = record { base = p.growth.base; book = p.growth.at.book }

-- what stays of a board, where there is one
abbrev pub lasting_of : Option Posted → Option Lasting
lasting_of board = option_map lasting board

-- ---- how a board follows a ledger

-- how many leaves a board may keep, but for those with which it began
abbrev pub board_limit : ℕ
board_limit = 1048576

-- a block of this history ended at this size
abbrev pub IsBlockEnd : History → ℕ → Type 0
IsBlockEnd h n = Contains (ends h) n

-- the last journal of a history is of a kind that shares no block
abbrev pub IsAlone : History → Type 0
IsAlone h = (x : Header) × (slice_get (headers h) (size h - 1) ≡ Some x) × (gathers x.kind ≡ false)

-- One history is next to another: it goes on from it, and each block that ended on the way ended where nothing waits any more, or in
-- front of a last journal that stands alone.
pub record IsNextTo (h g : History) : Type 0 where
  pub grows : Grows h g
  pub ended : (n : ℕ) → IsBlockEnd g n → IsBlockEnd h n ⊎ ((g.waiting ≡ []) × ((n ≡ size g) ⊎ ((n ≡ size g - 1) × IsAlone g)))

-- Example: blocks end at 1 and 4 in h, and journal 4 waits. Behind an anchor that gets its stamp blocks end at 1, 4, 5 and 6, and nothing
-- waits: the block that ended at 5 stands in front of journal 5, the anchor's, which stands alone.

-- A list of this size may have been published of this history by a board with this floor, which began with so many leaves: it ends where
-- a block does, and doesn't go beyond what the board may keep, or is the first.
pub record IsShownSize (first floor : ℕ) (h : History) (n : ℕ) : Type 0 where
  pub ended : IsBlockEnd h n
  pub few : (n ≤ floor + board_limit) ⊎ (n ≡ first)

-- The board that began with so many leaves follows this history: each list that it showed is one of those. Unless memory was missing,
-- nothing waits to be published, and the last list that it showed is as long as each that ends where a block does and that it may keep.
pub record IsPosted (first : ℕ) (h : History) (p : Posted) : Type 0 where
  pub shown : (log : List Digests) → IsPrefix log p.growth.at.log → 0 < length log → IsShownSize first p.growth.base.floor h (list_size p.growth.base log)
  pub some : 0 < length p.growth.at.log
  pub none_waits : p.lacking ≡ false → p.waiting ≡ []
  pub most : p.lacking ≡ false → (n : ℕ) → IsBlockEnd h n → n ≤ p.growth.base.floor + board_limit → n ≤ published_size p.growth

-- this history is followed by the board, where there is one
abbrev pub IsFollowed : ℕ → History → Option Posted → Type 0
IsFollowed first h None = ⊤
IsFollowed first h (Some p) = IsPosted first h p

-- What is so of a board that follows, where there is one, after a run from h to g: it follows g, where it followed h, nothing waits in g,
-- and memory wasn't missing for it.
pub record HasFollowed (before now : Option Posted) (h g : History) : Type 0 where
  pub follows : (first : ℕ) → IsFollowed first h before → IsFollowed first g now
  pub none_waits : g.waiting ≡ []
  pub none_lacks : is_lacking now ≡ false

-- ---- the sizes that are told

-- What is told of sizes beside a run from h to g, whose board keeps no leaves in front of the point of h. Each is that of a list that may
-- have been published: it ends where a block of g does, and doesn't go beyond what the board may keep, or is all of h. None that a prover
-- saw is greater than the one that was published last. That is as great as each end of a block of g that the board may keep, and is all of
-- g, where the board may keep that.
pub record TellsSizes (tallies : List Tally) (published : ℕ) (h g : History) : Type 0 where
  pub seen : All (λ t. IsShownSize (size h) (point h) g t.size) tallies
  pub last : IsShownSize (size h) (point h) g published
  pub within : All (λ t. t.size ≤ published) tallies
  pub most : (n : ℕ) → IsBlockEnd g n → n ≤ point h + board_limit → n ≤ published
  pub whole : size g ≤ point h + board_limit → published ≡ size g

-- Example: a ledger that was never purged has 1,048,570 journals, and a run adds blocks of 4, 2 and 3. The board may keep 1,048,576 leaves.
-- A prover may tell 1,048,570, 1,048,574 or 1,048,576, and 1,048,576 is the size that was published last: the block
-- behind it doesn't fit.

-- ---- what is written of provers

-- the line of the prover with this number: how many of its proofs were accepted, and the size of the tree of its last one
abbrev pub prover_line : ℕ → Tally → List ℕ
prover_line i t = line_of (codes "board") (decimal i ∷ decimal t.accepted ∷ decimal t.size ∷ [])

-- the lines of provers whose numbers begin with this one
unfoldable pub prover_lines : ℕ → List Tally → List ℕ
prover_lines i [] = []
prover_lines i (t ∷ ts) = prover_line i t ++ prover_lines (i + 1) ts

-- the line that tells the size of the published list
abbrev pub published_line : ℕ → List ℕ
published_line size = line_of (codes "published") (decimal size ∷ [])

-- all lines that `board` writes behind the replies
abbrev pub board_text : List Tally → ℕ → List ℕ
board_text ts published = prover_lines 0 ts ++ published_line published

-- The lines of so many provers, which did this, and of the size that was published last were written, whole or in part, or there was no
-- memory for them. Where some history is one with
-- which the run began, each prover made this many proofs, and each was accepted.
pub record TellsProvers (IsFirst : History → Type 0) (provers count : ℕ) (tallies : List Tally) (published : ℕ) (ending : LedgerEnding) (before after_all : Outside) : Type 0 where
  pub provers_are : length tallies ≡ provers
  pub accepted : (h : History) → IsFirst h → All (λ t. t.accepted ≡ count) tallies
  pub plain : Ending
  pub ending_is : ending ≡ Run plain
  pub wrote : Wrote (board_text tallies published) plain before after_all

-- nothing more is written
abbrev pub EndsWith : LedgerEnding → LedgerEnding → Outside → Outside → Type 0
EndsWith met ending before after_all = (ending ≡ met) × (after_all ≡ before)

-- What `board` writes behind the replies, by the ending of the script's run, and how it ends then. Where all lines of the script were
-- answered, and no prover lacked memory, it tells its provers.
abbrev pub TellsBehind : (History → Type 0) → ℕ → ℕ → List Tally → ℕ → LedgerEnding → LedgerEnding → Outside → Outside → Type 0
TellsBehind IsFirst provers count tallies published (Run run.Done) ending before after_all = TellsProvers IsFirst provers count tallies published ending before after_all ⊎ EndsWith (Run run.NoMemory) ending before after_all
TellsBehind IsFirst provers count tallies published (Run run.Usage) ending before after_all = EndsWith (Run run.Usage) ending before after_all
TellsBehind IsFirst provers count tallies published (Run run.ReadFault) ending before after_all = EndsWith (Run run.ReadFault) ending before after_all
TellsBehind IsFirst provers count tallies published (Run run.WriteFault) ending before after_all = EndsWith (Run run.WriteFault) ending before after_all
TellsBehind IsFirst provers count tallies published (Run run.NoMemory) ending before after_all = EndsWith (Run run.NoMemory) ending before after_all
TellsBehind IsFirst provers count tallies published (Run run.LineTooLong) ending before after_all = EndsWith (Run run.LineTooLong) ending before after_all
TellsBehind IsFirst provers count tallies published (Run run.ScriptTooLong) ending before after_all = EndsWith (Run run.ScriptTooLong) ending before after_all
TellsBehind IsFirst provers count tallies published DiskFault ending before after_all = EndsWith DiskFault ending before after_all
TellsBehind IsFirst provers count tallies published (Damaged damage) ending before after_all = EndsWith (Damaged damage) ending before after_all
TellsBehind IsFirst provers count tallies published Empty ending before after_all = EndsWith Empty ending before after_all
TellsBehind IsFirst provers count tallies published Exists ending before after_all = EndsWith Exists ending before after_all
TellsBehind IsFirst provers count tallies published (NewerFormat found) ending before after_all = EndsWith (NewerFormat found) ending before after_all
TellsBehind IsFirst provers count tallies published NotaryFault ending before after_all = EndsWith NotaryFault ending before after_all
TellsBehind IsFirst provers count tallies published (Refused why) ending before after_all = EndsWith (Refused why) ending before after_all
