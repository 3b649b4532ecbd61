-- Which histories there may be: each journal is the next one, blocks are of their sizes, and parts have their digests.
use Rattle.std.specs.Prelude.{◌≡◌, ◌≢◌, ◌<◌, ◌≤◌, Bool, true, false, List, [], ◌∷◌, ◌++◌, length, None, All, ⊤}
use Rattle.std.specs.List.{list_all}
use Rattle.ledger_bytes.specs.declared.limits.TheConstants.{BLOCK_LIMIT}
use Rattle.journal_record.specs.Entry.{Entry, content_digest_of, who_digest_of}
use Rattle.journal_record.specs.Rules.{IsHeader}
use Rattle.journal_record.specs.declared.header.Header.{Header}
use Rattle.journal_record.specs.declared.header.Kind.{Kind}
use Rattle.journal_record.specs.declared.header.Kind.TheVariants as kind
use Rattle.ledger_model.specs.Clues.{jsns_with, next_ordinal, last_journal}
use Rattle.ledger_model.specs.History.{History, history, journals, size, point}
use Rattle.ledger_model.specs.Judgements.{clues_full}
use Rattle.ledger_model.specs.Limits.{real_limits}
use Rattle.ledger_model.specs.Members.{members}
use Rattle.ledger_model.specs.Numbers.{numbered}
use Rattle.ledger_model.specs.Targets.{is_hidden, kind_at, leaf_at, shown_with}

-- a header may be the next record: the member is known, the clue's numbers are the next ones, and there is room for the clue
pub record IsNextRecord (h : History) (x : Header) : Type 0 where
  pub member : x.member < length (members h)
  pub clue_ord : x.clue_ord ≡ next_ordinal h x.clue
  pub clue_prev : x.clue_prev ≡ last_journal h x.clue
  pub room : clues_full real_limits h x.clue ≡ None
  -- no kept record of the member has its number
  pub fresh : numbered h x.member x.a ≡ None

-- a header may be the next occult: it names a record that is kept and that none hides yet, by its number and its leaf digest
pub record IsNextOccult (h : History) (x : Header) : Type 0 where
  pub kept : point h ≤ x.a
  pub before : x.a < size h
  pub target_is : kind_at h x.a ≡ kind.Content
  pub shown : is_hidden h x.a ≡ false
  pub leaf_is : x.link.0 ≡ leaf_at h x.a

-- a header may be the next occult by clue: it tells how many records its clue has, and one of them is kept and shown
pub record IsNextClueOccult (h : History) (x : Header) : Type 0 where
  pub count : x.a ≡ length (jsns_with h x.link)
  pub shown : shown_with h x.link ≢ []

-- a header may be the next purge: it names a time journal that lies behind the point so far
pub record IsNextPurge (h : History) (x : Header) : Type 0 where
  pub above : point h < x.a
  pub before : x.a < size h
  pub target_is : kind_at h x.a ≡ kind.Time

-- what the next journal has to be by its kind: a record, a new member, an occult of either kind and a purge have a rule, the
-- others none
abbrev pub IsNextOf : History → Header → Kind → Type 0
IsNextOf h x kind.Genesis = ⊤
IsNextOf h x kind.Content = IsNextRecord h x
IsNextOf h x kind.Member = x.a ≡ length (members h)
IsNextOf h x kind.Time = ⊤
IsNextOf h x kind.Occult = IsNextOccult h x
IsNextOf h x kind.Purge = IsNextPurge h x
IsNextOf h x kind.ClueOccult = IsNextClueOccult h x

-- a header that may be the next one of a history: it obeys its layout, by which it is a genesis exactly where it is the
-- first
pub record IsNext (h : History) (x : Header) : Type 0 where
  pub layout : IsHeader x
  pub jsn : x.jsn ≡ size h
  pub below : x.jsn < real_limits.size
  pub own : IsNextOf h x x.kind

-- journals of which each may be the next one behind some others and those in front of it
abbrev pub AreNext : List Entry → List Entry → Type 0
AreNext before [] = ⊤
AreNext before (e ∷ es) = IsNext (history [] before) e.header × AreNext (before ++ e ∷ []) es

-- there is a first journal, and its content, which holds keys, has the digest that its header names
abbrev pub IsFounded : List Entry → Type 0
IsFounded [] = ⊥
IsFounded (e ∷ es) = e.header.content_digest.0 ≡ content_digest_of e.content

-- journals that a ledger may have, in their order
pub record AreLawful (es : List Entry) : Type 0 where
  pub next : AreNext [] es
  pub founded : IsFounded es

-- whether journals of a kind gather in a block: records and new members do, and each other journal is a block of its own
abbrev pub gathers : Kind → Bool
gathers kind.Content = true
gathers kind.Member = true
gathers other = false

-- all of these journals are of kinds that share a block with others
abbrev pub AllGather : List Entry → Type 0
AllGather es = list_all (λ e. gathers e.header.kind) es ≡ true

-- a block that has ended: 1 to 64 journals, and where they are several all are of kinds that gather
pub record IsBlock (es : List Entry) : Type 0 where
  pub some : 1 ≤ length es
  pub most : length es ≤ BLOCK_LIMIT
  pub gathered : length es ≢ 1 → AllGather es

-- an open block: fewer than 64 journals, all of kinds that gather
pub record IsOpenBlock (es : List Entry) : Type 0 where
  pub room : length es < BLOCK_LIMIT
  pub gathered : AllGather es

-- A history that a ledger may have: lawful journals in such blocks, whatever made it. `new_ledgers_keep_the_rules` and
-- `each_job_keeps_the_rules` say that no run has any other, `lawful_headers_obey_their_layout` what follows for headers.
pub record IsLawful (h : History) : Type 0 where
  pub journals_are : AreLawful (journals h)
  pub blocks_are : All IsBlock h.closed
  pub waiting_is : IsOpenBlock h.waiting

-- a journal's content and who have the length and the digests that its header names
pub record IsWhole (e : Entry) : Type 0 where
  pub length_is : length e.content ≡ e.header.content_len
  pub content_is : e.header.content_digest.0 ≡ content_digest_of e.content
  pub who_is : e.header.who_digest.0 ≡ who_digest_of e.who

-- A history of which nothing was lost: each journal has the content and the who that its header names.
-- `each_job_keeps_the_rules` says that jobs leave it so.
abbrev pub IsSound : History → Type 0
IsSound h = All IsWhole (journals h)
