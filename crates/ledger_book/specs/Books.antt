-- What a book keeps of a history, and what it is to stand for one.
use Rattle.std.specs.Prelude.{◌≡◌, ℕ, ◌≤◌, Bool, true, if◌then◌else◌, List, map, filter, drop, length, nat_lt}
use Rattle.sha2.specs.Sha256.{sha256}
use Rattle.ledger_bytes.specs.declared.digest.Digest.{Digest}
use Rattle.ledger_bytes.specs.declared.mark.TimeMark.{TimeMark}
use Rattle.journal_record.specs.declared.header.Header.{Header}
use Rattle.merkle_batch.specs.Rows.{Levels, StandsFor}
use Rattle.journal_record.specs.declared.member.Member.{Member}
use Rattle.clue_index.specs.Index as index
use Rattle.time_peg.specs.Times.{marks_from}
use Rattle.ledger_model.specs.Bases.{clues_added}
use Rattle.ledger_model.specs.Bounds.{marks_of}
use Rattle.ledger_model.specs.History as model
use Rattle.ledger_model.specs.History.{History, journals, journals_of, leaf_digest}
use Rattle.ledger_model.specs.Lawful.{AreLawful}
use Rattle.ledger_model.specs.Members as member
use Rattle.ledger_model.specs.declared.limits.Limits.{Limits}
use Rattle.ledger_book.specs.Hiders.{TellHiders}

-- the headers of all journals of a history
abbrev pub headers : History → List Header
headers h = map (λ journal. journal.header) (journals h)

-- the digests of all journals of a history as leaves, for which the book's tree stands
abbrev pub leaf_digests : History → List (List ℕ)
leaf_digests h = map leaf_digest (journals h)

-- how many journals stand in blocks that have ended
abbrev pub sealed_size : History → ℕ
sealed_size h = length (journals_of h.closed)

-- the sizes above a floor at which blocks have ended
abbrev pub ends_above : ℕ → History → List ℕ
ends_above floor h = filter (λ end. nat_lt floor end) (model.ends h)

-- a member as a book has it: where the member's journal isn't kept, its number isn't known
abbrev pub aged_member : ℕ → Member → Member
aged_member floor m = record { key = m.key; jsn = if nat_lt m.jsn floor then 0 else m.jsn }

-- all members as a book has them
abbrev pub aged_members : ℕ → List Member → List Member
aged_members floor members = map (aged_member floor) members

-- all that a book keeps; of times the marks of the time journals from the point on
pub record Kept : Type 0 where
  pub limits : Limits
  -- the first journal whose header is kept
  pub floor : ℕ
  -- whether the purge to that journal is kept, or the journal is the first of all
  pub reached : Bool
  pub size : ℕ
  pub point : ℕ
  -- how many blocks have ended, how many journals they hold, and the sizes at which those above the floor ended
  pub blocks : ℕ
  pub sealed : ℕ
  pub ends : List ℕ
  -- the root at the last block's end
  pub root : Digest
  pub id : Digest
  pub members : List Member
  pub clues : index.KeptTrails
  -- of each kept journal the number of the one that hides it, or 0, and which journals in front of them are named by occults
  pub hiders : List ℕ
  pub fronts : List (ℕ × ℕ)
  -- the marks of the time journals from the point on, in order
  pub times : List TimeMark
  pub headers : List Header
  pub tree : Levels

-- the numbers that a book keeps are those of this history
pub record HasCounts (k : Kept) (h : History) : Type 0 where
  pub size : k.size ≡ model.size h
  pub floor : k.floor ≤ sealed_size h
  pub point : k.point ≡ model.seen_point k.floor h
  pub blocks : k.blocks ≡ model.blocks h
  pub sealed_is : k.sealed ≡ sealed_size h
  pub ends : k.ends ≡ ends_above k.floor h

-- the digests and headers that a book keeps are those of this history
pub record HasTree (k : Kept) (h : History) : Type 0 where
  pub root : k.root.0 ≡ model.root h (sealed_size h)
  pub id : k.id.0 ≡ model.id h
  pub headers_are : k.headers ≡ drop k.floor (headers h)
  pub leaves : StandsFor sha256 k.tree (leaf_digests h)

-- a book stands for a lawful history: it keeps what this says, as far as it keeps it
pub record Stands (k : Kept) (h : History) : Type 0 where
  pub lawful : AreLawful (journals h)
  pub counts : HasCounts k h
  pub tree : HasTree k h
  pub members : aged_members k.floor k.members ≡ aged_members k.floor (member.members h)
  pub clues : index.StandsForTrails k.clues (clues_added k.floor (journals h))
  pub hiders : TellHiders k.hiders k.floor h
  -- the marks of the kept time journals, as far as the point is seen
  pub times : k.times ≡ marks_from k.point (marks_of (drop k.floor (journals h)))

-- the book stands for a history, and has seen the purge up to its first header, so that it can answer for it
pub record Serves (k : Kept) (h : History) : Type 0 where
  pub stands : Stands k h
  pub reached : k.reached ≡ true
  pub seen : k.floor ≤ k.point
