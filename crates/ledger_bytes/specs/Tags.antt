-- The byte in front of what is hashed, by its kind.
use Rattle.std.specs.Prelude.{ℕ}
use Rattle.ledger_bytes.specs.declared.tag.Tag.{Tag}
use Rattle.ledger_bytes.specs.declared.tag.Tag.TheVariants.{Leaf, Node, Content, AppendRequest, OccultRequest, PurgeRequest, Peg, Base, MemberRequest, Salt, Who, LedgerName, ClueName, ClueOccultRequest, Proof, ChainKey, ChainStep, ChainSecret}

-- the byte of each kind of string; those of a leaf and of an inner node are RFC 6962's. `tags_differ` says that no two are the
-- same
abbrev pub byte_of : Tag → ℕ
byte_of Leaf = 0
byte_of Node = 1
byte_of Content = 2
byte_of AppendRequest = 3
byte_of OccultRequest = 4
byte_of PurgeRequest = 5
byte_of Peg = 6
byte_of Base = 7
byte_of MemberRequest = 8
byte_of Salt = 9
byte_of Who = 10
byte_of LedgerName = 11
byte_of ClueName = 12
byte_of ClueOccultRequest = 13
byte_of Proof = 64
byte_of ChainKey = 65
byte_of ChainStep = 66
byte_of ChainSecret = 68
