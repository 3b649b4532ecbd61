-- A header's bytes.
use Rattle.std.specs.Prelude.{◌≡◌, ℕ, ◌^◌, ◌<◌, List, [], ◌∷◌, ◌++◌, length}
use Rattle.std.specs.Int.{w32, w64, to_be_bytes}
use Rattle.journal_record.specs.declared.header.Header.{Header}
use Rattle.journal_record.specs.declared.header.Kind.{Kind}
use Rattle.journal_record.specs.declared.header.Kind.TheVariants.{Genesis, Content, Member, Time, Occult, Purge, ClueOccult}

-- the number that stands for a kind in a header
abbrev pub code_of : Kind → ℕ
code_of Genesis = 0
code_of Content = 1
code_of Member = 2
code_of Time = 3
code_of Occult = 4
code_of Purge = 5
code_of ClueOccult = 6

-- the 174 bytes of a header: its fields one after the other
unfoldable pub spelling : Header → List ℕ
spelling h =
    h.version ∷ []
    ++ code_of h.kind ∷ []
    ++ to_be_bytes w64 h.jsn
    ++ to_be_bytes w32 h.member
    ++ h.clue.0
    ++ to_be_bytes w32 h.clue_ord
    ++ to_be_bytes w64 h.clue_prev
    ++ to_be_bytes w64 h.a
    ++ to_be_bytes w64 h.b
    ++ h.link.0
    ++ to_be_bytes w32 h.content_len
    ++ h.content_digest.0
    ++ h.who_digest.0

-- each number of a header fits its field, and each digest has 32 bytes, as in a header of the program
pub record HasWidths (h : Header) : Type 0 where
  pub version : h.version < 2 ^ 8
  pub jsn : h.jsn < 2 ^ 64
  pub member : h.member < 2 ^ 32
  pub clue_ord : h.clue_ord < 2 ^ 32
  pub clue_prev : h.clue_prev < 2 ^ 64
  pub a : h.a < 2 ^ 64
  pub b : h.b < 2 ^ 64
  pub content_len : h.content_len < 2 ^ 32
  pub clue : length h.clue.0 ≡ 32
  pub link : length h.link.0 ≡ 32
  pub content_digest : length h.content_digest.0 ≡ 32
  pub who_digest : length h.who_digest.0 ≡ 32
