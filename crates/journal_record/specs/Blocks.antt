-- The bytes of a journal in a block, and those of a block.
use Rattle.std.specs.Prelude.{◌≡◌, ℕ, ◌+◌, ◌≤◌, List, [], ◌∷◌, ◌++◌, length, map, ⊤}
use Rattle.std.specs.Int.{w32, w64, to_be_bytes}
use Rattle.std.specs.List.{flat_map}
use Rattle.ledger_bytes.specs.declared.limits.TheConstants.{BLOCK_LIMIT}
use Rattle.journal_record.specs.declared.approval.TheConstants.{WHO_LIMIT}
use Rattle.journal_record.specs.Entry.{Entry}
use Rattle.journal_record.specs.Header.{spelling, HasWidths}
use Rattle.journal_record.specs.Rules.{IsHeader}

-- a journal's bytes: its header, the length of its approvals, the content and the approvals
abbrev pub record_bytes : Entry → List ℕ
record_bytes e = spelling e.header ++ (to_be_bytes w32 (length e.who) ++ (e.content ++ e.who))

-- the bytes of some journals, one after the other
abbrev pub body_of : List Entry → List ℕ
body_of es = flat_map record_bytes es

-- the bytes of a block of these journals under this root, without its gate
unfoldable pub block_bytes : List ℕ → List Entry → List ℕ
block_bytes root es = to_be_bytes w32 (length es) ++ (to_be_bytes w64 (length (body_of es)) ++ (root ++ body_of es))

-- the leaves of some journals: the spelled headers
abbrev pub leaves_of : List Entry → List (List ℕ)
leaves_of es = map (λ e. spelling e.header) es

-- a journal that can be journal n: its header keeps its rules, and its parts have the lengths that there may be
pub record IsEntry (n : ℕ) (e : Entry) : Type 0 where
  pub jsn : e.header.jsn ≡ n
  pub rules : IsHeader e.header
  pub widths : HasWidths e.header
  pub content : length e.content ≡ e.header.content_len
  pub who : length e.who ≤ WHO_LIMIT

-- journals with the numbers from n on
abbrev pub AreFrom : ℕ → List Entry → Type 0
AreFrom n [] = ⊤
AreFrom n (e ∷ es) = IsEntry n e × AreFrom (n + 1) es

-- a block: 1 to 64 journals that can be journal n and those behind it
pub record IsBlock (n : ℕ) (es : List Entry) : Type 0 where
  pub some : 1 ≤ length es
  pub most : length es ≤ BLOCK_LIMIT
  pub entries : AreFrom n es

-- blocks one behind the other, of which the first begins with journal n
abbrev pub AreBlocks : ℕ → List (List Entry) → Type 0
AreBlocks n [] = ⊤
AreBlocks n (b ∷ bs) = IsBlock n b × AreBlocks (n + length b) bs

-- the bytes of blocks, each with the root over all leaves up to its end, where these leaves came before
abbrev pub written_blocks : (List (List ℕ) → List ℕ) → List (List ℕ) → List (List Entry) → List (List ℕ)
written_blocks root seen [] = []
written_blocks root seen (b ∷ bs) = block_bytes (root (seen ++ leaves_of b)) b ∷ written_blocks root (seen ++ leaves_of b) bs
