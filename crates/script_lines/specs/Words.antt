-- The words of a reply as bytes.
use Rattle.std.specs.Prelude.{ℕ, List, [], ◌∷◌, ◌++◌, codes, decimal, Option, Some, None}
use Rattle.hex.specs.Hex.{encode_lower}
use Rattle.ledger_bytes.specs.declared.digest.Digest.{Digest}
use Rattle.ledger_bytes.specs.declared.mark.TimeMark.{TimeMark}
use Rattle.script_lines.specs.declared.said.Which.{Which}
use Rattle.script_lines.specs.declared.said.Which.TheVariants.{Ledger, Notary}
use Rattle.script_lines.specs.declared.words.Word.{Word}
use Rattle.script_lines.specs.declared.words.Word.TheVariants.{Text, Number, Hash, Hex, Mark, Numbers}

-- a digest as 64 lower-case hexadecimal digits
abbrev pub hex_of : Digest → List ℕ
hex_of digest = encode_lower digest.0

-- bytes as two lower-case hexadecimal digits each, or `-` for none
abbrev pub hex_or_dash : List ℕ → List ℕ
hex_or_dash [] = codes "-"
hex_or_dash (byte ∷ bytes) = encode_lower (byte ∷ bytes)

-- a time mark as `JSN:INDEX:TIME`, or `-` for none
abbrev pub mark_text : Option TimeMark → List ℕ
mark_text None = codes "-"
mark_text (Some mark) = decimal mark.jsn ++ codes ":" ++ decimal mark.index ++ codes ":" ++ decimal mark.time

-- numbers, each behind a comma
abbrev pub behind_commas : List ℕ → List ℕ
behind_commas [] = []
behind_commas (number ∷ numbers) = 44 ∷ (decimal number ++ behind_commas numbers)

-- numbers with commas between, or `-` for none
abbrev pub list_text : List ℕ → List ℕ
list_text [] = codes "-"
list_text (number ∷ numbers) = decimal number ++ behind_commas numbers

-- the word for a tree: `ledger` or `notary`
abbrev pub which_text : Which → List ℕ
which_text Ledger = codes "ledger"
which_text Notary = codes "notary"

-- the bytes of one word of a reply: its text, a decimal number, bytes as hexadecimal digits, a mark or a list
abbrev pub word_text : Word → List ℕ
word_text (Text text) = text.now
word_text (Number number) = decimal number
word_text (Hash digest) = hex_of digest
word_text (Hex bytes) = hex_or_dash bytes.now
word_text (Mark mark) = mark_text mark
word_text (Numbers numbers) = list_text numbers.now

-- words, each behind a space
abbrev pub spaced_words : List (List ℕ) → List ℕ
spaced_words [] = []
spaced_words (word ∷ words) = 32 ∷ (word ++ spaced_words words)
