-- Lemmas on a header's bytes.
use Rattle.std.proofs.Common.{◌≡◌, length, length-append, arith}
use Rattle.journal_record.specs.declared.header.Header.{Header}
use Rattle.journal_record.specs.Header.{spelling, HasWidths}

-- a header has 174 bytes
pub length-spelling : (h : Header) → HasWidths h → length (spelling h) ≡ 174
unfolding spelling
length-spelling h widths = simp length-append (omega arith)
