-- Lemmas on bytes that are read behind others.
use Rattle.std.proofs.Common.{◌≡◌, ℕ, ◌+◌, ◌<◌, ◌≤◌, List, ◌++◌, length, take, Ok, sym, ap, ◌∙◌, arith}
use Rattle.std.proofs.lemmas.List.{append_assoc, take-take, take-append-le, length-take-le}
use Rattle.std.proofs.Math.Seq.{take-append-add}
use Rattle.std.specs.Io.KnownBytes.{Consumes, IsAtEnd}
use Rattle.ledger_io.specs.Outside.{SourceState}
use Rattle.ledger_io.specs.Steps.{Fetches}

-- the front of a list after a write behind `before`
pub take-written : (before into post rest : List ℕ) (at n len : ℕ) → length before ≡ at → n ≤ length into → at + n ≤ len
    → take (at + n) (take len ((before ++ (into ++ post)) ++ rest)) ≡ before ++ take n into
take-written before into post rest at n len e h k =
    take-take (at + n) len _ k ∙ ap (take (at + n)) (append_assoc before (into ++ post) rest)
    ∙ ap (λ m. take (m + n) (before ++ ((into ++ post) ++ rest))) (sym e) ∙ take-append-add before ((into ++ post) ++ rest) n
    ∙ ap (λ l. before ++ l) (ap (take n) (append_assoc into post rest) ∙ take-append-le n into (post ++ rest) h)

-- a read into `into`, whose bytes stand behind those that were kept
pub Fetches-read : (before after : SourceState) (old kept into now : List ℕ) (n most : ℕ) → kept ≡ old → length into ≡ most → n ≤ length into
    → Consumes before.left after.left (take n into) × (n ≡ 0 → 0 < length into → IsAtEnd after.left)
    → now ≡ kept ++ take n into → Fetches before after old now most (Ok n)
Fetches-read before after old kept into now n most same room within read now_is = record {
  bytes = take n into;
  consumed = read.0;
  held = now_is ∙ ap (λ l. l ++ take n into) same;
  outcome = (sym (length-take-le n into within), omega arith, λ none some. read.1 none (omega arith));
}
