-- Lemmas on the writing of a last line.
use Rattle.std.proofs.Common.{◌≡◌, ℕ, ◌<◌, cond, ap, inl, inr, List, [], length, take, drop, Result, Ok, Err, refl, sym, append-nil, arith}
use Rattle.std.specs.Prelude.{◌&&◌, nat_lt, OnOk, IfErr}
use Rattle.std.specs.Io.KnownBytes.{Appends}
use Rattle.std.proofs.lemmas.Bool.Decides.{eqb_tells}
use Rattle.std.proofs.lemmas.List.{take-append-drop, length-take-le}
use Rattle.ledger_bytes.specs.Causes.{count_after}
use Rattle.ledger_io.specs.Outside.{SinkState, MeetsOne, idles_after}
use Rattle.ledger_io.specs.Writing.{WritesFirst, MeetsAtMostOne, WritesLast}
use Rattle.ledger_io.specs.declared.writer.WriteErr.{WriteErr}
use Rattle.ledger_io.specs.declared.writer.WriteErr.TheVariants as write_err

-- a write that took something isn't idle
pub idles_same : (before n : ℕ) (piece : List ℕ) → 0 < n → idles_after {E = Unit {0}} before (Ok n) piece ≡ before
idles_same before n piece some =
    elim (eqb_tells n 0) [ inl p ↦ absurd (omega (arith, p.1, some)) | inr p ↦ ap (λ t. cond (t && nat_lt 0 (length piece)) (count_after before) before) p.0 ]

-- a part of the line was written
last_part : (line : List ℕ) (before after : SinkState) (error : WriteErr) → WritesFirst before.held after.held line error → MeetsOne before after → WritesLast line before after
last_part line before after (write_err.WriteFault taken) first one = record {
  last = take taken line;
  appended = first.1;
  front = record { rest = drop taken line; is = sym (take-append-drop taken line) };
  once = inr (let fewer = first.0 in let part = length-take-le taken line (omega (arith, fewer)) in let short : length (take taken line) < length line = omega (arith, fewer, part) in short, one);
}

-- writing a line comes to that
pub last_written : (line : List ℕ) (before after : SinkState) (result : Result (Unit {0}) WriteErr) → OnOk result (Appends before.held after.held line) → IfErr result (WritesFirst before.held after.held line) → MeetsAtMostOne result before after → WritesLast line before after
last_written line before after (Ok done) appended first once = record {
  last = line;
  appended = appended;
  front = record { rest = []; is = sym (append-nil line) };
  once = inl (refl, once);
}
last_written line before after (Err error) appended first once = last_part line before after error first once
