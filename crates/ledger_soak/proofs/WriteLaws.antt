-- The line of a soak that couldn't be written whole.
use Rattle.std.proofs.Common.{◌≡◌, ℕ, List, length, take, drop, sym, ap, ◌∙◌, arith}
use Rattle.std.proofs.lemmas.List.{take-append-drop, length-take-le}
use Rattle.ledger_io.specs.Outside.{SinkState, MeetsOne}
use Rattle.ledger_io.specs.Writing.{WritesFirst}
use Rattle.ledger_io.specs.declared.writer.WriteErr.{WriteErr}
use Rattle.ledger_io.specs.declared.writer.WriteErr.TheVariants.{WriteFault}
use Rattle.ledger_soak.specs.Soaking.{BrokeSoak}
use Rattle.ledger_soak.specs.Soaks.{TellsSoak}

pub broken_so : (seed count stop : ℕ) (text piece : List ℕ) → TellsSoak seed count stop text → piece ≡ text → (before after : SinkState) (error : WriteErr) → WritesFirst before.held after.held piece error → MeetsOne before after → BrokeSoak seed count stop before after
broken_so seed count stop text piece tells is before after (WriteFault taken) first one = record {
  text = text;
  tells = tells;
  part = take taken piece;
  appended = first.1;
  front = record { rest = drop taken piece; is = sym is ∙ sym (take-append-drop taken piece) };
  shorter = omega (arith, first.0, ap length is, length-take-le taken piece (omega (arith, first.0)));
  one_fault = one;
}
