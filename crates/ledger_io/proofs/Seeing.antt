-- A window goes on seeing.
use Rattle.std.proofs.Common.{◌≡◌, inl, ℕ, ◌≤◌, Err, [], append-nil, arith, refl, sym, ap, ◌∙◌}
use Rattle.std.proofs.KnownBytes.{Consumes-nil}
use Rattle.ledger_io.specs.Lines.{script_limit}
use Rattle.ledger_io.specs.Outside.{SourceState}
use Rattle.ledger_io.specs.Windows.{Seen, HasSeen, HasEnough, IsPieceErr}
use Rattle.ledger_bytes.specs.Causes.{count_after}
use Rattle.ledger_io.specs.declared.failure.LineErr.{LineErr}
use Rattle.ledger_io.specs.declared.failure.LineErr.TheVariants.{ReadFault, LineTooLong, ScriptTooLong, NoMemory}

-- nothing was read yet
pub seen_none : (a : SourceState) (x : Seen) → x.total ≤ script_limit → HasSeen a a x x []
seen_none a x few = record {
  consumed = Consumes-nil a.left;
  held = sym (append-nil x.held);
  total = omega arith;
  bounded = few;
  end = λ e. inl e;
  again = λ e. (refl, refl, e);
}

-- a piece that wasn't read ends the reading
pub piece_ends : (a b c : SourceState) (want : ℕ) (z : Seen) (e : LineErr) → b.faults ≡ a.faults → IsPieceErr b c e → HasEnough a c want z (Err e)
piece_ends a b c want z ReadFault same is = is ∙ ap count_after same
piece_ends a b c want z LineTooLong same is = is
piece_ends a b c want z ScriptTooLong same is = absurd is
piece_ends a b c want z NoMemory same is = is ∙ same
