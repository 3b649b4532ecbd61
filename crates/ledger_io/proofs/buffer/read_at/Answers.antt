use Rattle.std.proofs.Common.{◌≡◌, ℕ, ◌+◌, ◌≤◌, length, take, ap, ◌∙◌, sym, arith}
use Rattle.std.proofs.lemmas.List.{take-take, length-take-le, length-take, length-drop}
use Rattle.ledger_io.proofs.Filling.{take-written, Fetches-read}
use Rattle.ledger_io.proofs.buffer.read_at.Goals as goal

pub returns-clause-fetches : goal.returns-clause-fetches
returns-clause-fetches g c =
    let at = c.args.at in
    let n = c.in_ok-read.field-0 in
    let into = c.read.new.into in
    let whole = c.as_mut_slice.result.now in
    let size : length into ≡ c.args.most = omega (arith, length-take {A = ℕ}, length-drop {A = ℕ}) in
    let within : n ≤ length into = omega (arith, c.in_ok-read.ensures.bound) in
    let same : take at whole ≡ take at c.args.bytes.now.items =
    ap (take at) c.as_mut_slice.ensures.value ∙ sym (take-take at _ _ c.requires.within) ∙ ap (take at) c.lengthen.ensures.kept in
    let long : at ≤ length whole = omega (arith, c.in_ok-lengthen.ensures.len) in
    let room : at + n ≤ c.lengthen.new.bytes.len = omega (arith, c.in_ok-lengthen.ensures.len) in
    Fetches-read _ _ _ (take at whole) into _ n c.args.most same size within c.in_ok-read.ensures.bytes
    (take-written (take at whole) into _ _ at n c.lengthen.new.bytes.len (length-take-le at whole long) within room)
