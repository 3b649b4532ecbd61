use Rattle.std.proofs.Common.{arith}
use Rattle.std.specs.Prelude.{Result}
use Rattle.ledger_bytes.specs.declared.failure.Bad.{Bad}
use Rattle.survivor_set.specs.Reading.{from_place}
use Rattle.survivor_set.specs.Steps.{ReadsFront}
use Rattle.survivor_set.specs.declared.reading.Front.{Front}
use Rattle.survivor_set.proofs.Wholes.{handed_on, front_breaks, survivors_break, end_breaks, is_front}
use Rattle.survivor_set.proofs.reading.read.Goals as goal

pub returns-in_err-front : goal.returns-in_err-front
returns-in_err-front c =
    let bytes = c.args.bytes.now in
    let e = c.in_err-front.field-0.0 in
    handed_on c.from_residual.result e (λ (r : Result Front Bad). ReadsFront bytes r) c.from_residual.ensures (front_breaks bytes e c.in_err-front.ensures)

pub returns-in_err-end : goal.returns-in_err-end
returns-in_err-end c =
    let bytes = c.args.bytes.now in
    let e = c.in_err-end.field-0.0 in
    handed_on c.from_residual-in_err-end.result e (λ (r : Result Front Bad). ReadsFront bytes r) c.from_residual-in_err-end.ensures
    (survivors_break bytes c.in_ok-front.front (from_place c.in_ok-front.at bytes) c.in_ok-front.ensures.0 e c.in_err-end.ensures)

pub returns-in_err-check_end : goal.returns-in_err-check_end
returns-in_err-check_end c =
    let bytes = c.args.bytes.now in
    let e = c.in_err-check_end.field-0.0 in
    let end = c.in_ok-end.ensures in
    handed_on c.from_residual-in_err-check_end.result e (λ (r : Result Front Bad). ReadsFront bytes r) c.from_residual-in_err-check_end.ensures
    (end_breaks bytes c.in_ok-front.front (from_place c.in_ok-front.at bytes) c.in_ok-front.ensures.0 end.0 (from_place c.in_ok-end.end bytes) end.1 e c.in_err-check_end.ensures)

pub returns : goal.returns
returns c =
    let bytes = c.args.bytes.now in
    let end = c.in_ok-end.ensures in
    is_front bytes c.in_ok-front.front (from_place c.in_ok-front.at bytes) c.in_ok-front.ensures.0 end.0 (from_place c.in_ok-end.end bytes) end.1 (λ i. omega (arith, c.type_inv.bytes i)) c.in_ok-check_end.ensures
