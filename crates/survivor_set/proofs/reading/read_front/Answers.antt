use Rattle.std.proofs.Common.{length, arith, sym, ap, ◌∙◌}
use Rattle.ledger_bytes.specs.Fields.{left_from}
use Rattle.survivor_set.proofs.Takes.{front_takes, fields_text}
use Rattle.survivor_set.proofs.Wholes.{placed_behind, reads_to}
use Rattle.survivor_set.specs.Reading.{front_at}
use Rattle.survivor_set.proofs.reading.read_front.Goals as goal

pub place-requires : goal.place-requires
place-requires c =
    (front_takes (left_from (length c.args.bytes.now) c.args.bytes.now) c.in_ok-front.front c.take_front.new.reader (λ i. omega (arith, c.type_inv.bytes i)) (sym (ap front_at c.new-reader.ensures) ∙ c.in_ok-front.ensures)).0.whole

pub returns : goal.returns
returns c =
    let first = left_from (length c.args.bytes.now) c.args.bytes.now in
    let took = (front_takes first c.in_ok-front.front c.take_front.new.reader (λ i. omega (arith, c.type_inv.bytes i)) (sym (ap front_at c.new-reader.ensures) ∙ c.in_ok-front.ensures)).0 in
    reads_to c.args.bytes.now c.in_ok-front.front c.place.result c.take_front.new.reader (front_at first) (sym (ap front_at c.new-reader.ensures) ∙ c.in_ok-front.ensures)
    (placed_behind c.args.bytes.now (fields_text c.in_ok-front.front) c.take_front.new.reader took.parts took.whole) c.place.ensures
