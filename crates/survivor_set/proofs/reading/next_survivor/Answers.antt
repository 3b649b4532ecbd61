use Rattle.std.proofs.Common.{sym, ap, ◌∙◌, arith}
use Rattle.ledger_bytes.specs.Fields.{bytes_at}
use Rattle.ledger_bytes.proofs.Fields.{IsBytes-drop}
use Rattle.survivor_set.specs.Sets.{saved_text}
use Rattle.survivor_set.proofs.Takes.{survivor_takes}
use Rattle.survivor_set.proofs.Wholes.{placed, reads_to, read_here}
use Rattle.survivor_set.specs.Reading.{survivor_at, from_place}
use Rattle.survivor_set.proofs.reading.next_survivor.Goals as goal

pub place-requires : goal.place-requires
place-requires c =
    let bytes = c.args.bytes.now in
    let there = read_here c.args.at bytes c.args.last c.in_ok-take_slice.field-0.now c.take_slice.new.self c.shows_low-low.result c.in_ok-survivor.survivor c.take_survivor.new.reader c.requires (sym (ap (bytes_at c.args.at) c.new-reader.ensures) ∙ c.in_ok-take_slice.ensures) c.shows_low-low.ensures c.in_ok-survivor.ensures in
    (survivor_takes c.args.last (from_place c.args.at bytes) c.in_ok-survivor.survivor c.take_survivor.new.reader (IsBytes-drop c.args.at bytes (λ i. omega (arith, c.type_inv.bytes i))) there).0.whole

pub returns-clause-read : goal.returns-clause-read
returns-clause-read c =
    let bytes = c.args.bytes.now in
    let there = read_here c.args.at bytes c.args.last c.in_ok-take_slice.field-0.now c.take_slice.new.self c.shows_low-low.result c.in_ok-survivor.survivor c.take_survivor.new.reader c.requires (sym (ap (bytes_at c.args.at) c.new-reader.ensures) ∙ c.in_ok-take_slice.ensures) c.shows_low-low.ensures c.in_ok-survivor.ensures in
    let took = (survivor_takes c.args.last (from_place c.args.at bytes) c.in_ok-survivor.survivor c.take_survivor.new.reader (IsBytes-drop c.args.at bytes (λ i. omega (arith, c.type_inv.bytes i))) there).0 in
    reads_to bytes c.in_ok-survivor.survivor c.place.result c.take_survivor.new.reader (survivor_at c.args.last (from_place c.args.at bytes)) there
    (placed c.args.at bytes (saved_text c.in_ok-survivor.survivor) c.take_survivor.new.reader took) c.place.ensures

pub returns-clause-saved : goal.returns-clause-saved
returns-clause-saved c =
    let bytes = c.args.bytes.now in
    let there = read_here c.args.at bytes c.args.last c.in_ok-take_slice.field-0.now c.take_slice.new.self c.shows_low-low.result c.in_ok-survivor.survivor c.take_survivor.new.reader c.requires (sym (ap (bytes_at c.args.at) c.new-reader.ensures) ∙ c.in_ok-take_slice.ensures) c.shows_low-low.ensures c.in_ok-survivor.ensures in
    (survivor_takes c.args.last (from_place c.args.at bytes) c.in_ok-survivor.survivor c.take_survivor.new.reader (IsBytes-drop c.args.at bytes (λ i. omega (arith, c.type_inv.bytes i))) there).1
