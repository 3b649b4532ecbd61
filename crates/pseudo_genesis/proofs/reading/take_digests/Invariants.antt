use Rattle.std.proofs.Common.{◌≡◌, ◌-◌, length}
use Rattle.pseudo_genesis.specs.Reading.{digests_at}
use Rattle.pseudo_genesis.proofs.Many.{after_items}
use Rattle.pseudo_genesis.proofs.reading.take_digests.Given as goal

abbrev pub invariant-loop : goal.invariant-loop
invariant-loop l = (digests_at l.fn.count l.fn.reader ≡ after_items l.digests.items (digests_at (l.fn.count - l.counter) l.reader)) × (length l.digests.items ≡ l.counter)
