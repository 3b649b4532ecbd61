use Rattle.std.proofs.Common.{◌≡◌, ◌+◌, ◌-◌, ◌*◌}
use Rattle.ledger_bytes.specs.Digests.{zero_digest}
use Rattle.pseudo_genesis.specs.Reading.{states_at}
use Rattle.pseudo_genesis.proofs.Many.{after_items}
use Rattle.pseudo_genesis.proofs.reading.take_states.Given as goal

abbrev pub invariant-loop-i : goal.invariant-loop-i
invariant-loop-i l =
    states_at l.fn.point l.fn.count (record { clue = zero_digest; place = l.fn.at }) l.fn.reader
    ≡ after_items l.states.items (states_at l.fn.point (l.fn.count - l.i) (record { clue = l.before; place = l.fn.at + 44 * l.i }) l.reader)
