use Rattle.std.specs.Prelude.{◌≡◌, true, take}
use Rattle.ledger_open.proofs.TakeLaws.{all_gather}
use Rattle.ledger_open.proofs.replaying.share_len.Given as goal

abbrev pub invariant-loop-index : goal.invariant-loop-index
invariant-loop-index l = all_gather (take l.index l.records) ≡ true
