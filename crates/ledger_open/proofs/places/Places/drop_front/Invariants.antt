use Rattle.std.proofs.Common.{◌≡◌, ◌++◌, drop, map, take}
use Rattle.block_file.specs.Places.{moved_place}
use Rattle.ledger_open.proofs.places.Places.drop_front.Given as goal

abbrev pub invariant-loop-index : goal.invariant-loop-index
invariant-loop-index l =
    l.self-inside.kept.items ≡ map (moved_place l.old l.new) (take l.index l.initial.self-inside.kept.items) ++ drop l.index l.initial.self-inside.kept.items
