use Rattle.std.proofs.Common.{◌≡◌, ◌≤◌, ◌+◌, ◌++◌, length, map, take}
use Rattle.block_file.specs.Places.{place_of_record}
use Rattle.ledger_open.proofs.places.Places.add.Given as goal

abbrev pub invariant-loop-record : goal.invariant-loop-record
invariant-loop-record l = record {
  list : l.self.list ≡ l.fn.self.list ++ map place_of_record (take l.record-index l.records);
  room : length l.records ≤ l.self.spare + l.record-index;
}
