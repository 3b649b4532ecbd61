use Rattle.std.proofs.Common.{◌+◌, ◌≤◌}
use Rattle.std.specs.Prelude.{IsSomeAnd}
use Rattle.block_file.specs.FileView.{gate_of}
use Rattle.open_bench.proofs.making.write.Given as goal

abbrev pub invariant-loop : goal.invariant-loop
invariant-loop g l = IsSomeAnd (g.D.Disk.state l.disk).told (λ n. gate_of l.file + 1 ≤ n)
