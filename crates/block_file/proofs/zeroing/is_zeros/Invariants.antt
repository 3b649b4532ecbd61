use Rattle.std.proofs.Common.{◌≡◌, take, replicate}
use Rattle.block_file.proofs.zeroing.is_zeros.Given as goal

abbrev pub invariant-loop-byte : goal.invariant-loop-byte
invariant-loop-byte l = take l.byte-index l.piece ≡ replicate l.byte-index 0
