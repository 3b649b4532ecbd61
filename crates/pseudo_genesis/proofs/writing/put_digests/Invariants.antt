use Rattle.std.proofs.Common.{◌≡◌, ◌++◌, take}
use Rattle.pseudo_genesis.specs.Bases.{digests_text}
use Rattle.pseudo_genesis.proofs.writing.put_digests.Given as goal

abbrev pub invariant-loop-digest : goal.invariant-loop-digest
invariant-loop-digest l = l.writer ≡ l.fn.writer ++ digests_text (take l.digest-index l.digests)
