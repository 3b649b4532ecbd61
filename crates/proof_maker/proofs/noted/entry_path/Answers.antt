use Rattle.std.proofs.Common.{arith, ap, length}
use Rattle.proof_maker.proofs.NotedLaws.{entry_few}
use Rattle.proof_maker.proofs.noted.entry_path.Goals as goal

pub returns-in_ok-row_of-in-Some-clause-short : goal.returns-in_ok-row_of-in-Some-clause-short
returns-in_ok-row_of-in-Some-clause-short g c = c.in_ok-row_of-in-Some.ensures.short 24 (omega (arith, ap length c.as_slice.ensures.value, entry_few _ c.in-Some.index c.in_ok-digests-in-Some.digests.items (omega (arith, c.requires.few, c.requires.all)) c.in_ok-digests-in-Some.ensures.path))
