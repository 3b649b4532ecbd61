use Rattle.std.proofs.Common.{arith, ap, length}
use Rattle.proof_maker.proofs.RowLaws.{path_few, path_told}
use Rattle.proof_maker.proofs.rows.path_of.Goals as goal

pub returns-clause-path : goal.returns-clause-path
returns-clause-path c = λ ds stands.
    path_told c.args.tree.now ds stands c.size.result c.size.ensures c.args.n c.in_ok-digests.digests.items c.as_slice.result.now c.in_ok-row_of.field-0 c.as_slice.ensures.value c.in_ok-row_of.ensures.bytes (c.in_ok-digests.ensures.path ds stands)

pub returns-clause-short : goal.returns-clause-short
returns-clause-short c = λ fits. c.in_ok-row_of.ensures.short 32 (omega (arith, ap length c.as_slice.ensures.value, c.in_ok-digests.ensures.count, c.size.ensures, path_few c.args.n c.size.result (omega (arith, fits, c.size.ensures))))
