use Rattle.std.proofs.Common.{arith, ap, length}
use Rattle.proof_maker.proofs.RowLaws.{proof_few, extension_told}
use Rattle.proof_maker.proofs.rows.extension_of.Goals as goal

pub returns-clause-proof : goal.returns-clause-proof
returns-clause-proof c = λ ds stands le.
    extension_told c.args.tree.now ds stands c.size.result c.size.ensures c.args.m c.in_ok-digests.digests.items c.as_slice.result.now c.in_ok-row_of.field-0 c.as_slice.ensures.value c.in_ok-row_of.ensures.bytes c.in_ok-digests.ensures.all
    (λ less. c.in_ok-digests.ensures.proof ds stands less) le

pub returns-clause-short : goal.returns-clause-short
returns-clause-short c = λ fits. c.in_ok-row_of.ensures.short 33 (omega (arith, ap length c.as_slice.ensures.value, c.in_ok-digests.ensures.count, c.size.ensures, proof_few c.args.m c.size.result (omega (arith, fits, c.size.ensures))))
