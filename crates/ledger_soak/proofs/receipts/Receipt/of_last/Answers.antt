use Rattle.std.proofs.Common.{ap, ◌∙◌, arith}
use Rattle.ledger_bytes.specs.declared.digest.Digest.{Digest}
use Rattle.ledger_model.specs.History.{journals}
use Rattle.ledger_soak.proofs.LeafLaws.{leaf_found, point_within}
use Rattle.ledger_soak.proofs.receipts.Receipt.of_last.Goals as goal

pub returns : goal.returns
returns c h serves =
    let within = point_within h serves.stands.lawful in
    let size_is = c.size-jsn.ensures.size ∙ serves.stands.counts.size in
    leaf_found (journals h) _ c.leaf_of.result (omega (arith, size_is, c.size-jsn.ensures.some))
    (ap (λ (d : Digest). d.0) (c.leaf_of.ensures h serves (omega (arith, within, size_is)) (omega (arith, size_is, c.size-jsn.ensures.some))))
