use Rattle.std.proofs.Common.{ap, ◌∙◌, arith}
use Rattle.ledger_io.specs.Reading.{Reading}
use Rattle.ledger_io.proofs.ReadLemmas.{IsSound-more}
use Rattle.ledger_io.proofs.reader.Lines.fill.Goals as goal

pub invariant_of-self-2 : goal.invariant_of-self-2
invariant_of-self-2 g c =
    IsSound-more c.self.inside.buffer _ c.fetch.ensures.fetches.bytes c.self.inside.looked c.self.inside.total c.in_ok-count.count c.self.inside.ended c.self.invariant
    (ap (λ (r : Reading). r.ended) c.self.view_is ∙ c.requires.unended) c.fetch.ensures.fetches.held (omega (arith, c.in_ok-count.ensures.fetches.outcome.1))
