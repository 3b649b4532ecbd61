use Rattle.std.proofs.Common.{ap, ◌∙◌, ◌+◌, drop, refl}
use Rattle.ledger_io.specs.Reading.{Reading}
use Rattle.ledger_io.proofs.LineLemmas.{BreaksAt-fresh}
use Rattle.ledger_io.proofs.ReadLemmas.{IsSound-before}
use Rattle.ledger_io.proofs.reader.Lines.find_newline.Goals as goal

pub invariant_of-self : goal.invariant_of-self
invariant_of-self c =
    IsSound-before c.self.inside.buffer c.self.inside.looked (c.self.inside.looked + c.in-Some.at) c.self.inside.total c.self.inside.ended c.self.invariant
    (BreaksAt-fresh c.self.inside.buffer c.self.inside.buffer _ c.self.inside.looked c.in-Some.at refl
    (c.split_at.ensures.back ∙ ap (drop c.self.inside.looked) c.as_slice.ensures) c.self.invariant.unbroken c.in-Some.ensures)

pub returns-in-Some-clause-found : goal.returns-in-Some-clause-found
returns-in-Some-clause-found c =
    BreaksAt-fresh _ c.self.inside.buffer _ c.self.inside.looked c.in-Some.at (ap (λ (r : Reading). r.held) c.self.view_is)
    (c.split_at.ensures.back ∙ ap (drop c.self.inside.looked) c.as_slice.ensures) c.self.invariant.unbroken c.in-Some.ensures
