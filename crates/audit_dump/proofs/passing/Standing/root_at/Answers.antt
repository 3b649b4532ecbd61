use Rattle.std.proofs.Common.{subst, sym}
use Rattle.ledger_book.specs.Reading.{StandsBehind}
use Rattle.audit_dump.specs.Passing.{Passed}
use Rattle.audit_dump.proofs.passing.Standing.root_at.Goals as goal

pub returns : goal.returns
returns c start before stands within =
    c.root_in.ensures start before (subst (λ (p : Passed). StandsBehind p.book start before) (sym c.self.view_is) stands.book) within
