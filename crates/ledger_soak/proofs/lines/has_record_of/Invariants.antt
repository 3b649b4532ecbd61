use Rattle.std.proofs.Common.{◌≡◌, ◌-◌}
use Rattle.ledger_book.specs.Books.{Serves, headers}
use Rattle.ledger_model.specs.History.{History}
use Rattle.ledger_soak.specs.Lines.{has_record_by, is_owner}
use Rattle.ledger_soak.proofs.lines.has_record_of.Given as goal

abbrev pub invariant-loop-n : goal.invariant-loop-n
invariant-loop-n l = (h : History) → Serves l.book h → has_record_by l.member (headers h) l.n (l.before - l.n) ≡ is_owner h l.before l.member
