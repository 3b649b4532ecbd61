use Rattle.ledger_book.proofs.GroundLaws.{ground_next, next_ground}
use Rattle.ledger_book.proofs.laws.the_next_is_seen_from_the_first.Goals as goal

pub returns-clause-seen : goal.returns-clause-seen
returns-clause-seen c = λ es x lawful next. ground_next es x lawful next

pub returns-clause-exact : goal.returns-clause-exact
returns-clause-exact c = λ es x lawful next. next_ground es x lawful next
