use Rattle.std.proofs.Common.{refl}
use Rattle.ledger_book.proofs.ApplyLaws.{asked_room}
use Rattle.book_tests.proofs.books.anchor.Goals as goal

pub place_time-requires-clause-room : goal.place_time-requires-clause-room
place_time-requires-clause-room g c = asked_room _ _ _ (c.in_ok-asked.ensures.anchor refl) c.in-StampWanted.is c.in_ok-asked.ensures.unchanged
