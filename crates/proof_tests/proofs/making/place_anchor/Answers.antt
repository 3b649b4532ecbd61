use Rattle.std.proofs.Common.{refl}
use Rattle.ledger_book.proofs.ApplyLaws.{asked_room}
use Rattle.proof_tests.proofs.making.place_anchor.Goals as goal

pub place_time-requires-clause-room : goal.place_time-requires-clause-room
place_time-requires-clause-room c = asked_room _ _ _ (c.in_ok-apply.ensures.anchor refl) c.in-StampWanted.is c.in_ok-apply.ensures.unchanged
