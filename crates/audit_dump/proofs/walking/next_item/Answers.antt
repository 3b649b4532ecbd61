use Rattle.std.proofs.Common.{subst, List, ℕ, arith}
use Rattle.ledger_bytes.specs.Fields.{IsBytes}
use Rattle.audit_dump.specs.Walking.{BeginsWith, place_of}
use Rattle.audit_dump.proofs.Walks.{next_is}
use Rattle.audit_dump.proofs.walking.next_item.Goals as goal

pub returns-in-Ok-clause-told : goal.returns-in-Ok-clause-told
returns-in-Ok-clause-told g c =
    let w = c.fill.new.self in
    let answer = c.item_len.result in
    let there = subst (λ (p : ℕ). BeginsWith p c.as_slice.result.now answer) c.place.ensures c.item_len.ensures.begins in
    next_is w answer (subst (λ (t : List ℕ). IsBytes t) c.as_slice.ensures c.item_len.ensures.bytes)
    (subst (λ (t : List ℕ). BeginsWith (place_of w) t answer) c.as_slice.ensures there) c.in-Ok.ensures.enough.1

pub item_len-requires : goal.item_len-requires
item_len-requires g c = omega (arith, c.place.ensures, c.in-Ok.ensures.seen.1.bounded)
