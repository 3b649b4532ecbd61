use Rattle.std.proofs.Common.{◌≡◌, ◌-◌, ◌≤◌, List, take, drop, subst, arith}
use Rattle.std.specs.Prelude.{max, min}
use Rattle.journal_record.specs.declared.header.Header.{Header}
use Rattle.ledger_model.specs.Needs.{HaveSame}
use Rattle.ledger_book.specs.Purges.{owners_in}
use Rattle.audit_dump.proofs.Owners.{needs_told, next_header}
use Rattle.audit_dump.proofs.purging.needed_for.Goals as goal

pub add_owner_of-requires : goal.add_owner_of-requires
add_owner_of-requires c = omega (arith, c.loop-n.auto.n, c.max-first.ensures, c.floor.ensures)

pub loop-n-preserved : goal.loop-n-preserved
loop-n-preserved c =
    let k = c.args.book.now in
    let first = c.max-first.result in
    let n = c.loop-n.n in
    let low : k.floor ≤ first = omega (arith, c.max-first.ensures, c.floor.ensures) in
    subst (λ (hs : List Header). HaveSame c.add_owner_of.new.owners.items (owners_in hs)) (next_header k.floor first n k.headers low c.loop-n.auto.n)
    (c.in_ok-add_owner_of.ensures (take (n - first) (drop (first - k.floor) k.headers)) c.loop-n.invariant)

pub returns : goal.returns
returns c start before stands =
    let k = c.args.book.now in
    let first = c.max-first.result in
    let n = c.loop-n.n in
    let first_is : first ≡ max k.point k.floor = omega (arith, c.max-first.ensures, c.floor.ensures, c.point.ensures.value) in
    let n_is : n ≡ max (min c.args.p k.size) first = omega (arith, c.min.ensures, c.max-end.ensures, c.size.ensures.size, c.loop-n.auto.n-end, c.loop-n-test.false) in
    subst (HaveSame c.loop-n.owners.items) (needs_told k start before stands c.args.p first first_is n n_is) c.loop-n.invariant
