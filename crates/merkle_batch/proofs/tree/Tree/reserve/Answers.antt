use Rattle.std.proofs.Common.{arith, refl, ap, subst}
use Rattle.merkle_batch.specs.Rows.{Grown}
use Rattle.merkle_batch.proofs.Keeping.{room_none}
use Rattle.merkle_batch.proofs.Growing.{grown_counts, grown_room, stands_grown}
use Rattle.merkle_batch.proofs.Over.{over_grown}
use Rattle.merkle_batch.proofs.Standing.{some_grown}
use Rattle.merkle_batch.proofs.tree.Tree.reserve.Goals as goal

pub reserve-requires-clause-room : goal.reserve-requires-clause-room
reserve-requires-clause-room g c = room_none c.self.inside.spare c.self.inside.rows.items c.self.invariant.2

pub invariant_of-self : goal.invariant_of-self
invariant_of-self g c = (
  c.self.invariant.0,
  grown_counts c.self.inside.floor c.self.inside.size c.self.inside.rows.items c.reserve.new.rows.items c.self.invariant.0 c.reserve.ensures.keeps c.self.invariant.1,
  grown_room c.self.inside.spare c.self.inside.rows.items c.reserve.new.rows.items c.reserve.ensures.keeps c.self.invariant.2,
  c.self.invariant.3,
  some_grown g.H.TreeHash.of _ _ refl refl c.reserve.ensures.keeps c.self.invariant.4,
)

pub returns-in_err-reserve-clause-stands : goal.returns-in_err-reserve-clause-stands
returns-in_err-reserve-clause-stands g c =
    stands_grown g.H.TreeHash.of c.args.self.now _ (ap (λ t. t.size) c.self.view_is) (ap (λ t. t.floor) c.self.view_is)
    (subst (λ t. Grown t c.reserve.new.rows.items) (ap (λ t. t.rows) c.self.view_is) c.reserve.ensures.keeps)

pub invariant_of-self-2 : goal.invariant_of-self-2
invariant_of-self-2 g c = (
  c.self.invariant.0,
  grown_counts c.self.inside.floor c.self.inside.size c.self.inside.rows.items c.reserve.new.rows.items c.self.invariant.0 c.reserve.ensures.keeps c.self.invariant.1,
  c.in_ok-reserve.ensures.ok,
  omega arith,
  some_grown g.H.TreeHash.of _ _ refl refl c.reserve.ensures.keeps c.self.invariant.4,
)

pub returns-clause-stands : goal.returns-clause-stands
returns-clause-stands g c =
    stands_grown g.H.TreeHash.of c.args.self.now _ (ap (λ t. t.size) c.self.view_is) (ap (λ t. t.floor) c.self.view_is)
    (subst (λ t. Grown t c.reserve.new.rows.items) (ap (λ t. t.rows) c.self.view_is) c.reserve.ensures.keeps)

pub returns-in_err-reserve-clause-over : goal.returns-in_err-reserve-clause-over
returns-in_err-reserve-clause-over g c =
    over_grown g.H.TreeHash.of c.args.self.now _ (ap (λ t. t.size) c.self.view_is) (ap (λ t. t.floor) c.self.view_is)
    (subst (λ t. Grown t c.reserve.new.rows.items) (ap (λ t. t.rows) c.self.view_is) c.reserve.ensures.keeps)

pub returns-clause-over : goal.returns-clause-over
returns-clause-over g c =
    over_grown g.H.TreeHash.of c.args.self.now _ (ap (λ t. t.size) c.self.view_is) (ap (λ t. t.floor) c.self.view_is)
    (subst (λ t. Grown t c.reserve.new.rows.items) (ap (λ t. t.rows) c.self.view_is) c.reserve.ensures.keeps)
