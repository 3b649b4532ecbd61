use Rattle.std.proofs.Common.{ap, subst, List}
use Rattle.std.specs.Prelude.{nat_le}
use mathlib.Core.List.{IsPrefix}
use mathlib.Core.Path.{refl}
use Rattle.proof_board.specs.History.{Digests}
use Rattle.proof_board.proofs.Fronts.{begins_or}
use Rattle.proof_board.proofs.history.Front.begins.Goals as goal

pub returns : goal.returns
returns c =
    let both = c.learn.new.self.log in
    let this : IsPrefix c.self.inside.seen.log both = subst (λ (l : List Digests). IsPrefix l both) (ap (λ s. s.log) c.again-both.ensures) c.learn.ensures.2 in
    rw (← c.self.view_is, ← c.other.view_is) (begins_or c.self.inside.seen.log c.other.inside.seen.log both c.self.inside.count c.other.inside.count c.self.invariant c.other.invariant this c.learn.ensures.3 (nat_le c.self.inside.count c.other.inside.count) refl)
