use Rattle.std.proofs.Common.{arith, refl, ◌≤◌, length, ap, subst, sym, ◌∙◌}
use Rattle.merkle_batch.specs.Rows.{HasCounted, HasRoom, Forgot}
use Rattle.merkle_batch.proofs.Keeping.{has_nodes, all_items}
use Rattle.merkle_batch.proofs.Forgetting.{forgot_counts, stands_forgot}
use Rattle.merkle_batch.proofs.Over.{over_forgot}
use Rattle.merkle_batch.proofs.Standing.{some_forgot}
use Rattle.merkle_batch.proofs.tree.Tree.forget_below.Goals as goal

pub forget-requires-clause-there : goal.forget-requires-clause-there
forget-requires-clause-there g c =
    rw c.deref_mut.ensures.value (has_nodes c.self.inside.floor c.self.inside.size c.args.p c.self.inside.rows.items c.in_ok-check_front.ensures.within.1 c.self.invariant.1)

pub forget-requires-clause-room : goal.forget-requires-clause-room
forget-requires-clause-room g c = rw c.deref_mut.ensures.value c.self.invariant.2

pub invariant_of-self : goal.invariant_of-self
invariant_of-self g c =
    let low : c.self.inside.floor ≤ c.args.p = omega (arith, c.in_ok-check_front.ensures.within.0, ap (λ t. t.floor) c.self.view_is) in
    let value = c.deref_mut.ensures.value in
    let all = all_items c.self.inside.rows.len c.forget.new.rows c.self.inside.rows.items (sym (ap length value) ∙ c.deref_mut.ensures.len) (c.forget.auto.rows ∙ ap length value) in
    let forgot = subst (λ t. Forgot c.self.inside.floor c.args.p t c.forget.new.rows) value c.forget.ensures.forgot in (
      c.in_ok-check_front.ensures.within.1,
      subst (HasCounted c.args.p c.self.inside.size) (sym all) (forgot_counts c.self.inside.floor c.args.p c.self.inside.size c.self.inside.rows.items c.forget.new.rows low c.in_ok-check_front.ensures.within.1 forgot c.self.invariant.1),
      subst (HasRoom c.self.inside.spare) (sym all) c.forget.ensures.room,
      c.self.invariant.3,
      some_forgot g.H.TreeHash.of _ _ low refl (subst (Forgot c.self.inside.floor c.args.p c.self.inside.rows.items) (sym all) forgot) c.self.invariant.4,
    )

pub returns-clause-stands : goal.returns-clause-stands
returns-clause-stands g c =
    let low : c.self.inside.floor ≤ c.args.p = omega (arith, c.in_ok-check_front.ensures.within.0, ap (λ t. t.floor) c.self.view_is) in
    let value = c.deref_mut.ensures.value in
    let view = c.self.view_is in
    let all = all_items c.self.inside.rows.len c.forget.new.rows c.self.inside.rows.items (sym (ap length value) ∙ c.deref_mut.ensures.len) (c.forget.auto.rows ∙ ap length value) in
    let forgot = subst (λ t. Forgot c.self.inside.floor c.args.p t c.forget.new.rows) value c.forget.ensures.forgot in
    let here = subst (λ t. Forgot t c.args.p c.args.self.now.rows c.forget.new.rows) (ap (λ t. t.floor) view) (subst (λ t. Forgot c.self.inside.floor c.args.p t c.forget.new.rows) (ap (λ t. t.rows) view) forgot) in
    stands_forgot g.H.TreeHash.of c.args.self.now _ (omega (arith, low, ap (λ t. t.floor) view)) (ap (λ t. t.size) view)
    (subst (Forgot c.args.self.now.floor c.args.p c.args.self.now.rows) (sym all) here)

pub returns-clause-over : goal.returns-clause-over
returns-clause-over g c =
    let low : c.self.inside.floor ≤ c.args.p = omega (arith, c.in_ok-check_front.ensures.within.0, ap (λ t. t.floor) c.self.view_is) in
    let value = c.deref_mut.ensures.value in
    let view = c.self.view_is in
    let all = all_items c.self.inside.rows.len c.forget.new.rows c.self.inside.rows.items (sym (ap length value) ∙ c.deref_mut.ensures.len) (c.forget.auto.rows ∙ ap length value) in
    let forgot = subst (λ t. Forgot c.self.inside.floor c.args.p t c.forget.new.rows) value c.forget.ensures.forgot in
    let here = subst (λ t. Forgot t c.args.p c.args.self.now.rows c.forget.new.rows) (ap (λ t. t.floor) view) (subst (λ t. Forgot c.self.inside.floor c.args.p t c.forget.new.rows) (ap (λ t. t.rows) view) forgot) in
    over_forgot g.H.TreeHash.of c.args.self.now _ (omega (arith, low, ap (λ t. t.floor) view)) (ap (λ t. t.size) view)
    (subst (Forgot c.args.self.now.floor c.args.p c.args.self.now.rows) (sym all) here)
