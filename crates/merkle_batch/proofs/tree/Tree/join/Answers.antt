use Rattle.std.proofs.Common.{arith, ◌≡◌, ◌≤◌, ◌+◌, ◌-◌, ◌++◌, length, ap, subst, sym, refl, ◌∙◌}
use Rattle.merkle_batch.specs.Over.{KeepsOver}
use Rattle.merkle_batch.specs.Rows.{HasRoom}
use Rattle.merkle_batch.specs.Stretches.{lowest}
use Rattle.merkle_batch.proofs.Keeping.{all_items}
use Rattle.merkle_batch.proofs.Stretching.{room_less}
use Rattle.merkle_batch.proofs.Standing.{over_joined, stands_joined, some_joined, some_counts}
use Rattle.merkle_batch.proofs.tree.Tree.join.Goals as goal

pub add_rows-requires-clause-room : goal.add_rows-requires-clause-room
add_rows-requires-clause-room g c =
    let leaves = ap lowest c.deref.ensures.value ∙ ap (λ s. s.leaves) c.stretch.view_is in
    subst (HasRoom (0 + length (lowest c.deref.result.now))) (sym c.deref_mut.ensures.value)
    (room_less (0 + length (lowest c.deref.result.now)) c.self.inside.spare c.self.inside.rows.items (omega (arith, ap length leaves, c.requires.room, ap (λ t. t.spare) c.self.view_is)) c.self.invariant.2)

pub invariant_of-self : goal.invariant_of-self
invariant_of-self g c =
    let hash = g.H.TreeHash.of in
    let view = c.self.view_is in
    let value = c.deref_mut.ensures.value in
    let leaves = ap lowest c.deref.ensures.value ∙ ap (λ s. s.leaves) c.stretch.view_is in
    let all = all_items c.self.inside.rows.len c.add_rows.new.rows c.self.inside.rows.items (sym (ap length value) ∙ c.deref_mut.ensures.len) (c.add_rows.auto.rows ∙ ap length value) in
    let floor : c.self.inside.floor ≤ c.self.inside.size + c.len-len.result = omega (arith, c.self.invariant.0) in
    let count : 0 + length (lowest c.deref.result.now) + (c.self.inside.spare - c.len-len.result) ≡ c.self.inside.spare =
    omega (arith, ap length leaves, c.len-len.ensures, c.requires.room, ap (λ t. t.spare) view) in
    let room = c.add_rows.ensures.room (c.self.inside.spare - c.len-len.result) (subst (HasRoom _) (sym value) (subst (λ n. HasRoom n c.self.inside.rows.items) (sym count) c.self.invariant.2)) in
    let some = some_joined hash _ _ c.args.stretch.now.leaves c.self.invariant.0 (ap (λ n. c.self.inside.size + n) c.len-len.ensures) refl
    (λ q f qs es ones low within k.
    subst (λ t. KeepsOver hash q f t qs (es ++ c.args.stretch.now.leaves)) (sym all)
    (subst (λ ls. KeepsOver hash q f c.add_rows.new.rows qs (es ++ ls)) leaves (c.add_rows.ensures.over q f qs es ones low within (subst (λ t. KeepsOver hash q f t qs es) (sym value) k)))) c.self.invariant.4 in
    (floor, some_counts hash _ floor some, subst (HasRoom (c.self.inside.spare - c.len-len.result)) (sym all) room, omega (arith, c.self.invariant.3), some)

pub returns-clause-stands : goal.returns-clause-stands
returns-clause-stands g c =
    let hash = g.H.TreeHash.of in
    let view = c.self.view_is in
    let value = c.deref_mut.ensures.value in
    let leaves = ap lowest c.deref.ensures.value ∙ ap (λ s. s.leaves) c.stretch.view_is in
    let all = all_items c.self.inside.rows.len c.add_rows.new.rows c.self.inside.rows.items (sym (ap length value) ∙ c.deref_mut.ensures.len) (c.add_rows.auto.rows ∙ ap length value) in
    stands_joined hash c.args.self.now _ c.args.stretch.now.leaves (omega (arith, c.self.invariant.0, ap (λ t. t.floor) view, ap (λ t. t.size) view))
    (ap (λ n. n + c.len-len.result) (ap (λ t. t.size) view) ∙ ap (λ n. c.args.self.now.size + n) c.len-len.ensures) (ap (λ t. t.floor) view)
    (λ q f qs es ones low within k.
    subst (λ t. KeepsOver hash q f t qs (es ++ c.args.stretch.now.leaves)) (sym all)
    (subst (λ ls. KeepsOver hash q f c.add_rows.new.rows qs (es ++ ls)) leaves (c.add_rows.ensures.over q f qs es ones low within (subst (λ t. KeepsOver hash q f t qs es) (sym (ap (λ t. t.rows) view) ∙ sym value) k))))

pub returns-clause-over : goal.returns-clause-over
returns-clause-over g c =
    let hash = g.H.TreeHash.of in
    let view = c.self.view_is in
    let value = c.deref_mut.ensures.value in
    let leaves = ap lowest c.deref.ensures.value ∙ ap (λ s. s.leaves) c.stretch.view_is in
    let all = all_items c.self.inside.rows.len c.add_rows.new.rows c.self.inside.rows.items (sym (ap length value) ∙ c.deref_mut.ensures.len) (c.add_rows.auto.rows ∙ ap length value) in
    over_joined hash c.args.self.now _ c.args.stretch.now.leaves (omega (arith, c.self.invariant.0, ap (λ t. t.floor) view, ap (λ t. t.size) view))
    (ap (λ n. n + c.len-len.result) (ap (λ t. t.size) view) ∙ ap (λ n. c.args.self.now.size + n) c.len-len.ensures) (ap (λ t. t.floor) view)
    (λ q f qs es ones low within k.
    subst (λ t. KeepsOver hash q f t qs (es ++ c.args.stretch.now.leaves)) (sym all)
    (subst (λ ls. KeepsOver hash q f c.add_rows.new.rows qs (es ++ ls)) leaves (c.add_rows.ensures.over q f qs es ones low within (subst (λ t. KeepsOver hash q f t qs es) (sym (ap (λ t. t.rows) view) ∙ sym value) k))))
