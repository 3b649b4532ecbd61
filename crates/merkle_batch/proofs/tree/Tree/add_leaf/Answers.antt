use Rattle.std.proofs.Common.{arith, refl, ◌≡◌, suc, ◌+◌, ◌-◌, ◌++◌, length, [], ◌∷◌, ap, subst, sym, ◌∙◌}
use Rattle.merkle_batch.specs.Rows.{KeepsNodes, HasCounted, HasRoom}
use Rattle.merkle_batch.proofs.Keeping.{room_one, stands_more, all_items}
use Rattle.merkle_batch.specs.Over.{KeepsOver}
use Rattle.merkle_batch.proofs.Over.{over_more}
use Rattle.merkle_batch.proofs.Standing.{some_more}
use Rattle.merkle_batch.proofs.tree.Tree.add_leaf.Goals as goal

pub add-requires : goal.add-requires
add-requires g c =
    let some : c.self.inside.spare ≡ suc (c.self.inside.spare - 1) = omega (arith, c.requires.room, ap (λ t. t.spare) c.self.view_is) in
    let room = subst (λ j. HasRoom j c.self.inside.rows.items) some c.self.invariant.2 in
    let one = room_one (c.self.inside.spare - 1) c.self.inside.rows.items room in
    rw c.deref_mut.ensures.value one

pub invariant_of-self : goal.invariant_of-self
invariant_of-self g c =
    let hash = g.H.TreeHash.of in
    let value = c.deref_mut.ensures.value in
    let all = all_items c.self.inside.rows.len c.add.new.rows c.self.inside.rows.items (sym (ap length value) ∙ c.deref_mut.ensures.len) (c.add.auto.rows ∙ ap length value) in
    let size : suc c.self.inside.size ≡ c.self.inside.size + 1 = omega arith in
    let spare : c.self.inside.spare ≡ suc (c.self.inside.spare - 1) = omega (arith, c.requires.room, ap (λ t. t.spare) c.self.view_is) in
    let counts = c.add.ensures.counts c.self.inside.floor c.self.inside.size c.self.invariant.0 (subst (HasCounted c.self.inside.floor c.self.inside.size) (sym value) c.self.invariant.1) in
    let room = c.add.ensures.room (c.self.inside.spare - 1) (subst (HasRoom (suc (c.self.inside.spare - 1))) (sym value) (subst (λ n. HasRoom n c.self.inside.rows.items) spare c.self.invariant.2)) in (
      omega (arith, c.self.invariant.0),
      subst (HasCounted c.self.inside.floor (c.self.inside.size + 1)) (sym all) (subst (λ n. HasCounted c.self.inside.floor n c.add.new.rows) size counts),
      subst (HasRoom (c.self.inside.spare - 1)) (sym all) room,
      omega (arith, c.self.invariant.3),
      some_more hash _ _ c.args.leaf.0 c.self.invariant.0 refl refl
          (λ q f qs es ones low within k.
          subst (λ t. KeepsOver hash q f t qs (es ++ c.args.leaf.0 ∷ [])) (sym all) (c.add.ensures.over q f qs es ones low within (subst (λ t. KeepsOver hash q f t qs es) (sym value) k))) c.self.invariant.4,
    )

pub returns-clause-stands : goal.returns-clause-stands
returns-clause-stands g c =
    let view = c.self.view_is in
    let hash = g.H.TreeHash.of in
    stands_more hash c.args.self.now _ c.args.leaf.0 (omega (arith, c.self.invariant.0, ap (λ t. t.floor) view, ap (λ t. t.size) view)) (ap (λ t. t.size + 1) view) (ap (λ t. t.floor) view)
    (λ p ds floor keeps.
    let old = subst (λ t. KeepsNodes hash p t ds) (sym (ap (λ t. t.rows) view) ∙ sym c.deref_mut.ensures.value) keeps in
    subst (λ t. KeepsNodes hash p t (ds ++ c.args.leaf.0 ∷ []))
    (sym (all_items c.self.inside.rows.len c.add.new.rows c.self.inside.rows.items (sym (ap length c.deref_mut.ensures.value) ∙ c.deref_mut.ensures.len) (c.add.auto.rows ∙ ap length c.deref_mut.ensures.value)))
    (c.add.ensures.keeps p ds floor old))

pub returns-clause-over : goal.returns-clause-over
returns-clause-over g c =
    let view = c.self.view_is in
    let hash = g.H.TreeHash.of in
    over_more hash c.args.self.now _ c.args.leaf.0 (omega (arith, c.self.invariant.0, ap (λ t. t.floor) view, ap (λ t. t.size) view)) (ap (λ t. t.size + 1) view) (ap (λ t. t.floor) view)
    (λ q f qs es ones low within keeps.
    let old = subst (λ t. KeepsOver hash q f t qs es) (sym (ap (λ t. t.rows) view) ∙ sym c.deref_mut.ensures.value) keeps in
    subst (λ t. KeepsOver hash q f t qs (es ++ c.args.leaf.0 ∷ []))
    (sym (all_items c.self.inside.rows.len c.add.new.rows c.self.inside.rows.items (sym (ap length c.deref_mut.ensures.value) ∙ c.deref_mut.ensures.len) (c.add.auto.rows ∙ ap length c.deref_mut.ensures.value)))
    (c.add.ensures.over q f qs es ones low within old))
