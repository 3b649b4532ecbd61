use Rattle.std.proofs.Common.{◌≡◌, ℕ, Bool, List, cond, refl, sym, ap, subst, ◌∙◌, Some, None, Result, Ok, Err, OnOk, OnErr, IsSome}
use Rattle.std.specs.BTreeMap.{is_at}
use Rattle.std.specs.Cmp.Lexicographic.{slice_cmp}
use Rattle.std.specs.Map.{set_value}
use Rattle.std.specs.Ordering.{nat_cmp}
use Rattle.std.proofs.lemmas.Map.Steps.{set_value_same}
use Rattle.clue_index.specs.Index.{StandsForTrails, trail_in}
use Rattle.clue_index.proofs.IndexLaws.{stands_added}
use Rattle.clue_index.proofs.TableLaws.{tie}
use Rattle.clue_index.proofs.index.ClueIndex.add.Goals as goal

-- what follows from what holds of an answer holds of it
on_ok : {T E : Type 0} (r : Result T E) {P Q : Type 0} → OnOk r P → (P → Q) → OnOk r Q
on_ok (Ok x) p from = from p
on_ok (Err e) p from = tt

on_err : {T E : Type 0} (r : Result T E) {P Q : Type 0} → OnErr r P → (P → Q) → OnErr r Q
on_err (Ok x) p from = tt
on_err (Err e) p from = from p

pub returns-in-Some-clause-ok : goal.returns-in-Some-clause-ok
returns-in-Some-clause-ok c =
    let w = c.get_mut.follows.holds c.grow.new.self in
    let is = sym c.in-Some.ensures.value in
    on_ok c.grow.result c.grow.ensures.ok (λ grown_is a st named le above.
    stands_added _ _ a c.args.clue.now.0 c.args.jsn (Some c.in-Some.slot.now) c.grow.new.self is grown_is refl (w.3 (subst IsSome (sym is) refl)).0 (subst (λ k. StandsForTrails k a) (sym c.self.view_is) st) named le above)

pub returns-in-Some-clause-err : goal.returns-in-Some-clause-err
returns-in-Some-clause-err c =
    let w = c.get_mut.follows.holds c.grow.new.self in
    let is = sym c.in-Some.ensures.value in
    on_err c.grow.result c.grow.ensures.err (λ same.
    let test : List ℕ → Bool = is_at (slice_cmp nat_cmp c.args.clue.now.0) in
    let before = c.self.inside.slots.entries in
    let entries = w.0 ∙ (ap (set_value test before) same ∙ set_value_same test before c.in-Some.slot.now is) in
    ap (λ trails. record { trails = trails; floor = c.self.inside.floor }) entries ∙ c.self.view_is)

pub returns-in_ok-insert-in-None-clause-ok : goal.returns-in_ok-insert-in-None-clause-ok
returns-in_ok-insert-in-None-clause-ok c a st named le above =
    let st' = subst (λ k. StandsForTrails k a) (sym c.self.view_is) st in
    let is = sym c.in-None.ensures.value in
    let h = c.get_mut.follows.holds-at-none in
    let slot = c.in_ok-slot-in-None.slot in
    let trails : (q : List ℕ) → trail_in q c.insert.new.self.entries ≡ cond (tie c.args.clue.now.0 q) (Some slot) (trail_in q c.self.inside.slots.entries) =
    λ q. c.in_ok-insert-in-None.ensures.updates.0 q ∙ ap (λ m. cond (tie c.args.clue.now.0 q) (Some slot) (trail_in q m.entries)) h in
    stands_added _ _ a c.args.clue.now.0 c.args.jsn None slot is c.in_ok-slot-in-None.ensures refl trails st' named le above
