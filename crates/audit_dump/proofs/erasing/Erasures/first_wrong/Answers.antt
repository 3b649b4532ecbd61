use Rattle.std.proofs.Common.{◌≡◌, ◌<◌, ◌+◌, ℕ, List, length, Bool, true, false, None, arith, refl, sym, subst, ap, ap₂, ◌∙◌, below_more}
use Rattle.std.specs.Prelude.{get_or, not}
use Rattle.std.proofs.lemmas.Bool.{true≢false}
use Rattle.std.specs.Bool.{beq}
use Rattle.audit_dump.specs.Ending.{IsFirstWithout}
use Rattle.audit_dump.specs.Notes.{Erased, IsErasedRightly, is_marked_hidden}
use Rattle.audit_dump.specs.declared.erasing.Mark.{Mark}
use Rattle.audit_dump.proofs.Erased.{IsRightAt, all_right, first_wrong, right_by}
use Rattle.audit_dump.proofs.erasing.Erasures.first_wrong.Goals as goal

abbrev nothing : Mark
nothing = record { erased = false; named = false; clue = None }

same_by : (a b : Bool) → not (beq a b) ≡ false → a ≡ b
same_by true true is = refl
same_by true false is = absurd (true≢false is)
same_by false true is = absurd (true≢false is)
same_by false false is = refl

differ_by : (a b : Bool) → not (beq a b) ≡ true → a ≡ b → ⊥
differ_by true true is same = absurd (true≢false (sym is))
differ_by true false is same = true≢false same
differ_by false true is same = true≢false (sym same)
differ_by false false is same = absurd (true≢false (sym is))

pub loop-place-init : goal.loop-place-init
loop-place-init c = λ k lt. absurd (omega (arith, lt))

pub returns-then-mark-is_hidden : goal.returns-then-mark-is_hidden
returns-then-mark-is_hidden c items o are =
    let kept = c.args.self.now in
    let k = c.loop-place.place in
    let first = ap (λ (e : Erased). e.first) c.self.view_is in
    let marks = c.deref-mark-items.ensures.value ∙ ap (λ (e : Erased). e.marks) c.self.view_is in
    let told = c.is_hidden.ensures ∙ ap₂ (λ (n : ℕ) (ms : List Mark). is_marked_hidden kept.clues (n + k) (get_or ms k nothing)) first marks in
    let within : k < length kept.marks = omega (arith, c.loop-place-test.true, ap length marks) in
    subst (λ (n : ℕ). IsFirstWithout (IsErasedRightly items) items (n + k)) (sym first)
    (first_wrong kept items o are k within c.loop-place.invariant
    (λ right. differ_by (get_or c.deref-mark-items.result.now k nothing).erased c.is_hidden.result c.if-mark-is_hidden.true
    (ap (λ (ms : List Mark). (get_or ms k nothing).erased) marks ∙ right nothing ∙ sym told)))

pub loop-place-preserved : goal.loop-place-preserved
loop-place-preserved c =
    let kept = c.args.self.now in
    let k = c.loop-place.place in
    let first = ap (λ (e : Erased). e.first) c.self.view_is in
    let marks = c.deref-mark-items.ensures.value ∙ ap (λ (e : Erased). e.marks) c.self.view_is in
    let told = c.is_hidden.ensures ∙ ap₂ (λ (n : ℕ) (ms : List Mark). is_marked_hidden kept.clues (n + k) (get_or ms k nothing)) first marks in
    let within : k < length kept.marks = omega (arith, c.loop-place-test.true, ap length marks) in
    below_more (IsRightAt kept) k c.loop-place.invariant
    (right_by kept k nothing within
    (ap (λ (ms : List Mark). (get_or ms k nothing).erased) (sym marks)
    ∙ same_by (get_or c.deref-mark-items.result.now k nothing).erased c.is_hidden.result c.if-mark-is_hidden.false ∙ told))

pub returns : goal.returns
returns c items o are =
    let kept = c.args.self.now in
    let marks = c.deref-mark-items.ensures.value ∙ ap (λ (e : Erased). e.marks) c.self.view_is in
    all_right kept items o are (λ k lt. c.loop-place.invariant k (omega (arith, lt, ap length marks, c.loop-place-test.false, c.loop-place.auto.place-end)))
