use Rattle.std.proofs.Common.{◌≡◌, ◌<◌, ◌^◌, sym, ap, subst, ◌∙◌, arith}
use Rattle.clue_index.specs.Added.{trail_of}
use Rattle.clue_index.specs.Index.{StandsForTrails}
use Rattle.clue_index.specs.Trail.{Ascends, count_of, kept_from}
use Rattle.clue_index.proofs.IndexLaws.{count_found, kept_found, kept_rising, absent, unnamed}
use Rattle.clue_index.proofs.index.ClueIndex.of.Goals as goal

pub returns-in_ok-kept_jsns-in-Some-clause-count : goal.returns-in_ok-kept_jsns-in-Some-clause-count
returns-in_ok-kept_jsns-in-Some-clause-count c a st fits =
    let st' = subst (λ k. StandsForTrails k a) (sym c.self.view_is) st in
    let counted : count_of c.in-Some.slot.now ≡ count_of (trail_of a c.args.clue.now.0) = count_found _ a st' c.args.clue.now.0 c.in-Some.slot.now (sym c.in-Some.ensures.value) in
    c.count.ensures (omega arith) ∙ counted

pub returns-in-None-clause-count : goal.returns-in-None-clause-count
returns-in-None-clause-count c a st fits =
    let st' = subst (λ k. StandsForTrails k a) (sym c.self.view_is) st in
    ap count_of (sym (absent _ a st' c.args.clue.now.0 (sym c.in-None.ensures.value)))

pub returns-in-None-clause-kept : goal.returns-in-None-clause-kept
returns-in-None-clause-kept c a st =
    let st' = subst (λ k. StandsForTrails k a) (sym c.self.view_is) st in
    c.new.ensures.items ∙ ap (kept_from a.floor) (sym (absent _ a st' c.args.clue.now.0 (sym c.in-None.ensures.value)))

pub returns-in_ok-kept_jsns-in-Some-clause-kept : goal.returns-in_ok-kept_jsns-in-Some-clause-kept
returns-in_ok-kept_jsns-in-Some-clause-kept c a st =
    let st' = subst (λ k. StandsForTrails k a) (sym c.self.view_is) st in
    let is = sym c.in-Some.ensures.value in
    c.in_ok-kept_jsns-in-Some.ensures (st'.ascend c.args.clue.now.0 c.in-Some.slot.now is) ∙ kept_found _ a st' c.args.clue.now.0 c.in-Some.slot.now is

pub returns-in_ok-kept_jsns-in-Some-clause-ascending : goal.returns-in_ok-kept_jsns-in-Some-clause-ascending
returns-in_ok-kept_jsns-in-Some-clause-ascending c a st =
    let st' = subst (λ k. StandsForTrails k a) (sym c.self.view_is) st in
    subst Ascends (sym (returns-in_ok-kept_jsns-in-Some-clause-kept c a st)) (kept_rising _ a st' c.args.clue.now.0)

pub returns-in_ok-kept_jsns-in-Some-clause-none : goal.returns-in_ok-kept_jsns-in-Some-clause-none
returns-in_ok-kept_jsns-in-Some-clause-none c zeros a st =
    let st' = subst (λ k. StandsForTrails k a) (sym c.self.view_is) st in
    let nothing = unnamed _ a st' c.args.clue.now.0 zeros in
    let few : count_of (trail_of a c.args.clue.now.0) < 2 ^ 32 = subst (λ t. count_of t < 2 ^ 32) (sym nothing) (omega arith) in
    (returns-in_ok-kept_jsns-in-Some-clause-count c a st few ∙ ap count_of nothing, returns-in_ok-kept_jsns-in-Some-clause-kept c a st ∙ ap (kept_from a.floor) nothing)

pub returns-in-None-clause-ascending : goal.returns-in-None-clause-ascending
returns-in-None-clause-ascending c a st =
    let st' = subst (λ k. StandsForTrails k a) (sym c.self.view_is) st in
    subst Ascends (sym (returns-in-None-clause-kept c a st)) (kept_rising _ a st' c.args.clue.now.0)

pub returns-in-None-clause-none : goal.returns-in-None-clause-none
returns-in-None-clause-none c zeros a st =
    let st' = subst (λ k. StandsForTrails k a) (sym c.self.view_is) st in
    let nothing = unnamed _ a st' c.args.clue.now.0 zeros in
    let few : count_of (trail_of a c.args.clue.now.0) < 2 ^ 32 = subst (λ t. count_of t < 2 ^ 32) (sym nothing) (omega arith) in
    (returns-in-None-clause-count c a st few ∙ ap count_of nothing, returns-in-None-clause-kept c a st ∙ ap (kept_from a.floor) nothing)
