use Rattle.std.proofs.Common.{◌≡◌, ◌+◌, sym, ap, subst, ◌∙◌, arith}
use Rattle.clue_index.specs.Added.{trail_of}
use Rattle.clue_index.specs.Index.{StandsForTrails}
use Rattle.clue_index.specs.Trail.{count_of, last_of}
use Rattle.clue_index.proofs.IndexLaws.{count_found, last_found, absent}
use Rattle.clue_index.proofs.index.ClueIndex.next_of.Goals as goal

pub returns-in-Some-clause-ordinal : goal.returns-in-Some-clause-ordinal
returns-in-Some-clause-ordinal c a st fits =
    let st' = subst (λ k. StandsForTrails k a) (sym c.self.view_is) st in
    let counted : count_of c.in-Some.slot.now ≡ count_of (trail_of a c.args.clue.now.0) = count_found _ a st' c.args.clue.now.0 c.in-Some.slot.now (sym c.in-Some.ensures.value) in
    let count : c.count.result ≡ count_of c.in-Some.slot.now = c.count.ensures (omega arith) in
    omega (arith, c.saturating_add.ensures)

pub returns-in-Some-clause-previous : goal.returns-in-Some-clause-previous
returns-in-Some-clause-previous c a st =
    let st' = subst (λ k. StandsForTrails k a) (sym c.self.view_is) st in
    c.last.ensures ∙ last_found _ a st' c.args.clue.now.0 c.in-Some.slot.now (sym c.in-Some.ensures.value)

pub returns-in-None-clause-ordinal : goal.returns-in-None-clause-ordinal
returns-in-None-clause-ordinal c a st fits =
    let st' = subst (λ k. StandsForTrails k a) (sym c.self.view_is) st in
    ap (λ t. count_of t + 1) (sym (absent _ a st' c.args.clue.now.0 (sym c.in-None.ensures.value)))

pub returns-in-None-clause-previous : goal.returns-in-None-clause-previous
returns-in-None-clause-previous c a st =
    let st' = subst (λ k. StandsForTrails k a) (sym c.self.view_is) st in
    ap last_of (sym (absent _ a st' c.args.clue.now.0 (sym c.in-None.ensures.value)))
