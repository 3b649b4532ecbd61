use Rattle.std.proofs.Common.{rules, ◌≡◌, List, [], ◌∷◌, ◌++◌, length, sym, ap, ◌∙◌, append-nil, vec_items}
use lib.ListN.{length-map}
use Rattle.std.specs.Vec.Iter.{into_iter_items}
use Rattle.crossbeam_queue.specs.Passes.{view}
use Rattle.intake_queue.specs.declared.intake.LanePass.{LanePass}
use Rattle.intake_queue.specs.Passes.{lane_view, sent_by, IsSenderOf}
use Rattle.intake_queue.proofs.Lists.{next_at, none_left}
use Rattle.intake_queue.proofs.Steps.{returns, settles}
use Rattle.intake_queue.proofs.intake.Intake.close.Goals as goal

pub absorb-requires-clause-rule : goal.absorb-requires-clause-rule
absorb-requires-clause-rule g c =
    let inv = c.loop-pass.invariant in
    let rest : List (LanePass g.row.T.Denot) = into_iter_items c.next.new.self in
    let whole : c.loop-pass.yielded ++ c.in-Some.pass ∷ rest ≡ vec_items c.args.lanes = ap (λ (l : List (LanePass g.row.T.Denot)). c.loop-pass.yielded ++ l) (sym c.in-Some.ensures.steps.0) ∙ inv.3 in
    let at = next_at (λ k p. IsSenderOf c.args.self.queue p × ((lane_view p).lane ≡ k)) c.loop-pass.yielded c.in-Some.pass rest (vec_items c.args.lanes) whole c.requires.lanes.1 in
    let long : length (view c.loop-pass.seat).back ≡ length c.loop-pass.yielded = ap length inv.7 ∙ length-map c.loop-pass.yielded sent_by in
    returns g.T.Piece.lane_of g.T.Piece.index_of _ _ _ _ inv.4 at.0.1 (at.1 ∙ sym long)

pub learn_as-requires-clause-rule : goal.learn_as-requires-clause-rule
learn_as-requires-clause-rule g c =
    let inv = c.loop-pass.invariant in
    let empty : into_iter_items c.loop-pass.pass-iterator ≡ [] = (let z = c.in-None.ensures.steps.0 in none_left (into_iter_items c.loop-pass.pass-iterator) (search rules)) in
    let whole : c.loop-pass.yielded ≡ vec_items c.args.lanes = sym (append-nil c.loop-pass.yielded) ∙ ap (λ (l : List (LanePass g.row.T.Denot)). c.loop-pass.yielded ++ l) (sym empty) ∙ inv.3 in
    let long : length (view c.loop-pass.seat).back ≡ length (view c.loop-pass.seat).plan =
    ap length inv.7 ∙ length-map c.loop-pass.yielded sent_by ∙ ap length whole ∙ c.requires.lanes.0 ∙ sym (ap length inv.5) in
    settles g.T.Piece.lane_of g.T.Piece.index_of _ _ inv.4 long
