use Rattle.std.proofs.Common.{◌<◌, List, length, sym, ap, ◌∙◌, subst}
use Rattle.std.specs.Prelude.{All}
use mathlib.Core.List.{IsPrefix}
use Rattle.proof_board.specs.declared.view.Growth.{Growth}
use Rattle.proof_board.specs.declared.view.View.{View}
use Rattle.proof_board.specs.History.{Digests, Mark, IsWide, all_leaves}
use Rattle.proof_board.proofs.Passes.{some_more}
use Rattle.proof_board.proofs.pass.ProverPass.answering.Goals as goal

pub invariant_of-pass-clause-some : goal.invariant_of-pass-clause-some
invariant_of-pass-clause-some g c =
    let x = c.enter-reading.result.part.value in
    let log = ap (λ (m : Mark). m.log) (c.again-seen.ensures ∙ c.at.ensures ∙ ap (λ (s : Growth). s.at) c.get-shown.ensures) in
    let more = subst (λ (v : View). IsPrefix v.at.log x.at.log) c.args.self.known c.enter-reading.ensures.known.log in
    subst (λ (l : List Digests). 0 < length (all_leaves l)) (sym log) (some_more c.args.self.seen.log x.at.log more c.args.self.some)

pub invariant_of-pass-clause-wide : goal.invariant_of-pass-clause-wide
invariant_of-pass-clause-wide g c =
    let log = ap (λ (m : Mark). m.log) (c.again-seen.ensures ∙ c.at.ensures ∙ ap (λ (s : Growth). s.at) c.get-shown.ensures) in
    subst (All IsWide) (c.enter-reading.ensures.whole ∙ ap all_leaves (sym log)) c.enter-reading.ensures.wide
