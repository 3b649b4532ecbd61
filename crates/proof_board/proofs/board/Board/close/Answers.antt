use Rattle.std.proofs.Common.{rules, ◌≡◌, ◌<◌, length, take, get_or, sym, subst, vec_items}
use Rattle.std.specs.Prelude.{All}
use Rattle.std.proofs.lemmas.List.{take_all}
use Rattle.std.proofs.lemmas.List.Elements.{All-more}
use mathlib.Core.List.{IsPrefix}
use Rattle.proof_board.specs.declared.pass.ProverPass.{ProverPass}
use Rattle.proof_board.specs.History.{Mark}
use Rattle.proof_board.specs.Words.{seen_by}
use Rattle.proof_board.proofs.board.Board.close.Goals as goal

pub loop-k-preserved : goal.loop-k-preserved
loop-k-preserved g c =
    let P : ProverPass → Type 0 = λ p. IsPrefix (seen_by p).log c.front-front.result.log in
    let xs = vec_items c.args.passes in
    let less : c.loop-k.k < length xs = search rules in
    let here : get_or xs c.loop-k.k c.index.result.now ≡ c.index.result.now = search rules in
    All-more P xs c.loop-k.k c.index.result.now less c.loop-k.invariant (subst P (sym here) c.settle.ensures)

pub returns : goal.returns
returns g c =
    let xs = vec_items c.args.passes in
    let all : take c.loop-k.k xs ≡ xs = take_all c.loop-k.k xs (search rules) in
    subst (λ (m : Mark). All (λ p. IsPrefix (seen_by p).log m.log) xs) c.front-front.ensures
    (subst (All (λ p. IsPrefix (seen_by p).log c.front-front.result.log)) all c.loop-k.invariant)
