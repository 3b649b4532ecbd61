use Rattle.std.proofs.Common.{rules, ◌≡◌, ◌<◌, ◌+◌, ◌++◌, ◌∷◌, [], ℕ, Ok, List, length, take, get_or, refl, sym, ap, ◌∙◌, arith, length-append, vec_items}
use Rattle.std.proofs.lemmas.List.{map-append, take_all, take_more}
use Rattle.std.specs.Prelude.{Result, codes, decimal}
use Rattle.ledger_bytes.specs.declared.failure.NoMemory.{NoMemory}
use Rattle.proof_board.specs.declared.hands.Tally.{Tally}
use Rattle.ledger_cli.specs.Endings.{line_of}
use Rattle.ledger_cli.specs.Boards.{prover_line, prover_lines, published_line}
use Rattle.ledger_cli.proofs.BoardLaws.{lines_none, lines_push}
use Rattle.ledger_cli.proofs.tallies.spell_tallies.Goals as goal

pub loop-k-init : goal.loop-k-init
loop-k-init c = ([], refl, refl, c.new-text.ensures.items ∙ sym lines_none)

pub loop-k-preserved : goal.loop-k-preserved
loop-k-preserved c =
    let inv = c.loop-k.invariant in
    let t : Tally = c.in_ok-accepted.field-0 in
    let results : List (Result Tally NoMemory) = c.args.results.now in
    let less : c.loop-k.k < length results = search rules in
    let here : get_or results c.loop-k.k (Ok t) ≡ Ok t = search rules in
    let line : vec_items c.put_line.new.out ≡ vec_items c.loop-k.text ++ prover_line c.loop-k.k t =
    c.in_ok-put_line.ensures ∙ ap (λ (n : ℕ). vec_items c.loop-k.text ++ line_of (codes "board") (decimal c.loop-k.k ∷ decimal n ∷ decimal t.size ∷ [])) c.from.ensures in (
      inv.0 ++ t ∷ [],
      length-append inv.0 (t ∷ []) ∙ ap (λ (n : ℕ). n + 1) inv.1,
      take_more results c.loop-k.k (Ok t) less ∙ (λ i. inv.2 i ++ here i ∷ []) ∙ sym (map-append {B = Result Tally NoMemory} Ok inv.0 (t ∷ [])),
      line ∙ ap (λ (l : List ℕ). l ++ prover_line c.loop-k.k t) inv.3 ∙ ap (λ (n : ℕ). prover_lines 0 inv.0 ++ prover_line n t) (let n = inv.1 in let m : c.loop-k.k ≡ 0 + length inv.0 = omega (arith, n) in m) ∙ sym (lines_push 0 inv.0 t),
    )

pub returns : goal.returns
returns c =
    let inv = c.loop-k.invariant in
    let all : take c.loop-k.k c.args.results.now ≡ c.args.results.now = take_all c.loop-k.k c.args.results.now (search rules) in
    (inv.0, sym all ∙ inv.2, c.in_ok-put_line-2.ensures ∙ ap (λ (l : List ℕ). l ++ published_line c.args.published) inv.3)
