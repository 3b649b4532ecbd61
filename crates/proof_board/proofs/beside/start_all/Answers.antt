use Rattle.std.proofs.Common.{rules, List, [], ◌∷◌, ◌++◌, append_assoc, sym, ap, ◌∙◌, subst, vec_items}
use Rattle.std.specs.Prelude.{All}
use Rattle.std.specs.Vec.Iter.{into_iter_items}
use Rattle.std.proofs.lemmas.List.Elements.{All-head, All-tail}
use Rattle.proof_board.specs.declared.pass.ProverPass.{ProverPass}
use Rattle.proof_board.specs.declared.hands.Hand.{Hand}
use Rattle.proof_board.specs.Words.{IsPassOf}
use Rattle.proof_board.specs.Hands.{Promised, EachGives}
use Rattle.proof_board.proofs.Paired.{gives_none, gives_push}
use Rattle.proof_board.proofs.beside.start_all.Goals as goal

pub loop-pass-init : goal.loop-pass-init
loop-pass-init g c =
    let R : ProverPass → Hand → Type 0 = λ p h. Promised c.args.board.now p c.args.orders.count h in (
      tt,
      tt,
      search rules,
      search rules,
      search rules,
      subst (λ (l : List Hand). EachGives R [] l) (sym c.requires.room.0) (gives_none R),
      search rules,
    )

pub start-hand-requires : goal.start-hand-requires
start-hand-requires g c =
    let pass = All-head (IsPassOf c.args.board.now) c.in-Some.pass (into_iter_items c.next.new.self) (subst (All (IsPassOf c.args.board.now)) c.in-Some.ensures.steps.0 c.loop-pass.invariant.6) in (search rules, pass)

pub loop-pass-preserved : goal.loop-pass-preserved
loop-pass-preserved g c =
    let R : ProverPass → Hand → Type 0 = λ p h. Promised c.args.board.now p c.args.orders.count h in
    let inv = c.loop-pass.invariant in
    let pass = c.in-Some.pass in
    let rest : List ProverPass = into_iter_items c.next.new.self in (
      tt,
      tt,
      search rules,
      search rules,
      append_assoc c.loop-pass.yielded (pass ∷ []) rest ∙ ap (λ (l : List ProverPass). c.loop-pass.yielded ++ l) (sym c.in-Some.ensures.steps.0) ∙ inv.4,
      subst (λ (l : List Hand). EachGives R (c.loop-pass.yielded ++ pass ∷ []) l) (sym c.push_reserved.ensures.items)
          (gives_push R c.loop-pass.yielded (vec_items c.loop-pass.hands) pass c.start-hand.result inv.5 c.start-hand.ensures),
      All-tail (IsPassOf c.args.board.now) pass rest (subst (All (IsPassOf c.args.board.now)) c.in-Some.ensures.steps.0 inv.6),
    )
