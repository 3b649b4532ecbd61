use Rattle.std.proofs.Common.{rules, ◌≡◌, List, ℕ, [], ◌∷◌, ◌++◌, append_assoc, append-nil, sym, refl, ap, ◌∙◌, subst, vec_items}
use Rattle.std.specs.Vec.Iter.{into_iter_items}
use Rattle.proof_board.specs.declared.board.Board.{Board}
use Rattle.proof_board.specs.declared.pass.ProverPass.{ProverPass}
use Rattle.proof_board.specs.declared.hands.Hand.{Hand}
use Rattle.proof_board.specs.declared.hands.Returned.{Returned}
use Rattle.proof_board.specs.Returning.{Returns}
use Rattle.proof_board.specs.Hands.{Promised, EachGives}
use Rattle.proof_board.proofs.Paired.{none_left, gives_none, gives_push, gives_next, gives_end}
use Rattle.proof_board.proofs.beside.finish_all.Goals as goal

abbrev Owes : Board → ℕ → ProverPass → Hand → Type 0
Owes b count p h = Promised b p count h

abbrev Gave : Board → ℕ → ProverPass → Returned → Type 0
Gave b count p r = Returns b p count r

pub loop-hand-init : goal.loop-hand-init
loop-hand-init g c =
    let same : into_iter_items c.into_iter-hand-iterator.result ≡ vec_items c.args.hands = search rules in (
      tt,
      tt,
      search rules,
      search rules,
      λ b count passes all. (
        [],
        passes,
        refl,
        subst (λ (l : List Returned). EachGives (Gave b count) [] l) (sym c.requires.room.0) (gives_none (Gave b count)),
        subst (λ (l : List Hand). EachGives (Owes b count) passes l) (sym same) all,
      ),
    )

pub loop-hand-preserved : goal.loop-hand-preserved
loop-hand-preserved g c =
    let inv = c.loop-hand.invariant in
    let rest : List Hand = into_iter_items c.next.new.self in
    let hand = c.in-Some.hand in (
      tt,
      tt,
      search rules,
      search rules,
      λ b count passes all.
          let was = inv.4 b count passes all in
          let now : EachGives (Owes b count) was.1 (hand ∷ rest) = subst (λ (l : List Hand). EachGives (Owes b count) was.1 l) c.in-Some.ensures.steps.0 was.4 in
          let next = gives_next (Owes b count) was.1 hand rest now in (
            was.0 ++ next.0 ∷ [],
            next.1,
            append_assoc was.0 (next.0 ∷ []) next.1 ∙ ap (λ (l : List ProverPass). was.0 ++ l) next.2 ∙ was.2,
            subst (λ (l : List Returned). EachGives (Gave b count) (was.0 ++ next.0 ∷ []) l) (sym c.push_reserved.ensures.items)
                (gives_push (Gave b count) was.0 (vec_items c.loop-hand.done) next.0 c.finish-returned.result was.3 (c.finish-returned.ensures b next.0 count next.3)),
            next.4,
          ),
    )

pub returns-clause-returned : goal.returns-clause-returned
returns-clause-returned g c b count passes all =
    let was = c.loop-hand.invariant.4 b count passes all in
    let empty : into_iter_items c.loop-hand.hand-iterator ≡ [] = (let z = c.in-None.ensures.steps.0 in none_left (into_iter_items c.loop-hand.hand-iterator) (search rules)) in
    let end : was.1 ≡ [] = gives_end (Owes b count) was.1 (subst (λ (l : List Hand). EachGives (Owes b count) was.1 l) empty was.4) in
    let whole : was.0 ≡ passes = sym (append-nil was.0) ∙ ap (λ (l : List ProverPass). was.0 ++ l) (sym end) ∙ was.2 in
    subst (λ (l : List ProverPass). EachGives (Gave b count) l (vec_items c.loop-hand.done)) whole was.3
