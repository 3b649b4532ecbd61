-- What a publish does to what is shown and to what waits.
use Rattle.std.proofs.Common.{◌≡◌, ℕ, List, [], ◌∷◌, ◌++◌, refl, sym, ap, ◌∙◌, subst, append-nil}
use Rattle.std.specs.Prelude.{All, fold}
use Rattle.std.proofs.lemmas.List.Elements.{All-append}
use Rattle.crossbeam_utils.specs.Register.{TurnsAt}
use Rattle.proof_board.specs.declared.view.Growth.{Growth}
use Rattle.proof_board.specs.declared.view.View.{View}
use Rattle.proof_board.specs.declared.shown.Growing.{Growing}
use Rattle.proof_board.specs.History.{Digests, Mark, IsWide, all_leaves, leaves_of}
use Rattle.proof_board.specs.Growing.{grown}
use Rattle.proof_board.specs.Rule.{KeepsRule, Saw}
use Rattle.proof_board.specs.Words.{leaves_in}
use Rattle.proof_board.proofs.Fronts.{leaves_push}
use Rattle.proof_board.proofs.Steps.{goes}

abbrev digests : Growing → Digests
digests op = leaves_of op.stretches.items

-- the snapshot takes one batch, with which the history goes on
pub publishes : (port : ℕ) (v : View) (x : Growth) (op : Growing) (ops : List Growing) (at : Mark) → at ≡ x.at → op.at.book ≡ at.book → op.at.log ≡ at.log ++ leaves_of op.stretches.items ∷ [] → ops ≡ op ∷ [] → All IsWide (digests op)
    → (next : Growth) → next ≡ fold grown x ops → TurnsAt KeepsRule port v x next (λ v x y w. Saw v y w)
publishes port v x op ops at same book log all wide next is =
    let is' : next ≡ grown x op = is ∙ ap (fold grown x) all in
    let log' : op.at.log ≡ x.at.log ++ digests op ∷ [] = log ∙ ap (λ (m : Mark). m.log ++ digests op ∷ []) same in
    subst (λ (y : Growth). TurnsAt KeepsRule port v x y (λ v x y w. Saw v y w)) (sym is')
    (goes port v x (grown x op) refl (book ∙ ap (λ (m : Mark). m.book) same) (digests op ∷ [], sym log')
    (λ whole. ap (λ (l : Digests). l ++ digests op) whole ∙ sym (leaves_push x.at.log (digests op)) ∙ ap all_leaves (sym log'))
    (λ each. All-append IsWide x.leaves (digests op) each wide))

-- what waits where nothing was handed on
pub waits : (ops : List Growing) (batch : Digests) → ops ≡ [] → leaves_in ops ++ batch ≡ batch
unfolding leaves_in
waits ops batch none = ap (λ l. leaves_in l ++ batch) none

-- what was handed on waits still
pub waits_on : (op : Growing) (ops old : List Growing) (rest : Digests) → ops ≡ op ∷ [] → rest ≡ [] → old ≡ [] → leaves_in ops ++ rest ≡ leaves_in old ++ leaves_of op.stretches.items
unfolding leaves_in
waits_on op ops old rest all none before =
    ap (λ l. leaves_in l ++ rest) all ∙ ap (λ r. (digests op ++ []) ++ r) none ∙ append-nil (digests op ++ []) ∙ append-nil (digests op) ∙ sym (ap (λ l. leaves_in l ++ digests op) before)
