-- Two lists, pair by pair.
use Rattle.std.specs.Prelude.{All}
use Rattle.std.proofs.Common.{◌≡◌, ℕ, List, [], ◌∷◌, ◌++◌, length, map, refl, arith}
use Rattle.std.proofs.lemmas.List.Elements.{All-nil, All-cons}
use Rattle.proof_board.specs.declared.board.Board.{Board}
use Rattle.proof_board.specs.declared.pass.ProverPass.{ProverPass}
use Rattle.proof_board.specs.declared.hands.Returned.{Returned}
use Rattle.proof_board.specs.Words.{IsPassOf}
use Rattle.proof_board.specs.Returning.{Returns}
use Rattle.proof_board.specs.Hands.{EachGives}

pub none_left : {A : Type 0} (xs : List A) → length xs ≡ 0 → xs ≡ []
none_left [] e = refl
none_left (x ∷ xs) e = absurd (omega arith)

module _ {A B : Type 0} (R : A → B → Type 0) where
  pub gives_none : EachGives R [] []
  unfolding EachGives
  gives_none = tt

  pub gives_push : (xs : List A) (ys : List B) (x : A) (y : B) → EachGives R xs ys → R x y → EachGives R (xs ++ x ∷ []) (ys ++ y ∷ [])
  unfolding EachGives
  gives_push [] [] x y a b = (b, tt)
  gives_push [] (z ∷ ys) x y a b = absurd a
  gives_push (z ∷ xs) [] x y a b = absurd a
  gives_push (z ∷ xs) (w ∷ ys) x y a b = (a.0, gives_push xs ys x y a.1 b)

  pub gives_next : (xs : List A) (y : B) (ys : List B) → EachGives R xs (y ∷ ys) → (x : A) × (rest : List A) × (x ∷ rest ≡ xs) × R x y × EachGives R rest ys
  unfolding EachGives
  gives_next [] y ys a = absurd a
  gives_next (x ∷ xs) y ys a = (x, xs, refl, a.0, a.1)

  pub gives_end : (xs : List A) → EachGives R xs [] → xs ≡ []
  unfolding EachGives
  gives_end [] a = refl
  gives_end (x ∷ xs) a = absurd a

-- the passes that came back are of the board
pub back_on_board : (b : Board) (count : ℕ) (ps : List ProverPass) (rs : List Returned) → EachGives (λ p r. Returns b p count r) ps rs → All (IsPassOf b) (map (λ (r : Returned). r.pass) rs)
unfolding EachGives
back_on_board b count [] [] a = All-nil (IsPassOf b)
back_on_board b count [] (r ∷ rs) a = absurd a
back_on_board b count (p ∷ ps) [] a = absurd a
back_on_board b count (p ∷ ps) (r ∷ rs) a = All-cons (IsPassOf b) r.pass (map (λ (x : Returned). x.pass) rs) a.0.board (back_on_board b count ps rs a.1)
