-- What a prover hands back, or its thread will.
use Rattle.std.specs.Prelude.{◌≡◌, ◌≤◌, ℕ, List, [], ◌∷◌, vec_capacity, ⊤}
use Rattle.proof_board.specs.declared.board.Board.{Board}
use Rattle.proof_board.specs.declared.pass.ProverPass.{ProverPass}
use Rattle.proof_board.specs.declared.hands.Room.{Room}
use Rattle.proof_board.specs.declared.parts.Parts.{Parts}
use Rattle.proof_board.specs.declared.hands.Hand.{Hand}
use Rattle.proof_board.specs.declared.hands.Hand.TheVariants.{Here, There}
use Rattle.proof_board.specs.Returning.{Returns}

-- a prover was given this pass of this board, and hands back what it must
abbrev pub Promised : Board → ProverPass → ℕ → Hand → Type 0
Promised b p count (Here r) = Returns b p count r
Promised b p count (There child) = (child.promise.board.value ≡ b) × (child.promise.pass.value ≡ p) × (child.promise.count ≡ count)

-- there is room for so many hands, and for what they hand back
abbrev pub HasProverRoom : ℕ → Room → Type 0
HasProverRoom n room = (room.hands.items ≡ []) × (n ≤ vec_capacity room.hands) × (room.done.items ≡ []) × (n ≤ vec_capacity room.done)

-- two lists are as long, and R holds of the elements at each place
unfoldable pub EachGives : {A B : Type 0} → (A → B → Type 0) → List A → List B → Type 0
EachGives R [] [] = ⊤
EachGives R [] (y ∷ ys) = ⊥
EachGives R (x ∷ xs) [] = ⊥
EachGives R (x ∷ xs) (y ∷ ys) = R x y × EachGives R xs ys

-- there is room for the parts of what so many provers hand back
abbrev pub HasPartRoom : ℕ → Parts → Type 0
HasPartRoom n parts = (parts.passes.items ≡ []) × (n ≤ vec_capacity parts.passes) × (parts.tallies.items ≡ []) × (n ≤ vec_capacity parts.tallies)
