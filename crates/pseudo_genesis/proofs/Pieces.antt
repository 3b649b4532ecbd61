-- Pieces that are written one after the other.
use Rattle.std.proofs.Common.{◌≡◌, ℕ, List, ◌++◌, Result, Ok, Err, ap, ◌∙◌, append_assoc}
use Rattle.std.specs.Prelude.{OnOk}
use Rattle.ledger_bytes.specs.declared.failure.NoMemory.{NoMemory}

pub three_pieces : {A : Type 0} (made : Result A NoMemory) (w a b c x y z : List ℕ) → x ≡ w ++ a → y ≡ x ++ b → OnOk made (z ≡ y ++ c) → OnOk made (z ≡ w ++ (a ++ (b ++ c)))
three_pieces (Ok done) w a b c x y z first second third =
    third ∙ ap (λ (t : List ℕ). t ++ c) second ∙ append_assoc x b c ∙ (ap (λ (t : List ℕ). t ++ (b ++ c)) first ∙ append_assoc w a (b ++ c))
three_pieces (Err e) w a b c x y z first second third = tt

pub four_pieces : {A : Type 0} (made : Result A NoMemory) (w a b c d x y z u : List ℕ) → x ≡ w ++ a → y ≡ x ++ b → z ≡ y ++ c → OnOk made (u ≡ z ++ d) → OnOk made (u ≡ w ++ (a ++ (b ++ (c ++ d))))
four_pieces (Ok done) w a b c d x y z u first second third fourth =
    fourth ∙ ap (λ (t : List ℕ). t ++ d) third ∙ append_assoc y c d ∙ (ap (λ (t : List ℕ). t ++ (c ++ d)) second ∙ append_assoc x b (c ++ d))
    ∙ (ap (λ (t : List ℕ). t ++ (b ++ (c ++ d))) first ∙ append_assoc w a (b ++ (c ++ d)))
four_pieces (Err e) w a b c d x y z u first second third fourth = tt
