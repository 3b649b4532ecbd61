-- Pieces that are written one after the other.
use Rattle.std.proofs.Common.{◌≡◌, ℕ, List, ◌++◌, Result, Ok, Err, ap, ◌∙◌, append_assoc}
use Rattle.std.specs.Prelude.{OnOk}
use Rattle.ledger_bytes.specs.declared.failure.NoMemory.{NoMemory}

-- a piece more
next_piece : (w a x y b : List ℕ) → x ≡ w ++ a → y ≡ x ++ b → y ≡ w ++ (a ++ b)
next_piece w a x y b first second = second ∙ ap (λ (t : List ℕ). t ++ b) first ∙ append_assoc w a b

pub three_pieces : {A : Type 0} (made : Result A NoMemory) (w a b c x y z : List ℕ) → x ≡ w ++ a → y ≡ x ++ b → OnOk made (z ≡ y ++ c) → OnOk made (z ≡ w ++ (a ++ (b ++ c)))
three_pieces (Ok done) w a b c x y z first second third = next_piece x b y z c second third ∙ ap (λ (t : List ℕ). t ++ (b ++ c)) first ∙ append_assoc w a (b ++ c)
three_pieces (Err e) w a b c x y z first second third = tt

pub five_pieces : {A : Type 0} (made : Result A NoMemory) (w a b c d e x y z u v : List ℕ) → x ≡ w ++ a → y ≡ x ++ b → z ≡ y ++ c → u ≡ z ++ d → OnOk made (v ≡ u ++ e)
    → OnOk made (v ≡ w ++ (a ++ (b ++ (c ++ (d ++ e)))))
five_pieces (Ok done) w a b c d e x y z u v first second third fourth fifth =
    next_piece z d u v e fourth fifth ∙ ap (λ (t : List ℕ). t ++ (d ++ e)) (next_piece x b y z c second third) ∙ append_assoc x (b ++ c) (d ++ e)
    ∙ (ap (λ (t : List ℕ). x ++ t) (append_assoc b c (d ++ e)) ∙ (ap (λ (t : List ℕ). t ++ (b ++ (c ++ (d ++ e)))) first ∙ append_assoc w a (b ++ (c ++ (d ++ e)))))
five_pieces (Err e') w a b c d e x y z u v first second third fourth fifth = tt
