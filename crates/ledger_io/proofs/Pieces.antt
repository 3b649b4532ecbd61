-- Lemmas on bytes that are taken from the front of a list, piece by piece.
use Rattle.std.proofs.Common.{◌≡◌, ℕ, ◌+◌, ◌<◌, List, [], ◌++◌, length, take, drop, min, Option, sym, ap, ◌∙◌, subst, arith}
use Rattle.std.proofs.Math.Seq.{take-add}
use Rattle.std.proofs.lemmas.List.{take-append-drop, drop-drop, length-drop, nil_from_length}
use Rattle.std.specs.Io.KnownBytes.{Appends}
use Rattle.std.proofs.KnownBytes.{Appends-trans}

-- two writes in turn, the second of what the first left of a piece
pub Appends-take : (a b c : Option (List ℕ)) (piece rest : List ℕ) (taken count : ℕ) → rest ≡ drop taken piece
    → Appends a b (take taken piece) → Appends b c (take count rest) → Appends a c (take (taken + count) piece)
Appends-take a b c piece rest taken count e p q =
    subst (Appends a c) (sym (take-add taken count piece ∙ ap (λ l. take taken piece ++ take count l) (sym e))) (Appends-trans a b c _ _ p q)

-- what stands from a place on is the bytes copied from there, and then what is left
pub drop-take-drop : (bytes from into : List ℕ) (at count : ℕ) → from ≡ drop at bytes → take count into ≡ take count from
    → drop at bytes ≡ take count into ++ drop (at + count) bytes
drop-take-drop bytes from into at count e copied =
    sym (take-append-drop count (drop at bytes)) ∙ ap (λ l. l ++ drop count (drop at bytes)) (sym (copied ∙ ap (take count) e))
    ∙ ap (λ l. take count into ++ l) (drop-drop count at bytes)

-- nothing was copied into room that isn't empty only where nothing was left
pub drop-nil : (bytes from : List ℕ) (at count room : ℕ) → from ≡ drop at bytes → count ≡ min (length from) room → count ≡ 0 → 0 < room → drop (at + count) bytes ≡ []
drop-nil bytes from at count room e is none some =
    nil_from_length _ (let same = ap length e in omega (arith, length-drop at bytes, length-drop (at + count) bytes))
