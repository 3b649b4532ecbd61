-- A file whose gate is shut for good.
use Rattle.std.specs.Prelude.{Result, Ok, Err, OnErr, OnOk}
use Rattle.std.proofs.Common.{◌≡◌, ◌≢◌, ◌⊎◌, inl, inr, ℕ, ◌+◌, ◌≤◌, List, [], ◌∷◌, ◌++◌, length, get_or, take, drop, sym, ◌∙◌, ap, subst, arith, append_assoc, length-append}
use Rattle.std.proofs.lemmas.Bool.{cases_eq}
use Rattle.std.proofs.lemmas.List.{get_or-take, append-nil, drop_all}
use Rattle.ledger_disk.specs.Disk.{State, MayLeave, settled_state, overlay, MayHaveWritten, with_write}
use Rattle.ledger_disk.proofs.Confining.{overlaid_more}
use Rattle.ledger_disk.specs.Guards.{Guards}
use Rattle.ledger_disk.proofs.Guarding.{guards_image, guards_may, guards_wrote, one_byte_may}
use Rattle.block_file.specs.Head.{IsShut}
use Rattle.block_file.specs.File.{IsVeiled}

-- a write behind what is guarded, whether it fails or not
pub guards_both : {T E : Type 0} (r : Result T E) (P : Type 0) (old new : State) (front file : List ℕ) (at n : ℕ) → OnOk r (P → new ≡ with_write at n file old) → OnErr r (P → MayHaveWritten at n old new) → length front ≤ at → P → Guards old front → Guards new front
guards_both (Ok x) P old new front file at n ok err behind p guards = subst (λ (s : State). Guards s front) (sym (ok p)) (guards_wrote old front file at n guards behind)
guards_both (Err e) P old new front file at n ok err behind p guards = guards_may old new front at n guards behind (err p)

pub veiled_gate : (s : State) (image : List ℕ) → IsVeiled s → MayLeave s image → get_or image 0 0 ≢ 1
veiled_gate s image veiled left =
    let first : take 1 image ≡ 0 ∷ [] = guards_image s (0 ∷ []) image veiled left in
    let zero_there : get_or image 0 0 ≡ 0 = sym (get_or-take 1 image 0 0 (omega arith)) ∙ ap (λ (l : List ℕ). get_or l 0 0) first in
    λ one. absurd (cc (zero_there, one))

pub veiled_shut : (s : State) (image : List ℕ) → IsVeiled s → MayLeave s image → IsShut image
veiled_shut s image veiled left = inr (veiled_gate s image veiled left)

-- while the gate is written
pub opening : (file : List ℕ) (new : State) (image : List ℕ) → 1 ≤ length file → MayHaveWritten 0 1 (settled_state file) new → MayLeave new image → (get_or image 0 0 ≢ 1) ⊎ (image ≡ 1 ∷ drop 1 file)
opening file new image long may left =
    let torn = one_byte_may file new 0 image (omega arith) may left in
    let is : image ≡ torn.0 ∷ drop 1 file = torn.1 in
    elim (cases_eq torn.0 1) [
      | inl one ↦ inr (is ∙ ap (λ (g : ℕ). g ∷ drop 1 file) one)
      | inr other ↦ inl (λ one. other (sym (ap (λ (l : List ℕ). get_or l 0 0) is) ∙ one))
    ]

-- A piece over the last byte, and a byte behind it. An empty piece leaves the last byte, and the new one is over it.
pub over_the_tail : (file piece : List ℕ) (at : ℕ) → length file ≡ at + 1 → overlay (at + length piece) (0 ∷ []) (overlay at piece file) ≡ take at file ++ piece ++ 0 ∷ []
over_the_tail file piece at size =
    let begin : overlay (at + length piece) (0 ∷ []) (overlay at piece file) ≡ overlay at (piece ++ 0 ∷ []) file = overlaid_more at piece (0 ∷ []) file (omega (arith, size)) in
    let rest : drop (at + length (piece ++ 0 ∷ [])) file ≡ [] = drop_all (at + length (piece ++ 0 ∷ [])) file (omega (arith, size, length-append piece (0 ∷ []))) in
    begin ∙ ap (λ (l : List ℕ). take at file ++ (piece ++ 0 ∷ []) ++ l) rest ∙ append-nil (take at file ++ (piece ++ 0 ∷ [])) ∙ sym (append_assoc (take at file) piece (0 ∷ []))
