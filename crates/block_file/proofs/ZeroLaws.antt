-- Zeros over a range of a file.
use Rattle.std.specs.Prelude.{Result, Ok, Err, OnErr, OnOk}
use Rattle.std.proofs.Common.{◌≡◌, inl, inr, ℕ, ◌+◌, ◌-◌, ◌≤◌, List, length, take, drop, sym, ◌∙◌, ap, subst, arith}
use Rattle.std.proofs.lemmas.List.{drop-drop, drop-take, take-take, take-replicate, drop-replicate}
use Rattle.ledger_disk.specs.Disk.{State, MayLeave, settled_state, MayHaveWritten}
use Rattle.ledger_disk.specs.Guards.{Outside, Confined}
use Rattle.ledger_disk.proofs.Guarding.{settled_image}
use Rattle.ledger_disk.proofs.Confining.{outside_torn, confined_image}
use Rattle.block_file.specs.File.{IsZeros}

pub zeros_part : (at len done n : ℕ) (file : List ℕ) → IsZeros at len file → done + n ≤ len → IsZeros (at + done) n file
zeros_part at len done n file zeros within =
    let m = len - done in
    let whole : len ≡ done + m = omega arith in
    let l = drop at file in
    ap (λ (x : List ℕ). take n x) (sym (drop-drop done at file))
    ∙ sym (ap (λ (x : List ℕ). take n x) (drop-take done m l) ∙ take-take n m (drop done l) (omega arith))
    ∙ ap (λ (k : ℕ). take n (drop done (take k l))) (sym whole)
    ∙ ap (λ (x : List ℕ). take n (drop done x)) zeros
    ∙ ap (λ (x : List ℕ). take n x) (drop-replicate done len 0)
    ∙ take-replicate n (len - done) 0 (omega arith)

pub outside_may : (at n b k : ℕ) (file : List ℕ) (old new : State) → Outside at n file old.seen → at ≤ b → b + k ≤ at + n → at + n ≤ length file → MayHaveWritten b k old new → Outside at n file new.seen
outside_may at n b k file old new outside low high within (inl same) = subst (λ (s : State). Outside at n file s.seen) (sym same) outside
outside_may at n b k file old new outside low high within (inr torn) = subst (λ (s : State). Outside at n file s.seen) (sym torn.2) (outside_torn at n b k file old.seen torn.0 outside low high within torn.1)

-- where it was settled, or as it was
pub synced_images : {T E : Type 0} (r : Result T E) (P : Type 0) (at n : ℕ) (file : List ℕ) (old new : State) → OnOk r (P → new ≡ settled_state old.seen) → OnErr r (P → new ≡ old) → P → Outside at n file old.seen → Confined at n file old
    → (image : List ℕ) → MayLeave new image → Outside at n file image
synced_images (Ok x) P at n file old new ok err p outside confined image left =
    subst (λ (l : List ℕ). Outside at n file l) (sym (settled_image old.seen image (subst (λ (s : State). MayLeave s image) (ok p) left))) outside
synced_images (Err e) P at n file old new ok err p outside confined image left =
    confined_image at n file old image confined (subst (λ (s : State). MayLeave s image) (err p) left)
