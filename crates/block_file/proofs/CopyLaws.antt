-- One piece more of a copy.
use Rattle.std.specs.Prelude.{Option, Some, None, IsSomeAnd}
use Rattle.std.proofs.Common.{◌≡◌, ℕ, ◌+◌, ◌≤◌, List, ◌++◌, length, take, drop, sym, ◌∙◌, ap, subst, arith, length-drop, length-take}
use Rattle.std.proofs.lemmas.List.{drop-drop}
use Rattle.std.proofs.Math.Seq.{take-add}
use Rattle.ledger_disk.specs.Disk.{overlay, KeepsLength}
use Rattle.ledger_disk.proofs.Confining.{overlaid_more}

pub keeps_some : (old new : Option ℕ) (k : ℕ) → KeepsLength old new → IsSomeAnd old (λ n. k ≤ n) → IsSomeAnd new (λ n. k ≤ n)
keeps_some None new k keeps long = absurd long
keeps_some (Some n) new k keeps long = subst (λ (o : Option ℕ). IsSomeAnd o (λ m. k ≤ m)) (sym keeps) long

pub keeps_keeps : (old mid new : Option ℕ) → KeepsLength old mid → KeepsLength mid new → KeepsLength old new
keeps_keeps None mid new first second = tt
keeps_keeps (Some n) mid new first second = subst (λ (o : Option ℕ). KeepsLength o new) first second

take_more_of : (m n : ℕ) (l : List ℕ) → take m l ++ take n (drop m l) ≡ take (m + n) l
take_more_of m n l = sym (take-add m n l)

pub copied_more : (place at done n len : ℕ) (source to : List ℕ) → at + len ≤ length source → done + n ≤ len → place ≤ length to
    → overlay (place + done) (take n (drop (at + done) source)) (overlay place (take done (drop at source)) to) ≡ overlay place (take (done + n) (drop at source)) to
copied_more place at done n len source to long within there =
    let front = take done (drop at source) in
    let size : length front ≡ done = omega (arith, length-take done (drop at source), length-drop at source) in
    ap (λ (k : ℕ). overlay (place + k) (take n (drop (at + done) source)) (overlay place front to)) (sym size)
    ∙ overlaid_more place front (take n (drop (at + done) source)) to there
    ∙ ap (λ (l : List ℕ). overlay place (front ++ take n l) to) (sym (drop-drop done at source))
    ∙ ap (λ (l : List ℕ). overlay place l to) (take_more_of done n (drop at source))
