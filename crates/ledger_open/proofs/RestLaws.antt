-- What giving up contents leaves as it was, whatever the book says.
use Rattle.std.proofs.Common.{◌≡◌, ℕ, ◌+◌, ◌-◌, ◌≤◌, List, take, drop, refl, sym, ◌∙◌, ap, arith}
use Rattle.std.proofs.lemmas.List.{drop-drop, take-take}
use Rattle.ledger_disk.specs.Guards.{Outside}

-- what is as before outside of a range is so outside of a wider one
pub outside_wider : (low high at n : ℕ) (old new : List ℕ) → low ≤ at → at + n ≤ high → Outside at n old new → Outside low (high - low) old new
outside_wider low high at n old new first last out =
    let rest = high - (at + n) in
    let is : low + (high - low) ≡ (at + n) + rest = omega (arith, first, last) in
    record {
      size = out.size;
      before = sym (take-take low at new first) ∙ ap (take low) out.before ∙ take-take low at old first;
      after = ap (λ (k : ℕ). drop k new) is ∙ sym (drop-drop rest (at + n) new) ∙ ap (drop rest) out.after ∙ drop-drop rest (at + n) old ∙ ap (λ (k : ℕ). drop k old) (sym is);
    }

pub outside_same : (low n : ℕ) (file : List ℕ) → Outside low n file file
outside_same low n file = record { size = refl; before = refl; after = refl }

pub outside_more : (low n : ℕ) (old mid new : List ℕ) → Outside low n old mid → Outside low n mid new → Outside low n old new
outside_more low n old mid new x y = record { size = y.size ∙ x.size; before = y.before ∙ x.before; after = y.after ∙ x.after }
