-- What a write leaves of a disk.
use Rattle.std.proofs.Common.{◌≡◌, ◌⊎◌, inl, inr, ℕ, ◌+◌, ◌-◌, ◌<◌, ◌≤◌, max, List, [], ◌∷◌, ◌++◌, length, get_or, take, drop, refl, sym, ◌∙◌, ap, subst, arith, append_assoc, length-append, length-drop, length-take}
use Rattle.std.proofs.lemmas.List.{get_or-take, get_or-drop, take_at, drop_at}
use Rattle.ledger_disk.specs.Disk.{State, MayLeave, IsUntouched, Torn, with_write, overlay}
use Rattle.ledger_disk.specs.Parts.{state_of}

pub IsUntouched-append : (i : ℕ) (rs : List (ℕ × ℕ)) (at n : ℕ) → IsUntouched i (rs ++ (at, n) ∷ []) → IsUntouched i rs × ((i < at) ⊎ (at + n ≤ i))
IsUntouched-append i [] at n h = (tt, h.0)
IsUntouched-append i (r ∷ rs) at n h = let rest = IsUntouched-append i rs at n h.1 in ((h.0, rest.0), rest.1)

pub same_outside : (at n : ℕ) (old new : List ℕ) → at ≤ length old → Torn at n old new → (i : ℕ) → i < length new → (i < at) ⊎ (at + n ≤ i) → (i < length old) × (get_or new i 0 ≡ get_or old i 0)
same_outside at n old new within torn i inside (inl below) =
    (omega arith, sym (get_or-take at new i 0 below) ∙ ap (λ (l : List ℕ). get_or l i 0) torn.before ∙ get_or-take at old i 0 below)
same_outside at n old new within torn i inside (inr above) =
    let size : length new - (at + n) ≡ length old - (at + n) = sym (length-drop (at + n) new) ∙ ap length torn.after ∙ length-drop (at + n) old in
    let k = i - (at + n) in
    let is : at + n + k ≡ i = omega arith in
    (omega arith, ap (λ (j : ℕ). get_or new j 0) (sym is) ∙ sym (get_or-drop (at + n) new k 0) ∙ ap (λ (l : List ℕ). get_or l k 0) torn.after ∙ get_or-drop (at + n) old k 0 ∙ ap (λ (j : ℕ). get_or old j 0) is)

-- what a torn write gives is one of the images
pub torn_may_be_left : (s : State) (at n : ℕ) (file : List ℕ) → at ≤ length s.seen → MayLeave s s.seen → Torn at n s.seen file → MayLeave (with_write at n file s) file
torn_may_be_left s at n file within left torn = record {
  no_shorter = omega (arith, left.no_shorter, torn.no_shorter);
  no_longer = omega arith;
  kept = λ i inside stable untouched.
      let parts = IsUntouched-append i s.ranges at n untouched in
      let same = same_outside at n s.seen file within torn i inside parts.1 in
      same.1 ∙ left.kept i same.0 stable parts.0;
}

pub overlaid_torn : (at : ℕ) (piece file : List ℕ) → at ≤ length file → Torn at (length piece) file (overlay at piece file)
overlaid_torn at piece file within =
    let front : length (take at file) ≡ at = omega (arith, length-take at file) in
    let size : length (overlay at piece file) ≡ at + length piece + (length file - (at + length piece)) = omega (arith, front, length-append (take at file ++ piece) (drop (at + length piece) file), length-append (take at file) piece, length-drop (at + length piece) file) in
    record {
      before = ap (take at) (append_assoc (take at file) piece (drop (at + length piece) file)) ∙ take_at (take at file) (piece ++ drop (at + length piece) file) at front ∙ refl;
      after = drop_at (take at file ++ piece) (drop (at + length piece) file) (at + length piece) (omega (arith, front, length-append (take at file) piece));
      no_shorter = omega arith;
      no_longer = omega arith;
    }

-- the same, for a state that is kept by its parts
pub pushed_may_be_left : (seen stable file : List ℕ) (ranges more : List (ℕ × ℕ)) (least greatest most at n : ℕ) → at ≤ length seen
    → MayLeave (state_of seen stable ranges least greatest) seen → Torn at n seen file → more ≡ ranges ++ (at, n) ∷ [] → most ≡ max greatest (length file)
    → MayLeave (state_of file stable more least most) file
pushed_may_be_left seen stable file ranges more least greatest most at n within left torn is_more is_most =
    let done = torn_may_be_left (state_of seen stable ranges least greatest) at n file within left torn in
    let P : List (ℕ × ℕ) → ℕ → Type 0 = λ rs m. MayLeave (state_of file stable rs least m) file in
    subst (λ (rs : List (ℕ × ℕ)). P rs most) (sym is_more) (subst (λ (m : ℕ). P (ranges ++ (at, n) ∷ []) m) (sym is_most) done)
