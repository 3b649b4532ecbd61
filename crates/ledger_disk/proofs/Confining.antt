-- What stays where only a part of a file is written.
use Rattle.std.proofs.Common.{◌≡◌, ◌⊎◌, inl, inr, ℕ, ◌+◌, ◌-◌, ◌<◌, ◌≤◌, min, List, [], ◌∷◌, ◌++◌, length, get_or, take, drop, refl, sym, ◌∙◌, ap, subst, arith, append_assoc, length-append, length-drop, length-take}
use Rattle.std.proofs.lemmas.List.{get_or-take, get_or-drop, take_at, take-take, drop_at, drop-drop, ext_get_or}
use Rattle.ledger_disk.specs.Disk.{State, MayLeave, IsUntouched, Torn, with_write, overlay, settled_state, MayHaveWritten}
use Rattle.ledger_disk.specs.Guards.{AreWithin, Outside, Confined}

AreWithin-push : (at n : ℕ) (rs : List (ℕ × ℕ)) (b k : ℕ) → AreWithin at n rs → at ≤ b → b + k ≤ at + n → AreWithin at n (rs ++ (b, k) ∷ [])
AreWithin-push at n [] b k within low high = (low, high, tt)
AreWithin-push at n (r ∷ rs) b k within low high = (within.0, within.1, AreWithin-push at n rs b k within.2 low high)

outside_untouched : (at n : ℕ) (rs : List (ℕ × ℕ)) (i : ℕ) → AreWithin at n rs → (i < at) ⊎ (at + n ≤ i) → IsUntouched i rs
outside_untouched at n [] i within out = tt
outside_untouched at n (r ∷ rs) i within (inl below) = (inl (omega arith), outside_untouched at n rs i within.2 (inl below))
outside_untouched at n (r ∷ rs) i within (inr above) = (inr (omega arith), outside_untouched at n rs i within.2 (inr above))

pub same_outside : (at n : ℕ) (file : List ℕ) → Outside at n file file
same_outside at n file = record { size = refl; before = refl; after = refl }

pub confined_settled : (at n : ℕ) (file : List ℕ) → Confined at n file (settled_state file)
confined_settled at n file = record { seen = same_outside at n file; stable = refl; least = refl; greatest = refl; ranges = tt }

pub outside_torn : (at n b k : ℕ) (file old new : List ℕ) → Outside at n file old → at ≤ b → b + k ≤ at + n → at + n ≤ length file → Torn b k old new → Outside at n file new
outside_torn at n b k file old new outside low high within torn =
    let far = at + n - (b + k) in
    let to : b + k + far ≡ at + n = omega arith in
    record {
      size = omega (arith, outside.size, torn.no_shorter, torn.no_longer);
      before = sym (take-take at b new low) ∙ ap (λ (l : List ℕ). take at l) torn.before ∙ take-take at b old low ∙ outside.before;
      after = ap (λ (m : ℕ). drop m new) (sym to) ∙ sym (drop-drop far (b + k) new) ∙ ap (λ (l : List ℕ). drop far l) torn.after ∙ drop-drop far (b + k) old ∙ ap (λ (m : ℕ). drop m old) to ∙ outside.after;
    }

pub confined_wrote : (at n b k : ℕ) (file new : List ℕ) (s : State) → Confined at n file s → at ≤ b → b + k ≤ at + n → at + n ≤ length file → Torn b k s.seen new → Confined at n file (with_write b k new s)
confined_wrote at n b k file new s confined low high within torn =
    let outside = outside_torn at n b k file s.seen new confined.seen low high within torn in
    record { seen = outside; stable = confined.stable; least = confined.least; greatest = omega (arith, confined.greatest, outside.size); ranges = AreWithin-push at n s.ranges b k confined.ranges low high }

pub confined_may : (at n b k : ℕ) (file : List ℕ) (old new : State) → Confined at n file old → at ≤ b → b + k ≤ at + n → at + n ≤ length file → MayHaveWritten b k old new → Confined at n file new
confined_may at n b k file old new confined low high within (inl same) = subst (λ (s : State). Confined at n file s) (sym same) confined
confined_may at n b k file old new confined low high within (inr torn) = subst (λ (s : State). Confined at n file s) (sym torn.2) (confined_wrote at n b k file torn.0 old confined low high within torn.1)

pub confined_image : (at n : ℕ) (file : List ℕ) (s : State) (image : List ℕ) → Confined at n file s → MayLeave s image → Outside at n file image
confined_image at n file s image confined left =
    let size : length image ≡ length file = omega (arith, left.no_shorter, left.no_longer, confined.least, confined.greatest) in
    let same : (i : ℕ) → i < length file → (i < at) ⊎ (at + n ≤ i) → get_or image i 0 ≡ get_or file i 0 = λ i inside out.
    left.kept i (omega arith) (omega (arith, ap length confined.stable)) (outside_untouched at n s.ranges i confined.ranges out) ∙ ap (λ (l : List ℕ). get_or l i 0) confined.stable in
    record {
      size = size;
      before = ext_get_or 0 (take at image) (take at file) (length-take at image ∙ ap (λ (k : ℕ). min at k) size ∙ sym (length-take at file)) (λ i inside.
          let below : i < at = omega (arith, length-take at image) in
          get_or-take at image i 0 below ∙ same i (omega (arith, length-take at image)) (inl below) ∙ sym (get_or-take at file i 0 below));
      after = ext_get_or 0 (drop (at + n) image) (drop (at + n) file) (length-drop (at + n) image ∙ ap (λ (k : ℕ). k - (at + n)) size ∙ sym (length-drop (at + n) file)) (λ i inside.
          get_or-drop (at + n) image i 0 ∙ same (at + n + i) (omega (arith, length-drop (at + n) image)) (inr (omega arith)) ∙ sym (get_or-drop (at + n) file i 0));
    }

-- a piece, and the next one behind it
pub overlaid_more : (at : ℕ) (p q file : List ℕ) → at ≤ length file → overlay (at + length p) q (overlay at p file) ≡ overlay at (p ++ q) file
overlaid_more at p q file within =
    let front : length (take at file ++ p) ≡ at + length p = omega (arith, length-append (take at file) p, length-take at file) in
    let before : take (at + length p) (overlay at p file) ≡ take at file ++ p = take_at (take at file ++ p) (drop (at + length p) file) (at + length p) front in
    let rest : drop (at + length p + length q) (overlay at p file) ≡ drop (at + length (p ++ q)) file =
    sym (drop-drop (length q) (at + length p) (overlay at p file)) ∙ ap (λ (l : List ℕ). drop (length q) l) (drop_at (take at file ++ p) (drop (at + length p) file) (at + length p) front)
    ∙ drop-drop (length q) (at + length p) file ∙ ap (λ (m : ℕ). drop m file) (omega (arith, length-append p q)) in
    ap (λ (l : List ℕ). l ++ q ++ drop (at + length p + length q) (overlay at p file)) before
    ∙ ap (λ (l : List ℕ). take at file ++ p ++ q ++ l) rest
    ∙ ap (λ (l : List ℕ). l ++ drop (at + length (p ++ q)) file) (append_assoc (take at file) p q)
