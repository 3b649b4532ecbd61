-- What is guarded stays, and is in every image.
use Rattle.std.proofs.Common.{◌≡◌, ◌⊎◌, inl, inr, ℕ, ◌+◌, ◌-◌, ◌<◌, ◌≤◌, min, List, [], ◌∷◌, ◌++◌, length, get_or, take, drop, sym, ◌∙◌, ap, subst, arith, length-append, length-drop, length-take}
use Rattle.std.proofs.lemmas.List.{get_or-take, get_or-drop, drop_more, take-append-drop, ext_get_or}
use Rattle.ledger_disk.specs.Disk.{State, MayLeave, IsUntouched, with_write, cut_to, overlay, settled_state, MayHaveWritten, MayHaveCut}
use Rattle.ledger_disk.specs.Guards.{AreBehind, Guards}

AreBehind-push : (n : ℕ) (rs : List (ℕ × ℕ)) (at k : ℕ) → AreBehind n rs → n ≤ at → AreBehind n (rs ++ (at, k) ∷ [])
AreBehind-push n [] at k behind le = (le, tt)
AreBehind-push n (r ∷ rs) at k behind le = (behind.0, AreBehind-push n rs at k behind.1 le)

behind_untouched : (n : ℕ) (rs : List (ℕ × ℕ)) (i : ℕ) → AreBehind n rs → i < n → IsUntouched i rs
behind_untouched n [] i behind below = tt
behind_untouched n (r ∷ rs) i behind below = (inl (omega arith), behind_untouched n rs i behind.1 below)

-- a write behind them, whether it fails or not
pub guards_wrote : (s : State) (front file : List ℕ) (at n : ℕ) → Guards s front → length front ≤ at → Guards (with_write at n file s) front
guards_wrote s front file at n guards behind = record { stable = guards.stable; least = guards.least; ranges = AreBehind-push (length front) s.ranges at n guards.ranges behind }

pub guards_may : (old new : State) (front : List ℕ) (at n : ℕ) → Guards old front → length front ≤ at → MayHaveWritten at n old new → Guards new front
guards_may old new front at n guards behind (inl same) = subst (λ (s : State). Guards s front) (sym same) guards
guards_may old new front at n guards behind (inr torn) = subst (λ (s : State). Guards s front) (sym torn.2) (guards_wrote old front torn.0 at n guards behind)

pub guards_settled : (file : List ℕ) (n : ℕ) → n ≤ length file → Guards (settled_state file) (take n file)
guards_settled file n le =
    let size : length (take n file) ≡ n = omega (arith, length-take n file) in
    record { stable = ap (λ (k : ℕ). take k file) size; least = omega arith; ranges = tt }

-- every image begins with them
pub guards_image : (s : State) (front image : List ℕ) → Guards s front → MayLeave s image → take (length front) image ≡ front
guards_image s front image guards left =
    let long : length front ≤ length image = omega (arith, guards.least, left.no_shorter) in
    let deep : length front ≤ length s.stable = omega (arith, ap length guards.stable, length-take (length front) s.stable) in
    let size : length (take (length front) image) ≡ length front = omega (arith, length-take (length front) image) in
    ext_get_or 0 (take (length front) image) front size (λ i inside.
    let below : i < length front = omega arith in
    get_or-take (length front) image i 0 below
    ∙ left.kept i (omega arith) (omega arith) (behind_untouched (length front) s.ranges i guards.ranges below)
    ∙ sym (get_or-take (length front) s.stable i 0 below)
    ∙ ap (λ (l : List ℕ). get_or l i 0) guards.stable)

-- a place that a write into a settled file did not reach
other_byte : (file after : List ℕ) (at n : ℕ) (image : List ℕ) → MayLeave (with_write at n after (settled_state file)) image → length image ≡ length file → (i : ℕ) → i < length file → (i < at) ⊎ (at + n ≤ i) → get_or image i 0 ≡ get_or file i 0
other_byte file after at n image left size i inside other = left.kept i (omega arith) inside (other, tt)

-- One byte was written into a settled file: an image has that byte old, new or torn, and all else as before.
pub one_byte : (file after : List ℕ) (at : ℕ) (image : List ℕ) → at < length file → length after ≡ length file → MayLeave (with_write at 1 after (settled_state file)) image → (gate : ℕ) × (image ≡ take at file ++ gate ∷ drop (at + 1) file)
one_byte file after at image within same left =
    let size : length image ≡ length file = omega (arith, left.no_shorter, left.no_longer) in
    let gate = get_or image at 0 in
    let before : take at image ≡ take at file =
    ext_get_or 0 (take at image) (take at file) (length-take at image ∙ ap (λ (k : ℕ). min at k) size ∙ sym (length-take at file)) (λ i inside.
    let below : i < at = omega (arith, length-take at image) in
    get_or-take at image i 0 below ∙ other_byte file after at 1 image left size i (omega arith) (inl below) ∙ sym (get_or-take at file i 0 below)) in
    let behind : drop (at + 1) image ≡ drop (at + 1) file =
    ext_get_or 0 (drop (at + 1) image) (drop (at + 1) file) (length-drop (at + 1) image ∙ ap (λ (k : ℕ). k - (at + 1)) size ∙ sym (length-drop (at + 1) file)) (λ i inside.
    get_or-drop (at + 1) image i 0 ∙ other_byte file after at 1 image left size (at + 1 + i) (omega (arith, length-drop (at + 1) image)) (inr (omega arith)) ∙ sym (get_or-drop (at + 1) file i 0)) in
    let split : image ≡ take at image ++ gate ∷ drop (at + 1) image = sym (take-append-drop at image) ∙ ap (λ (l : List ℕ). take at image ++ l) (drop_more image at 0 (omega arith)) in
    (gate, split ∙ ap (λ (l : List ℕ). l ++ gate ∷ drop (at + 1) image) before ∙ ap (λ (l : List ℕ). take at file ++ gate ∷ l) behind)

-- a settled file has no other image
pub settled_image : (file image : List ℕ) → MayLeave (settled_state file) image → image ≡ file
settled_image file image left =
    let size : length image ≡ length file = omega (arith, left.no_shorter, left.no_longer) in
    ext_get_or 0 image file size (λ i inside. left.kept i inside (omega arith) tt)

-- the same, where the write may have failed
pub one_byte_may : (file : List ℕ) (new : State) (at : ℕ) (image : List ℕ) → at < length file → MayHaveWritten at 1 (settled_state file) new → MayLeave new image → (gate : ℕ) × (image ≡ take at file ++ gate ∷ drop (at + 1) file)
one_byte_may file new at image within (inl same) left =
    let is : image ≡ file = settled_image file image (subst (λ (s : State). MayLeave s image) same left) in
    (get_or file at 0, is ∙ sym (take-append-drop at file) ∙ ap (λ (l : List ℕ). take at file ++ l) (drop_more file at 0 within))
one_byte_may file new at image within (inr torn) left =
    one_byte file torn.0 at image within (omega (arith, torn.1.no_shorter, torn.1.no_longer)) (subst (λ (s : State). MayLeave s image) torn.2 left)

-- one byte over another
pub length_overlaid : (at byte : ℕ) (file : List ℕ) → at + 1 ≤ length file → length (overlay at (byte ∷ []) file) ≡ length file
length_overlaid at byte file within = omega (arith, length-append (take at file ++ byte ∷ []) (drop (at + 1) file), length-append (take at file) (byte ∷ []), length-take at file, length-drop (at + 1) file)

-- a cut behind them, whether it fails or not
pub guards_cut : (s : State) (front : List ℕ) (n : ℕ) → Guards s front → length front ≤ n → Guards (cut_to n s) front
guards_cut s front n guards behind = record { stable = guards.stable; least = omega (arith, guards.least); ranges = guards.ranges }

pub guards_may_cut : (old new : State) (front : List ℕ) (n : ℕ) → Guards old front → length front ≤ n → MayHaveCut n old new → Guards new front
guards_may_cut old new front n guards behind (inl same) = subst (λ (s : State). Guards s front) (sym same) guards
guards_may_cut old new front n guards behind (inr cut) = subst (λ (s : State). Guards s front) (sym cut.3) (guards_cut old front cut.0 guards (omega (arith, cut.1)))

-- a settled file that was cut: each image is a front of it
pub cut_image : (file image : List ℕ) (n : ℕ) → n ≤ length file → MayLeave (cut_to n (settled_state file)) image → image ≡ take (length image) file
cut_image file image n within left =
    let size : length (take (length image) file) ≡ length image = omega (arith, length-take (length image) file, left.no_longer) in
    ext_get_or 0 image (take (length image) file) (sym size) (λ i inside.
    left.kept i inside (omega (arith, left.no_longer)) tt ∙ sym (get_or-take (length image) file i 0 inside))
