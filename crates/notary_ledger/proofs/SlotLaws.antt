-- What the steps of a stamp leave of a notary's file.
use Rattle.std.specs.Prelude.{Result, Ok, Err, OnErr, Option, Some, None}
use Rattle.std.proofs.Common.{◌≡◌, ◌≢◌, inl, inr, ⊎_elim, ℕ, ◌+◌, ◌≤◌, List, [], ◌∷◌, ◌++◌, length, get_or, take, drop, refl, sym, ◌∙◌, ap, subst, arith, append_assoc, length-append, length-drop, length-take}
use Rattle.std.proofs.lemmas.Bool.{cases_eq}
use Rattle.std.proofs.lemmas.List.{take_at, drop_at, take-append-drop, flat_map_more, drop_more}
use Rattle.ledger_disk.specs.Disk.{State, MayLeave, MayHaveWritten, Torn, settled_state, overlay, with_write}
use Rattle.ledger_disk.specs.Guards.{Guards, Confined, Outside}
use Rattle.ledger_disk.proofs.Guarding.{guards_settled, guards_image}
use Rattle.ledger_disk.proofs.Confining.{confined_image, confined_wrote}
use Rattle.ledger_disk.proofs.Ranges.{overlaid_torn}
use Rattle.time_peg.specs.Entries.{IsList}
use Rattle.notary_ledger.specs.Slots.{opened, tail_of, Lists, Shut, OnDisk, MayList, staged_at}

pub on_err : {T E : Type 0} (r : Result T E) (P : Type 0) → P → OnErr r P
on_err (Ok x) P p = tt
on_err (Err e) P p = p

pub err_both : {T E : Type 0} (r : Result T E) (P Q R : Type 0) → (P → Q → R) → OnErr r P → OnErr r Q → OnErr r R
err_both (Ok x) P Q R f p q = tt
err_both (Err e) P Q R f p q = f p q

-- a file that begins with the slots and a shut gate, settled_state
pub shut_settled : (es : List (List ℕ)) (gate : ℕ) (rest file : List ℕ) → gate ≢ 1 → file ≡ opened es ++ gate ∷ rest → Shut es (settled_state file)
shut_settled es gate rest file shut is =
    let front : List ℕ = opened es ++ gate ∷ [] in
    let split : file ≡ front ++ rest = is ∙ sym (append_assoc (opened es) (gate ∷ []) rest) in
    let first : take (length front) file ≡ front = ap (take (length front)) split ∙ take_at front rest (length front) refl in
    let long : length front ≤ length file = omega (arith, ap length split, length-append front rest) in
    record { gate = gate; shut = shut; guards = subst (λ (l : List ℕ). Guards (settled_state file) l) first (guards_settled file (length front) long) }

-- a gate that is written before a rest
pub gate_over : (front : List ℕ) (old new : ℕ) (rest : List ℕ) (at : ℕ) → length front ≡ at → overlay at (new ∷ []) (front ++ old ∷ rest) ≡ front ++ new ∷ rest
gate_over front old new rest at place =
    let before : take at (front ++ old ∷ rest) ≡ front = take_at front (old ∷ rest) at place in
    let split : front ++ old ∷ rest ≡ (front ++ old ∷ []) ++ rest = sym (append_assoc front (old ∷ []) rest) in
    let behind : drop (at + 1) (front ++ old ∷ rest) ≡ rest = ap (drop (at + 1)) split ∙ drop_at (front ++ old ∷ []) rest (at + 1) (omega (arith, place, length-append front (old ∷ []))) in
    ap (λ (l : List ℕ). l ++ new ∷ [] ++ drop (at + 1) (front ++ old ∷ rest)) before ∙ ap (λ (l : List ℕ). front ++ new ∷ [] ++ l) behind ∙ append_assoc front (new ∷ []) rest

-- slots and one more
pub opened_more : (es : List (List ℕ)) (e rest : List ℕ) → opened es ++ (1 ∷ (e ++ rest)) ≡ opened (es ++ e ∷ []) ++ rest
opened_more es e rest =
    sym (append_assoc (opened es) (1 ∷ e) rest) ∙ ap (λ (l : List ℕ). l ++ rest) (flat_map_more (λ (b : List ℕ). 1 ∷ b) [] es e)

-- the gate of a staged entry is opened
pub opens : (es : List (List ℕ)) (e : List ℕ) (gate : ℕ) (rest : List ℕ) (at : ℕ) → tail_of es ≡ at → Shut (es ++ e ∷ []) (settled_state (overlay at (1 ∷ []) (opened es ++ (gate ∷ (e ++ (0 ∷ rest))))))
opens es e gate rest at place =
    shut_settled (es ++ e ∷ []) 0 rest _ (λ is. cc) (gate_over (opened es) gate 1 (e ++ (0 ∷ rest)) at place ∙ opened_more es e (0 ∷ rest))

-- what a file with a shut gate begins with
begins : (es : List (List ℕ)) (s : State) (image : List ℕ) (shut : Shut es s) → MayLeave s image → take (tail_of es + 1) image ≡ opened es ++ shut.gate ∷ []
begins es s image shut left =
    ap (λ (n : ℕ). take n image) (omega (arith, length-append (opened es) (shut.gate ∷ []))) ∙ guards_image s (opened es ++ shut.gate ∷ []) image shut.guards left

-- an entry is staged behind it
pub stages : (es : List (List ℕ)) (e : List ℕ) (s : State) (at : ℕ) → tail_of es ≡ at → MayLeave s s.seen → (shut : Shut es s)
    → staged_at at e s.seen ≡ opened es ++ (shut.gate ∷ (e ++ (0 ∷ drop (at + 2 + length e) s.seen)))
stages es e s at place left shut =
    let rest : List ℕ = drop (at + 2 + length e) s.seen in
    let first : take (at + 1) s.seen ≡ opened es ++ shut.gate ∷ [] = ap (λ (n : ℕ). take (n + 1) s.seen) (sym place) ∙ begins es s s.seen shut left in
    ap (λ (l : List ℕ). l ++ e ++ 0 ∷ rest) first
    ∙ append_assoc (opened es ++ shut.gate ∷ []) e (0 ∷ rest)
    ∙ append_assoc (opened es) (shut.gate ∷ []) (e ++ (0 ∷ rest))

-- a file whose slots end with a shut gate
lists_shut : (es : List (List ℕ)) (gate : ℕ) (rest image : List ℕ) → IsList es → gate ≢ 1 → image ≡ opened es ++ gate ∷ rest → Lists es image
lists_shut es gate rest image list shut is = record { rest = gate ∷ rest; is = is; room = λ some. omega arith; list = list; ended = inr (inr (inl shut)) }

-- THE LAW: each image has the list, or it and the entry whose gate was called to be written
pub images : (es : List (List ℕ)) (half : Option (List ℕ)) (s : State) (image : List ℕ) → IsList es → OnDisk es half s → MayLeave s image → MayList es half image
images es None s image list shut left =
    let first : take (tail_of es + 1) image ≡ opened es ++ shut.gate ∷ [] = begins es s image shut left in
    lists_shut es shut.gate (drop (tail_of es + 1) image) image list shut.shut
    (sym (take-append-drop (tail_of es + 1) image) ∙ ap (λ (l : List ℕ). l ++ drop (tail_of es + 1) image) first ∙ append_assoc (opened es) (shut.gate ∷ []) (drop (tail_of es + 1) image))
images es (Some e) s image list half left =
    let at : ℕ = tail_of es in
    let file : List ℕ = opened es ++ (half.gate ∷ (e ++ (0 ∷ half.rest))) in
    let out : Outside at 1 file image = confined_image at 1 file s image half.confined left in
    let split : file ≡ (opened es ++ half.gate ∷ []) ++ (e ++ (0 ∷ half.rest)) = sym (append_assoc (opened es) (half.gate ∷ []) (e ++ (0 ∷ half.rest))) in
    let size : length (opened es ++ half.gate ∷ []) ≡ at + 1 = length-append (opened es) (half.gate ∷ []) in
    let before : take at image ≡ opened es = out.before ∙ take_at (opened es) (half.gate ∷ (e ++ (0 ∷ half.rest))) at refl in
    let behind : drop (at + 1) image ≡ e ++ (0 ∷ half.rest) = out.after ∙ ap (drop (at + 1)) split ∙ drop_at (opened es ++ half.gate ∷ []) (e ++ (0 ∷ half.rest)) (at + 1) size in
    let long : at + 1 ≤ length image = omega (arith, out.size, ap length split, length-append (opened es ++ half.gate ∷ []) (e ++ (0 ∷ half.rest)), size) in
    let gate : ℕ = get_or image at 0 in
    let is : image ≡ opened es ++ (gate ∷ (e ++ (0 ∷ half.rest))) =
    sym (take-append-drop at image) ∙ ap (λ (l : List ℕ). l ++ drop at image) before ∙ ap (λ (l : List ℕ). opened es ++ l) (drop_more image at 0 (omega arith) ∙ ap (λ (l : List ℕ). gate ∷ l) behind) in
    ⊎_elim (λ open_. inr (lists_shut (es ++ e ∷ []) 0 half.rest image half.list (λ no. cc) (is ∙ ap (λ (g : ℕ). opened es ++ (g ∷ (e ++ (0 ∷ half.rest)))) open_ ∙ opened_more es e (0 ∷ half.rest))))
    (λ shut. inl (lists_shut es gate (e ++ (0 ∷ half.rest)) image list shut is))
    (cases_eq gate 1)

pub confined_ok : (file : List ℕ) (s : State) (at byte : ℕ) → at + 1 ≤ length file → Confined at 1 file s → Confined at 1 file (with_write at 1 (overlay at (byte ∷ []) s.seen) s)
confined_ok file s at byte long confined =
    confined_wrote at 1 at 1 file (overlay at (byte ∷ []) s.seen) s confined (omega arith) (omega arith) long (overlaid_torn at (byte ∷ []) s.seen (omega (arith, confined.seen.size)))

pub short_may : (at : ℕ) (old new : State) (image : List ℕ) → old ≡ settled_state [] → MayHaveWritten at 1 old new → MayLeave new image → length image ≤ at + 1
short_may at old new image empty (inl same) left = let l : MayLeave (settled_state []) image = subst (λ (s : State). MayLeave s image) (same ∙ empty) left in omega (arith, l.no_longer)
short_may at old new image empty (inr torn) left =
    let l : MayLeave (with_write at 1 torn.0 (settled_state [])) image = subst (λ (s : State). MayLeave s image) (torn.2 ∙ ap (λ (s : State). with_write at 1 torn.0 s) empty) left in
    let t : Torn at 1 [] torn.0 = subst (λ (s : State). Torn at 1 s.seen torn.0) empty torn.1 in
    omega (arith, l.no_longer, t.no_longer)

pub short_ok : (at byte : ℕ) (old new : State) (image : List ℕ) → old ≡ settled_state [] → new ≡ with_write at 1 (overlay at (byte ∷ []) old.seen) old → MayLeave new image → length image ≤ at + 1
short_ok at byte old new image empty is left =
    let l : MayLeave (with_write at 1 (overlay at (byte ∷ []) []) (settled_state [])) image = subst (λ (s : State). MayLeave s image) (is ∙ ap (λ (s : State). with_write at 1 (overlay at (byte ∷ []) s.seen) s) empty) left in
    omega (arith, l.no_longer, length-append (take at [] ++ byte ∷ []) (drop (at + 1) []), length-append {A = ℕ} (take at []) (byte ∷ []), length-take {A = ℕ} at [], length-drop {A = ℕ} (at + 1) [])
