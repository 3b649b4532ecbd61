-- What reopening reads.
use Rattle.std.specs.Prelude.{Option, Some, None}
use Rattle.std.proofs.Common.{◌≡◌, inl, inr, ℕ, zero, suc, ◌+◌, ◌*◌, ◌<◌, ◌≤◌, max, List, [], ◌∷◌, ◌++◌, length, get_or, take, drop, refl, sym, ◌∙◌, ap, subst, arith, append_assoc, append-nil, length-append, length-drop}
use Rattle.std.proofs.lemmas.List.{take_at, drop_at, take-append-drop, drop_more, drop-drop, drop-take, get_or-drop}
use Rattle.ledger_disk.specs.Disk.{settled_state, overlay}
use Rattle.ledger_disk.specs.Guards.{Outside}
use Rattle.time_peg.specs.Entries.{IsList, last_time, time_in}
use Rattle.notary_ledger.specs.Slots.{opened, tail_of, Lists, Shut}
use Rattle.notary_ledger.specs.Opening.{IsSlot}
use Rattle.notary_ledger.proofs.SlotLaws.{opened_more, shut_settled}

-- the slot behind some isn't open: they are the list
pub lists_ended : (es : List (List ℕ)) (file : List ℕ) (last at : ℕ) → IsList es → file ≡ opened es ++ drop (73 * length es) file → at ≡ 73 * length es → last ≡ last_time 0 es → 73 * length es + 1 ≤ max 1 (length file) → IsSlot at last file None → Lists es file
lists_ended es file last at list is place time long slot = record {
  rest = drop (73 * length es) file;
  is = is;
  room = λ some. omega (arith, some, long, length-drop (73 * length es) file);
  list = list;
  ended = inr (elim slot [
    | inl short ↦ inl (omega (arith, short, place, length-drop (73 * length es) file))
    | inr other ↦ inr (elim other [
      | inl shut ↦ inl (λ open_. shut (ap (λ n. get_or file n 0) (omega (arith, place)) ∙ sym (get_or-drop (73 * length es) file 0 0) ∙ open_))
      | inr early ↦ inr (subst (λ (l : List ℕ). time_in (take 72 l) < last_time 0 es) (ap (λ n. drop (n + 1) file) place ∙ sym (drop-drop 1 (73 * length es) file)) (omega (arith, early, time)))
    ])
  ]);
}

-- it is open: it is one of them
pub seen_more : (es : List (List ℕ)) (e file : List ℕ) (last at : ℕ) → file ≡ opened es ++ drop (73 * length es) file → at ≡ 73 * length es → IsSlot at last file (Some e) → file ≡ opened (es ++ e ∷ []) ++ drop (73 * length (es ++ e ∷ [])) file
seen_more es e file last at is place slot =
    let inside : at < length file = omega (arith, slot.0) in
    let body : drop (at + 1) file ≡ e ++ drop (at + 1 + 72) file = sym (take-append-drop 72 (drop (at + 1) file)) ∙ ap (λ (l : List ℕ). l ++ drop 72 (drop (at + 1) file)) (sym slot.2) ∙ ap (λ (l : List ℕ). e ++ l) (drop-drop 72 (at + 1) file) in
    let whole : drop at file ≡ 1 ∷ (e ++ drop (at + 1 + 72) file) = drop_more file at 0 inside ∙ ap (λ n. n ∷ drop (at + 1) file) slot.1 ∙ ap (λ (l : List ℕ). 1 ∷ l) body in
    let end : at + 1 + 72 ≡ 73 * length (es ++ e ∷ []) = omega (arith, place, length-append es (e ∷ [])) in
    is ∙ ap (λ n. opened es ++ drop n file) (sym place) ∙ ap (λ (l : List ℕ). opened es ++ l) whole ∙ opened_more es e (drop (at + 1 + 72) file) ∙ ap (λ n. opened (es ++ e ∷ []) ++ drop n file) end

-- the tail gate is shut for good
pub tail_shut : (es : List (List ℕ)) (file : List ℕ) (at : ℕ) → tail_of es ≡ at → Lists es file → Shut es (settled_state (overlay at (0 ∷ []) file))
tail_shut es file at place lists =
    let before : take at file ≡ opened es = ap (take at) lists.is ∙ take_at (opened es) lists.rest at place in
    shut_settled es 0 (drop (at + 1) file) _ (λ is. cc) (ap (λ (l : List ℕ). l ++ 0 ∷ [] ++ drop (at + 1) file) before ∙ append_assoc (opened es) (0 ∷ []) (drop (at + 1) file))

-- slots that are as many as there may be are the list
pub lists_full : (es : List (List ℕ)) (file : List ℕ) → IsList es → file ≡ opened es ++ drop (73 * length es) file → length es ≡ 16_777_216 → 73 * length es + 1 ≤ max 1 (length file) → Lists es file
lists_full es file list is full long = record {
  rest = drop (73 * length es) file;
  is = is;
  room = λ some. omega (arith, some, long, length-drop (73 * length es) file);
  list = list;
  ended = inl full;
}

pub some_same : (o : Option ℕ) (m n : ℕ) → o ≡ Some m → o ≡ Some n → m ≡ n
some_same o m n is at = cc

-- another byte at the tail gate that reads 01 and isn't open
pub lists_outside : (es : List (List ℕ)) (file image : List ℕ) (at : ℕ) → tail_of es ≡ at → Lists es file → get_or file at 0 ≡ 1 → at + 1 ≤ length file → Outside at 1 file image → Lists es image
lists_outside es file image at place lists gate long out =
    let rest_is : drop at file ≡ lists.rest = ap (drop at) lists.is ∙ drop_at (opened es) lists.rest at place in
    let before : take at image ≡ opened es = out.before ∙ ap (take at) lists.is ∙ take_at (opened es) lists.rest at place in
    let first : get_or lists.rest 0 0 ≡ 1 = ap (λ (l : List ℕ). get_or l 0 0) (sym rest_is) ∙ get_or-drop at file 0 0 ∙ ap (λ n. get_or file n 0) (omega arith) ∙ gate in
    let behind : drop 1 (drop at image) ≡ drop 1 lists.rest = drop-drop 1 at image ∙ out.after ∙ sym (drop-drop 1 at file) ∙ ap (drop 1) rest_is in
    record {
      rest = drop at image;
      is = sym (take-append-drop at image) ∙ ap (λ (l : List ℕ). l ++ drop at image) before;
      room = λ some. omega (arith, length-drop at image, out.size, long);
      list = lists.list;
      ended = elim lists.ended [
        | inl full ↦ inl full
        | inr a ↦ elim a [
          | inl short ↦ inr (inl (omega (arith, short, ap length rest_is, length-drop at file, length-drop at image, out.size)))
          | inr b ↦ elim b [
            | inl shut ↦ absurd (shut first)
            | inr early ↦ inr (inr (inr (subst (λ (l : List ℕ). time_in (take 72 l) < last_time 0 es) (sym behind) early)))
          ]
        ]
      ];
    }

-- a byte or none, where there was none
pub lists_short : (es : List (List ℕ)) (file image : List ℕ) → Lists es file → length file ≡ 0 → length image ≤ 1 → Lists es image
lists_short [] file image lists none short = record { rest = image; is = refl; room = λ some. absurd (omega (arith, some)); list = lists.list; ended = inr (inl (omega (arith, short))) }
lists_short (e ∷ es) file image lists none short = absurd (omega (arith, none, ap length lists.is, length-append (opened (e ∷ es)) lists.rest, length-append (1 ∷ e) (opened es)))

pub none_long : (file : List ℕ) → length file ≡ 0 → file ≡ []
none_long [] is = refl
none_long (x ∷ xs) is = absurd (omega (arith, is))

pub inside_of : (l : List ℕ) (i : ℕ) → get_or l i 0 ≡ 1 → i + 1 ≤ length l
inside_of [] i is = absurd (let no : ⊥ = cc in no)
inside_of (x ∷ l) zero is = omega arith
inside_of (x ∷ l) (suc i) is = omega (arith, inside_of l i is)

-- what is behind the gate of a slot that was read whole
pub behind_gate : (file into slot : List ℕ) (at n : ℕ) → n ≡ 73 → length into ≡ 73 → slot ≡ take n (drop at file) ++ drop n into → drop 1 slot ≡ take 72 (drop (at + 1) file)
behind_gate file into slot at n all size is =
    let none : drop n into ≡ [] = none_long (drop n into) (omega (arith, length-drop n into, size, all)) in
    let whole : slot ≡ take 73 (drop at file) = is ∙ ap (λ (l : List ℕ). take n (drop at file) ++ l) none ∙ append-nil (take n (drop at file)) ∙ ap (λ (k : ℕ). take k (drop at file)) all in
    ap (drop 1) whole ∙ drop-take 1 72 (drop at file) ∙ ap (take 72) (drop-drop 1 at file)
