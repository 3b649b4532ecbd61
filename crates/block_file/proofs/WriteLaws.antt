-- What the two steps of a commit leave of a file of blocks.
use Rattle.std.specs.Prelude.{Result, Ok, Err, OnErr, Option, Some, None, IfSome, IsSomeAnd}
use Rattle.std.proofs.Common.{◌≡◌, ◌⊎◌, inl, inr, ℕ, ◌+◌, ◌≤◌, List, [], ◌∷◌, ◌++◌, length, get_or, take, drop, refl, sym, ◌∙◌, ap, subst, arith, append_assoc, length-append, length-take, length-drop}
use Rattle.std.proofs.lemmas.Bool.{cases_eq}
use Rattle.std.proofs.lemmas.List.{take_at, drop_at, take-append-drop, take-append-le, take-take, get_or_at, drop_more, append-nil}
use Rattle.std.proofs.lemmas.List.Concat.{flat_map-append}
use Rattle.ledger_disk.specs.Disk.{State, MayLeave, settled_state, overlay}
use Rattle.ledger_disk.specs.Guards.{Guards}
use Rattle.ledger_disk.proofs.Guarding.{guards_settled, guards_image}
use Rattle.block_file.specs.File.{IsFileOf, IsGroupOf, IsSettled, IsShutAt, open_blocks, tail_of, staged_file}

pub on_err : {T E : Type 0} (r : Result T E) (P : Type 0) → P → OnErr r P
on_err (Ok x) P p = tt
on_err (Err e) P p = p

-- a gate in front of a group's bytes opens all its blocks
pub opened : (group : List (List ℕ)) (bytes : List ℕ) → IsGroupOf group bytes → 1 ∷ bytes ≡ open_blocks group
opened [] bytes is = absurd (let none : 1 ≤ 0 = is.some in omega (arith, none))
opened (block ∷ more) bytes is = ap (λ (l : List ℕ). 1 ∷ l) is.is

-- any bytes are a group of one block
pub one_block : (block : List ℕ) → IsGroupOf (block ∷ []) block
one_block block = record { some = omega arith; is = sym (append-nil block) }

module _ (front : List ℕ) (blocks : List (List ℕ)) (file : List ℕ) (at : ℕ) (stands : IsFileOf front blocks file) (place : tail_of front blocks ≡ at) where
  done : List ℕ
  done = front ++ open_blocks blocks

  upto : take (at + 1) file ≡ (front ++ open_blocks blocks) ++ stands.gate ∷ []
  upto =
      let split : (front ++ open_blocks blocks) ++ stands.gate ∷ stands.rest ≡ ((front ++ open_blocks blocks) ++ stands.gate ∷ []) ++ stands.rest = sym (append_assoc (front ++ open_blocks blocks) (stands.gate ∷ []) stands.rest) in
      ap (λ (l : List ℕ). take (at + 1) l) (stands.is ∙ split)
      ∙ take_at ((front ++ open_blocks blocks) ++ stands.gate ∷ []) stands.rest (at + 1) (omega (arith, place, length-append (front ++ open_blocks blocks) (stands.gate ∷ [])))

  pub long : at + 1 ≤ length file
  long = omega (arith, ap length stands.is, place, length-append (front ++ open_blocks blocks) (stands.gate ∷ stands.rest))

  -- a file that begins like this one, up to its tail gate
  pub kept : (image : List ℕ) → take (at + 1) image ≡ take (at + 1) file → IsFileOf front blocks image
  kept image same = record {
    gate = stands.gate;
    rest = drop (at + 1) image;
    is = sym (take-append-drop (at + 1) image) ∙ ap (λ (l : List ℕ). l ++ drop (at + 1) image) (same ∙ upto) ∙ append_assoc (front ++ open_blocks blocks) (stands.gate ∷ []) (drop (at + 1) image);
    shut = stands.shut;
  }

  pub kept_image : (s : State) → IsSettled s → s.seen ≡ file → (new : State) (image : List ℕ) → ((begin : List ℕ) → Guards s begin → length begin ≤ at + 1 → Guards new begin) → MayLeave new image → IsFileOf front blocks image
  kept_image s quiet seen new image keeps left =
      let size : length (take (at + 1) file) ≡ at + 1 = omega (arith, long, length-take (at + 1) file) in
      let is : s ≡ settled_state file = quiet ∙ ap settled_state seen in
      let now = keeps (take (at + 1) file) (subst (λ (t : State). Guards t (take (at + 1) file)) (sym is) (guards_settled file (at + 1) long)) (omega arith) in
      let begins : take (length (take (at + 1) file)) image ≡ take (at + 1) file = guards_image new (take (at + 1) file) image now left in
      kept image (ap (λ (n : ℕ). take n image) (sym size) ∙ begins)

  module _ (bytes : List ℕ) where
    staged_is : staged_file at bytes file ≡ ((front ++ open_blocks blocks) ++ stands.gate ∷ []) ++ (bytes ++ (0 ∷ drop (at + 2 + length bytes) file))
    staged_is =
        ap (λ (l : List ℕ). l ++ bytes ++ 0 ∷ drop (at + 2 + length bytes) file) upto
        ∙ append_assoc ((front ++ open_blocks blocks) ++ stands.gate ∷ []) bytes (0 ∷ drop (at + 2 + length bytes) file)

    staged_before : take at (staged_file at bytes file) ≡ front ++ open_blocks blocks
    staged_before =
        ap (λ (l : List ℕ). take at l) (staged_is ∙ append_assoc (front ++ open_blocks blocks) (stands.gate ∷ []) (bytes ++ (0 ∷ drop (at + 2 + length bytes) file)))
        ∙ take_at (front ++ open_blocks blocks) (stands.gate ∷ (bytes ++ (0 ∷ drop (at + 2 + length bytes) file))) at place

    staged_behind : drop (at + 1) (staged_file at bytes file) ≡ bytes ++ (0 ∷ drop (at + 2 + length bytes) file)
    staged_behind =
        ap (λ (l : List ℕ). drop (at + 1) l) staged_is
        ∙ drop_at ((front ++ open_blocks blocks) ++ stands.gate ∷ []) (bytes ++ (0 ∷ drop (at + 2 + length bytes) file)) (at + 1) (omega (arith, place, length-append (front ++ open_blocks blocks) (stands.gate ∷ [])))

    with_gate : (gate : ℕ) (image : List ℕ) → image ≡ take at (staged_file at bytes file) ++ gate ∷ drop (at + 1) (staged_file at bytes file) → image ≡ (front ++ open_blocks blocks) ++ (gate ∷ (bytes ++ (0 ∷ drop (at + 2 + length bytes) file)))
    with_gate gate image is = is ∙ ap (λ (l : List ℕ). l ++ gate ∷ drop (at + 1) (staged_file at bytes file)) staged_before ∙ ap (λ (l : List ℕ). (front ++ open_blocks blocks) ++ gate ∷ l) staged_behind

    module _ (group : List (List ℕ)) (is_group : IsGroupOf group bytes) where
      grown : (front ++ open_blocks blocks) ++ (1 ∷ bytes) ≡ front ++ open_blocks (blocks ++ group)
      grown =
          ap (λ (l : List ℕ). (front ++ open_blocks blocks) ++ l) (opened group bytes is_group)
          ∙ append_assoc front (open_blocks blocks) (open_blocks group)
          ∙ ap (λ (l : List ℕ). front ++ l) (sym (flat_map-append (λ b. 1 ∷ b) blocks group))

      -- behind an open gate all its blocks count
      pub with_group : (image : List ℕ) → image ≡ take at (staged_file at bytes file) ++ 1 ∷ drop (at + 1) (staged_file at bytes file) → IsFileOf front (blocks ++ group) image
      with_group image is = record {
        gate = 0;
        rest = drop (at + 2 + length bytes) file;
        is = with_gate 1 image is ∙ sym (append_assoc (front ++ open_blocks blocks) (1 ∷ bytes) (0 ∷ drop (at + 2 + length bytes) file)) ∙ ap (λ (l : List ℕ). l ++ 0 ∷ drop (at + 2 + length bytes) file) grown;
        shut = λ is. cc;
      }

      -- behind any other none does
      pub all_or_none : (gate : ℕ) (image : List ℕ) → image ≡ take at (staged_file at bytes file) ++ gate ∷ drop (at + 1) (staged_file at bytes file) → IsFileOf front blocks image ⊎ IsFileOf front (blocks ++ group) image
      all_or_none gate image is = elim (cases_eq gate 1) [
        | inl one ↦ inr (with_group image (is ∙ ap (λ (g : ℕ). take at (staged_file at bytes file) ++ g ∷ drop (at + 1) (staged_file at bytes file)) one))
        | inr other ↦ inl (record { gate = gate; rest = bytes ++ (0 ∷ drop (at + 2 + length bytes) file); is = with_gate gate image is; shut = other })
      ]

-- where the length that is told is that of the file
pub told_within : (told : Option ℕ) (n m : ℕ) → told ≡ Some n → IfSome told (λ k. m ≤ k) → m ≤ n
told_within None n m is within = cc
told_within (Some k) n m is within = let same : k ≡ n = cc in omega arith

-- the tail gate of a file that stands is shut
pub tail_shut : (front : List ℕ) (blocks : List (List ℕ)) (file : List ℕ) → IsFileOf front blocks file → IsShutAt (tail_of front blocks) file
tail_shut front blocks file stands =
    let gate : get_or file (tail_of front blocks) 0 ≡ stands.gate = ap (λ (l : List ℕ). get_or l (tail_of front blocks) 0) stands.is ∙ get_or_at (front ++ open_blocks blocks) stands.gate stands.rest 0 (tail_of front blocks) refl in
    (long front blocks file (tail_of front blocks) stands refl, λ one. stands.shut (sym gate ∙ one))

-- a file with a shut gate, as one without blocks
shut_stands : (at : ℕ) (file : List ℕ) → IsShutAt at file → IsFileOf (take at file) [] file
shut_stands at file shut = record {
  gate = get_or file at 0;
  rest = drop (at + 1) file;
  is = sym (take-append-drop at file) ∙ ap (λ (l : List ℕ). take at file ++ l) (drop_more file at 0 (omega (arith, shut.0))) ∙ ap (λ (l : List ℕ). l ++ get_or file at 0 ∷ drop (at + 1) file) (sym (append-nil (take at file)));
  shut = shut.1;
}

pub shut_after : (at : ℕ) (bytes file new : List ℕ) → IsShutAt at file → new ≡ take at (staged_file at bytes file) ++ 1 ∷ drop (at + 1) (staged_file at bytes file) → IsShutAt (at + 1 + length bytes) new
shut_after at bytes file new shut is =
    let place : tail_of (take at file) [] ≡ at = omega (arith, shut.0, length-take at file, length-append {A = ℕ} (take at file) []) in
    let stands = with_group (take at file) [] file at (shut_stands at file shut) place bytes (bytes ∷ []) (one_block bytes) new is in
    let size : tail_of (take at file) (bytes ∷ []) ≡ at + 1 + length bytes = omega (arith, shut.0, length-take at file, length-append (take at file) ((1 ∷ bytes) ++ []), length-append (1 ∷ bytes) []) in
    subst (λ (n : ℕ). IsShutAt n new) size (tail_shut (take at file) (bytes ∷ []) new stands)

-- a file that ended with its tail gate ends with its new one
pub ends_after : (at : ℕ) (bytes file new : List ℕ) → length file ≡ at + 1 → new ≡ take at (staged_file at bytes file) ++ 1 ∷ drop (at + 1) (staged_file at bytes file) → length new ≡ at + 1 + length bytes + 1
ends_after at bytes file new ends is =
    let parts : length ((take (at + 1) file ++ bytes) ++ 0 ∷ drop (at + 2 + length bytes) file) ≡ at + 2 + length bytes =
    omega (arith, ends, length-append (take (at + 1) file ++ bytes) (0 ∷ drop (at + 2 + length bytes) file), length-append (take (at + 1) file) bytes, length-take (at + 1) file, length-drop (at + 2 + length bytes) file) in
    let size : length (staged_file at bytes file) ≡ at + 2 + length bytes = parts in
    omega (
      arith,
      size,
      ap length is,
      length-append (take at (staged_file at bytes file)) (1 ∷ drop (at + 1) (staged_file at bytes file)),
      length-take at (staged_file at bytes file),
      length-drop (at + 1) (staged_file at bytes file),
    )

-- what stands before the gate stays
pub front_stays : (n at : ℕ) (bytes file new : List ℕ) → n ≤ at → IsShutAt at file → new ≡ take at (staged_file at bytes file) ++ 1 ∷ drop (at + 1) (staged_file at bytes file) → take n new ≡ take n file
front_stays n at bytes file new before shut is =
    let staged = staged_file at bytes file in
    let behind = 0 ∷ drop (at + 2 + length bytes) file in
    let kept : at + 1 ≤ length (take (at + 1) file) = omega (arith, shut.0, length-take (at + 1) file) in
    let long : at + 1 ≤ length staged = omega (arith, kept, length-append (take (at + 1) file ++ bytes) behind, length-append (take (at + 1) file) bytes) in
    ap (λ (l : List ℕ). take n l) is
    ∙ take-append-le n (take at staged) (1 ∷ drop (at + 1) staged) (omega (arith, before, long, length-take at staged))
    ∙ take-take n at staged (omega (arith, before))
    ∙ take-append-le n (take (at + 1) file ++ bytes) behind (omega (arith, before, kept, length-append (take (at + 1) file) bytes))
    ∙ take-append-le n (take (at + 1) file) bytes (omega (arith, before, kept))
    ∙ take-take n (at + 1) file (omega (arith, before))

-- one byte over another, by the parts
pub gate_over : (at : ℕ) (file : List ℕ) → overlay at (1 ∷ []) file ≡ take at file ++ 1 ∷ drop (at + 1) file
gate_over at file = append_assoc (take at file) (1 ∷ []) (drop (at + 1) file)

pub told_within_some : (told : Option ℕ) (n m : ℕ) → told ≡ Some n → IsSomeAnd told (λ k. m ≤ k) → m ≤ n
told_within_some None n m is within = cc
told_within_some (Some k) n m is within = let same : k ≡ n = cc in omega arith
