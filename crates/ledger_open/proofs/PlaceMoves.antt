-- Where journals stand in the copy, and the bytes that are copied.
use Rattle.std.specs.Prelude.{sum_by, min}
use Rattle.std.proofs.Common.{◌≡◌, ℕ, ◌+◌, ◌-◌, ◌^◌, ◌<◌, ◌≤◌, List, [], ◌∷◌, ◌++◌, length, map, take, drop, refl, sym, ◌∙◌, ap, subst, arith, append-nil, append_assoc, length-append, drop-drop}
use Rattle.std.proofs.lemmas.List.{take_at, drop_at, take_all, drop_all, map-append}
use Rattle.std.proofs.lemmas.List.Concat.{flat_map-append}
use Rattle.std.proofs.lemmas.List.Sums.{sum_by-cons}
use Rattle.block_file.specs.File.{IsFileOf, open_blocks, tail_of}
use Rattle.journal_record.specs.Entry.{Entry}
use Rattle.ledger_model.specs.History.{journals_of}
use Rattle.ledger_open.specs.Cutting.{BeginsSome}
use Rattle.block_file.specs.Places.{content_in, content_from, body_from, moved_place}
use Rattle.block_file.specs.Places.{record_len, place_at, places_in, places_at, after_at}
use Rattle.block_file.specs.declared.place.PlaceAt.{PlaceAt}

-- ---- places that move

module _ (old new : ℕ) where
  abbrev place : ℕ → ℕ → Entry → PlaceAt
  place content who e = record { content_at = content; who_at = who; content_len = e.header.content_len; who_len = length e.who }

  one_moved : (d : ℕ) (e : Entry) → new + d + record_len e < 2 ^ 64 → moved_place old new (place_at (old + d) e) ≡ place_at (new + d) e
  one_moved d e fits =
      let n = e.header.content_len in
      let c : min (content_in (old + d) - old + new) (2 ^ 64 - 1) ≡ content_in (new + d) = omega (arith, fits) in
      let w : min (content_in (old + d) + n - old + new) (2 ^ 64 - 1) ≡ content_in (new + d) + n = omega (arith, fits) in
      ap (λ k. place k (min (content_in (old + d) + n - old + new) (2 ^ 64 - 1)) e) c ∙ ap (λ k. place (content_in (new + d)) k e) w

  in_moved : (d : ℕ) (es : List Entry) → new + d + sum_by record_len es < 2 ^ 64 → map (moved_place old new) (places_in (old + d) es) ≡ places_in (new + d) es
  in_moved d [] fits = refl
  in_moved d (e ∷ es) fits =
      let a : old + d + record_len e ≡ old + (d + record_len e) = omega arith in
      let b : new + d + record_len e ≡ new + (d + record_len e) = omega arith in
      let all : sum_by record_len (e ∷ es) ≡ record_len e + sum_by record_len es = sum_by-cons record_len e es in
      ap (λ p. p ∷ map (moved_place old new) (places_in (old + d + record_len e) es)) (one_moved d e (omega (arith, fits, all)))
      ∙ ap (λ l. place_at (new + d) e ∷ l)
      (ap (λ n. map (moved_place old new) (places_in n es)) a ∙ in_moved (d + record_len e) es (omega (arith, fits, all)) ∙ ap (λ n. places_in n es) (sym b))

  pub after_most : (at : ℕ) (bs : List (List Entry)) → at ≤ after_at at bs
  after_most at [] = omega arith
  after_most at (b ∷ bs) = omega (arith, after_most (body_from at + sum_by record_len b) bs)

  at_moved : (d : ℕ) (bs : List (List Entry)) → after_at (new + d) bs < 2 ^ 64 → map (moved_place old new) (places_at (old + d) bs) ≡ places_at (new + d) bs
  at_moved d [] fits = refl
  at_moved d (b ∷ bs) fits =
      let n = sum_by record_len b in
      let a : body_from (old + d) ≡ old + (body_from d) = omega arith in
      let c : body_from (new + d) ≡ new + (body_from d) = omega arith in
      let e : body_from (old + d) + n ≡ old + (body_from d + n) = omega arith in
      let f : body_from (new + d) + n ≡ new + (body_from d + n) = omega arith in
      let low : body_from (new + d) + n ≤ after_at (body_from (new + d) + n) bs = after_most (body_from (new + d) + n) bs in
      map-append (moved_place old new) (places_in (body_from (old + d)) b) (places_at (body_from (old + d) + n) bs)
      ∙ ap (λ l. l ++ map (moved_place old new) (places_at (body_from (old + d) + n) bs))
      (ap (λ k. map (moved_place old new) (places_in k b)) a ∙ in_moved (body_from d) b (omega (arith, low, fits)) ∙ ap (λ k. places_in k b) (sym c))
      ∙ ap (λ l. places_in (body_from (new + d)) b ++ l)
      (ap (λ k. map (moved_place old new) (places_at k bs)) e ∙ at_moved (body_from d + n) bs (subst (λ k. after_at k bs < 2 ^ 64) f fits) ∙ ap (λ k. places_at k bs) (sym f))

  -- the places in the copy, by those in the file
  pub places_moved : (bs : List (List Entry)) → after_at new bs < 2 ^ 64 → map (moved_place old new) (places_at old bs) ≡ places_at new bs
  places_moved bs fits =
      let a : old ≡ old + 0 = omega arith in
      let b : new + 0 ≡ new = omega arith in
      ap (λ n. map (moved_place old new) (places_at n bs)) a ∙ at_moved 0 bs (subst (λ k. after_at k bs < 2 ^ 64) (sym b) fits) ∙ ap (λ n. places_at n bs) b

  -- each was moved
  pub moved_all : (i : ℕ) (begun now : List PlaceAt) → now ≡ map (moved_place old new) (take i begun) ++ drop i begun → length begun ≤ i → now ≡ map (moved_place old new) begun
  moved_all i begun now is last =
      is ∙ ap (λ l. map (moved_place old new) l ++ drop i begun) (take_all i begun last) ∙ ap (λ l. map (moved_place old new) begun ++ l) (drop_all i begun last)
      ∙ append-nil (map (moved_place old new) begun)

-- ---- the blocks that are left out

length_in : (at : ℕ) (es : List Entry) → length (places_in at es) ≡ length es
length_in at [] = refl
length_in at (e ∷ es) = omega (arith, length_in (at + record_len e) es)

-- the places of the blocks behind some others
pub places_behind : (at : ℕ) (as_ bs : List (List Entry)) → drop (length (journals_of as_)) (places_at at (as_ ++ bs)) ≡ places_at (after_at at as_) bs
places_behind at [] bs = refl
places_behind at (a ∷ as_) bs =
    let n = sum_by record_len a in
    let split : length (journals_of (a ∷ as_)) ≡ length a + length (journals_of as_) = length-append a (journals_of as_) in
    ap (λ k. drop k (places_in (body_from at) a ++ places_at (body_from at + n) (as_ ++ bs))) split
    ∙ sym (drop-drop (length (journals_of as_)) (length a) (places_in (body_from at) a ++ places_at (body_from at + n) (as_ ++ bs)))
    ∙ ap (drop (length (journals_of as_))) (drop_at (places_in (body_from at) a) (places_at (body_from at + n) (as_ ++ bs)) (length a) (length_in (body_from at) a))
    ∙ places_behind (body_from at + n) as_ bs

pub after_behind : (at : ℕ) (as_ bs : List (List Entry)) → after_at at (as_ ++ bs) ≡ after_at (after_at at as_) bs
after_behind at [] bs = refl
after_behind at (a ∷ as_) bs = after_behind (body_from at + sum_by record_len a) as_ bs

-- behind the first blocks stands the place of the first journal of the others: that of its content
pub first_behind : (at : ℕ) (as_ bs : List (List Entry)) → BeginsSome bs → (p : PlaceAt) × (ps : List PlaceAt) × (drop (length (journals_of as_)) (places_at at (as_ ++ bs)) ≡ p ∷ ps) × (p.content_at ≡ content_from (after_at at as_))
first_behind at as_ [] some = absurd some
first_behind at as_ ([] ∷ bs) some = absurd some
first_behind at as_ ((e ∷ es) ∷ bs) some =
    (place_at (body_from (after_at at as_)) e, places_in (body_from (after_at at as_) + record_len e) es ++ places_at (body_from (after_at at as_) + sum_by record_len (e ∷ es)) bs, places_behind at as_ ((e ∷ es) ∷ bs), omega arith)

-- where the gate behind blocks stands, from another offset on
pub after_moved : (old new : ℕ) (bs : List (List Entry)) → after_at new bs + old ≡ after_at old bs + new
after_moved old new [] = omega arith
after_moved old new (b ∷ bs) = omega (arith, after_moved (body_from old + sum_by record_len b) (body_from new + sum_by record_len b) bs)

-- ---- the bytes that are copied

pub copied_bytes : (front file : List ℕ) (as_ bs : List (List ℕ)) → IsFileOf front (as_ ++ bs) file
    → take (tail_of front (as_ ++ bs) - tail_of front as_) (drop (tail_of front as_) file) ≡ open_blocks bs
copied_bytes front file as_ bs s =
    let all : open_blocks (as_ ++ bs) ≡ open_blocks as_ ++ open_blocks bs = flat_map-append (λ (b : List ℕ). 1 ∷ b) as_ bs in
    let parts : file ≡ (front ++ open_blocks as_) ++ (open_blocks bs ++ s.gate ∷ s.rest) =
    s.is ∙ ap (λ (l : List ℕ). (front ++ l) ++ s.gate ∷ s.rest) all ∙ append_assoc front (open_blocks as_ ++ open_blocks bs) (s.gate ∷ s.rest)
    ∙ ap (λ (l : List ℕ). front ++ l) (append_assoc (open_blocks as_) (open_blocks bs) (s.gate ∷ s.rest)) ∙ sym (append_assoc front (open_blocks as_) (open_blocks bs ++ s.gate ∷ s.rest)) in
    let len : length (open_blocks bs) ≡ tail_of front (as_ ++ bs) - tail_of front as_ =
    omega (arith, length-append front (open_blocks (as_ ++ bs)), length-append front (open_blocks as_), ap length all, length-append (open_blocks as_) (open_blocks bs)) in
    ap (λ (l : List ℕ). take (tail_of front (as_ ++ bs) - tail_of front as_) (drop (tail_of front as_) l)) parts
    ∙ ap (take (tail_of front (as_ ++ bs) - tail_of front as_)) (drop_at (front ++ open_blocks as_) (open_blocks bs ++ s.gate ∷ s.rest) (tail_of front as_) refl)
    ∙ take_at (open_blocks bs) (s.gate ∷ s.rest) (tail_of front (as_ ++ bs) - tail_of front as_) len
