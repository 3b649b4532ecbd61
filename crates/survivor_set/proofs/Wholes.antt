-- A whole set: it is read from its bytes alone, each byte of it, and where the steps of reading it end.
use Rattle.std.specs.Int.{w64, to_be_bytes}
use Rattle.std.specs.Prelude.{◌≢◌, IfOk, IsErr, IsErrAnd, slice_get}
use Rattle.std.proofs.Common.{◌≡◌, ℕ, zero, suc, ◌-◌, ◌<◌, ◌≤◌, Bool, true, false, cond, eqb, ltb, List, [], ◌∷◌, ◌++◌, length, take, drop, Option, Some, None, Result, Ok, Err, refl, sym, ap, ap₂, ◌∙◌, subst, arith, append_assoc, append-nil, length-append, take-append-drop, length-drop}
use Rattle.std.proofs.lemmas.List.{drop_at, take_all, nil_from_length}
use Rattle.std.proofs.lemmas.Bool.{ne_eqb}
use Rattle.ledger_bytes.specs.declared.failure.Bad.{Bad}
use Rattle.ledger_bytes.specs.declared.failure.Bad.TheVariants.{Short, Trailing}
use Rattle.ledger_bytes.specs.Fields.{Unread, left_from, ◌>>=◌, bytes_at, end_at, IsBytes, Took, ReadsBack}
use Rattle.ledger_bytes.proofs.Fields.{bind_ok, ok_is, guard_ok, Took-then, wide64}
use Rattle.journal_record.proofs.ReadingSteps.{whole_takes}
use Rattle.survivor_set.specs.Sets.{Saved, SavedSet, IsSet, magic, set_text, survivors_text, front_text}
use Rattle.survivor_set.specs.Reading.{from_place, front_at, survivor_at, survivors_at, saved_at, shows_low, set_with, set_at, set_of, survivors_of, survivors_in}
use Rattle.survivor_set.specs.Steps.{IsFrontOf}
use Rattle.survivor_set.specs.declared.reading.Front.{Front}
use Rattle.survivor_set.proofs.Takes.{IsFront, fields_text, front_takes, front_again, survivors_take, survivors_again}

-- ---- a set and its bytes

abbrev from_survivors : Front → List Saved × Unread → Result (SavedSet × Unread) Bad
from_survivors front xs = Ok (set_with front xs.0, xs.1)

abbrev from_front : Front × Unread → Result (SavedSet × Unread) Bad
from_front front = survivors_at front.0.count None front.1 >>= from_survivors front.0

set_takes : (l : Unread) (s : SavedSet) (after : Unread) → IsBytes l.rest → set_at l ≡ Ok (s, after) → Took l (set_text s) after × IsSet s
unfolding set_at set_text
set_takes l s after bytes e =
    let f = bind_ok (front_at l) from_front (s, after) e in
    let ft = front_takes l f.0.0 f.0.1 bytes f.1 in
    let x = bind_ok (survivors_at f.0.0.count None f.0.1) (from_survivors f.0.0) (s, after) f.2 in
    let xt = survivors_take f.0.0.count None f.0.1 x.0.0 x.0.1 ft.0.bytes x.1 in
    let made = set_with f.0.0 x.0.0 in
    let t = Took-then l (fields_text f.0.0) f.0.1 (survivors_text x.0.0) x.0.1 ft.0 xt.took in
    let fits : IsSet made = record { id = ft.1.id; point = ft.1.point; root = ft.1.root; some = omega (arith, ft.1.some, xt.number); few = omega (arith, ft.1.few, xt.number); are = xt.are } in
    let text : Took l (set_text made) x.0.1 =
    subst (λ (n : ℕ). Took l (fields_text (record { id = f.0.0.id; point = f.0.0.point; root = f.0.0.root; count = n }) ++ survivors_text x.0.0) x.0.1) (sym xt.number) t in
    subst (λ z. Took l (set_text z.0) z.1 × IsSet z.0) (ok_is (made, x.0.1) (s, after) x.2) (text, fits)

set_again : (s : SavedSet) (whole : ℕ) (rest : List ℕ) → IsSet s → set_at (left_from whole (set_text s ++ rest)) ≡ Ok (s, left_from whole rest)
unfolding set_at set_text
set_again s whole rest fits =
    let front : Front = record { id = s.id; point = s.point; root = s.root; count = length s.survivors } in
    let is : IsFront front = record { id = fits.id; point = fits.point; root = fits.root; some = fits.some; few = fits.few } in
    ap (λ (t : List ℕ). front_at (left_from whole t) >>= from_front) (append_assoc (fields_text front) (survivors_text s.survivors) rest)
    ∙ (ap (λ r. r >>= from_front) (front_again front whole (survivors_text s.survivors ++ rest) is)
    ∙ ap (λ r. r >>= from_survivors front) (survivors_again s.survivors None whole rest fits.are))

set_back : ReadsBack set_at set_text IsSet
set_back = record { again = λ s whole rest fits. set_again s whole rest fits; takes = set_takes }

pub set_found : (bytes : List ℕ) (read : Result SavedSet Bad) → IsBytes bytes → read ≡ set_of bytes → IfOk read (λ s. IsSet s × (bytes ≡ set_text s))
unfolding set_of
set_found bytes (Ok s) plain is = whole_takes set_at set_text IsSet set_back bytes s plain (sym is)
set_found bytes (Err bad) plain is = tt

pub set_only : (bytes : List ℕ) (s : SavedSet) → IsSet s → bytes ≡ set_text s → set_of bytes ≡ Ok s
unfolding set_of
set_only bytes s fits is =
    ap (λ (t : List ℕ). set_at (left_from (length bytes) t) >>= λ r. end_at r.0 r.1) (is ∙ sym (append-nil (set_text s)))
    ∙ ap (λ r. r >>= λ r. end_at r.0 r.1) (set_again s (length bytes) [] fits)

pub set_trailing : (bytes : List ℕ) (s : SavedSet) (rest : List ℕ) → IsSet s → rest ≢ [] → bytes ≡ set_text s ++ rest → set_of bytes ≡ Err (Trailing (length (set_text s)))
unfolding set_of
set_trailing bytes s rest fits some is =
    let place : length bytes - length rest ≡ length (set_text s) = omega (arith, ap length is, length-append (set_text s) rest) in
    ap (λ (t : List ℕ). set_at (left_from (length bytes) t) >>= λ r. end_at r.0 r.1) is
    ∙ (ap (λ r. r >>= λ r. end_at r.0 r.1) (set_again s (length bytes) rest fits)
    ∙ rw (ne_eqb (length rest) 0 (λ none. some (nil_from_length rest none))) (ap (λ (n : ℕ). Err (Trailing n)) place))

-- ---- places

pub record IsPlaced (bytes : List ℕ) (l : Unread) : Type 0 where
  pub is : l ≡ from_place (length bytes - length l.rest) bytes
  pub within : length bytes - length l.rest ≤ length bytes

-- what is left behind the first bytes stands at a place
pub placed_behind : (bytes front : List ℕ) (after : Unread) → bytes ≡ front ++ after.rest → after.whole ≡ length bytes → IsPlaced bytes after
placed_behind bytes front after is whole =
    let len : length front ≡ length bytes - length after.rest = omega (arith, ap length is, length-append front after.rest) in
    let rest : after.rest ≡ drop (length bytes - length after.rest) bytes = sym (ap (drop (length bytes - length after.rest)) is ∙ drop_at front after.rest (length bytes - length after.rest) len) in
    record { is = ap₂ left_from whole rest; within = omega arith }

-- and so does what is left behind a text that stands at a place
pub placed : (at : ℕ) (bytes text : List ℕ) (after : Unread) → Took (from_place at bytes) text after → IsPlaced bytes after
placed at bytes text after took =
    placed_behind bytes (take at bytes ++ text) after
    (sym (take-append-drop at bytes) ∙ ap (λ t. take at bytes ++ t) took.parts ∙ sym (append_assoc (take at bytes) text after.rest)) took.whole

-- a reader that skipped to a place
pub skipped : (at : ℕ) (bytes text : List ℕ) (after : Unread) → bytes_at at (left_from (length bytes) bytes) ≡ Ok (text, after) → after ≡ from_place at bytes
skipped at bytes text after e =
    let g = guard_ok (ltb (length bytes) at) (Short (length bytes)) (take at bytes, from_place at bytes) (text, after) e in
    sym (ap (λ z. z.1) g.1)

-- ---- steps

-- the answer of a test that was passed
abbrev pub passed : Result (Unit {0}) Bad
passed = Ok tt

-- the answer of one that wasn't
abbrev pub broken : Bad → Result (Unit {0}) Bad
broken e = Err e

pub reads_to : {A : Type 0} (bytes : List ℕ) (x : A) (at : ℕ) (l : Unread) (read : Result (A × Unread) Bad) → read ≡ Ok (x, l) → IsPlaced bytes l → at ≡ length bytes - length l.rest
    → (read ≡ Ok (x, from_place at bytes)) × (at ≤ length bytes)
reads_to bytes x at l read is placed at_is =
    (is ∙ ap (λ u. Ok (x, u)) (placed.is ∙ ap (λ n. from_place n bytes) (sym at_is)), omega (arith, placed.within, at_is))

module _ (bytes : List ℕ) where
  pub front_breaks : (e : Bad) → front_at (left_from (length bytes) bytes) ≡ Err e → set_of bytes ≡ Err e
  unfolding set_of set_at
  front_breaks e is = ap (λ r. (r >>= from_front) >>= λ r. end_at r.0 r.1) is

  module _ (front : Front) (l : Unread) (front_is : front_at (left_from (length bytes) bytes) ≡ Ok (front, l)) where
    pub survivors_break : (e : Bad) → survivors_at front.count None l ≡ Err e → set_of bytes ≡ Err e
    unfolding set_of set_at
    survivors_break e is = ap (λ r. (r >>= from_front) >>= λ r. end_at r.0 r.1) front_is ∙ ap (λ r. (r >>= from_survivors front) >>= λ r. end_at r.0 r.1) is

    module _ (xs : List Saved) (end : Unread) (xs_are : survivors_at front.count None l ≡ Ok (xs, end)) where
      ends : set_of bytes ≡ end_at (set_with front xs) end
      unfolding set_of set_at
      ends = ap (λ r. (r >>= from_front) >>= λ r. end_at r.0 r.1) front_is ∙ ap (λ r. (r >>= from_survivors front) >>= λ r. end_at r.0 r.1) xs_are

      pub end_breaks : (e : Bad) → broken e ≡ end_at tt end → set_of bytes ≡ Err e
      end_breaks e is = ends ∙ go (eqb (length end.rest) 0) is
        where
          go : (b : Bool) → broken e ≡ cond b passed (broken (Trailing (end.whole - length end.rest))) → cond b (Ok (set_with front xs)) (Err (Trailing (end.whole - length end.rest))) ≡ Err e
          go true is = absurd cc
          go false is = let one : Trailing (end.whole - length end.rest) ≡ e = cc in ap Err one

      set_is : passed ≡ end_at tt end → set_of bytes ≡ Ok (set_with front xs)
      set_is is = ends ∙ go (eqb (length end.rest) 0) is
        where
          go : (b : Bool) → passed ≡ cond b passed (broken (Trailing (end.whole - length end.rest))) → cond b (Ok (set_with front xs)) (Err (Trailing (end.whole - length end.rest))) ≡ Ok (set_with front xs)
          go true is = refl
          go false is = absurd cc

      pub is_front : IsBytes bytes → passed ≡ end_at tt end → IsFrontOf front bytes
      is_front plain is =
          let whole = set_is is in
          let xs_is : survivors_in bytes ≡ xs = ap survivors_of whole in
          let f = front_takes (left_from (length bytes) bytes) front l plain front_is in
          let count = survivors_take front.count None l xs end f.0.bytes xs_are in
          record { set_is = whole ∙ ap (λ t. Ok (set_with front t)) (sym xs_is); count_is = ap length xs_is ∙ count.number; some = f.1.some; few = f.1.few }

-- ---- what stands behind the fields in front

pub front_length : (front : Front) → IsFront front → length (fields_text front) ≡ 81
unfolding front_text
front_length front fits =
    let last = front.count ∷ [] in
    let point = to_be_bytes w64 front.point in
    omega (arith, fits.id, fits.root, wide64.len front.point, length-append magic (front.id.0 ++ (point ++ (front.root.0 ++ last))), length-append front.id.0 (point ++ (front.root.0 ++ last)), length-append point (front.root.0 ++ last), length-append front.root.0 last)

pub record IsBehind (bytes : List ℕ) : Type 0 where
  pub end : Unread
  pub are : survivors_at (length (survivors_in bytes)) None (from_place 81 bytes) ≡ Ok (survivors_in bytes, end)
  pub within : 81 ≤ length bytes

pub behind : (bytes : List ℕ) (front : Front) → IsBytes bytes → IsFrontOf front bytes → IsBehind bytes
unfolding set_of set_at
behind bytes front plain is =
    let r = bind_ok (set_at (left_from (length bytes) bytes)) (λ r. end_at r.0 r.1) (set_with front (survivors_in bytes)) is.set_is in
    let f = bind_ok (front_at (left_from (length bytes) bytes)) from_front r.0 r.1 in
    let x = bind_ok (survivors_at f.0.0.count None f.0.1) (from_survivors f.0.0) r.0 f.2 in
    let ft = front_takes (left_from (length bytes) bytes) f.0.0 f.0.1 plain f.1 in
    let xt = survivors_take f.0.0.count None f.0.1 x.0.0 x.0.1 ft.0.bytes x.1 in
    let made = guarded r.0.0 r.0.1 (set_with front (survivors_in bytes)) r.2 in
    let same : x.0.0 ≡ survivors_in bytes = ap (λ z. z.0.survivors) (ok_is (set_with f.0.0 x.0.0, x.0.1) r.0 x.2) ∙ ap (λ (s : SavedSet). s.survivors) made in
    let len = front_length f.0.0 ft.1 in
    let place : length bytes - length f.0.1.rest ≡ 81 = omega (arith, ap length ft.0.parts, length-append (fields_text f.0.0) f.0.1.rest, len) in
    let long : 81 ≤ length bytes = omega (arith, ap length ft.0.parts, length-append (fields_text f.0.0) f.0.1.rest, len) in
    let at = placed_behind bytes (fields_text f.0.0) f.0.1 ft.0.parts ft.0.whole in
    let l : f.0.1 ≡ from_place 81 bytes = at.is ∙ ap (λ n. from_place n bytes) place in
    let count : f.0.0.count ≡ length (survivors_in bytes) = sym xt.number ∙ ap length same in
    record {
      end = x.0.1;
      are = ap (λ n. survivors_at n None (from_place 81 bytes)) (sym count) ∙ ap (λ u. survivors_at f.0.0.count None u) (sym l) ∙ x.1 ∙ ap (λ xs. Ok (xs, x.0.1)) same;
      within = long;
    }
  where
    guarded : (s : SavedSet) (l : Unread) (t : SavedSet) → end_at s l ≡ Ok t → s ≡ t
    guarded s l t e = go (eqb (length l.rest) 0) e
      where
        go : (b : Bool) → cond b (Ok s) (Err (Trailing (l.whole - length l.rest))) ≡ Ok t → s ≡ t
        go true same = cc
        go false never = absurd cc

-- the first of some survivors, and those behind it
pub first_of : (bytes : List ℕ) (count : ℕ) (last : Option ℕ) (l : Unread) (x : Saved) (next : ℕ) (xs : List Saved × Unread) → survivors_at (suc count) last l ≡ Ok xs → survivor_at last l ≡ Ok (x, from_place next bytes)
    → (r : List Saved × Unread) × (survivors_at count (Some x.item.header.jsn) (from_place next bytes) ≡ Ok r) × (xs.0 ≡ x ∷ r.0)
first_of bytes count last l x next xs all one =
    let f : Saved × Unread → Result (List Saved × Unread) Bad = λ x. survivors_at count (Some x.0.item.header.jsn) x.1 >>= λ xs. Ok (x.0 ∷ xs.0, xs.1) in
    let s = bind_ok (survivor_at last l) f xs all in
    let here : s.0 ≡ (x, from_place next bytes) = ok_is s.0 (x, from_place next bytes) (sym s.1 ∙ one) in
    let e : f (x, from_place next bytes) ≡ Ok xs = subst (λ z. f z ≡ Ok xs) here s.2 in
    let r = bind_ok (survivors_at count (Some x.item.header.jsn) (from_place next bytes)) (λ xs. Ok (x ∷ xs.0, xs.1)) xs e in
    (r.0, r.1, sym (ap (λ z. z.0) (ok_is (x ∷ r.0.0, r.0.1) xs r.2)))

-- what is found of those behind the first, whose number is this
abbrev pub DeeperIs : List ℕ → ℕ → ℕ → ℕ → Option Saved → Type 0
DeeperIs bytes next n i result =
    (count : ℕ) (ys : List Saved × Unread) → survivors_at count (Some n) (from_place next bytes) ≡ Ok ys → i - 1 < count → result ≡ slice_get ys.0 (i - 1)

pub nth_is : (bytes : List ℕ) (count i : ℕ) (last : Option ℕ) (l : Unread) (x : Saved) (next : ℕ) (xs : List Saved × Unread) (result : Option Saved) → survivors_at count last l ≡ Ok xs → i < count → 0 < i
    → survivor_at last l ≡ Ok (x, from_place next bytes)
    → DeeperIs bytes next x.item.header.jsn i result
    → result ≡ slice_get xs.0 i
nth_is bytes zero i last l x next xs result all within some one deeper = absurd (omega (arith, within))
nth_is bytes (suc count) zero last l x next xs result all within some one deeper = absurd (omega (arith, some))
nth_is bytes (suc count) (suc i) last l x next xs result all within some one deeper =
    let r = first_of bytes count last l x next xs all one in
    let less : suc i - 1 ≡ i = omega arith in
    deeper count r.0 r.1 (omega (arith, within)) ∙ ap (slice_get r.0.0) less ∙ sym (ap (λ t. slice_get t (suc i)) r.2)

-- the survivor that is read behind what was skipped is the next one at the place
pub read_here : (at : ℕ) (bytes : List ℕ) (last : Option ℕ) (text : List ℕ) (skip : Unread) (low : Bool) (x : Saved) (after : Unread) → at ≤ length bytes → bytes_at at (left_from (length bytes) bytes) ≡ Ok (text, skip)
    → low ≡ shows_low last (take (length bytes - at) (drop at bytes)) → saved_at at low skip ≡ Ok (x, after) → survivor_at last (from_place at bytes) ≡ Ok (x, after)
read_here at bytes last text skip low x after within skips low_is e =
    let place : length bytes - length (drop at bytes) ≡ at = omega (arith, length-drop at bytes) in
    let all : take (length bytes - at) (drop at bytes) ≡ drop at bytes = take_all (length bytes - at) (drop at bytes) (omega (arith, length-drop at bytes)) in
    ap (λ n. saved_at n (shows_low last (drop at bytes)) (from_place at bytes)) place
    ∙ ap (λ b. saved_at at b (from_place at bytes)) (sym (low_is ∙ ap (shows_low last) all)) ∙ ap (saved_at at low) (sym (skipped at bytes text skip skips)) ∙ e

-- an error that is handed on
pub handed_on : {A : Type 0} (r : Result A Bad) (e : Bad) (P : Result A Bad → Type 0) → IsErr r × IsErrAnd r (λ f. f ≡ e) → P (Err e) → P r
handed_on (Ok x) e P is p = absurd (cc is.0)
handed_on (Err f) e P is p = subst (λ x. P (Err x)) (sym is.1) p
