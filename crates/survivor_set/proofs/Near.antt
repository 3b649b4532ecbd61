-- The fields of a journal have near places: a place in a set and theirs have a sum.
use Rattle.std.specs.Int.{Width, byte_len, w8, w32, w64}
use Rattle.std.specs.Prelude.{nat_le, ok_or, if◌then◌else◌, ◌==◌, ◌&&◌, ⊤}
use Rattle.std.proofs.Common.{◌≡◌, ℕ, ◌+◌, ◌≤◌, ◌^◌, Bool, true, false, List, length, arith, Result, Ok, Err, Option, Some, None, refl, subst, inl, inr}
use Rattle.std.proofs.lemmas.Bool.{cases_lt, lt-ltb, le-ltb}
use Rattle.ledger_bytes.specs.declared.failure.Bad.{Bad}
use Rattle.ledger_bytes.specs.declared.failure.Bad.TheVariants.{BadKind, NewerFormat}
use Rattle.ledger_bytes.specs.Fields.{Unread, ◌>>=◌, bytes_at, number_at, digest_at, check, IsBytes}
use Rattle.journal_record.specs.declared.approval.TheConstants.{WHO_LIMIT}
use Rattle.journal_record.specs.declared.header.Header.{Header}
use Rattle.journal_record.specs.declared.header.Kind.{Kind}
use Rattle.journal_record.specs.Reading.{carried_at, layout_at, front_at, clue_at, own_at, parts_at, fields_at, header_at, known_version, known_kind, kind_in}
use Rattle.journal_record.specs.Rules.{kind_of, is_version, is_kind_in, version_of, carries_a, carries_len, jsn_ok, member_ok, clue_ok, clue_ord_ok, clue_prev_ok, a_ok, b_ok, link_ok, content_len_ok}
use Rattle.journal_record.specs.Items.{Item, content_at, body_at, state_ok, who_place, who_at, item_at}
use Rattle.journal_record.proofs.ReadingLaws.{header_back}
use Rattle.survivor_set.specs.Steps.{IsNearBad}

-- what is read breaks at no greater place
abbrev pub IsNear : {A : Type 0} → ℕ → Result A Bad → Type 0
IsNear most (Ok x) = ⊤
IsNear most (Err bad) = IsNearBad most bad

-- what a test of a version answers
abbrev tested : Bool → ℕ → Result (Unit {0}) Bad
tested ok version = if ok then Ok tt else Err (NewerFormat version)

module _ (most : ℕ) where
  bytes_near : (n : ℕ) (l : Unread) → IsNear most (bytes_at n l)
  bytes_near n l = elim (cases_lt (length l.rest) n) [
    | inl short ↦ rw (lt-ltb (length l.rest) n short) tt
    | inr long ↦ rw (le-ltb (length l.rest) n long) tt
  ]

  number_near : (w : Width) (l : Unread) → IsNear most (number_at w l)
  number_near w l = elim (cases_lt (length l.rest) (byte_len w)) [
    | inl short ↦ rw (lt-ltb (length l.rest) (byte_len w) short) tt
    | inr long ↦ rw (le-ltb (length l.rest) (byte_len w) long) tt
  ]

  digest_near : (l : Unread) → IsNear most (digest_at l)
  digest_near l = elim (cases_lt (length l.rest) 32) [
    | inl short ↦ rw (lt-ltb (length l.rest) 32 short) tt
    | inr long ↦ rw (le-ltb (length l.rest) 32 long) tt
  ]

  -- one reading after the other
  near_then : {A B : Type 0} (r : Result A Bad) (f : A → Result B Bad) → IsNear most r → ((a : A) → IsNear most (f a)) → IsNear most (r >>= f)
  near_then (Ok x) f near second = second x
  near_then (Err bad) f near second = near

  -- a test of a field
  check_near : (ok : Bool) (at : ℕ) → at ≤ most → IsNear most (check ok at)
  check_near true at low = tt
  check_near false at low = low

  test_near : (ok : Bool) (version : ℕ) → IsNear most (tested ok version)
  test_near true version = tt
  test_near false version = tt

  version_near : (version : ℕ) → IsNear most (known_version version)
  version_near version = test_near (is_version version) version

  kind_near : (code : ℕ) → IsNear most (known_kind code)
  kind_near code = go (kind_of code)
    where
      go : (kind : Option Kind) → IsNear most (ok_or kind (BadKind code))
      go (Some kind) = tt
      go None = tt

  -- one reading or another
  if_near : {A : Type 0} (test : Bool) (f g : Result A Bad) → IsNear most f → IsNear most g → IsNear most (if test then f else g)
  if_near true f g one other = one
  if_near false f g one other = other

  held_near : (version : ℕ) (kind : Kind) (code : ℕ) → IsNear most (kind_in version kind code)
  held_near version kind code = if_near (is_kind_in version kind) (Ok tt) (Err (BadKind code)) tt tt

  module _ (some : 175 ≤ most) where
    front_near : (l : Unread) → IsNear most (front_at l)
    unfolding front_at
    front_near l = near_then (number_at w8 l) _ (number_near w8 l)
        (λ version. near_then (known_version version.0) _ (version_near version.0) (λ _. near_then (number_at w8 version.1) _ (number_near w8 version.1)
        (λ code. near_then (known_kind code.0) _ (kind_near code.0) (λ kind. near_then (number_at w64 code.1) _ (number_near w64 code.1)
        (λ jsn. near_then (check (jsn_ok kind jsn.0) 2) _ (check_near (jsn_ok kind jsn.0) 2 (omega (arith, some))) (λ _. near_then (number_at w32 jsn.1) _ (number_near w32 jsn.1)
        (λ member. near_then (check (member_ok kind member.0) 10) _ (check_near (member_ok kind member.0) 10 (omega (arith, some))) (λ _. tt))))))))

    clue_near : (kind : Kind) (jsn : ℕ) (l : Unread) → IsNear most (clue_at kind jsn l)
    unfolding clue_at
    clue_near kind jsn l = near_then (digest_at l) _ (digest_near l)
        (λ clue. near_then (check (clue_ok kind clue.0) 14) _ (check_near (clue_ok kind clue.0) 14 (omega (arith, some))) (λ _. near_then (number_at w32 clue.1) _ (number_near w32 clue.1)
        (λ ord. near_then (check (clue_ord_ok clue.0 ord.0) 46) _ (check_near (clue_ord_ok clue.0 ord.0) 46 (omega (arith, some))) (λ _. near_then (number_at w64 ord.1) _ (number_near w64 ord.1)
        (λ prev. near_then (check (clue_prev_ok jsn ord.0 prev.0) 50) _ (check_near (clue_prev_ok jsn ord.0 prev.0) 50 (omega (arith, some))) (λ _. tt))))))

    own_near : (version : ℕ) (kind : Kind) (jsn : ℕ) (l : Unread) → IsNear most (own_at version kind jsn l)
    unfolding own_at
    own_near version kind jsn l = near_then (number_at w64 l) _ (number_near w64 l)
        (λ a. near_then (check (a_ok kind jsn a.0 && carries_a version kind a.0) 58) _ (check_near (a_ok kind jsn a.0 && carries_a version kind a.0) 58 (omega (arith, some))) (λ _. near_then (number_at w64 a.1) _ (number_near w64 a.1)
        (λ b. near_then (check (b_ok kind b.0) 66) _ (check_near (b_ok kind b.0) 66 (omega (arith, some))) (λ _. near_then (digest_at b.1) _ (digest_near b.1)
        (λ link. near_then (check (link_ok kind link.0) 74) _ (check_near (link_ok kind link.0) 74 (omega (arith, some))) (λ _. tt))))))

    parts_near : (version : ℕ) (kind : Kind) (l : Unread) → IsNear most (parts_at version kind l)
    unfolding parts_at
    parts_near version kind l = near_then (number_at w32 l) _ (number_near w32 l)
        (λ len. near_then (check (content_len_ok kind len.0 && carries_len version kind len.0) 106) _ (check_near (content_len_ok kind len.0 && carries_len version kind len.0) 106 (omega (arith, some))) (λ _. near_then (digest_at len.1) _ (digest_near len.1)
        (λ content. near_then (digest_at content.1) _ (digest_near content.1) (λ who. tt))))

    fields_near : (l : Unread) → IsNear most (fields_at l)
    unfolding fields_at
    fields_near l = near_then (front_at l) _ (front_near l)
        (λ front. near_then (clue_at front.0.kind front.0.jsn front.1) _ (clue_near front.0.kind front.0.jsn front.1)
        (λ clue. near_then (own_at front.0.version front.0.kind front.0.jsn clue.1) _ (own_near front.0.version front.0.kind front.0.jsn clue.1)
        (λ own. near_then (parts_at front.0.version front.0.kind own.1) _ (parts_near front.0.version front.0.kind own.1) (λ parts. tt))))

    -- what shows whether the version is the header's own
    carried_near : (version : ℕ) (kind : Kind) (l : Unread) → IsNear most (carried_at version kind l)
    unfolding carried_at
    carried_near version kind l = if_near (version == 1) (Ok (tt, l)) _ tt
        (near_then (bytes_at 56 l) _ (bytes_near 56 l)
        (λ skipped. near_then (number_at w64 skipped.1) _ (number_near w64 skipped.1)
        (λ a. near_then (bytes_at 40 a.1) _ (bytes_near 40 a.1)
        (λ between. near_then (number_at w32 between.1) _ (number_near w32 between.1)
        (λ len. near_then (check (version_of kind a.0 len.0 == 2) 0) _ (check_near (version_of kind a.0 len.0 == 2) 0 (omega arith)) (λ _. tt))))))

    layout_near : (l : Unread) → IsNear most (layout_at l)
    unfolding layout_at
    layout_near l = near_then (number_at w8 l) _ (number_near w8 l)
        (λ version. near_then (known_version version.0) _ (version_near version.0) (λ _. near_then (number_at w8 version.1) _ (number_near w8 version.1)
        (λ code. near_then (known_kind code.0) _ (kind_near code.0)
        (λ kind. near_then (kind_in version.0 kind code.0) _ (held_near version.0 kind code.0) (λ _. carried_near version.0 kind code.1)))))

    header_near : (l : Unread) → IsNear most (header_at l)
    unfolding header_at
    header_near l = near_then (layout_at l) _ (layout_near l) (λ _. fields_near l)

    content_near : (h : Header) (state : ℕ) (l : Unread) → IsNear most (content_at h state l)
    content_near h state l = if_near (state == 0) (bytes_at h.content_len l >>= λ content. Ok (Some content.0, content.1)) (Ok (None, l))
        (near_then (bytes_at h.content_len l) _ (bytes_near h.content_len l) (λ content. tt)) tt

    body_near : (h : Header) (l : Unread) → IsNear most (body_at h l)
    unfolding body_at
    body_near h l = near_then (number_at w8 l) _ (number_near w8 l)
        (λ state. near_then (check (state_ok h state.0) 174) _ (check_near (state_ok h state.0) 174 (omega (arith, some))) (λ _. content_near h state.0 state.1))

    who_near : (at : ℕ) → at ≤ most → (l : Unread) → IsNear most (who_at at l)
    unfolding who_at
    who_near at low l = near_then (number_at w32 l) _ (number_near w32 l) (λ len. near_then (check (nat_le len.0 WHO_LIMIT) at) _ (check_near (nat_le len.0 WHO_LIMIT) at low) (λ _. bytes_near len.0 len.1))

    place_low : (h : Header) (body : Option (List ℕ)) → 175 + h.content_len ≤ most → who_place h body ≤ most
    place_low h (Some content) low = low
    place_low h None low = some

-- behind its header
abbrev behind : Header × Unread → Result (Item × Unread) Bad
behind h = body_at h.0 h.1 >>= λ b. who_at (who_place h.0 b.0) b.1 >>= λ w. Ok (record { header = h.0; body = b.0; who = w.0 }, w.1)

behind_near : (most : ℕ) (h : Header) (l : Unread) → 175 + h.content_len ≤ most → IsNear most (behind (h, l))
behind_near most h l low =
    let some : 175 ≤ most = omega (arith, low) in
    near_then most (body_at h l) _ (body_near most some h l)
    (λ body. near_then most (who_at (who_place h body.0) body.1) _ (who_near most some (who_place h body.0) (place_low most some h body.0 low) body.1) (λ who. tt))

-- a journal breaks at a near place
pub item_near_places : (l : Unread) → IsBytes l.rest → IsNear (2 ^ 33) (item_at l)
unfolding item_at
item_near_places l bytes = go (header_at l) refl (header_near (2 ^ 33) (omega arith) l)
  where
    go : (r : Result (Header × Unread) Bad) → header_at l ≡ r → IsNear (2 ^ 33) r → IsNear (2 ^ 33) (r >>= behind)
    go (Ok x) at near =
        let widths = (header_back.takes l x.0 x.1 bytes at).1.widths in
        behind_near (2 ^ 33) x.0 x.1 (omega (arith, widths.content_len))
    go (Err broken) at near = near

-- a sum of a place and a near one is a number of the program
pub near_of : (l : Unread) (bad : Bad) → IsBytes l.rest → item_at l ≡ Err bad → IsNearBad (2 ^ 33) bad
near_of l bad bytes e = subst (IsNear (2 ^ 33)) e (item_near_places l bytes)
