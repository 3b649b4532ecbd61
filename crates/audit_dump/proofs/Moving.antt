-- A journal is read alike wherever it stands in an input, but for where the input ends, and its fields have near places.
use Rattle.std.specs.Int.{Width, byte_len, w8, w32, w64}
use Rattle.std.specs.Prelude.{nat_le, ok_or, if◌then◌else◌, ◌==◌, ◌&&◌, ⊤}
use Rattle.std.proofs.Common.{◌≡◌, ℕ, ◌+◌, ◌≤◌, ◌^◌, Bool, true, false, List, length, arith, Result, Ok, Err, Option, Some, None, refl, ap, ◌∙◌, inl, inr}
use Rattle.std.proofs.lemmas.Bool.{cases_lt, lt-ltb, le-ltb}
use Rattle.ledger_bytes.specs.declared.failure.Bad.{Bad}
use Rattle.ledger_bytes.specs.declared.failure.Bad.TheVariants.{BadKind, NewerFormat}
use Rattle.ledger_bytes.specs.Fields.{Unread, left_from, ◌>>=◌, bytes_at, number_at, digest_at, check, IsBytes}
use Rattle.journal_record.specs.declared.approval.TheConstants.{WHO_LIMIT}
use Rattle.journal_record.specs.declared.header.Header.{Header}
use Rattle.journal_record.specs.declared.header.Kind.{Kind}
use Rattle.journal_record.specs.Reading.{carried_at, layout_at, front_at, clue_at, own_at, parts_at, fields_at, header_at, known_version, known_kind, kind_in}
use Rattle.journal_record.specs.Rules.{kind_of, is_version, version_of, carries_a, carries_len, jsn_ok, member_ok, clue_ok, clue_ord_ok, clue_prev_ok, a_ok, b_ok, link_ok, is_kind_in, content_len_ok}
use Rattle.journal_record.specs.Items.{Item, content_at, body_at, state_ok, who_place, who_at, item_at}
use Rattle.journal_record.proofs.ReadingLaws.{header_back}
use Rattle.audit_dump.specs.Walking.{field_place, in_whole}

-- what is read, where the whole input is so long
abbrev with_whole : {A : Type 0} → ℕ → Result (A × Unread) Bad → Result (A × Unread) Bad
with_whole whole (Ok x) = Ok (x.0, left_from whole x.1.rest)
with_whole whole (Err bad) = Err (in_whole whole bad)

-- a break of a field has no greater place
abbrev IsNear : {A : Type 0} → ℕ → Result A Bad → Type 0
IsNear most (Ok x) = ⊤
IsNear most (Err bad) = field_place bad ≤ most

-- a reading is alike wherever its bytes stand in an input, but for the length that is told where bytes are missing; and its fields have
-- no greater places
record Moves {A : Type 0} (most : ℕ) (read : Unread → Result (A × Unread) Bad) : Type 0 where
  pub same : (whole longer : ℕ) (rest : List ℕ) → read (left_from longer rest) ≡ with_whole longer (read (left_from whole rest))
  pub near : (l : Unread) → IsNear most (read l)

-- a test that isn't a reading
abbrev IsPlain : {A : Type 0} → ℕ → Result A Bad → Type 0
IsPlain most (Ok x) = ⊤
IsPlain most (Err bad) = ((whole : ℕ) → bad ≡ in_whole whole bad) × (field_place bad ≤ most)

-- what a test answers that tells this break
abbrev tested : Bool → Bad → Result (Unit {0}) Bad
tested ok bad = if ok then Ok tt else Err bad

module _ (most : ℕ) where
  bytes_move : (n : ℕ) → Moves most (bytes_at n)
  bytes_move n = record {
    same = λ whole longer rest. elim (cases_lt (length rest) n) [
      | inl short ↦ rw (lt-ltb (length rest) n short) refl
      | inr long ↦ rw (le-ltb (length rest) n long) refl
    ];
    near = λ l. elim (cases_lt (length l.rest) n) [
      | inl short ↦ rw (lt-ltb (length l.rest) n short) (omega arith)
      | inr long ↦ rw (le-ltb (length l.rest) n long) tt
    ];
  }

  number_moves : (w : Width) → Moves most (number_at w)
  number_moves w = record {
    same = λ whole longer rest. elim (cases_lt (length rest) (byte_len w)) [
      | inl short ↦ rw (lt-ltb (length rest) (byte_len w) short) refl
      | inr long ↦ rw (le-ltb (length rest) (byte_len w) long) refl
    ];
    near = λ l. elim (cases_lt (length l.rest) (byte_len w)) [
      | inl short ↦ rw (lt-ltb (length l.rest) (byte_len w) short) (omega arith)
      | inr long ↦ rw (le-ltb (length l.rest) (byte_len w) long) tt
    ];
  }

  digest_moves : Moves most digest_at
  digest_moves = record {
    same = λ whole longer rest. elim (cases_lt (length rest) 32) [
      | inl short ↦ rw (lt-ltb (length rest) 32 short) refl
      | inr long ↦ rw (le-ltb (length rest) 32 long) refl
    ];
    near = λ l. elim (cases_lt (length l.rest) 32) [
      | inl short ↦ rw (lt-ltb (length l.rest) 32 short) (omega arith)
      | inr long ↦ rw (le-ltb (length l.rest) 32 long) tt
    ];
  }

  -- nothing is read
  nothing_moves : {A : Type 0} (x : A) → Moves most (λ l. Ok (x, l))
  nothing_moves x = record { same = λ whole longer rest. refl; near = λ l. tt }

  -- one reading after the other
  module _ {A B : Type 0} (read : Unread → Result (A × Unread) Bad) (f : A × Unread → Result (B × Unread) Bad) (first : Moves most read) (second : (a : A) → Moves most (λ l. f (a, l))) where
    same_then : (longer : ℕ) (r : Result (A × Unread) Bad) → (with_whole longer r >>= f) ≡ with_whole longer (r >>= f)
    same_then longer (Ok x) = (second x.0).same x.1.whole longer x.1.rest
    same_then longer (Err bad) = refl

    near_then : (r : Result (A × Unread) Bad) → IsNear most r → IsNear most (r >>= f)
    near_then (Ok x) near = (second x.0).near x.1
    near_then (Err bad) near = near

    moves_then : Moves most (λ l. read l >>= f)
    moves_then = record {
      same = λ whole longer rest. ap (λ r. r >>= f) (first.same whole longer rest) ∙ same_then longer (read (left_from whole rest));
      near = λ l. near_then (read l) (first.near l);
    }

  -- a test in front of a reading
  moves_after : {X B : Type 0} (r : Result X Bad) (f : X → Unread → Result (B × Unread) Bad) → IsPlain most r → ((x : X) → Moves most (f x)) → Moves most (λ l. r >>= λ x. f x l)
  moves_after (Ok x) f plain moves = moves x
  moves_after (Err bad) f plain moves = record { same = λ whole longer rest. ap Err (plain.0 longer); near = λ l. plain.1 }

  -- a test of a field in front of a reading
  moves_check : {B : Type 0} (ok : Bool) (at : ℕ) (f : Unread → Result (B × Unread) Bad) → at ≤ most → Moves most f → Moves most (λ l. check ok at >>= λ _. f l)
  moves_check true at f low moves = moves
  moves_check false at f low moves = record { same = λ whole longer rest. refl; near = λ l. low }

  -- one reading or another
  moves_if : {A : Type 0} (test : Bool) (f g : Unread → Result (A × Unread) Bad) → Moves most f → Moves most g → Moves most (λ l. if test then f l else g l)
  moves_if true f g one other = one
  moves_if false f g one other = other

  -- a reading behind a look at what it reads
  moves_behind : {A B : Type 0} (guard : Unread → Result (A × Unread) Bad) (read : Unread → Result (B × Unread) Bad) → Moves most guard → Moves most read → Moves most (λ l. guard l >>= λ _. read l)
  moves_behind {A} guard read first second = record {
    same = λ whole longer rest. ap (λ r. r >>= λ _. read (left_from longer rest)) (first.same whole longer rest) ∙ same whole longer rest (guard (left_from whole rest));
    near = λ l. near l (guard l) (first.near l);
  }
    where
      same : (whole longer : ℕ) (rest : List ℕ) (r : Result (A × Unread) Bad)
          → (with_whole longer r >>= λ _. read (left_from longer rest)) ≡ with_whole longer (r >>= λ _. read (left_from whole rest))
      same whole longer rest (Ok x) = second.same whole longer rest
      same whole longer rest (Err bad) = refl

      near : (l : Unread) (r : Result (A × Unread) Bad) → IsNear most r → IsNear most (r >>= λ _. read l)
      near l (Ok x) low = second.near l
      near l (Err bad) low = low

  -- ---- a header

  test_plain : (ok : Bool) (bad : Bad) → ((whole : ℕ) → bad ≡ in_whole whole bad) → field_place bad ≤ most → IsPlain most (tested ok bad)
  test_plain true bad placeless low = tt
  test_plain false bad placeless low = (placeless, low)

  version_plain : (version : ℕ) → IsPlain most (known_version version)
  version_plain version = test_plain (is_version version) (NewerFormat version) (λ whole. refl) (omega arith)

  kind_in_plain : (version : ℕ) (kind : Kind) (code : ℕ) → IsPlain most (kind_in version kind code)
  kind_in_plain version kind code = test_plain (is_kind_in version kind) (BadKind code) (λ whole. refl) (omega arith)

  kind_plain : (code : ℕ) → IsPlain most (known_kind code)
  kind_plain code = go (kind_of code)
    where
      go : (kind : Option Kind) → IsPlain most (ok_or kind (BadKind code))
      go (Some kind) = tt
      go None = (λ whole. refl, omega arith)

  module _ (some : 175 ≤ most) where
    front_moves : Moves most front_at
    unfolding front_at
    front_moves = moves_then (number_at w8) _ (number_moves w8)
        (λ version. moves_after (known_version version) _ (version_plain version) (λ _. moves_then (number_at w8) _ (number_moves w8)
        (λ code. moves_after (known_kind code) _ (kind_plain code) (λ kind. moves_then (number_at w64) _ (number_moves w64)
        (λ jsn. moves_check (jsn_ok kind jsn) 2 _ (omega (arith, some)) (moves_then (number_at w32) _ (number_moves w32)
        (λ member. moves_check (member_ok kind member) 10 _ (omega (arith, some)) (nothing_moves _))))))))

    clue_moves : (kind : Kind) (jsn : ℕ) → Moves most (clue_at kind jsn)
    unfolding clue_at
    clue_moves kind jsn = moves_then digest_at _ digest_moves
        (λ clue. moves_check (clue_ok kind clue) 14 _ (omega (arith, some)) (moves_then (number_at w32) _ (number_moves w32)
        (λ ord. moves_check (clue_ord_ok clue ord) 46 _ (omega (arith, some)) (moves_then (number_at w64) _ (number_moves w64)
        (λ prev. moves_check (clue_prev_ok jsn ord prev) 50 _ (omega (arith, some)) (nothing_moves _))))))

    own_moves : (version : ℕ) (kind : Kind) (jsn : ℕ) → Moves most (own_at version kind jsn)
    unfolding own_at
    own_moves version kind jsn = moves_then (number_at w64) _ (number_moves w64)
        (λ a. moves_check (a_ok kind jsn a && carries_a version kind a) 58 _ (omega (arith, some)) (moves_then (number_at w64) _ (number_moves w64)
        (λ b. moves_check (b_ok kind b) 66 _ (omega (arith, some)) (moves_then digest_at _ digest_moves
        (λ link. moves_check (link_ok kind link) 74 _ (omega (arith, some)) (nothing_moves _))))))

    parts_move : (version : ℕ) (kind : Kind) → Moves most (parts_at version kind)
    unfolding parts_at
    parts_move version kind = moves_then (number_at w32) _ (number_moves w32)
        (λ len. moves_check (content_len_ok kind len && carries_len version kind len) 106 _ (omega (arith, some)) (moves_then digest_at _ digest_moves
        (λ content. moves_then digest_at _ digest_moves (λ who. nothing_moves _))))

    fields_move : Moves most fields_at
    unfolding fields_at
    fields_move = moves_then front_at _ front_moves
        (λ front. moves_then (clue_at front.kind front.jsn) _ (clue_moves front.kind front.jsn)
        (λ clue. moves_then (own_at front.version front.kind front.jsn) _ (own_moves front.version front.kind front.jsn)
        (λ own. moves_then (parts_at front.version front.kind) _ (parts_move front.version front.kind) (λ parts. nothing_moves _))))

    -- what shows whether the version is the header's own
    carried_moves : (version : ℕ) (kind : Kind) → Moves most (carried_at version kind)
    unfolding carried_at
    carried_moves version kind = moves_if (version == 1) (λ l. Ok (tt, l)) _ (nothing_moves tt)
        (moves_then (bytes_at 56) _ (bytes_move 56)
        (λ skipped. moves_then (number_at w64) _ (number_moves w64)
        (λ a. moves_then (bytes_at 40) _ (bytes_move 40)
        (λ between. moves_then (number_at w32) _ (number_moves w32)
        (λ len. moves_check (version_of kind a len == 2) 0 _ (omega arith) (nothing_moves tt))))))

    layout_moves : Moves most layout_at
    unfolding layout_at
    layout_moves = moves_then (number_at w8) _ (number_moves w8)
        (λ version. moves_after (known_version version) _ (version_plain version) (λ _. moves_then (number_at w8) _ (number_moves w8)
        (λ code. moves_after (known_kind code) _ (kind_plain code)
        (λ kind. moves_after (kind_in version kind code) _ (kind_in_plain version kind code) (λ _. carried_moves version kind)))))

    header_moves : Moves most header_at
    unfolding header_at
    header_moves = moves_behind layout_at fields_at layout_moves fields_move

    -- ---- behind a header

    content_moves : (h : Header) (state : ℕ) → Moves most (content_at h state)
    content_moves h state = moves_if (state == 0) (λ l. bytes_at h.content_len l >>= λ content. Ok (Some content.0, content.1)) (λ l. Ok (None, l))
        (moves_then (bytes_at h.content_len) _ (bytes_move h.content_len) (λ content. nothing_moves (Some content)))
        (nothing_moves None)

    body_moves : (h : Header) → Moves most (body_at h)
    unfolding body_at
    body_moves h = moves_then (number_at w8) _ (number_moves w8) (λ state. moves_check (state_ok h state) 174 _ (omega (arith, some)) (content_moves h state))

    who_moves : (at : ℕ) → at ≤ most → Moves most (who_at at)
    unfolding who_at
    who_moves at low = moves_then (number_at w32) _ (number_moves w32) (λ len. moves_check (nat_le len WHO_LIMIT) at _ low (bytes_move len))

    place_low : (h : Header) (body : Option (List ℕ)) → 175 + h.content_len ≤ most → who_place h body ≤ most
    place_low h (Some content) low = low
    place_low h None low = some

-- behind its header
abbrev behind : Header × Unread → Result (Item × Unread) Bad
behind h = body_at h.0 h.1 >>= λ b. who_at (who_place h.0 b.0) b.1 >>= λ w. Ok (record { header = h.0; body = b.0; who = w.0 }, w.1)

behind_moves : (most : ℕ) (h : Header) → 175 + h.content_len ≤ most → Moves most (λ l. behind (h, l))
behind_moves most h low =
    let some : 175 ≤ most = omega (arith, low) in
    moves_then most (body_at h) _ (body_moves most some h)
    (λ body. moves_then most (who_at (who_place h body)) _ (who_moves most some (who_place h body) (place_low most some h body low)) (λ who. nothing_moves most _))

-- ---- a journal of a dump

-- a journal is read alike wherever it stands in an input
pub item_moves : (whole longer : ℕ) (rest : List ℕ) (bad : Bad) → item_at (left_from whole rest) ≡ Err bad → item_at (left_from longer rest) ≡ Err (in_whole longer bad)
unfolding item_at
item_moves whole longer rest bad e =
    ap (λ r. r >>= behind) ((header_moves 175 (omega arith)).same whole longer rest) ∙ (go (header_at (left_from whole rest)) ∙ ap (with_whole longer) e)
  where
    go : (r : Result (Header × Unread) Bad) → (with_whole longer r >>= behind) ≡ with_whole longer (r >>= behind)
    go (Ok x) = (behind_moves (175 + x.0.content_len) x.0 (omega arith)).same x.1.whole longer x.1.rest
    go (Err broken) = refl

-- its fields have near places
pub item_near_places : (l : Unread) (bad : Bad) → IsBytes l.rest → item_at l ≡ Err bad → field_place bad ≤ 2 ^ 33
unfolding item_at
item_near_places l bad bytes e = told (header_at l >>= behind) (go (header_at l) refl ((header_moves (2 ^ 33) (omega arith)).near l)) e
  where
    go : (r : Result (Header × Unread) Bad) → header_at l ≡ r → IsNear (2 ^ 33) r → IsNear (2 ^ 33) (r >>= behind)
    go (Ok x) at near =
        let widths = (header_back.takes l x.0 x.1 bytes at).1.widths in
        (behind_moves (2 ^ 33) x.0 (omega (arith, widths.content_len))).near x.1
    go (Err broken) at near = near

    told : (r : Result (Item × Unread) Bad) → IsNear (2 ^ 33) r → r ≡ Err bad → field_place bad ≤ 2 ^ 33
    told (Ok x) near never = absurd cc
    told (Err broken) near same = let is : broken ≡ bad = cc in omega (arith, near, ap field_place is)
