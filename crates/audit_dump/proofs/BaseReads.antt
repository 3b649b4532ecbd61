-- A base is read from its own next bytes alone, and its breaks have near places.
use Rattle.std.specs.Prelude.{nat_le, count_ones, IfErr, if◌then◌else◌, ⊤}
use Rattle.std.specs.Int.{w8, w16, w32, w64, from_be_bytes}
use Rattle.std.proofs.Common.{◌≡◌, ℕ, zero, suc, ◌+◌, ◌-◌, ◌*◌, ◌<◌, ◌≤◌, ◌^◌, Bool, true, false, eqb, cond, List, [], ◌∷◌, ◌++◌, length, length-append, length-drop, arith, Result, Ok, Err, refl, ap, subst, ◌∙◌, inl, inr}
use Rattle.std.proofs.lemmas.Bool.{cases_Bool, cases_lt, lt-ltb, le-ltb, leb-true, eqb-true, and_parts}
use Rattle.std.proofs.lemmas.List.{take-append-le, drop-append-le}
use Rattle.std.proofs.lemmas.Nat.{ones-le}
use Rattle.ledger_bytes.specs.declared.limits.TheConstants.{MEMBER_LIMIT}
use Rattle.ledger_bytes.specs.declared.digest.Digest.{Digest}
use Rattle.ledger_bytes.specs.declared.failure.Bad.{Bad}
use Rattle.ledger_bytes.specs.declared.failure.Bad.TheVariants.{Trailing, NewerFormat}
use Rattle.ledger_bytes.specs.Digests.{zero_digest}
use Rattle.ledger_bytes.specs.Fields.{Unread, left_from, ◌>>=◌, number_at, digest_at, check, end_at}
use Rattle.journal_record.specs.Items.{with_more}
use Rattle.pseudo_genesis.specs.declared.base.Base.{Base}
use Rattle.pseudo_genesis.specs.declared.base.BaseErr.{BaseErr}
use Rattle.pseudo_genesis.specs.declared.base.BaseErr.TheVariants as base_err
use Rattle.pseudo_genesis.specs.declared.base.TheConstants.{POINT_LIMIT, CLUE_LIMIT}
use Rattle.pseudo_genesis.specs.Bases.{version_ok, point_ok, blocks_ok, members_ok, clues_ok, is_behind, is_inside}
use Rattle.pseudo_genesis.specs.Reading.{any_digest_at, digests_at, base_front_at, keys_at, Before, state_at, behind, states_at, clues_at, base_at, base_of, ReadsBase}
use Rattle.audit_dump.specs.Breaks.{place_within}
use Rattle.audit_dump.specs.Fronts.{most_base}
use Rattle.audit_dump.proofs.Fronts.{field, digest_of}

-- nothing is known of a value
abbrev any : {A : Type 0} → A → Type 0
any x = ⊤

-- a reading gave a value of which this is known, and took few bytes, or it broke at a near place
abbrev Gave : {A : Type 0} → (A → Type 0) → ℕ → ℕ → Unread → Result (A × Unread) Bad → Type 0
Gave known few most l (Ok x) = known x.0 × (length l.rest ≤ length x.1.rest + few) × (x.1.whole ≡ l.whole)
Gave known few most l (Err bad) = place_within bad ≤ most + l.whole

-- a reading looks at few bytes alone, and breaks at near places
record Reads {A : Type 0} (known : A → Type 0) (few most : ℕ) (read : Unread → Result (A × Unread) Bad) : Type 0 where
  pub each : (l : Unread) → Gave known few most l (read l)
  pub same : (whole longer : ℕ) (rest more : List ℕ) → few ≤ length rest → read (left_from longer (rest ++ more)) ≡ with_more longer more (read (left_from whole rest))

-- what is known of a front, and of a list
abbrev KnownPoint : Digest × ℕ × ℕ → Type 0
KnownPoint front = front.1 ≤ POINT_LIMIT

abbrev HasMany : {A : Type 0} → ℕ → List A → Type 0
HasMany n xs = length xs ≡ n

abbrev AreFew : {A : Type 0} → List A → Type 0
AreFew xs = length xs ≤ 256

module _ (most : ℕ) where
  field_reads : {A : Type 0} (n : ℕ) (g : List ℕ → A) → Reads any n most (field n g)
  field_reads n g = record {
    each = λ l. elim (cases_lt (length l.rest) n) [
      | inl short ↦ rw (lt-ltb (length l.rest) n short) (omega arith)
      | inr long ↦ rw (le-ltb (length l.rest) n long) (tt, omega (arith, length-drop n l.rest), refl)
    ];
    same = λ whole longer rest more long.
        rw (le-ltb (length rest) n long, le-ltb (length (rest ++ more)) n (omega (arith, long, length-append rest more)), take-append-le n rest more long, drop-append-le n rest more long) refl;
  }

  nothing_reads : {A : Type 0} (known : A → Type 0) (x : A) → known x → Reads known 0 most (λ l. Ok (x, l))
  nothing_reads known x is = record { each = λ l. (is, omega arith, refl); same = λ whole longer rest more long. refl }

  -- fewer bytes are enough, and less may be known
  more_reads : {A : Type 0} (p q : A → Type 0) (m n : ℕ) (read : Unread → Result (A × Unread) Bad) → ((x : A) → p x → q x) → m ≤ n → Reads p m most read → Reads q n most read
  more_reads {A} p q m n read gives le near = record { each = λ l. go l (read l) (near.each l); same = λ whole longer rest more long. near.same whole longer rest more (omega (arith, le, long)) }
    where
      go : (l : Unread) (r : Result (A × Unread) Bad) → Gave p m most l r → Gave q n most l r
      go l (Ok x) gave = (gives x.0 gave.0, omega (arith, gave.1, le), gave.2)
      go l (Err bad) gave = gave

  -- one reading after the other
  module _ {A B : Type 0} (p : A → Type 0) (q : B → Type 0) (m n : ℕ) (read : Unread → Result (A × Unread) Bad) (f : A × Unread → Result (B × Unread) Bad) (first : Reads p m most read) (second : (a : A) → p a → Reads q n most (λ l. f (a, l))) where
    each_then : (l : Unread) (r : Result (A × Unread) Bad) → Gave p m most l r → Gave q (m + n) most l (r >>= f)
    each_then l (Ok x) gave = go (f x) ((second x.0 gave.0).each x.1)
      where
        go : (r : Result (B × Unread) Bad) → Gave q n most x.1 r → Gave q (m + n) most l r
        go (Ok y) less = (less.0, omega (arith, gave.1, less.1), less.2 ∙ gave.2)
        go (Err bad) less = omega (arith, less, gave.2)
    each_then l (Err bad) gave = gave

    more_then : (whole longer : ℕ) (rest more : List ℕ) (r : Result (A × Unread) Bad) → m + n ≤ length rest → Gave p m most (left_from whole rest) r
        → (with_more longer more r >>= f) ≡ with_more longer more (r >>= f)
    more_then whole longer rest more (Ok x) long gave = (second x.0 gave.0).same x.1.whole longer x.1.rest more (omega (arith, gave.1, long))
    more_then whole longer rest more (Err bad) long gave = refl

    then_reads : Reads q (m + n) most (λ l. read l >>= f)
    then_reads = record {
      each = λ l. each_then l (read l) (first.each l);
      same = λ whole longer rest more long. ap (λ r. r >>= f) (first.same whole longer rest more (omega (arith, long))) ∙ more_then whole longer rest more (read (left_from whole rest)) long (first.each (left_from whole rest));
    }

  -- a test in front of a reading
  check_reads : {B : Type 0} (q : B → Type 0) (n : ℕ) (ok : Bool) (at : ℕ) (f : Unread → Result (B × Unread) Bad) → at ≤ most → (ok ≡ true → Reads q n most f) → Reads q n most (λ l. check ok at >>= λ _. f l)
  check_reads q n true at f low reads = reads refl
  check_reads q n false at f low reads = record { each = λ l. omega (arith, low); same = λ whole longer rest more long. refl }

  abbrev tested : Bool → ℕ → Result (Unit {0}) Bad
  tested ok version = if ok then Ok tt else Err (NewerFormat version)

  test_reads : {B : Type 0} (q : B → Type 0) (n : ℕ) (ok : Bool) (version : ℕ) (f : Unread → Result (B × Unread) Bad) → Reads q n most f → Reads q n most (λ l. tested ok version >>= λ _. f l)
  test_reads q n true version f reads = reads
  test_reads q n false version f reads = record { each = λ l. omega arith; same = λ whole longer rest more long. refl }

  -- ---- a base

  base_front_reads : 41 ≤ most → Reads KnownPoint 49 most base_front_at
  unfolding base_front_at
  base_front_reads some = then_reads any KnownPoint 1 48 (number_at w8) _ (field_reads 1 (from_be_bytes w8))
      (λ version _. test_reads KnownPoint 48 (version_ok version) version _ (then_reads any KnownPoint 32 16 digest_at _ (field_reads 32 digest_of)
      (λ id _. then_reads any KnownPoint 8 8 (number_at w64) _ (field_reads 8 (from_be_bytes w64))
      (λ point _. check_reads KnownPoint 8 (point_ok point) 33 _ (omega (arith, some)) (λ ok. then_reads any KnownPoint 8 0 (number_at w64) _ (field_reads 8 (from_be_bytes w64))
      (λ blocks _. check_reads KnownPoint 0 (blocks_ok point blocks) 41 _ some
      (λ _. nothing_reads KnownPoint (id, point, blocks) (leb-true point POINT_LIMIT (and_parts (nat_le 1 point) (nat_le point POINT_LIMIT) ok).1))))))))

  digests_read : (n : ℕ) → Reads (HasMany n) (32 * n) most (digests_at n)
  unfolding digests_at
  digests_read zero = nothing_reads (HasMany 0) [] refl
  digests_read (suc n) = more_reads (HasMany (suc n)) (HasMany (suc n)) (32 + (32 * n + 0)) (32 * suc n) (digests_at (suc n)) (λ xs is. is) (omega arith)
      (then_reads any (HasMany (suc n)) 32 (32 * n + 0) (any_digest_at tt) _ (field_reads 32 digest_of)
      (λ d _. then_reads (HasMany n) (HasMany (suc n)) (32 * n) 0 (digests_at n) _ (digests_read n) (λ ds many. nothing_reads (HasMany (suc n)) (d ∷ ds) (ap suc many))))

  keys_read : (at : ℕ) → at ≤ most → Reads AreFew (2 + 8192) most (keys_at at)
  unfolding keys_at
  keys_read at low = then_reads any AreFew 2 8192 (number_at w16) _ (field_reads 2 (from_be_bytes w16))
      (λ count _. check_reads AreFew 8192 (members_ok count) at _ low
      (λ ok. (
      let few : count ≤ MEMBER_LIMIT = leb-true count MEMBER_LIMIT (and_parts (nat_le 2 count) (nat_le count MEMBER_LIMIT) ok).1 in
      more_reads (HasMany count) AreFew (32 * count) 8192 (digests_at count) (λ xs is. omega (arith, is, few)) (omega (arith, few)) (digests_read count)
      )))

  state_reads : (point : ℕ) (before : Before) → before.place + 44 ≤ most → Reads any 44 most (state_at point before)
  unfolding state_at
  state_reads point before low = then_reads any any 32 12 digest_at _ (field_reads 32 digest_of)
      (λ clue _. check_reads any 12 (is_behind before.clue clue) before.place _ (omega (arith, low)) (λ _. then_reads any any 4 8 (number_at w32) _ (field_reads 4 (from_be_bytes w32))
      (λ count _. check_reads any 8 (is_inside point count) (before.place + 32) _ (omega (arith, low)) (λ _. then_reads any any 8 0 (number_at w64) _ (field_reads 8 (from_be_bytes w64))
      (λ last _. check_reads any 0 (is_inside point last) (before.place + 36) _ (omega (arith, low)) (λ _. nothing_reads any _ tt))))))

  states_read : (point n : ℕ) (before : Before) → before.place + 44 * n ≤ most → Reads any (44 * n) most (states_at point n before)
  unfolding states_at
  states_read point zero before low = nothing_reads any [] tt
  states_read point (suc n) before low = more_reads any any (44 + (44 * n + 0)) (44 * suc n) (states_at point (suc n) before) (λ xs is. is) (omega arith)
      (then_reads any any 44 (44 * n + 0) (state_at point before) _ (state_reads point before (omega (arith, low)))
      (λ s _. then_reads any any (44 * n) 0 (states_at point n (behind before s)) _ (states_read point n (behind before s) (omega (arith, low))) (λ more _. nothing_reads any (s ∷ more) tt)))

  clues_read : (point at : ℕ) → at + 4 + 44 * CLUE_LIMIT ≤ most → Reads any (4 + 44 * CLUE_LIMIT) most (clues_at point at)
  unfolding clues_at
  clues_read point at low = then_reads any any 4 (44 * CLUE_LIMIT) (number_at w32) _ (field_reads 4 (from_be_bytes w32))
      (λ count _. check_reads any (44 * CLUE_LIMIT) (clues_ok count) at _ (omega (arith, low))
      (λ ok. (
      let few : count ≤ CLUE_LIMIT = leb-true count CLUE_LIMIT ok in
      let start : Before = record { clue = zero_digest; place = at + 4 } in
      more_reads any any (44 * count) (44 * CLUE_LIMIT) (states_at point count start) (λ xs is. is) (omega (arith, few)) (states_read point count start (omega (arith, few, low)))
      )))

few_peaks : (point : ℕ) → point ≤ POINT_LIMIT → count_ones point ≤ 32
few_peaks point low = ones-le 32 point (omega (arith, low))

-- no field of a base stands so far behind its first byte
abbrev far : ℕ
far = 2 ^ 33

base_reads : Reads any most_base far base_at
unfolding base_at
base_reads = then_reads far KnownPoint any 49 (1024 + ((2 + 8192) + ((4 + 44 * CLUE_LIMIT) + 0))) base_front_at _ (base_front_reads far (omega arith))
    (λ front known. (
    let few : count_ones front.1 ≤ 32 = few_peaks front.1 known in
    then_reads far any any 1024 ((2 + 8192) + ((4 + 44 * CLUE_LIMIT) + 0)) (digests_at (count_ones front.1)) _
    (more_reads far (HasMany (count_ones front.1)) any (32 * count_ones front.1) 1024 (digests_at (count_ones front.1)) (λ xs is. tt) (omega (arith, few)) (digests_read far (count_ones front.1)))
    (λ peaks _. then_reads far AreFew any (2 + 8192) ((4 + 44 * CLUE_LIMIT) + 0) (keys_at (49 + 32 * count_ones front.1)) _ (keys_read far (49 + 32 * count_ones front.1) (omega (arith, few)))
    (λ keys many. then_reads far any any (4 + 44 * CLUE_LIMIT) 0 (clues_at front.1 (51 + 32 * count_ones front.1 + 32 * length keys)) _
    (clues_read far front.1 (51 + 32 * count_ones front.1 + 32 * length keys) (omega (arith, few, many)))
    (λ clues _. nothing_reads far any _ tt)))
    ))

-- ---- all bytes of a base

-- the end of a base
abbrev ended : Base × Unread → Result Base Bad
ended x = end_at x.0 x.1

-- a break has a near place
pub base_near : (bytes : List ℕ) (bad : Bad) → base_of bytes ≡ Err bad → place_within bad ≤ far + length bytes
unfolding base_of
base_near bytes bad e = subst (λ (r : Result Base Bad). IfErr r (λ bad. place_within bad ≤ far + length bytes)) e (go (base_at start) (base_reads.each start))
  where
    start : Unread
    start = left_from (length bytes) bytes

    low : (b : Bool) (at : ℕ) (x : Base) → at ≤ far + length bytes → IfErr (cond b (Ok x) (Err (Trailing at))) (λ bad. place_within bad ≤ far + length bytes)
    low true at x is = tt
    low false at x is = is

    go : (r : Result (Base × Unread) Bad) → Gave any most_base far (left_from (length bytes) bytes) r → IfErr (r >>= ended) (λ bad. place_within bad ≤ far + length bytes)
    go (Ok x) gave = low (eqb (length x.1.rest) 0) (x.1.whole - length x.1.rest) x.0 (omega (arith, gave.2))
    go (Err bad) gave = gave

-- bytes are left
left_over : (x : Base) (l : Unread) → 0 < length l.rest → end_at x l ≡ Err (Trailing (l.whole - length l.rest))
left_over x l some = elim (cases_Bool (eqb (length l.rest) 0)) [
  | inl none ↦ absurd (omega (arith, some, eqb-true (length l.rest) 0 none))
  | inr more ↦ rw more refl
]

-- more bytes than any base has break, and those behind them make no difference
pub base_far : (bytes more : List ℕ) → most_base < length bytes → (bad : Bad) × (base_of bytes ≡ Err bad) × (base_of (bytes ++ more) ≡ Err bad)
unfolding base_of
base_far bytes more long =
    let told = go (base_at (left_from (length bytes) bytes)) (base_reads.each (left_from (length bytes) bytes)) in
    (told.0, told.1, ap (λ r. r >>= ended) (base_reads.same (length bytes) (length (bytes ++ more)) bytes more (omega (arith, long))) ∙ told.2)
  where
    go : (r : Result (Base × Unread) Bad) → Gave any most_base far (left_from (length bytes) bytes) r
        → (bad : Bad) × ((r >>= ended) ≡ Err bad) × ((with_more (length (bytes ++ more)) more r >>= ended) ≡ Err bad)
    go (Ok x) gave = (
      Trailing (x.1.whole - length x.1.rest),
      left_over x.0 x.1 (omega (arith, gave.1, long)),
      left_over x.0 (left_from (length (bytes ++ more)) (x.1.rest ++ more)) (omega (arith, gave.1, long, length-append x.1.rest more))
          ∙ ap (λ n. Err (Trailing n)) (omega (arith, gave.2, length-append x.1.rest more, length-append bytes more)),
    )
    go (Err bad) gave = (bad, refl, refl)

-- ---- what a call answers

pub told_base : (read : Result Base BaseErr) (q : Result Base Bad) (base : Base) → read ≡ Ok base → ReadsBase read q → q ≡ Ok base
told_base read q base is told = subst (λ (r : Result Base BaseErr). ReadsBase r q) is told

pub told_bad : (read : Result Base BaseErr) (q : Result Base Bad) (e : BaseErr) (bad : Bad) → read ≡ Err e → e ≡ base_err.Bad bad → ReadsBase read q → q ≡ Err bad
told_bad read q e bad is was told = subst (λ (e : BaseErr). ReadsBase (Err e) q) was (subst (λ (r : Result Base BaseErr). ReadsBase r q) is told)

abbrev whole_base : Base → Result Base Bad
whole_base base = Ok base

abbrev no_base : Bad → Result Base Bad
no_base bad = Err bad

pub not_whole : (base : Base) (bad : Bad) → whole_base base ≡ no_base bad → ⊥
not_whole base bad e = absurd cc
