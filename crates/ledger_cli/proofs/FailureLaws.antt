-- Lemmas on how often a notary failed: once at most for each line.
use Rattle.std.proofs.Common.{◌≡◌, ℕ, ◌+◌, ◌≤◌, ◌==◌, inl, inr, Bool, true, false, cond, List, [], ◌∷◌, ◌++◌, length, filter, refl, ap, sym, subst, ◌∙◌, arith, length-append, eq-eqb}
use Rattle.std.proofs.lemmas.Bool.{eqb-true}
use Rattle.std.proofs.lemmas.List.Elements.{filter-append, All-weaker}
use Rattle.std.specs.Io.KnownBytes.{Consumes}
use Rattle.std.proofs.KnownBytes.{Consumes-nil}
use Rattle.ledger_bytes.specs.Causes.{count_after}
use Rattle.ledger_io.specs.Lines.{lines_of, onto_first, IsLine, IsUnbroken}
use Rattle.ledger_io.specs.Outside.{SourceState}
use Rattle.ledger_io.specs.Reading.{Reading}
use Rattle.ledger_io.proofs.LineLemmas.{lines_of-broken}
use Rattle.ledger_io.proofs.ReadingLaws.{HasGiven}
use Rattle.batch_committer.specs.Attending.{FailsAtMostOnce}
use Rattle.lane_work.specs.Making.{lines_of as lane_lines}
use Rattle.lane_work.specs.Orders.{numbered, IsOrderOf}
use Rattle.lane_work.specs.declared.kinds.LaneLine.{LaneLine}
use Rattle.ledger_model.specs.Windows.{Said}
use Rattle.std.specs.Prelude.{slice_index}
use Rattle.time_peg.specs.Entries.{NotaryState}
use Rattle.ledger_cli.specs.Failures.{count_failed, FailsIn, FailsByLines}

-- ---- one call after the other

count_append : (xs ys : List Bool) (n : ℕ) → count_failed (xs ++ ys) n ≡ count_failed ys (count_failed xs n)
count_append [] ys n = refl
count_append (false ∷ xs) ys n = count_append xs ys n
count_append (true ∷ xs) ys n = count_append xs ys (count_after n)

pub fails_none : (n : NotaryState) → FailsIn 0 n n
fails_none n = record { origin = refl; calls = []; few = omega arith; counted = refl }

pub fails_once : (n m : NotaryState) → FailsAtMostOnce n m → FailsIn 1 n m
fails_once n m (origin, inl same) = record { origin = origin; calls = false ∷ []; few = omega arith; counted = same }
fails_once n m (origin, inr more) = record { origin = origin; calls = true ∷ []; few = omega arith; counted = more }

pub fails_then : (a b : ℕ) (n m k : NotaryState) → FailsIn a n m → FailsIn b m k → FailsIn (a + b) n k
fails_then a b n m k x y = record {
  origin = y.origin ∙ x.origin;
  calls = x.calls ++ y.calls;
  few = (let l = length-append x.calls y.calls in let p = x.few in let q = y.few in omega (arith, l, p, q));
  counted = y.counted ∙ ap (count_failed y.calls) x.counted ∙ sym (count_append x.calls y.calls n.faults);
}

pub fails_wider : (a b : ℕ) (n m : NotaryState) → a ≤ b → FailsIn a n m → FailsIn b n m
fails_wider a b n m less x = record { origin = x.origin; calls = x.calls; few = (let p = x.few in omega (arith, p, less)); counted = x.counted }

-- ---- an order of lines has as many as there are

module _ {A B : Type 0} (f : A → ℕ) (g : B → ℕ) where
  of_a : ℕ → List A → List A
  of_a k xs = filter (λ x. f x == k) xs

  of_b : ℕ → List B → List B
  of_b k ys = filter (λ y. g y == k) ys

  -- one of this lane stands in the list
  record Picked (k : ℕ) (ys : List B) : Type 0 where
    front : List B
    one : B
    back : List B
    split : ys ≡ front ++ one ∷ back
    is : (g one == k) ≡ true

  pick : (k : ℕ) (ys : List B) → 1 ≤ length (of_b k ys) → Picked k ys
  unfolding of_b
  pick k [] some = absurd (let no : ⊥ = omega (arith, some) in no)
  pick k (y ∷ ys) some = by (g y == k) refl (pick k ys) where
    by : (v : Bool) → (g y == k) ≡ v → (1 ≤ length (of_b k ys) → Picked k ys) → Picked k (y ∷ ys)
    by true is more = record { front = []; one = y; back = ys; split = refl; is = is }
    by false is more =
        let p = more (let e = ap (λ (v : Bool). length (cond v (y ∷ filter (λ y. g y == k) ys) (filter (λ y. g y == k) ys))) is in omega (arith, some, e)) in
        record { front = y ∷ p.front; one = p.one; back = p.back; split = ap (λ (l : List B). y ∷ l) p.split; is = p.is }

  -- without an element of the same lane, the others are as many still
  one_less : (x : A) (xs : List A) (front : List B) (y : B) (back : List B) (j : ℕ) → g y ≡ f x → length (of_a j (x ∷ xs)) ≤ length (of_b j (front ++ y ∷ back)) → length (of_a j xs) ≤ length (of_b j (front ++ back))
  unfolding of_a of_b
  one_less x xs front y back j same less =
      let whole = ap length (filter-append (λ (y : B). g y == j) front (y ∷ back)) in
      let part = ap length (filter-append (λ (y : B). g y == j) front back) in
      let l = length-append (filter (λ y. g y == j) front) (filter (λ y. g y == j) (y ∷ back)) in
      let m = length-append (filter (λ y. g y == j) front) (filter (λ y. g y == j) back) in
      by (f x == j) refl whole part l m where
        by : (v : Bool) → (f x == j) ≡ v → length (filter (λ y. g y == j) (front ++ y ∷ back)) ≡ length (filter (λ y. g y == j) front ++ filter (λ y. g y == j) (y ∷ back))
            → length (filter (λ y. g y == j) (front ++ back)) ≡ length (filter (λ y. g y == j) front ++ filter (λ y. g y == j) back)
            → length (filter (λ y. g y == j) front ++ filter (λ y. g y == j) (y ∷ back)) ≡ length (filter (λ y. g y == j) front) + length (filter (λ y. g y == j) (y ∷ back))
            → length (filter (λ y. g y == j) front ++ filter (λ y. g y == j) back) ≡ length (filter (λ y. g y == j) front) + length (filter (λ y. g y == j) back)
            → length (filter (λ x. f x == j) xs) ≤ length (filter (λ y. g y == j) (front ++ back))
        by v is whole part l m =
            let a = ap (λ (b : Bool). length (cond b (x ∷ filter (λ x. f x == j) xs) (filter (λ x. f x == j) xs))) is in
            let c = ap (λ (n : ℕ). n == j) same ∙ is in
            let b = ap (λ (b : Bool). length (cond b (y ∷ filter (λ y. g y == j) back) (filter (λ y. g y == j) back))) c in
            at v a b whole part l m where
              at : (v : Bool) → length (filter (λ x. f x == j) (x ∷ xs)) ≡ length (cond v (x ∷ filter (λ x. f x == j) xs) (filter (λ x. f x == j) xs))
                  → length (filter (λ y. g y == j) (y ∷ back)) ≡ length (cond v (y ∷ filter (λ y. g y == j) back) (filter (λ y. g y == j) back))
                  → length (filter (λ y. g y == j) (front ++ y ∷ back)) ≡ length (filter (λ y. g y == j) front ++ filter (λ y. g y == j) (y ∷ back))
                  → length (filter (λ y. g y == j) (front ++ back)) ≡ length (filter (λ y. g y == j) front ++ filter (λ y. g y == j) back)
                  → length (filter (λ y. g y == j) front ++ filter (λ y. g y == j) (y ∷ back)) ≡ length (filter (λ y. g y == j) front) + length (filter (λ y. g y == j) (y ∷ back))
                  → length (filter (λ y. g y == j) front ++ filter (λ y. g y == j) back) ≡ length (filter (λ y. g y == j) front) + length (filter (λ y. g y == j) back)
                  → length (filter (λ x. f x == j) xs) ≤ length (filter (λ y. g y == j) (front ++ back))
              at true a b whole part l m = omega (arith, less, a, b, whole, part, l, m)
              at false a b whole part l m = omega (arith, less, a, b, whole, part, l, m)

  no_more : (xs : List A) (ys : List B) → ((k : ℕ) → length (of_a k xs) ≤ length (of_b k ys)) → length xs ≤ length ys
  unfolding of_a of_b
  no_more [] ys all = omega arith
  no_more (x ∷ xs) ys all =
      let here = ap (λ (v : Bool). length (cond v (x ∷ filter (λ y. f y == f x) xs) (filter (λ y. f y == f x) xs))) (eq-eqb (f x) (f x) refl) in
      let p = pick (f x) ys (let a = all (f x) in omega (arith, a, here)) in
      let less = no_more xs (p.front ++ p.back) (λ j. one_less x xs p.front p.one p.back j (eqb-true (g p.one) (f x) p.is) (subst (λ (l : List B). length (of_a j (x ∷ xs)) ≤ length (of_b j l)) p.split (all j))) in
      let a = ap length p.split in
      let b = length-append p.front (p.one ∷ p.back) in
      let c = length-append p.front p.back in
      omega (arith, less, a, b, c)

length-numbered : (n : ℕ) (ls : List LaneLine) → length (numbered n ls) ≡ length ls
unfolding numbered
length-numbered n [] = refl
length-numbered n (l ∷ ls) = let e = length-numbered (n + 1) ls in omega (arith, e)

pub order_few : (first : List ℕ) (lines : List LaneLine) (order : List Said) → IsOrderOf first lines order → length order ≤ length lines
unfolding of_a of_b
order_few first lines order o =
    no_more (λ (x : Said). x.lane) (λ (l : LaneLine). l.lane) order lines
    (λ k. let e = ap length (o k) in let n = length-numbered (slice_index first k) (lane_lines k lines) in omega (arith, e, n))

-- ---- the lines of more bytes are as many at least

onto_more : (b : ℕ) (xs ys : List (List ℕ)) → length xs ≤ length ys → length (onto_first b xs) ≤ length (onto_first b ys)
onto_more b [] [] less = omega arith
onto_more b [] (y ∷ ys) less = omega arith
onto_more b (x ∷ xs) [] less = absurd (let no : ⊥ = omega (arith, less) in no)
onto_more b (x ∷ xs) (y ∷ ys) less = less

lines_more : (xs ys : List ℕ) → length (lines_of xs) ≤ length (lines_of (xs ++ ys))
lines_more [] ys = omega arith
lines_more (b ∷ xs) ys =
    let more = lines_more xs ys in
    elim (b == 10) as (λ (v : Bool). length (cond v ([] ∷ lines_of xs) (onto_first b (lines_of xs))) ≤ length (cond v ([] ∷ lines_of (xs ++ ys)) (onto_first b (lines_of (xs ++ ys)))))
    [ true ↦ omega (arith, more) | false ↦ onto_more b (lines_of xs) (lines_of (xs ++ ys)) more ]

-- lines that were given are among those that were read
pub given_few : (before now : SourceState) (reading : Reading) (lines : List (List ℕ)) (h : HasGiven before now reading lines) → length lines ≤ length (lines_of h.read)
given_few before now reading lines h = by reading.ended refl where
  by : (v : Bool) → reading.ended ≡ v → length lines ≤ length (lines_of h.read)
  by true is = let e = ap length (h.ended is) in omega (arith, e)
  by false is =
      let e = ap (λ (l : List ℕ). length (lines_of l)) (h.unended is) in
      let s = ap length (lines_of-broken lines reading.held (All-weaker IsLine IsUnbroken (λ line fits. fits.0) lines h.each)) in
      let l = length-append lines (lines_of reading.held) in
      omega (arith, e, s, l)

-- .. and of those with more bytes
pub given_more : (before now : SourceState) (reading : Reading) (lines : List (List ℕ)) (h : HasGiven before now reading lines) (bytes : List ℕ) → length lines ≤ length (lines_of (h.read ++ bytes))
given_more before now reading lines h bytes = let there = given_few before now reading lines h in let more = lines_more h.read bytes in omega (arith, there, more)

-- ---- a run

pub fails_read : (before now : SourceState) (n m : NotaryState) (most : ℕ) (read : List ℕ) → Consumes before.left now.left read → most ≤ length (lines_of read) → FailsIn most n m → FailsByLines before now n m
fails_read before now n m most read consumed less f = record { read = read; consumed = consumed; fails = fails_wider most (length (lines_of read)) n m less f }

-- nothing was read
pub fails_unread : (source : SourceState) (n : NotaryState) → FailsByLines source source n n
fails_unread source n = record { read = []; consumed = Consumes-nil source.left; fails = fails_none n }
