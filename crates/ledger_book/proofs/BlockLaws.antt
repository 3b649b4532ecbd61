-- Lemmas on the block that holds a kept journal: it is found among the sizes above the floor at which blocks have ended.
use Rattle.std.specs.Prelude.{nat_le, nat_lt, cond, slice_get, get_or, filter, ◌&&◌, Option, Some, None, Result, Ok, Err, IfOk, IsOk}
use Rattle.std.specs.Result.{result_ok}
use Rattle.std.specs.List.Sorted.{IsPartitionedBy, IsPartitionPoint, IsNonDecreasingBy}
use Rattle.std.proofs.Common.{◌≡◌, ℕ, zero, suc, ◌+◌, ◌-◌, ◌<◌, ◌≤◌, Bool, true, false, List, [], ◌∷◌, length, refl, sym, ap, subst, ◌∙◌, arith, length-append}
use Rattle.std.proofs.lemmas.Bool.{le-leb, leb-true, lt-ltb, le-ltb, ltb-true, ltb-false, true≢false}
use Rattle.std.proofs.lemmas.List.Kept.{IsNonDecreasingBy-filter}
use Rattle.std.proofs.lemmas.List.Sorted.{IsPartitionedBy-leb}
use Rattle.std.proofs.lemmas.Option.{slice_get_within}
use Rattle.journal_record.specs.Entry.{Entry}
use Rattle.ledger_model.specs.Ends.{ends_from}
use Rattle.ledger_model.specs.History.{History, journals_of, ends, block_from, end_from, block_of, end_of}
use Rattle.ledger_book.specs.Books.{Kept, Stands, ends_above, sealed_size}
use Rattle.ledger_book.specs.Blocks.{if_sealed, told_block}

-- sizes never fall from block to block
least : (m : ℕ) (bs : List (List Entry)) (i d : ℕ) → i < length (ends_from m bs) → m ≤ get_or (ends_from m bs) i d
least m [] i d lt = absurd (omega (arith, lt))
least m (b ∷ bs) zero d lt = omega arith
least m (b ∷ bs) (suc i) d lt = let later = least (m + length b) bs i d (omega (arith, lt)) in omega (arith, later)

never_fall : (m : ℕ) (bs : List (List Entry)) → IsNonDecreasingBy (λ (n : ℕ). n) (ends_from m bs)
never_fall m [] i j d le lt = absurd (omega (arith, lt))
never_fall m (b ∷ bs) zero zero d le lt = omega arith
never_fall m (b ∷ bs) zero (suc j) d le lt = least (m + length b) bs j d (omega (arith, lt))
never_fall m (b ∷ bs) (suc i) zero d le lt = absurd (omega (arith, le))
never_fall m (b ∷ bs) (suc i) (suc j) d le lt = never_fall (m + length b) bs i j d (omega (arith, le)) (omega (arith, lt))

pub ends_parted : (k : Kept) (h : History) (n : ℕ) → Stands k h → IsPartitionedBy (λ (e : ℕ). nat_le e n) k.ends
ends_parted k h n s =
    subst (λ (l : List ℕ). IsPartitionedBy (λ (e : ℕ). nat_le e n) l) (sym s.counts.ends)
    (IsPartitionedBy-leb (λ (e : ℕ). e) (ends_above k.floor h) n (IsNonDecreasingBy-filter (λ (e : ℕ). e) (λ (e : ℕ). nat_lt k.floor e) (ends h) (never_fall 0 h.closed)))

-- the place of the first size behind a journal
abbrev pub IsBehind : ℕ → List ℕ → ℕ → Type 0
IsBehind n es i = IsPartitionPoint (λ (e : ℕ). nat_le e n ≡ true) (λ (e : ℕ). nat_le e n ≡ false) es i

is_first : (n e : ℕ) (es : List ℕ) (i : ℕ) → n < e → IsBehind n (e ∷ es) i → i ≡ 0
is_first n e es zero lt at = refl
is_first n e es (suc i) lt at = absurd (let le : e ≤ n = leb-true e n (at.0 0 0 (omega arith) (omega arith)) in omega (arith, lt, le))

is_later : (n e : ℕ) (es : List ℕ) (i : ℕ) → IsBehind n (e ∷ es) (suc i) → IsBehind n es i
is_later n e es i at = (λ k d low high. at.0 (suc k) d (omega (arith, low)) (omega (arith, high)), λ k d low high. at.1 (suc k) d (omega (arith, low)) (omega (arith, high)))

not_first : (n e : ℕ) (es : List ℕ) → e ≤ n → IsBehind n (e ∷ es) 0 → ⊥
not_first n e es le at = true≢false (sym (le-leb e n le) ∙ at.1 0 0 (omega arith) (omega arith))

-- the sizes above a floor
abbrev above : ℕ → ℕ → List (List Entry) → List ℕ
above floor m bs = filter (λ (e : ℕ). nat_lt floor e) (ends_from m bs)

above_all : (floor m : ℕ) (bs : List (List Entry)) → floor < m → length (above floor m bs) ≡ length bs
above_all floor m [] lt = refl
above_all floor m (b ∷ bs) lt =
    let here : length (above floor m (b ∷ bs)) ≡ length (above floor (m + length b) bs) + 1 =
    ap (λ v. length (cond v ((m + length b) ∷ above floor (m + length b) bs) (above floor (m + length b) bs))) (lt-ltb floor (m + length b) (omega (arith, lt))) ∙ omega arith in
    omega (arith, here, above_all floor (m + length b) bs (omega (arith, lt)))

-- the block that holds journal n has its end at this place among the sizes above a floor
record IsHolder (floor m n : ℕ) (bs : List (List Entry)) (i : ℕ) : Type 0 where
  block_is : block_from m bs n + (length (above floor m bs) - i) ≡ length bs
  end_is : slice_get (above floor m bs) i ≡ Some (end_from m bs n)

module _ (floor m n : ℕ) (b : List Entry) (bs : List (List Entry)) where
  abbrev e : ℕ
  e = m + length b

  abbrev es : List ℕ
  es = above floor (m + length b) bs

  kept : floor < e → above floor m (b ∷ bs) ≡ e ∷ es
  kept lt = ap (λ v. cond v (e ∷ es) es) (lt-ltb floor e lt)

  holds_here : (i : ℕ) → floor ≤ n → n < e → IsBehind n (above floor m (b ∷ bs)) i → IsHolder floor m n (b ∷ bs) i
  holds_here i low lt at =
      let is = kept (omega (arith, low, lt)) in
      let first : i ≡ 0 = is_first n e es i lt (subst (λ (l : List ℕ). IsBehind n l i) is at) in
      let block : block_from m (b ∷ bs) n ≡ 0 = ap (λ v. cond v 0 (block_from e bs n + 1)) (lt-ltb n e lt) in
      let count : length (above floor m (b ∷ bs)) ≡ length es + 1 = ap length is ∙ omega arith in
      let all : length es ≡ length bs = above_all floor e bs (omega (arith, low, lt)) in
      record {
        block_is = omega (arith, block, count, all, first);
        end_is = ap (λ (l : List ℕ). slice_get l i) is ∙ ap (slice_get (e ∷ es)) first ∙ sym (ap (λ v. Some (cond v e (end_from e bs n))) (lt-ltb n e lt));
      }

  block_later : e ≤ n → block_from m (b ∷ bs) n ≡ block_from e bs n + 1
  block_later le = ap (λ v. cond v 0 (block_from e bs n + 1)) (le-ltb n e le)

  end_later : e ≤ n → end_from m (b ∷ bs) n ≡ end_from e bs n
  end_later le = ap (λ v. cond v e (end_from e bs n)) (le-ltb n e le)

  -- where the first block ends above the floor
  holds_kept : (i : ℕ) → e ≤ n → floor < e → ((j : ℕ) → IsBehind n es j → IsHolder floor e n bs j) → IsBehind n (e ∷ es) i → IsHolder floor m n (b ∷ bs) i
  holds_kept zero le lt later at = absurd (not_first n e es le at)
  holds_kept (suc i) le lt later at =
      let is = kept lt in
      let it = later i (is_later n e es i at) in
      let count : length (above floor m (b ∷ bs)) ≡ length es + 1 = ap length is ∙ omega arith in
      record {
        block_is = omega (arith, it.block_is, block_later le, count);
        end_is = ap (λ (l : List ℕ). slice_get l (suc i)) is ∙ it.end_is ∙ sym (ap Some (end_later le));
      }

  -- .. and where it doesn't
  holds_dropped : (i : ℕ) → e ≤ n → above floor m (b ∷ bs) ≡ es → IsHolder floor e n bs i → IsHolder floor m n (b ∷ bs) i
  holds_dropped i le is it = record {
    block_is = omega (arith, it.block_is, block_later le, ap length is);
    end_is = ap (λ (l : List ℕ). slice_get l i) is ∙ it.end_is ∙ sym (ap Some (end_later le));
  }

-- .. wherever it ends
holds_more : (floor m n : ℕ) (b : List Entry) (bs : List (List Entry)) (i : ℕ) → floor ≤ n → IsBehind n (above floor m (b ∷ bs)) i
    → (m + length b ≤ n → (j : ℕ) → IsBehind n (above floor (m + length b) bs) j → IsHolder floor (m + length b) n bs j) → IsHolder floor m n (b ∷ bs) i
holds_more floor m n b bs i low at later = by_here (nat_lt n (m + length b)) refl where
  by_floor : (v : Bool) → nat_lt floor (m + length b) ≡ v → m + length b ≤ n → IsHolder floor m n (b ∷ bs) i
  by_floor true is behind =
      let high : floor < m + length b = ltb-true floor (m + length b) is in
      holds_kept floor m n b bs i behind high (later behind) (subst (λ (l : List ℕ). IsBehind n l i) (kept floor m n b bs high) at)
  by_floor false is behind =
      let same : above floor m (b ∷ bs) ≡ above floor (m + length b) bs = ap (λ v. cond v ((m + length b) ∷ above floor (m + length b) bs) (above floor (m + length b) bs)) is in
      holds_dropped floor m n b bs i behind same (later behind i (subst (λ (l : List ℕ). IsBehind n l i) same at))

  by_here : (v : Bool) → nat_lt n (m + length b) ≡ v → IsHolder floor m n (b ∷ bs) i
  by_here true is = holds_here floor m n b bs i low (ltb-true n (m + length b) is) at
  by_here false is = by_floor (nat_lt floor (m + length b)) refl (ltb-false n (m + length b) is)

holds : (floor m n : ℕ) (bs : List (List Entry)) (i : ℕ) → floor ≤ n → m ≤ n → n < m + length (journals_of bs) → IsBehind n (above floor m bs) i → IsHolder floor m n bs i
holds floor m n [] i low le lt at = absurd (omega (arith, le, lt))
holds floor m n (b ∷ bs) i low le lt at =
    holds_more floor m n b bs i low at (λ behind j. holds floor (m + length b) n bs j low behind (omega (arith, lt, length-append b (journals_of bs))))

-- what a book's sizes tell of the block that holds a kept journal
module _ (k : Kept) (h : History) (n i : ℕ) (s : Stands k h) (low : k.floor ≤ n) (lt : n < k.sealed) (at : IsBehind n k.ends i) where
  holder : IsHolder k.floor 0 n h.closed i
  holder = holds k.floor 0 n h.closed i low (omega arith) (omega (arith, lt, s.counts.sealed_is)) (subst (λ (l : List ℕ). IsBehind n l i) s.counts.ends at)

  pub block_found : k.blocks - (length k.ends - i) ≡ block_of h n
  unfolding block_of
  block_found = omega (arith, holder.block_is, ap length s.counts.ends, s.counts.blocks)

  pub end_found : slice_get k.ends i ≡ Some (end_of h n)
  unfolding end_of
  end_found = ap (λ (l : List ℕ). slice_get l i) s.counts.ends ∙ holder.end_is

-- .. is there
pub end_within : (k : Kept) (h : History) (n i : ℕ) → Stands k h → k.floor ≤ n → n < k.sealed → IsBehind n k.ends i → i < length k.ends
end_within k h n i s low lt at = slice_get_within k.ends i (end_of h n) (end_found k h n i s low lt at)

-- of a kept journal whose block has ended, all is told that there is
pub told_here : {A : Type 0} (k : Kept) (h : History) (n : ℕ) (told : A) → Stands k h → k.floor ≤ n → n < k.sealed → if_sealed k.floor h n told ≡ Some told
told_here k h n told s low lt =
    ap (λ v. cond (v && nat_lt n (sealed_size h)) (Some told) None) (le-leb k.floor n low)
    ∙ ap (λ v. cond v (Some told) None) (lt-ltb n (sealed_size h) (omega (arith, lt, s.counts.sealed_is)))

-- a block that is the journal's is the one that is told
pub tells : (k : Kept) (h : History) (n block end : ℕ) → Stands k h → k.floor ≤ n → n < k.sealed → block ≡ block_of h n → end ≡ end_of h n → ◌≡◌ {A = Option (ℕ × ℕ)} (Some (block, end)) (told_block k.floor h n)
tells k h n block end s low lt block_is end_is =
    ap (λ m. Some (m, end)) block_is ∙ ap (λ m. Some (block_of h n, m)) end_is ∙ sym (told_here k h n (block_of h n, end_of h n) s low lt)

-- where a block is told, the journal is kept and its block has ended, and it is that block
pub told_when : (floor : ℕ) (h : History) (n block end : ℕ) → ◌≡◌ {A = Option (ℕ × ℕ)} (Some (block, end)) (told_block floor h n) → (floor ≤ n) × (n < sealed_size h) × (block ≡ block_of h n) × (end ≡ end_of h n)
told_when floor h n block end is = by_test (nat_le floor n) (nat_lt n (sealed_size h)) refl refl is where
  by_test : (v w : Bool) → nat_le floor n ≡ v → nat_lt n (sealed_size h) ≡ w → ◌≡◌ {A = Option (ℕ × ℕ)} (Some (block, end)) (cond (v && w) (Some (block_of h n, end_of h n)) None)
      → (floor ≤ n) × (n < sealed_size h) × (block ≡ block_of h n) × (end ≡ end_of h n)
  by_test true true low lt told =
      let same : ◌≡◌ {A = ℕ × ℕ} (block, end) (block_of h n, end_of h n) = cc told in
      (leb-true floor n low, ltb-true n (sealed_size h) lt, ap (λ (p : ℕ × ℕ). p.0) same, ap (λ (p : ℕ × ℕ). p.1) same)
  by_test true false low lt told = absurd cc
  by_test false w low lt told = absurd cc

-- a block ends behind its journals, and no later than all blocks
end_bounds : (m n : ℕ) (bs : List (List Entry)) → m ≤ n → n < m + length (journals_of bs) → (n < end_from m bs n) × (end_from m bs n ≤ m + length (journals_of bs))
end_bounds m n [] le lt = absurd (omega (arith, le, lt))
end_bounds m n (b ∷ bs) le lt =
    let all = length-append b (journals_of bs) in
    elim (nat_lt n (m + length b)) as (λ v. nat_lt n (m + length b) ≡ v → (n < cond v (m + length b) (end_from (m + length b) bs n)) × (cond v (m + length b) (end_from (m + length b) bs n) ≤ m + length (journals_of (b ∷ bs)))) [
      | true ↦ λ is. (ltb-true n (m + length b) is, omega (arith, all))
      | false ↦ λ is.
          let later = end_bounds (m + length b) n bs (ltb-false n (m + length b) is) (omega (arith, lt, all)) in
          (later.0, omega (arith, later.1, all))
    ] refl

pub end_between : (h : History) (n : ℕ) → n < sealed_size h → (n < end_of h n) × (end_of h n ≤ sealed_size h)
unfolding end_of
end_between h n lt = let at = end_bounds 0 n h.closed (omega arith) (omega (arith, lt)) in (at.0, omega (arith, at.1))

-- what an answer that isn't an error tells
pub if_told : {T E : Type 0} (answer : Result T E) (told : T) (P : T → Type 0) → Some told ≡ result_ok answer → IfOk answer P → P told
if_told (Ok value) told P is p = subst P (let same : value ≡ told = cc is in same) p
if_told (Err error) told P is p = absurd cc

pub not_ok : {T E : Type 0} (answer : Result T E) → (let none : Option T = None in none ≡ result_ok answer) → IsOk answer → ⊥
not_ok (Ok value) is ok = absurd cc
not_ok (Err error) is ok = absurd cc
