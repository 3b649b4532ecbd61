-- Lemmas on a list of numbers with commas between.
use Rattle.std.proofs.Common.{◌≡◌, ℕ, suc, ◌+◌, ◌<◌, ◌≤◌, ◌==◌, ◌&&◌, ◌⊎◌, inl, inr, List, [], ◌∷◌, ◌++◌, length, Bool, true, false, Option, Some, None, nat_le, nat_lt, refl, ap, sym, ◌∙◌, arith, cond}
use Rattle.std.specs.List.{after_first, before_first, position_or_len}
use Rattle.std.proofs.lemmas.Bool.{le-leb, lt-leb, ltb-true}
use Rattle.std.proofs.lemmas.List.{append_assoc, length-append}
use Rattle.std.proofs.lemmas.List.Elements.{All-from_get_or}
use Rattle.std.proofs.lemmas.List.Splits.{slice_split_first, slice_split_none}
use Rattle.std.proofs.lemmas.List.Sums.{fails_before_first}
use Rattle.std.proofs.lemmas.Option.{same_Some}
use Rattle.script_lines.specs.Parts.{all_of, parts, with_first}
use Rattle.script_lines.proofs.Cuts.{parts-some}
use Rattle.survivor_set.specs.Keeping.{AreAscending}
use Rattle.ledger_cli.specs.Words.{any_number, in_order, is_ascending, numbers_of, numbers_told}

-- ---- the order

both : (a b : Bool) → (a && b) ≡ true → (a ≡ true) × (b ≡ true)
both true b is = (refl, is)
both false b is = absurd (let no : ⊥ = cc is in no)

pub ascending_are : (ns : List ℕ) → is_ascending ns ≡ true → AreAscending ns
ascending_are [] is = tt
ascending_are (n ∷ []) is = tt
ascending_are (n ∷ m ∷ ns) is = let two = both (nat_lt n m) (is_ascending (m ∷ ns)) is in (ltb-true n m two.0, ascending_are (m ∷ ns) two.1)

-- ---- the parts of a text

abbrev is_comma : ℕ → Bool
is_comma b = b == 44

-- a text without a comma is its one part
pub parts_alone : (text : List ℕ) → position_or_len is_comma text ≡ length text → parts 44 text ≡ text ∷ []
parts_alone text at = slice_split_none is_comma text (All-from_get_or (λ b. is_comma b ≡ false) text 0 (λ k below. fails_before_first is_comma text k 0 (omega (arith, at))))

-- one with a comma is what stands in front of the first, and the parts behind it
pub parts_cut : (text first rest : List ℕ) → position_or_len is_comma text < length text → first ≡ before_first is_comma text → rest ≡ after_first is_comma text → parts 44 text ≡ first ∷ parts 44 rest
parts_cut text first rest inside front behind = rw (front, behind) (slice_split_first is_comma text 0 inside)

-- ---- the numbers

told_first : (text first rest : List ℕ) (read : Option ℕ) → parts 44 text ≡ first ∷ parts 44 rest → any_number first ≡ read → numbers_told text ≡ with_first read (numbers_told rest)
told_first text first rest read cut is = ap (all_of any_number) cut ∙ ap (λ (o : Option ℕ). with_first o (numbers_told rest)) is

told_alone : (text : List ℕ) (read : Option ℕ) → parts 44 text ≡ text ∷ [] → any_number text ≡ read → numbers_told text ≡ with_first read (Some [])
told_alone text read alone is = ap (all_of any_number) alone ∙ ap (λ (o : Option ℕ). with_first o (Some [])) is

-- what was told of a text whose numbers were appended to others, or weren't
abbrev pub Added : List ℕ → List ℕ → List ℕ → Type 0
Added text old new = (told : List ℕ) × (numbers_told text ≡ Some told) × (new ≡ old ++ told)

abbrev pub NotAdded : List ℕ → List ℕ → Type 0
NotAdded text old = (numbers_told text ≡ None) ⊎ (64 < length old + length (parts 44 text))

abbrev pub OneAdded : List ℕ → List ℕ → List ℕ → Type 0
OneAdded text old new = (n : ℕ) × (any_number text ≡ Some n) × (new ≡ old ++ n ∷ [])

abbrev pub NotOne : List ℕ → List ℕ → Type 0
NotOne text old = (any_number text ≡ None) ⊎ (length old ≡ 64)

module _ (text old : List ℕ) where
  -- one number alone
  pub alone_added : parts 44 text ≡ text ∷ [] → (new : List ℕ) → OneAdded text old new → Added text old new
  alone_added alone new one = (one.0 ∷ [], told_alone text (Some one.0) alone one.1, one.2)

  pub alone_not : parts 44 text ≡ text ∷ [] → NotOne text old → NotAdded text old
  alone_not alone (inl none) = inl (told_alone text None alone none)
  alone_not alone (inr full) = inr (omega (arith, full, parts-some 44 text))

  -- a number in front of others
  module _ (first rest : List ℕ) (cut : parts 44 text ≡ first ∷ parts 44 rest) where
    pub more_added : (mid new : List ℕ) → OneAdded first old mid → Added rest mid new → Added text old new
    more_added mid new one more =
        (one.0 ∷ more.0, told_first text first rest (Some one.0) cut one.1 ∙ ap (with_first (Some one.0)) more.1, more.2 ∙ ap (λ (l : List ℕ). l ++ more.0) one.2 ∙ append_assoc old (one.0 ∷ []) more.0)

    pub first_not : NotOne first old → NotAdded text old
    first_not (inl none) = inl (told_first text first rest None cut none)
    first_not (inr full) = inr (omega (arith, full, parts-some 44 text))

    pub more_not : (mid : List ℕ) → OneAdded first old mid → NotAdded rest mid → NotAdded text old
    more_not mid one (inl none) = inl (told_first text first rest (Some one.0) cut one.1 ∙ ap (with_first (Some one.0)) none)
    more_not mid one (inr many) = inr (omega (arith, many, ap length cut, ap length one.2 ∙ length-append old (one.0 ∷ [])))

-- each part has one number
first_length : (read : Option ℕ) (more : Option (List ℕ)) (count : ℕ) → ((ms : List ℕ) → more ≡ Some ms → length ms ≡ count) → (ns : List ℕ) → with_first read more ≡ Some ns → length ns ≡ suc count
first_length None more count each ns is = absurd (let no : ⊥ = cc is in no)
first_length (Some n) None count each ns is = absurd (let no : ⊥ = cc is in no)
first_length (Some n) (Some ms) count each ns is = sym (ap length (same_Some (n ∷ ms) ns is)) ∙ ap suc (each ms refl)

all_length : (texts : List (List ℕ)) (ns : List ℕ) → all_of any_number texts ≡ Some ns → length ns ≡ length texts
all_length [] ns is = sym (ap length (same_Some [] ns is))
all_length (text ∷ texts) ns is = first_length (any_number text) (all_of any_number texts) (length texts) (λ ms. all_length texts ms) ns is

-- a list that is read
module _ (text new : List ℕ) (added : Added text [] new) (few : length new ≤ 64) where
  as_many : length new ≡ length (parts 44 text)
  as_many = ap length added.2 ∙ all_length (parts 44 text) added.0 added.1

  pub numbers_some : 1 ≤ length new
  numbers_some = omega (arith, as_many, parts-some 44 text)

  in_order_of : numbers_of text ≡ in_order (Some new)
  unfolding numbers_of
  in_order_of = rw (le-leb (length (parts 44 text)) 64 (omega (arith, few, as_many))) (ap in_order (added.1 ∙ ap Some (sym added.2)))

  pub numbers_read : is_ascending new ≡ true → Some new ≡ numbers_of text
  numbers_read up = sym (in_order_of ∙ ap (λ (b : Bool). cond b (Some new) None) up)

  pub numbers_down : is_ascending new ≡ false → None ≡ numbers_of text
  numbers_down down = sym (in_order_of ∙ ap (λ (b : Bool). cond b (Some new) None) down)

-- one that isn't
cond_same : (b : Bool) → cond b (in_order None) None ≡ None
cond_same true = refl
cond_same false = refl

many_none : (b : Bool) (o : Option (List ℕ)) → b ≡ false → cond b o None ≡ None
many_none b o is = rw is refl

too_many : (n : ℕ) → 64 < 0 + n → nat_le n 64 ≡ false
too_many n many = lt-leb n 64 (omega (arith, many))

pub numbers_not : (text : List ℕ) → NotAdded text [] → None ≡ numbers_of text
unfolding numbers_of
numbers_not text (inl none) = sym (ap (λ (o : Option (List ℕ)). cond (nat_le (length (parts 44 text)) 64) (in_order o) None) none ∙ cond_same (nat_le (length (parts 44 text)) 64))
numbers_not text (inr many) =
    sym (many_none (nat_le (length (parts 44 text)) 64) (in_order (numbers_told text)) (too_many (length (parts 44 text)) many))

-- fewer than two numbers are in order
pub few_ascending : (ns : List ℕ) → length ns < 2 → is_ascending ns ≡ true
few_ascending [] few = refl
few_ascending (n ∷ []) few = refl
few_ascending (n ∷ m ∷ ns) few = absurd (let no : ⊥ = omega (arith, few) in no)
