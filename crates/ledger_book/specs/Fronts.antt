-- The journals in front of the first kept one that occults name, where a book begins behind a base: pairs of such a journal and
-- the occult. They are kept until the purge to the first kept journal tells that they are gone.
use Rattle.std.specs.Prelude.{◌≡◌, ◌≢◌, ℕ, ◌<◌, ◌≤◌, List, Option, Some}
use Rattle.std.specs.Ordering.{nat_cmp}
use Rattle.std.specs.BTreeMap.{is_at}
use Rattle.std.specs.Map.{lookup}
use Rattle.journal_record.specs.declared.header.Header.{Header}
use Rattle.journal_record.specs.declared.header.Kind.{Kind}
use Rattle.journal_record.specs.declared.header.Kind.TheVariants as kind

-- the occult that names journal n, as pairs tell it
abbrev pub namer_in : ℕ → List (ℕ × ℕ) → Option ℕ
namer_in n entries = lookup (is_at (nat_cmp n)) entries

-- the pairs once this journal names a target: all else is as it was
pub record Puts (old new : List (ℕ × ℕ)) (target jsn : ℕ) : Type 0 where
  pub here : namer_in target new ≡ Some jsn
  pub others : (n : ℕ) → n ≢ target → namer_in n new ≡ namer_in n old

-- the pairs with a journal more, by its kind: an occult names its target, where that is in front of the floor, and no other
-- journal names one; behind the purge to the floor nothing is said
abbrev pub AddsFront : Kind → ℕ → Header → List (ℕ × ℕ) → List (ℕ × ℕ) → Type 0
AddsFront kind.Genesis floor x old new = new ≡ old
AddsFront kind.Content floor x old new = new ≡ old
AddsFront kind.Member floor x old new = new ≡ old
AddsFront kind.Time floor x old new = new ≡ old
AddsFront kind.Occult floor x old new = (x.a < floor → Puts old new x.a x.jsn) × (floor ≤ x.a → new ≡ old)
AddsFront kind.Purge floor x old new = x.a ≢ floor → new ≡ old
AddsFront kind.ClueOccult floor x old new = new ≡ old
