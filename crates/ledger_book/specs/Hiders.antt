-- Which journals hide the contents of others: one number for each kept journal, of the one that hides it, or 0.
use Rattle.std.specs.Prelude.{◌≡◌, ℕ, ◌-◌, ◌≤◌, ◌==◌, ◌++◌, if◌then◌else◌, List, [], ◌∷◌, get_or, set, nat_le, Option, Some, None}
use Rattle.clue_index.specs.Added.{Added, trail_of}
use Rattle.clue_index.specs.Index as index
use Rattle.clue_index.specs.Trail.{kept_from}
use Rattle.journal_record.specs.declared.header.Header.{Header}
use Rattle.journal_record.specs.declared.header.Kind.{Kind}
use Rattle.journal_record.specs.declared.header.Kind.TheVariants as kind
use Rattle.ledger_model.specs.History.{History}
use Rattle.ledger_model.specs.Targets.{hider}

-- the journal that a number tells: 0 tells none, since journal 0 hides nothing
abbrev pub told_hider : ℕ → Option ℕ
told_hider n = if n == 0 then None else Some n

-- the journal that hides journal n, as the numbers of the journals from a floor on tell it
abbrev pub hider_in : ℕ → List ℕ → ℕ → Option ℕ
hider_in floor numbers n = told_hider (get_or numbers (n - floor) 0)

-- of each journal from the floor on, the numbers tell the one that hides it
-- Example: from floor 4 on the numbers 0 9 0 tell that journal 9 hides journal 5, and that none hides 4, 6 and those behind.
abbrev pub TellHiders : List ℕ → ℕ → History → Type 0
TellHiders numbers floor h = (n : ℕ) → floor ≤ n → hider_in floor numbers n ≡ hider h n

-- the numbers once this journal hides the one at a place, where that is there and none hid it
abbrev pub hidden_at : ℕ → ℕ → List ℕ → List ℕ
hidden_at place jsn numbers = if get_or numbers place 0 == 0 then set numbers place jsn else numbers

-- the numbers, which begin at the floor, once this journal hides each of some others
abbrev pub hidden_all : ℕ → ℕ → List ℕ → List ℕ → List ℕ
hidden_all floor jsn [] numbers = numbers
hidden_all floor jsn (target ∷ targets) numbers = hidden_all floor jsn targets (hidden_at (target - floor) jsn numbers)

-- the kept journals that one of this kind hides, where these are the kept ones of the clue that it names: an occult hides its target,
-- an occult by clue those of its clue, and no other kind any
abbrev pub targets_as : Kind → ℕ → Header → List ℕ → List ℕ
targets_as kind.Occult floor x clued = if nat_le floor x.a then x.a ∷ [] else []
targets_as kind.ClueOccult floor x clued = clued
targets_as other floor x clued = []

-- the numbers with a journal more, which none hides: it may hide some of them
abbrev pub with_hider_of : ℕ → Header → List ℕ → List ℕ → List ℕ
with_hider_of floor x clued numbers = hidden_all floor x.jsn (targets_as x.kind floor x clued) (numbers ++ 0 ∷ [])

-- these are the kept journals of the clue that an occult by clue names, as an index of clues tells them
abbrev pub AreClued : index.KeptTrails → Header → List ℕ → Type 0
AreClued clues x clued =
    x.kind ≡ kind.ClueOccult → (a : Added) → index.StandsForTrails clues a → clued ≡ kept_from a.floor (trail_of a x.link.0)
