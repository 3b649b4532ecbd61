-- The life of a set: it is kept of a history, carried on by later ones, and revived.
use Rattle.std.specs.Prelude.{◌≡◌, ℕ, nat_lt, true, if◌then◌else◌, List, [], ◌∷◌, Option, Some, None, Result, Ok, Err, ⊤}
use Rattle.ledger_bytes.specs.Begins.{Begins}
use Rattle.ledger_bytes.specs.declared.refusal.Refusal.TheVariants.{Purged, NotaryFault}
use Rattle.ledger_model.specs.Bounds.{has_bound}
use Rattle.ledger_model.specs.History.{History, journals, point}
use Rattle.ledger_model.specs.Proofs.{shown_of}
use Rattle.proof_maker.specs.Making.{IsMade}
use Rattle.proof_maker.specs.declared.made.Made.{Made}
use Rattle.survivor_set.specs.Outcomes.{carried_set, carry_refusal, later_refusal, CarryEnds}
use Rattle.survivor_set.specs.Reading.{set_of}
use Rattle.survivor_set.specs.Sets.{Saved, SavedSet}
use Rattle.survivor_set.specs.declared.failure.SetErr.{SetErr}
use Rattle.survivor_set.specs.declared.failure.SetErr.TheVariants.{Refused, Bad, NotBelow, OtherLedger, LeafPath, DiskFault, NoMemory}

-- ---- being carried on

-- a history by which a set is carried on, and the journal to which it is
pub record Carry : Type 0 where
  pub by : History
  pub to : ℕ

-- A set that a ledger with the first history has is carried on so, one time after the other: each history goes on from the one before,
-- and refuses neither the set nor its new point.
abbrev pub AreCarries : History → SavedSet → List Carry → Type 0
AreCarries h s [] = ⊤
AreCarries h s (c ∷ cs) =
    Begins (journals h) (journals c.by) × (carry_refusal c.by s c.to ≡ None) × AreCarries c.by (carried_set c.by c.to s) cs

-- the set behind the last time, or the first where there is none
abbrev pub set_after : SavedSet → List Carry → SavedSet
set_after s [] = s
set_after s (c ∷ cs) = set_after (carried_set c.by c.to s) cs

-- the history that carried it on last, or the first where none did
abbrev pub history_after : History → List Carry → History
history_after h [] = h
history_after h (c ∷ cs) = history_after c.by cs

-- ---- being refused

-- a set with this point is refused where the ledger has purged behind that, and nowhere else
abbrev pub purge_refusal : History → ℕ → Option SetErr
purge_refusal h p = if nat_lt p (point h) then Some (Refused (Purged (point h))) else None

-- ---- what is given for it

-- What comes of carrying on a set that isn't refused, to journal q: the bytes of the carried set; or the journal is refused, or memory
-- was short.
abbrev pub IsCarried : History → SavedSet → ℕ → Result (List ℕ) SetErr → Type 0
IsCarried h s q (Ok bytes) = (later_refusal h s q ≡ None) × (set_of bytes ≡ Ok (carried_set h q s))
IsCarried h s q (Err e) = CarryEnds (later_refusal h s q) e

-- What comes of reviving a survivor of a set that isn't refused, where the notary's list is this: its proof; or the notary failed, of
-- which only a journal with a bound has need; or memory was short.
abbrev pub IsRevived : History → List (List ℕ) → Saved → Result Made SetErr → Type 0
IsRevived h es x (Ok made) = IsMade (shown_of h es x.item.header.jsn) made
IsRevived h es x (Err (Refused why)) = (why ≡ NotaryFault) × (has_bound h x.item.header.jsn ≡ true)
IsRevived h es x (Err (Bad bad)) = ⊥
IsRevived h es x (Err (NotBelow p)) = ⊥
IsRevived h es x (Err (OtherLedger kept)) = ⊥
IsRevived h es x (Err LeafPath) = ⊥
IsRevived h es x (Err DiskFault) = ⊥
IsRevived h es x (Err NoMemory) = ⊤
