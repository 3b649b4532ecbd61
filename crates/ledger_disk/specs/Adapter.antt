-- What an adapter over a real file tells: its length from its first call on, and nothing of its contents.
use Rattle.std.specs.Prelude.{◌≡◌, ℕ, ◌^◌, ◌≤◌, [], Option, Some, None, MatchOption, ⊤}
use Rattle.std.proofs.Common.{subst}
use Rattle.ledger_disk.specs.Disk.{State, settled_state}

-- the length that is told: this one once the file is there, and none before
abbrev pub told_of : {A : Type 0} → Option A → ℕ → Option ℕ
told_of None n = None
told_of (Some a) n = Some n

-- contents that stand where none are told: no clause reads them
abbrev pub untold_state : State
untold_state = settled_state []

-- a length that an adapter tells keeps to a bound that the file's own length keeps to
pub told_bounded : {A : Type 0} (file : Option A) (m n : ℕ) → told_of file m ≡ Some n → m ≤ 2 ^ 62 → n ≤ 2 ^ 62
told_bounded None m n is le = absurd (subst (λ (o : Option ℕ). MatchOption o ⊤ (λ k. ⊥)) is tt)
told_bounded (Some a) m n is le = subst (λ (o : Option ℕ). MatchOption o ⊤ (λ k. k ≤ 2 ^ 62)) is le
