-- A group of blocks was committed, or couldn't be.
use Rattle.std.specs.Prelude.{Bool, true, false, IsTrue, Result, Ok, Err, OnOk, OnErr}
use Rattle.std.proofs.Common.{◌≡◌, inl, inr, ℕ, ◌+◌, List, [], ◌∷◌, length, take, refl, ap, sym, subst, ◌∙◌, arith, append-nil}
use Rattle.block_file.specs.File.{IsFileOf, IsGroupOf, HasGroup, tail_of}
use Rattle.ledger_bytes.specs.Causes.{count_after}
use Rattle.ledger_disk.specs.Disk.{DiskState, State}
use Rattle.batch_committer.specs.Committed.{AllOrNone, IsCommitted, IsUncommitted}
use Rattle.batch_committer.specs.World.{pair, ReadsAsLeft}

-- the bytes of a block are those of a group of that block alone
pub one_block : (bytes : List ℕ) → IsGroupOf (bytes ∷ []) bytes
one_block bytes = record { some = omega arith; is = sym (append-nil bytes) }

-- each file with its tail gate at this place has the blocks of the group behind those that it had
abbrev AllAdded : Bool → ℕ → List ℕ → State → State → Type 0
AllAdded tells place bytes old new =
    IsTrue tells → (group : List (List ℕ)) → IsGroupOf group bytes → (front : List ℕ) (blocks : List (List ℕ)) → IsFileOf front blocks old.seen → tail_of front blocks ≡ place → HasGroup front blocks group new

-- .. where it was committed
record WasAdded (tells : Bool) (place next : ℕ) (bytes : List ℕ) (old new : DiskState) : Type 0 where
  has : AllAdded tells place bytes old.bytes new.bytes
  ends : IsTrue tells → length old.bytes.seen ≡ place + 1 → length new.bytes.seen ≡ next + 1
  reads : ReadsAsLeft tells next new
  gate : next ≡ place + 1 + length bytes
  head : IsTrue tells → take 64 new.bytes.seen ≡ take 64 old.bytes.seen
  faults : new.faults ≡ old.faults

was_added : {T E : Type 0} (r : Result T E) (tells : Bool) (place next : ℕ) (bytes : List ℕ) (old new : DiskState) → OnOk r (AllAdded tells place bytes old.bytes new.bytes) → OnOk r (IsTrue tells → length old.bytes.seen ≡ place + 1 → length new.bytes.seen ≡ next + 1) → OnOk r (ReadsAsLeft tells next new)
    → OnOk r (next ≡ place + 1 + length bytes) → OnOk r (IsTrue tells → take 64 new.bytes.seen ≡ take 64 old.bytes.seen) → OnOk r (new.faults ≡ old.faults) → OnOk r (WasAdded tells place next bytes old new)
was_added (Ok value) tells place next bytes old new has ends reads gate head faults = record { has = has; ends = ends; reads = reads; gate = gate; head = head; faults = faults }
was_added (Err error) tells place next bytes old new has ends reads gate head faults = tt

module _ {T E : Type 0} (result : Result T E) (tells in_a : Bool) (place next : ℕ) (bytes : List ℕ) where
  pub committed_a : (a b now : DiskState) → in_a ≡ true → OnOk result (AllAdded tells place bytes a.bytes now.bytes) → OnOk result (IsTrue tells → length a.bytes.seen ≡ place + 1 → length now.bytes.seen ≡ next + 1) → OnOk result (ReadsAsLeft tells next now)
      → OnOk result (next ≡ place + 1 + length bytes) → OnOk result (IsTrue tells → take 64 now.bytes.seen ≡ take 64 a.bytes.seen) → OnOk result (now.faults ≡ a.faults) → OnOk result (IsCommitted tells in_a place bytes (pair a b) (pair now b))
  committed_a a b now is has ends reads gate head faults = by result (was_added result tells place next bytes a now has ends reads gate head faults) where
    by : (r : Result T E) → OnOk r (WasAdded tells place next bytes a now) → OnOk r (IsCommitted tells in_a place bytes (pair a b) (pair now b))
    by (Ok value) x = subst (λ v. IsCommitted tells v place bytes (pair a b) (pair now b)) (sym is)
        (record {
          has = x.has;
          ends = λ told same. x.ends told same ∙ ap (λ (n : ℕ). n + 1) x.gate;
          reads = subst (λ (n : ℕ). ReadsAsLeft tells n now) x.gate x.reads;
          head = x.head;
          other = refl;
          faults_a = x.faults;
          faults_b = refl;
        })
    by (Err error) x = tt

  pub committed_b : (a b now : DiskState) → in_a ≡ false → OnOk result (AllAdded tells place bytes b.bytes now.bytes) → OnOk result (IsTrue tells → length b.bytes.seen ≡ place + 1 → length now.bytes.seen ≡ next + 1) → OnOk result (ReadsAsLeft tells next now)
      → OnOk result (next ≡ place + 1 + length bytes) → OnOk result (IsTrue tells → take 64 now.bytes.seen ≡ take 64 b.bytes.seen) → OnOk result (now.faults ≡ b.faults) → OnOk result (IsCommitted tells in_a place bytes (pair a b) (pair a now))
  committed_b a b now is has ends reads gate head faults = by result (was_added result tells place next bytes b now has ends reads gate head faults) where
    by : (r : Result T E) → OnOk r (WasAdded tells place next bytes b now) → OnOk r (IsCommitted tells in_a place bytes (pair a b) (pair a now))
    by (Ok value) x = subst (λ v. IsCommitted tells v place bytes (pair a b) (pair a now)) (sym is)
        (record {
          has = x.has;
          ends = λ told same. x.ends told same ∙ ap (λ (n : ℕ). n + 1) x.gate;
          reads = subst (λ (n : ℕ). ReadsAsLeft tells n now) x.gate x.reads;
          head = x.head;
          other = refl;
          faults_a = refl;
          faults_b = x.faults;
        })
    by (Err error) x = tt

module _ {T E : Type 0} (result : Result T E) (tells in_a : Bool) (place : ℕ) (bytes : List ℕ) where
  pub uncommitted_a : (a b now : DiskState) → in_a ≡ true → OnErr result (AllOrNone tells place bytes a.bytes now.bytes) → OnErr result (now.faults ≡ count_after a.faults)
      → OnErr result (IsUncommitted tells in_a place bytes (pair a b) (pair now b))
  uncommitted_a a b now is = by result where
    by : (r : Result T E) → OnErr r (AllOrNone tells place bytes a.bytes now.bytes) → OnErr r (now.faults ≡ count_after a.faults) → OnErr r (IsUncommitted tells in_a place bytes (pair a b) (pair now b))
    by (Ok value) may failed = tt
    by (Err error) may failed = subst (λ v. IsUncommitted tells v place bytes (pair a b) (pair now b)) (sym is) (record { may = may; other = refl; failed = inl (failed, refl) })

  pub uncommitted_b : (a b now : DiskState) → in_a ≡ false → OnErr result (AllOrNone tells place bytes b.bytes now.bytes) → OnErr result (now.faults ≡ count_after b.faults)
      → OnErr result (IsUncommitted tells in_a place bytes (pair a b) (pair a now))
  uncommitted_b a b now is = by result where
    by : (r : Result T E) → OnErr r (AllOrNone tells place bytes b.bytes now.bytes) → OnErr r (now.faults ≡ count_after b.faults) → OnErr r (IsUncommitted tells in_a place bytes (pair a b) (pair a now))
    by (Ok value) may failed = tt
    by (Err error) may failed = subst (λ v. IsUncommitted tells v place bytes (pair a b) (pair a now)) (sym is) (record { may = may; other = refl; failed = inr (refl, failed) })
