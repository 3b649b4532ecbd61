use Rattle.std.specs.Prelude.{Bool, true, false, Result, Ok, Err, IfOk, IfErr}
use Rattle.std.proofs.Common.{◌≡◌, ℕ, List, refl, sym, ◌∙◌, ap, inl, inr, subst}
use Rattle.block_file.specs.File.{IsSettled}
use Rattle.ledger_disk.specs.Disk.{State}
use Rattle.twin_file.specs.Twin.{choice, IsTaken}
use Rattle.twin_file.specs.Which.{in_a_of}
use Rattle.ledger_open.specs.Opening.{IsOpenErr, IsReadErr, HasLawfulBlocks}
use Rattle.ledger_open.specs.declared.failure.OpenErr.{OpenErr}
use Rattle.ledger_open.specs.declared.failure.OpenErr.TheVariants as errors
use Rattle.ledger_open.specs.Standing.{PairFor, IsCleanPair}
use Rattle.ledger_open.proofs.CarryLaws.{reopened_as}
use Rattle.ledger_open.proofs.OpenLaws.{fault_is, same_pair, settled_pair, taken_as, taken_at, look_err, whole_opens}
use Rattle.ledger_open.proofs.reopening.reopen.Goals as goal

seen_of : (x : Bool) (a b : State) → (choice x a b).seen ≡ choice x a.seen b.seen
seen_of true a b = refl
seen_of false a b = refl

pub returns-in_err-sync-clause-images : goal.returns-in_err-sync-clause-images
returns-in_err-sync-clause-images g c told quiet h p = same_pair h _ _ _ _ (c.in_err-sync.ensures.err told) refl (quiet (fault_is c.from_residual.result c.from_residual.ensures.1)).0 (quiet (fault_is c.from_residual.result c.from_residual.ensures.1)).1 p

pub returns-in_err-sync-2-clause-images : goal.returns-in_err-sync-2-clause-images
returns-in_err-sync-2-clause-images g c told quiet h p = settled_pair h (g.D.Disk.state c.args.a.now).bytes (g.D.Disk.state c.args.b.now).bytes _ _ (c.in_ok-sync.ensures.ok told) (c.in_err-sync-2.ensures.err told ∙ (quiet (fault_is c.from_residual-in_err-sync-2.result c.from_residual-in_err-sync-2.ensures.1)).1) p

pub returns-in-Ok-None-clause-images : goal.returns-in-Ok-None-clause-images
returns-in-Ok-None-clause-images g c told quiet h p = settled_pair h (g.D.Disk.state c.args.a.now).bytes (g.D.Disk.state c.args.b.now).bytes _ _ (c.reopen.ensures.read.bytes_a told ∙ c.in_ok-sync.ensures.ok told) (c.reopen.ensures.read.bytes_b told ∙ c.in_ok-sync-2.ensures.ok told) p

pub returns-in-Err-clause-images : goal.returns-in-Err-clause-images
returns-in-Err-clause-images g c told quiet h p = settled_pair h (g.D.Disk.state c.args.a.now).bytes (g.D.Disk.state c.args.b.now).bytes _ _ (c.reopen.ensures.read.bytes_a told ∙ c.in_ok-sync.ensures.ok told) (c.reopen.ensures.read.bytes_b told ∙ c.in_ok-sync-2.ensures.ok told) p

pub returns-in-Ok-Some-clause-synced : goal.returns-in-Ok-Some-clause-synced
returns-in-Ok-Some-clause-synced g c told = inr (λ h p.
    let ea = c.reopen.ensures.read.bytes_a told ∙ c.in_ok-sync.ensures.ok told in
    let eb = c.reopen.ensures.read.bytes_b told ∙ c.in_ok-sync-2.ensures.ok told in
    c.open_pair.ensures.images told h
    (subst (λ (s : State). PairFor s.seen (g.D.Disk.state c.reopen.new.b).bytes.seen h) (sym ea) (subst (λ (s : State). PairFor (g.D.Disk.state c.args.a.now).bytes.seen s.seen h) (sym eb) p)))

pub returns-in-Err-clause-err : goal.returns-in-Err-clause-err
returns-in-Err-clause-err g c told =
    subst (IsOpenErr (g.D.Disk.state c.args.a.now).bytes.seen (g.D.Disk.state c.args.b.now).bytes.seen) (sym c.from.ensures)
    (look_err (g.D.Disk.state c.args.a.now).bytes.seen (g.D.Disk.state c.args.b.now).bytes.seen (g.D.Disk.state c.sync.new.self).bytes.seen (g.D.Disk.state c.sync-2.new.self).bytes.seen c.in-Err.e (ap (λ (s : State). s.seen) (c.in_ok-sync.ensures.ok told)) (ap (λ (s : State). s.seen) (c.in_ok-sync-2.ensures.ok told))
    (c.in-Err.ensures.err told))

pub returns-in-Ok-Some-clause-refused : goal.returns-in-Ok-Some-clause-refused
returns-in-Ok-Some-clause-refused g c told e inside why =
    let ea = c.reopen.ensures.read.bytes_a told ∙ c.in_ok-sync.ensures.ok told in
    let eb = c.reopen.ensures.read.bytes_b told ∙ c.in_ok-sync-2.ensures.ok told in
    let x = in_a_of c.in-Ok-Some.twin in
    let t = taken_at (g.D.Disk.state c.sync.new.self).bytes (g.D.Disk.state c.sync-2.new.self).bytes (g.D.Disk.state c.reopen.new.a).bytes (g.D.Disk.state c.reopen.new.b).bytes x c.in-Ok-Some.twin (c.reopen.ensures.read.bytes_a told) (c.reopen.ensures.read.bytes_b told)
    (taken_as _ _ c.in-Ok-Some.field-0 c.in-Ok-Some.twin x c.in-Ok-Some.field-0-is (c.in-Ok-Some.ensures.answer told) refl) in
    elim (c.open_pair.ensures.kept told) [
      | inl whole ↦ absurd (inside (whole_opens x _ _ _ _ (ap (λ (s : State). s.seen) ea) (ap (λ (s : State). s.seen) eb) t (subst HasLawfulBlocks (seen_of x _ _) whole) e why))
      | inr same ↦ (inr (same.0 ∙ ea), inr (same.1 ∙ eb))
    ]

pub returns-in-Ok-Some-clause-clean : goal.returns-in-Ok-Some-clause-clean
returns-in-Ok-Some-clause-clean g c told qa qb h clean =
    let ea = c.reopen.ensures.read.bytes_a told ∙ c.in_ok-sync.ensures.ok told ∙ sym qa in
    let eb = c.reopen.ensures.read.bytes_b told ∙ c.in_ok-sync-2.ensures.ok told ∙ sym qb in
    let still = c.open_pair.ensures.clean told (subst IsSettled (sym ea) qa) (subst IsSettled (sym eb) qb) h (subst (λ (s : State). IsCleanPair s.seen (g.D.Disk.state c.reopen.new.b).bytes.seen h) (sym ea) (subst (λ (s : State). IsCleanPair (g.D.Disk.state c.args.a.now).bytes.seen s.seen h) (sym eb) clean)) in
    (still.0 ∙ ea, still.1 ∙ eb)

read_err : (x : Bool) (a b : List ℕ) → IsTaken x a b → (e : OpenErr) → IsReadErr (choice x a b) e → IsOpenErr a b e
read_err x a b t errors.DiskFault why = tt
read_err x a b t errors.NoMemory why = tt
read_err x a b t (errors.Damaged damage) why = inr (x, t, why)
read_err x a b t errors.Empty why = absurd why
read_err x a b t errors.Exists why = absurd why
read_err x a b t (errors.NewerFormat found) why = absurd why

err_weaker : {T : Type 0} (r : Result T OpenErr) (P Q : OpenErr → Type 0) → ((e : OpenErr) → P e → Q e) → IfErr r P → IfErr r Q
err_weaker (Ok v) P Q f p = tt
err_weaker (Err e) P Q f p = f e p

pub returns-in-Ok-Some-clause-err : goal.returns-in-Ok-Some-clause-err
returns-in-Ok-Some-clause-err g c = err_weaker c.open_pair.result _ _ (λ e why told.
    let ea = c.reopen.ensures.read.bytes_a told ∙ c.in_ok-sync.ensures.ok told in
    let eb = c.reopen.ensures.read.bytes_b told ∙ c.in_ok-sync-2.ensures.ok told in
    let x = in_a_of c.in-Ok-Some.twin in
    let t = taken_at (g.D.Disk.state c.sync.new.self).bytes (g.D.Disk.state c.sync-2.new.self).bytes (g.D.Disk.state c.reopen.new.a).bytes (g.D.Disk.state c.reopen.new.b).bytes x c.in-Ok-Some.twin (c.reopen.ensures.read.bytes_a told) (c.reopen.ensures.read.bytes_b told)
    (taken_as _ _ c.in-Ok-Some.field-0 c.in-Ok-Some.twin x c.in-Ok-Some.field-0-is (c.in-Ok-Some.ensures.answer told) refl) in
    let here = read_err x (g.D.Disk.state c.reopen.new.a).bytes.seen (g.D.Disk.state c.reopen.new.b).bytes.seen t e (subst (λ (l : List ℕ). IsReadErr l e) (seen_of x _ _) (why told)) in
    subst (λ (l : List ℕ). IsOpenErr l (g.D.Disk.state c.args.b.now).bytes.seen e) (ap (λ (s : State). s.seen) ea) (subst (λ (l : List ℕ). IsOpenErr (g.D.Disk.state c.reopen.new.a).bytes.seen l e) (ap (λ (s : State). s.seen) eb) here)) c.open_pair.ensures.err

ok_weaker : {T : Type 0} (r : Result T OpenErr) (P Q : T → Type 0) → ((x : T) → P x → Q x) → IfOk r P → IfOk r Q
ok_weaker (Ok x) P Q f p = f x p
ok_weaker (Err e) P Q f p = tt

pub returns-in-Ok-Some-clause-ok : goal.returns-in-Ok-Some-clause-ok
returns-in-Ok-Some-clause-ok g c = ok_weaker c.open_pair.result _ _ (λ opened known. (
  known.0,
  known.1,
  known.2,
  λ told.
      reopened_as (in_a_of opened.twin) _ known.0 known.1 (g.D.Disk.state c.args.a.now).bytes (g.D.Disk.state c.args.b.now).bytes (g.D.Disk.state c.reopen.new.a).bytes (g.D.Disk.state c.reopen.new.b).bytes _ _
      (ap (λ (s : State). s.seen) (c.reopen.ensures.read.bytes_a told ∙ c.in_ok-sync.ensures.ok told)) (ap (λ (s : State). s.seen) (c.reopen.ensures.read.bytes_b told ∙ c.in_ok-sync-2.ensures.ok told)) (known.3 told),
)) c.open_pair.ensures.ok
