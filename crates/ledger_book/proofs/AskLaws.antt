-- Lemmas on proofs that are asked for: what a book looks at is what the history says.
use Rattle.std.specs.Prelude.{nat_lt}
use Rattle.std.specs.Option.{option_or}
use Rattle.std.proofs.Common.{◌≡◌, ℕ, ◌<◌, ◌≤◌, ◌||◌, ◌==◌, Bool, true, false, cond, Option, Some, None, refl, ap, sym, ◌∙◌, arith, eq-eqb}
use Rattle.std.proofs.lemmas.Bool.{le-leb, lt-leb, lt-ltb, le-ltb, ne_eqb, or_from}
use Rattle.ledger_bytes.specs.declared.refusal.Refusal.{Refusal}
use Rattle.ledger_bytes.specs.declared.refusal.Refusal.TheVariants.{NoJournal, Purged, BadSize}
use Rattle.ledger_model.specs.History.{History, size, point}
use Rattle.ledger_model.specs.Proofs.{prove_refusal, extend_refusal}
use Rattle.ledger_book.specs.Books.{Kept, Serves}
use Rattle.ledger_book.proofs.StandsLaws.{point_is}

module _ (k : Kept) (h : History) (s : Serves k h) where
  purged_told : Some (Purged k.point) ≡ Some (Purged (point h))
  purged_told = ap (λ n. Some (Purged n)) (point_is k h s)

  pub prove_absent : (n : ℕ) → k.size ≤ n → Some (NoJournal k.size) ≡ prove_refusal h n
  unfolding prove_refusal
  prove_absent n absent =
      ap (λ m. Some (NoJournal m)) s.stands.counts.size
      ∙ sym (ap (λ v. cond v (Some (NoJournal (size h))) (cond (nat_lt n (point h)) (Some (Purged (point h))) None)) (le-leb (size h) n (omega (arith, absent, s.stands.counts.size))))

  there : (n : ℕ) → n < k.size → prove_refusal h n ≡ cond (nat_lt n (point h)) (Some (Purged (point h))) None
  unfolding prove_refusal
  there n less = ap (λ v. cond v (Some (NoJournal (size h))) (cond (nat_lt n (point h)) (Some (Purged (point h))) None)) (lt-leb (size h) n (omega (arith, less, s.stands.counts.size)))

  pub prove_purged : (n : ℕ) → n < k.size → n < k.point → Some (Purged k.point) ≡ prove_refusal h n
  prove_purged n less below =
      purged_told ∙ sym (there n less ∙ ap (λ v. cond v (Some (Purged (point h))) None) (lt-ltb n (point h) (omega (arith, below, point_is k h s))))

  pub prove_kept : (n : ℕ) → n < k.size → k.point ≤ n → (let none : Option Refusal = None in none ≡ prove_refusal h n)
  prove_kept n less kept = sym (there n less ∙ ap (λ v. cond v (Some (Purged (point h))) None) (le-ltb n (point h) (omega (arith, kept, point_is k h s))))

  sized : (m : ℕ) (b : Bool) → (m == 0 || nat_lt (size h) m) ≡ b → extend_refusal h m ≡ option_or (cond b (Some (BadSize (size h))) None) (cond (nat_lt m (point h)) (Some (Purged (point h))) None)
  unfolding extend_refusal
  sized m b is = ap (λ v. option_or (cond v (Some (BadSize (size h))) None) (cond (nat_lt m (point h)) (Some (Purged (point h))) None)) is

  bad_size : (m : ℕ) → (m == 0 || nat_lt (size h) m) ≡ true → Some (BadSize k.size) ≡ extend_refusal h m
  bad_size m is = ap (λ n. Some (BadSize n)) s.stands.counts.size ∙ sym (sized m true is)

  pub extend_of_none : (m : ℕ) → m ≡ 0 → Some (BadSize k.size) ≡ extend_refusal h m
  extend_of_none m none = bad_size m (ap (λ v. v || nat_lt (size h) m) (eq-eqb m 0 none))

  either_true : (a b : Bool) → b ≡ true → (a || b) ≡ true
  either_true true b is = refl
  either_true false b is = is

  pub extend_beyond : (m : ℕ) → k.size < m → Some (BadSize k.size) ≡ extend_refusal h m
  extend_beyond m more = bad_size m (either_true (m == 0) (nat_lt (size h) m) (lt-ltb (size h) m (omega (arith, more, s.stands.counts.size))))

  within : (m : ℕ) → 0 < m → m ≤ k.size → (m == 0 || nat_lt (size h) m) ≡ false
  within m some le = or_from (m == 0) (nat_lt (size h) m) (ne_eqb m 0 (λ none. omega (arith, none, some))) (le-ltb (size h) m (omega (arith, le, s.stands.counts.size)))

  pub extend_purged : (m : ℕ) → 0 < m → m ≤ k.size → m < k.point → Some (Purged k.point) ≡ extend_refusal h m
  extend_purged m some le below =
      purged_told ∙ sym (sized m false (within m some le) ∙ ap (λ v. cond v (Some (Purged (point h))) None) (lt-ltb m (point h) (omega (arith, below, point_is k h s))))

  pub extend_kept : (m : ℕ) → 0 < m → m ≤ k.size → k.point ≤ m → (let none : Option Refusal = None in none ≡ extend_refusal h m)
  extend_kept m some le kept =
      sym (sized m false (within m some le) ∙ ap (λ v. cond v (Some (Purged (point h))) None) (le-ltb m (point h) (omega (arith, kept, point_is k h s))))
