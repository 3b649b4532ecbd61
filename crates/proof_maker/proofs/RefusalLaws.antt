-- Why there is no proof of a journal, and no extension.
use Rattle.std.proofs.Common.{◌≡◌, ℕ, List, zero, suc, ◌<◌, ◌≤◌, false, ◌⊎◌, inl, inr, Option, Some, None, refl, sym, ap, ◌∙◌, arith}
use Rattle.std.specs.Prelude.{IfOk, Result, Ok, Err}
use Rattle.std.proofs.lemmas.Bool.{cases_lt, le-leb, lt-leb, lt-ltb, le-ltb, ne_eqb}
use Rattle.ledger_bytes.specs.declared.refusal.Refusal.{Refusal}
use Rattle.ledger_bytes.specs.declared.refusal.Refusal.TheVariants.{NoJournal, Purged, BadSize}
use Rattle.ledger_model.specs.History as model
use Rattle.ledger_model.specs.History.{History}
use Rattle.ledger_model.specs.Proofs.{prove_refusal, size_refusal}
use Rattle.proof_maker.specs.Making.{Proves, ProvesFrom, is_fault}
use Rattle.proof_maker.specs.declared.made.Made.{Made}
use Rattle.proof_maker.specs.declared.made.MakeErr.{MakeErr}
use Rattle.proof_maker.specs.declared.made.MakeErr.TheVariants.{Refused, NoMemory}

some_none : {A : Type 0} {x : A} → (let none : Option A = None in Some x ≡ none) → ⊥
some_none e = cc

module _ (h : History) (size n : ℕ) where
  pub absent : size ≡ model.size h → size ≤ n → prove_refusal h n ≡ Some (NoJournal size)
  unfolding prove_refusal
  absent all above = rw (le-leb (model.size h) n (omega (arith, all, above))) (ap (λ s. Some (NoJournal s)) (sym all))

  module _ (point : ℕ) (all : size ≡ model.size h) (there : n < size) (seen : point ≡ model.point h) where
    pub purged : n < point → prove_refusal h n ≡ Some (Purged point)
    unfolding prove_refusal
    purged below = rw (lt-leb (model.size h) n (omega (arith, all, there)), lt-ltb n (model.point h) (omega (arith, seen, below))) (ap (λ p. Some (Purged p)) (sym seen))

    pub none : point ≤ n → prove_refusal h n ≡ None
    unfolding prove_refusal
    none kept = rw (lt-leb (model.size h) n (omega (arith, all, there)), le-ltb n (model.point h) (omega (arith, seen, kept))) refl

-- where nothing refuses journal n, it's there, and no purge has given it up
pub passes : (h : History) (n : ℕ) → prove_refusal h n ≡ None → (n < model.size h) × (model.point h ≤ n)
unfolding prove_refusal
passes h n none = elim (cases_lt n (model.size h)) [
  | inr above ↦ absurd (some_none (sym (absent h (model.size h) n refl above) ∙ none))
  | inl there ↦ elim (cases_lt n (model.point h)) [
    | inl below ↦ absurd (some_none (sym (purged h (model.size h) n (model.point h) refl there refl below) ∙ none))
    | inr kept ↦ (there, kept)
  ]
]

-- what comes of a journal's leaf and path is what comes of the journal, where nothing refuses it
pub of_leaf : (h : History) (es : List (List ℕ)) (n : ℕ) (r : Result Made MakeErr) → prove_refusal h n ≡ None → ProvesFrom h es n r → Proves h es n r
of_leaf h es n (Ok made) nothing is = (nothing, is)
of_leaf h es n (Err (Refused why)) nothing is = inr (is.0, is.1, nothing)
of_leaf h es n (Err NoMemory) nothing is = nothing

-- what holds of each value that comes holds of it by what follows
pub each_ok : {A E : Type 0} (r : Result A E) (P Q : A → Type 0) → ((x : A) → P x → Q x) → IfOk r P → IfOk r Q
each_ok (Ok x) P Q f p = f x p
each_ok (Err e) P Q f p = tt

-- it is no failure of the notary
pub no_fault : (why : Refusal) {x y : Refusal} → (why ≡ x) ⊎ (why ≡ y) → is_fault x ≡ false → is_fault y ≡ false → is_fault why ≡ false
no_fault why (inl is) first second = ap is_fault is ∙ first
no_fault why (inr is) first second = ap is_fault is ∙ second

-- ---- of an extension

over : (size m : ℕ) → size < suc m → size_refusal size (suc m) ≡ Some (BadSize size)
over size m above = rw (ne_eqb (suc m) 0 (λ none. omega (arith, none)), lt-ltb size (suc m) above) refl

pub size_passes : (size m : ℕ) → size_refusal size m ≡ None → (0 < m) × (m ≤ size)
size_passes size zero passes = absurd cc
size_passes size (suc m) passes = elim (cases_lt size (suc m)) [
  | inl above ↦ absurd (some_none (sym (over size m above) ∙ passes))
  | inr there ↦ (omega arith, there)
]
