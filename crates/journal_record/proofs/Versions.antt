-- What a header's own version is.
use Rattle.std.proofs.Common.{◌≡◌, ◌⊎◌, ℕ, ◌&&◌, ◌||◌, Bool, true, false, cond, eqb, leb, inl, inr, refl, sym, ap, ◌∙◌}
use Rattle.std.proofs.lemmas.Bool.{eqb-true}
use Rattle.journal_record.specs.declared.header.Kind.{Kind}
use Rattle.journal_record.specs.declared.header.Kind.TheVariants.{Genesis, Content, Member, Time, Occult, Purge, ClueOccult}
use Rattle.journal_record.specs.Rules.{version_of, is_version, version_ok, is_kind_in, carries_a, carries_len}

-- a test is true or false
pub bool_cases : (b : Bool) → (b ≡ true) ⊎ (b ≡ false)
bool_cases true = inl refl
bool_cases false = inr refl

-- one of two versions, by a test
abbrev one_of : Bool → ℕ
one_of b = cond b 1 2

one_known : (b : Bool) → is_version (one_of b) ≡ true
one_known true = refl
one_known false = refl

-- a test more never makes it the first
one_more : (p q : Bool) → leb (one_of (p && true)) (one_of (p && q)) ≡ true
one_more true true = refl
one_more true false = refl
one_more false q = refl

one_less : (p q : Bool) → leb (one_of (true && q)) (one_of (p && q)) ≡ true
one_less true true = refl
one_less true false = refl
one_less false true = refl
one_less false false = refl

one_least : (b : Bool) → leb 1 (one_of b) ≡ true
one_least true = refl
one_least false = refl

one_both : (p q : Bool) → leb (one_of (p && true)) 1 ≡ true → leb (one_of (true && q)) 1 ≡ true → one_of (p && q) ≡ 1
one_both true true x y = refl
one_both true false x y = absurd cc
one_both false q x y = absurd cc

-- a header's own version is known
pub version_known : (kind : Kind) (a len : ℕ) → is_version (version_of kind a len) ≡ true
version_known Genesis a len = refl
version_known Content a len = one_known (eqb a 0 && leb len 65_536)
version_known Member a len = refl
version_known Time a len = refl
version_known Occult a len = refl
version_known Purge a len = refl
version_known ClueOccult a len = refl

-- .. and carries what goes by the kind
pub version_carries_a : (kind : Kind) (a len : ℕ) → carries_a (version_of kind a len) kind a ≡ true
version_carries_a Genesis a len = refl
version_carries_a Content a len = one_more (eqb a 0) (leb len 65_536)
version_carries_a Member a len = refl
version_carries_a Time a len = refl
version_carries_a Occult a len = refl
version_carries_a Purge a len = refl
version_carries_a ClueOccult a len = refl

pub version_carries_len : (kind : Kind) (a len : ℕ) → carries_len (version_of kind a len) kind len ≡ true
version_carries_len Genesis a len = refl
version_carries_len Content a len = one_less (eqb a 0) (leb len 65_536)
version_carries_len Member a len = refl
version_carries_len Time a len = refl
version_carries_len Occult a len = refl
version_carries_len Purge a len = refl
version_carries_len ClueOccult a len = refl

-- .. and has its kind
pub version_has_kind : (kind : Kind) (a len : ℕ) → is_kind_in (version_of kind a len) kind ≡ true
version_has_kind Genesis a len = refl
version_has_kind Content a len = one_least (eqb a 0 && leb len 65_536)
version_has_kind Member a len = refl
version_has_kind Time a len = refl
version_has_kind Occult a len = refl
version_has_kind Purge a len = refl
version_has_kind ClueOccult a len = refl

-- fields that the first version carries have it
first_is : (kind : Kind) (a len : ℕ) → carries_a 1 kind a ≡ true → carries_len 1 kind len ≡ true → version_of kind a len ≡ 1
first_is Genesis a len x y = refl
first_is Content a len x y = one_both (eqb a 0) (leb len 65_536) x y
first_is Member a len x y = refl
first_is Time a len x y = refl
first_is Occult a len x y = refl
first_is Purge a len x y = refl
first_is ClueOccult a len x y = absurd cc

pub first_own : (version : ℕ) (kind : Kind) (a len : ℕ) → eqb version 1 ≡ true → carries_a version kind a ≡ true → carries_len version kind len ≡ true → version_ok version kind a len ≡ true
first_own version kind a len first x y =
    let is : version ≡ 1 = eqb-true version 1 first in
    ap (λ v. eqb v (version_of kind a len)) is
    ∙ ap (λ v. eqb 1 v) (first_is kind a len (ap (λ v. carries_a v kind a) (sym is) ∙ x) (ap (λ v. carries_len v kind len) (sym is) ∙ y))

-- the second of two tests, where the first fails
the_other : (x y : Bool) → (x || y) ≡ true → x ≡ false → y ≡ true
the_other true y one off = absurd cc
the_other false y one off = one

-- a known version that isn't the first is the second
other_is : (version : ℕ) → is_version version ≡ true → eqb version 1 ≡ false → version ≡ 2
other_is version known other = eqb-true version 2 (the_other (eqb version 1) (eqb version 2) known other)

pub second_own : (version : ℕ) (kind : Kind) (a len : ℕ) → is_version version ≡ true → eqb version 1 ≡ false → eqb (version_of kind a len) 2 ≡ true → version_ok version kind a len ≡ true
second_own version kind a len known other second =
    ap (λ v. eqb v (version_of kind a len)) (other_is version known other) ∙ ap (λ v. eqb 2 v) (eqb-true (version_of kind a len) 2 second)

pub own_second : (version : ℕ) (kind : Kind) (a len : ℕ) → version_ok version kind a len ≡ true → eqb version 1 ≡ false → eqb (version_of kind a len) 2 ≡ true
own_second version kind a len own other =
    let is : version ≡ version_of kind a len = eqb-true version (version_of kind a len) own in
    let known : is_version version ≡ true = ap is_version is ∙ version_known kind a len in
    ap (λ v. eqb v 2) (sym is ∙ other_is version known other)
