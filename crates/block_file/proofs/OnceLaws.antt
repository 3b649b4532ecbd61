-- A block that isn't read has one damage.
use Rattle.std.proofs.Common.{◌≡◌, ◌⊎◌, inl, inr, ℕ, ◌<◌, ◌+◌, List, [], sym, ◌∙◌, ap, arith, append-nil}
use Rattle.std.proofs.lemmas.Bool.{true≢false, cases_lt}
use Rattle.journal_record.specs.Blocks.{body_of}
use Rattle.journal_record.specs.Records.{BreaksAt}
use Rattle.block_file.specs.Blocks.{HasBodyAt, IsHeadCut, IsMiscounted, IsBodyCut, IsOtherFirst, IsNoEntry, IsHeadDamage, IsBodyErr, IsBlockErr, block_head_at, body_at, count_in}
use Rattle.block_file.specs.declared.failure.Damage.{Damage}
use Rattle.block_file.specs.declared.failure.Damage.TheVariants.{Magic, BaseForm, Base, Length, Entry as Entries, Root, Content}
use Rattle.block_file.specs.declared.failure.FileErr.TheVariants.{Damaged}
use Rattle.block_file.proofs.ParseLaws.{none_breaks}

pub length_same : (p q k l f g : ℕ) → p ≡ q → k ≡ l → f ≡ g → Length p k f ≡ Length q l g
length_same p q k l f g one two three = ap (λ (n : ℕ). Length n k f) one ∙ ap (λ (n : ℕ). Length q n f) two ∙ ap (λ (n : ℕ). Length q l n) three

-- ---- its head

module _ (at : ℕ) (file : List ℕ) (p k f q l g : ℕ) where
  cut_once : IsHeadCut at file p k f → IsHeadCut at file q l g → Length p k f ≡ Length q l g
  cut_once x y = length_same p q k l f g (x.place_is ∙ sym y.place_is) (x.kept_is ∙ sym y.kept_is) (x.found_is ∙ sym y.found_is)

  miscounted_once : IsMiscounted at file p k f → IsMiscounted at file q l g → Length p k f ≡ Length q l g
  miscounted_once x y = length_same p q k l f g (x.place_is ∙ sym y.place_is) (x.kept_is ∙ sym y.kept_is) (x.found_is ∙ sym y.found_is)

  far_once : IsBodyCut at file p k f → IsBodyCut at file q l g → Length p k f ≡ Length q l g
  far_once x y = length_same p q k l f g (x.place_is ∙ sym y.place_is) (x.kept_is ∙ sym y.kept_is) (x.found_is ∙ sym y.found_is)

  cut_counted : {P : Type 0} → IsHeadCut at file p k f → IsMiscounted at file q l g → P
  cut_counted x y = absurd (omega (arith, x.room, y.room))

  cut_far : {P : Type 0} → IsHeadCut at file p k f → IsBodyCut at file q l g → P
  cut_far x y = absurd (omega (arith, x.room, y.head.room))

  counted_far : {P : Type 0} → IsMiscounted at file p k f → IsBodyCut at file q l g → P
  counted_far x y = absurd (elim x.wrong [ inl none ↦ omega (arith, none, y.head.some) | inr many ↦ omega (arith, many, y.head.most) ])

lengths_once : (at : ℕ) (file : List ℕ) (p k f q l g : ℕ) → IsHeadDamage at file (Length p k f) → IsHeadDamage at file (Length q l g) → Length p k f ≡ Length q l g
lengths_once at file p k f q l g (inl x) (inl y) = cut_once at file p k f q l g x y
lengths_once at file p k f q l g (inl x) (inr (inl y)) = cut_counted at file p k f q l g x y
lengths_once at file p k f q l g (inl x) (inr (inr y)) = cut_far at file p k f q l g x y
lengths_once at file p k f q l g (inr (inl x)) (inl y) = cut_counted at file q l g p k f y x
lengths_once at file p k f q l g (inr (inl x)) (inr (inl y)) = miscounted_once at file p k f q l g x y
lengths_once at file p k f q l g (inr (inl x)) (inr (inr y)) = counted_far at file p k f q l g x y
lengths_once at file p k f q l g (inr (inr x)) (inl y) = cut_far at file q l g p k f y x
lengths_once at file p k f q l g (inr (inr x)) (inr (inl y)) = counted_far at file q l g p k f y x
lengths_once at file p k f q l g (inr (inr x)) (inr (inr y)) = far_once at file p k f q l g x y

head_once : (at : ℕ) (file : List ℕ) (d e : Damage) → IsHeadDamage at file d → IsHeadDamage at file e → d ≡ e
head_once at file Magic e x y = absurd x
head_once at file (BaseForm place) e x y = absurd x
head_once at file (Base kept found) e x y = absurd x
head_once at file (Entries jsn) e x y = absurd x
head_once at file (Root block kept found) e x y = absurd x
head_once at file (Content jsn kept found) e x y = absurd x
head_once at file (Length p k f) (Length q l g) x y = lengths_once at file p k f q l g x y
head_once at file (Length p k f) Magic x y = absurd y
head_once at file (Length p k f) (BaseForm place′) x y = absurd y
head_once at file (Length p k f) (Base kept′ found′) x y = absurd y
head_once at file (Length p k f) (Entries jsn) x y = absurd y
head_once at file (Length p k f) (Root block kept′ found′) x y = absurd y
head_once at file (Length p k f) (Content jsn kept′ found′) x y = absurd y

-- a head with room for its body has no damage
whole_head : {P : Type 0} (at : ℕ) (file : List ℕ) (d : Damage) → HasBodyAt at file → IsHeadDamage at file d → P
whole_head at file (Length p k f) b (inl x) = absurd (omega (arith, x.room, b.head.room))
whole_head at file (Length p k f) b (inr (inl x)) = absurd (elim x.wrong [ inl none ↦ omega (arith, none, b.head.some) | inr many ↦ omega (arith, many, b.head.most) ])
whole_head at file (Length p k f) b (inr (inr x)) = absurd (omega (arith, x.far, b.within))
whole_head at file Magic b x = absurd x
whole_head at file (BaseForm place) b x = absurd x
whole_head at file (Base kept found) b x = absurd x
whole_head at file (Entries jsn) b x = absurd x
whole_head at file (Root block kept found) b x = absurd x
whole_head at file (Content jsn kept found) b x = absurd x

-- ---- its body

module _ (count : ℕ) (body : List ℕ) where
  breaks_before : {P : Type 0} (n m : ℕ) → BreaksAt count body n → BreaksAt count body m → n < m → P
  breaks_before n m x y less = absurd (none_breaks y.es x.es y.rest x.rest x.bad y.readable x.readable (sym y.is ∙ x.is) (omega (arith, less, x.number, y.number)) x.undecoded)

  breaks_once : (n m : ℕ) → BreaksAt count body n → BreaksAt count body m → n ≡ m
  breaks_once n m x y =
      elim (cases_lt n m) [
        | inl less ↦ breaks_before n m x y less
        | inr le ↦ elim (cases_lt m n) [ inl less ↦ breaks_before m n y x less | inr other ↦ omega (arith, le, other) ]
      ]

  none_other : {P : Type 0} (n first : ℕ) → BreaksAt count body n → IsOtherFirst count body first → P
  none_other n first x o = absurd (none_breaks o.es x.es [] x.rest x.bad o.body_is.readable x.readable (append-nil (body_of o.es) ∙ sym o.body_is.is ∙ x.is) (omega (arith, x.number, x.fewer, o.body_is.number)) x.undecoded)

  no_entry_once : (first jsn other : ℕ) → IsNoEntry count body first jsn → IsNoEntry count body first other → jsn ≡ other
  no_entry_once first jsn other x y = by x.why y.why where
    by : ((n : ℕ) × (jsn ≡ first + n) × BreaksAt count body n) ⊎ ((jsn ≡ first) × IsOtherFirst count body first) → ((n : ℕ) × (other ≡ first + n) × BreaksAt count body n) ⊎ ((other ≡ first) × IsOtherFirst count body first) → jsn ≡ other
    by (inl a) (inl b) = omega (arith, a.1, b.1, breaks_once a.0 b.0 a.2 b.2)
    by (inl a) (inr b) = none_other a.0 first a.2 b.1
    by (inr a) (inl b) = none_other b.0 first b.2 a.1
    by (inr a) (inr b) = a.0 ∙ sym b.0

body_once : (at count : ℕ) (body : List ℕ) (first : ℕ) (d e : Damage) → IsBodyErr at count body first (Damaged d) → IsBodyErr at count body first (Damaged e) → d ≡ e
body_once at count body first Magic e x y = absurd x
body_once at count body first (BaseForm place) e x y = absurd x
body_once at count body first (Base kept found) e x y = absurd x
body_once at count body first (Root block kept found) e x y = absurd x
body_once at count body first (Content jsn kept found) e x y = absurd x
body_once at count body first (Length p k f) (Length q l g) x y = length_same p q k l f g (x.place_is ∙ sym y.place_is) (x.kept_is ∙ sym y.kept_is) (x.found_is ∙ sym y.found_is)
body_once at count body first (Length p k f) (Entries jsn) x y = absurd (true≢false (sym y.filled ∙ x.unfilled))
body_once at count body first (Length p k f) Magic x y = absurd y
body_once at count body first (Length p k f) (BaseForm place′) x y = absurd y
body_once at count body first (Length p k f) (Base kept′ found′) x y = absurd y
body_once at count body first (Length p k f) (Root block kept′ found′) x y = absurd y
body_once at count body first (Length p k f) (Content jsn′ kept′ found′) x y = absurd y
body_once at count body first (Entries jsn) (Length q l g) x y = absurd (true≢false (sym x.filled ∙ y.unfilled))
body_once at count body first (Entries jsn) (Entries other) x y = ap Entries (no_entry_once count body first jsn other x y)
body_once at count body first (Entries jsn) Magic x y = absurd y
body_once at count body first (Entries jsn) (BaseForm place′) x y = absurd y
body_once at count body first (Entries jsn) (Base kept′ found′) x y = absurd y
body_once at count body first (Entries jsn) (Root block kept′ found′) x y = absurd y
body_once at count body first (Entries jsn) (Content jsn′ kept′ found′) x y = absurd y

-- ---- the block

abbrev Why : ℕ → ℕ → List ℕ → Damage → Type 0
Why at first file d = IsHeadDamage at file d ⊎ (HasBodyAt at file × IsBodyErr at (count_in (block_head_at at file)) (body_at at file) first (Damaged d))

whys_once : (at first : ℕ) (file : List ℕ) (d e : Damage) → Why at first file d → Why at first file e → d ≡ e
whys_once at first file d e (inl a) (inl b) = head_once at file d e a b
whys_once at first file d e (inl a) (inr b) = whole_head at file d b.0 a
whys_once at first file d e (inr a) (inl b) = whole_head at file e a.0 b
whys_once at first file d e (inr a) (inr b) = body_once at (count_in (block_head_at at file)) (body_at at file) first d e a.1 b.1

pub block_once : (at first : ℕ) (file : List ℕ) (d e : Damage) → IsBlockErr at file first (Damaged d) → IsBlockErr at file first (Damaged e) → d ≡ e
block_once at first file d e x y = whys_once at first file d e x.1 y.1
