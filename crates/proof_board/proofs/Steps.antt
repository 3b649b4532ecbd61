-- Each step keeps the rule.
use Rattle.std.proofs.Common.{◌≡◌, ◌≢◌, ℕ, zero, suc, true, true≢false, List, [], ◌∷◌, ◌++◌, set, sym, refl, ◌∙◌, subst, ⊎_elim}
use Rattle.std.specs.Prelude.{All}
use mathlib.Core.Option.{some, some-ne-none, some-injective}
use mathlib.Core.List.{IsPrefix}
use lib.ListN.{get_elem?}
use Rattle.crossbeam_utils.specs.Register.{Admits, Turns, TurnsAt, Forks, Merges}
use Rattle.atomic_table.proofs.Lists.{at_set, at_snoc}
use Rattle.proof_board.specs.declared.view.Growth.{Growth}
use Rattle.proof_board.specs.declared.view.View.{View}
use Rattle.proof_board.specs.History.{IsWide, all_leaves}
use Rattle.proof_board.specs.Rule.{aware_of, unaware, Knows, KeepsRule, Saw}
use Rattle.proof_board.proofs.Fronts.{prefix_self, prefix_trans}

abbrev Each : (View → Type 0) → List View → Type 0
Each F views = (port : ℕ) (v : View) → get_elem? views port ≡ some v → F v

each_set : (F : View → Type 0) (views : List View) (port : ℕ) (w : View) → F w → Each F views → Each F (set views port w)
each_set F views port w mine others j u e = ⊎_elim (λ (x : (j ≡ port) × (w ≡ u)). subst F x.1 mine) (λ (x : (j ≢ port) × (get_elem? views j ≡ some u)). others j u x.1) (at_set views port j w u e)

each_more : (F : View → Type 0) (views : List View) (w : View) → F w → Each F views → Each F (views ++ w ∷ [])
each_more F views w mine old j u e = ⊎_elim (λ x. old j u x) (λ (x : w ≡ u). subst F x mine) (at_snoc views w u j e)

each_one : (F : View → Type 0) (w : View) → F w → Each F (w ∷ [])
each_one F w mine zero u e = subst F (some-injective w u e) mine
each_one F w mine (suc j) u e = absurd (some-ne-none u (sym e))

abbrev Fits : Growth → View → Type 0
Fits x v = v.aware ≡ true → Knows v x

nothing : (x : Growth) → Fits x unaware
nothing x p = absurd (true≢false (sym p))

-- a snapshot whose leaves are those of its batches
pub begins : (x : Growth) → x.leaves ≡ all_leaves x.at.log → All IsWide x.leaves → KeepsRule x (unaware ∷ [])
begins x whole wide = record { whole = whole; wide = wide; each_seat = each_one (Fits x) unaware (nothing x) }

pub admits : Admits KeepsRule unaware
admits x views h = record { whole = h.whole; wide = h.wide; each_seat = each_more (Fits x) views unaware (nothing x) h.each_seat }

-- the value goes on
pub goes : (port : ℕ) (v : View) (x y : Growth) → y.base ≡ x.base → y.at.book ≡ x.at.book → IsPrefix x.at.log y.at.log → (x.leaves ≡ all_leaves x.at.log → y.leaves ≡ all_leaves y.at.log) → (All IsWide x.leaves → All IsWide y.leaves) → TurnsAt KeepsRule port v x y (λ v x y w. Saw v y w)
goes port v x y base book log whole wide views h at =
    let w = aware_of y.base y.at in
    let on : (u : View) → Knows u x → Knows u y = λ u k. record { base = k.base ∙ sym base; book = k.book ∙ sym book; log = prefix_trans u.at.log x.at.log y.at.log k.log log } in (
      w,
      record {
        whole = whole h.whole;
        wide = wide h.wide;
        each_seat = each_set (Fits y) views port w (λ _. record { base = refl; book = refl; log = prefix_self y.at.log }) (λ j u e p. on u (h.each_seat j u e p));
      },
      record { whole = whole h.whole; wide = wide h.wide; known = λ p. on v (h.each_seat port v at p); is = refl },
    )

pub looks : (port : ℕ) (v : View) → Turns KeepsRule port v (λ x. x) (λ v x y w. Saw v y w)
looks port v x = goes port v x x refl refl (prefix_self x.at.log) (λ e. e) (λ e. e)

pub tells : (port : ℕ) (v : View) → Forks KeepsRule port v v v
tells port v x views h at = record { whole = h.whole; wide = h.wide; each_seat = each_more (Fits x) (set views port v) v (h.each_seat port v at) (each_set (Fits x) views port v (h.each_seat port v at) h.each_seat) }

pub starts : (port : ℕ) (v : View) (other : ℕ) (w : View) → Merges KeepsRule port v other w w unaware
starts port v other w x views h at apart there =
    let note : get_elem? views other ≡ some w = ⊎_elim (λ (t : (other ≡ port) × (w ≡ w)). absurd (apart t.0)) (λ (t : (other ≢ port) × (get_elem? views other ≡ some w)). t.1) (at_set views port other w w there) in
    record { whole = h.whole; wide = h.wide; each_seat = each_set (Fits x) (set views port w) other unaware (nothing x) (each_set (Fits x) views port w (h.each_seat other w note) h.each_seat) }

-- a seat knows more than before
pub record IsLater (v w : View) : Type 0 where
  pub aware : w.aware ≡ true
  pub base : w.base ≡ v.base
  pub book : w.at.book ≡ v.at.book
  pub log : IsPrefix v.at.log w.at.log

-- a snapshot that is published as it is
pub stays : (port : ℕ) (v : View) (x y : Growth) → y ≡ x → TurnsAt KeepsRule port v x y (λ v x y w. Saw v y w)
stays port v x y same = subst (λ (z : Growth). TurnsAt KeepsRule port v x z (λ v x y w. Saw v y w)) (sym same) (goes port v x x refl refl (prefix_self x.at.log) (λ e. e) (λ e. e))
