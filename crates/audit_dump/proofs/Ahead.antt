-- Bytes that are cut into journals, and what is made of these ahead.
use Rattle.std.specs.List.{flat_map}
use Rattle.std.specs.Prelude.{slice_index_or}
use Rattle.std.proofs.Common.{◌≡◌, ℕ, ◌<◌, ◌≤◌, List, [], ◌∷◌, ◌++◌, length, length-append, map, All, refl, take, drop, take_at, drop_at, append_assoc, arith, sym, ap, ap₂, subst, suc, ◌∙◌}
use Rattle.std.proofs.lemmas.Grind.{flat_map-append}
use Rattle.std.proofs.lemmas.List.{append-nil, length-map, map-append, take-append-drop}
use Rattle.std.proofs.lemmas.List.Elements.{All-cons, All-get_or, All-nil, All-push}
use Rattle.std.proofs.Math.ListN.{get_or-map}
use denote.Ref.{Bor}
use Rattle.ledger_model.specs.Scheme.{Scheme}
use Rattle.audit_dump.specs.Journals.{IsOfItem}
use Rattle.audit_dump.specs.Walking.{HasItem}
use Rattle.audit_dump.specs.Prepared.{ArePrepared, IsPreparedWhole, IsPreparedIn}
use Rattle.audit_dump.specs.declared.preparing.Prepared.{Prepared}

-- one journal more is cut off
pub cut_more : (bytes : List ℕ) (items : List (List ℕ)) (rest item behind : List ℕ) (n : ℕ) → bytes ≡ flat_map (λ item. item) items ++ rest → item ≡ take n rest → behind ≡ drop n rest
    → bytes ≡ flat_map (λ item. item) (items ++ item ∷ []) ++ behind
cut_more bytes items rest item behind n parts front back =
    let whole : item ++ behind ≡ rest = ap₂ (λ (a b : List ℕ). a ++ b) front back ∙ take-append-drop n rest in
    let more : flat_map (λ (it : List ℕ). it) (items ++ item ∷ []) ≡ flat_map (λ (it : List ℕ). it) items ++ item = flat_map-append (λ (it : List ℕ). it) items (item ∷ []) ∙ ap (λ (t : List ℕ). flat_map (λ (it : List ℕ). it) items ++ t) (append-nil item) in
    parts ∙ ap (λ (t : List ℕ). flat_map (λ (it : List ℕ). it) items ++ t) (sym whole) ∙ sym (append_assoc (flat_map (λ (it : List ℕ). it) items) item behind) ∙ ap (λ (t : List ℕ). t ++ behind) (sym more)

-- the pieces that are lent
abbrev pub lent : List (Bor (List ℕ)) → List (List ℕ)
lent items = map (λ item. item.now) items

-- bytes begin with these pieces, which are journals, and there is one at least
pub record AreOff (bytes : List ℕ) (items : List (Bor (List ℕ))) (rest : List ℕ) : Type 0 where
  pub parts : bytes ≡ flat_map (λ item. item) (lent items) ++ rest
  pub each : All IsOfItem (lent items)
  pub some : 1 ≤ length items

-- the first one is cut off
pub cut_first : (bytes : List ℕ) (n : ℕ) (item : Bor (List ℕ)) (rest : List ℕ) (items : List (Bor (List ℕ))) → items ≡ item ∷ [] → item.now ≡ take n bytes → rest ≡ drop n bytes → HasItem bytes n
    → AreOff bytes items rest
cut_first bytes n item rest items is front back has = subst (λ (l : List (Bor (List ℕ))). AreOff bytes l rest) (sym is) (record {
  parts = cut_more bytes [] bytes item.now rest n refl front back;
  each = All-cons IsOfItem item.now [] (has.1.0, has.1.1, front ∙ has.1.2) (All-nil IsOfItem);
  some = omega arith;
})

-- and the next one
pub cut_then : (bytes rest : List ℕ) (n : ℕ) (item : Bor (List ℕ)) (behind : List ℕ) (items more : List (Bor (List ℕ))) → more ≡ items ++ item ∷ [] → item.now ≡ take n rest → behind ≡ drop n rest → HasItem rest n
    → AreOff bytes items rest → AreOff bytes more behind
cut_then bytes rest n item behind items more is front back has off =
    let all : lent more ≡ lent items ++ item.now ∷ [] = ap lent is ∙ map-append (λ (i : Bor (List ℕ)). i.now) items (item ∷ []) in record {
      parts = cut_more bytes (lent items) rest item.now behind n off.parts front back ∙ ap (λ (l : List (List ℕ)). flat_map (λ (it : List ℕ). it) l ++ behind) (sym all);
      each = subst (All IsOfItem) (sym all) (All-push IsOfItem (lent items) item.now off.each (has.1.0, has.1.1, front ∙ has.1.2));
      some = omega (arith, ap length is, length-append items (item ∷ []));
    }

-- each of them is a journal
pub each_of : (items : List (Bor (List ℕ))) (i : ℕ) (d : Bor (List ℕ)) → All IsOfItem (lent items) → i < length items → IsOfItem (slice_index_or items i d).now
each_of items i d all lt =
    subst IsOfItem (get_or-map (λ (item : Bor (List ℕ)). item.now) items i d) (All-get_or IsOfItem (lent items) i d.now (omega (arith, lt, length-map items (λ (item : Bor (List ℕ)). item.now))) all)

-- what is known of journals one by one is known of the bytes that begin with them
pub prepared_each : (scheme : Scheme) (id : List ℕ) (items : List (Bor (List ℕ))) (list : List Prepared) (rest : List ℕ) → length list ≡ length items
    → ((i : ℕ) (d : Bor (List ℕ)) (e : Prepared) → i < length items → IsPreparedWhole scheme id (slice_index_or items i d).now (slice_index_or list i e))
    → ArePrepared scheme id (flat_map (λ item. item) (lent items) ++ rest) list
prepared_each scheme id [] [] rest same each = tt
prepared_each scheme id [] (p ∷ list) rest same each = absurd (omega (arith, same))
prepared_each scheme id (x ∷ items) [] rest same each = absurd (omega (arith, same))
prepared_each scheme id (x ∷ items) (p ∷ list) rest same each =
    let first = each 0 x p (omega arith) in
    let more = flat_map (λ (item : List ℕ). item) (lent items) ++ rest in
    let parts : flat_map (λ (item : List ℕ). item) (lent (x ∷ items)) ++ rest ≡ x.now ++ more = append_assoc x.now (flat_map (λ (item : List ℕ). item) (lent items)) rest in
    subst (λ (bytes : List ℕ). ArePrepared scheme id bytes (p ∷ list)) (sym parts) (
      omega (arith, first.0, length-append x.now more),
      subst (λ (bytes : List ℕ). IsPreparedIn scheme id bytes p) (sym (take_at x.now more p.len (sym first.0))) first.1,
      subst (λ (bytes : List ℕ). ArePrepared scheme id bytes list) (sym (drop_at x.now more p.len (sym first.0)))
          (prepared_each scheme id items list rest (omega (arith, same)) (λ i d e lt. each (suc i) d e (omega (arith, lt)))),
    )
