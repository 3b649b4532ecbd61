-- What judging a set answers, and what a set that was judged is worth.
use Rattle.std.specs.Prelude.{IsErr, IsErrAnd, OnOk, bytes_eq, not, All, slice_get, option_map, Result, Ok, Err}
use Rattle.std.specs.Option.{option_or, is_some}
use Rattle.std.proofs.Common.{◌≡◌, ℕ, ◌+◌, ◌<◌, ◌≤◌, Bool, true, false, cond, List, [], ◌∷◌, map, take, drop, Option, Some, None, refl, sym, ap, ap₂, ◌∙◌, subst}
use Rattle.std.proofs.lemmas.Bool.{le-leb, lt-leb, lt-ltb, le-ltb}
use Rattle.std.proofs.lemmas.List.{at_drop_more, length-map, take-map}
use Rattle.std.proofs.lemmas.List.Elements.{All-nil, All-cons}
use Rattle.std.proofs.lemmas.Option.{get_or_from_slice_get, slice_get_within}
use Rattle.sha2.specs.Sha256.{sha256}
use Rattle.tree_model.specs.Path.{fold_bytes}
use Rattle.tree_model.specs.Tree as tree
use Rattle.tree_model.proofs.Folds.{fold_bytes_parts}
use Rattle.merkle_batch.specs.Rows.{Levels, StandsFor}
use Rattle.ledger_bytes.specs.Digests.{digest}
use Rattle.ledger_bytes.specs.declared.digest.Digest.{Digest}
use Rattle.ledger_bytes.specs.declared.refusal.Refusal.TheVariants.{NoJournal, Purged, RootDiffers}
use Rattle.journal_record.specs.Entry.{Entry, who_digest_of}
use Rattle.journal_record.specs.Header.{spelling}
use Rattle.journal_record.specs.declared.header.Header.{Header}
use Rattle.ledger_model.specs.Getting.{damage, who_damage}
use Rattle.ledger_model.specs.History as model
use Rattle.ledger_model.specs.History.{History, journals, id, size, point, leaf_digest}
use Rattle.ledger_book.specs.Books.{leaf_digests}
use Rattle.survivor_set.specs.Sets.{Saved, SavedSet}
use Rattle.survivor_set.specs.Carries.{Fits, FitsPath}
use Rattle.survivor_set.specs.Outcomes.{Tells, is_root, path_refusal, body_damage, survivor_refusal, survivors_refusal, front_refusal, set_refusal}
use Rattle.survivor_set.specs.declared.failure.SetErr.{SetErr}
use Rattle.survivor_set.specs.declared.failure.SetErr.TheVariants.{Refused, OtherLedger, LeafPath}

-- an error that is handed on
pub handed_err : {A : Type 0} (r : Result A SetErr) (e : SetErr) (why : Option SetErr) → IsErr r × IsErrAnd r (λ f. f ≡ e) → why ≡ Some e → Tells r why
handed_err (Ok x) e why is p = absurd (cc is.0)
handed_err (Err f) e why is p = p ∙ ap Some (sym is.1)

-- the first refusal of two
pub or_err : (a b : Option SetErr) (e : SetErr) → a ≡ Some e → option_or a b ≡ Some e
or_err a b e is = ap (λ o. option_or o b) is

pub or_ok : (a b : Option SetErr) → a ≡ None → option_or a b ≡ b
or_ok a b is = ap (λ o. option_or o b) is

pub tells_of : {A : Type 0} (r : Result A SetErr) (a b : Option SetErr) → a ≡ b → Tells r b → Tells r a
tells_of r a b is = subst (Tells r) (sym is)

-- ---- survivors one after the other

pub drop_here : (xs : List Saved) (i : ℕ) (x : Saved) → slice_get xs i ≡ Some x → drop i xs ≡ x ∷ drop (i + 1) xs
drop_here xs i x is = at_drop_more (λ t. t) xs i x (slice_get_within xs i x is) ∙ ap (λ y. y ∷ drop (i + 1) xs) (get_or_from_slice_get xs i x x is)

module _ (s : SavedSet) (xs : List Saved) (i : ℕ) (x : Saved) (here : slice_get xs i ≡ Some x) (far : survivors_refusal s s.survivors ≡ survivors_refusal s (drop i xs)) where
  behind : survivors_refusal s s.survivors ≡ option_or (survivor_refusal s x) (survivors_refusal s (drop (i + 1) xs))
  behind = far ∙ ap (survivors_refusal s) (drop_here xs i x here)

  pub refused_here : (e : SetErr) → survivor_refusal s x ≡ Some e → survivors_refusal s s.survivors ≡ Some e
  refused_here e is = behind ∙ or_err (survivor_refusal s x) (survivors_refusal s (drop (i + 1) xs)) e is

  pub passed_here : survivor_refusal s x ≡ None → survivors_refusal s s.survivors ≡ survivors_refusal s (drop (i + 1) xs)
  passed_here is = behind ∙ or_ok (survivor_refusal s x) (survivors_refusal s (drop (i + 1) xs)) is

-- ---- one survivor

module _ (s : SavedSet) (x : Saved) where
  pub path_first : (e : SetErr) → path_refusal s x.item.header x.path ≡ Some e → survivor_refusal s x ≡ Some e
  unfolding survivor_refusal
  path_first e is = or_err (path_refusal s x.item.header x.path) _ e is

  pub body_next : (e : SetErr) → path_refusal s x.item.header x.path ≡ None → option_map Refused (body_damage x.item.header x.item.body) ≡ Some e → survivor_refusal s x ≡ Some e
  unfolding survivor_refusal
  body_next e path is = or_ok (path_refusal s x.item.header x.path) _ path ∙ or_err (option_map Refused (body_damage x.item.header x.item.body)) _ e is

  pub who_last : {A : Type 0} (r : Result A SetErr) → path_refusal s x.item.header x.path ≡ None → option_map Refused (body_damage x.item.header x.item.body) ≡ None
      → Tells r (option_map Refused (who_damage x.item.header x.item.who)) → Tells r (survivor_refusal s x)
  unfolding survivor_refusal
  who_last r path body who =
      tells_of r _ _ (or_ok (path_refusal s x.item.header x.path) _ path ∙ or_ok (option_map Refused (body_damage x.item.header x.item.body)) _ body) who

  pub path_seen : (header : Header) (path : List ℕ) → header ≡ x.item.header → path ≡ x.path → path_refusal s x.item.header x.path ≡ path_refusal s header path
  path_seen header path one two = ap₂ (λ (a : Header) (p : List ℕ). path_refusal s a p) (sym one) (sym two)

pub body_seen_as : (x : Saved) (header : Header) (body : Option (List ℕ)) → header ≡ x.item.header → body ≡ x.item.body → option_map Refused (body_damage x.item.header x.item.body) ≡ option_map Refused (body_damage header body)
body_seen_as x header body one two = ap₂ (λ (a : Header) (b : Option (List ℕ)). option_map Refused (body_damage a b)) (sym one) (sym two)

pub who_seen : (x : Saved) (header : Header) (who : List ℕ) (found : Digest) → header ≡ x.item.header → who ≡ x.item.who → found.0 ≡ who_digest_of who → option_map Refused (damage header.who_digest found.0) ≡ option_map Refused (who_damage x.item.header x.item.who)
who_seen x header who found one two is =
    ap (λ (d : List ℕ). option_map Refused (damage header.who_digest d)) is ∙ ap₂ (λ (a : Header) (w : List ℕ). option_map Refused (damage a.who_digest (who_digest_of w))) one two

-- ---- the fields in front

pub size_of : (h : History) (t : Levels) → StandsFor sha256 t (leaf_digests h) → t.size ≡ size h
unfolding StandsFor
size_of h t stands = sym (stands.0) ∙ length-map (journals h) leaf_digest

digests_of : (js : List Entry) → map leaf_digest js ≡ map (tree.leaf sha256) (map (λ (j : Entry). spelling j.header) js)
digests_of [] = refl
digests_of (j ∷ js) = ap (λ rest. leaf_digest j ∷ rest) (digests_of js)

-- the root over the first leaves is the history's
pub root_told : (h : History) (m : ℕ) → tree.root sha256 (take m (leaf_digests h)) ≡ model.root h m
unfolding model.root
root_told h m =
    ap (λ ds. tree.root sha256 (take m ds)) (digests_of (journals h))
    ∙ ap (tree.root sha256) (take-map (tree.leaf sha256) m (map (λ (j : Entry). spelling j.header) (journals h)))

pub root_of : (h : History) (s : SavedSet) (p : ℕ) (root : Digest) → p ≡ s.point → root.0 ≡ tree.root sha256 (take p (leaf_digests h)) → root.0 ≡ model.root h s.point
root_of h s p root is told = told ∙ root_told h p ∙ ap (model.root h) is

not_false : (b : Bool) → true ≡ not b → b ≡ false
not_false true e = absurd cc
not_false false e = refl

not_true : (b : Bool) → false ≡ not b → b ≡ true
not_true true e = refl
not_true false e = absurd cc

differing : (mine kept : Digest) (its ours : List ℕ) → mine.0 ≡ its → kept.0 ≡ ours → bytes_eq mine.0 kept.0 ≡ bytes_eq its ours
differing mine kept its ours one two = ap₂ bytes_eq one two

module _ (h : History) (s : SavedSet) where
  pub other_id : (mine kept : Digest) → mine ≡ s.id → kept.0 ≡ id h → true ≡ not (bytes_eq mine.0 kept.0) → front_refusal h s ≡ Some (OtherLedger kept)
  unfolding front_refusal
  other_id mine kept is ours ne =
      let e : bytes_eq s.id.0 (id h) ≡ false = sym (differing mine kept s.id.0 (id h) (ap (λ (d : Digest). d.0) is) ours) ∙ not_false (bytes_eq mine.0 kept.0) ne in
      rw e (ap (λ d. Some (OtherLedger (digest d))) (sym ours))

  pub same_id : (mine kept : Digest) → mine ≡ s.id → kept.0 ≡ id h → false ≡ not (bytes_eq mine.0 kept.0) → bytes_eq s.id.0 (id h) ≡ true
  same_id mine kept is ours eq = sym (differing mine kept s.id.0 (id h) (ap (λ (d : Digest). d.0) is) ours) ∙ not_true (bytes_eq mine.0 kept.0) eq

  module _ (one : bytes_eq s.id.0 (id h) ≡ true) where
    pub absent : (n : ℕ) → n ≡ size h → size h ≤ s.point → front_refusal h s ≡ Some (Refused (NoJournal n))
    unfolding front_refusal
    absent n is above = rw (one, le-leb (size h) s.point above) (ap (λ k. Some (Refused (NoJournal k))) (sym is))

    module _ (there : s.point < size h) where
      pub purged : (p : ℕ) → p ≡ point h → s.point < point h → front_refusal h s ≡ Some (Refused (Purged p))
      unfolding front_refusal
      purged p is below = rw (one, lt-leb (size h) s.point there, lt-ltb s.point (point h) below) (ap (λ k. Some (Refused (Purged k))) (sym is))

      module _ (kept : point h ≤ s.point) (mine root : Digest) (is : mine ≡ s.root) (ours : root.0 ≡ model.root h s.point) where
        pub other_root : true ≡ not (bytes_eq mine.0 root.0) → front_refusal h s ≡ Some (Refused (RootDiffers root))
        unfolding front_refusal
        other_root ne =
            let e : bytes_eq s.root.0 (model.root h s.point) ≡ false = sym (differing mine root s.root.0 (model.root h s.point) (ap (λ (d : Digest). d.0) is) ours) ∙ not_false (bytes_eq mine.0 root.0) ne in
            rw (one, lt-leb (size h) s.point there, le-ltb s.point (point h) kept, e) (ap (λ d. Some (Refused (RootDiffers (digest d)))) (sym ours))

        pub same_root : false ≡ not (bytes_eq mine.0 root.0) → front_refusal h s ≡ None
        unfolding front_refusal
        same_root eq =
            let e : bytes_eq s.root.0 (model.root h s.point) ≡ true = sym (differing mine root s.root.0 (model.root h s.point) (ap (λ (d : Digest). d.0) is) ours) ∙ not_true (bytes_eq mine.0 root.0) eq in
            rw (one, lt-leb (size h) s.point there, le-ltb s.point (point h) kept, e) refl

-- ---- the whole set

pub front_first : (h : History) (s : SavedSet) (e : SetErr) → front_refusal h s ≡ Some e → set_refusal h s ≡ Some e
unfolding set_refusal
front_first h s e is = or_err (front_refusal h s) (survivors_refusal s s.survivors) e is

pub front_then : {A : Type 0} (h : History) (s : SavedSet) (r : Result A SetErr) → front_refusal h s ≡ None → Tells r (survivors_refusal s s.survivors) → Tells r (set_refusal h s)
unfolding set_refusal
front_then h s r none = tells_of r _ _ (or_ok (front_refusal h s) (survivors_refusal s s.survivors) none)

-- neither of two refusals
pub neither : (a b : Option SetErr) → option_or a b ≡ None → (a ≡ None) × (b ≡ None)
neither None b is = (refl, is)
neither (Some e) b is = absurd cc

leads : (root : Digest) (found : Option (List ℕ)) → is_root root found ≡ true → is_some found ≡ true
leads root None is = absurd cc
leads root (Some d) is = refl

path_passes : (b : Bool) → (let none : Option SetErr = None in cond b none (Some LeafPath) ≡ none) → b ≡ true
path_passes true is = refl
path_passes false is = absurd cc

fits_one : (s : SavedSet) (x : Saved) → survivor_refusal s x ≡ None → FitsPath s.point x
unfolding survivor_refusal
fits_one s x none =
    let leaf = tree.leaf sha256 (spelling x.item.header) in
    let found = fold_bytes sha256 leaf x.item.header.jsn s.point x.path in
    let path = (neither (path_refusal s x.item.header x.path) _ none).0 in
    let there = leads s.root found (path_passes (is_root s.root found) path) in
    let parts = fold_bytes_parts sha256 leaf x.item.header.jsn s.point x.path there in
    record { below = parts.0; len = parts.1 }

pub fits_each : (s : SavedSet) (xs : List Saved) → survivors_refusal s xs ≡ None → All (FitsPath s.point) xs
fits_each s [] none = All-nil (FitsPath s.point)
fits_each s (x ∷ xs) none =
    let both = neither (survivor_refusal s x) (survivors_refusal s xs) none in
    All-cons (FitsPath s.point) x xs (fits_one s x both.0) (fits_each s xs both.1)

pub fits_all : {A : Type 0} (t : Levels) (s : SavedSet) (r : Result A SetErr) → t.floor ≤ s.point → s.point < t.size → Tells r (survivors_refusal s s.survivors) → OnOk r (Fits t s)
fits_all t s (Ok x) floor more none = record { floor = floor; more = more; paths = fits_each s s.survivors none }
fits_all t s (Err e) floor more why = tt
