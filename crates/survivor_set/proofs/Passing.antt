-- Sets that a ledger kept or carried on are refused later behind a purge alone.
use Rattle.std.specs.Prelude.{All, not, bytes_eq, if◌then◌else◌, slice_get, option_map}
use Rattle.std.specs.List.{concat}
use Rattle.std.specs.Option.{option_or}
use Rattle.std.proofs.Common.{◌≡◌, ℕ, ◌<◌, ◌≤◌, Bool, true, false, cond, List, [], ◌∷◌, ◌++◌, length, map, get_or, take, Option, Some, None, refl, sym, ap, ap₂, ◌∙◌, subst, arith, length-take, length-append}
use Rattle.std.proofs.lemmas.Bool.{lt-leb}
use Rattle.std.proofs.lemmas.List.{get_or-take, length-map}
use Rattle.std.proofs.lemmas.List.Elements.{All-map, All-head, All-tail}
use Rattle.std.proofs.lemmas.Option.{get_or_from_slice_get, slice_get-map}
use Rattle.std.proofs.lemmas.Slice.Eq.{bytes_eq-Decides}
use Rattle.sha2.specs.Sha256.{sha256}
use Rattle.tree_model.specs.Path.{path, fold, fold_bytes}
use Rattle.tree_model.specs.Tree as tree
use Rattle.tree_model.specs.Tree.{leaf}
use Rattle.tree_model.proofs.Folds.{path_gives_root, fold_bytes-concat}
use Rattle.ledger_bytes.specs.Begins.{Begins}
use Rattle.ledger_bytes.specs.Digests.{digest}
use Rattle.ledger_bytes.specs.declared.digest.Digest.{Digest}
use Rattle.ledger_bytes.specs.declared.refusal.Refusal.{Refusal}
use Rattle.journal_record.specs.Entry.{Entry}
use Rattle.journal_record.specs.Header.{spelling}
use Rattle.journal_record.specs.Items.{Item}
use Rattle.journal_record.specs.declared.header.Header.{Header}
use Rattle.dump_model.specs.Shown.{shown}
use Rattle.ledger_book.specs.Books.{leaf_digests}
use Rattle.ledger_model.specs.Getting.{content_damage, who_damage}
use Rattle.ledger_model.specs.History as model
use Rattle.ledger_model.specs.History.{History, journals, id, size, point, leaf_digest, first_leaf_digest}
use Rattle.ledger_model.specs.Lawful.{AreLawful}
use Rattle.ledger_model.specs.Targets.{is_hidden}
use Rattle.survivor_set.specs.Sets.{Saved, SavedSet}
use Rattle.survivor_set.specs.Carries.{FitsPath}
use Rattle.survivor_set.specs.Outcomes.{AreJournalsOf, IsSurvivorOf, is_root, path_refusal, body_damage, survivor_refusal, survivors_refusal, front_refusal, set_refusal, later_refusal, carry_refusal, carried_in, carried_set}
use Rattle.survivor_set.specs.Keeping.{IsKeptAt, AreKept, IsSetOf, damage_of, journal_refusal, place_refusal, number_refusal, numbers_refusal, point_refusal, keep_refusal}
use Rattle.survivor_set.specs.Lives.{purge_refusal}
use Rattle.survivor_set.specs.declared.failure.SetErr.{SetErr}
use Rattle.survivor_set.specs.declared.failure.SetErr.TheVariants.{Refused, OtherLedger, LeafPath}
use Rattle.survivor_set.proofs.Checked.{or_ok, neither, root_told, fits_each}
use Rattle.survivor_set.proofs.Kept.{place_passes, point_passes}
use Rattle.survivor_set.proofs.Growth.{later_passes}
use Rattle.survivor_set.proofs.Readable.{path_each}
use Rattle.survivor_set.proofs.Stays.{slice_more, same_leaves, stays_number, stays_one}

-- ---- a longer history

module _ (h g : History) (begins : Begins (journals h) (journals g)) where
  no_fewer : size h ≤ size g
  no_fewer = omega (arith, ap length begins.is, length-append (journals h) begins.rest)

  same_id : 1 ≤ size h → id g ≡ id h
  unfolding id
  same_id some = ap first_leaf_digest begins.is ∙ by (journals h) some
    where
      by : (es : List Entry) → 1 ≤ length es → first_leaf_digest (es ++ begins.rest) ≡ first_leaf_digest es
      by [] some = absurd (omega (arith, some))
      by (e ∷ es) some = refl

  same_root : (p : ℕ) → p ≤ size h → model.root g p ≡ model.root h p
  same_root p within = sym (root_told g p) ∙ ap (tree.root sha256) (same_leaves h g p begins within) ∙ root_told h p

-- ---- the fields in front

-- they are refused behind a purge alone
front_is : (h : History) (s : SavedSet) → s.id.0 ≡ id h → s.point < size h → s.root.0 ≡ model.root h s.point → front_refusal h s ≡ purge_refusal h s.point
unfolding front_refusal
front_is h s mine there root =
    rw ((bytes_eq-Decides s.id.0 (id h)).1 mine, lt-leb (size h) s.point there, (bytes_eq-Decides s.root.0 (model.root h s.point)).1 root) refl

own_id : (h : History) (s : SavedSet) → front_refusal h s ≡ None → s.id.0 ≡ id h
unfolding front_refusal
own_id h s none = (bytes_eq-Decides s.id.0 (id h)).0 (go (bytes_eq s.id.0 (id h)) _ none)
  where
    go : (same : Bool) (more : Option SetErr) → cond (not same) (Some (OtherLedger (digest (id h)))) more ≡ None → same ≡ true
    go true more none = refl
    go false more none = absurd cc

-- ---- one survivor

-- its leaf folds along its path to the root over the first journals
leads : (h : History) (p : ℕ) (x : Saved) → IsSurvivorOf h p x → x.item.header.jsn < p → p ≤ size h
    → fold_bytes sha256 (leaf sha256 (spelling x.item.header)) x.item.header.jsn p x.path ≡ Some (model.root h p)
leads h p x is below within =
    let n = x.item.header.jsn in
    let d = leaf sha256 (spelling x.item.header) in
    let leaves = take p (leaf_digests h) in
    let long : length leaves ≡ p = omega (arith, length-take p (leaf_digests h), length-map (journals h) leaf_digest) in
    let found : get_or (leaf_digests h) n [] ≡ leaf_digest is.e = get_or_from_slice_get (leaf_digests h) n (leaf_digest is.e) [] (slice_get-map leaf_digest (journals h) n ∙ ap (option_map leaf_digest) is.there) in
    let at : d ≡ get_or leaves n [] = ap (λ (a : Header). leaf sha256 (spelling a)) is.header_is ∙ sym (get_or-take p (leaf_digests h) n [] below ∙ found) in
    ap (fold_bytes sha256 d n p) is.path_is ∙ fold_bytes-concat sha256 d n p (path sha256 n leaves) (path_each h p n)
    ∙ ap₂ (λ (e : List ℕ) (k : ℕ). fold sha256 e n k (path sha256 n leaves)) at (sym long) ∙ path_gives_root sha256 n leaves (omega (arith, long, below)) ∙ ap Some (root_told h p)

path_passes : (h : History) (s : SavedSet) (x : Saved) → s.root.0 ≡ model.root h s.point → IsSurvivorOf h s.point x → x.item.header.jsn < s.point → s.point ≤ size h → path_refusal s x.item.header x.path ≡ None
path_passes h s x root is below within =
    ap (λ (o : Option (List ℕ)). if is_root s.root o then None else Some LeafPath) (leads h s.point x is below within)
    ∙ ap (λ (b : Bool). if b then None else Some LeafPath) ((bytes_eq-Decides (model.root h s.point) s.root.0).1 (sym root))

-- it passes where its parts have their digests
one_passes : (s : SavedSet) (x : Saved) → path_refusal s x.item.header x.path ≡ None → option_map Refused (body_damage x.item.header x.item.body) ≡ None → option_map Refused (who_damage x.item.header x.item.who) ≡ None
    → survivor_refusal s x ≡ None
unfolding survivor_refusal
one_passes s x path body who =
    or_ok (path_refusal s x.item.header x.path) _ path ∙ or_ok (option_map Refused (body_damage x.item.header x.item.body)) _ body ∙ who

-- .. and they have where it passed
parts_pass : (s : SavedSet) (x : Saved) → survivor_refusal s x ≡ None → (option_map Refused (body_damage x.item.header x.item.body) ≡ None) × (option_map Refused (who_damage x.item.header x.item.who) ≡ None)
unfolding survivor_refusal
parts_pass s x none = neither (option_map Refused (body_damage x.item.header x.item.body)) _ (neither (path_refusal s x.item.header x.path) _ none).1

-- ---- a set that was kept

no_damage : (o : Option Refusal) → option_map Refused o ≡ None → o ≡ None
no_damage None is = refl
no_damage (Some why) is = absurd cc

neither_damaged : (a b : Option Refusal) → option_or a b ≡ None → (a ≡ None) × (b ≡ None)
neither_damaged None b is = (refl, is)
neither_damaged (Some why) b is = absurd cc

-- what is shown of a whole journal is whole
body_shown : (hidden : Bool) (e : Entry) → (if hidden then None else content_damage e.header e.content) ≡ None → body_damage e.header (if hidden then None else Some e.content) ≡ None
body_shown true e none = refl
body_shown false e none = none

item_passes : (h : History) (e : Entry) → option_map Refused (damage_of (is_hidden h e.header.jsn) e) ≡ None
    → (option_map Refused (body_damage (shown h e).header (shown h e).body) ≡ None) × (option_map Refused (who_damage (shown h e).header (shown h e).who) ≡ None)
item_passes h e none =
    let hidden = is_hidden h e.header.jsn in
    let both = neither_damaged (if hidden then None else content_damage e.header e.content) (who_damage e.header e.who) (no_damage (damage_of hidden e) none) in
    (ap (option_map Refused) (body_shown hidden e both.0), ap (option_map Refused) both.1)

module _ (h g : History) (p : ℕ) (lawful : AreLawful (journals h)) (begins : Begins (journals h) (journals g)) (s : SavedSet) (at : s.point ≡ p) (root : s.root.0 ≡ model.root g s.point) (within : p ≤ size h) where
  kept_passes : (n : ℕ) (x : Saved) → IsKeptAt h p n x → number_refusal h p n ≡ None → survivor_refusal s x ≡ None
  kept_passes n x is none =
      let both = neither (place_refusal h p n) (journal_refusal h (slice_get (journals h) n)) none in
      let of = stays_one h g p begins within lawful n x is in
      let here : IsSurvivorOf g s.point x = subst (λ (q : ℕ). IsSurvivorOf g q x) (sym at) of in
      let number : x.item.header.jsn ≡ n = stays_number h g p begins within lawful n x is in
      let below : x.item.header.jsn < s.point = omega (arith, number, at, (place_passes h p n both.0).1) in
      let path = path_passes g s x root here below (omega (arith, at, within, no_fewer h g begins)) in
      let parts = item_passes h is.e (ap (journal_refusal h) (sym is.there) ∙ both.1) in
      let shows = sym is.item_is in
      one_passes s x path
      (subst (λ (i : Item). option_map Refused (body_damage i.header i.body) ≡ None) shows parts.0)
      (subst (λ (i : Item). option_map Refused (who_damage i.header i.who) ≡ None) shows parts.1)

  kept_pass : (ns : List ℕ) (xs : List Saved) → AreKept h p ns xs → numbers_refusal h p ns ≡ None → survivors_refusal s xs ≡ None
  kept_pass [] [] are none = refl
  kept_pass [] (x ∷ xs) are none = absurd are
  kept_pass (n ∷ ns) [] are none = absurd are
  kept_pass (n ∷ ns) (x ∷ xs) are none =
      let both = neither (number_refusal h p n) (numbers_refusal h p ns) none in
      or_ok (survivor_refusal s x) (survivors_refusal s xs) (kept_passes n x are.0 both.0) ∙ kept_pass ns xs are.1 both.1

or_none : (o : Option SetErr) → option_or o None ≡ o
or_none None = refl
or_none (Some e) = refl

set_is : (h : History) (s : SavedSet) → front_refusal h s ≡ purge_refusal h s.point → survivors_refusal s s.survivors ≡ None → set_refusal h s ≡ purge_refusal h s.point
unfolding set_refusal
set_is h s front survivors = ap₂ option_or front survivors ∙ or_none (purge_refusal h s.point)

pub kept_set_refused : (h g : History) (p : ℕ) (ns : List ℕ) (s : SavedSet) → AreLawful (journals h) → Begins (journals h) (journals g) → keep_refusal h p ns ≡ None → IsSetOf h p ns s → set_refusal g s ≡ purge_refusal g p
kept_set_refused h g p ns s lawful begins none is =
    let both = neither (point_refusal h p) (numbers_refusal h p ns) none in
    let there : p < size h = (point_passes h p both.0).1 in
    let more = no_fewer h g begins in
    let mine : s.id.0 ≡ id g = ap (λ (d : Digest). d.0) is.id_is ∙ sym (same_id h g begins (omega (arith, there))) in
    let root : s.root.0 ≡ model.root g s.point = ap (λ (d : Digest). d.0) is.root_is ∙ sym (same_root h g begins p (omega (arith, there))) ∙ ap (model.root g) (sym is.point_is) in
    set_is g s (front_is g s mine (omega (arith, is.point_is, there, more)) root) (kept_pass h g p lawful begins s is.point_is root (omega (arith, there)) ns s.survivors is.are both.1)
    ∙ ap (purge_refusal g) is.point_is

-- ---- a set that was carried on

module _ (g k : History) (q : ℕ) (begins : Begins (journals g) (journals k)) (within : q ≤ size g) where
  carried_stays : (p : ℕ) (x : Saved) → IsSurvivorOf g p x → IsSurvivorOf k q (carried_in g q x)
  carried_stays p x is = record {
    e = is.e;
    there = ap (λ js. slice_get js x.item.header.jsn) begins.is ∙ slice_more (journals g) begins.rest x.item.header.jsn is.e is.there;
    header_is = is.header_is;
    path_is = ap (λ ds. concat (path sha256 x.item.header.jsn ds)) (sym (same_leaves g k q begins within));
  }

  pub carried_stay : (s : SavedSet) → AreJournalsOf g s → AreJournalsOf k (carried_set g q s)
  unfolding carried_set
  carried_stay s are = All-map (IsSurvivorOf k q) (carried_in g q) s.survivors (λ i d lt. carried_stays s.point (get_or s.survivors i d) (are i d lt))

  module _ (s t : SavedSet) (at : t.point ≡ q) (root : t.root.0 ≡ model.root k t.point) (from : s.point ≤ q) where
    carried_passes : (x : Saved) → IsSurvivorOf g s.point x → FitsPath s.point x → survivor_refusal s x ≡ None → survivor_refusal t (carried_in g q x) ≡ None
    carried_passes x is fits none =
        let here : IsSurvivorOf k t.point (carried_in g q x) = subst (λ (n : ℕ). IsSurvivorOf k n (carried_in g q x)) (sym at) (carried_stays s.point x is) in
        let below : x.item.header.jsn < t.point = omega (arith, fits.below, from, at) in
        let parts = parts_pass s x none in
        one_passes t (carried_in g q x) (path_passes k t (carried_in g q x) root here below (omega (arith, at, within, no_fewer g k begins))) parts.0 parts.1

    carried_pass : (xs : List Saved) → All (IsSurvivorOf g s.point) xs → All (FitsPath s.point) xs → survivors_refusal s xs ≡ None → survivors_refusal t (map (carried_in g q) xs) ≡ None
    carried_pass [] are fit none = refl
    carried_pass (x ∷ xs) are fit none =
        let both = neither (survivor_refusal s x) (survivors_refusal s xs) none in
        or_ok (survivor_refusal t (carried_in g q x)) (survivors_refusal t (map (carried_in g q) xs))
        (carried_passes x (All-head (IsSurvivorOf g s.point) x xs are) (All-head (FitsPath s.point) x xs fit) both.0)
        ∙ carried_pass xs (All-tail (IsSurvivorOf g s.point) x xs are) (All-tail (FitsPath s.point) x xs fit) both.1

set_parts : (h : History) (s : SavedSet) → set_refusal h s ≡ None → (front_refusal h s ≡ None) × (survivors_refusal s s.survivors ≡ None)
unfolding set_refusal
set_parts h s none = neither (front_refusal h s) (survivors_refusal s s.survivors) none

pub carried_set_refused : (g k : History) (q : ℕ) (s : SavedSet) → Begins (journals g) (journals k) → carry_refusal g s q ≡ None → AreJournalsOf g s → set_refusal k (carried_set g q s) ≡ purge_refusal k q
unfolding carried_set
carried_set_refused g k q s begins none are =
    let both = neither (set_refusal g s) (later_refusal g s q) none in
    let parts = set_parts g s both.0 in
    let later = later_passes g s q both.1 in
    let t : SavedSet = record { id = s.id; point = q; root = digest (model.root g q); survivors = map (carried_in g q) s.survivors } in
    let within : q ≤ size g = omega (arith, later.1) in
    let more = no_fewer g k begins in
    let mine : t.id.0 ≡ id k = own_id g s parts.0 ∙ sym (same_id g k begins (omega (arith, later.1))) in
    let root : t.root.0 ≡ model.root k q = sym (same_root g k begins q within) in
    set_is k t (front_is k t mine (omega (arith, later.1, more)) root)
    (carried_pass g k q begins within s t refl root later.0 s.survivors are (fits_each s s.survivors parts.1) parts.1)
