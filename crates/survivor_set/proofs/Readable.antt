-- What is written of a set keeps the rules of one, so that it is read back.
use Rattle.std.specs.Prelude.{All, nat_le, slice_get}
use Rattle.std.specs.List.{concat}
use Rattle.std.proofs.Common.{◌≡◌, ℕ, zero, suc, ◌*◌, ◌/◌, ◌%◌, ◌<◌, ◌≤◌, ◌^◌, false, List, [], ◌∷◌, length, map, take, Option, Some, None, refl, sym, ap, ◌∙◌, subst, arith, length-take, div-add-mod'}
use Rattle.std.proofs.lemmas.Bool.{lt-leb}
use Rattle.std.proofs.lemmas.List.{length-map}
use Rattle.std.proofs.lemmas.List.Elements.{All-take}
use Rattle.sha2.specs.Sha256.{sha256}
use Rattle.sha2.proofs.Facts256.{length-sha256}
use Rattle.tree_model.specs.Path.{path}
use Rattle.tree_model.specs.Tree as tree
use Rattle.tree_model.specs.Tree.{cut}
use Rattle.tree_model.proofs.Paths.{length-path, path_length_below}
use Rattle.tree_model.proofs.Pieces.{length-cut, cut-concat, concat-whole}
use Rattle.tree_model.proofs.Widths as widths
use Rattle.tree_model.proofs.Widths.{IsWide, path_wide}
use Rattle.ledger_bytes.specs.declared.digest.Digest.{Digest}
use Rattle.journal_record.specs.Entry.{Entry}
use Rattle.journal_record.specs.Header.{spelling}
use Rattle.journal_record.specs.Items.{Item, IsItem}
use Rattle.ledger_book.specs.Books.{leaf_digests}
use Rattle.ledger_model.specs.History as model
use Rattle.ledger_model.specs.History.{History, journals, id, size, point, first_leaf_digest}
use Rattle.ledger_model.specs.Lawful.{AreLawful}
use Rattle.ledger_model.proofs.HideLaws.{number_at}
use Rattle.ledger_model.proofs.LawfulLaws.{lawful_from}
use Rattle.survivor_set.specs.Sets.{Saved, SavedSet, IsSaved, AreSaved, IsSet, is_low}
use Rattle.survivor_set.specs.Outcomes.{path_below, carried_in, carried_set}
use Rattle.survivor_set.specs.Keeping.{IsKeptAt, AreKept, IsSetOf, AreShowable, AreAscending, point_refusal, number_refusal, numbers_refusal, keep_refusal, place_refusal, journal_refusal}
use Rattle.survivor_set.proofs.Checked.{neither, root_told}
use Rattle.survivor_set.proofs.Growth.{leaves_wide}
use Rattle.survivor_set.proofs.Kept.{kept_count, place_passes, point_passes}
use Rattle.survivor_set.proofs.Shows.{shown_item}

-- ---- digests

id_wide : (h : History) → 1 ≤ size h → length (id h) ≡ 32
unfolding id
id_wide h some = by (journals h) some
  where
    by : (es : List Entry) → 1 ≤ length es → length (first_leaf_digest es) ≡ 32
    by [] some = absurd (omega (arith, some))
    by (e ∷ es) some = length-sha256 (0 ∷ spelling e.header)

root_wide : (h : History) (m : ℕ) → length (model.root h m) ≡ 32
unfolding tree.root
root_wide h m =
    let leaves = take m (leaf_digests h) in
    ap length (sym (root_told h m)) ∙ widths.root_wide sha256 length-sha256 (length leaves) leaves (All-take IsWide m (leaf_digests h) (leaves_wide h))

pub path_each : (h : History) (p n : ℕ) → All IsWide (path sha256 n (take p (leaf_digests h)))
unfolding path
path_each h p n =
    let leaves = take p (leaf_digests h) in
    path_wide sha256 length-sha256 (length leaves) n leaves (All-take IsWide p (leaf_digests h) (leaves_wide h))

path_whole : (h : History) (p n : ℕ) → length (path_below h p n) % 32 ≡ 0
path_whole h p n = concat-whole 32 (omega arith) (path sha256 n (take p (leaf_digests h))) (path_each h p n)

path_few : (h : History) (p n : ℕ) → p < 2 ^ 64 → length (path_below h p n) ≤ 32 * 255
path_few h p n fits =
    let leaves = take p (leaf_digests h) in
    let digests = path sha256 n leaves in
    let count : length (concat digests) / 32 ≡ length digests = sym (length-cut 32 (concat digests)) ∙ ap length (cut-concat 32 (omega arith) digests (path_each h p n)) in
    let low : length leaves ≤ p = omega (arith, length-take p (leaf_digests h)) in
    let few : length digests ≤ 64 = omega (arith, length-path sha256 n leaves, path_length_below 64 n (length leaves) (omega (arith, fits, low))) in
    omega (arith, count, few, path_whole h p n, div-add-mod' (length (concat digests)) 32)

-- a journal with its path can stand in a set
can_stand : (h : History) (p n : ℕ) (x : Saved) → p < 2 ^ 64 → IsItem x.item → x.path ≡ path_below h p n → IsSaved x
can_stand h p n x fits item is =
    record { item = item; whole = ap (λ (b : List ℕ). length b % 32) is ∙ path_whole h p n; few = subst (λ (b : List ℕ). length b ≤ 32 * 255) (sym is) (path_few h p n fits) }

-- ---- a carried set

carried_saved : (h : History) (q : ℕ) → q < 2 ^ 64 → (last : Option ℕ) (xs : List Saved) → AreSaved last xs → AreSaved last (map (carried_in h q) xs)
carried_saved h q fits last [] are = tt
carried_saved h q fits last (x ∷ xs) are =
    (can_stand h q x.item.header.jsn (carried_in h q x) fits are.0.item refl, are.1, carried_saved h q fits (Some x.item.header.jsn) xs are.2)

pub carried_is_set : (h : History) (q : ℕ) (s : SavedSet) → IsSet s → q < 2 ^ 64 → IsSet (carried_set h q s)
unfolding carried_set
carried_is_set h q s is fits =
    let number = length-map s.survivors (carried_in h q) in
    record { id = is.id; point = fits; root = root_wide h q; some = omega (arith, number, is.some); few = omega (arith, number, is.few); are = carried_saved h q fits None s.survivors is.are }

-- ---- a set that was kept

there_is : {A : Type 0} (xs : List A) (n : ℕ) → n < length xs → (x : A) × (slice_get xs n ≡ Some x)
there_is [] n within = absurd (omega (arith, within))
there_is (x ∷ xs) zero within = (x, refl)
there_is (x ∷ xs) (suc n) within = there_is xs n (omega (arith, within))

module _ (h : History) (p : ℕ) (lawful : AreLawful (journals h)) (shows : AreShowable h) where
  number_of : (n : ℕ) (e : Entry) → slice_get (journals h) n ≡ Some e → e.header.jsn ≡ n
  number_of n e there = number_at 0 n (journals h) e (lawful_from (journals h) lawful) there ∙ (omega arith)

  -- a journal's number fits its field
  point_fits : point h ≤ p → p < size h → p < 2 ^ 64
  point_fits kept within =
      let at = there_is (journals h) p within in
      let item = shown_item h p at.0 shows kept at.1 in
      subst (λ (n : ℕ). n < 2 ^ 64) (number_of p at.0 at.1) item.widths.jsn

  module _ (fits : p < 2 ^ 64) where
    saved_one : (n : ℕ) (x : Saved) → IsKeptAt h p n x → number_refusal h p n ≡ None → IsSaved x × (x.item.header.jsn ≡ n)
    saved_one n x is none =
        let kept = place_passes h p n (neither (place_refusal h p n) (journal_refusal h (slice_get (journals h) n)) none).0 in (
          can_stand h p n x fits (subst IsItem (sym is.item_is) (shown_item h n is.e shows kept.0 is.there)) is.path_is,
          ap (λ (i : Item). i.header.jsn) is.item_is ∙ number_of n is.e is.there,
        )

    saved_each : (last : Option ℕ) (n : ℕ) (ns : List ℕ) (xs : List Saved) → AreKept h p (n ∷ ns) xs → numbers_refusal h p (n ∷ ns) ≡ None → is_low last n ≡ false → AreAscending (n ∷ ns) → AreSaved last xs
    saved_each last n ns [] are none high up = absurd are
    saved_each last n [] (x ∷ []) are none high up =
        let one = saved_one n x are.0 (neither (number_refusal h p n) None none).0 in
        (one.0, ap (is_low last) one.1 ∙ high, tt)
    saved_each last n [] (x ∷ y ∷ xs) are none high up = absurd are.1
    saved_each last n (m ∷ ns) (x ∷ xs) are none high up =
        let both = neither (number_refusal h p n) (numbers_refusal h p (m ∷ ns)) none in
        let one = saved_one n x are.0 both.0 in
        let more : nat_le m x.item.header.jsn ≡ false = lt-leb m x.item.header.jsn (omega (arith, one.1, up.0)) in
        (one.0, ap (is_low last) one.1 ∙ high, saved_each (Some x.item.header.jsn) m ns xs are.1 both.1 more up.1)

    saved_all : (ns : List ℕ) (xs : List Saved) → 1 ≤ length ns → AreKept h p ns xs → numbers_refusal h p ns ≡ None → AreAscending ns → AreSaved None xs
    saved_all [] xs some are none up = absurd (omega (arith, some))
    saved_all (n ∷ ns) xs some are none up = saved_each None n ns xs are none refl up

  pub kept_is_set : (ns : List ℕ) (s : SavedSet) → 1 ≤ length ns → length ns ≤ 64 → AreAscending ns → keep_refusal h p ns ≡ None → IsSetOf h p ns s → IsSet s
  kept_is_set ns s some few up none is =
      let both = neither (point_refusal h p) (numbers_refusal h p ns) none in
      let within = point_passes h p both.0 in
      let fits = point_fits within.0 within.1 in
      let number = kept_count h p ns s.survivors is.are in
      record {
        id = ap (λ (d : Digest). length d.0) is.id_is ∙ id_wide h (omega (arith, within.1));
        point = subst (λ (n : ℕ). n < 2 ^ 64) (sym is.point_is) fits;
        root = ap (λ (d : Digest). length d.0) is.root_is ∙ root_wide h p;
        some = omega (arith, number, some);
        few = omega (arith, number, few);
        are = saved_all fits ns s.survivors some is.are both.1 up;
      }
