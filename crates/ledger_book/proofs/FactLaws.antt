-- Lemmas on the journal that an occult names: what a book tells of it is what the history says.
use Rattle.std.specs.Prelude.{IsTrue, filter, nat_le, nat_lt, slice_get, get_or, ◌&&◌}
use Rattle.std.proofs.lemmas.List.{get_or-drop, length-map}
use Rattle.clue_index.specs.Added.{Added, trail_of}
use Rattle.clue_index.specs.Index as index
use Rattle.clue_index.specs.Trail.{count_of, kept_from}
use Rattle.sha2.specs.Sha256.{sha256}
use Rattle.std.specs.Result.{result_err}
use Rattle.std.specs.Option.{is_some, is_none}
use Rattle.std.proofs.Common.{◌≡◌, ℕ, zero, suc, ◌+◌, ◌-◌, ◌^◌, ◌<◌, ◌≤◌, ◌↔◌, not, Bool, true, false, cond, List, [], ◌∷◌, ◌++◌, length, map, drop, Option, Some, None, refl, sym, ◌∙◌, ap, arith}
use Rattle.std.proofs.lemmas.Bool.{lt-leb, le-ltb, leb-false, ltb-false, true≢false}
use Rattle.std.proofs.lemmas.Slice.Eq.{bytes_eq-Decides}
use Rattle.ledger_bytes.specs.Digests.{digest}
use Rattle.ledger_bytes.specs.declared.digest.Digest.{Digest}
use Rattle.ledger_bytes.specs.declared.refusal.Refusal.{Refusal}
use Rattle.ledger_bytes.specs.declared.refusal.Refusal.TheVariants.{NoJournal, Purged, LeafDiffers}
use Rattle.journal_record.specs.Entry.{Entry}
use Rattle.journal_record.specs.declared.header.Header.{Header}
use Rattle.journal_record.specs.declared.header.Kind.{Kind}
use Rattle.journal_record.specs.declared.header.Kind.TheVariants as kind
use Rattle.member_book.specs.Approvals.{judgement}
use Rattle.member_book.specs.Erasures.{purged, no_record, hidden_by, other_leaf, target_row, clue_occult_row, first_refusal}
use Rattle.journal_record.specs.declared.approval.Approval.{Approval}
use Rattle.erase_rules.specs.declared.clue_occult.ClueFacts.{ClueFacts}
use Rattle.erase_rules.specs.declared.occult.OccultFacts.{OccultFacts}
use Rattle.ledger_model.specs.Clues.{numbers_of, jsns_with}
use Rattle.ledger_model.specs.History.{History, history, journals, size, point, greatest_point, leaf_digest}
use Rattle.ledger_model.specs.Lawful.{IsNextOccult}
use Rattle.ledger_model.specs.Targets.{is_hidden_by, is_hidden, hider, kind_at, leaf_at, shown_with}
use Rattle.ledger_model.proofs.AcceptedLaws.{target_own}
use Rattle.ledger_model.proofs.HideLaws.{hidden_is}
use Rattle.merkle_batch.specs.Over.{StandsOver}
use Rattle.merkle_batch.specs.Rows.{Levels, StandsFor}
use Rattle.pseudo_genesis.specs.declared.base.Base.{Base}
use Rattle.ledger_model.specs.Behind.{first_of, clues_behind, shown_behind}
use Rattle.ledger_book.specs.Books.{Kept, Serves, headers}
use Rattle.ledger_book.specs.Hiders.{hider_in}
use Rattle.ledger_book.specs.Facts.{AreFacts, AreClueFacts, kind_in}
use Rattle.ledger_book.specs.Reading.{HasLeaves, StandsBehind}
use Rattle.ledger_book.proofs.BehindLaws.{from_first, kept_behind}
use Rattle.ledger_book.proofs.ClueLaws.{told_kept}
use Rattle.ledger_book.proofs.NextLaws.{few_under}
use Rattle.ledger_book.proofs.ShownLaws.{all_kept, shown_kept, shown_numbers}
use Rattle.ledger_book.proofs.StandsLaws.{point_is}

-- the kind that a header tells which is there, and of one that isn't
pub kind_read : (hs : List Header) (n : ℕ) (x : Header) → Some x ≡ slice_get hs n → x.kind ≡ kind_in hs n
kind_read [] n x is = absurd cc
kind_read (y ∷ hs) zero x is = let same : x ≡ y = cc in ap (λ (z : Header). z.kind) same
kind_read (y ∷ hs) (suc n) x is = kind_read hs n x is

pub kind_none : (hs : List Header) (n : ℕ) → (let none : Option Header = None in none ≡ slice_get hs n) → kind.Genesis ≡ kind_in hs n
kind_none [] n is = refl
kind_none (y ∷ hs) zero is = absurd cc
kind_none (y ∷ hs) (suc n) is = kind_none hs n is

-- the kept headers tell the kinds of their journals
kinds_of : (es : List Entry) → map (λ (x : Header). x.kind) (map (λ (e : Entry). e.header) es) ≡ map (λ (e : Entry). e.header.kind) es
kinds_of [] = refl
kinds_of (e ∷ es) = ap (λ (l : List Kind). e.header.kind ∷ l) (kinds_of es)

kinds_drop : (n : ℕ) (hs : List Header) → map (λ (x : Header). x.kind) (drop n hs) ≡ drop n (map (λ (x : Header). x.kind) hs)
kinds_drop zero hs = refl
kinds_drop (suc n) [] = refl
kinds_drop (suc n) (x ∷ hs) = kinds_drop n hs

pub kind_kept : (hs : List Header) (floor : ℕ) (h : History) (n : ℕ) → hs ≡ drop floor (headers h) → floor ≤ n → kind_in hs (n - floor) ≡ kind_at h n
kind_kept hs floor h n is le =
    let from : floor + (n - floor) ≡ n = omega (arith, le) in
    ap (λ l. kind_in l (n - floor)) is ∙ ap (λ ks. get_or ks (n - floor) kind.Genesis) (kinds_drop floor (headers h) ∙ ap (drop floor) (kinds_of (journals h)))
    ∙ get_or-drop floor (map (λ (e : Entry). e.header.kind) (journals h)) (n - floor) kind.Genesis ∙ ap (kind_at h) from

pub kind_behind : (hs : List Header) (es : List Entry) (n : ℕ) → hs ≡ map (λ (e : Entry). e.header) es → kind_in hs n ≡ kind_at (history [] es) n
kind_behind hs es n is = ap (λ l. kind_in l n) is ∙ ap (λ ks. get_or ks n kind.Genesis) (kinds_of es)

-- the leaf of a journal behind a base
pub leaf_behind : (start : Option Base) (tree : Levels) (es : List Entry) (n : ℕ) (digest : List ℕ) → HasLeaves start tree es → ((ds : List (List ℕ)) → StandsFor sha256 tree ds → digest ≡ get_or ds n [])
    → ((p : ℕ) (ps xs : List (List ℕ)) → StandsOver sha256 tree p ps xs → digest ≡ get_or xs (n - p) []) → digest ≡ leaf_at (history [] es) (n - first_of start)
leaf_behind None tree es n digest leaves list over = let none : n ≡ n - 0 = omega arith in list (map leaf_digest es) leaves ∙ ap (λ i. get_or (map leaf_digest es) i []) none
leaf_behind (Some b) tree es n digest leaves list over = over b.point (map (λ (d : Digest). d.0) b.peaks) (map leaf_digest es) leaves

-- the row over the facts is that over the history
module _ (h : History) (f : OccultFacts) (n : ℕ) (leaf : Digest) (rest : List (Option Refusal)) (a : AreFacts h f n) where
  abbrev row : ℕ → ℕ → Kind → Option ℕ → Digest → ℕ → List (Option Refusal)
  row size point kind by kept target = target_row size point kind by kept target leaf ++ rest

  by_point : n < size h → first_refusal (purged (point h) n ∷ no_record f.kind ∷ hidden_by f.by ∷ other_leaf f.leaf leaf ∷ rest) ≡ first_refusal (purged (point h) n ∷ no_record (kind_at h n) ∷ hidden_by (hider h n) ∷ other_leaf (digest (leaf_at h n)) leaf ∷ rest)
  by_point lt = elim (nat_lt n (point h)) as (λ v. nat_lt n (point h) ≡ v → first_refusal (cond v (Some (Purged (point h))) None ∷ no_record f.kind ∷ hidden_by f.by ∷ other_leaf f.leaf leaf ∷ rest) ≡ first_refusal (cond v (Some (Purged (point h))) None ∷ no_record (kind_at h n) ∷ hidden_by (hider h n) ∷ other_leaf (digest (leaf_at h n)) leaf ∷ rest)) [
    | true ↦ λ e. refl
    | false ↦ λ e.
        let le = ltb-false n (point h) e in
        ap (λ k. first_refusal (no_record k ∷ hidden_by f.by ∷ other_leaf f.leaf leaf ∷ rest)) (a.kind_is le lt)
        ∙ ap (λ o. first_refusal (no_record (kind_at h n) ∷ hidden_by o ∷ other_leaf f.leaf leaf ∷ rest)) (a.by_is le)
        ∙ ap (λ l. first_refusal (no_record (kind_at h n) ∷ hidden_by (hider h n) ∷ other_leaf l leaf ∷ rest)) (a.leaf_is le lt)
  ] refl

  by_size : first_refusal (row (size h) (point h) f.kind f.by f.leaf n) ≡ first_refusal (row (size h) (point h) (kind_at h n) (hider h n) (digest (leaf_at h n)) n)
  by_size = elim (nat_le (size h) n) as (λ v. nat_le (size h) n ≡ v → first_refusal (cond v (Some (NoJournal (size h))) None ∷ purged (point h) n ∷ no_record f.kind ∷ hidden_by f.by ∷ other_leaf f.leaf leaf ∷ rest) ≡ first_refusal (cond v (Some (NoJournal (size h))) None ∷ purged (point h) n ∷ no_record (kind_at h n) ∷ hidden_by (hider h n) ∷ other_leaf (digest (leaf_at h n)) leaf ∷ rest)) [
    | true ↦ λ e. refl
    | false ↦ λ e. by_point (leb-false (size h) n e)
  ] refl

  pub row_told : first_refusal (row f.size f.point f.kind f.by f.leaf f.target) ≡ first_refusal (row (size h) (point h) (kind_at h n) (hider h n) (digest (leaf_at h n)) n)
  row_told =
      ap (λ x. first_refusal (row x f.point f.kind f.by f.leaf f.target)) a.size_is
      ∙ ap (λ x. first_refusal (row (size h) x f.kind f.by f.leaf f.target)) a.point_is
      ∙ ap (λ x. first_refusal (row (size h) (point h) f.kind f.by f.leaf x)) a.target_is
      ∙ by_size

-- an occult that may be the next one isn't refused by its target
none_hidden : (o : Option ℕ) → is_some o ≡ false → (let none : Option Refusal = None in hidden_by o ≡ none)
none_hidden None is = refl
none_hidden (Some x) is = absurd (true≢false is)

own_row : (h : History) (x : Header) → IsNextOccult h x → (let none : Option Refusal = None in first_refusal (target_row (size h) (point h) (kind_at h x.a) (hider h x.a) (digest (leaf_at h x.a)) x.a x.link) ≡ none)
own_row h x own =
    let kept = digest (leaf_at h x.a) in
    ap (λ v. first_refusal (cond v (Some (NoJournal (size h))) None ∷ purged (point h) x.a ∷ no_record (kind_at h x.a) ∷ hidden_by (hider h x.a) ∷ other_leaf (digest (leaf_at h x.a)) x.link ∷ [])) (lt-leb (size h) x.a own.before)
    ∙ ap (λ v. first_refusal (cond v (Some (Purged (point h))) None ∷ no_record (kind_at h x.a) ∷ hidden_by (hider h x.a) ∷ other_leaf (digest (leaf_at h x.a)) x.link ∷ [])) (le-ltb x.a (point h) own.kept)
    ∙ ap (λ k. first_refusal (no_record k ∷ hidden_by (hider h x.a) ∷ other_leaf (digest (leaf_at h x.a)) x.link ∷ [])) own.target_is
    ∙ ap (λ o. first_refusal (o ∷ other_leaf (digest (leaf_at h x.a)) x.link ∷ [])) (none_hidden (hider h x.a) (sym (hidden_is h x.a) ∙ own.shown))
    ∙ ap (λ v. first_refusal (cond v None (Some (LeafDiffers (digest (leaf_at h x.a)))) ∷ [])) ((bytes_eq-Decides x.link.0 (leaf_at h x.a)).1 own.leaf_is)

is_none_none : (o : Option Refusal) → IsTrue (is_none o) → (let none : Option Refusal = None in o ≡ none)
is_none_none None is = refl
is_none_none (Some x) is = absurd (true≢false (sym is))

pub none_told : (o : Option Refusal) (answer : Bool) → is_some o ≡ not answer → is_none o ≡ answer
none_told None true is = refl
none_told None false is = absurd cc
none_told (Some x) true is = absurd cc
none_told (Some x) false is = refl

-- .. and one that isn't, may
pub next_occult : (h : History) (x : Header) (f : OccultFacts) (o : Option Refusal) → AreFacts h f x.a → o ≡ first_refusal (target_row f.size f.point f.kind f.by f.leaf f.target x.link) → IsTrue (is_none o) ↔ IsNextOccult h x
next_occult h x f o a told = (
  λ yes. target_own h x [] (sym (told ∙ row_told h f x.a x.link [] a) ∙ is_none_none o yes),
  λ own. ap is_none (told ∙ row_told h f x.a x.link [] a ∙ own_row h x own),
)

-- what a judge's answer tells of the refusal
pub judged_err : (o : Option Refusal) → result_err (judgement o) ≡ o
judged_err None = refl
judged_err (Some x) = refl

-- a row whose first refusal doesn't come
pub row_after : (first : Option Refusal) (row : List (Option Refusal)) → (let none : Option Refusal = None in none ≡ first) → first_refusal (first ∷ row) ≡ first_refusal row
row_after None row is = refl
row_after (Some x) row is = absurd cc

pub row_first : (first : Option Refusal) (row : List (Option Refusal)) (refusal : Refusal) → Some refusal ≡ first → Some refusal ≡ first_refusal (first ∷ row)
row_first None row refusal is = absurd cc
row_first (Some x) row refusal is = is

-- ---- a clue

-- what a book tells of the records of a clue that are kept and shown, by the numbers of those that are kept
abbrev is_told : Kept → ℕ → Bool
is_told k n = nat_le k.point n && not (is_some (hider_in k.floor k.hiders n))

pub told_shown : (k : Kept) (h : History) (clue : Digest) (kept shown : List ℕ) → Serves k h
    → ((a : Added) → index.StandsForTrails k.clues a → kept ≡ kept_from a.floor (trail_of a clue.0)) → shown ≡ filter (is_told k) kept → length shown ≡ length (shown_with h clue)
unfolding shown_with
told_shown k h clue kept shown s told is =
    ap length (
    is ∙ ap (filter (is_told k)) (told_kept k h clue kept s.stands told)
    ∙ shown_kept k.floor k.point (λ n. is_some (hider_in k.floor k.hiders n)) (λ n. is_hidden h n) s.seen (λ n le. ap is_some (s.stands.hiders n le) ∙ sym (hidden_is h n)) (jsns_with h clue)
    ∙ ap (λ p. filter (λ n. nat_le p n && not (is_hidden h n)) (jsns_with h clue)) (point_is k h s)
    )

pub shown_in : (k : Kept) (start : Option Base) (es : List Entry) (clue : Digest) (kept shown : List ℕ) → StandsBehind k start es
    → ((a : Added) → index.StandsForTrails k.clues a → kept ≡ kept_from a.floor (trail_of a clue.0)) → shown ≡ filter (is_told k) kept → length shown ≡ length (shown_behind es clue)
shown_in k start es clue kept shown s told is =
    let from = from_first start es s.are in
    ap length (
    is ∙ ap (filter (is_told k)) (kept_behind start es k.clues clue kept s.clues told ∙ all_kept (first_of start) clue es (first_of start) from (omega arith))
    ∙ ap (λ p. filter (λ n. nat_le p n && not (is_some (hider_in k.floor k.hiders n))) (numbers_of clue es)) s.point
    ∙ shown_numbers (first_of start) (greatest_point es) (λ n. is_some (hider_in k.floor k.hiders n)) clue es es from (λ i e at. s.hiders (first_of start + i) (omega arith) ∙ ap (λ m. is_hidden_by es (slice_get es m)) (let same : first_of start + i - first_of start ≡ i = omega arith in same) ∙ ap (is_hidden_by es) at)
    )
    ∙ length-map (shown_behind es clue) (λ (e : Entry). e.header.jsn)

-- how many there are behind a base
pub count_told : (k : Kept) (start : Option Base) (es : List Entry) (clue : Digest) (count : ℕ) → StandsBehind k start es → k.size < 2 ^ 32
    → ((a : Added) → index.StandsForTrails k.clues a → count_of (trail_of a clue.0) < 2 ^ 32 → count ≡ count_of (trail_of a clue.0)) → count ≡ count_of (trail_of (clues_behind start es) clue.0)
count_told k start es clue count s few told = told (clues_behind start es) s.clues (few_under k start es s (2 ^ 32) few clue.0)

-- the row over what is told of a clue is that over the history
pub clue_row_told : (h : History) (f : ClueFacts) (clue : Digest) (known : List (List ℕ)) (count : ℕ) (given : List Approval) → AreClueFacts h f clue → first_refusal (clue_occult_row f.count f.shown known count given) ≡ first_refusal (clue_occult_row (length (jsns_with h clue)) (length (shown_with h clue)) known count given)
clue_row_told h f clue known count given a =
    ap (λ n. first_refusal (clue_occult_row n f.shown known count given)) a.count ∙ ap (λ n. first_refusal (clue_occult_row (length (jsns_with h clue)) n known count given)) a.shown
