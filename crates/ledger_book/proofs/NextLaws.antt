-- Lemmas on which header is the next one behind a base.
use Rattle.std.specs.Prelude.{IsTrue, bytes_eq, nat_le, nat_lt, ◌&&◌, ◌||◌, ◌==◌, not}
use Rattle.std.specs.List.{fold}
use Rattle.std.specs.Option.{is_some, is_none}
use Rattle.std.proofs.Common.{◌≡◌, ◌≢◌, ℕ, ◌+◌, ◌-◌, ◌^◌, ◌<◌, ◌≤◌, ◌↔◌, Bool, true, false, cond, List, [], ◌∷◌, Option, Some, None, length, zero, suc, refl, sym, ap, ◌∙◌, arith}
use Rattle.std.proofs.lemmas.Bool.{lt-leb, lt-ltb, le-ltb, leb-false, ltb-true, ltb-false, eqb-true, eq-eqb, true≢false, and_parts, and_from}
use Rattle.std.proofs.lemmas.Slice.Eq.{bytes_eq-Decides}
use Rattle.ledger_bytes.specs.declared.digest.Digest.{Digest}
use Rattle.ledger_bytes.specs.declared.refusal.Refusal.{Refusal}
use Rattle.ledger_bytes.specs.declared.refusal.Refusal.TheVariants.{NoJournal, Purged, LeafDiffers}
use Rattle.clue_index.specs.Added.{Added, trail_of, state_of}
use Rattle.clue_index.specs.Trail.{Trail, count_of, no_trail}
use Rattle.clue_index.specs.declared.state.ClueState.{ClueState}
use Rattle.journal_record.specs.Entry.{Entry}
use Rattle.journal_record.specs.Rules.{IsHeader}
use Rattle.journal_record.specs.declared.header.Header.{Header}
use Rattle.journal_record.specs.declared.header.Kind.{Kind}
use Rattle.journal_record.specs.declared.header.Kind.TheVariants as kind
use Rattle.member_book.specs.Erasures.{is_record, absent, purged, no_record, hidden_by, other_leaf, target_row, first_refusal}
use Rattle.erase_rules.specs.declared.clue_occult.ClueFacts.{ClueFacts}
use Rattle.erase_rules.specs.declared.occult.OccultFacts.{OccultFacts}
use Rattle.ledger_model.specs.History.{History, history, journals}
use Rattle.ledger_model.specs.Lawful.{IsNextOf, IsNextClueOccult}
use Rattle.ledger_model.specs.Limits.{real_limits}
use Rattle.ledger_model.specs.Targets.{kind_at, shown_with}
use Rattle.ledger_model.proofs.AcceptedLaws.{IsNone}
use Rattle.pseudo_genesis.specs.Bases.{AreStates}
use Rattle.pseudo_genesis.specs.declared.base.Base.{Base}
use Rattle.ledger_model.specs.Behind.{IsNextBehind, IsOwnBehind, IsOccultBehind, IsClueOccultBehind, shown_behind, has_own_purge, HasRoomFor, BeginsWell, ordinal_in, clues_behind, first_of, next_number}
use Rattle.ledger_book.specs.Books.{Kept, Serves}
use Rattle.ledger_book.specs.Facts.{AreFactsBehind, AreClueFacts, AreClueFactsBehind}
use Rattle.ledger_book.specs.Reading.{StandsBehind}
use Rattle.ledger_book.specs.Steps.{MayPlace}
use Rattle.ledger_book.proofs.BaseLaws.{some_point}
use Rattle.ledger_book.proofs.HiderLaws.{or_true}
use Rattle.ledger_book.proofs.TellLaws.{listed_few}
use Rattle.ledger_book.proofs.TimeLaws.{point_low}

-- what isn't so isn't told
pub never : {A : Type 0} → (A → ⊥) → IsTrue false ↔ A
never isnt = (λ yes. absurd (true≢false (sym yes)), λ a. absurd (isnt a))

-- no clue has more journals than there are, behind a base too
module _ (clue : List ℕ) (point : ℕ) where
  state_few : (before : Digest) (ss : List ClueState) (t : Trail) → AreStates point before ss → t.count < point
      → (fold (λ (t : Trail) (s : ClueState). cond (bytes_eq clue s.clue.0) (record { count = s.count; last = s.last; jsns = [] }) t) t ss).count + length (fold (λ (t : Trail) (s : ClueState). cond (bytes_eq clue s.clue.0) (record { count = s.count; last = s.last; jsns = [] }) t) t ss).jsns < point + length t.jsns
  state_few before [] t are lt = omega (arith, lt)
  state_few before (s ∷ ss) t are lt =
      let inside = ltb-true s.count point (and_parts (nat_le 1 s.count) (nat_lt s.count point) are.0.count).1 in
      elim (bytes_eq clue s.clue.0) as (λ v. (fold (λ (t : Trail) (s : ClueState). cond (bytes_eq clue s.clue.0) (record { count = s.count; last = s.last; jsns = [] }) t) (cond v (record { count = s.count; last = s.last; jsns = [] }) t) ss).count
      + length (fold (λ (t : Trail) (s : ClueState). cond (bytes_eq clue s.clue.0) (record { count = s.count; last = s.last; jsns = [] }) t) (cond v (record { count = s.count; last = s.last; jsns = [] }) t) ss).jsns < point + length t.jsns) [
        | true ↦ omega (arith, state_few s.clue ss (record { count = s.count; last = s.last; jsns = [] }) are.1 inside)
        | false ↦ state_few s.clue ss t are.1 lt
      ]

pub few_under : (k : Kept) (start : Option Base) (es : List Entry) → StandsBehind k start es → (n : ℕ) → k.size < n → (clue : List ℕ) → count_of (trail_of (clues_behind start es) clue) < n
few_under k None es s n few clue = omega (arith, s.size_is, few, listed_few clue es)
few_under k (Some b) es s n few clue =
    let low : (state_of clue b.clues).count + length (state_of clue b.clues).jsns < b.point + 0 = state_few clue b.point _ b.clues no_trail s.begins.clues (some_point b s.begins) in
    omega (arith, s.size_is, few, listed_few clue es, low)

pub few_behind : (k : Kept) (start : Option Base) (es : List Entry) → StandsBehind k start es → k.size < 4_294_967_295 → (clue : List ℕ) → count_of (trail_of (clues_behind start es) clue) < 2 ^ 32 - 1
few_behind k start es s few clue = few_under k start es s 4_294_967_295 few clue

-- the first header behind a base
pub begins_well : (k : Kept) (start : Option Base) (es : List Entry) (x : Header) → StandsBehind k start es → 1 ≤ k.size → (k.size ≡ k.floor → x.kind ≡ kind.Time) → BeginsWell start es x
begins_well k None es x s some first = tt
begins_well k (Some b) [] x s some first = first (omega (arith, s.size_is, s.floor))
begins_well k (Some b) (e ∷ es) x s some first = tt

pub begins_not : (k : Kept) (start : Option Base) (es : List Entry) (x : Header) → StandsBehind k start es → 1 ≤ k.size → k.size ≡ k.floor → BeginsWell start es x → x.kind ≡ kind.Time
begins_not k None es x s some at begins = absurd (omega (arith, s.floor, at, some))
begins_not k (Some b) [] x s some at begins = begins
begins_not k (Some b) (e ∷ es) x s some at begins = absurd (omega (arith, s.size_is, s.floor, at))

-- a header is the next one where it is so by its kind
module _ (k : Kept) (x : Header) (layout : IsHeader x) (at : x.jsn ≡ k.size) (room : k.size < real_limits.size) (some : 1 ≤ k.size) where
  pub next_behind_by : (start : Option Base) (es : List Entry) (answer : Bool) → StandsBehind k start es → (k.size ≡ k.floor → x.kind ≡ kind.Time) → (IsTrue answer ↔ IsOwnBehind start es x x.kind) → IsTrue answer ↔ IsNextBehind start es x
  next_behind_by start es answer s first told = (
    λ yes. record { layout = layout; jsn = at ∙ s.size_is; below = omega (arith, at, room); begins = begins_well k start es x s some first; own = told.0 yes },
    λ next. told.1 next.own,
  )

  pub next_by : (h : History) (answer : Bool) → Serves k h → (IsTrue answer ↔ IsNextOf (history [] (journals h)) x x.kind) → IsTrue answer ↔ MayPlace h x
  next_by h answer s told = (λ yes. record { layout = layout; jsn = at ∙ s.stands.counts.size; below = omega (arith, at, room); own = told.0 yes }, λ next. told.1 next.own)

-- there is a journal from the point on
pub floor_low : (k : Kept) (h : History) → Serves k h → k.size ≡ k.floor → ⊥
floor_low k h s at = omega (arith, at, s.seen, point_low k h s.stands, s.stands.counts.size)

-- ---- an occult

record RowSays (size point : ℕ) (sort : Kind) (by : Option ℕ) (kept : Digest) (target : ℕ) (leaf : Digest) : Type 0 where
  before : target < size
  above : point ≤ target
  sort_is : sort ≡ kind.Content
  shown : is_some by ≡ false
  leaf_is : leaf.0 ≡ kept.0

none_first : (r : Option Refusal) (row : List (Option Refusal)) → IsNone (first_refusal (r ∷ row)) → IsNone r × IsNone (first_refusal row)
none_first None row is = (refl, is)
none_first (Some x) row is = absurd cc

if_none : (b : Bool) (x : Refusal) → IsNone (cond b (Some x) None) → b ≡ false
if_none true x is = absurd cc
if_none false x is = refl

if_not : (b : Bool) (x : Refusal) → IsNone (cond b None (Some x)) → b ≡ true
if_not true x is = refl
if_not false x is = absurd cc

none_hides : (o : Option ℕ) → IsNone (hidden_by o) → is_some o ≡ false
none_hides None is = refl
none_hides (Some x) is = absurd cc

none_hidden : (o : Option ℕ) → is_some o ≡ false → IsNone (hidden_by o)
none_hidden None is = refl
none_hidden (Some x) is = absurd (true≢false is)

record_is : (k : Kind) → is_record k ≡ true → k ≡ kind.Content
record_is kind.Content is = refl
record_is kind.Genesis is = absurd (true≢false (sym is))
record_is kind.Member is = absurd (true≢false (sym is))
record_is kind.Time is = absurd (true≢false (sym is))
record_is kind.Occult is = absurd (true≢false (sym is))
record_is kind.ClueOccult is = absurd (true≢false (sym is))
record_is kind.Purge is = absurd (true≢false (sym is))

module _ (size point : ℕ) (sort : Kind) (by : Option ℕ) (kept : Digest) (target : ℕ) (leaf : Digest) where
  row_says : IsNone (first_refusal (target_row size point sort by kept target leaf)) → RowSays size point sort by kept target leaf
  row_says is =
      let a = none_first (absent size target) _ is in
      let b = none_first (purged point target) _ a.1 in
      let c = none_first (no_record sort) _ b.1 in
      let d = none_first (hidden_by by) _ c.1 in
      let e = none_first (other_leaf kept leaf) _ d.1 in
      record {
        before = leb-false size target (if_none (nat_le size target) _ a.0);
        above = ltb-false target point (if_none (nat_lt target point) _ b.0);
        sort_is = record_is sort (if_not (is_record sort) _ c.0);
        shown = none_hides by d.0;
        leaf_is = (bytes_eq-Decides leaf.0 kept.0).0 (if_not (bytes_eq leaf.0 kept.0) _ e.0);
      }

  row_of : RowSays size point sort by kept target leaf → IsNone (first_refusal (target_row size point sort by kept target leaf))
  row_of x =
      ap (λ v. first_refusal (cond v (Some (NoJournal size)) None ∷ purged point target ∷ no_record sort ∷ hidden_by by ∷ other_leaf kept leaf ∷ [])) (lt-leb size target x.before)
      ∙ ap (λ v. first_refusal (cond v (Some (Purged point)) None ∷ no_record sort ∷ hidden_by by ∷ other_leaf kept leaf ∷ [])) (le-ltb target point x.above)
      ∙ ap (λ k. first_refusal (no_record k ∷ hidden_by by ∷ other_leaf kept leaf ∷ [])) x.sort_is
      ∙ ap (λ o. first_refusal (o ∷ other_leaf kept leaf ∷ [])) (none_hidden by x.shown)
      ∙ ap (λ v. first_refusal (cond v None (Some (LeafDiffers kept)) ∷ [])) ((bytes_eq-Decides leaf.0 kept.0).1 x.leaf_is)

none_is : (o : Option Refusal) → IsTrue (is_none o) → IsNone o
none_is None is = refl
none_is (Some x) is = absurd (true≢false (sym is))

-- a record is there
there : (es : List Entry) (n : ℕ) → kind_at (history [] es) n ≡ kind.Content → n < length es
there [] n is = absurd cc
there (e ∷ es) zero is = omega arith
there (e ∷ es) (suc n) is = omega (arith, there es n is)

pub occult_behind : (start : Option Base) (es : List Entry) (x : Header) (f : OccultFacts) (o : Option Refusal) → AreFactsBehind start es f x.a → first_of start ≤ x.a
    → o ≡ first_refusal (target_row f.size f.point f.kind f.by f.leaf f.target x.link) → IsTrue (is_none o) ↔ IsOccultBehind start es x
occult_behind start es x f o a le told = (
  λ yes.
      let says = row_says f.size f.point f.kind f.by f.leaf f.target x.link (sym told ∙ none_is o yes) in
      let before : x.a < next_number start es = omega (arith, says.before, a.size_is, a.target_is) in record {
        named = λ low. absurd (omega (arith, low, le));
        shown = λ _. sym a.by_is ∙ says.shown;
        front = λ low. absurd (omega (arith, low, le));
        kept = λ _. omega (arith, says.above, a.point_is, a.target_is);
        target_is = λ _. sym a.kind_is ∙ says.sort_is;
        leaf_is = λ _. says.leaf_is ∙ a.leaf_is before;
      },
  λ own.
      let before : x.a < next_number start es = omega (arith, there es (x.a - first_of start) (own.target_is le), le) in
      ap is_none (told ∙ row_of f.size f.point f.kind f.by f.leaf f.target x.link (record {
        before = omega (arith, before, a.size_is, a.target_is);
        above = omega (arith, own.kept le, a.point_is, a.target_is);
        sort_is = a.kind_is ∙ own.target_is le;
        shown = a.by_is ∙ own.shown le;
        leaf_is = own.leaf_is le ∙ sym (a.leaf_is before);
      })),
)

-- a clue that has a journal, and no clue, need no room
pub room_old : (most : ℕ) (a : Added) (clue : Digest) (ordinal : ℕ) → ordinal ≡ ordinal_in a clue → ordinal ≢ 1 → HasRoomFor most a clue
room_old most a clue ordinal is isnt has none = absurd (isnt (is ∙ ap (λ v. cond v 0 (count_of (trail_of a clue.0) + 1)) has ∙ ap (λ n. n + 1) none))

-- ---- an occult by clue

-- what a book tells of a clue, by which an occult of its records may be next
test_says : (a count shown : ℕ) (reached : Bool) → IsTrue (a == count && (nat_lt 0 shown || not reached)) → (a ≡ count) × (reached ≡ true → 0 < shown)
test_says a count shown reached is =
    let parts = and_parts (a == count) (nat_lt 0 shown || not reached) is in
    (eqb-true a count parts.0, λ seen. by_test (nat_lt 0 shown) refl (sym (ap (λ v. nat_lt 0 shown || not v) seen) ∙ parts.1)) where
      by_test : (v : Bool) → nat_lt 0 shown ≡ v → (v || false) ≡ true → 0 < shown
      by_test true lt some = ltb-true 0 shown lt
      by_test false lt some = absurd (true≢false (sym some))

test_of : (a count shown : ℕ) (reached : Bool) → a ≡ count → (reached ≡ true → 0 < shown) → IsTrue (a == count && (nat_lt 0 shown || not reached))
test_of a count shown reached at some = and_from _ _ (eq-eqb a count at) (by_reached reached refl) where
  by_reached : (v : Bool) → reached ≡ v → (nat_lt 0 shown || not reached) ≡ true
  by_reached true seen = ap (λ v. v || not reached) (lt-ltb 0 shown (some seen))
  by_reached false unseen = ap (λ v. nat_lt 0 shown || not v) unseen ∙ or_true (nat_lt 0 shown)

some_list : {A : Type 0} (xs : List A) → 0 < length xs → xs ≢ []
some_list [] lt = absurd (omega (arith, lt))
some_list (x ∷ xs) lt = λ none. absurd cc

list_some : {A : Type 0} (xs : List A) → xs ≢ [] → 0 < length xs
list_some [] some = absurd (some refl)
list_some (x ∷ xs) some = omega arith

pub next_clue : (h : History) (x : Header) (f : ClueFacts) (reached : Bool) → reached ≡ true → AreClueFacts h f x.link → IsTrue (x.a == f.count && (nat_lt 0 f.shown || not reached)) ↔ IsNextClueOccult h x
next_clue h x f reached seen a = (
  λ yes. let says = test_says x.a f.count f.shown reached yes in record { count = says.0 ∙ a.count; shown = some_list (shown_with h x.link) (let some = says.1 seen in omega (arith, some, a.shown)) },
  λ own. test_of x.a f.count f.shown reached (own.count ∙ sym a.count) (λ _. let some = list_some (shown_with h x.link) own.shown in omega (arith, some, a.shown)),
)

pub clue_behind : (start : Option Base) (es : List Entry) (x : Header) (f : ClueFacts) (reached : Bool) → reached ≡ has_own_purge start es → AreClueFactsBehind start es f x.link → IsTrue (x.a == f.count && (nat_lt 0 f.shown || not reached)) ↔ IsClueOccultBehind start es x
clue_behind start es x f reached seen a = (
  λ yes. let says = test_says x.a f.count f.shown reached yes in record { count = says.0 ∙ a.count; shown = λ there. some_list (shown_behind es x.link) (let some = says.1 (seen ∙ there) in omega (arith, some, a.shown)) },
  λ own. test_of x.a f.count f.shown reached (own.count ∙ sym a.count) (λ yes. let some = list_some (shown_behind es x.link) (own.shown (sym seen ∙ yes)) in omega (arith, some, a.shown)),
)
