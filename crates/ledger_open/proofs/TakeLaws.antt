-- The journals of a block, taken one after the other.
use Rattle.std.specs.List.{list_all}
use Rattle.std.specs.Prelude.{not, bytes_eq, max, false, ◌==◌, IfSome, Option, Some, None, Result, Ok, Err}
use Rattle.std.proofs.Common.{◌≡◌, ◌≢◌, inl, inr, ℕ, zero, suc, ◌+◌, ◌<◌, ◌≤◌, Bool, true, ◌&&◌, List, [], ◌∷◌, ◌++◌, length, get_or, take, drop, map, refl, sym, ◌∙◌, ap, subst, arith, length-append, get_or-take}
use Rattle.std.proofs.lemmas.Bool.{true≢false, and_parts, eqb-true, eq-eqb}
use Rattle.std.proofs.lemmas.List.{length-map, take_all, map-append, take-take}
use Rattle.std.proofs.lemmas.Slice.Eq.{bytes_eq-Decides}
use Rattle.sha2.specs.Sha256.{sha256}
use Rattle.tree_model.specs.Tree.{leaf, root}
use Rattle.tree_model.specs.RootFrom.{root_from}
use Rattle.block_file.specs.declared.block.RecordAt.{RecordAt}
use Rattle.block_file.specs.declared.failure.Damage.{Damage}
use Rattle.block_file.specs.declared.failure.Damage.TheVariants as damages
use Rattle.journal_record.specs.Blocks.{leaves_of}
use Rattle.journal_record.specs.Entry.{Entry}
use Rattle.journal_record.specs.Header.{spelling}
use Rattle.journal_record.specs.declared.header.Header.{Header}
use Rattle.ledger_model.specs.Behind.{next_number, IsNextBehind, AreBehind}
use Rattle.ledger_book.specs.Books.{Kept, Stands}
use Rattle.ledger_book.specs.Reading.{StandsBehind, root_behind}
use Rattle.ledger_book.specs.Replaying.{IsPlaced, IsNotPlaced, Replays}
use Rattle.ledger_book.specs.Seals.{IsNextSealed}
use Rattle.ledger_book.specs.declared.sealed.Sealed.{Sealed}
use Rattle.ledger_bytes.specs.declared.digest.Digest.{Digest}
use Rattle.ledger_model.specs.History.{History, journals_of, close, leaf_digest}
use Rattle.ledger_model.specs.Lawful.{AllGather, gathers}
use Rattle.pseudo_genesis.specs.declared.base.Base.{Base}
use Rattle.ledger_open.specs.Damages.{CanShare, IsNotNext}
use Rattle.ledger_open.specs.Standing.{floor_from}
use Rattle.ledger_open.specs.Replaying.{Headed, Goes, IsOther, TakesAllOf, TakesBlock, IsBadBlock}
use Rattle.ledger_open.proofs.GoesLaws.{goes_more, goes_closed}
use Rattle.ledger_open.proofs.NextLaws.{gather_take, behind_more}

-- the journal of this record
pub record Here (es : List Entry) (r : RecordAt) (i : ℕ) : Type 0 where
  pub entry : Entry
  pub header : entry.header ≡ r.header
  pub more : take (i + 1) es ≡ take i es ++ entry ∷ []
  pub inside : i < length es
  pub is : (d : Entry) → get_or es i d ≡ entry

here : (es : List Entry) (rs : List RecordAt) (i : ℕ) (r : RecordAt) → Headed es rs → i < length rs → get_or rs i r ≡ r → Here es r i
here [] [] i r h lt is = absurd (omega (arith, lt))
here [] (x ∷ xs) i r h lt is = absurd cc
here (e ∷ es) [] i r h lt is = absurd (omega (arith, lt))
here (e ∷ es) (x ∷ xs) zero r h lt is = record { entry = e; header = ap (λ (l : List Header). get_or l 0 r.header) h ∙ ap (λ (y : RecordAt). y.header) is; more = refl; inside = omega arith; is = λ d. refl }
here (e ∷ es) (x ∷ xs) (suc i) r h lt is =
    let f = here es xs i r (ap (λ (l : List Header). drop 1 l) h) (omega (arith, lt)) is in
    record { entry = f.entry; header = f.header; more = let n : suc i + 1 ≡ suc (i + 1) = omega arith in ap (λ (k : ℕ). take k (e ∷ es)) n ∙ ap (λ (l : List Entry). e ∷ l) f.more; inside = omega (arith, f.inside); is = f.is }

-- as many journals as records
pub headed_size : (es : List Entry) (rs : List RecordAt) → Headed es rs → length es ≡ length rs
headed_size es rs h = sym (length-map es (λ (e : Entry). e.header)) ∙ ap length h ∙ length-map rs (λ (r : RecordAt). r.header)

-- the first of them
pub headed_take : (k : ℕ) (es : List Entry) (rs : List RecordAt) → Headed es rs → Headed (take k es) (take k rs)
headed_take zero es rs h = refl
headed_take (suc k) [] [] h = refl
headed_take (suc k) [] (r ∷ rs) h = absurd cc
headed_take (suc k) (e ∷ es) [] h = absurd cc
headed_take (suc k) (e ∷ es) (r ∷ rs) h =
    ap (λ (x : Header). x ∷ map (λ (e : Entry). e.header) (take k es)) (ap (λ (l : List Header). get_or l 0 e.header) h)
    ∙ ap (λ (l : List Header). r.header ∷ l) (headed_take k es rs (ap (λ (l : List Header). drop 1 l) h))

pub not_true : (v : Bool) → not v ≡ true → v ≡ false
not_true true e = sym e
not_true false e = refl

-- ---- which can share a block

abbrev pub all_gather : List RecordAt → Bool
all_gather rs = list_all (λ (r : RecordAt). gathers r.header.kind) rs

gather_same : (es : List Entry) (rs : List RecordAt) → Headed es rs → list_all (λ (e : Entry). gathers e.header.kind) es ≡ all_gather rs
gather_same [] [] h = refl
gather_same [] (r ∷ rs) h = absurd cc
gather_same (e ∷ es) [] h = absurd cc
gather_same (e ∷ es) (r ∷ rs) h =
    ap (λ (x : Header). gathers x.kind && list_all (λ (y : Entry). gathers y.header.kind) es) (ap (λ (l : List Header). get_or l 0 e.header) h)
    ∙ ap (λ (v : Bool). gathers r.header.kind && v) (gather_same es rs (ap (λ (l : List Header). drop 1 l) h))

pub gather_more : (i : ℕ) (rs : List RecordAt) (r : RecordAt) → i < length rs → get_or rs i r ≡ r → all_gather (take i rs) ≡ true → gathers r.header.kind ≡ true → all_gather (take (i + 1) rs) ≡ true
gather_more i [] r lt is all one = absurd (omega (arith, lt))
gather_more zero (x ∷ xs) r lt is all one = ap (λ (y : RecordAt). gathers y.header.kind && true) is ∙ ap (λ (v : Bool). v && true) one
gather_more (suc i) (x ∷ xs) r lt is all one =
    let both = and_parts (gathers x.header.kind) (all_gather (take i xs)) all in
    let n : suc i + 1 ≡ suc (i + 1) = omega arith in
    ap (λ (k : ℕ). all_gather (take k (x ∷ xs))) n ∙ ap (λ (v : Bool). v && all_gather (take (i + 1) xs)) both.0 ∙ gather_more i xs r (omega (arith, lt)) is both.1 one

-- where all gather they can share
pub all_share : (k : ℕ) (rs : List RecordAt) (es : List Entry) → all_gather (take k rs) ≡ true → Headed es rs → CanShare (take k es)
all_share k rs es all h more = gather_same (take k es) (take k rs) (headed_take k es rs h) ∙ all

-- one can stand in a block
pub one_shares : (es : List Entry) → 1 ≤ length es → CanShare (take 1 es)
one_shares [] some more = refl
one_shares (e ∷ es) some more = absurd (more refl)

not_gathers : (i : ℕ) (rs : List RecordAt) (r : RecordAt) → i < length rs → get_or rs i r ≡ r → (k : ℕ) → i < k → gathers r.header.kind ≡ false → all_gather (take k rs) ≡ true → ⊥
not_gathers i [] r lt is k less refused all = omega (arith, lt)
not_gathers i (x ∷ xs) r lt is zero less refused all = omega (arith, less)
not_gathers zero (x ∷ xs) r lt is (suc k) less refused all = true≢false (sym (and_parts (gathers x.header.kind) (all_gather (take k xs)) all).0 ∙ ap (λ (y : RecordAt). gathers y.header.kind) is ∙ refused)
not_gathers (suc i) (x ∷ xs) r lt is (suc k) less refused all = not_gathers i xs r (omega (arith, lt)) is k (omega (arith, less)) refused (and_parts (gathers x.header.kind) (all_gather (take k xs)) all).1

share_less : (i k : ℕ) (es : List Entry) → i < k → CanShare (take k es) → CanShare (take i es)
share_less i k es less can = elim (length (take k es) == 1) as (λ v. (length (take k es) == 1) ≡ v → CanShare (take i es)) [
  | true ↦ λ one. few i k es less (eqb-true (length (take k es)) 1 one)
  | false ↦ λ one more. subst AllGather (take-take i k es (omega (arith, less))) (gather_take i (take k es) (can (λ is. true≢false (sym (eq-eqb (length (take k es)) 1 is) ∙ one))))
] refl where
  none : (i : ℕ) → take {A = Entry} i [] ≡ []
  none zero = refl
  none (suc i) = refl

  few : (i k : ℕ) (es : List Entry) → i < k → length (take k es) ≡ 1 → CanShare (take i es)
  few zero k es less one more = refl
  few (suc i) k [] less one more = refl
  few (suc i) zero (e ∷ es) less one more = absurd (omega (arith, less))
  few (suc i) (suc k) (e ∷ []) less one more = absurd (more (ap (λ (l : List Entry). length (e ∷ l)) (none i)))
  few (suc zero) (suc k) (e ∷ x ∷ es) less one more = absurd (more refl)
  few (suc (suc i)) (suc zero) (e ∷ x ∷ es) less one more = absurd (omega (arith, less))
  few (suc (suc i)) (suc (suc k)) (e ∷ x ∷ es) less one more = absurd (omega (arith, one))

take_size : (k : ℕ) (es : List Entry) → k ≤ length es → length (take k es) ≡ k
take_size zero es le = refl
take_size (suc k) [] le = absurd (omega (arith, le))
take_size (suc k) (e ∷ es) le = omega (arith, take_size k es (omega (arith, le)))

-- behind one that doesn't gather there is none, and it has none before it
pub apart : (i : ℕ) (rs : List RecordAt) (r : RecordAt) → i < length rs → get_or rs i r ≡ r → gathers r.header.kind ≡ false → max i 1 < length rs → (es : List Entry) → Headed es rs → CanShare (take (max i 1 + 1) es) → ⊥
apart i rs r lt is refused less es h can =
    let size : length es ≡ length rs = headed_size es rs h in
    let n : length (take (max i 1 + 1) es) ≡ max i 1 + 1 = take_size (max i 1 + 1) es (omega (arith, size, less)) in
    let all : list_all (λ (e : Entry). gathers e.header.kind) (take (max i 1 + 1) es) ≡ true = can (λ one. let no : ⊥ = omega (arith, n, one) in no) in
    not_gathers i rs r lt is (max i 1 + 1) (omega arith) refused (sym (gather_same (take (max i 1 + 1) es) (take (max i 1 + 1) rs) (headed_take (max i 1 + 1) es rs h)) ∙ all)

pub max_share : (i : ℕ) (rs : List RecordAt) (es : List Entry) → all_gather (take i rs) ≡ true → 1 ≤ length rs → Headed es rs → CanShare (take (max i 1) es)
max_share zero rs es all some h = one_shares es (omega (arith, some, headed_size es rs h))
max_share (suc i) rs es all some h = let e : suc i ≡ max (suc i) 1 = omega arith in subst (λ (k : ℕ). CanShare (take k es)) e (all_share (suc i) rs es all h)

-- ---- one journal more in the book

pub record Went (old now : Kept) (rs : List RecordAt) (i : ℕ) : Type 0 where
  pub goes : (start : Option Base) (blocks : List (List Entry)) (es : List Entry) → Headed es rs → Goes old start blocks [] → TakesAllOf now start blocks (take i es)

pub went_more : (old now next : Kept) (rs : List RecordAt) (i : ℕ) (r : RecordAt) → i < length rs → get_or rs i r ≡ r → Went old now rs i
    → IsPlaced now r.header next → next.blocks ≡ now.blocks → Went old next rs (i + 1)
went_more old now next rs i r lt is w placed count = record {
  goes = λ start blocks es h g.
      let f = here es rs i r h lt is in
      let t = w.goes start blocks es h g in
      record {
        goes = subst (Goes next start blocks) (sym f.more)
            (goes_more start blocks (take i es) g.base g.some now next f.entry t.goes (subst (λ (x : Header). IsPlaced now x next) (sym f.header) placed) count);
        next = subst (AreBehind start (journals_of blocks)) (sym f.more)
            (behind_more start (journals_of blocks) (take i es) (f.entry ∷ []) t.next (subst (IsNextBehind start (journals_of blocks ++ take i es)) (sym f.header) (placed.next_behind start (journals_of blocks ++ take i es) t.goes.behind), tt));
      };
}

pub went_other : (old now : Kept) (rs : List RecordAt) (i n : ℕ) (r : RecordAt) → i < length rs → get_or rs i r ≡ r → Went old now rs i
    → ((start : Option Base) (js : List Entry) → StandsBehind now start js → IsNextBehind start js r.header → ⊥) → n ≡ now.size
    → (start : Option Base) (blocks : List (List Entry)) (es : List Entry) → Headed es rs → Goes old start blocks [] → IsOther start (journals_of blocks) es n
went_other old now rs i n r lt is w refused count start blocks es h g =
    let f = here es rs i r h lt is in
    let t = w.goes start blocks es h g in
    let size : length es ≡ length rs = headed_size es rs h in
    record {
      index = i;
      inside = f.inside;
      number = omega (arith, count, t.goes.behind.size_is, length-append (journals_of blocks) (take i es), take_size i es (omega (arith, size, lt)));
      next = t.next;
      other = λ e y. refused start (journals_of blocks ++ take i es) t.goes.behind (subst (IsNextBehind start (journals_of blocks ++ take i es)) (ap (λ (x : Entry). x.header) (f.is e) ∙ f.header) y);
    }

pub went_all : (old now : Kept) (rs : List RecordAt) (i : ℕ) → i ≡ length rs → Went old now rs i → (start : Option Base) (blocks : List (List Entry)) (es : List Entry) → Headed es rs → Goes old start blocks [] → TakesAllOf now start blocks es
went_all old now rs i all w start blocks es h g =
    let size : length es ≡ i = headed_size es rs h ∙ sym all in
    subst (TakesAllOf now start blocks) (ap (λ (k : ℕ). take k es) (sym size) ∙ take_all (length es) es (omega arith)) (w.goes start blocks es h g)

pub at_any : (rs : List RecordAt) (i : ℕ) (d e : RecordAt) → i < length rs → get_or rs i e ≡ get_or rs i d
at_any [] i d e lt = absurd (omega (arith, lt))
at_any (x ∷ xs) zero d e lt = refl
at_any (x ∷ xs) (suc i) d e lt = at_any xs i d e (omega (arith, lt))

-- ---- the block's end

leaves_again : (js : List Entry) → map leaf_digest js ≡ map (leaf sha256) (leaves_of js)
leaves_again [] = refl
leaves_again (j ∷ js) = ap (λ (l : List (List ℕ)). leaf_digest j ∷ l) (leaves_again js)

-- the root that the book has is that of the file
root_floor : (start : Option Base) (js : List Entry) → root_behind start js ≡ (floor_from start).root (leaves_of js)
root_floor None js = ap (root sha256) (leaves_again js)
root_floor (Some b) js = ap (root_from sha256 (map (λ (d : Digest). d.0) b.peaks) b.point) (leaves_again js)

root_of_block : (start : Option Base) (blocks : List (List Entry)) (es : List Entry) → root_behind start (journals_of blocks ++ es) ≡ (floor_from start).root (leaves_of (journals_of blocks) ++ leaves_of es)
root_of_block start blocks es = root_floor start (journals_of blocks ++ es) ∙ ap (floor_from start).root (map-append (λ (e : Entry). spelling e.header) (journals_of blocks) es)

-- what ending a block tells
pub record IsSealed (mid new : Kept) (block : ℕ) (found : Digest) : Type 0 where
  pub closes : (h : History) → Stands mid h → Stands new (close h)
  pub behind : (start : Option Base) (js : List Entry) → StandsBehind mid start js → StandsBehind new start js
  pub size : new.size ≡ mid.size
  pub all : new.sealed ≡ mid.size
  pub number : block ≡ mid.blocks
  pub count : new.blocks ≡ mid.blocks + 1
  pub root : (start : Option Base) (js : List Entry) → StandsBehind mid start js → found.0 ≡ root_behind start js

-- .. as the call's clauses say it
pub sealed_of : (mid new : Kept) (told : Option Sealed) (sealed : Sealed) → told ≡ Some sealed → ((h : History) → Stands mid h → Stands new (close h)) → ((start : Option Base) (js : List Entry) → StandsBehind mid start js → StandsBehind new start js)
    → (new.size ≡ mid.size) × (new.sealed ≡ mid.size) → IfSome told (λ s. IsNextSealed mid new s) → IfSome told (λ s. (start : Option Base) (js : List Entry) → StandsBehind mid start js → s.head.root.0 ≡ root_behind start js)
    → IsSealed mid new sealed.block sealed.head.root
sealed_of mid new told sealed is closes behind ended next root =
    let n = subst (λ (o : Option Sealed). IfSome o (λ s. IsNextSealed mid new s)) is next in
    record {
      closes = closes;
      behind = behind;
      size = ended.0;
      all = ended.1;
      number = n.block;
      count = n.count;
      root = subst (λ (o : Option Sealed). IfSome o (λ s. (start : Option Base) (js : List Entry) → StandsBehind mid start js → s.head.root.0 ≡ root_behind start js)) is root;
    }

share_all : (es : List Entry) (rs : List RecordAt) (share : ℕ) → Headed es rs → share ≡ length rs → take share es ≡ es
share_all es rs share h all = take_all share es (omega (arith, all, headed_size es rs h))

module _ (old mid : Kept) (rs : List RecordAt) (share : ℕ) (some : 1 ≤ share) (shares : (es : List Entry) → Headed es rs → CanShare (take share es))
    (goes : (start : Option Base) (blocks : List (List Entry)) (es : List Entry) → Headed es (take share rs) → Goes old start blocks [] → TakesAllOf mid start blocks es) where
  whole : share ≡ length rs → (start : Option Base) (blocks : List (List Entry)) (es : List Entry) → Headed es rs → Goes old start blocks [] → TakesAllOf mid start blocks es
  whole all start blocks es h g = subst (TakesAllOf mid start blocks) (share_all es rs share h all) (goes start blocks (take share es) (headed_take share es rs h) g)

  can_share : share ≡ length rs → (es : List Entry) → Headed es rs → CanShare es
  can_share all es h = subst CanShare (share_all es rs share h all) (shares es h)

  pub takes_block : (new : Kept) (block : ℕ) (found kept : Digest) → share ≡ length rs → IsSealed mid new block found → found.0 ≡ kept.0
      → (start : Option Base) (blocks : List (List Entry)) (es : List Entry) → Headed es rs → Goes old start blocks [] → TakesBlock new start blocks es kept.0
  takes_block new block found kept all s same start blocks es h g =
      let t = whole all start blocks es h g in
      record {
        goes = goes_closed start blocks es g.base mid new t.goes s.closes (s.behind start (journals_of blocks ++ es) t.goes.behind) s.count;
        settled = s.size ∙ sym s.all;
        next = t.next;
        share = can_share all es h;
        root_is = sym same ∙ s.root start (journals_of blocks ++ es) t.goes.behind ∙ root_of_block start blocks es;
      }

  pub other_root : (new : Kept) (block : ℕ) (found kept : Digest) → share ≡ length rs → IsSealed mid new block found → found.0 ≢ kept.0
      → (start : Option Base) (blocks : List (List Entry)) (es : List Entry) → Headed es rs → Goes old start blocks [] → IsBadBlock start blocks es kept.0 (damages.Root block kept found)
  other_root new block found kept all s other start blocks es h g =
      let t = whole all start blocks es h g in (
        s.number ∙ t.goes.number,
        refl,
        record { next = t.next; share = can_share all es h; found_is = s.root start (journals_of blocks ++ es) t.goes.behind ∙ root_of_block start blocks es; other = other },
      )

  -- the block has a journal, so it ends
  pub never_none : (new : Kept) → share ≡ length rs → old.size ≡ old.sealed → mid.sealed ≡ old.sealed → new ≡ mid → new.sealed ≡ mid.size
      → (start : Option Base) (blocks : List (List Entry)) (es : List Entry) → Headed es rs → Goes old start blocks [] → ⊥
  never_none new all settled sealed same ended start blocks es h g =
      let t = whole all start blocks es h g in
      let at : new.sealed ≡ mid.sealed = ap (λ (k : Kept). k.sealed) same in
      omega (arith, some, all, settled, sealed, at, ended, t.goes.behind.size_is, g.behind.size_is, length-append (journals_of blocks) es, length-append (journals_of blocks) [], headed_size es rs h)

  pub not_alone : (first : ℕ) → share < length rs → ((es : List Entry) → Headed es rs → CanShare (take (share + 1) es) → ⊥)
      → (start : Option Base) (blocks : List (List Entry)) (es : List Entry) → Headed es rs → first ≡ next_number start (journals_of blocks) → Goes old start blocks [] → IsNotNext start (journals_of blocks) es (first + share)
  not_alone first less refused start blocks es h number g = record {
    index = share;
    inside = omega (arith, less, headed_size es rs h);
    number = omega (arith, number);
    next = (goes start blocks (take share es) (headed_take share es rs h) g).next;
    share = shares es h;
    why = inr (refused es h);
  }

-- the first that isn't the next one among those that can share
pub other_first : (rs : List RecordAt) (share jsn : ℕ) (start : Option Base) (blocks : List (List Entry)) (es : List Entry) → share ≤ length rs → Headed es rs → CanShare (take share es)
    → IsOther start (journals_of blocks) (take share es) jsn → IsNotNext start (journals_of blocks) es jsn
other_first rs share jsn start blocks es le h can o =
    let size : length (take share es) ≡ share = take_size share es (omega (arith, le, headed_size es rs h)) in
    let less : o.index < share = omega (arith, o.inside, size) in
    let same : take o.index (take share es) ≡ take o.index es = take-take o.index share es (omega (arith, less)) in
    record {
      index = o.index;
      inside = omega (arith, less, le, headed_size es rs h);
      number = o.number;
      next = subst (AreBehind start (journals_of blocks)) same o.next;
      share = share_less o.index share es less can;
      why = inl (λ e next. o.other e (subst (λ (l : List Entry). IsNextBehind start (journals_of blocks ++ l) (get_or (take share es) o.index e).header) (sym same) (subst (λ (x : Entry). IsNextBehind start (journals_of blocks ++ take o.index es) x.header) (sym (get_or-take share es o.index e less)) next)));
    }

pub same_bytes : (a b : List ℕ) → not (bytes_eq a b) ≡ false → a ≡ b
same_bytes a b e = (bytes_eq-Decides a b).0 (not_false (bytes_eq a b) e) where
  not_false : (v : Bool) → not v ≡ false → v ≡ true
  not_false true e = refl
  not_false false e = sym e

pub other_bytes : (a b : List ℕ) → not (bytes_eq a b) ≡ true → a ≢ b
other_bytes a b e same = true≢false (sym ((bytes_eq-Decides a b).1 same) ∙ not_true (bytes_eq a b) e)

-- what replaying told
pub replayed : (old new : Kept) (header : Header) (told : Result Unit Damage) (done : Unit) → told ≡ Ok done → Replays old header told new → IsPlaced old header new
replayed old new header told done is r = subst (λ (t : Result Unit Damage). Replays old header t new) is r

pub refused : (old new : Kept) (header : Header) (told : Result Unit Damage) (damage : Damage) → told ≡ Err damage → Replays old header told new → IsNotPlaced old header damage new
refused old new header told damage is r = subst (λ (t : Result Unit Damage). Replays old header t new) is r

pub headed_by : (es : List Entry) (rs ss : List RecordAt) → ss ≡ rs → Headed es rs → Headed es ss
headed_by es rs ss is h = h ∙ ap (map (λ (r : RecordAt). r.header)) (sym is)
