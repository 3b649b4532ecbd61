-- Lemmas on a book of what stands behind a base.
use Rattle.std.specs.Prelude.{All, filter, max, nat_le, nat_lt, slice_get}
use Rattle.std.specs.List.{list_any}
use Rattle.std.specs.Option.{is_some}
use Rattle.std.proofs.Common.{◌≡◌, ◌≢◌, ℕ, ◌+◌, ◌-◌, ◌<◌, ◌≤◌, ◌&&◌, ◌||◌, ◌==◌, Bool, true, false, cond, not, List, [], ◌∷◌, ◌++◌, Option, Some, None, length, map, refl, sym, subst, ap, ◌∙◌, arith, append-nil, append_assoc, length-append}
use Rattle.std.proofs.lemmas.Bool.{eqb-true, eq-eqb, ltb-true, ltb-false, true≢false}
use Rattle.std.proofs.lemmas.List.{map-append}
use Rattle.std.proofs.lemmas.List.Elements.{All-nil, All-cons}
use Rattle.std.proofs.lemmas.List.Folds.{list_any-append}
use Rattle.sha2.specs.Sha256.{sha256}
use Rattle.tree_model.specs.Tree.{leaf}
use Rattle.ledger_bytes.specs.declared.digest.Digest.{Digest}
use Rattle.journal_record.specs.Entry.{Entry}
use Rattle.journal_record.specs.Header.{spelling}
use Rattle.journal_record.specs.Rules.{is_no_clue, clue_ok, clue_ord_ok}
use Rattle.journal_record.specs.declared.header.Header.{Header}
use Rattle.journal_record.specs.declared.header.Kind.{Kind}
use Rattle.journal_record.specs.declared.header.Kind.TheVariants as kind
use Rattle.clue_index.specs.Added.{Added, Mark, with_mark, trail_of}
use Rattle.clue_index.specs.Index as index
use Rattle.clue_index.specs.Trail.{kept_from}
use Rattle.merkle_batch.specs.Rows.{Levels, StandsFor}
use Rattle.merkle_batch.specs.Over.{StandsOver}
use Rattle.ledger_model.specs.Bases.{clue_mark_of}
use Rattle.ledger_model.specs.Clues.{has_clue, numbers_of}
use Rattle.ledger_model.proofs.LawfulLaws.{AreFrom}
use Rattle.ledger_model.specs.History.{leaf_digest, is_purge, greatest_point}
use Rattle.ledger_model.specs.Members.{members, founders, is_member, member_of, admitted_members}
use Rattle.ledger_model.specs.Targets.{is_occult, names, is_hidden_by}
use Rattle.ledger_model.proofs.PlaceLaws.{founders_kept, admitted_more, admitted_same}
use Rattle.pseudo_genesis.specs.declared.base.Base.{Base}
use Rattle.ledger_model.specs.Behind.{IsNextBehind, IsOwnBehind, AreBehind, first_of, count_behind, clues_behind, is_purge_to, next_number}
use Rattle.ledger_book.specs.Books.{Kept}
use Rattle.ledger_book.specs.Fronts.{namer_in, AddsFront}
use Rattle.ledger_book.specs.Hiders.{hider_in, with_hider_of, AreClued}
use Rattle.ledger_book.specs.Reading.{HasLeaves, StandsBehind}
use Rattle.ledger_book.specs.Steps.{IsAsBefore, point_with, with_clue_of, reached_with}
use Rattle.ledger_book.proofs.HiderLaws.{AreOfClue, or_false, or_true, hidden_next}
use Rattle.ledger_book.proofs.OwnLaws.{own_more}
use Rattle.ledger_book.proofs.ClueLaws.{filter_takes, filter_leaves, numbers_same}
use Rattle.ledger_book.proofs.TimeLaws.{points_more}

-- more room for the tree changes nothing
leaves_same : (old new : Kept) (start : Option Base) (es : List Entry) → IsAsBefore old new → HasLeaves start old.tree es → HasLeaves start new.tree es
leaves_same old new None es same leaves = same.tree (map leaf_digest es) leaves
leaves_same old new (Some b) es same leaves = same.over b.point (map (λ (d : Digest). d.0) b.peaks) (map leaf_digest es) leaves

pub as_before_behind : (old new : Kept) (start : Option Base) (es : List Entry) → IsAsBefore old new → StandsBehind old start es → StandsBehind new start es
as_before_behind old new start es same s =
    let moved : StandsBehind (record old { tree = new.tree }) start es = record {
      begins = s.begins;
      are = s.are;
      floor = s.floor;
      size_is = s.size_is;
      point = s.point;
      reached = s.reached;
      members = s.members;
      clues = s.clues;
      hiders = s.hiders;
      fronts = s.fronts;
      headers_are = s.headers_are;
      leaves = leaves_same old new start es same s.leaves;
    } in
    subst (λ (k : Kept). StandsBehind k start es) (sym same.kept) moved

-- ---- a journal more

pub are_more : (start : Option Base) (before es : List Entry) (j : Entry) → AreBehind start before es → IsNextBehind start (before ++ es) j.header → AreBehind start before (es ++ j ∷ [])
are_more start before [] j are next = (subst (λ (l : List Entry). IsNextBehind start l j.header) (append-nil before) next, tt)
are_more start before (e ∷ es) j are next =
    (are.0, are_more start (before ++ e ∷ []) es j are.1 (subst (λ (l : List Entry). IsNextBehind start l j.header) (sym (append_assoc before (e ∷ []) es)) next))

-- the marks are those of earlier journals
marks_under : (start : Option Base) (before es : List Entry) (n : ℕ) → AreBehind start before es → next_number start before + length es ≤ n → All (λ (m : Mark). m.jsn < n) (map clue_mark_of (filter has_clue es))
marks_under start before [] n are le = All-nil (λ (m : Mark). m.jsn < n)
marks_under start before (e ∷ es) n are le =
    let later = marks_under start (before ++ e ∷ []) es n are.1 (omega (arith, le, length-append before (e ∷ []))) in
    elim (has_clue e) as (λ v. All (λ (m : Mark). m.jsn < n) (map clue_mark_of (cond v (e ∷ filter has_clue es) (filter has_clue es)))) [
      | true ↦ All-cons (λ (m : Mark). m.jsn < n) (clue_mark_of e) (map clue_mark_of (filter has_clue es)) (omega (arith, are.0.jsn, le)) later
      | false ↦ later
    ]

pub clues_under : (start : Option Base) (es : List Entry) (n : ℕ) → AreBehind start [] es → next_number start es ≡ n → All (λ (m : Mark). m.jsn < n) (clues_behind start es).marks
clues_under None es n are at = marks_under None [] es n are (omega (arith, at))
clues_under (Some b) es n are at = marks_under (Some b) [] es n are (omega (arith, at))

clues_low : (start : Option Base) (es : List Entry) → (clues_behind start es).floor ≡ first_of start
clues_low None es = refl
clues_low (Some b) es = refl

-- the clues
marks_next : (es : List Entry) (j : Entry) → has_clue j ≡ true → map clue_mark_of (filter has_clue (es ++ j ∷ [])) ≡ map clue_mark_of (filter has_clue es) ++ clue_mark_of j ∷ []
marks_next es j is = ap (map clue_mark_of) (filter_takes has_clue es j is) ∙ map-append clue_mark_of (filter has_clue es) (j ∷ [])

clues_next : (start : Option Base) (es : List Entry) (j : Entry) → with_clue_of j.header (clues_behind start es) ≡ clues_behind start (es ++ j ∷ [])
clues_next start es j =
    elim (is_no_clue j.header.clue) as (λ v. is_no_clue j.header.clue ≡ v → cond v (clues_behind start es) (with_mark j.header.clue.0 j.header.jsn (clues_behind start es)) ≡ clues_behind start (es ++ j ∷ [])) [
      | true ↦ λ is. same start (ap not is)
      | false ↦ λ is. more start (ap not is)
    ] refl
  where
    same : (start : Option Base) → has_clue j ≡ false → clues_behind start es ≡ clues_behind start (es ++ j ∷ [])
    same None is = ap (λ (l : List Entry). record { states = []; marks = map clue_mark_of l; floor = 0 }) (sym (filter_leaves has_clue es j is))
    same (Some b) is = ap (λ (l : List Entry). record { states = b.clues; marks = map clue_mark_of l; floor = b.point }) (sym (filter_leaves has_clue es j is))

    more : (start : Option Base) → has_clue j ≡ true → with_mark j.header.clue.0 j.header.jsn (clues_behind start es) ≡ clues_behind start (es ++ j ∷ [])
    more None is = ap (λ (ms : List Mark). record { states = []; marks = ms; floor = 0 }) (sym (marks_next es j is))
    more (Some b) is = ap (λ (ms : List Mark). record { states = b.clues; marks = ms; floor = b.point }) (sym (marks_next es j is))

-- the hiders
or_parts : (v w : Bool) → (v || w) ≡ false → (v ≡ false) × (w ≡ false)
or_parts true w none = absurd (true≢false none)
or_parts false w none = (refl, none)

-- the journals have the numbers from the first on
pub behind_from : (start : Option Base) (before es : List Entry) → AreBehind start before es → AreFrom (next_number start before) es
behind_from start before [] are = tt
behind_from start before (e ∷ es) are =
    (are.0.jsn, are.0.layout, subst (λ n. AreFrom n es) (let same : next_number start (before ++ e ∷ []) ≡ next_number start before + 1 = omega (arith, length-append before (e ∷ [])) in same) (behind_from start (before ++ e ∷ []) es are.1))

pub from_first : (start : Option Base) (es : List Entry) → AreBehind start [] es → AreFrom (first_of start) es
from_first start es are = subst (λ n. AreFrom n es) (let same : next_number start [] ≡ first_of start = omega arith in same) (behind_from start [] es are)

-- the journals of a clue that an index was given behind a base
pub behind_numbers : (start : Option Base) (es : List Entry) (clue : Digest) → (trail_of (clues_behind start es) clue.0).jsns ≡ numbers_of clue es
behind_numbers None es clue = numbers_same clue es
behind_numbers (Some b) es clue = numbers_same clue es

-- .. and those that are kept
pub kept_behind : (start : Option Base) (es : List Entry) (clues : index.KeptTrails) (clue : Digest) (kept : List ℕ) → index.StandsForTrails clues (clues_behind start es)
    → ((a : Added) → index.StandsForTrails clues a → kept ≡ kept_from a.floor (trail_of a clue.0)) → kept ≡ filter (λ n. nat_le (first_of start) n) (numbers_of clue es)
kept_behind start es clues clue kept stands told =
    told (clues_behind start es) stands
    ∙ ap (λ f. filter (λ n. nat_le f n) (trail_of (clues_behind start es) clue.0).jsns) (clues_low start es)
    ∙ ap (filter (λ n. nat_le (first_of start) n)) (behind_numbers start es clue)

clued_behind : (start : Option Base) (es : List Entry) (clues : index.KeptTrails) (x : Header) (clued : List ℕ) → index.StandsForTrails clues (clues_behind start es) → AreClued clues x clued → AreOfClue (first_of start) es x clued
clued_behind start es clues x clued stands are is = kept_behind start es clues x.link clued stands (are is)

-- the targets in front of the base
unnamed_front : (floor : ℕ) (old new : List (ℕ × ℕ)) (x : Header) (n : ℕ) → AddsFront kind.Occult floor x old new → n ≢ x.a → namer_in n new ≡ namer_in n old
unnamed_front floor old new x n adds other = elim (nat_lt x.a floor) as (λ v. nat_lt x.a floor ≡ v → namer_in n new ≡ namer_in n old) [
  | true ↦ λ e. (adds.0 (ltb-true x.a floor e)).others n other
  | false ↦ λ e. ap (namer_in n) (adds.1 (ltb-false x.a floor e))
] refl

fronts_next : (floor : ℕ) (old new : List (ℕ × ℕ)) (es : List Entry) (j : Entry) → ((n : ℕ) → n < floor → is_some (namer_in n old) ≡ list_any (names n) es)
    → is_purge_to floor j.header ≡ false → AddsFront j.header.kind floor j.header old new → (n : ℕ) → n < floor → is_some (namer_in n new) ≡ list_any (names n) (es ++ j ∷ [])
fronts_next floor old new es j before no_purge adds n lt = by_kind j.header.kind refl no_purge adds ∙ sym (list_any-append (names n) es (j ∷ [])) where
  others : namer_in n new ≡ namer_in n old → names n j ≡ false → is_some (namer_in n new) ≡ (list_any (names n) es || (names n j || false))
  others same none = ap is_some same ∙ before n lt ∙ sym (ap (λ v. list_any (names n) es || (v || false)) none ∙ or_false (list_any (names n) es))

  unnamed : (k : Kind) → j.header.kind ≡ k → is_occult k ≡ false → names n j ≡ false
  unnamed k is none = ap (λ (x : Kind). is_occult x && j.header.a == n) is ∙ ap (λ v. v && j.header.a == n) none

  by_kind : (k : Kind) → j.header.kind ≡ k → (is_purge k && j.header.a == floor) ≡ false → AddsFront k floor j.header old new → is_some (namer_in n new) ≡ (list_any (names n) es || (names n j || false))
  by_kind kind.Genesis is apart adds = others (ap (namer_in n) adds) (unnamed kind.Genesis is refl)
  by_kind kind.Content is apart adds = others (ap (namer_in n) adds) (unnamed kind.Content is refl)
  by_kind kind.Member is apart adds = others (ap (namer_in n) adds) (unnamed kind.Member is refl)
  by_kind kind.Time is apart adds = others (ap (namer_in n) adds) (unnamed kind.Time is refl)
  by_kind kind.ClueOccult is apart adds = others (ap (namer_in n) adds) (unnamed kind.ClueOccult is refl)
  by_kind kind.Purge is apart adds = others (ap (namer_in n) (adds (λ same. true≢false (sym (eq-eqb j.header.a floor same) ∙ apart)))) (unnamed kind.Purge is refl)
  by_kind kind.Occult is apart adds = elim (j.header.a == n) as (λ v. (j.header.a == n) ≡ v → is_some (namer_in n new) ≡ (list_any (names n) es || (names n j || false))) [
    | true ↦ λ e.
        let at : j.header.a ≡ n = eqb-true j.header.a n e in
        let here : namer_in n new ≡ Some j.header.jsn = ap (λ m. namer_in m new) (sym at) ∙ (adds.0 (omega (arith, at, lt))).here in
        ap is_some here ∙ sym (ap (λ v. list_any (names n) es || (v || false)) (ap (λ (x : Kind). is_occult x && j.header.a == n) is ∙ e) ∙ or_true (list_any (names n) es))
    | false ↦ λ e.
        let other : n ≢ j.header.a = λ same. true≢false (sym (eq-eqb j.header.a n (sym same)) ∙ e) in
        others (unnamed_front floor old new j.header n adds other) (ap (λ (x : Kind). is_occult x && j.header.a == n) is ∙ e)
  ] refl

-- the point
risen : (start : Option Base) (es : List Entry) (x : Header) (k : Kind) → IsOwnBehind start es x k → cond (is_purge k) x.a (greatest_point es) ≡ max (greatest_point es) (cond (is_purge k) x.a 0)
risen start es x kind.Genesis own = omega arith
risen start es x kind.Content own = omega arith
risen start es x kind.Member own = omega arith
risen start es x kind.Time own = omega arith
risen start es x kind.Occult own = omega arith
risen start es x kind.ClueOccult own = omega arith
risen start es x kind.Purge own = omega (arith, own.above)

-- the members
admitted_next : (es : List Entry) (j : Entry) → length (admitted_members (es ++ j ∷ [])) ≡ length (admitted_members es) + cond (is_member j.header.kind) 1 0
admitted_next es j =
    elim (is_member j.header.kind) as (λ v. is_member j.header.kind ≡ v → length (admitted_members (es ++ j ∷ [])) ≡ length (admitted_members es) + cond v 1 0) [
      | true ↦ λ is. ap length (admitted_more es j is) ∙ length-append (admitted_members es) (member_of j ∷ [])
      | false ↦ λ is. ap length (admitted_same es j is) ∙ omega arith
    ] refl

count_next : (start : Option Base) (es : List Entry) (j : Entry) → 1 ≤ next_number start es → count_behind start (es ++ j ∷ []) ≡ count_behind start es + cond (is_member j.header.kind) 1 0
unfolding members
count_next None es j some =
    omega (arith, length-append (founders (es ++ j ∷ [])) (admitted_members (es ++ j ∷ [])), length-append (founders es) (admitted_members es), ap length (founders_kept es (j ∷ []) (let one : 1 ≤ length es = omega (arith, some) in one)), admitted_next es j)
count_next (Some b) es j some = omega (arith, admitted_next es j)

-- the leaves
leaves_next : (start : Option Base) (old new : Levels) (es : List Entry) (j : Entry) → ((ds : List (List ℕ)) → StandsFor sha256 old ds → StandsFor sha256 new (ds ++ leaf_digest j ∷ []))
    → ((p : ℕ) (ps xs : List (List ℕ)) → StandsOver sha256 old p ps xs → StandsOver sha256 new p ps (xs ++ leaf_digest j ∷ [])) → HasLeaves start old es → HasLeaves start new (es ++ j ∷ [])
leaves_next None old new es j list over leaves = subst (StandsFor sha256 new) (sym (map-append leaf_digest es (j ∷ []))) (list (map leaf_digest es) leaves)
leaves_next (Some b) old new es j list over leaves =
    subst (StandsOver sha256 new b.point (map (λ (d : Digest). d.0) b.peaks)) (sym (map-append leaf_digest es (j ∷ []))) (over b.point (map (λ (d : Digest). d.0) b.peaks) (map leaf_digest es) leaves)

-- what a call does that places a journal with this header
pub record IsMore (old new : Kept) (start : Option Base) (es : List Entry) (x : Header) : Type 0 where
  pub floor : new.floor ≡ old.floor
  pub size_is : new.size ≡ old.size + 1
  pub point : new.point ≡ point_with x old.point
  pub reached : new.reached ≡ reached_with x old.floor old.reached
  pub members : length new.members ≡ length old.members + cond (is_member x.kind) 1 0
  pub clues : (a : Added) → clue_ok x.kind x.clue ≡ true → clue_ord_ok x.clue x.clue_ord ≡ true → index.StandsForTrails old.clues a → a.floor ≤ x.jsn → All (λ (m : Mark). m.jsn < x.jsn) a.marks → index.StandsForTrails new.clues (with_clue_of x a)
  pub clued : List ℕ
  pub clued_are : AreClued old.clues x clued
  pub hiders : new.hiders ≡ with_hider_of old.floor x clued old.hiders
  pub all : old.floor + length old.hiders ≡ old.size
  pub fronts : AddsFront x.kind old.floor x old.fronts new.fronts
  pub headers_are : new.headers ≡ old.headers ++ x ∷ []
  pub list : (ds : List (List ℕ)) → StandsFor sha256 old.tree ds → StandsFor sha256 new.tree (ds ++ leaf sha256 (spelling x) ∷ [])
  pub over : (p : ℕ) (ps xs : List (List ℕ)) → StandsOver sha256 old.tree p ps xs → StandsOver sha256 new.tree p ps (xs ++ leaf sha256 (spelling x) ∷ [])
  pub next : IsNextBehind start es x

more_here : (old new : Kept) (start : Option Base) (es : List Entry) (j : Entry) → 1 ≤ old.size → StandsBehind old start es → IsMore old new start es j.header → StandsBehind new start (es ++ j ∷ [])
more_here old new start es j some s m = record {
  begins = s.begins;
  are = are_more start [] es j s.are m.next;
  floor = m.floor ∙ s.floor;
  size_is = omega (arith, m.size_is, s.size_is, length-append es (j ∷ []));
  point = m.point ∙ ap (λ p. cond (is_purge j.header.kind) j.header.a p) s.point ∙ risen start es j.header j.header.kind m.next.own ∙ sym (points_more es j);
  reached = m.reached ∙ ap (λ n. reached_with j.header n old.reached) s.floor ∙ ap (reached_with j.header (first_of start)) s.reached ∙ sym (own_more start es j);
  members = omega (arith, m.members, s.members, count_next start es j (omega (arith, some, s.size_is)));
  clues = subst (index.StandsForTrails new.clues) (clues_next start es j)
      (m.clues (clues_behind start es) m.next.layout.clue m.next.layout.clue_ord s.clues (omega (arith, clues_low start es, m.next.jsn)) (clues_under start es j.header.jsn s.are (sym m.next.jsn)));
  hiders = λ n le.
      let floored : (first_of start ≡ old.floor) = sym s.floor in
      ap (λ f. is_some (hider_in f new.hiders n)) (m.floor ∙ s.floor)
      ∙ (ap (λ (l : List ℕ). is_some (hider_in (first_of start) l n)) (m.hiders ∙ ap (λ f. with_hider_of f j.header m.clued old.hiders) s.floor)
      ∙ hidden_next (first_of start) old.hiders es j m.clued (from_first start (es ++ j ∷ []) (are_more start [] es j s.are m.next)) (from_first start es s.are) m.next.layout m.next.jsn (omega (arith, m.next.jsn, s.size_is, some)) (ap (λ f. f + length old.hiders) floored ∙ (m.all ∙ s.size_is)) (clued_behind start es old.clues j.header m.clued s.clues m.clued_are)
      (subst (λ f. (i : ℕ) → first_of start ≤ i → is_some (hider_in f old.hiders i) ≡ is_hidden_by es (slice_get es (i - first_of start))) s.floor s.hiders) n le);
  fronts = λ unseen n lt.
      let apart = or_parts (is_purge_to old.floor j.header) old.reached (sym m.reached ∙ unseen) in
      fronts_next (first_of start) old.fronts new.fronts es j (s.fronts apart.1) (ap (λ f. is_purge_to f j.header) (sym s.floor) ∙ apart.0) (subst (λ f. AddsFront j.header.kind f j.header old.fronts new.fronts) s.floor m.fronts) n lt;
  headers_are = m.headers_are ∙ ap (λ l. l ++ j.header ∷ []) s.headers_are ∙ sym (map-append (λ (e : Entry). e.header) es (j ∷ []));
  leaves = leaves_next start old.tree new.tree es j m.list m.over s.leaves;
}

pub more_behind : (old new : Kept) (start : Option Base) (es : List Entry) (j : Entry) (header : Header) → 1 ≤ old.size → StandsBehind old start es → j.header ≡ header → IsMore old new start es header → StandsBehind new start (es ++ j ∷ [])
more_behind old new start es j header some s is m = more_here old new start es j some s (subst (IsMore old new start es) (sym is) m)

-- a new member has no clue
pub member_clue : (a : Added) (k : index.KeptTrails) (x : Header) → x.kind ≡ kind.Member → clue_ok x.kind x.clue ≡ true → index.StandsForTrails k a → index.StandsForTrails k (with_clue_of x a)
member_clue a k x member ok stands =
    let none : is_no_clue x.clue ≡ true = subst (λ (y : Kind). clue_ok y x.clue ≡ true) member ok in
    subst (index.StandsForTrails k) (sym (ap (λ v. cond v a (with_mark x.clue.0 x.jsn a)) none)) stands
