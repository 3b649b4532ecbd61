-- Lemmas on a header that is the next one of a history: it is so for who sees only what stands behind a base of it; once the
-- purge to the base's own point was seen, it is the other way round too.
use Rattle.std.specs.List.{list_any, AllByRecursion}
use Rattle.std.specs.Option.{is_some}
use Rattle.std.specs.Prelude.{Bool, true, false, cond, Option, Some, None, get_or, slice_get, filter, max, nat_le, bytes_eq, zero, suc, not, T}
use Rattle.std.specs.FinMap.{entries, is_sorted, entries_sorted}
use Rattle.std.specs.Set.{distinct_count}
use Rattle.std.proofs.Common.{◌≡◌, ℕ, ◌+◌, ◌-◌, ◌<◌, ◌≤◌, ◌&&◌, ◌||◌, ◌==◌, List, [], ◌∷◌, ◌++◌, length, map, take, drop, refl, sym, ◌∙◌, ap, subst, arith, append-nil, append_assoc, length-append, length-drop, take-append-drop}
use Rattle.std.proofs.lemmas.Bool.{true≢false, le-leb, lt-leb, leb-true, leb-false, eqb-true, and_parts}
use Rattle.std.proofs.lemmas.List.{map-append, length-map, take_at, drop_at, get_or-drop}
use Rattle.std.proofs.lemmas.List.Elements.{filter-append}
use Rattle.std.proofs.lemmas.List.Folds.{list_any-append}
use Rattle.ledger_bytes.specs.declared.digest.Digest.{Digest}
use Rattle.clue_index.specs.Added.{Added, Mark, table_of, trail_of, jsns_of, different_clues, states_at, from_point}
use Rattle.clue_index.specs.Trail.{Trail, count_of, last_of, last_from, Ascends}
use Rattle.clue_index.specs.declared.state.ClueState.{ClueState}
use Rattle.clue_index.proofs.CarryLaws.{trail_begun, given, listed_begun}
use Rattle.clue_index.proofs.TrailLaws.{count_seen, last_seen}
use Rattle.journal_record.specs.Entry.{Entry}
use Rattle.ledger_model.specs.Clues.{has_clue, is_of_clue, numbers_of, jsns_with, clue_count, next_ordinal, last_journal}
use Rattle.ledger_model.proofs.LawfulLaws.{AreFrom, lawful_from, later_seen, two_points, point_below, front_from, take_few}
use Rattle.ledger_model.specs.Bases.{clue_mark_of, clues_added, front}
use Rattle.ledger_model.proofs.EarlyLaws.{states_early}
use Rattle.ledger_model.proofs.MarkLaws.{marks, marks_low}
use Rattle.std.specs.List.Sorted.{IsStrictlySortedBy}
use Rattle.std.specs.Cmp.Lexicographic.{slice_cmp}
use Rattle.std.specs.Map.{keys_of}
use Rattle.std.specs.Ordering.{is_lt, nat_cmp}
use Rattle.std.specs.declared.cmp.Ordering.{Ordering}
use Rattle.std.specs.declared.cmp.Ordering.TheVariants.{Less, Equal, Greater}
use Rattle.std.specs.FinMap.Entries.{below_all}
use Rattle.std.proofs.lemmas.Cmp.{eq_by_cmp_equiv, nat_list_cmp_total}
use Rattle.std.proofs.lemmas.Map.Keys.{IsDistinct-from_sorted}
use Rattle.std.proofs.lemmas.Map.Made.{length-from_same_keys}
use Rattle.clue_index.proofs.OrderLaws.{different_count}
use Rattle.ledger_bytes.specs.declared.refusal.Refusal.TheVariants.{CluesFull}
use Rattle.journal_record.specs.Rules.{is_no_clue}
use Rattle.journal_record.specs.declared.header.Header.{Header}
use Rattle.journal_record.specs.declared.header.Kind.{Kind}
use Rattle.journal_record.specs.declared.member.Member.{Member}
use Rattle.ledger_model.specs.History.{History, history, journals, size, point, greatest_point, leaf_digest, seen_point}
use Rattle.ledger_model.specs.Judgements.{clues_full}
use Rattle.ledger_model.specs.Members.{founders, admits, member_of, admitted_members, members}
use Rattle.ledger_model.specs.Targets.{names, hides, is_hidden_by, is_hidden, kind_at, leaf_at, shown_with}
use Rattle.ledger_model.proofs.HideLaws.{hides_behind, named_is, none_named, number_at, shown_unnamed}
use Rattle.ledger_book.proofs.ShownLaws.{is_shown, shown_numbers, front_gone}
use Rattle.pseudo_genesis.specs.declared.base.Base.{Base}
use Rattle.ledger_model.specs.Behind.{count_behind, clues_behind, shown_behind, IsRecordBehind, IsOwnBehind, BeginsWell, IsNextBehind, AreBehind, has_own_purge}
use Rattle.ledger_book.proofs.NumberedLaws.{fresh_behind, from_floor}
use Rattle.ledger_book.proofs.OwnLaws.{own_least, false_where}
use Rattle.ledger_book.proofs.GroundLaws.{full, no_room, nothing_mapped, numbers_same, last_same, clues_same, there}
use Rattle.ledger_model.specs.Lawful.{AreLawful, AreNext, IsFounded, IsNext, IsNextOf, IsNextRecord}
use Rattle.ledger_book.proofs.TimeLaws.{drop_points, from_later}
use Rattle.journal_record.specs.declared.header.Kind.TheVariants as kind
use Rattle.ledger_model.specs.Clues as model_clues

-- ---- marks from the point on

marks_high : (p m : ℕ) (es : List Entry) → AreFrom m es → p ≤ m → filter (λ (x : Mark). nat_le p x.jsn) (marks es) ≡ marks es
marks_high p m [] from le = refl
marks_high p m (e ∷ es) from le =
    let later = marks_high p (m + 1) es from.2 (omega (arith, le)) in
    elim (has_clue e) as (λ v. filter (λ (x : Mark). nat_le p x.jsn) (map clue_mark_of (cond v (e ∷ filter has_clue es) (filter has_clue es))) ≡ map clue_mark_of (cond v (e ∷ filter has_clue es) (filter has_clue es))) [
      | true ↦ ap (λ v. cond v (clue_mark_of e ∷ filter (λ (x : Mark). nat_le p x.jsn) (marks es)) (filter (λ (x : Mark). nat_le p x.jsn) (marks es))) (le-leb p e.header.jsn (omega (arith, from.0, le))) ∙ ap (λ (l : List Mark). clue_mark_of e ∷ l) later
      | false ↦ later
    ]

-- ---- how many clues

true_of : (b : Bool) → T b → b ≡ true
true_of true is = refl
true_of false is = absurd is

less_of : (o : Ordering) → is_lt o ≡ true → o ≡ Less
less_of Less is = refl
less_of Equal is = cc
less_of Greater is = cc

below_keys : (x : List ℕ) (es : List (List ℕ × Trail)) → below_all (slice_cmp nat_cmp) x es ≡ true → AllByRecursion (λ y. slice_cmp nat_cmp x y ≡ Less) (keys_of es)
below_keys x [] is = tt
below_keys x (e ∷ es) is = let parts = and_parts _ _ is in (less_of (slice_cmp nat_cmp x e.0) parts.0, below_keys x es parts.1)

keys_rise : (es : List (List ℕ × Trail)) → is_sorted (slice_cmp nat_cmp) es ≡ true → IsStrictlySortedBy (slice_cmp nat_cmp) (keys_of es)
unfolding IsStrictlySortedBy
keys_rise [] is = tt
keys_rise (e ∷ es) is = let parts = and_parts _ _ is in (below_keys e.0 es parts.0, keys_rise es parts.1)

different_begun : (p : ℕ) (a : Added) → AllByRecursion (λ (s : ClueState). 0 < s.count) a.states → length (different_clues (from_point p a)) ≡ length (different_clues a)
different_begun p a counted =
    let rise : (x : Added) → IsStrictlySortedBy (slice_cmp nat_cmp) (different_clues x) = λ x. keys_rise (entries (table_of x)) (true_of _ (entries_sorted (table_of x))) in
    length-from_same_keys (eq_by_cmp_equiv nat_list_cmp_total) (different_clues (from_point p a)) (different_clues a)
    (IsDistinct-from_sorted (slice_cmp nat_cmp) (different_clues (from_point p a)) (rise (from_point p a))) (IsDistinct-from_sorted (slice_cmp nat_cmp) (different_clues a) (rise a))
    (λ q. given p (from_point p a) q ∙ listed_begun p a counted q ∙ sym (given p a q))

-- ---- a clue's journals

slice_dropped : {A : Type 0} (n : ℕ) (xs : List A) (i : ℕ) → slice_get (drop n xs) i ≡ slice_get xs (n + i)
slice_dropped zero xs i = ap (slice_get xs) (let same : i ≡ 0 + i = omega arith in same)
slice_dropped (suc n) [] i = refl
slice_dropped (suc n) (x ∷ xs) i = slice_dropped n xs i ∙ ap (slice_get (x ∷ xs)) (let same : suc (n + i) ≡ suc n + i = omega arith in same)

map_drop : {A B : Type 0} (f : A → B) (n : ℕ) (xs : List A) → map f (drop n xs) ≡ drop n (map f xs)
map_drop f zero xs = refl
map_drop f (suc n) [] = refl
map_drop f (suc n) (x ∷ xs) = map_drop f n xs

module _ (h : History) (b : Base) (lawful : AreLawful (journals h)) (some : 1 ≤ b.point) (within : b.point ≤ size h) (keyed : b.keys ≡ map (λ (m : Member). m.key) (members (front h b.point))) (clued : b.clues ≡ states_at b.point (clues_added 0 (take b.point (journals h)))) where
  abbrev p : ℕ
  p = b.point

  abbrev js : List Entry
  js = journals h

  abbrev es : List Entry
  es = drop p js

  abbrev whole : Added
  whole = clues_added 0 js

  from : AreFrom 0 js
  from = lawful_from js lawful

  from_es : AreFrom (0 + p) es
  from_es = from_later 0 p (0 + p) js from refl

  -- the clues behind the base are those of the whole history, from the point on
  clues_are : clues_behind (Some b) es ≡ from_point p whole
  clues_are =
      let states : b.clues ≡ states_at p whole =
      clued ∙ sym (states_early p (0 + p) 0 (take p js) es from_es (omega arith)) ∙ ap (λ (l : List Entry). states_at p (clues_added 0 l)) (take-append-drop p js) in
      let low : filter (λ (x : Mark). nat_le p x.jsn) (marks (take p js)) ≡ [] = marks_low 0 p (take p js) (front_from 0 p js from) (take_few p js) in
      let split : marks js ≡ marks (take p js) ++ marks es = ap marks (sym (take-append-drop p js)) ∙ ap (map clue_mark_of) (filter-append has_clue (take p js) es) ∙ map-append clue_mark_of (filter has_clue (take p js)) (filter has_clue es) in
      let high : filter (λ (x : Mark). nat_le p x.jsn) (marks js) ≡ marks es =
      ap (filter (λ (x : Mark). nat_le p x.jsn)) split ∙ filter-append (λ (x : Mark). nat_le p x.jsn) (marks (take p js)) (marks es) ∙ ap (λ (l : List Mark). l ++ filter (λ (x : Mark). nat_le p x.jsn) (marks es)) low
      ∙ marks_high p (0 + p) es from_es (omega arith) in
      ap (λ (ss : List ClueState). record { states = ss; marks = marks es; floor = p }) states ∙ ap (λ (ms : List Mark). record { states = states_at p whole; marks = ms; floor = p }) (sym high)

  count_is : (clue : Digest) → count_of (trail_of (clues_behind (Some b) es) clue.0) ≡ length (jsns_with h clue)
  unfolding jsns_with
  count_is clue =
      ap (λ (a : Added). count_of (trail_of a clue.0)) clues_are ∙ ap count_of (trail_begun p whole tt clue.0) ∙ count_seen p (trail_of whole clue.0) ∙ plus (length (jsns_of clue.0 (marks js))) ∙ ap length (numbers_same clue js)
    where
      plus : (n : ℕ) → 0 + n ≡ n
      plus n = omega arith

  last_is : (clue : Digest) → last_of (trail_of (clues_behind (Some b) es) clue.0) ≡ model_clues.last_of (jsns_with h clue)
  unfolding jsns_with
  last_is clue =
      ap (λ (a : Added). last_of (trail_of a clue.0)) clues_are ∙ ap last_of (trail_begun p whole tt clue.0) ∙ last_seen p (trail_of whole clue.0) (rises clue.0 0 js from) ∙ ap (last_from 0) (numbers_same clue js) ∙ last_same (numbers_of clue js)
    where
      above_all : (q : List ℕ) (m n : ℕ) (es : List Entry) → AreFrom m es → n < m → AllByRecursion (λ k. n < k) (jsns_of q (marks es))
      above_all q m n [] from lt = tt
      above_all q m n (e ∷ es) from lt =
          let later = above_all q (m + 1) n es from.2 (omega (arith, lt)) in
          elim (has_clue e) as (λ v. AllByRecursion (λ k. n < k) (jsns_of q (map clue_mark_of (cond v (e ∷ filter has_clue es) (filter has_clue es))))) [
            | true ↦ elim (bytes_eq q e.header.clue.0) as (λ v. AllByRecursion (λ k. n < k) (map (λ (x : Mark). x.jsn) (cond v (clue_mark_of e ∷ filter (λ (x : Mark). bytes_eq q x.clue) (marks es)) (filter (λ (x : Mark). bytes_eq q x.clue) (marks es))))) [ true ↦ (omega (arith, from.0, lt), later) | false ↦ later ]
            | false ↦ later
          ]

      rises : (q : List ℕ) (m : ℕ) (es : List Entry) → AreFrom m es → Ascends (jsns_of q (marks es))
      rises q m [] from = tt
      rises q m (e ∷ es) from =
          let later = rises q (m + 1) es from.2 in
          elim (has_clue e) as (λ v. Ascends (jsns_of q (map clue_mark_of (cond v (e ∷ filter has_clue es) (filter has_clue es))))) [
            | true ↦ elim (bytes_eq q e.header.clue.0) as (λ v. Ascends (map (λ (x : Mark). x.jsn) (cond v (clue_mark_of e ∷ filter (λ (x : Mark). bytes_eq q x.clue) (marks es)) (filter (λ (x : Mark). bytes_eq q x.clue) (marks es))))) [
              | true ↦ (above_all q (m + 1) e.header.jsn es from.2 (omega (arith, from.0)), later)
              | false ↦ later
            ]
            | false ↦ later
          ]

  clue_count_is : length (different_clues (clues_behind (Some b) es)) ≡ clue_count h
  unfolding clue_count
  clue_count_is =
      ap (λ (a : Added). length (different_clues a)) clues_are ∙ different_begun p whole tt ∙ different_count whole ∙ ap (distinct_count bytes_eq) (clues_same js)

  -- the members
  member_count : count_behind (Some b) es ≡ length (members h)
  unfolding members
  member_count =
      let keys : length b.keys ≡ length (founders (take p js) ++ admitted_members (take p js)) = ap length keyed ∙ length-map (members (front h p)) (λ (m : Member). m.key) in
      let split : admitted_members js ≡ admitted_members (take p js) ++ admitted_members es = ap admitted_members (sym (take-append-drop p js)) ∙ ap (map member_of) (filter-append admits (take p js) es) ∙ map-append member_of (filter admits (take p js)) (filter admits es) in
      omega (arith, keys, ap length split, length-append (admitted_members (take p js)) (admitted_members es), length-append (founders (take p js)) (admitted_members (take p js)), length-append (founders js) (admitted_members js), first_two p js some)
    where
      first_two : (n : ℕ) (l : List Entry) → 1 ≤ n → length (founders (take n l)) ≡ length (founders l)
      first_two zero l some = absurd (omega (arith, some))
      first_two (suc n) [] some = refl
      first_two (suc n) (e ∷ l) some = refl

  -- journals from the point on
  kind_behind : (n : ℕ) → p ≤ n → kind_at h n ≡ kind_at (history [] es) (n - p)
  kind_behind n le =
      let same : n ≡ p + (n - p) = omega (arith, le) in
      let kinds = map (λ (e : Entry). e.header.kind) js in
      ap (λ k. get_or kinds k kind.Genesis) same ∙ sym (get_or-drop p kinds (n - p) kind.Genesis) ∙ ap (λ l. get_or l (n - p) kind.Genesis) (sym (map_drop (λ (e : Entry). e.header.kind) p js))

  leaf_behind : (n : ℕ) → p ≤ n → leaf_at h n ≡ leaf_at (history [] es) (n - p)
  leaf_behind n le =
      let same : n ≡ p + (n - p) = omega (arith, le) in
      ap (λ k. get_or (map leaf_digest js) k []) same ∙ sym (get_or-drop p (map leaf_digest js) (n - p) []) ∙ ap (λ l. get_or l (n - p) []) (sym (map_drop leaf_digest p js))

  low_points : greatest_point es ≤ point h
  unfolding point
  low_points = drop_points p js

  -- no journal from the base and the point behind it on lies in front of the point
  high_points : point (history [] js) ≤ p + (greatest_point es - p)
  unfolding point
  high_points =
      let parts : greatest_point js ≡ max (greatest_point (take p js)) (greatest_point es) = ap greatest_point (sym (take-append-drop p js)) ∙ two_points (take p js) es in
      let low : greatest_point (take p js) < p = point_below p 0 0 (take p js) (front_from 0 p js from) (take_few p js) (omega (arith, some)) in
      omega (arith, parts, low)

  -- what hides one from the point on stands behind it, and so behind the base
  front_shows : (e : Entry) → p ≤ e.header.jsn → list_any (hides e) (take p js) ≡ false
  front_shows e le =
      named_is (hides e) (take p js) ∙ ap is_some (none_named (hides e) 0 e.header.jsn (take p js) (hides_behind e) (front_from 0 p js from) (omega (arith, le, take_few p js)))

  hidden_by_behind : (e : Entry) → p ≤ e.header.jsn → list_any (hides e) js ≡ list_any (hides e) es
  hidden_by_behind e le =
      ap (list_any (hides e)) (sym (take-append-drop p js)) ∙ list_any-append (hides e) (take p js) es ∙ ap (λ v. v || list_any (hides e) es) (front_shows e le)

  there_behind : (n : ℕ) → p ≤ n → slice_get js n ≡ slice_get es (n - p)
  there_behind n le = ap (slice_get js) (let same : n ≡ p + (n - p) = omega (arith, le) in same) ∙ sym (slice_dropped p js (n - p))

  hidden_split : (n : ℕ) → p ≤ n → is_hidden h n ≡ is_hidden_by es (slice_get es (n - p))
  hidden_split n le = ap (is_hidden_by js) (there_behind n le) ∙ by_target (slice_get es (n - p)) refl where
    by_target : (t : Option Entry) → slice_get es (n - p) ≡ t → is_hidden_by js t ≡ is_hidden_by es t
    by_target None at = refl
    by_target (Some e) at = hidden_by_behind e (omega (arith, number_at (0 + p) (n - p) es e from_es at))

  -- those of a clue that are kept and shown, once the purge to the base's own point was seen
  shown_same : has_own_purge (Some b) es ≡ true → (clue : Digest) → shown_with h clue ≡ map (λ (e : Entry). e.header.jsn) (shown_behind es clue)
  unfolding shown_with jsns_with seen_point
  shown_same reached clue =
      let seen = own_least (Some b) es reached in
      let at : greatest_point es ≡ point h = later_seen h p lawful seen in
      let split : numbers_of clue js ≡ numbers_of clue (take p js) ++ numbers_of clue es = ap (numbers_of clue) (sym (take-append-drop p js)) ∙ ap (map (λ (e : Entry). e.header.jsn)) (filter-append (is_of_clue clue) (take p js) es) ∙ map-append (λ (e : Entry). e.header.jsn) (filter (is_of_clue clue) (take p js)) (filter (is_of_clue clue) es) in
      let kept : ℕ → Bool = λ n. nat_le (point h) n && not (is_hidden h n) in
      ap (filter kept) split
      ∙ filter-append kept (numbers_of clue (take p js)) (numbers_of clue es)
      ∙ ap (λ l. l ++ filter kept (numbers_of clue es)) (front_gone 0 (point h) (λ n. is_hidden h n) clue (take p js) (front_from 0 p js from) (omega (arith, take_few p js, seen, at)))
      ∙ shown_numbers (0 + p) (point h) (λ n. is_hidden h n) clue es es from_es (λ i e there. hidden_split (0 + p + i) (omega arith) ∙ ap (λ k. is_hidden_by es (slice_get es k)) (let same : 0 + p + i - p ≡ i = omega arith in same) ∙ ap (is_hidden_by es) there)
      ∙ ap (λ q. map (λ (e : Entry). e.header.jsn) (filter (is_shown clue q es) es)) (sym at)

  -- a record
  record_behind : (x : Header) → IsNextRecord (history [] js) x → IsRecordBehind (Some b) es x
  unfolding next_ordinal last_journal members clue_count jsns_with clues_full
  record_behind x own = record {
    member = omega (arith, own.member, member_count);
    clue_ord = own.clue_ord ∙ ap (λ n. cond (is_no_clue x.clue) 0 (n + 1)) (sym (count_is x.clue));
    clue_prev = own.clue_prev ∙ ap (λ n. cond (is_no_clue x.clue) 0 n) (sym (last_is x.clue));
    room = λ has none. let n = no_room (history [] js) x.clue own.room has (sym (count_is x.clue) ∙ none) in omega (arith, n, clue_count_is);
    fresh = fresh_behind (history [] js) p (greatest_point es) x.member x.a high_points own.fresh;
  }

  own_behind : (x : Header) (k : Kind) → IsNextOf (history [] js) x k → IsOwnBehind (Some b) es x k
  unfolding members point jsns_with shown_with
  own_behind x kind.Genesis own = tt
  own_behind x kind.Content own = record_behind x own
  own_behind x kind.Member own = own ∙ sym member_count
  own_behind x kind.Time own = tt
  own_behind x kind.Occult own = record {
    named = λ _. right_of (list_any (names x.a) (take p js)) (list_any (names x.a) es) (sym (list_any-append (names x.a) (take p js) es) ∙ ap (list_any (names x.a)) (take-append-drop p js) ∙ shown_unnamed h x.a lawful own.shown);
    shown = λ le. sym (hidden_split x.a le) ∙ own.shown;
    front = λ low. false_where (has_own_purge (Some b) es) (λ there. omega (arith, low, own.kept, low_points, own_least (Some b) es there));
    kept = λ le. omega (arith, own.kept, low_points);
    target_is = λ le. sym (kind_behind x.a le) ∙ own.target_is;
    leaf_is = λ le. own.leaf_is ∙ leaf_behind x.a le;
  } where
    right_of : (v w : Bool) → (v || w) ≡ false → w ≡ false
    right_of true w is = absurd (true≢false is)
    right_of false w is = is
  own_behind x kind.ClueOccult own = record { count = own.count ∙ sym (count_is x.link); shown = λ reached none. own.shown (shown_same reached x.link ∙ ap (map (λ (e : Entry). e.header.jsn)) none) }
  own_behind x kind.Purge own = record { above = omega (arith, own.above, low_points); target_is = λ le. sym (kind_behind x.a le) ∙ own.target_is }

  length_es : length es ≡ size h - p
  length_es = length-drop p js

  -- what is next for the history is next for who sees what is behind the base
  pub next_behind : (x : Header) → IsNext (history [] js) x → BeginsWell (Some b) es x → IsNextBehind (Some b) es x
  next_behind x next begins = record {
    layout = next.layout;
    jsn = next.jsn ∙ omega (arith, length_es, within);
    below = next.below;
    begins = begins;
    own = own_behind x x.kind next.own;
  }

  -- ---- once the purge to the base's own point was seen

  module _ (reached : has_own_purge (Some b) es ≡ true) where
    seen : p ≤ greatest_point es
    seen = own_least (Some b) es reached

    point_is : greatest_point es ≡ point h
    unfolding seen_point
    point_is = later_seen h p lawful seen

    point_same : greatest_point es ≡ point (history [] js)
    unfolding point
    point_same = point_is

    record_next : (x : Header) → IsRecordBehind (Some b) es x → IsNextRecord (history [] js) x
    unfolding next_ordinal last_journal members clue_count jsns_with clues_full
    record_next x own = record {
      member = omega (arith, own.member, member_count);
      clue_ord = own.clue_ord ∙ ap (λ n. cond (is_no_clue x.clue) 0 (n + 1)) (count_is x.clue);
      clue_prev = own.clue_prev ∙ ap (λ n. cond (is_no_clue x.clue) 0 n) (last_is x.clue);
      room = by_room (is_no_clue x.clue) (length (numbers_of x.clue js) == 0) refl refl;
      fresh = sym (from_floor (history [] js) p (greatest_point es) x.member x.a point_same seen) ∙ own.fresh;
    } where
      by_room : (nc none : Bool) → is_no_clue x.clue ≡ nc → (length (numbers_of x.clue js) == 0) ≡ none → cond ((not (is_no_clue x.clue) && length (numbers_of x.clue js) == 0) && nat_le 1_048_576 (clue_count (history [] js))) (Some CluesFull) None ≡ None
      by_room true none is_nc is_none = ap (λ v. full v (length (numbers_of x.clue js) == 0) (nat_le 1_048_576 (clue_count (history [] js)))) is_nc
      by_room false false is_nc is_none = ap (λ v. full v (length (numbers_of x.clue js) == 0) (nat_le 1_048_576 (clue_count (history [] js)))) is_nc ∙ ap (λ v. full false v (nat_le 1_048_576 (clue_count (history [] js)))) is_none
      by_room false true is_nc is_none =
          let few = own.room is_nc (count_is x.clue ∙ eqb-true (length (numbers_of x.clue js)) 0 is_none) in
          let low : clue_count (history [] js) < 1_048_576 = subst (λ n. n < 1_048_576) clue_count_is few in
          ap (λ v. full v (length (numbers_of x.clue js) == 0) (nat_le 1_048_576 (clue_count (history [] js)))) is_nc ∙ ap (λ v. full false v (nat_le 1_048_576 (clue_count (history [] js)))) is_none
          ∙ ap (λ v. full false true v) (lt-leb 1_048_576 (clue_count (history [] js)) low)

    own_next : (x : Header) (k : Kind) → IsOwnBehind (Some b) es x k → IsNextOf (history [] js) x k
    unfolding members point jsns_with shown_with
    own_next x kind.Genesis own = tt
    own_next x kind.Content own = record_next x own
    own_next x kind.Member own = own ∙ member_count
    own_next x kind.Time own = tt
    own_next x kind.Occult own =
        let le : p ≤ x.a = by_low (nat_le p x.a) refl in record {
          kept = omega (arith, own.kept le, point_is);
          before = there js x.a kind.Content (kind_behind x.a le ∙ own.target_is le) refl;
          target_is = kind_behind x.a le ∙ own.target_is le;
          shown = hidden_split x.a le ∙ own.shown le;
          leaf_is = own.leaf_is le ∙ sym (leaf_behind x.a le);
        }
      where
        by_low : (v : Bool) → nat_le p x.a ≡ v → p ≤ x.a
        by_low true is = leb-true p x.a is
        by_low false is = absurd (true≢false (sym reached ∙ own.front (leb-false p x.a is)))
    own_next x kind.ClueOccult own = record { count = own.count ∙ count_is x.link; shown = λ none. own.shown reached (nothing_mapped (λ (e : Entry). e.header.jsn) _ (sym (shown_same reached x.link) ∙ none)) }
    own_next x kind.Purge own =
        let le : p ≤ x.a = omega (arith, own.above, seen) in
        record { above = omega (arith, own.above, point_is); before = there js x.a kind.Time (kind_behind x.a le ∙ own.target_is le) refl; target_is = kind_behind x.a le ∙ own.target_is le }

    pub behind_next : (x : Header) → IsNextBehind (Some b) es x → IsNext (history [] js) x
    behind_next x next = record {
      layout = next.layout;
      jsn = next.jsn ∙ omega (arith, length_es, within);
      below = next.below;
      own = own_next x x.kind next.own;
    }

-- ---- all journals of a history behind its base

-- the first of lawful journals
front_next : (before es fs : List Entry) → AreNext before (es ++ fs) → AreNext before es
front_next before [] fs n = tt
front_next before (e ∷ es) fs n = (n.0, front_next (before ++ e ∷ []) es fs n.1)

next_parts : (before es : List Entry) (e : Entry) (fs : List Entry) → AreNext before (es ++ e ∷ fs) → IsNext (history [] (before ++ es)) e.header
next_parts before [] e fs n = subst (λ (l : List Entry). IsNext (history [] l) e.header) (sym (append-nil before)) n.0
next_parts before (x ∷ es) e fs n = subst (λ (l : List Entry). IsNext (history [] l) e.header) (append_assoc before (x ∷ []) es) (next_parts (before ++ x ∷ []) es e fs n.1)

founded_front : (first more : List Entry) → 1 ≤ length first → IsFounded (first ++ more) → IsFounded first
founded_front [] more some f = absurd (omega (arith, some))
founded_front (e ∷ first) more some f = f

lawful_front : (es fs : List Entry) → 1 ≤ length es → AreLawful (es ++ fs) → AreLawful es
lawful_front es fs some l = record { next = front_next [] es fs l.next; founded = founded_front es fs some l.founded }

-- the journals behind a base of which the first are these
module _ (b : Base) (low : List Entry) (some : 1 ≤ b.point) (at : length low ≡ b.point) (keyed : b.keys ≡ map (λ (m : Member). m.key) (members (history [] low))) (clued : b.clues ≡ states_at b.point (clues_added 0 low)) where
  low_front : (es : List Entry) → take b.point (low ++ es) ≡ low
  low_front es = take_at low es b.point at

  low_behind : (es : List Entry) → drop b.point (low ++ es) ≡ es
  low_behind es = drop_at low es b.point at

  one_behind : (es : List Entry) (e : Entry) (fs : List Entry) → AreLawful (low ++ (es ++ e ∷ fs)) → BeginsWell (Some b) es e.header → IsNextBehind (Some b) es e.header
  one_behind es e fs lawful begins =
      let h : History = history [] (low ++ es) in
      let parts : low ++ (es ++ e ∷ fs) ≡ (low ++ es) ++ e ∷ fs = sym (append_assoc low es (e ∷ fs)) in
      let here : AreLawful (low ++ es) = lawful_front (low ++ es) (e ∷ fs) (omega (arith, at, some, length-append low es)) (subst AreLawful parts lawful) in
      let next : IsNext (history [] (low ++ es)) e.header = next_parts [] (low ++ es) e fs (subst (AreNext []) parts lawful.next) in
      subst (λ (l : List Entry). IsNextBehind (Some b) l e.header) (low_behind es)
      (next_behind h b here some (omega (arith, at, length-append low es)) (keyed ∙ ap (λ (l : List Entry). map (λ (m : Member). m.key) (members (history [] l))) (sym (low_front es))) (clued ∙ ap (λ (l : List Entry). states_at b.point (clues_added 0 l)) (sym (low_front es)))
      e.header next (subst (λ (l : List Entry). BeginsWell (Some b) l e.header) (sym (low_behind es)) begins))

  behind_by : (before fs : List Entry) → AreLawful (low ++ (before ++ fs)) → ((e : Entry) (more : List Entry) → fs ≡ e ∷ more → BeginsWell (Some b) before e.header) → AreBehind (Some b) before fs
  behind_by before [] lawful begins = tt
  behind_by before (e ∷ fs) lawful begins = (
    one_behind before e fs lawful (begins e fs refl),
    behind_by (before ++ e ∷ []) fs (subst AreLawful (ap (λ (l : List Entry). low ++ l) (sym (append_assoc before (e ∷ []) fs))) lawful) (λ f more is. later before e f),
  ) where
    later : (before : List Entry) (e f : Entry) → BeginsWell (Some b) (before ++ e ∷ []) f.header
    later [] e f = tt
    later (x ∷ before) e f = tt

  -- each journal of a lawful history is the next one behind its base, where the first of them is a time journal
  pub all_behind : (es : List Entry) → AreLawful (low ++ es) → ((e : Entry) (more : List Entry) → es ≡ e ∷ more → e.header.kind ≡ kind.Time) → AreBehind (Some b) [] es
  all_behind es lawful first = behind_by [] es lawful first
