-- The base of a lawful history keeps the rules of a base, and more blocks leave it as it is.
use Rattle.std.specs.List.{AllByRecursion}
use Rattle.std.specs.List.Sorted.{IsStrictlySortedBy}
use Rattle.std.specs.Prelude.{⊤, All, filter, nat_lt, nat_le, bytes_eq, zero, suc, count_ones, Result, Ok, Err}
use Rattle.std.specs.Set.{distinct_count}
use Rattle.std.proofs.Common.{◌≡◌, ◌≢◌, ℕ, ◌+◌, ◌<◌, ◌≤◌, ◌^◌, ◌&&◌, true, false, cond, List, [], ◌∷◌, ◌++◌, length, map, take, drop, refl, sym, ◌∙◌, ap, subst, arith, append-nil, append_assoc, length-drop}
use Rattle.std.proofs.lemmas.Bool.{le-leb, lt-leb, ltb-true, and_parts}
use Rattle.std.proofs.lemmas.List.{map-append, length-map, length-take, take_at, drop_at, take-append-drop, take-append-le}
use Rattle.std.proofs.lemmas.List.Concat.{flat_map-append}
use Rattle.std.proofs.lemmas.List.Elements.{All-nil, All-cons, All-head, All-tail, All-take, All-drop, All-append, All-same, All-from_recursion, recursion_from_All, filter-append}
use Rattle.sha2.specs.Sha256.{sha256}
use Rattle.sha2.proofs.Facts256.{length-sha256}
use Rattle.tree_model.specs.Tree.{node, root_at}
use Rattle.tree_model.specs.Peaks.{peaks, peaks_at}
use Rattle.tree_model.proofs.Peaks.{length-peaks}
use Rattle.ledger_bytes.specs.Digests.{digest, zero_digest}
use Rattle.ledger_bytes.specs.declared.digest.Digest.{Digest}
use Rattle.ledger_bytes.specs.declared.failure.Bad.{Bad}
use Rattle.ledger_bytes.specs.declared.limits.TheConstants.{MEMBER_LIMIT}
use Rattle.clue_index.specs.Added.{Added, Mark, no_clue, clues_of, different_clues, state_at, states_at, begun_states}
use Rattle.clue_index.specs.declared.state.ClueState.{ClueState}
use Rattle.clue_index.proofs.CarryLaws.{given}
use Rattle.clue_index.proofs.OrderLaws.{states_ascend, states_named, different_count}
use Rattle.journal_record.specs.Entry.{Entry}
use Rattle.journal_record.specs.Header.{HasWidths as AreHeaderWidths, spelling as header_spelling}
use Rattle.journal_record.specs.declared.member.Member.{Member}
use Rattle.pseudo_genesis.specs.Bases.{blocks_ok, members_ok, IsBase, IsWide, HasStateWidths, HasWidths, base_spelling}
use Rattle.pseudo_genesis.specs.declared.base.Base.{Base}
use Rattle.pseudo_genesis.specs.declared.base.TheConstants.{POINT_LIMIT, CLUE_LIMIT}
use Rattle.pseudo_genesis.proofs.Wholes.{base_of_only}
use Rattle.ledger_model.specs.Bases.{clue_mark_of, clues_added, front, base_of}
use Rattle.ledger_model.specs.Clues as model_clues
use Rattle.ledger_model.specs.Clues.{has_clue}
use Rattle.ledger_model.specs.Ends.{ends_from}
use Rattle.ledger_model.specs.History as model
use Rattle.ledger_model.specs.History.{History, history, journals, journals_of, size, leaf_digest, first_leaf_digest, ends}
use Rattle.ledger_model.specs.Lawful.{AreNext, IsFounded, IsBlock, IsLawful}
use Rattle.ledger_model.specs.Members.{founders, admits, member_of, admitted_members, members}
use Rattle.ledger_model.proofs.ClueLaws.{next_clues}
use Rattle.ledger_model.proofs.EndLaws.{ends_count, ends_split, ends_within, ends_push}
use Rattle.ledger_model.proofs.FitLaws.{size_few, blocks_few}
use Rattle.ledger_model.proofs.LawfulLaws.{AreFrom, next_from, HasMembers, lawful_members}
use Rattle.ledger_model.proofs.MarkLaws.{marks_clear}
use Rattle.ledger_model.proofs.StateLaws.{Between, between, begun_all, listed_is, all_listed, all_true, clues_wide, states_ordered, behind_zeros}

-- ---- the first journals of a history

-- the journals of a history of which the first blocks are these
pub journals_split : (h : History) (gone rest : List (List Entry)) → h.closed ≡ gone ++ rest → journals h ≡ journals_of gone ++ (journals_of rest ++ h.waiting)
journals_split h gone rest are =
    ap (λ (bs : List (List Entry)). journals_of bs ++ h.waiting) are ∙ ap (λ (js : List Entry). js ++ h.waiting) (flat_map-append (λ (b : List Entry). b) gone rest)
    ∙ append_assoc (journals_of gone) (journals_of rest) h.waiting

abbrev pub digests : List Entry → List (List ℕ)
digests js = map leaf_digest js

-- the leaf digests of the first blocks
pub front_digests : (h : History) (gone rest : List (List Entry)) → h.closed ≡ gone ++ rest → take (length (journals_of gone)) (map leaf_digest (journals h)) ≡ digests (journals_of gone)
front_digests h gone rest are =
    ap (λ (js : List Entry). take (length (journals_of gone)) (map leaf_digest js)) (journals_split h gone rest are)
    ∙ ap (take (length (journals_of gone))) (map-append leaf_digest (journals_of gone) (journals_of rest ++ h.waiting))
    ∙ take_at (digests (journals_of gone)) (map leaf_digest (journals_of rest ++ h.waiting)) (length (journals_of gone)) (length-map (journals_of gone) leaf_digest)

-- the first of lawful journals
pub front_next : (before es fs : List Entry) → AreNext before (es ++ fs) → AreNext before es
front_next before [] fs n = tt
front_next before (e ∷ es) fs n = (n.0, front_next (before ++ e ∷ []) es fs n.1)

founded_front : (es fs : List Entry) → 1 ≤ length es → IsFounded (es ++ fs) → IsFounded es
founded_front [] fs some founded = absurd (omega (arith, some))
founded_front (e ∷ es) fs some founded = founded

-- ---- blocks and peaks

ends_later : (n p : ℕ) (bs : List (List Entry)) → All IsBlock bs → p ≤ n → filter (λ end. nat_le end p) (ends_from n bs) ≡ []
ends_later n p [] all le = refl
ends_later n p (b ∷ bs) all le =
    let one = (All-head IsBlock b bs all).some in
    ap (λ v. cond v ((n + length b) ∷ filter (λ end. nat_le end p) (ends_from (n + length b) bs)) (filter (λ end. nat_le end p) (ends_from (n + length b) bs))) (lt-leb (n + length b) p (omega (arith, le, one)))
    ∙ ends_later (n + length b) p bs (All-tail IsBlock b bs all) (omega (arith, le))

some_blocks : (bs : List (List Entry)) → 0 < length (journals_of bs) → 1 ≤ length bs
some_blocks [] some = absurd (omega (arith, some))
some_blocks (b ∷ bs) some = omega arith

root_wide : (h : ℕ) (ds : List (List ℕ)) → All (λ d. length d ≡ 32) ds → length (root_at sha256 h ds) ≡ 32
unfolding root_at
root_wide zero [] all = length-sha256 []
root_wide zero (d ∷ ds) all = all 0 d (omega arith)
root_wide (suc h) ds all =
    elim (nat_le (length ds) (2 ^ h)) as (λ v. length (cond v (root_at sha256 h ds) (node sha256 (root_at sha256 h (take (2 ^ h) ds)) (root_at sha256 h (drop (2 ^ h) ds)))) ≡ 32) [
      | true ↦ root_wide h ds all
      | false ↦ length-sha256 (1 ∷ root_at sha256 h (take (2 ^ h) ds) ++ root_at sha256 h (drop (2 ^ h) ds))
    ]

peaks_wide_at : (h : ℕ) (ds : List (List ℕ)) → All (λ d. length d ≡ 32) ds → All (λ d. length d ≡ 32) (peaks_at sha256 h ds)
unfolding peaks_at
peaks_wide_at zero ds all = All-nil (λ (d : List ℕ). length d ≡ 32)
peaks_wide_at (suc h) ds all =
    elim (nat_le (2 ^ h) (length ds)) as (λ v. All (λ d. length d ≡ 32) (cond v (root_at sha256 h (take (2 ^ h) ds) ∷ peaks_at sha256 h (drop (2 ^ h) ds)) (peaks_at sha256 h ds))) [
      | true ↦ All-cons (λ (d : List ℕ). length d ≡ 32) (root_at sha256 h (take (2 ^ h) ds)) (peaks_at sha256 h (drop (2 ^ h) ds)) (root_wide h (take (2 ^ h) ds) (All-take (λ (d : List ℕ). length d ≡ 32) (2 ^ h) ds all))
          (peaks_wide_at h (drop (2 ^ h) ds) (All-drop (λ (d : List ℕ). length d ≡ 32) (2 ^ h) ds all))
      | false ↦ peaks_wide_at h ds all
    ]

peaks_wide : (ds : List (List ℕ)) → All (λ d. length d ≡ 32) ds → All (λ d. length d ≡ 32) (peaks sha256 ds)
unfolding peaks
peaks_wide ds all = peaks_wide_at (length ds) ds all

leaves_wide : (js : List Entry) → All (λ d. length d ≡ 32) (digests js)
leaves_wide [] = All-nil (λ (d : List ℕ). length d ≡ 32)
leaves_wide (j ∷ js) = All-cons (λ (d : List ℕ). length d ≡ 32) (leaf_digest j) (digests js) (length-sha256 (0 ∷ header_spelling j.header)) (leaves_wide js)

-- ---- keys

link_wide : (es : List Entry) → All (λ (e : Entry). AreHeaderWidths e.header) es → All IsWide (map (λ (m : Member). m.key) (admitted_members es))
link_wide [] all = All-nil IsWide
link_wide (e ∷ es) all =
    let rest = link_wide es (All-tail (λ (e : Entry). AreHeaderWidths e.header) e es all) in
    elim (admits e) as (λ v. All IsWide (map (λ (m : Member). m.key) (map member_of (cond v (e ∷ filter admits es) (filter admits es))))) [
      | true ↦ All-cons IsWide e.header.link (map (λ (m : Member). m.key) (admitted_members es)) (All-head (λ (e : Entry). AreHeaderWidths e.header) e es all).link rest
      | false ↦ rest
    ]

-- the keys of journal 0 are wide, where it has the bytes of both
pub founders_wide : (es : List Entry) → ((e : Entry) (rest : List Entry) → es ≡ e ∷ rest → length e.content ≡ 64) → All IsWide (map (λ (m : Member). m.key) (founders es))
founders_wide [] founded = All-nil IsWide
founders_wide (e ∷ es) founded =
    let one : Digest = digest (take 32 e.content) in
    let two : Digest = digest (drop 32 e.content) in
    let size = founded e es refl in
    All-cons IsWide one (two ∷ []) (omega (arith, size, length-take 32 e.content)) (All-cons IsWide two [] (omega (arith, size, length-drop 32 e.content)) (All-nil IsWide))

keys_wide : (es : List Entry) → All (λ (e : Entry). AreHeaderWidths e.header) es → All IsWide (map (λ (m : Member). m.key) (founders es)) → All IsWide (map (λ (m : Member). m.key) (members (history [] es)))
unfolding members
keys_wide es wide founded =
    All-same IsWide (map (λ (m : Member). m.key) (founders es ++ admitted_members es)) (map (λ (m : Member). m.key) (founders es) ++ map (λ (m : Member). m.key) (admitted_members es))
    (map-append (λ (m : Member). m.key) (founders es) (admitted_members es))
    (All-append IsWide (map (λ (m : Member). m.key) (founders es)) (map (λ (m : Member). m.key) (admitted_members es)) founded (link_wide es wide))

id_wide : (h : History) → 0 < size h → length (model.id h) ≡ 32
unfolding model.id
id_wide h some = by_first (journals h) some where
  by_first : (js : List Entry) → 0 < length js → length (model.first_leaf_digest js) ≡ 32
  by_first [] some = absurd (omega (arith, some))
  by_first (j ∷ js) some = length-sha256 (0 ∷ header_spelling j.header)

wide_digests : (xs : List (List ℕ)) → All (λ d. length d ≡ 32) xs → All IsWide (map digest xs)
wide_digests [] all = All-nil IsWide
wide_digests (x ∷ xs) all = All-cons IsWide (digest x) (map digest xs) (All-head (λ (d : List ℕ). length d ≡ 32) x xs all) (wide_digests xs (All-tail (λ (d : List ℕ). length d ≡ 32) x xs all))

-- ---- the base

module _ (h : History) (gone kept : List (List Entry)) (p : ℕ) (lawful : IsLawful h) (none : h.waiting ≡ []) (are : h.closed ≡ gone ++ kept) (at : length (journals_of gone) ≡ p) (some : 1 ≤ p) (more : p < size h)
    (wide : All (λ (e : Entry). AreHeaderWidths e.header) (journals h)) (founded : All IsWide (map (λ (m : Member). m.key) (founders (journals_of gone)))) where
  abbrev all_added : Added
  all_added = clues_added 0 (take p (journals h))

  front_lawful : AreNext [] (take p (journals h))
  front_lawful = front_next [] (take p (journals h)) (drop p (journals h)) (subst (AreNext []) (sym (take-append-drop p (journals h))) lawful.journals_are.next)

  from : AreFrom 0 (take p (journals h))
  from = next_from [] (take p (journals h)) front_lawful

  front_wide : All (λ (e : Entry). AreHeaderWidths e.header) (take p (journals h))
  front_wide = All-take (λ (e : Entry). AreHeaderWidths e.header) p (journals h) wide

  first_ones : All IsBlock gone
  first_ones =
      subst (All IsBlock) (ap (take (length gone)) are ∙ take_at gone kept (length gone) refl) (All-take IsBlock (length gone) h.closed lawful.blocks_are)

  last_ones : All IsBlock kept
  last_ones =
      subst (All IsBlock) (ap (drop (length gone)) are ∙ drop_at gone kept (length gone) refl) (All-drop IsBlock (length gone) h.closed lawful.blocks_are)

  block_count : length (filter (λ end. nat_le end p) (ends h)) ≡ length gone
  block_count =
      let same : 0 + length (journals_of gone) ≡ p = omega (arith, at) in
      ap (λ (bs : List (List Entry)). length (filter (λ end. nat_le end p) (ends_from 0 bs))) are
      ∙ ap (λ (l : List ℕ). length (filter (λ end. nat_le end p) l)) (ends_split 0 gone kept ∙ ap (λ n. ends_from 0 gone ++ ends_from n kept) same)
      ∙ ap length (filter-append (λ end. nat_le end p) (ends_from 0 gone) (ends_from p kept))
      ∙ ap (λ (l : List ℕ). length (filter (λ end. nat_le end p) (ends_from 0 gone) ++ l)) (ends_later p p kept last_ones (omega arith))
      ∙ ap length (append-nil (filter (λ end. nat_le end p) (ends_from 0 gone)) ∙ ends_within 0 p gone (omega (arith, at))) ∙ ends_count 0 gone

  front_journals : journals h ≡ journals_of gone ++ (journals_of kept ++ h.waiting)
  front_journals = ap (λ (bs : List (List Entry)). journals_of bs ++ h.waiting) are ∙ ap (λ (js : List Entry). js ++ h.waiting) (flat_map-append (λ (b : List Entry). b) gone kept) ∙ append_assoc (journals_of gone) (journals_of kept) h.waiting

  front_is : take p (journals h) ≡ journals_of gone
  front_is = ap (λ n. take n (journals h)) (sym at) ∙ ap (take (length (journals_of gone))) front_journals ∙ take_at (journals_of gone) (journals_of kept ++ h.waiting) (length (journals_of gone)) refl

  front_leaves : take p (map leaf_digest (journals h)) ≡ digests (journals_of gone)
  front_leaves = ap (λ n. take n (map leaf_digest (journals h))) (sym at) ∙ front_digests h gone kept are

  members_are : HasMembers (journals_of gone)
  members_are = lawful_members (journals_of gone) (record {
    next = front_next [] (journals_of gone) (journals_of kept ++ h.waiting) (subst (AreNext []) front_journals lawful.journals_are.next);
    founded = founded_front (journals_of gone) (journals_of kept ++ h.waiting) (omega (arith, at, some)) (subst IsFounded front_journals lawful.journals_are.founded);
  })

  key_count : length (base_of h p).keys ≡ length (members (history [] (journals_of gone)))
  key_count = length-map (members (front h p)) (λ (m : Member). m.key) ∙ ap (λ (js : List Entry). length (members (history [] js))) front_is

  few_states : length (states_at p all_added) ≤ 1_048_576
  few_states =
      let all = different_count all_added in
      let clues = next_clues [] (take p (journals h)) front_lawful (omega arith) in
      let same : clues_of all_added ≡ model_clues.clues_of (take p (journals h)) = by_marks (filter has_clue (take p (journals h))) in
      omega (arith, less (map (state_at p all_added) (different_clues all_added)), length-map (different_clues all_added) (state_at p all_added), all, ap (λ (l : List (List ℕ)). distinct_count bytes_eq l) same, clues)
    where
      by_marks : (js : List Entry) → map (λ (m : Mark). m.clue) (map clue_mark_of js) ≡ map (λ (j : Entry). j.header.clue.0) js
      by_marks [] = refl
      by_marks (j ∷ js) = ap (λ rest. j.header.clue.0 ∷ rest) (by_marks js)

      less : (ss : List ClueState) → length (begun_states ss) ≤ length ss
      less [] = omega arith
      less (s ∷ ss) = elim (nat_lt 0 s.count) as (λ v. length (cond v (s ∷ begun_states ss) (begun_states ss)) ≤ length (s ∷ ss)) [ true ↦ omega (arith, less ss) | false ↦ omega (arith, less ss) ]

  wide_clues : AllByRecursion (λ (c : List ℕ). length c ≡ 32) (different_clues all_added)
  wide_clues = all_listed (λ (c : List ℕ). length c ≡ 32) (different_clues all_added) (λ q is. listed_is (λ (c : List ℕ). length c ≡ 32) q (clues_of all_added) (clues_wide (take p (journals h)) front_wide) (sym (given p all_added q) ∙ is))

  states_between : AllByRecursion (Between p) (states_at p all_added)
  states_between = begun_all p (take p (journals h)) from some (Between p) (λ c. ⊤) (λ c _ count. between p (take p (journals h)) from some c count) (different_clues all_added) (all_true (different_clues all_added))

  states_wide : AllByRecursion (λ (s : ClueState). length s.clue.0 ≡ 32) (states_at p all_added)
  states_wide = begun_all p (take p (journals h)) from some (λ (s : ClueState). length s.clue.0 ≡ 32) (λ c. length c ≡ 32) (λ c size _. size) (different_clues all_added) wide_clues

  pub is_base : IsBase (base_of h p)
  unfolding IsStrictlySortedBy
  is_base =
      let size_is = size_few h lawful in
      let few_blocks = blocks_few gone first_ones in
      let named = recursion_from_All (λ (s : ClueState). s.clue.0 ≢ no_clue) (states_at p all_added) (states_named p all_added (marks_clear 0 (take p (journals h)))) in
      record {
        point = ap (λ v. v && nat_le p POINT_LIMIT) (le-leb 1 p some) ∙ le-leb p POINT_LIMIT (omega (arith, size_is, more));
        blocks = ap (λ n. blocks_ok p n) block_count ∙ ap (λ v. v && nat_le (length gone) p) (le-leb 1 (length gone) (some_blocks gone (omega (arith, at, some)))) ∙ le-leb (length gone) p (omega (arith, few_blocks, at));
        peaks = length-map (peaks sha256 (take p (map leaf_digest (journals h)))) digest ∙ length-peaks sha256 (take p (map leaf_digest (journals h))) ∙ ap count_ones (ap length front_leaves ∙ length-map (journals_of gone) leaf_digest ∙ at);
        members = ap members_ok key_count ∙ ap (λ v. v && nat_le (length (members (history [] (journals_of gone)))) MEMBER_LIMIT) (le-leb 2 (length (members (history [] (journals_of gone)))) members_are.0) ∙ le-leb (length (members (history [] (journals_of gone)))) MEMBER_LIMIT members_are.1;
        clue_count = le-leb (length (states_at p all_added)) CLUE_LIMIT (omega (arith, few_states));
        clues = states_ordered p zero_digest (states_at p all_added) (behind_zeros (states_at p all_added) (both (states_at p all_added) states_wide named), states_ascend p all_added) states_between;
      }
    where
      both : (ss : List ClueState) → AllByRecursion (λ (s : ClueState). length s.clue.0 ≡ 32) ss → AllByRecursion (λ (s : ClueState). s.clue.0 ≢ no_clue) ss → AllByRecursion (λ (s : ClueState). (length s.clue.0 ≡ 32) × (s.clue.0 ≢ no_clue)) ss
      both [] a b = tt
      both (s ∷ ss) a b = ((a.0, b.0), both ss a.1 b.1)

  pub has_widths : HasWidths (base_of h p)
  has_widths =
      let size_is = size_few h lawful in
      record {
        id = id_wide h (omega (arith, more));
        point = omega (arith, size_is, more);
        blocks = omega (arith, block_count, blocks_few gone first_ones, at, size_is, more);
        peaks = wide_digests (peaks sha256 (take p (map leaf_digest (journals h)))) (peaks_wide (take p (map leaf_digest (journals h))) (All-same (λ (d : List ℕ). length d ≡ 32) (take p (map leaf_digest (journals h))) (digests (journals_of gone)) front_leaves (leaves_wide (journals_of gone))));
        keys = subst (λ (js : List Entry). All IsWide (map (λ (m : Member). m.key) (members (history [] js)))) (sym front_is) (keys_wide (journals_of gone) (subst (All (λ (e : Entry). AreHeaderWidths e.header)) front_is front_wide) founded);
        clues = All-from_recursion HasStateWidths (states_at p all_added) (each (states_at p all_added) states_wide states_between (omega (arith, size_is, more)));
      }
    where
      each : (ss : List ClueState) → AllByRecursion (λ (s : ClueState). length s.clue.0 ≡ 32) ss → AllByRecursion (Between p) ss → p < 2 ^ 32 → AllByRecursion HasStateWidths ss
      each [] a b small = tt
      each (s ∷ ss) a b small =
          let count = ltb-true s.count p (and_parts (nat_le 1 s.count) (nat_lt s.count p) b.0.count).1 in
          let last = ltb-true s.last p (and_parts (nat_le 1 s.last) (nat_lt s.last p) b.0.last).1 in
          (record { clue = a.0; count = omega (arith, count, small); last = omega (arith, last, small) }, each ss a.1 b.1 small)

-- ---- the base stays

abbrev as_base : Digest → ℕ → ℕ → List Digest → List Digest → List ClueState → Base
as_base id point blocks peaks keys clues = record { id = id; point = point; blocks = blocks; peaks = peaks; keys = keys; clues = clues }

first_kept : (js more : List Entry) → 0 < length js → first_leaf_digest (js ++ more) ≡ first_leaf_digest js
first_kept [] more some = absurd (omega (arith, some))
first_kept (j ∷ js) more some = refl

module _ (h : History) (b : List Entry) (none : h.waiting ≡ []) (one : 1 ≤ length b) where
  abbrev more : History
  more = history (h.closed ++ b ∷ []) []

  all_closed : journals h ≡ journals_of h.closed
  all_closed = ap (λ (l : List Entry). journals_of h.closed ++ l) none ∙ append-nil (journals_of h.closed)

  pub more_journals : journals more ≡ journals h ++ b
  more_journals =
      append-nil (journals_of (h.closed ++ b ∷ [])) ∙ flat_map-append (λ (x : List Entry). x) h.closed (b ∷ []) ∙ ap (λ (l : List Entry). journals_of h.closed ++ l) (append-nil b) ∙ ap (λ (l : List Entry). l ++ b) (sym all_closed)

  front_kept : (p : ℕ) → p ≤ size h → take p (journals more) ≡ take p (journals h)
  front_kept p le = ap (take p) more_journals ∙ take-append-le p (journals h) b le

  ends_kept : (p : ℕ) → p ≤ size h → filter (λ end. nat_le end p) (ends more) ≡ filter (λ end. nat_le end p) (ends h)
  ends_kept p le =
      let last : 0 + length (journals_of h.closed) + length b ≡ size h + length b = omega (arith, ap length all_closed) in
      ap (filter (λ end. nat_le end p)) (ends_push 0 h.closed b ∙ ap (λ n. ends h ++ n ∷ []) last)
      ∙ filter-append (λ end. nat_le end p) (ends h) ((size h + length b) ∷ [])
      ∙ ap (λ v. filter (λ end. nat_le end p) (ends h) ++ cond v ((size h + length b) ∷ []) []) (lt-leb (size h + length b) p (omega (arith, le, one)))
      ∙ append-nil (filter (λ end. nat_le end p) (ends h))

  pub base_kept : (p : ℕ) → p ≤ size h → 0 < size h → base_of more p ≡ base_of h p
  unfolding model.id
  base_kept p le some =
      let id_is : digest (model.id more) ≡ digest (model.id h) = ap digest (ap first_leaf_digest more_journals ∙ first_kept (journals h) b some) in
      let leaves : take p (map leaf_digest (journals more)) ≡ take p (map leaf_digest (journals h)) =
      ap (λ (js : List Entry). take p (map leaf_digest js)) more_journals ∙ ap (take p) (map-append leaf_digest (journals h) b) ∙ take-append-le p (map leaf_digest (journals h)) (map leaf_digest b) (omega (arith, le, length-map (journals h) leaf_digest)) in
      ap (λ (x : Digest). as_base x p (length (filter (λ end. nat_le end p) (ends more))) (map digest (peaks sha256 (take p (map leaf_digest (journals more))))) (map (λ (m : Member). m.key) (members (front more p))) (states_at p (clues_added 0 (take p (journals more))))) id_is
      ∙ ap (λ x. as_base (digest (model.id h)) p (length x) (map digest (peaks sha256 (take p (map leaf_digest (journals more))))) (map (λ (m : Member). m.key) (members (front more p))) (states_at p (clues_added 0 (take p (journals more))))) (ends_kept p le)
      ∙ ap (λ x. as_base (digest (model.id h)) p (length (filter (λ end. nat_le end p) (ends h))) (map digest (peaks sha256 x)) (map (λ (m : Member). m.key) (members (front more p))) (states_at p (clues_added 0 (take p (journals more))))) leaves
      ∙ ap (λ (js : List Entry). as_base (digest (model.id h)) p (length (filter (λ end. nat_le end p) (ends h))) (map digest (peaks sha256 (take p (map leaf_digest (journals h))))) (map (λ (m : Member). m.key) (members (history [] js))) (states_at p (clues_added 0 js))) (front_kept p le)

-- ---- one base

read_or : Base → Result Base Bad → Base
read_or b (Ok c) = c
read_or b (Err e) = b

-- a base is told by its bytes
pub one_spelling : (b c : Base) → IsBase b × HasWidths b → IsBase c × HasWidths c → base_spelling b ≡ base_spelling c → b ≡ c
unfolding read_or
one_spelling b c rb rc is = ap (read_or b) (sym (base_of_only (base_spelling b) b rb.0 rb.1 refl) ∙ base_of_only (base_spelling b) c rc.0 rc.1 is)
