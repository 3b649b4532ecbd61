-- Lemmas on the base that a book tells of a journal: it is that of each history that the book serves.
use Rattle.std.specs.Prelude.{◌^◌, Option, Some, None, bytes_eq, count_by, filter, option_map, slice_get, nat_lt, nat_le, zero, suc}
use Rattle.std.specs.Option.{option_to_list}
use Rattle.std.proofs.Common.{◌≡◌, ℕ, ◌+◌, ◌-◌, ◌<◌, ◌≤◌, true, false, cond, List, [], ◌∷◌, ◌++◌, length, map, take, drop, refl, sym, ◌∙◌, ap, subst, arith, take-append-drop}
use Rattle.std.proofs.lemmas.Bool.{le-leb, le-ltb, lt-ltb, lt-leb, ltb-true, ltb-false}
use Rattle.std.proofs.lemmas.List.{length-map, map-append, take_at}
use Rattle.std.proofs.lemmas.List.Elements.{filter-append}
use Rattle.std.proofs.lemmas.List.Sums.{sum_by-cons}
use Rattle.sha2.specs.Sha256.{sha256}
use Rattle.tree_model.specs.Peaks.{peaks}
use Rattle.ledger_bytes.specs.Digests.{digest}
use Rattle.ledger_bytes.specs.declared.digest.Digest.{Digest}
use Rattle.clue_index.specs.Added.{Added, Mark, states_at, trail_of, jsns_of}
use Rattle.clue_index.specs.Index as index
use Rattle.clue_index.specs.Trail.{count_of}
use Rattle.clue_index.specs.declared.state.ClueState.{ClueState}
use Rattle.journal_record.specs.Entry.{Entry}
use Rattle.journal_record.specs.Members as book
use Rattle.journal_record.specs.declared.member.Member.{Member}
use Rattle.member_book.specs.Members.{count_below}
use Rattle.merkle_batch.specs.Rows.{StandsFor}
use Rattle.pseudo_genesis.specs.declared.base.Base.{Base}
use Rattle.ledger_model.specs.Bases.{base_of, front, clue_mark_of, clues_added}
use Rattle.ledger_model.specs.Clues.{has_clue}
use Rattle.ledger_model.specs.History as model
use Rattle.ledger_model.specs.History.{History, journals}
use Rattle.ledger_model.specs.Lawful.{IsFounded}
use Rattle.ledger_model.specs.Members.{members, founders, admits, member_of, admitted_members}
use Rattle.ledger_model.proofs.EarlyLaws.{states_early}
use Rattle.ledger_model.proofs.LawfulLaws.{AreFrom, lawful_from}
use Rattle.ledger_book.specs.Books.{Kept, Stands, leaf_digests, aged_members}
use Rattle.ledger_book.proofs.BaseLaws.{ends_count}
use Rattle.ledger_book.proofs.TimeLaws.{from_later}

-- the ends up to a journal and those above it
ends_apart : (floor p : ℕ) (es : List ℕ) → floor ≤ p → length (filter (λ end. nat_le end p) es) + length (filter (λ end. nat_lt p end) (filter (λ end. nat_lt floor end) es)) ≡ length es
ends_apart floor p [] le = refl
ends_apart floor p (e ∷ es) le =
    let later = ends_apart floor p es le in
    elim (nat_lt p e) as (λ v. nat_lt p e ≡ v → length (filter (λ end. nat_le end p) (e ∷ es)) + length (filter (λ end. nat_lt p end) (filter (λ end. nat_lt floor end) (e ∷ es))) ≡ length (e ∷ es)) [
      | true ↦ λ is.
          let above = ltb-true p e is in
          let one : length (filter (λ end. nat_le end p) (e ∷ es)) ≡ length (filter (λ end. nat_le end p) es) = ap (λ v. length (cond v (e ∷ filter (λ end. nat_le end p) es) (filter (λ end. nat_le end p) es))) (lt-leb e p above) in
          let two : length (filter (λ end. nat_lt p end) (filter (λ end. nat_lt floor end) (e ∷ es))) ≡ length (filter (λ end. nat_lt p end) (filter (λ end. nat_lt floor end) es)) + 1 =
          ap (λ v. length (filter (λ end. nat_lt p end) (cond v (e ∷ filter (λ end. nat_lt floor end) es) (filter (λ end. nat_lt floor end) es)))) (lt-ltb floor e (omega (arith, above, le)))
          ∙ ap (λ v. length (cond v (e ∷ filter (λ end. nat_lt p end) (filter (λ end. nat_lt floor end) es)) (filter (λ end. nat_lt p end) (filter (λ end. nat_lt floor end) es)))) is ∙ omega arith in
          omega (arith, later, one, two)
      | false ↦ λ is.
          let low : e ≤ p = ltb-false p e is in
          let one : length (filter (λ end. nat_le end p) (e ∷ es)) ≡ length (filter (λ end. nat_le end p) es) + 1 = ap (λ v. length (cond v (e ∷ filter (λ end. nat_le end p) es) (filter (λ end. nat_le end p) es))) (le-leb e p low) ∙ omega arith in
          let two : length (filter (λ end. nat_lt p end) (filter (λ end. nat_lt floor end) (e ∷ es))) ≡ length (filter (λ end. nat_lt p end) (filter (λ end. nat_lt floor end) es)) =
          elim (nat_lt floor e) as (λ v. length (filter (λ end. nat_lt p end) (cond v (e ∷ filter (λ end. nat_lt floor end) es) (filter (λ end. nat_lt floor end) es))) ≡ length (filter (λ end. nat_lt p end) (filter (λ end. nat_lt floor end) es))) [
            | true ↦ ap (λ v. length (cond v (e ∷ filter (λ end. nat_lt p end) (filter (λ end. nat_lt floor end) es)) (filter (λ end. nat_lt p end) (filter (λ end. nat_lt floor end) es)))) is
            | false ↦ refl
          ] in
          omega (arith, later, one, two)
    ] refl

abbrev early : ℕ → List Member → List Member
early p ms = filter (λ (m : Member). nat_lt m.jsn p) ms

-- which members are early is seen from their ages
early_aged : (floor p : ℕ) (ms : List Member) → floor ≤ p → 1 ≤ p → map (λ (m : Member). m.key) (early p ms) ≡ map (λ (m : Member). m.key) (early p (aged_members floor ms))
early_aged floor p [] le some = refl
early_aged floor p (m ∷ ms) le some =
    let later = early_aged floor p ms le some in
    elim (nat_lt m.jsn floor) as (λ v. nat_lt m.jsn floor ≡ v → map (λ (m : Member). m.key) (early p (m ∷ ms)) ≡ map (λ (m : Member). m.key) (early p (record { key = m.key; jsn = cond v 0 m.jsn } ∷ aged_members floor ms))) [
      | true ↦ λ is.
          ap (λ v. map (λ (m : Member). m.key) (cond v (m ∷ early p ms) (early p ms))) (lt-ltb m.jsn p (omega (arith, le, ltb-true m.jsn floor is))) ∙ ap (λ (l : List Digest). m.key ∷ l) later
          ∙ sym (ap (λ v. map (λ (m : Member). m.key) (cond v (record { key = m.key; jsn = 0 } ∷ early p (aged_members floor ms)) (early p (aged_members floor ms)))) (lt-ltb 0 p (omega (arith, some))))
      | false ↦ λ is. elim (nat_lt m.jsn p) as (λ v. map (λ (m : Member). m.key) (cond v (m ∷ early p ms) (early p ms)) ≡ map (λ (m : Member). m.key) (cond v (record { key = m.key; jsn = m.jsn } ∷ early p (aged_members floor ms)) (early p (aged_members floor ms)))) [
        | true ↦ ap (λ (l : List Digest). m.key ∷ l) later
        | false ↦ later
      ]
    ] refl

admitted_early : (m p : ℕ) (es : List Entry) → AreFrom m es → early (m + p) (admitted_members es) ≡ admitted_members (take p es)
admitted_early m p [] from = ap admitted_members (none p) where
  none : (p : ℕ) → ◌≡◌ {A = List Entry} [] (take p [])
  none zero = refl
  none (suc p) = refl
admitted_early m zero (e ∷ es) from = none_early m (m + 0) (e ∷ es) from (omega arith) where
  none_early : (m n : ℕ) (es : List Entry) → AreFrom m es → n ≤ m → early n (admitted_members es) ≡ []
  none_early m n [] from le = refl
  none_early m n (e ∷ es) from le =
      let later = none_early (m + 1) n es from.2 (omega (arith, le)) in
      elim (admits e) as (λ v. early n (map member_of (cond v (e ∷ filter admits es) (filter admits es))) ≡ []) [
        | true ↦ ap (λ v. cond v (member_of e ∷ early n (admitted_members es)) (early n (admitted_members es))) (le-ltb e.header.jsn n (omega (arith, from.0, le))) ∙ later
        | false ↦ later
      ]
admitted_early m (suc p) (e ∷ es) from =
    let same : m + suc p ≡ (m + 1) + p = omega arith in
    let later = ap (λ n. early n (admitted_members es)) same ∙ admitted_early (m + 1) p es from.2 in
    elim (admits e) as (λ v. early (m + suc p) (map member_of (cond v (e ∷ filter admits es) (filter admits es))) ≡ map member_of (cond v (e ∷ filter admits (take p es)) (filter admits (take p es)))) [
      | true ↦ ap (λ v. cond v (member_of e ∷ early (m + suc p) (admitted_members es)) (early (m + suc p) (admitted_members es))) (lt-ltb e.header.jsn (m + suc p) (omega (arith, from.0))) ∙ ap (λ (l : List Member). member_of e ∷ l) later
      | false ↦ later
    ]

-- the keys of the first members are those of the members in front of the point
keys_aged : (floor : ℕ) (ms : List Member) → map (λ (m : Member). m.key) (aged_members floor ms) ≡ map (λ (m : Member). m.key) ms
keys_aged floor [] = refl
keys_aged floor (m ∷ ms) = ap (λ (l : List Digest). m.key ∷ l) (keys_aged floor ms)

take_map : (n : ℕ) (ms : List Member) → map (λ (m : Member). m.key) (take n ms) ≡ take n (map (λ (m : Member). m.key) ms)
take_map zero ms = refl
take_map (suc n) [] = refl
take_map (suc n) (m ∷ ms) = ap (λ (l : List Digest). m.key ∷ l) (take_map n ms)

early_count : (floor p : ℕ) (ms : List Member) → floor ≤ p → 1 ≤ p → length (early p ms) ≡ length (early p (aged_members floor ms))
early_count floor p ms le some = sym (length-map (early p ms) (λ (m : Member). m.key)) ∙ ap length (early_aged floor p ms le some) ∙ length-map (early p (aged_members floor ms)) (λ (m : Member). m.key)

drop_aged : (n floor : ℕ) (ms : List Member) → aged_members floor (drop n ms) ≡ drop n (aged_members floor ms)
drop_aged zero floor ms = refl
drop_aged (suc n) floor [] = refl
drop_aged (suc n) floor (m ∷ ms) = drop_aged n floor ms

counted : (p : ℕ) (ms : List Member) → count_by (λ (m : Member). nat_lt m.jsn p) ms ≡ length (early p ms)
counted p [] = refl
counted p (m ∷ ms) =
    sum_by-cons (λ (x : Member). cond (nat_lt x.jsn p) 1 0) m ms
    ∙ elim (nat_lt m.jsn p) as (λ v. cond v 1 0 + count_by (λ (x : Member). nat_lt x.jsn p) ms ≡ length (cond v (m ∷ early p ms) (early p ms))) [
      | true ↦ omega (arith, counted p ms)
      | false ↦ omega (arith, counted p ms)
    ]

below_same : (floor p : ℕ) (xs ys : List Member) → floor ≤ p → 1 ≤ p → aged_members floor xs ≡ aged_members floor ys → count_below p xs ≡ count_below p ys
below_same floor p xs ys le some same =
    ap (λ n. 2 + n) (counted p (drop 2 xs) ∙ early_count floor p (drop 2 xs) le some ∙ ap (λ (l : List Member). length (early p l)) (drop_aged 2 floor xs ∙ ap (drop 2) same ∙ sym (drop_aged 2 floor ys)) ∙ sym (early_count floor p (drop 2 ys) le some) ∙ sym (counted p (drop 2 ys)))

founders_taken : (n : ℕ) (es : List Entry) → 1 ≤ n → founders (take n es) ≡ founders es
founders_taken zero es some = absurd (omega (arith, some))
founders_taken (suc n) [] some = refl
founders_taken (suc n) (e ∷ es) some = refl

pub keys_first : (k : Kept) (h : History) (p : ℕ) → Stands k h → k.floor ≤ p → 1 ≤ p → map (λ (m : Member). m.key) (take (count_below p k.members) k.members) ≡ map (λ (m : Member). m.key) (members (front h p))
unfolding members
keys_first k h p s le some = by_first (journals h) refl where
  keys_same : map (λ (m : Member). m.key) k.members ≡ map (λ (m : Member). m.key) (members h)
  keys_same = sym (keys_aged k.floor k.members) ∙ ap (map (λ (m : Member). m.key)) s.members ∙ keys_aged k.floor (members h)

  start : map (λ (m : Member). m.key) (take (count_below p k.members) k.members) ≡ map (λ (m : Member). m.key) (take (count_below p (members h)) (members h))
  start =
      ap (λ n. map (λ (m : Member). m.key) (take n k.members)) (below_same k.floor p k.members (members h) le some s.members)
      ∙ take_map (count_below p (members h)) k.members ∙ ap (take (count_below p (members h))) keys_same ∙ sym (take_map (count_below p (members h)) (members h))

  split : admitted_members (journals h) ≡ admitted_members (take p (journals h)) ++ admitted_members (drop p (journals h))
  split = ap admitted_members (sym (take-append-drop p (journals h))) ∙ ap (map member_of) (filter-append admits (take p (journals h)) (drop p (journals h))) ∙ map-append member_of (filter admits (take p (journals h))) (filter admits (drop p (journals h)))

  by_first : (js : List Entry) → journals h ≡ js → map (λ (m : Member). m.key) (take (count_below p k.members) k.members) ≡ map (λ (m : Member). m.key) (founders (take p (journals h)) ++ admitted_members (take p (journals h)))
  by_first [] is = absurd (subst IsFounded is s.lawful.founded)
  by_first (j ∷ js) is =
      let one : Member = record { key = digest (take 32 j.content); jsn = 0 } in
      let two : Member = record { key = digest (drop 32 j.content); jsn = 0 } in
      let first : founders (journals h) ≡ one ∷ two ∷ [] = ap founders is in
      let same : 0 + p ≡ p = omega arith in
      let pair_more : 2 + length (admitted_members (take p (journals h))) ≡ suc (suc (length (admitted_members (take p (journals h))))) = omega arith in
      let count : count_below p (members h) ≡ suc (suc (length (admitted_members (take p (journals h))))) =
      ap (λ (l : List Member). count_below p (l ++ admitted_members (journals h))) first
      ∙ ap (λ n. 2 + n) (counted p (admitted_members (journals h))) ∙ ap (λ (l : List Member). 2 + length l) (ap (λ n. early n (admitted_members (journals h))) (sym same) ∙ admitted_early 0 p (journals h) (lawful_from (journals h) s.lawful)) ∙ pair_more in
      start ∙ ap (λ n. map (λ (m : Member). m.key) (take n (members h))) count
      ∙ ap (λ (l : List Member). map (λ (m : Member). m.key) (take (suc (suc (length (admitted_members (take p (journals h)))))) (l ++ admitted_members (journals h)))) first
      ∙ ap (λ (l : List Member). map (λ (m : Member). m.key) (one ∷ two ∷ take (length (admitted_members (take p (journals h)))) l)) split
      ∙ ap (λ (l : List Member). map (λ (m : Member). m.key) (one ∷ two ∷ l)) (take_at (admitted_members (take p (journals h))) (admitted_members (drop p (journals h))) (length (admitted_members (take p (journals h)))) refl)
      ∙ ap (λ (l : List Member). map (λ (m : Member). m.key) (l ++ admitted_members (take p (journals h)))) (sym first ∙ sym (founders_taken p (journals h) some))

-- no clue has more journals than there are
pub listed_few : (clue : List ℕ) (es : List Entry) → length (jsns_of clue (map clue_mark_of (filter has_clue es))) ≤ length es
listed_few clue [] = omega arith
listed_few clue (e ∷ es) =
    let later = listed_few clue es in
    elim (has_clue e) as (λ v. length (jsns_of clue (map clue_mark_of (cond v (e ∷ filter has_clue es) (filter has_clue es)))) ≤ length (e ∷ es)) [
      | true ↦ elim (bytes_eq clue e.header.clue.0) as (λ v. length (map (λ (x : Mark). x.jsn) (cond v (clue_mark_of e ∷ filter (λ (x : Mark). bytes_eq clue x.clue) (map clue_mark_of (filter has_clue es))) (filter (λ (x : Mark). bytes_eq clue x.clue) (map clue_mark_of (filter has_clue es))))) ≤ length (e ∷ es)) [ true ↦ omega (arith, later) | false ↦ omega (arith, later) ]
      | false ↦ omega (arith, later)
    ]

counts_few : (floor : ℕ) (es : List Entry) → length es ≤ 4_294_967_295 → (clue : List ℕ) → count_of (trail_of (clues_added floor es) clue) < 2 ^ 32
counts_few floor es few clue = omega (arith, few, listed_few clue es)

digests_again : (ds : List Digest) → map digest (map (λ (d : Digest). d.0) ds) ≡ ds
digests_again [] = refl
digests_again (d ∷ ds) = ap (λ (l : List Digest). d ∷ l) (digests_again ds)

abbrev pub base : Digest → ℕ → ℕ → List Digest → List Digest → List ClueState → Base
base id point blocks peaks keys clues = record { id = id; point = point; blocks = blocks; peaks = peaks; keys = keys; clues = clues }

-- what is told of a journal, by the calls of the book's parts
pub record IsTold (k : Kept) (p : ℕ) (b : Base) : Type 0 where
  pub id : b.id ≡ k.id
  pub point : b.point ≡ p
  pub blocks : b.blocks ≡ k.blocks - length (filter (λ end. nat_lt p end) k.ends)
  pub peaks_are : (ds : List (List ℕ)) → StandsFor sha256 k.tree ds → map (λ (d : Digest). d.0) b.peaks ≡ peaks sha256 (take p ds)
  pub keys_are : b.keys ≡ map (λ (m : Member). m.key) (take (count_below p k.members) k.members)
  pub clues_are : (a : Added) → index.StandsForTrails k.clues a → a.floor ≤ p → ((clue : List ℕ) → count_of (trail_of a clue) < 2 ^ 32) → b.clues ≡ states_at p a

pub base_told : (k : Kept) (h : History) (p : ℕ) (b : Base) → Stands k h → k.size < 2 ^ 32 → IsTold k p b → k.floor ≤ p → 1 ≤ p → b ≡ base_of h p
base_told k h p b s few t le some =
    let id_is : b.id ≡ digest (model.id h) = t.id ∙ ap digest s.tree.id in
    let blocks_is : b.blocks ≡ length (filter (λ end. nat_le end p) (model.ends h)) =
    omega (arith, t.blocks, s.counts.blocks, ap (λ (es : List ℕ). length (filter (λ end. nat_lt p end) es)) s.counts.ends, ends_apart k.floor p (model.ends h) le, ends_count 0 h.closed) in
    let peaks_is : b.peaks ≡ map digest (peaks sha256 (take p (leaf_digests h))) = sym (digests_again b.peaks) ∙ ap (map digest) (t.peaks_are (leaf_digests h) s.tree.leaves) in
    let keys_is : b.keys ≡ map (λ (m : Member). m.key) (members (front h p)) = t.keys_are ∙ keys_first k h p s le some in
    let clues_is : b.clues ≡ states_at p (clues_added 0 (take p (journals h))) =
    t.clues_are (clues_added k.floor (journals h)) s.clues (omega (arith, s.clues.floor, le)) (counts_few k.floor (journals h) (omega (arith, few, s.counts.size))) ∙ ap (λ (js : List Entry). states_at p (clues_added k.floor js)) (sym (take-append-drop p (journals h)))
    ∙ states_early p (0 + p) k.floor (take p (journals h)) (drop p (journals h)) (from_later 0 p (0 + p) (journals h) (lawful_from (journals h) s.lawful) refl) (omega arith) in
    ap (λ x. base x b.point b.blocks b.peaks b.keys b.clues) id_is ∙ ap (λ x. base (digest (model.id h)) x b.blocks b.peaks b.keys b.clues) t.point
    ∙ ap (λ x. base (digest (model.id h)) p x b.peaks b.keys b.clues) blocks_is
    ∙ ap (λ x. base (digest (model.id h)) p (length (filter (λ end. nat_le end p) (model.ends h))) x b.keys b.clues) peaks_is
    ∙ ap (λ x. base (digest (model.id h)) p (length (filter (λ end. nat_le end p) (model.ends h))) (map digest (peaks sha256 (take p (leaf_digests h)))) x b.clues) keys_is
    ∙ ap (λ x. base (digest (model.id h)) p (length (filter (λ end. nat_le end p) (model.ends h))) (map digest (peaks sha256 (take p (leaf_digests h)))) (map (λ (m : Member). m.key) (members (front h p))) x) clues_is

-- how many ends there are above a journal
pub ends_counted : (p : ℕ) (es : List ℕ) → count_by (λ end. nat_lt p end) es ≡ length (filter (λ end. nat_lt p end) es)
ends_counted p [] = refl
ends_counted p (e ∷ es) =
    sum_by-cons (λ end. cond (nat_lt p end) 1 0) e es
    ∙ elim (nat_lt p e) as (λ v. cond v 1 0 + count_by (λ end. nat_lt p end) es ≡ length (cond v (e ∷ filter (λ end. nat_lt p end) es) (filter (λ end. nat_lt p end) es))) [
      | true ↦ omega (arith, ends_counted p es)
      | false ↦ omega (arith, ends_counted p es)
    ]

-- the key of the next member, where there is one
pub key_more : (ms : List Member) (i : ℕ) (key : Option Digest) → option_map (λ (d : Digest). d.0) key ≡ slice_get (book.keys ms) i
    → map (λ (m : Member). m.key) (take (i + 1) ms) ≡ map (λ (m : Member). m.key) (take i ms) ++ option_to_list key
key_more ms i key is = let next : i + 1 ≡ suc i = omega arith in ap (λ n. map (λ (m : Member). m.key) (take n ms)) next ∙ by_place ms i key is where
  by_key : (m : Member) (key : Option Digest) → option_map (λ (d : Digest). d.0) key ≡ Some m.key.0 → m.key ∷ [] ≡ option_to_list key
  by_key m None is = absurd cc
  by_key m (Some d) is = let same : d.0 ≡ m.key.0 = cc in ap (λ (b : List ℕ). digest b ∷ []) (sym same)

  by_none : (key : Option Digest) → (let none : Option (List ℕ) = None in option_map (λ (d : Digest). d.0) key ≡ none) → ◌≡◌ {A = List Digest} [] (option_to_list key)
  by_none None is = refl
  by_none (Some d) is = absurd cc

  by_place : (ms : List Member) (i : ℕ) (key : Option Digest) → option_map (λ (d : Digest). d.0) key ≡ slice_get (book.keys ms) i
      → map (λ (m : Member). m.key) (take (suc i) ms) ≡ map (λ (m : Member). m.key) (take i ms) ++ option_to_list key
  by_place [] zero key is = by_none key is
  by_place [] (suc i) key is = by_none key is
  by_place (m ∷ ms) zero key is = by_key m key is
  by_place (m ∷ ms) (suc i) key is = ap (λ (l : List Digest). m.key ∷ l) (by_place ms i key is)
