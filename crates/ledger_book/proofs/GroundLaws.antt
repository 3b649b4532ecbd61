-- Lemmas on which header is the next one where no base stands in front: it is the next one of the history.
use Rattle.std.specs.Prelude.{Bool, true, false, cond, zero, suc, None, Some, Option, filter, bytes_eq, not, nat_le, slice_get}
use Rattle.std.specs.Set.{distinct_count}
use Rattle.std.proofs.Common.{◌≡◌, ℕ, ◌+◌, ◌-◌, ◌<◌, ◌&&◌, ◌==◌, List, [], ◌∷◌, length, map, refl, sym, ◌∙◌, ap, subst, arith}
use Rattle.std.proofs.lemmas.Bool.{eqb-true, eq-eqb, leb-false, lt-leb, true≢false}
use Rattle.std.proofs.lemmas.Option.{none-some}
use Rattle.ledger_bytes.specs.declared.digest.Digest.{Digest}
use Rattle.ledger_bytes.specs.declared.refusal.Refusal.{Refusal}
use Rattle.ledger_bytes.specs.declared.refusal.Refusal.TheVariants.{CluesFull}
use Rattle.clue_index.specs.Added.{Mark, trail_of, jsns_of, different_clues}
use Rattle.clue_index.specs.Trail.{count_of, last_of, last_from}
use Rattle.clue_index.proofs.OrderLaws.{different_count}
use Rattle.journal_record.specs.Entry.{Entry}
use Rattle.journal_record.specs.Rules.{is_no_clue}
use Rattle.journal_record.specs.declared.header.Header.{Header}
use Rattle.journal_record.specs.declared.header.Kind.{Kind}
use Rattle.journal_record.specs.declared.header.Kind.TheVariants as kind
use Rattle.ledger_model.specs.Bases.{clue_mark_of, clues_added}
use Rattle.ledger_model.specs.Clues.{has_clue, is_of_clue, numbers_of, jsns_with, clue_count, next_ordinal, last_journal}
use Rattle.ledger_model.specs.Clues as model_clues
use Rattle.ledger_model.specs.History.{History, history, point, greatest_point}
use Rattle.ledger_model.specs.Judgements.{clues_full}
use Rattle.ledger_model.specs.Lawful.{AreLawful, IsNext, IsNextOf, IsNextRecord}
use Rattle.ledger_model.specs.Limits.{real_limits}
use Rattle.ledger_model.specs.Targets.{is_hidden_by, is_hidden, kind_at, leaf_at, shown_with}
use Rattle.ledger_model.proofs.LawfulLaws.{lawful_from}
use Rattle.ledger_model.proofs.MarkLaws.{marks}
use Rattle.ledger_model.specs.Numbers.{numbered}
use Rattle.ledger_book.proofs.NumberedLaws.{from_floor}
use Rattle.ledger_book.proofs.ShownLaws.{shown_numbers}
use Rattle.ledger_model.specs.Behind.{numbered_from, clues_behind, shown_behind, IsRecordBehind, IsOwnBehind, IsNextBehind}

-- the judgement on the room for a clue, by what it looks at
abbrev pub full : Bool → Bool → Bool → Option Refusal
full nc none more = cond ((not nc && none) && more) (Some CluesFull) None

abbrev pub is_genesis : Kind → Bool
is_genesis kind.Genesis = true
is_genesis other = false

pub there : (es : List Entry) (n : ℕ) (k : Kind) → kind_at (history [] es) n ≡ k → is_genesis k ≡ false → n < length es
there [] n k is isnt = absurd (true≢false (ap is_genesis is ∙ isnt))
there (e ∷ es) zero k is isnt = omega arith
there (e ∷ es) (suc n) k is isnt = omega (arith, there es n k is isnt)

pub numbers_same : (clue : Digest) (es : List Entry) → jsns_of clue.0 (marks es) ≡ numbers_of clue es
numbers_same clue [] = refl
numbers_same clue (e ∷ es) =
    let ms : List Mark = marks es in
    let jsn : Entry → ℕ = λ j. j.header.jsn in
    elim (has_clue e) as (λ has. jsns_of clue.0 (map clue_mark_of (cond has (e ∷ filter has_clue es) (filter has_clue es))) ≡ map jsn (cond (has && bytes_eq clue.0 e.header.clue.0) (e ∷ filter (is_of_clue clue) es) (filter (is_of_clue clue) es))) [
      | true ↦ elim (bytes_eq clue.0 e.header.clue.0) as (λ same. map (λ (m : Mark). m.jsn) (cond same (clue_mark_of e ∷ filter (λ (m : Mark). bytes_eq clue.0 m.clue) ms) (filter (λ (m : Mark). bytes_eq clue.0 m.clue) ms)) ≡ map jsn (cond same (e ∷ filter (is_of_clue clue) es) (filter (is_of_clue clue) es))) [
        | true ↦ ap (λ ns. e.header.jsn ∷ ns) (numbers_same clue es)
        | false ↦ numbers_same clue es
      ]
      | false ↦ numbers_same clue es
    ]

pub last_same : (js : List ℕ) → last_from 0 js ≡ model_clues.last_of js
last_same [] = refl
last_same (j ∷ []) = refl
last_same (j ∷ k ∷ js) = last_same (k ∷ js)

pub clues_same : (es : List Entry) → map (λ (m : Mark). m.clue) (marks es) ≡ model_clues.clues_of es
clues_same es = by_marks (filter has_clue es) where
  by_marks : (js : List Entry) → map (λ (m : Mark). m.clue) (map clue_mark_of js) ≡ map (λ (j : Entry). j.header.clue.0) js
  by_marks [] = refl
  by_marks (j ∷ js) = ap (λ rest. j.header.clue.0 ∷ rest) (by_marks js)

pub no_room : (h : History) (clue : Digest) → clues_full real_limits h clue ≡ None → is_no_clue clue ≡ false → length (jsns_with h clue) ≡ 0 → clue_count h < 1_048_576
unfolding clues_full
no_room h clue room has none =
    elim (nat_le 1_048_576 (clue_count h)) as (λ v. nat_le 1_048_576 (clue_count h) ≡ v → clue_count h < 1_048_576) [
      | true ↦ λ full. absurd (none-some CluesFull (sym room
          ∙ ap (λ v. cond ((not v && length (jsns_with h clue) == 0) && nat_le 1_048_576 (clue_count h)) (Some CluesFull) None) has
          ∙ ap (λ v. cond (v && nat_le 1_048_576 (clue_count h)) (Some CluesFull) None) (eq-eqb (length (jsns_with h clue)) 0 none)
          ∙ ap (λ v. cond v (Some CluesFull) None) full))
      | false ↦ λ low. leb-false 1_048_576 (clue_count h) low
    ] refl

-- what nothing becomes of was nothing
pub nothing_mapped : {A B : Type 0} (f : A → B) (xs : List A) → map f xs ≡ [] → xs ≡ []
nothing_mapped f [] is = refl
nothing_mapped f (x ∷ xs) is = absurd cc

-- where no base stands in front
module _ (es : List Entry) where
  abbrev h : History
  h = history [] es

  count_is : (clue : Digest) → count_of (trail_of (clues_behind None es) clue.0) ≡ length (numbers_of clue es)
  count_is clue = plus (length (jsns_of clue.0 _)) ∙ ap length (numbers_same clue es) where
    plus : (n : ℕ) → 0 + n ≡ n
    plus n = omega arith

  last_is : (clue : Digest) → last_of (trail_of (clues_behind None es) clue.0) ≡ model_clues.last_of (numbers_of clue es)
  last_is clue = ap (last_from 0) (numbers_same clue es) ∙ last_same (numbers_of clue es)

  clue_count_is : length (different_clues (clues_behind None es)) ≡ clue_count h
  unfolding clue_count
  clue_count_is = different_count (clues_added 0 es) ∙ ap (distinct_count bytes_eq) (clues_same es)

  less_none : (n : ℕ) → n - 0 ≡ n
  less_none n = omega arith

  fresh_is : (x : Header) → numbered_from 0 (greatest_point es) es x.member x.a ≡ numbered h x.member x.a
  unfolding point
  fresh_is x = from_floor h 0 (greatest_point es) x.member x.a refl (omega arith)

  record_to : (x : Header) → IsNextRecord h x → IsRecordBehind None es x
  unfolding next_ordinal last_journal jsns_with clues_full clue_count
  record_to x own = record {
    member = own.member;
    clue_ord = own.clue_ord ∙ ap (λ n. cond (is_no_clue x.clue) 0 (n + 1)) (sym (count_is x.clue));
    clue_prev = own.clue_prev ∙ ap (λ n. cond (is_no_clue x.clue) 0 n) (sym (last_is x.clue));
    room = λ has none. let n = no_room h x.clue own.room has (sym (count_is x.clue) ∙ none) in subst (λ k. k < 1_048_576) (sym clue_count_is) n;
    fresh = fresh_is x ∙ own.fresh;
  }

  record_from : (x : Header) → IsRecordBehind None es x → IsNextRecord h x
  unfolding next_ordinal last_journal jsns_with clues_full clue_count
  record_from x own = record {
    member = own.member;
    clue_ord = own.clue_ord ∙ ap (λ n. cond (is_no_clue x.clue) 0 (n + 1)) (count_is x.clue);
    clue_prev = own.clue_prev ∙ ap (λ n. cond (is_no_clue x.clue) 0 n) (last_is x.clue);
    room = by_room (is_no_clue x.clue) (length (numbers_of x.clue es) == 0) refl refl;
    fresh = sym (fresh_is x) ∙ own.fresh;
  } where
    by_room : (nc none : Bool) → is_no_clue x.clue ≡ nc → (length (numbers_of x.clue es) == 0) ≡ none → cond ((not (is_no_clue x.clue) && length (numbers_of x.clue es) == 0) && nat_le 1_048_576 (clue_count h)) (Some CluesFull) None ≡ None
    by_room true none is_nc is_none = ap (λ v. full v (length (numbers_of x.clue es) == 0) (nat_le 1_048_576 (clue_count h))) is_nc
    by_room false false is_nc is_none = ap (λ v. full v (length (numbers_of x.clue es) == 0) (nat_le 1_048_576 (clue_count h))) is_nc ∙ ap (λ v. full false v (nat_le 1_048_576 (clue_count h))) is_none
    by_room false true is_nc is_none =
        let few = own.room is_nc (count_is x.clue ∙ eqb-true (length (numbers_of x.clue es)) 0 is_none) in
        let low : clue_count h < 1_048_576 = subst (λ n. n < 1_048_576) clue_count_is few in
        ap (λ v. full v (length (numbers_of x.clue es) == 0) (nat_le 1_048_576 (clue_count h))) is_nc ∙ ap (λ v. full false v (nat_le 1_048_576 (clue_count h))) is_none
        ∙ ap (λ v. full false true v) (lt-leb 1_048_576 (clue_count h) low)

  -- a journal that has a kind of its own is there
  here : (n : ℕ) (k : Kind) → kind_at h n ≡ k → is_genesis k ≡ false → n < length es
  here n k is isnt = there es n k is isnt

  -- those of a clue that are kept and shown
  shown_same : (clue : Digest) → AreLawful es → shown_with h clue ≡ map (λ (e : Entry). e.header.jsn) (shown_behind es clue)
  unfolding shown_with jsns_with point
  shown_same clue lawful = shown_numbers 0 (greatest_point es) (λ n. is_hidden h n) clue es es (lawful_from es lawful) (λ i e at. ap (λ k. is_hidden_by es (slice_get es k)) (let same : 0 + i ≡ i = omega arith in same) ∙ ap (is_hidden_by es) at)

  own_to : (x : Header) (k : Kind) → AreLawful es → IsNextOf h x k → IsOwnBehind None es x k
  unfolding point jsns_with shown_with
  own_to x kind.Genesis lawful own = tt
  own_to x kind.Content lawful own = record_to x own
  own_to x kind.Member lawful own = own
  own_to x kind.Time lawful own = tt
  own_to x kind.Occult lawful own = record {
    named = λ low. absurd (omega (arith, low));
    shown = λ _. ap (λ i. is_hidden_by es (slice_get es i)) (less_none x.a) ∙ own.shown;
    front = λ low. absurd (omega (arith, low));
    kept = λ _. own.kept;
    target_is = λ _. ap (kind_at h) (less_none x.a) ∙ own.target_is;
    leaf_is = λ _. own.leaf_is ∙ sym (ap (leaf_at h) (less_none x.a));
  }
  own_to x kind.ClueOccult lawful own = record { count = own.count ∙ sym (count_is x.link); shown = λ _ none. own.shown (shown_same x.link lawful ∙ ap (map (λ (e : Entry). e.header.jsn)) none) }
  own_to x kind.Purge lawful own = record { above = own.above; target_is = λ _. ap (kind_at h) (less_none x.a) ∙ own.target_is }

  own_from : (x : Header) (k : Kind) → AreLawful es → IsOwnBehind None es x k → IsNextOf h x k
  unfolding point jsns_with shown_with
  own_from x kind.Genesis lawful own = tt
  own_from x kind.Content lawful own = record_from x own
  own_from x kind.Member lawful own = own
  own_from x kind.Time lawful own = tt
  own_from x kind.Occult lawful own = record {
    kept = own.kept (omega arith);
    before = here x.a kind.Content (ap (kind_at h) (sym (less_none x.a)) ∙ own.target_is (omega arith)) refl;
    target_is = ap (kind_at h) (sym (less_none x.a)) ∙ own.target_is (omega arith);
    shown = ap (λ i. is_hidden_by es (slice_get es i)) (sym (less_none x.a)) ∙ own.shown (omega arith);
    leaf_is = own.leaf_is (omega arith) ∙ ap (leaf_at h) (less_none x.a);
  }
  own_from x kind.ClueOccult lawful own = record { count = own.count ∙ count_is x.link; shown = λ none. own.shown refl (nothing_mapped (λ (e : Entry). e.header.jsn) _ (sym (shown_same x.link lawful) ∙ none)) }
  own_from x kind.Purge lawful own = record { above = own.above; before = here x.a kind.Time (ap (kind_at h) (sym (less_none x.a)) ∙ own.target_is (omega arith)) refl; target_is = ap (kind_at h) (sym (less_none x.a)) ∙ own.target_is (omega arith) }

  pub ground_next : (x : Header) → AreLawful es → IsNext h x → IsNextBehind None es x
  ground_next x lawful next = record { layout = next.layout; jsn = next.jsn ∙ omega arith; below = next.below; begins = tt; own = own_to x x.kind lawful next.own }

  pub next_ground : (x : Header) → AreLawful es → IsNextBehind None es x → IsNext h x
  next_ground x lawful next = record { layout = next.layout; jsn = next.jsn ∙ omega arith; below = next.below; own = own_from x x.kind lawful next.own }
