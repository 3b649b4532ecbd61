-- Lemmas on judging: what a book looks at is what the history says.
use Rattle.std.proofs.Common.{◌≡◌, ◌≢◌, ℕ, ◌+◌, ◌-◌, ◌<◌, ◌≤◌, ◌&&◌, ◌||◌, ◌==◌, Bool, true, false, cond, not, List, [], ◌∷◌, length, Option, Some, None, refl, ap, sym, ◌∙◌, subst, arith, eq-eqb}
use Rattle.std.specs.Prelude.{◌++◌, nat_le, filter, MatchOption}
use Rattle.std.proofs.lemmas.Bool.{le-leb, leb-true, lt-leb, lt-ltb, ne_eqb, and_left, and_right, and_from}
use Rattle.std.proofs.lemmas.List.{length-map}
use Rattle.ledger_bytes.specs.declared.digest.Digest.{Digest}
use Rattle.ledger_bytes.specs.declared.refusal.Refusal.{Refusal}
use Rattle.ledger_bytes.specs.declared.refusal.Refusal.TheVariants.{Full, UnknownMember, CluesFull}
use Rattle.clue_index.specs.Added.{Added, different_clues, trail_of}
use Rattle.clue_index.specs.Index as index
use Rattle.clue_index.specs.Trail.{kept_from}
use Rattle.journal_record.specs.Rules.{is_no_clue}
use Rattle.journal_record.specs.declared.member.Member.{Member}
use Rattle.ledger_model.specs.Clues.{jsns_with, clue_count, last_of, next_ordinal, last_journal}
use Rattle.ledger_model.specs.History.{History, journals, size}
use Rattle.ledger_model.specs.Judgements.{kept_count, is_full, fullness, hard_fullness, clues_full, unknown_in}
use Rattle.member_book.specs.Erasures.{first_refusal}
use Rattle.ledger_model.specs.Lawful.{AreLawful}
use Rattle.ledger_model.specs.Members.{members, keys}
use Rattle.ledger_model.specs.Texts.{kept_with}
use Rattle.ledger_model.specs.declared.limits.Limits.{Limits}
use Rattle.ledger_model.proofs.LawfulLaws.{lawful_members}
use Rattle.ledger_book.specs.Books.{Kept, Stands, Serves}
use Rattle.ledger_book.proofs.ClueLaws.{told_clues, told_kept}
use Rattle.ledger_book.proofs.StandsLaws.{point_is}

-- whether there is room
full_as : (l : Limits) (h : History) (b : Bool) → is_full l.soft l h ≡ b → cond b (Some (Full (kept_count h) (size h))) None ≡ fullness l h
unfolding fullness
full_as l h b is = sym (ap (λ v. cond v (Some (Full (kept_count h) (size h))) None) is)

kept_is : (k : Kept) (h : History) (n : ℕ) → Serves k h → n ≡ k.size - k.point → n ≡ kept_count h
kept_is k h n s is = omega (arith, is, s.stands.counts.size, point_is k h s)

pub full_told : (k : Kept) (h : History) (n : ℕ) → Serves k h → n ≡ k.size - k.point → Some (Full n k.size) ≡ Some (Full (kept_count h) (size h))
full_told k h n s is = ap (λ x. Some (Full x k.size)) (kept_is k h n s is) ∙ ap (λ x. Some (Full (kept_count h) x)) s.stands.counts.size

pub full_by_kept : (k : Kept) (h : History) (n : ℕ) → Serves k h → n ≡ k.size - k.point → k.limits.soft ≤ n → Some (Full n k.size) ≡ fullness k.limits h
full_by_kept k h n s is most =
    let test : nat_le k.limits.soft (kept_count h) ≡ true = le-leb k.limits.soft (kept_count h) (omega (arith, most, kept_is k h n s is)) in
    full_told k h n s is ∙ full_as k.limits h true (ap (λ b. b || nat_le k.limits.size (size h)) test)

pub full_by_size : (k : Kept) (h : History) (n : ℕ) → Serves k h → n ≡ k.size - k.point → n < k.limits.soft → k.limits.size ≤ k.size → Some (Full n k.size) ≡ fullness k.limits h
full_by_size k h n s is less most =
    let first : nat_le k.limits.soft (kept_count h) ≡ false = lt-leb k.limits.soft (kept_count h) (omega (arith, less, kept_is k h n s is)) in
    let test : nat_le k.limits.size (size h) ≡ true = le-leb k.limits.size (size h) (omega (arith, most, s.stands.counts.size)) in
    full_told k h n s is ∙ full_as k.limits h true (ap (λ b. b || nat_le k.limits.size (size h)) first ∙ test)

pub full_not : (k : Kept) (h : History) (n : ℕ) → Serves k h → n ≡ k.size - k.point → n < k.limits.soft → k.size < k.limits.size → (let none : Option Refusal = None in none ≡ fullness k.limits h)
full_not k h n s is less room =
    let first : nat_le k.limits.soft (kept_count h) ≡ false = lt-leb k.limits.soft (kept_count h) (omega (arith, less, kept_is k h n s is)) in
    let test : nat_le k.limits.size (size h) ≡ false = lt-leb k.limits.size (size h) (omega (arith, room, s.stands.counts.size)) in
    full_as k.limits h false (ap (λ b. b || nat_le k.limits.size (size h)) first ∙ test)

hard_as : (l : Limits) (h : History) (b : Bool) → is_full l.hard l h ≡ b → cond b (Some (Full (kept_count h) (size h))) None ≡ hard_fullness l h
unfolding hard_fullness
hard_as l h b is = sym (ap (λ v. cond v (Some (Full (kept_count h) (size h))) None) is)

-- whether there is no room, by a book's numbers
pub hard_full : (k : Kept) (h : History) (n : ℕ) → Serves k h → n ≡ k.size - k.point → (nat_le k.limits.hard n || nat_le k.limits.size k.size) ≡ is_full k.limits.hard k.limits h
hard_full k h n s is =
    ap (λ m. nat_le k.limits.hard m || nat_le k.limits.size k.size) (kept_is k h n s is)
    ∙ ap (λ m. nat_le k.limits.hard (kept_count h) || nat_le k.limits.size m) s.stands.counts.size

pub hard_by_kept : (k : Kept) (h : History) (n : ℕ) → Serves k h → n ≡ k.size - k.point → k.limits.hard ≤ n → Some (Full n k.size) ≡ hard_fullness k.limits h
hard_by_kept k h n s is most =
    let test : nat_le k.limits.hard (kept_count h) ≡ true = le-leb k.limits.hard (kept_count h) (omega (arith, most, kept_is k h n s is)) in
    full_told k h n s is ∙ hard_as k.limits h true (ap (λ b. b || nat_le k.limits.size (size h)) test)

pub hard_by_size : (k : Kept) (h : History) (n : ℕ) → Serves k h → n ≡ k.size - k.point → n < k.limits.hard → k.limits.size ≤ k.size → Some (Full n k.size) ≡ hard_fullness k.limits h
hard_by_size k h n s is less most =
    let first : nat_le k.limits.hard (kept_count h) ≡ false = lt-leb k.limits.hard (kept_count h) (omega (arith, less, kept_is k h n s is)) in
    let test : nat_le k.limits.size (size h) ≡ true = le-leb k.limits.size (size h) (omega (arith, most, s.stands.counts.size)) in
    full_told k h n s is ∙ hard_as k.limits h true (ap (λ b. b || nat_le k.limits.size (size h)) first ∙ test)

pub hard_not : (k : Kept) (h : History) (n : ℕ) → Serves k h → n ≡ k.size - k.point → n < k.limits.hard → k.size < k.limits.size → (let none : Option Refusal = None in none ≡ hard_fullness k.limits h)
hard_not k h n s is less room =
    let first : nat_le k.limits.hard (kept_count h) ≡ false = lt-leb k.limits.hard (kept_count h) (omega (arith, less, kept_is k h n s is)) in
    let test : nat_le k.limits.size (size h) ≡ false = lt-leb k.limits.size (size h) (omega (arith, room, s.stands.counts.size)) in
    hard_as k.limits h false (ap (λ b. b || nat_le k.limits.size (size h)) first ∙ test)

-- whether there is room for a new clue
abbrev NoRefusal : Option Refusal → Type 0
NoRefusal o = let none : Option Refusal = None in none ≡ o

clues_as : (l : Limits) (h : History) (clue : Digest) (b : Bool) → (not (is_no_clue clue) && length (jsns_with h clue) == 0 && nat_le l.clues (clue_count h)) ≡ b → cond b (Some CluesFull) None ≡ clues_full l h clue
unfolding clues_full
clues_as l h clue b is = sym (ap (λ v. cond v (Some CluesFull) None) is)

pub clue_none : (l : Limits) (h : History) (clue : Digest) → is_no_clue clue ≡ true → NoRefusal (clues_full l h clue)
clue_none l h clue is =
    clues_as l h clue false (and_left (not (is_no_clue clue) && length (jsns_with h clue) == 0) _ (and_left (not (is_no_clue clue)) _ (ap not is)))

pub clue_known : (l : Limits) (h : History) (clue : Digest) (n : ℕ) → n ≡ length (jsns_with h clue) + 1 → 1 < n → NoRefusal (clues_full l h clue)
clue_known l h clue n is more =
    let test : (length (jsns_with h clue) == 0) ≡ false = ne_eqb (length (jsns_with h clue)) 0 (λ none. let no : ⊥ = omega (arith, is, more, none) in no) in
    clues_as l h clue false (and_left (not (is_no_clue clue) && length (jsns_with h clue) == 0) _ (and_right (not (is_no_clue clue)) _ test))

pub clue_room : (limits : Limits) (k : Kept) (h : History) (clue : Digest) (n : ℕ) → Stands k h → ((a : Added) → index.StandsForTrails k.clues a → n ≡ length (different_clues a)) → n < limits.clues → NoRefusal (clues_full limits h clue)
clue_room limits k h clue n s told room =
    let is = told_clues k h n s told in
    clues_as limits h clue false (and_right (not (is_no_clue clue) && length (jsns_with h clue) == 0) _ (lt-leb limits.clues (clue_count h) (omega (arith, is, room))))

pub clue_full : (limits : Limits) (k : Kept) (h : History) (clue : Digest) (ordinal n : ℕ) → Stands k h → is_no_clue clue ≡ false → ordinal ≡ length (jsns_with h clue) + 1 → ordinal ≤ 1 → ((a : Added) → index.StandsForTrails k.clues a → n ≡ length (different_clues a)) → limits.clues ≤ n → Some CluesFull ≡ clues_full limits h clue
clue_full limits k h clue ordinal n s some next first told fullness =
    let is = told_clues k h n s told in
    let none : (length (jsns_with h clue) == 0) ≡ true = eq-eqb (length (jsns_with h clue)) 0 (omega (arith, next, first)) in
    let test : nat_le limits.clues (clue_count h) ≡ true = le-leb limits.clues (clue_count h) (omega (arith, is, fullness)) in
    clues_as limits h clue true (and_from _ _ (and_from _ _ (ap not some) none) test)

-- where the next journal stands among those of its clue
pub ordinal_none : (h : History) (clue : Digest) → is_no_clue clue ≡ true → 0 ≡ next_ordinal h clue
unfolding next_ordinal
ordinal_none h clue is = sym (ap (λ b. cond b 0 (length (jsns_with h clue) + 1)) is)

pub previous_none : (h : History) (clue : Digest) → is_no_clue clue ≡ true → 0 ≡ last_journal h clue
unfolding last_journal
previous_none h clue is = sym (ap (λ b. cond b 0 (last_of (jsns_with h clue))) is)

pub ordinal_some : (h : History) (clue : Digest) (n : ℕ) → is_no_clue clue ≡ false → n ≡ length (jsns_with h clue) + 1 → n ≡ next_ordinal h clue
unfolding next_ordinal
ordinal_some h clue n is told = told ∙ sym (ap (λ b. cond b 0 (length (jsns_with h clue) + 1)) is)

pub previous_some : (h : History) (clue : Digest) (n : ℕ) → is_no_clue clue ≡ false → n ≡ last_of (jsns_with h clue) → n ≡ last_journal h clue
unfolding last_journal
previous_some h clue n is told = told ∙ sym (ap (λ b. cond b 0 (last_of (jsns_with h clue))) is)

-- a clue whose next journal isn't its first needs no room
pub clue_old : (l : Limits) (h : History) (clue : Digest) (ordinal : ℕ) → ordinal ≡ next_ordinal h clue → ordinal ≢ 1 → clues_full l h clue ≡ None
clue_old l h clue ordinal is other = by_clue (is_no_clue clue) refl where
  by_clue : (b : Bool) → is_no_clue clue ≡ b → clues_full l h clue ≡ None
  by_clue true none = sym (clue_none l h clue none)
  by_clue false some =
      let next : ordinal ≡ length (jsns_with h clue) + 1 = is ∙ sym (ordinal_some h clue (length (jsns_with h clue) + 1) some refl) in
      sym (clue_known l h clue ordinal next (omega (arith, next, other)))

-- a clue whose next journal is its first is one
first_some : (h : History) (clue : Digest) (ordinal : ℕ) → ordinal ≡ next_ordinal h clue → ordinal ≡ 1 → is_no_clue clue ≡ false
first_some h clue ordinal is one = by_clue (is_no_clue clue) refl where
  by_clue : (b : Bool) → is_no_clue clue ≡ b → is_no_clue clue ≡ false
  by_clue true none = let no : ⊥ = omega (arith, is, one, ordinal_none h clue none) in absurd no
  by_clue false some = some

-- a new clue, where there are as many as there may be
pub clue_over : (limits : Limits) (k : Kept) (h : History) (clue : Digest) (ordinal n : ℕ) → Stands k h → ordinal ≡ next_ordinal h clue → ordinal ≡ 1 → ((a : Added) → index.StandsForTrails k.clues a → n ≡ length (different_clues a)) → limits.clues ≤ n → Some CluesFull ≡ clues_full limits h clue
clue_over limits k h clue ordinal n s is one told fullness =
    let some = first_some h clue ordinal is one in
    let next : ordinal ≡ length (jsns_with h clue) + 1 = is ∙ sym (ordinal_some h clue (length (jsns_with h clue) + 1) some refl) in
    clue_full limits k h clue ordinal n s some next (omega (arith, one)) told fullness

-- the first of some judgements, and where there is none the first of those behind them
first_then : (front behind : List (Option Refusal)) (result : Option Refusal) {P : Type 0} → (P → result ≡ first_refusal behind) → MatchOption (first_refusal front) P (λ refusal. result ≡ Some refusal) → result ≡ first_refusal (front ++ behind)
first_then [] behind result told is = told is
first_then (Some refusal ∷ front) behind result told is = is
first_then (None ∷ front) behind result told is = first_then front behind result told is

pub or_else_then : (front behind : List (Option Refusal)) (got result : Option Refusal) {P : Type 0} → got ≡ first_refusal front → (P → result ≡ first_refusal behind) → MatchOption got P (λ refusal. result ≡ Some refusal) → result ≡ first_refusal (front ++ behind)
or_else_then front behind got result {P} first told is = first_then front behind result told (subst (λ (o : Option Refusal). MatchOption o P (λ refusal. result ≡ Some refusal)) first is)

-- no judgement before or behind these
pub refused_before : (front behind : List (Option Refusal)) (r : Refusal) → Some r ≡ first_refusal front → Some r ≡ first_refusal (front ++ behind)
refused_before front behind r is = first_then front behind (Some r) absurd (subst (λ (o : Option Refusal). MatchOption o ⊥ (λ refusal. Some r ≡ Some refusal)) is refl)

pub passed_before : (front behind : List (Option Refusal)) (result : Option Refusal) → NoRefusal (first_refusal front) → result ≡ first_refusal behind → result ≡ first_refusal (front ++ behind)
passed_before front behind result none told = first_then front behind result {P = Unit {0}} (λ _. told) (subst (λ (o : Option Refusal). MatchOption o (Unit {0}) (λ refusal. result ≡ Some refusal)) none tt)

pub first_one : (c : Option Refusal) → c ≡ first_refusal (c ∷ [])
first_one (Some r) = refl
first_one None = refl

-- member 0 is known
one_known : (known : List (List ℕ)) (w : Option Refusal) → 2 ≤ length known → first_refusal (unknown_in known 0 ∷ w ∷ []) ≡ first_refusal (w ∷ [])
one_known [] w some = absurd (omega (arith, some))
one_known (key ∷ known) w some = ap (λ b. first_refusal (cond b None (Some (UnknownMember 0)) ∷ w ∷ [])) (lt-ltb 0 (length (key ∷ known)) (omega arith))

two_members : (h : History) → AreLawful (journals h) → 2 ≤ length (keys h)
unfolding members
two_members h lawful = omega (arith, (lawful_members (journals h) lawful).0, length-map (members h) (λ (m : Member). m.key.0))

pub operator_known : (h : History) (w : Option Refusal) → AreLawful (journals h) → first_refusal (unknown_in (keys h) 0 ∷ w ∷ []) ≡ first_refusal (w ∷ [])
operator_known h w lawful = one_known (keys h) w (two_members h lawful)

-- numbers from the point on, among those from the floor on
above : (floor point : ℕ) (ns : List ℕ) → floor ≤ point → filter (λ n. nat_le point n) (filter (λ n. nat_le floor n) ns) ≡ filter (λ n. nat_le point n) ns
above floor point [] low = refl
above floor point (n ∷ ns) low =
    let rest = above floor point ns low in
    elim (nat_le point n) as (λ high. nat_le point n ≡ high → filter (λ m. nat_le point m) (cond (nat_le floor n) (n ∷ filter (λ m. nat_le floor m) ns) (filter (λ m. nat_le floor m) ns)) ≡ cond high (n ∷ filter (λ m. nat_le point m) ns) (filter (λ m. nat_le point m) ns)) [
      | true ↦ λ e.
          let above : nat_le floor n ≡ true = le-leb floor n (omega (arith, low, leb-true point n e)) in
          ap (λ b. filter (λ m. nat_le point m) (cond b (n ∷ filter (λ m. nat_le floor m) ns) (filter (λ m. nat_le floor m) ns))) above
          ∙ ap (λ b. cond b (n ∷ filter (λ m. nat_le point m) (filter (λ m. nat_le floor m) ns)) (filter (λ m. nat_le point m) (filter (λ m. nat_le floor m) ns))) e ∙ ap (λ ms. n ∷ ms) rest
      | false ↦ λ e.
          elim (nat_le floor n) as (λ b. filter (λ m. nat_le point m) (cond b (n ∷ filter (λ m. nat_le floor m) ns) (filter (λ m. nat_le floor m) ns)) ≡ filter (λ m. nat_le point m) ns) [
            | true ↦ ap (λ b. cond b (n ∷ filter (λ m. nat_le point m) (filter (λ m. nat_le floor m) ns)) (filter (λ m. nat_le point m) (filter (λ m. nat_le floor m) ns))) e ∙ rest
            | false ↦ rest
          ]
    ] refl

-- which journals of a clue are kept
pub told_from_point : (k : Kept) (h : History) (clue : Digest) (ns : List ℕ) → Serves k h
    → ((a : Added) → index.StandsForTrails k.clues a → ns ≡ kept_from a.floor (trail_of a clue.0)) → filter (λ n. nat_le k.point n) ns ≡ kept_with h clue
told_from_point k h clue ns s told =
    ap (filter (λ n. nat_le k.point n)) (told_kept k h clue ns s.stands told) ∙ above k.floor k.point (jsns_with h clue) s.seen
    ∙ ap (λ p. filter (λ n. nat_le p n) (jsns_with h clue)) (point_is k h s)
