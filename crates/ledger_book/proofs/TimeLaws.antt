-- Lemmas on the marks of a history's time journals.
use Rattle.std.proofs.Common.{◌≡◌, ℕ, zero, suc, ◌+◌, ◌<◌, ◌≤◌, Bool, true, false, cond, List, [], ◌∷◌, ◌++◌, length, map, drop, refl, ap, sym, subst, ◌∙◌, arith, append-nil, length-append, length-drop}
use Rattle.std.specs.Prelude.{filter, max, nat_le}
use Rattle.std.specs.List.{fold, AllByRecursion}
use Rattle.std.specs.Option.{option_map}
use Rattle.std.proofs.lemmas.Bool.{le-leb, lt-leb, leb-false}
use Rattle.std.proofs.lemmas.List.{map-append, drop-append-le}
use Rattle.std.proofs.lemmas.List.Elements.{filter-append}
use Rattle.std.proofs.lemmas.List.Sums.{fold-append}
use Rattle.ledger_bytes.specs.declared.mark.TimeMark.{TimeMark}
use Rattle.journal_record.specs.Entry.{Entry}
use Rattle.journal_record.specs.declared.header.Header.{Header}
use Rattle.journal_record.specs.declared.header.Kind.{Kind}
use Rattle.journal_record.specs.declared.header.Kind.TheVariants as kind
use Rattle.proof_codec.specs.Claims.{mark_of}
use Rattle.proof_codec.specs.Reading.{is_time}
use Rattle.time_peg.specs.Times.{marks_from, lower_bound, upper_bound}
use Rattle.ledger_model.specs.Bounds.{marks_of, time_marks, lower_journal, upper_journal}
use Rattle.ledger_model.specs.History as model
use Rattle.ledger_model.specs.History.{History, history, journals, journals_of, is_purge, purge_point, greatest_point}
use Rattle.ledger_model.specs.Lawful.{IsNextOf}
use Rattle.ledger_model.proofs.BoundLaws.{later_marks_same, lower_mark_is, upper_mark_is}
use Rattle.ledger_model.proofs.LawfulLaws.{AreFrom, lawful_from, point_below, some_journal}
use Rattle.ledger_book.specs.Books.{Kept, Stands, Serves}
use Rattle.ledger_book.specs.Steps.{MayPlace, point_with, with_time_of}

-- journals from a later one on have their numbers
pub from_later : (m f n : ℕ) (es : List Entry) → AreFrom m es → m + f ≡ n → AreFrom n (drop f es)
from_later m zero n es from at = subst (λ l. AreFrom l es) (omega (arith, at)) from
from_later m (suc f) n [] from at = tt
from_later m (suc f) n (e ∷ es) from at = from_later (m + 1) f n es from.2 (omega (arith, at))

-- the point as far as it is seen is below the size
pub point_low : (k : Kept) (h : History) → Stands k h → k.point < model.size h
unfolding model.seen_point
point_low k h s =
    let es = journals h in
    let low : k.floor ≤ length es = omega (arith, s.counts.floor, length-append (journals_of h.closed) h.waiting) in
    let below = point_below (length es) k.floor 0 (drop k.floor es) (from_later 0 k.floor k.floor es (lawful_from es s.lawful) (omega arith)) (omega (arith, length-drop k.floor es, low)) (some_journal es s.lawful) in
    subst (λ n. n < length es) (sym s.counts.point) below

-- the greatest point with a journal more
pub points_more : (es : List Entry) (j : Entry) → greatest_point (es ++ j ∷ []) ≡ max (greatest_point es) (purge_point j)
points_more es j = ap (fold max 0) (map-append purge_point es (j ∷ [])) ∙ fold-append max 0 (map purge_point es) (purge_point j ∷ [])

fold_grows : (a b : ℕ) (ns : List ℕ) → a ≤ b → fold max a ns ≤ fold max b ns
fold_grows a b [] le = le
fold_grows a b (n ∷ ns) le = fold_grows (max a n) (max b n) ns (omega (arith, le))

pub drop_points : (n : ℕ) (es : List Entry) → greatest_point (drop n es) ≤ greatest_point es
drop_points zero es = omega arith
drop_points (suc n) [] = omega arith
drop_points (suc n) (e ∷ es) = omega (arith, drop_points n es, fold_grows 0 (max 0 (purge_point e)) (map purge_point es) (omega arith))

-- the point as far as it is seen isn't above the point
pub seen_low : (k : Kept) (h : History) → Stands k h → k.point ≤ greatest_point (journals h)
unfolding model.seen_point
seen_low k h s = omega (arith, s.counts.point, drop_points k.floor (journals h))

-- it goes on to a purge's own point
risen : (h : History) (x : Header) (p : ℕ) (k : Kind) → p ≤ greatest_point (journals h) → IsNextOf (history [] (journals h)) x k → cond (is_purge k) x.a p ≡ max p (cond (is_purge k) x.a 0)
unfolding model.point
risen h x p kind.Genesis le own = omega arith
risen h x p kind.Content le own = omega arith
risen h x p kind.Member le own = omega arith
risen h x p kind.Time le own = omega arith
risen h x p kind.Occult le own = omega arith
risen h x p kind.ClueOccult le own = omega arith
risen h x p kind.Purge le own = let above : greatest_point (journals h) < x.a = own.above in omega (arith, le, above)

pub point_more : (k : Kept) (h : History) (j : Entry) → Stands k h → MayPlace h j.header → point_with j.header k.point ≡ greatest_point (drop k.floor (journals h) ++ j ∷ [])
unfolding model.seen_point
point_more k h j s next =
    risen h j.header k.point j.header.kind (seen_low k h s) next.own ∙ ap (λ p. max p (purge_point j)) s.counts.point ∙ sym (points_more (drop k.floor (journals h)) j)

-- marks that are kept twice are kept from the later number on
kept_again : (p q : ℕ) (ms : List TimeMark) → p ≤ q → marks_from q (marks_from p ms) ≡ marks_from q ms
kept_again p q [] le = refl
kept_again p q (m ∷ ms) le = elim (nat_le p m.jsn) as (λ v. nat_le p m.jsn ≡ v → marks_from q (cond v (m ∷ marks_from p ms) (marks_from p ms)) ≡ cond (nat_le q m.jsn) (m ∷ marks_from q ms) (marks_from q ms)) [
  | true ↦ λ is. ap (λ l. cond (nat_le q m.jsn) (m ∷ l) l) (kept_again p q ms le)
  | false ↦ λ is. kept_again p q ms le ∙ ap (λ v. cond v (m ∷ marks_from q ms) (marks_from q ms)) (sym (lt-leb q m.jsn (omega (arith, le, leb-false p m.jsn is))))
] refl

-- the marks with a journal more
marks_more : (p : ℕ) (es : List Entry) (j : Entry) → p ≤ j.header.jsn
    → marks_from p (marks_of (es ++ j ∷ [])) ≡ cond (is_time j.header.kind) (marks_from p (marks_of es) ++ record { jsn = j.header.jsn; index = j.header.a; time = j.header.b } ∷ []) (marks_from p (marks_of es))
marks_more p es j low =
    let timed : Entry → Bool = λ e. is_time e.header.kind in
    let mark : Entry → TimeMark = λ e. mark_of e.header in
    let kept : TimeMark → Bool = λ m. nat_le p m.jsn in
    let ms = marks_of es in
    let parts : marks_of (es ++ j ∷ []) ≡ ms ++ map mark (cond (timed j) (j ∷ []) []) = ap (map mark) (filter-append timed es (j ∷ [])) ∙ map-append mark (filter timed es) (cond (timed j) (j ∷ []) []) in
    let one : filter kept (mark j ∷ []) ≡ mark j ∷ [] = ap (λ b. cond b (mark j ∷ []) []) (le-leb p j.header.jsn low) in
    ap (marks_from p) parts ∙ filter-append kept ms (map mark (cond (timed j) (j ∷ []) []))
    ∙ elim (timed j) as (λ v. marks_from p ms ++ filter kept (map mark (cond v (j ∷ []) [])) ≡ cond v (marks_from p ms ++ mark j ∷ []) (marks_from p ms)) [
      | true ↦ ap (λ x. marks_from p ms ++ x) one
      | false ↦ append-nil (marks_from p ms)
    ]

-- the times with a journal more, by its kind
times_by : (h : History) (x : Header) (n p : ℕ) (k : Kind) (ms : List TimeMark) → p ≤ greatest_point (journals h) → IsNextOf (history [] (journals h)) x k → (new : List TimeMark)
    → marks_from (cond (is_purge k) x.a p) new ≡ cond (is_time k) (marks_from (cond (is_purge k) x.a p) ms ++ record { jsn = n; index = x.a; time = x.b } ∷ []) (marks_from (cond (is_purge k) x.a p) ms)
    → cond (is_time k) (marks_from p ms ++ record { jsn = n; index = x.a; time = x.b } ∷ []) (cond (is_purge k) (marks_from x.a (marks_from p ms)) (marks_from p ms)) ≡ marks_from (cond (is_purge k) x.a p) new
unfolding model.point
times_by h x n p kind.Genesis ms le own new is = sym is
times_by h x n p kind.Content ms le own new is = sym is
times_by h x n p kind.Member ms le own new is = sym is
times_by h x n p kind.Time ms le own new is = sym is
times_by h x n p kind.Occult ms le own new is = sym is
times_by h x n p kind.ClueOccult ms le own new is = sym is
times_by h x n p kind.Purge ms le own new is = let above : greatest_point (journals h) < x.a = own.above in kept_again p x.a ms (omega (arith, le, above)) ∙ sym is

-- the kept marks are below the next number
pub all_below : (n : ℕ) (ms : List TimeMark) → AllByRecursion (λ m. m.jsn < n) ms → AllByRecursion (λ m. m.jsn < n + 1) ms
all_below n [] all = tt
all_below n (m ∷ ms) all = (omega (arith, all.0), all_below n ms all.1)

pub all_kept : (p n : ℕ) (ms : List TimeMark) → AllByRecursion (λ x. x.jsn < n) ms → AllByRecursion (λ x. x.jsn < n + 1) (marks_from p ms)
all_kept p n [] all = tt
all_kept p n (m ∷ ms) all = elim (nat_le p m.jsn) as (λ v. AllByRecursion (λ x. x.jsn < n + 1) (cond v (m ∷ marks_from p ms) (marks_from p ms))) [
  | true ↦ (omega (arith, all.0), all_kept p n ms all.1)
  | false ↦ all_kept p n ms all.1
]

-- the point is below the next number
risen_below : (h : History) (x : Header) (p : ℕ) (k : Kind) → p < model.size h → IsNextOf (history [] (journals h)) x k → cond (is_purge k) x.a p < model.size h
risen_below h x p kind.Genesis lt own = lt
risen_below h x p kind.Content lt own = lt
risen_below h x p kind.Member lt own = lt
risen_below h x p kind.Time lt own = lt
risen_below h x p kind.Occult lt own = lt
risen_below h x p kind.ClueOccult lt own = lt
risen_below h x p kind.Purge lt own = own.before

pub times_more : (k : Kept) (h : History) (j : Entry) → Stands k h → MayPlace h j.header → with_time_of k.size j.header k.times ≡ marks_from (point_with j.header k.point) (marks_of (drop k.floor (journals h ++ j ∷ [])))
times_more k h j s next =
    let es = journals h in
    let x = j.header in
    let ms = marks_of (drop k.floor es) in
    let low : k.floor ≤ length es = omega (arith, s.counts.floor, length-append (journals_of h.closed) h.waiting) in
    let below = risen_below h x k.point x.kind (point_low k h s) next.own in
    let new : List TimeMark = marks_of (drop k.floor es ++ j ∷ []) in
    ap (λ n. with_time_of n x k.times) (s.counts.size ∙ sym next.jsn) ∙ ap (with_time_of x.jsn x) s.times
    ∙ times_by h x x.jsn k.point x.kind ms (seen_low k h s) next.own new (marks_more (point_with x k.point) (drop k.floor es) j (omega (arith, next.jsn, below)))
    ∙ sym (ap (λ (l : List Entry). marks_from (point_with x k.point) (marks_of l)) (drop-append-le k.floor es (j ∷ []) low))

-- the kept marks are those of the time journals that are kept, and their bounds are those of the journals
pub marks_told : (k : Kept) (h : History) → Serves k h → k.point ≡ model.point h → k.times ≡ time_marks h
marks_told k h s at =
    s.stands.times ∙ later_marks_same k.floor 0 k.point (journals h) (lawful_from (journals h) s.stands.lawful) (let low : 0 + k.floor ≤ k.point = omega (arith, s.seen) in low)
    ∙ ap (λ p. marks_from p (marks_of (journals h))) at

pub lower_told : (k : Kept) (h : History) (n : ℕ) → Serves k h → k.point ≡ model.point h → lower_bound n k.times ≡ option_map (λ (e : Entry). mark_of e.header) (lower_journal h n)
lower_told k h n s at = ap (lower_bound n) (marks_told k h s at) ∙ sym (lower_mark_is h s.stands.lawful n)

pub upper_told : (k : Kept) (h : History) (n : ℕ) → Serves k h → k.point ≡ model.point h → upper_bound n k.times ≡ option_map (λ (e : Entry). mark_of e.header) (upper_journal h n)
upper_told k h n s at = ap (upper_bound n) (marks_told k h s at) ∙ sym (upper_mark_is h s.stands.lawful n)
