-- The records of a clue follow one another.
use Rattle.std.proofs.Common.{◌≡◌, ℕ, zero, suc, ◌+◌, ◌-◌, ◌<◌, ◌≤◌, Bool, true, false, cond, List, [], ◌∷◌, ◌++◌, length, map, take, drop, inl, inr, refl, sym, ap, subst, ◌∙◌, arith, append-nil, append_assoc}
use Rattle.std.specs.Prelude.{filter, nat_le, nat_lt, not, ⊤, ◌&&◌, ◌==◌, bytes_eq, IsTrue}
use Rattle.std.proofs.lemmas.Bool.{cases_Bool, leb-true, leb-false, le-leb, ltb-true, eqb-true, true≢false, and_parts}
use Rattle.std.proofs.lemmas.List.{length-map, drop_all}
use Rattle.std.proofs.lemmas.List.Elements.{filter-append}
use Rattle.ledger_bytes.specs.declared.digest.Digest.{Digest}
use Rattle.audit_core.proofs.RootLaws.{same_digest}
use Rattle.journal_record.specs.Entry.{Entry}
use Rattle.journal_record.specs.Rules.{is_no_clue, clue_ok, clue_prev_ok}
use Rattle.journal_record.specs.declared.header.Header.{Header}
use Rattle.journal_record.specs.declared.header.Kind.{Kind}
use Rattle.journal_record.specs.declared.header.Kind.TheVariants as kind
use Rattle.ledger_model.specs.Clues.{has_clue, is_of_clue, numbers_of, jsns_with, last_of, next_ordinal, last_journal}
use Rattle.ledger_model.specs.History.{history}
use Rattle.ledger_model.specs.Lawful.{IsNext, IsNextOf, AreNext, AreLawful}

-- records whose ordinals count up from n, each naming the number of the one before, and the first this number
abbrev pub Chain : ℕ → ℕ → List Entry → Type 0
Chain n prev [] = ⊤
Chain n prev (e ∷ es) = (e.header.clue_ord ≡ n) × (e.header.clue_prev ≡ prev) × (prev ≤ e.header.jsn) × Chain (n + 1) e.header.jsn es

-- the number of the last of some records, behind one with this number
abbrev last_jsn : ℕ → List Entry → ℕ
last_jsn prev [] = prev
last_jsn prev (e ∷ es) = last_jsn e.header.jsn es

-- a record more
chain_more : (n prev : ℕ) (es : List Entry) (e : Entry) → Chain n prev es → e.header.clue_ord ≡ n + length es → e.header.clue_prev ≡ last_jsn prev es → last_jsn prev es ≤ e.header.jsn → Chain n prev (es ++ e ∷ [])
chain_more n prev [] e chain ordinal previous above = (omega (arith, ordinal), previous, above, tt)
chain_more n prev (x ∷ es) e chain ordinal previous above =
    (chain.0, chain.1, chain.2, chain_more (n + 1) x.header.jsn es e chain.3 (omega (arith, ordinal)) previous above)

last_is : (es : List Entry) → last_of (map (λ (e : Entry). e.header.jsn) es) ≡ last_jsn 0 es
last_is [] = refl
last_is (e ∷ []) = refl
last_is (e ∷ x ∷ es) = last_is (x ∷ es)

-- records behind some of them
pub chain_drop : (k n prev : ℕ) (es : List Entry) → Chain n prev es → (before : ℕ) × Chain (n + k) before (drop k es)
chain_drop zero n prev es chain = (prev, subst (λ m. Chain m prev es) (omega arith) chain)
chain_drop (suc k) n prev [] chain = (prev, tt)
chain_drop (suc k) n prev (e ∷ es) chain =
    let rest = chain_drop k (n + 1) e.header.jsn es chain.3 in
    (rest.0, subst (λ m. Chain m rest.0 (drop k es)) (omega arith) rest.1)

pub chain_take : (k n prev : ℕ) (es : List Entry) → Chain n prev es → Chain n prev (take k es)
chain_take zero n prev es chain = tt
chain_take (suc k) n prev [] chain = tt
chain_take (suc k) n prev (e ∷ es) chain = (chain.0, chain.1, chain.2, chain_take k (n + 1) e.header.jsn es chain.3)

-- ---- those from a number on, and from an ordinal on

abbrev from_number : ℕ → Entry → Bool
from_number p e = nat_le p e.header.jsn

abbrev from_ordinal : ℕ → Entry → Bool
from_ordinal m e = nat_le m e.header.clue_ord

all_behind : (p n prev : ℕ) (es : List Entry) → Chain n prev es → p ≤ prev → filter (from_number p) es ≡ es
all_behind p n prev [] chain above = refl
all_behind p n prev (e ∷ es) chain above =
    rw (le-leb p e.header.jsn (omega (arith, above, chain.2))) (ap (λ rest. e ∷ rest) (all_behind p (n + 1) e.header.jsn es chain.3 (omega (arith, above, chain.2))))

-- records from a number on are those behind some first ones
pub record IsBehind (test : Entry → Bool) (es : List Entry) : Type 0 where
  pub count : ℕ
  pub is : filter test es ≡ drop count es
  pub counted : count + length (filter test es) ≡ length es

pub numbers_behind : (p n prev : ℕ) (es : List Entry) → Chain n prev es → IsBehind (from_number p) es
numbers_behind p n prev [] chain = record { count = 0; is = refl; counted = refl }
numbers_behind p n prev (e ∷ es) chain = elim (cases_Bool (from_number p e)) [
  | inl one ↦
      let all : filter (from_number p) (e ∷ es) ≡ e ∷ es = rw one (ap (λ rest. e ∷ rest) (all_behind p (n + 1) e.header.jsn es chain.3 (leb-true p e.header.jsn one))) in
      record { count = 0; is = all; counted = omega (arith, ap length all) }
  | inr none ↦
      let rest = numbers_behind p (n + 1) e.header.jsn es chain.3 in
      let left : filter (from_number p) (e ∷ es) ≡ filter (from_number p) es = rw none refl in
      record { count = suc rest.count; is = left ∙ rest.is; counted = omega (arith, ap length left, rest.counted) }
]

all_ordinals : (m n prev : ℕ) (es : List Entry) → Chain n prev es → m ≤ n → filter (from_ordinal m) es ≡ es
all_ordinals m n prev [] chain above = refl
all_ordinals m n prev (e ∷ es) chain above =
    rw (le-leb m e.header.clue_ord (omega (arith, above, chain.0))) (ap (λ rest. e ∷ rest) (all_ordinals m (n + 1) e.header.jsn es chain.3 (omega (arith, above))))

pub ordinals_behind : (m n prev : ℕ) (es : List Entry) → Chain n prev es → filter (from_ordinal m) es ≡ drop (m - n) es
ordinals_behind m n prev [] chain = sym (drop_all (m - n) [] (omega arith))
ordinals_behind m n prev (e ∷ es) chain = elim (cases_Bool (from_ordinal m e)) [
  | inl one ↦
      let low : m ≤ n = omega (arith, leb-true m e.header.clue_ord one, chain.0) in
      let none : m - n ≡ 0 = omega (arith, low) in
      all_ordinals m n prev (e ∷ es) chain low ∙ ap (λ k. drop k (e ∷ es)) (sym none)
  | inr other ↦
      let high : n < m = omega (arith, leb-false m e.header.clue_ord other, chain.0) in
      let one : m - n ≡ suc (m - (n + 1)) = omega (arith, high) in
      let left : filter (from_ordinal m) (e ∷ es) ≡ filter (from_ordinal m) es = rw other refl in
      left ∙ ordinals_behind m (n + 1) e.header.jsn es chain.3 ∙ ap (λ k. drop k (e ∷ es)) (sym one)
]

-- ---- a lawful history

not_so : (b : Bool) → not b ≡ true → b ≡ false
not_so true e = absurd cc
not_so false e = refl

-- only a record has a clue
pub clued_is_record : (k : Kind) (clue : Digest) → is_no_clue clue ≡ false → IsTrue (clue_ok k clue) → k ≡ kind.Content
clued_is_record kind.Content clue has ok = refl
clued_is_record kind.Genesis clue has ok = absurd (true≢false (sym ok ∙ has))
clued_is_record kind.Member clue has ok = absurd (true≢false (sym ok ∙ has))
clued_is_record kind.Time clue has ok = absurd (true≢false (sym ok ∙ has))
clued_is_record kind.Occult clue has ok = absurd (true≢false (sym ok ∙ has))
clued_is_record kind.Purge clue has ok = absurd (true≢false (sym ok ∙ has))
clued_is_record kind.ClueOccult clue has ok = absurd (true≢false (sym ok ∙ has))

-- the numbers of a record that has a clue
pub record_numbers : (before : List Entry) (x : Header) (k : Kind) → x.kind ≡ k → is_no_clue x.clue ≡ false → IsTrue (clue_ok k x.clue) → IsNextOf (history [] before) x k
    → (x.clue_ord ≡ length (numbers_of x.clue before) + 1) × (x.clue_prev ≡ last_of (numbers_of x.clue before))
unfolding next_ordinal last_journal jsns_with
record_numbers before x kind.Content is has ok own =
    (own.clue_ord ∙ ap (λ b. cond b 0 (length (numbers_of x.clue before) + 1)) has, own.clue_prev ∙ ap (λ b. cond b 0 (last_of (numbers_of x.clue before))) has)
record_numbers before x kind.Genesis is has ok own = absurd (true≢false (sym ok ∙ has))
record_numbers before x kind.Member is has ok own = absurd (true≢false (sym ok ∙ has))
record_numbers before x kind.Time is has ok own = absurd (true≢false (sym ok ∙ has))
record_numbers before x kind.Occult is has ok own = absurd (true≢false (sym ok ∙ has))
record_numbers before x kind.Purge is has ok own = absurd (true≢false (sym ok ∙ has))
record_numbers before x kind.ClueOccult is has ok own = absurd (true≢false (sym ok ∙ has))

-- a record lies behind the one that it names
above_previous : (jsn ordinal previous : ℕ) → IsTrue (clue_prev_ok jsn ordinal previous) → previous ≤ jsn
above_previous jsn ordinal previous ok = elim (cases_Bool (nat_le ordinal 1)) [
  | inl one ↦
      let none : (previous == 0) ≡ true = ap (λ b. cond b (previous == 0) (nat_lt 0 previous && nat_lt previous jsn)) (sym one) ∙ ok in
      omega (arith, eqb-true previous 0 none)
  | inr more ↦
      let both = and_parts (nat_lt 0 previous) (nat_lt previous jsn) (ap (λ b. cond b (previous == 0) (nat_lt 0 previous && nat_lt previous jsn)) (sym more) ∙ ok) in
      omega (arith, ltb-true previous jsn both.1)
]

module _ (clue : Digest) where
  taken : (es : List Entry) (e : Entry) → is_of_clue clue e ≡ true → filter (is_of_clue clue) (es ++ e ∷ []) ≡ filter (is_of_clue clue) es ++ e ∷ []
  taken es e is = filter-append (is_of_clue clue) es (e ∷ []) ∙ ap (λ b. filter (is_of_clue clue) es ++ cond b (e ∷ []) []) is

  left : (es : List Entry) (e : Entry) → is_of_clue clue e ≡ false → filter (is_of_clue clue) (es ++ e ∷ []) ≡ filter (is_of_clue clue) es
  left es e is = filter-append (is_of_clue clue) es (e ∷ []) ∙ ap (λ b. filter (is_of_clue clue) es ++ cond b (e ∷ []) []) is ∙ append-nil (filter (is_of_clue clue) es)

  pub own_clue : (e : Entry) → is_of_clue clue e ≡ true → (e.header.clue ≡ clue) × (is_no_clue clue ≡ false)
  own_clue e is =
      let both = and_parts (has_clue e) (bytes_eq clue.0 e.header.clue.0) is in
      let same : e.header.clue ≡ clue = sym (same_digest clue e.header.clue both.1) in
      (same, ap is_no_clue (sym same) ∙ not_so (is_no_clue e.header.clue) both.0)

  one_more : (before : List Entry) (e : Entry) → is_of_clue clue e ≡ true → IsNext (history [] before) e.header → Chain 1 0 (filter (is_of_clue clue) before) → Chain 1 0 (filter (is_of_clue clue) before ++ e ∷ [])
  one_more before e is next chain =
      let own = own_clue e is in
      let numbers = record_numbers before e.header e.header.kind refl (ap is_no_clue own.0 ∙ own.1) next.layout.clue next.own in
      let same : numbers_of e.header.clue before ≡ numbers_of clue before = ap (λ (d : Digest). numbers_of d before) own.0 in
      let previous : e.header.clue_prev ≡ last_jsn 0 (filter (is_of_clue clue) before) = numbers.1 ∙ ap last_of same ∙ last_is (filter (is_of_clue clue) before) in
      chain_more 1 0 (filter (is_of_clue clue) before) e chain
      (omega (arith, numbers.0, ap length same, length-map (filter (is_of_clue clue) before) (λ (j : Entry). j.header.jsn))) previous
      (omega (arith, previous, above_previous e.header.jsn e.header.clue_ord e.header.clue_prev next.layout.clue_prev))

  pub chained : (before es : List Entry) → AreNext before es → Chain 1 0 (filter (is_of_clue clue) before) → Chain 1 0 (filter (is_of_clue clue) (before ++ es))
  chained before [] next chain = subst (λ (l : List Entry). Chain 1 0 (filter (is_of_clue clue) l)) (sym (append-nil before)) chain
  chained before (e ∷ es) next chain =
      let now : Chain 1 0 (filter (is_of_clue clue) (before ++ e ∷ [])) = elim (cases_Bool (is_of_clue clue e)) [
        | inl is ↦ subst (λ (l : List Entry). Chain 1 0 l) (sym (taken before e is)) (one_more before e is next.0 chain)
        | inr other ↦ subst (λ (l : List Entry). Chain 1 0 l) (sym (left before e other)) chain
      ] in
      subst (λ (l : List Entry). Chain 1 0 (filter (is_of_clue clue) l)) (append_assoc before (e ∷ []) es) (chained (before ++ e ∷ []) es next.1 now)

  pub lawful_chain : (es : List Entry) → AreLawful es → Chain 1 0 (filter (is_of_clue clue) es)
  lawful_chain es lawful = chained [] es lawful.next tt
