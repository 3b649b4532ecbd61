-- The point of a history: it is a time journal, and a block begins there.
use Rattle.std.specs.List.{list_all}
use Rattle.std.specs.Prelude.{All, get_or, nat_lt, max, zero, suc}
use Rattle.std.proofs.Common.{◌≡◌, ◌⊎◌, inl, inr, ℕ, ◌-◌, ◌<◌, Bool, true, false, cond, List, [], ◌∷◌, ◌++◌, length, map, take, drop, refl, sym, ◌∙◌, ap, subst, arith, append-nil, append_assoc, length-append}
use Rattle.std.proofs.lemmas.Bool.{ltb-true, ltb-false, true≢false, and_parts}
use Rattle.std.proofs.lemmas.List.{map-append, length-map, take-append-drop, get_or_append_left, get_or-append_right}
use Rattle.std.proofs.lemmas.List.Elements.{All-head, All-tail}
use Rattle.journal_record.specs.Entry.{Entry}
use Rattle.journal_record.specs.declared.header.Kind.{Kind}
use Rattle.journal_record.specs.declared.header.Kind.TheVariants as kind
use Rattle.ledger_model.specs.History.{History, history, journals, journals_of, size, point, is_purge, purge_point, greatest_point}
use Rattle.ledger_model.specs.Lawful.{IsNextOf, AreNext, AreLawful, IsBlock, AllGather, gathers, IsLawful}
use Rattle.ledger_model.proofs.LawfulLaws.{lawful_from, point_below, two_points, some_journal}

-- the point, and that of fewer journals, lie below the size
pub points_few : (h : History) (n : ℕ) → AreLawful (journals h) → (point h < size h) × (greatest_point (take n (journals h)) < size h)
unfolding point
points_few h n lawful =
    let all : greatest_point (journals h) < size h = point_below (size h) 0 0 (journals h) (lawful_from (journals h) lawful) (omega arith) (omega (arith, some_journal (journals h) lawful)) in
    let parts : greatest_point (journals h) ≡ max (greatest_point (take n (journals h))) (greatest_point (drop n (journals h))) =
    ap greatest_point (sym (take-append-drop n (journals h))) ∙ two_points (take n (journals h)) (drop n (journals h)) in
    (all, omega (arith, all, parts))

-- ---- it is a time journal

-- the kinds of journals
abbrev pub kinds : List Entry → List Kind
kinds es = map (λ (e : Entry). e.header.kind) es

abbrev HasTime : List Entry → Type 0
HasTime es = (greatest_point es ≡ 0) ⊎ ((greatest_point es < length es) × (get_or (kinds es) (greatest_point es) kind.Genesis ≡ kind.Time))

kinds_more : (es fs : List Entry) (n : ℕ) → n < length es → get_or (kinds (es ++ fs)) n kind.Genesis ≡ get_or (kinds es) n kind.Genesis
kinds_more es fs n lt =
    ap (λ (l : List Kind). get_or l n kind.Genesis) (map-append (λ (e : Entry). e.header.kind) es fs) ∙ get_or_append_left (kinds es) (kinds fs) kind.Genesis n (omega (arith, lt, length-map es (λ (e : Entry). e.header.kind)))

time_at : (es fs : List Entry) (n : ℕ) → greatest_point (es ++ fs) ≡ n → n < length es → get_or (kinds es) n kind.Genesis ≡ kind.Time → HasTime (es ++ fs)
time_at es fs n same lt is =
    inr (omega (arith, same, lt, length-append es fs), ap (λ k. get_or (kinds (es ++ fs)) k kind.Genesis) same ∙ kinds_more es fs n lt ∙ is)

same_step : (before : List Entry) (e : Entry) → purge_point e ≡ 0 → HasTime before → HasTime (before ++ e ∷ [])
same_step before e none has = by_time has where
  same : greatest_point (before ++ e ∷ []) ≡ greatest_point before
  same = two_points before (e ∷ []) ∙ ap (λ n. max (greatest_point before) (max 0 n)) none ∙ omega arith

  by_time : HasTime before → HasTime (before ++ e ∷ [])
  by_time (inl none_yet) = inl (same ∙ none_yet)
  by_time (inr at) = time_at before (e ∷ []) (greatest_point before) same at.0 at.1

time_step : (before : List Entry) (e : Entry) (k : Kind) → e.header.kind ≡ k → IsNextOf (history [] before) e.header k → HasTime before → HasTime (before ++ e ∷ [])
unfolding point
time_step before e kind.Purge is own has =
    let same : greatest_point (before ++ e ∷ []) ≡ e.header.a = two_points before (e ∷ []) ∙ ap (λ (x : Kind). max (greatest_point before) (max 0 (cond (is_purge x) e.header.a 0))) is ∙ omega (arith, own.above) in
    time_at before (e ∷ []) e.header.a same own.before own.target_is
time_step before e kind.Genesis is own has = same_step before e (ap (λ (x : Kind). cond (is_purge x) e.header.a 0) is) has
time_step before e kind.Content is own has = same_step before e (ap (λ (x : Kind). cond (is_purge x) e.header.a 0) is) has
time_step before e kind.Member is own has = same_step before e (ap (λ (x : Kind). cond (is_purge x) e.header.a 0) is) has
time_step before e kind.Time is own has = same_step before e (ap (λ (x : Kind). cond (is_purge x) e.header.a 0) is) has
time_step before e kind.Occult is own has = same_step before e (ap (λ (x : Kind). cond (is_purge x) e.header.a 0) is) has
time_step before e kind.ClueOccult is own has = same_step before e (ap (λ (x : Kind). cond (is_purge x) e.header.a 0) is) has

time_more : (before es : List Entry) → AreNext before es → HasTime before → HasTime (before ++ es)
time_more before [] next has = subst HasTime (sym (append-nil before)) has
time_more before (e ∷ es) next has = subst HasTime (append_assoc before (e ∷ []) es) (time_more (before ++ e ∷ []) es next.1 (time_step before e e.header.kind refl next.0.own has))

pub point_is_time : (es : List Entry) → AreLawful es → 0 < greatest_point es → (greatest_point es < length es) × (get_or (kinds es) (greatest_point es) kind.Genesis ≡ kind.Time)
point_is_time es lawful some = by_time (time_more [] es lawful.next (inl refl)) where
  by_time : HasTime es → (greatest_point es < length es) × (get_or (kinds es) (greatest_point es) kind.Genesis ≡ kind.Time)
  by_time (inl none_yet) = absurd (omega (arith, none_yet, some))
  by_time (inr at) = at

-- ---- a block begins there

-- blocks in two parts, of which the first have so many journals
pub record IsSplit (blocks : List (List Entry)) (p : ℕ) : Type 0 where
  pub front : List (List Entry)
  pub behind : List (List Entry)
  pub are : blocks ≡ front ++ behind
  pub at : length (journals_of front) ≡ p

no_time : (es : List Entry) (n : ℕ) → AllGather es → n < length es → get_or (kinds es) n kind.Genesis ≡ kind.Time → ⊥
no_time [] n gather lt is = omega (arith, lt)
no_time (e ∷ es) zero gather lt is =
    let here = (and_parts (gathers e.header.kind) (list_all (λ (x : Entry). gathers x.header.kind) es) gather).0 in
    true≢false (sym here ∙ ap gathers is)
no_time (e ∷ es) (suc n) gather lt is = no_time es n (and_parts (gathers e.header.kind) (list_all (λ (x : Entry). gathers x.header.kind) es) gather).1 (omega (arith, lt)) is

-- a block begins with each journal that is of a kind which doesn't gather
pub splits_at : (bs : List (List Entry)) (p : ℕ) → All IsBlock bs → p < length (journals_of bs) → get_or (kinds (journals_of bs)) p kind.Genesis ≡ kind.Time → IsSplit bs p
splits_at [] p all lt is = absurd (omega (arith, lt))
splits_at (b ∷ bs) zero all lt is = record { front = []; behind = b ∷ bs; are = refl; at = refl }
splits_at (b ∷ bs) (suc p) all lt is = by_block (nat_lt (suc p) (length b)) refl (splits_at bs (suc p - length b) (All-tail IsBlock b bs all)) where
  pieces : kinds (journals_of (b ∷ bs)) ≡ kinds b ++ kinds (journals_of bs)
  pieces = map-append (λ (e : Entry). e.header.kind) b (journals_of bs)

  count : length (kinds b) ≡ length b
  count = length-map b (λ (e : Entry). e.header.kind)

  by_block : (v : Bool) → nat_lt (suc p) (length b) ≡ v
      → (suc p - length b < length (journals_of bs) → get_or (kinds (journals_of bs)) (suc p - length b) kind.Genesis ≡ kind.Time → IsSplit bs (suc p - length b)) → IsSplit (b ∷ bs) (suc p)
  by_block true less later =
      let inside = ltb-true (suc p) (length b) less in
      let block = All-head IsBlock b bs all in
      absurd (no_time b (suc p) (block.gathered (λ one. omega (arith, one, inside))) inside
      (sym (ap (λ (l : List Kind). get_or l (suc p) kind.Genesis) pieces ∙ get_or_append_left (kinds b) (kinds (journals_of bs)) kind.Genesis (suc p) (omega (arith, inside, count))) ∙ is))
  by_block false above later =
      let behind = ltb-false (suc p) (length b) above in
      let rest = later (omega (arith, lt, behind, length-append b (journals_of bs)))
      (sym (ap (λ (l : List Kind). get_or l (suc p) kind.Genesis) pieces ∙ get_or-append_right (kinds b) (kinds (journals_of bs)) (length b) (suc p) kind.Genesis count behind) ∙ is) in
      record { front = b ∷ rest.front; behind = rest.behind; are = ap (λ (l : List (List Entry)). b ∷ l) rest.are; at = omega (arith, rest.at, behind, length-append b (journals_of rest.front)) }

-- a block begins at the point of lawful blocks
pub splits_at_point : (h : History) → IsLawful h → h.waiting ≡ [] → IsSplit h.closed (point h)
unfolding point
splits_at_point h lawful none = by_point (greatest_point (journals h)) refl where
  by_point : (p : ℕ) → greatest_point (journals h) ≡ p → IsSplit h.closed (greatest_point (journals h))
  by_point zero is = record { front = []; behind = h.closed; are = refl; at = sym is }
  by_point (suc p) is =
      let closed : journals h ≡ journals_of h.closed = ap (λ (l : List Entry). journals_of h.closed ++ l) none ∙ append-nil (journals_of h.closed) in
      let time = point_is_time (journals h) lawful.journals_are (omega (arith, is)) in
      splits_at h.closed (greatest_point (journals h)) lawful.blocks_are (omega (arith, time.0, ap length closed))
      (ap (λ (l : List Entry). get_or (kinds l) (greatest_point (journals h)) kind.Genesis) (sym closed) ∙ time.1)
