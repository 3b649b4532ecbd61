-- Where a file that was read begins before its point, a block begins at the point, and those in front of it fall away.
use Rattle.std.specs.Prelude.{All, get_or, max, suc, zero, Option}
use Rattle.std.proofs.Common.{◌≡◌, ℕ, ◌+◌, ◌-◌, ◌<◌, cond, List, [], ◌∷◌, ◌++◌, length, drop, refl, sym, ◌∙◌, ap, subst, arith, append-nil, append_assoc, length-append}
use Rattle.std.proofs.lemmas.List.{map-append, length-map, get_or_append_left, drop_at}
use Rattle.std.proofs.lemmas.List.Concat.{flat_map-append}
use Rattle.std.proofs.lemmas.List.Elements.{All-drop}
use Rattle.journal_record.specs.Entry.{Entry}
use Rattle.journal_record.specs.declared.header.Kind.{Kind}
use Rattle.journal_record.specs.declared.header.Kind.TheVariants as kind
use Rattle.ledger_model.specs.Behind.{IsOwnBehind, AreBehind, first_of}
use Rattle.ledger_model.proofs.LawfulLaws.{two_points}
use Rattle.ledger_model.proofs.PointLaws.{kinds, splits_at, IsSplit}
use Rattle.ledger_model.specs.History.{journals_of, greatest_point, purge_point, is_purge}
use Rattle.ledger_model.specs.Lawful.{IsBlock}
use Rattle.pseudo_genesis.specs.declared.base.Base.{Base}
use Rattle.ledger_open.specs.Cutting.{FallsAway, gate_behind}
use Rattle.ledger_open.specs.Opening.{Known, Knows}
use Rattle.ledger_open.specs.Places.{places_from}
use Rattle.ledger_open.specs.Standing.{Floor, floor_from}
use Rattle.ledger_open.proofs.SplitLaws.{begins_some}
use Rattle.ledger_open.proofs.StartLaws.{first_same}

-- ---- the point behind a base is a time journal

-- where the point lies behind this number, the journal there is among these, which begin with that number, and it is a time journal
abbrev HasTime : ℕ → List Entry → Type 0
HasTime first es = first < greatest_point es → (greatest_point es - first < length es) × (get_or (kinds es) (greatest_point es - first) kind.Genesis ≡ kind.Time)

there : (es : List Entry) (n : ℕ) → get_or (kinds es) n kind.Genesis ≡ kind.Time → n < length es
there [] n is = absurd cc
there (e ∷ es) zero is = omega arith
there (e ∷ es) (suc n) is = omega (arith, there es n is)

kinds_more : (es fs : List Entry) (n : ℕ) → n < length es → get_or (kinds (es ++ fs)) n kind.Genesis ≡ get_or (kinds es) n kind.Genesis
kinds_more es fs n lt =
    ap (λ (l : List Kind). get_or l n kind.Genesis) (map-append (λ (e : Entry). e.header.kind) es fs) ∙ get_or_append_left (kinds es) (kinds fs) kind.Genesis n (omega (arith, lt, length-map es (λ (e : Entry). e.header.kind)))

time_at : (first n : ℕ) (es fs : List Entry) → greatest_point (es ++ fs) ≡ n → get_or (kinds es) (n - first) kind.Genesis ≡ kind.Time → (greatest_point (es ++ fs) - first < length (es ++ fs)) × (get_or (kinds (es ++ fs)) (greatest_point (es ++ fs) - first) kind.Genesis ≡ kind.Time)
time_at first n es fs same is =
    let inside = there es (n - first) is in
    (omega (arith, same, inside, length-append es fs), ap (λ (k : ℕ). get_or (kinds (es ++ fs)) (k - first) kind.Genesis) same ∙ kinds_more es fs (n - first) inside ∙ is)

same_step : (first : ℕ) (before : List Entry) (e : Entry) → purge_point e ≡ 0 → HasTime first before → HasTime first (before ++ e ∷ [])
same_step first before e none has below =
    let same : greatest_point (before ++ e ∷ []) ≡ greatest_point before = two_points before (e ∷ []) ∙ ap (λ (n : ℕ). max (greatest_point before) (max 0 n)) none ∙ omega arith in
    time_at first (greatest_point before) before (e ∷ []) same (has (omega (arith, same, below))).1

time_step : (start : Option Base) (before : List Entry) (e : Entry) (k : Kind) → e.header.kind ≡ k → IsOwnBehind start before e.header k → HasTime (first_of start) before → HasTime (first_of start) (before ++ e ∷ [])
time_step start before e kind.Purge is own has = λ below.
    let same : greatest_point (before ++ e ∷ []) ≡ e.header.a = two_points before (e ∷ []) ∙ ap (λ (x : Kind). max (greatest_point before) (max 0 (cond (is_purge x) e.header.a 0))) is ∙ omega (arith, own.above) in
    time_at (first_of start) e.header.a before (e ∷ []) same (own.target_is (omega (arith, same, below)))
time_step start before e kind.Genesis is own has = same_step (first_of start) before e (ap (λ (x : Kind). cond (is_purge x) e.header.a 0) is) has
time_step start before e kind.Content is own has = same_step (first_of start) before e (ap (λ (x : Kind). cond (is_purge x) e.header.a 0) is) has
time_step start before e kind.Member is own has = same_step (first_of start) before e (ap (λ (x : Kind). cond (is_purge x) e.header.a 0) is) has
time_step start before e kind.Time is own has = same_step (first_of start) before e (ap (λ (x : Kind). cond (is_purge x) e.header.a 0) is) has
time_step start before e kind.Occult is own has = same_step (first_of start) before e (ap (λ (x : Kind). cond (is_purge x) e.header.a 0) is) has
time_step start before e kind.ClueOccult is own has = same_step (first_of start) before e (ap (λ (x : Kind). cond (is_purge x) e.header.a 0) is) has

time_more : (start : Option Base) (before es : List Entry) → AreBehind start before es → HasTime (first_of start) before → HasTime (first_of start) (before ++ es)
time_more start before [] next has = subst (HasTime (first_of start)) (sym (append-nil before)) has
time_more start before (e ∷ es) next has = subst (HasTime (first_of start)) (append_assoc before (e ∷ []) es) (time_more start (before ++ e ∷ []) es next.1 (time_step start before e e.header.kind refl next.0.own has))

-- ---- what falls away

-- blocks in two parts, of which the first fall away
pub record FallsThere (k : Known) (floor : Floor) (blocks : List (List Entry)) : Type 0 where
  pub front : List (List Entry)
  pub behind : List (List Entry)
  pub are : blocks ≡ front ++ behind
  pub falls : FallsAway k floor front behind

pub falls_there : (k : Known) (start : Option Base) (blocks : List (List Entry)) → Knows k start blocks → k.book.floor < k.book.point → FallsThere k (floor_from start) blocks
falls_there k start blocks knows below =
    let es = journals_of blocks in
    let first = first_of start in
    let at : first ≡ k.book.floor = first_same start ∙ sym knows.floor in
    let time = time_more start [] es knows.legal.next (λ less. absurd (omega (arith, less))) (omega (arith, at, knows.point, below)) in
    let s : IsSplit blocks (greatest_point es - first) = splits_at blocks (greatest_point es - first) knows.legal.blocks_are time.0 time.1 in
    let behind_are : All IsBlock s.behind = subst (All IsBlock) (ap (drop (length s.front)) s.are ∙ drop_at s.front s.behind (length s.front) refl) (All-drop IsBlock (length s.front) blocks knows.legal.blocks_are) in
    let count : length es ≡ length (journals_of s.front) + length (journals_of s.behind) =
    ap (λ (bs : List (List Entry)). length (journals_of bs)) s.are ∙ ap length (flat_map-append (λ (b : List Entry). b) s.front s.behind) ∙ length-append (journals_of s.front) (journals_of s.behind) in
    record {
      front = s.front;
      behind = s.behind;
      are = s.are;
      falls = record {
        first = knows.floor;
        point = omega (arith, s.at, at, knows.point, knows.floor, below);
        most = omega (arith, time.0, at, knows.point, knows.floor, knows.size, knows.settled, below);
        some = begins_some s.behind behind_are (omega (arith, count, s.at, time.0));
        places = knows.places ∙ ap (places_from (floor_from start)) s.are;
        tail = knows.tail ∙ ap (gate_behind (floor_from start)) s.are;
      };
    }
