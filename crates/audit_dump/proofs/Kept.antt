-- The journals from the point on are next ones behind the base at the point.
use Rattle.std.specs.Prelude.{None, IsTrue}
use Rattle.std.proofs.Common.{◌++◌, append-nil, append_assoc, ◌≡◌, ◌+◌, ◌<◌, List, [], ◌∷◌, length, map, get_or, take, drop, Some, refl, sym, ap, ◌∙◌, subst, arith, length-take, take-append-drop}
use Rattle.std.proofs.lemmas.List.{drop-map, get_or-drop}
use Rattle.journal_record.specs.Entry.{Entry}
use Rattle.journal_record.specs.declared.header.Kind.{Kind}
use Rattle.journal_record.specs.declared.header.Kind.TheVariants as kind
use Rattle.ledger_model.specs.Bases.{base_of}
use Rattle.ledger_model.specs.History.{History, history, journals, greatest_point}
use Rattle.ledger_model.specs.Lawful.{AreLawful, AreNext, IsNext}
use Rattle.ledger_model.proofs.PointLaws.{point_is_time}
use Rattle.ledger_model.specs.Behind.{AreBehind, IsNextBehind, IsOwnBehind}
use Rattle.ledger_book.proofs.GroundLaws.{ground_next}
use Rattle.journal_record.specs.Rules.{jsn_ok}
use Rattle.journal_record.specs.declared.header.Header.{Header}
use Rattle.ledger_book.proofs.SeenLaws.{all_behind}

abbrev kind_of : Entry → Kind
kind_of e = e.header.kind

-- the journal at the point is a time journal
time_first : (es : List Entry) → AreLawful es → 0 < greatest_point es → (e : Entry) (more : List Entry) → drop (greatest_point es) es ≡ e ∷ more → e.header.kind ≡ kind.Time
time_first es lawful some e more is =
    let p = greatest_point es in
    let place : p + 0 ≡ p = omega arith in
    let here : get_or (map kind_of es) p kind.Genesis ≡ kind.Time = (point_is_time es lawful some).1 in
    sym (ap (λ t. get_or (map kind_of t) 0 kind.Genesis) is)
    ∙ ap (λ t. get_or t 0 kind.Genesis) (sym (drop-map kind_of p es))
    ∙ get_or-drop p (map kind_of es) 0 kind.Genesis ∙ ap (λ j. get_or (map kind_of es) j kind.Genesis) place ∙ here

pub kept_next : (h : History) → AreLawful (journals h) → 0 < greatest_point (journals h) → AreBehind (Some (base_of h (greatest_point (journals h)))) [] (drop (greatest_point (journals h)) (journals h))
kept_next h lawful some =
    let es = journals h in
    let p = greatest_point es in
    let within : p < length es = (point_is_time es lawful some).0 in
    all_behind (base_of h p) (take p es) some (omega (arith, length-take p es, within)) refl refl (drop p es) (subst AreLawful (sym (take-append-drop p es)) lawful) (time_first es lawful some)

-- ---- where no base stands in front

first_own : (x : Header) (k : Kind) → IsTrue (jsn_ok k 0) → IsOwnBehind None [] x k
first_own x kind.Genesis ok = tt
first_own x kind.Content ok = absurd cc
first_own x kind.Member ok = absurd cc
first_own x kind.Time ok = tt
first_own x kind.Occult ok = absurd cc
first_own x kind.ClueOccult ok = absurd cc
first_own x kind.Purge ok = absurd cc

first_next : (x : Header) → IsNext (history [] []) x → IsNextBehind None [] x
first_next x next = record {
  layout = next.layout;
  jsn = next.jsn;
  below = next.below;
  begins = tt;
  own = first_own x x.kind (subst (λ n. IsTrue (jsn_ok x.kind n)) next.jsn next.layout.jsn);
}

-- one next journal more
next_more : (first before : List Entry) (e : Entry) → AreNext first before → IsNext (history [] (first ++ before)) e.header → AreNext first (before ++ e ∷ [])
next_more first [] e all next = (subst (λ (l : List Entry). IsNext (history [] l) e.header) (append-nil first) next, tt)
next_more first (d ∷ before) e all next =
    (all.0, next_more (first ++ d ∷ []) before e all.1 (subst (λ (l : List Entry). IsNext (history [] l) e.header) (sym (append_assoc first (d ∷ []) before)) next))

-- journals behind lawful ones
more_next : (d : Entry) (before fs : List Entry) → AreLawful (d ∷ before) → AreNext (d ∷ before) fs → AreBehind None (d ∷ before) fs
more_next d before [] lawful all = tt
more_next d before (e ∷ fs) lawful all = (
  ground_next (d ∷ before) e.header lawful all.0,
  more_next d (before ++ e ∷ []) fs (record { next = next_more [] (d ∷ before) e lawful.next all.0; founded = lawful.founded }) all.1,
)

pub all_next : (es : List Entry) → AreLawful es → AreBehind None [] es
all_next [] lawful = tt
all_next (e ∷ es) lawful = (first_next e.header lawful.next.0, more_next e [] es (record { next = (lawful.next.0, tt); founded = lawful.founded }) lawful.next.1)
