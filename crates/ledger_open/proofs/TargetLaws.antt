-- What the last journal gives up: what it is the first to hide.
use Rattle.std.specs.List.{list_any}
use Rattle.std.specs.Option.{is_some, option_eq}
use Rattle.std.specs.Prelude.{◌==◌, not, max, find, nat_le, slice_get, option_map}
use Rattle.std.proofs.Common.{◌≡◌, ℕ, ◌+◌, ◌-◌, ◌≤◌, Bool, true, false, cond, ◌&&◌, ◌||◌, List, [], ◌∷◌, ◌++◌, length, take, Option, None, Some, refl, sym, ◌∙◌, ap, subst, arith, length-append}
use Rattle.std.proofs.lemmas.Bool.{eqb-true, eq-eqb, leb-true, true≢false, false_from_ne_true, and_parts}
use Rattle.std.proofs.lemmas.List.{take_at}
use Rattle.std.proofs.lemmas.List.Folds.{list_any-append}
use Rattle.std.proofs.lemmas.Option.{same_Some}
use Rattle.journal_record.specs.Entry.{Entry}
use Rattle.journal_record.specs.declared.header.Header.{Header}
use Rattle.journal_record.specs.declared.header.Kind.{Kind}
use Rattle.journal_record.specs.declared.header.Kind.TheVariants.{Genesis, Content, Member, Time, Occult, Purge, ClueOccult}
use Rattle.ledger_model.proofs.HideLaws.{first_with, named_is, number_at, hider_same, hider_new}
use Rattle.ledger_model.proofs.LawfulLaws.{AreFrom, lawful_from, next_from, some_journal, two_points}
use Rattle.ledger_model.specs.History.{History, history, journals, size, point, greatest_point, is_purge}
use Rattle.ledger_model.specs.Lawful.{AreLawful, AreNext, IsNext}
use Rattle.ledger_model.specs.Limits.{real_limits}
use Rattle.ledger_model.specs.Targets.{hides_as, hides, is_hidden_by, is_hidden, hider_among, hider}
use Rattle.ledger_open.specs.Erasing.{is_given_up}
use Rattle.ledger_open.specs.Standing.{hidden_before, point_before}
use Rattle.ledger_open.proofs.NextLaws.{next_front, next_one}

-- ---- the last of some journals

record HasLast (es : List Entry) : Type 0 where
  pub before : List Entry
  pub last : Entry
  pub is : es ≡ before ++ last ∷ []

has_last : (es : List Entry) → 1 ≤ length es → HasLast es
has_last [] some = absurd (omega (arith, some))
has_last (e ∷ []) some = record { before = []; last = e; is = refl }
has_last (e ∷ f ∷ es) some = let more = has_last (f ∷ es) (omega arith) in record { before = e ∷ more.before; last = more.last; is = ap (λ (l : List Entry). e ∷ l) more.is }

last_got : (before : List Entry) (last : Entry) → slice_get (before ++ last ∷ []) (length before) ≡ Some last
last_got [] last = refl
last_got (e ∷ before) last = last_got before last

-- ---- what the last journal hides, and what others hid before it

or_false : (v : Bool) → (v || false) ≡ v
or_false true = refl
or_false false = refl

-- whether a number is this one
abbrev pub is_number : Option ℕ → ℕ → Bool
is_number o n = option_eq (λ i j. i == j) o (Some n)

no_number : (o : Option ℕ) (n : ℕ) → is_some o ≡ false → is_number o n ≡ false
no_number None n none = refl
no_number (Some i) n none = absurd (true≢false none)

-- the first of some journals that has a property, where one in front of number n has it
not_last : (p : Entry → Bool) (m n : ℕ) (es more : List Entry) → AreFrom m es → m + length es ≤ n → list_any p es ≡ true → is_number (first_with p (es ++ more)) n ≡ false
not_last p m n [] more from few some = absurd (true≢false (sym some))
not_last p m n (e ∷ es) more from few some = elim (p e) as (λ v. (v || list_any p es) ≡ true → is_number (option_map (λ (j : Entry). j.header.jsn) (cond v (Some e) (find p (es ++ more)))) n ≡ false) [
  | true ↦ λ here. false_from_ne_true (e.header.jsn == n) (λ is. omega (arith, eqb-true e.header.jsn n is, from.0, few))
  | false ↦ λ later. not_last p (m + 1) n es more from.2 (omega (arith, few)) later
] some

-- what hides a content purges nothing
pub hides_stays : (k : Kind) (x target : Header) → hides_as k x target ≡ true → is_purge k ≡ false
hides_stays Genesis x target is = refl
hides_stays Content x target is = refl
hides_stays Member x target is = refl
hides_stays Time x target is = refl
hides_stays Occult x target is = refl
hides_stays Purge x target is = absurd (true≢false (sym is))
hides_stays ClueOccult x target is = refl

module _ (h : History) (lawful : AreLawful (journals h)) where
  l : HasLast (journals h)
  l = has_last (journals h) (some_journal (journals h) lawful)

  size_is : size h ≡ length l.before + 1
  size_is = omega (arith, ap length l.is, length-append l.before (l.last ∷ []))

  last_at : slice_get (journals h) (size h - 1) ≡ Some l.last
  last_at =
      let at : size h - 1 ≡ length l.before = omega (arith, size_is) in
      ap (λ (k : ℕ). slice_get (journals h) k) at ∙ ap (λ (es : List Entry). slice_get es (length l.before)) l.is ∙ last_got l.before l.last

  -- there is a last one
  pub last_is : (e : Entry) × (slice_get (journals h) (size h - 1) ≡ Some e)
  last_is = (l.last, last_at)

  front_is : take (size h - 1) (journals h) ≡ l.before
  front_is = ap (λ (es : List Entry). take (size h - 1) es) l.is ∙ take_at l.before (l.last ∷ []) (size h - 1) (omega (arith, size_is))

  module _ (n : ℕ) (e : Entry) (at : slice_get (journals h) n ≡ Some e) where
    jsn_is : e.header.jsn ≡ n
    jsn_is = number_at 0 n (journals h) e (lawful_from (journals h) lawful) at ∙ omega arith

    before_is : hidden_before h n ≡ list_any (hides e) l.before
    before_is = ap (λ (t : Option Entry). is_hidden_by (take (size h - 1) (journals h)) t) at ∙ ap (list_any (hides e)) front_is

    hidden_is : is_hidden h n ≡ (hidden_before h n || hides e l.last)
    hidden_is =
        ap (λ (t : Option Entry). is_hidden_by (journals h) t) at ∙ ap (list_any (hides e)) l.is ∙ list_any-append (hides e) l.before (l.last ∷ [])
        ∙ ap (λ (v : Bool). v || (hides e l.last || false)) (sym before_is) ∙ ap (λ (v : Bool). hidden_before h n || v) (or_false (hides e l.last))

  -- the last journal is the next one behind the others
  last_next : IsNext (history [] l.before) l.last.header
  last_next = next_one [] l.before l.last [] (subst (λ (es : List Entry). AreNext [] es) l.is lawful.next)

  pub size_fits : size h ≤ real_limits.size
  size_fits = omega (arith, size_is, last_next.jsn, last_next.below)

  -- what hides a content purges nothing, as the last journal
  last_stays : (e : Entry) → hides e l.last ≡ true → point h ≡ point_before h
  unfolding point
  last_stays e is =
      ap greatest_point l.is ∙ two_points l.before (l.last ∷ [])
      ∙ ap (λ (v : Bool). max (greatest_point l.before) (max 0 (cond v l.last.header.a 0))) (hides_stays l.last.header.kind l.last.header e.header is) ∙ omega arith ∙ sym (ap greatest_point front_is)

  last_number : l.last.header.jsn ≡ size h - 1
  last_number = omega (arith, size_is, last_next.jsn)

  before_from : AreFrom 0 l.before
  before_from = next_from [] l.before (next_front [] l.before (l.last ∷ []) (subst (λ (es : List Entry). AreNext [] es) l.is lawful.next))

  -- a content that is kept is given up where the last journal is the one that hides it
  pub given_is : (n : ℕ) → is_given_up h n ≡ (nat_le (point h) n && is_number (hider h n) (size h - 1))
  given_is n = ap (λ (v : Bool). nat_le (point h) n && v) (by_got (slice_get (journals h) n) refl) where
    by_before : (e : Entry) (v w : Bool) → list_any (hides e) l.before ≡ v → hides e l.last ≡ w → ((v || w) && not v) ≡ is_number (first_with (hides e) (l.before ++ l.last ∷ [])) (size h - 1)
    by_before e true true before last = sym (not_last (hides e) 0 (size h - 1) l.before (l.last ∷ []) before_from (omega (arith, size_is)) before)
    by_before e true false before last = sym (not_last (hides e) 0 (size h - 1) l.before (l.last ∷ []) before_from (omega (arith, size_is)) before)
    by_before e false true before last =
        sym (ap (λ (o : Option ℕ). is_number o (size h - 1)) (hider_new (hides e) l.before l.last (sym (named_is (hides e) l.before) ∙ before) last) ∙ eq-eqb l.last.header.jsn (size h - 1) last_number)
    by_before e false false before last =
        sym (ap (λ (o : Option ℕ). is_number o (size h - 1)) (hider_same (hides e) l.before l.last last) ∙ no_number (first_with (hides e) l.before) (size h - 1) (sym (named_is (hides e) l.before) ∙ before))

    by_got : (t : Option Entry) → slice_get (journals h) n ≡ t → (is_hidden h n && not (hidden_before h n)) ≡ is_number (hider_among (journals h) t) (size h - 1)
    by_got None at = ap (λ (t : Option Entry). is_hidden_by (journals h) t && not (is_hidden_by (take (size h - 1) (journals h)) t)) at
    by_got (Some e) at =
        ap (λ (v : Bool). v && not (hidden_before h n)) (hidden_is n e at)
        ∙ ap (λ (v : Bool). (v || hides e l.last) && not v) (before_is n e at)
        ∙ by_before e (list_any (hides e) l.before) (hides e l.last) refl refl
        ∙ ap (λ (es : List Entry). is_number (first_with (hides e) es) (size h - 1)) (sym l.is)

  -- the last journal hides what is given up
  given_last : (n : ℕ) → is_given_up h n ≡ true → (e : Entry) × (slice_get (journals h) n ≡ Some e) × (hides e l.last ≡ true)
  given_last n given = by_got (slice_get (journals h) n) refl where
    new : (is_hidden h n && not (hidden_before h n)) ≡ true
    new = (and_parts (nat_le (point h) n) (is_hidden h n && not (hidden_before h n)) given).1

    by_last : (v w : Bool) → ((v || w) && not v) ≡ true → w ≡ true
    by_last true w is = absurd (true≢false (sym is))
    by_last false w is = (and_parts w true is).0

    by_got : (t : Option Entry) → slice_get (journals h) n ≡ t → (e : Entry) × (slice_get (journals h) n ≡ Some e) × (hides e l.last ≡ true)
    by_got None at = absurd (true≢false (sym new ∙ ap (λ (t : Option Entry). is_hidden_by (journals h) t && not (is_hidden_by (take (size h - 1) (journals h)) t)) at))
    by_got (Some e) at = (e, at, by_last (hidden_before h n) (hides e l.last) (sym (ap (λ (v : Bool). v && not (hidden_before h n)) (hidden_is n e at)) ∙ new))

  -- by any journal that is the last one: only what that hides is given up
  pub given_only : (last : Entry) → slice_get (journals h) (size h - 1) ≡ Some last → (n : ℕ) → ((e : Entry) → e.header.jsn ≡ n → hides e last ≡ false) → is_given_up h n ≡ false
  given_only last at n none = false_from_ne_true (is_given_up h n) (λ given.
      let e = given_last n given in
      true≢false (sym e.2 ∙ ap (hides e.0) (same_Some l.last last (sym last_at ∙ at)) ∙ none e.0 (jsn_is n e.0 e.1)))

  -- .. and no purge has taken it, nor purges the last journal
  pub given_kept : (n : ℕ) → is_given_up h n ≡ true → (point h ≡ point_before h) × (point h ≤ n)
  given_kept n given =
      let e = given_last n given in
      (last_stays e.0 e.2, leb-true (point h) n (and_parts (nat_le (point h) n) (is_hidden h n && not (hidden_before h n)) given).0)
