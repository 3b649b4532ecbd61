-- What holds of a history that runs make, and of each of its journals.
use Rattle.std.specs.Prelude.{All, IsTrue}
use Rattle.std.proofs.Common.{◌≡◌, ◌+◌, ◌<◌, ◌≤◌, true, List, [], ◌∷◌, ◌++◌, length, map, get_or, take, drop, refl, sym, ap, ◌∙◌, subst, arith, append-nil, append_assoc, length-append, length-take, take-append-drop}
use Rattle.std.proofs.lemmas.Bool.{eqb-true}
use Rattle.std.proofs.lemmas.List.Elements.{All-nil, All-cons, All-head, All-tail, All-weaker}
use Rattle.journal_record.specs.Entry.{Entry}
use Rattle.journal_record.specs.Header.{HasWidths}
use Rattle.journal_record.specs.Rules.{content_len_ok}
use Rattle.journal_record.specs.declared.header.Kind.{Kind}
use Rattle.journal_record.specs.declared.header.Kind.TheVariants as kind
use Rattle.pseudo_genesis.specs.Bases as bases
use Rattle.pseudo_genesis.specs.Bases.{IsBase}
use Rattle.ledger_model.specs.Bases.{base_of}
use Rattle.ledger_model.specs.Genesis.{new_ledger}
use Rattle.ledger_model.specs.History.{History, history, journals, journals_of, size, point}
use Rattle.ledger_model.specs.Lawful.{AreLawful, AreNext, IsLawful, IsNext, IsSound, IsWhole}
use Rattle.ledger_model.specs.Scheme.{Scheme}
use Rattle.ledger_model.specs.Targets.{is_hidden, kind_at}
use Rattle.ledger_model.proofs.HideLaws.{hidden_record}
use Rattle.ledger_model.proofs.BaseLaws.{founders_wide, is_base, has_widths, journals_split}
use Rattle.ledger_model.proofs.KeepLaws.{founded_lawful, founded_sound, run_lawful, run_sound}
use Rattle.ledger_model.proofs.LawfulLaws.{genesis_first, lawful_from, point_below, some_journal}
use Rattle.ledger_model.proofs.PointLaws.{IsSplit, splits_at_point}
use Rattle.honest_dump.specs.Runs.{IsOfRuns}
use Rattle.honest_dump.proofs.Fewer.{all_first, first_journals, first_lawful, rest, runs_keep, runs_none}
use Rattle.honest_dump.proofs.Running.{run_keeps}
use Rattle.honest_dump.proofs.Widths.{HasSizes, HaveSizes, sizes_ended, sizes_placed, sizes_new}

-- what a run keeps
pub record IsMade (h : History) : Type 0 where
  pub lawful : IsLawful h
  pub sound : IsSound h
  pub none : h.waiting ≡ []
  pub sizes : HaveSizes h

pub made : (scheme : Scheme) (h : History) → IsOfRuns scheme h → IsMade h
made scheme h r =
    let new = new_ledger r.genesis in
    let lawful = founded_lawful r.genesis in
    subst IsMade (sym r.history_is) (record {
      lawful = runs_keep scheme IsLawful (λ g run l took k. run_lawful scheme g run.windows l) (λ n g left l none k. first_lawful n g left l none) new r.runs lawful refl r.are lawful;
      sound = runs_keep scheme IsSound (λ g run l took k. run_sound scheme g run.windows k) (λ n g left l none k. all_first IsWhole _ (rest n g) (subst (All IsWhole) (first_journals n g) k)) new r.runs lawful refl r.are (founded_sound r.genesis r.keys);
      none = runs_none scheme new r.runs refl;
      sizes = runs_keep scheme HaveSizes (λ g run l took k. run_keeps scheme HaveSizes sizes_ended (sizes_placed scheme) g run.old_notary run.new_notary run.windows l took k)
          (λ n g left l none k. all_first HasSizes _ (rest n g) (subst (All HasSizes) (first_journals n g) k)) new r.runs lawful refl r.are (sizes_new r.genesis r.keys);
    })

-- ---- a journal at its place

pub all_at : (P : Entry → Type 0) (before : List Entry) (e : Entry) (more : List Entry) → All P (before ++ e ∷ more) → P e
all_at P [] e more all = All-head P e more all
all_at P (x ∷ before) e more all = all_at P before e more (All-tail P x (before ++ e ∷ more) all)

pub next_at : (first before : List Entry) (e : Entry) (more : List Entry) → AreNext first (before ++ e ∷ more) → IsNext (history [] (first ++ before)) e.header
next_at first [] e more next = subst (λ (l : List Entry). IsNext (history [] l) e.header) (sym (append-nil first)) next.0
next_at first (x ∷ before) e more next = subst (λ (l : List Entry). IsNext (history [] l) e.header) (append_assoc first (x ∷ []) before) (next_at (first ++ x ∷ []) before e more next.1)

pub kind_there : (before : List Entry) (e : Entry) (more : List Entry) → get_or (map (λ (j : Entry). j.header.kind) (before ++ e ∷ more)) (length before) kind.Genesis ≡ e.header.kind
kind_there [] e more = refl
kind_there (x ∷ before) e more = kind_there before e more

-- what holds of each journal at its place holds of all
pub all_places : (P : Entry → Type 0) (before es : List Entry) → ((front : List Entry) (e : Entry) (more : List Entry) → before ++ es ≡ front ++ e ∷ more → P e) → All P es
all_places P before [] each = All-nil P
all_places P before (e ∷ es) each = All-cons P e es (each before e es refl) (all_places P (before ++ e ∷ []) es (λ front x more is. each front x more (sym (append_assoc before (e ∷ []) es) ∙ is)))

module _ (h : History) (m : IsMade h) where
  pub some : 1 ≤ size h
  some = some_journal (journals h) m.lawful.journals_are

  pub point_there : point h < size h
  unfolding point
  point_there = point_below (size h) 0 0 (journals h) (lawful_from (journals h) m.lawful.journals_are) (omega arith) (omega (arith, some))

  pub wide : All (λ (e : Entry). HasWidths e.header) (journals h)
  wide = All-weaker HasSizes (λ (e : Entry). HasWidths e.header) (λ e s. s.widths) (journals h) m.sizes

  -- the content of the first journal are two keys
  first_long : (e : Entry) (rest : List Entry) → journals h ≡ e ∷ rest → length e.content ≡ 64
  first_long e rest is =
      let lawful : AreLawful (e ∷ rest) = subst AreLawful is m.lawful.journals_are in
      let whole : IsWhole e = All-head IsWhole e rest (subst (All IsWhole) is m.sound) in
      let first = lawful.next.0 in
      let is_first = genesis_first e.header.kind e.header.jsn first.jsn first.layout.jsn in
      whole.length_is ∙ eqb-true e.header.content_len 64 (subst (λ (k : Kind). IsTrue (content_len_ok k e.header.content_len)) is_first first.layout.content_len)

  -- the base at the point keeps its rules
  pub base_there : 1 ≤ point h → IsBase (base_of h (point h)) × bases.HasWidths (base_of h (point h))
  base_there behind =
      let split : IsSplit h.closed (point h) = splits_at_point h m.lawful m.none in
      let keys = founders_wide (journals_of split.front) (λ e rest is. first_long e (rest ++ (journals_of split.behind ++ h.waiting)) (journals_split h split.front split.behind split.are ∙ ap (λ (l : List Entry). l ++ (journals_of split.behind ++ h.waiting)) is)) in (
        is_base h split.front split.behind (point h) m.lawful m.none split.are split.at behind point_there wide keys,
        has_widths h split.front split.behind (point h) m.lawful m.none split.are split.at behind point_there wide keys,
      )

  -- a journal at its place
  module _ (front : List Entry) (e : Entry) (more : List Entry) (is : journals h ≡ front ++ e ∷ more) where
    pub next_there : IsNext (history [] front) e.header
    next_there = next_at [] front e more (subst (AreNext []) is m.lawful.journals_are.next)

    pub whole_there : IsWhole e
    whole_there = all_at IsWhole front e more (subst (All IsWhole) is m.sound)

    pub sizes_there : HasSizes e
    sizes_there = all_at HasSizes front e more (subst (All HasSizes) is m.sizes)

    -- only a record is hidden
    pub hidden_there : is_hidden h e.header.jsn ≡ true → e.header.kind ≡ kind.Content
    hidden_there hid =
        sym (kind_there front e more) ∙ ap (λ (l : List Entry). get_or (map (λ (j : Entry). j.header.kind) l) (length front) kind.Genesis) (sym is)
        ∙ ap (kind_at h) (sym next_there.jsn) ∙ hidden_record h e.header.jsn m.lawful.journals_are hid

  -- .. and one that is kept
  module _ (front : List Entry) (e : Entry) (more : List Entry) (is : drop (point h) (journals h) ≡ front ++ e ∷ more) where
    abbrev pub before : List Entry
    before = take (point h) (journals h) ++ front

    pub whole_is : journals h ≡ before ++ e ∷ more
    whole_is = sym (take-append-drop (point h) (journals h)) ∙ ap (λ (l : List Entry). take (point h) (journals h) ++ l) is ∙ sym (append_assoc (take (point h) (journals h)) front (e ∷ more))

    pub before_long : length before ≡ point h + length front
    before_long = length-append (take (point h) (journals h)) front ∙ omega (arith, length-take (point h) (journals h), point_there)

    pub number_there : e.header.jsn ≡ point h + length front
    number_there = (next_there before e more whole_is).jsn ∙ before_long
