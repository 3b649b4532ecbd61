-- Each argument of which a walk over words found something has a value.
use Rattle.std.proofs.Common.{◌≡◌, ℕ, Bool, true, false, zero, suc, List, [], ◌∷◌, ◌++◌, ◌&&◌, length, drop, Option, Some, None, IfSome, is_some, refl, sym, subst, inl, inr}
use Rattle.std.specs.Prelude.{slice_get, encode_utf8, fold}
use Rattle.std.specs.List.{list_all}
use Rattle.std.specs.Str.{bytes_eq, chars}
use Rattle.std.proofs.lemmas.Bool.{cases_Bool, and_from, and_parts}
use Rattle.clap.specs.Lexer.{long_of, short_of}
use Rattle.clap.specs.Takes.{is_given}
use Rattle.clap.specs.Walk.{Held, Names, Outcome, Row, Rule, Step, Text, Waiting, Walk, done, waits, plain, refused, idle, option, positional, next, trailing, subcommand, value, action_of, after_flag, after_step, arg_by_id, arg_by_index, arg_by_long, arg_by_short, bundle, bundle_met, bundle_step, default_rows, first_of, has_row, is_pending, long_or_other, nothing_held, option_word, plain_word, positional_held, pushed, started, reading_by, rows_after, settled, settled_rows, short_or_plain, subcommand_met, subcommand_or_other, takes_several, to_positional, used_as, used_by_id, walk, walk_from, walked, walked_from, with_default, with_values, without, word_met}
use Rattle.clap.specs.declared.builder.action.ArgAction.{ArgAction}
use Rattle.clap.specs.declared.builder.action.ArgAction.TheVariants as action
use Rattle.clap.specs.declared.builder.value_parser.Reading.{Reading}
use Rattle.clap.specs.declared.parser.matches.ValueSource.{ValueSource}
use Rattle.clap.specs.declared.parser.matches.ValueSource.TheVariants.{CommandLine, DefaultValue}

-- a row has a value
abbrev has_value : Row → Bool
has_value row = is_some (slice_get row.values 0)

-- each row has one
abbrev pub AreFilled : List Row → Type 0
AreFilled rows = list_all has_value rows ≡ true

-- ---- rows

more_first : (xs : List Text) (y : Text) (ys : List Text) → is_some (slice_get (xs ++ y ∷ ys) 0) ≡ true
more_first [] y ys = refl
more_first (x ∷ xs) y ys = refl

without_filled : (id : Text) (rows : List Row) → AreFilled rows → AreFilled (without id rows)
without_filled id [] filled = refl
without_filled id (row ∷ rows) filled =
    let parts = and_parts (has_value row) (list_all has_value rows) filled in
    elim (cases_Bool (bytes_eq row.id id)) [
      | inl is ↦ rw is parts.1
      | inr isnt ↦ rw isnt (and_from (has_value row) (list_all has_value (without id rows)) parts.0 (without_filled id rows parts.1))
    ]

with_filled : (id : Text) (how : Reading) (source : ValueSource) (v : Text) (vs : List Text) (rows : List Row) → AreFilled rows → AreFilled (with_values id how source (v ∷ vs) rows)
with_filled id how source v vs [] filled = refl
with_filled id how source v vs (row ∷ rows) filled =
    let parts = and_parts (has_value row) (list_all has_value rows) filled in
    elim (cases_Bool (bytes_eq row.id id)) [
      | inl is ↦ rw is (and_from (is_some (slice_get (row.values ++ v ∷ vs) 0)) (list_all has_value rows) (more_first row.values v vs) parts.1)
      | inr isnt ↦ rw isnt (and_from (has_value row) (list_all has_value (with_values id how source (v ∷ vs) rows)) parts.0 (with_filled id how source v vs rows parts.1))
    ]

-- a use with a value
used_filled : (a : ArgAction) (id : Text) (how : Reading) (v : Text) (vs : List Text) (rows : List Row) → AreFilled rows → AreFilled (used_as a id how (v ∷ vs) rows)
used_filled action.Set id how v vs rows filled = with_filled id how CommandLine v vs (without id rows) (without_filled id rows filled)
used_filled action.SetTrue id how v vs rows filled = with_filled id how CommandLine v vs (without id rows) (without_filled id rows filled)
used_filled action.SetFalse id how v vs rows filled = with_filled id how CommandLine v vs (without id rows) (without_filled id rows filled)
used_filled action.Append id how v vs rows filled = with_filled id how CommandLine v vs rows filled
used_filled action.Count id how v vs rows filled = with_filled id how CommandLine v vs (without id rows) (without_filled id rows filled)
used_filled action.Help id how v vs rows filled = filled
used_filled action.HelpShort id how v vs rows filled = filled
used_filled action.HelpLong id how v vs rows filled = filled
used_filled action.Version id how v vs rows filled = filled

given_filled : (a : Rule) (values : List Text) (rows : List Row) → AreFilled rows → AreFilled (default_rows a.id (reading_by a) values rows)
given_filled a [] rows filled = filled
given_filled a (v ∷ vs) rows filled = with_filled a.id (reading_by a) DefaultValue v vs rows filled

default_filled : (rows : List Row) (a : Rule) → AreFilled rows → AreFilled (with_default rows a)
default_filled rows a filled = elim (cases_Bool (has_row a.id rows)) [
  | inl is ↦ rw is filled
  | inr isnt ↦ rw isnt (given_filled a a.defaults rows filled)
]

defaults_filled : (rules : List Rule) (rows : List Row) → AreFilled rows → AreFilled (fold with_default rows rules)
defaults_filled [] rows filled = filled
defaults_filled (a ∷ rules) rows filled = defaults_filled rules (with_default rows a) (default_filled rows a filled)

-- ---- what is held

-- each row has a value, and so has the argument whose values are being read
record Fills (rows : List Row) (pending : Option (Text × List Text)) : Type 0 where
  filled : AreFilled rows
  begun : IfSome pending (λ p. is_some (slice_get p.1 0) ≡ true)

abbrev AreHeld : Held → Type 0
AreHeld h = Fills h.rows h.pending

by_id_filled : (a : Option Rule) (values : List Text) (rows : List Row) → AreFilled rows → is_some (slice_get values 0) ≡ true → AreFilled (used_by_id a values rows)
by_id_filled None values rows filled begun = filled
by_id_filled (Some a) [] rows filled begun = absurd cc
by_id_filled (Some a) (v ∷ vs) rows filled begun = used_filled (action_of a) a.id (reading_by a) v vs rows filled

settled_filled : (c : List Rule) (rows : List Row) (pending : Option (Text × List Text)) → Fills rows pending → AreFilled (settled_rows c pending rows)
settled_filled c rows None f = f.filled
settled_filled c rows (Some p) f = by_id_filled (arg_by_id c p.0) p.1 rows f.filled f.begun

settled_held : (c : List Rule) (h : Held) → AreHeld h → AreHeld (settled c h)
settled_held c h f = record { filled = settled_filled c h.rows h.pending f; begun = tt }

pushed_held : (id word : Text) (h : Held) → AreHeld h → AreHeld (pushed id word h)
pushed_held id word h f = record { filled = f.filled; begun = more_first (started id h.pending).1 word [] }

-- ---- a word, where no argument is named by a flag

module _ (c : List Rule) (no_long : (name : Text) → arg_by_long c name ≡ None) (no_short : (x : ℕ) → arg_by_short c x ≡ None) where
  -- characters behind a hyphen change nothing
  bundle_step_held : (k : ℕ) → ((flags : Text) (skip : ℕ) (so_far : Outcome) (h : Held) → (bundle_met c k flags skip so_far h).0 ≡ h)
      → (x : Option ℕ) (flags : Text) (skip : ℕ) (so_far : Outcome) (h : Held) → (bundle_step c x flags skip so_far h (bundle_met c k)).0 ≡ h
  bundle_step_held k rest None flags skip so_far h = refl
  bundle_step_held k rest (Some x) flags zero so_far h = rw (no_short x) refl
  bundle_step_held k rest (Some x) flags (suc skip) so_far h = rest (drop (length (encode_utf8 x)) flags) skip so_far h

  bundle_met_held : (k : ℕ) (flags : Text) (skip : ℕ) (so_far : Outcome) (h : Held) → (bundle_met c k flags skip so_far h).0 ≡ h
  unfolding bundle_met
  bundle_met_held zero flags skip so_far h = refl
  bundle_met_held (suc k) flags skip so_far h = bundle_step_held k (bundle_met_held k) (slice_get (chars flags) 0) flags skip so_far h

  bundle_held : (flags : Text) (h : Held) → AreHeld h → AreHeld (bundle c flags h).0
  bundle_held flags h f = subst AreHeld (sym (bundle_met_held (length flags) flags h.skip plain (record h { skip = 0 }))) (record { filled = f.filled; begun = f.begun })

  plain_held : (waiting : Waiting) (word : Text) (h : Held) → AreHeld h → AreHeld (plain_word c waiting word h).0
  plain_held idle word h f = f
  plain_held (option id) word h f = go (arg_by_id c id)
    where
      go : (a : Option Rule) → AreHeld (option_word a id word h).0
      go None = f
      go (Some a) = pushed_held id word h f
  plain_held positional word h f = f

  flag_held : (waiting : Waiting) (word : Text) (h : Held) (o : Outcome) → AreHeld h → AreHeld (after_flag c waiting word h o).0
  flag_held waiting word h done f = f
  flag_held waiting word h (waits id) f = f
  flag_held waiting word h plain f = plain_held waiting word h f
  flag_held waiting word h refused f = plain_held waiting word h f

  short_held : (waiting : Waiting) (word : Text) (flags : Option Text) (h : Held) → AreHeld h → AreHeld (short_or_plain c waiting word flags h).0
  short_held waiting word None h f = plain_held waiting word h f
  short_held waiting word (Some flags) h f = flag_held waiting word (bundle c flags h).0 (bundle c flags h).1 (bundle_held flags h f)

  long_held : (waiting : Waiting) (word : Text) (name : Option (Text × Option Text)) (h : Held) → AreHeld h → AreHeld (long_or_other c waiting word name h).0
  long_held waiting word None h f = short_held waiting word (short_of word) h f
  long_held waiting word (Some p) h f = rw (no_long p.0) (plain_held waiting word h f)

  other_held : (name : Option Text) (waiting : Waiting) (position : ℕ) (word : Text) (h : Held) → AreHeld h → AreHeld (subcommand_or_other c name waiting position word h).0
  other_held (Some name) waiting position word h f = f
  other_held None waiting position word h f = elim (cases_Bool (bytes_eq word (45 ∷ 45 ∷ []))) [
    | inl is ↦ rw is f
    | inr isnt ↦ rw isnt (long_held waiting word (long_of word) h f)
  ]

  met_held : (names : Names) (is_trailing : Bool) (waiting : Waiting) (position : ℕ) (word : Text) (h : Held) → AreHeld h → AreHeld (word_met c names is_trailing waiting position word h).0
  met_held names true waiting position word h f = f
  met_held names false waiting position word h f = other_held (subcommand_met names waiting word) waiting position word h f

  -- ---- the walk

  positional_is_held : (a : Rule) (word : Text) (h : Held) → AreHeld h → AreHeld (positional_held c a word h)
  positional_is_held a word h f = elim (cases_Bool (is_pending a h.pending && takes_several a)) [
    | inl is ↦ rw is (pushed_held a.id word h f)
    | inr isnt ↦ rw isnt (pushed_held a.id word (settled c h) (settled_held c h f))
  ]

  to_held : (a : Option Rule) (word : Text) (w : Walk) (h : Held) → AreHeld h → AreHeld (to_positional c a word w h).held
  to_held None word w h f = f
  to_held (Some a) word w h f = positional_is_held a word h f

  step_held : (word : Text) (w : Walk) (h : Held) (s : Step) → AreHeld h → AreHeld (after_step c word w h s).held
  step_held word w h (next waiting) f = f
  step_held word w h (trailing position) f = f
  step_held word w h (subcommand name) f = f
  step_held word w h value f = to_held (arg_by_index c w.position) word w h f

  walked_held : (names : Names) (stopped : Option (Text × List Text)) (w : Walk) (word : Text) → AreHeld w.held → AreHeld (walked_from c names stopped w word).held
  walked_held names (Some p) w word f = f
  walked_held names None w word f =
      let met : Held × Step = word_met c names w.is_trailing w.waiting w.position word w.held in
      step_held word w met.0 met.1 (met_held names w.is_trailing w.waiting w.position word w.held f)

  walk_held : (names : Names) (w : Walk) (words : List Text) → AreHeld w.held → AreHeld (fold (walked c names) w words).held
  unfolding walked
  walk_held names w [] f = f
  walk_held names w (word ∷ words) f = walk_held names (walked c names w word) words (walked_held names w.stopped w word f)

  -- what is found after the words
  pub rows_are_filled : (names : Names) (words : List Text) → AreFilled (rows_after c names words)
  rows_are_filled names words =
      let end : Held = (walk c names nothing_held words).held in
      defaults_filled c (settled c end).rows (settled_filled c end.rows end.pending (walk_held names (walk_from nothing_held) words (record { filled = refl; begun = tt })))

-- an argument that is given has a first value
pub given_is_found : (id : Text) (rows : List Row) → AreFilled rows → is_given id rows ≡ true → is_some (first_of id rows) ≡ true
given_is_found id [] filled given = absurd cc
given_is_found id (row ∷ rows) filled given =
    let parts = and_parts (has_value row) (list_all has_value rows) filled in
    elim (cases_Bool (bytes_eq row.id id)) [
      | inl is ↦ rw is parts.0
      | inr isnt ↦ rw isnt (given_is_found id rows parts.1 (rw isnt at given))
    ]
