-- Words that are taken ask for something.
use Rattle.std.proofs.Common.{◌≡◌, ◌||◌, ◌&&◌, Bool, true, false, not, List, [], ◌∷◌, Option, Some, None, is_some, codes, refl, sym, ap, subst, ◌∙◌, ◌⊎◌, inl, inr}
use Rattle.std.specs.Prelude.{◌≢◌, ◌↔◌, option_and_then}
use Rattle.std.specs.List.{list_any}
use Rattle.std.specs.Str.{bytes_eq}
use Rattle.std.proofs.lemmas.Bool.{cases_Bool, or_parts, not-false}
use Rattle.clap.specs.Faults.{check_fault, defaults_fault, entered_fault, fault_of, is_simple_and_free, level_fault, settle_fault, walk_fault}
use Rattle.clap.specs.Facts.{explicit_source}
use Rattle.clap.specs.Kinds.{IsAmong, Kinds, check_kinds, or_else}
use Rattle.clap.specs.Simple.{App, Shape, built, built_leaf, entered, inherited, is_simple, names_of, subcommand_of}
use Rattle.clap.specs.Takes.{is_given}
use Rattle.clap.specs.Walk.{Held, Names, Row, Rule, Text, first_of, nothing_held, rows_after, settled, stop_after, walk, walk_from}
use Rattle.clap.specs.declared.error.kind.ErrorKind.{ErrorKind}
use Rattle.clap.specs.declared.error.kind.ErrorKind.TheVariants.{OutOfMemory}
use Rattle.audit_words.specs.Words.{Asked, asked_by, asked_from, audit_app, bare_app, dump_app, lineage_app, dump_of, lineage_of, found_by, found_in, fault_by}
use Rattle.audit_words.proofs.RowLaws.{AreFilled, given_is_found, rows_are_filled}

-- the second of two that give no fault gives none
second_none : (a b : Kinds) → or_else a b ≡ [] → b ≡ []
second_none [] b none = none
second_none (k ∷ ks) b none = absurd cc

first_none : (a b : Kinds) → or_else a b ≡ [] → a ≡ []
first_none [] b none = refl
first_none (k ∷ ks) b none = absurd cc

-- the checks behind a walk pass
checks_pass : (help subcommand argument : Bool) → check_kinds help subcommand argument ≡ [] → (subcommand ≡ false) × (argument ≡ false)
checks_pass true subcommand argument none = absurd cc
checks_pass false true argument none = absurd cc
checks_pass false false true none = absurd cc
checks_pass false false false none = (refl, refl)

-- the checks behind the walk of a level that gives no fault pass, and so does what is below it
level_checks : (s : Shape) (names : Names) (words : List Text) (met : Bool) (below : Kinds) → level_fault s names nothing_held words met below ≡ []
    → (below ≡ []) × (check_fault s (rows_after s.rules names words) met ≡ [])
level_checks s names words met below none =
    let end : Held = (walk s.rules names nothing_held words).held in
    let check : Kinds = check_fault s (rows_after s.rules names words) met in
    let filled : Kinds = or_else (defaults_fault (settled s.rules end).rows s.rules) check in
    let behind : Kinds = or_else (settle_fault s.rules s.args_override_self end) filled in
    let first = second_none (walk_fault s names (walk_from nothing_held) words) (or_else below behind) none in
    let second = second_none (settle_fault s.rules s.args_override_self end) filled (second_none below behind first) in
    (first_none below behind first, second_none (defaults_fault (settled s.rules end).rows s.rules) check second)

-- no argument that has to be there is missing
abbrev is_missing : List Row → Rule → Bool
is_missing rows a = a.required && not (is_given a.id rows)

check_parts : (s : Shape) (rows : List Row) (met : Bool) → check_fault s rows met ≡ []
    → ((not met && s.subcommand_required) ≡ false) × ((not (s.subcommand_negates_reqs && met) && list_any (is_missing rows) s.rules) ≡ false)
check_parts s rows met none =
    checks_pass (not met && (s.arg_required_else_help && not (list_any (λ r. explicit_source r.source) rows))) (not met && s.subcommand_required)
    (not (s.subcommand_negates_reqs && met) && list_any (is_missing rows) s.rules) none

some_dump : (a b c d e : Option Text) → is_some a ≡ true → is_some b ≡ true → is_some c ≡ true → is_some d ≡ true → is_some e ≡ true → is_some (dump_of a b c d e) ≡ true
some_dump (Some a) (Some b) (Some c) (Some d) (Some e) p q r s t = refl
some_dump None b c d e p q r s t = absurd cc
some_dump (Some a) None c d e p q r s t = absurd cc
some_dump (Some a) (Some b) None d e p q r s t = absurd cc
some_dump (Some a) (Some b) (Some c) None e p q r s t = absurd cc
some_dump (Some a) (Some b) (Some c) (Some d) None p q r s t = absurd cc

some_lineage : (a b c : Option Text) → is_some a ≡ true → is_some b ≡ true → is_some c ≡ true → is_some (lineage_of a b c) ≡ true
some_lineage (Some a) (Some b) (Some c) p q r = refl
some_lineage None b c p q r = absurd cc
some_lineage (Some a) None c p q r = absurd cc
some_lineage (Some a) (Some b) None p q r = absurd cc

-- a first argument that is missing is a fault
argument_given : (given rest : Bool) → (not given || rest) ≡ false → (given ≡ true) × (rest ≡ false)
argument_given given rest e = let parts = or_parts (not given) rest e in (not-false given parts.0, parts.1)

-- `dump`, as building makes it
abbrev dump_built : Shape
dump_built = built_leaf (inherited bare_app.top dump_app.top)

-- a walk behind `dump` that gives no fault finds its five words
dump_found : (words : List Text) → level_fault dump_built [] nothing_held words false [] ≡ [] → is_some (found_in (codes "dump", rows_after dump_built.rules [] words)) ≡ true
dump_found words none =
    let rows : List Row = rows_after dump_built.rules [] words in
    let filled : AreFilled rows = rows_are_filled dump_built.rules (λ name. refl) (λ x. refl) [] words in
    let id = argument_given (is_given (codes "ID") rows) _ (check_parts dump_built rows false (level_checks dump_built [] words false [] none).1).1 in
    let size = argument_given (is_given (codes "SIZE") rows) _ id.1 in
    let root = argument_given (is_given (codes "ROOT") rows) _ size.1 in
    let notary_size = argument_given (is_given (codes "NSIZE") rows) _ root.1 in
    let notary_root = argument_given (is_given (codes "NROOT") rows) false notary_size.1 in
    some_dump (first_of (codes "ID") rows) (first_of (codes "SIZE") rows) (first_of (codes "ROOT") rows) (first_of (codes "NSIZE") rows) (first_of (codes "NROOT") rows)
    (given_is_found (codes "ID") rows filled id.0) (given_is_found (codes "SIZE") rows filled size.0) (given_is_found (codes "ROOT") rows filled root.0)
    (given_is_found (codes "NSIZE") rows filled notary_size.0) (given_is_found (codes "NROOT") rows filled notary_root.0)

-- `lineage`, as building makes it
abbrev lineage_built : Shape
lineage_built = built_leaf (inherited bare_app.top lineage_app.top)

-- a walk behind `lineage` that gives no fault finds its three words
lineage_found : (words : List Text) → level_fault lineage_built [] nothing_held words false [] ≡ [] → is_some (found_in (codes "lineage", rows_after lineage_built.rules [] words)) ≡ true
lineage_found words none =
    let rows : List Row = rows_after lineage_built.rules [] words in
    let filled : AreFilled rows = rows_are_filled lineage_built.rules (λ name. refl) (λ x. refl) [] words in
    let name = argument_given (is_given (codes "NAME") rows) _ (check_parts lineage_built rows false (level_checks lineage_built [] words false [] none).1).1 in
    let size = argument_given (is_given (codes "SIZE") rows) _ name.1 in
    let root = argument_given (is_given (codes "ROOT") rows) false size.1 in
    some_lineage (first_of (codes "NAME") rows) (first_of (codes "SIZE") rows) (first_of (codes "ROOT") rows)
    (given_is_found (codes "NAME") rows filled name.0) (given_is_found (codes "SIZE") rows filled size.0) (given_is_found (codes "ROOT") rows filled root.0)

-- a subcommand that is met, and gives no fault, asks for something
met_found : (name : Text) (words : List Text) → entered_fault (built audit_app) (Some (name, words)) ≡ [] → is_some (entered (built audit_app) (Some (name, words))) ≡ true
    → is_some (option_and_then found_in (entered (built audit_app) (Some (name, words)))) ≡ true
met_found name words none met = elim (cases_Bool (bytes_eq (codes "script") name)) [
  | inl is ↦ rw is refl
  | inr isnt ↦ elim (cases_Bool (bytes_eq (codes "dump") name)) [
    | inl is ↦ rw (isnt, is) (dump_found words (rw (isnt, is) at none))
    | inr other ↦ elim (cases_Bool (bytes_eq (codes "lineage") name)) [
      | inl is ↦ rw (isnt, other, is) (lineage_found words (rw (isnt, other, is) at none))
      | inr neither ↦ absurd (let bad : false ≡ true = rw (isnt, other, neither) at met in cc)
    ]
  ]
]

needed_met : (met : Bool) → (not met && true) ≡ false → met ≡ true
needed_met true e = refl
needed_met false e = absurd cc

stop_found : (stop : Option (Text × List Text)) (rows : List Row) → entered_fault (built audit_app) stop ≡ []
    → check_fault (built audit_app).top rows (is_some (entered (built audit_app) stop)) ≡ [] → is_some (option_and_then found_in (entered (built audit_app) stop)) ≡ true
stop_found None rows none check = absurd cc
stop_found (Some p) rows none check = met_found p.0 p.1 none (needed_met (is_some (entered (built audit_app) (Some p))) (check_parts (built audit_app).top rows (is_some (entered (built audit_app) (Some p))) check).0)

-- words in which no fault is found ask for something
pub taken_is_found : (words : List Text) → fault_by words ≡ [] → is_some (found_by words) ≡ true
taken_is_found words none =
    let app : App = built audit_app in
    let stop : Option (Text × List Text) = stop_after app.top.rules (names_of app) words in
    let checks = level_checks app.top (names_of app) words (is_some (entered app stop)) (entered_fault app stop) none in
    stop_found stop (rows_after app.top.rules (names_of app) words) checks.0 checks.1

-- words ask for nothing exactly where they are refused
pub asked_unless : (kinds : Kinds) (found : Option Asked) → (kinds ≡ [] → is_some found ≡ true) → (asked_from kinds found ≡ None) ↔ (kinds ≢ [])
asked_unless [] None taken = absurd (let bad : false ≡ true = taken refl in cc)
asked_unless [] (Some asked) taken = (λ e. absurd cc, λ other. absurd (other refl))
asked_unless (kind ∷ kinds) found taken = (λ e. λ none. absurd cc, λ other. refl)

-- ---- a parse

-- a parse that went well asks for something
pub some_is_found : (app : App) (words : List Text) (found : Option (Text × List Row)) → app ≡ audit_app → (is_simple_and_free app ≡ true → fault_of app words ≡ [])
    → (is_simple app ≡ true → found ≡ subcommand_of app words) → (fault_by words ≡ []) × (found ≡ subcommand_of audit_app words)
some_is_found app words found is taken met =
    (ap (λ a. fault_of a words) (sym is) ∙ taken (ap is_simple_and_free is ∙ refl), met (ap is_simple is ∙ refl) ∙ ap (λ a. subcommand_of a words) is)

-- one that is refused for another cause than memory asks for nothing
pub refused_is_none : (app : App) (words : List Text) (kind : ErrorKind) → app ≡ audit_app → kind ≢ OutOfMemory
    → (is_simple_and_free app ≡ true → (kind ≡ OutOfMemory) ⊎ IsAmong kind (fault_of app words)) → asked_by words ≡ None
refused_is_none app words kind is other fails = go (fault_by words) (found_by words) (subst (λ a. (kind ≡ OutOfMemory) ⊎ IsAmong kind (fault_of a words)) is (fails (ap is_simple_and_free is ∙ refl)))
  where
    go : (kinds : Kinds) (found : Option Asked) → (kind ≡ OutOfMemory) ⊎ IsAmong kind kinds → asked_from kinds found ≡ None
    go [] found (inl memory) = absurd (other memory)
    go [] found (inr among) = absurd among
    go (k ∷ ks) found fails = refl
