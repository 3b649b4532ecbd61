use Rattle.std.proofs.Common.{◌∙◌, ap, sym, map, is_some}
use Rattle.std.specs.Prelude.{option_and_then, string_bytes}
use Rattle.clap.specs.Simple.{app_of, subcommand_rows_of}
use Rattle.clap.specs.Values.{kind_of}
use Rattle.audit_words.specs.Words.{found_in}
use Rattle.audit_words.proofs.TakenLaws.{refused_is_none, some_is_found, taken_is_found}
use Rattle.audit_words.proofs.WordLaws.{asked_is}
use Rattle.audit_words.proofs.words.read_words.Goals as goal

pub unreachable-requires : goal.unreachable-requires
unreachable-requires c =
    let words = map string_bytes c.args.words.now in
    let parsed = some_is_found (app_of c.in-Ok.command) words (subcommand_rows_of c.in-Ok-try_get_matches_from.matches) c.in-Ok.ensures
    c.in-Ok-try_get_matches_from.ensures.kinds (λ simple. (c.in-Ok-try_get_matches_from.ensures.matches simple).1) in
    let bad = ap is_some (c.in-None.ensures ∙ ap (option_and_then found_in) parsed.1) ∙ taken_is_found words parsed.0 in
    cc

pub returns-in-Some-clause-taken : goal.returns-in-Some-clause-taken
returns-in-Some-clause-taken c =
    let words = map string_bytes c.args.words.now in
    let parsed = some_is_found (app_of c.in-Ok.command) words (subcommand_rows_of c.in-Ok-try_get_matches_from.matches) c.in-Ok.ensures
    c.in-Ok-try_get_matches_from.ensures.kinds (λ simple. (c.in-Ok-try_get_matches_from.ensures.matches simple).1) in
    asked_is _ _ parsed.0 ∙ sym (c.in-Some.ensures ∙ ap (option_and_then found_in) parsed.1)

pub returns-in-Err-clause-refused : goal.returns-in-Err-clause-refused
returns-in-Err-clause-refused c usage =
    refused_is_none (app_of c.in-Ok.command) (map string_bytes c.args.words.now) (kind_of c.in-Err.error) c.in-Ok.ensures (c.refusal.ensures.0 usage) c.in-Err.ensures.kinds
