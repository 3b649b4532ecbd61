use Rattle.std.proofs.Common.{◌≡◌, ◌∙◌, ap, sym, Some, rules}
use Rattle.std.specs.Prelude.{option_and_then}
use Rattle.clap.specs.Matches.{found_of}
use Rattle.clap.specs.Walk.{rows_of}
use Rattle.clap.specs.Simple.{subcommand_rows_of}
use Rattle.clap.specs.declared.parser.matches.ArgMatches.TheViews.{out-ArgMatches}
use Rattle.audit_words.specs.Words.{found_in}
use Rattle.audit_words.proofs.WordLaws.{met_is, name_met, asked_dump, asked_lineage}
use Rattle.audit_words.proofs.words.wanted_in.Goals as goal

pub returns-then-eq-2 : goal.returns-then-eq-2
returns-then-eq-2 c =
    let m = c.args.matches.now in
    let met : subcommand_rows_of m ≡ Some (c.in-Some.name.now, rows_of (found_of c.in-Some.found.now)) =
    met_is (subcommand_rows_of m) c.in-Some.name.now (rows_of (found_of c.in-Some.found.now)) (name_met (out-ArgMatches m).subcommand ∙ sym c.in-Some.ensures.name) (sym c.in-Some.ensures.rows) in
    c.dump_in.ensures ∙ asked_dump (found_of c.in-Some.found.now) c.in-Some.name.now (search rules) (search rules) ∙ sym (ap (option_and_then found_in) met)

pub returns-else-eq-2 : goal.returns-else-eq-2
returns-else-eq-2 c =
    let m = c.args.matches.now in
    let met : subcommand_rows_of m ≡ Some (c.in-Some.name.now, rows_of (found_of c.in-Some.found.now)) =
    met_is (subcommand_rows_of m) c.in-Some.name.now (rows_of (found_of c.in-Some.found.now)) (name_met (out-ArgMatches m).subcommand ∙ sym c.in-Some.ensures.name) (sym c.in-Some.ensures.rows) in
    c.lineage_in.ensures ∙ asked_lineage (found_of c.in-Some.found.now) c.in-Some.name.now (search rules) (search rules) ∙ sym (ap (option_and_then found_in) met)
