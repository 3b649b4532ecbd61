use Rattle.std.proofs.Common.{Some, None, lit<}
use Rattle.std.proofs.lemmas.Str.Pattern.{split_once_first}
use Rattle.ledger_cli.proofs.NumberLaws.{alone_added, alone_not, first_not, more_added, more_not, parts_alone, parts_cut}
use Rattle.ledger_cli.proofs.numbers.+add_numbers.Goals as goal

pub returns-then-add_number-clause-yes : goal.returns-then-add_number-clause-yes
returns-then-add_number-clause-yes t c = λ all.
    let at = split_once_first 44 c.args.text.now (Some (c.in-Some.first, c.in-Some.rest)) c.in-Some.ensures.cases (lit< tt) in
    let cut = parts_cut c.args.text.now c.in-Some.first.now c.in-Some.rest.now at.0 at.1 at.2 in
    more_added c.args.text.now c.args.numbers.now.items c.in-Some.first.now c.in-Some.rest.now cut c.add_number.new.numbers.items c.add_numbers.new.numbers.items (c.add_number.ensures.yes c.if-add_number.true) (c.add_numbers.ensures.yes all)

pub returns-then-add_number-clause-no : goal.returns-then-add_number-clause-no
returns-then-add_number-clause-no t c = λ none.
    let at = split_once_first 44 c.args.text.now (Some (c.in-Some.first, c.in-Some.rest)) c.in-Some.ensures.cases (lit< tt) in
    let cut = parts_cut c.args.text.now c.in-Some.first.now c.in-Some.rest.now at.0 at.1 at.2 in
    more_not c.args.text.now c.args.numbers.now.items c.in-Some.first.now c.in-Some.rest.now cut c.add_number.new.numbers.items (c.add_number.ensures.yes c.if-add_number.true) (c.add_numbers.ensures.no none)

pub returns-else-add_number-clause-no : goal.returns-else-add_number-clause-no
returns-else-add_number-clause-no t c = λ none.
    let at = split_once_first 44 c.args.text.now (Some (c.in-Some.first, c.in-Some.rest)) c.in-Some.ensures.cases (lit< tt) in
    let cut = parts_cut c.args.text.now c.in-Some.first.now c.in-Some.rest.now at.0 at.1 at.2 in
    first_not c.args.text.now c.args.numbers.now.items c.in-Some.first.now c.in-Some.rest.now cut (c.add_number.ensures.no none)

pub returns-in-None-clause-yes : goal.returns-in-None-clause-yes
returns-in-None-clause-yes t c = λ one.
    let alone = parts_alone c.args.text.now (split_once_first 44 c.args.text.now None c.in-None.ensures.cases (lit< tt)) in
    alone_added c.args.text.now c.args.numbers.now.items alone c.add_number-in-None.new.numbers.items (c.add_number-in-None.ensures.yes one)

pub returns-in-None-clause-no : goal.returns-in-None-clause-no
returns-in-None-clause-no t c = λ none.
    let alone = parts_alone c.args.text.now (split_once_first 44 c.args.text.now None c.in-None.ensures.cases (lit< tt)) in
    alone_not c.args.text.now c.args.numbers.now.items alone (c.add_number-in-None.ensures.no none)
