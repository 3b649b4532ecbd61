use Rattle.std.proofs.Common.{[], sym, subst, take}
use Rattle.std.proofs.lemmas.List.{take_more}
use Rattle.journal_record.specs.declared.header.Header.{Header}
use Rattle.journal_record.specs.declared.header.Kind.TheVariants as kind
use Rattle.ledger_model.specs.Needs.{HaveSame}
use Rattle.ledger_book.specs.Purges.{owners_in}
use Rattle.ledger_book.proofs.book.purging.owners_of.Goals as goal

pub loop-header-preserved : goal.loop-header-preserved
loop-header-preserved c =
    let hs = c.args.headers.now in
    let i = c.loop-header.header-index in
    let none : Header = record { version = 0; kind = kind.Genesis; jsn = 0; member = 0; clue = record { 0 = [] }; clue_ord = 0; clue_prev = 0; a = 0; b = 0; link = record { 0 = [] }; content_len = 0; content_digest = record { 0 = [] }; who_digest = record { 0 = [] } } in
    subst (λ l. HaveSame c.add_owner.new.owners.items (owners_in l)) (sym (take_more hs i none c.loop-header-test.true)) (c.in_ok-add_owner.ensures (take i hs) c.loop-header.invariant)
