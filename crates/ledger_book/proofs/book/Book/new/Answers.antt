use Rattle.std.proofs.lemmas.Result.{IfOk-weaker}
use Rattle.ledger_model.specs.Genesis.{genesis_journal}
use Rattle.ledger_book.proofs.GenesisLaws.{genesis_kind, genesis_layout, genesis_first}
use Rattle.ledger_book.proofs.book.Book.new.Goals as goal

pub from_first-requires-clause-kind : goal.from_first-requires-clause-kind
from_first-requires-clause-kind c = genesis_kind c.args.genesis.now c.first_header-header.result c.first_header-header.ensures.header

pub from_first-requires-clause-layout : goal.from_first-requires-clause-layout
from_first-requires-clause-layout c = genesis_layout c.args.genesis.now c.first_header-header.result c.first_header-header.ensures.header

pub returns-clause-serves : goal.returns-clause-serves
returns-clause-serves c =
    IfOk-weaker c.from_first.result _ _ (λ book serves. serves (genesis_journal c.args.genesis.now) (genesis_first c.args.genesis.now c.first_header-header.result c.first_header-header.ensures.header c.first_header-header.ensures.width)) c.from_first.ensures.serves
