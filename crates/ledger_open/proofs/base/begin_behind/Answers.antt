use Rattle.std.proofs.Common.{refl, sym}
use Rattle.std.proofs.lemmas.List.Elements.{All-nil}
use Rattle.ledger_model.specs.Lawful.{IsBlock}
use Rattle.ledger_open.proofs.GoesLaws.{begun_goes}
use Rattle.ledger_open.proofs.base.begin_behind.Goals as goal

pub returns-in-Ok-clause-ok : goal.returns-in-Ok-clause-ok
returns-in-Ok-clause-ok c =
    let e = c.in-Ok.ensures in
    record {
      legal = record { next = tt; blocks_are = All-nil IsBlock; founded = tt };
      lawful = tt;
      goes = begun_goes c.in-Ok.book c.args.base.now (c.requires.base, c.requires.widths) e.stands e.behind e.blocks;
      places = c.new.ensures;
      tail = refl;
      settled = sym e.settled;
    }
