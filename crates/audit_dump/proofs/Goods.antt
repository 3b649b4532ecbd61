-- Journals that pass are each the next one.
use Rattle.std.proofs.Common.{ℕ, List, [], ◌∷◌, ◌++◌, Option}
use Rattle.journal_record.specs.Entry.{Entry}
use Rattle.journal_record.specs.Items.{Item}
use Rattle.pseudo_genesis.specs.declared.base.Base.{Base}
use Rattle.ledger_model.specs.Behind.{AreBehind}
use Rattle.ledger_model.specs.Scheme.{Scheme}
use Rattle.audit_dump.specs.Known.{journal_of, journals_of}
use Rattle.audit_dump.specs.Reading.{AreGood}

pub goods : (scheme : Scheme) (id : List ℕ) (start : Option Base) (before : List Entry) (items : List Item) → AreGood scheme id start before items → AreBehind start before (journals_of items)
goods scheme id start before [] good = tt
goods scheme id start before (x ∷ items) good = (good.0.next, goods scheme id start (before ++ journal_of x ∷ []) items good.1)
