use Rattle.std.specs.Prelude.{IsTrue, All, take}
use Rattle.ledger_model.specs.History.{History}
use Rattle.ledger_open.specs.Pieces.{IsReadAs, WasOnlyRead}
use Rattle.time_peg.specs.Entries.{NotaryState}
use Rattle.dump_export.specs.Damages.{IsWholeIn, shown_journals}
use Rattle.dump_export.specs.Exports.{handed}
use Rattle.dump_export.specs.Gathers.{Gathers}
use Rattle.dump_export.specs.Pages.{IsPageOf}
use Rattle.dump_export.specs.Texts.{first_journals}
use Rattle.dump_export.proofs.journals.write_journals.Given as goal

abbrev pub invariant-loop-index : goal.invariant-loop-index
invariant-loop-index g l = record {
  page : IsTrue g.D.Disk.tells → IsPageOf l.page (g.D.Disk.state l.file).bytes.seen;
  read : WasOnlyRead g.D.Disk.tells (g.D.Disk.state l.fn.file) (g.D.Disk.state l.file);
  gathers : (notary : NotaryState)
      → Gathers g.D.Disk.tells l.fn.book l.fn.places.list (first_journals l.index) l.waiting.items
      (handed (g.D.Disk.state l.fn.file) notary (g.K.Sink.state l.fn.sink)) (handed (g.D.Disk.state l.file) notary (g.K.Sink.state l.sink));
  whole : IsTrue g.D.Disk.tells → (h : History) → IsReadAs l.fn.book l.fn.places.list (g.D.Disk.state l.fn.file).bytes.seen h
      → All (IsWholeIn h) (take l.index (shown_journals h));
}
