use Rattle.std.specs.Prelude.{Bool}
use Rattle.std.proofs.Common.{List}
use Rattle.block_file.specs.declared.place.PlaceAt.{PlaceAt}
use Rattle.ledger_book.specs.Books.{Kept}
use Rattle.ledger_disk.specs.Disk.{DiskState}
use Rattle.dump_export.specs.Exports.{IsOnlyAsked, Writes, handed, done}
use Rattle.dump_export.specs.Texts.{first_entries}
use Rattle.dump_export.proofs.tail.write_entries.Given as goal

abbrev pub invariant-loop-k : goal.invariant-loop-k
invariant-loop-k g l = record {
  asked : IsOnlyAsked (g.N.Notary.state l.fn.notary) (g.N.Notary.state l.notary);
  writes : (tells : Bool) (book : Kept) (places : List PlaceAt) (file : DiskState)
      → Writes tells book places (first_entries l.k) done (handed file (g.N.Notary.state l.fn.notary) (g.K.Sink.state l.fn.sink)) (handed file (g.N.Notary.state l.notary) (g.K.Sink.state l.sink));
}
