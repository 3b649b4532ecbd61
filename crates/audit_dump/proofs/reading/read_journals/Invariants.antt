use Rattle.std.proofs.Common.{◌≡◌, [], List, length}
use Rattle.journal_record.specs.Items.{Item}
use Rattle.audit_dump.specs.Journals.{AreKept, HasWalked}
use Rattle.audit_dump.specs.Prepared.{ArePrepared}
use Rattle.audit_dump.specs.Reading.{AreGood}
use Rattle.audit_dump.proofs.reading.read_journals.Given as goal

abbrev pub invariant-loop-read : goal.invariant-loop-read
invariant-loop-read g l = record {
  faults : (g.S.Source.state l.source).faults ≡ (g.S.Source.state l.fn.source).faults;
  walked : (items : List Item) × HasWalked (g.S.Source.state l.fn.source) (g.S.Source.state l.source) l.fn.window l.window items
      × AreGood (g.V.Verifier.shows l.fn.verifier) l.fn.front.id.0 l.fn.front.base [] items × AreKept l.fn.front.id l.fn.front.base items l.journals × (length items ≡ l.read);
  ahead : ArePrepared (g.V.Verifier.shows l.fn.verifier) l.fn.front.id.0 l.window.held l.queue;
}
