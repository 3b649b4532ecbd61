use Rattle.std.proofs.Common.{ap, ◌∙◌}
use Rattle.std.proofs.lemmas.Result.{IfOk-weaker}
use Rattle.block_file.specs.FileView.{gate_of}
use Rattle.ledger_disk.specs.Disk.{State}
use Rattle.ledger_open.specs.Opening.{known_from}
use Rattle.ledger_open.proofs.MoreLaws.{known_again}
use Rattle.ledger_open.proofs.reading.read_file.Goals as goal

pub returns-clause-ok : goal.returns-clause-ok
returns-clause-ok g c = IfOk-weaker c.read_rest.result _ _ (λ read has.
    known_again g.D.Disk.tells (g.D.Disk.state c.begin_read.new.disk).bytes.seen (g.D.Disk.state c.args.disk.now).bytes.seen (known_from read.book read.places.list (gate_of c.read_rest.new.file))
    (λ told. ap (λ (s : State). s.seen) (c.in-Ok-begin_read.ensures.state told ∙ c.in-Ok.ensures.state told)) has) c.read_rest.ensures.ok
