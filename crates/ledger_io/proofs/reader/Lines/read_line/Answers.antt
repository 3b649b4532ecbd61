use Rattle.std.proofs.lemmas.Bool.{false≢true}
use Rattle.ledger_io.proofs.ReadLemmas.{end_given}
use Rattle.ledger_io.proofs.reader.Lines.read_line.Goals as goal

pub returns-in-Ok-eq0-clause-gives : goal.returns-in-Ok-eq0-clause-gives
returns-in-Ok-eq0-clause-gives g c =
    let read = c.loop-line.invariant.1 in
    let more = c.in-Ok-eq0.ensures.fills in
    let kept = rw c.in-Ok-None.field-0-is at c.in-Ok-None.ensures in
    end_given _ _ _ _ c.loop-line.self c.take_line.new.self c.fill.new.self c.take_rest.new.self read.0 more.0 more.1 c.in-Ok-eq0.field-0 c.take_rest.result c.requires.unended c.requires.sound
    read.1 kept (λ e. false≢true (c.if-is_full.ensures.1 e)) more.2 more.3 more.4 c.in-Ok-eq0.field-0-test c.take_rest.ensures
