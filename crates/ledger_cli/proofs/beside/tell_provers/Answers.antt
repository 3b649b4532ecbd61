use Rattle.std.proofs.Common.{List, ℕ, inl, subst, ◌∙◌}
use Rattle.batch_committer.specs.World.{pair}
use Rattle.ledger_disk.specs.Disk.{DiskState, settled_state}
use Rattle.ledger_io.specs.Outside.{outside}
use Rattle.ledger_io.specs.Runs.{Wrote}
use Rattle.std.specs.Prelude.{None, []}
use Rattle.ledger_cli.specs.Keeping.{new_notary}
use Rattle.ledger_cli.proofs.beside.tell_provers.Goals as goal

-- a text is written alike whatever the disks tell
abbrev a_disk : DiskState
a_disk = record { bytes = settled_state []; told = None; faults = 0 }

pub returns-in-Ok : goal.returns-in-Ok
returns-in-Ok g c = λ source.
    let s = c.write_text.ensures source (pair a_disk a_disk) new_notary in
    let text = c.in-Ok.ensures in
    inl (text.0, text.1, (s.plain, s.ending_is, subst (λ (t : List ℕ). Wrote t s.plain (outside source (g.K.Sink.state c.args.sink.now)) (outside source (g.K.Sink.state c.write_text.new.sink))) (c.as_slice.ensures.value ∙ text.2) s.wrote))
