use Rattle.std.proofs.Common.{[], refl, ◌∙◌}
use Rattle.batch_committer.proofs.Opening.{told_at}
use Rattle.batch_committer.specs.World.{pair}
use Rattle.block_file.specs.FileView.{gate_of}
use Rattle.ledger_open.specs.Opening.{known_from}
use Rattle.twin_file.specs.Which.{in_a_of, file_of}
use Rattle.ledger_cli.specs.Surviving.{IsCarriedText, IsUncarried}
use Rattle.ledger_cli.proofs.AskLaws.{opened_tells}
use Rattle.ledger_cli.proofs.DumpLaws.{no_keys}
use Rattle.ledger_cli.proofs.OpeningLaws.{not_written}
use Rattle.ledger_cli.proofs.SurviveLaws.{none_read, unopened_read}
use Rattle.ledger_cli.proofs.surviving.carry_set.Goals as goal

pub returns-in-Ok : goal.returns-in-Ok
returns-in-Ok g c = λ notary.
    let o = c.in-Ok.opened in
    let r = c.in-Ok.ensures.ok in
    let counts = c.in-Ok.ensures.faults in
    let first = pair (g.D.Disk.state c.args.a.now) (g.D.Disk.state c.args.b.now) in
    let now = pair (g.D.Disk.state c.reopen.new.a) (g.D.Disk.state c.reopen.new.b) in
    let w = c.carry_in.ensures in record {
      read = w.read;
      consumed = w.consumed;
      has_read = w.has_read;
      opens = opened_tells g.D.Disk.tells (g.S.Source.state c.args.source.now) (g.S.Source.state c.carry_in.new.source) (g.K.Sink.state c.args.sink.now) (g.K.Sink.state c.carry_in.new.sink) notary notary first now
          (known_from o.book o.places.list (gate_of (file_of o.twin))) (in_a_of o.twin) r.0 r.1 (record { knows = r.2; told = told_at (in_a_of o.twin) _ _ _ c.in-Ok.ensures.told })
          (c.in-Ok.ensures.limits ∙ c.real.ensures) r.3 counts.0 counts.1 (IsCarriedText c.args.point w.read) (IsUncarried c.args.point w.read) c.carry_in.result w.carries;
      unasked = refl;
    }

pub returns-in-Err : goal.returns-in-Err
returns-in-Err g c = λ notary.
    rw c.from.ensures (record {
      read = [];
      consumed = none_read (g.S.Source.state c.args.source.now).left;
      has_read = unopened_read c.in-Err.error c.in-Err.ensures.only (g.S.Source.state c.args.source.now);
      opens = not_written no_keys g.D.Disk.tells (g.S.Source.state c.args.source.now) _ notary _ _ (IsCarriedText c.args.point []) (IsUncarried c.args.point []) c.in-Err.error c.in-Err.ensures.only c.in-Err.ensures.err
          c.in-Err.ensures.same c.in-Err.ensures.refused c.in-Err.ensures.synced c.in-Err.ensures.clean c.in-Err.ensures.faults;
      unasked = refl;
    })
