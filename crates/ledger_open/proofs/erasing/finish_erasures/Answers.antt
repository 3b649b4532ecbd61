use Rattle.std.proofs.Common.{sym, ◌∙◌}
use Rattle.ledger_disk.specs.Disk.{DiskState}
use Rattle.twin_file.specs.Which.{in_a_of}
use Rattle.ledger_open.specs.Erasing.{GivesUp, StandsMeanwhile, LeavesShown, LeavesErased, LeavesRest}
use Rattle.ledger_open.proofs.FinishLaws.{are_of, of_first, of_second, given}
use Rattle.ledger_open.proofs.erasing.finish_erasures.Goals as goal

pub returns-in-Ok-clause-ok : goal.returns-in-Ok-clause-ok
returns-in-Ok-clause-ok g c = λ tells.
    of_first (λ (old new : DiskState). GivesUp c.args.opened.now.book c.args.opened.now.places.list old.bytes new.bytes) (in_a_of c.args.opened.now.twin) (g.D.Disk.state c.args.a.now) (g.D.Disk.state c.args.b.now) (g.D.Disk.state c.finish_in.new.disk) (sym c.in_a.ensures ∙ c.if-in_a.true)
    (λ h e quiet stands at. given c.args.opened.now.book c.args.opened.now.places.list (g.D.Disk.state c.args.a.now).bytes (g.D.Disk.state c.finish_in.new.disk).bytes h e quiet stands at (c.in-Ok.ensures.bytes tells h (are_of c.args.opened.now.book c.args.opened.now.places.list h e) quiet))

pub returns-in-Ok-finish_in-clause-ok : goal.returns-in-Ok-finish_in-clause-ok
returns-in-Ok-finish_in-clause-ok g c = λ tells.
    of_second (λ (old new : DiskState). GivesUp c.args.opened.now.book c.args.opened.now.places.list old.bytes new.bytes) (in_a_of c.args.opened.now.twin) (g.D.Disk.state c.args.a.now) (g.D.Disk.state c.args.b.now) (g.D.Disk.state c.finish_in-else-in_a.new.disk) (sym c.in_a.ensures ∙ c.if-in_a.false)
    (λ h e quiet stands at. given c.args.opened.now.book c.args.opened.now.places.list (g.D.Disk.state c.args.b.now).bytes (g.D.Disk.state c.finish_in-else-in_a.new.disk).bytes h e quiet stands at (c.in-Ok-finish_in.ensures.bytes tells h (are_of c.args.opened.now.book c.args.opened.now.places.list h e) quiet))

pub returns-in-Ok-clause-images : goal.returns-in-Ok-clause-images
returns-in-Ok-clause-images g c = λ tells.
    of_first (λ (old new : DiskState). StandsMeanwhile c.args.opened.now.book c.args.opened.now.places.list old.bytes new.bytes) (in_a_of c.args.opened.now.twin) (g.D.Disk.state c.args.a.now) (g.D.Disk.state c.args.b.now) (g.D.Disk.state c.finish_in.new.disk) (sym c.in_a.ensures ∙ c.if-in_a.true)
    (c.finish_in.ensures.images tells)

pub returns-in-Ok-finish_in-clause-images : goal.returns-in-Ok-finish_in-clause-images
returns-in-Ok-finish_in-clause-images g c = λ tells.
    of_second (λ (old new : DiskState). StandsMeanwhile c.args.opened.now.book c.args.opened.now.places.list old.bytes new.bytes) (in_a_of c.args.opened.now.twin) (g.D.Disk.state c.args.a.now) (g.D.Disk.state c.args.b.now) (g.D.Disk.state c.finish_in-else-in_a.new.disk) (sym c.in_a.ensures ∙ c.if-in_a.false)
    (c.finish_in-else-in_a.ensures.images tells)

pub returns-in-Err-clause-images : goal.returns-in-Err-clause-images
returns-in-Err-clause-images g c = λ tells.
    of_first (λ (old new : DiskState). StandsMeanwhile c.args.opened.now.book c.args.opened.now.places.list old.bytes new.bytes) (in_a_of c.args.opened.now.twin) (g.D.Disk.state c.args.a.now) (g.D.Disk.state c.args.b.now) (g.D.Disk.state c.finish_in.new.disk) (sym c.in_a.ensures ∙ c.if-in_a.true)
    (c.finish_in.ensures.images tells)

pub returns-in-Err-finish_in-clause-images : goal.returns-in-Err-finish_in-clause-images
returns-in-Err-finish_in-clause-images g c = λ tells.
    of_second (λ (old new : DiskState). StandsMeanwhile c.args.opened.now.book c.args.opened.now.places.list old.bytes new.bytes) (in_a_of c.args.opened.now.twin) (g.D.Disk.state c.args.a.now) (g.D.Disk.state c.args.b.now) (g.D.Disk.state c.finish_in-else-in_a.new.disk) (sym c.in_a.ensures ∙ c.if-in_a.false)
    (c.finish_in-else-in_a.ensures.images tells)

pub returns-in-Ok-clause-idle : goal.returns-in-Ok-clause-idle
returns-in-Ok-clause-idle g c = λ tells.
    of_first (λ (old new : DiskState). LeavesErased c.args.opened.now.book c.args.opened.now.places.list old.bytes new.bytes) (in_a_of c.args.opened.now.twin) (g.D.Disk.state c.args.a.now) (g.D.Disk.state c.args.b.now) (g.D.Disk.state c.finish_in.new.disk) (sym c.in_a.ensures ∙ c.if-in_a.true)
    (c.finish_in.ensures.idle tells)

pub returns-in-Ok-finish_in-clause-idle : goal.returns-in-Ok-finish_in-clause-idle
returns-in-Ok-finish_in-clause-idle g c = λ tells.
    of_second (λ (old new : DiskState). LeavesErased c.args.opened.now.book c.args.opened.now.places.list old.bytes new.bytes) (in_a_of c.args.opened.now.twin) (g.D.Disk.state c.args.a.now) (g.D.Disk.state c.args.b.now) (g.D.Disk.state c.finish_in-else-in_a.new.disk) (sym c.in_a.ensures ∙ c.if-in_a.false)
    (c.finish_in-else-in_a.ensures.idle tells)

pub returns-in-Ok-clause-shown : goal.returns-in-Ok-clause-shown
returns-in-Ok-clause-shown g c = λ tells.
    of_first (λ (old new : DiskState). LeavesShown c.args.opened.now.book c.args.opened.now.places.list old.bytes new.bytes) (in_a_of c.args.opened.now.twin) (g.D.Disk.state c.args.a.now) (g.D.Disk.state c.args.b.now) (g.D.Disk.state c.finish_in.new.disk) (sym c.in_a.ensures ∙ c.if-in_a.true)
    (c.finish_in.ensures.shown tells)

pub returns-in-Ok-finish_in-clause-shown : goal.returns-in-Ok-finish_in-clause-shown
returns-in-Ok-finish_in-clause-shown g c = λ tells.
    of_second (λ (old new : DiskState). LeavesShown c.args.opened.now.book c.args.opened.now.places.list old.bytes new.bytes) (in_a_of c.args.opened.now.twin) (g.D.Disk.state c.args.a.now) (g.D.Disk.state c.args.b.now) (g.D.Disk.state c.finish_in-else-in_a.new.disk) (sym c.in_a.ensures ∙ c.if-in_a.false)
    (c.finish_in-else-in_a.ensures.shown tells)

pub returns-in-Err-clause-shown : goal.returns-in-Err-clause-shown
returns-in-Err-clause-shown g c = λ tells.
    of_first (λ (old new : DiskState). LeavesShown c.args.opened.now.book c.args.opened.now.places.list old.bytes new.bytes) (in_a_of c.args.opened.now.twin) (g.D.Disk.state c.args.a.now) (g.D.Disk.state c.args.b.now) (g.D.Disk.state c.finish_in.new.disk) (sym c.in_a.ensures ∙ c.if-in_a.true)
    (c.finish_in.ensures.shown tells)

pub returns-in-Err-finish_in-clause-shown : goal.returns-in-Err-finish_in-clause-shown
returns-in-Err-finish_in-clause-shown g c = λ tells.
    of_second (λ (old new : DiskState). LeavesShown c.args.opened.now.book c.args.opened.now.places.list old.bytes new.bytes) (in_a_of c.args.opened.now.twin) (g.D.Disk.state c.args.a.now) (g.D.Disk.state c.args.b.now) (g.D.Disk.state c.finish_in-else-in_a.new.disk) (sym c.in_a.ensures ∙ c.if-in_a.false)
    (c.finish_in-else-in_a.ensures.shown tells)

pub returns-in-Ok-clause-rest : goal.returns-in-Ok-clause-rest
returns-in-Ok-clause-rest g c = λ tells.
    of_first (λ (old new : DiskState). LeavesRest c.args.opened.now.places.list old.bytes new.bytes) (in_a_of c.args.opened.now.twin) (g.D.Disk.state c.args.a.now) (g.D.Disk.state c.args.b.now) (g.D.Disk.state c.finish_in.new.disk) (sym c.in_a.ensures ∙ c.if-in_a.true)
    (c.finish_in.ensures.rest tells)

pub returns-in-Ok-finish_in-clause-rest : goal.returns-in-Ok-finish_in-clause-rest
returns-in-Ok-finish_in-clause-rest g c = λ tells.
    of_second (λ (old new : DiskState). LeavesRest c.args.opened.now.places.list old.bytes new.bytes) (in_a_of c.args.opened.now.twin) (g.D.Disk.state c.args.a.now) (g.D.Disk.state c.args.b.now) (g.D.Disk.state c.finish_in-else-in_a.new.disk) (sym c.in_a.ensures ∙ c.if-in_a.false)
    (c.finish_in-else-in_a.ensures.rest tells)

pub returns-in-Err-clause-rest : goal.returns-in-Err-clause-rest
returns-in-Err-clause-rest g c = λ tells.
    of_first (λ (old new : DiskState). LeavesRest c.args.opened.now.places.list old.bytes new.bytes) (in_a_of c.args.opened.now.twin) (g.D.Disk.state c.args.a.now) (g.D.Disk.state c.args.b.now) (g.D.Disk.state c.finish_in.new.disk) (sym c.in_a.ensures ∙ c.if-in_a.true)
    (c.finish_in.ensures.rest tells)

pub returns-in-Err-finish_in-clause-rest : goal.returns-in-Err-finish_in-clause-rest
returns-in-Err-finish_in-clause-rest g c = λ tells.
    of_second (λ (old new : DiskState). LeavesRest c.args.opened.now.places.list old.bytes new.bytes) (in_a_of c.args.opened.now.twin) (g.D.Disk.state c.args.a.now) (g.D.Disk.state c.args.b.now) (g.D.Disk.state c.finish_in-else-in_a.new.disk) (sym c.in_a.ensures ∙ c.if-in_a.false)
    (c.finish_in-else-in_a.ensures.rest tells)
