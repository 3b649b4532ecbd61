use Rattle.std.proofs.Common.{subst}
use Rattle.std.specs.Prelude.{IsSome}
use Rattle.ledger_bytes.specs.Causes.{Rose}
use Rattle.time_peg.specs.Entries.{IsList}
use Rattle.notary_ledger.proofs.SlotLaws.{images}
use Rattle.notary_ledger.specs.Slots.{MayList}
use Rattle.ledger_disk.specs.Disk.{MayLeave}
use Rattle.notary_ledger.proofs.local.LocalNotary.images_have_the_list.Goals as goal

pub returns-clause-images : goal.returns-clause-images
returns-clause-images g c told image left =
    let kept = c.self.invariant.sound in
    subst (λ v. MayLeave (g.D.Disk.state v.disk).bytes image → MayList v.entries v.half image) c.self.view_is (λ l. images _ _ _ image kept.list (kept.on_disk told) l) left

pub returns-clause-failed : goal.returns-clause-failed
returns-clause-failed g c = subst (λ v. IsSome v.half → Rose v.begun (g.D.Disk.state v.disk).faults) c.self.view_is c.self.invariant.failed

pub returns-clause-lawful : goal.returns-clause-lawful
returns-clause-lawful g c = subst (λ v. IsList v.entries) c.self.view_is c.self.invariant.sound.list
