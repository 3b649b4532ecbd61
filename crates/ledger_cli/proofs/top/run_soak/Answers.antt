use Rattle.std.proofs.Common.{refl}
use Rattle.ledger_soak.specs.declared.running.SoakEnd.TheVariants.{Done, WriteFault, NoMemory}
use Rattle.ledger_cli.proofs.top.run_soak.Goals as goal

pub returns-in-Done : goal.returns-in-Done
returns-in-Done g c = λ source disks notary. record { end = Done; ending_is = refl; soaked = rw c.in-Done.is at c.soak.ensures; source_is = refl; disks_are = refl; notary_is = refl }

pub returns-in-WriteFault : goal.returns-in-WriteFault
returns-in-WriteFault g c = λ source disks notary. record { end = WriteFault; ending_is = refl; soaked = rw c.in-WriteFault.is at c.soak.ensures; source_is = refl; disks_are = refl; notary_is = refl }

pub returns-in-NoMemory : goal.returns-in-NoMemory
returns-in-NoMemory g c = λ source disks notary. record { end = NoMemory; ending_is = refl; soaked = rw c.in-NoMemory.is at c.soak.ensures; source_is = refl; disks_are = refl; notary_is = refl }
