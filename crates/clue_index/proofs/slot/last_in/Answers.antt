use Rattle.std.proofs.Common.{refl, sym}
use Rattle.clue_index.proofs.TrailLaws.{last_from_at}
use Rattle.clue_index.proofs.slot.last_in.Goals as goal

pub returns-in-Some : goal.returns-in-Some
returns-in-Some c = sym (last_from_at c.args.before c.args.jsns.now c.args.jsns.now c.in-Some.jsn.now refl c.in-Some.ensures.value)
