use Rattle.std.proofs.Common.{◌<◌, subst, sym}
use Rattle.std.specs.List.{AllByRecursion}
use Rattle.time_peg.specs.Times.{Rises}
use Rattle.time_peg.proofs.TimesLaws.{rises_push}
use Rattle.time_peg.proofs.index.TimeIndex.add.Goals as goal

pub invariant_of-self-2 : goal.invariant_of-self-2
invariant_of-self-2 c = subst Rises (sym c.in_ok-push.ensures.items) (rises_push _ _ c.self.invariant (subst (AllByRecursion (λ m. m.jsn < c.args.mark.jsn)) (sym c.self.view_is) c.requires))
