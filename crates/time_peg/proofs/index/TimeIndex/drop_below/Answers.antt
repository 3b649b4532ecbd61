use Rattle.std.proofs.Common.{rules, ◌∙◌, nat_le, subst, sym, ap}
use Rattle.std.proofs.lemmas.Fn.{filter_same}
use Rattle.time_peg.specs.Times.{Rises, marks_from}
use Rattle.time_peg.proofs.TimesLaws.{rises_filter}
use Rattle.time_peg.proofs.index.TimeIndex.drop_below.Goals as goal

pub invariant_of-self : goal.invariant_of-self
invariant_of-self c = subst Rises (sym (filter_same _ (λ m. nat_le c.args.p m.jsn) _ (λ x b f' k. search rules) _ _ c.retain.ensures.filtered)) (rises_filter _ _ c.self.invariant)

pub returns : goal.returns
returns c = filter_same _ (λ m. nat_le c.args.p m.jsn) _ (λ x b f' k. search rules) _ _ c.retain.ensures.filtered ∙ ap (marks_from c.args.p) c.self.view_is
