use Rattle.std.proofs.Common.{sym, ◌∙◌}
use Rattle.dump_export.proofs.Items.{occulted_hides, others_show}
use Rattle.dump_export.proofs.journal.is_hidden.Goals as goal

pub returns-in-Occulted : goal.returns-in-Occulted
returns-in-Occulted c = λ h serves low high. occulted_hides h c.args.n (sym c.in-Occulted.is ∙ c.view.ensures h serves)

pub returns-in_default : goal.returns-in_default
returns-in_default c = λ h serves low high. others_show h c.args.n c.view.result low high (c.view.ensures h serves) c.in_default.not-Occulted
