use Rattle.std.proofs.Common.{Some, sym, ap, ◌∙◌}
use Rattle.audit_core.proofs.Truths.{extension_true, extension_of}
use Rattle.audit_core.proofs.laws.extension_is_true.Goals as goal

pub returns-clause-list : goal.returns-clause-list
returns-clause-list c hash which m head bytes trust list makes it size_is root_is =
    extension_true hash makes list m head.size it.old.0 bytes size_is (it.leads ∙ ap Some (sym root_is))

pub returns-clause-extends : goal.returns-clause-extends
returns-clause-extends c hash which m head bytes trust none = extension_of hash which m head bytes trust none
