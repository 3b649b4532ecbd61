use Rattle.std.proofs.Common.{sym}
use Rattle.script_lines.proofs.Cuts.{end_from-parts}
use Rattle.script_lines.proofs.fields.Fields.end.Goals as goal

pub returns-in-Some-clause-ends : goal.returns-in-Some-clause-ends
returns-in-Some-clause-ends c =
    rw (← c.self.view_is, c.in-Some.is, c.bad_field.ensures) (sym (end_from-parts c.self.inside.column 32 c.in-Some.field-0.now))
