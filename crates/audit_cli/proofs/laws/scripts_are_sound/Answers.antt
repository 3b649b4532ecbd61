use Rattle.std.proofs.Common.{refl}
use Rattle.audit_cli.specs.Texts.{audit_text}
use Rattle.audit_cli.proofs.SoundLaws.{text_sound}
use Rattle.audit_cli.proofs.laws.scripts_are_sound.Goals as goal

pub returns : goal.returns
returns c hash lines makes = text_sound hash lines (audit_text hash lines) refl makes
