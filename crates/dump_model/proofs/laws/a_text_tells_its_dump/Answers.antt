use Rattle.dump_model.proofs.Texts.{same_text, whole_text}
use Rattle.dump_model.proofs.laws.a_text_tells_its_dump.Goals as goal

pub returns-clause-same : goal.returns-clause-same
returns-clause-same c = same_text

pub returns-clause-whole : goal.returns-clause-whole
returns-clause-whole c = whole_text
