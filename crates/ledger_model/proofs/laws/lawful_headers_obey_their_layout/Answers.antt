use Rattle.ledger_model.specs.History.{journals}
use Rattle.ledger_model.proofs.LawfulLaws.{lawful_from, from_layout}
use Rattle.ledger_model.proofs.laws.lawful_headers_obey_their_layout.Goals as goal

pub returns : goal.returns
returns c = λ h lawful. from_layout 0 (journals h) (lawful_from (journals h) lawful.journals_are)
