-- The two halves of what may refuse a member's record: what is asked, and whether there is room for it.
use Rattle.std.specs.Prelude.{ℕ, List, [], ◌∷◌, Option}
use Rattle.ledger_bytes.specs.declared.digest.Digest.{Digest}
use Rattle.ledger_bytes.specs.declared.refusal.Refusal.{Refusal}
use Rattle.ledger_model.specs.History.{History}
use Rattle.ledger_model.specs.Judgements.{fullness, unknown_in, wrong_key_in, clues_full}
use Rattle.ledger_model.specs.Members.{keys}
use Rattle.ledger_model.specs.Numbers.{number_taken}
use Rattle.ledger_model.specs.declared.limits.Limits.{Limits}

-- what may refuse a request, in its order: no such member, another key, a number of another request
abbrev pub request_judgements : History → ℕ → ℕ → Digest → Option Digest → List (Option Refusal)
request_judgements h member number request shown =
    unknown_in (keys h) member ∷ wrong_key_in (keys h) member shown ∷ number_taken h member number request ∷ []

-- what may refuse a record that repeats none, in its order: no room, and no room for its clue
abbrev pub room_judgements : Limits → History → Digest → List (Option Refusal)
room_judgements limits h clue = fullness limits h ∷ clues_full limits h clue ∷ []
