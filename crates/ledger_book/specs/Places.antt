-- What the next record must be, but for the number of its request.
use Rattle.std.specs.Prelude.{◌≡◌, ◌<◌, List, length, Option, None}
use Rattle.journal_record.specs.Entry.{Entry}
use Rattle.journal_record.specs.declared.header.Header.{Header}
use Rattle.ledger_model.specs.Clues.{next_ordinal, last_journal}
use Rattle.ledger_model.specs.History.{History}
use Rattle.ledger_model.specs.Judgements.{clues_full}
use Rattle.ledger_model.specs.Limits.{real_limits}
use Rattle.ledger_model.specs.Members.{members}
use Rattle.pseudo_genesis.specs.declared.base.Base.{Base}
use Rattle.ledger_model.specs.Behind.{HasRoomFor, clues_behind, count_behind, ordinal_in, previous_in}

-- the member is known, the clue's numbers are the next ones, and there is room for the clue
pub record HasNextPlace (h : History) (x : Header) : Type 0 where
  pub member : x.member < length (members h)
  pub clue_ord : x.clue_ord ≡ next_ordinal h x.clue
  pub clue_prev : x.clue_prev ≡ last_journal h x.clue
  pub room : clues_full real_limits h x.clue ≡ None

-- the same behind a base
pub record HasPlaceBehind (start : Option Base) (journals : List Entry) (x : Header) : Type 0 where
  pub member : x.member < count_behind start journals
  pub clue_ord : x.clue_ord ≡ ordinal_in (clues_behind start journals) x.clue
  pub clue_prev : x.clue_prev ≡ previous_in (clues_behind start journals) x.clue
  pub room : HasRoomFor real_limits.clues (clues_behind start journals) x.clue
