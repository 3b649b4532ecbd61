-- Lemmas on which header is the next one of a history.
use Rattle.std.proofs.Common.{◌≡◌, ◌⊎◌, false, refl, inl, inr, []}
use Rattle.journal_record.specs.declared.header.Header.{Header}
use Rattle.journal_record.specs.declared.header.Kind.{Kind}
use Rattle.journal_record.specs.declared.header.Kind.TheVariants as kind
use Rattle.ledger_model.specs.Clues.{jsns_with, clue_count, next_ordinal, last_journal}
use Rattle.ledger_model.specs.History.{History, history, journals, point}
use Rattle.ledger_model.specs.Judgements.{clues_full}
use Rattle.ledger_model.specs.Lawful.{IsNextOf}
use Rattle.ledger_model.specs.Members.{members, is_member}
use Rattle.ledger_model.specs.Numbers.{numbered}
use Rattle.ledger_model.specs.Targets.{shown_with}

-- what is next doesn't depend on where blocks end
pub next_open : (h : History) (x : Header) (k : Kind) → IsNextOf h x k → IsNextOf (history [] (journals h)) x k
unfolding members next_ordinal last_journal jsns_with clues_full clue_count point numbered shown_with
next_open h x kind.Genesis own = tt
next_open h x kind.Content own = record { member = own.member; clue_ord = own.clue_ord; clue_prev = own.clue_prev; room = own.room; fresh = own.fresh }
next_open h x kind.Member own = own
next_open h x kind.Time own = tt
next_open h x kind.Occult own = record { kept = own.kept; before = own.before; target_is = own.target_is; shown = own.shown; leaf_is = own.leaf_is }
next_open h x kind.ClueOccult own = record { count = own.count; shown = own.shown }
next_open h x kind.Purge own = record { above = own.above; before = own.before; target_is = own.target_is }

pub next_closed : (h : History) (x : Header) (k : Kind) → IsNextOf (history [] (journals h)) x k → IsNextOf h x k
unfolding members next_ordinal last_journal jsns_with clues_full clue_count point numbered shown_with
next_closed h x kind.Genesis own = tt
next_closed h x kind.Content own = record { member = own.member; clue_ord = own.clue_ord; clue_prev = own.clue_prev; room = own.room; fresh = own.fresh }
next_closed h x kind.Member own = own
next_closed h x kind.Time own = tt
next_closed h x kind.Occult own = record { kept = own.kept; before = own.before; target_is = own.target_is; shown = own.shown; leaf_is = own.leaf_is }
next_closed h x kind.ClueOccult own = record { count = own.count; shown = own.shown }
next_closed h x kind.Purge own = record { above = own.above; before = own.before; target_is = own.target_is }

-- a journal admits a member, or doesn't
pub kind_cases : (k : Kind) → (is_member k ≡ false) ⊎ (k ≡ kind.Member)
kind_cases kind.Genesis = inl refl
kind_cases kind.Content = inl refl
kind_cases kind.Member = inr refl
kind_cases kind.Time = inl refl
kind_cases kind.Occult = inl refl
kind_cases kind.ClueOccult = inl refl
kind_cases kind.Purge = inl refl
