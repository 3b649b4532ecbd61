-- Which record has a member's number, and what refuses a record by who asks.
use Rattle.std.specs.Prelude.{◌≡◌, ℕ, ◌≤◌, [], ◌∷◌, slice_get, Option, Some}
use Rattle.ledger_bytes.specs.declared.digest.Digest.{Digest}
use Rattle.ledger_bytes.specs.declared.refusal.Refusal.{Refusal}
use Rattle.journal_record.specs.Entry.{Entry}
use Rattle.journal_record.specs.declared.header.Kind.TheVariants as kind
use Rattle.member_book.specs.Erasures.{first_refusal}
use Rattle.ledger_model.specs.History.{History, journals, point}
use Rattle.ledger_model.specs.Judgements.{unknown_in, wrong_key_in}
use Rattle.ledger_model.specs.Members.{keys}

-- Journal n of a history is a record of this member with this number, and no purge took it. `a_number_is_one_record` says that in a
-- lawful history there is no other.
-- Example: member 2 placed journal 5 with its number 7, and no purge goes to 6 or further. Then journal 5 is kept as the record
-- 7 of member 2.
pub record IsKeptRecord (h : History) (member number n : ℕ) : Type 0 where
  pub journal : Entry
  pub there : slice_get (journals h) n ≡ Some journal
  pub kept : point h ≤ n
  pub kind_is : journal.header.kind ≡ kind.Content
  pub member_is : journal.header.member ≡ member
  pub number_is : journal.header.a ≡ number

-- what refuses a member's record by who asks alone: no such member, or another key than the member's
abbrev pub who_refusal : History → ℕ → Option Digest → Option Refusal
who_refusal h member shown = first_refusal (unknown_in (keys h) member ∷ wrong_key_in (keys h) member shown ∷ [])
