-- Whose approvals a purge needs.
use Rattle.std.specs.Prelude.{◌≡◌, ℕ, ◌==◌, ◌&&◌, Bool, List, ◌∷◌, map, filter, nat_le, nat_lt}
use Rattle.std.specs.List.{list_any}
use Rattle.journal_record.specs.Entry.{Entry}
use Rattle.member_book.specs.Erasures.{is_record}
use Rattle.ledger_model.specs.History.{History, journals, point}

-- whether a purge that moves the point from one journal to another takes this journal, and it is a member's record
abbrev pub is_taken : ℕ → ℕ → Entry → Bool
is_taken from to journal =
    is_record journal.header.kind && nat_le from journal.header.jsn && nat_lt journal.header.jsn to

-- The members whose approvals a purge to journal p needs: the operator, and of each record that it takes the member who
-- placed it, as often as there are such records. `a_purge_is_approved` says that they approved one that is accepted.
abbrev pub purge_needs : History → ℕ → List ℕ
purge_needs h p =
    0 ∷ map (λ journal. journal.header.member) (filter (is_taken (point h) p) (journals h))

-- whether a number is among some
abbrev pub is_among : ℕ → List ℕ → Bool
is_among n numbers = list_any (λ m. m == n) numbers

-- The same numbers are in two lists, in whatever order and however often. `needs_are_a_set` says that no more counts of
-- those who are needed.
abbrev pub HaveSame : List ℕ → List ℕ → Type 0
HaveSame xs ys = (n : ℕ) → is_among n xs ≡ is_among n ys
