-- What an erasure is refused for, in its order: its target, and then the approvals.
use Rattle.std.specs.Prelude.{ℕ, ◌==◌, ◌&&◌, Bool, true, false, if◌then◌else◌, List, [], ◌∷◌, ◌++◌, nat_lt, nat_le, bytes_eq, Option, Some, None, option_map}
use Rattle.ledger_bytes.specs.declared.digest.Digest.{Digest}
use Rattle.ledger_bytes.specs.declared.refusal.Refusal.{Refusal}
use Rattle.ledger_bytes.specs.declared.refusal.Refusal.TheVariants.{NoJournal, Purged, NotData, NotTime, AlreadyOcculted, LeafDiffers, RootDiffers, ClueDiffers, NothingToHide}
use Rattle.journal_record.specs.Header.{code_of}
use Rattle.journal_record.specs.declared.approval.Approval.{Approval}
use Rattle.journal_record.specs.declared.header.Kind.{Kind}
use Rattle.journal_record.specs.declared.header.Kind.TheVariants as kinds
use Rattle.member_book.specs.Approvals.{approvals_refusal}

-- among so many journals there is none with this number
abbrev pub absent : ℕ → ℕ → Option Refusal
absent size n = if nat_le size n then Some (NoJournal size) else None

-- the journal with this number was purged: it is below the point
abbrev pub purged : ℕ → ℕ → Option Refusal
purged point n = if nat_lt n point then Some (Purged point) else None

-- a purge to this journal would take nothing: it is below the point of an earlier purge, or is that point
abbrev pub purged_up_to : ℕ → ℕ → Option Refusal
purged_up_to point n = if nat_lt 0 point && nat_le n point then Some (Purged point) else None

-- a kind is that of a member's record
abbrev pub is_record : Kind → Bool
is_record kinds.Content = true
is_record other = false

-- a journal of this kind is no member's record
abbrev pub no_record : Kind → Option Refusal
no_record kind = if is_record kind then None else Some (NotData (code_of kind))

-- a kind is that of time journals
abbrev pub is_time : Kind → Bool
is_time kinds.Time = true
is_time other = false

-- a journal of this kind tells no time
abbrev pub no_time : Kind → Option Refusal
no_time kind = if is_time kind then None else Some (NotTime (code_of kind))

-- the content is hidden already, by this journal
abbrev pub hidden_by : Option ℕ → Option Refusal
hidden_by hider = option_map (λ jsn. AlreadyOcculted jsn) hider

-- another leaf digest is kept than the one that was given
abbrev pub other_leaf : Digest → Digest → Option Refusal
other_leaf kept leaf = if bytes_eq leaf.0 kept.0 then None else Some (LeafDiffers kept)

-- another root is kept than the one that was given
abbrev pub other_root : Digest → Digest → Option Refusal
other_root kept root = if bytes_eq root.0 kept.0 then None else Some (RootDiffers kept)

-- what an occult of this target is refused for before its approvals are looked at
abbrev pub target_row : ℕ → ℕ → Kind → Option ℕ → Digest → ℕ → Digest → List (Option Refusal)
target_row size point kind hider kept target leaf =
    absent size target ∷ purged point target ∷ no_record kind ∷ hidden_by hider ∷ other_leaf kept leaf ∷ []

-- what an occult is refused for, where these are the keys of the members: it needs the approvals of the operator and of
-- the regulator
abbrev pub occult_row : ℕ → ℕ → Kind → Option ℕ → Digest → List (List ℕ) → ℕ → Digest → List Approval → List (Option Refusal)
occult_row size point kind hider kept known target leaf given =
    target_row size point kind hider kept target leaf ++ approvals_refusal known given (0 ∷ 1 ∷ []) ∷ []

-- a clue has another number of records than the one that was given
abbrev pub clue_differs : ℕ → ℕ → Option Refusal
clue_differs count given = if count == given then None else Some (ClueDiffers count)

-- none of a clue's records is kept and shown
abbrev pub nothing_shown : ℕ → Option Refusal
nothing_shown shown = if shown == 0 then Some NothingToHide else None

-- what an occult by clue is refused for before its approvals are looked at
abbrev pub clue_row : ℕ → ℕ → ℕ → List (Option Refusal)
clue_row count shown asked = clue_differs count asked ∷ nothing_shown shown ∷ []

-- what an occult of so many records of a clue is refused for, where the clue has this number of records, of which so many are kept
-- and shown, and these are the keys of the members: it needs the approvals of the operator and of the regulator
abbrev pub clue_occult_row : ℕ → ℕ → List (List ℕ) → ℕ → List Approval → List (Option Refusal)
clue_occult_row count shown known asked given =
    clue_row count shown asked ++ approvals_refusal known given (0 ∷ 1 ∷ []) ∷ []

-- what a purge to this journal is refused for before its approvals are looked at
abbrev pub point_row : ℕ → ℕ → Kind → Digest → ℕ → Digest → List (Option Refusal)
point_row size point kind kept asked root =
    absent size asked ∷ purged_up_to point asked ∷ no_time kind ∷ other_root kept root ∷ []

-- what a purge is refused for, where these are the keys of the members and the approvals of these members are needed:
-- of the operator, and of each that owns a record that the purge takes
abbrev pub purge_row : ℕ → ℕ → Kind → Digest → List (List ℕ) → List ℕ → ℕ → Digest → List Approval → List (Option Refusal)
purge_row size point kind kept known needed asked root given =
    point_row size point kind kept asked root ++ approvals_refusal known given needed ∷ []

-- the first refusal of a row, where there is one
abbrev pub first_refusal : List (Option Refusal) → Option Refusal
first_refusal [] = None
first_refusal (Some refusal ∷ rest) = Some refusal
first_refusal (None ∷ rest) = first_refusal rest
