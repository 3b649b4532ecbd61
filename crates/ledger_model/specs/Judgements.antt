-- What is looked at before a job is accepted, in its order.
use Rattle.std.specs.Prelude.{ℕ, ◌-◌, ◌==◌, ◌&&◌, ◌||◌, Bool, not, if◌then◌else◌, List, [], ◌∷◌, length, slice_get, Option, Some, None, nat_le}
use Rattle.ledger_bytes.specs.Digests.{digest}
use Rattle.ledger_bytes.specs.declared.digest.Digest.{Digest}
use Rattle.ledger_bytes.specs.declared.refusal.Refusal.{Refusal}
use Rattle.ledger_bytes.specs.declared.refusal.Refusal.TheVariants.{Full, UnknownMember, WrongKey, CluesFull}
use Rattle.journal_record.specs.Members.{is_known, is_key_of, number_refusal}
use Rattle.journal_record.specs.Rules.{is_no_clue}
use Rattle.journal_record.specs.declared.approval.Approval.{Approval}
use Rattle.member_book.specs.Erasures.{occult_row, clue_occult_row, purge_row, first_refusal}
use Rattle.script_lines.specs.declared.said.Which.TheVariants.{Ledger, Notary}
use Rattle.ledger_model.specs.Clues.{jsns_with, clue_count}
use Rattle.ledger_model.specs.History.{History, size, point, root}
use Rattle.ledger_model.specs.Members.{members, keys}
use Rattle.ledger_model.specs.Needs.{purge_needs}
use Rattle.ledger_model.specs.Numbers.{number_taken, repeated, unless_repeated}
use Rattle.ledger_model.specs.Proofs.{prove_refusal, extend_refusal}
use Rattle.ledger_model.specs.Targets.{kind_at, leaf_at, hider, shown_with}
use Rattle.ledger_model.specs.declared.job.Job.{Job}
use Rattle.ledger_model.specs.declared.job.Job.TheVariants.{Refused, Append, NewMember, Anchor, Occult, OccultClue, Purge, Ask}
use Rattle.ledger_model.specs.declared.limits.Limits.{Limits}
use Rattle.ledger_model.specs.declared.outcome.Query.{Query}
use Rattle.ledger_model.specs.declared.outcome.Query.TheVariants.{Get, Prove, Extend, Clue, Head}

-- how many journals of a history are kept, which are those from the point on
abbrev pub kept_count : History → ℕ
kept_count h = size h - point h

-- whether at least so many journals are kept, or there are as many over the whole life as there may be
abbrev pub is_full : ℕ → Limits → History → Bool
is_full most limits h = nat_le most (kept_count h) || nat_le limits.size (size h)

-- the refusal for want of room for a journal of a member, who may fill a ledger up to the softer limit
unfoldable pub fullness : Limits → History → Option Refusal
fullness limits h = if is_full limits.soft limits h then Some (Full (kept_count h) (size h)) else None

-- the refusal for want of room for a journal of the operator: an anchor or an occult may use what members have to leave
unfoldable pub hard_fullness : Limits → History → Option Refusal
hard_fullness limits h = if is_full limits.hard limits h then Some (Full (kept_count h) (size h)) else None

-- the refusal where a ledger has all journals that it may have over its whole life; how many are kept isn't looked at
unfoldable pub life_fullness : Limits → History → Option Refusal
life_fullness limits h = if nat_le limits.size (size h) then Some (Full (kept_count h) (size h)) else None

-- the refusal where among members with these keys there is none with this number
abbrev pub unknown_in : List (List ℕ) → ℕ → Option Refusal
unknown_in known member = if is_known known member then None else Some (UnknownMember member)

-- the refusal where a proof doesn't show the key of the member with this number
abbrev pub wrong_key_in : List (List ℕ) → ℕ → Option Digest → Option Refusal
wrong_key_in known member shown = if is_key_of shown (slice_get known member) then None else Some (WrongKey member)

-- the refusal where a clue is a new one, and there are as many different clues as there may be
unfoldable pub clues_full : Limits → History → Digest → Option Refusal
clues_full limits h clue =
    if not (is_no_clue clue) && length (jsns_with h clue) == 0 && nat_le limits.clues (clue_count h)
    then Some CluesFull
    else None

-- What may refuse a member's record whose proof shows this key, in its order: no such member, another key, a number of another
-- request; and where it repeats none, no room, and no room for its clue.
abbrev pub append_judgements : Limits → History → ℕ → Digest → ℕ → Digest → Option Digest → List (Option Refusal)
append_judgements limits h member clue number request shown =
    unknown_in (keys h) member
    ∷ wrong_key_in (keys h) member shown
    ∷ number_taken h member number request
    ∷ unless_repeated (repeated h member number request) (fullness limits h)
    ∷ unless_repeated (repeated h member number request) (clues_full limits h clue)
    ∷ []

-- what may refuse a new member, where the proof of member 0 shows this key, in its order: no room, another number than the
-- next, another key
abbrev pub member_judgements : Limits → History → ℕ → Option Digest → List (Option Refusal)
member_judgements limits h number shown =
    fullness limits h ∷ number_refusal (members h) number ∷ wrong_key_in (keys h) 0 shown ∷ []

-- what may refuse an occult of this target, with its leaf digest and these approvals: no room, and then the rows of an
-- occult
abbrev pub occult_judgements : Limits → History → ℕ → Digest → List Approval → List (Option Refusal)
occult_judgements limits h target leaf given =
    hard_fullness limits h
    ∷ occult_row (size h) (point h) (kind_at h target) (hider h target) (digest (leaf_at h target)) (keys h) target leaf given

-- what may refuse an occult of so many records of this clue, with these approvals: no room, and then the rows of an occult by
-- clue. A name that is no clue has no records
abbrev pub clue_occult_judgements : Limits → History → Digest → ℕ → List Approval → List (Option Refusal)
clue_occult_judgements limits h clue count given =
    hard_fullness limits h
    ∷ clue_occult_row (length (jsns_with h clue)) (length (shown_with h clue)) (keys h) count given

-- What may refuse a purge to journal p, where the root over the journals in front of it is told to be this one, with these
-- approvals. It takes more journals than it places, so there is room for it as long as there is over the whole life.
abbrev pub purge_judgements : Limits → History → ℕ → Digest → List Approval → List (Option Refusal)
purge_judgements limits h p told given =
    life_fullness limits h
    ∷ purge_row (size h) (point h) (kind_at h p) (digest (root h p)) (keys h) (purge_needs h p) p told given

-- what may refuse what is asked, in its order: an earlier size of the notary's list is judged by the notary's answer
abbrev pub ask_judgements : History → Query → List (Option Refusal)
ask_judgements h (Get n) = []
ask_judgements h (Prove n) = prove_refusal h n ∷ []
ask_judgements h (Extend Ledger m) = extend_refusal h m ∷ []
ask_judgements h (Extend Notary m) = []
ask_judgements h (Clue clue) = []
ask_judgements h Head = []

-- what may refuse a job by the history alone, in its order: one equation for each kind of job
abbrev pub own_judgements : Limits → History → Job → List (Option Refusal)
own_judgements limits h (Refused refusal) = Some refusal ∷ []
own_judgements limits h (Append member clue content content_digest request by who number) = append_judgements limits h member clue number request by.key
own_judgements limits h (NewMember number key by) = member_judgements limits h number by.key
own_judgements limits h Anchor = hard_fullness limits h ∷ []
own_judgements limits h (Occult target leaf given) = occult_judgements limits h target leaf given
own_judgements limits h (OccultClue clue count given) = clue_occult_judgements limits h clue count given
own_judgements limits h (Purge p told given) = purge_judgements limits h p told given
own_judgements limits h (Ask query) = ask_judgements h query

-- why a job is refused by the history alone: the first that is there of all that may refuse it
abbrev pub own_refusal : Limits → History → Job → Option Refusal
own_refusal limits h job = first_refusal (own_judgements limits h job)
