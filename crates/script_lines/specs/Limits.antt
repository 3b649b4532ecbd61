-- What a line that was read keeps to.
use Rattle.std.specs.Prelude.{◌&&◌, nat_le, Bool, true, false, List, length, Result, Ok, Err}
use Rattle.std.specs.List.{list_all}
use Rattle.ledger_bytes.specs.declared.limits.TheConstants.{APPROVAL_LIMIT, CONTENT_LIMIT, NAME_LIMIT, PROOF_LIMIT}
use Rattle.ledger_bytes.specs.declared.refusal.Refusal.{Refusal}
use Rattle.ledger_bytes.specs.declared.refusal.Refusal.TheVariants.{BadVerb, BadField, BadLane}
use Rattle.script_lines.specs.declared.line.Line.{Line}
use Rattle.script_lines.specs.declared.line.Line.TheVariants.{Append, NewMember, Anchor, Occult, OccultClue, Purge, Get, Prove, Extend, Clue, Head}
use Rattle.script_lines.specs.declared.said.SaidApproval.{SaidApproval}

-- there are no more approvals than a line may give, and no proof is longer than it may give
abbrev pub fits_approvals : List SaidApproval → Bool
fits_approvals given = nat_le (length given) APPROVAL_LIMIT && list_all (λ by. nat_le (length by.proof) PROOF_LIMIT) given

-- nothing in the line is longer than a line may give
abbrev pub fits_line : Line → Bool
fits_line (Append member clue content proof number) =
    nat_le (length clue) NAME_LIMIT && nat_le (length content) CONTENT_LIMIT && nat_le (length proof) PROOF_LIMIT
fits_line (NewMember number key proof) = nat_le (length proof) PROOF_LIMIT
fits_line Anchor = true
fits_line (Occult target leaf given) = fits_approvals given
fits_line (OccultClue name count given) = nat_le (length name) NAME_LIMIT && fits_approvals given
fits_line (Purge point root given) = fits_approvals given
fits_line (Get n) = true
fits_line (Prove n) = true
fits_line (Extend which m) = true
fits_line (Clue name) = nat_le (length name) NAME_LIMIT
fits_line Head = true

-- a refusal is one of a line's form: of its verb, a field or its lane
abbrev pub is_of_form : Refusal → Bool
is_of_form BadVerb = true
is_of_form (BadField column) = true
is_of_form BadLane = true
is_of_form _ = false

-- a line that was read keeps to its limits, or its refusal is one of a line's form
abbrev pub fits_what : Result Line Refusal → Bool
fits_what (Ok line) = fits_line line
fits_what (Err refusal) = is_of_form refusal
