-- The rows of refusals of erasures, by what is known of the journal that is named.
use Rattle.std.specs.Prelude.{ℕ, List, Option}
use Rattle.ledger_bytes.specs.declared.digest.Digest.{Digest}
use Rattle.ledger_bytes.specs.declared.refusal.Refusal.{Refusal}
use Rattle.journal_record.specs.declared.approval.Approval.{Approval}
use Rattle.member_book.specs.Erasures.{occult_row, clue_occult_row, purge_row}
use Rattle.erase_rules.specs.declared.clue_occult.ClueFacts.{ClueFacts}
use Rattle.erase_rules.specs.declared.occult.OccultFacts.{OccultFacts}
use Rattle.erase_rules.specs.declared.purge.PurgeFacts.{PurgeFacts}

-- what an occult is refused for, in its order, by what is known of the journal that it names
abbrev pub row_of_occult : OccultFacts → List (List ℕ) → Digest → List Approval → List (Option Refusal)
row_of_occult facts known leaf given =
    occult_row facts.size facts.point facts.kind facts.by facts.leaf known facts.target leaf given

-- what an occult of so many records of a clue is refused for, in its order, by what is known of the clue
abbrev pub row_of_clue_occult : ClueFacts → List (List ℕ) → ℕ → List Approval → List (Option Refusal)
row_of_clue_occult facts known count given = clue_occult_row facts.count facts.shown known count given

-- what a purge is refused for, in its order, by what is known of the journal that it names; it needs the approvals of these
-- members
abbrev pub row_of_purge : PurgeFacts → List (List ℕ) → Digest → List ℕ → List Approval → List (Option Refusal)
row_of_purge facts known root needed given =
    purge_row facts.size facts.point facts.kind facts.root known needed facts.asked root given
