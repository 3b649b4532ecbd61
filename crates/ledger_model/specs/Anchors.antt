-- Journals that tell a time: what the notary is to stamp for one, and what it gave.
use Rattle.std.specs.Prelude.{ℕ, ◌||◌, Bool, if◌then◌else◌, List, [], ◌∷◌, length, drop, nat_le, Option, Some, None}
use Rattle.sha2.specs.Sha256.{sha256}
use Rattle.ledger_bytes.specs.Digests.{digest}
use Rattle.ledger_bytes.specs.declared.refusal.Refusal.{Refusal}
use Rattle.ledger_bytes.specs.declared.refusal.Refusal.TheVariants.{NotaryFault, NotaryFull}
use Rattle.journal_record.specs.Entry.{Entry}
use Rattle.journal_record.specs.declared.header.Header.{Header}
use Rattle.journal_record.specs.declared.header.Kind.TheVariants as kind
use Rattle.journal_record.specs.declared.rules.TheConstants.{NOTARY_LIMIT}
use Rattle.journal_record.specs.declared.stamp.Stamp.{Stamp}
use Rattle.time_peg.specs.Entries.{peg_string, time_in}
use Rattle.ledger_model.specs.Headers.{plain_header}
use Rattle.ledger_model.specs.History.{History, id, root}
use Rattle.ledger_model.specs.Step.{Step}

-- what the notary stamps for the first m journals: the digest of the ledger's id, of m, and of the root over them
unfoldable pub peg_at : History → ℕ → List ℕ
peg_at h m = sha256 (peg_string (id h) m (root h m))

-- the header of a time journal that is journal jsn
unfoldable pub time_header : ℕ → Stamp → Header
time_header jsn stamp = plain_header kind.Time jsn stamp.index stamp.time stamp.salt []

-- the time journal with this number and this stamp: it has no content, and nobody approves it
abbrev pub time_journal : ℕ → Stamp → Entry
time_journal jsn stamp = record { header = time_header jsn stamp; content = []; who = [] }

-- the stamp that the first of some entries is, where there is one: its place in the notary's list, and its time and salt
abbrev pub stamp_from : ℕ → List (List ℕ) → Option Stamp
stamp_from index [] = None
stamp_from index (e ∷ es) = Some (record { index = index; time = time_in e; salt = digest (drop 40 e) })

-- whether the notary's list has as many entries as it may have, so that no further anchor gets a stamp
abbrev pub is_full_list : List (List ℕ) → Bool
is_full_list es = nat_le NOTARY_LIMIT (length es)

-- the stamp that the notary gave in a step: the entry that it added, unless it failed or its list was full
unfoldable pub stamp_of : Step → Option Stamp
stamp_of step =
    if step.failed || is_full_list step.before then None else stamp_from (length step.before) (drop (length step.before) step.after)

-- why the notary gave no stamp in a step, as it is told: its list was full, or it failed
abbrev pub no_stamp : Step → Refusal
no_stamp step = if is_full_list step.before then NotaryFull else NotaryFault
