-- How a ledger shows a journal of which a receipt was written.
use Rattle.std.specs.Prelude.{◌≡◌, ◌⊎◌, ℕ, ◌<◌, true, Some, slice_get}
use Rattle.journal_record.specs.Entry.{Entry}
use Rattle.journal_record.specs.Header.{spelling}
use Rattle.ledger_bytes.specs.Digests.{digest}
use Rattle.ledger_bytes.specs.declared.digest.Digest.{Digest}
use Rattle.ledger_bytes.specs.declared.refusal.Refusal.TheVariants.{Purged}
use Rattle.ledger_model.specs.Getting.{get_reply}
use Rattle.ledger_model.specs.History.{History, journals, leaf_digest, point}
use Rattle.ledger_model.specs.Targets.{is_hidden}
use Rattle.script_lines.specs.declared.reply.Reply.TheVariants.{Whole, Occulted, Refused}

-- The history has the journal with this number and this leaf digest, and tells it: whole; or, where a journal hides its content, without
-- that; or, where a purge took it, at which point it was taken.
pub record IsShown (h : History) (jsn : ℕ) (leaf : Digest) : Type 0 where
  pub entry : Entry
  pub there : slice_get (journals h) jsn ≡ Some entry
  pub leaf_is : digest (leaf_digest entry) ≡ leaf
  pub told : (get_reply h jsn ≡ Whole (spelling entry.header) entry.content entry.who)
      ⊎ (((is_hidden h jsn ≡ true) × (get_reply h jsn ≡ Occulted (spelling entry.header) entry.who))
      ⊎ ((jsn < point h) × (get_reply h jsn ≡ Refused (Purged (point h)))))
