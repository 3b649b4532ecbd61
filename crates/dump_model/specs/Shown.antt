-- The dump of a ledger that stands for a history, beside a notary's list.
use Rattle.std.specs.Prelude.{ℕ, zero, suc, if◌then◌else◌, List, map, drop, Option, Some, None}
use Rattle.sha2.specs.Sha256.{sha256}
use Rattle.ledger_bytes.specs.Digests.{digest}
use Rattle.journal_record.specs.Entry.{Entry}
use Rattle.journal_record.specs.Items.{Item}
use Rattle.pseudo_genesis.specs.declared.base.Base.{Base}
use Rattle.tree_model.specs.Tree.{mth}
use Rattle.ledger_model.specs.Bases.{base_of}
use Rattle.ledger_model.specs.History.{History, journals, size, root, id, point}
use Rattle.ledger_model.specs.Targets.{is_hidden}
use Rattle.dump_model.specs.Dumps.{Dump}

-- what stands for the journals in front of a point: nothing where there are none, and else the history's base there
abbrev pub base_at : History → ℕ → Option Base
base_at h zero = None
base_at h (suc n) = Some (base_of h (suc n))

-- a journal as its ledger shows it: without its content where that is hidden
abbrev pub shown : History → Entry → Item
shown h journal =
    record {
      header = journal.header;
      body = if is_hidden h journal.header.jsn then None else Some journal.content;
      who = journal.who;
    }

-- The dump of a history and of a notary's list: the base at the point in force, all journals from there on, the head over all
-- journals, and all entries.
-- Example: of a history of four journals whose last is a purge to journal 2 it has the base at 2, the journals 2 and 3, and the
-- size 4.
unfoldable pub ledger_dump : History → List (List ℕ) → Dump
ledger_dump h entries =
    record {
      id = digest (id h);
      base = base_at h (point h);
      items = map (shown h) (drop (point h) (journals h));
      head = record { size = size h; root = digest (root h (size h)) };
      entries = entries;
      notary_root = digest (mth sha256 entries);
    }
