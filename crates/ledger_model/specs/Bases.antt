-- The base of a history at a journal: what a purge leaves of the journals in front of it.
use Rattle.std.specs.Prelude.{ℕ, List, [], ◌∷◌, map, filter, take, length, nat_le}
use Rattle.sha2.specs.Sha256.{sha256}
use Rattle.tree_model.specs.Peaks.{peaks}
use Rattle.ledger_bytes.specs.Digests.{digest}
use Rattle.ledger_bytes.specs.Tags.{byte_of}
use Rattle.ledger_bytes.specs.declared.tag.Tag.TheVariants as tag
use Rattle.clue_index.specs.Added.{Mark, Added, states_at}
use Rattle.journal_record.specs.Entry.{Entry}
use Rattle.pseudo_genesis.specs.Bases.{base_spelling}
use Rattle.pseudo_genesis.specs.declared.base.Base.{Base}
use Rattle.ledger_model.specs.Clues.{has_clue}
use Rattle.ledger_model.specs.History.{History, history, journals, leaf_digest, id, ends}
use Rattle.ledger_model.specs.Members.{members}

-- a journal's clue with the journal's number
abbrev pub clue_mark_of : Entry → Mark
clue_mark_of journal = record { clue = journal.header.clue.0; jsn = journal.header.jsn }

-- what an index of clues was given of some journals, of which those from the floor on are kept
abbrev pub clues_added : ℕ → List Entry → Added
clues_added floor journals = record { states = []; marks = map clue_mark_of (filter has_clue journals); floor = floor }

-- the first p journals, as a history of their own
abbrev pub front : History → ℕ → History
front h p = history [] (take p (journals h))

-- The base of a history at journal p, which is what a purge leaves of the journals in front of it: the peaks over the leaf
-- digests of the first p journals, the keys of the members among them, the states of their clues, and how many blocks they
-- are.
abbrev pub base_of : History → ℕ → Base
base_of h p =
    record {
      id = digest (id h);
      point = p;
      blocks = length (filter (λ end. nat_le end p) (ends h));
      peaks = map digest (peaks sha256 (take p (map leaf_digest (journals h))));
      keys = map (λ member. member.key) (members (front h p));
      clues = states_at p (clues_added 0 (take p (journals h)));
    }

-- the digest of a base: that of the byte 07 and the base's bytes
abbrev pub digest_of_base : Base → List ℕ
digest_of_base base = sha256 (byte_of tag.Base ∷ base_spelling base)
