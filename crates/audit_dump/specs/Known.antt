-- What a base and the journals behind it tell of a ledger: the keys of its members, and the roots of its tree.
use Rattle.std.specs.Prelude.{ℕ, ◌-◌, List, [], ◌++◌, map, take, Option, Some, None, unwrap_or}
use Rattle.sha2.specs.Sha256.{sha256}
use Rattle.tree_model.specs.RootFrom.{root_from}
use Rattle.journal_record.specs.Entry.{Entry}
use Rattle.journal_record.specs.Items.{Item}
use Rattle.journal_record.specs.Members as book
use Rattle.pseudo_genesis.specs.declared.base.Base.{Base}
use Rattle.ledger_model.specs.Behind.{first_of}
use Rattle.ledger_model.specs.History.{history, leaf_digest}
use Rattle.ledger_model.specs.Members.{keys, admitted_members}
use Rattle.dump_model.specs.Dumps.{peaks_of}

-- A journal of a dump as one of a history. An erased content stands as no bytes: nothing is known of it, and no rule looks at it.
abbrev pub journal_of : Item → Entry
journal_of item = record { header = item.header; content = unwrap_or item.body []; who = item.who }

-- journals of a dump as those of a history, in the same order
abbrev pub journals_of : List Item → List Entry
journals_of items = map journal_of items

-- The keys of all members by their numbers, as a base and the journals behind it tell them.
-- Example: behind a base with three keys the first member that a journal admits has the number 3.
abbrev pub keys_behind : Option Base → List Entry → List (List ℕ)
keys_behind None journals = keys (history [] journals)
keys_behind (Some base) journals = map (λ key. key.0) base.keys ++ book.keys (admitted_members journals)

-- The root over the first m journals of the ledger, where m isn't less than the base's point.
-- Example: behind a base at journal 2 the root over the first 3 journals takes the base's peaks and the first journal behind it.
abbrev pub root_behind : Option Base → List Entry → ℕ → List ℕ
root_behind start journals m = root_from sha256 (peaks_of start) (first_of start) (map leaf_digest (take (m - first_of start) journals))
