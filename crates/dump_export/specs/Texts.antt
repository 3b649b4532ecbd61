-- The bytes of a dump in the pieces in which they are written.
use Rattle.std.specs.Prelude.{ℕ, List, ◌++◌, length, take, drop}
use Rattle.std.specs.List.{flat_map, concat}
use Rattle.journal_record.specs.Items.{item_text}
use Rattle.dump_model.specs.Dumps.{Dump, magic, number_text, base_text}

-- what stands in front of the journals
abbrev pub front_text : Dump → List ℕ
front_text dump =
    magic
    ++ (dump.id.0
    ++ (number_text (length (base_text dump.base)) ++ (base_text dump.base
    ++ number_text (length dump.items))))

-- the first journals, so many as there are at most
abbrev pub first_journals : ℕ → Dump → List ℕ
first_journals k dump = flat_map item_text (take k dump.items)

-- the journal with this index, where there is one
abbrev pub journal_at : ℕ → Dump → List ℕ
journal_at k dump = flat_map item_text (take 1 (drop k dump.items))

-- all journals
abbrev pub journals_text : Dump → List ℕ
journals_text dump = flat_map item_text dump.items

-- the ledger's head, and how many entries there are
abbrev pub head_text : Dump → List ℕ
head_text dump = number_text dump.head.size ++ (dump.head.root.0 ++ number_text (length dump.entries))

-- the first entries, so many as there are at most
abbrev pub first_entries : ℕ → Dump → List ℕ
first_entries k dump = concat (take k dump.entries)

-- the entry with this index, where there is one
abbrev pub entry_at : ℕ → Dump → List ℕ
entry_at k dump = concat (take 1 (drop k dump.entries))

-- all entries
abbrev pub entries_text : Dump → List ℕ
entries_text dump = concat dump.entries

-- the root over the entries
abbrev pub root_text : Dump → List ℕ
root_text dump = dump.notary_root.0

-- what stands behind the journals
abbrev pub tail_text : Dump → List ℕ
tail_text dump = head_text dump ++ (entries_text dump ++ root_text dump)
