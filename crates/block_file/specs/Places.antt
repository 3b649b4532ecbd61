-- Where journals stand in a file.
use Rattle.std.specs.Prelude.{ℕ, ◌+◌, ◌-◌, ◌^◌, min, sum_by, List, [], ◌∷◌, ◌++◌, length}
use Rattle.journal_record.specs.Entry.{Entry}
use Rattle.block_file.specs.declared.block.RecordAt.{RecordAt}
use Rattle.block_file.specs.declared.place.PlaceAt.{PlaceAt}

-- the offset of a block's first record, where its gate stands at this one: a gate of one byte and a head of 44 stand in front
abbrev pub body_from : ℕ → ℕ
body_from gate = gate + 45

-- the offset of the content of a journal whose record begins at this one: a header of 174 bytes and the length of its who stand
-- in front
abbrev pub content_in : ℕ → ℕ
content_in at = at + 178

-- the offset of the content of a block's first journal, where its gate stands at this one
abbrev pub content_from : ℕ → ℕ
content_from gate = gate + 223

-- how many bytes a record has whose content and who have so many
abbrev pub record_size : ℕ → ℕ → ℕ
record_size content_len who_len = 178 + content_len + who_len

-- how many bytes a journal takes in its block, by its header: the same for a history and for what a file keeps of it
abbrev pub record_len : Entry → ℕ
record_len e = record_size e.header.content_len (length e.who)

-- the place of a journal whose record begins at this offset, by how long its content and its who are
abbrev pub place_of_lengths : ℕ → ℕ → ℕ → PlaceAt
place_of_lengths at content_len who_len =
    record {
      content_at = content_in at;
      who_at = content_in at + content_len;
      content_len = content_len;
      who_len = who_len;
    }

-- the place of a journal whose record begins at this offset, by its header
abbrev pub place_at : ℕ → Entry → PlaceAt
place_at at e = place_of_lengths at e.header.content_len (length e.who)

-- the place of a journal whose record was read
abbrev pub place_of_record : RecordAt → PlaceAt
place_of_record r =
    record {
      content_at = r.content_at;
      who_at = r.who_at;
      content_len = r.header.content_len;
      who_len = r.who_len;
    }

-- the places of the journals of a block, whose records begin at this offset
abbrev pub places_in : ℕ → List Entry → List PlaceAt
places_in at [] = []
places_in at (e ∷ es) = place_at at e ∷ places_in (at + record_len e) es

-- the places of the journals of some blocks, where the first gate stands at this offset
abbrev pub places_at : ℕ → List (List Entry) → List PlaceAt
places_at at [] = []
places_at at (b ∷ bs) = places_in (body_from at) b ++ places_at (body_from at + sum_by record_len b) bs

-- where the gate behind some blocks stands
abbrev pub after_at : ℕ → List (List Entry) → ℕ
after_at at [] = at
after_at at (b ∷ bs) = after_at (body_from at + sum_by record_len b) bs

-- a place where what stood at one offset stands at another, as far as a field can tell it
abbrev pub moved_place : ℕ → ℕ → PlaceAt → PlaceAt
moved_place old new place =
    record {
      content_at = min (place.content_at - old + new) (2 ^ 64 - 1);
      who_at = min (place.who_at - old + new) (2 ^ 64 - 1);
      content_len = place.content_len;
      who_len = place.who_len;
    }
