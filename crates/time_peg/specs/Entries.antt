-- A notary's list: its entries, each of 72 bytes, and how a stamp makes it longer.
use Rattle.std.specs.Prelude.{◌≡◌, ℕ, ◌+◌, ◌*◌, ◌<◌, ◌≤◌, ◌^◌, ◌⊎◌, max, List, [], ◌∷◌, ◌++◌, length, take, Option, IfSome, Result, Ok, Err, ⊤}
use Rattle.sha2.specs.Sha256.{sha256}
use Rattle.std.specs.List.{AllByRecursion}
use Rattle.std.specs.Int.{w64, to_be_bytes, from_be_bytes}
use Rattle.ledger_bytes.specs.Causes.{count_after}
use Rattle.ledger_bytes.specs.Tags.{byte_of}
use Rattle.ledger_bytes.specs.declared.tag.Tag.TheVariants as tag
use Rattle.journal_record.specs.declared.rules.TheConstants.{NOTARY_LIMIT}
use Rattle.journal_record.specs.declared.stamp.Stamp.{Stamp}
use Rattle.time_peg.specs.declared.notary.NotaryErr.{NotaryErr}
use Rattle.time_peg.specs.declared.notary.NotaryErr.TheVariants.{Failed, Full, NoMemory}

-- what is hashed to a peg: the byte 06, the ledger's id, a number of journals and the root over them
abbrev pub peg_string : List ℕ → ℕ → List ℕ → List ℕ
peg_string id m root = byte_of tag.Peg ∷ (id ++ to_be_bytes w64 m ++ root)

-- the 72 bytes of an entry: its time, the peg and the salt
abbrev pub entry_of : ℕ → List ℕ → List ℕ → List ℕ
entry_of time peg salt = to_be_bytes w64 time ++ (peg ++ salt)

-- the time that is read from an entry
unfoldable pub time_in : List ℕ → ℕ
time_in entry = from_be_bytes w64 (take 8 entry)

-- the time of the last entry, or the least time there may be
abbrev pub last_time : ℕ → List (List ℕ) → ℕ
last_time least [] = least
last_time least (e ∷ es) = last_time (time_in e) es

-- the times of entries never fall, and none is below the least
abbrev pub NeverFalls : ℕ → List (List ℕ) → Type 0
NeverFalls least [] = ⊤
NeverFalls least (e ∷ es) = (least ≤ time_in e) × NeverFalls (time_in e) es

-- a list that a notary may keep: at most 16,777,216 entries of 72 bytes whose times never fall
pub record IsList (es : List (List ℕ)) : Type 0 where
  pub few : length es ≤ NOTARY_LIMIT
  pub widths : AllByRecursion (λ e. length e ≡ 72) es
  pub times : NeverFalls 0 es

-- the salt of the entry with this index, from the notary's seed
abbrev pub salt_of : List ℕ → ℕ → List ℕ
salt_of seed index = sha256 (byte_of tag.Salt ∷ (seed ++ to_be_bytes w64 index))

-- where the times of entries come from: they count 1000 for each entry, or they are a clock's, whose moments are told or not
pub data Times : Type 0 where
  counted : Times
  told : (ℕ → ℕ) → Times
  untold : Times

-- the time of an entry behind this list comes from there: it is that of its place, or a moment of the clock, or that of the last
-- entry where this is greater
abbrev pub IsTimed : Times → List (List ℕ) → ℕ → Type 0
IsTimed counted old time = time ≡ 1000 * (length old + 1)
IsTimed (told moments) old time = (call : ℕ) × (time ≡ max (moments call) (last_time 0 old))
IsTimed untold old time = ⊤

-- how a notary makes its entries: from which seed their salts come, and where their times do
pub record Making : Type 0 where
  pub seed : List ℕ
  pub times : Times

-- this time and salt are those of an entry behind this list, where the notary tells how it makes them
abbrev pub IsMade : Option Making → List (List ℕ) → ℕ → List ℕ → Type 0
IsMade making old time salt = IfSome making (λ by. (salt ≡ salt_of by.seed (length old)) × IsTimed by.times old time)

-- what stays while a notary is used: how it makes its entries, where it tells that, and how many of its calls had failed when it
-- was taken up
pub record Origin : Type 0 where
  pub making : Option Making
  pub faults : ℕ

-- all that a clause knows of a notary: what stays of it, its entries, and how many of its calls failed
pub record NotaryState : Type 0 where
  pub origin : Origin
  pub entries : List (List ℕ)
  pub faults : ℕ

-- a list has one entry more, with this peg, made as the notary makes them
abbrev pub HasOneMore : Option Making → List ℕ → List (List ℕ) → List (List ℕ) → Type 0
HasOneMore making peg old new = (time : ℕ) × (salt : List ℕ) × (time < 2 ^ 64) × (new ≡ old ++ entry_of time peg salt ∷ []) × IsMade making old time salt

-- what a stamp with this peg does to the list, and what it answers: an entry more, whose place, time and salt are told;
-- after a failure perhaps one of which nothing is told
abbrev pub IsStamped : Option Making → List ℕ → List (List ℕ) → List (List ℕ) → Result Stamp NotaryErr → Type 0
IsStamped making peg old new (Ok s) = (s.index ≡ length old) × (s.time < 2 ^ 64) × (new ≡ old ++ entry_of s.time peg s.salt.0 ∷ []) × IsMade making old s.time s.salt.0
IsStamped making peg old new (Err Failed) = (new ≡ old) ⊎ HasOneMore making peg old new
IsStamped making peg old new (Err Full) = (new ≡ old) × (length old ≡ NOTARY_LIMIT)
IsStamped making peg old new (Err NoMemory) = new ≡ old

-- the count of failed calls rises by one exactly where a failure is answered; at the end of its type it stays
abbrev pub CountsFailures : {T : Type 0} → Result T NotaryErr → ℕ → ℕ → Type 0
CountsFailures (Ok x) before now = now ≡ before
CountsFailures (Err Failed) before now = now ≡ count_after before
CountsFailures (Err Full) before now = now ≡ before
CountsFailures (Err NoMemory) before now = now ≡ before
