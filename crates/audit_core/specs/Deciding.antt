-- Is a claim true of the lists? What Truth says, as tests.
use Rattle.std.specs.Prelude.{ℕ, ◌&&◌, ◌==◌, nat_lt, nat_le, Bool, true, false, List, [], length, get_or, take, drop, Option, None, Some, Result, Ok, Err}
use Rattle.std.specs.Int.{w64, to_be_bytes}
use Rattle.std.specs.Str.{bytes_eq}
use Rattle.ledger_bytes.specs.declared.digest.Digest.{Digest}
use Rattle.ledger_bytes.specs.declared.failure.Bad.{Bad}
use Rattle.ledger_bytes.specs.declared.mark.TimeMark.{TimeMark}
use Rattle.journal_record.specs.declared.header.Header.{Header}
use Rattle.journal_record.specs.Reading.{header_of}
use Rattle.tree_model.specs.Tree.{Hash, leaf, mth}
use Rattle.time_peg.specs.Entries.{peg_string, entry_of}
use Rattle.proof_codec.specs.declared.claim.Claim.{Claim}
use Rattle.proof_codec.specs.Reading.{is_time}
use Rattle.audit_core.specs.Truth.{Lists}

-- whether the ledger has a journal n, with this leaf digest
abbrev pub has_journal : Hash → List (List ℕ) → ℕ → Digest → Bool
has_journal hash headers n digest = nat_lt n (length headers) && bytes_eq (leaf hash (get_or headers n [])) digest.0

-- the peg of the first m journals of the ledger with this id
abbrev pub pegged : Hash → Digest → List (List ℕ) → ℕ → List ℕ
pegged hash id headers m = hash (peg_string id.0 m (mth hash (take m headers)))

-- whether there are as many journals and entries as a mark names
abbrev pub has_mark : List (List ℕ) → List (List ℕ) → TimeMark → Bool
has_mark headers entries mark = nat_le mark.jsn (length headers) && nat_lt mark.index (length entries)

-- whether this is an entry with a mark's time and the peg of the journals in front of the mark, with any salt
abbrev pub is_entry : Hash → Lists → TimeMark → List ℕ → Bool
is_entry hash lists mark entry =
    bytes_eq (take 8 entry) (to_be_bytes w64 mark.time)
    && bytes_eq (take (length (pegged hash lists.id lists.headers mark.jsn)) (drop 8 entry)) (pegged hash lists.id lists.headers mark.jsn)

-- whether this is the entry with a mark's time, the peg of the journals in front of the mark, and this salt
abbrev pub is_salted : Hash → Lists → TimeMark → Digest → List ℕ → Bool
is_salted hash lists mark salt entry = bytes_eq entry (entry_of mark.time (pegged hash lists.id lists.headers mark.jsn) salt.0)

-- whether the notary has at a mark's index an entry for it, with any salt
abbrev pub has_entry : Hash → Lists → TimeMark → Bool
has_entry hash lists mark = has_mark lists.headers lists.entries mark && is_entry hash lists mark (get_or lists.entries mark.index [])

-- whether the notary has at a mark's index the entry for it with this salt
abbrev pub has_salted : Hash → Lists → TimeMark → Digest → Bool
has_salted hash lists mark salt = has_mark lists.headers lists.entries mark && is_salted hash lists mark salt (get_or lists.entries mark.index [])

-- whether a header that was read is that of a time journal with a mark's index and time, and the notary has the entry with
-- its salt
abbrev pub is_noted_by : Hash → Lists → TimeMark → Result Header Bad → Bool
is_noted_by hash lists mark (Err bad) = false
is_noted_by hash lists mark (Ok h) =
    is_time h.kind && (h.a == mark.index) && (h.b == mark.time) && has_salted hash lists mark h.link

-- whether a mark is a lower bound of journal n by the lists: a time journal in front of it with its entry
abbrev pub is_lower : Hash → Lists → ℕ → TimeMark → Bool
is_lower hash lists n mark =
    nat_lt mark.jsn n && nat_lt mark.jsn (length lists.headers)
    && is_noted_by hash lists mark (header_of (get_or lists.headers mark.jsn []))

-- whether a mark is an upper bound of journal n by the lists: an entry for journals of which it is one
abbrev pub is_upper : Hash → Lists → ℕ → TimeMark → Bool
is_upper hash lists n mark = nat_lt n mark.jsn && has_entry hash lists mark

-- whether a bound passes a test, where there is one
abbrev pub passes_if : (TimeMark → Bool) → Option TimeMark → Bool
passes_if test None = true
passes_if test (Some mark) = test mark

-- whether a claim is true of the lists: the test of `IsTrueOf`
abbrev pub is_true : Hash → Lists → Claim → Bool
is_true hash lists claim =
    has_journal hash lists.headers claim.n claim.leaf
    && passes_if (is_lower hash lists claim.n) claim.lo && passes_if (is_upper hash lists claim.n) claim.hi
