-- What each field of a header may be, by the fields in front of it.
use Rattle.std.specs.Prelude.{ℕ, zero, suc, Bool, true, not, ◌&&◌, ◌||◌, ◌==◌, nat_lt, nat_le, if◌then◌else◌, IsTrue, Option, Some, None}
use Rattle.std.specs.Str.{bytes_eq}
use Rattle.ledger_bytes.specs.Digests.{zero_digest}
use Rattle.ledger_bytes.specs.declared.digest.Digest.{Digest}
use Rattle.ledger_bytes.specs.declared.limits.TheConstants.{MEMBER_LIMIT, CONTENT_LIMIT}
use Rattle.journal_record.specs.declared.rules.TheConstants.{NOTARY_LIMIT}
use Rattle.journal_record.specs.declared.header.Header.{Header}
use Rattle.journal_record.specs.declared.header.Kind.{Kind}
use Rattle.journal_record.specs.declared.header.Kind.TheVariants.{Genesis, Content, Member, Time, Occult, Purge, ClueOccult}

-- the kind that a number in a header stands for, where it stands for one
abbrev pub kind_of : ℕ → Option Kind
kind_of zero = Some Genesis
kind_of (suc zero) = Some Content
kind_of (suc (suc zero)) = Some Member
kind_of (suc (suc (suc zero))) = Some Time
kind_of (suc (suc (suc (suc zero)))) = Some Occult
kind_of (suc (suc (suc (suc (suc zero))))) = Some Purge
kind_of (suc (suc (suc (suc (suc (suc zero)))))) = Some ClueOccult
kind_of (suc (suc (suc (suc (suc (suc (suc n))))))) = None

-- a digest of 32 zero bytes stands for no clue
abbrev pub is_no_clue : Digest → Bool
is_no_clue clue = bytes_eq clue.0 zero_digest.0

-- The version of a header, by three of its other fields: 1 exactly where the first version can carry them. A record
-- with a number needs the second, and so does one whose content is longer than 65,536 bytes, and each occult by clue.
abbrev pub version_of : Kind → ℕ → ℕ → ℕ
version_of Content a content_len = if a == 0 && nat_le content_len 65_536 then 1 else 2
version_of ClueOccult a content_len = 2
version_of kind a content_len = 1

-- a version that is known
abbrev pub is_version : ℕ → Bool
is_version version = version == 1 || version == 2

-- a header has its own version, and no other
abbrev pub version_ok : ℕ → Kind → ℕ → ℕ → Bool
version_ok version kind a content_len = version == version_of kind a content_len

-- this version has journals of this kind
abbrev pub is_kind_in : ℕ → Kind → Bool
is_kind_in version kind = nat_le (version_of kind 0 0) version

-- an occult by clue names a clue; other links may be any
abbrev pub link_ok : Kind → Digest → Bool
link_ok ClueOccult link = not (is_no_clue link)
link_ok kind link = true

-- this version carries what goes by the kind, as far as `a` tells it
abbrev pub carries_a : ℕ → Kind → ℕ → Bool
carries_a version kind a = nat_le (version_of kind a 0) version

-- this version carries what goes by the kind, as far as the content's length tells it
abbrev pub carries_len : ℕ → Kind → ℕ → Bool
carries_len version kind content_len = nat_le (version_of kind 0 content_len) version

-- a genesis journal is journal 0, and no other is
abbrev pub jsn_ok : Kind → ℕ → Bool
jsn_ok Genesis jsn = jsn == 0
jsn_ok kind jsn = nat_lt 0 jsn

-- a record is a member's, and everything else is the operator's, member 0
abbrev pub member_ok : Kind → ℕ → Bool
member_ok Content member = nat_lt member MEMBER_LIMIT
member_ok kind member = member == 0

-- only a record may have a clue
abbrev pub clue_ok : Kind → Digest → Bool
clue_ok Content clue = true
clue_ok kind clue = is_no_clue clue

-- the journals of a clue are counted from 1; without a clue the number is 0
abbrev pub clue_ord_ok : Digest → ℕ → Bool
clue_ord_ok clue clue_ord = if is_no_clue clue then clue_ord == 0 else nat_lt 0 clue_ord

-- behind the first journal of a clue stands an earlier one, which isn't journal 0; else the number is 0
abbrev pub clue_prev_ok : ℕ → ℕ → ℕ → Bool
clue_prev_ok jsn clue_ord clue_prev =
    if nat_le clue_ord 1 then clue_prev == 0 else nat_lt 0 clue_prev && nat_lt clue_prev jsn

-- a record's number, or 0 where it has none; a new member's number, a notary's index, an earlier journal, a point behind journal 0
-- and in front of the purge, or how many records a clue has
abbrev pub a_ok : Kind → ℕ → ℕ → Bool
a_ok Genesis jsn a = a == 0
a_ok Content jsn a = true
a_ok Member jsn a = nat_le 2 a && nat_lt a MEMBER_LIMIT
a_ok Time jsn a = nat_lt a NOTARY_LIMIT
a_ok Occult jsn a = nat_lt a jsn
a_ok Purge jsn a = nat_lt 0 a && nat_lt a jsn
a_ok ClueOccult jsn a = nat_lt 0 a && nat_le a 4_294_967_295

-- only a time journal has a time
abbrev pub b_ok : Kind → ℕ → Bool
b_ok Time b = true
b_ok kind b = b == 0

-- a genesis journal has two keys as its content, and else only a record has any, up to the limit
abbrev pub content_len_ok : Kind → ℕ → Bool
content_len_ok Genesis content_len = content_len == 64
content_len_ok Content content_len = nat_le content_len CONTENT_LIMIT
content_len_ok kind content_len = content_len == 0

-- every field of a header keeps its rule; digests have none, and links none but that of an occult by clue
pub record IsHeader (h : Header) : Type 0 where
  pub version : IsTrue (version_ok h.version h.kind h.a h.content_len)
  pub jsn : IsTrue (jsn_ok h.kind h.jsn)
  pub member : IsTrue (member_ok h.kind h.member)
  pub clue : IsTrue (clue_ok h.kind h.clue)
  pub clue_ord : IsTrue (clue_ord_ok h.clue h.clue_ord)
  pub clue_prev : IsTrue (clue_prev_ok h.jsn h.clue_ord h.clue_prev)
  pub a : IsTrue (a_ok h.kind h.jsn h.a)
  pub b : IsTrue (b_ok h.kind h.b)
  pub link : IsTrue (link_ok h.kind h.link)
  pub content_len : IsTrue (content_len_ok h.kind h.content_len)
