-- What stands in a field.
use Rattle.std.specs.Prelude.{ℕ, ◌+◌, ◌-◌, ◌*◌, ◌^◌, ◌==◌, ◌&&◌, ◌||◌, nat_le, nat_lt, Bool, not, slice_index, if◌then◌else◌, List, [], ◌∷◌, length, fold, codes, Option, Some, None, option_map}
use Rattle.std.specs.Char.{is_ascii_digit}
use Rattle.std.specs.List.{list_all}
use Rattle.std.specs.Option.{option_and_then}
use Rattle.std.specs.Result.{result_ok}
use Rattle.std.specs.Str.{bytes_eq}
use Rattle.hex.specs.Hex.{decode_of, decode_sized}
use Rattle.ledger_bytes.specs.Digests.{digest}
use Rattle.ledger_bytes.specs.declared.digest.Digest.{Digest}
use Rattle.ledger_bytes.specs.declared.limits.TheConstants.{APPROVAL_LIMIT, NAME_LIMIT, PROOF_LIMIT}
use Rattle.script_lines.specs.Parts.{parts, all_of}
use Rattle.ledger_bytes.specs.declared.mark.TimeMark.{TimeMark}
use Rattle.script_lines.specs.declared.said.SaidApproval.{SaidApproval}
use Rattle.script_lines.specs.declared.said.Which.{Which}
use Rattle.script_lines.specs.declared.said.Which.TheVariants.{Ledger, Notary}

-- the second step, with what the first gave
infixl 10 ◌>>=◌
abbrev pub ◌>>=◌ : {A B : Type 0} → Option A → (A → Option B) → Option B
first >>= second = option_and_then second first

-- any text is taken as it is
abbrev pub text_of : List ℕ → Option (List ℕ)
text_of text = Some text

-- the text `-`, which stands for nothing
abbrev pub is_dash : List ℕ → Bool
is_dash text = bytes_eq text (codes "-")

-- the number that decimal digits stand for, behind digits that stand for another
abbrev pub value_behind : ℕ → List ℕ → ℕ
value_behind read digits = fold (λ n digit. n * 10 + (digit - 48)) read digits

-- decimal digits: one or more, and no zero in front of others
abbrev pub is_decimal : List ℕ → Bool
is_decimal digits =
    nat_lt 0 (length digits) && list_all is_ascii_digit digits && (length digits == 1 || not (slice_index digits 0 == 48))

-- a decimal number that is at most `most`. `numbers_are_decimal` says which digits are a number
abbrev pub number_of : ℕ → List ℕ → Option ℕ
number_of most text =
    if is_decimal text && nat_le (value_behind 0 text) most then Some (value_behind 0 text) else None

-- the number that a member gives a request, from 1 to 2^64 - 1
abbrev pub request_number_of : List ℕ → Option ℕ
request_number_of text = do
  number ← number_of (2 ^ 64 - 1) text
  if number == 0 then None else Some number

-- how many records a clue is said to have, from 1 to 2^32 - 1
abbrev pub count_of : List ℕ → Option ℕ
count_of text = do
  count ← number_of (2 ^ 32 - 1) text
  if count == 0 then None else Some count

-- no bytes as `-`, or 1 to `most` bytes as hexadecimal digits of either case
abbrev pub bytes_of : ℕ → List ℕ → Option (List ℕ)
bytes_of most text =
    if is_dash text then Some []
    else if nat_le 2 (length text) && nat_le (length text) (2 * most) then result_ok (decode_of text)
    else None

-- a digest as 64 hexadecimal digits of either case
abbrev pub digest_of : List ℕ → Option Digest
digest_of text = option_map digest (result_ok (decode_sized text 32))

-- a name: at least one byte, and no more than a name may have
abbrev pub name_of : List ℕ → Option (List ℕ)
name_of text = if nat_lt 0 (length text) && nat_le (length text) NAME_LIMIT then Some text else None

-- no clue as `-`, or the clue's name; no clue is the empty name
abbrev pub clue_of : List ℕ → Option (List ℕ)
clue_of text = if is_dash text then Some [] else name_of text

-- the ledger's tree or the notary's, by its name
abbrev pub which_of : List ℕ → Option Which
which_of text =
    if bytes_eq text (codes "ledger") then Some Ledger
    else if bytes_eq text (codes "notary") then Some Notary
    else None

-- an approval by its two parts: the member's number and the proof
abbrev pub approval_from : List (List ℕ) → Option SaidApproval
approval_from [] = None
approval_from (member ∷ []) = None
approval_from (member_text ∷ proof_text ∷ []) = do
  member ← number_of (2 ^ 32 - 1) member_text
  proof ← bytes_of PROOF_LIMIT proof_text
  Some (record { member = member; proof = proof })
approval_from (member ∷ proof ∷ more ∷ texts) = None

-- an approval as `MEMBER:PROOF`
abbrev pub approval_of : List ℕ → Option SaidApproval
approval_of text = approval_from (parts 58 text)

-- approvals by their texts, no more than a line may give
abbrev pub approvals_from : List (List ℕ) → Option (List SaidApproval)
approvals_from texts = if nat_le (length texts) APPROVAL_LIMIT then all_of approval_of texts else None

-- no approvals as `-`, or some with commas between
abbrev pub approvals_of : List ℕ → Option (List SaidApproval)
approvals_of text = if is_dash text then Some [] else approvals_from (parts 44 text)

-- a time mark by its three parts: a journal's number, a notary's index and its time
abbrev pub mark_from : List (List ℕ) → Option TimeMark
mark_from [] = None
mark_from (jsn ∷ []) = None
mark_from (jsn ∷ index ∷ []) = None
mark_from (jsn_text ∷ index_text ∷ time_text ∷ []) = do
  jsn ← number_of (2 ^ 64 - 1) jsn_text
  index ← number_of (2 ^ 64 - 1) index_text
  time ← number_of (2 ^ 64 - 1) time_text
  Some (record { jsn = jsn; index = index; time = time })
mark_from (jsn ∷ index ∷ time ∷ more ∷ texts) = None

-- no time mark as `-`, or one as `JSN:INDEX:TIME`
abbrev pub mark_of : List ℕ → Option (Option TimeMark)
mark_of text = if is_dash text then Some None else option_map (λ mark. Some mark) (mark_from (parts 58 text))
