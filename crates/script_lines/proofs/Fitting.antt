-- What is read of a line keeps to a line's limits, and its numbers, or those of its refusal, are as programs have them.
use Rattle.std.specs.Prelude.{⊤}
use Rattle.std.proofs.Common.{◌≡◌, ℕ, ◌-◌, ◌^◌, ◌≤◌, ◌&&◌, nat_le, nat_lt, if◌then◌else◌, Bool, true, false, cond, All, List, [], ◌∷◌, length, codes, Option, Some, None, Result, Ok, Err, refl, sym, ap, ◌∙◌, arith}
use Rattle.std.specs.Option.{option_map}
use Rattle.std.specs.Result.{result_ok}
use Rattle.std.specs.Str.{bytes_eq}
use Rattle.std.proofs.lemmas.Bool.{and_from, and_parts, le-leb, leb-true}
use Rattle.std.proofs.lemmas.List.Elements.{All-weaker}
use Rattle.std.proofs.lemmas.Option.{same_Some}
use Rattle.hex.specs.Hex.{decode_sized}
use Rattle.hex.proofs.HexLemmas.{decode_of-ok, decode_sized-ok, decode_sized-twice}
use Rattle.ledger_bytes.specs.Digests.{digest}
use Rattle.ledger_bytes.specs.declared.digest.Digest.{Digest}
use Rattle.ledger_bytes.specs.declared.limits.TheConstants.{CONTENT_LIMIT, NAME_LIMIT, PROOF_LIMIT}
use Rattle.ledger_bytes.specs.declared.refusal.Refusal.{Refusal}
use Rattle.script_lines.specs.Fields.{UnreadFields, fields_of, next_column, read_or_bad, field_from, field_at, optional_from, optional_at, end_from, end_at}
use Rattle.script_lines.specs.Grammar.{◌>>=◌, append_at, member_at, anchor_at, occult_at, clue_occult_at, purge_at, get_at, prove_at, extend_at, clue_at, head_at, verb_at, asked_by, lane_of, spoken_by, spoken_at, spoken_line}
use Rattle.script_lines.specs.Limits.{fits_line, fits_approvals, is_of_form, fits_what}
use Rattle.script_lines.specs.Receipts.{FitsWord, RefusalFits}
use Rattle.script_lines.specs.Spellings.{text_of, number_of, request_number_of, count_of, bytes_of, digest_of, clue_of, name_of, which_of, approvals_of, is_dash}
use Rattle.script_lines.specs.declared.line.Line.{Line}
use Rattle.script_lines.specs.declared.line.Line.TheVariants.{Append, NewMember, Anchor, Occult, OccultClue, Purge, Get, Prove, Extend, Clue, Head}
use Rattle.script_lines.specs.declared.said.SaidApproval.{SaidApproval}
use Rattle.script_lines.proofs.Approving.{IsShortApproval, number_low, request_number_low, bytes_short, approvals_short, approvals_fit}

-- the numbers of a line that a refusal of it or its journal may tell fit, and so does a new member's key
abbrev pub LineFits : Line → Type 0
LineFits (Append member clue content proof number) = FitsWord member × FitsWord number
LineFits (NewMember number key proof) = length key.0 ≡ 32
LineFits Anchor = ⊤
LineFits (Occult target leaf given) = All (λ by. FitsWord by.member) given
LineFits (OccultClue name count given) = All (λ by. FitsWord by.member) given
LineFits (Purge point root given) = All (λ by. FitsWord by.member) given
LineFits (Get n) = ⊤
LineFits (Prove n) = ⊤
LineFits (Extend which m) = ⊤
LineFits (Clue name) = ⊤
LineFits Head = ⊤

abbrev pub WhatFits : Result Line Refusal → Type 0
WhatFits (Ok line) = LineFits line
WhatFits (Err refusal) = RefusalFits refusal

-- a line that was read keeps to the limits and its numbers fit, or its refusal is one of a line's form and its numbers fit
abbrev WhatKeeps : Result Line Refusal → Type 0
WhatKeeps what = (fits_what what ≡ true) × WhatFits what

-- what a field reads as keeps to a rule and the column behind it fits, or the refusal is one of a line's form and fits
abbrev Gives : {A : Type 0} → (A → Type 0) → Result (A × UnreadFields) Refusal → Type 0
Gives P (Ok read) = P read.0 × FitsWord read.1.column
Gives P (Err refusal) = (is_of_form refusal ≡ true) × RefusalFits refusal

next_fits : (column : ℕ) → FitsWord (next_column column)
next_fits column = omega arith

gives_or : {A : Type 0} (P : A → Type 0) (column : ℕ) (read : Option A) (rest : UnreadFields) → FitsWord column → FitsWord rest.column → ((x : A) → read ≡ Some x → P x) → Gives P (read_or_bad column read rest)
gives_or P column None rest here next keeps = (refl, here)
gives_or P column (Some x) rest here next keeps = (keeps x refl, next)

field_gives : {A : Type 0} (P : A → Type 0) (read : List ℕ → Option A) (left : UnreadFields) → FitsWord left.column → ((text : List ℕ) (x : A) → read text ≡ Some x → P x) → Gives P (field_at read left)
field_gives P read left here keeps = by left.fields where
  by : (fields : List (List ℕ)) → Gives P (field_from read left.column fields)
  by [] = (refl, here)
  by (field ∷ fields) = gives_or P left.column (read field) _ here (next_fits left.column) (keeps field)

optional_gives : {A : Type 0} (P : A → Type 0) (read : List ℕ → Option A) (missing : A) (left : UnreadFields) → FitsWord left.column → P missing
    → ((text : List ℕ) (x : A) → read text ≡ Some x → P x) → Gives P (optional_at read missing left)
optional_gives P read missing left here none keeps = by left.fields where
  by : (fields : List (List ℕ)) → Gives P (optional_from read missing left.column fields)
  by [] = (none, here)
  by (field ∷ fields) = gives_or P left.column (read field) _ here (next_fits left.column) (keeps field)

-- the rest of a line behind a field
then_fits : {A : Type 0} (P : A → Type 0) (first : Result (A × UnreadFields) Refusal) (second : A × UnreadFields → Result Line Refusal)
    → Gives P first → ((x : A × UnreadFields) → P x.0 → FitsWord x.1.column → WhatKeeps (second x)) → WhatKeeps (first >>= second)
then_fits P (Ok x) second first_fits fits = fits x first_fits.0 first_fits.1
then_fits P (Err refusal) second first_fits fits = first_fits

-- .. and its end
end_fits : (left : UnreadFields) (line : Line) → FitsWord left.column → fits_line line ≡ true → LineFits line → WhatKeeps (end_at left >>= (λ end. Ok line))
end_fits left line here fits counts = by left.fields where
  by : (fields : List (List ℕ)) → WhatKeeps (end_from left.column fields >>= (λ end. Ok line))
  by [] = (fits, counts)
  by (field ∷ fields) = (refl, here)

abbrev Any : {A : Type 0} → A → Type 0
Any x = Unit {0}

name_short : (text name : List ℕ) → name_of text ≡ Some name → length name ≤ NAME_LIMIT
name_short text name is =
    elim (nat_lt 0 (length text) && nat_le (length text) NAME_LIMIT) as (λ fits. (nat_lt 0 (length text) && nat_le (length text) NAME_LIMIT) ≡ fits → cond fits (Some text) None ≡ Some name → length name ≤ NAME_LIMIT) [
      | true ↦ λ fits read.
          let same : text ≡ name = cc in
          omega (arith, ap length same, leb-true (length text) NAME_LIMIT (and_parts (nat_lt 0 (length text)) (nat_le (length text) NAME_LIMIT) fits).1)
      | false ↦ λ fits read. absurd cc
    ] refl is

clue_short : (text clue : List ℕ) → clue_of text ≡ Some clue → length clue ≤ NAME_LIMIT
clue_short text clue is =
    elim (is_dash text) as (λ dash. cond dash (Some []) (name_of text) ≡ Some clue → length clue ≤ NAME_LIMIT) [
      | true ↦ λ none. let same : [] ≡ clue = cc in omega (arith, ap length same)
      | false ↦ λ some. name_short text clue some
    ] is

number_fits : (text : List ℕ) (n : ℕ) → number_of (2 ^ 32 - 1) text ≡ Some n → FitsWord n
number_fits text n is = omega (arith, number_low (2 ^ 32 - 1) text n is)

request_number_fits : (text : List ℕ) (n : ℕ) → request_number_of text ≡ Some n → FitsWord n
request_number_fits text n is = let low = request_number_low text n is in omega (arith, low)

-- approvals that keep to the limits, and whose members fit
abbrev AreFitting : List SaidApproval → Type 0
AreFitting given = (fits_approvals given ≡ true) × All (λ by. FitsWord by.member) given

given_fit : (text : List ℕ) (given : List SaidApproval) → approvals_of text ≡ Some given → AreFitting given
given_fit text given is =
    let short = approvals_short text given is in
    (approvals_fit given short, All-weaker IsShortApproval (λ by. FitsWord by.member) (λ by short. omega (arith, short.member)) given short.each)

-- a key has 32 bytes
abbrev IsKey : Digest → Type 0
IsKey key = length key.0 ≡ 32

key_wide : (text : List ℕ) (key : Digest) → digest_of text ≡ Some key → IsKey key
key_wide text key is = by (decode_sized text 32) refl is where
  by : (read : _) → decode_sized text 32 ≡ read → option_map digest (result_ok read) ≡ Some key → IsKey key
  by (Ok bytes) read is =
      let same : digest bytes ≡ key = same_Some (digest bytes) key is in
      let twice = decode_sized-ok text 32 bytes read in
      let pairs = decode_of-ok text bytes (sym (decode_sized-twice text 32 twice) ∙ read) in
      omega (arith, ap (λ (d : Digest). length d.0) same, twice, pairs.2)
  by (Err why) read is = absurd cc

append_fits : (fields : UnreadFields) → FitsWord fields.column → WhatKeeps (append_at fields)
unfolding append_at
append_fits fields here =
    then_fits FitsWord _ _ (field_gives FitsWord (number_of (2 ^ 32 - 1)) fields here number_fits) (λ member m at.
    then_fits (λ clue. length clue ≤ NAME_LIMIT) _ _ (field_gives (λ clue. length clue ≤ NAME_LIMIT) clue_of member.1 at clue_short) (λ clue c at.
    then_fits (λ content. length content ≤ CONTENT_LIMIT) _ _ (field_gives (λ content. length content ≤ CONTENT_LIMIT) (bytes_of CONTENT_LIMIT) clue.1 at (bytes_short CONTENT_LIMIT)) (λ content d at.
    then_fits (λ proof. length proof ≤ PROOF_LIMIT) _ _ (field_gives (λ proof. length proof ≤ PROOF_LIMIT) (bytes_of PROOF_LIMIT) content.1 at (bytes_short PROOF_LIMIT)) (λ proof p at.
    then_fits FitsWord _ _ (optional_gives FitsWord request_number_of 0 proof.1 at (omega arith) request_number_fits) (λ number n at.
    end_fits number.1 (Append member.0 clue.0 content.0 proof.0 number.0) at
    (and_from _ _ (and_from _ _ (le-leb (length clue.0) NAME_LIMIT c) (le-leb (length content.0) CONTENT_LIMIT d)) (le-leb (length proof.0) PROOF_LIMIT p)) (m, n))))))

member_fits : (fields : UnreadFields) → FitsWord fields.column → WhatKeeps (member_at fields)
unfolding member_at
member_fits fields here =
    then_fits Any _ _ (field_gives Any (number_of (2 ^ 32 - 1)) fields here (λ text x is. tt)) (λ number n at.
    then_fits IsKey _ _ (field_gives IsKey digest_of number.1 at key_wide) (λ key k at.
    then_fits (λ proof. length proof ≤ PROOF_LIMIT) _ _ (field_gives (λ proof. length proof ≤ PROOF_LIMIT) (bytes_of PROOF_LIMIT) key.1 at (bytes_short PROOF_LIMIT)) (λ proof p at.
    end_fits proof.1 (NewMember number.0 key.0 proof.0) at (le-leb (length proof.0) PROOF_LIMIT p) k)))

anchor_fits : (fields : UnreadFields) → FitsWord fields.column → WhatKeeps (anchor_at fields)
unfolding anchor_at
anchor_fits fields here = end_fits fields Anchor here refl tt

occult_fits : (fields : UnreadFields) → FitsWord fields.column → WhatKeeps (occult_at fields)
unfolding occult_at
occult_fits fields here =
    then_fits Any _ _ (field_gives Any (number_of (2 ^ 64 - 1)) fields here (λ text x is. tt)) (λ target t at.
    then_fits Any _ _ (field_gives Any digest_of target.1 at (λ text x is. tt)) (λ leaf l at.
    then_fits AreFitting _ _ (field_gives AreFitting approvals_of leaf.1 at given_fit) (λ given g at.
    end_fits given.1 (Occult target.0 leaf.0 given.0) at g.0 g.1)))

clue_occult_fits : (fields : UnreadFields) → FitsWord fields.column → WhatKeeps (clue_occult_at fields)
unfolding clue_occult_at
clue_occult_fits fields here =
    then_fits (λ clue. length clue ≤ NAME_LIMIT) _ _ (field_gives (λ clue. length clue ≤ NAME_LIMIT) clue_of fields here clue_short) (λ name s at.
    then_fits Any _ _ (field_gives Any count_of name.1 at (λ text x is. tt)) (λ count c at.
    then_fits AreFitting _ _ (field_gives AreFitting approvals_of count.1 at given_fit) (λ given g at.
    end_fits given.1 (OccultClue name.0 count.0 given.0) at (and_from _ _ (le-leb (length name.0) NAME_LIMIT s) g.0) g.1)))

purge_fits : (fields : UnreadFields) → FitsWord fields.column → WhatKeeps (purge_at fields)
unfolding purge_at
purge_fits fields here =
    then_fits Any _ _ (field_gives Any (number_of (2 ^ 64 - 1)) fields here (λ text x is. tt)) (λ point p at.
    then_fits Any _ _ (field_gives Any digest_of point.1 at (λ text x is. tt)) (λ root r at.
    then_fits AreFitting _ _ (field_gives AreFitting approvals_of root.1 at given_fit) (λ given g at.
    end_fits given.1 (Purge point.0 root.0 given.0) at g.0 g.1)))

get_fits : (fields : UnreadFields) → FitsWord fields.column → WhatKeeps (get_at fields)
unfolding get_at
get_fits fields here =
    then_fits Any _ _ (field_gives Any (number_of (2 ^ 64 - 1)) fields here (λ text x is. tt)) (λ n m at.
    end_fits n.1 (Get n.0) at refl tt)

prove_fits : (fields : UnreadFields) → FitsWord fields.column → WhatKeeps (prove_at fields)
unfolding prove_at
prove_fits fields here =
    then_fits Any _ _ (field_gives Any (number_of (2 ^ 64 - 1)) fields here (λ text x is. tt)) (λ n m at.
    end_fits n.1 (Prove n.0) at refl tt)

extend_fits : (fields : UnreadFields) → FitsWord fields.column → WhatKeeps (extend_at fields)
unfolding extend_at
extend_fits fields here =
    then_fits Any _ _ (field_gives Any which_of fields here (λ text x is. tt)) (λ which w at.
    then_fits Any _ _ (field_gives Any (number_of (2 ^ 64 - 1)) which.1 at (λ text x is. tt)) (λ m k at.
    end_fits m.1 (Extend which.0 m.0) at refl tt))

clue_fits : (fields : UnreadFields) → FitsWord fields.column → WhatKeeps (clue_at fields)
unfolding clue_at
clue_fits fields here =
    then_fits (λ clue. length clue ≤ NAME_LIMIT) _ _ (field_gives (λ clue. length clue ≤ NAME_LIMIT) clue_of fields here clue_short) (λ name c at.
    end_fits name.1 (Clue name.0) at (le-leb (length name.0) NAME_LIMIT c) tt)

head_fits : (fields : UnreadFields) → FitsWord fields.column → WhatKeeps (head_at fields)
unfolding head_at
head_fits fields here = end_fits fields Head here refl tt

-- one of two that fit
either_fits : (b : Bool) (x y : Result Line Refusal) → WhatKeeps x → WhatKeeps y → WhatKeeps (if b then x else y)
either_fits true x y first second = first
either_fits false x y first second = second

verb_fits : (verb : List ℕ) (fields : UnreadFields) → FitsWord fields.column → WhatKeeps (verb_at verb fields)
verb_fits verb fields here =
    either_fits (bytes_eq verb (codes "append")) _ _ (append_fits fields here)
    (either_fits (bytes_eq verb (codes "member")) _ _ (member_fits fields here)
    (either_fits (bytes_eq verb (codes "anchor")) _ _ (anchor_fits fields here)
    (either_fits (bytes_eq verb (codes "occult")) _ _ (occult_fits fields here)
    (either_fits (bytes_eq verb (codes "occultclue")) _ _ (clue_occult_fits fields here)
    (either_fits (bytes_eq verb (codes "purge")) _ _ (purge_fits fields here)
    (either_fits (bytes_eq verb (codes "get")) _ _ (get_fits fields here)
    (either_fits (bytes_eq verb (codes "prove")) _ _ (prove_fits fields here)
    (either_fits (bytes_eq verb (codes "extend")) _ _ (extend_fits fields here)
    (either_fits (bytes_eq verb (codes "clue")) _ _ (clue_fits fields here)
    (either_fits (bytes_eq verb (codes "head")) _ _ (head_fits fields here) (refl, tt)))))))))))

asked_fits : (verb : Result (List ℕ × UnreadFields) Refusal) → Gives Any verb → WhatKeeps (asked_by verb)
asked_fits (Ok verb) g = verb_fits verb.0 verb.1 g.1
asked_fits (Err refusal) g = (refl, tt)

by_lane : (lane : Option ℕ) (fields : UnreadFields) → FitsWord fields.column → WhatKeeps (spoken_by lane fields).1
by_lane None fields here = (refl, tt)
by_lane (Some lane) fields here = asked_fits (field_at text_of fields) (field_gives Any text_of fields here (λ text x is. tt))

by_first : (first : Result (List ℕ × UnreadFields) Refusal) → Gives Any first → WhatKeeps (spoken_at first).1
by_first (Ok first) g = by_lane (lane_of first.0) first.1 g.1
by_first (Err refusal) g = (refl, tt)

-- what a line asks for keeps to the limits, or its refusal is one of a line's form; and the numbers of either fit
spoken_keeps : (line : List ℕ) → WhatKeeps (spoken_line line).1
unfolding spoken_line
spoken_keeps line = by_first (field_at text_of (fields_of line)) (field_gives Any text_of (fields_of line) (omega arith) (λ text x is. tt))

pub spoken_fits : (line : List ℕ) → fits_what (spoken_line line).1 ≡ true
spoken_fits line = (spoken_keeps line).0

pub spoken_counts : (line : List ℕ) → WhatFits (spoken_line line).1
spoken_counts line = (spoken_keeps line).1
