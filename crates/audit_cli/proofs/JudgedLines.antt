-- A line that asks to check or to judge a proof gives bytes.
use Rattle.std.proofs.Common.{◌≡◌, ℕ, ◌*◌, ◌-◌, ◌^◌, ◌%◌, ◌==◌, ◌&&◌, nat_le, if◌then◌else◌, Bool, true, false, cond, List, [], ◌∷◌, length, codes, Option, Some, None, Result, Ok, Err, refl, ap, subst, arith}
use Rattle.std.specs.Prelude.{⊤}
use Rattle.std.specs.Result.{result_ok}
use Rattle.std.specs.Str.{bytes_eq}
use Rattle.hex.specs.Hex.{decode_of}
use Rattle.hex.specs.declared.error.FromHexError.{FromHexError}
use Rattle.hex.proofs.HexLemmas.{decode_of-ok}
use Rattle.ledger_bytes.specs.Fields.{IsBytes}
use Rattle.ledger_bytes.specs.declared.digest.Digest.{Digest}
use Rattle.ledger_bytes.specs.declared.refusal.Refusal.{Refusal}
use Rattle.ledger_io.specs.Lines.{line_limit}
use Rattle.proof_codec.specs.declared.claim.Claim.{Claim}
use Rattle.script_lines.specs.Fields.{UnreadFields, fields_of, read_or_bad, field_from, field_at, end_from, end_at}
use Rattle.script_lines.specs.Grammar.{◌>>=◌}
use Rattle.script_lines.specs.Spellings.{text_of, number_of, bytes_of, digest_of, which_of, mark_of, is_dash}
use Rattle.script_lines.specs.declared.said.Which.{Which}
use Rattle.script_lines.specs.declared.said.Which.TheVariants.{Ledger, Notary}
use Rattle.audit_cli.specs.declared.line.Line.{Line}
use Rattle.audit_cli.specs.declared.line.Line.TheVariants.{TrustLedger, TrustNotary, Extend, Check, Judge}
use Rattle.audit_cli.specs.Grammar.{trust_ledger_at, trust_notary_at, trust_of, trust_at, extend_at, check_at, pieces_from, pieces_of, judge_at, verb_at, line_at, line_of}

-- the headers and the proof that are to be judged are bytes
pub record Judgeable (headers proof : List ℕ) : Type 0 where
  pub headers_are : IsBytes headers
  pub proof_is : IsBytes proof

-- what is read, where it asks for a proof, has bytes
abbrev Gives : Result Line Refusal → Type 0
Gives (Ok (TrustLedger id head)) = ⊤
Gives (Ok (TrustNotary head)) = ⊤
Gives (Ok (Extend which m head proof)) = ⊤
Gives (Ok (Check claim proof)) = IsBytes proof
Gives (Ok (Judge id headers entries claim proof)) = Judgeable headers proof
Gives (Err refusal) = ⊤

-- what a field reads as keeps to a rule
abbrev Reads : {A : Type 0} → (A → Type 0) → Result (A × UnreadFields) Refusal → Type 0
Reads P (Ok read) = P read.0
Reads P (Err refusal) = ⊤

reads_or : {A : Type 0} (P : A → Type 0) (column : ℕ) (read : Option A) (rest : UnreadFields) → ((x : A) → read ≡ Some x → P x) → Reads P (read_or_bad column read rest)
reads_or P column None rest keeps = tt
reads_or P column (Some x) rest keeps = keeps x refl

field_reads : {A : Type 0} (P : A → Type 0) (read : List ℕ → Option A) (left : UnreadFields) → ((text : List ℕ) (x : A) → read text ≡ Some x → P x) → Reads P (field_at read left)
field_reads P read left keeps = by left.fields where
  by : (fields : List (List ℕ)) → Reads P (field_from read left.column fields)
  by [] = tt
  by (field ∷ fields) = reads_or P left.column (read field) _ (keeps field)

-- the rest of a line behind a field
then_gives : {A : Type 0} (P : A → Type 0) (first : Result (A × UnreadFields) Refusal) (second : A × UnreadFields → Result Line Refusal)
    → Reads P first → ((x : A × UnreadFields) → P x.0 → Gives (second x)) → Gives (first >>= second)
then_gives P (Ok x) second first_reads gives = gives x first_reads
then_gives P (Err refusal) second first_reads gives = tt

-- .. of which nothing is asked
any_gives : {A : Type 0} (read : List ℕ → Option A) (left : UnreadFields) (second : A × UnreadFields → Result Line Refusal) → ((x : A × UnreadFields) → Gives (second x)) → Gives (field_at read left >>= second)
any_gives read left second gives = then_gives (λ x. ⊤) (field_at read left) second (field_reads (λ x. ⊤) read left (λ text x is. tt)) (λ x any. gives x)

-- .. and its end
end_gives : (left : UnreadFields) (line : Line) → Gives (Ok line) → Gives (end_at left >>= (λ end. Ok line))
end_gives left line gives = by left.fields where
  by : (fields : List (List ℕ)) → Gives (end_from left.column fields >>= (λ end. Ok line))
  by [] = gives
  by (field ∷ fields) = tt

-- what is there is what was found
found : (read : Result (List ℕ) FromHexError) (bytes : List ℕ) → result_ok read ≡ Some bytes → read ≡ Ok bytes
found (Ok x) bytes is = let same : x ≡ bytes = cc in ap Ok same
found (Err e) bytes is = absurd cc

-- what digits stand for is bytes
bytes_are : (most : ℕ) (text bytes : List ℕ) → bytes_of most text ≡ Some bytes → IsBytes bytes
bytes_are most text bytes is =
    elim (is_dash text) as (λ dash. cond dash (Some []) (cond (nat_le 2 (length text) && nat_le (length text) (2 * most)) (result_ok (decode_of text)) None) ≡ Some bytes → IsBytes bytes) [
      | true ↦ λ none. let same : [] ≡ bytes = cc in subst IsBytes same (λ i. omega arith)
      | false ↦ λ some.
          elim (nat_le 2 (length text) && nat_le (length text) (2 * most)) as (λ fits. cond fits (result_ok (decode_of text)) None ≡ Some bytes → IsBytes bytes) [
            | true ↦ λ read. (decode_of-ok text bytes (found (decode_of text) bytes read)).3
            | false ↦ λ read. absurd cc
          ] some
    ] is

-- .. in whole pieces too
pieces_are : (width : ℕ) (text bytes : List ℕ) → pieces_of width text ≡ Some bytes → IsBytes bytes
pieces_are width text bytes is = by (bytes_of line_limit text) refl is where
  kept : (whole : Bool) (given : List ℕ) → cond whole (Some given) None ≡ Some bytes → given ≡ bytes
  kept true given e = cc
  kept false given e = absurd cc

  by : (read : Option (List ℕ)) → bytes_of line_limit text ≡ read → pieces_from width read ≡ Some bytes → IsBytes bytes
  by None read e = absurd cc
  by (Some given) read e = subst IsBytes (kept (length given % width == 0) given e) (bytes_are line_limit text given read)

judge_gives : (fields : UnreadFields) → Gives (judge_at fields)
unfolding judge_at
judge_gives fields =
    any_gives digest_of fields _ (λ id.
    then_gives IsBytes _ _ (field_reads IsBytes (pieces_of 174) id.1 (pieces_are 174)) (λ headers headers_are.
    any_gives (pieces_of 72) headers.1 _ (λ entries.
    any_gives (number_of (2 ^ 64 - 1)) entries.1 _ (λ n.
    any_gives digest_of n.1 _ (λ leaf.
    any_gives mark_of leaf.1 _ (λ lo.
    any_gives mark_of lo.1 _ (λ hi.
    then_gives IsBytes _ _ (field_reads IsBytes (bytes_of line_limit) hi.1 (bytes_are line_limit)) (λ proof proof_is.
    end_gives proof.1 (Judge id.0 headers.0 entries.0 (record { n = n.0; leaf = leaf.0; lo = lo.0; hi = hi.0 }) proof.0)
    (record { headers_are = headers_are; proof_is = proof_is })))))))))

trust_ledger_gives : (fields : UnreadFields) → Gives (trust_ledger_at fields)
unfolding trust_ledger_at
trust_ledger_gives fields =
    any_gives digest_of fields _ (λ id.
    any_gives (number_of (2 ^ 64 - 1)) id.1 _ (λ size.
    any_gives digest_of size.1 _ (λ root. end_gives root.1 (TrustLedger id.0 (record { size = size.0; root = root.0 })) tt)))

trust_notary_gives : (fields : UnreadFields) → Gives (trust_notary_at fields)
unfolding trust_notary_at
trust_notary_gives fields =
    any_gives (number_of (2 ^ 64 - 1)) fields _ (λ size.
    any_gives digest_of size.1 _ (λ root. end_gives root.1 (TrustNotary (record { size = size.0; root = root.0 })) tt))

trust_of_gives : (which : Which) (fields : UnreadFields) → Gives (trust_of which fields)
trust_of_gives Ledger fields = trust_ledger_gives fields
trust_of_gives Notary fields = trust_notary_gives fields

trust_gives : (fields : UnreadFields) → Gives (trust_at fields)
unfolding trust_at
trust_gives fields = any_gives which_of fields _ (λ which. trust_of_gives which.0 which.1)

extend_gives : (fields : UnreadFields) → Gives (extend_at fields)
unfolding extend_at
extend_gives fields =
    any_gives which_of fields _ (λ which.
    any_gives (number_of (2 ^ 64 - 1)) which.1 _ (λ m.
    any_gives (number_of (2 ^ 64 - 1)) m.1 _ (λ size.
    any_gives digest_of size.1 _ (λ root.
    any_gives (bytes_of line_limit) root.1 _ (λ proof.
    end_gives proof.1 (Extend which.0 m.0 (record { size = size.0; root = root.0 }) proof.0) tt)))))

check_gives : (fields : UnreadFields) → Gives (check_at fields)
unfolding check_at
check_gives fields =
    any_gives (number_of (2 ^ 64 - 1)) fields _ (λ n.
    any_gives digest_of n.1 _ (λ leaf.
    any_gives mark_of leaf.1 _ (λ lo.
    any_gives mark_of lo.1 _ (λ hi.
    then_gives IsBytes _ _ (field_reads IsBytes (bytes_of line_limit) hi.1 (bytes_are line_limit)) (λ proof proof_is.
    end_gives proof.1 (Check (record { n = n.0; leaf = leaf.0; lo = lo.0; hi = hi.0 }) proof.0) proof_is)))))

-- one of two
either_gives : (b : Bool) (x y : Result Line Refusal) → Gives x → Gives y → Gives (if b then x else y)
either_gives true x y first second = first
either_gives false x y first second = second

verb_gives : (verb : List ℕ) (fields : UnreadFields) → Gives (verb_at verb fields)
verb_gives verb fields =
    either_gives (bytes_eq verb (codes "trust")) _ _ (trust_gives fields)
    (either_gives (bytes_eq verb (codes "extend")) _ _ (extend_gives fields)
    (either_gives (bytes_eq verb (codes "check")) _ _ (check_gives fields)
    (either_gives (bytes_eq verb (codes "judge")) _ _ (judge_gives fields) tt)))

line_gives : (fields : UnreadFields) → Gives (line_at fields)
unfolding line_at
line_gives fields = any_gives text_of fields _ (λ verb. verb_gives verb.0 verb.1)

pub judged_line : (line : List ℕ) (id : Digest) (headers entries : List ℕ) (claim : Claim) (bytes : List ℕ) → line_of line ≡ Ok (Judge id headers entries claim bytes) → Judgeable headers bytes
judged_line line id headers entries claim bytes read = subst Gives read (line_gives (fields_of line))

pub checked_line : (line : List ℕ) (claim : Claim) (bytes : List ℕ) → line_of line ≡ Ok (Check claim bytes) → IsBytes bytes
checked_line line claim bytes read = subst Gives read (line_gives (fields_of line))
