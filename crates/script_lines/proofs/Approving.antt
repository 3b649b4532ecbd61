-- What is read of numbers, bytes and approvals keeps to the limits of a line.
use Rattle.std.proofs.Common.{◌≡◌, ℕ, suc, ◌*◌, ◌-◌, ◌^◌, ◌<◌, ◌≤◌, ◌==◌, ◌&&◌, nat_le, if◌then◌else◌, Bool, true, false, cond, List, [], ◌∷◌, length, Option, Some, None, Result, Ok, Err, All, refl, ap, subst, arith}
use Rattle.std.specs.Option.{option_and_then}
use Rattle.std.specs.Result.{result_ok}
use Rattle.std.proofs.lemmas.Bool.{and_from, and_parts, le-leb, leb-true}
use Rattle.std.proofs.lemmas.List.Elements.{All-cons, All-nil, All-weaker}
use Rattle.std.proofs.lemmas.List.Sums.{list_all-from_AllPass}
use Rattle.hex.specs.Hex.{decode_of}
use Rattle.hex.specs.declared.error.FromHexError.{FromHexError}
use Rattle.hex.proofs.HexLemmas.{decode_of-ok}
use Rattle.ledger_bytes.specs.declared.limits.TheConstants.{APPROVAL_LIMIT, PROOF_LIMIT}
use Rattle.script_lines.specs.Limits.{fits_approvals}
use Rattle.script_lines.specs.Parts.{parts, all_of, with_first}
use Rattle.script_lines.specs.Spellings.{number_of, request_number_of, bytes_of, is_dash, is_decimal, value_behind, approval_from, approval_of, approvals_from, approvals_of}
use Rattle.script_lines.specs.declared.said.SaidApproval.{SaidApproval}

pub number_low : (most : ℕ) (text : List ℕ) (n : ℕ) → number_of most text ≡ Some n → n ≤ most
number_low most text n is =
    elim (is_decimal text && nat_le (value_behind 0 text) most) as (λ v. (is_decimal text && nat_le (value_behind 0 text) most) ≡ v → cond v (Some (value_behind 0 text)) None ≡ Some n → n ≤ most) [
      | true ↦ λ fits read.
          let same : value_behind 0 text ≡ n = cc in
          omega (arith, same, leb-true (value_behind 0 text) most (and_parts (is_decimal text) (nat_le (value_behind 0 text) most) fits).1)
      | false ↦ λ fits read. absurd cc
    ] refl is

pub request_number_low : (text : List ℕ) (n : ℕ) → request_number_of text ≡ Some n → n ≤ 2 ^ 64 - 1
request_number_low text n is = by (number_of (2 ^ 64 - 1) text) (λ m read. number_low (2 ^ 64 - 1) text m read) is where
  kept : (none : Bool) (m : ℕ) → cond none None (Some m) ≡ Some n → m ≡ n
  kept true m read = absurd cc
  kept false m read = cc

  numbered : Option ℕ → Option ℕ
  numbered read = option_and_then (λ (m : ℕ). if m == 0 then None else Some m) read

  by : (read : Option ℕ) → ((m : ℕ) → read ≡ Some m → m ≤ 2 ^ 64 - 1) → numbered read ≡ Some n → n ≤ 2 ^ 64 - 1
  by None low some = absurd cc
  by (Some m) low some = subst (λ k. k ≤ 2 ^ 64 - 1) (kept (m == 0) m some) (low m refl)

-- what is there is what was found
found : (read : Result (List ℕ) FromHexError) (bytes : List ℕ) → result_ok read ≡ Some bytes → read ≡ Ok bytes
found (Ok x) bytes is = let same : x ≡ bytes = cc in ap Ok same
found (Err e) bytes is = absurd cc

pub bytes_short : (most : ℕ) (text bytes : List ℕ) → bytes_of most text ≡ Some bytes → length bytes ≤ most
bytes_short most text bytes is =
    elim (is_dash text) as (λ dash. cond dash (Some []) (cond (nat_le 2 (length text) && nat_le (length text) (2 * most)) (result_ok (decode_of text)) None) ≡ Some bytes → length bytes ≤ most) [
      | true ↦ λ none. let same : [] ≡ bytes = cc in omega (arith, ap length same)
      | false ↦ λ some.
          elim (nat_le 2 (length text) && nat_le (length text) (2 * most)) as (λ fits. (nat_le 2 (length text) && nat_le (length text) (2 * most)) ≡ fits → cond fits (result_ok (decode_of text)) None ≡ Some bytes → length bytes ≤ most) [
            | true ↦ λ fits read.
                let decoded = decode_of-ok text bytes (found (decode_of text) bytes read) in
                omega (arith, decoded.2, leb-true (length text) (2 * most) (and_parts (nat_le 2 (length text)) (nat_le (length text) (2 * most)) fits).1)
            | false ↦ λ fits read. absurd cc
          ] refl some
    ] is

-- what all parts read as is as each reads
first_keeps : {A : Type 0} (P : A → Type 0) (first : Option A) (more : Option (List A)) (xs : List A) → ((x : A) → first ≡ Some x → P x)
    → ((ys : List A) → more ≡ Some ys → All P ys) → with_first first more ≡ Some xs → All P xs
first_keeps P None more xs one rest is = absurd cc
first_keeps P (Some x) None xs one rest is = absurd cc
first_keeps P (Some x) (Some ys) xs one rest is =
    let same : x ∷ ys ≡ xs = cc in subst (All P) same (All-cons P x ys (one x refl) (rest ys refl))

all_keep : {A : Type 0} (P : A → Type 0) (read : List ℕ → Option A) → ((text : List ℕ) (x : A) → read text ≡ Some x → P x)
    → (texts : List (List ℕ)) (xs : List A) → all_of read texts ≡ Some xs → All P xs
all_keep P read keeps [] xs is = let same : [] ≡ xs = cc in subst (All P) same (All-nil P)
all_keep P read keeps (text ∷ texts) xs is =
    first_keeps P (read text) (all_of read texts) xs (keeps text) (λ ys. all_keep P read keeps texts ys) is

-- .. and as many as there are parts
first_counts : {A : Type 0} (first : Option A) (more : Option (List A)) (n : ℕ) (xs : List A) → ((ys : List A) → more ≡ Some ys → length ys ≡ n)
    → with_first first more ≡ Some xs → length xs ≡ suc n
first_counts None more n xs rest is = absurd cc
first_counts (Some x) None n xs rest is = absurd cc
first_counts (Some x) (Some ys) n xs rest is =
    let same : x ∷ ys ≡ xs = cc in omega (arith, ap length same, rest ys refl)

all_count : {A : Type 0} (read : List ℕ → Option A) (texts : List (List ℕ)) (xs : List A) → all_of read texts ≡ Some xs → length xs ≡ length texts
all_count read [] xs is = let same : [] ≡ xs = cc in omega (arith, ap length same)
all_count read (text ∷ texts) xs is =
    first_counts (read text) (all_of read texts) (length texts) xs (λ ys. all_count read texts ys) is

-- an approval keeps to the limits of a line
pub record IsShortApproval (by : SaidApproval) : Type 0 where
  pub member : by.member < 2 ^ 32
  pub proof : length by.proof ≤ PROOF_LIMIT

two_read : (member : Option ℕ) (proof : Option (List ℕ)) (by : SaidApproval)
    → option_and_then (λ m. option_and_then (λ p. Some (record { member = m; proof = p })) proof) member ≡ Some by
    → (member ≡ Some by.member) × (proof ≡ Some by.proof)
two_read None proof by is = absurd cc
two_read (Some m) None by is = absurd cc
two_read (Some m) (Some p) by is = (cc, cc)

parts_short : (texts : List (List ℕ)) (by : SaidApproval) → approval_from texts ≡ Some by → IsShortApproval by
parts_short [] by is = absurd cc
parts_short (member ∷ []) by is = absurd cc
parts_short (member ∷ proof ∷ []) by is =
    let read = two_read (number_of (2 ^ 32 - 1) member) (bytes_of PROOF_LIMIT proof) by is in
    record {
      member = omega (arith, number_low (2 ^ 32 - 1) member by.member read.0);
      proof = bytes_short PROOF_LIMIT proof by.proof read.1;
    }
parts_short (member ∷ proof ∷ more ∷ texts) by is = absurd cc

-- some approvals keep to them
pub record AreShort (given : List SaidApproval) : Type 0 where
  pub few : length given ≤ APPROVAL_LIMIT
  pub each : All IsShortApproval given

texts_short : (texts : List (List ℕ)) (given : List SaidApproval) → approvals_from texts ≡ Some given → AreShort given
texts_short texts given is =
    elim (nat_le (length texts) APPROVAL_LIMIT) as (λ v. nat_le (length texts) APPROVAL_LIMIT ≡ v → cond v (all_of approval_of texts) None ≡ Some given → AreShort given) [
      | true ↦ λ few read. record {
        few = omega (arith, all_count approval_of texts given read, leb-true (length texts) APPROVAL_LIMIT few);
        each = all_keep IsShortApproval approval_of (λ text by. parts_short (parts 58 text) by) texts given read;
      }
      | false ↦ λ few read. absurd cc
    ] refl is

pub approvals_short : (text : List ℕ) (given : List SaidApproval) → approvals_of text ≡ Some given → AreShort given
approvals_short text given is =
    elim (is_dash text) as (λ dash. cond dash (Some []) (approvals_from (parts 44 text)) ≡ Some given → AreShort given) [
      | true ↦ λ none.
          let same : [] ≡ given = cc in
          record {
            few = omega (arith, ap length same);
            each = subst (All IsShortApproval) same (All-nil IsShortApproval);
          }
      | false ↦ texts_short (parts 44 text) given
    ] is

-- no more approvals than a line may give, with proofs as long as it may give
pub proofs_fit : (given : List SaidApproval) → length given ≤ APPROVAL_LIMIT → All (λ by. length by.proof ≤ PROOF_LIMIT) given → fits_approvals given ≡ true
proofs_fit given few short =
    let proofs = All-weaker (λ by. length by.proof ≤ PROOF_LIMIT) (λ by. nat_le (length by.proof) PROOF_LIMIT ≡ true) (λ by is. le-leb (length by.proof) PROOF_LIMIT is) given short in
    and_from _ _ (le-leb (length given) APPROVAL_LIMIT few) (list_all-from_AllPass (λ by. nat_le (length by.proof) PROOF_LIMIT) given proofs)

pub approvals_fit : (given : List SaidApproval) → AreShort given → fits_approvals given ≡ true
approvals_fit given short =
    proofs_fit given short.few (All-weaker IsShortApproval (λ by. length by.proof ≤ PROOF_LIMIT) (λ by is. is.proof) given short.each)
