-- Lemmas on the numbers of members' records.
use Rattle.std.specs.Prelude.{bytes_eq, ◌==◌}
use Rattle.std.specs.Option.{option_or}
use Rattle.std.proofs.Common.{◌≡◌, ℕ, zero, suc, ◌+◌, ◌<◌, ◌≤◌, Bool, true, false, cond, List, [], ◌∷◌, length, length-drop, map, drop, get_or, Option, Some, None, refl, ap, arith, append-nil}
use Rattle.ledger_model.proofs.LawfulLaws.{two_points}
use Rattle.ledger_bytes.specs.Digests.{digest}
use Rattle.ledger_bytes.specs.declared.digest.Digest.{Digest}
use Rattle.ledger_bytes.specs.declared.refusal.Refusal.{Refusal}
use Rattle.ledger_bytes.specs.declared.refusal.Refusal.TheVariants.{NumberTaken}
use Rattle.journal_record.specs.Entry.{Entry}
use Rattle.ledger_model.specs.Dues.{HasLeaf}
use Rattle.ledger_model.specs.History.{History, history, journals, journals_of, size, point, greatest_point, leaf_digest}
use Rattle.ledger_model.specs.Numbers.{is_numbered, place_from, numbered, link_at, taken_by, repeated_by, number_taken, repeated}
use Rattle.ledger_model.specs.Targets.{leaf_at}

-- a place that is found is one of those that are looked at
pub place_within : (m n : ℕ) (is : Entry → Bool) (es : List Entry) → place_from m is es ≡ Some n → (m ≤ n) × (n < m + length es)
place_within m n is [] found = absurd cc
place_within m n is (e ∷ es) found = by_later (place_from (m + 1) is es) refl (λ k at. place_within (m + 1) k is es at) found where
  by_test : (b : Bool) → cond b (Some m) None ≡ Some n → (m ≤ n) × (n < m + length (e ∷ es))
  by_test true here = let same : m ≡ n = cc in (omega (arith, same), omega (arith, same))
  by_test false here = absurd cc

  by_later : (later : Option ℕ) → place_from (m + 1) is es ≡ later → ((k : ℕ) → place_from (m + 1) is es ≡ Some k → (m + 1 ≤ k) × (k < m + 1 + length es)) → option_or later (cond (is e) (Some m) None) ≡ Some n
      → (m ≤ n) × (n < m + length (e ∷ es))
  by_later (Some k) at within here = let same : k ≡ n = cc in let w = within k at in (omega (arith, w.0, same), omega (arith, w.1, same))
  by_later None at within here = by_test (is e) here

-- a kept record that is found is kept, and there
pub numbered_within : (h : History) (member number n : ℕ) → numbered h member number ≡ Some n → (point h ≤ n) × (n < size h)
unfolding numbered
numbered_within h member number n found = by_test (number == 0) found where
  by_test : (b : Bool) → cond b None (place_from (point h) (is_numbered member number) (drop (point h) (journals h))) ≡ Some n → (point h ≤ n) × (n < size h)
  by_test true is = absurd cc
  by_test false is =
      let w = place_within (point h) n (is_numbered member number) (drop (point h) (journals h)) is in
      (w.0, omega (arith, w.0, w.1, length-drop (point h) (journals h)))

same_request : (h : History) (request : Digest) (found : Option ℕ) (n : ℕ) → repeated_by h request found ≡ Some n → found ≡ Some n
same_request h request None n is = absurd cc
same_request h request (Some m) n is = by_test (bytes_eq request.0 (link_at h m)) is where
  by_test : (b : Bool) → cond b (Some m) None ≡ Some n → Some m ≡ Some n
  by_test true it = it
  by_test false it = absurd cc

-- a record that is repeated is there
pub repeated_within : (h : History) (member number : ℕ) (request : Digest) (n : ℕ) → repeated h member number request ≡ Some n → (point h ≤ n) × (n < size h)
unfolding repeated
repeated_within h member number request n is = numbered_within h member number n (same_request h request (numbered h member number) n is)

none_by : (h : History) (request : Digest) (found : Option ℕ) → (let none : Option Refusal = None in taken_by h request found ≡ none) → (let none : Option ℕ = None in repeated_by h request found ≡ none) → (let none : Option ℕ = None in found ≡ none)
none_by h request None free new = refl
none_by h request (Some n) free new = by_test (bytes_eq request.0 (link_at h n)) free new where
  by_test : (b : Bool) → (let none : Option Refusal = None in cond b None (Some (NumberTaken n)) ≡ none) → (let none : Option ℕ = None in cond b (Some n) None ≡ none) → (let none : Option ℕ = None in Some n ≡ none)
  by_test true a b = b
  by_test false a b = absurd cc

-- a number that isn't taken and not repeated is none of a kept record
pub none_numbered : (h : History) (member number : ℕ) (request : Digest) → (let none : Option Refusal = None in number_taken h member number request ≡ none) → (let none : Option ℕ = None in repeated h member number request ≡ none)
    → (let none : Option ℕ = None in numbered h member number ≡ none)
unfolding number_taken repeated
none_numbered h member number request free new = none_by h request (numbered h member number) free new

abbrev digest_at : Entry → Digest
digest_at journal = digest (leaf_digest journal)

leaf_in : (js : List Entry) (n : ℕ) → n < length js → HasLeaf js n (digest (get_or (map leaf_digest js) n []))
leaf_in [] n within = absurd (omega (arith, within))
leaf_in (j ∷ js) zero within = refl
leaf_in (j ∷ js) (suc n) within = leaf_in js n (omega (arith, within))

-- the point of a history was no greater before its last journals
pub point_before : (h : History) → point (history h.closed []) ≤ point h
unfolding point
point_before h = omega (arith, two_points (journals_of h.closed) h.waiting, ap greatest_point (append-nil (journals_of h.closed)))

-- a journal that is there has its leaf
pub leaf_there : (h : History) (n : ℕ) → n < size h → HasLeaf (journals h) n (digest (leaf_at h n))
leaf_there h n within = leaf_in (journals h) n within
