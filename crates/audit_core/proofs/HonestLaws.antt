-- A notary that pegged one journal once is honest, where the journal was placed before.
use Rattle.std.proofs.Common.{◌≡◌, ◌≢◌, inl, inr, ℕ, zero, suc, ◌<◌, ◌≤◌, ◌^◌, List, [], ◌∷◌, get_or, take, refl, sym, ap, ◌∙◌, arith}
use Rattle.std.specs.Int.{w64, to_be_bytes, from_be_bytes}
use Rattle.std.proofs.lemmas.Nat.{from_be_bytes-to_be_bytes_8}
use Rattle.std.proofs.lemmas.Bool.{cases_lt}
use Rattle.ledger_bytes.specs.declared.digest.Digest.{Digest}
use Rattle.journal_record.specs.declared.header.Header.{Header}
use Rattle.journal_record.specs.Header.{spelling}
use Rattle.tree_model.specs.Tree.{Hash, mth}
use Rattle.time_peg.specs.Entries.{peg_string, entry_of}
use Rattle.proof_codec.specs.Proofs.{IsTimeHeader}
use Rattle.audit_core.specs.Honest.{IsHonest, pegged_once}
use Rattle.audit_core.specs.Truth.{Lists}

-- an entry has one time, where times have 8 bytes
one_time : (s t : ℕ) (peg other salt more : List ℕ) → s < 2 ^ 64 → t < 2 ^ 64 → entry_of s peg salt ≡ entry_of t other more → s ≡ t
one_time s t peg other salt more sf tf is =
    let front : to_be_bytes w64 s ≡ to_be_bytes w64 t = ap (take 8) is in
    sym (from_be_bytes-to_be_bytes_8 s sf) ∙ ap (from_be_bytes w64) front ∙ from_be_bytes-to_be_bytes_8 t tf

module _ (hash : Hash) (id salt : Digest) (journal : List ℕ) (moment time : ℕ) (other : (header : Header) → IsTimeHeader header → journal ≢ spelling header) (le : moment ≤ time) (few : time < 2 ^ 64) where
  abbrev lists : Lists
  lists = pegged_once hash id salt journal time

  rising : (i j : ℕ) → i ≤ j → j < 1 → get_or (moment ∷ []) i 0 ≤ get_or (moment ∷ []) j 0
  rising zero zero less inside = omega arith
  rising (suc i) zero less inside = absurd (omega (arith, less))
  rising i (suc j) less inside = absurd (omega (arith, inside))

  later : (k m t : ℕ) (s : Digest) → m ≤ 1 → k < 1 → get_or lists.entries k [] ≡ entry_of t (hash (peg_string id.0 m (mth hash (take m lists.headers)))) s.0
      → (i : ℕ) → i < m → i < 1 → get_or (moment ∷ []) i 0 ≤ t
  later (suc k) m t s below inside is i low first = absurd (omega (arith, inside))
  later zero m t s below inside is (suc i) low first = absurd (omega (arith, first))
  later zero m t s below inside is zero low first = elim (cases_lt t (2 ^ 64)) [
    | inl fits ↦ omega (arith, le, one_time time t _ _ salt.0 s.0 few fits is)
    | inr large ↦ omega (arith, le, few, large)
  ]

  told_never : (j : ℕ) (header : Header) (t : ℕ) (peg : List ℕ) → j < 1 → IsTimeHeader header → get_or lists.headers j [] ≡ spelling header → header.a < 1 → t < 2 ^ 64 → get_or lists.entries header.a [] ≡ entry_of t peg header.link.0 → t ≤ get_or (moment ∷ []) j 0
  told_never zero header t peg inside sort is at fits entry = absurd (other header sort is)
  told_never (suc j) header t peg inside sort is at fits entry = absurd (omega (arith, inside))

  pub once_honest : IsHonest hash lists (moment ∷ [])
  once_honest = record { count = refl; rises = rising; pegged = later; told = told_never }
