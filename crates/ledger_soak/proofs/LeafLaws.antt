-- The leaf digests of a history's journals.
use Rattle.std.specs.Prelude.{suc, zero, slice_get, true, not, ◌&&◌}
use Rattle.std.specs.Option.{option_map}
use Rattle.std.specs.Str.{bytes_eq}
use Rattle.std.proofs.lemmas.Bool.{le-leb}
use Rattle.std.proofs.Common.{◌≡◌, ℕ, ◌<◌, ◌≤◌, List, [], ◌∷◌, length, map, get_or, Option, Some, None, option_and_then, refl, ap, sym, ◌∙◌, arith}
use Rattle.std.proofs.lemmas.Option.{same_Some}
use Rattle.ledger_bytes.specs.Digests.{digest}
use Rattle.ledger_bytes.specs.declared.digest.Digest.{Digest}
use Rattle.journal_record.specs.Entry.{Entry}
use Rattle.ledger_model.specs.Bounds.{lower_journal, IsNearestBefore}
use Rattle.ledger_model.specs.Dues.{digests_of}
use Rattle.ledger_model.specs.History.{History, journals, size, point, leaf_digest}
use Rattle.ledger_model.specs.Lawful.{AreLawful}
use Rattle.ledger_soak.specs.Auditing.{is_found, is_lost}
use Rattle.ledger_soak.specs.Lines.{purge_line, purge_line_to, last_time_but_one}
use Rattle.ledger_soak.specs.declared.receipts.Receipt.{Receipt}
use Rattle.ledger_model.proofs.BoundLaws.{nearest_lower}
use Rattle.ledger_model.proofs.LawfulLaws.{lawful_from, point_below, some_journal}

pub leaf_found : (js : List Entry) (n : ℕ) (leaf : Digest) → n < length js → leaf.0 ≡ get_or (map leaf_digest js) n [] → slice_get (digests_of js) n ≡ Some leaf
leaf_found [] n leaf less is = absurd (omega (arith, less))
leaf_found (j ∷ js) zero leaf less is = ap Some (ap digest (sym is))
leaf_found (j ∷ js) (suc n) leaf less is = leaf_found js n leaf (omega (arith, less)) is

pub leaf_absent : (js : List Entry) (n : ℕ) → length js ≤ n → slice_get (digests_of js) n ≡ None
leaf_absent [] n le = refl
leaf_absent (j ∷ js) zero le = absurd (omega (arith, le))
leaf_absent (j ∷ js) (suc n) le = leaf_absent js n (omega (arith, le))

-- the last journal is kept
pub point_within : (h : History) → AreLawful (journals h) → point h < size h
unfolding point
point_within h lawful = point_below (size h) 0 0 (journals h) (lawful_from (journals h) lawful) (omega arith) (omega (arith, some_journal (journals h) lawful))

-- ---- what is told of a receipt

module _ (h : History) (r : Receipt) (kept : point h ≤ r.jsn) where
  lost_if : is_lost h r ≡ not (is_found (slice_get (digests_of (journals h)) r.jsn) r.leaf)
  lost_if = ap (λ b. b && not (is_found (slice_get (digests_of (journals h)) r.jsn) r.leaf)) (le-leb (point h) r.jsn kept)

  -- the journal has this leaf
  pub lost_found : (leaf : Digest) → r.jsn < size h → leaf.0 ≡ get_or (map leaf_digest (journals h)) r.jsn [] → is_lost h r ≡ not (bytes_eq leaf.0 r.leaf.0)
  lost_found leaf there is = lost_if ∙ ap (λ o. not (is_found o r.leaf)) (leaf_found (journals h) r.jsn leaf there is)

  -- there is none
  pub lost_absent : size h ≤ r.jsn → is_lost h r ≡ true
  lost_absent none = lost_if ∙ ap (λ o. not (is_found o r.leaf)) (leaf_absent (journals h) r.jsn none)

-- ---- the last time journal but one

-- a purge to it keeps it, takes no journal twice, and has its line
pub record IsPurgeAt (h : History) (p : ℕ) (at : Option Entry) : Type 0 where
  pub kept : point h ≤ p
  pub within : p ≤ size h
  pub line_is : purge_line h p ≡ purge_line_to h at

module _ (h : History) (lawful : AreLawful (journals h)) (p : ℕ) where
  abbrev number : Entry → ℕ
  number e = e.header.jsn

  abbrev below : Entry → Option Entry
  below last = lower_journal h last.header.jsn

  purge_before : (n : ℕ) → n ≤ size h → (o : Option Entry) → IsNearestBefore h n o → Some p ≡ option_map number o → IsPurgeAt h p o
  purge_before n le None near is = absurd cc
  purge_before n le (Some b) near is =
      let same : p ≡ number b = same_Some p (number b) is in record {
        kept = omega (arith, same, near.0.kept);
        within = omega (arith, same, near.1, le);
        line_is = ap (purge_line h) same;
      }

  purge_below : (o : Option Entry) → IsNearestBefore h (size h) o → Some p ≡ option_map number (option_and_then below o) → IsPurgeAt h p (option_and_then below o)
  purge_below None near is = absurd cc
  purge_below (Some last) near is = purge_before (number last) (omega (arith, near.1)) (below last) (nearest_lower h lawful (number last)) is

  pub purges_to : Some p ≡ option_map number (last_time_but_one h) → IsPurgeAt h p (last_time_but_one h)
  purges_to is = purge_below (lower_journal h (size h)) (nearest_lower h lawful (size h)) is
