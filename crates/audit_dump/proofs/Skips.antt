-- Bytes that are passed over, and a base of which more bytes are told than any has.
use Rattle.std.proofs.Common.{◌≡◌, ◌⊎◌, inl, inr, ℕ, ◌+◌, ◌-◌, ◌<◌, ◌≤◌, true, List, [], ◌++◌, length, length-append, length-drop, take, drop, append_assoc, arith, Result, Ok, Err, refl, sym, ap, subst, ◌∙◌}
use Rattle.std.proofs.lemmas.Bool.{cases_lt, lt-ltb, le-ltb}
use Rattle.std.proofs.lemmas.List.{take-append-le, drop-append-le, drop-drop, length-take-le, take-append-drop, take-take}
use Rattle.ledger_bytes.specs.declared.failure.Bad.{Bad}
use Rattle.ledger_bytes.specs.declared.failure.Bad.TheVariants.{Short}
use Rattle.ledger_bytes.specs.Fields.{Unread, left_from, ◌>>=◌, bytes_at}
use Rattle.ledger_io.specs.Outside.{SourceState}
use Rattle.ledger_io.specs.Windows.{Seen, HasSeen, HasEnough}
use Rattle.ledger_io.specs.declared.failure.LineErr.{LineErr}
use Rattle.journal_record.specs.Items.{most_bytes}
use Rattle.pseudo_genesis.specs.Reading.{base_of}
use Rattle.audit_dump.specs.Breaks.{in_dump, place_within}
use Rattle.audit_dump.specs.Fronts.{unread, Decodes, HasReadOn, ReadsOn, base_behind, most_base, skip_at}
use Rattle.audit_dump.specs.declared.front.Stop.{Stop}
use Rattle.audit_dump.specs.declared.front.Stop.TheVariants.{Broken, Failed}
use Rattle.audit_dump.specs.declared.walking.Break.{Break}
use Rattle.audit_dump.proofs.BaseReads.{base_far}
use Rattle.audit_dump.proofs.Fronts.{any_want, base_short, behind_base, broke, decoded_some, kept_none, not_both, read_all, read_none, read_seen, read_trans, reads_fail, reads_then, short_field, unread_seen, within_seen}
use Rattle.audit_dump.proofs.Walks.{errors_then}

-- ---- bytes that are passed over

-- of so many bytes that are passed over so many are left
pub record HasSkipped (len left : ℕ) (before after : SourceState) (old new : Seen) : Type 0 where
  pub bytes : List ℕ
  pub read_bytes : HasReadOn before after old new bytes
  pub same : (further : List ℕ) → skip_at len (unread old (bytes ++ further)) ≡ skip_at left (unread new further)
  pub failed : after.faults ≡ before.faults

pub skipped_none : (len : ℕ) (a : SourceState) (x : Seen) → HasSkipped len len a a x x
skipped_none len a x = record { bytes = []; read_bytes = read_none a x; same = λ further. refl; failed = refl }

-- some are taken
skip_some : (left k whole : ℕ) (rest : List ℕ) → k ≤ left → k ≤ length rest → skip_at left (left_from whole rest) ≡ skip_at (left - k) (left_from whole (drop k rest))
skip_some left k whole rest few there =
    let len : length (drop k rest) ≡ length rest - k = length-drop k rest in
    elim (cases_lt (length rest) left) [
      | inl short ↦ rw (lt-ltb (length rest) left short, lt-ltb (length (drop k rest)) (left - k) (omega (arith, len, short, few, there))) refl
      | inr long ↦
          let all : drop (left - k) (drop k rest) ≡ drop left rest = drop-drop (left - k) k rest ∙ ap (λ n. drop n rest) (omega (arith, few)) in
          rw (le-ltb (length rest) left long, le-ltb (length (drop k rest)) (left - k) (omega (arith, len, long, few, there))) (ap (λ t. Ok (tt, left_from whole t)) (sym all))
    ]

module _ (len left : ℕ) (a b c : SourceState) (x y z : Seen) (bytes : List ℕ) (so_far : HasSkipped len left a b x y) (s : HasSeen b c y z bytes) where
  skip_seen : (further : List ℕ) → skip_at len (unread x ((so_far.bytes ++ bytes) ++ further)) ≡ skip_at left (unread z further)
  skip_seen further = ap (λ t. skip_at len (unread x t)) (append_assoc so_far.bytes bytes further) ∙ so_far.same (bytes ++ further) ∙ ap (skip_at left) (unread_seen b c y z bytes further s)

  pub skipped_more : (k : ℕ) → k ≤ left → k ≤ length z.held → c.faults ≡ b.faults → HasSkipped len (left - k) a c x (record z { held = drop k z.held })
  skipped_more k few there same = record {
    bytes = so_far.bytes ++ bytes;
    read_bytes = read_trans a b c x y (record z { held = drop k z.held }) so_far.bytes bytes so_far.read_bytes (read_seen b c y z bytes k s);
    same = λ further. (
        skip_seen further ∙ skip_some left k (z.total + length further) (z.held ++ further) few (omega (arith, there, length-append z.held further))
        ∙ ap (λ t. skip_at (left - k) (left_from (z.total + length further) t)) (drop-append-le k z.held further there)
        );
    failed = same ∙ so_far.failed;
  }

  pub skip_short : 0 < left → c.faults ≡ b.faults → (1 ≤ length z.held) ⊎ (z.ended ≡ true) → length z.held ≡ 0 → (broken : Break) → broken.bad ≡ Short broken.place
      → broken.place ≡ (z.total - length z.held) + length z.held → ReadsOn (skip_at len) a c x z (Err (Broken broken))
  skip_short some same (inl held) none broken kind place = absurd (omega (arith, held, none))
  skip_short some same (inr ended) none broken kind place =
      let read = read_trans a b c x y z so_far.bytes bytes so_far.read_bytes (read_all b c y z bytes s) in
      record {
        bytes = so_far.bytes ++ bytes;
        read_bytes = read;
        told = λ within further may. (
            let at : broken.place ≡ z.total = omega (arith, place, read.within within) in (
              skip_seen further ∙ ap (λ t. skip_at left (unread z t)) (may ended) ∙ ap (λ r. r >>= kept_none) (short_field left (λ t. t) b c y z bytes s (omega (arith, some, none)))
                  ∙ ap (λ t. Err (Short t)) (sym at) ∙ ap Err (sym kind),
              sym (ap place_within kind),
            )
            );
        failed = same ∙ so_far.failed;
      }

  pub skip_fails : (n : ℕ) (e : LineErr) → HasEnough b c n z (Err e) → ReadsOn (skip_at len) a c x z (Err (Failed e))
  skip_fails n e is = record {
    bytes = so_far.bytes ++ bytes;
    read_bytes = read_trans a b c x y z so_far.bytes bytes so_far.read_bytes (read_all b c y z bytes s);
    told = λ within further may. tt;
    failed = errors_then a b c most_bytes z e so_far.failed (any_want b c n most_bytes z e is);
  }

pub skip_ends : (len left : ℕ) (a b : SourceState) (x y : Seen) → HasSkipped len left a b x y → left ≡ 0 → ReadsOn (skip_at len) a b x y (Ok tt)
skip_ends len left a b x y so_far none = record {
  bytes = so_far.bytes;
  read_bytes = so_far.read_bytes;
  told = λ within further may. (
      let nothing : skip_at 0 (unread y further) ≡ Ok (tt, unread y further) = rw (le-ltb (length (y.held ++ further)) 0 (omega arith)) refl in
      so_far.same further ∙ ap (λ n. skip_at n (unread y further)) none ∙ nothing
      );
  failed = so_far.failed;
}

-- ---- a base of too many bytes

-- what was read more is held
abbrev nothing : Unread → Result ((Unit {0}) × Unread) Bad
nothing l = Ok (tt, l)

reads_held : (a b : SourceState) (x y : Seen) (bytes : List ℕ) → HasSeen a b x y bytes → b.faults ≡ a.faults → ReadsOn nothing a b x y (Ok tt)
reads_held a b x y bytes s same = record { bytes = bytes; read_bytes = read_all a b x y bytes s; told = λ within further may. ap nothing (unread_seen a b x y bytes further s); failed = same }

same_bad : {A B : Type 0} (p q : Bad) → broke A p ≡ broke A q → broke B p ≡ broke B q
same_bad p q e = let is : p ≡ q = cc in ap Err is

-- where the bytes aren't all there
skip_breaks : (len : ℕ) (l : Unread) (bad : Bad) → skip_at len l ≡ Err bad → base_behind len l ≡ Err bad
skip_breaks len l bad e = go (bytes_at len l) e
  where
    go : (r : Result (List ℕ × Unread) Bad) → (r >>= kept_none) ≡ Err bad → (r >>= behind_base) ≡ Err bad
    go (Ok m) e = absurd (not_both tt m.1 bad e)
    go (Err p) e = same_bad p bad e

skip_stops : (len : ℕ) (a b : SourceState) (x y : Seen) (e : Stop) → ReadsOn (skip_at len) a b x y (Err e) → ReadsOn (base_behind len) a b x y (Err e)
skip_stops len a b x y (Broken broken) on = record {
  bytes = on.bytes;
  read_bytes = on.read_bytes;
  told = λ within further may. (
      let told = on.told within further may in
      (skip_breaks len (unread x (on.bytes ++ further)) broken.bad told.0, told.1)
      );
  failed = on.failed;
}
skip_stops len a b x y (Failed e) on = record { bytes = on.bytes; read_bytes = on.read_bytes; told = λ within further may. tt; failed = on.failed }

module _ (len : ℕ) (a b : SourceState) (x y : Seen) (bytes : List ℕ) (s : HasSeen a b x y bytes) (same : b.faults ≡ a.faults) where
  pub long_stops : (c : SourceState) (z : Seen) (e : Stop) → ReadsOn (skip_at len) b c y z (Err e) → ReadsOn (base_behind len) a c x z (Err e)
  long_stops c z e on = skip_stops len a c x z e (reads_then nothing (λ u. skip_at len u.1) a b x y c z tt (Err e) (reads_held a b x y bytes s same) on)

  module _ (n : ℕ) (far : most_base < n) (le : n ≤ len) where
    pub long_short : (n ≤ length y.held) ⊎ (y.ended ≡ true) → length y.held < n → (broken : Break) → broken.bad ≡ Short broken.place
        → broken.place ≡ (y.total - length y.held) + length y.held → ReadsOn (base_behind len) a b x y (Err (Broken broken))
    long_short (inl long) short broken kind place = absurd (omega (arith, long, short))
    long_short (inr ended) short broken kind place = base_short len a b x y bytes s same (inr ended) (omega (arith, short, le)) broken kind place

    module _ (long : n ≤ length y.held) where
      pub long_fails : (e : LineErr) → Decodes (base_of (take n y.held)) (Err (Failed e)) → ReadsOn (base_behind len) a b x y (Err (Failed e))
      long_fails e is = reads_fail (base_behind len) a b x y len bytes e s (subst (λ (e : LineErr). HasEnough a b len y (Err e)) (sym is) same)

      -- its first bytes tell its break
      first_tell : (further : List ℕ) → len ≤ length (y.held ++ further) → base_of (take len (y.held ++ further)) ≡ base_of (take n y.held)
      first_tell further there =
          let rest : List ℕ = y.held ++ further in
          let more : List ℕ = drop n (take len rest) in
          let first : take n (take len rest) ≡ take n y.held =
          take-take n len rest le ∙ take-append-le n y.held further long in
          let parts : take len rest ≡ take n y.held ++ more = sym (take-append-drop n (take len rest)) ∙ ap (λ t. t ++ more) first in
          let told = base_far (take n y.held) more (omega (arith, far, length-take-le n y.held long)) in
          ap base_of parts ∙ told.2 ∙ sym told.1

      pub long_breaks : (broken : Break) → Decodes (base_of (take n y.held)) (Err (Broken broken)) → (c : SourceState) (z : Seen) → ReadsOn (skip_at len) b c y z (Ok tt)
          → ReadsOn (base_behind len) a c x z (Err (Broken broken))
      long_breaks broken is c z on = record {
        bytes = bytes ++ on.bytes;
        read_bytes = read_trans a b c x y z bytes on.bytes (read_all a b x y bytes s) on.read_bytes;
        told = λ within further may. (
            let coming : List ℕ = on.bytes ++ further in
            let here : unread x ((bytes ++ on.bytes) ++ further) ≡ unread y coming = ap (unread x) (append_assoc bytes on.bytes further) ∙ unread_seen a b x y bytes coming s in
            (ap (base_behind len) here ∙ breaks coming z further (on.told (within_seen a b x y bytes s within) further may), is.1)
            );
        failed = on.failed ∙ same;
      }
        where
          breaks : (coming : List ℕ) (z : Seen) (further : List ℕ) → skip_at len (unread y coming) ≡ Ok (tt, unread z further) → base_behind len (unread y coming) ≡ Err broken.bad
          breaks coming z further skipped = elim (cases_lt (length (y.held ++ coming)) len) [
            | inl short ↦ absurd (not_both tt (unread z further) (Short (y.total + length coming)) (sym skipped ∙ rw (lt-ltb (length (y.held ++ coming)) len short) refl))
            | inr there ↦
                let after : Unread = left_from (y.total + length coming) (drop len (y.held ++ coming)) in
                let read : base_behind len (unread y coming) ≡ behind_base (take len (y.held ++ coming), after) = rw (le-ltb (length (y.held ++ coming)) len there) refl in
                read
                ∙ ap (λ r. r >>= λ base. Ok (base, after))
                (decoded_some (take len (y.held ++ coming)) (omega (arith, far, le, length-take-le len (y.held ++ coming) there)) ∙ ap in_dump (first_tell coming there) ∙ is.0)
          ]
