-- Lemmas on how far a session has read.
use Rattle.std.proofs.Common.{◌≡◌, ◌≢◌, ℕ, ◌+◌, ◌-◌, ◌*◌, ◌<◌, ◌≤◌, inl, inr, true, false, List, [], ◌∷◌, ◌++◌, length, None, refl, ap, sym, subst, ◌∙◌, arith, append_assoc, append-nil, length-append}
use Rattle.std.specs.Prelude.{All}
use Rattle.std.specs.Io.KnownBytes.{Consumes, IsAtEnd}
use Rattle.std.proofs.KnownBytes.{Consumes-nil, Consumes-trans}
use Rattle.std.proofs.lemmas.List.Elements.{All-weaker, All-push, All-nil}
use Rattle.ledger_io.specs.Outside.{SourceState}
use Rattle.ledger_io.specs.Lines.{lines_of, text_of_lines, IsUnbroken, IsLine, Splits, script_limit}
use Rattle.ledger_io.specs.Reading.{Reading, ReadsBytes, GivesLine, GivesNone, IsBrokenOff, IsLast, Fails}
use Rattle.ledger_io.specs.declared.failure.LineErr.{LineErr}
use Rattle.ledger_io.proofs.LineLemmas.{lines_of-broken, lines_of-rest, broken-push}

-- how far the reading came: these lines were given
pub record HasGiven (before now : SourceState) (reading : Reading) (lines : List (List ℕ)) : Type 0 where
  pub read : List ℕ
  pub consumed : Consumes before.left now.left read
  pub each : All IsLine lines
  pub unended : reading.ended ≡ false → read ≡ text_of_lines lines ++ reading.held
  pub ended : reading.ended ≡ true → lines_of read ≡ lines
  pub at_end : reading.ended ≡ true → IsAtEnd now.left
  pub sound : reading.failed ≡ None
  pub total : reading.total ≡ length read
  pub bounded : reading.total ≤ script_limit
  pub few : length lines + length reading.held ≤ length read
  pub short : reading.ended ≡ true → length read < script_limit
  pub faults : now.faults ≡ before.faults

-- nothing was read yet
pub read_none : (before : SourceState) (reading : Reading) → reading ≡ record { held = []; total = 0; ended = false; failed = None } → HasGiven before before reading []
read_none before reading is =
    let start : HasGiven before before (record { held = []; total = 0; ended = false; failed = None }) [] = record {
      read = [];
      consumed = Consumes-nil before.left;
      each = All-nil IsLine;
      unended = λ e. refl;
      ended = λ e. absurd (let no : ⊥ = cc in no);
      at_end = λ e. absurd (let no : ⊥ = cc in no);
      sound = refl;
      total = refl;
      bounded = omega arith;
      few = omega arith;
      short = λ e. absurd (let no : ⊥ = cc in no);
      faults = refl;
    } in
    subst (λ r. HasGiven before before r []) (sym is) start

-- a line more among the lines that newlines end
broken_more : (lines : List (List ℕ)) (line held : List ℕ) → text_of_lines lines ++ (line ++ 10 ∷ held) ≡ text_of_lines (lines ++ line ∷ []) ++ held
broken_more lines line held =
    ap (λ x. text_of_lines lines ++ x) (sym (append_assoc line (10 ∷ []) held)) ∙ sym (append_assoc (text_of_lines lines) (line ++ 10 ∷ []) held)
    ∙ ap (λ x. x ++ held) (sym (broken-push lines line))

pub unbroken : (lines : List (List ℕ)) → All IsLine lines → All IsUnbroken lines
unbroken lines each = All-weaker IsLine IsUnbroken (λ line fits. fits.0) lines each

-- what was read with some bytes more, where the source hasn't ended
pub read_on : (before now : SourceState) (reading : Reading) (lines : List (List ℕ)) (bytes : List ℕ) (h : HasGiven before now reading lines) → reading.ended ≡ false → h.read ++ bytes ≡ text_of_lines lines ++ (reading.held ++ bytes)
read_on before now reading lines bytes h e = ap (λ x. x ++ bytes) (h.unended e) ∙ append_assoc (text_of_lines lines) reading.held bytes

-- a line more that a newline ended
read_broken : (before mid after : SourceState) (old new : Reading) (bytes line : List ℕ) (lines : List (List ℕ)) → HasGiven before mid old lines → ReadsBytes mid after old new bytes → after.faults ≡ mid.faults → GivesLine after old new bytes line → IsBrokenOff old new bytes line → HasGiven before after new (lines ++ line ∷ [])
read_broken before mid after old new bytes line lines h r k g b = record {
  read = h.read ++ bytes;
  consumed = Consumes-trans before.left mid.left after.left h.read bytes h.consumed r.consumed;
  each = All-push IsLine lines line h.each g.fits;
  unended = λ e. read_on before mid old lines bytes h g.unended ∙ ap (λ x. text_of_lines lines ++ x) b.given ∙ broken_more lines line new.held;
  ended = λ e. absurd (let no : ⊥ = cc (b.ended, e) in no);
  at_end = λ e. absurd (let no : ⊥ = cc (b.ended, e) in no);
  sound = g.unfailed;
  total = omega (arith, r.total, h.total, length-append h.read bytes);
  bounded = r.bounded;
  few = omega (arith, h.few, length-append h.read bytes, length-append old.held bytes, length-append line (10 ∷ new.held), ap length b.given, length-append lines (line ∷ []));
  short = λ e. absurd (let no : ⊥ = cc (b.ended, e) in no);
  faults = k ∙ h.faults;
}

pub some_length : {A : Type 0} (xs : List A) → xs ≢ [] → 0 < length xs
some_length [] none = absurd (none refl)
some_length (x ∷ xs) some = omega arith

-- a line more that the end of the source ended
read_last : (before mid after : SourceState) (old new : Reading) (bytes line : List ℕ) (lines : List (List ℕ)) → HasGiven before mid old lines → ReadsBytes mid after old new bytes → after.faults ≡ mid.faults → GivesLine after old new bytes line → IsLast after old new bytes line → HasGiven before after new (lines ++ line ∷ [])
read_last before mid after old new bytes line lines h r k g b =
    let some : 0 < length line = some_length line b.some in
    let held : length new.held ≡ 0 = ap length b.none_held in record {
      read = h.read ++ bytes;
      consumed = Consumes-trans before.left mid.left after.left h.read bytes h.consumed r.consumed;
      each = All-push IsLine lines line h.each g.fits;
      unended = λ e. absurd (let no : ⊥ = cc (b.ended, e) in no);
      ended = λ e. ap lines_of (read_on before mid old lines bytes h g.unended ∙ ap (λ x. text_of_lines lines ++ x) b.given) ∙ lines_of-broken lines line (unbroken lines h.each) ∙ ap (λ x. lines ++ x) (lines_of-rest line g.fits.0 b.some);
      at_end = λ e. b.at_end;
      sound = g.unfailed;
      total = omega (arith, r.total, h.total, length-append h.read bytes);
      bounded = r.bounded;
      few = omega (arith, h.few, held, some, length-append h.read bytes, length-append old.held bytes, ap length b.given, length-append lines (line ∷ []));
      short = λ e. omega (arith, b.short, r.total, h.total, length-append h.read bytes);
      faults = k ∙ h.faults;
    }

-- a line more
pub read_more : (before mid after : SourceState) (old new : Reading) (bytes line : List ℕ) (lines : List (List ℕ)) → HasGiven before mid old lines → ReadsBytes mid after old new bytes → after.faults ≡ mid.faults → GivesLine after old new bytes line → HasGiven before after new (lines ++ line ∷ [])
read_more before mid after old new bytes line lines h r k g =
    elim g.rest [
      | inl b ↦ read_broken before mid after old new bytes line lines h r k g b
      | inr b ↦ read_last before mid after old new bytes line lines h r k g b
    ]

-- a line brings the end nearer: less may be read yet, or less is held
pub line_smaller : (mid after : SourceState) (old new : Reading) (bytes line : List ℕ) → ReadsBytes mid after old new bytes → GivesLine after old new bytes line → 2 * (script_limit - new.total) + length new.held < 2 * (script_limit - old.total) + length old.held
line_smaller mid after old new bytes line r g =
    elim g.rest [
      | inl b ↦ omega (arith, r.total, r.bounded, length-append old.held bytes, length-append line (10 ∷ new.held), ap length b.given)
      | inr b ↦ last_smaller b (ap length b.none_held) (some_length line b.some)
    ]
  where
    last_smaller : IsLast after old new bytes line → length new.held ≡ 0 → 0 < length line → 2 * (script_limit - new.total) + length new.held < 2 * (script_limit - old.total) + length old.held
    last_smaller b none some = omega (arith, r.total, r.bounded, none, some, length-append old.held bytes, ap length b.given)

-- a line takes at least one byte of what was held and read
pub line_counted : (mid after : SourceState) (old new : Reading) (bytes line : List ℕ) → ReadsBytes mid after old new bytes → GivesLine after old new bytes line → length new.held + 1 ≤ length old.held + length bytes
line_counted mid after old new bytes line r g =
    elim g.rest [
      | inl b ↦ omega (arith, length-append old.held bytes, length-append line (10 ∷ new.held), ap length b.given)
      | inr b ↦ last_counted b (ap length b.none_held) (some_length line b.some)
    ]
  where
    last_counted : IsLast after old new bytes line → length new.held ≡ 0 → 0 < length line → length new.held + 1 ≤ length old.held + length bytes
    last_counted b none some = omega (arith, none, some, length-append old.held bytes, ap length b.given)

-- a call of `next` behind the lines that were given
module _ (before mid after : SourceState) (old new : Reading) (bytes : List ℕ) (lines : List (List ℕ)) (h : HasGiven before mid old lines) (r : ReadsBytes mid after old new bytes) where
  pub given_consumed : Consumes before.left after.left (h.read ++ bytes)
  given_consumed = Consumes-trans before.left mid.left after.left h.read bytes h.consumed r.consumed

  -- where the source has ended, the lines that were given are all lines
  pub given_all : GivesNone mid after old new bytes → (lines_of (h.read ++ bytes) ≡ lines) × IsAtEnd after.left
  given_all g =
      elim g.cause [
        | inl end ↦ (ap lines_of (read_on before mid old lines bytes h end.0 ∙ ap (λ x. text_of_lines lines ++ x) g.given) ∙ lines_of-broken lines [] (unbroken lines h.each) ∙ append-nil lines, end.1)
        | inr again ↦ (
          ap lines_of (ap (λ x. h.read ++ x) again.1.none ∙ append-nil h.read) ∙ h.ended again.0,
          subst (λ (k : SourceState). IsAtEnd k.left) (sym again.1.source) (h.at_end again.0),
        )
      ]

  -- at an error, what was read is the lines that were given and what is held
  pub given_split : (error : LineErr) → Fails mid after old new bytes error → Splits (h.read ++ bytes) lines new.held
  given_split error f = record { is = read_on before mid old lines bytes h f.unended ∙ ap (λ x. text_of_lines lines ++ x) (sym f.held); each = h.each }
