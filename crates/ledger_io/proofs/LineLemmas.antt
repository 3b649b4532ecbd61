-- Lemmas on newlines, and on the lines of bytes.
use Rattle.std.proofs.Common.{◌≡◌, ◌≢◌, ℕ, ◌+◌, ◌<◌, false, eqb, cond, Option, Some, None, List, [], ◌∷◌, ◌++◌, length, take, drop, sym, refl, ap, ◌∙◌, subst, arith, All, inl, inr}
use Rattle.std.specs.Prelude.{MatchOption}
use Rattle.std.proofs.lemmas.Bool.{eqb-true, eq-eqb}
use Rattle.std.proofs.lemmas.List.{append_assoc, drop-drop, drop_more, get_or-take, length-drop, length-take-le, take_all, take-append-drop}
use Rattle.std.proofs.lemmas.List.Elements.{All-same, All-append, All-from_get_or, All-head, All-tail}
use Rattle.std.proofs.lemmas.Bool.Decides.{eqb_tells}
use Rattle.std.proofs.Math.Seq.{take-add}
use Rattle.memchr.specs.Find.{IsFirstByte, is_byte}
use Rattle.ledger_io.specs.Lines.{line_limit, onto_first, lines_of, text_of_lines, IsUnbroken, BeginsTooLong, BreaksAt}

-- a search for the first newline
pub newline_first : (bytes : List ℕ) (found : Option ℕ) → IsFirstByte (is_byte 10) bytes found → MatchOption found (IsUnbroken bytes) (BreaksAt bytes)
newline_first bytes None nowhere = All-from_get_or (λ b. b ≢ 10) bytes 0 (λ k below is. nowhere k (omega arith) below (eq-eqb _ 10 is))
newline_first bytes (Some at) first =
    let within : at < length bytes = first.0.high in record {
      unbroken = All-from_get_or (λ b. b ≢ 10) (take at bytes) 0 (λ k below is.
          let before : k < at = omega (arith, below, length-take-le at bytes (omega (arith, within))) in
          first.0.before k (omega arith) before (eq-eqb _ 10 (sym (get_or-take at bytes k 0 before) ∙ is)));
      within = within;
      newline = drop_more bytes at 0 within ∙ ap (λ b. b ∷ drop (at + 1) bytes) (eqb-true _ 10 first.1);
    }

-- bytes are unbroken where both their parts are
pub IsUnbroken-parts : (bytes : List ℕ) (n : ℕ) → IsUnbroken (take n bytes) → IsUnbroken (drop n bytes) → IsUnbroken bytes
IsUnbroken-parts bytes n front back =
    All-same (λ b. b ≢ 10) bytes (take n bytes ++ drop n bytes) (sym (take-append-drop n bytes)) (All-append (λ b. b ≢ 10) (take n bytes) (drop n bytes) front back)

-- the first newline, where the front was searched before
pub BreaksAt-drop : (bytes : List ℕ) (n at : ℕ) → IsUnbroken (take n bytes) → BreaksAt (drop n bytes) at → BreaksAt bytes (n + at)
BreaksAt-drop bytes n at front b = record {
  unbroken = All-same (λ b. b ≢ 10) (take (n + at) bytes) (take n bytes ++ take at (drop n bytes)) (take-add n at bytes) (All-append (λ b. b ≢ 10) (take n bytes) (take at (drop n bytes)) front b.unbroken);
  within = let inside = b.within in omega (arith, length-drop n bytes);
  newline =
      let e : n + (at + 1) ≡ n + at + 1 = omega arith in
      sym (drop-drop at n bytes) ∙ b.newline ∙ ap (λ l. 10 ∷ l) (drop-drop (at + 1) n bytes ∙ ap (λ k. drop k bytes) e);
}

-- the first newline of what is held, where it was found in the part that wasn't searched before
pub BreaksAt-fresh : (held bytes fresh : List ℕ) (n at : ℕ) → bytes ≡ held → fresh ≡ drop n bytes → IsUnbroken (take n bytes) → BreaksAt fresh at → BreaksAt held (n + at)
BreaksAt-fresh held bytes fresh n at e f front b =
    subst (λ l. BreaksAt l (n + at)) e (BreaksAt-drop bytes n at front (subst (λ l. BreaksAt l at) f b))

-- no newline is held, where none was found in the part that wasn't searched before
pub IsUnbroken-fresh : (bytes fresh : List ℕ) (n : ℕ) → fresh ≡ drop n bytes → IsUnbroken (take n bytes) → IsUnbroken fresh → IsUnbroken bytes
IsUnbroken-fresh bytes fresh n f front back = IsUnbroken-parts bytes n front (All-same (λ b. b ≢ 10) (drop n bytes) fresh (sym f) back)

-- a line that a newline ends too late
pub BeginsTooLong-breaks : (bytes : List ℕ) (end : ℕ) → BreaksAt bytes end → line_limit < end → BeginsTooLong bytes
BeginsTooLong-breaks bytes end b above = (end, record { above = above; within = let inside = b.within in omega arith; unbroken = b.unbroken })

-- held bytes that are unbroken, and too many
pub BeginsTooLong-unbroken : (held bytes : List ℕ) (n : ℕ) → bytes ≡ held → IsUnbroken bytes → n ≡ length bytes → line_limit < n → BeginsTooLong held
BeginsTooLong-unbroken held bytes n e h count above =
    subst BeginsTooLong e
    (n, record { above = above; within = omega arith; unbroken = All-same (λ b. b ≢ 10) (take n bytes) bytes (take_all n bytes (omega arith)) h })

-- the test of a byte that isn't a newline
not_newline : (b : ℕ) → b ≢ 10 → eqb b 10 ≡ false
not_newline b h = elim (eqb_tells b 10) [ inl p ↦ absurd (h p.1) | inr p ↦ p.0 ]

-- a line that a newline ends, and the lines of what follows
pub lines_of-line : (line rest : List ℕ) → IsUnbroken line → lines_of (line ++ 10 ∷ rest) ≡ line ∷ lines_of rest
lines_of-line [] rest h = refl
lines_of-line (b ∷ line) rest h =
    ap (λ t. cond t ([] ∷ lines_of (line ++ 10 ∷ rest)) (onto_first b (lines_of (line ++ 10 ∷ rest)))) (not_newline b (All-head (λ b. b ≢ 10) b line h))
    ∙ ap (onto_first b) (lines_of-line line rest (All-tail (λ b. b ≢ 10) b line h))

-- bytes without a newline are one line
pub lines_of-rest : (rest : List ℕ) → IsUnbroken rest → rest ≢ [] → lines_of rest ≡ rest ∷ []
lines_of-rest [] h some = absurd (some refl)
lines_of-rest (b ∷ []) h some = ap (λ t. cond t ([] ∷ []) ((b ∷ []) ∷ [])) (not_newline b (All-head (λ b. b ≢ 10) b [] h))
lines_of-rest (b ∷ c ∷ rest) h some =
    ap (λ t. cond t ([] ∷ lines_of (c ∷ rest)) (onto_first b (lines_of (c ∷ rest)))) (not_newline b (All-head (λ b. b ≢ 10) b (c ∷ rest) h))
    ∙ ap (onto_first b) (lines_of-rest (c ∷ rest) (All-tail (λ b. b ≢ 10) b (c ∷ rest) h) (λ e. cc))

-- whole lines, and the lines of what follows
pub lines_of-broken : (lines : List (List ℕ)) (rest : List ℕ) → All IsUnbroken lines → lines_of (text_of_lines lines ++ rest) ≡ lines ++ lines_of rest
lines_of-broken [] rest h = refl
lines_of-broken (line ∷ lines) rest h =
    ap lines_of (append_assoc line (10 ∷ text_of_lines lines) rest) ∙ lines_of-line line (text_of_lines lines ++ rest) (All-head IsUnbroken line lines h)
    ∙ ap (λ l. line ∷ l) (lines_of-broken lines rest (All-tail IsUnbroken line lines h))

-- lines, one after the other
pub broken-append : (xs ys : List (List ℕ)) → text_of_lines (xs ++ ys) ≡ text_of_lines xs ++ text_of_lines ys
broken-append [] ys = refl
broken-append (line ∷ xs) ys = ap (λ l. line ++ 10 ∷ l) (broken-append xs ys) ∙ sym (append_assoc line (10 ∷ text_of_lines xs) (text_of_lines ys))

-- a line more at the end
pub broken-push : (lines : List (List ℕ)) (line : List ℕ) → text_of_lines (lines ++ line ∷ []) ≡ text_of_lines lines ++ (line ++ 10 ∷ [])
broken-push lines line = broken-append lines (line ∷ [])
