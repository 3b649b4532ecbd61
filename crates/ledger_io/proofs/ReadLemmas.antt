-- Lemmas on what a reader of lines reads and answers.
use Rattle.std.proofs.Common.{◌≡◌, ◌≢◌, ℕ, ◌+◌, ◌<◌, ◌≤◌, Bool, false, List, [], ◌++◌, length, take, Option, Some, None, Result, Ok, Err, sym, refl, ap, ◌∙◌, subst, inl, inr, arith}
use Rattle.std.proofs.lemmas.Bool.{false≢true}
use Rattle.std.proofs.lemmas.List.{append_assoc, append-nil, length-append, nil_from_length, take-append-le, take_all}
use Rattle.std.proofs.lemmas.List.Elements.{All-same}
use Rattle.std.specs.Io.KnownBytes.{IsAtEnd}
use Rattle.std.proofs.KnownBytes.{Consumes-trans}
use Rattle.ledger_io.specs.Outside.{SourceState}
use Rattle.ledger_io.specs.Lines.{script_limit, IsUnbroken, IsLine, BreaksAt}
use Rattle.ledger_io.specs.Reading.{Reading, ReadsBytes, Gives}
use Rattle.ledger_io.specs.Steps.{reading_after, HasRead, Fetched, TakesLine, TakesRest, IsSoundReader}
use Rattle.ledger_io.specs.declared.failure.LineErr.{LineErr}
use Rattle.ledger_io.specs.declared.failure.LineErr.TheVariants.{ReadFault, LineTooLong, ScriptTooLong, NoMemory}

-- all held bytes were searched
pub IsSound-all : (held : List ℕ) (looked n total : ℕ) (ended : Bool) → IsSoundReader held looked total ended → n ≡ length held → IsUnbroken held → IsSoundReader held n total ended
IsSound-all held looked n total ended s e h = record {
  within = omega arith;
  unbroken = All-same (λ b. b ≢ 10) (take n held) held (take_all n held (omega arith)) h;
  bounded = s.bounded;
  none_held = s.none_held;
  short = s.short;
}

-- the bytes before the first newline were searched
pub IsSound-before : (held : List ℕ) (looked n total : ℕ) (ended : Bool) → IsSoundReader held looked total ended → BreaksAt held n → IsSoundReader held n total ended
IsSound-before held looked n total ended s b = record {
  within = let inside = b.within in omega arith;
  unbroken = b.unbroken;
  bounded = s.bounded;
  none_held = s.none_held;
  short = s.short;
}

-- bytes came behind those that are held
pub IsSound-more : (held now bytes : List ℕ) (looked total more : ℕ) (ended : Bool) → IsSoundReader held looked total ended → ended ≡ false → now ≡ held ++ bytes
    → total + more ≤ script_limit → IsSoundReader now looked (total + more) ended
IsSound-more held now bytes looked total more ended s unended e few = record {
  within = let w = s.within in let l = ap length e ∙ length-append held bytes in omega arith;
  unbroken = All-same (λ b. b ≢ 10) (take looked now) (take looked held) (ap (take looked) e ∙ take-append-le looked held bytes s.within) s.unbroken;
  bounded = few;
  none_held = λ t. absurd (false≢true (sym unended ∙ t));
  short = λ t. absurd (false≢true (sym unended ∙ t));
}

-- two reads in turn
HasRead-trans : (a b c : SourceState) (old mid new : Reading) (xs ys : List ℕ) → HasRead a b old mid xs → HasRead b c mid new ys → HasRead a c old new (xs ++ ys)
HasRead-trans a b c old mid new xs ys p q = record {
  consumed = Consumes-trans a.left b.left c.left xs ys p.consumed q.consumed;
  held = q.held ∙ ap (λ l. l ++ ys) p.held ∙ append_assoc old.held xs ys;
  total = let l = p.total in let m = q.total in omega (arith, length-append xs ys);
  bounded = q.bounded;
  ended = q.ended ∙ p.ended;
  failed = q.failed ∙ p.failed;
}

-- what is answered at the end of the source
rest_given : (a c : SourceState) (old last new : Reading) (bytes : List ℕ) (answer : Result (Option (List ℕ)) LineErr) → old.ended ≡ false → old.failed ≡ None
    → HasRead a c old last bytes → IsAtEnd c.left → IsLine last.held → last.total < script_limit → TakesRest last new answer
    → (x : List ℕ) × ReadsBytes a c old new x × Gives a c old (reading_after new answer) x answer
rest_given a c old last new bytes (Ok (Some line)) unended sound h end fits short t = (
  bytes,
  record { consumed = h.consumed; total = ap (λ (r : Reading). r.total) t.2 ∙ h.total; bounded = let e = ap (λ (r : Reading). r.total) t.2 in omega arith },
  record {
    unended = unended;
    sound = sound;
    fits = subst IsLine t.0 fits;
    rest = inr (record {
      given = sym h.held ∙ t.0;
      some = t.1;
      none_held = ap (λ (r : Reading). r.held) t.2;
      ended = ap (λ (r : Reading). r.ended) t.2;
      at_end = end;
      short = let e = ap (λ (r : Reading). r.total) t.2 in omega arith;
    });
    unfailed = ap (λ (r : Reading). r.failed) t.2 ∙ h.failed ∙ sound;
  },
)
rest_given a c old last new bytes (Ok None) unended sound h end fits short t = (
  bytes,
  record { consumed = h.consumed; total = ap (λ (r : Reading). r.total) t.1 ∙ h.total; bounded = let e = ap (λ (r : Reading). r.total) t.1 in omega arith },
  record {
    sound = sound;
    given = sym h.held ∙ t.0;
    none_held = ap (λ (r : Reading). r.held) t.1 ∙ t.0;
    ended = ap (λ (r : Reading). r.ended) t.1;
    unfailed = ap (λ (r : Reading). r.failed) t.1 ∙ h.failed ∙ sound;
    short = let e = ap (λ (r : Reading). r.total) t.1 in omega arith;
    cause = inl (unended, end);
  },
)
rest_given a c old last new bytes (Err ReadFault) unended sound h end fits short t = absurd t
rest_given a c old last new bytes (Err LineTooLong) unended sound h end fits short t = absurd t
rest_given a c old last new bytes (Err ScriptTooLong) unended sound h end fits short t = absurd t
rest_given a c old last new bytes (Err NoMemory) unended sound h end fits short t = (
  bytes,
  record { consumed = h.consumed; total = ap (λ (r : Reading). r.total) t ∙ h.total; bounded = let e = ap (λ (r : Reading). r.total) t in let b = h.bounded in omega arith },
  inr (record {
    unended = unended;
    sound = sound;
    held = ap (λ (r : Reading). r.held) t ∙ h.held;
    ended = ap (λ (r : Reading). r.ended) t ∙ h.ended ∙ unended;
    failed = refl;
    cause = tt;
  }),
)

-- what is answered where a read brings nothing more
pub end_given : (a b c : SourceState) (old mid same last new : Reading) (bytes ys : List ℕ) (most n : ℕ) (answer : Result (Option (List ℕ)) LineErr)
    → old.ended ≡ false → old.failed ≡ None → HasRead a b old mid bytes → TakesLine mid same (Ok None) → same.total ≢ script_limit
    → HasRead b c same last ys → 0 < most → Fetched b c most ys (Ok n) → n ≡ 0 → TakesRest last new answer
    → (x : List ℕ) × ReadsBytes a c old new x × Gives a c old (reading_after new answer) x answer
end_given a b c old mid same last new bytes ys most n answer unended sound h kept few more some fetched zero t =
    let none : ys ≡ [] = nil_from_length ys (sym fetched.0 ∙ zero) in
    let held : last.held ≡ mid.held = more.held ∙ ap (λ l. same.held ++ l) none ∙ append-nil same.held ∙ ap (λ (r : Reading). r.held) kept.1 in
    let total = ap (λ (r : Reading). r.total) kept.1 in
    let added = more.total in
    let count = fetched.0 in
    let bound = h.bounded in
    rest_given a c old last new (bytes ++ ys) answer unended sound (HasRead-trans a b c old mid last bytes ys h (subst (λ r. HasRead b c r last ys) kept.1 more))
    (fetched.2 zero some) (subst IsLine (sym held) kept.0) (omega arith) t
