-- What is taken piece by piece through a window, and what it tells of the rest of an input that is to be the end of a dump.
use Rattle.std.specs.Int.{w64, from_be_bytes}
use Rattle.std.specs.Prelude.{◌↔◌, IsTrue, IsErr, IsErrAnd, IfErr, map, ◌*◌}
use Rattle.std.specs.List.{AllByRecursion}
use Rattle.std.proofs.Common.{◌≡◌, ◌⊎◌, inl, inr, IfOk, ℕ, zero, suc, ◌+◌, ◌-◌, ◌^◌, ◌<◌, ◌≤◌, true, List, [], ◌∷◌, ◌++◌, length, length-append, take, append_assoc, arith, Result, Ok, Err, refl, sym, ap, ap₂, subst, ◌∙◌, take_at}
use Rattle.std.proofs.lemmas.Bool.{lt-ltb, le-ltb, ne_eqb}
use Rattle.std.proofs.lemmas.Grind.{flat_map-append}
use Rattle.std.proofs.lemmas.List.{append-nil, drop_at}
use Rattle.std.proofs.KnownBytes.{Consumes-nil, Consumes-trans}
use Rattle.std.specs.Io.KnownBytes.{IsAtEnd}
use Rattle.ledger_bytes.specs.Causes.{count_after}
use Rattle.ledger_bytes.specs.Fields.{left_from, ◌>>=◌, bytes_at, number_at, digest_at, end_at}
use Rattle.ledger_bytes.specs.declared.digest.Digest.{Digest}
use Rattle.ledger_bytes.specs.declared.failure.Bad.TheVariants.{Short, Trailing}
use Rattle.ledger_bytes.proofs.Fields.{bytes_again, digest_again}
use Rattle.ledger_io.specs.Lines.{script_limit}
use Rattle.ledger_io.specs.Outside.{SourceState}
use Rattle.ledger_io.specs.Windows.{Seen, HasSeen, HasEnough}
use Rattle.ledger_io.specs.declared.failure.LineErr.{LineErr}
use Rattle.ledger_io.specs.declared.failure.LineErr.TheVariants.{ReadFault, LineTooLong, ScriptTooLong, NoMemory}
use Rattle.sha2.specs.Sha256.{sha256}
use Rattle.tree_model.specs.Tree.{leaf}
use Rattle.merkle_tree.specs.declared.head.Head.{Head}
use Rattle.merkle_batch.specs.Rows.{StandsFor}
use Rattle.time_peg.specs.Entries.{NeverFalls, last_time, time_in}
use Rattle.dump_model.specs.Dumps.{IsNotaryEntry}
use Rattle.audit_dump.specs.Breaks.{Tail, entries_at, place_within, tail_at}
use Rattle.audit_dump.specs.Walking.{MayFollow, unread_from, place_of}
use Rattle.audit_dump.specs.Fronts.{HasReadOn}
use Rattle.audit_dump.specs.Tails.{StopsShort, HasFailed, HasNoEnd, HasStopped, HasStoppedInEntries, HasTaken, IsEndingOf, IsOfEntries, IsOver, IsToldEnding, StopsOver, TellsEnding, texts_of}
use Rattle.audit_dump.specs.declared.claims.Claim.{Claim}
use Rattle.audit_dump.specs.declared.walking.Break.{Break}
use Rattle.audit_dump.specs.declared.ending.Ending.{Ending}
use Rattle.audit_dump.specs.declared.ending.Entries.{Entries}
use Rattle.audit_dump.specs.declared.front.Stop.{Stop}
use Rattle.audit_dump.specs.declared.front.Stop.TheVariants as stop
use Rattle.audit_dump.proofs.Fronts.{read_all, read_trans}
use Rattle.audit_dump.proofs.Parts.{entries_back, tail_from, with_count, with_entries, with_entry, with_more, with_notary, with_root, with_size}

-- ---- pieces

-- nothing yet
pub taken_none : (a : SourceState) (x : Seen) → HasTaken a a x x []
taken_none a x = record { bytes = []; consumed = Consumes-nil a.left; total = omega arith; end = λ e. inl e; again = λ e. (refl, refl, e); parts = append-nil x.held; faults = refl }

-- bytes were read, and nothing was taken
pub taken_seen : (a b : SourceState) (x y : Seen) (bytes : List ℕ) → HasSeen a b x y bytes → b.faults ≡ a.faults → HasTaken a b x y []
taken_seen a b x y bytes s same = record { bytes = bytes; consumed = s.consumed; total = s.total; end = s.end; again = s.again; parts = sym s.held; faults = same }

-- one piece behind the other
pub taken_then : (a b c : SourceState) (x y z : Seen) (s t : List ℕ) → HasTaken a b x y s → HasTaken b c y z t → HasTaken a c x z (s ++ t)
taken_then a b c x y z s t one two = record {
  bytes = one.bytes ++ two.bytes;
  consumed = Consumes-trans a.left b.left c.left one.bytes two.bytes one.consumed two.consumed;
  total = omega (arith, one.total, two.total, length-append one.bytes two.bytes);
  end = λ e. ended (two.end e);
  again = λ e. (
      let first = one.again e in
      let second = two.again first.2 in
      (ap₂ (λ (t u : List ℕ). t ++ u) first.0 second.0, second.1 ∙ first.1, second.2)
      );
  parts = sym (append_assoc x.held one.bytes two.bytes) ∙ ap (λ k. k ++ two.bytes) one.parts ∙ append_assoc s y.held two.bytes ∙ ap (λ k. s ++ k) two.parts ∙ sym (append_assoc s t z.held);
  faults = two.faults ∙ one.faults;
}
  where
    before : y.ended ≡ true → (x.ended ≡ true) ⊎ IsAtEnd b.left → (x.ended ≡ true) ⊎ IsAtEnd c.left
    before e (inl first) = inl first
    before e (inr at) = inr (subst (λ (k : SourceState). IsAtEnd k.left) (sym (two.again e).1) at)

    ended : (y.ended ≡ true) ⊎ IsAtEnd c.left → (x.ended ≡ true) ⊎ IsAtEnd c.left
    ended (inl e) = before e (one.end e)
    ended (inr at) = inr at

-- nothing more behind a piece
pub taken_on : (a b c : SourceState) (x y z : Seen) (s : List ℕ) → HasTaken a b x y s → HasTaken b c y z [] → HasTaken a c x z s
taken_on a b c x y z s one two = subst (λ k. HasTaken a c x z k) (append-nil s) (taken_then a b c x y z s [] one two)

-- an error of the last reading is that of all, where none failed before
pub failed_then : (a b c : SourceState) (want most : ℕ) (z : Seen) (e : LineErr) → b.faults ≡ a.faults → HasEnough b c want z (Err e) → HasEnough a c most z (Err e)
failed_then a b c want most z ReadFault same is = is ∙ ap count_after same
failed_then a b c want most z LineTooLong same is = is
failed_then a b c want most z ScriptTooLong same is = (is.0 ∙ same, is.1)
failed_then a b c want most z NoMemory same is = is ∙ same

-- a window holds no more than was read, where it did so before
held_in : (a c : SourceState) (x z : Seen) (text : List ℕ) → length x.held ≤ x.total → HasTaken a c x z text → length z.held ≤ z.total
held_in a c x z text within taken = omega (arith, within, taken.total, length-append x.held taken.bytes, length-append text z.held, ap length taken.parts)

-- what was read for a piece
pub taken_read : (a b : SourceState) (x y : Seen) (s : List ℕ) (t : HasTaken a b x y s) → HasReadOn a b x y t.bytes
taken_read a b x y s t = record {
  consumed = t.consumed;
  total = t.total;
  within = λ within. held_in a b x y s within t;
  end = t.end;
  again = t.again;
}

-- a failure of one reading
pub failed_here : (a b : SourceState) (x y : Seen) (bytes : List ℕ) (want : ℕ) (e : LineErr) → HasSeen a b x y bytes → HasEnough a b want y (Err e) → HasFailed want a b x y e
failed_here a b x y bytes want e seen enough = record { bytes = bytes; read_bytes = read_all a b x y bytes seen; enough = enough }

-- memory is wanted behind a piece
pub memory_wanted : (a b : SourceState) (x y : Seen) (s : List ℕ) (most : ℕ) → HasTaken a b x y s → HasFailed most a b x y NoMemory
memory_wanted a b x y s most taken = record { bytes = taken.bytes; read_bytes = taken_read a b x y s taken; enough = taken.faults }

-- a failure behind a piece is one of all
pub failed_on : (a b c : SourceState) (x y z : Seen) (s : List ℕ) (want most : ℕ) (e : LineErr) → HasTaken a b x y s → HasFailed want b c y z e → HasFailed most a c x z e
failed_on a b c x y z s want most e taken failed = record {
  bytes = taken.bytes ++ failed.bytes;
  read_bytes = read_trans a b c x y z taken.bytes failed.bytes (taken_read a b x y s taken) failed.read_bytes;
  enough = failed_then a b c want most z e taken.faults failed.enough;
}

-- one entry more
pub texts_more : (es : List (List ℕ)) (e : List ℕ) → texts_of (es ++ e ∷ []) ≡ texts_of es ++ e
texts_more es e = flat_map-append (λ x. x) es (e ∷ []) ∙ ap (λ t. texts_of es ++ t) (append-nil e)

pub widths_more : (es : List (List ℕ)) (e : List ℕ) → AllByRecursion IsNotaryEntry es → length e ≡ 72 → AllByRecursion IsNotaryEntry (es ++ e ∷ [])
widths_more [] e widths width = (width, tt)
widths_more (x ∷ es) e widths width = (widths.0, widths_more es e widths.1 width)

pub texts_long : (es : List (List ℕ)) → AllByRecursion IsNotaryEntry es → length (texts_of es) ≡ 72 * length es
texts_long [] widths = refl
texts_long (x ∷ es) widths = omega (arith, length-append x (texts_of es), widths.0, texts_long es widths.1)

-- ---- the rest of a dump

module _ (whole : ℕ) where
  number_short : (rest : List ℕ) → length rest < 8 → number_at w64 (left_from whole rest) ≡ Err (Short whole)
  number_short rest lt = rw (lt-ltb (length rest) 8 lt) refl

  digest_short : (rest : List ℕ) → length rest < 32 → digest_at (left_from whole rest) ≡ Err (Short whole)
  digest_short rest lt = rw (lt-ltb (length rest) 32 lt) refl

  bytes_short : (rest : List ℕ) → length rest < 72 → bytes_at 72 (left_from whole rest) ≡ Err (Short whole)
  bytes_short rest lt = rw (lt-ltb (length rest) 72 lt) refl

  number_next : (text rest : List ℕ) → length text ≡ 8 → number_at w64 (left_from whole (text ++ rest)) ≡ Ok (from_be_bytes w64 text, left_from whole rest)
  number_next text rest len =
      rw (le-ltb (length (text ++ rest)) 8 (omega (arith, length-append text rest, len)), take_at text rest 8 len, drop_at text rest 8 len) refl

  entries_short : (es : List (List ℕ)) (count : ℕ) (rest : List ℕ) → AllByRecursion IsNotaryEntry es → length es < count → length rest < 72
      → entries_at count (left_from whole (texts_of es ++ rest)) ≡ Err (Short whole)
  entries_short es zero rest widths fewer few = absurd (omega (arith, fewer))
  entries_short [] (suc n) rest widths fewer few = ap (λ r. r >>= with_entry n) (bytes_short rest few)
  entries_short (e ∷ es) (suc n) rest widths fewer few =
      ap (λ t. entries_at (suc n) (left_from whole t)) (append_assoc e (texts_of es) rest)
      ∙ (ap (λ r. r >>= with_entry n) (bytes_again 72 e whole (texts_of es ++ rest) widths.0)
      ∙ ap (λ r. r >>= with_more e) (entries_short es n rest widths.1 (omega (arith, fewer)) few))

  pub no_size : (rest : List ℕ) → length rest < 8 → tail_at (left_from whole rest) ≡ Err (Short whole)
  unfolding tail_at
  no_size rest few = ap (λ r. r >>= with_size) (number_short rest few)

  pub no_root : (first : List ℕ) → length first ≡ 8 → (rest : List ℕ) → length rest < 32 → tail_at (left_from whole (first ++ rest)) ≡ Err (Short whole)
  unfolding tail_at
  no_root first len rest few = ap (λ r. r >>= with_size) (number_next first rest len) ∙ ap (λ r. r >>= with_root (from_be_bytes w64 first)) (digest_short rest few)

  module _ (first : List ℕ) (root : Digest) (len : length first ≡ 8) (wide : length root.0 ≡ 32) where
    head : (rest : List ℕ) → tail_at (left_from whole (first ++ (root.0 ++ rest))) ≡ (number_at w64 (left_from whole rest) >>= with_count (from_be_bytes w64 first) root)
    unfolding tail_at
    head rest = ap (λ r. r >>= with_size) (number_next first (root.0 ++ rest) len) ∙ ap (λ r. r >>= with_root (from_be_bytes w64 first)) (digest_again root whole rest wide)

    pub no_count : (rest : List ℕ) → length rest < 8 → tail_at (left_from whole (first ++ (root.0 ++ rest))) ≡ Err (Short whole)
    no_count rest few = head rest ∙ ap (λ r. r >>= with_count (from_be_bytes w64 first) root) (number_short rest few)

    module _ (third : List ℕ) (es : List (List ℕ)) (len3 : length third ≡ 8) (widths : AllByRecursion IsNotaryEntry es) where
      counted : (rest : List ℕ) → tail_at (left_from whole (first ++ (root.0 ++ (third ++ rest)))) ≡ (entries_at (from_be_bytes w64 third) (left_from whole rest) >>= with_entries (from_be_bytes w64 first) root)
      counted rest = head (third ++ rest) ∙ ap (λ r. r >>= with_count (from_be_bytes w64 first) root) (number_next third rest len3)

      pub no_entry : (rest : List ℕ) → length es < from_be_bytes w64 third → length rest < 72 → tail_at (left_from whole (first ++ (root.0 ++ (third ++ (texts_of es ++ rest))))) ≡ Err (Short whole)
      no_entry rest fewer few = counted (texts_of es ++ rest) ∙ ap (λ r. r >>= with_entries (from_be_bytes w64 first) root) (entries_short es (from_be_bytes w64 third) rest widths fewer few)

      module _ (all : length es ≡ from_be_bytes w64 third) where
        listed : (rest : List ℕ) → tail_at (left_from whole (first ++ (root.0 ++ (third ++ (texts_of es ++ rest))))) ≡ (digest_at (left_from whole rest) >>= with_notary (from_be_bytes w64 first) root es)
        listed rest =
            counted (texts_of es ++ rest)
            ∙ ap (λ r. r >>= with_entries (from_be_bytes w64 first) root) (subst (λ (n : ℕ). entries_at n (left_from whole (texts_of es ++ rest)) ≡ Ok (es, left_from whole rest)) all (entries_back es whole rest widths))

        pub no_notary : (rest : List ℕ) → length rest < 32 → tail_at (left_from whole (first ++ (root.0 ++ (third ++ (texts_of es ++ rest))))) ≡ Err (Short whole)
        no_notary rest few = listed rest ∙ ap (λ r. r >>= with_notary (from_be_bytes w64 first) root es) (digest_short rest few)

        module _ (notary : Digest) (wide5 : length notary.0 ≡ 32) where
          pub ended : (rest : List ℕ) → tail_at (left_from whole (first ++ (root.0 ++ (third ++ (texts_of es ++ (notary.0 ++ rest)))))) ≡ end_at (tail_from (from_be_bytes w64 first) root es notary) (left_from whole rest)
          ended rest = listed (notary.0 ++ rest) ∙ ap (λ r. r >>= with_notary (from_be_bytes w64 first) root es) (digest_again notary whole rest wide5)

          pub no_end : (rest : List ℕ) → 0 < length rest → tail_at (left_from whole (first ++ (root.0 ++ (third ++ (texts_of es ++ (notary.0 ++ rest)))))) ≡ Err (Trailing (whole - length rest))
          no_end rest some = ended rest ∙ rw (ne_eqb (length rest) 0 (λ none. omega (arith, some, none))) refl

-- ---- entries

pub last_more : (least : ℕ) (es : List (List ℕ)) (e : List ℕ) → last_time least (es ++ e ∷ []) ≡ time_in e
last_more least [] e = refl
last_more least (x ∷ es) e = last_more (time_in x) es e

times_join : (least : ℕ) (es : List (List ℕ)) (e : List ℕ) → NeverFalls least es × (last_time least es ≤ time_in e) → NeverFalls least (es ++ e ∷ [])
times_join least [] e both = (both.1, tt)
times_join least (x ∷ es) e both = (both.0.0, times_join (time_in x) es e (both.0.1, both.1))

times_part : (least : ℕ) (es : List (List ℕ)) (e : List ℕ) → NeverFalls least (es ++ e ∷ []) → NeverFalls least es × (last_time least es ≤ time_in e)
times_part least [] e all = (tt, all.0)
times_part least (x ∷ es) e all = let rest = times_part (time_in x) es e all.1 in ((all.0, rest.0), rest.1)

-- one entry more
pub kept_more : (es : List (List ℕ)) (e : List ℕ) (old new : Entries) → IsOfEntries es old → StandsFor sha256 new.tree (map (leaf sha256) (es ++ e ∷ [])) → new.tree.size ≡ old.tree.size + 1 → new.tree.size - new.tree.floor < 64
    → new.last ≡ time_in e → (IsTrue new.never_falls ↔ (IsTrue old.never_falls × (old.last ≤ new.last))) → IsOfEntries (es ++ e ∷ []) new
kept_more es e old new k stands more few time times = record {
  stands = stands;
  size = omega (arith, more, k.size, length-append es (e ∷ []));
  few = few;
  last = time ∙ sym (last_more 0 es e);
  never_falls = (
    λ yes. let both = times.0 yes in times_join 0 es e (k.never_falls.0 both.0, omega (arith, both.1, k.last, time)),
    λ all. let both = times_part 0 es e all in times.1 (k.never_falls.1 both.0, omega (arith, both.1, k.last, time)),
  );
}

pub time_is : (first entry : List ℕ) (n : ℕ) → first ≡ take 8 entry → n ≡ from_be_bytes w64 first → n ≡ time_in entry
unfolding time_in
time_is first entry n same is = is ∙ ap (from_be_bytes w64) same

-- no more entries can have been read than bytes may be
pub entries_few : (a b c : SourceState) (x y z : Seen) (es : List (List ℕ)) (e : List ℕ) → HasTaken a b x y (texts_of es) → AllByRecursion IsNotaryEntry es → HasTaken b c y z e
    → length x.held < 2 ^ 64 → z.total ≤ script_limit → length es + 1 < 2 ^ 63
entries_few a b c x y z es e one widths two fits bounded =
    omega (arith, fits, bounded, one.total, two.total, texts_long es widths, length-append x.held one.bytes, length-append (texts_of es) y.held, ap length one.parts)

-- no entry yet
pub kept_none : (entries : Entries) → StandsFor sha256 entries.tree [] → entries.tree.size ≡ 0 → entries.tree.floor ≡ 0 → entries.last ≡ 0 → entries.never_falls ≡ true → IsOfEntries [] entries
kept_none entries stands none floor last never = record {
  stands = stands;
  size = none;
  few = omega (arith, none, floor);
  last = last;
  never_falls = (λ _. tt, λ _. never);
}

-- so many bytes aren't there, and the source has ended
pub ends_here : (want : ℕ) (w : Seen) → (want ≤ length w.held) ⊎ (w.ended ≡ true) → (held : List ℕ) → held ≡ w.held → length held < want → (place : ℕ) → place ≡ place_of w
    → StopsShort want w (record { bad = Short (place + length held); place = place + length held })
ends_here want w (inl long) held same few place at = absurd (omega (arith, long, few, ap length same))
ends_here want w (inr ended) held same few place at =
    let end : place + length held ≡ place_of w + length w.held = omega (arith, at, ap length same) in record { ended = ended; few = omega (arith, few, ap length same); bad_is = ap Short end; place_is = end }

-- ---- what is told of the input

-- what is told of the bytes that were taken and of those that may follow is told of the input
pub tells : (claims : List Claim) (a c : SourceState) (x z : Seen) (text : List ℕ) (told : Result Ending Break) → length x.held ≤ x.total → HasTaken a c x z text → IfOk told (λ ending. z.ended ≡ true)
    → ((further : List ℕ) → MayFollow z further → IsToldEnding claims (left_from (z.total + length further) (text ++ (z.held ++ further))) told) → TellsEnding claims a c x z told
tells claims a c x z text told within taken ended so = record { bytes = taken.bytes; read_bytes = taken_read a c x z text taken; ended = ended; over = whole_input }
  where
    whole_input : (further : List ℕ) → MayFollow z further → IsToldEnding claims (unread_from (place_of x) ((x.held ++ taken.bytes) ++ further)) told
    whole_input further may =
        let parts : (x.held ++ taken.bytes) ++ further ≡ text ++ (z.held ++ further) = ap (λ t. t ++ further) taken.parts ∙ append_assoc text z.held further in
        let whole : place_of x + length ((x.held ++ taken.bytes) ++ further) ≡ z.total + length further =
        omega (arith, within, taken.total, length-append x.held taken.bytes, length-append (x.held ++ taken.bytes) further) in
        subst (λ l. IsToldEnding claims l told) (sym (ap₂ left_from whole parts)) (so further may)

-- where the input ends too early behind a text, it breaks there
pub early : (claims : List Claim) (a c : SourceState) (x z : Seen) (text : List ℕ) (want : ℕ) (broken : Break) → length x.held ≤ x.total → HasTaken a c x z text → StopsShort want z broken
    → ((whole : ℕ) (rest : List ℕ) → length rest < want → tail_at (left_from whole (text ++ rest)) ≡ Err (Short whole)) → TellsEnding claims a c x z (Err broken)
early claims a c x z text want broken within taken end short = tells claims a c x z text (Err broken) within taken tt told
  where
    told : (further : List ℕ) → MayFollow z further → IsToldEnding claims (left_from (z.total + length further) (text ++ (z.held ++ further))) (Err broken)
    told further may =
        let none : length further ≡ 0 = ap length (may end.ended) in
        let held : length z.held ≤ z.total = held_in a c x z text within taken in
        let whole : Short (z.total + length further) ≡ broken.bad = ap Short (omega (arith, none, held)) ∙ sym end.bad_is in (
          short (z.total + length further) (z.held ++ further) (omega (arith, none, end.few, length-append z.held further)) ∙ ap Err whole,
          end.place_is ∙ sym (ap place_within end.bad_is),
        )

-- a piece is missing behind a text
pub piece_stops : (claims : List Claim) (a b c : SourceState) (x y z : Seen) (text : List ℕ) (want : ℕ) (s : Stop) → HasTaken a b x y text
    → ((whole : ℕ) (rest : List ℕ) → length rest < want → tail_at (left_from whole (text ++ rest)) ≡ Err (Short whole)) → HasStopped want b c y z s → StopsOver claims a c x z s
piece_stops claims a b c x y z text want (stop.Broken broken) before short is =
    let all = taken_on a b c x y z text before is.0 in ((all.bytes, taken_read a c x z text all), all.faults, λ within. early claims a c x z text want broken within all is.1 short)
piece_stops claims a b c x y z text want (stop.Failed e) before short is = failed_on a b c x y z text want 72 e before is

-- an entry is missing behind a text and the entries that were taken
pub entries_stop : (claims : List Claim) (a b c : SourceState) (x y z : Seen) (text : List ℕ) (count : ℕ) (s : Stop) → HasTaken a b x y text
    → ((es : List (List ℕ)) → AllByRecursion IsNotaryEntry es → length es < count → (whole : ℕ) (rest : List ℕ) → length rest < 72 → tail_at (left_from whole ((text ++ texts_of es) ++ rest)) ≡ Err (Short whole))
    → HasStoppedInEntries count b c y z s → StopsOver claims a c x z s
entries_stop claims a b c x y z text count (stop.Broken broken) before short is =
    let all = taken_then a b c x y z text (texts_of is.es) before is.taken in ((all.bytes, taken_read a c x z (text ++ texts_of is.es) all), all.faults, λ within. early claims a c x z (text ++ texts_of is.es) 72 broken within all is.early (short is.es is.widths is.fewer))
entries_stop claims a b c x y z text count (stop.Failed e) before short is = failed_on a b c x y z text 72 72 e before is

-- something is left behind a text
pub end_stops : (claims : List Claim) (a b c : SourceState) (x y z : Seen) (text : List ℕ) (s : Stop) → HasTaken a b x y text
    → ((whole : ℕ) (rest : List ℕ) → 0 < length rest → tail_at (left_from whole (text ++ rest)) ≡ Err (Trailing (whole - length rest))) → HasNoEnd b c y z s → StopsOver claims a c x z s
end_stops claims a b c x y z text (stop.Broken broken) before left is =
    let all = taken_on a b c x y z text before is.0 in ((all.bytes, taken_read a c x z text all), all.faults, λ within. tells claims a c x z text (Err broken) within all tt told)
  where
    told : (further : List ℕ) → MayFollow z further → IsToldEnding claims (left_from (z.total + length further) (text ++ (z.held ++ further))) (Err broken)
    told further may =
        let long : length (z.held ++ further) ≡ length z.held + length further = length-append z.held further in
        let place : (z.total + length further) - length (z.held ++ further) ≡ place_of z = omega (arith, long) in (
          left (z.total + length further) (z.held ++ further) (omega (arith, long, is.1.some)) ∙ ap Err (ap Trailing place ∙ sym is.1.bad_is),
          is.1.place_is ∙ sym (ap place_within is.1.bad_is),
        )
end_stops claims a b c x y z text (stop.Failed e) before left is = failed_on a b c x y z text 72 72 e before is

-- nothing is left behind a text
pub over_here : (claims : List Claim) (a c : SourceState) (x z : Seen) (text : List ℕ) (tail : Tail) (ending : Ending) → length x.held ≤ x.total → HasTaken a c x z text → IsOver z
    → ((whole : ℕ) → tail_at (left_from whole (text ++ [])) ≡ Ok tail) → IsEndingOf claims tail ending → TellsEnding claims a c x z (Ok ending)
over_here claims a c x z text tail ending within taken end reads is = tells claims a c x z text (Ok ending) within taken end.0 told
  where
    told : (further : List ℕ) → MayFollow z further → IsToldEnding claims (left_from (z.total + length further) (text ++ (z.held ++ further))) (Ok ending)
    told further may =
        let none : z.held ++ further ≡ [] = ap₂ (λ (s t : List ℕ). s ++ t) end.1 (may end.0) in
        (tail, ap (λ t. tail_at (left_from (z.total + length further) (text ++ t))) none ∙ reads (z.total + length further), is)

-- ---- in the order of reading

-- an error that `?` hands on
pub err_then : {T : Type 0} (r : Result T Stop) (e : Stop) (P : Stop → Type 0) → IsErr r × IsErrAnd r (λ f. f ≡ e) → P e → IfErr r P
err_then (Ok x) e P is holds = tt
err_then (Err f) e P is holds = subst P (sym is.1) holds

abbrev pub head_of : ℕ → Digest → Head
head_of size root = record { size = size; root = root }

-- the next entry isn't given
pub entry_stops : (a b c : SourceState) (x y z : Seen) (es : List (List ℕ)) (count : ℕ) (s : Stop) → HasTaken a b x y (texts_of es) → AllByRecursion IsNotaryEntry es → length es < count
    → HasStopped 72 b c y z s → HasStoppedInEntries count a c x z s
entry_stops a b c x y z es count (stop.Broken broken) before widths fewer is =
    record { es = es; taken = taken_on a b c x y z (texts_of es) before is.0; widths = widths; fewer = fewer; early = is.1 }
entry_stops a b c x y z es count (stop.Failed e) before widths fewer is = failed_on a b c x y z (texts_of es) 72 72 e before is

module _ (first : List ℕ) (root : Digest) (len : length first ≡ 8) (wide : length root.0 ≡ 32) (whole : ℕ) where
  deep2 : (rest : List ℕ) → tail_at (left_from whole ((first ++ root.0) ++ rest)) ≡ tail_at (left_from whole (first ++ (root.0 ++ rest)))
  deep2 rest = ap (λ t. tail_at (left_from whole t)) (append_assoc first root.0 rest)

  pub no_count2 : (rest : List ℕ) → length rest < 8 → tail_at (left_from whole ((first ++ root.0) ++ rest)) ≡ Err (Short whole)
  no_count2 rest few = deep2 rest ∙ no_count whole first root len wide rest few

  module _ (third : List ℕ) (len3 : length third ≡ 8) where
    deep3 : (rest : List ℕ) → tail_at (left_from whole (((first ++ root.0) ++ third) ++ rest)) ≡ tail_at (left_from whole (first ++ (root.0 ++ (third ++ rest))))
    deep3 rest = ap (λ t. tail_at (left_from whole t)) (append_assoc (first ++ root.0) third rest) ∙ deep2 (third ++ rest)

    module _ (es : List (List ℕ)) (widths : AllByRecursion IsNotaryEntry es) where
      deep4 : (rest : List ℕ) → tail_at (left_from whole ((((first ++ root.0) ++ third) ++ texts_of es) ++ rest)) ≡ tail_at (left_from whole (first ++ (root.0 ++ (third ++ (texts_of es ++ rest)))))
      deep4 rest = ap (λ t. tail_at (left_from whole t)) (append_assoc ((first ++ root.0) ++ third) (texts_of es) rest) ∙ deep3 (texts_of es ++ rest)

      pub no_entry4 : (rest : List ℕ) → length es < from_be_bytes w64 third → length rest < 72 → tail_at (left_from whole ((((first ++ root.0) ++ third) ++ texts_of es) ++ rest)) ≡ Err (Short whole)
      no_entry4 rest fewer few = deep4 rest ∙ no_entry whole first root len wide third es len3 widths rest fewer few

      module _ (all : length es ≡ from_be_bytes w64 third) where
        pub no_notary4 : (rest : List ℕ) → length rest < 32 → tail_at (left_from whole ((((first ++ root.0) ++ third) ++ texts_of es) ++ rest)) ≡ Err (Short whole)
        no_notary4 rest few = deep4 rest ∙ no_notary whole first root len wide third es len3 widths all rest few

        module _ (notary : Digest) (wide5 : length notary.0 ≡ 32) where
          deep5 : (rest : List ℕ) → tail_at (left_from whole (((((first ++ root.0) ++ third) ++ texts_of es) ++ notary.0) ++ rest)) ≡ tail_at (left_from whole (first ++ (root.0 ++ (third ++ (texts_of es ++ (notary.0 ++ rest))))))
          deep5 rest = ap (λ t. tail_at (left_from whole t)) (append_assoc (((first ++ root.0) ++ third) ++ texts_of es) notary.0 rest) ∙ deep4 (notary.0 ++ rest)

          pub no_end5 : (rest : List ℕ) → 0 < length rest → tail_at (left_from whole (((((first ++ root.0) ++ third) ++ texts_of es) ++ notary.0) ++ rest)) ≡ Err (Trailing (whole - length rest))
          no_end5 rest some = deep5 rest ∙ no_end whole first root len wide third es len3 widths all notary wide5 rest some

          pub ended5 : tail_at (left_from whole (((((first ++ root.0) ++ third) ++ texts_of es) ++ notary.0) ++ [])) ≡ Ok (tail_from (from_be_bytes w64 first) root es notary)
          ended5 = deep5 [] ∙ ended whole first root len wide third es len3 widths all notary wide5 []
