-- Reading through a window, one part after the other, is reading the input.
use Rattle.std.specs.Prelude.{nat_lt, bytes_eq, if◌then◌else◌}
use Rattle.std.specs.Int.{w64}
use Rattle.std.proofs.Common.{◌≡◌, ◌⊎◌, inl, inr, ℕ, ◌+◌, ◌-◌, ◌<◌, ◌≤◌, Bool, true, false, List, [], ◌∷◌, ◌++◌, length, length-append, length-drop, take, drop, append_assoc, arith, Option, Some, Result, Ok, Err, refl, sym, ap, ap₂, subst, ◌∙◌}
use Rattle.std.proofs.lemmas.Bool.{cases_lt, lt-ltb, le-ltb}
use Rattle.std.proofs.lemmas.List.{append-nil, take_all, take-append-le, drop-append-le, length-take-le}
use Rattle.std.proofs.KnownBytes.{Consumes-nil, Consumes-trans}
use Rattle.std.specs.Io.KnownBytes.{IsAtEnd}
use Rattle.ledger_bytes.specs.declared.failure.Bad.{Bad}
use Rattle.ledger_bytes.specs.declared.failure.Bad.TheVariants.{Short, BadFixedField}
use Rattle.ledger_bytes.specs.declared.digest.Digest.{Digest}
use Rattle.ledger_bytes.specs.Fields.{Unread, left_from, ◌>>=◌, bytes_at, check, digest_at, number_at}
use Rattle.ledger_io.specs.Outside.{SourceState}
use Rattle.ledger_io.specs.Windows.{Seen, HasSeen, HasEnough}
use Rattle.ledger_io.specs.declared.failure.LineErr.{LineErr}
use Rattle.ledger_io.specs.declared.failure.LineErr.TheVariants.{ReadFault, LineTooLong, ScriptTooLong, NoMemory}
use Rattle.journal_record.specs.Items.{most_bytes}
use Rattle.dump_model.specs.Dumps.{magic}
use Rattle.pseudo_genesis.specs.declared.base.Base.{Base}
use Rattle.pseudo_genesis.specs.Reading.{base_of}
use Rattle.audit_dump.specs.Breaks.{Front, base_part_at, begins_as, decoded, front_at, in_dump, magic_at, place_within}
use Rattle.audit_dump.specs.Walking.{MayFollow, unread_from, place_of}
use Rattle.audit_dump.specs.Fronts.{unread, Decodes, HasReadOn, IsToldOn, FailsOn, ReadsOn, base_behind, begin_at}
use Rattle.audit_dump.specs.declared.front.Stop.{Stop}
use Rattle.audit_dump.specs.declared.front.Stop.TheVariants.{Broken, Failed}
use Rattle.audit_dump.specs.declared.walking.Break.{Break}
use Rattle.audit_dump.proofs.Walks.{errors_then}

-- ---- what was read

-- what a window holds more was to come
pub unread_seen : (b c : SourceState) (x y : Seen) (bytes further : List ℕ) → HasSeen b c x y bytes → unread x (bytes ++ further) ≡ unread y further
unread_seen b c x y bytes further s = ap₂ left_from (omega (arith, s.total, length-append bytes further)) (sym (append_assoc x.held bytes further) ∙ ap (λ t. t ++ further) (sym s.held))

pub within_seen : (b c : SourceState) (x y : Seen) (bytes : List ℕ) → HasSeen b c x y bytes → length x.held ≤ x.total → length y.held ≤ y.total
within_seen b c x y bytes s within = omega (arith, within, s.total, ap length s.held ∙ length-append x.held bytes)

-- it is what is left from the place of the first byte that is held
pub unread_place : (w : Seen) (coming : List ℕ) → length w.held ≤ w.total → unread_from (place_of w) (w.held ++ coming) ≡ unread w coming
unread_place w coming within = ap (λ n. left_from n (w.held ++ coming)) (omega (arith, within, length-append w.held coming))

-- some of what is held may be taken
pub read_seen : (b c : SourceState) (x y : Seen) (bytes : List ℕ) (n : ℕ) → HasSeen b c x y bytes → HasReadOn b c x (record y { held = drop n y.held }) bytes
read_seen b c x y bytes n s = record {
  consumed = s.consumed;
  total = s.total;
  within = λ within. omega (arith, within_seen b c x y bytes s within, length-drop n y.held);
  end = s.end;
  again = s.again;
}

pub read_all : (b c : SourceState) (x y : Seen) (bytes : List ℕ) → HasSeen b c x y bytes → HasReadOn b c x y bytes
read_all b c x y bytes s = record { consumed = s.consumed; total = s.total; within = within_seen b c x y bytes s; end = s.end; again = s.again }

pub read_trans : (a b c : SourceState) (x y z : Seen) (bs cs : List ℕ) → HasReadOn a b x y bs → HasReadOn b c y z cs → HasReadOn a c x z (bs ++ cs)
read_trans a b c x y z bs cs r s = record {
  consumed = Consumes-trans a.left b.left c.left bs cs r.consumed s.consumed;
  total = omega (arith, r.total, s.total, length-append bs cs);
  within = λ within. s.within (r.within within);
  end = λ e. ended (s.end e);
  again = λ e. (
      let one = r.again e in
      let two = s.again one.2 in
      (ap₂ (λ t u. t ++ u) one.0 two.0, two.1 ∙ one.1, two.2)
      );
}
  where
    before : y.ended ≡ true → (x.ended ≡ true) ⊎ IsAtEnd b.left → (x.ended ≡ true) ⊎ IsAtEnd c.left
    before e (inl first) = inl first
    before e (inr at) = inr (subst (λ (s : SourceState). IsAtEnd s.left) (sym (s.again e).1) at)

    ended : (y.ended ≡ true) ⊎ IsAtEnd c.left → (x.ended ≡ true) ⊎ IsAtEnd c.left
    ended (inl e) = before e (r.end e)
    ended (inr at) = inr at

-- how much was wanted says nothing of an error
pub any_want : (a c : SourceState) (n m : ℕ) (z : Seen) (e : LineErr) → HasEnough a c n z (Err e) → HasEnough a c m z (Err e)
any_want a c n m z ReadFault is = is
any_want a c n m z LineTooLong is = is
any_want a c n m z ScriptTooLong is = is
any_want a c n m z NoMemory is = is

-- ---- one part after the other

module _ {A B : Type 0} (read : Unread → Result (A × Unread) Bad) (f : A × Unread → Result (B × Unread) Bad) (a b : SourceState) (x y : Seen) where
  -- where the first part stops
  pub reads_stop : (e : Stop) → ReadsOn read a b x y (Err e) → ReadsOn (λ l. read l >>= f) a b x y (Err e)
  reads_stop (Broken broken) one = record {
    bytes = one.bytes;
    read_bytes = one.read_bytes;
    told = λ within further may. (
        let told = one.told within further may in
        (ap (λ r. r >>= f) told.0, told.1)
        );
    failed = one.failed;
  }
  reads_stop (Failed error) one = record { bytes = one.bytes; read_bytes = one.read_bytes; told = λ within further may. tt; failed = one.failed }

  fails_then : (c : SourceState) (z : Seen) (r : Result B Stop) → b.faults ≡ a.faults → FailsOn b c z r → FailsOn a c z r
  fails_then c z (Ok v) same is = is ∙ same
  fails_then c z (Err (Broken broken)) same is = is ∙ same
  fails_then c z (Err (Failed error)) same is = errors_then a b c most_bytes z error same is

  -- where it doesn't
  pub reads_then : (c : SourceState) (z : Seen) (v : A) (r : Result B Stop) → ReadsOn read a b x y (Ok v) → ReadsOn (λ l. f (v, l)) b c y z r → ReadsOn (λ l. read l >>= f) a c x z r
  reads_then c z v r one two = record {
    bytes = one.bytes ++ two.bytes;
    read_bytes = read_trans a b c x y z one.bytes two.bytes one.read_bytes two.read_bytes;
    told = λ within further may. (
        let may_then : MayFollow y (two.bytes ++ further) =
        λ e. let again = two.read_bytes.again e in ap₂ (λ t u. t ++ u) again.0 (may again.2) in
        let first : read (unread x ((one.bytes ++ two.bytes) ++ further)) ≡ Ok (v, unread y (two.bytes ++ further)) =
        ap (λ t. read (unread x t)) (append_assoc one.bytes two.bytes further) ∙ one.told within (two.bytes ++ further) may_then in
        subst (λ q. IsToldOn q (unread z further) r) (sym (ap (λ q. q >>= f) first)) (two.told (one.read_bytes.within within) further may)
        );
    failed = fails_then c z r one.failed two.failed;
  }

-- where nothing could be read
pub reads_fail : {A : Type 0} (read : Unread → Result (A × Unread) Bad) (a b : SourceState) (x y : Seen) (n : ℕ) (bytes : List ℕ) (e : LineErr) → HasSeen a b x y bytes → HasEnough a b n y (Err e)
    → ReadsOn read a b x y (Err (Failed e))
reads_fail read a b x y n bytes e s is = record { bytes = bytes; read_bytes = read_all a b x y bytes s; told = λ within further may. tt; failed = any_want a b n most_bytes y e is }

-- ---- a field

-- 32 bytes as a digest
abbrev pub digest_of : List ℕ → Digest
digest_of bytes = record { 0 = bytes }

-- a field of so many bytes
abbrev pub field : {A : Type 0} → ℕ → (List ℕ → A) → Unread → Result (A × Unread) Bad
field n g l = if nat_lt (length l.rest) n then Err (Short l.whole) else Ok (g (take n l.rest), left_from l.whole (drop n l.rest))

-- what a reading answers
abbrev pub gave : {A : Type 0} → A → Unread → Result (A × Unread) Bad
gave x after = Ok (x, after)

abbrev pub broke : (A : Type 0) → Bad → Result (A × Unread) Bad
broke A bad = Err bad

abbrev value_or : {A : Type 0} → A → Result (A × Unread) Bad → A
value_or other (Ok x) = x.0
value_or other (Err bad) = other

same_value : {A : Type 0} (x y : A) (l m : Unread) → gave x l ≡ gave y m → x ≡ y
same_value x y l m e = ap (value_or x) e

pub not_both : {A : Type 0} (x : A) (l : Unread) (bad : Bad) → gave x l ≡ broke A bad → ⊥
not_both x l bad e = absurd cc

module _ {A : Type 0} (n : ℕ) (g : List ℕ → A) (a b : SourceState) (x y : Seen) (bytes : List ℕ) (s : HasSeen a b x y bytes) where
  here_long : n ≤ length y.held → field n g (left_from (length y.held) y.held) ≡ gave (g (take n y.held)) (left_from (length y.held) (drop n y.held))
  here_long long = rw (le-ltb (length y.held) n long) refl

  long_field : n ≤ length y.held → (further : List ℕ) → field n g (unread y further) ≡ Ok (g (take n y.held), unread (record y { held = drop n y.held }) further)
  long_field long further = rw (le-ltb (length (y.held ++ further)) n (omega (arith, long, length-append y.held further)), take-append-le n y.held further long, drop-append-le n y.held further long) refl

  pub short_field : length y.held < n → field n g (unread y []) ≡ Err (Short y.total)
  short_field short = rw (lt-ltb (length (y.held ++ [])) n (omega (arith, short, length-append y.held []))) (ap (λ t. Err (Short t)) (omega arith))

  pub field_taken : (v : A) (after : Unread) → b.faults ≡ a.faults → field n g (left_from (length y.held) y.held) ≡ Ok (v, after) → ReadsOn (field n g) a b x (record y { held = drop n y.held }) (Ok v)
  field_taken v after same is = elim (cases_lt (length y.held) n) [
    | inl short ↦ absurd (not_both v after (Short (length y.held)) (sym is ∙ rw (lt-ltb (length y.held) n short) refl))
    | inr long ↦
        let value : g (take n y.held) ≡ v = same_value (g (take n y.held)) v (left_from (length y.held) (drop n y.held)) after (sym (here_long long) ∙ is) in
        record {
          bytes = bytes;
          read_bytes = read_seen a b x y bytes n s;
          told = λ within further may. (ap (field n g) (unread_seen a b x y bytes further s) ∙ long_field long further ∙ ap (λ t. Ok (t, unread (record y { held = drop n y.held }) further)) value);
          failed = same;
        }
  ]

  pub field_broken : (bad : Bad) (broken : Break) → b.faults ≡ a.faults → (n ≤ length y.held) ⊎ (y.ended ≡ true) → field n g (left_from (length y.held) y.held) ≡ Err bad → broken.bad ≡ Short broken.place
      → broken.place ≡ (y.total - length y.held) + length y.held → ReadsOn (field n g) a b x y (Err (Broken broken))
  field_broken bad broken same (inl long) is kind place = absurd (not_both (g (take n y.held)) (left_from (length y.held) (drop n y.held)) bad (sym (here_long long) ∙ is))
  field_broken bad broken same (inr ended) is kind place = elim (cases_lt (length y.held) n) [
    | inl short ↦ record {
      bytes = bytes;
      read_bytes = read_all a b x y bytes s;
      told = λ within further may. (
          let at : broken.place ≡ y.total = omega (arith, place, within_seen a b x y bytes s within) in (
            ap (field n g) (unread_seen a b x y bytes further s) ∙ ap (λ t. field n g (unread y t)) (may ended) ∙ short_field short ∙ ap (λ t. Err (Short t)) (sym at) ∙ ap Err (sym kind),
            sym (ap place_within kind),
          )
          );
      failed = same;
    }
    | inr long ↦ absurd (not_both (g (take n y.held)) (left_from (length y.held) (drop n y.held)) bad (sym (here_long long) ∙ is))
  ]

-- ---- the bytes with which a dump begins

-- what follows makes no difference, where 8 bytes are there
begins_more : (held further : List ℕ) → 8 ≤ length held → begins_as magic (held ++ further) ≡ begins_as magic held
begins_more held further long =
    let whole : take (length (held ++ further)) magic ≡ take (length held) magic =
    take_all (length (held ++ further)) magic (omega (arith, long, length-append held further)) ∙ sym (take_all (length held) magic (omega (arith, long))) in
    ap₂ bytes_eq (take-append-le 8 held further long) whole

-- where they are wrong
wrong_there : (l : Unread) → begins_as magic l.rest ≡ false → begin_at l ≡ Err (BadFixedField 0)
unfolding magic_at
wrong_there l e = ap (λ (ok : Bool). check ok 0 >>= (λ _. bytes_at 8 l) >>= λ m. Ok (tt, m.1)) e

-- where they aren't, as far as they are there
right_there : (l : Unread) → begins_as magic l.rest ≡ true → begin_at l ≡ (bytes_at 8 l >>= λ m. Ok (tt, m.1))
unfolding magic_at
right_there l e = ap (λ (ok : Bool). check ok 0 >>= (λ _. bytes_at 8 l) >>= λ m. Ok (tt, m.1)) e

module _ (a b : SourceState) (x y : Seen) (bytes : List ℕ) (s : HasSeen a b x y bytes) (same : b.faults ≡ a.faults) where
  pub magic_wrong : (8 ≤ length y.held) ⊎ (y.ended ≡ true) → begins_as magic y.held ≡ false → ReadsOn begin_at a b x y (Err (Broken (record { bad = BadFixedField 0; place = 0 })))
  magic_wrong enough wrong = record {
    bytes = bytes;
    read_bytes = read_all a b x y bytes s;
    told = λ within further may. (ap begin_at (unread_seen a b x y bytes further s) ∙ wrong_there (unread y further) (go further may enough), refl);
    failed = same;
  }
    where
      go : (further : List ℕ) → MayFollow y further → (8 ≤ length y.held) ⊎ (y.ended ≡ true) → begins_as magic (y.held ++ further) ≡ false
      go further may (inl long) = begins_more y.held further long ∙ wrong
      go further may (inr ended) = ap (begins_as magic) (ap (λ t. y.held ++ t) (may ended) ∙ append-nil y.held) ∙ wrong

  pub magic_short : (8 ≤ length y.held) ⊎ (y.ended ≡ true) → begins_as magic y.held ≡ true → length y.held < 8 → (broken : Break) → broken.bad ≡ Short broken.place
      → broken.place ≡ (y.total - length y.held) + length y.held → ReadsOn begin_at a b x y (Err (Broken broken))
  magic_short (inl long) right short broken kind place = absurd (omega (arith, long, short))
  magic_short (inr ended) right short broken kind place = record {
    bytes = bytes;
    read_bytes = read_all a b x y bytes s;
    told = λ within further may. (
        let at : broken.place ≡ y.total = omega (arith, place, within_seen a b x y bytes s within) in
        let none : unread x (bytes ++ further) ≡ unread y [] = unread_seen a b x y bytes further s ∙ ap (unread y) (may ended) in
        let there : begin_at (unread y []) ≡ Err (Short y.total) =
        right_there (unread y []) (ap (begins_as magic) (append-nil y.held) ∙ right) ∙ ap (λ r. r >>= λ m. Ok (tt, m.1)) (short_field 8 (λ t. t) a b x y bytes s short) in
        (ap begin_at none ∙ there ∙ ap (λ t. Err (Short t)) (sym at) ∙ ap Err (sym kind), sym (ap place_within kind))
        );
    failed = same;
  }

  pub magic_taken : begins_as magic y.held ≡ true → 8 ≤ length y.held → ReadsOn begin_at a b x (record y { held = drop 8 y.held }) (Ok tt)
  magic_taken right long = record {
    bytes = bytes;
    read_bytes = read_seen a b x y bytes 8 s;
    told = λ within further may. (
        ap begin_at (unread_seen a b x y bytes further s) ∙ right_there (unread y further) (begins_more y.held further long ∙ right)
        ∙ ap (λ r. r >>= λ m. Ok (tt, m.1)) (long_field 8 (λ t. t) a b x y bytes s long further)
        );
    failed = same;
  }

-- ---- the base

-- some bytes are those of a base
pub decoded_some : (bytes : List ℕ) → 0 < length bytes → decoded bytes ≡ in_dump (base_of bytes)
decoded_some [] some = absurd (omega (arith, some))
decoded_some (byte ∷ bytes) some = refl

-- what stands behind the bytes of a base
abbrev pub behind_base : List ℕ × Unread → Result (Option Base × Unread) Bad
behind_base bytes = decoded bytes.0 >>= λ base. Ok (base, bytes.1)

module _ (n : ℕ) (a b : SourceState) (x y : Seen) (bytes : List ℕ) (s : HasSeen a b x y bytes) (same : b.faults ≡ a.faults) where
  pub base_short : (n ≤ length y.held) ⊎ (y.ended ≡ true) → length y.held < n → (broken : Break) → broken.bad ≡ Short broken.place → broken.place ≡ (y.total - length y.held) + length y.held
      → ReadsOn (base_behind n) a b x y (Err (Broken broken))
  base_short enough short broken kind place =
      reads_stop (bytes_at n) behind_base a b x y (Broken broken)
      (field_broken n (λ t. t) a b x y bytes s (Short (length y.held)) broken same enough (rw (lt-ltb (length y.held) n short) refl) kind place)

  module _ (some : 0 < n) (long : n ≤ length y.held) where
    behind_long : (read : Result Base Bad) → base_of (take n y.held) ≡ read → (further : List ℕ)
        → base_behind n (unread x (bytes ++ further)) ≡ (in_dump read >>= λ base. Ok (base, unread (record y { held = drop n y.held }) further))
    behind_long read is further =
        ap (base_behind n) (unread_seen a b x y bytes further s) ∙ ap (λ r. r >>= behind_base) (long_field n (λ t. t) a b x y bytes s long further)
        ∙ ap (λ r. r >>= λ base. Ok (base, unread (record y { held = drop n y.held }) further)) (decoded_some (take n y.held) (omega (arith, some, length-take-le n y.held long)) ∙ ap in_dump is)

    pub base_taken : (base : Base) → base_of (take n y.held) ≡ Ok base → ReadsOn (base_behind n) a b x (record y { held = drop n y.held }) (Ok (Some base))
    base_taken base is = record { bytes = bytes; read_bytes = read_seen a b x y bytes n s; told = λ within further may. behind_long (Ok base) is further; failed = same }

    pub base_broken : (stop : Stop) → Decodes (base_of (take n y.held)) (Err stop) → ReadsOn (base_behind n) a b x y (Err stop)
    base_broken (Broken broken) is = record {
      bytes = bytes;
      read_bytes = read_all a b x y bytes s;
      told = λ within further may. (behind_long (base_of (take n y.held)) refl further ∙ ap (λ r. r >>= λ base. Ok (base, unread (record y { held = drop n y.held }) further)) is.0, is.1);
      failed = same;
    }
    base_broken (Failed error) is = reads_fail (base_behind n) a b x y n bytes error s (subst (λ (e : LineErr). HasEnough a b n y (Err e)) (sym is) same)

-- ---- the front

pub read_none : (a : SourceState) (x : Seen) → HasReadOn a a x x []
read_none a x = record { consumed = Consumes-nil a.left; total = omega arith; within = λ within. within; end = λ e. inl e; again = λ e. (refl, refl, e) }

-- nothing is to be read
pub reads_nothing : {A : Type 0} (a : SourceState) (x : Seen) (v : A) → ReadsOn (λ l. Ok (v, l)) a a x x (Ok v)
reads_nothing a x v = record { bytes = []; read_bytes = read_none a x; told = λ within further may. refl; failed = refl }

-- two readings are one
reads_as : {A : Type 0} (p q : Unread → Result (A × Unread) Bad) (a b : SourceState) (x y : Seen) (r : Result A Stop) → ((l : Unread) → p l ≡ q l) → ReadsOn p a b x y r → ReadsOn q a b x y r
reads_as p q a b x y r same on = record {
  bytes = on.bytes;
  read_bytes = on.read_bytes;
  told = λ within further may. subst (λ t. IsToldOn t (unread y further) r) (same (unread x (on.bytes ++ further))) (on.told within further may);
  failed = on.failed;
}

-- behind the id
abbrev pub front_behind_id : Digest → Unread → Result (Front × Unread) Bad
front_behind_id id l = base_part_at l >>= λ base. Ok (record { id = id; base = base.0 }, base.1)

-- behind the first bytes
abbrev pub front_behind : Unread → Result (Front × Unread) Bad
front_behind l = digest_at l >>= λ id. front_behind_id id.0 id.1

abbrev pub front_parts : Unread → Result (Front × Unread) Bad
front_parts l = begin_at l >>= λ begin. front_behind begin.1

-- nothing is kept of bytes
abbrev pub kept_none : List ℕ × Unread → Result ((Unit {0}) × Unread) Bad
kept_none m = Ok (tt, m.1)

parts_are : (l : Unread) → front_parts l ≡ front_at l
unfolding front_at
parts_are l = go (magic_at l)
  where
    go : (r : Result (List ℕ × Unread) Bad) → ((r >>= kept_none) >>= λ begin. front_behind begin.1) ≡ (r >>= λ begin. front_behind begin.1)
    go (Ok m) = refl
    go (Err bad) = refl

pub front_read : (a b : SourceState) (x y : Seen) (r : Result Front Stop) → ReadsOn front_parts a b x y r → ReadsOn front_at a b x y r
front_read a b x y r on = reads_as front_parts front_at a b x y r parts_are on

pub base_stops : (a b : SourceState) (x y : Seen) (e : Stop) → ReadsOn (number_at w64) a b x y (Err e) → ReadsOn base_part_at a b x y (Err e)
unfolding base_part_at
base_stops a b x y e on = reads_stop (number_at w64) (λ len. base_behind len.0 len.1) a b x y e on

-- the front, part by part
module _ (a b : SourceState) (x y : Seen) where
  pub front_stops : (e : Stop) → ReadsOn begin_at a b x y (Err e) → ReadsOn front_at a b x y (Err e)
  front_stops e on = front_read a b x y (Err e) (reads_stop begin_at (λ begin. front_behind begin.1) a b x y e on)

  module _ (d : SourceState) (z : Seen) (one : ReadsOn begin_at a b x y (Ok tt)) where
    pub id_stops : (e : Stop) → ReadsOn digest_at b d y z (Err e) → ReadsOn front_at a d x z (Err e)
    id_stops e on = front_read a d x z (Err e)
        (reads_then begin_at (λ begin. front_behind begin.1) a b x y d z tt (Err e) one (reads_stop digest_at (λ id. front_behind_id id.0 id.1) b d y z e on))

    module _ (e : SourceState) (w : Seen) (id : Digest) (two : ReadsOn digest_at b d y z (Ok id)) where
      abbrev behind_id : Option Base × Unread → Result (Front × Unread) Bad
      behind_id base = Ok (record { id = id; base = base.0 }, base.1)

      third : (r : Result Front Stop) → ReadsOn (front_behind_id id) d e z w r → ReadsOn front_at a e x w r
      third r on = front_read a e x w r
          (reads_then begin_at (λ begin. front_behind begin.1) a b x y e w tt r one (reads_then digest_at (λ id. front_behind_id id.0 id.1) b d y z e w id r two on))

      pub base_part_stops : (stop : Stop) → ReadsOn base_part_at d e z w (Err stop) → ReadsOn front_at a e x w (Err stop)
      base_part_stops stop on = third (Err stop) (reads_stop base_part_at behind_id d e z w stop on)

      pub front_ends : (base : Option Base) → ReadsOn base_part_at d e z w (Ok base) → ReadsOn front_at a e x w (Ok (record { id = id; base = base }))
      front_ends base on =
          third (Ok (record { id = id; base = base })) (reads_then base_part_at behind_id d e z w e w base (Ok (record { id = id; base = base })) on (reads_nothing e w (record { id = id; base = base })))
