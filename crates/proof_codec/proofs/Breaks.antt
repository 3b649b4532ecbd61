-- How the bytes of a proof break: which breaks there are, and which one it is where the end was
-- cut off, bytes are left, or a byte breaks its rule.
use Rattle.std.proofs.Common.{◌≡◌, ◌≢◌, ◌⊎◌, ℕ, ◌+◌, ◌-◌, ◌*◌, ◌<◌, ◌≤◌, Bool, true, false, cond, eqb, ltb, nat_le, List, [], ◌∷◌, ◌++◌, length, length-append, take, Option, Some, None, Result, Ok, Err, inl, inr, refl, sym, ap, ◌∙◌, append_assoc, arith}
use Rattle.std.specs.Prelude.{IfOk, IfErr, IfSome}
use Rattle.std.specs.Int.{Width, w8, w64, byte_len, to_be_bytes}
use Rattle.std.specs.Option.{is_some}
use Rattle.std.proofs.lemmas.Bool.{le-ltb, ne_eqb, lt-leb}
use Rattle.std.proofs.lemmas.List.{length-take, take_at}
use Rattle.ledger_bytes.specs.declared.failure.Bad.{Bad}
use Rattle.ledger_bytes.specs.declared.failure.NoMemory.{NoMemory}
use Rattle.ledger_bytes.specs.declared.failure.Bad.TheVariants.{Short, Trailing, BadKind, BadFixedField, NewerFormat, TooLong}
use Rattle.ledger_bytes.specs.Fields.{Unread, left_from, ◌>>=◌, bytes_at, number_at, digest_at, check, end_at}
use Rattle.ledger_bytes.proofs.Fields.{byte_again, cut_told, trailing_told}
use Rattle.journal_record.specs.Reading.{header_at}
use Rattle.journal_record.proofs.Spelling.{length-spelling as length-header}
use Rattle.ledger_bytes.specs.declared.mark.TimeMark.{TimeMark}
use Rattle.proof_codec.specs.Proofs.{ShownLower, ShownUpper, Shown, is_bounded, with_count, lower_text, mark_text, upper_text, text_if, notary_text, front_text, spelling, lower_len, upper_len, lower_place, upper_place, proof_len, HasLower, HasUpper, HasFields, IsProof}
use Rattle.proof_codec.specs.Reading.{digests_at, flag_at, header_break, is_time, time_at, some_lower_at, lower_at, mark_at, some_upper_at, upper_at, size_if, path_if, front_at, proof_at, proof_of, IsBreak}
use Rattle.proof_codec.proofs.Parts.{lower_is, lower_from_flag, upper_from_flag}
use Rattle.proof_codec.proofs.Wholes.{front_of, front_bytes, front_is, front_fits, from_front, from_lo, from_hi, proof_text}

-- ---- which breaks there are

then_breaks : {A B : Type 0} (r : Result A Bad) (f : A → Result B Bad) → IfErr r IsBreak → ((x : A) → IfErr (f x) IsBreak) → IfErr (r >>= f) IsBreak
then_breaks (Ok x) f first second = second x
then_breaks (Err bad) f first second = first

short_breaks : {A : Type 0} (b : Bool) (at : ℕ) (x : A) → IfErr (cond b (Err (Short at)) (Ok x)) IsBreak
short_breaks true at x = tt
short_breaks false at x = tt

check_breaks : (ok : Bool) (at : ℕ) → IfErr (check ok at) IsBreak
check_breaks true at = tt
check_breaks false at = tt

end_breaks : {A : Type 0} (b : Bool) (at : ℕ) (x : A) → IfErr (cond b (Ok x) (Err (Trailing at))) IsBreak
end_breaks true at x = tt
end_breaks false at x = tt

number_breaks : (w : Width) (l : Unread) → IfErr (number_at w l) IsBreak
number_breaks w l = short_breaks (ltb (length l.rest) (byte_len w)) l.whole _

digest_breaks : (l : Unread) → IfErr (digest_at l) IsBreak
digest_breaks l = short_breaks (ltb (length l.rest) 32) l.whole _

digests_breaks : (l : Unread) → IfErr (digests_at l) IsBreak
unfolding digests_at
digests_breaks l =
    then_breaks (number_at w8 l) (λ count. bytes_at (32 * count.0) count.1) (number_breaks w8 l)
    (λ count. short_breaks (ltb (length count.1.rest) (32 * count.0)) count.1.whole _)

flag_breaks : (at : ℕ) (l : Unread) → IfErr (flag_at at l) IsBreak
unfolding flag_at
flag_breaks at l =
    then_breaks (number_at w8 l) (λ flag. check (nat_le flag.0 1) at >>= λ _. Ok (eqb flag.0 1, flag.1)) (number_breaks w8 l)
    (λ flag. then_breaks (check (nat_le flag.0 1) at) (λ _. Ok (eqb flag.0 1, flag.1)) (check_breaks (nat_le flag.0 1) at) (λ _. tt))

placed_breaks : {A : Type 0} (at : ℕ) (r : Result A Bad) → IfErr (header_break at r) IsBreak
placed_breaks at (Ok x) = tt
placed_breaks at (Err (Short whole)) = tt
placed_breaks at (Err (Trailing place)) = tt
placed_breaks at (Err (BadKind found)) = tt
placed_breaks at (Err (BadFixedField place)) = tt
placed_breaks at (Err (NewerFormat found)) = tt
placed_breaks at (Err TooLong) = tt

time_breaks : (at : ℕ) (l : Unread) → IfErr (time_at at l) IsBreak
unfolding time_at
time_breaks at l =
    then_breaks (header_break at (header_at l)) (λ header. check (is_time header.0.kind) at >>= λ _. Ok header) (placed_breaks at (header_at l))
    (λ header. then_breaks (check (is_time header.0.kind) at) (λ _. Ok header) (check_breaks (is_time header.0.kind) at) (λ _. tt))

some_lower_breaks : (at : ℕ) (l : Unread) → IfErr (some_lower_at at l) IsBreak
unfolding some_lower_at
some_lower_breaks at l =
    then_breaks (time_at at l) _ (time_breaks at l)
    (λ header. then_breaks (digests_at header.1) _ (digests_breaks header.1)
    (λ path. then_breaks (digest_at path.1) _ (digest_breaks path.1)
    (λ root. then_breaks (digests_at root.1) _ (digests_breaks root.1) (λ ext. tt))))

lower_flag_breaks : (at : ℕ) (b : Bool) (l : Unread) → IfErr (lower_from_flag at (b, l)) IsBreak
lower_flag_breaks at true l = some_lower_breaks (at + 1) l
lower_flag_breaks at false l = tt

lower_breaks : (at : ℕ) (l : Unread) → IfErr (lower_at at l) IsBreak
unfolding lower_at
lower_breaks at l = then_breaks (flag_at at l) (lower_from_flag at) (flag_breaks at l) (λ flag. lower_flag_breaks at flag.0 flag.1)

mark_breaks : (l : Unread) → IfErr (mark_at l) IsBreak
unfolding mark_at
mark_breaks l =
    then_breaks (number_at w64 l) _ (number_breaks w64 l)
    (λ jsn. then_breaks (number_at w64 jsn.1) _ (number_breaks w64 jsn.1)
    (λ index. then_breaks (number_at w64 index.1) _ (number_breaks w64 index.1) (λ time. tt)))

some_upper_breaks : (l : Unread) → IfErr (some_upper_at l) IsBreak
unfolding some_upper_at
some_upper_breaks l =
    then_breaks (mark_at l) _ (mark_breaks l)
    (λ mark. then_breaks (digest_at mark.1) _ (digest_breaks mark.1)
    (λ salt. then_breaks (digest_at salt.1) _ (digest_breaks salt.1)
    (λ root. then_breaks (digests_at root.1) _ (digests_breaks root.1) (λ ext. tt))))

upper_flag_breaks : (b : Bool) (l : Unread) → IfErr (upper_from_flag (b, l)) IsBreak
upper_flag_breaks true l = some_upper_breaks l
upper_flag_breaks false l = tt

upper_breaks : (at : ℕ) (l : Unread) → IfErr (upper_at at l) IsBreak
unfolding upper_at
upper_breaks at l = then_breaks (flag_at at l) upper_from_flag (flag_breaks at l) (λ flag. upper_flag_breaks flag.0 flag.1)

size_breaks : (there : Bool) (l : Unread) → IfErr (size_if there l) IsBreak
unfolding size_if
size_breaks true l = number_breaks w64 l
size_breaks false l = tt

path_breaks : (there : Bool) (l : Unread) → IfErr (path_if there l) IsBreak
unfolding path_if
path_breaks true l = digests_breaks l
path_breaks false l = tt

front_breaks : (l : Unread) → IfErr (front_at l) IsBreak
unfolding front_at
front_breaks l =
    then_breaks (number_at w8 l) _ (number_breaks w8 l)
    (λ version. then_breaks (check (eqb version.0 1) 0) _ (check_breaks (eqb version.0 1) 0)
    (λ _. then_breaks (number_at w64 version.1) _ (number_breaks w64 version.1)
    (λ size. then_breaks (number_at w64 size.1) _ (number_breaks w64 size.1)
    (λ n. then_breaks (digest_at n.1) _ (digest_breaks n.1)
    (λ leaf. then_breaks (digests_at leaf.1) _ (digests_breaks leaf.1) (λ path. tt))))))

proof_breaks : (l : Unread) → IfErr (proof_at l) IsBreak
unfolding proof_at
proof_breaks l =
    then_breaks (front_at l) from_front (front_breaks l)
    (λ f. then_breaks (lower_at (50 + length f.0.3) f.1) (from_lo f.0) (lower_breaks (50 + length f.0.3) f.1)
    (λ lo. then_breaks (upper_at (50 + length f.0.3 + lower_len lo.0) lo.1) (from_hi f.0 lo.0) (upper_breaks (50 + length f.0.3 + lower_len lo.0) lo.1)
    (λ hi. then_breaks (size_if (is_bounded lo.0 hi.0) hi.1) _ (size_breaks (is_bounded lo.0 hi.0) hi.1)
    (λ size. then_breaks (path_if (is_some lo.0) size.1) _ (path_breaks (is_some lo.0) size.1)
    (λ lo_path. then_breaks (path_if (is_some hi.0) lo_path.1) _ (path_breaks (is_some hi.0) lo_path.1) (λ hi_path. tt))))))

long_breaks : {A : Type 0} (b : Bool) (r : Result A Bad) → IfErr r IsBreak → IfErr (cond b (Err TooLong) r) IsBreak
long_breaks true r breaks = tt
long_breaks false r breaks = breaks

proof_of_breaks : (bytes : List ℕ) → IfErr (proof_of bytes) IsBreak
unfolding proof_of
proof_of_breaks bytes =
    let start : Unread = left_from (length bytes) bytes in
    long_breaks (ltb 8192 (length bytes)) (proof_at start >>= λ read. end_at read.0 read.1)
    (then_breaks (proof_at start) (λ read. end_at read.0 read.1) (proof_breaks start)
    (λ read. end_breaks (eqb (length read.1.rest) 0) (read.1.whole - length read.1.rest) read.0))

pub breaks_of : (bytes : List ℕ) (read : Result Shown Bad) → read ≡ proof_of bytes → IfErr read IsBreak
breaks_of bytes read e = rw e (proof_of_breaks bytes)

-- ---- where the end was cut off

pub proof_of_cut : (bytes : List ℕ) (p : Shown) (k : ℕ) → IsProof p → k < length (spelling p) → bytes ≡ take k (spelling p) → proof_of bytes ≡ Err (Short k)
unfolding proof_of
proof_of_cut bytes p k is_proof lt e =
    let short : ltb 8192 (length bytes) ≡ false = le-ltb _ _ (omega (arith, is_proof.room, ap length e, length-take k (spelling p))) in
    rw short (cut_told proof_at bytes (spelling p) p k (proof_text p (length bytes) is_proof.fields) lt e)

-- ---- where bytes are left behind the end

pub proof_of_trailing : (bytes : List ℕ) (p : Shown) (rest : List ℕ) → IsProof p → rest ≢ [] → length bytes ≤ 8192 → bytes ≡ spelling p ++ rest → proof_of bytes ≡ Err (Trailing (length (spelling p)))
unfolding proof_of
proof_of_trailing bytes p rest is_proof some room e =
    let short : ltb 8192 (length bytes) ≡ false = le-ltb _ _ room in
    rw short (trailing_told proof_at bytes (spelling p) rest p (proof_text p (length bytes) is_proof.fields) some e)

-- ---- where a byte breaks its rule

pub proof_of_version : (bytes : List ℕ) (version : ℕ) (rest : List ℕ) → version ≢ 1 → length bytes ≤ 8192 → bytes ≡ version ∷ rest → proof_of bytes ≡ Err (BadFixedField 0)
unfolding proof_of proof_at front_at
proof_of_version bytes version rest other room e =
    let short : ltb 8192 (length bytes) ≡ false = le-ltb _ _ room in
    let wrong : eqb version 1 ≡ false = ne_eqb version 1 other in
    rw (short, e, byte_again version (length (version ∷ rest)) rest, wrong) refl

flag_wrong : (at flag whole : ℕ) (rest : List ℕ) → 1 < flag → flag_at at (left_from whole (flag ∷ rest)) ≡ Err (BadFixedField at)
unfolding flag_at
flag_wrong at flag whole rest high =
    let wrong : nat_le flag 1 ≡ false = lt-leb flag 1 high in
    rw (byte_again flag whole rest, wrong) refl

lower_flag_wrong : (at flag whole : ℕ) (rest : List ℕ) → 1 < flag → lower_at at (left_from whole (flag ∷ rest)) ≡ Err (BadFixedField at)
unfolding lower_at
lower_flag_wrong at flag whole rest high = ap (λ r. r >>= lower_from_flag at) (flag_wrong at flag whole rest high)

upper_flag_wrong : (at flag whole : ℕ) (rest : List ℕ) → 1 < flag → upper_at at (left_from whole (flag ∷ rest)) ≡ Err (BadFixedField at)
unfolding upper_at
upper_flag_wrong at flag whole rest high = ap (λ r. r >>= upper_from_flag) (flag_wrong at flag whole rest high)

-- how long the parts of a proof are
length-front : (p : Shown) → length p.leaf.0 ≡ 32 → length (front_bytes (front_of p)) ≡ 50 + length p.path
length-front p leaf = simp length-append (omega (arith, leaf))

length-lower : (o : Option ShownLower) → IfSome o HasLower → length (lower_text o) ≡ lower_len o
unfolding lower_text
length-lower None fits = refl
length-lower (Some l) fits = simp length-append (omega (arith, length-header l.header fits.header.widths, fits.root))

length-mark : (m : TimeMark) → length (mark_text m) ≡ 24
unfolding mark_text
length-mark m = refl

length-upper : (o : Option ShownUpper) → IfSome o HasUpper → length (upper_text o) ≡ upper_len o
unfolding upper_text
length-upper None fits = refl
length-upper (Some u) fits = simp length-append (omega (arith, length-mark u.mark, fits.salt, fits.root))

length-size : (there : Bool) (size : ℕ) → length (text_if there (to_be_bytes w64 size)) ≡ cond there 8 0
length-size true size = refl
length-size false size = refl

length-path : (there : Bool) (path : List ℕ) → length (text_if there (with_count path)) ≡ cond there (1 + length path) 0
length-path true path = omega arith
length-path false path = refl

pub length-proof : (p : Shown) → HasFields p → length (spelling p) ≡ proof_len p
unfolding spelling front_text notary_text
length-proof p fits =
    let front : ℕ = length (front_bytes (front_of p)) in
    let a = length-front p fits.leaf in
    let b = length-lower p.lo fits.lower in
    let c = length-upper p.hi fits.upper in
    let d = length-size (is_bounded p.lo p.hi) p.notary_size in
    let e = length-path (is_some p.lo) p.lo_path in
    let f = length-path (is_some p.hi) p.hi_path in
    rw (length-append (front_bytes (front_of p)) (lower_text p.lo ++ (upper_text p.hi ++ notary_text p)), length-append (lower_text p.lo) (upper_text p.hi ++ notary_text p), length-append (upper_text p.hi) (notary_text p), length-append (text_if (is_bounded p.lo p.hi) (to_be_bytes w64 p.notary_size)) (text_if (is_some p.lo) (with_count p.lo_path) ++ text_if (is_some p.hi) (with_count p.hi_path)), length-append (text_if (is_some p.lo) (with_count p.lo_path)) (text_if (is_some p.hi) (with_count p.hi_path)), a, b, c, d, e, f) (omega arith)

-- another flag in place of the lower bound's
flag_first : (p : Shown) (flag whole : ℕ) (rest : List ℕ) → HasFields p → 1 < flag
    → proof_at (left_from whole (take (lower_place p) (spelling p) ++ flag ∷ rest)) ≡ Err (BadFixedField (lower_place p))
unfolding proof_at spelling front_text
flag_first p flag whole rest fits high =
    let front : List ℕ = front_bytes (front_of p) in
    let behind : List ℕ = lower_text p.lo ++ (upper_text p.hi ++ notary_text p) in
    let text : take (lower_place p) (front ++ behind) ≡ front = take_at front behind (lower_place p) (length-front p fits.leaf) in
    ap (λ (t : List ℕ). front_at (left_from whole (t ++ flag ∷ rest)) >>= from_front) text
    ∙ (ap (λ r. r >>= from_front) ((front_is (front_of p) whole (front_fits p fits)).again (flag ∷ rest))
    ∙ ap (λ r. r >>= from_lo (front_of p)) (lower_flag_wrong (lower_place p) flag whole rest high))

-- and in place of the upper bound's
flag_second : (p : Shown) (flag whole : ℕ) (rest : List ℕ) → HasFields p → 1 < flag
    → proof_at (left_from whole (take (upper_place p) (spelling p) ++ flag ∷ rest)) ≡ Err (BadFixedField (upper_place p))
unfolding proof_at spelling front_text
flag_second p flag whole rest fits high =
    let front : List ℕ = front_bytes (front_of p) in
    let lower : List ℕ = lower_text p.lo in
    let behind : List ℕ = upper_text p.hi ++ notary_text p in
    let both : length (front ++ lower) ≡ upper_place p = omega (arith, length-append front lower, length-front p fits.leaf, length-lower p.lo fits.lower) in
    let text : take (upper_place p) (front ++ (lower ++ behind)) ≡ front ++ lower =
    ap (take (upper_place p)) (sym (append_assoc front lower behind)) ∙ take_at (front ++ lower) behind (upper_place p) both in
    ap (λ (t : List ℕ). front_at (left_from whole (t ++ flag ∷ rest)) >>= from_front) text
    ∙ (ap (λ (t : List ℕ). front_at (left_from whole t) >>= from_front) (append_assoc front lower (flag ∷ rest))
    ∙ (ap (λ r. r >>= from_front) ((front_is (front_of p) whole (front_fits p fits)).again (lower ++ flag ∷ rest))
    ∙ (ap (λ r. r >>= from_lo (front_of p)) ((lower_is (lower_place p) whole p.lo fits.lower).again (flag ∷ rest))
    ∙ ap (λ r. r >>= from_hi (front_of p) p.lo) (upper_flag_wrong (upper_place p) flag whole rest high))))

proof_flag : (p : Shown) (at flag whole : ℕ) (rest : List ℕ) → HasFields p → (at ≡ lower_place p) ⊎ (at ≡ upper_place p) → 1 < flag
    → proof_at (left_from whole (take at (spelling p) ++ flag ∷ rest)) ≡ Err (BadFixedField at)
proof_flag p at flag whole rest fits (inl is) high = rw is (flag_first p flag whole rest fits high)
proof_flag p at flag whole rest fits (inr is) high = rw is (flag_second p flag whole rest fits high)

pub proof_of_flag : (bytes : List ℕ) (p : Shown) (at flag : ℕ) (rest : List ℕ) → IsProof p → (at ≡ lower_place p) ⊎ (at ≡ upper_place p) → 1 < flag → length bytes ≤ 8192
    → bytes ≡ take at (spelling p) ++ flag ∷ rest → proof_of bytes ≡ Err (BadFixedField at)
unfolding proof_of
proof_of_flag bytes p at flag rest is_proof place high room e =
    let short : ltb 8192 (length bytes) ≡ false = le-ltb _ _ room in
    let read : proof_at (left_from (length bytes) bytes) ≡ Err (BadFixedField at) =
    ap (λ (t : List ℕ). proof_at (left_from (length bytes) t)) e ∙ proof_flag p at flag (length bytes) rest is_proof.fields place high in
    rw (short, read) refl

pub written_len : (p : Shown) (made : Result (List ℕ) NoMemory) → HasFields p → IfOk made (λ bytes. bytes ≡ spelling p) → IfOk made (λ bytes. length bytes ≡ proof_len p)
written_len p (Ok bytes) fits text = ap length text ∙ length-proof p fits
written_len p (Err e) fits text = tt

-- ---- how long a proof may be

-- the length of a proof by its parts
abbrev len_of : List ℕ → Option ShownLower → Option ShownUpper → List ℕ → List ℕ → ℕ
len_of path lo hi lo_path hi_path =
    50 + length path + lower_len lo + upper_len hi + cond (is_bounded lo hi) 8 0 + cond (is_some lo) (1 + length lo_path) 0 + cond (is_some hi) (1 + length hi_path) 0

pub length-million : (p : Shown) (l : ShownLower) (u : ShownUpper) → HasFields p → p.lo ≡ Some l → p.hi ≡ Some u
    → length p.path ≡ 32 * 20 → length l.path ≡ 32 * 20 → length l.ext ≡ 32 * 20 → length u.ext ≡ 32 * 20
    → length p.lo_path ≡ 32 * 20 → length p.hi_path ≡ 32 * 20 → length (spelling p) ≡ 4199
length-million p l u fits lower upper a b c d e f =
    length-proof p fits
    ∙ (ap (λ (lo : Option ShownLower). len_of p.path lo p.hi p.lo_path p.hi_path) lower
    ∙ (ap (λ (hi : Option ShownUpper). len_of p.path (Some l) hi p.lo_path p.hi_path) upper ∙ omega (arith, a, b, c, d, e, f)))

lower_most : (o : Option ShownLower) → IfSome o (λ l. (length l.path ≤ 32 * 32) × (length l.ext ≤ 32 * 33)) → lower_len o ≤ 2289
lower_most None most = omega arith
lower_most (Some l) most = omega (arith, most.0, most.1)

upper_most : (o : Option ShownUpper) → IfSome o (λ u. length u.ext ≤ 32 * 33) → upper_len o ≤ 1146
upper_most None most = omega arith
upper_most (Some u) most = omega (arith, most)

cond_most : (b : Bool) (n m : ℕ) → n ≤ m → cond b n 0 ≤ m
cond_most true n m most = most
cond_most false n m most = omega arith

pub length-most : (p : Shown) → HasFields p → length p.path ≤ 32 * 32
    → IfSome p.lo (λ l. (length l.path ≤ 32 * 32) × (length l.ext ≤ 32 * 33)) → IfSome p.hi (λ u. length u.ext ≤ 32 * 33)
    → length p.lo_path ≤ 32 * 24 → length p.hi_path ≤ 32 * 24 → length (spelling p) ≤ 8192
length-most p fits path lower upper lo_path hi_path =
    let a = cond_most (is_bounded p.lo p.hi) 8 8 (omega arith) in
    let b = cond_most (is_some p.lo) (1 + length p.lo_path) 769 (omega (arith, lo_path)) in
    let c = cond_most (is_some p.hi) (1 + length p.hi_path) 769 (omega (arith, hi_path)) in
    omega (arith, length-proof p fits, path, lower_most p.lo lower, upper_most p.hi upper, a, b, c)
