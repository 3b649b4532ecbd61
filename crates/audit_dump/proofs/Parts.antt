-- The parts of a dump are read from their bytes, and what is read of them is spelled so.
use Rattle.std.specs.Prelude.{IfSome}
use Rattle.std.specs.Int.{w64}
use Rattle.std.specs.List.{flat_map, AllByRecursion}
use Rattle.std.proofs.Common.{◌≡◌, ℕ, zero, suc, ◌-◌, ◌^◌, ◌<◌, ◌≤◌, true, List, [], ◌∷◌, ◌++◌, length, take, Option, Some, None, Result, Ok, Err, refl, sym, ap, ◌∙◌, subst, arith, append_assoc, append-nil, length-append, eqb}
use Rattle.std.proofs.lemmas.Bool.{eqb-true}
use Rattle.std.proofs.lemmas.List.{take_at, take_all, nil_from_length}
use Rattle.std.proofs.lemmas.Slice.Eq.{bytes_eq-Decides}
use Rattle.ledger_bytes.specs.Fields.{Unread, left_from, ◌>>=◌, number_at, digest_at, bytes_at, check, end_at, IsBytes, Took}
use Rattle.ledger_bytes.specs.declared.digest.Digest.{Digest}
use Rattle.ledger_bytes.specs.declared.failure.Bad.{Bad}
use Rattle.ledger_bytes.specs.declared.failure.Bad.TheVariants.{Trailing, BadFixedField}
use Rattle.ledger_bytes.proofs.Fields.{bind_ok, check_ok, ok_is, Took-then, bytes_takes, bytes_again, digest_takes, digest_again, number_takes, number_again, wide64, IsBytes-take}
use Rattle.journal_record.specs.Items.{Item, IsItem, item_text, item_at}
use Rattle.journal_record.proofs.ItemLaws.{item_back}
use Rattle.pseudo_genesis.specs.Bases as bases
use Rattle.pseudo_genesis.specs.Bases.{IsBase, IsWide, base_spelling}
use Rattle.pseudo_genesis.specs.Reading.{base_of}
use Rattle.pseudo_genesis.specs.declared.base.Base.{Base}
use Rattle.pseudo_genesis.proofs.Wholes.{read_found, base_of_only}
use Rattle.dump_model.specs.Dumps.{IsNotaryEntry, magic, number_text, base_text}
use Rattle.dump_model.proofs.Lengths.{base_fits, base_some}
use Rattle.audit_dump.specs.Breaks.{Front, Tail, begins_as, base_part_at, decoded, entries_at, front_at, in_dump, magic_at, tail_at}
use Rattle.audit_dump.specs.Bytes.{HaveBeenRead}

-- ---- single fields

number_told : (l : Unread) (n : ℕ) (after : Unread) → IsBytes l.rest → number_at w64 l ≡ Ok (n, after) → Took l (number_text n) after × (n < 2 ^ 64)
number_told l n after plain e = number_takes w64 (2 ^ 64) wide64 l n after plain e

number_back : (n whole : ℕ) (rest : List ℕ) → n < 2 ^ 64 → number_at w64 (left_from whole (number_text n ++ rest)) ≡ Ok (n, left_from whole rest)
number_back n whole rest lt = number_again w64 (2 ^ 64) wide64 n whole rest lt

-- the bytes of a text in front of others
plain_front : (x y : List ℕ) → IsBytes (x ++ y) → IsBytes x
plain_front x y plain = subst IsBytes (take_at x y (length x) refl) (IsBytes-take (length x) (x ++ y) plain)

plain_text : (l : Unread) (text : List ℕ) (after : Unread) → IsBytes l.rest → Took l text after → IsBytes text
plain_text l text after plain took = plain_front text after.rest (subst IsBytes took.parts plain)

-- ---- the magic

all_taken : (n : ℕ) → 8 ≤ n → take n magic ≡ magic
all_taken n le = take_all n magic le

magic_takes : (l : Unread) (text : List ℕ) (after : Unread) → IsBytes l.rest → magic_at l ≡ Ok (text, after) → Took l magic after
unfolding magic_at
magic_takes l text after plain e =
    let c = bind_ok (check (begins_as magic l.rest) 0) (λ _. bytes_at 8 l) (text, after) e in
    let ok = check_ok (begins_as magic l.rest) (BadFixedField 0) tt c.0 c.1 in
    let t = bytes_takes 8 l text after plain c.2 in
    let same : take 8 l.rest ≡ take (length l.rest) magic = (bytes_eq-Decides (take 8 l.rest) (take (length l.rest) magic)).0 ok.0 in
    let front : take 8 l.rest ≡ text = ap (take 8) t.0.parts ∙ take_at text after.rest 8 t.1 in
    let long : 8 ≤ length l.rest = omega (arith, ap length t.0.parts, length-append text after.rest, t.1) in
    subst (λ x. Took l x after) (sym front ∙ same ∙ all_taken (length l.rest) long) t.0

pub magic_back : (whole : ℕ) (rest : List ℕ) → magic_at (left_from whole (magic ++ rest)) ≡ Ok (magic, left_from whole rest)
unfolding magic_at
magic_back whole rest =
    let long : 8 ≤ length (magic ++ rest) = omega (arith, length-append magic rest) in
    let same : take 8 (magic ++ rest) ≡ take (length (magic ++ rest)) magic = take_at magic rest 8 refl ∙ sym (all_taken (length (magic ++ rest)) long) in
    let begins : begins_as magic (magic ++ rest) ≡ true = (bytes_eq-Decides (take 8 (magic ++ rest)) (take (length (magic ++ rest)) magic)).1 same in
    ap (λ v. check v 0 >>= λ _. bytes_at 8 (left_from whole (magic ++ rest))) begins ∙ bytes_again 8 magic whole rest refl

-- ---- the base

abbrev pub Fits : Option Base → Type 0
Fits base = IfSome base (λ b. IsBase b × bases.HasWidths b)

-- what follows a reading, for a part of it
decoded_takes : (bytes : List ℕ) (base : Option Base) → IsBytes bytes → decoded bytes ≡ Ok base → (bytes ≡ base_text base) × Fits base
decoded_takes [] None plain e = (refl, tt)
decoded_takes [] (Some b) plain e = absurd cc
decoded_takes (x ∷ bytes) base plain e = by (base_of (x ∷ bytes)) refl e
  where
    by : (r : Result Base Bad) → base_of (x ∷ bytes) ≡ r → in_dump r ≡ Ok base → (x ∷ bytes ≡ base_text base) × Fits base
    by (Ok b) is e =
        let found = read_found (x ∷ bytes) (Ok b) plain is in
        subst (λ o. (x ∷ bytes ≡ base_text o) × Fits o) (ok_is (Some b) base e) (found.2, (found.0, found.1))
    by (Err bad) is e = absurd cc

decoded_back : (base : Option Base) → Fits base → decoded (base_text base) ≡ Ok base
decoded_back None fits = refl
decoded_back (Some b) fits = by (base_spelling b) (base_some b) (base_of_only (base_spelling b) b fits.0 fits.1 refl)
  where
    by : (bytes : List ℕ) → 1 ≤ length bytes → base_of bytes ≡ Ok b → decoded bytes ≡ Ok (Some b)
    by [] some e = absurd (omega (arith, some))
    by (x ∷ bytes) some e = ap in_dump e

-- the text of a base behind its length
abbrev part_text : Option Base → List ℕ
part_text base = number_text (length (base_text base)) ++ base_text base

short_base : (base : Option Base) → Fits base → length (base_text base) < 2 ^ 64
short_base None fits = omega arith
short_base (Some b) fits = base_fits b fits.0 fits.1

abbrev with_bytes : List ℕ × Unread → Result (Option Base × Unread) Bad
with_bytes v = decoded v.0 >>= λ base. Ok (base, v.1)

abbrev with_len : ℕ × Unread → Result (Option Base × Unread) Bad
with_len v = bytes_at v.0 v.1 >>= with_bytes

base_takes : (l : Unread) (base : Option Base) (after : Unread) → IsBytes l.rest → base_part_at l ≡ Ok (base, after) → Took l (part_text base) after × Fits base
unfolding base_part_at
base_takes l base after plain e =
    let n = bind_ok (number_at w64 l) with_len (base, after) e in
    let len = number_told l n.0.0 n.0.1 plain n.1 in
    let b = bind_ok (bytes_at n.0.0 n.0.1) with_bytes (base, after) n.2 in
    let text = bytes_takes n.0.0 n.0.1 b.0.0 b.0.1 len.0.bytes b.1 in
    let d = bind_ok (decoded b.0.0) (λ base. Ok (base, b.0.1)) (base, after) b.2 in
    let is = decoded_takes b.0.0 d.0 (plain_text n.0.1 b.0.0 b.0.1 len.0.bytes text.0) d.1 in
    let both = Took-then l (number_text n.0.0) n.0.1 b.0.0 b.0.1 len.0 text.0 in
    let took : Took l (part_text d.0) b.0.1 = subst (λ t. Took l (number_text (length t) ++ t) b.0.1) is.0 (subst (λ k. Took l (number_text k ++ b.0.0) b.0.1) (sym text.1) both) in
    subst (λ (p : Option Base × Unread). Took l (part_text p.0) p.1 × Fits p.0) (ok_is (d.0, b.0.1) (base, after) d.2) (took, is.1)

base_back : (base : Option Base) (whole : ℕ) (rest : List ℕ) → Fits base → base_part_at (left_from whole (number_text (length (base_text base)) ++ (base_text base ++ rest))) ≡ Ok (base, left_from whole rest)
unfolding base_part_at
base_back base whole rest fits =
    ap (λ r. r >>= with_len) (number_back (length (base_text base)) whole (base_text base ++ rest) (short_base base fits))
    ∙ (ap (λ r. r >>= with_bytes) (bytes_again (length (base_text base)) (base_text base) whole rest refl)
    ∙ ap (λ r. r >>= λ b. Ok (b, left_from whole rest)) (decoded_back base fits))

-- ---- the front

pub record IsFront (front : Front) : Type 0 where
  pub id : IsWide front.id
  pub base : Fits front.base

abbrev with_base : Digest → Option Base × Unread → Result (Front × Unread) Bad
with_base id b = Ok (record { id = id; base = b.0 }, b.1)

abbrev with_id : Digest × Unread → Result (Front × Unread) Bad
with_id v = base_part_at v.1 >>= with_base v.0

abbrev with_magic : List ℕ × Unread → Result (Front × Unread) Bad
with_magic v = digest_at v.1 >>= with_id

abbrev pub front_text : Front → List ℕ
front_text f = magic ++ (f.id.0 ++ part_text f.base)

pub front_takes : (l : Unread) (front : Front) (after : Unread) → IsBytes l.rest → front_at l ≡ Ok (front, after) → Took l (front_text front) after × IsFront front
unfolding front_at
front_takes l front after plain e =
    let m = bind_ok (magic_at l) with_magic (front, after) e in
    let begin = magic_takes l m.0.0 m.0.1 plain m.1 in
    let i = bind_ok (digest_at m.0.1) with_id (front, after) m.2 in
    let id = digest_takes m.0.1 i.0.0 i.0.1 begin.bytes i.1 in
    let b = bind_ok (base_part_at i.0.1) (with_base i.0.0) (front, after) i.2 in
    let base = base_takes i.0.1 b.0.0 b.0.1 id.0.bytes b.1 in
    let made : Front = record { id = i.0.0; base = b.0.0 } in
    let took : Took l (front_text made) b.0.1 = Took-then l magic m.0.1 (i.0.0.0 ++ part_text b.0.0) b.0.1 begin (Took-then m.0.1 i.0.0.0 i.0.1 (part_text b.0.0) b.0.1 id.0 base.0) in
    subst (λ (p : Front × Unread). Took l (front_text p.0) p.1 × IsFront p.0) (ok_is (made, b.0.1) (front, after) b.2) (took, record { id = id.1; base = base.1 })

pub front_back : (front : Front) (whole : ℕ) (rest : List ℕ) → IsFront front
    → front_at (left_from whole (magic ++ (front.id.0 ++ (number_text (length (base_text front.base)) ++ (base_text front.base ++ rest))))) ≡ Ok (front, left_from whole rest)
unfolding front_at
front_back front whole rest fits =
    ap (λ r. r >>= with_magic) (magic_back whole _)
    ∙ (ap (λ r. r >>= with_id) (digest_again front.id whole _ fits.id)
    ∙ ap (λ r. r >>= with_base front.id) (base_back front.base whole rest fits.base))

-- ---- the journals

pub count_takes : (l : Unread) (n : ℕ) (after : Unread) → IsBytes l.rest → number_at w64 l ≡ Ok (n, after) → Took l (number_text n) after × (n < 2 ^ 64)
count_takes l n after plain e = number_told l n after plain e

pub count_back : (n whole : ℕ) (rest : List ℕ) → n < 2 ^ 64 → number_at w64 (left_from whole (number_text n ++ rest)) ≡ Ok (n, left_from whole rest)
count_back n whole rest lt = number_back n whole rest lt

pub items_take : (l : Unread) (items : List Item) (after : Unread) → IsBytes l.rest → HaveBeenRead l items after → Took l (flat_map item_text items) after × AllByRecursion IsItem items
items_take l [] after plain read = (subst (λ a. Took l [] a) (sym read) (record { whole = refl; parts = refl; bytes = plain }), tt)
items_take l (x ∷ items) after plain read =
    let one = item_back.takes l x read.0 plain read.1 in
    let rest = items_take read.0 items after one.0.bytes read.2 in
    (Took-then l (item_text x) read.0 (flat_map item_text items) after one.0 rest.0, (one.1, rest.1))

pub items_back : (items : List Item) (whole : ℕ) (rest : List ℕ) → AllByRecursion IsItem items → HaveBeenRead (left_from whole (flat_map item_text items ++ rest)) items (left_from whole rest)
items_back [] whole rest fits = refl
items_back (x ∷ items) whole rest fits = (
  left_from whole (flat_map item_text items ++ rest),
  ap (λ t. item_at (left_from whole t)) (append_assoc (item_text x) (flat_map item_text items) rest) ∙ item_back.again x whole (flat_map item_text items ++ rest) fits.0,
  items_back items whole rest fits.1,
)

-- ---- behind the journals

abbrev pub all_entries : List (List ℕ) → List ℕ
all_entries es = flat_map (λ e. e) es

abbrev pub with_more : List ℕ → List (List ℕ) × Unread → Result (List (List ℕ) × Unread) Bad
with_more e v = Ok (e ∷ v.0, v.1)

abbrev pub with_entry : ℕ → List ℕ × Unread → Result (List (List ℕ) × Unread) Bad
with_entry n v = entries_at n v.1 >>= with_more v.0

entries_take : (n : ℕ) (l : Unread) (es : List (List ℕ)) (after : Unread) → IsBytes l.rest → entries_at n l ≡ Ok (es, after)
    → Took l (all_entries es) after × AllByRecursion IsNotaryEntry es × (length es ≡ n)
entries_take zero l es after plain e =
    subst (λ (p : List (List ℕ) × Unread). Took l (all_entries p.0) p.1 × AllByRecursion IsNotaryEntry p.0 × (length p.0 ≡ 0)) (ok_is ([], l) (es, after) e)
    (record { whole = refl; parts = refl; bytes = plain }, tt, refl)
entries_take (suc n) l es after plain e =
    let b = bind_ok (bytes_at 72 l) (with_entry n) (es, after) e in
    let one = bytes_takes 72 l b.0.0 b.0.1 plain b.1 in
    let m = bind_ok (entries_at n b.0.1) (with_more b.0.0) (es, after) b.2 in
    let rest = entries_take n b.0.1 m.0.0 m.0.1 one.0.bytes m.1 in
    subst (λ (p : List (List ℕ) × Unread). Took l (all_entries p.0) p.1 × AllByRecursion IsNotaryEntry p.0 × (length p.0 ≡ suc n)) (ok_is (b.0.0 ∷ m.0.0, m.0.1) (es, after) m.2)
    (Took-then l b.0.0 b.0.1 (all_entries m.0.0) m.0.1 one.0 rest.0, (one.1, rest.1), omega (arith, rest.2))

pub entries_back : (es : List (List ℕ)) (whole : ℕ) (rest : List ℕ) → AllByRecursion IsNotaryEntry es → entries_at (length es) (left_from whole (all_entries es ++ rest)) ≡ Ok (es, left_from whole rest)
entries_back [] whole rest fits = refl
entries_back (e ∷ es) whole rest fits =
    ap (λ t. entries_at (suc (length es)) (left_from whole t)) (append_assoc e (all_entries es) rest)
    ∙ (ap (λ r. r >>= with_entry (length es)) (bytes_again 72 e whole (all_entries es ++ rest) fits.0)
    ∙ ap (λ r. r >>= with_more e) (entries_back es whole rest fits.1))

abbrev pub tail_from : ℕ → Digest → List (List ℕ) → Digest → Tail
tail_from size root es notary = record { head = record { size = size; root = root }; entries = es; notary_root = notary }

abbrev pub with_notary : ℕ → Digest → List (List ℕ) → Digest × Unread → Result Tail Bad
with_notary size root es v = end_at (tail_from size root es v.0) v.1

abbrev pub with_entries : ℕ → Digest → List (List ℕ) × Unread → Result Tail Bad
with_entries size root v = digest_at v.1 >>= with_notary size root v.0

abbrev pub with_count : ℕ → Digest → ℕ × Unread → Result Tail Bad
with_count size root v = entries_at v.0 v.1 >>= with_entries size root

abbrev pub with_root : ℕ → Digest × Unread → Result Tail Bad
with_root size v = number_at w64 v.1 >>= with_count size v.0

abbrev pub with_size : ℕ × Unread → Result Tail Bad
with_size v = digest_at v.1 >>= with_root v.0

pub record IsTail (tail : Tail) : Type 0 where
  pub size : tail.head.size < 2 ^ 64
  pub root : IsWide tail.head.root
  pub entries : AllByRecursion IsNotaryEntry tail.entries
  pub count : length tail.entries < 2 ^ 64
  pub notary_root : IsWide tail.notary_root

abbrev pub tail_text : Tail → List ℕ
tail_text tail = number_text tail.head.size ++ (tail.head.root.0 ++ (number_text (length tail.entries) ++ (all_entries tail.entries ++ tail.notary_root.0)))

-- five texts one behind the other, and nothing behind the last
five_texts : (l a b c d z : Unread) (t u v w x : List ℕ) → Took l t a → Took a u b → Took b v c → Took c w d → Took d x z → z.rest ≡ [] → l.rest ≡ t ++ (u ++ (v ++ (w ++ x)))
five_texts l a b c d z t u v w x one two three four five nothing =
    let took = Took-then l t a (u ++ (v ++ (w ++ x))) z one (Took-then a u b (v ++ (w ++ x)) z two (Took-then b v c (w ++ x) z three (Took-then c w d x z four five))) in
    let text : List ℕ = t ++ (u ++ (v ++ (w ++ x))) in
    took.parts ∙ ap (λ rest. text ++ rest) nothing ∙ append-nil text

pub tail_takes : (l : Unread) (tail : Tail) → IsBytes l.rest → tail_at l ≡ Ok tail → (l.rest ≡ tail_text tail) × IsTail tail
unfolding tail_at
tail_takes l tail plain e =
    let s = bind_ok (number_at w64 l) with_size tail e in
    let size = number_told l s.0.0 s.0.1 plain s.1 in
    let r = bind_ok (digest_at s.0.1) (with_root s.0.0) tail s.2 in
    let root = digest_takes s.0.1 r.0.0 r.0.1 size.0.bytes r.1 in
    let n = bind_ok (number_at w64 r.0.1) (with_count s.0.0 r.0.0) tail r.2 in
    let count = number_told r.0.1 n.0.0 n.0.1 root.0.bytes n.1 in
    let es = bind_ok (entries_at n.0.0 n.0.1) (with_entries s.0.0 r.0.0) tail n.2 in
    let entries = entries_take n.0.0 n.0.1 es.0.0 es.0.1 count.0.bytes es.1 in
    let d = bind_ok (digest_at es.0.1) (with_notary s.0.0 r.0.0 es.0.0) tail es.2 in
    let notary = digest_takes es.0.1 d.0.0 d.0.1 entries.0.bytes d.1 in
    let made : Tail = tail_from s.0.0 r.0.0 es.0.0 d.0.0 in
    let c = check_ok (eqb (length d.0.1.rest) 0) (Trailing (d.0.1.whole - length d.0.1.rest)) made tail d.2 in
    let nothing : d.0.1.rest ≡ [] = nil_from_length d.0.1.rest (eqb-true (length d.0.1.rest) 0 c.0) in
    let plainly = five_texts l s.0.1 r.0.1 n.0.1 es.0.1 d.0.1 (number_text s.0.0) r.0.0.0 (number_text n.0.0) (all_entries es.0.0) d.0.0.0 size.0 root.0 count.0 entries.0 notary.0 nothing in
    let text : l.rest ≡ tail_text made = subst (λ k. l.rest ≡ number_text s.0.0 ++ (r.0.0.0 ++ (number_text k ++ (all_entries es.0.0 ++ d.0.0.0)))) {y = length es.0.0} (sym {a = length es.0.0} entries.2) plainly in
    subst (λ t. (l.rest ≡ tail_text t) × IsTail t) {x = made} c.1 (text, record { size = size.1; root = root.1; entries = entries.1; count = omega (arith, count.1, entries.2); notary_root = notary.1 })

pub tail_back : (tail : Tail) (whole : ℕ) → IsTail tail → tail_at (left_from whole (tail_text tail)) ≡ Ok tail
unfolding tail_at
tail_back tail whole fits =
    let listed : List ℕ = all_entries tail.entries ++ tail.notary_root.0 in
    let counted : List ℕ = number_text (length tail.entries) ++ listed in
    ap (λ r. r >>= with_size) (number_back tail.head.size whole (tail.head.root.0 ++ counted) fits.size)
    ∙ (ap (λ r. r >>= with_root tail.head.size) (digest_again tail.head.root whole counted fits.root)
    ∙ (ap (λ r. r >>= with_count tail.head.size tail.head.root) (number_back (length tail.entries) whole listed fits.count)
    ∙ (ap (λ r. r >>= with_entries tail.head.size tail.head.root) (entries_back tail.entries whole tail.notary_root.0 fits.entries)
    ∙ ap (λ r. r >>= with_notary tail.head.size tail.head.root tail.entries) (ap (λ t. digest_at (left_from whole t)) (sym (append-nil tail.notary_root.0)) ∙ digest_again tail.notary_root whole [] fits.notary_root))))
