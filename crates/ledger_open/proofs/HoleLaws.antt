-- The content of a journal in a file: it is read at its place, and it can be changed there.
use Rattle.std.specs.Int.{to_be_bytes, w32, w64}
use Rattle.std.specs.Prelude.{sum_by, ◌==◌, nat_lt}
use Rattle.std.proofs.Common.{◌≡◌, ℕ, zero, suc, ◌+◌, ◌-◌, ◌<◌, ◌≤◌, Bool, true, false, cond, List, [], ◌∷◌, ◌++◌, length, map, get_or, take, drop, refl, sym, ◌∙◌, ap, subst, arith, append_assoc, length-append, length-take, length-drop}
use Rattle.std.proofs.lemmas.Bool.{eqb-true, eq-eqb, ltb-true, ltb-false, false_from_ne_true}
use Rattle.std.proofs.lemmas.List.{take_at, drop_at, take-append-drop, drop-drop, length-map, get_or_append_left, get_or-append_right, map-append}
use Rattle.std.proofs.lemmas.List.Sums.{sum_by-cons}
use Rattle.journal_record.specs.Entry.{Entry}
use Rattle.journal_record.specs.Header.{spelling}
use Rattle.journal_record.proofs.Spelling.{length-spelling}
use Rattle.ledger_model.specs.History.{journals_of}
use Rattle.journal_record.specs.Blocks.{record_bytes, body_of, block_bytes, leaves_of, AreFrom, AreBlocks, written_blocks}
use Rattle.block_file.specs.File.{open_blocks}
use Rattle.ledger_disk.specs.Guards.{Outside}
use Rattle.block_file.specs.Places.{content_in, body_from, record_len}
use Rattle.ledger_open.proofs.SizeLaws.{GivesDigests, record_sized, body_size, block_size, readable}

-- ---- the contents of some journals

-- the places of the contents of a block, whose records begin at this one
abbrev pub record_places : ℕ → List Entry → List ℕ
record_places at [] = []
record_places at (e ∷ es) = (content_in at) ∷ record_places (at + record_len e) es

-- .. of blocks, where the first gate stands at this place
abbrev pub content_places : ℕ → List (List Entry) → List ℕ
content_places at [] = []
content_places at (b ∷ bs) = record_places (body_from at) b ++ content_places (body_from at + sum_by record_len b) bs

abbrev pub lengths_of : List Entry → List ℕ
lengths_of es = map (λ (e : Entry). e.header.content_len) es

abbrev pub contents_of : List Entry → List (List ℕ)
contents_of es = map (λ (e : Entry). e.content) es

abbrev pub with_content : List ℕ → Entry → Entry
with_content c e = record { header = e.header; content = c; who = e.who }

-- this content in journal n
abbrev pub put_in : ℕ → List ℕ → List Entry → List Entry
put_in n c es = map (λ (e : Entry). cond (e.header.jsn == n) (with_content c e) e) es

abbrev pub put : ℕ → List ℕ → List (List Entry) → List (List Entry)
put n c bs = map (put_in n c) bs

-- ---- holes

-- A text with a hole of this length: whatever is put in, the rest is the same.
pub record Hole (f : List ℕ → List ℕ) (len at : ℕ) : Type 0 where
  pub pre : List ℕ
  pub post : List ℕ
  pub place : length pre ≡ at
  pub is : (c : List ℕ) → length c ≡ len → f c ≡ pre ++ (c ++ post)

hole_as : (f g : List ℕ → List ℕ) (len at to : ℕ) → at ≡ to → ((c : List ℕ) → length c ≡ len → g c ≡ f c) → Hole f len at → Hole g len to
hole_as f g len at to place same h = record { pre = h.pre; post = h.post; place = h.place ∙ place; is = λ c size. same c size ∙ h.is c size }

-- journals with other numbers keep their contents
pub put_below : (n m : ℕ) (c : List ℕ) (es : List Entry) → AreFrom m es → n < m → put_in n c es ≡ es
put_below n m c [] a lt = refl
put_below n m c (e ∷ es) a lt =
    ap (λ (v : Bool). cond v (with_content c e) e ∷ put_in n c es) (false_from_ne_true (e.header.jsn == n) (λ is. omega (arith, eqb-true e.header.jsn n is, a.0.jsn, lt)))
    ∙ ap (λ (l : List Entry). e ∷ l) (put_below n (m + 1) c es a.1 (omega (arith, lt)))

pub put_above : (n m : ℕ) (c : List ℕ) (es : List Entry) → AreFrom m es → m + length es ≤ n → put_in n c es ≡ es
put_above n m c [] a le = refl
put_above n m c (e ∷ es) a le =
    ap (λ (v : Bool). cond v (with_content c e) e ∷ put_in n c es) (false_from_ne_true (e.header.jsn == n) (λ is. omega (arith, eqb-true e.header.jsn n is, a.0.jsn, le)))
    ∙ ap (λ (l : List Entry). e ∷ l) (put_above n (m + 1) c es a.1 (omega (arith, le)))

blocks_below : (n m : ℕ) (c : List ℕ) (bs : List (List Entry)) → AreBlocks m bs → n < m → put n c bs ≡ bs
blocks_below n m c [] a lt = refl
blocks_below n m c (b ∷ bs) a lt =
    ap (λ (l : List Entry). l ∷ put n c bs) (put_below n m c b a.0.entries lt) ∙ ap (λ (l : List (List Entry)). b ∷ l) (blocks_below n (m + length b) c bs a.1 (omega (arith, lt)))

-- the journal with this number is changed
pub put_here : (n m : ℕ) (c : List ℕ) (e : Entry) (es : List Entry) → AreFrom m (e ∷ es) → n ≡ m → put_in n c (e ∷ es) ≡ with_content c e ∷ es
put_here n m c e es a is =
    ap (λ (v : Bool). cond v (with_content c e) e ∷ put_in n c es) (eq-eqb e.header.jsn n (a.0.jsn ∙ sym is))
    ∙ ap (λ (l : List Entry). with_content c e ∷ l) (put_below n (m + 1) c es a.1 (omega (arith, is)))

pub put_behind : (n m : ℕ) (c : List ℕ) (e : Entry) (es : List Entry) → AreFrom m (e ∷ es) → m < n → put_in n c (e ∷ es) ≡ e ∷ put_in n c es
put_behind n m c e es a lt =
    ap (λ (v : Bool). cond v (with_content c e) e ∷ put_in n c es) (false_from_ne_true (e.header.jsn == n) (λ is. omega (arith, eqb-true e.header.jsn n is, a.0.jsn, lt)))

-- the records of a block, with other bytes in front and behind
body_hole : (i n m at : ℕ) (pre post : List ℕ) (es : List Entry) → length pre ≡ at → AreFrom m es → n ≡ m + i → i < length es → Hole (λ c. pre ++ (body_of (put_in n c es) ++ post)) (get_or (lengths_of es) i 0) (get_or (record_places at es) i 0)
body_hole i n m at pre post [] place a is lt = absurd (omega (arith, lt))
body_hole zero n m at pre post (e ∷ es) place a is lt =
    let four : length (to_be_bytes w32 (length e.who)) ≡ 4 = refl in record {
      pre = pre ++ (spelling e.header ++ to_be_bytes w32 (length e.who));
      post = e.who ++ (body_of es ++ post);
      place = omega (arith, place, length-spelling e.header a.0.widths, four, length-append pre (spelling e.header ++ to_be_bytes w32 (length e.who)), length-append (spelling e.header) (to_be_bytes w32 (length e.who)));
      is = λ c size.
          ap (λ (l : List Entry). pre ++ (body_of l ++ post)) (put_here n m c e es a (omega (arith, is)))
          ∙ parts pre (spelling e.header) (to_be_bytes w32 (length e.who)) c e.who (body_of es) post;
    } where
      parts : (pre h l c w b post : List ℕ) → pre ++ (((h ++ (l ++ (c ++ w))) ++ b) ++ post) ≡ (pre ++ (h ++ l)) ++ (c ++ (w ++ (b ++ post)))
      parts pre h l c w b post =
          ap (λ (x : List ℕ). pre ++ x) (append_assoc (h ++ (l ++ (c ++ w))) b post ∙ append_assoc h (l ++ (c ++ w)) (b ++ post) ∙ ap (λ (x : List ℕ). h ++ x) (append_assoc l (c ++ w) (b ++ post) ∙ ap (λ (x : List ℕ). l ++ x) (append_assoc c w (b ++ post))) ∙ sym (append_assoc h l (c ++ (w ++ (b ++ post)))))
          ∙ sym (append_assoc pre (h ++ l) (c ++ (w ++ (b ++ post))))
body_hole (suc j) n m at pre post (e ∷ es) place a is lt =
    hole_as (λ c. (pre ++ record_bytes e) ++ (body_of (put_in n c es) ++ post)) (λ c. pre ++ (body_of (put_in n c (e ∷ es)) ++ post)) (get_or (lengths_of es) j 0) _ _ refl
    (λ c size.
    ap (λ (l : List Entry). pre ++ (body_of l ++ post)) (put_behind n m c e es a (omega (arith, is)))
    ∙ ap (λ (l : List ℕ). pre ++ l) (append_assoc (record_bytes e) (body_of (put_in n c es)) post) ∙ sym (append_assoc pre (record_bytes e) (body_of (put_in n c es) ++ post)))
    (body_hole j n (m + 1) (at + record_len e) (pre ++ record_bytes e) post es (omega (arith, place, record_sized e (readable m (e ∷ es) a).0, length-append pre (record_bytes e))) a.1 (omega (arith, is)) (omega (arith, lt)))

-- a change of a content changes nothing else
pub leaves_put : (n : ℕ) (c : List ℕ) (es : List Entry) → leaves_of (put_in n c es) ≡ leaves_of es
leaves_put n c [] = refl
leaves_put n c (e ∷ es) =
    elim (e.header.jsn == n) as (λ v. spelling (cond v (with_content c e) e).header ∷ leaves_of (put_in n c es) ≡ spelling e.header ∷ leaves_of es) [
      | true ↦ ap (λ (l : List (List ℕ)). spelling e.header ∷ l) (leaves_put n c es)
      | false ↦ ap (λ (l : List (List ℕ)). spelling e.header ∷ l) (leaves_put n c es)
    ]

lengths_put : (n : ℕ) (c : List ℕ) (es : List Entry) → sum_by record_len (put_in n c es) ≡ sum_by record_len es
lengths_put n c [] = refl
lengths_put n c (e ∷ es) =
    elim (e.header.jsn == n) as (λ v. sum_by record_len (cond v (with_content c e) e ∷ put_in n c es) ≡ sum_by record_len (e ∷ es)) [
      | true ↦ omega (arith, lengths_put n c es, sum_by-cons record_len (with_content c e) (put_in n c es), sum_by-cons record_len e es)
      | false ↦ omega (arith, lengths_put n c es, sum_by-cons record_len e (put_in n c es), sum_by-cons record_len e es)
    ]

-- .. and keeps a block lawful, where the length is right
pub from_put : (n m i : ℕ) (c : List ℕ) (es : List Entry) → AreFrom m es → n ≡ m + i → i < length es → length c ≡ get_or (lengths_of es) i 0 → AreFrom m (put_in n c es)
from_put n m i c [] a is lt size = tt
from_put n m zero c (e ∷ es) a is lt size =
    subst (λ (l : List Entry). AreFrom m l) (sym (put_here n m c e es a (omega (arith, is))))
    (record { jsn = a.0.jsn; rules = a.0.rules; widths = a.0.widths; content = size; who = a.0.who }, a.1)
from_put n m (suc j) c (e ∷ es) a is lt size =
    subst (λ (l : List Entry). AreFrom m l) (sym (put_behind n m c e es a (omega (arith, is))))
    (a.0, from_put n (m + 1) j c es a.1 (omega (arith, is)) (omega (arith, lt)) size)

hole_to : (f : List ℕ → List ℕ) (len to_len at to : ℕ) → len ≡ to_len → at ≡ to → Hole f len at → Hole f to_len to
hole_to f len to_len at to e place h = record { pre = h.pre; post = h.post; place = h.place ∙ place; is = λ c size. h.is c (size ∙ sym e) }

-- a block's bytes, where the head is that of the block before the change
head_of : List ℕ → List Entry → List ℕ
head_of root es = 1 ∷ (to_be_bytes w32 (length es) ++ (to_be_bytes w64 (length (body_of es)) ++ root))

head_size : (root : List ℕ) (es : List Entry) → length root ≡ 32 → length (head_of root es) ≡ body_from 0
unfolding head_of
head_size root es size =
    let four : length (to_be_bytes w32 (length es)) ≡ 4 = refl in
    let eight : length (to_be_bytes w64 (length (body_of es))) ≡ 8 = refl in
    omega (arith, size, four, eight, length-append (to_be_bytes w32 (length es)) (to_be_bytes w64 (length (body_of es)) ++ root), length-append (to_be_bytes w64 (length (body_of es))) root)

block_parts : (root : List ℕ) (es xs : List Entry) → length xs ≡ length es → length (body_of xs) ≡ length (body_of es) → 1 ∷ block_bytes root xs ≡ head_of root es ++ body_of xs
unfolding head_of block_bytes
block_parts root es xs count size =
    ap (λ (n : ℕ). 1 ∷ (to_be_bytes w32 n ++ (to_be_bytes w64 (length (body_of xs)) ++ (root ++ body_of xs)))) count
    ∙ ap (λ (n : ℕ). 1 ∷ (to_be_bytes w32 (length es) ++ (to_be_bytes w64 n ++ (root ++ body_of xs)))) size
    ∙ ap (λ (l : List ℕ). 1 ∷ (to_be_bytes w32 (length es) ++ l)) (sym (append_assoc (to_be_bytes w64 (length (body_of es))) root (body_of xs)))
    ∙ ap (λ (l : List ℕ). 1 ∷ l) (sym (append_assoc (to_be_bytes w32 (length es)) (to_be_bytes w64 (length (body_of es)) ++ root) (body_of xs)))

body_put_size : (n m i : ℕ) (c : List ℕ) (es : List Entry) → AreFrom m es → n ≡ m + i → i < length es → length c ≡ get_or (lengths_of es) i 0 → length (body_of (put_in n c es)) ≡ length (body_of es)
body_put_size n m i c es a is lt size = body_size (put_in n c es) (readable m (put_in n c es) (from_put n m i c es a is lt size)) ∙ lengths_put n c es ∙ sym (body_size es (readable m es a))

-- blocks, with other bytes in front and behind
module _ (root : List (List ℕ) → List ℕ) (digests : GivesDigests root) where
  block_hole : (i n m at : ℕ) (seen : List (List ℕ)) (pre post : List ℕ) (b : List Entry) (bs : List (List Entry)) → length pre ≡ at → AreBlocks m (b ∷ bs) → n ≡ m + i → i < length b
      → Hole (λ c. pre ++ (open_blocks (written_blocks root seen (put n c (b ∷ bs))) ++ post)) (get_or (lengths_of b) i 0) (get_or (record_places (body_from at) b) i 0)
  block_hole i n m at seen pre post b bs place a is lt =
      let R = root (seen ++ leaves_of b) in
      let rest = open_blocks (written_blocks root (seen ++ leaves_of b) bs) in
      hole_as (λ c. (pre ++ head_of (root (seen ++ leaves_of b)) b) ++ (body_of (put_in n c b) ++ (open_blocks (written_blocks root (seen ++ leaves_of b) bs) ++ post))) (λ c. pre ++ (open_blocks (written_blocks root seen (put n c (b ∷ bs))) ++ post)) (get_or (lengths_of b) i 0) _ _ refl
      (λ c size.
      ap (λ (l : List (List Entry)). pre ++ (open_blocks (written_blocks root seen (put_in n c b ∷ l)) ++ post)) (blocks_below n (m + length b) c bs a.1 (omega (arith, is, lt)))
      ∙ ap (λ (l : List (List ℕ)). pre ++ (((1 ∷ block_bytes (root (seen ++ l)) (put_in n c b)) ++ open_blocks (written_blocks root (seen ++ l) bs)) ++ post)) (leaves_put n c b)
      ∙ ap (λ (l : List ℕ). pre ++ ((l ++ open_blocks (written_blocks root (seen ++ leaves_of b) bs)) ++ post)) (block_parts (root (seen ++ leaves_of b)) b (put_in n c b) (length-map b (λ e. cond (e.header.jsn == n) (with_content c e) e)) (body_put_size n m i c b a.0.entries is lt size))
      ∙ parts pre (head_of (root (seen ++ leaves_of b)) b) (body_of (put_in n c b)) (open_blocks (written_blocks root (seen ++ leaves_of b) bs)) post)
      (body_hole i n m (body_from at) (pre ++ head_of (root (seen ++ leaves_of b)) b) (open_blocks (written_blocks root (seen ++ leaves_of b) bs) ++ post) b (omega (arith, place, head_size (root (seen ++ leaves_of b)) b (digests (seen ++ leaves_of b)), length-append pre (head_of (root (seen ++ leaves_of b)) b))) a.0.entries is lt) where
        parts : (pre h b r post : List ℕ) → pre ++ (((h ++ b) ++ r) ++ post) ≡ (pre ++ h) ++ (b ++ (r ++ post))
        parts pre h b r post = ap (λ (x : List ℕ). pre ++ x) (append_assoc (h ++ b) r post ∙ append_assoc h b (r ++ post)) ∙ sym (append_assoc pre h (b ++ (r ++ post)))

  record_places_size : (at : ℕ) (es : List Entry) → length (record_places at es) ≡ length es
  record_places_size at [] = refl
  record_places_size at (e ∷ es) = omega (arith, record_places_size (at + record_len e) es)

  here : (i n m at : ℕ) (seen : List (List ℕ)) (pre post : List ℕ) (b : List Entry) (bs : List (List Entry)) → length pre ≡ at → AreBlocks m (b ∷ bs) → n ≡ m + i → i < length b
      → Hole (λ c. pre ++ (open_blocks (written_blocks root seen (put n c (b ∷ bs))) ++ post)) (get_or (lengths_of (journals_of (b ∷ bs))) i 0) (get_or (content_places at (b ∷ bs)) i 0)
  here i n m at seen pre post b bs place a is lt =
      hole_to (λ c. pre ++ (open_blocks (written_blocks root seen (put n c (b ∷ bs))) ++ post)) (get_or (lengths_of b) i 0) _ (get_or (record_places (body_from at) b) i 0) _
      (sym (ap (λ (l : List ℕ). get_or l i 0) (map-append (λ (e : Entry). e.header.content_len) b (journals_of bs)) ∙ get_or_append_left (lengths_of b) (lengths_of (journals_of bs)) 0 i (omega (arith, lt, length-map b (λ (e : Entry). e.header.content_len)))))
      (sym (get_or_append_left (record_places (body_from at) b) (content_places (body_from at + sum_by record_len b) bs) 0 i (omega (arith, lt, record_places_size (body_from at) b))))
      (block_hole i n m at seen pre post b bs place a is lt)

  behind : (i n m at : ℕ) (seen : List (List ℕ)) (pre post : List ℕ) (b : List Entry) (bs : List (List Entry)) → AreBlocks m (b ∷ bs) → n ≡ m + i → length b ≤ i
      → Hole (λ c. (pre ++ (1 ∷ block_bytes (root (seen ++ leaves_of b)) b)) ++ (open_blocks (written_blocks root (seen ++ leaves_of b) (put n c bs)) ++ post)) (get_or (lengths_of (journals_of bs)) (i - length b) 0) (get_or (content_places (body_from at + sum_by record_len b) bs) (i - length b) 0)
      → Hole (λ c. pre ++ (open_blocks (written_blocks root seen (put n c (b ∷ bs))) ++ post)) (get_or (lengths_of (journals_of (b ∷ bs))) i 0) (get_or (content_places at (b ∷ bs)) i 0)
  behind i n m at seen pre post b bs a is past h =
      hole_to (λ c. pre ++ (open_blocks (written_blocks root seen (put n c (b ∷ bs))) ++ post)) (get_or (lengths_of (journals_of bs)) (i - length b) 0) _ (get_or (content_places (body_from at + sum_by record_len b) bs) (i - length b) 0) _
      (sym (ap (λ (l : List ℕ). get_or l i 0) (map-append (λ (e : Entry). e.header.content_len) b (journals_of bs)) ∙ get_or-append_right (lengths_of b) (lengths_of (journals_of bs)) (length b) i 0 (length-map b (λ (e : Entry). e.header.content_len)) past))
      (sym (get_or-append_right (record_places (body_from at) b) (content_places (body_from at + sum_by record_len b) bs) (length b) i 0 (record_places_size (body_from at) b) past))
      (hole_as (λ c. (pre ++ (1 ∷ block_bytes (root (seen ++ leaves_of b)) b)) ++ (open_blocks (written_blocks root (seen ++ leaves_of b) (put n c bs)) ++ post)) (λ c. pre ++ (open_blocks (written_blocks root seen (put n c (b ∷ bs))) ++ post)) (get_or (lengths_of (journals_of bs)) (i - length b) 0) _ _ refl
      (λ c size.
      ap (λ (l : List Entry). pre ++ (open_blocks (written_blocks root seen (l ∷ put n c bs)) ++ post)) (put_above n m c b a.0.entries (omega (arith, is, past)))
      ∙ ap (λ (l : List ℕ). pre ++ l) (append_assoc (1 ∷ block_bytes (root (seen ++ leaves_of b)) b) (open_blocks (written_blocks root (seen ++ leaves_of b) (put n c bs))) post)
      ∙ sym (append_assoc pre (1 ∷ block_bytes (root (seen ++ leaves_of b)) b) (open_blocks (written_blocks root (seen ++ leaves_of b) (put n c bs)) ++ post)))
      h)

  pub blocks_hole : (i n m at : ℕ) (seen : List (List ℕ)) (pre post : List ℕ) (bs : List (List Entry)) → length pre ≡ at → AreBlocks m bs → n ≡ m + i → i < length (journals_of bs)
      → Hole (λ c. pre ++ (open_blocks (written_blocks root seen (put n c bs)) ++ post)) (get_or (lengths_of (journals_of bs)) i 0) (get_or (content_places at bs) i 0)
  blocks_hole i n m at seen pre post [] place a is lt = absurd (omega (arith, lt))
  blocks_hole i n m at seen pre post (b ∷ bs) place a is lt =
      elim (nat_lt i (length b)) as (λ v. nat_lt i (length b) ≡ v → Hole (λ c. pre ++ (open_blocks (written_blocks root seen (put n c (b ∷ bs))) ++ post)) (get_or (lengths_of (journals_of (b ∷ bs))) i 0) (get_or (content_places at (b ∷ bs)) i 0)) [
        | true ↦ λ e. here i n m at seen pre post b bs place a is (ltb-true i (length b) e)
        | false ↦ λ e. behind i n m at seen pre post b bs a is (ltb-false i (length b) e)
            (blocks_hole (i - length b) n (m + length b) (body_from at + sum_by record_len b) (seen ++ leaves_of b) (pre ++ (1 ∷ block_bytes (root (seen ++ leaves_of b)) b)) post bs
            (omega (arith, place, block_size (root (seen ++ leaves_of b)) b (digests (seen ++ leaves_of b)) (readable m b a.0.entries), length-append pre (1 ∷ block_bytes (root (seen ++ leaves_of b)) b)))
            a.1 (omega (arith, is, ltb-false i (length b) e)) (omega (arith, lt, ltb-false i (length b) e, length-append b (journals_of bs))))
      ] refl

-- the content that stands in a hole
pub hole_read : (f : List ℕ → List ℕ) (len at : ℕ) → Hole f len at → (c : List ℕ) → length c ≡ len → take len (drop at (f c)) ≡ c
hole_read f len at h c size =
    ap (λ (l : List ℕ). take len (drop at l)) (h.is c size) ∙ ap (λ (l : List ℕ). take len l) (drop_at h.pre (c ++ h.post) at h.place) ∙ take_at c h.post len size

-- A file of the same bytes but for those of the hole is the text with other bytes in it.
pub hole_outside : (f : List ℕ → List ℕ) (len at : ℕ) → Hole f len at → (c file new : List ℕ) → length c ≡ len → file ≡ f c → Outside at len file new
    → (length (take len (drop at new)) ≡ len) × (new ≡ f (take len (drop at new)))
hole_outside f len at h c file new size is out =
    let parts : file ≡ h.pre ++ (c ++ h.post) = is ∙ h.is c size in
    let before : take at new ≡ h.pre = out.before ∙ ap (λ (l : List ℕ). take at l) parts ∙ take_at h.pre (c ++ h.post) at h.place in
    let behind : drop (at + len) new ≡ h.post = out.after ∙ ap (λ (l : List ℕ). drop (at + len) l) (parts ∙ sym (append_assoc h.pre c h.post)) ∙ drop_at (h.pre ++ c) h.post (at + len) (omega (arith, h.place, size, length-append h.pre c)) in
    let long : at + len ≤ length new = omega (arith, out.size, ap length parts, h.place, size, length-append h.pre (c ++ h.post), length-append c h.post) in
    let inner : length (take len (drop at new)) ≡ len = omega (arith, long, length-take len (drop at new), length-drop at new) in (
      inner,
      sym (take-append-drop at new) ∙ ap (λ (l : List ℕ). l ++ drop at new) before
          ∙ ap (λ (l : List ℕ). h.pre ++ l) (sym (take-append-drop len (drop at new)) ∙ ap (λ (l : List ℕ). take len (drop at new) ++ l) (drop-drop len at new ∙ behind))
          ∙ sym (h.is (take len (drop at new)) inner),
    )
