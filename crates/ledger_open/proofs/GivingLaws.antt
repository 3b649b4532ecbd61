-- A hidden content is given up: its bytes are changed in their place.
use Rattle.std.specs.Prelude.{◌==◌, sum_by, nat_lt}
use Rattle.std.proofs.Common.{◌≡◌, ◌≢◌, ◌⊎◌, inl, inr, ℕ, zero, suc, ◌+◌, ◌-◌, ◌<◌, ◌≤◌, Bool, true, false, cond, List, [], ◌∷◌, ◌++◌, length, get_or, take, drop, refl, sym, ◌∙◌, ap, subst, arith, append_assoc, length-append}
use Rattle.std.proofs.lemmas.Bool.{eqb-true, eq-eqb, true≢false, ltb-true, ltb-false}
use Rattle.std.proofs.lemmas.List.{length-map, map-append, get_or_append_left, get_or-append_right}
use Rattle.std.proofs.lemmas.List.Sums.{sum_by-cons}
use Rattle.journal_record.specs.Entry.{Entry}
use Rattle.journal_record.specs.declared.header.Header.{Header}
use Rattle.ledger_model.specs.History.{journals_of, size}
use Rattle.ledger_model.specs.Targets.{hides}
use Rattle.journal_record.specs.Blocks.{AreFrom, AreBlocks, written_blocks}
use Rattle.block_file.specs.File.{open_blocks}
use Rattle.ledger_disk.specs.Guards.{Outside}
use Rattle.block_file.specs.Places.{content_in, record_size, body_from, record_len}
use Rattle.ledger_open.proofs.AgainLaws.{flat}
use Rattle.ledger_open.specs.Heads.{Edition}
use Rattle.ledger_open.specs.Standing.{Floor, HasBlocks, AreZeros, IsKept, AllKept, SameButHidden, KeepsBlocks}
use Rattle.ledger_open.proofs.SizeLaws.{GivesDigests}
use Rattle.ledger_open.proofs.KeptLaws.{all_kept, header_map_same}
use Rattle.ledger_open.proofs.HoleLaws.{record_places, content_places, lengths_of, contents_of, with_content, put_in, put, Hole, hole_read, hole_outside, blocks_hole, put_here, put_behind, put_below, put_above, from_put}
use Rattle.ledger_open.proofs.HidingLaws.{from_blocks}

-- places and lengths are those of what is kept
record_places_kept : (hid gone : ℕ → Bool) (at : ℕ) (es fs : List Entry) → AllKept hid gone es fs → (record_places at es ≡ record_places at fs) × (sum_by record_len es ≡ sum_by record_len fs)
record_places_kept hid gone at [] [] a = (refl, refl)
record_places_kept hid gone at [] (f ∷ fs) a = absurd a
record_places_kept hid gone at (e ∷ es) [] a = absurd a
record_places_kept hid gone at (e ∷ es) (f ∷ fs) a =
    let same : record_len e ≡ record_len f = ap (λ (h : Header). record_size h.content_len (length e.who)) (sym a.0.header) ∙ ap (λ (w : List ℕ). record_size f.header.content_len (length w)) (sym a.0.who) in
    let more = record_places_kept hid gone (at + record_len e) es fs a.1 in (
      ap (λ (l : List ℕ). (content_in at) ∷ l) more.0 ∙ ap (λ (n : ℕ). (content_in at) ∷ record_places (at + n) fs) same,
      omega (arith, same, more.1, sum_by-cons record_len e es, sum_by-cons record_len f fs),
    )

pub places_kept : (hid gone : ℕ → Bool) (at : ℕ) (bs cs : List (List Entry)) → SameButHidden hid gone bs cs → content_places at bs ≡ content_places at cs
places_kept hid gone at [] [] s = refl
places_kept hid gone at [] (c ∷ cs) s = absurd s
places_kept hid gone at (b ∷ bs) [] s = absurd s
places_kept hid gone at (b ∷ bs) (c ∷ cs) s =
    let one = record_places_kept hid gone (body_from at) b c s.0 in
    ap (λ (l : List ℕ). l ++ content_places (body_from at + sum_by record_len b) bs) one.0
    ∙ ap (λ (l : List ℕ). record_places (body_from at) c ++ l) (places_kept hid gone (body_from at + sum_by record_len b) bs cs s.1)
    ∙ ap (λ (n : ℕ). record_places (body_from at) c ++ content_places (body_from at + n) cs) one.1

pub lengths_kept : (hid gone : ℕ → Bool) (bs cs : List (List Entry)) → SameButHidden hid gone bs cs → lengths_of (journals_of bs) ≡ lengths_of (journals_of cs)
lengths_kept hid gone bs cs s = header_map_same hid gone (λ (h : Header). h.content_len) (journals_of bs) (journals_of cs) (all_kept hid gone bs cs s)

pub count_kept : (hid gone : ℕ → Bool) (bs cs : List (List Entry)) → SameButHidden hid gone bs cs → length (journals_of bs) ≡ length (journals_of cs)
count_kept hid gone bs cs s = sym (length-map (journals_of bs) (λ (e : Entry). e.header.content_len)) ∙ ap length (lengths_kept hid gone bs cs s) ∙ length-map (journals_of cs) (λ (e : Entry). e.header.content_len)

-- a content put where it is hidden
module _ (hid gone gone′ : ℕ → Bool) (n : ℕ) (c : List ℕ) (hidden_n : hid n ≡ true) (zeroed : (m : ℕ) → gone′ m ≡ true → ((m ≡ n) × AreZeros c) ⊎ ((m ≢ n) × (gone m ≡ true))) where
  kept_put : (e f : Entry) → IsKept hid gone e f → (v : Bool) → (f.header.jsn == n) ≡ v → IsKept hid gone′ e (cond v (with_content c f) f)
  kept_put e f k true is = record {
    header = k.header;
    who = k.who;
    shown = λ s. let here : e.header.jsn ≡ n = ap (λ (h : Header). h.jsn) (sym k.header) ∙ eqb-true f.header.jsn n is in let no : ⊥ = true≢false (sym hidden_n ∙ ap hid (sym here) ∙ s) in absurd no;
    zeroed = λ z. elim (zeroed e.header.jsn z) [ inl here ↦ here.1 | inr other ↦ absurd (other.0 (ap (λ (h : Header). h.jsn) (sym k.header) ∙ eqb-true f.header.jsn n is)) ];
  }
  kept_put e f k false is = record {
    header = k.header;
    who = k.who;
    shown = k.shown;
    zeroed = λ z. elim (zeroed e.header.jsn z) [
      | inl there ↦ let no : ⊥ = true≢false (sym (eq-eqb f.header.jsn n (ap (λ (h : Header). h.jsn) k.header ∙ there.0)) ∙ is) in absurd no
      | inr other ↦ k.zeroed other.1
    ];
  }

  all_put : (es fs : List Entry) → AllKept hid gone es fs → AllKept hid gone′ es (put_in n c fs)
  all_put [] [] a = tt
  all_put [] (f ∷ fs) a = absurd a
  all_put (e ∷ es) [] a = absurd a
  all_put (e ∷ es) (f ∷ fs) a = (kept_put e f a.0 (f.header.jsn == n) refl, all_put es fs a.1)

  pub same_put : (bs cs : List (List Entry)) → SameButHidden hid gone bs cs → SameButHidden hid gone′ bs (put n c cs)
  same_put [] [] s = tt
  same_put [] (y ∷ ys) s = absurd s
  same_put (x ∷ xs) [] s = absurd s
  same_put (x ∷ xs) (y ∷ ys) s = (all_put x y s.0, same_put xs ys s.1)

-- the content that a journal has changes nothing
put_own_in : (n m i : ℕ) (es : List Entry) → AreFrom m es → n ≡ m + i → put_in n (get_or (contents_of es) i []) es ≡ es
put_own_in n m i [] a is = refl
put_own_in n m zero (e ∷ es) a is = put_here n m e.content e es a (omega (arith, is))
put_own_in n m (suc j) (e ∷ es) a is =
    put_behind n m (get_or (contents_of es) j []) e es a (omega (arith, is)) ∙ ap (λ (l : List Entry). e ∷ l) (put_own_in n (m + 1) j es a.1 (omega (arith, is)))

put_flat : (n : ℕ) (c : List ℕ) (bs : List (List Entry)) → journals_of (put n c bs) ≡ put_in n c (journals_of bs)
put_flat n c [] = refl
put_flat n c (b ∷ bs) = ap (λ (l : List Entry). put_in n c b ++ l) (put_flat n c bs) ∙ sym (map-append (λ (e : Entry). cond (e.header.jsn == n) (with_content c e) e) b (journals_of bs))

put_none : (n m : ℕ) (c : List ℕ) (bs : List (List Entry)) → AreBlocks m bs → n < m → put n c bs ≡ bs
put_none n m c [] a lt = refl
put_none n m c (b ∷ bs) a lt =
    ap (λ (l : List Entry). l ∷ put n c bs) (put_below n m c b a.0.entries lt) ∙ ap (λ (l : List (List Entry)). b ∷ l) (put_none n (m + length b) c bs a.1 (omega (arith, lt)))

put_own : (n m i : ℕ) (bs : List (List Entry)) → AreBlocks m bs → n ≡ m + i → put n (get_or (contents_of (journals_of bs)) i []) bs ≡ bs
put_own n m i [] a is = refl
put_own n m i (b ∷ bs) a is =
    elim (nat_lt i (length b)) as (λ v. nat_lt i (length b) ≡ v → put n (get_or (contents_of (b ++ journals_of bs)) i []) (b ∷ bs) ≡ b ∷ bs) [
      | true ↦ λ e.
          let lt = ltb-true i (length b) e in
          let c : get_or (contents_of (b ++ journals_of bs)) i [] ≡ get_or (contents_of b) i [] =
          ap (λ (l : List (List ℕ)). get_or l i []) (map-append (λ (e : Entry). e.content) b (journals_of bs)) ∙ get_or_append_left (contents_of b) (contents_of (journals_of bs)) [] i (omega (arith, lt, length-map b (λ (e : Entry). e.content))) in
          ap (λ (x : List ℕ). put n x (b ∷ bs)) c
          ∙ ap (λ (l : List Entry). l ∷ put n (get_or (contents_of b) i []) bs) (put_own_in n m i b a.0.entries is)
          ∙ ap (λ (l : List (List Entry)). b ∷ l) (put_none n (m + length b) (get_or (contents_of b) i []) bs a.1 (omega (arith, is, lt)))
      | false ↦ λ e.
          let le = ltb-false i (length b) e in
          let c : get_or (contents_of (b ++ journals_of bs)) i [] ≡ get_or (contents_of (journals_of bs)) (i - length b) [] =
          ap (λ (l : List (List ℕ)). get_or l i []) (map-append (λ (e : Entry). e.content) b (journals_of bs)) ∙ get_or-append_right (contents_of b) (contents_of (journals_of bs)) (length b) i [] (length-map b (λ (e : Entry). e.content)) le in
          ap (λ (x : List ℕ). put n x (b ∷ bs)) c
          ∙ ap (λ (l : List Entry). l ∷ put n (get_or (contents_of (journals_of bs)) (i - length b) []) bs) (put_above n m (get_or (contents_of (journals_of bs)) (i - length b) []) b a.0.entries (omega (arith, is, le)))
          ∙ ap (λ (l : List (List Entry)). b ∷ l) (put_own n (m + length b) (i - length b) bs a.1 (omega (arith, is, le)))
    ] refl

content_length : (m i : ℕ) (es : List Entry) → AreFrom m es → i < length es → length (get_or (contents_of es) i []) ≡ get_or (lengths_of es) i 0
content_length m i [] a lt = absurd (omega (arith, lt))
content_length m zero (e ∷ es) a lt = a.0.content
content_length m (suc j) (e ∷ es) a lt = content_length (m + 1) j es a.1 (omega (arith, lt))

blocks_put : (n m i : ℕ) (c : List ℕ) (bs : List (List Entry)) → AreBlocks m bs → n ≡ m + i → i < length (journals_of bs) → length c ≡ get_or (lengths_of (journals_of bs)) i 0 → AreBlocks m (put n c bs)
blocks_put n m i c [] a is lt size = tt
blocks_put n m i c (b ∷ bs) a is lt size =
    let count : length (put_in n c b) ≡ length b = length-map b (λ e. cond (e.header.jsn == n) (with_content c e) e) in
    elim (nat_lt i (length b)) as (λ v. nat_lt i (length b) ≡ v → AreBlocks m (put n c (b ∷ bs))) [
      | true ↦ λ e.
          let lt = ltb-true i (length b) e in
          let len : length c ≡ get_or (lengths_of b) i 0 =
          size ∙ ap (λ (l : List ℕ). get_or l i 0) (map-append (λ (e : Entry). e.header.content_len) b (journals_of bs)) ∙ get_or_append_left (lengths_of b) (lengths_of (journals_of bs)) 0 i (omega (arith, lt, length-map b (λ (e : Entry). e.header.content_len))) in (
            record { some = omega (arith, count, a.0.some); most = omega (arith, count, a.0.most); entries = from_put n m i c b a.0.entries is lt len },
            subst (λ (k : ℕ). AreBlocks (m + k) (put n c bs)) (sym count) (subst (λ (l : List (List Entry)). AreBlocks (m + length b) l) (sym (put_none n (m + length b) c bs a.1 (omega (arith, is, lt)))) a.1),
          )
      | false ↦ λ e.
          let le = ltb-false i (length b) e in
          let len : length c ≡ get_or (lengths_of (journals_of bs)) (i - length b) 0 =
          size ∙ ap (λ (l : List ℕ). get_or l i 0) (map-append (λ (e : Entry). e.header.content_len) b (journals_of bs)) ∙ get_or-append_right (lengths_of b) (lengths_of (journals_of bs)) (length b) i 0 (length-map b (λ (e : Entry). e.header.content_len)) le in (
            record { some = omega (arith, count, a.0.some); most = omega (arith, count, a.0.most); entries = subst (λ (l : List Entry). AreFrom m l) (sym (put_above n m c b a.0.entries (omega (arith, is, le)))) a.0.entries },
            subst (λ (k : ℕ). AreBlocks (m + k) (put n c bs)) (sym count) (blocks_put n (m + length b) (i - length b) c bs a.1 (omega (arith, is, le)) (omega (arith, lt, le, length-append b (journals_of bs))) len),
          )
    ] refl

-- the bytes of a file that keeps blocks, with a hole for a content
module _ (floor : Floor) (digests : GivesDigests floor.root) (edition : Edition) (blocks : List (List Entry)) (image : List ℕ) (x : HasBlocks floor edition blocks image) (n i : ℕ) (is : n ≡ floor.first + i) (lt : i < length (journals_of blocks)) where
  abbrev place : ℕ
  place = get_or (content_places (64 + length floor.base) blocks) i 0

  abbrev len : ℕ
  len = get_or (lengths_of (journals_of blocks)) i 0

  abbrev own : List ℕ
  own = get_or (contents_of (journals_of blocks)) i []

  abbrev text : List ℕ → List ℕ
  text c = x.front ++ (open_blocks (written_blocks floor.root [] (put n c blocks)) ++ (x.stands.gate ∷ x.stands.rest))

  hole : Hole text len place
  hole = blocks_hole floor.root digests i n floor.first (64 + length floor.base) [] x.front (x.stands.gate ∷ x.stands.rest) blocks x.head.size x.lawful is lt

  own_size : length own ≡ len
  own_size = content_length floor.first i (journals_of blocks) (from_blocks floor.first blocks x.lawful) lt

  image_is : image ≡ text own
  image_is = flat x.front (written_blocks floor.root [] blocks) image x.stands ∙ ap (λ (bs : List (List Entry)). x.front ++ (open_blocks (written_blocks floor.root [] bs) ++ (x.stands.gate ∷ x.stands.rest))) (sym (put_own n floor.first i blocks x.lawful is))

  -- it ends before the file does
  pub own_within : place + len ≤ length image
  own_within = omega (arith, hole.place, own_size, ap length (image_is ∙ hole.is own own_size), length-append hole.pre (own ++ hole.post), length-append own hole.post)

  -- what stands at a content's place is the content
  pub own_read : take len (drop place image) ≡ own
  own_read = ap (λ (l : List ℕ). take len (drop place l)) image_is ∙ hole_read text len place hole own own_size

  -- a file with other bytes in that place has other bytes in that content
  pub changed : (new : List ℕ) → Outside place len image new → HasBlocks floor edition (put n (take len (drop place new)) blocks) new
  changed new out =
      let other = hole_outside text len place hole own image new own_size image_is out in
      record {
        front = x.front;
        head = x.head;
        lawful = blocks_put n floor.first i (take len (drop place new)) blocks x.lawful is lt other.0;
        stands = record { gate = x.stands.gate; rest = x.stands.rest; is = other.1 ∙ sym (append_assoc x.front (open_blocks (written_blocks floor.root [] (put n (take len (drop place new)) blocks))) (x.stands.gate ∷ x.stands.rest)); shut = x.stands.shut };
      }

-- a content that is shown is kept, and one that is gone is zeros
contents_kept : (hid gone : ℕ → Bool) (n m i : ℕ) (es fs : List Entry) → AllKept hid gone es fs → AreFrom m fs → n ≡ m + i → hid n ≡ false → get_or (contents_of fs) i [] ≡ get_or (contents_of es) i []
contents_kept hid gone n m i [] [] a f is s = refl
contents_kept hid gone n m i [] (y ∷ ys) a f is s = absurd a
contents_kept hid gone n m i (x ∷ xs) [] a f is s = absurd a
contents_kept hid gone n m zero (x ∷ xs) (y ∷ ys) a f is s = a.0.shown (ap hid (ap (λ (h : Header). h.jsn) (sym a.0.header) ∙ f.0.jsn ∙ omega (arith, is)) ∙ s)
contents_kept hid gone n m (suc j) (x ∷ xs) (y ∷ ys) a f is s = contents_kept hid gone n (m + 1) j xs ys a.1 f.1 (omega (arith, is)) s

contents_gone : (hid gone : ℕ → Bool) (n m i : ℕ) (es fs : List Entry) → AllKept hid gone es fs → AreFrom m fs → n ≡ m + i → i < length fs → gone n ≡ true → AreZeros (get_or (contents_of fs) i [])
contents_gone hid gone n m i es [] a f is lt z = absurd (omega (arith, lt))
contents_gone hid gone n m i [] (y ∷ ys) a f is lt z = absurd a
contents_gone hid gone n m zero (x ∷ xs) (y ∷ ys) a f is lt z = a.0.zeroed (ap gone (ap (λ (h : Header). h.jsn) (sym a.0.header) ∙ f.0.jsn ∙ omega (arith, is)) ∙ z)
contents_gone hid gone n m (suc j) (x ∷ xs) (y ∷ ys) a f is lt z = contents_gone hid gone n (m + 1) j xs ys a.1 f.1 (omega (arith, is)) (omega (arith, lt)) z

-- a file that keeps blocks of a history: all by places of the history
module _ (floor : Floor) (digests : GivesDigests floor.root) (edition : Edition) (hid gone : ℕ → Bool) (bs : List (List Entry)) (image : List ℕ) (x : KeepsBlocks floor edition hid gone bs image) (n i : ℕ) (is : n ≡ floor.first + i) (lt : i < length (journals_of bs)) where
  abbrev at : ℕ
  at = get_or (content_places (64 + length floor.base) bs) i 0

  abbrev size_at : ℕ
  size_at = get_or (lengths_of (journals_of bs)) i 0

  there : i < length (journals_of x.blocks)
  there = omega (arith, lt, count_kept hid gone bs x.blocks x.same)

  at_is : get_or (content_places (64 + length floor.base) x.blocks) i 0 ≡ at
  at_is = ap (λ (l : List ℕ). get_or l i 0) (sym (places_kept hid gone (64 + length floor.base) bs x.blocks x.same))

  size_is : get_or (lengths_of (journals_of x.blocks)) i 0 ≡ size_at
  size_is = ap (λ (l : List ℕ). get_or l i 0) (sym (lengths_kept hid gone bs x.blocks x.same))

  read_is : take size_at (drop at image) ≡ get_or (contents_of (journals_of x.blocks)) i []
  read_is =
      sym (ap (λ (k : ℕ). take k (drop (get_or (content_places (64 + length floor.base) x.blocks) i 0) image)) size_is ∙ ap (λ (k : ℕ). take size_at (drop k image)) at_is)
      ∙ own_read floor digests edition x.blocks image x.file n i is there

  pub within : at + size_at ≤ length image
  within = subst (λ (k : ℕ). k + size_at ≤ length image) at_is (subst (λ (k : ℕ). get_or (content_places (64 + length floor.base) x.blocks) i 0 + k ≤ length image) size_is (own_within floor digests edition x.blocks image x.file n i is there))

  -- What is read at a journal's place is its content, where that isn't hidden ..
  pub shown_read : hid n ≡ false → take size_at (drop at image) ≡ get_or (contents_of (journals_of bs)) i []
  shown_read s = read_is ∙ contents_kept hid gone n floor.first i (journals_of bs) (journals_of x.blocks) (all_kept hid gone bs x.blocks x.same) (from_blocks floor.first x.blocks x.file.lawful) is s

  -- .. and zeros where it is gone.
  pub gone_read : gone n ≡ true → AreZeros (take size_at (drop at image))
  gone_read z = subst AreZeros (sym read_is) (contents_gone hid gone n floor.first i (journals_of bs) (journals_of x.blocks) (all_kept hid gone bs x.blocks x.same) (from_blocks floor.first x.blocks x.file.lawful) is there z)

  -- Other bytes at the place of a hidden content: the file keeps the same.
  pub given_up : (gone′ : ℕ → Bool) (new : List ℕ) → hid n ≡ true → Outside at size_at image new
      → ((m : ℕ) → gone′ m ≡ true → ((m ≡ n) × AreZeros (take size_at (drop at new))) ⊎ ((m ≢ n) × (gone m ≡ true)))
      → KeepsBlocks floor edition hid gone′ bs new
  given_up gone′ new hides out zeroed = record {
    blocks = put n (take size_at (drop at new)) x.blocks;
    file = subst (λ (c : List ℕ). HasBlocks floor edition (put n c x.blocks) new)
        (ap (λ (k : ℕ). take k (drop (get_or (content_places (64 + length floor.base) x.blocks) i 0) new)) size_is ∙ ap (λ (k : ℕ). take size_at (drop k new)) at_is)
        (changed floor digests edition x.blocks image x.file n i is there new
        (subst (λ (k : ℕ). Outside (get_or (content_places (64 + length floor.base) x.blocks) i 0) k image new) (sym size_is) (subst (λ (k : ℕ). Outside k size_at image new) (sym at_is) out)));
    same = same_put hid gone gone′ n (take size_at (drop at new)) hides zeroed bs x.blocks x.same;
  }
