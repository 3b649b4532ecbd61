-- What stands at the places of journals.
use Rattle.std.specs.Int.{to_be_bytes, w32, w64}
use Rattle.std.specs.Prelude.{Bool, sum_by, ⊤}
use Rattle.std.proofs.Common.{◌≡◌, ℕ, ◌+◌, List, [], ◌∷◌, ◌++◌, length, map, take, drop, refl, sym, ◌∙◌, ap, subst, arith, append_assoc, length-append}
use Rattle.std.proofs.lemmas.List.{take_at, drop_at, drop-drop}
use Rattle.std.proofs.lemmas.List.Sums.{sum_by-cons}
use Rattle.block_file.specs.declared.block.TheConstants.{BLOCK_HEAD_LEN}
use Rattle.block_file.specs.Blocks.{IsOpenBlock, records_from}
use Rattle.block_file.specs.File.{open_blocks, tail_of}
use Rattle.journal_record.proofs.Spelling.{length-spelling}
use Rattle.journal_record.specs.Blocks.{record_bytes, body_of, block_bytes, leaves_of, AreBlocks, written_blocks}
use Rattle.journal_record.specs.Entry.{Entry}
use Rattle.journal_record.specs.Header.{spelling}
use Rattle.journal_record.specs.Records.{IsReadable, AreReadable}
use Rattle.journal_record.specs.declared.header.Header.{Header}
use Rattle.ledger_model.specs.History.{History, journals_of}
use Rattle.ledger_model.specs.Targets.{is_hidden}
use Rattle.block_file.specs.Places.{content_in, record_size, body_from, record_len, place_at, place_of_record, places_in, places_at, after_at}
use Rattle.ledger_open.specs.Heads.{Edition}
use Rattle.ledger_open.specs.Places.{entry_at, AllAt, places_from}
use Rattle.ledger_open.specs.Standing.{Floor, floor_behind, HasBlocks, IsKept, AllKept, SameButHidden, StandsBy}
use Rattle.block_file.specs.declared.place.PlaceAt.{PlaceAt}
use Rattle.ledger_open.proofs.AgainLaws.{entry_is, flat}
use Rattle.ledger_open.proofs.FloorLaws.{floor_digests}
use Rattle.ledger_open.proofs.KeptLaws.{all_kept}
use Rattle.ledger_open.proofs.SizeLaws.{GivesDigests, record_sized, body_size, block_size, readable}

-- the places of a block's journals, by their headers and by their bytes
pub places_same : (at : ℕ) (es : List Entry) → AreReadable es → map place_of_record (records_from at es) ≡ places_in at es
places_same at [] r = refl
places_same at (e ∷ es) r =
    ap (λ (l : List PlaceAt). place_at at e ∷ l) (ap (λ (n : ℕ). map place_of_record (records_from (at + n) es)) (record_sized e r.0) ∙ places_same (at + record_len e) es r.1)

-- a block's body behind its gate and its head
body_behind : (root : List ℕ) (b : List Entry) (rest : List ℕ) → length root ≡ 32 → drop (body_from 0) ((1 ∷ block_bytes root b) ++ rest) ≡ body_of b ++ rest
unfolding block_bytes
body_behind root b rest size =
    let four : length (to_be_bytes w32 (length b)) ≡ 4 = refl in
    let eight : length (to_be_bytes w64 (length (body_of b))) ≡ 8 = refl in
    let parts : (to_be_bytes w32 (length b) ++ (to_be_bytes w64 (length (body_of b)) ++ (root ++ body_of b))) ++ rest ≡ (to_be_bytes w32 (length b) ++ (to_be_bytes w64 (length (body_of b)) ++ root)) ++ (body_of b ++ rest) = simp append_assoc in
    ap (λ (l : List ℕ). drop BLOCK_HEAD_LEN l) parts
    ∙ drop_at (to_be_bytes w32 (length b) ++ (to_be_bytes w64 (length (body_of b)) ++ root)) (body_of b ++ rest) BLOCK_HEAD_LEN
    (omega (arith, size, four, eight, length-append (to_be_bytes w32 (length b)) (to_be_bytes w64 (length (body_of b)) ++ root), length-append (to_be_bytes w64 (length (body_of b))) root))

-- ---- a file, and what stands in it

-- these journals stand in a file, each at its place
abbrev pub AreHere : List ℕ → List Entry → List PlaceAt → Type 0
AreHere file [] [] = ⊤
AreHere file (e ∷ es) (p ∷ ps) = (entry_at file e.header p ≡ e) × AreHere file es ps
AreHere file _ _ = ⊥

here_both : (file : List ℕ) (es fs : List Entry) (ps qs : List PlaceAt) → AreHere file es ps → AreHere file fs qs → AreHere file (es ++ fs) (ps ++ qs)
here_both file [] fs [] qs a b = b
here_both file [] fs (p ∷ ps) qs a b = absurd a
here_both file (e ∷ es) fs [] qs a b = absurd a
here_both file (e ∷ es) fs (p ∷ ps) qs a b = (a.0, here_both file es fs ps qs a.1 b)

module _ (file : List ℕ) where
  record_here : (at : ℕ) (e : Entry) (rest : List ℕ) → IsReadable e → drop at file ≡ record_bytes e ++ rest → entry_at file e.header (place_at at e) ≡ e
  record_here at e rest r is =
      let size : length (spelling e.header ++ to_be_bytes w32 (length e.who)) ≡ content_in 0 =
      let four : length (to_be_bytes w32 (length e.who)) ≡ 4 = refl in
      omega (arith, four, length-spelling e.header r.widths, length-append (spelling e.header) (to_be_bytes w32 (length e.who))) in
      let parts : record_bytes e ++ rest ≡ (spelling e.header ++ to_be_bytes w32 (length e.who)) ++ (e.content ++ (e.who ++ rest)) =
      ap (λ (l : List ℕ). l ++ rest) (sym (append_assoc (spelling e.header) (to_be_bytes w32 (length e.who)) (e.content ++ e.who)))
      ∙ append_assoc (spelling e.header ++ to_be_bytes w32 (length e.who)) (e.content ++ e.who) rest
      ∙ ap (λ (l : List ℕ). (spelling e.header ++ to_be_bytes w32 (length e.who)) ++ l) (append_assoc e.content e.who rest) in
      let content : drop (content_in at) file ≡ e.content ++ (e.who ++ rest) =
      sym (drop-drop (content_in 0) at file) ∙ ap (λ (l : List ℕ). drop (content_in 0) l) (is ∙ parts) ∙ drop_at (spelling e.header ++ to_be_bytes w32 (length e.who)) (e.content ++ (e.who ++ rest)) (content_in 0) size in
      let who : drop (content_in at + e.header.content_len) file ≡ e.who ++ rest =
      sym (drop-drop e.header.content_len (content_in at) file) ∙ ap (λ (l : List ℕ). drop e.header.content_len l) content ∙ drop_at e.content (e.who ++ rest) e.header.content_len r.content in
      entry_is (entry_at file e.header (place_at at e)) e refl
      (ap (λ (l : List ℕ). take e.header.content_len l) content ∙ take_at e.content (e.who ++ rest) e.header.content_len r.content)
      (ap (λ (l : List ℕ). take (length e.who) l) who ∙ take_at e.who rest (length e.who) refl)

  records_here : (at : ℕ) (es : List Entry) (rest : List ℕ) → AreReadable es → drop at file ≡ body_of es ++ rest → AreHere file es (places_in at es)
  records_here at [] rest r is = tt
  records_here at (e ∷ es) rest r is =
      let first : drop at file ≡ record_bytes e ++ (body_of es ++ rest) = is ∙ append_assoc (record_bytes e) (body_of es) rest in
      let later : drop (at + record_len e) file ≡ body_of es ++ rest =
      sym (drop-drop (record_len e) at file) ∙ ap (λ (l : List ℕ). drop (record_len e) l) first ∙ drop_at (record_bytes e) (body_of es ++ rest) (record_len e) (record_sized e r.0) in
      (record_here at e (body_of es ++ rest) r.0 first, records_here (at + record_len e) es rest r.1 later)

  blocks_here : (root : List (List ℕ) → List ℕ) → GivesDigests root → (seen : List (List ℕ)) (n at : ℕ) (bs : List (List Entry)) (rest : List ℕ) → AreBlocks n bs
      → drop at file ≡ open_blocks (written_blocks root seen bs) ++ rest → AreHere file (journals_of bs) (places_at at bs)
  blocks_here root digests seen n at [] rest a is = tt
  blocks_here root digests seen n at (b ∷ bs) rest a is =
      let r = readable n b a.0.entries in
      let later = open_blocks (written_blocks root (seen ++ leaves_of b) bs) ++ rest in
      let block : drop at file ≡ (1 ∷ block_bytes (root (seen ++ leaves_of b)) b) ++ (open_blocks (written_blocks root (seen ++ leaves_of b) bs) ++ rest) =
      is ∙ append_assoc (1 ∷ block_bytes (root (seen ++ leaves_of b)) b) (open_blocks (written_blocks root (seen ++ leaves_of b) bs)) rest in
      let body : drop (body_from at) file ≡ body_of b ++ (open_blocks (written_blocks root (seen ++ leaves_of b) bs) ++ rest) =
      sym (drop-drop (body_from 0) at file) ∙ ap (λ (l : List ℕ). drop (body_from 0) l) block ∙ body_behind (root (seen ++ leaves_of b)) b (open_blocks (written_blocks root (seen ++ leaves_of b) bs) ++ rest) (digests (seen ++ leaves_of b)) in
      let next : drop (body_from at + sum_by record_len b) file ≡ open_blocks (written_blocks root (seen ++ leaves_of b) bs) ++ rest =
      sym (drop-drop (sum_by record_len b) (body_from at) file) ∙ ap (λ (l : List ℕ). drop (sum_by record_len b) l) body ∙ drop_at (body_of b) (open_blocks (written_blocks root (seen ++ leaves_of b) bs) ++ rest) (sum_by record_len b) (body_size b r) in
      here_both file b (journals_of bs) (places_in (body_from at) b) (places_at (body_from at + sum_by record_len b) bs) (records_here (body_from at) b _ r body)
      (blocks_here root digests (seen ++ leaves_of b) (n + length b) (body_from at + sum_by record_len b) bs rest a.1 next)

-- the journals of an open block stand at its places
pub open_here : (at : ℕ) (root : List ℕ) (es : List Entry) (file : List ℕ) → IsOpenBlock at root es file → AreReadable es → AreHere file es (places_in (body_from at) es)
open_here at root es file o r =
    records_here file (body_from at) es (o.gate ∷ o.rest) r
    (sym (drop-drop (body_from 0) at file) ∙ ap (λ (l : List ℕ). drop (body_from 0) l) o.is ∙ body_behind root es (o.gate ∷ o.rest) o.digest)

-- the journals of a file stand at its places
pub file_here : (floor : Floor) → GivesDigests floor.root → (edition : Edition) (bs : List (List Entry)) (image : List ℕ) → HasBlocks floor edition bs image
    → AreHere image (journals_of bs) (places_at (64 + length floor.base) bs)
file_here floor digests edition bs image x =
    blocks_here image floor.root digests [] floor.first (64 + length floor.base) bs (x.stands.gate ∷ x.stands.rest) x.lawful
    (ap (λ (l : List ℕ). drop (64 + length floor.base) l) (flat x.front (written_blocks floor.root [] bs) image x.stands)
    ∙ drop_at x.front (open_blocks (written_blocks floor.root [] bs) ++ x.stands.gate ∷ x.stands.rest) (64 + length floor.base) x.head.size)

-- ---- the same places by what is kept

records_kept : (hid gone : ℕ → Bool) (at : ℕ) (es fs : List Entry) → AllKept hid gone es fs → (places_in at es ≡ places_in at fs) × (sum_by record_len es ≡ sum_by record_len fs)
records_kept hid gone at [] [] a = (refl, refl)
records_kept hid gone at [] (f ∷ fs) a = absurd a
records_kept hid gone at (e ∷ es) [] a = absurd a
records_kept hid gone at (e ∷ es) (f ∷ fs) a =
    let here : place_at at e ≡ place_at at f =
    ap (λ (h : Header). record { content_at = content_in at; who_at = content_in at + h.content_len; content_len = h.content_len; who_len = length e.who }) (sym a.0.header)
    ∙ ap (λ (l : List ℕ). record { content_at = content_in at; who_at = content_in at + f.header.content_len; content_len = f.header.content_len; who_len = length l }) (sym a.0.who) in
    let size : record_len e ≡ record_len f = ap (λ (h : Header). record_size h.content_len (length e.who)) (sym a.0.header) ∙ ap (λ (l : List ℕ). record_size f.header.content_len (length l)) (sym a.0.who) in
    let later = records_kept hid gone (at + record_len f) es fs a.1 in (
      ap (λ (p : PlaceAt). p ∷ places_in (at + record_len e) es) here ∙ ap (λ (n : ℕ). place_at at f ∷ places_in (at + n) es) size ∙ ap (λ (l : List PlaceAt). place_at at f ∷ l) later.0,
      omega (arith, size, later.1, sum_by-cons record_len e es, sum_by-cons record_len f fs),
    )

pub places_kept : (hid gone : ℕ → Bool) (at : ℕ) (bs cs : List (List Entry)) → SameButHidden hid gone bs cs → places_at at bs ≡ places_at at cs
places_kept hid gone at [] [] s = refl
places_kept hid gone at [] (c ∷ cs) s = absurd s
places_kept hid gone at (b ∷ bs) [] s = absurd s
places_kept hid gone at (b ∷ bs) (c ∷ cs) s =
    let one = records_kept hid gone (body_from at) b c s.0 in
    ap (λ (l : List PlaceAt). l ++ places_at (body_from at + sum_by record_len b) bs) one.0
    ∙ ap (λ (n : ℕ). places_in (body_from at) c ++ places_at (body_from at + n) bs) one.1
    ∙ ap (λ (l : List PlaceAt). places_in (body_from at) c ++ l) (places_kept hid gone (body_from at + sum_by record_len c) bs cs s.1)

-- .. and blocks end at the same place
pub after_kept : (hid gone : ℕ → Bool) (at : ℕ) (bs cs : List (List Entry)) → SameButHidden hid gone bs cs → after_at at bs ≡ after_at at cs
after_kept hid gone at [] [] s = refl
after_kept hid gone at [] (c ∷ cs) s = absurd s
after_kept hid gone at (b ∷ bs) [] s = absurd s
after_kept hid gone at (b ∷ bs) (c ∷ cs) s =
    ap (λ (n : ℕ). after_at (body_from at + n) bs) (records_kept hid gone (body_from at) b c s.0).1 ∙ after_kept hid gone (body_from at + sum_by record_len c) bs cs s.1

-- what is kept of journals stands at the places of the others
kept_here : (hid gone : ℕ → Bool) (file : List ℕ) (es fs : List Entry) (ps : List PlaceAt) → AllKept hid gone es fs → AreHere file fs ps → AllAt hid gone file es ps
kept_here hid gone file [] [] [] a h = tt
kept_here hid gone file [] [] (p ∷ ps) a h = absurd h
kept_here hid gone file [] (f ∷ fs) ps a h = absurd a
kept_here hid gone file (e ∷ es) [] ps a h = absurd a
kept_here hid gone file (e ∷ es) (f ∷ fs) [] a h = absurd h
kept_here hid gone file (e ∷ es) (f ∷ fs) (p ∷ ps) a h =
    (subst (λ (x : Header). IsKept hid gone e (entry_at file x p)) a.0.header (subst (IsKept hid gone e) (sym h.0) a.0), kept_here hid gone file es fs ps a.1 h.1)

-- each journal that a file has stands at its place, as far as it is kept
pub kept_at : (floor : ℕ) (gone : ℕ → Bool) (image : List ℕ) (h : History) (x : StandsBy floor gone image h) → AllAt (is_hidden h) gone image (journals_of x.parts.kept) (places_from (floor_behind h x.parts.gone) x.parts.kept)
kept_at floor gone image h x =
    let from = floor_behind h x.parts.gone in
    let at = 64 + length from.base in
    kept_here (is_hidden h) gone image (journals_of x.parts.kept) (journals_of x.keeps.blocks) (places_at at x.parts.kept)
    (all_kept (is_hidden h) gone x.parts.kept x.keeps.blocks x.keeps.same)
    (subst (AreHere image (journals_of x.keeps.blocks)) (sym (places_kept (is_hidden h) gone at x.parts.kept x.keeps.blocks x.keeps.same))
    (file_here from (floor_digests h x.parts.gone x.parts.kept x.parts.are) x.edition x.keeps.blocks image x.keeps.file))

-- ---- where blocks end

after_is : (root : List (List ℕ) → List ℕ) → GivesDigests root → (seen : List (List ℕ)) (n at : ℕ) (bs : List (List Entry)) → AreBlocks n bs → at + length (open_blocks (written_blocks root seen bs)) ≡ after_at at bs
after_is root digests seen n at [] a = omega arith
after_is root digests seen n at (b ∷ bs) a =
    let later = after_is root digests (seen ++ leaves_of b) (n + length b) (body_from at + sum_by record_len b) bs a.1 in
    let one = block_size (root (seen ++ leaves_of b)) b (digests (seen ++ leaves_of b)) (readable n b a.0.entries) in
    omega (arith, later, one, length-append (block_bytes (root (seen ++ leaves_of b)) b) (open_blocks (written_blocks root (seen ++ leaves_of b) bs)))

pub tail_place : (floor : Floor) → GivesDigests floor.root → (front : List ℕ) (at : ℕ) (bs : List (List Entry)) → AreBlocks floor.first bs → length front ≡ at → tail_of front (written_blocks floor.root [] bs) ≡ after_at at bs
tail_place floor digests front at bs a size = omega (arith, size, after_is floor.root digests [] floor.first at bs a, length-append front (open_blocks (written_blocks floor.root [] bs)))
