-- A block that stands in a file is the one that is read.
use Rattle.std.specs.Int.{from_be_bytes, to_be_bytes, w32, w64}
use Rattle.std.specs.Prelude.{Result, Option, Ok, Err, Some, None, not, nat_lt, ◌&&◌, ◌||◌}
use Rattle.std.proofs.Common.{◌≡◌, inl, inr, ℕ, ◌+◌, ◌*◌, ◌<◌, ◌≤◌, Bool, true, false, cond, List, [], ◌∷◌, ◌++◌, length, get_or, take, drop, refl, sym, ◌∙◌, ap, subst, arith, append_assoc, append-nil, length-append, length-drop}
use Rattle.std.proofs.lemmas.Bool.{true≢false, le-ltb}
use Rattle.std.proofs.lemmas.List.{take_at, drop_at, drop-drop, get_or-drop}
use Rattle.std.proofs.lemmas.List.Concat.{flat_map-append}
use Rattle.std.proofs.lemmas.Nat.{from_be_bytes-to_be_bytes_4, from_be_bytes-to_be_bytes_8}
use Rattle.ledger_bytes.specs.declared.failure.Bad.{Bad}
use Rattle.journal_record.specs.declared.approval.TheConstants.{WHO_LIMIT}
use Rattle.journal_record.specs.Blocks.{record_bytes, body_of, block_bytes}
use Rattle.journal_record.specs.Entry.{Entry}
use Rattle.journal_record.specs.Header.{spelling}
use Rattle.journal_record.specs.Reading.{header_of}
use Rattle.journal_record.specs.Records.{number_4, next_len, breaks, fills, IsReadable, AreReadable, IsBody}
use Rattle.journal_record.specs.declared.header.Header.{Header}
use Rattle.journal_record.proofs.ReadingLaws.{header_of_only}
use Rattle.journal_record.proofs.Spelling.{length-spelling}
use Rattle.block_file.specs.Blocks.{AreBlock, BeginsAt, IsRead, IsOpenBlock, room_at, block_head_at, body_at, count_in, body_len_in, HasBodyAt, IsNoEntry, IsHeadDamage, IsBodyErr, IsNextBlock, IsOutside, GivesBlock, GivesEnd}
use Rattle.block_file.specs.File.{IsFileOf, open_blocks, tail_of}
use Rattle.block_file.specs.declared.block.BlockAt.{BlockAt}
use Rattle.block_file.specs.declared.failure.Damage.{Damage}
use Rattle.block_file.specs.declared.failure.Damage.TheVariants as damage
use Rattle.block_file.specs.declared.failure.FileErr.{FileErr}
use Rattle.block_file.specs.declared.failure.FileErr.TheVariants.{DiskFault, Damaged, NewerFormat, NoMemory}
use Rattle.block_file.proofs.RecordLaws.{content_len_at}

-- fronts of one length are the same
same_fronts : (a b c d : List ℕ) → length a ≡ length b → a ++ c ≡ b ++ d → (a ≡ b) × (c ≡ d)
same_fronts a b c d size is = (
  sym (take_at a c (length a) refl) ∙ ap (λ (l : List ℕ). take (length a) l) is ∙ take_at b d (length a) (sym size),
  sym (drop_at a c (length a) refl) ∙ ap (λ (l : List ℕ). drop (length a) l) is ∙ drop_at b d (length a) (sym size),
)

-- ---- the record of a journal in front of others

module _ (e : Entry) (rest : List ℕ) (r : IsReadable e) where
  flat : record_bytes e ++ rest ≡ spelling e.header ++ (to_be_bytes w32 (length e.who) ++ (e.content ++ (e.who ++ rest)))
  flat = append_assoc (spelling e.header) (to_be_bytes w32 (length e.who) ++ (e.content ++ e.who)) rest
      ∙ ap (λ (l : List ℕ). spelling e.header ++ l) (append_assoc (to_be_bytes w32 (length e.who)) (e.content ++ e.who) rest ∙ ap (λ (l : List ℕ). to_be_bytes w32 (length e.who) ++ l) (append_assoc e.content e.who rest))

  content_number : number_4 106 (record_bytes e ++ rest) ≡ e.header.content_len
  content_number =
      ap (λ (l : List ℕ). from_be_bytes w32 (take 4 (drop 106 l))) flat
      ∙ ap (λ (l : List ℕ). from_be_bytes w32 l) (content_len_at e.header (to_be_bytes w32 (length e.who) ++ (e.content ++ (e.who ++ rest))) r.widths)
      ∙ from_be_bytes-to_be_bytes_4 e.header.content_len r.widths.content_len

  who_number : number_4 174 (record_bytes e ++ rest) ≡ length e.who
  who_number =
      ap (λ (l : List ℕ). from_be_bytes w32 (take 4 (drop 174 l))) flat
      ∙ ap (λ (l : List ℕ). from_be_bytes w32 (take 4 l)) (drop_at (spelling e.header) (to_be_bytes w32 (length e.who) ++ (e.content ++ (e.who ++ rest))) 174 (length-spelling e.header r.widths))
      ∙ ap (λ (l : List ℕ). from_be_bytes w32 l) (take_at (to_be_bytes w32 (length e.who)) (e.content ++ (e.who ++ rest)) 4 refl)
      ∙ from_be_bytes-to_be_bytes_4 (length e.who) (omega (arith, r.who))

  size : length (record_bytes e) ≡ 178 + e.header.content_len + length e.who
  size =
      let four : length (to_be_bytes w32 (length e.who)) ≡ 4 = refl in
      omega (
        arith,
        length-spelling e.header r.widths,
        r.content,
        four,
        length-append (spelling e.header) (to_be_bytes w32 (length e.who) ++ (e.content ++ e.who)),
        length-append (to_be_bytes w32 (length e.who)) (e.content ++ e.who),
        length-append e.content e.who,
      )

  next_is : next_len (record_bytes e ++ rest) ≡ length (record_bytes e)
  next_is =
      ap (λ (v : Bool). cond v 178 (178 + number_4 106 (record_bytes e ++ rest) + number_4 174 (record_bytes e ++ rest))) (le-ltb (length (record_bytes e ++ rest)) 178 (omega (arith, size, length-append (record_bytes e) rest)))
      ∙ ap (λ (k : ℕ). 178 + k + number_4 174 (record_bytes e ++ rest)) content_number ∙ ap (λ (k : ℕ). 178 + e.header.content_len + k) who_number ∙ sym size

  breaks_not : breaks (record_bytes e ++ rest) ≡ false
  breaks_not =
      let one : nat_lt (length (record_bytes e ++ rest)) (next_len (record_bytes e ++ rest)) ≡ false = le-ltb (length (record_bytes e ++ rest)) (next_len (record_bytes e ++ rest)) (omega (arith, length-append (record_bytes e) rest, next_is)) in
      let two : nat_lt WHO_LIMIT (number_4 174 (record_bytes e ++ rest)) ≡ false = le-ltb WHO_LIMIT (number_4 174 (record_bytes e ++ rest)) (omega (arith, who_number, r.who)) in
      ap (λ (v : Bool). v || nat_lt WHO_LIMIT (number_4 174 (record_bytes e ++ rest))) one ∙ two

  header_read : header_of (take 174 (record_bytes e ++ rest)) ≡ Ok e.header
  header_read =
      header_of_only (take 174 (record_bytes e ++ rest)) e.header r.rules r.widths
      (ap (λ (l : List ℕ). take 174 l) flat ∙ take_at (spelling e.header) (to_be_bytes w32 (length e.who) ++ (e.content ++ (e.who ++ rest))) 174 (length-spelling e.header r.widths))

-- ---- one spelling, one journal

ok_same : (x y : Header) → (let a : Result Header Bad = Ok x in let b : Result Header Bad = Ok y in a ≡ b) → x ≡ y
ok_same x y e = cc

ok_err : (x : Header) (bad : Bad) → (let a : Result Header Bad = Ok x in let b : Result Header Bad = Err bad in a ≡ b) → ⊥
ok_err x bad e = let no : ⊥ = cc e in no

entry_is : (e f : Entry) → e.header ≡ f.header → e.content ≡ f.content → e.who ≡ f.who → e ≡ f
entry_is e f h c w =
    ap (λ (x : Header). record { header = x; content = e.content; who = e.who }) h
    ∙ ap (λ (x : List ℕ). record { header = f.header; content = x; who = e.who }) c
    ∙ ap (λ (x : List ℕ). record { header = f.header; content = f.content; who = x }) w

record_same : (e f : Entry) (r s : List ℕ) → IsReadable e → IsReadable f → record_bytes e ++ r ≡ record_bytes f ++ s → (e ≡ f) × (r ≡ s)
record_same e f r s ee ff is =
    let one = same_fronts (spelling e.header) (spelling f.header) _ _ (length-spelling e.header ee.widths ∙ sym (length-spelling f.header ff.widths)) (sym (flat e r ee) ∙ is ∙ flat f s ff) in
    let head = ok_same e.header f.header (sym (header_of_only (spelling e.header) e.header ee.rules ee.widths refl) ∙ header_of_only (spelling e.header) f.header ff.rules ff.widths one.0) in
    let two = same_fronts (to_be_bytes w32 (length e.who)) (to_be_bytes w32 (length f.who)) _ _ refl one.1 in
    let count : length e.who ≡ length f.who =
    sym (from_be_bytes-to_be_bytes_4 (length e.who) (omega (arith, ee.who))) ∙ ap (λ (l : List ℕ). from_be_bytes w32 l) two.0 ∙ from_be_bytes-to_be_bytes_4 (length f.who) (omega (arith, ff.who)) in
    let three = same_fronts e.content f.content _ _ (ee.content ∙ ap (λ (x : Header). x.content_len) head ∙ sym ff.content) two.1 in
    let four = same_fronts e.who f.who _ _ count three.1 in
    (entry_is e f head three.0 four.0, four.1)

-- ---- bodies

-- as many journals of one body are the same
bodies_same : (es fs : List Entry) → AreReadable es → AreReadable fs → length es ≡ length fs → body_of es ≡ body_of fs → es ≡ fs
bodies_same [] [] ee ff size is = refl
bodies_same [] (f ∷ fs) ee ff size is = absurd (omega (arith, size))
bodies_same (e ∷ es) [] ee ff size is = absurd (omega (arith, size))
bodies_same (e ∷ es) (f ∷ fs) ee ff size is =
    let one = record_same e f (body_of es) (body_of fs) ee.0 ff.0 is in
    ap (λ (x : Entry). x ∷ es) one.0 ∙ ap (λ (l : List Entry). f ∷ l) (bodies_same es fs ee.1 ff.1 (omega (arith, size)) one.1)

-- the records of some journals fill their body
fills_whole : (es : List Entry) → AreReadable es → fills (length es) (body_of es) ≡ true
fills_whole [] r = refl
fills_whole (e ∷ es) r =
    ap (λ (v : Bool). not v && fills (length es) (drop (next_len (record_bytes e ++ body_of es)) (record_bytes e ++ body_of es))) (breaks_not e (body_of es) r.0)
    ∙ ap (λ (k : ℕ). fills (length es) (drop k (record_bytes e ++ body_of es))) (next_is e (body_of es) r.0)
    ∙ ap (λ (l : List ℕ). fills (length es) l) (drop_at (record_bytes e) (body_of es) (length (record_bytes e)) refl)
    ∙ fills_whole es r.1

-- each of their headers is read
pub none_breaks : (bs es : List Entry) (tail rest : List ℕ) (bad : Bad) → AreReadable bs → AreReadable es → body_of bs ++ tail ≡ body_of es ++ rest → length es < length bs → header_of (take 174 rest) ≡ Err bad → ⊥
none_breaks [] es tail rest bad bb ee is fewer undecoded = omega (arith, fewer)
none_breaks (b ∷ bs) [] tail rest bad bb ee is fewer undecoded =
    ok_err b.header bad (sym (header_read b (body_of bs ++ tail) bb.0) ∙ ap (λ (l : List ℕ). header_of (take 174 l)) (sym (append_assoc (record_bytes b) (body_of bs) tail) ∙ is) ∙ undecoded)
none_breaks (b ∷ bs) (e ∷ es) tail rest bad bb ee is fewer undecoded =
    let one = record_same b e (body_of bs ++ tail) (body_of es ++ rest) bb.0 ee.0 (sym (append_assoc (record_bytes b) (body_of bs) tail) ∙ is ∙ append_assoc (record_bytes e) (body_of es) rest) in
    none_breaks bs es tail rest bad bb.1 ee.1 one.1 (omega (arith, fewer)) undecoded

body_most : (es : List Entry) → AreReadable es → length (body_of es) ≤ length es * 4_296_017_586
body_most [] r = omega arith
body_most (e ∷ es) r = omega (arith, body_most es r.1, size e [] r.0, r.0.who, r.0.widths.content_len, length-append (record_bytes e) (body_of es))

-- ---- an open block

module _ (at first : ℕ) (file root : List ℕ) (es : List Entry) (block : IsOpenBlock at root es file) (are : AreBlock first es) where
  tail : List ℕ
  tail = block.gate ∷ block.rest

  behind : drop (at + 1) file ≡ to_be_bytes w32 (length es) ++ (to_be_bytes w64 (length (body_of es)) ++ (root ++ (body_of es ++ (block.gate ∷ block.rest))))
  unfolding block_bytes
  behind = sym (drop-drop 1 at file) ∙ ap (λ (l : List ℕ). drop 1 l) block.is
      ∙ append_assoc (to_be_bytes w32 (length es)) (to_be_bytes w64 (length (body_of es)) ++ (root ++ body_of es)) (block.gate ∷ block.rest)
      ∙ ap (λ (l : List ℕ). to_be_bytes w32 (length es) ++ l) (append_assoc (to_be_bytes w64 (length (body_of es))) (root ++ body_of es) (block.gate ∷ block.rest) ∙ ap (λ (l : List ℕ). to_be_bytes w64 (length (body_of es)) ++ l) (append_assoc root (body_of es) (block.gate ∷ block.rest)))

  gate_is : get_or file at 0 ≡ 1
  gate_is =
      let e : at + 0 ≡ at = omega arith in
      ap (λ (k : ℕ). get_or file k 0) (sym e) ∙ sym (get_or-drop at file 0 0) ∙ ap (λ (l : List ℕ). get_or l 0 0) block.is

  long : length (drop (at + 1) file) ≡ 44 + length (body_of es) + 1 + length block.rest
  long =
      let four : length (to_be_bytes w32 (length es)) ≡ 4 = refl in
      let eight : length (to_be_bytes w64 (length (body_of es))) ≡ 8 = refl in
      ap length behind ∙ simp length-append (omega (arith, block.digest))

  room : room_at at file ≡ 44 + length (body_of es) + length block.rest
  room = omega (arith, long, length-drop (at + 1) file)

  pub head_is : block_head_at at file ≡ to_be_bytes w32 (length es) ++ (to_be_bytes w64 (length (body_of es)) ++ root)
  head_is =
      let count = to_be_bytes w32 (length es) in
      let len = to_be_bytes w64 (length (body_of es)) in
      let flat : (count ++ (len ++ root)) ++ (body_of es ++ (block.gate ∷ block.rest)) ≡ count ++ (len ++ (root ++ (body_of es ++ (block.gate ∷ block.rest)))) =
      append_assoc count (len ++ root) (body_of es ++ (block.gate ∷ block.rest)) ∙ ap (λ (l : List ℕ). count ++ l) (append_assoc len root (body_of es ++ (block.gate ∷ block.rest))) in
      ap (λ (l : List ℕ). take 44 l) (behind ∙ sym flat)
      ∙ take_at (count ++ (len ++ root)) (body_of es ++ (block.gate ∷ block.rest)) 44 (omega (arith, block.digest, length-append count (len ++ root), length-append len root))

  count_is : count_in (block_head_at at file) ≡ length es
  unfolding count_in
  count_is =
      ap (λ (l : List ℕ). number_4 0 l) head_is
      ∙ ap (λ (l : List ℕ). from_be_bytes w32 l) (take_at (to_be_bytes w32 (length es)) (to_be_bytes w64 (length (body_of es)) ++ root) 4 refl)
      ∙ from_be_bytes-to_be_bytes_4 (length es) (omega (arith, are.most))

  len_is : body_len_in (block_head_at at file) ≡ length (body_of es)
  unfolding body_len_in
  len_is =
      ap (λ (l : List ℕ). from_be_bytes w64 (take 8 (drop 4 l))) head_is
      ∙ ap (λ (l : List ℕ). from_be_bytes w64 (take 8 l)) (drop_at (to_be_bytes w32 (length es)) (to_be_bytes w64 (length (body_of es)) ++ root) 4 refl)
      ∙ ap (λ (l : List ℕ). from_be_bytes w64 l) (take_at (to_be_bytes w64 (length (body_of es))) root 8 refl)
      ∙ from_be_bytes-to_be_bytes_8 (length (body_of es)) (omega (arith, body_most es are.readable, are.most))

  body_is : body_at at file ≡ body_of es
  body_is =
      let e : at + 1 + 44 ≡ at + 45 = omega arith in
      let count = to_be_bytes w32 (length es) in
      let len = to_be_bytes w64 (length (body_of es)) in
      let flat : (count ++ (len ++ root)) ++ (body_of es ++ (block.gate ∷ block.rest)) ≡ count ++ (len ++ (root ++ (body_of es ++ (block.gate ∷ block.rest)))) =
      append_assoc count (len ++ root) (body_of es ++ (block.gate ∷ block.rest)) ∙ ap (λ (l : List ℕ). count ++ l) (append_assoc len root (body_of es ++ (block.gate ∷ block.rest))) in
      let rest : drop (at + 45) file ≡ body_of es ++ (block.gate ∷ block.rest) =
      ap (λ (k : ℕ). drop k file) (sym e) ∙ sym (drop-drop 44 (at + 1) file) ∙ ap (λ (l : List ℕ). drop 44 l) (behind ∙ sym flat)
      ∙ drop_at (count ++ (len ++ root)) (body_of es ++ (block.gate ∷ block.rest)) 44 (omega (arith, block.digest, length-append count (len ++ root), length-append len root)) in
      ap (λ (k : ℕ). take k (drop (at + 45) file)) len_is ∙ ap (λ (l : List ℕ). take (length (body_of es)) l) rest ∙ take_at (body_of es) (block.gate ∷ block.rest) (length (body_of es)) refl

  filled : fills (count_in (block_head_at at file)) (body_at at file) ≡ true
  filled = ap (λ (k : ℕ). fills k (body_at at file)) count_is ∙ ap (λ (l : List ℕ). fills (length es) l) body_is ∙ fills_whole es are.readable

  wide : HasBodyAt at file
  wide = record { head = record { room = omega (arith, room); some = omega (arith, count_is, are.some); most = omega (arith, count_is, are.most) }; within = omega (arith, room, len_is) }

  -- no damage is found
  no_damage : (d : Damage) → IsHeadDamage at file d → ⊥
  no_damage damage.Magic is = is
  no_damage (damage.BaseForm place) is = is
  no_damage (damage.Base kept found) is = is
  no_damage (damage.Length place kept found) is =
      elim is [
        | inl cut ↦ omega (arith, cut.room, room)
        | inr more ↦ elim more [
          | inl wrong ↦ elim wrong.wrong [ inl none ↦ omega (arith, none, count_is, are.some) | inr many ↦ omega (arith, many, count_is, are.most) ]
          | inr far ↦ omega (arith, far.far, room, len_is)
        ]
      ]
  no_damage (damage.Entry jsn) is = is
  no_damage (damage.Root number kept found) is = is
  no_damage (damage.Content jsn kept found) is = is

  same_journals : (others : List Entry) → IsBody (count_in (block_head_at at file)) (body_at at file) others → others ≡ es
  same_journals others body = bodies_same others es body.readable are.readable (body.number ∙ count_is) (sym body.is ∙ body_is)

  no_other : (jsn : ℕ) → IsNoEntry (count_in (block_head_at at file)) (body_at at file) first jsn → ⊥
  no_other jsn found =
      elim found.why [
        | inl broken ↦ let b = broken.2 in none_breaks es b.es [] b.rest b.bad are.readable b.readable (append-nil (body_of es) ∙ sym body_is ∙ b.is) (omega (arith, b.number, b.fewer, count_is)) b.undecoded
        | inr other ↦ let o = other.1 in o.other (subst (BeginsAt first) (sym (same_journals o.es o.body_is)) are.begins)
      ]

  no_body_err : (e : FileErr) → IsBodyErr at (count_in (block_head_at at file)) (body_at at file) first e → IsOutside e
  no_body_err DiskFault is = tt
  no_body_err NoMemory is = tt
  no_body_err (NewerFormat found) is = is
  no_body_err (Damaged damage.Magic) is = is
  no_body_err (Damaged (damage.BaseForm place)) is = is
  no_body_err (Damaged (damage.Base kept found)) is = is
  no_body_err (Damaged (damage.Length place kept found)) is = true≢false (sym filled ∙ is.unfilled)
  no_body_err (Damaged (damage.Entry jsn)) is = no_other jsn is
  no_body_err (Damaged (damage.Root number kept found)) is = is
  no_body_err (Damaged (damage.Content jsn kept found)) is = is

-- one place, one block
same_block : (at first : ℕ) (file root other_root : List ℕ) (es others : List Entry) → IsOpenBlock at root es file → AreBlock first es → IsOpenBlock at other_root others file → AreBlock first others → (other_root ≡ root) × (others ≡ es)
same_block at first file root other_root es others block are other other_are =
    let heads = sym (head_is at first file other_root others other other_are) ∙ head_is at first file root es block are in
    let one = same_fronts (to_be_bytes w32 (length others)) (to_be_bytes w32 (length es)) _ _ refl heads in
    let two = same_fronts (to_be_bytes w64 (length (body_of others))) (to_be_bytes w64 (length (body_of es))) _ _ refl one.1 in (
      two.1,
      bodies_same others es other_are.readable are.readable (sym (count_is at first file other_root others other other_are) ∙ count_is at first file root es block are) (sym (body_is at first file other_root others other other_are) ∙ body_is at first file root es block are),
    )

-- what is told at an open block
pub given : (at first : ℕ) (file root : List ℕ) (es : List Entry) → IsOpenBlock at root es file → AreBlock first es → (result : Result (Option BlockAt) FileErr) → IsNextBlock at file first result → GivesBlock at root es result
given at first file root es block are (Ok None) shut = shut (gate_is at first file root es block are)
given at first file root es block are (Ok (Some read)) is =
    let same = same_block at first file root read.root.0 es is.0 block are is.3 is.1 in
    (same.0, subst (λ (l : List Entry). IsRead at l read) same.1 is.2)
given at first file root es block are (Err DiskFault) is = tt
given at first file root es block are (Err NoMemory) is = tt
given at first file root es block are (Err (NewerFormat found)) is = is
given at first file root es block are (Err (Damaged d)) is =
    elim is.1 [ inl cut ↦ no_damage at first file root es block are d cut | inr wrong ↦ no_body_err at first file root es block are (Damaged d) wrong.1 ]

-- ---- a file's blocks

-- what stands behind a block is a gate and more
behind_block : (after : List (List ℕ)) (gate : ℕ) (rest : List ℕ) → (next : ℕ) × (more : List ℕ) × (open_blocks after ++ gate ∷ rest ≡ next ∷ more)
behind_block [] gate rest = (gate, rest, refl)
behind_block (b ∷ bs) gate rest = (1, (b ++ open_blocks bs) ++ gate ∷ rest, refl)

-- where a block stands in a file that stands for blocks, it is open
pub stands_open : (front : List ℕ) (before after : List (List ℕ)) (root : List ℕ) (es : List Entry) (file : List ℕ) (at : ℕ) → IsFileOf front (before ++ block_bytes root es ∷ after) file → tail_of front before ≡ at → length root ≡ 32 → IsOpenBlock at root es file
stands_open front before after root es file at stands place digest =
    let next = behind_block after stands.gate stands.rest in
    let split : file ≡ (front ++ open_blocks before) ++ (1 ∷ (block_bytes root es ++ (open_blocks after ++ stands.gate ∷ stands.rest))) =
    stands.is
    ∙ ap (λ (l : List ℕ). (front ++ l) ++ stands.gate ∷ stands.rest) (flat_map-append (λ b. 1 ∷ b) before (block_bytes root es ∷ after))
    ∙ ap (λ (l : List ℕ). l ++ stands.gate ∷ stands.rest) (sym (append_assoc front (open_blocks before) ((1 ∷ block_bytes root es) ++ open_blocks after)))
    ∙ append_assoc (front ++ open_blocks before) ((1 ∷ block_bytes root es) ++ open_blocks after) (stands.gate ∷ stands.rest)
    ∙ ap (λ (l : List ℕ). (front ++ open_blocks before) ++ l) (append_assoc (1 ∷ block_bytes root es) (open_blocks after) (stands.gate ∷ stands.rest)) in
    record {
      digest = digest;
      gate = next.0;
      rest = next.1;
      is = ap (λ (l : List ℕ). drop at l) split
          ∙ drop_at (front ++ open_blocks before) (1 ∷ (block_bytes root es ++ (open_blocks after ++ stands.gate ∷ stands.rest))) at place
          ∙ ap (λ (l : List ℕ). 1 ∷ (block_bytes root es ++ l)) next.2;
    }

pub ended : (at first : ℕ) (file : List ℕ) → (get_or file at 0 ≡ 1 → ⊥) → (result : Result (Option BlockAt) FileErr) → IsNextBlock at file first result → GivesEnd result
ended at first file shut (Ok None) is = tt
ended at first file shut (Ok (Some read)) is =
    let e : at + 0 ≡ at = omega arith in
    shut (ap (λ (k : ℕ). get_or file k 0) (sym e) ∙ sym (get_or-drop at file 0 0) ∙ ap (λ (l : List ℕ). get_or l 0 0) is.3.is)
ended at first file shut (Err DiskFault) is = tt
ended at first file shut (Err NoMemory) is = tt
ended at first file shut (Err (NewerFormat found)) is = is
ended at first file shut (Err (Damaged d)) is = shut is.0
