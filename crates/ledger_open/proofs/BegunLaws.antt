-- A file as far as it was read, and a block more.
use Rattle.std.specs.Prelude.{sum_by, Option, Some, None}
use Rattle.std.proofs.Common.{◌≡◌, ◌≢◌, ℕ, ◌+◌, ◌≤◌, List, [], ◌∷◌, ◌++◌, length, get_or, take, drop, refl, sym, ◌∙◌, ap, subst, arith, append_assoc, append-nil, length-append, length-take, length-drop, take-append-drop, get_or-take}
use Rattle.std.proofs.lemmas.List.{drop_at, get_or-drop, take-append-le, drop-append-le, drop-take}
use Rattle.std.proofs.lemmas.List.Concat.{flat_map-append}
use Rattle.block_file.specs.declared.block.TheConstants.{BLOCK_HEAD_LEN}
use Rattle.block_file.specs.Blocks.{IsOpenBlock}
use Rattle.block_file.specs.File.{IsFileOf, open_blocks}
use Rattle.block_file.specs.Head.{HasHead, digest_of, number_at}
use Rattle.journal_record.specs.Blocks.{block_bytes, leaves_of, IsBlock, written_blocks}
use Rattle.journal_record.specs.Entry.{Entry}
use Rattle.ledger_model.specs.History.{journals_of}
use Rattle.pseudo_genesis.specs.Bases.{base_spelling}
use Rattle.pseudo_genesis.specs.declared.base.Base.{Base}
use Rattle.ledger_open.specs.Damages.{Begun, IsReadTo}
use Rattle.ledger_open.specs.Heads.{IsFront, edition_of}
use Rattle.ledger_open.specs.Opening.{HasFile}
use Rattle.block_file.specs.Places.{body_from, record_len}
use Rattle.ledger_open.specs.Standing.{Floor, ground, floor_of, floor_from}
use Rattle.ledger_open.specs.Starts.{IsStart, base_in}
use Rattle.ledger_open.proofs.AgainLaws.{number_front}
use Rattle.ledger_open.proofs.GrowLaws.{written_more, blocks_more}
use Rattle.ledger_open.proofs.SizeLaws.{GivesDigests, block_size, readable}

-- a file whose head names a base of this length
module _ (file : List ℕ) (h : HasHead file) (base : List ℕ) (len : number_at 18 file ≡ length base) (long : 64 + length base ≤ length file)
    (digest : length base ≢ 0 → take 32 (drop 26 file) ≡ digest_of base) (is : take (length base) (drop 64 file) ≡ base) where
  front : List ℕ
  front = take (64 + length base) file

  rest : List ℕ
  rest = drop (64 + length base) file

  whole : front ++ rest ≡ file
  unfolding front rest
  whole = take-append-drop (64 + length base) file

  size : length front ≡ 64 + length base
  unfolding front
  size = omega (arith, length-take (64 + length base) file, long)

  number_same : (at : ℕ) → at + 8 ≤ 64 → number_at at front ≡ number_at at file
  number_same at le = sym (number_front at front rest (omega (arith, le, size))) ∙ ap (number_at at) whole

  piece_same : (at n : ℕ) → at + n ≤ 64 → take n (drop at front) ≡ take n (drop at file)
  piece_same at n le =
      sym (take-append-le n (drop at front) rest (omega (arith, le, size, length-drop at front)))
      ∙ ap (λ (l : List ℕ). take n l) (sym (drop-append-le at front rest (omega (arith, le, size)))) ∙ ap (λ (l : List ℕ). take n (drop at l)) whole

  is_front : IsFront (edition_of file) base front
  unfolding front
  is_front = record {
    size = size;
    gate = get_or-take (64 + length base) file 0 0 (omega arith) ∙ h.is_open.gate;
    magic_is = piece_same 1 8 (omega arith) ∙ h.magic_is;
    version = get_or-take (64 + length base) file 9 0 (omega arith);
    format = h.version;
    generation_is = number_same 10 (omega arith);
    base_len = number_same 18 (omega arith) ∙ len;
    digest = λ some. piece_same 26 32 (omega arith) ∙ digest some;
    base_is = drop-take 64 (length base) file ∙ is;
  }

  -- in front of its first gate
  begun_front : (floor : Floor) → base ≡ floor.base → Begun floor file [] (64 + length base)
  begun_front floor same = record {
    edition = edition_of file;
    front = front;
    head = subst (λ (b : List ℕ). IsFront (edition_of file) b front) same is_front;
    lawful = tt;
    rest = rest;
    is = sym whole ∙ ap (λ (l : List ℕ). l ++ rest) (sym (append-nil front));
    place = ap length (append-nil front) ∙ size;
  }

-- a file that begins so, in front of its first gate
pub begun_start : (file : List ℕ) (start : Option Base) → IsStart file start → Begun (floor_from start) file [] (64 + length (floor_from start).base)
begun_start file None s = begun_front file s.0 [] s.1 (omega (arith, s.0.is_open.long)) (λ some. absurd (some refl)) refl ground refl
begun_start file (Some b) s =
    let all : length (base_in file) ≡ number_at 18 file = omega (arith, length-take (number_at 18 file) (drop 64 file), length-drop 64 file, s.1.there, s.0.is_open.long) in
    let len : number_at 18 file ≡ length (base_spelling b) = sym all ∙ ap length s.3 in
    begun_front file s.0 (base_spelling b) len (omega (arith, len, s.1.there, s.0.is_open.long)) (λ some. s.1.digest ∙ ap digest_of s.3) (ap (λ (n : ℕ). take n (drop 64 file)) (sym len) ∙ s.3) (floor_of b) refl

pub readto_start : (file : List ℕ) (start : Option Base) → IsStart file start → IsReadTo file start [] (64 + length (floor_from start).base)
readto_start file start s = record { begins = s; begun = begun_start file start s; legal = λ some. absurd (some refl) }

-- a block more was read
pub begun_more : (floor : Floor) → GivesDigests floor.root → (file : List ℕ) (ks : List (List Entry)) (at : ℕ) (root : List ℕ) (es : List Entry) → Begun floor file ks at → IsOpenBlock at root es file → root ≡ floor.root (leaves_of (journals_of ks) ++ leaves_of es)
    → IsBlock (floor.first + length (journals_of ks)) es → Begun floor file (ks ++ es ∷ []) (body_from at + sum_by record_len es)
begun_more floor digests file ks at root es b o root_is block = record {
  edition = b.edition;
  front = b.front;
  head = b.head;
  lawful = blocks_more floor.first ks es b.lawful block;
  rest = o.gate ∷ o.rest;
  is = b.is ∙ ap (λ (l : List ℕ). (b.front ++ open_blocks (written_blocks floor.root [] ks)) ++ l) rest_is ∙ sym (append_assoc (b.front ++ open_blocks (written_blocks floor.root [] ks)) (1 ∷ block_bytes own es) (o.gate ∷ o.rest)) ∙ ap (λ (l : List ℕ). l ++ o.gate ∷ o.rest) front_is;
  place = sym (ap length front_is) ∙ length-append (b.front ++ open_blocks (written_blocks floor.root [] ks)) (1 ∷ block_bytes own es) ∙ omega (arith, b.place, block_len);
} where
  own : List ℕ
  own = floor.root (leaves_of (journals_of ks) ++ leaves_of es)

  block_len : length (block_bytes own es) ≡ BLOCK_HEAD_LEN + sum_by record_len es
  block_len = block_size own es (digests (leaves_of (journals_of ks) ++ leaves_of es)) (readable (floor.first + length (journals_of ks)) es block.entries)

  rest_is : b.rest ≡ (1 ∷ block_bytes own es) ++ (o.gate ∷ o.rest)
  rest_is = sym (ap (λ (l : List ℕ). drop at l) b.is ∙ drop_at (b.front ++ open_blocks (written_blocks floor.root [] ks)) b.rest at b.place) ∙ o.is ∙ ap (λ (r : List ℕ). 1 ∷ (block_bytes r es ++ o.gate ∷ o.rest)) root_is

  front_is : (b.front ++ open_blocks (written_blocks floor.root [] ks)) ++ (1 ∷ block_bytes own es) ≡ b.front ++ open_blocks (written_blocks floor.root [] (ks ++ es ∷ []))
  front_is =
      append_assoc b.front (open_blocks (written_blocks floor.root [] ks)) (1 ∷ block_bytes own es)
      ∙ ap (λ (l : List ℕ). b.front ++ l) (ap (λ (l : List ℕ). open_blocks (written_blocks floor.root [] ks) ++ l) (sym (append-nil (1 ∷ block_bytes own es)))
      ∙ sym (flat_map-append (λ (x : List ℕ). 1 ∷ x) (written_blocks floor.root [] ks) (block_bytes own es ∷ [])) ∙ ap open_blocks (sym (written_more floor.root [] ks es)))

-- the next gate is shut: the file has the blocks that were read
pub begun_ends : (start : Option Base) (file : List ℕ) (ks : List (List Entry)) (at : ℕ) → Begun (floor_from start) file ks at → get_or file at 0 ≢ 1 → at + 1 ≤ length file → HasFile start ks file
begun_ends start file ks at b shut inside = (b.edition, record { front = b.front; head = b.head; lawful = b.lawful; stands = by_rest b.rest b.is }) where
  by_rest : (rest : List ℕ) → file ≡ (b.front ++ open_blocks (written_blocks (floor_from start).root [] ks)) ++ rest → IsFileOf b.front (written_blocks (floor_from start).root [] ks) file
  by_rest [] is = absurd (omega (arith, inside, b.place, ap length is, length-append (b.front ++ open_blocks (written_blocks (floor_from start).root [] ks)) []))
  by_rest (g ∷ gs) is = record {
    gate = g;
    rest = gs;
    is = is;
    shut = λ one. shut (gate_at ∙ one);
  } where
    gate_at : get_or file at 0 ≡ g
    gate_at = let e : at ≡ at + 0 = omega arith in ap (λ (k : ℕ). get_or file k 0) e ∙ sym (get_or-drop at file 0 0)
        ∙ ap (λ (l : List ℕ). get_or l 0 0) (ap (λ (l : List ℕ). drop at l) is ∙ drop_at (b.front ++ open_blocks (written_blocks (floor_from start).root [] ks)) (g ∷ gs) at b.place)
