-- The head of an open file, and which of two files is taken.
use Rattle.std.specs.Prelude.{Bool, true, false, IsTrue, ◌||◌, ◌==◌}
use Rattle.std.proofs.Common.{◌≡◌, ◌⊎◌, inl, inr, subst, ℕ, ◌+◌, ◌≤◌, ◌<◌, List, [], ◌∷◌, ◌++◌, length, get_or, take, drop, refl, sym, ◌∙◌, ap, arith, length-append, length-drop}
use Rattle.std.specs.Int.{from_be_bytes, w64}
use Rattle.std.proofs.lemmas.Bool.{eqb-true, true≢false}
use Rattle.std.proofs.lemmas.List.{take-append-le, drop-append-le, get_or_append_left}
use Rattle.block_file.specs.File.{open_blocks}
use Rattle.block_file.specs.Head.{HasHead, generation_of, version_in, is_format}
use Rattle.journal_record.specs.Blocks.{written_blocks}
use Rattle.journal_record.specs.Entry.{Entry}
use Rattle.ledger_model.specs.History.{History}
use Rattle.twin_file.proofs.TakeLaws.{taken_once}
use Rattle.twin_file.specs.Twin.{choice, IsTaken, IsPassed}
use Rattle.ledger_open.specs.Standing.{Floor, floor_behind, HasBlocks, StandsFor, IsOld, IsBeside, PairFor}
use Rattle.ledger_open.specs.Heads.{Edition}
use Rattle.ledger_open.proofs.AgainLaws.{flat}

pub one_or_two : (v : ℕ) → IsTrue (is_format v) → (v ≡ 1) ⊎ (v ≡ 2)
one_or_two v known = by (v == 1) refl (v == 2) refl known where
  by : (x : Bool) → (v == 1) ≡ x → (y : Bool) → (v == 2) ≡ y → IsTrue (x || y) → (v ≡ 1) ⊎ (v ≡ 2)
  by true one y two k = inl (eqb-true v 1 one)
  by false one true two k = inr (eqb-true v 2 two)
  by false one false two k = absurd (true≢false (sym k))

module _ (floor : Floor) (edition : Edition) (bs : List (List Entry)) (file : List ℕ) (x : HasBlocks floor edition bs file) where
  tail : List ℕ
  tail = open_blocks (written_blocks floor.root [] bs) ++ x.stands.gate ∷ x.stands.rest

  file_is : file ≡ x.front ++ tail
  unfolding tail
  file_is = flat x.front (written_blocks floor.root [] bs) file x.stands

  some : 1 ≤ length tail
  unfolding tail
  some = omega (arith, length-append (open_blocks (written_blocks floor.root [] bs)) (x.stands.gate ∷ x.stands.rest))

  piece : (at n : ℕ) → at + n ≤ 64 → take n (drop at file) ≡ take n (drop at x.front)
  piece at n le =
      ap (λ (l : List ℕ). take n (drop at l)) file_is ∙ ap (λ (l : List ℕ). take n l) (drop-append-le at x.front tail (omega (arith, le, x.head.size)))
      ∙ take-append-le n (drop at x.front) tail (omega (arith, le, x.head.size, length-drop at x.front))

  byte : (i : ℕ) → i < 64 → get_or file i 0 ≡ get_or x.front i 0
  byte i lt = ap (λ (l : List ℕ). get_or l i 0) file_is ∙ get_or_append_left x.front tail 0 i (omega (arith, lt, x.head.size))

  pub version_is : version_in file ≡ edition.version
  version_is = byte 9 (omega arith) ∙ x.head.version

  pub has_head : HasHead file
  has_head = record {
    is_open = record { long = omega (arith, some, x.head.size, ap length file_is, length-append x.front tail); gate = byte 0 (omega arith) ∙ x.head.gate };
    magic_is = piece 1 8 (omega arith) ∙ x.head.magic_is;
    version = subst (λ (v : ℕ). IsTrue (is_format v)) (sym version_is) x.head.format;
  }

  pub generation_is : generation_of file ≡ edition.number
  generation_is = ap (λ (l : List ℕ). from_be_bytes w64 l) (piece 10 8 (omega arith)) ∙ x.head.generation_is

-- ---- which file is taken

pub stands_head : (image : List ℕ) (h : History) (x : StandsFor image h) → HasHead image
stands_head image h x = has_head (floor_behind h x.file.parts.gone) x.file.edition x.file.keeps.blocks image x.file.keeps.file

pub stands_generation : (image : List ℕ) (h : History) (x : StandsFor image h) → generation_of image ≡ x.file.edition.number
stands_generation image h x = generation_is (floor_behind h x.file.parts.gone) x.file.edition x.file.keeps.blocks image x.file.keeps.file

pub stands_version : (image : List ℕ) (h : History) (x : StandsFor image h) → version_in image ≡ x.file.edition.version
stands_version image h x = version_is (floor_behind h x.file.parts.gone) x.file.edition x.file.keeps.blocks image x.file.keeps.file

passes : (x : Bool) (taken : ℕ) (file : List ℕ) → IsPassed false taken file → IsPassed x taken file
passes x taken file (inl shut) = inl shut
passes true taken file (inr older) = inr (older.0, omega (arith, older.1))
passes false taken file (inr older) = inr older

old_passes : (generation : ℕ) (file : List ℕ) → IsOld generation file → IsPassed false generation file
old_passes generation file (inl short) = inl (inl short)
old_passes generation file (inr older) = inr (older.0, older.2)

pub beside_passes : (h : History) (x : Bool) (taken : Edition) (file : List ℕ) → IsBeside h taken file → IsPassed x taken.number file
beside_passes h x taken file (inl none) = inl (inl (omega (arith, none)))
beside_passes h x taken file (inr (inl past)) = passes x taken.number file past.1
beside_passes h x taken file (inr (inr old)) = passes x taken.number file (old_passes taken.number file old.1)

-- the file that a pair stands by is the one that opening takes
pub pair_takes : (a b : List ℕ) (h : History) (p : PairFor a b h) → IsTaken p.in_a a b
pair_takes a b h p = record {
  head = stands_head (choice p.in_a a b) h p.stands;
  other = subst (λ (n : ℕ). IsPassed p.in_a n (choice p.in_a b a)) (sym (stands_generation (choice p.in_a a b) h p.stands)) (beside_passes h p.in_a p.stands.file.edition (choice p.in_a b a) p.beside);
}

pub taken_is : (x : Bool) (a b : List ℕ) (h : History) → IsTaken x a b → (p : PairFor a b h) → x ≡ p.in_a
taken_is x a b h t p = taken_once a b x p.in_a t (pair_takes a b h p)
