-- How long records, bodies, blocks and roots are.
use Rattle.std.specs.Int.{w32, w64, to_be_bytes}
use Rattle.std.specs.Prelude.{sum_by, nat_le, All}
use Rattle.std.proofs.Common.{◌≡◌, ℕ, zero, suc, ◌+◌, ◌^◌, true, false, cond, List, [], ◌∷◌, ◌++◌, length, get_or, map, take, drop, refl, arith, length-append}
use Rattle.std.proofs.lemmas.List.Sums.{sum_by-cons}
use Rattle.std.proofs.lemmas.List.Elements.{All-map}
use Rattle.sha2.specs.Sha256.{sha256}
use Rattle.sha2.proofs.Facts256.{length-sha256}
use Rattle.tree_model.specs.Tree.{mth, root, root_at, leaf, node}
use Rattle.journal_record.specs.Entry.{Entry}
use Rattle.journal_record.specs.Header.{spelling}
use Rattle.journal_record.proofs.Spelling.{length-spelling}
use Rattle.block_file.specs.declared.block.TheConstants.{BLOCK_HEAD_LEN}
use Rattle.block_file.specs.Places.{record_len}
use Rattle.journal_record.specs.Blocks.{record_bytes, body_of, block_bytes, AreFrom}
use Rattle.journal_record.specs.Records.{IsReadable, AreReadable}

-- a root over leaves that gives 32 bytes
abbrev pub GivesDigests : (List (List ℕ) → List ℕ) → Type 0
GivesDigests root = (xs : List (List ℕ)) → length (root xs) ≡ 32

pub root_at_size : (h : ℕ) (ds : List (List ℕ)) → All (λ d. length d ≡ 32) ds → length (root_at sha256 h ds) ≡ 32
unfolding root_at
root_at_size zero [] all = length-sha256 []
root_at_size zero (d ∷ ds) all = all 0 d (omega arith)
root_at_size (suc h) ds all =
    elim (nat_le (length ds) (2 ^ h)) as (λ v. length (cond v (root_at sha256 h ds) (node sha256 (root_at sha256 h (take (2 ^ h) ds)) (root_at sha256 h (drop (2 ^ h) ds)))) ≡ 32) [
      | true ↦ root_at_size h ds all
      | false ↦ length-sha256 (1 ∷ root_at sha256 h (take (2 ^ h) ds) ++ root_at sha256 h (drop (2 ^ h) ds))
    ]

pub leaves_size : (xs : List (List ℕ)) → All (λ d. length d ≡ 32) (map (leaf sha256) xs)
leaves_size xs = All-map (λ d. length d ≡ 32) (leaf sha256) xs (λ k d lt. length-sha256 (0 ∷ get_or xs k d))

pub mth_size : (xs : List (List ℕ)) → length (mth sha256 xs) ≡ 32
unfolding root
mth_size xs = root_at_size (length (map (leaf sha256) xs)) (map (leaf sha256) xs) (leaves_size xs)

-- a journal's bytes
pub record_sized : (e : Entry) → IsReadable e → length (record_bytes e) ≡ record_len e
record_sized e h =
    let four : length (to_be_bytes w32 (length e.who)) ≡ 4 = refl in
    omega (
      arith,
      length-spelling e.header h.widths,
      h.content,
      four,
      length-append (spelling e.header) (to_be_bytes w32 (length e.who) ++ (e.content ++ e.who)),
      length-append (to_be_bytes w32 (length e.who)) (e.content ++ e.who),
      length-append e.content e.who,
    )

pub body_size : (es : List Entry) → AreReadable es → length (body_of es) ≡ sum_by record_len es
body_size [] h = refl
body_size (e ∷ es) h = omega (arith, length-append (record_bytes e) (body_of es), record_sized e h.0, body_size es h.1, sum_by-cons record_len e es)

-- journals that have their numbers can be read
pub readable : (n : ℕ) (es : List Entry) → AreFrom n es → AreReadable es
readable n [] a = tt
readable n (e ∷ es) a = (record { rules = a.0.rules; widths = a.0.widths; content = a.0.content; who = a.0.who }, readable (n + 1) es a.1)

pub block_size : (root : List ℕ) (es : List Entry) → length root ≡ 32 → AreReadable es → length (block_bytes root es) ≡ BLOCK_HEAD_LEN + sum_by record_len es
unfolding block_bytes
block_size root es size h =
    let four : length (to_be_bytes w32 (length es)) ≡ 4 = refl in
    let eight : length (to_be_bytes w64 (length (body_of es))) ≡ 8 = refl in
    omega (
      arith,
      size,
      four,
      eight,
      body_size es h,
      length-append (to_be_bytes w32 (length es)) (to_be_bytes w64 (length (body_of es)) ++ (root ++ body_of es)),
      length-append (to_be_bytes w64 (length (body_of es))) (root ++ body_of es),
      length-append root (body_of es),
    )
