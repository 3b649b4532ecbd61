-- The parts of a block's head.
use Rattle.std.specs.Int.{to_be_bytes, w32, w64}
use Rattle.std.proofs.Common.{◌≡◌, ℕ, ◌+◌, ◌≤◌, List, ◌∷◌, ◌++◌, length, get_or, take, drop, sym, ◌∙◌, ap, arith, append_assoc, length-append, length-take, length-drop}
use Rattle.std.proofs.lemmas.List.{drop-drop, drop_more, take-append-drop}
use Rattle.std.proofs.lemmas.Nat.{be_bytes_4, be_bytes_8}
use Rattle.ledger_bytes.specs.Fields.{IsBytes}
use Rattle.ledger_bytes.proofs.Fields.{IsBytes-drop, IsBytes-take}
use Rattle.journal_record.specs.Blocks.{body_of, block_bytes}
use Rattle.journal_record.specs.Entry.{Entry}
use Rattle.block_file.specs.Blocks.{count_in, body_len_in, block_head_at, body_at, IsHeadRead, IsOpenBlock}
use Rattle.block_file.specs.declared.block.BlockHead.{BlockHead}

-- a head is the bytes of its numbers and its root
pub head_parts : (head : List ℕ) (count body_len : ℕ) (root : List ℕ) → length head ≡ 44 → IsBytes head → count ≡ count_in head → body_len ≡ body_len_in head → root ≡ drop 8 (drop 4 head)
    → head ≡ to_be_bytes w32 count ++ (to_be_bytes w64 body_len ++ root)
unfolding count_in body_len_in
head_parts head count body_len root size bytes count_is body_len_is root_is =
    let four : to_be_bytes w32 count ≡ take 4 head =
    be_bytes_4 (take 4 head) count (omega (arith, size, length-take 4 head)) (λ i. omega (arith, IsBytes-take 4 head bytes i)) count_is in
    let eight : to_be_bytes w64 body_len ≡ take 8 (drop 4 head) =
    be_bytes_8 (take 8 (drop 4 head)) body_len (omega (arith, size, length-take 8 (drop 4 head), length-drop 4 head)) (λ i. omega (arith, IsBytes-take 8 (drop 4 head) (IsBytes-drop 4 head bytes) i)) body_len_is in
    sym (ap (λ (l : List ℕ). l ++ (to_be_bytes w64 body_len ++ root)) four
    ∙ ap (λ (l : List ℕ). take 4 head ++ (l ++ root)) eight
    ∙ ap (λ (l : List ℕ). take 4 head ++ (take 8 (drop 4 head) ++ l)) root_is
    ∙ ap (λ (l : List ℕ). take 4 head ++ l) (take-append-drop 8 (drop 4 head))
    ∙ take-append-drop 4 head)

-- a head and the body that it names are an open block of the journals that fill the body
pub open_block : (at : ℕ) (file : List ℕ) (head : BlockHead) (es : List Entry) → IsHeadRead at file head → length es ≡ head.count → body_at at file ≡ body_of es → IsOpenBlock at head.root.0 es file
unfolding block_bytes
open_block at file head es read count body =
    let long : at + 45 + head.body_len + 1 ≤ length file = omega (arith, read.body.head.room, read.body.within, read.body_len) in
    let body_size : length (body_of es) ≡ head.body_len =
    sym (ap length body) ∙ omega (arith, length-take (body_len_in (block_head_at at file)) (drop (at + 45) file), length-drop (at + 45) file, long, read.body_len) in
    let count_bytes = to_be_bytes w32 head.count in
    let len_bytes = to_be_bytes w64 head.body_len in
    let digest : length head.root.0 ≡ 32 =
    omega (arith, ap length read.bytes, length-take 44 (drop (at + 1) file), length-drop (at + 1) file, long, length-append count_bytes (len_bytes ++ head.root.0), length-append len_bytes head.root.0) in
    let behind = at + 45 + head.body_len in
    let next = get_or file behind 0 in
    let rest = drop (behind + 1) file in
    let e1 : 44 + (at + 1) ≡ at + 45 = omega arith in
    let e2 : at + 1 + 44 ≡ at + 45 = omega arith in
    let tail : drop (at + 45) file ≡ body_of es ++ next ∷ rest =
    sym (take-append-drop (body_len_in (block_head_at at file)) (drop (at + 45) file))
    ∙ ap (λ (l : List ℕ). l ++ drop (body_len_in (block_head_at at file)) (drop (at + 45) file)) body
    ∙ ap (λ (k : ℕ). body_of es ++ drop k (drop (at + 45) file)) (sym read.body_len)
    ∙ ap (λ (l : List ℕ). body_of es ++ l) (drop-drop head.body_len (at + 45) file ∙ drop_more file behind 0 (omega (arith, long))) in
    let whole : drop (at + 1) file ≡ (count_bytes ++ (len_bytes ++ head.root.0)) ++ (body_of es ++ next ∷ rest) =
    sym (take-append-drop 44 (drop (at + 1) file))
    ∙ ap (λ (l : List ℕ). l ++ drop 44 (drop (at + 1) file)) read.bytes
    ∙ ap (λ (l : List ℕ). (count_bytes ++ (len_bytes ++ head.root.0)) ++ l) (drop-drop 44 (at + 1) file ∙ ap (λ (k : ℕ). drop k file) e2 ∙ tail) in
    record {
      digest = digest;
      gate = next;
      rest = rest;
      is = drop_more file at 0 (omega (arith, long))
          ∙ ap (λ (g : ℕ). g ∷ drop (at + 1) file) read.gate
          ∙ ap (λ (l : List ℕ). 1 ∷ l) (whole
          ∙ simp append_assoc
          (ap (λ (k : ℕ). to_be_bytes w32 k ++ (len_bytes ++ (head.root.0 ++ (body_of es ++ (next ∷ rest))))) (sym count)
          ∙ ap (λ (k : ℕ). to_be_bytes w32 (length es) ++ (to_be_bytes w64 k ++ (head.root.0 ++ (body_of es ++ (next ∷ rest))))) (sym body_size)));
    }
