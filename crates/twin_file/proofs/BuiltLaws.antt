-- A file that is written behind its front, block by block.
use Rattle.std.specs.Prelude.{Bool, IsTrue, Option, Some, Result, Ok, Err, IfOk, OnOk}
use Rattle.std.proofs.Common.{◌≡◌, ℕ, ◌+◌, List, [], ◌∷◌, length, sym, ◌∙◌, arith, length-append}
use Rattle.block_file.specs.declared.file.BlockFile.{BlockFile}
use Rattle.block_file.specs.declared.failure.FileErr.{FileErr}
use Rattle.block_file.specs.File.{IsVeiled, whole_file, open_blocks}
use Rattle.block_file.proofs.VeilLaws.{veiled_shut}
use Rattle.ledger_disk.specs.Disk.{State}
use Rattle.twin_file.specs.Calls.{IsBegun}
use Rattle.block_file.specs.Head.{front_of}
use Rattle.block_file.specs.FileView.{gate_of, HasTail}
use Rattle.twin_file.proofs.HeadLaws.{tail_size}
use Rattle.twin_file.specs.Places.{IsBuilt}

-- a file that was begun
pub begun : (tells : Bool) (generation : ℕ) (base : List ℕ) (s : State) (told : Option ℕ) (made : Result BlockFile FileErr) → OnOk made (IsTrue tells → s.seen ≡ whole_file (front_of 0 generation base) [])
    → (IsTrue tells → IsVeiled s) → IfOk made (λ file. gate_of file ≡ 64 + length base) → IfOk made (HasTail told) → IfOk made (λ file. IsBegun tells generation base s told (Some file))
begun tells generation base s told (Ok file) seen veiled place has = record {
  shut = λ t image left. veiled_shut s image (veiled t) left;
  seen = λ t. record { seen = seen t; ends = tail_size 0 generation base ∙ sym place };
  begun = (place, has);
}
begun tells generation base s told (Err e) seen veiled place has = tt

-- a file of one block
pub made : (block bytes : List ℕ) (file : BlockFile) → bytes ≡ whole_file (front_of 1 1 []) (block ∷ []) → gate_of file ≡ 65 + length block → IsBuilt (front_of 1 1 []) (block ∷ []) bytes file
made block bytes file seen place =
    let front = front_of 1 1 [] in
    let size : length front ≡ 64 = omega (arith, tail_size 1 1 [], length-append front []) in
    let one : length (open_blocks (block ∷ [])) ≡ 1 + length block = omega (arith, length-append (1 ∷ block) []) in
    record { seen = seen; ends = omega (arith, size, one, place, length-append front (open_blocks (block ∷ []))) }
