-- The open file is lent.
use Rattle.std.specs.Borrow.{Lends, MutBor, Fml}
use Rattle.block_file.specs.declared.file.BlockFile.{BlockFile}
use Rattle.block_file.specs.contracts.file.BlockFile.{the_row as file_row}
use Rattle.twin_file.specs.declared.twin.Twin.{Twin}
use Rattle.twin_file.specs.contracts.twin.Twin.{the_row}

-- a `Twin` with another open file
abbrev pub with_file : Twin → BlockFile → Twin
with_file t file = record t { file = file }

-- a call lends the open file of a `Twin`, which has what became of it afterwards
abbrev pub LendsFile : MutBor Twin → MutBor BlockFile → Fml
LendsFile t r = Lends the_row file_row t r (with_file t.now)
