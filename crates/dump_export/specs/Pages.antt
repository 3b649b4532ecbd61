-- A page of the open file.
use Rattle.std.specs.Prelude.{◌≡◌, List, ℕ, take, drop}
use Rattle.dump_export.specs.declared.page.Page.{Page}

-- A page has the bytes of its range of a file, as far as bytes stand there.
-- Example: of a file of 100 bytes the page of 64 bytes at 90 has the last 10.
abbrev pub IsPageOf : Page → List ℕ → Type 0
IsPageOf page file = page.bytes.items ≡ take page.len (drop page.at file)
