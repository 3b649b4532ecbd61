use Rattle.std.proofs.Common.{◌≡◌, ◌≤◌, ◌/◌, ◌%◌, length, false, arith}
use Rattle.script_lines.specs.Spellings.{is_dash}
use Rattle.script_lines.proofs.Hexes.{are_bytes}
use Rattle.script_lines.proofs.spellings.is_bytes.Goals as goal

pub returns-then-text-most : goal.returns-then-text-most
returns-then-text-most c =
    let even : length c.args.text.now % 2 ≡ 0 = grind arith in
    let least : 2 ≤ length c.args.text.now = grind arith in
    let few : length c.args.text.now / 2 ≤ c.args.most = grind arith in
    let word : is_dash c.args.text.now ≡ false = cc in
    rw c.has_hex_digits_alone.ensures (are_bytes c.args.most c.args.text.now word least even few)
