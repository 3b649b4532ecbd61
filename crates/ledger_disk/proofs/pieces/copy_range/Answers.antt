use Rattle.std.proofs.Common.{◌+◌, ◌-◌, ◌++◌, ◌∙◌, ap, arith, ℕ, List, get_or, take, drop}
use Rattle.ledger_disk.proofs.Settling.{range_inside, range_outside}
use Rattle.ledger_disk.proofs.pieces.copy_range.Goals as goal

pub returns-clause-inside : goal.returns-clause-inside
returns-clause-inside c =
    let at = c.min-begin.result in
    let end = c.min-begin.result + c.min.result in
    let stable = c.args.stable.now in
    λ i from to.
    ap (λ (l : List ℕ). get_or (take at stable ++ (l ++ drop (end - at) (drop at stable))) i 0) c.copy_from_slice.ensures.after
    ∙ range_inside c.args.range.0 c.args.range.1 at end stable c.args.bytes.now i c.requires (omega (arith, c.min-begin.ensures)) (omega (arith, c.min-begin.ensures, c.min.ensures)) from to

pub returns-clause-outside : goal.returns-clause-outside
returns-clause-outside c =
    let at = c.min-begin.result in
    let end = c.min-begin.result + c.min.result in
    let stable = c.args.stable.now in
    λ i outside.
    ap (λ (l : List ℕ). get_or (take at stable ++ (l ++ drop (end - at) (drop at stable))) i 0) c.copy_from_slice.ensures.after
    ∙ range_outside c.args.range.0 c.args.range.1 at end stable c.args.bytes.now i c.requires (omega (arith, c.min-begin.ensures)) (omega (arith, c.min-begin.ensures, c.min.ensures)) outside
