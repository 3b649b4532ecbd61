use Rattle.std.proofs.Common.{◌≡◌, ◌+◌, ◌-◌, ◌*◌, take, drop, sym, ap, ◌∙◌, arith}
use Rattle.tree_model.proofs.PlacedPieces.{get_or-cut}
use Rattle.audit_core.proofs.pieces.piece_at.Goals as goal

pub returns-clause-is : goal.returns-clause-is
returns-clause-is c =
    let wide : (c.args.n * c.args.width + c.args.width) - c.args.n * c.args.width ≡ c.args.width = omega arith in
    ap (λ j. take j (drop (c.args.n * c.args.width) c.args.flat.now)) wide ∙ sym (get_or-cut c.args.n c.args.width c.args.flat.now c.requires.within)
