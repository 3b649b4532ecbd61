use Rattle.std.proofs.Common.{[], refl, rules}
use Rattle.ledger_io.proofs.Seeing.{seen_none, piece_ends}
use Rattle.ledger_io.proofs.window.Window.fill.Goals as goal

pub loop-self-init : goal.loop-self-init
loop-self-init g c = record { faults = refl; seen = ([], seen_none _ c.args.self.now (search (rules, c.self.invariant, c.self.view_is))) }

pub returns-in-Err-clause-enough : goal.returns-in-Err-clause-enough
returns-in-Err-clause-enough g c =
    let state = g.S.Source.state in
    piece_ends (state c.args.source.now) (state c.loop-self.source) (state c.read_piece.new.source) c.args.want c.read_piece.new.self c.in-Err.e c.loop-self.invariant.faults c.in-Err.ensures.errors
