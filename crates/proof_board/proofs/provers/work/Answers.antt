use Rattle.std.proofs.Common.{refl, arith}
use Rattle.std.specs.Prelude.{IsTrue}
use Rattle.proof_board.specs.Returning.{GoesOn}
use Rattle.proof_board.proofs.Passes.{goes_self, goes_on, goes_list}
use Rattle.proof_board.proofs.provers.work.Goals as goal
use Rattle.proof_board.proofs.provers.work.Goals.{then-yes, else-yes}

pub loop-k-init : goal.loop-k-init
loop-k-init g c = record { board = c.requires; goes = goes_self c.args.pass; few = omega arith; accepted = λ ds list. refl }

pub loop-k-preserved : goal.loop-k-preserved
loop-k-preserved g c =
    let was = c.loop-k.invariant in
    let p = c.args.pass in
    let q = c.loop-k.pass in
    let r = c.prove_drawn-drawn.new.pass in
    let next : GoesOn q r = c.prove_drawn-drawn.ensures.pass.1 in record {
      board = c.prove_drawn-drawn.ensures.pass.0;
      goes = goes_on p q r was.goes next;
      few = elim c.if-yes.branch [ then-yes w ↦ omega (arith, was.few) | else-yes w ↦ omega (arith, was.few) ];
      accepted = λ ds list.
          let yes : IsTrue c.in-Ok.yes = c.in-Ok.ensures.yes (goes_list p q r ds was.goes next list).0 (goes_list p q r ds was.goes next list).1 in
          elim c.if-yes.branch [ then-yes w ↦ omega (arith, was.accepted ds list) | else-yes w ↦ absurd (cc (yes, w.if-yes.false)) ];
    }

pub returns : goal.returns
returns g c =
    let was = c.loop-k.invariant in record {
      board = was.board;
      goes = was.goes;
      tally = record { accepted = λ ds list. omega (arith, was.accepted ds list); size = c.seen-size.ensures.size };
    }
