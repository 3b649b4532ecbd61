use Rattle.std.proofs.Common.{subst}
use Rattle.std.specs.Prelude.{All}
use Rattle.std.proofs.lemmas.List.{take_all}
use Rattle.std.proofs.lemmas.List.Elements.{All-nil, All-more, All-map}
use Rattle.ledger_bytes.specs.declared.digest.Digest.{Digest}
use Rattle.proof_board.specs.History.{IsWide}
use Rattle.proof_board.proofs.history.are_wide.Goals as goal

pub loop-digest-init : goal.loop-digest-init
loop-digest-init c = All-nil (λ (d : Digest). IsWide d.0)

pub loop-digest-preserved : goal.loop-digest-preserved
loop-digest-preserved c = All-more (λ (d : Digest). IsWide d.0) c.args.digests.now c.loop-digest.digest-index _ c.loop-digest-test.true c.loop-digest.invariant c.is_wide.ensures

pub returns : goal.returns
returns c =
    let all = take_all c.loop-digest.digest-index c.args.digests.now c.loop-digest-test.false in
    All-map IsWide (λ (d : Digest). d.0) c.args.digests.now (subst (All (λ (d : Digest). IsWide d.0)) all c.loop-digest.invariant)
