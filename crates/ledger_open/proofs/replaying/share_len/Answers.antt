use Rattle.std.proofs.Common.{sym, ◌∙◌, subst, arith, get_or, ℕ, ◌≡◌, ◌+◌, true}
use Rattle.ledger_open.specs.Damages.{CanShare}
use Rattle.std.specs.Prelude.{take, length}
use Rattle.ledger_open.proofs.TakeLaws.{all_share, max_share, apart, at_any, all_gather}
use Rattle.ledger_open.proofs.replaying.share_len.Goals as goal

pub returns-then-not-gathers-clause-share : goal.returns-then-not-gathers-clause-share
returns-then-not-gathers-clause-share c es h =
    subst (λ (n : ℕ). CanShare (take n es)) (sym c.max.ensures) (max_share c.loop-index.index c.args.records.now es c.loop-index.invariant c.requires h)

pub returns-then-not-gathers-clause-apart : goal.returns-then-not-gathers-clause-apart
returns-then-not-gathers-clause-apart c less es h can =
    apart c.loop-index.index c.args.records.now (get_or c.args.records.now c.loop-index.index _) c.loop-index-test.true (at_any _ _ _ _ c.loop-index-test.true)
    (sym c.gathers.ensures ∙ c.if-not-gathers.true) (omega (arith, less, c.max.ensures)) es h (subst (λ (n : ℕ). CanShare (take (n + 1) es)) c.max.ensures can)

pub returns-clause-share : goal.returns-clause-share
returns-clause-share c es h =
    let all : c.loop-index.index ≡ length c.args.records.now = omega (arith, c.loop-index-test.false, c.loop-index.auto.index-end) in
    all_share (length c.args.records.now) c.args.records.now es (subst (λ (n : ℕ). all_gather (take n c.args.records.now) ≡ true) all c.loop-index.invariant) h
