use Rattle.std.proofs.Common.{◌≡◌, ◌-◌, ◌+◌, length, ap, ◌∙◌, arith}
use Rattle.std.specs.Prelude.{min}
use Rattle.clue_lineage.proofs.Made.{chosen}
use Rattle.clue_lineage.proofs.making.chosen_of.Goals as goal

pub returns : goal.returns
returns c =
    let passed : c.saturating_sub.result ≡ c.args.from - (c.args.count - length c.args.numbers.now + 1) = omega (arith, c.saturating_sub.ensures, c.saturating_sub-first.ensures) in
    chosen c.args.numbers.now c.split_at.result.1.now c.split_at-2.result.0.now (c.args.from - (c.args.count - length c.args.numbers.now + 1)) c.min-passed.result c.min.result
    (c.min-passed.ensures ∙ ap (λ k. min k (length c.args.numbers.now)) passed) c.split_at.ensures.back c.min.ensures c.split_at-2.ensures.front
