use Rattle.std.specs.Prelude.{Bool, ◌||◌}
use Rattle.std.proofs.Common.{rules, sym, ap, ◌∙◌, ◌≡◌, ◌+◌, ℕ, List, take, get_or}
use Rattle.std.proofs.lemmas.List.{take_more}
use Rattle.ledger_disk.specs.Generator.{is_written, covers}
use Rattle.ledger_disk.proofs.Tearing.{is_written-push}
use Rattle.ledger_disk.proofs.torn.is_written.Goals as goal

pub loop-range-preserved : goal.loop-range-preserved
loop-range-preserved c =
    let xs = c.args.ranges.now in
    let k = c.loop-range.range-index in
    let r = get_or xs k (0, 0) in
    let here : c.covers-written.result ≡ covers r c.args.at = search rules in
    let both : (c.loop-range.written || c.covers-written.result) ≡ is_written c.args.at (take (k + 1) xs) =
    ap (λ (b : Bool). b || c.covers-written.result) c.loop-range.invariant ∙ ap (λ (b : Bool). is_written c.args.at (take k xs) || b) here
    ∙ sym (ap (λ (l : List (ℕ × ℕ)). is_written c.args.at l) (take_more xs k (0, 0) c.loop-range-test.true) ∙ is_written-push c.args.at (take k xs) r) in
    both
