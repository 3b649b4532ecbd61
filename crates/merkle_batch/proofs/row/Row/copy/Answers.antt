use Rattle.std.proofs.Common.{map, take, drop, ap, sym, ◌∙◌, ◌-◌}
use Rattle.std.proofs.lemmas.List.{take-map, drop-map}
use Rattle.merkle_batch.proofs.Copying.{on_if}
use Rattle.merkle_batch.proofs.row.Row.copy.Goals as goal

pub returns : goal.returns
returns c =
    let nodes = c.deref.result.now in
    on_if c.of.result (λ row is.
    is ∙ sym (take-map (λ d. d.0) (c.args.to - c.args.from) (drop c.args.from nodes)) ∙ ap (take (c.args.to - c.args.from)) (sym (drop-map (λ d. d.0) c.args.from nodes))
    ∙ ap (λ t. take (c.args.to - c.args.from) (drop c.args.from t)) (ap (map (λ d. d.0)) c.deref.ensures.value ∙ ap (λ r. r.nodes) c.self.view_is))
    c.of.ensures
