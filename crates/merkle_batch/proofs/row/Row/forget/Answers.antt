use Rattle.std.proofs.Common.{ap, sym, ◌∙◌, map, drop}
use Rattle.std.proofs.lemmas.List.{drop-map}
use Rattle.merkle_batch.proofs.row.Row.forget.Goals as goal

pub returns-clause-nodes : goal.returns-clause-nodes
returns-clause-nodes c = ap (map (λ d. d.0)) c.keep_from.ensures.items ∙ sym (drop-map (λ d. d.0) c.args.count c.self.inside.nodes.items) ∙ ap (λ t. drop c.args.count t.nodes) c.self.view_is
