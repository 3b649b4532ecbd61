use Rattle.std.proofs.Common.{◌≡◌, ◌+◌, ◌++◌, ◌∷◌, [], length, ap, ◌∙◌, arith, length-append}
use Rattle.proof_board.specs.History.{Digests, all_leaves}
use Rattle.proof_board.specs.Words.{shown_by, history_of, waiting_of}
use Rattle.proof_board.proofs.Fronts.{leaves_push}
use Rattle.ledger_cli.specs.Boards.{published_size, list_size}
use Rattle.ledger_cli.proofs.posting.Posting.publish_to.Goals as goal

pub returns-in-Ok-publish-clause-published : goal.returns-in-Ok-publish-clause-published
returns-in-Ok-publish-clause-published g c =
    let old = c.args.self.now in
    let was = shown_by old.writer in
    let batch : Digests = c.in-Ok.stretch.leaves in
    let waits : waiting_of c.add_stretch.new.self ≡ batch = c.in-Ok-add_stretch.ensures.ok ∙ ap (λ (l : Digests). l ++ batch) c.requires.none in
    let log : history_of c.publish.new.self ≡ history_of old.writer ++ batch ∷ [] =
    c.in-Ok-publish.ensures.ok.0 ∙ (λ i. (c.in-Ok-add_stretch.ensures.shown i).at.log ++ waits i ∷ []) in
    let base : (shown_by c.publish.new.self).base ≡ was.base = c.in-Ok-publish.ensures.same.0 ∙ (λ i. (c.in-Ok-add_stretch.ensures.shown i).base) in
    let all : length (all_leaves (was.at.log ++ batch ∷ [])) ≡ length (all_leaves was.at.log) + length batch = ap length (leaves_push was.at.log batch) ∙ length-append (all_leaves was.at.log) batch in
    let to : list_size was.base (was.at.log ++ batch ∷ []) ≡ c.args.size = (let sized : old.size ≡ published_size was = old.sized in let count = c.in-Ok.ensures.count in omega (arith, all, sized, count, c.requires.more)) in record {
      batch = batch;
      history = log;
      size_is = (λ i. list_size (base i) (log i)) ∙ to;
      none_waits = c.in-Ok-publish.ensures.ok.1;
      leaves = λ ds stands. c.in-Ok.ensures.leaves ds stands;
    }
