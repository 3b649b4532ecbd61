use Rattle.std.proofs.Common.{◌≡◌, ◌+◌, ◌%◌, ap, sym, ◌∙◌}
use Rattle.ledger_disk.specs.Generator.{next_draw}
use Rattle.ledger_soak.specs.Tasks.{drawn, state_after, drawn_length}
use Rattle.ledger_soak.proofs.DrawLaws.{state_then}
use Rattle.ledger_soak.proofs.task.draw_record.Goals as goal

pub returns-clause-state : goal.returns-clause-state
unfolding state_after
returns-clause-state c x is =
    let first : c.below.new.self.state ≡ next_draw (next_draw x) = c.below.ensures.state ∙ ap next_draw is in
    let second : c.below-clue.new.self.state ≡ next_draw (next_draw (next_draw x)) = c.below-clue.ensures.state ∙ ap next_draw first in
    let third : c.below-length.new.self.state ≡ state_after 4 x = c.below-length.ensures.state ∙ ap next_draw second in
    let long : 1 + c.below-length.result ≡ drawn_length x = ap (λ n. 1 + n) (c.below-length.ensures.drawn ∙ ap (λ s. drawn s % 64) third) in
    c.in_ok-content.ensures.state ∙ ap (λ n. state_after n c.below-length.new.self.state) long
    ∙ ap (state_after (drawn_length x)) third ∙ sym (state_then 4 (drawn_length x) x)
