use Rattle.std.proofs.Common.{[], ◌∷◌}
use Rattle.script_lines.proofs.Filled.{Begins-more, OnErr-holds}
use Rattle.script_lines.proofs.words.put_words.Goals as goal

pub returns-in_err-put_word-clause-err : goal.returns-in_err-put_word-clause-err
returns-in_err-put_word-clause-err c =
    let more = rw c.in_ok-push.ensures.items at c.in_err-put_word.ensures.err in
    OnErr-holds c.from_residual-in_err-put_word.result
    (Begins-more c.args.out.now.items c.loop-word.out.items (32 ∷ []) c.put_word.new.out.items c.loop-word.invariant.begins more)
