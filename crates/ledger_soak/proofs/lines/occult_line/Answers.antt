use Rattle.std.specs.Prelude.{codes}
use Rattle.std.proofs.Common.{◌≡◌, ◌++◌, ◌∷◌, [], List, ℕ, ap, ◌∙◌}
use Rattle.ledger_soak.specs.Lines.{occult_line, given_text}
use Rattle.ledger_soak.proofs.AuditLaws.{ok_and}
use Rattle.ledger_soak.proofs.lines.occult_line.Goals as goal

pub returns : goal.returns
unfolding occult_line
returns c =
    let m = c.occult_request_digest-message.result.0 in
    let given : c.as_slice.result.now ≡ given_text 0 m ++ codes "," ++ given_text 1 m =
    c.as_slice.ensures.value ∙ c.in_ok-put_approval-2.ensures
    ∙ ap (λ (l : List ℕ). l ++ given_text 1 m) (c.in_ok-push.ensures.items ∙ ap (λ (l : List ℕ). l ++ 44 ∷ []) (c.in_ok-put_approval.ensures ∙ ap (λ (l : List ℕ). l ++ given_text 0 m) c.new-given.ensures.items)) in
    ok_and _ _ (λ line is h serves. cc (is, given, c.kept_leaf-leaf.ensures h serves, c.id.ensures h serves.stands, c.occult_request_digest-message.ensures)) c.line_with.result c.line_with.ensures
