use Rattle.std.specs.Prelude.{codes, decimal}
use Rattle.std.proofs.Common.{◌∷◌, [], ap, ◌∙◌}
use Rattle.journal_record.specs.Request.{member_request_digest_of}
use Rattle.ledger_bytes.specs.declared.digest.Digest.{Digest}
use Rattle.script_lines.specs.Words.{hex_of, hex_or_dash}
use Rattle.ledger_soak.specs.Lines.{member_line, line_with, key_of, proof_by}
use Rattle.ledger_soak.proofs.AuditLaws.{ok_and}
use Rattle.ledger_soak.proofs.lines.member_line.Goals as goal

pub returns : goal.returns
unfolding member_line
returns c =
    let k = c.key_of-key.result in
    let i = c.args.id.now.0 in
    let m = c.args.member in
    let message_is = c.member_request_digest-message.ensures
    ∙ ap (λ n. member_request_digest_of i n k.0) c.from.ensures ∙ ap (λ (d : Digest). member_request_digest_of i m d.0) c.key_of-key.ensures in
    ok_and _ _
    (λ line is.
    is ∙ ap (λ n. line_with (codes "member" ∷ decimal n ∷ hex_of k ∷ hex_or_dash c.proof_by.result ∷ [])) c.from-2.ensures
    ∙ ap (λ (d : Digest). line_with (codes "member" ∷ decimal m ∷ hex_of d ∷ hex_or_dash c.proof_by.result ∷ [])) c.key_of-key.ensures
    ∙ ap (λ p. line_with (codes "member" ∷ decimal m ∷ hex_of (key_of m) ∷ hex_or_dash p ∷ [])) (c.proof_by.ensures ∙ ap (proof_by 0) message_is))
    c.line_with.result c.line_with.ensures
