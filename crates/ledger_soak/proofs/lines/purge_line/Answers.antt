use Rattle.std.specs.Prelude.{codes, decimal}
use Rattle.std.proofs.Common.{◌≡◌, ◌++◌, ◌∷◌, [], List, ℕ, ap, ◌∙◌}
use Rattle.journal_record.specs.Request.{purge_request_digest_of}
use Rattle.ledger_bytes.specs.Digests.{digest}
use Rattle.ledger_bytes.specs.declared.digest.Digest.{Digest}
use Rattle.ledger_model.specs.History.{id, root}
use Rattle.script_lines.specs.Words.{hex_of}
use Rattle.ledger_soak.specs.Lines.{purge_line, line_with, given_text, owner_approval}
use Rattle.ledger_soak.proofs.AuditLaws.{ok_and}
use Rattle.ledger_soak.proofs.lines.purge_line.Goals as goal

pub returns : goal.returns
unfolding purge_line
returns c =
    let m = c.purge_request_digest-message.result.0 in
    let r = c.root_below-root.result in
    ok_and _ _
    (λ line is h serves kept there.
    let p = c.args.point in
    let given : c.as_slice.result.now ≡ given_text 0 m ++ owner_approval h p m 2 ++ owner_approval h p m 3 ++ owner_approval h p m 4 =
    c.as_slice.ensures.value ∙ c.in_ok-put_owner-3.ensures h serves
    ∙ ap (λ (l : List ℕ). l ++ owner_approval h p m 4) (c.in_ok-put_owner-2.ensures h serves
    ∙ ap (λ (l : List ℕ). l ++ owner_approval h p m 3) (c.in_ok-put_owner.ensures h serves
    ∙ ap (λ (l : List ℕ). l ++ owner_approval h p m 2) (c.in_ok-put_approval.ensures ∙ ap (λ (l : List ℕ). l ++ given_text 0 m) c.new-given.ensures.items))) in
    let root_is : r ≡ digest (root h p) = c.root_below-root.ensures h serves kept there in
    let message_is : m ≡ purge_request_digest_of (id h) p (root h p) =
    c.purge_request_digest-message.ensures ∙ ap (λ i. purge_request_digest_of i p r.0) (c.id.ensures h serves.stands)
    ∙ ap (λ (d : Digest). purge_request_digest_of (id h) p d.0) root_is in
    is ∙ ap (λ g. line_with (codes "purge" ∷ decimal p ∷ hex_of r ∷ g ∷ [])) given
    ∙ ap (λ (d : Digest). line_with (codes "purge" ∷ decimal p ∷ hex_of d ∷ (given_text 0 m ++ owner_approval h p m 2 ++ owner_approval h p m 3 ++ owner_approval h p m 4) ∷ [])) root_is
    ∙ ap (λ (x : List ℕ). line_with (codes "purge" ∷ decimal p ∷ hex_of (digest (root h p)) ∷ (given_text 0 x ++ owner_approval h p x 2 ++ owner_approval h p x 3 ++ owner_approval h p x 4) ∷ [])) message_is)
    c.line_with.result c.line_with.ensures
