use Rattle.std.proofs.Common.{◌≡◌, ◌++◌, ◌∷◌, [], ℕ, sym, ap, subst, ◌∙◌}
use Rattle.journal_record.specs.Items.{Item}
use Rattle.ledger_bytes.specs.declared.digest.Digest.{Digest}
use Rattle.dump_model.specs.Checks.{is_erased}
use Rattle.audit_dump.specs.Claims.{claims_of}
use Rattle.audit_dump.specs.Notes.{AreInOrder}
use Rattle.audit_dump.proofs.Noted.{noted, order_then}
use Rattle.audit_dump.proofs.journals.Journals.note.Goals as goal

pub returns : goal.returns
returns c id start items behind =
    let item = c.args.journal.now in
    let more = items ++ item ∷ [] in
    let same : item.header ≡ c.journal.inside.header = sym (ap (λ (x : Item). x.header) c.journal.view_is) in
    let erased : is_erased item ≡ c.is_missing.result = sym c.is_missing.ensures in
    let order = subst (λ (n : ℕ). AreInOrder n more) (sym behind.counted.marked.first) (order_then start items item behind.order behind.next) in
    let marks = c.in_ok-mark.ensures items item order same erased behind.counted.marked.marks in
    let named = ap (λ (d : Digest). claims_of d.0 start items) behind.id_is in
    let claims = c.in_ok-claim.ensures start items item same behind.standing behind.next behind.order (behind.counted.claims ∙ sym named) in
    noted id start items item c.args.self.now c.own_with.result c.look_for.new.purge c.mark.new.self c.claim.new.claims behind
    (c.own_with.ensures start items item same behind.own) (c.look_for.ensures start items item same behind.purge) marks (claims ∙ ap (λ (d : Digest). claims_of d.0 start more) behind.id_is)
