use Rattle.std.proofs.Common.{Some, None, sym, ap, ◌∙◌}
use Rattle.journal_record.specs.Entry.{who_digest_of}
use Rattle.ledger_model.specs.Getting.{damage}
use Rattle.batch_committer.proofs.GetLaws.{occulted_as}
use Rattle.batch_committer.proofs.getting.occulted_reply.Goals as goal

pub returns-in-Some : goal.returns-in-Some
returns-in-Some c =
    let header = c.args.header.now in
    let is = c.damage.ensures ∙ ap (damage header.who_digest) (c.who_digest.ensures ∙ ap who_digest_of c.deref.ensures.value) in
    occulted_as header c.args.who.items (Some c.in-Some.refusal) (sym c.in-Some.is ∙ is)

pub returns-in-None : goal.returns-in-None
returns-in-None c =
    let header = c.args.header.now in
    let is = c.damage.ensures ∙ ap (damage header.who_digest) (c.who_digest.ensures ∙ ap who_digest_of c.deref.ensures.value) in
    let said = occulted_as header c.args.who.items None (sym c.in-None.is ∙ is) in
    cc (said, c.encode.ensures.bytes, c.of.ensures)
