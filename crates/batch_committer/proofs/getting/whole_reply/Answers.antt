use Rattle.std.proofs.Common.{Some, None, refl, sym, ap, ◌∙◌}
use Rattle.journal_record.specs.Entry.{content_digest_of, who_digest_of}
use Rattle.ledger_model.specs.Getting.{damage, who_damage}
use Rattle.batch_committer.proofs.GetLaws.{none_of, whole_as}
use Rattle.batch_committer.proofs.getting.whole_reply.Goals as goal

pub returns-in-Some : goal.returns-in-Some
returns-in-Some c =
    let header = c.args.header.now in
    let first = c.damage.ensures ∙ ap (damage header.content_digest) (c.content_digest.ensures ∙ ap content_digest_of c.deref.ensures.value) in
    whole_as header c.args.content.items c.args.who.items (Some c.in-Some.refusal) (who_damage header c.args.who.items) (sym c.in-Some.is ∙ first) refl

pub returns-in-Some-damage : goal.returns-in-Some-damage
returns-in-Some-damage c =
    let header = c.args.header.now in
    let first = c.damage.ensures ∙ ap (damage header.content_digest) (c.content_digest.ensures ∙ ap content_digest_of c.deref.ensures.value) in
    let second = c.damage-2.ensures ∙ ap (damage header.who_digest) (c.who_digest.ensures ∙ ap who_digest_of c.deref-2.ensures.value) in
    whole_as header c.args.content.items c.args.who.items None (Some c.in-Some-damage.refusal) (sym (none_of c.damage.result c.in_default.not-Some) ∙ first) (sym c.in-Some-damage.is ∙ second)

pub returns : goal.returns
returns c =
    let header = c.args.header.now in
    let first = c.damage.ensures ∙ ap (damage header.content_digest) (c.content_digest.ensures ∙ ap content_digest_of c.deref.ensures.value) in
    let second = c.damage-2.ensures ∙ ap (damage header.who_digest) (c.who_digest.ensures ∙ ap who_digest_of c.deref-2.ensures.value) in
    let said = whole_as header c.args.content.items c.args.who.items None None (sym (none_of c.damage.result c.in_default.not-Some) ∙ first) (sym (none_of c.damage-2.result c.in_default-damage.not-Some) ∙ second) in
    cc (said, c.encode.ensures.bytes, c.of.ensures, c.of-2.ensures)
