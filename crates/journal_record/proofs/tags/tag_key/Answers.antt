use Rattle.std.proofs.Common.{rules, ap, ◌∙◌, sym}
use Rattle.journal_record.specs.Tags.{tag_key_of}
use Rattle.journal_record.proofs.TagLaws.{tag_key_of-tag_proof_of, only_tag_proof_of}
use Rattle.journal_record.proofs.tags.tag_key.Goals as goal

pub returns-then-eq-clause-key : goal.returns-then-eq-clause-key
returns-then-eq-clause-key c = search rules

pub returns-then-eq-clause-found : goal.returns-then-eq-clause-found
returns-then-eq-clause-found c key width is =
    returns-then-eq-clause-key c ∙ (ap (tag_key_of c.args.message.now.0) is ∙ tag_key_of-tag_proof_of key c.args.message.now.0 width)

pub returns-then-eq-clause-only : goal.returns-then-eq-clause-only
returns-then-eq-clause-only c =
    only_tag_proof_of c.args.message.now.0 c.args.proof.now c.in_ok-key.key.now (sym (returns-then-eq-clause-key c))

pub returns-else-eq-clause-key : goal.returns-else-eq-clause-key
returns-else-eq-clause-key c = search rules

pub returns-else-eq-clause-found : goal.returns-else-eq-clause-found
returns-else-eq-clause-found c key width is =
    returns-else-eq-clause-key c ∙ (ap (tag_key_of c.args.message.now.0) is ∙ tag_key_of-tag_proof_of key c.args.message.now.0 width)
