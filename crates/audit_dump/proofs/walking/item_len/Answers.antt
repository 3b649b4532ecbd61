use Rattle.std.proofs.Common.{◌∙◌, sym, ap, subst, arith, length}
use Rattle.ledger_bytes.specs.Fields.{left_from}
use Rattle.journal_record.specs.Items.{item_at}
use Rattle.audit_dump.specs.Walking.{HasItem}
use Rattle.audit_dump.proofs.Moving.{item_near_places}
use Rattle.audit_dump.proofs.Walks.{whole_item, part_item, broken_there}
use Rattle.audit_dump.proofs.walking.item_len.Goals as goal

pub returns-in-Ok-end-clause-begins : goal.returns-in-Ok-end-clause-begins
returns-in-Ok-end-clause-begins c =
    whole_item c.args.bytes.now c.in-Ok.field-0 c.take_record.new.reader (λ i. omega (arith, c.type_inv.bytes i)) (ap item_at (sym c.new-reader.ensures) ∙ c.in-Ok.ensures) (sym c.end.ensures ∙ c.in-Ok-end.is)

pub returns-in-Ok-end-clause-bytes : goal.returns-in-Ok-end-clause-bytes
returns-in-Ok-end-clause-bytes c = λ i. omega (arith, c.type_inv.bytes i)

pub returns-in-Err-end-clause-begins : goal.returns-in-Err-end-clause-begins
returns-in-Err-end-clause-begins c =
    subst (λ n. HasItem c.args.bytes.now n) (sym c.first_left.ensures)
    (part_item c.args.bytes.now c.in-Ok.field-0 c.take_record.new.reader (λ i. omega (arith, c.type_inv.bytes i)) (ap item_at (sym c.new-reader.ensures) ∙ c.in-Ok.ensures) c.in-Err-end.bad (sym c.end.ensures ∙ c.in-Err-end.is))

pub returns-in-Err-end-clause-bytes : goal.returns-in-Err-end-clause-bytes
returns-in-Err-end-clause-bytes c = λ i. omega (arith, c.type_inv.bytes i)

pub break_at-requires-clause-near : goal.break_at-requires-clause-near
break_at-requires-clause-near c = item_near_places (left_from (length c.args.bytes.now) c.args.bytes.now) c.in-Err.bad (λ i. omega (arith, c.type_inv.bytes i)) (ap item_at (sym c.new-reader.ensures) ∙ c.in-Err.ensures)

pub returns-in-Err-clause-begins : goal.returns-in-Err-clause-begins
returns-in-Err-clause-begins c =
    broken_there c.args.start c.args.bytes.now c.in-Err.bad c.break_at.result (ap item_at (sym c.new-reader.ensures) ∙ c.in-Err.ensures) c.break_at.ensures.bad c.break_at.ensures.place
