use Rattle.std.proofs.Common.{◌∙◌, ℕ, Option, sym, ap, subst}
use Rattle.merkle_tree.specs.declared.head.Head.{Head}
use Rattle.audit_dump.specs.Audits.{dump_behind}
use Rattle.audit_dump.specs.Claims.{IsLeastUnmet, claims_of}
use Rattle.audit_dump.specs.Ending.{HasItsEntry}
use Rattle.audit_dump.specs.Notes.{AreInOrder, IsErasedRightly}
use Rattle.audit_dump.specs.declared.report.LateCheck.TheVariants as checks
use Rattle.audit_dump.proofs.Ended.{by_late, differ, entries_met, entry_unmet, fault_erasures, fault_id, fault_ledger, fault_notary, fault_purge, fault_times, no_fault, not_all}
use Rattle.audit_dump.proofs.late.first_fault.Goals as goal

pub returns-then-not-has_id : goal.returns-then-not-has_id
returns-then-not-has_id c start items tail held ending =
    let given = c.args.given.now in
    let dump = dump_behind c.args.journals.now.id start items tail in
    by_late given dump c.late.result checks.Id 0 c.late.ensures (fault_id given dump (λ has. differ c.has_id.result c.if-not-has_id.true ((c.has_id.ensures start items tail held).1 has)))

pub returns-in-Some : goal.returns-in-Some
returns-in-Some c start items tail held ending =
    let given = c.args.given.now in
    let dump = dump_behind c.args.journals.now.id start items tail in
    let one = (c.has_id.ensures start items tail held).0 c.if-not-has_id.false in
    let order = subst (λ (n : ℕ). AreInOrder n items) (sym held.marked.first) held.order in
    let wrong = c.in-Some.ensures items order held.marked.marks in
    by_late given dump c.late-in-Some.result checks.Erasures c.in-Some.number c.late-in-Some.ensures (fault_erasures given dump one c.in-Some.number (not_all (IsErasedRightly items) items c.in-Some.number wrong) wrong)

pub returns-then-not-is_base_purged : goal.returns-then-not-is_base_purged
returns-then-not-is_base_purged c start items tail held ending =
    let given = c.args.given.now in
    let dump = dump_behind c.args.journals.now.id start items tail in
    let one = (c.has_id.ensures start items tail held).0 c.if-not-has_id.false in
    let order = subst (λ (n : ℕ). AreInOrder n items) (sym held.marked.first) held.order in
    let two = c.in_default.ensures items order held.marked.marks in
    by_late given dump c.late-then-not-is_base_purged.result checks.Purge c.first.result c.late-then-not-is_base_purged.ensures
    (fault_purge given dump one two c.first.result (λ has. differ c.is_base_purged.result c.if-not-is_base_purged.true ((c.is_base_purged.ensures given start items tail held).1 has)) (c.first.ensures ∙ held.marked.first))

pub returns-then-not-has_ledger_head : goal.returns-then-not-has_ledger_head
returns-then-not-has_ledger_head c start items tail held ending =
    let given = c.args.given.now in
    let dump = dump_behind c.args.journals.now.id start items tail in
    let one = (c.has_id.ensures start items tail held).0 c.if-not-has_id.false in
    let order = subst (λ (n : ℕ). AreInOrder n items) (sym held.marked.first) held.order in
    let two = c.in_default.ensures items order held.marked.marks in
    let three = (c.is_base_purged.ensures given start items tail held).0 c.if-not-is_base_purged.false in
    by_late given dump c.late-then-not-has_ledger_head.result checks.Ledger c.args.ending.now.head.size c.late-then-not-has_ledger_head.ensures
    (fault_ledger given dump one two three c.args.ending.now.head.size (λ has. differ c.has_ledger_head.result c.if-not-has_ledger_head.true ((c.has_ledger_head.ensures start items tail held one ending.head).1 has))
    (ap (λ (h : Head). h.size) ending.head))

pub returns-in-Some-unmet : goal.returns-in-Some-unmet
returns-in-Some-unmet c start items tail held ending =
    let given = c.args.given.now in
    let id = c.args.journals.now.id in
    let dump = dump_behind id start items tail in
    let one = (c.has_id.ensures start items tail held).0 c.if-not-has_id.false in
    let order = subst (λ (n : ℕ). AreInOrder n items) (sym held.marked.first) held.order in
    let two = c.in_default.ensures items order held.marked.marks in
    let three = (c.is_base_purged.ensures given start items tail held).0 c.if-not-is_base_purged.false in
    let four = (c.has_ledger_head.ensures start items tail held one ending.head).0 c.if-not-has_ledger_head.false in
    let least = subst (λ (r : Option ℕ). IsLeastUnmet (claims_of id.0 start items) tail.entries r) c.in-Some-unmet.is ending.unmet in
    let without = entry_unmet id start items tail c.in-Some-unmet.number held.order least in
    by_late given dump c.late-in-Some-unmet.result checks.Times c.in-Some-unmet.number c.late-in-Some-unmet.ensures
    (fault_times given dump one two three four c.in-Some-unmet.number (not_all (HasItsEntry dump) items c.in-Some-unmet.number without) without)

pub returns-then-not-is_notary_list : goal.returns-then-not-is_notary_list
returns-then-not-is_notary_list c start items tail held ending =
    let given = c.args.given.now in
    let id = c.args.journals.now.id in
    let dump = dump_behind id start items tail in
    let one = (c.has_id.ensures start items tail held).0 c.if-not-has_id.false in
    let order = subst (λ (n : ℕ). AreInOrder n items) (sym held.marked.first) held.order in
    let two = c.in_default.ensures items order held.marked.marks in
    let three = (c.is_base_purged.ensures given start items tail held).0 c.if-not-is_base_purged.false in
    let four = (c.has_ledger_head.ensures start items tail held one ending.head).0 c.if-not-has_ledger_head.false in
    let least = subst (λ (r : Option ℕ). IsLeastUnmet (claims_of id.0 start items) tail.entries r) c.in_default-unmet.is ending.unmet in
    let five = entries_met id start items tail least in
    by_late given dump c.late-then-not-is_notary_list.result checks.Notary c.args.ending.now.count c.late-then-not-is_notary_list.ensures
    (fault_notary given dump one two three four five c.args.ending.now.count
    (λ has. differ c.is_notary_list.result c.if-not-is_notary_list.true ((c.is_notary_list.ensures (record { id = id; base = start }) items tail (claims_of id.0 start items) ending).1 has)) ending.count)

pub returns : goal.returns
returns c start items tail held ending =
    let given = c.args.given.now in
    let id = c.args.journals.now.id in
    let dump = dump_behind id start items tail in
    let one = (c.has_id.ensures start items tail held).0 c.if-not-has_id.false in
    let order = subst (λ (n : ℕ). AreInOrder n items) (sym held.marked.first) held.order in
    let two = c.in_default.ensures items order held.marked.marks in
    let three = (c.is_base_purged.ensures given start items tail held).0 c.if-not-is_base_purged.false in
    let four = (c.has_ledger_head.ensures start items tail held one ending.head).0 c.if-not-has_ledger_head.false in
    let least = subst (λ (r : Option ℕ). IsLeastUnmet (claims_of id.0 start items) tail.entries r) c.in_default-unmet.is ending.unmet in
    let five = entries_met id start items tail least in
    let six = (c.is_notary_list.ensures (record { id = id; base = start }) items tail (claims_of id.0 start items) ending).0 c.if-not-is_notary_list.false in
    no_fault given dump one two three four five six
