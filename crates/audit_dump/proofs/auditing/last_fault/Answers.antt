use Rattle.std.proofs.Common.{◌∙◌, List, sym, ap, subst}
use Rattle.std.specs.Option.{option_map}
use Rattle.ledger_bytes.specs.declared.digest.Digest.{Digest}
use Rattle.audit_dump.specs.Audits.{dump_behind}
use Rattle.audit_dump.specs.Claims.{claims_of}
use Rattle.audit_dump.specs.Reports.{IsEndFault}
use Rattle.audit_dump.specs.Tails.{IsEndingOf}
use Rattle.audit_dump.specs.Told.{fault_of}
use Rattle.audit_dump.specs.declared.claims.Claim.{Claim}
use Rattle.audit_dump.proofs.Audited.{held_on, tail_broken, tail_told}
use Rattle.audit_dump.proofs.auditing.last_fault.Goals as goal

pub returns-in-Ok-clause-told : goal.returns-in-Ok-clause-told
returns-in-Ok-clause-told g c id start items kept =
    let state = g.S.Source.state in
    let journals = c.args.journals.now in
    let over = rw c.in-Ok.is at c.in_ok-ending.ensures.over in
    let named = kept.claims ∙ ap (λ (d : Digest). claims_of d.0 start items) (sym kept.held.id_is) in
    tail_told c.args.given.now id start items journals.claims (state c.args.source.now) (state c.read_tail.new.source) c.args.window.now c.read_tail.new.window c.in-Ok.ending c.first_fault.result c.requires.within (over c.requires.within)
    (λ tail is. subst (λ (d : Digest). IsEndFault c.args.given.now (dump_behind d start items tail) (option_map fault_of c.first_fault.result)) kept.held.id_is
    (c.first_fault.ensures start items tail (held_on id start items journals c.read_tail.new.claims kept) (subst (λ (cs : List Claim). IsEndingOf cs tail c.in-Ok.ending) named is)))

pub returns-in-Err-clause-told : goal.returns-in-Err-clause-told
returns-in-Err-clause-told g c id start items kept =
    let state = g.S.Source.state in
    let over = rw c.in-Err.is at c.in_ok-ending.ensures.over in
    tail_broken c.args.given.now id start items c.args.journals.now.claims (state c.args.source.now) (state c.read_tail.new.source) c.args.window.now c.read_tail.new.window c.in-Err.broken c.requires.within (over c.requires.within)
