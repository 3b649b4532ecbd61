use Rattle.std.proofs.Common.{sym, subst}
use Rattle.std.proofs.lemmas.List.{nil_from_length}
use Rattle.ledger_disk.specs.Disk.{State}
use Rattle.ledger_open.specs.Pieces.{IsReadAs}
use Rattle.survivor_set.proofs.Kept.{keeps_none, keeps_more}
use Rattle.survivor_set.proofs.keeping.+keep_all.Goals as goal

pub returns-in_default-clause-kept : goal.returns-in_default-clause-kept
returns-in_default-clause-kept g t c = λ tells h r. keeps_none h c.args.point c.args.ns.now c.args.fields.now (nil_from_length c.args.ns.now c.in_default.ensures.cases)

pub returns-clause-kept : goal.returns-clause-kept
returns-clause-kept g t c = λ tells h r.
    let after = subst (λ (s : State). IsReadAs c.args.book.now c.args.places.now.list s.seen h) (sym (c.in_ok-keep_one.ensures.read.bytes tells)) r in
    keeps_more h c.args.point c.in-Some.n.now c.in-Some.rest.now c.args.ns.now c.keep_one.result c.keep_all.result tt c.args.fields.now c.keep_one.new.fields c.keep_all.new.fields c.in-Some.ensures.cases.0
    (c.in_ok-keep_one.ensures.kept tells h r) (c.keep_all.ensures.kept tells h after)
