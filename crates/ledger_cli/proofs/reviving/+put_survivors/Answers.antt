use Rattle.std.proofs.Common.{◌+◌, ℕ, List, drop, subst}
use Rattle.ledger_cli.specs.Surviving.{PutsRevived}
use Rattle.ledger_cli.proofs.SurviveLaws.{at_place, put_first_err, put_first_ok}
use Rattle.ledger_cli.proofs.reviving.+put_survivors.Goals as goal

pub returns-in_err-put_survivor-clause-puts : goal.returns-in_err-put_survivor-clause-puts
returns-in_err-put_survivor-clause-puts g t c = λ h serves.
    let xs = c.args.set.now.survivors in
    let at = at_place xs c.args.first c.count.result c.requires.within c.count.ensures.count c.if-first-count.false in
    put_first_err h (g.N.Notary.state c.args.notary.now).entries c.args.set.now.point xs c.args.first at.0 at.1 c.from_residual.result c.in_err-put_survivor.field-0.0 c.from_residual.ensures c.args.out.now.items c.put_survivor.new.out.items
    (c.in_err-put_survivor.ensures.puts h at.0 serves at.1)

pub returns-clause-puts : goal.returns-clause-puts
returns-clause-puts g t c = λ h serves.
    let xs = c.args.set.now.survivors in
    let at = at_place xs c.args.first c.count.result c.requires.within c.count.ensures.count c.if-first-count.false in
    let es = (g.N.Notary.state c.args.notary.now).entries in
    put_first_ok h es c.args.set.now.point xs c.args.first at.0 at.1 c.put_survivors.result c.args.out.now.items c.put_survivor.new.out.items c.put_survivors.new.out.items (c.in_ok-put_survivor.ensures.puts h at.0 serves at.1)
    (subst (λ (fs : List (List ℕ)). PutsRevived h fs c.args.set.now.point (drop (c.args.first + 1) xs) c.put_survivors.result c.put_survivor.new.out.items c.put_survivors.new.out.items) c.in_ok-put_survivor.ensures.asks.asked.entries
    (c.put_survivors.ensures.puts h serves))
