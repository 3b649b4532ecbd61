use Rattle.std.proofs.Common.{◌≡◌, ◌++◌, OnOk, sym, subst}
use Rattle.ledger_cli.specs.Endings.{damage_line}
use Rattle.ledger_cli.proofs.ending.put_damage.Goals as goal

pub returns-in-Length : goal.returns-in-Length
returns-in-Length c = subst (λ d. OnOk c.put_line-in-Length.result (c.put_line-in-Length.new.out.items ≡ c.args.out.now.items ++ damage_line d)) (sym c.in-Length.is) c.put_line-in-Length.ensures

pub returns-in-Root : goal.returns-in-Root
returns-in-Root c = subst (λ d. OnOk c.put_line-in-Root.result (c.put_line-in-Root.new.out.items ≡ c.args.out.now.items ++ damage_line d)) (sym c.in-Root.is) c.put_line-in-Root.ensures

pub returns-in-Content : goal.returns-in-Content
returns-in-Content c = subst (λ d. OnOk c.put_line-in-Content.result (c.put_line-in-Content.new.out.items ≡ c.args.out.now.items ++ damage_line d)) (sym c.in-Content.is) c.put_line-in-Content.ensures
