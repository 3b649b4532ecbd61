use Rattle.std.proofs.Common.{sym, ◌∙◌}
use Rattle.ledger_soak.specs.Posts.{notary_state}
use Rattle.ledger_soak.proofs.RunLaws.{founded_so}
use Rattle.ledger_soak.proofs.running.place_members.Goals as goal

pub returns-in-Ok : goal.returns-in-Ok
returns-in-Ok c = λ held.
    founded_so c.args.post.now.world c.place.new.post.world c.place-2.new.post.world c.place-3.new.post.world c.flush.new.self
    (notary_state c.args.notary.now) (notary_state c.place.new.notary) (notary_state c.place-2.new.notary) (notary_state c.place-3.new.notary)
    held c.requires.silent c.in_ok-place.ensures.placed c.in_ok-place-2.ensures.placed c.in_ok-place-3.ensures.placed c.in-Ok.ensures.ok c.in-Ok.ensures.dues c.in-Ok.ensures.open (sym c.faults.ensures ∙ c.if-faults-eq0.true)
