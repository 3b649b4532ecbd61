use Rattle.std.proofs.Common.{◌≡◌, [], drop, sym, ap, subst, ◌∙◌, arith}
use Rattle.batch_committer.specs.World.{CommitterState}
use Rattle.batch_committer.specs.contracts.taking.Taking.{the_view}
use Rattle.batch_committer.proofs.Ending.{goes_at, goes_to, none_waits}
use Rattle.batch_committer.proofs.Settling.{spell_goes}
use Rattle.batch_committer.proofs.Spelling.{spelled_settled}
use Rattle.batch_committer.proofs.WayLaws.{goes_same}
use Rattle.batch_committer.proofs.taking.Taking.spell_rest.Goals as goal

pub returns-then-waiting-gt0-clause-ok : goal.returns-then-waiting-gt0-clause-ok
returns-then-waiting-gt0-clause-ok c = λ tells disks sink. goes_same tells _

pub returns-clause-ok : goal.returns-clause-ok
returns-clause-ok c = λ tells disks sink.
    let i = the_view c.self.inside in
    let now : c.args.self.now.book.size ≡ c.args.self.now.book.sealed = omega (arith, c.unsealed-waiting.ensures.number, c.if-waiting-gt0.false) in
    let settled = subst (λ (k : CommitterState). k.book.size ≡ k.book.sealed) (sym c.self.view_is) now in
    let same = ap (λ n. record i { spelled = n; lines = c.spell.new.text.items }) (c.len-self-inside.ensures ∙ c.self.inside.dues.ok.0) in
    goes_to tells _ _ _ same disks sink (λ h. h) (λ h. [])
    (goes_at tells _ _ c.self.view_is disks sink _ (λ h. h) (λ h. [])
    (spell_goes tells i c.spell.new.text.items (λ h s. none_waits i.book h settled s)
    (λ h p. spelled_settled i c.sealed_size-first.result i.lines c.spell.new.text.items c.split_at.result.1.now h p c.sealed_size-first.ensures.value (none_waits i.book h settled p.serves) (c.in_ok-spell.ensures h p.serves) (c.split_at.ensures.back ∙ ap (drop i.spelled) c.as_slice.ensures.value)) disks sink))
