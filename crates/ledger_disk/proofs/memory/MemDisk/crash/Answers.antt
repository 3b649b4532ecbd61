use Rattle.std.proofs.Common.{arith, sym, ap, subst, ◌∙◌, ◌≡◌, List, ℕ}
use Rattle.std.proofs.lemmas.Result.{IfOk-weaker}
use Rattle.ledger_disk.specs.Disk.{State, MayLeave}
use Rattle.ledger_disk.specs.Parts.{state_of}
use Rattle.ledger_disk.specs.Generator.{torn_byte}
use Rattle.ledger_disk.proofs.Tearing.{torn_kept}
use Rattle.ledger_disk.proofs.memory.MemDisk.crash.Goals as goal

pub returns-in_ok-image-in-Torn-clause-image : goal.returns-in_ok-image-in-Torn-clause-image
returns-in_ok-image-in-Torn-clause-image c =
    let self = c.args.self.now in
    let image = c.in_ok-image-in-Torn.image.items in
    IfOk-weaker c.disk_of-in-Torn.result _ _ (λ disk is.
    let same : disk.bytes.items ≡ image = ap (λ (s : State). s.seen) is ∙ c.deref-in-Torn-3.ensures.value in
    subst (λ (l : List ℕ). MayLeave (state_of self.bytes.items self.stable.items self.ranges.items self.least self.greatest) l) (sym same) (record {
      no_shorter = omega (arith, c.in_ok-image-in-Torn.ensures.size, self.stable_least, self.stable_greatest);
      no_longer = omega (arith, c.in_ok-image-in-Torn.ensures.size);
      kept = λ i inside deep untouched. c.in_ok-image-in-Torn.ensures.torn i (omega (arith, c.in_ok-image-in-Torn.ensures.size)) ∙ ap (λ (l : List ℕ). torn_byte l c.deref-in-Torn-2.result.now c.in-Torn.seed i) c.deref-in-Torn.ensures.value ∙ ap (λ (l : List (ℕ × ℕ)). torn_byte self.stable.items l c.in-Torn.seed i) c.deref-in-Torn-2.ensures.value ∙ torn_kept self.stable.items self.ranges.items c.in-Torn.seed i deep untouched;
    })) c.disk_of-in-Torn.ensures.state
