use Rattle.std.proofs.Common.{rules, sym, subst, ◌≡◌, ◌≤◌, ◌++◌, [], ◌∷◌, List, ℕ, length, max}
use Rattle.ledger_disk.specs.Disk.{State, overlay, Torn}
use Rattle.ledger_disk.proofs.Ranges.{pushed_may_be_left, overlaid_torn}
use Rattle.ledger_disk.proofs.memory.MemDiskDisk.write.Goals as goal

pub invariant_of-self-clause-consistent : goal.invariant_of-self-clause-consistent
invariant_of-self-clause-consistent c =
    let self = c.begin.new.self in
    let within : c.args.at ≤ length self.bytes.items = subst (λ (s : State). c.args.at ≤ length s.seen) (sym c.begin.ensures.state) c.requires in
    let is : c.overlay.new.file.items ≡ overlay c.args.at c.args.piece.now self.bytes.items = search rules in
    let more : c.push.new.self.items ≡ self.ranges.items ++ (c.args.at, length c.args.piece.now) ∷ [] = search rules in
    let torn : Torn c.args.at (length c.args.piece.now) self.bytes.items c.overlay.new.file.items = subst (λ (f : List ℕ). Torn c.args.at (length c.args.piece.now) self.bytes.items f) (sym is) (overlaid_torn c.args.at c.args.piece.now self.bytes.items within) in
    let most : c.max-self.result ≡ max self.greatest (length c.overlay.new.file.items) = search rules in
    pushed_may_be_left self.bytes.items self.stable.items c.overlay.new.file.items self.ranges.items c.push.new.self.items self.least self.greatest c.max-self.result c.args.at (length c.args.piece.now)
    within self.consistent torn more most
