use Rattle.std.proofs.Common.{ap, subst, ◌∙◌, ◌≡◌, ◌+◌, List, ℕ, take, refl, arith}
use Rattle.std.proofs.lemmas.List.{take-take}
use Rattle.ledger_disk.specs.Disk.{State, MayLeave}
use Rattle.ledger_disk.proofs.Guarding.{settled_image}
use Rattle.block_file.proofs.WriteLaws.{kept, kept_image}
use Rattle.block_file.proofs.file.BlockFile.trim.Goals as goal

pub returns-in_err-cut_for_good-clause-images : goal.returns-in_err-cut_for_good-clause-images
returns-in_err-cut_for_good-clause-images g c told quiet front blocks stands place image left =
    kept_image front blocks _ _ stands place (g.D.Disk.state c.args.disk.now).bytes quiet refl (g.D.Disk.state c.cut_for_good.new.disk).bytes image (c.in_err-cut_for_good.ensures.err told) left

pub returns-clause-images : goal.returns-clause-images
returns-clause-images g c told quiet front blocks stands place image left =
    let at = c.args.self.now.at in
    let seen = (g.D.Disk.state c.args.disk.now).bytes.seen in
    let is : image ≡ take (at + 1) seen = settled_image (take (at + 1) seen) image (subst (λ (s : State). MayLeave s image) (c.in_ok-cut_for_good.ensures.ok told) left) in
    kept front blocks seen at stands place image (ap (λ (l : List ℕ). take (at + 1) l) is ∙ take-take (at + 1) (at + 1) seen (omega arith))
