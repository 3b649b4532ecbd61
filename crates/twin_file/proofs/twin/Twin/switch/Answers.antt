use Rattle.std.proofs.Common.{Bool, ap, ◌≡◌, ◌<◌, ◌∷◌, List, ℕ, drop, arith}
use Rattle.block_file.specs.File.{whole_file}
use Rattle.block_file.specs.Head.{front_of}
use Rattle.block_file.proofs.WriteLaws.{on_err}
use Rattle.ledger_disk.specs.Disk.{State}
use Rattle.twin_file.specs.Images.{IsCopied, IsNewer}
use Rattle.twin_file.proofs.QuietLaws.{quiet_new}
use Rattle.twin_file.proofs.HeadLaws.{has_head, generation_is}
use Rattle.twin_file.proofs.twin.Twin.switch.Goals as goal

less_is : (n g m : ℕ) → n < g → m ≡ g → n < m
less_is n g m less is = omega arith

newer : (x : Bool) (generation : ℕ) (base : List ℕ) (blocks : List (List ℕ)) (a b : State) → IsCopied x generation base blocks a b → IsNewer x (whole_file (front_of 1 generation base) blocks) a b
newer x generation base blocks a b copied = record {
  copying = copied.copying;
  is = ap (λ (l : List ℕ). 1 ∷ drop 1 l) copied.seen;
  head = has_head generation base blocks;
  less = less_is _ generation _ copied.newer (generation_is generation base blocks copied.fits);
}

pub returns-in_err-unveil_other-clause-images_err : goal.returns-in_err-unveil_other-clause-images_err
returns-in_err-unveil_other-clause-images_err g c = on_err c.from_residual.result _ (λ told generation base blocks copied.
    c.in_err-unveil_other.ensures.images_err told _ (newer _ generation base blocks _ _ copied))

pub returns-clause-switched : goal.returns-clause-switched
returns-clause-switched g c told =
    let a = (g.D.Disk.state c.unveil_other.new.a).bytes in
    let b = (g.D.Disk.state c.unveil_other.new.b).bytes in
    record {
      ok = c.in_ok-unveil_other.ensures.ok told;
      images = λ generation base blocks copied. c.in_ok-unveil_other.ensures.images told _ (newer _ generation base blocks _ _ copied);
      quiet = λ generation base blocks copied.
          quiet_new _ (g.D.Disk.state c.args.a.now).bytes (g.D.Disk.state c.args.b.now).bytes a b _ (whole_file (front_of 1 generation base) blocks) (c.in_ok-unveil_other.ensures.ok told) (c.unveil_other.ensures.kept.same told) copied.copying.quiet
          (c.in_ok-unveil_other.ensures.images told _ (newer _ generation base blocks _ _ copied) a.seen b.seen (g.met.D.Disk.seen_may_be_left c.unveil_other.new.a told) (g.met.D.Disk.seen_may_be_left c.unveil_other.new.b told));
    }
