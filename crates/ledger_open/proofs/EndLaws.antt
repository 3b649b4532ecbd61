-- What an occult and a purge leave undone is finished alike.
use Rattle.std.proofs.Common.{◌≡◌, ◌<◌, Bool, true, false, refl, sym, ap, subst, ◌∙◌}
use Rattle.block_file.specs.File.{IsSettled}
use Rattle.ledger_disk.specs.Disk.{State}
use Rattle.ledger_model.specs.History.{History, point}
use Rattle.twin_file.specs.Twin.{open_of, other_of}
use Rattle.ledger_open.specs.Erasing.{GivesUp}
use Rattle.ledger_open.specs.Opening.{Known}
use Rattle.ledger_open.specs.Purging.{Ledger, IsDone, IsFinished, StandsOpen, open_disk, other_disk}

-- of two files of which nothing is pending the open one is settled, and the other one too
open_settled : (v : Bool) (a b : State) → IsSettled a → IsSettled b → IsSettled (open_of v a b)
open_settled true a b p q = p
open_settled false a b p q = q

other_settled : (v : Bool) (a b : State) → IsSettled a → IsSettled b → IsSettled (other_of v a b)
other_settled true a b p q = q
other_settled false a b p q = p

pub occult_finished : (old new : Ledger) (h : History) → StandsOpen old h → old.known.book.floor ≡ point h → GivesUp old.known.book old.known.places (open_disk old) (open_disk new)
    → new.known ≡ old.known → other_disk new ≡ other_disk old → IsFinished new h
occult_finished old new h s floor gives known other =
    let given = gives h s.ends (open_settled old.in_a old.a old.b s.quiet_a s.quiet_b) s.stands (s.floor ∙ floor) in record {
      quiet = given.quiet;
      other_quiet = subst IsSettled (sym other) (other_settled old.in_a old.a old.b s.quiet_a s.quiet_b);
      erased = given.erased;
      floor = ap (λ (k : Known). k.book.floor) known ∙ floor;
    }

pub purge_finished : (old new : Ledger) (h : History) → StandsOpen old h → old.known.book.floor < old.known.book.point → IsDone true old new → IsFinished new h
purge_finished old new h s less done =
    let clean = done.clean refl less h s in record {
      quiet = open_settled new.in_a new.a new.b clean.quiet_a clean.quiet_b;
      other_quiet = other_settled new.in_a new.a new.b clean.quiet_a clean.quiet_b;
      erased = clean.clean.erased;
      floor = clean.floor;
    }
