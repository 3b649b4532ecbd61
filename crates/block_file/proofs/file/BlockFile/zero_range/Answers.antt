use Rattle.std.proofs.Common.{ℕ, List, sym, subst, replicate}
use Rattle.ledger_disk.specs.Disk.{State, MayLeave}
use Rattle.ledger_disk.specs.Guards.{Outside}
use Rattle.block_file.specs.Changes.{KeepsOutside}
use Rattle.block_file.specs.File.{IsFileOf, IsSettled, with_content}
use Rattle.block_file.proofs.ChangeLaws.{changed_some, zeroed}
use Rattle.block_file.proofs.file.BlockFile.zero_range.Goals as goal

keeps : (at len : ℕ) (old new : State) → Outside at len old.seen new.seen → (IsSettled old → (image : List ℕ) → MayLeave new image → Outside at len old.seen image) → KeepsOutside at len old new
keeps at len old new seen images = record {
  seen = seen;
  images = images;
  kept = λ quiet front before after head rest content stands place size image left. changed_some front before after head rest content old.seen image at len stands place size (images quiet image left);
}

pub returns-in_err-zero-clause-kept : goal.returns-in_err-zero-clause-kept
returns-in_err-zero-clause-kept g c told = keeps c.args.at c.args.len _ _ (c.zero.ensures.seen told) (c.zero.ensures.images told)

pub returns-clause-kept : goal.returns-clause-kept
returns-clause-kept g c told = keeps c.args.at c.args.len _ _ (c.zero.ensures.seen told) (c.zero.ensures.images told)

pub returns-clause-zeroed : goal.returns-clause-zeroed
returns-clause-zeroed g c told front before after head rest content stands place size =
    subst (λ (s : State). IsFileOf front (with_content before after head rest (replicate c.args.len 0)) s.seen) (sym (c.in_ok-zero.ensures.ok told)) (zeroed front before after head rest content (g.D.Disk.state c.args.disk.now).bytes.seen c.args.at c.args.len stands place size)
