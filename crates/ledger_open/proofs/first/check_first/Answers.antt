use Rattle.std.proofs.Common.{refl, sym, ◌∙◌, ap, arith, length, get_or, ◌≤◌, List, ℕ}
use Rattle.sha2.specs.Sha256.{sha256}
use Rattle.tree_model.specs.Tree.{leaf}
use Rattle.block_file.specs.declared.failure.Damage.TheVariants as damages
use Rattle.ledger_open.proofs.FirstLaws.{second_other, first_root, single}
use Rattle.ledger_open.proofs.TakeLaws.{headed_size, headed_by, other_bytes, at_any}
use Rattle.ledger_open.proofs.first.check_first.Goals as goal

pub returns-then-records-gt1-clause-err : goal.returns-then-records-gt1-clause-err
returns-then-records-gt1-clause-err c =
    (damages.Entry 1, refl, λ es b h. second_other es b (omega (arith, c.if-records-gt1.true, headed_size es c.args.block.now.records h, ap length c.as_slice-records.ensures)))

pub returns-then-ne-clause-err : goal.returns-then-ne-clause-err
returns-then-ne-clause-err c = (
  damages.Root 0 c.args.block.now.root c.leaf_of-found.result,
  refl,
  λ es b h.
      let some : 1 ≤ length c.as_slice-records.result.now = omega (arith, b.some, headed_size es c.args.block.now.records h, ap length c.as_slice-records.ensures) in (
        refl,
        refl,
        first_root es c.as_slice-records.result.now (get_or c.as_slice-records.result.now 0 _) c.args.block.now.root.0 c.leaf_of-found.result.0 b (headed_by es _ _ c.as_slice-records.ensures h)
            (single c.as_slice-records.result.now _ some (omega (arith, c.if-records-gt1.false)) (at_any _ _ _ _ some)) (c.leaf_of-found.ensures ∙ ap (λ (l : List ℕ). leaf sha256 l) c.encode.ensures.bytes) (other_bytes _ _ (sym c.ne.ensures ∙ c.if-ne.true)),
      ),
)
