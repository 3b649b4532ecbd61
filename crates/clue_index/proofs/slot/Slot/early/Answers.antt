use Rattle.std.proofs.Common.{◌≡◌, ◌≤◌, ◌∙◌, length, take, nat_lt, true, false, subst, sym, ap, arith, rules, tests}
use Rattle.std.proofs.lemmas.Grind.{common_steps}
use Rattle.std.proofs.lemmas.List.Sorted.{IsPartitionPoint-from_clause}
use Rattle.std.specs.List.Sorted.{IsPartitionPoint}
use Rattle.clue_index.specs.Trail.{Ascends, below}
use Rattle.clue_index.proofs.TrailLaws.{partitioned, early_in_front}
use Rattle.clue_index.proofs.slot.Slot.early.Goals as goal

pub returns : goal.returns
returns c rise =
    let ns = c.self.inside.jsns.items in
    let rise' : Ascends ns = subst (λ t. Ascends t.jsns) (sym c.self.view_is) rise in
    let within : c.partition_point-end.result ≤ length ns = grind (arith, common_steps) in
    let point : IsPartitionPoint (λ n. nat_lt n c.args.p ≡ true) (λ n. nat_lt n c.args.p ≡ false) ns c.partition_point-end.result =
    IsPartitionPoint-from_clause (λ n. nat_lt n c.args.p) ns c.partition_point-end.result (rw c.deref.ensures.value at c.partition_point-end.ensures.partitioned) (partitioned c.args.p ns rise') (λ a r f h. search (rules, tests)) in
    let front = early_in_front c.args.p ns c.partition_point-end.result within point in
    ap (take c.partition_point-end.result) c.as_slice.ensures.value ∙ (front ∙ ap (λ t. (below c.args.p t).jsns) c.self.view_is)
