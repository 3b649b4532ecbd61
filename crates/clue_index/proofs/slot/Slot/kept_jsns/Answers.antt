use Rattle.std.proofs.Common.{◌≡◌, ◌≤◌, ◌∙◌, length, drop, nat_lt, true, false, subst, sym, ap, arith, rules, tests}
use Rattle.std.proofs.lemmas.Grind.{common_steps}
use Rattle.std.proofs.lemmas.List.Sorted.{IsPartitionPoint-from_clause}
use Rattle.std.specs.List.Sorted.{IsPartitionPoint}
use Rattle.clue_index.specs.Trail.{Ascends, kept_from}
use Rattle.clue_index.proofs.TrailLaws.{partitioned, kept_behind}
use Rattle.clue_index.proofs.slot.Slot.kept_jsns.Goals as goal

pub returns : goal.returns
returns c rise =
    let ns = c.self.inside.jsns.items in
    let rise' : Ascends ns = subst (λ t. Ascends t.jsns) (sym c.self.view_is) rise in
    let copied : c.in_ok-from_slice.field-0.items ≡ drop c.partition_point-first.result ns = grind (arith, common_steps) in
    let within : c.partition_point-first.result ≤ length ns = grind (arith, common_steps) in
    let point : IsPartitionPoint (λ n. nat_lt n c.args.floor ≡ true) (λ n. nat_lt n c.args.floor ≡ false) ns c.partition_point-first.result =
    IsPartitionPoint-from_clause (λ n. nat_lt n c.args.floor) ns c.partition_point-first.result (rw c.deref.ensures.value at c.partition_point-first.ensures.partitioned) (partitioned c.args.floor ns rise') (λ a r f h. search (rules, tests)) in
    copied ∙ (kept_behind c.args.floor ns c.partition_point-first.result within point ∙ ap (kept_from c.args.floor) c.self.view_is)
