use Rattle.std.proofs.Common.{rules, tests, arith, ◌-◌, ◌≡◌, ◌<◌, ◌∙◌, ◌≤◌, length, Bool, true, false, nat_lt, take, ap, slice_get}
use Rattle.std.proofs.lemmas.Grind.{common_steps}
use Rattle.std.proofs.lemmas.List.Sorted.{IsPartitionPoint-from_clause}
use Rattle.std.proofs.lemmas.Bool.{lt-ltb, ltb-true}
use Rattle.std.specs.List.Sorted.{IsPartitionPoint}
use Rattle.time_peg.specs.Times.{lower_bound, marks_before}
use Rattle.ledger_bytes.specs.declared.mark.TimeMark.{TimeMark}
use Rattle.time_peg.proofs.TimesLaws.{partitioned, in_front, last_is}
use Rattle.time_peg.proofs.index.TimeIndex.before.Goals as goal

pub returns-clause-mark : goal.returns-clause-mark
returns-clause-mark c =
    let n = c.args.n in
    let ms = c.self.inside.marks.items in
    let p : TimeMark → Bool = λ m. nat_lt m.jsn n in
    let within : c.partition_point-end.result ≤ length ms = grind (arith, common_steps) in
    let point : IsPartitionPoint (λ m. p m ≡ true) (λ m. p m ≡ false) ms c.partition_point-end.result =
    IsPartitionPoint-from_clause p ms c.partition_point-end.result (rw c.deref.ensures.value at c.partition_point-end.ensures.partitioned)
    (partitioned p ms (λ a b less is. let low : b.jsn < n = ltb-true b.jsn n is in lt-ltb a.jsn n (omega arith)) c.self.invariant) (λ a r f h. search (rules, tests)) in
    let front : take c.partition_point-end.result ms ≡ marks_before n ms = in_front p ms c.partition_point-end.result within point in
    c.copied.ensures ∙ (c.last.ensures.value ∙ (ap (λ xs. slice_get (take c.partition_point-end.result xs) (length (take c.partition_point-end.result xs) - 1)) c.as_slice.ensures.value
    ∙ (ap (λ xs. slice_get xs (length xs - 1)) front ∙ (last_is (marks_before n ms) ∙ ap (lower_bound n) c.self.view_is))))
