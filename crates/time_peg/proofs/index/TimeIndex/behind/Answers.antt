use Rattle.std.proofs.Common.{rules, tests, arith, ◌-◌, ◌≡◌, ◌∙◌, ◌≤◌, length, Bool, true, false, nat_lt, nat_le, take, drop, ap, slice_get}
use Rattle.std.proofs.lemmas.List.{take_all}
use Rattle.std.proofs.Common.{length-drop}
use Rattle.std.proofs.lemmas.Grind.{common_steps}
use Rattle.std.proofs.lemmas.List.Sorted.{IsPartitionPoint-from_clause}
use Rattle.std.proofs.lemmas.Bool.{le-leb, leb-true, leb-false, lt-ltb, le-ltb}
use Rattle.std.specs.List.Sorted.{IsPartitionPoint}
use Rattle.time_peg.specs.Times.{upper_bound, marks_behind}
use Rattle.ledger_bytes.specs.declared.mark.TimeMark.{TimeMark}
use Rattle.time_peg.proofs.TimesLaws.{partitioned, behind, first_is}
use Rattle.time_peg.proofs.index.TimeIndex.behind.Goals as goal

pub returns : goal.returns
returns c =
    let n = c.args.n in
    let ms = c.self.inside.marks.items in
    let p : TimeMark → Bool = λ m. nat_le m.jsn n in
    let q : TimeMark → Bool = λ m. nat_lt n m.jsn in
    let within : c.partition_point-first.result ≤ length ms = grind (arith, common_steps) in
    let point : IsPartitionPoint (λ m. p m ≡ true) (λ m. p m ≡ false) ms c.partition_point-first.result =
    IsPartitionPoint-from_clause p ms c.partition_point-first.result (rw c.deref.ensures.value at c.partition_point-first.ensures.partitioned)
    (partitioned p ms (λ a b less is. let low : b.jsn ≤ n = leb-true b.jsn n is in le-leb a.jsn n (omega arith)) c.self.invariant) (λ a r f h. search (rules, tests)) in
    let back : drop c.partition_point-first.result ms ≡ marks_behind n ms =
    behind p q (λ m is. le-ltb n m.jsn (leb-true m.jsn n is)) (λ m is. lt-ltb n m.jsn (leb-false m.jsn n is)) ms c.partition_point-first.result within point in
    let xs = c.as_slice.result.now in
    let tail : take (length xs - c.partition_point-first.result) (drop c.partition_point-first.result xs) ≡ drop c.partition_point-first.result xs = take_all _ _ (omega (arith, length-drop c.partition_point-first.result xs)) in
    c.copied.ensures ∙ (c.first.ensures.value ∙ (ap (λ l. slice_get l 0) tail ∙ (ap (λ xs. slice_get (drop c.partition_point-first.result xs) 0) c.as_slice.ensures.value
    ∙ (ap (λ xs. slice_get xs 0) back ∙ (first_is (marks_behind n ms) ∙ ap (upper_bound n) c.self.view_is)))))
