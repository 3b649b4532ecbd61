use Rattle.std.specs.List.{flat_map}
use Rattle.std.proofs.Common.{◌≡◌, ◌≤◌, ◌++◌, length, map, All}
use Rattle.audit_dump.specs.Journals.{IsOfItem}
use Rattle.audit_dump.proofs.preparing.cut.Given as goal

abbrev pub invariant-loop : goal.invariant-loop
invariant-loop l = record {
  parts : l.fn.bytes ≡ flat_map (λ item. item) (map (λ item. item.now) l.items.items) ++ l.rest;
  each : All IsOfItem (map (λ item. item.now) l.items.items);
  some : 1 ≤ length l.items.items;
}
