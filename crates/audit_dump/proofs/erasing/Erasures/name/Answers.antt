use Rattle.std.proofs.Common.{◌≡◌, ◌<◌, ◌+◌, ◌≤◌, List, length, arith, sym, ap, ◌∙◌}
use Rattle.std.specs.Prelude.{set, get_or}
use Rattle.audit_dump.specs.Notes.{Erased, as_named}
use Rattle.audit_dump.specs.declared.erasing.Mark.{Mark}
use Rattle.std.proofs.lemmas.Bool.{ltb-false}
use Rattle.audit_dump.proofs.Roots.{not_above}
use Rattle.audit_dump.proofs.Erased.{below, there, beyond}
use Rattle.audit_dump.proofs.erasing.Erasures.name.Goals as goal
use Rattle.audit_dump.proofs.erasing.Erasures.name.Goals.{in-Some-get_mut, in_default-get_mut}

pub returns-in_default-clause-marks : goal.returns-in_default-clause-marks
returns-in_default-clause-marks c =
    let lt : c.args.n < c.self.inside.first = not_above c.args.n c.self.inside.first (λ le. c.in_default.ensures le) in
    below c.args.self.now.first c.args.n c.args.self.now.marks (omega (arith, lt, ap (λ (e : Erased). e.first) c.self.view_is))

pub returns-clause-marks : goal.returns-clause-marks
returns-clause-marks c = elim c.match-get_mut.branch [
  | in-Some-get_mut w ↦
      let marks = c.args.self.now.marks in
      let place = c.in-Some.place in
      let items = ap (λ (e : Erased). e.marks) c.self.view_is in
      let at : c.args.n ≡ c.args.self.now.first + place = omega (arith, c.in-Some.ensures.0, c.in-Some.ensures.1, ap (λ (e : Erased). e.first) c.self.view_is) in
      let item = w.in-Some-get_mut.ensures.item in
      let mark = w.in-Some-get_mut.mark.now in
      ap (λ i. i.marks.items) w.self-inside-is ∙ ap (λ (m : Mark). set c.self.inside.marks.items place (as_named m)) item.1
      ∙ ap (λ (ms : List Mark). set ms place (as_named (get_or ms place mark))) items ∙ sym (there place c.args.self.now.first c.args.n marks mark at)
  | in_default-get_mut w ↦
      let items = ap (λ (e : Erased). e.marks) c.self.view_is in
      let far : length c.self.inside.marks.items ≤ c.in-Some.place = ltb-false c.in-Some.place (length c.self.inside.marks.items) (sym w.in_default-get_mut.ensures.item.0) in
      ap (λ i. i.marks.items) w.self-inside-is ∙ items ∙ beyond c.args.self.now.first c.args.n c.args.self.now.marks
      (omega (arith, c.in-Some.ensures.0, c.in-Some.ensures.1, ap (λ (e : Erased). e.first) c.self.view_is, ap length items, far))
]
