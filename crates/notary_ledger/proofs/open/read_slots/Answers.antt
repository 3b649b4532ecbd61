use Rattle.std.proofs.Common.{rules, arith, sym, subst, ap, ◌∙◌, ◌≡◌, ◌+◌, ◌*◌, ◌≤◌, ◌∷◌, ◌++◌, [], ℕ, List, length, length-append}
use Rattle.std.specs.Prelude.{Some, None, IfSome, drop}
use Rattle.ledger_disk.specs.Disk.{State}
use Rattle.time_peg.specs.Entries.{IsList, time_in}
use Rattle.time_peg.proofs.EntryLaws.{list_push}
use Rattle.notary_ledger.specs.Slots.{opened}
use Rattle.notary_ledger.specs.Opening.{IsSlot}
use Rattle.notary_ledger.proofs.OpenLaws.{lists_ended, lists_full, some_same, seen_more}
use Rattle.notary_ledger.proofs.open.read_slots.Goals as goal

pub returns-in_default-clause-lists : goal.returns-in_default-clause-lists
returns-in_default-clause-lists g c told =
    let es = c.loop-index.list.entries in
    let file = (g.D.Disk.state c.args.disk.now).bytes.seen in
    let at = 73 * c.loop-index.index in
    let inv = c.loop-index.invariant in
    let slot : IsSlot at c.last_time.result (g.D.Disk.state c.loop-index.disk).bytes.seen None = subst (λ o. IsSlot at c.last_time.result (g.D.Disk.state c.loop-index.disk).bytes.seen o) c.in_default.is (c.in_ok-entry.ensures.slot told) in
    lists_ended es file c.last_time.result at inv.list (inv.seen told) (omega (arith, inv.count)) c.last_time.ensures
    (omega (arith, inv.within, some_same _ _ _ (g.met.D.Disk.length_is c.args.disk.now told) c.requires.told))
    (subst (λ (s : State). IsSlot at c.last_time.result s.seen None) (inv.same told) slot)

pub loop-index-preserved : goal.loop-index-preserved
loop-index-preserved g c =
    let es = c.loop-index.list.entries in
    let e = c.in-Some.entry in
    let file = (g.D.Disk.state c.args.disk.now).bytes.seen in
    let at = 73 * c.loop-index.index in
    let last = c.last_time.result in
    let inv = c.loop-index.invariant in
    let pushed : c.push.new.self.entries ≡ es ++ e ∷ [] = c.push.ensures ∙ ap (λ (l : List (List ℕ)). l ++ e ∷ []) c.in-Ok.ensures.entries in
    let later = subst (λ o. IfSome o (λ x. (last ≤ time_in x) × (length x ≡ 72) × (at + 74 ≤ c.args.len))) c.in-Some.is c.in_ok-entry.ensures.later in
    let size : length c.push.new.self.entries ≡ c.loop-index.index + 1 = omega (arith, ap length pushed, length-append es (e ∷ []), inv.count) in
    record {
      count = size;
      list = subst IsList (sym pushed) (list_push es e inv.list (omega (arith, inv.count, c.loop-index-test.true)) later.1 (omega (arith, later.0, c.last_time.ensures)));
      within = omega (arith, size, later.2);
      seen = λ told.
          let slot = subst (λ o. IsSlot at last (g.D.Disk.state c.loop-index.disk).bytes.seen o) c.in-Some.is (c.in_ok-entry.ensures.slot told) in
          subst (λ (l : List (List ℕ)). file ≡ opened l ++ drop (73 * length l) file) (sym pushed)
          (seen_more es e file last at (inv.seen told) (omega (arith, inv.count))
          (subst (λ (s : State). IsSlot at last s.seen (Some e)) (inv.same told) slot));
      same = λ told. c.read_slot.ensures.state told ∙ inv.same told;
      told = c.read_slot.ensures.told;
      faults = search rules;
    }

pub returns-clause-lists : goal.returns-clause-lists
returns-clause-lists g c told =
    let inv = c.loop-index.invariant in
    lists_full c.loop-index.list.entries (g.D.Disk.state c.args.disk.now).bytes.seen inv.list (inv.seen told) (omega (arith, inv.count))
    (omega (arith, inv.within, some_same _ _ _ (g.met.D.Disk.length_is c.args.disk.now told) c.requires.told))
