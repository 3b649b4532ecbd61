use Rattle.std.proofs.Common.{arith, rules, subst, sym, ◌≡◌, ◌+◌, All, length, vec_len}
use Rattle.std.proofs.lemmas.List.Elements.{All-push}
use Rattle.block_file.specs.FileView.{gate_of}
use Rattle.block_file.specs.declared.block.BlockAt.{BlockAt}
use Rattle.ledger_open.specs.Ahead.{IsStop, number_behind, blocks_in}
use Rattle.ledger_open.specs.declared.ahead.Hashed.{Hashed}
use Rattle.ledger_open.proofs.AheadLaws.{was_read, read_again, place_again, count_again, few_records, number_is, stop_damaged}
use Rattle.ledger_open.proofs.FirstLaws.{some_of}
use Rattle.ledger_open.proofs.MoreLaws.{read_of}
use Rattle.ledger_open.proofs.ahead.read_ahead.Goals as goal
use Rattle.ledger_open.proofs.ahead.read_ahead.Goals.{then-first-count-2, else-first-count-2}

pub loop-alloc-preserved : goal.loop-alloc-preserved
loop-alloc-preserved g c =
    let state = g.D.Disk.state in
    let old = (state c.args.disk.now).bytes in
    let at = gate_of c.args.file.now in
    let now = gate_of c.loop-alloc.file in
    let next = c.args.first + c.loop-alloc.count in
    let hs = c.loop-alloc.blocks.items in
    let items = c.push.new.self.items in
    let h = c.in-Ok-new.hashed in
    let b = c.in-Ok-Some.block in
    let i = c.loop-alloc.invariant in
    let r = read_of c.in-Ok-Some.field-0 b now next c.in-Ok-Some.field-0-is c.in-Ok-Some.ensures.read in
    let few = few_records now next b r in
    record {
      read = read_again g.D.Disk.tells old.seen at c.args.first now next hs items h b i.read i.place (omega (arith, i.counted)) c.in-Ok-push.ensures.items c.in-Ok-new.ensures.block
          (was_read g.D.Disk.tells old (state c.loop-alloc.disk).bytes now next c.in-Ok-Some.field-0 b i.same c.in-Ok-Some.field-0-is c.in-Ok-Some.ensures.read c.in-Ok-Some.ensures.answer);
      place = place_again at now (gate_of c.next_block.new.self) hs items h b i.place c.in-Ok-push.ensures.items c.in-Ok-new.ensures.block
          (some_of (λ (b : BlockAt). gate_of c.next_block.new.self ≡ now + 1 + b.len) c.in-Ok-Some.field-0 b c.in-Ok-Some.field-0-is c.in-Ok-Some.ensures.place);
      counted = count_again c.loop-alloc.count hs items h b c.as_slice.result.now i.counted c.in-Ok-push.ensures.items c.in-Ok-new.ensures.block c.as_slice.ensures;
      some = search rules;
      room = search rules;
      sizes = subst (All (λ (h : Hashed). vec_len h.leaves ≡ length h.block.records)) (sym c.in-Ok-push.ensures.items) (All-push (λ (h : Hashed). vec_len h.leaves ≡ length h.block.records) hs h i.sizes (search rules));
      told = search rules;
      keeps = search rules;
      same = search rules;
      faults = search rules;
    }

pub returns-in-Ok-stop_of-clause-stop : goal.returns-in-Ok-stop_of-clause-stop
returns-in-Ok-stop_of-clause-stop g c =
    let state = g.D.Disk.state in
    let i = c.loop-alloc.invariant in
    subst (λ n. IsStop g.D.Disk.tells (state c.args.disk.now).bytes.seen n (number_behind c.args.first (blocks_in c.loop-alloc.blocks.items)) c.in-Ok-stop_of.stop) (search rules)
    (stop_damaged g.D.Disk.tells (state c.args.disk.now).bytes (state c.loop-alloc.disk).bytes (gate_of c.loop-alloc.file) c.args.first (c.args.first + c.loop-alloc.count) c.in-Err.e c.in-Ok-stop_of.stop c.loop-alloc.blocks.items (omega (arith, i.counted)) i.same c.in-Ok-stop_of.ensures c.in-Err.ensures.answer)

pub returns-clause-stop : goal.returns-clause-stop
returns-clause-stop g c =
    let n = number_is c.args.first (blocks_in c.loop-alloc.blocks.items) in
    let Ends = IsStop g.D.Disk.tells (g.D.Disk.state c.args.disk.now).bytes.seen (gate_of c.loop-alloc.file) (number_behind c.args.first (blocks_in c.loop-alloc.blocks.items)) in
    elim c.if-first-count-2.branch [
      | then-first-count-2 w ↦ subst Ends (sym w.stop-is) (omega (arith, n, c.loop-alloc.invariant.counted, w.if-first-count-2.true, c.from-2.ensures))
      | else-first-count-2 w ↦ subst Ends (sym w.stop-is) (omega (arith, n, c.loop-alloc.invariant.counted, w.if-first-count-2.false, c.from-2.ensures))
    ]
