use Rattle.std.proofs.Common.{rules, refl, sym, ◌∙◌, ap, subst, ◌≤◌, ◌+◌, [], length, inl, inr}
use Rattle.std.proofs.lemmas.Result.{IfOk-weaker, IfErr-weaker}
use Rattle.block_file.specs.FileView.{gate_of}
use Rattle.ledger_disk.specs.Disk.{State}
use Rattle.ledger_open.specs.Ahead.{blocks_in, number_behind, IsStop}
use Rattle.ledger_open.specs.Opening.{IsReadErr, known_from}
use Rattle.ledger_open.proofs.AheadLaws.{ahead_of, next_again, next_blocks}
use Rattle.ledger_open.proofs.MoreLaws.{first_below, known_of, told_inside}
use Rattle.ledger_open.proofs.reading.read_rest.Goals as goal

pub read_ahead-requires-clause-number : goal.read_ahead-requires-clause-number
read_ahead-requires-clause-number g c =
    first_below g.D.Disk.tells (g.D.Disk.state c.args.disk.now).bytes.seen (known_from c.args.read.book c.args.read.places.list (gate_of c.args.file.now)) c.size-first.result c.requires.known c.size-first.ensures.size

pub loop-alloc-init : goal.loop-alloc-init
loop-alloc-init g c =
    let tells = g.D.Disk.tells in
    let file = (g.D.Disk.state c.args.disk.now).bytes.seen in
    let at = gate_of c.args.file.now in
    let k = known_from c.args.read.book c.args.read.places.list at in
    let o = c.in-Ok.ensures in
    let cs = blocks_in c.in-Ok.ahead.blocks.items in
    let a = ahead_of tells file k c.size-first.result cs c.in-Ok.ahead.stop c.requires.known c.size-first.ensures.size o.read
    (subst (λ (p : _). IsStop tells file p (number_behind c.size-first.result cs) c.in-Ok.ahead.stop) o.place o.stop) in
    record {
      ahead = next_blocks tells file c.args.read.book c.args.read.places.list at at (gate_of c.read_ahead.new.file) [] [] c.in-Ok.ahead c.hash.new.self refl refl o.place o.count c.hash.ensures.blocks c.hash.ensures.count c.hash.ensures.stop c.hash.ensures.leaves a;
      limits = refl;
      told = search rules;
      keeps = search rules;
      same = search rules;
      faults = search rules;
    }

pub read_more-requires-clause-ahead : goal.read_more-requires-clause-ahead
read_more-requires-clause-ahead g c =
    let i = c.loop-alloc.invariant in
    next_again g.D.Disk.tells (g.D.Disk.state c.args.disk.now).bytes.seen (g.D.Disk.state c.loop-alloc.disk).bytes.seen c.loop-alloc.read.book c.loop-alloc.read.places.list c.loop-alloc.ahead (gate_of c.loop-alloc.file)
    (λ told. sym (ap (λ (s : State). s.seen) (i.same told))) i.ahead

pub loop-alloc-preserved : goal.loop-alloc-preserved
loop-alloc-preserved g c =
    let i = c.loop-alloc.invariant in
    let o = c.in-Ok-read_more.ensures in
    record {
      ahead = next_again g.D.Disk.tells (g.D.Disk.state c.loop-alloc.disk).bytes.seen (g.D.Disk.state c.args.disk.now).bytes.seen c.read_more.new.read.book c.read_more.new.read.places.list c.in-Ok-read_more.ahead (gate_of c.read_more.new.file)
          (λ told. ap (λ (s : State). s.seen) (i.same told)) o.ok;
      limits = o.limits ∙ i.limits;
      told = search rules;
      keeps = search rules;
      same = search rules;
      faults = search rules;
    }

pub returns-clause-ok : goal.returns-clause-ok
returns-clause-ok g c =
    let tells = g.D.Disk.tells in
    let file = (g.D.Disk.state c.args.disk.now).bytes.seen in
    let i = c.loop-alloc.invariant in
    let place = gate_of c.loop-alloc.file in
    IfOk-weaker c.read_last.result _ _ (λ read has.
    let both = has.1 tells file place i.ahead in
    known_of tells file (known_from read.book read.places.list place) both.0 has.0 both.1
    (λ told. subst (λ (s : State). place + 1 ≤ length s.seen) (i.same told) (told_inside _ (place + 1) _ (g.met.D.Disk.length_is c.loop-alloc.disk told) i.told)))
    c.read_last.ensures.ok

pub returns-clause-err : goal.returns-clause-err
returns-clause-err g c =
    let file = (g.D.Disk.state c.args.disk.now).bytes.seen in
    let i = c.loop-alloc.invariant in
    IfErr-weaker c.read_last.result _ _ (λ e why told. elim why [
      | inl none ↦ subst (IsReadErr file) (sym none) tt
      | inr bad ↦ subst (IsReadErr file) (sym bad.1) (bad.2 g.D.Disk.tells file (gate_of c.loop-alloc.file) i.ahead told (subst (λ (s : State). gate_of c.loop-alloc.file + 1 ≤ length s.seen) (i.same told) (told_inside _ (gate_of c.loop-alloc.file + 1) _ (g.met.D.Disk.length_is c.loop-alloc.disk told) i.told)))
    ])
    c.read_last.ensures.err
