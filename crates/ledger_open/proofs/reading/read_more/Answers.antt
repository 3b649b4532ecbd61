use Rattle.std.proofs.Common.{sym, ◌∙◌, ap, subst, ◌+◌, ◌++◌, ℕ, List, arith, inl, inr}
use Rattle.block_file.specs.FileView.{gate_of}
use Rattle.block_file.specs.declared.block.BlockAt.{BlockAt}
use Rattle.ledger_open.specs.Ahead.{blocks_in, number_behind, IsAhead, IsStop}
use Rattle.ledger_open.specs.Opening.{IsReadErr, known_from}
use Rattle.ledger_open.proofs.AheadLaws.{ahead_both, next_blocks, number_below, place_grows}
use Rattle.ledger_open.proofs.reading.read_more.Goals as goal

pub overflow_add-first : goal.overflow_add-first
overflow_add-first g c =
    let tells = g.D.Disk.tells in
    let file = (g.D.Disk.state c.args.disk.now).bytes.seen in
    let n = c.requires.ahead in
    let k = known_from c.args.read.now.book c.args.read.now.places.list n.at in
    let bs = blocks_in c.args.ahead.now.blocks.items in
    let stop = c.args.ahead.now.stop in
    omega (arith, number_below tells file k c.size.result c.args.ahead.now.count bs stop c.size.ensures.size n.count_is c.requires.full n.are)

pub read_ahead-requires-clause-number : goal.read_ahead-requires-clause-number
read_ahead-requires-clause-number g c =
    let tells = g.D.Disk.tells in
    let file = (g.D.Disk.state c.args.disk.now).bytes.seen in
    let n = c.requires.ahead in
    let k = known_from c.args.read.now.book c.args.read.now.places.list n.at in
    let bs = blocks_in c.args.ahead.now.blocks.items in
    let stop = c.args.ahead.now.stop in
    number_below tells file k c.size.result c.args.ahead.now.count bs stop c.size.ensures.size n.count_is c.requires.full n.are

pub take_beside-requires-clause-ahead : goal.take_beside-requires-clause-ahead
take_beside-requires-clause-ahead g c =
    let tells = g.D.Disk.tells in
    let file = (g.D.Disk.state c.args.disk.now).bytes.seen in
    let n = c.requires.ahead in
    let k = known_from c.args.read.now.book c.args.read.now.places.list n.at in
    let bs = blocks_in c.args.ahead.now.blocks.items in
    let stop = c.args.ahead.now.stop in
    let cs = blocks_in c.in-Ok.next.blocks.items in
    let place = gate_of c.args.file.now in
    let end = subst (λ (p : ℕ). IsStop tells file p (number_behind (c.size.result + c.args.ahead.now.count) cs) c.in-Ok.next.stop) c.in-Ok.ensures.place c.in-Ok.ensures.stop in
    let a = ahead_both tells file k c.size.result c.args.ahead.now.count place bs cs stop c.in-Ok.next.stop c.size.ensures.size n.count_is n.place_is n.are c.in-Ok.ensures.read end in
    let b = subst (λ (l : List BlockAt). IsAhead tells file k (l ++ cs) c.in-Ok.next.stop) (ap blocks_in (sym c.as_slice.ensures.value)) a in
    (tells, file, n.at, cs, c.in-Ok.next.stop, b)

pub returns-in-Ok-take_beside-clause-ok : goal.returns-in-Ok-take_beside-clause-ok
returns-in-Ok-take_beside-clause-ok g c =
    let tells = g.D.Disk.tells in
    let file = (g.D.Disk.state c.args.disk.now).bytes.seen in
    let n = c.requires.ahead in
    let k = known_from c.args.read.now.book c.args.read.now.places.list n.at in
    let bs = blocks_in c.args.ahead.now.blocks.items in
    let stop = c.args.ahead.now.stop in
    let cs = blocks_in c.in-Ok.next.blocks.items in
    let place = gate_of c.args.file.now in
    let end = subst (λ (p : ℕ). IsStop tells file p (number_behind (c.size.result + c.args.ahead.now.count) cs) c.in-Ok.next.stop) c.in-Ok.ensures.place c.in-Ok.ensures.stop in
    let a = ahead_both tells file k c.size.result c.args.ahead.now.count place bs cs stop c.in-Ok.next.stop c.size.ensures.size n.count_is n.place_is n.are c.in-Ok.ensures.read end in
    let b = subst (λ (l : List BlockAt). IsAhead tells file k (l ++ cs) c.in-Ok.next.stop) (ap blocks_in (sym c.as_slice.ensures.value)) a in
    let o = c.in-Ok-take_beside.ensures in
    next_blocks tells file c.take_beside.new.book c.take_beside.new.places.list n.at place (gate_of c.read_ahead.new.file) bs (blocks_in c.as_slice.result.now) c.in-Ok.next c.take_beside.new.next
    (ap blocks_in c.as_slice.ensures.value) n.place_is c.in-Ok.ensures.place c.in-Ok.ensures.count o.blocks o.count o.stop o.hashed (o.ok.goes tells file n.at cs c.in-Ok.next.stop b)

pub returns-in-Ok-take_beside-clause-nearer : goal.returns-in-Ok-take_beside-clause-nearer
returns-in-Ok-take_beside-clause-nearer g c =
    let grows = place_grows (gate_of c.args.file.now) (gate_of c.read_ahead.new.file) c.in-Ok.next.blocks.items c.in-Ok.ensures.place in
    (λ full. omega (arith, grows, c.in-Ok.ensures.some (sym c.in-Ok-take_beside.ensures.stop ∙ full)), omega (arith, grows))

pub returns-in-Err-take_beside-clause-err : goal.returns-in-Err-take_beside-clause-err
returns-in-Err-take_beside-clause-err g c told =
    let tells = g.D.Disk.tells in
    let file = (g.D.Disk.state c.args.disk.now).bytes.seen in
    let n = c.requires.ahead in
    let k = known_from c.args.read.now.book c.args.read.now.places.list n.at in
    let bs = blocks_in c.args.ahead.now.blocks.items in
    let stop = c.args.ahead.now.stop in
    let cs = blocks_in c.in-Ok.next.blocks.items in
    let place = gate_of c.args.file.now in
    let end = subst (λ (p : ℕ). IsStop tells file p (number_behind (c.size.result + c.args.ahead.now.count) cs) c.in-Ok.next.stop) c.in-Ok.ensures.place c.in-Ok.ensures.stop in
    let a = ahead_both tells file k c.size.result c.args.ahead.now.count place bs cs stop c.in-Ok.next.stop c.size.ensures.size n.count_is n.place_is n.are c.in-Ok.ensures.read end in
    let b = subst (λ (l : List BlockAt). IsAhead tells file k (l ++ cs) c.in-Ok.next.stop) (ap blocks_in (sym c.as_slice.ensures.value)) a in
    elim c.in-Err-take_beside.ensures.err [
      | inl none ↦ subst (IsReadErr file) (sym none) tt
      | inr why ↦ subst (IsReadErr file) (sym why.1) (why.2.bad tells file n.at cs c.in-Ok.next.stop b told)
    ]
