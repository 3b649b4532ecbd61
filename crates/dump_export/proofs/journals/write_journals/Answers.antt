use Rattle.std.proofs.Common.{◌≡◌, ◌≤◌, ◌+◌, ◌-◌, ℕ, List, [], Err, length, refl, sym, ap, subst, arith, ◌∙◌}
use Rattle.std.proofs.lemmas.List.Elements.{All-nil}
use Rattle.dump_model.specs.Shown.{ledger_dump}
use Rattle.ledger_disk.specs.Disk.{State}
use Rattle.ledger_open.specs.Pieces.{IsReadAs}
use Rattle.dump_export.specs.Damages.{IsWholeIn}
use Rattle.dump_export.specs.Exports.{TellsDamage, Writes, handed}
use Rattle.dump_export.specs.Gathers.{Gathers}
use Rattle.dump_export.specs.Texts.{first_journals, journals_text}
use Rattle.dump_export.proofs.Exporting.{Answer, as_text, handed_on, read_both, read_same}
use Rattle.dump_export.proofs.Gathering.{gathers_more, gathers_none, gathers_passed, gathers_put, gathers_read, given_up, given_up_tells, gives_same, of_all, put_tells, whole_then}
use Rattle.dump_export.proofs.Items.{no_notary, whole_all, whole_tells}
use Rattle.dump_export.proofs.Texts.{all_journals, book_of, count_is}
use Rattle.dump_export.proofs.journals.write_journals.Goals as goal

pub loop-index-init : goal.loop-index-init
loop-index-init g c =
    let told = g.D.Disk.tells in
    let book = c.args.book.now in
    let places = c.args.places.now.list in
    let file = g.D.Disk.state c.args.file.now in
    let sink = g.K.Sink.state c.args.sink.now in
    record {
      page = λ t. c.new-page.ensures file.bytes.seen;
      read = read_same told file;
      gathers = λ notary.
          let x = handed file notary sink in
          subst (λ (l : List ℕ). Gathers told book places (first_journals 0) l x x) (sym c.new-waiting.ensures.items) (gathers_none told book places (first_journals 0) x (λ d. refl));
      whole = λ t h r. All-nil (IsWholeIn h);
    }

pub add_journal-requires-clause-page : goal.add_journal-requires-clause-page
add_journal-requires-clause-page g c = c.loop-index.invariant.page

pub loop-index-preserved : goal.loop-index-preserved
loop-index-preserved g c =
    let told = g.D.Disk.tells in
    let book = c.args.book.now in
    let places = c.args.places.now.list in
    let first = g.D.Disk.state c.args.file.now in
    let here = g.D.Disk.state c.loop-index.file in
    let later = g.D.Disk.state c.add_journal.new.file in
    let s = g.K.Sink.state c.loop-index.sink in
    let t = g.K.Sink.state c.pass_on.new.sink in
    let k = c.loop-index.index in
    let n : ℕ = c.floor-first.result + k in
    let at : n - book.floor ≡ k = omega (arith, c.floor-first.ensures) in
    let low : book.floor ≤ n = omega (arith, c.floor-first.ensures) in
    let before = c.loop-index.invariant in
    let one = c.in-Ok.ensures in
    record {
      page = one.page;
      read = read_both told first here later before.read one.read;
      gathers = λ notary.
          let x = handed first notary (g.K.Sink.state c.args.sink.now) in
          gathers_passed told book places (first_journals (k + 1)) c.add_journal.new.waiting.items c.pass_on.new.waiting.items x later notary s t
          (gathers_read told book places (first_journals (k + 1)) c.add_journal.new.waiting.items x here later notary s
          (gathers_more told book places k n c.loop-index.waiting.items c.add_journal.new.waiting.items x here notary s (before.gathers notary) low at one.bytes) one.read one.no_fault)
          c.in_ok-pass_on-in-Ok.ensures;
      whole = λ tells h r.
          let read = subst (λ (s : State). IsReadAs book places s.seen h) (sym (before.read.bytes tells)) r in
          whole_then told book places k n c.loop-index.waiting.items c.add_journal.new.waiting.items h r.floor low at (one.bytes tells h read) (before.whole tells h r);
    }

pub returns-in-Err-clause-writes : goal.returns-in-Err-clause-writes
returns-in-Err-clause-writes g c = λ notary.
    let told = g.D.Disk.tells in
    let book = c.args.book.now in
    let places = c.args.places.now.list in
    let here = g.D.Disk.state c.loop-index.file in
    let later = g.D.Disk.state c.add_journal.new.file in
    let s = g.K.Sink.state c.loop-index.sink in
    let t = g.K.Sink.state c.give_up.new.sink in
    let x = handed (g.D.Disk.state c.args.file.now) notary (g.K.Sink.state c.args.sink.now) in
    let up = gives_same c.in-Err.e c.loop-index.waiting.items c.as_slice.result.now c.give_up.result s t (λ free. c.as_slice.ensures.value ∙ ap (λ v. v.items) (c.in-Err.ensures.kept free)) c.give_up.ensures in
    given_up told book places c.loop-index.index c.loop-index.waiting.items x here later notary s t (c.loop-index.invariant.gathers notary) c.in-Err.ensures.read c.in-Err.e c.give_up.result c.in-Err.ensures.err up

pub returns-in-Err-clause-damages : goal.returns-in-Err-clause-damages
returns-in-Err-clause-damages g c = λ tells h r.
    let told = g.D.Disk.tells in
    let book = c.args.book.now in
    let places = c.args.places.now.list in
    let k = c.loop-index.index in
    let n : ℕ = c.floor-first.result + k in
    let at : n - book.floor ≡ k = omega (arith, c.floor-first.ensures) in
    let low : book.floor ≤ n = omega (arith, c.floor-first.ensures) in
    let s = g.K.Sink.state c.loop-index.sink in
    let t = g.K.Sink.state c.give_up.new.sink in
    let before = c.loop-index.invariant in
    let read = subst (λ (s : State). IsReadAs book places s.seen h) (sym (before.read.bytes tells)) r in
    let up = gives_same c.in-Err.e c.loop-index.waiting.items c.as_slice.result.now c.give_up.result s t (λ free. c.as_slice.ensures.value ∙ ap (λ v. v.items) (c.in-Err.ensures.kept free)) c.give_up.ensures in
    given_up_tells told book places k n c.loop-index.waiting.items (g.D.Disk.state c.loop-index.file) (g.K.Sink.state c.args.sink.now) s t (g.D.Disk.state c.args.file.now) c.in-Err.e c.give_up.result h
    (before.gathers no_notary) tells r low at (before.whole tells h r) (c.in-Err.ensures.damages tells h read) up

pub returns-in_err-pass_on-in-Ok-clause-writes : goal.returns-in_err-pass_on-in-Ok-clause-writes
returns-in_err-pass_on-in-Ok-clause-writes g c = λ notary.
    let told = g.D.Disk.tells in
    let book = c.args.book.now in
    let places = c.args.places.now.list in
    let here = g.D.Disk.state c.loop-index.file in
    let later = g.D.Disk.state c.add_journal.new.file in
    let s = g.K.Sink.state c.loop-index.sink in
    let t = g.K.Sink.state c.pass_on.new.sink in
    let k = c.loop-index.index in
    let n : ℕ = c.floor-first.result + k in
    let at : n - book.floor ≡ k = omega (arith, c.floor-first.ensures) in
    let low : book.floor ≤ n = omega (arith, c.floor-first.ensures) in
    let one = c.in-Ok.ensures in
    let x = handed (g.D.Disk.state c.args.file.now) notary (g.K.Sink.state c.args.sink.now) in
    let z = handed later notary t in
    let e = c.in_err-pass_on-in-Ok.field-0.0 in
    handed_on c.from_residual.result e (λ (a : Answer). Writes told book places journals_text a x z) c.from_residual.ensures
    (of_all told book places (k + 1) e x z (gathers_put told book places (first_journals (k + 1)) c.add_journal.new.waiting.items (Err e) x later notary s t
    (gathers_read told book places (first_journals (k + 1)) c.add_journal.new.waiting.items x here later notary s
    (gathers_more told book places k n c.loop-index.waiting.items c.add_journal.new.waiting.items x here notary s (c.loop-index.invariant.gathers notary) low at one.bytes) one.read one.no_fault)
    c.in_err-pass_on-in-Ok.ensures))

pub returns-in_err-pass_on-in-Ok-clause-damages : goal.returns-in_err-pass_on-in-Ok-clause-damages
returns-in_err-pass_on-in-Ok-clause-damages g c = λ tells h r.
    let x = g.K.Sink.state c.args.sink.now in
    let t = g.K.Sink.state c.pass_on.new.sink in
    let e = c.in_err-pass_on-in-Ok.field-0.0 in
    handed_on c.from_residual.result e (λ (a : Answer). TellsDamage [] h a x t) c.from_residual.ensures
    (put_tells h c.add_journal.new.waiting.items e x (g.K.Sink.state c.loop-index.sink) t c.in_err-pass_on-in-Ok.ensures)

pub returns-clause-writes : goal.returns-clause-writes
returns-clause-writes g c = λ notary.
    let told = g.D.Disk.tells in
    let book = c.args.book.now in
    let places = c.args.places.now.list in
    let k = c.loop-index.index in
    let file = g.D.Disk.state c.loop-index.file in
    let s = g.K.Sink.state c.loop-index.sink in
    let t = g.K.Sink.state c.put.new.sink in
    let x = handed (g.D.Disk.state c.args.file.now) notary (g.K.Sink.state c.args.sink.now) in
    let waits = subst (λ (l : List ℕ). Gathers told book places (first_journals k) l x (handed file notary s)) (sym c.as_slice-2.ensures.value) (c.loop-index.invariant.gathers notary) in
    as_text told book places (first_journals k) journals_text c.put.result x (handed file notary t)
    (λ tells h is.
    let all : length (ledger_dump h notary.entries).items ≤ k =
    omega (arith, count_is book h notary.entries (book_of book places x.file.bytes.seen h is), c.loop-index-test.false, c.saturating_sub-count.ensures, c.size.ensures.size, c.floor-first.ensures) in
    all_journals k (ledger_dump h notary.entries) all)
    (gathers_put told book places (first_journals k) c.as_slice-2.result.now c.put.result x file notary s t waits c.put.ensures.puts)

pub returns-clause-damages : goal.returns-clause-damages
returns-clause-damages g c = λ tells h r.
    let book = c.args.book.now in
    let many : book.size - book.floor ≤ c.loop-index.index = omega (arith, c.loop-index-test.false, c.saturating_sub-count.ensures, c.size.ensures.size, c.floor-first.ensures) in
    whole_tells [] h c.put.result (g.K.Sink.state c.args.sink.now) (g.K.Sink.state c.put.new.sink)
    (whole_all book h c.loop-index.index (book_of book c.args.places.now.list (g.D.Disk.state c.args.file.now).bytes.seen h r) many (c.loop-index.invariant.whole tells h r)) c.put.ensures.only
