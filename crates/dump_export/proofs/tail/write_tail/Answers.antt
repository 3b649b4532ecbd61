use Rattle.std.proofs.Common.{[], ◌++◌, Err, ap, sym, ◌∙◌}
use Rattle.sha2.specs.Sha256.{sha256}
use Rattle.tree_model.specs.Tree.{mth}
use Rattle.merkle_tree.specs.declared.head.Head.{Head}
use Rattle.dump_export.specs.Exports.{Writes, handed}
use Rattle.dump_export.specs.Texts.{head_text, entries_text, root_text, tail_text}
use Rattle.dump_export.proofs.Exporting.{Answer, ask, both, handed_on, notary_failed, one_piece, stops}
use Rattle.dump_export.proofs.Texts.{root_is}
use Rattle.dump_export.proofs.tail.write_tail.Goals as goal

pub returns-in_err-write_head-in-Ok-clause-writes : goal.returns-in_err-write_head-in-Ok-clause-writes
returns-in_err-write_head-in-Ok-clause-writes g c = λ tells places file.
    let book = c.args.book.now in
    let first = g.N.Notary.state c.args.notary.now in
    let now = g.N.Notary.state c.head.new.self in
    let x = handed file first (g.K.Sink.state c.args.sink.now) in
    let y = handed file now (g.K.Sink.state c.args.sink.now) in
    let z = handed file now (g.K.Sink.state c.write_head.new.sink) in
    let list = c.in-Ok.ensures in
    let e = c.in_err-write_head-in-Ok.field-0.0 in
    handed_on c.from_residual.result e (λ (a : Answer). Writes tells book places tail_text a x z) c.from_residual.ensures
    (both tells book places (λ d. []) tail_text (Err e) x y z
    (ask tells book places file first now (g.K.Sink.state c.args.sink.now) list.same list.origin list.faults)
    (stops tells book places head_text (λ d. entries_text d ++ root_text d) e y z (c.in_err-write_head-in-Ok.ensures.writes tells places file)))

pub returns-in_err-write_entries-in-Ok-clause-writes : goal.returns-in_err-write_entries-in-Ok-clause-writes
returns-in_err-write_entries-in-Ok-clause-writes g c = λ tells places file.
    let book = c.args.book.now in
    let first = g.N.Notary.state c.args.notary.now in
    let now = g.N.Notary.state c.head.new.self in
    let x = handed file first (g.K.Sink.state c.args.sink.now) in
    let y = handed file now (g.K.Sink.state c.args.sink.now) in
    let z = handed file now (g.K.Sink.state c.write_head.new.sink) in
    let u = handed file (g.N.Notary.state c.write_entries.new.notary) (g.K.Sink.state c.write_entries.new.sink) in
    let list = c.in-Ok.ensures in
    let e = c.in_err-write_entries-in-Ok.field-0.0 in
    handed_on c.from_residual-in_err-write_entries-in-Ok.result e (λ (a : Answer). Writes tells book places tail_text a x u) c.from_residual-in_err-write_entries-in-Ok.ensures
    (both tells book places (λ d. []) tail_text (Err e) x y u
    (ask tells book places file first now (g.K.Sink.state c.args.sink.now) list.same list.origin list.faults)
    (both tells book places head_text (λ d. entries_text d ++ root_text d) (Err e) y z u (c.in_ok-write_head-in-Ok.ensures.writes tells places file)
    (stops tells book places entries_text root_text e z u (c.in_err-write_entries-in-Ok.ensures.writes tells book places file))))

pub returns-in_ok-write_entries-in-Ok-clause-writes : goal.returns-in_ok-write_entries-in-Ok-clause-writes
returns-in_ok-write_entries-in-Ok-clause-writes g c = λ tells places file.
    let book = c.args.book.now in
    let first = g.N.Notary.state c.args.notary.now in
    let now = g.N.Notary.state c.head.new.self in
    let last = g.N.Notary.state c.write_entries.new.notary in
    let x = handed file first (g.K.Sink.state c.args.sink.now) in
    let y = handed file now (g.K.Sink.state c.args.sink.now) in
    let z = handed file now (g.K.Sink.state c.write_head.new.sink) in
    let u = handed file last (g.K.Sink.state c.write_entries.new.sink) in
    let v = handed file last (g.K.Sink.state c.put.new.sink) in
    let list = c.in-Ok.ensures in
    both tells book places (λ d. []) tail_text c.put.result x y v
    (ask tells book places file first now (g.K.Sink.state c.args.sink.now) list.same list.origin list.faults)
    (both tells book places head_text (λ d. entries_text d ++ root_text d) c.put.result y z v (c.in_ok-write_head-in-Ok.ensures.writes tells places file)
    (both tells book places entries_text root_text c.put.result z u v (c.in_ok-write_entries-in-Ok.ensures.writes tells book places file)
    (one_piece tells book places root_text c.in-Ok.list.root.0 c.put.result file last (g.K.Sink.state c.write_entries.new.sink) (g.K.Sink.state c.put.new.sink)
    (λ told h is. root_is h last.entries c.in-Ok.list.root.0 (list.root ∙ ap (mth sha256) (sym (c.in_ok-write_entries-in-Ok.ensures.asked.entries ∙ list.same))))
    c.put.ensures.puts)))

pub returns-in-Err-clause-writes : goal.returns-in-Err-clause-writes
returns-in-Err-clause-writes g c = λ tells places file.
    let head = c.in-Err.ensures in
    notary_failed tells c.args.book.now places Head tail_text file (g.N.Notary.state c.args.notary.now) (g.N.Notary.state c.head.new.self) (g.K.Sink.state c.args.sink.now) c.in-Err.field-0
    head.err head.same head.origin head.faults
