use Rattle.std.proofs.Common.{◌∙◌}
use Rattle.dump_export.specs.Texts.{head_text}
use Rattle.dump_export.proofs.Exporting.{one_piece, want_of_memory}
use Rattle.dump_export.proofs.Texts.{book_of, head_is}
use Rattle.dump_export.proofs.tail.write_head.Goals as goal

pub returns-in_err-head-clause-writes : goal.returns-in_err-head-clause-writes
returns-in_err-head-clause-writes g c = λ tells places file.
    want_of_memory tells c.args.book.now places head_text c.from_residual.result file (g.N.Notary.state c.args.notary.now) (g.K.Sink.state c.args.sink.now) c.from_residual.ensures

pub returns-clause-writes : goal.returns-clause-writes
returns-clause-writes g c = λ tells places file.
    let notary = g.N.Notary.state c.args.notary.now in
    one_piece tells c.args.book.now places head_text c.as_slice.result.now c.put.result file notary (g.K.Sink.state c.args.sink.now) (g.K.Sink.state c.put.new.sink)
    (λ told h is.
    let of = book_of c.args.book.now places file.bytes.seen h is in
    c.as_slice.ensures ∙ (c.in_ok-head.ensures ∙ head_is c.args.book.now h notary.entries c.head.result c.args.count of (c.head.ensures h of.serves.stands) c.requires))
    c.put.ensures.puts
