use Rattle.std.proofs.Common.{◌∙◌}
use Rattle.dump_export.specs.Texts.{front_text}
use Rattle.dump_export.proofs.Exporting.{one_piece, want_of_memory}
use Rattle.dump_export.proofs.Texts.{book_of}
use Rattle.dump_export.proofs.front.write_front.Goals as goal

pub returns-in_err-front-clause-writes : goal.returns-in_err-front-clause-writes
returns-in_err-front-clause-writes g c = λ tells places file notary.
    want_of_memory tells c.args.book.now places front_text c.from_residual.result file notary (g.K.Sink.state c.args.sink.now) c.from_residual.ensures

pub returns-clause-writes : goal.returns-clause-writes
returns-clause-writes g c = λ tells places file notary.
    one_piece tells c.args.book.now places front_text c.as_slice.result.now c.put.result file notary (g.K.Sink.state c.args.sink.now) (g.K.Sink.state c.put.new.sink)
    (λ told h is. c.as_slice.ensures ∙ c.in_ok-front.ensures h notary.entries (book_of c.args.book.now places file.bytes.seen h is))
    c.put.ensures.puts
