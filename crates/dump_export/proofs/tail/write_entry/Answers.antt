use Rattle.std.specs.Prelude.{slice_get}
use Rattle.std.proofs.Common.{[], ℕ, List, ap, ◌∙◌}
use Rattle.dump_export.specs.Exports.{handed}
use Rattle.dump_export.specs.Texts.{entry_at}
use Rattle.dump_export.proofs.Exporting.{ask, both, notary_failed, one_piece}
use Rattle.dump_export.proofs.Texts.{entry_text_is}
use Rattle.dump_export.proofs.tail.write_entry.Goals as goal

pub returns-in-Ok-clause-writes : goal.returns-in-Ok-clause-writes
returns-in-Ok-clause-writes g c = λ tells book places file.
    let old = g.N.Notary.state c.args.notary.now in
    let new = g.N.Notary.state c.entry.new.self in
    let first = g.K.Sink.state c.args.sink.now in
    let last = g.K.Sink.state c.put.new.sink in
    let entry = c.in-Ok.ensures in
    both tells book places (λ d. []) (entry_at c.args.k) c.put.result (handed file old first) (handed file new first) (handed file new last)
    (ask tells book places file old new first entry.same entry.origin entry.faults)
    (one_piece tells book places (entry_at c.args.k) c.in-Ok.entry c.put.result file new first last
    (λ told h is. entry_text_is h new.entries c.args.k c.in-Ok.entry (ap (λ (es : List (List ℕ)). slice_get es c.args.k) entry.same ∙ entry.entry))
    c.put.ensures.puts)

pub returns-in-Err-clause-writes : goal.returns-in-Err-clause-writes
returns-in-Err-clause-writes g c = λ tells book places file.
    let entry = c.in-Err.ensures in
    notary_failed tells book places (List ℕ) (entry_at c.args.k) file (g.N.Notary.state c.args.notary.now) (g.N.Notary.state c.entry.new.self) (g.K.Sink.state c.args.sink.now) c.in-Err.field-0
    entry.err entry.same entry.origin entry.faults
