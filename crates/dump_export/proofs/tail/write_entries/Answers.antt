use Rattle.std.proofs.Common.{◌≤◌, length, ap, refl, arith}
use Rattle.dump_model.specs.Shown.{ledger_dump}
use Rattle.dump_export.specs.Exports.{Writes, handed, done}
use Rattle.dump_export.specs.Texts.{first_entries, entry_at, entries_text}
use Rattle.dump_export.proofs.Exporting.{Answer, asked_both, asked_same, as_text, handed_on, nothing, one_fails, one_more}
use Rattle.dump_export.proofs.Texts.{all_entries, behind_entries, entries_are, next_entry, split_entries}
use Rattle.dump_export.proofs.tail.write_entries.Goals as goal

pub loop-k-init : goal.loop-k-init
loop-k-init g c = record {
  asked = asked_same (g.N.Notary.state c.args.notary.now);
  writes = λ tells book places file. nothing tells book places (first_entries 0) (handed file (g.N.Notary.state c.args.notary.now) (g.K.Sink.state c.args.sink.now)) (λ d. refl);
}

pub write_entry-requires : goal.write_entry-requires
write_entry-requires g c = omega (arith, c.requires, ap length c.loop-k.invariant.asked.entries)

pub loop-k-preserved : goal.loop-k-preserved
loop-k-preserved g c =
    let first = g.N.Notary.state c.args.notary.now in
    let here = g.N.Notary.state c.loop-k.notary in
    let later = g.N.Notary.state c.write_entry.new.notary in
    record {
      asked = asked_both first here later c.loop-k.invariant.asked c.write_entry.ensures.asked;
      writes = λ tells book places file.
          one_more tells book places first_entries entry_at next_entry c.loop-k.k
          (handed file first (g.K.Sink.state c.args.sink.now)) (handed file here (g.K.Sink.state c.loop-k.sink)) (handed file later (g.K.Sink.state c.write_entry.new.sink))
          (c.loop-k.invariant.writes tells book places file) (c.in_ok-write_entry.ensures.writes tells book places file);
    }

pub returns-in_err-write_entry-clause-writes : goal.returns-in_err-write_entry-clause-writes
returns-in_err-write_entry-clause-writes g c = λ tells book places file.
    let x = handed file (g.N.Notary.state c.args.notary.now) (g.K.Sink.state c.args.sink.now) in
    let y = handed file (g.N.Notary.state c.loop-k.notary) (g.K.Sink.state c.loop-k.sink) in
    let z = handed file (g.N.Notary.state c.write_entry.new.notary) (g.K.Sink.state c.write_entry.new.sink) in
    let e = c.in_err-write_entry.field-0.0 in
    handed_on c.from_residual.result e (λ (a : Answer). Writes tells book places entries_text a x z) c.from_residual.ensures
    (one_fails tells book places first_entries entry_at behind_entries entries_text split_entries c.loop-k.k e x y z
    (c.loop-k.invariant.writes tells book places file) (c.in_err-write_entry.ensures.writes tells book places file))

pub returns-clause-writes : goal.returns-clause-writes
returns-clause-writes g c = λ tells book places file.
    let first = g.N.Notary.state c.args.notary.now in
    let x = handed file first (g.K.Sink.state c.args.sink.now) in
    let z = handed file (g.N.Notary.state c.loop-k.notary) (g.K.Sink.state c.loop-k.sink) in
    as_text tells book places (first_entries c.loop-k.k) entries_text done x z
    (λ told h is.
    let all : length (ledger_dump h first.entries).entries ≤ c.loop-k.k = omega (arith, c.requires, c.loop-k-test.false, ap length (entries_are h first.entries)) in
    all_entries c.loop-k.k (ledger_dump h first.entries) all)
    (c.loop-k.invariant.writes tells book places file)
