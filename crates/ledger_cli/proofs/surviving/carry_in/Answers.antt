use Rattle.std.proofs.Common.{List, ℕ, Ok, Err, subst}
use Rattle.batch_committer.specs.World.{Pair}
use Rattle.ledger_io.specs.Outside.{SourceState}
use Rattle.time_peg.specs.Entries.{NotaryState}
use Rattle.ledger_cli.specs.Runs.{handed, Signs}
use Rattle.ledger_cli.specs.Surviving.{HasCarried, IsCarriedText, IsUncarried}
use Rattle.ledger_cli.proofs.AskLaws.{nothing_told, one_told, some_signs}
use Rattle.ledger_cli.proofs.SurviveLaws.{refused_faults, refused_read, signed_read, uncarried_written, unread_carried, unread_faults, unread_read}
use Rattle.ledger_cli.proofs.surviving.carry_in.Goals as goal

pub returns-in-Err : goal.returns-in-Err
returns-in-Err g c =
    let u = c.in-Err.ensures.ended in
    let before = g.S.Source.state c.args.source.now in
    let after = g.S.Source.state c.read_set.new.source in
    let sink = g.K.Sink.state c.args.sink.now in record {
      read = u.read;
      consumed = u.consumed;
      has_read = unread_read before after u.read c.in-Err.ending u.why;
      carries = nothing_told c.args.book.now (IsCarriedText c.args.point u.read) (IsUncarried c.args.point u.read) _ before after sink
          (λ h serves. unread_carried before after u.read c.args.point h c.in-Err.ending u.why) (unread_faults before after u.read c.in-Err.ending u.why sink);
    }

pub returns-in-Ok-carry_bytes : goal.returns-in-Ok-carry_bytes
returns-in-Ok-carry_bytes g c =
    let r = c.in-Ok.ensures.read in
    let read = c.in-Ok.input.held in
    let q = c.args.point in
    let after = g.S.Source.state c.read_set.new.source in
    let sink = g.K.Sink.state c.args.sink.now in
    let t = g.K.Sink.state c.write_text.new.sink in
    let text = c.in-Ok-carry_bytes.text in
    let w : (source : SourceState) (disks : Pair) (notary : NotaryState) → Signs text c.write_text.result (handed source sink disks notary) (handed source t disks notary) = λ source disks notary. subst (λ (l : List ℕ). Signs l c.write_text.result (handed source sink disks notary) (handed source t disks notary)) c.as_slice-in-Ok-carry_bytes.ensures (c.write_text.ensures source disks notary) in record {
      read = read;
      consumed = r.consumed;
      has_read = signed_read text c.write_text.result _ _ after read r.whole (some_signs text c.write_text.result sink t w);
      carries = one_told c.args.book.now (IsCarriedText q read) (IsUncarried q read) (λ h. tt) (g.S.Source.state c.args.source.now) after r.counts sink t text c.write_text.result
          (λ h serves. subst (λ (l : List ℕ). HasCarried h q l (Ok text)) c.as_slice.ensures (c.in-Ok-carry_bytes.ensures.carries h serves)) w;
    }

pub returns : goal.returns
returns g c =
    let r = c.in-Ok.ensures.read in
    let read = c.in-Ok.input.held in
    let q = c.args.point in
    let e = c.in-Err-carry_bytes.error in
    let before = g.S.Source.state c.args.source.now in
    let after = g.S.Source.state c.read_set.new.source in
    let sink = g.K.Sink.state c.args.sink.now in
    rw c.from.ensures (record {
      read = read;
      consumed = r.consumed;
      has_read = refused_read e c.in-Err-carry_bytes.ensures.own after read r.whole;
      carries = nothing_told c.args.book.now (IsCarriedText q read) (IsUncarried q read) _ before after sink
          (λ h serves. uncarried_written h q read e (subst (λ (l : List ℕ). HasCarried h q l (Err e)) c.as_slice.ensures (c.in-Err-carry_bytes.ensures.carries h serves)))
          (refused_faults e c.in-Err-carry_bytes.ensures.own before after r.counts sink);
    })
