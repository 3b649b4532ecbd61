use Rattle.std.proofs.Common.{List, ℕ, Ok, Err, refl, subst}
use Rattle.batch_committer.specs.World.{Pair}
use Rattle.ledger_io.specs.Outside.{SourceState}
use Rattle.time_peg.specs.Entries.{NotaryState}
use Rattle.ledger_cli.specs.Runs.{handed, Signs}
use Rattle.ledger_cli.specs.Surviving.{HasRevived, IsRevivedText, IsUnrevived}
use Rattle.ledger_cli.proofs.AskLaws.{nothing_told, one_told, some_signs}
use Rattle.ledger_cli.proofs.SurviveLaws.{failed_asks, refused_faults, refused_read, signed_asks, signed_read, unasked, unread_faults, unread_read, unread_revived, unrevived_written}
use Rattle.ledger_cli.proofs.reviving.revive_in.Goals as goal

pub returns-in-Err : goal.returns-in-Err
returns-in-Err g c =
    let u = c.in-Err.ensures.ended in
    let before = g.S.Source.state c.args.source.now in
    let after = g.S.Source.state c.read_set.new.source in
    let sink = g.K.Sink.state c.args.sink.now in
    let n = g.N.Notary.state c.args.notary.now in record {
      revives = record {
        read = u.read;
        consumed = u.consumed;
        has_read = unread_read before after u.read c.in-Err.ending u.why;
        revives = nothing_told c.args.book.now (IsRevivedText n.entries u.read) (IsUnrevived u.read) _ before after sink
            (λ h serves. unread_revived before after u.read n.entries h c.in-Err.ending u.why) (unread_faults before after u.read c.in-Err.ending u.why sink);
      };
      asks = record { asked = unasked n; counts = refl };
    }

pub returns-in-Ok-revive_bytes : goal.returns-in-Ok-revive_bytes
returns-in-Ok-revive_bytes g c =
    let r = c.in-Ok.ensures.read in
    let read = c.in-Ok.input.held in
    let after = g.S.Source.state c.read_set.new.source in
    let sink = g.K.Sink.state c.args.sink.now in
    let t = g.K.Sink.state c.write_text.new.sink in
    let n = g.N.Notary.state c.args.notary.now in
    let m = g.N.Notary.state c.revive_bytes.new.notary in
    let text = c.in-Ok-revive_bytes.text in
    let w : (source : SourceState) (disks : Pair) (notary : NotaryState) → Signs text c.write_text.result (handed source sink disks notary) (handed source t disks notary) = λ source disks notary. subst (λ (l : List ℕ). Signs l c.write_text.result (handed source sink disks notary) (handed source t disks notary)) c.as_slice-in-Ok-revive_bytes.ensures (c.write_text.ensures source disks notary) in
    let some = some_signs text c.write_text.result sink t w in record {
      revives = record {
        read = read;
        consumed = r.consumed;
        has_read = signed_read text c.write_text.result _ _ after read r.whole some;
        revives = one_told c.args.book.now (IsRevivedText n.entries read) (IsUnrevived read) (λ h. tt) (g.S.Source.state c.args.source.now) after r.counts sink t text c.write_text.result
            (λ h serves. subst (λ (l : List ℕ). HasRevived h n.entries l (Ok text)) c.as_slice.ensures (c.in-Ok-revive_bytes.ensures.revives h serves)) w;
      };
      asks = signed_asks text text c.write_text.result _ _ n m c.in-Ok-revive_bytes.ensures.asks some;
    }

pub returns : goal.returns
returns g c =
    let r = c.in-Ok.ensures.read in
    let read = c.in-Ok.input.held in
    let e = c.in-Err-revive_bytes.error in
    let before = g.S.Source.state c.args.source.now in
    let after = g.S.Source.state c.read_set.new.source in
    let sink = g.K.Sink.state c.args.sink.now in
    let n = g.N.Notary.state c.args.notary.now in
    let m = g.N.Notary.state c.revive_bytes.new.notary in
    rw c.from.ensures (record {
      revives = record {
        read = read;
        consumed = r.consumed;
        has_read = refused_read e c.in-Err-revive_bytes.ensures.own after read r.whole;
        revives = nothing_told c.args.book.now (IsRevivedText n.entries read) (IsUnrevived read) _ before after sink
            (λ h serves. unrevived_written h n.entries read e (subst (λ (l : List ℕ). HasRevived h n.entries l (Err e)) c.as_slice.ensures (c.in-Err-revive_bytes.ensures.revives h serves)))
            (refused_faults e c.in-Err-revive_bytes.ensures.own before after r.counts sink);
      };
      asks = failed_asks e n m c.in-Err-revive_bytes.ensures.asks;
    })
