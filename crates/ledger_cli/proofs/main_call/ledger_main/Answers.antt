use Rattle.std.proofs.Common.{refl, ap, sym, subst, ◌∙◌}
use Rattle.ledger_disk.specs.Disk.{MayLeave}
use Rattle.batch_committer.specs.World.{pair}
use Rattle.ledger_bytes.specs.Causes.{Rose}
use Rattle.notary_ledger.specs.Clocks.{clock_times}
use Rattle.notary_ledger.specs.Notaries.{origin_of}
use Rattle.ledger_cli.specs.Keeping.{given}
use Rattle.ledger_cli.proofs.KeepingLaws.{for_memory, on_keeper, refused, named_some, served_origin}
use Rattle.ledger_cli.proofs.main_call.ledger_main.Goals as goal

pub returns-in-Err-clause-ran : goal.returns-in-Err-clause-ran
returns-in-Err-clause-ran g c =
    for_memory _ _ _ _ _ _ _ _ _ (record {
      unbegun = record { unread = refl; untouched = refl; last = c.finish.ensures.last };
      status_is = c.finish.ensures.status;
      words_are = c.in-Err.ensures.err;
      left = refl;
      faults = refl;
    })

pub returns-in-Ok-clause-ran : goal.returns-in-Ok-clause-ran
returns-in-Ok-clause-ran g c =
    let at_last = c.ledger_top-status-in-Ok.new.notary in
    on_keeper _ _ _ _ _ _ _ _ _ c.in-Some.seed (sym c.in-Ok-true.field-0-test ∙ c.in-Ok-true.ensures.ok) c.in-Some.is (record {
      first = record { origin = origin_of c.in-Ok.notary.seed (clock_times g.C.Clock.tells (g.C.Clock.moments c.in-Ok.notary.clock)) c.in-Ok.notary.begun; entries = c.in-Ok.notary.entries; faults = (g.E.Disk.state c.in-Ok.notary.disk).faults };
      last = record { origin = origin_of at_last.seed (clock_times g.C.Clock.tells (g.C.Clock.moments at_last.clock)) at_last.begun; entries = at_last.entries; faults = (g.E.Disk.state at_last.disk).faults };
      taken_up = record {
        list = c.in-Ok.ensures.list;
        lawful = c.in-Ok.ensures.lawful;
        origin = λ i. origin_of (c.in-Ok.ensures.kept.1 i) (clock_times g.C.Clock.tells (g.C.Clock.moments (c.in-Ok.ensures.kept.0 i))) (c.in-Ok.ensures.begun i);
        faults = c.in-Ok.ensures.faults;
      };
      stays = served_origin _ _ _ _ _ _ c.ledger_top-status-in-Ok.ensures.ran.served;
      left = record {
        half = at_last.half;
        images = λ t image left. c.images_have_the_list.ensures.images t image (subst (λ d. MayLeave (g.E.Disk.state d).bytes image) c.into_disk.ensures left);
        failed = λ some. subst (λ d. Rose at_last.begun (g.E.Disk.state d).faults) (sym c.into_disk.ensures) (c.images_have_the_list.ensures.failed some);
        faults = ap (λ d. (g.E.Disk.state d).faults) c.into_disk.ensures;
      };
      ran = c.ledger_top-status-in-Ok.ensures.ran;
    })

pub returns-in-Err-reopen-clause-ran : goal.returns-in-Err-reopen-clause-ran
returns-in-Err-reopen-clause-ran g c =
    let named = sym c.in-Ok-true.field-0-test ∙ c.in-Ok-true.ensures.ok in
    let disks = pair (g.D.Disk.state c.args.a.now) (g.D.Disk.state c.args.b.now) in
    let source = g.S.Source.state c.args.source.now in
    let finished = rw c.ending_of.ensures at c.finish_run.ensures in
    refused _ _ _ _ _ _ _ (given source (g.K.Sink.state c.args.sink.now) disks (g.E.Disk.state c.args.keeping.keeper)) (given source (g.K.Sink.state c.finish_run.new.sink) disks (g.E.Disk.state c.in-Err-reopen.keeper))
    c.in-Some.seed named c.in-Some.is (named_some _ named) c.in-Err-reopen.error refl refl c.in-Err-reopen.ensures.err c.in-Err-reopen.ensures.faults finished
