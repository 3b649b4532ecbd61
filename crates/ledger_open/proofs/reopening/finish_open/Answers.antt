use Rattle.std.proofs.Common.{sym, ap, subst, ◌∙◌}
use Rattle.std.proofs.lemmas.Result.{on_ok_weaker}
use Rattle.block_file.specs.FileView.{gate_of}
use Rattle.twin_file.specs.Which.{file_of}
use Rattle.twin_file.specs.declared.twin.Twin.{Twin}
use Rattle.ledger_open.specs.Cutting.{IsPrepared}
use Rattle.ledger_open.specs.Erasing.{AllInside}
use Rattle.ledger_open.specs.declared.opened.Opened.{Opened}
use Rattle.ledger_open.proofs.FinishLaws.{places_inside}
use Rattle.ledger_open.proofs.StepLaws.{trim_pairs, trim_clean, erase_pairs, erase_clean, purge_pairs, purge_clean, clear_pairs, clear_clean, clear_known, clear_edition}
use Rattle.ledger_open.proofs.reopening.finish_open.Goals as goal

pub finish_erasures-requires-clause-inside : goal.finish_erasures-requires-clause-inside
finish_erasures-requires-clause-inside g c =
    subst (λ (t : Twin). AllInside (gate_of (file_of t)) c.args.opened.now.places.list) (sym c.trim_open.ensures.same) (places_inside _ c.requires.read.blocks c.requires.read.knows)

pub complete-requires-clause-inside : goal.complete-requires-clause-inside
complete-requires-clause-inside g c =
    subst (λ (o : Opened). AllInside (gate_of (file_of o.twin)) o.places.list) (sym c.finish_erasures.ensures.same)
    (subst (λ (t : Twin). AllInside (gate_of (file_of t)) c.args.opened.now.places.list) (sym c.trim_open.ensures.same) (places_inside _ c.requires.read.blocks c.requires.read.knows))

pub complete-requires-clause-prepared : goal.complete-requires-clause-prepared
complete-requires-clause-prepared g c = subst (λ (o : Opened). IsPrepared o.book o.places.list c.args.purge) (sym c.finish_erasures.ensures.same) c.requires.prepared

pub returns-in_err-trim_open-clause-images : goal.returns-in_err-trim_open-clause-images
returns-in_err-trim_open-clause-images g c =
    trim_pairs g.D.Disk.tells c.args.opened.now (g.D.Disk.state c.args.a.now) (g.D.Disk.state c.args.b.now) c.requires.read (g.D.Disk.state c.trim_open.new.a) (g.D.Disk.state c.trim_open.new.b) c.trim_open.ensures.images c.trim_open.ensures.other

pub returns-in_err-trim_open-clause-clean : goal.returns-in_err-trim_open-clause-clean
returns-in_err-trim_open-clause-clean g c =
    trim_clean g.D.Disk.tells c.args.opened.now (g.D.Disk.state c.args.a.now) (g.D.Disk.state c.args.b.now) c.requires.read (g.D.Disk.state c.trim_open.new.a) (g.D.Disk.state c.trim_open.new.b) c.trim_open.ensures.images c.trim_open.ensures.other c.in_err-trim_open.ensures.idle

pub returns-in_err-finish_erasures-clause-images : goal.returns-in_err-finish_erasures-clause-images
returns-in_err-finish_erasures-clause-images g c =
    erase_pairs g.D.Disk.tells c.args.opened.now (g.D.Disk.state c.args.a.now) (g.D.Disk.state c.args.b.now) c.requires.read (g.D.Disk.state c.trim_open.new.a) (g.D.Disk.state c.trim_open.new.b) c.trim_open.ensures.images c.trim_open.ensures.other
    c.trim_open.new.twin c.trim_open.ensures.same c.in_ok-trim_open.ensures.ok (g.D.Disk.state c.finish_erasures.new.a) (g.D.Disk.state c.finish_erasures.new.b) c.finish_erasures.ensures.images c.finish_erasures.ensures.shown c.finish_erasures.ensures.idle c.finish_erasures.ensures.other

pub returns-in_err-finish_erasures-clause-clean : goal.returns-in_err-finish_erasures-clause-clean
returns-in_err-finish_erasures-clause-clean g c =
    erase_clean g.D.Disk.tells c.args.opened.now (g.D.Disk.state c.args.a.now) (g.D.Disk.state c.args.b.now) c.requires.read (g.D.Disk.state c.trim_open.new.a) (g.D.Disk.state c.trim_open.new.b) c.trim_open.ensures.images c.trim_open.ensures.other
    c.trim_open.new.twin c.trim_open.ensures.same c.in_ok-trim_open.ensures.ok (g.D.Disk.state c.finish_erasures.new.a) (g.D.Disk.state c.finish_erasures.new.b) c.finish_erasures.ensures.images c.finish_erasures.ensures.shown c.finish_erasures.ensures.idle c.finish_erasures.ensures.other

pub returns-in_err-complete-clause-images : goal.returns-in_err-complete-clause-images
returns-in_err-complete-clause-images g c =
    purge_pairs g.D.Disk.tells c.args.opened.now (g.D.Disk.state c.args.a.now) (g.D.Disk.state c.args.b.now) c.requires.read (g.D.Disk.state c.trim_open.new.a) (g.D.Disk.state c.trim_open.new.b) c.trim_open.ensures.images c.trim_open.ensures.other
    c.trim_open.new.twin c.trim_open.ensures.same c.in_ok-trim_open.ensures.ok (g.D.Disk.state c.finish_erasures.new.a) (g.D.Disk.state c.finish_erasures.new.b) c.finish_erasures.ensures.images c.finish_erasures.ensures.shown c.finish_erasures.ensures.idle c.finish_erasures.ensures.other
    c.in_ok-finish_erasures.ensures.bytes c.in_ok-finish_erasures.ensures.some c.finish_erasures.ensures.rest c.finish_erasures.new.opened (c.finish_erasures.ensures.same ∙ ap (λ (t : Twin). record c.args.opened.now { twin = t }) c.trim_open.ensures.same) c.complete.new.opened (g.D.Disk.state c.complete.new.a) (g.D.Disk.state c.complete.new.b) c.complete.ensures.left.images c.complete.ensures.left.idle c.complete.ensures.same

pub returns-in_err-complete-clause-clean : goal.returns-in_err-complete-clause-clean
returns-in_err-complete-clause-clean g c =
    purge_clean g.D.Disk.tells c.args.opened.now (g.D.Disk.state c.args.a.now) (g.D.Disk.state c.args.b.now) c.requires.read (g.D.Disk.state c.trim_open.new.a) (g.D.Disk.state c.trim_open.new.b) c.trim_open.ensures.images c.trim_open.ensures.other
    c.trim_open.new.twin c.trim_open.ensures.same c.in_ok-trim_open.ensures.ok (g.D.Disk.state c.finish_erasures.new.a) (g.D.Disk.state c.finish_erasures.new.b) c.finish_erasures.ensures.images c.finish_erasures.ensures.shown c.finish_erasures.ensures.idle c.finish_erasures.ensures.other
    c.in_ok-finish_erasures.ensures.bytes c.in_ok-finish_erasures.ensures.some c.finish_erasures.ensures.rest c.finish_erasures.new.opened (c.finish_erasures.ensures.same ∙ ap (λ (t : Twin). record c.args.opened.now { twin = t }) c.trim_open.ensures.same) c.complete.new.opened (g.D.Disk.state c.complete.new.a) (g.D.Disk.state c.complete.new.b) c.complete.ensures.left.images c.complete.ensures.left.idle c.complete.ensures.same

pub returns-clause-images : goal.returns-clause-images
returns-clause-images g c =
    clear_pairs g.D.Disk.tells c.args.opened.now (g.D.Disk.state c.args.a.now) (g.D.Disk.state c.args.b.now) c.requires.read (g.D.Disk.state c.trim_open.new.a) (g.D.Disk.state c.trim_open.new.b) c.trim_open.ensures.images c.trim_open.ensures.other
    c.trim_open.new.twin c.trim_open.ensures.same c.in_ok-trim_open.ensures.ok (g.D.Disk.state c.finish_erasures.new.a) (g.D.Disk.state c.finish_erasures.new.b) c.finish_erasures.ensures.images c.finish_erasures.ensures.shown c.finish_erasures.ensures.idle c.finish_erasures.ensures.other
    c.in_ok-finish_erasures.ensures.bytes c.in_ok-finish_erasures.ensures.some c.finish_erasures.ensures.rest c.finish_erasures.new.opened (c.finish_erasures.ensures.same ∙ ap (λ (t : Twin). record c.args.opened.now { twin = t }) c.trim_open.ensures.same) c.complete.new.opened (g.D.Disk.state c.complete.new.a) (g.D.Disk.state c.complete.new.b) c.complete.ensures.left.images c.complete.ensures.left.idle c.complete.ensures.same
    c.in_ok-complete.ensures.done.clean c.in_ok-complete.ensures.done.purges c.in_a.result c.in_a.ensures (g.D.Disk.state c.clear_other.new.a) (g.D.Disk.state c.clear_other.new.b) c.clear_other.ensures.open_stays c.clear_other.ensures.front c.clear_other.ensures.idle

pub returns-clause-clean : goal.returns-clause-clean
returns-clause-clean g c =
    clear_clean g.D.Disk.tells c.args.opened.now (g.D.Disk.state c.args.a.now) (g.D.Disk.state c.args.b.now) c.requires.read (g.D.Disk.state c.trim_open.new.a) (g.D.Disk.state c.trim_open.new.b) c.trim_open.ensures.images c.trim_open.ensures.other
    c.trim_open.new.twin c.trim_open.ensures.same c.in_ok-trim_open.ensures.ok (g.D.Disk.state c.finish_erasures.new.a) (g.D.Disk.state c.finish_erasures.new.b) c.finish_erasures.ensures.images c.finish_erasures.ensures.shown c.finish_erasures.ensures.idle c.finish_erasures.ensures.other
    c.in_ok-finish_erasures.ensures.bytes c.in_ok-finish_erasures.ensures.some c.finish_erasures.ensures.rest c.finish_erasures.new.opened (c.finish_erasures.ensures.same ∙ ap (λ (t : Twin). record c.args.opened.now { twin = t }) c.trim_open.ensures.same) c.complete.new.opened (g.D.Disk.state c.complete.new.a) (g.D.Disk.state c.complete.new.b) c.complete.ensures.left.images c.complete.ensures.left.idle c.complete.ensures.same
    c.in_ok-complete.ensures.done.clean c.in_ok-complete.ensures.done.purges c.in_a.result c.in_a.ensures (g.D.Disk.state c.clear_other.new.a) (g.D.Disk.state c.clear_other.new.b) c.clear_other.ensures.open_stays c.clear_other.ensures.front c.clear_other.ensures.idle

pub returns-clause-ok : goal.returns-clause-ok
returns-clause-ok g c =
    on_ok_weaker c.clear_other.result (λ cleared. clear_known g.D.Disk.tells c.args.opened.now (g.D.Disk.state c.args.a.now) (g.D.Disk.state c.args.b.now) c.requires.read (g.D.Disk.state c.trim_open.new.a) (g.D.Disk.state c.trim_open.new.b) c.trim_open.ensures.images c.trim_open.ensures.other
    c.trim_open.new.twin c.trim_open.ensures.same c.in_ok-trim_open.ensures.ok (g.D.Disk.state c.finish_erasures.new.a) (g.D.Disk.state c.finish_erasures.new.b) c.finish_erasures.ensures.images c.finish_erasures.ensures.shown c.finish_erasures.ensures.idle c.finish_erasures.ensures.other
    c.in_ok-finish_erasures.ensures.bytes c.in_ok-finish_erasures.ensures.some c.finish_erasures.ensures.rest c.finish_erasures.new.opened (c.finish_erasures.ensures.same ∙ ap (λ (t : Twin). record c.args.opened.now { twin = t }) c.trim_open.ensures.same) c.complete.new.opened (g.D.Disk.state c.complete.new.a) (g.D.Disk.state c.complete.new.b) c.complete.ensures.left.images c.complete.ensures.left.idle c.complete.ensures.same
    c.in_ok-complete.ensures.done.clean c.in_ok-complete.ensures.done.purges c.in_a.result c.in_a.ensures (g.D.Disk.state c.clear_other.new.a) (g.D.Disk.state c.clear_other.new.b) c.clear_other.ensures.open_stays c.clear_other.ensures.front c.clear_other.ensures.idle
    cleared) c.clear_other.ensures.ok

pub returns-clause-edition : goal.returns-clause-edition
returns-clause-edition g c =
    on_ok_weaker c.clear_other.result (λ cleared. clear_edition g.D.Disk.tells c.args.opened.now (g.D.Disk.state c.args.a.now) (g.D.Disk.state c.args.b.now) c.requires.read (g.D.Disk.state c.trim_open.new.a) (g.D.Disk.state c.trim_open.new.b) c.trim_open.ensures.images c.trim_open.ensures.other
    c.trim_open.new.twin c.trim_open.ensures.same c.in_ok-trim_open.ensures.ok (g.D.Disk.state c.finish_erasures.new.a) (g.D.Disk.state c.finish_erasures.new.b) c.finish_erasures.ensures.images c.finish_erasures.ensures.shown c.finish_erasures.ensures.idle c.finish_erasures.ensures.other
    c.in_ok-finish_erasures.ensures.bytes c.in_ok-finish_erasures.ensures.some c.finish_erasures.ensures.rest c.finish_erasures.new.opened (c.finish_erasures.ensures.same ∙ ap (λ (t : Twin). record c.args.opened.now { twin = t }) c.trim_open.ensures.same) c.complete.new.opened (g.D.Disk.state c.complete.new.a) (g.D.Disk.state c.complete.new.b) c.complete.ensures.left.images c.complete.ensures.left.idle c.complete.ensures.same
    c.in_ok-complete.ensures.done.clean c.in_ok-complete.ensures.done.purges c.in_a.result c.in_a.ensures (g.D.Disk.state c.clear_other.new.a) (g.D.Disk.state c.clear_other.new.b) c.clear_other.ensures.open_stays c.clear_other.ensures.front c.clear_other.ensures.idle) c.clear_other.ensures.ok
