use Rattle.std.proofs.Common.{sym, subst}
use Rattle.dump_export.specs.Exports.{IsShownText}
use Rattle.survivor_set.proofs.Kept.{place_stops, keeps_one}
use Rattle.survivor_set.proofs.keeping.keep_one.Goals as goal

pub returns-in_err-check_place-clause-kept : goal.returns-in_err-check_place-clause-kept
returns-in_err-check_place-clause-kept g c = λ tells h r.
    place_stops h c.args.point c.args.n c.from_residual.result c.in_err-check_place.field-0.0 c.args.fields.now c.args.fields.now c.from_residual.ensures (c.in_err-check_place.ensures.judged h r.floor)

pub returns-in-Ok-clause-kept : goal.returns-in-Ok-clause-kept
returns-in-Ok-clause-kept g c = λ tells h r.
    keeps_one h c.args.point c.args.n c.args.book.now c.as_slice.result.now c.put_kept.result c.args.fields.now c.put_kept.new.fields r.ends.serves.stands (c.in_ok-check_place.ensures.judged h r.floor)
    (subst (IsShownText h c.args.n) (sym c.as_slice.ensures) (c.in-Ok.ensures.bytes tells h r)) c.put_kept.ensures.puts
