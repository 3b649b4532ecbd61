use Rattle.std.specs.Prelude.{option_copied}
use Rattle.std.proofs.Common.{◌≤◌, ◌<◌, arith, ap, sym, ◌∙◌}
use Rattle.std.proofs.lemmas.Result.{IfErr-weaker}
use Rattle.ledger_model.specs.History.{point, size}
use Rattle.dump_export.proofs.Exporting.{both_ok}
use Rattle.dump_export.proofs.Items.{damages_told, place_told, text_told}
use Rattle.dump_export.proofs.journal.read_journal.Goals as goal
use Rattle.dump_export.proofs.journal.read_journal.Goals.{in_default-via-in-Some+in_default, in_default-via-in_default}

pub returns-in-Some-Some-clause-bytes : goal.returns-in-Some-Some-clause-bytes
returns-in-Some-Some-clause-bytes g c =
    let file = (g.D.Disk.state c.args.file.now).bytes.seen in
    let book = c.args.book.now in
    both_ok c.read_parts.result _ _ _
    (λ bytes is whole tells h r.
    let low : point h ≤ c.args.n = omega (arith, r.floor, c.requires.low) in
    let high : c.args.n < size h = omega (arith, c.requires.high, r.ends.serves.stands.counts.size) in
    text_told file h book c.args.places.now.list r c.args.n c.requires.low c.in-Some-Some.header.now c.in-Some-Some.place
    (ap option_copied (sym c.in-Some-Some.is-0) ∙ c.header.ensures.header h r.ends.serves)
    (sym c.in-Some-Some.is-1 ∙ c.kept_place.ensures)
    c.is_hidden-hidden.result (c.is_hidden-hidden.ensures h r.ends.serves low high) bytes (is tells) (whole tells))
    c.read_parts.ensures.bytes c.read_parts.ensures.whole

pub returns-in-Some-Some-clause-damages : goal.returns-in-Some-Some-clause-damages
returns-in-Some-Some-clause-damages g c =
    let file = (g.D.Disk.state c.args.file.now).bytes.seen in
    let book = c.args.book.now in
    IfErr-weaker c.read_parts.result _ _
    (λ e of tells h r.
    let low : point h ≤ c.args.n = omega (arith, r.floor, c.requires.low) in
    let high : c.args.n < size h = omega (arith, c.requires.high, r.ends.serves.stands.counts.size) in
    damages_told file h book c.args.places.now.list r c.args.n c.requires.low c.in-Some-Some.header.now c.in-Some-Some.place
    (ap option_copied (sym c.in-Some-Some.is-0) ∙ c.header.ensures.header h r.ends.serves)
    (sym c.in-Some-Some.is-1 ∙ c.kept_place.ensures)
    c.is_hidden-hidden.result (c.is_hidden-hidden.ensures h r.ends.serves low high) e (of tells))
    c.read_parts.ensures.damages

pub returns-in_default-clause-damages : goal.returns-in_default-clause-damages
returns-in_default-clause-damages g c = λ tells h r.
    let file = (g.D.Disk.state c.args.file.now).bytes.seen in
    absurd (elim c.in_default.branch [
      | in_default-via-in-Some+in_default w ↦ place_told file h c.args.book.now c.args.places.now.list r c.args.n c.requires.low c.requires.high (sym w.in_default.is-1 ∙ c.kept_place.ensures)
      | in_default-via-in_default w ↦ cc (w.in_default.ensures.some c.requires.low c.requires.high)
    ])
