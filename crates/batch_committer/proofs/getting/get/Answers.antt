use Rattle.std.specs.Prelude.{option_copied}
use Rattle.std.proofs.Common.{inl, inr, sym, ap, ◌∙◌}
use Rattle.std.proofs.lemmas.Result.{IfOk-weaker}
use Rattle.batch_committer.proofs.GetLaws.{told_absent, told_purged, told_whole, told_occulted, told_none}
use Rattle.batch_committer.proofs.getting.get.Goals as goal
use Rattle.batch_committer.proofs.getting.get.Goals.{in_default-via-in-Some+in_default, in_default-via-in_default, in_default-2-via-in-Some+in_default, in_default-2-via-in_default}

pub returns-in-Absent-clause-told : goal.returns-in-Absent-clause-told
returns-in-Absent-clause-told g c = λ tells h r.
    told_absent h c.args.n c.no_journal.result c.view.result c.in-Absent.is (c.view.ensures h r.ends.serves) (c.no_journal.ensures h r.ends.serves r.ends.none)

pub returns-in-Purged-clause-told : goal.returns-in-Purged-clause-told
returns-in-Purged-clause-told g c = λ tells h r.
    told_purged h c.args.n c.in-Purged.point c.view.result c.in-Purged.is (c.view.ensures h r.ends.serves)

pub returns-in-Some-Some-clause-told : goal.returns-in-Some-Some-clause-told
returns-in-Some-Some-clause-told g c =
    IfOk-weaker c.occulted.result _ _
    (λ reply told tells h r.
    told tells
    ∙ told_occulted (g.D.Disk.state c.args.file.now).bytes.seen h c.args.n c.args.book.now c.args.places.now.list r c.view.result (c.view.ensures h r.ends.serves) c.in-Some-Some.header.now c.in-Some-Some.place c.in-Occulted.is
    (ap option_copied (sym c.in-Some-Some.is-0) ∙ c.header-header.ensures.header h r.ends.serves)
    (sym c.in-Some-Some.is-1 ∙ c.kept_place-place.ensures))
    c.occulted.ensures.told

pub returns-in_default-clause-told : goal.returns-in_default-clause-told
returns-in_default-clause-told g c = λ tells h r.
    told_none (g.D.Disk.state c.args.file.now).bytes.seen h c.args.n c.args.book.now c.args.places.now.list r c.view.result (c.view.ensures h r.ends.serves) c.no_journal-in_default.result (inr c.in-Occulted.is)
    (elim c.in_default.branch [
      | in_default-via-in-Some+in_default w ↦ inr (sym w.in_default.is-1 ∙ c.kept_place-place.ensures)
      | in_default-via-in_default w ↦ inl (ap option_copied (sym w.in_default.is-0) ∙ c.header-header.ensures.header h r.ends.serves)
    ])
    (c.no_journal-in_default.ensures h r.ends.serves r.ends.none)

pub returns-in-Some-Some-2-clause-told : goal.returns-in-Some-Some-2-clause-told
returns-in-Some-Some-2-clause-told g c =
    IfOk-weaker c.whole.result _ _
    (λ reply told tells h r.
    told tells
    ∙ told_whole (g.D.Disk.state c.args.file.now).bytes.seen h c.args.n c.args.book.now c.args.places.now.list r c.view.result (c.view.ensures h r.ends.serves) c.in-Some-Some-2.header.now c.in-Some-Some-2.place c.in-Whole.is
    (ap option_copied (sym c.in-Some-Some-2.is-0) ∙ c.header-header.ensures.header h r.ends.serves)
    (sym c.in-Some-Some-2.is-1 ∙ c.kept_place-place.ensures))
    c.whole.ensures.told

pub returns-in_default-2-clause-told : goal.returns-in_default-2-clause-told
returns-in_default-2-clause-told g c = λ tells h r.
    told_none (g.D.Disk.state c.args.file.now).bytes.seen h c.args.n c.args.book.now c.args.places.now.list r c.view.result (c.view.ensures h r.ends.serves) c.no_journal-in_default-2.result (inl c.in-Whole.is)
    (elim c.in_default-2.branch [
      | in_default-2-via-in-Some+in_default w ↦ inr (sym w.in_default-2.is-1 ∙ c.kept_place-place.ensures)
      | in_default-2-via-in_default w ↦ inl (ap option_copied (sym w.in_default-2.is-0) ∙ c.header-header.ensures.header h r.ends.serves)
    ])
    (c.no_journal-in_default-2.ensures h r.ends.serves r.ends.none)
