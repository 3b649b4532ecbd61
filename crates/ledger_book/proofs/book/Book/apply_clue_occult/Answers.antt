use Rattle.std.proofs.Common.{Some, sym, ap, ◌∙◌, refl}
use Rattle.ledger_model.specs.Appends.{clue_occult_header, clue_occult_journal}
use Rattle.ledger_model.specs.History.{size}
use Rattle.ledger_model.specs.Outcomes.{with_waiting}
use Rattle.ledger_model.specs.declared.job.Job.TheVariants.{OccultClue}
use Rattle.ledger_book.specs.Books.{Kept}
use Rattle.ledger_book.proofs.ApplyLaws.{applies_refused, applies_placed, serves_after, clue_occult_kind, clue_occult_may, clue_occult_no_purge}
use Rattle.ledger_book.proofs.book.Book.apply_clue_occult.Goals as goal

pub returns-in-Some-clause-ok : goal.returns-in-Some-clause-ok
returns-in-Some-clause-ok c = λ stamp h s.
    let a = c.args in
    applies_refused a.self.now.limits stamp h (OccultClue a.clue.now a.count a.given.now) c.in-Some.refusal a.self.now (sym (c.in_ok-refusal.ensures.refusal h s) ∙ c.in-Some.is) s

pub returns-clause-ok : goal.returns-clause-ok
returns-clause-ok c = λ stamp h s.
    let a = c.args in
    let k = c.args.self.now in
    let header = c.clue_occult_header-header.result in
    let journal = clue_occult_journal (size h) a.clue.now a.count a.given.now in
    let at = ap (λ (b : Kept). b.size) c.self.view_is ∙ s.stands.counts.size in
    let none = sym (c.in_ok-refusal.ensures.refusal h s) ∙ c.in_default.is in
    let is = sym (c.clue_occult_header-header.ensures ∙ ap (λ n. clue_occult_header n a.clue.now a.count a.given.now) at) in
    let may = clue_occult_may h a.clue.now a.count a.given.now header k.limits k c.clue_occult_refusal.ensures.within none s.stands is in
    let stands = c.in_ok-place_record.ensures.ok h journal s.stands is (clue_occult_kind h a.clue.now a.count a.given.now header is) may in
    applies_placed k.limits stamp h (OccultClue a.clue.now a.count a.given.now) journal header c.placed_with-placed.result c.place_record.new.self
    none refl refl is (c.placed_with-placed.ensures.jsn ∙ at) c.placed_with-placed.ensures.leaf c.placed_with-placed.ensures.bytes c.placed_with-placed.ensures.widths (serves_after k c.place_record.new.self h (with_waiting (Some journal) h) s (c.in_ok-place_record.ensures.same (clue_occult_no_purge c.self.inside.size a.clue.now a.count a.given.now header c.clue_occult_header-header.ensures)) stands)

pub returns-clause-same : goal.returns-clause-same
returns-clause-same c =
    let a = c.args in
    c.in_ok-place_record.ensures.same (clue_occult_no_purge c.self.inside.size a.clue.now a.count a.given.now c.clue_occult_header-header.result c.clue_occult_header-header.ensures)
