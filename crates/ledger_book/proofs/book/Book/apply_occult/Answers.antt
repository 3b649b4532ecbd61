use Rattle.std.proofs.Common.{Some, sym, ap, ◌∙◌, refl}
use Rattle.ledger_model.specs.Appends.{occult_header, occult_journal}
use Rattle.ledger_model.specs.History.{size}
use Rattle.ledger_model.specs.Outcomes.{with_waiting}
use Rattle.ledger_model.specs.declared.job.Job.TheVariants.{Occult}
use Rattle.ledger_book.specs.Books.{Kept}
use Rattle.ledger_book.proofs.ApplyLaws.{applies_refused, applies_placed, serves_after, occult_kind, occult_may, occult_no_purge}
use Rattle.ledger_book.proofs.book.Book.apply_occult.Goals as goal

pub returns-in-Some-clause-ok : goal.returns-in-Some-clause-ok
returns-in-Some-clause-ok c = λ stamp h s.
    let a = c.args in
    applies_refused a.self.now.limits stamp h (Occult a.target a.leaf.now a.given.now) c.in-Some.refusal a.self.now (sym (c.occult_refusal.ensures.refusal h s) ∙ c.in-Some.is) s

pub returns-clause-ok : goal.returns-clause-ok
returns-clause-ok c = λ stamp h s.
    let a = c.args in
    let k = c.args.self.now in
    let header = c.occult_header-header.result in
    let journal = occult_journal (size h) a.target a.leaf.now a.given.now in
    let at = ap (λ (b : Kept). b.size) c.self.view_is ∙ s.stands.counts.size in
    let none = sym (c.occult_refusal.ensures.refusal h s) ∙ c.in_default.is in
    let is = sym (c.occult_header-header.ensures ∙ ap (λ n. occult_header n a.target a.leaf.now a.given.now) at) in
    let may = occult_may h a.target a.leaf.now a.given.now header k.limits k c.occult_refusal.ensures.within none s.stands is in
    let stands = c.in_ok-place_record.ensures.ok h journal s.stands is (occult_kind h a.target a.leaf.now a.given.now header is) may in
    applies_placed k.limits stamp h (Occult a.target a.leaf.now a.given.now) journal header c.placed_with-placed.result c.place_record.new.self
    none refl refl is (c.placed_with-placed.ensures.jsn ∙ at) c.placed_with-placed.ensures.leaf c.placed_with-placed.ensures.bytes c.placed_with-placed.ensures.widths (serves_after k c.place_record.new.self h (with_waiting (Some journal) h) s (c.in_ok-place_record.ensures.same (occult_no_purge c.self.inside.size a.target a.leaf.now a.given.now header c.occult_header-header.ensures)) stands)

pub returns-clause-same : goal.returns-clause-same
returns-clause-same c =
    let a = c.args in
    c.in_ok-place_record.ensures.same (occult_no_purge c.self.inside.size a.target a.leaf.now a.given.now c.occult_header-header.result c.occult_header-header.ensures)
