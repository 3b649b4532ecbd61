use Rattle.std.specs.Prelude.{IfNone}
use Rattle.std.proofs.Common.{◌≤◌, refl, sym, subst, ap, ◌∙◌, arith}
use Rattle.ledger_bytes.specs.Digests.{digest}
use Rattle.ledger_model.specs.Appends.{purge_header, purge_journal}
use Rattle.ledger_model.specs.History.{size}
use Rattle.ledger_model.specs.declared.job.Job.TheVariants.{Purge}
use Rattle.ledger_book.specs.Books.{Kept}
use Rattle.ledger_book.proofs.ApplyLaws.{applies_refused, applies_placed}
use Rattle.ledger_book.proofs.PurgeLaws.{purge_kind, purge_bounds, purge_may, purge_point}
use Rattle.ledger_book.proofs.OwnLaws.{reached_still}
use Rattle.ledger_book.proofs.StandsLaws.{point_is}
use Rattle.ledger_book.proofs.book.Book.apply_purge.Goals as goal

pub returns-in-Some-clause-ok : goal.returns-in-Some-clause-ok
returns-in-Some-clause-ok c = λ stamp h s.
    let a = c.args in
    applies_refused a.self.now.limits stamp h (Purge a.point a.root.now a.given.now) c.in-Some.refusal a.self.now (sym (c.in_ok-refusal.ensures.refusal h s) ∙ c.in-Some.is) s

pub returns-clause-ok : goal.returns-clause-ok
returns-clause-ok c = λ stamp h s.
    let a = c.args in
    let k = a.self.now in
    let p = a.point in
    let header = c.purge_header-header.result in
    let journal = purge_journal h p a.given.now in
    let at = ap (λ (b : Kept). b.size) c.self.view_is ∙ s.stands.counts.size in
    let none = sym (c.in_ok-refusal.ensures.refusal h s) ∙ c.in_default.is in
    let bounds = purge_bounds h p a.given.now header k.limits a.root.now c.purge_refusal.ensures.within none s.stands.lawful in
    let low : k.floor ≤ p = omega (arith, bounds.0, point_is k h s, s.seen) in
    let some : 1 ≤ p = omega (arith, bounds.0) in
    let link = c.in_ok-link.ensures h s low some in
    let is = sym (c.purge_header-header.ensures ∙ ap (λ n. purge_header n p c.in_ok-link.link a.given.now) at ∙ ap (λ d. purge_header (size h) p (digest d) a.given.now) link) in
    let may = purge_may h p a.given.now header k.limits a.root.now c.purge_refusal.ensures.within none s.stands.lawful is in
    let stands = c.in_ok-place_record.ensures.ok h journal s.stands is (purge_kind h p a.given.now header is) may in
    let point = c.in_ok-place_record.ensures.point ∙ purge_point c.self.inside.size p c.in_ok-link.link a.given.now header k.point c.purge_header-header.ensures in
    applies_placed k.limits stamp h (Purge p a.root.now a.given.now) journal header c.placed_with-placed.result c.place_record.new.self
    none refl refl is (c.placed_with-placed.ensures.jsn ∙ at) c.placed_with-placed.ensures.leaf c.placed_with-placed.ensures.bytes c.placed_with-placed.ensures.widths
    (record { stands = stands; reached = c.in_ok-place_record.ensures.reached ∙ reached_still _ k.reached s.reached; seen = omega (arith, point, c.in_ok-place_record.ensures.floor.1, low) })

pub returns-clause-point : goal.returns-clause-point
returns-clause-point c =
    c.in_ok-place_record.ensures.point ∙ purge_point c.self.inside.size c.args.point c.in_ok-link.link c.args.given.now c.purge_header-header.result c.args.self.now.point c.purge_header-header.ensures

pub returns-clause-same : goal.returns-clause-same
returns-clause-same c =
    let point = c.in_ok-place_record.ensures.point ∙ purge_point c.self.inside.size c.args.point c.in_ok-link.link c.args.given.now c.purge_header-header.result c.args.self.now.point c.purge_header-header.ensures in
    let above : c.args.self.now.point ≤ c.args.point = subst (λ o. IfNone o (c.args.self.now.point ≤ c.args.point)) c.in_default.is c.in_ok-refusal.ensures.above in
    record { limits = c.in_ok-place_record.ensures.floor.0; floor = c.in_ok-place_record.ensures.floor.1; point = omega (arith, point, above) }
