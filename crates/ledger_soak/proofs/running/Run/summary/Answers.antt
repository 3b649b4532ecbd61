use Rattle.std.proofs.Common.{◌≡◌, ◌+◌, refl, ap, sym, subst, ◌∙◌}
use Rattle.merkle_tree.specs.declared.head.Head.{Head}
use Rattle.ledger_book.proofs.StandsLaws.{point_is}
use Rattle.ledger_book.specs.Books.{Kept, Serves}
use Rattle.ledger_soak.specs.Runs.{led_to}
use Rattle.ledger_soak.proofs.GlueLaws.{serves, settled}
use Rattle.ledger_soak.proofs.RunLaws.{stops_low, one_session, sums_up}
use Rattle.ledger_soak.proofs.TreeLaws.{settled_head}
use Rattle.ledger_soak.proofs.running.Run.summary.Goals as goal

pub returns-clause-soaked : goal.returns-clause-soaked
returns-clause-soaked c = λ x count_is.
    let run = c.args.self.now in
    let seed = c.args.seed in
    let h = (led_to seed x.past).history in
    let book = c.book-book.result.now in
    let known : Serves book h = subst (λ (b : Kept). Serves b h) (sym c.book-book.ensures) (serves seed run x) in
    let ended : book.sealed ≡ book.size = rw c.book-book.ensures (settled seed run x) in
    let at = settled_head book h known.stands c.head-head.result ended (c.head-head.ensures h known.stands) in
    sums_up seed run x _ refl count_is refl (c.saturating_add.ensures ∙ stops_low seed run x c.requires)
    (ap (λ (k : Head). k.size) at) (c.point.ensures.value ∙ point_is book h known) (ap (λ (k : Head). k.root) at) refl refl refl refl

pub returns-clause-one : goal.returns-clause-one
returns-clause-one c = λ x none.
    c.saturating_add.ensures ∙ stops_low c.args.seed c.args.self.now x c.requires ∙ ap (λ n. n + 1) (one_session c.args.seed c.args.self.now x none)
