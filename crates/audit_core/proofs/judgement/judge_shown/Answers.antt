use Rattle.std.proofs.Common.{Ok, sym, ◌∙◌, arith}
use Rattle.proof_codec.specs.Proofs.{Shown}
use Rattle.audit_core.specs.Truth.{Lists, lists_of}
use Rattle.audit_core.specs.Judgement.{ByOwn}
use Rattle.audit_core.proofs.DecidingLaws.{pieces_bytes, true_found}
use Rattle.audit_core.proofs.Judging.{by_own, own_gives, false_shows, untrue}
use Rattle.audit_core.proofs.judgement.judge_shown.Goals as goal

pub shown_clash-requires-clause-gives : goal.shown_clash-requires-clause-gives
shown_clash-requires-clause-gives g c =
    let p : Shown = c.args.shown.now in
    let lists : Lists = lists_of c.args.id.now c.args.headers.now c.args.entries.now in
    let accepted : ByOwn g.H.TreeHash.of lists c.args.claim.now p =
    by_own g.H.TreeHash.of lists c.args.claim.now _ p c.ledger_at-ledger.result c.root_at-notary.result (Ok tt) c.shown.view_is c.ledger_at-ledger.ensures c.root_at-notary.ensures (sym c.accept_under.ensures ∙ c.in-Ok.is) in
    own_gives g.H.TreeHash.of lists c.args.claim.now p accepted

pub shown_clash-requires-clause-shows : goal.shown_clash-requires-clause-shows
shown_clash-requires-clause-shows g c =
    let p : Shown = c.args.shown.now in
    let lists : Lists = lists_of c.args.id.now c.args.headers.now c.args.entries.now in
    let accepted : ByOwn g.H.TreeHash.of lists c.args.claim.now p =
    by_own g.H.TreeHash.of lists c.args.claim.now _ p c.ledger_at-ledger.result c.root_at-notary.result (Ok tt) c.shown.view_is c.ledger_at-ledger.ensures c.root_at-notary.ensures (sym c.accept_under.ensures ∙ c.in-Ok.is) in
    false_shows g.H.TreeHash.of lists c.args.claim.now p accepted g.met.H.TreeHash.of_length c.requires.proof (sym c.is_true.ensures ∙ c.if-is_true.false)

pub returns-then-is_true : goal.returns-then-is_true
returns-then-is_true g c =
    let p : Shown = c.args.shown.now in
    let lists : Lists = lists_of c.args.id.now c.args.headers.now c.args.entries.now in
    let accepted : ByOwn g.H.TreeHash.of lists c.args.claim.now p =
    by_own g.H.TreeHash.of lists c.args.claim.now _ p c.ledger_at-ledger.result c.root_at-notary.result (Ok tt) c.shown.view_is c.ledger_at-ledger.ensures c.root_at-notary.ensures (sym c.accept_under.ensures ∙ c.in-Ok.is) in
    (accepted, true_found g.H.TreeHash.of lists c.args.claim.now (pieces_bytes c.args.headers.now (λ i. omega (arith, c.type_inv.headers i))) (sym c.is_true.ensures ∙ c.if-is_true.true))

pub returns-else-is_true : goal.returns-else-is_true
returns-else-is_true g c =
    let p : Shown = c.args.shown.now in
    let lists : Lists = lists_of c.args.id.now c.args.headers.now c.args.entries.now in
    let accepted : ByOwn g.H.TreeHash.of lists c.args.claim.now p =
    by_own g.H.TreeHash.of lists c.args.claim.now _ p c.ledger_at-ledger.result c.root_at-notary.result (Ok tt) c.shown.view_is c.ledger_at-ledger.ensures c.root_at-notary.ensures (sym c.accept_under.ensures ∙ c.in-Ok.is) in
    (accepted, untrue g.H.TreeHash.of lists c.args.claim.now (sym c.is_true.ensures ∙ c.if-is_true.false), c.shown_clash.ensures)
