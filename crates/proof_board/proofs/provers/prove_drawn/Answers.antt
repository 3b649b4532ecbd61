use Rattle.std.proofs.Common.{◌≡◌, List, [], ℕ, Some, sym, subst, arith}
use Rattle.sha2.specs.Sha256.{sha256}
use Rattle.ledger_bytes.specs.Digests.{digest}
use Rattle.merkle_tree.specs.declared.head.Head.{Head}
use Rattle.script_lines.specs.declared.said.Which.TheVariants.{Ledger}
use Rattle.audit_core.specs.Trust.{root_of}
use Rattle.audit_core.specs.Acceptance.{IsAccepted}
use Rattle.std.specs.Prelude.{get_or}
use Rattle.proof_board.specs.History.{all_leaves}
use Rattle.proof_board.specs.Bare.{bare_claim}
use Rattle.proof_board.specs.Words.{seen_by}
use Rattle.proof_board.proofs.Fronts.{prefix_length, leaves_begin}
use Rattle.proof_board.proofs.provers.prove_drawn.Goals as goal

pub unreachable-requires : goal.unreachable-requires
unreachable-requires g c =
    let answer = rw c.in-Err-Below.field-0-is at c.in-Err-Below.ensures.answer in
    omega (arith, answer.0, c.between-n.ensures.low, c.floor.ensures)

pub unreachable-requires-in-Err-Beyond : goal.unreachable-requires-in-Err-Beyond
unreachable-requires-in-Err-Beyond g c =
    let answer = rw c.in-Err-Beyond.field-0-is at c.in-Err-Beyond.ensures.answer in
    let old = all_leaves (seen_by c.args.pass.now).log in
    let new = all_leaves (seen_by c.prove.new.pass).log in
    let more = prefix_length old new (leaves_begin (seen_by c.args.pass.now).log (seen_by c.prove.new.pass).log c.prove.ensures.seen) in
    omega (arith, answer.1, answer.2, c.between-n.ensures.high, c.seen.ensures.size, more)

pub returns-clause-yes : goal.returns-clause-yes
returns-clause-yes g c = λ ds list.
    let n = c.between-n.result in
    let made = c.in-Ok.made in
    let known = c.in_ok-known.known in
    let proved = c.in-Ok.ensures.answer.3 ds list in
    let head : known.head ≡ made.0 = c.in_ok-known.ensures in
    let trusted = subst (λ (h : Head). root_of Ledger known.heads h.size ≡ Some h.root) head known.trusted in
    let it = proved.accepted known.heads known.id known.settled trusted in
    c.is_accepted-yes.ensures.1 (digest (get_or ds n []), subst (λ (b : List ℕ). IsAccepted sha256 b (bare_claim n (digest (get_or ds n []))) known.heads) (sym c.as_slice.ensures) it)
