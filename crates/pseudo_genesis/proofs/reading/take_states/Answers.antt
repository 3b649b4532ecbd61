use Rattle.std.proofs.Common.{◌≡◌, ◌+◌, ◌-◌, ◌*◌, rules, subst, sym, ap, ◌∙◌, arith}
use Rattle.ledger_bytes.specs.Digests.{zero_digest}
use Rattle.pseudo_genesis.specs.Reading.{state_at, states_at}
use Rattle.pseudo_genesis.proofs.Many.{after_items}
use Rattle.pseudo_genesis.proofs.Loops.{state_read, state_broken, states_read}
use Rattle.pseudo_genesis.proofs.reading.take_states.Goals as goal

pub returns-in_err-state : goal.returns-in_err-state
returns-in_err-state c =
    let a = c.args in
    let l = c.loop-i in
    let whole = states_at a.point a.count (record { clue = zero_digest; place = a.at }) a.reader.now in
    let at = ap (λ n. state_at a.point (record { clue = l.before; place = a.at + 44 * n }) l.reader) c.from.ensures in
    let broken = state_broken a.point a.count a.at l.i l.before l.reader l.states.items whole c.in_err-state.field-0.0 (omega (arith, c.loop-i-test.true)) (sym at ∙ c.in_err-state.ensures) l.invariant in
    search (broken, rules)

pub loop-i-preserved : goal.loop-i-preserved
loop-i-preserved c =
    let a = c.args in
    let l = c.loop-i in
    let state = c.in_ok-state.state in
    let after = c.take_state.new.reader in
    let whole = states_at a.point a.count (record { clue = zero_digest; place = a.at }) a.reader.now in
    let at = ap (λ n. state_at a.point (record { clue = l.before; place = a.at + 44 * n }) l.reader) c.from.ensures in
    let read = state_read a.point a.count a.at l.i l.before l.reader l.states.items whole after state (omega (arith, c.loop-i-test.true)) (sym at ∙ c.in_ok-state.ensures) l.invariant in
    subst (λ xs. whole ≡ after_items xs (states_at a.point (a.count - (l.i + 1)) (record { clue = state.clue; place = a.at + 44 * (l.i + 1) }) after)) (sym c.in_ok-keep.ensures.ok) read

pub returns : goal.returns
returns c =
    let a = c.args in
    let l = c.loop-i in
    let whole = states_at a.point a.count (record { clue = zero_digest; place = a.at }) a.reader.now in
    let read = states_read a.point a.count a.at l.i l.before l.reader l.states.items whole (omega (arith, c.loop-i-test.false, l.auto.i-end)) l.invariant in
    search (read, c.of.ensures, rules)
