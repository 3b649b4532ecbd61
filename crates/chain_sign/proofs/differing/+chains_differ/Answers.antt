use Rattle.std.proofs.Common.{◌≡◌, ◌+◌, length, ap, ◌∙◌, rules, arith}
use Rattle.tree_model.specs.Tree.{cut}
use Rattle.chain_sign.specs.Chain.{values_at}
use Rattle.std.specs.Option.{option_or}
use Rattle.chain_sign.specs.Steps.{chains_clash}
use Rattle.chain_sign.proofs.Walks.{small_rest}
use Rattle.chain_sign.proofs.Apart.{chains_none, chains_on}
use Rattle.chain_sign.proofs.differing.+chains_differ.Goals as goal

pub returns-in_err-digit : goal.returns-in_err-digit
returns-in_err-digit g t c =
    rw c.from_residual.ensures (chains_none g.H.TreeHash.of c.args.first c.args.digits.now (cut 32 c.args.told.now) (values_at g.H.TreeHash.of c.args.first c.args.digits.now (cut 32 c.args.secrets.now)) c.in_err-digit.ensures.cases)

pub returns-in_err-value : goal.returns-in_err-value
returns-in_err-value g t c = absurd (omega (arith, c.in_err-value.ensures.cases, c.in_ok-digit.ensures.cases.1, c.requires.told))

pub returns-in_err-secret : goal.returns-in_err-secret
returns-in_err-secret g t c = absurd (omega (arith, c.in_err-secret.ensures.cases, c.in_ok-digit.ensures.cases.1, c.requires.secrets))

pub returns-in-Some : goal.returns-in-Some
returns-in-Some g t c =
    let h = g.H.TreeHash.of in
    let p = c.in_ok-value.ensures.cases in
    let q = c.in_ok-secret.ensures.cases in
    chains_on h c.args.first c.in_ok-digit.digit.now c.args.digits.now c.in_ok-digit.digits.now c.args.told.now c.args.secrets.now c.in_ok-value.value.now c.in_ok-value.told.now c.in_ok-secret.secret.now c.in_ok-secret.secrets.now c.walk-truth.result.0 _
    c.in_ok-digit.ensures.cases.0 (omega (arith, p.2)) (omega (arith, q.2)) p.0 p.1 q.0 q.1 c.walk-truth.ensures
    (ap (λ x. option_or x (chains_clash h (c.args.first + 1) c.in_ok-digit.digits.now (cut 32 c.in_ok-value.told.now) (values_at h (c.args.first + 1) c.in_ok-digit.digits.now (cut 32 c.in_ok-secret.secrets.now)))) c.in-Some.ensures)

pub returns-in-None : goal.returns-in-None
returns-in-None g t c =
    let h = g.H.TreeHash.of in
    let p = c.in_ok-value.ensures.cases in
    let q = c.in_ok-secret.ensures.cases in
    chains_on h c.args.first c.in_ok-digit.digit.now c.args.digits.now c.in_ok-digit.digits.now c.args.told.now c.args.secrets.now c.in_ok-value.value.now c.in_ok-value.told.now c.in_ok-secret.secret.now c.in_ok-secret.secrets.now c.walk-truth.result.0 _
    c.in_ok-digit.ensures.cases.0 (omega (arith, p.2)) (omega (arith, q.2)) p.0 p.1 q.0 q.1 c.walk-truth.ensures
    (c.chains_differ.ensures ∙ ap (λ x. option_or x (chains_clash h (c.args.first + 1) c.in_ok-digit.digits.now (cut 32 c.in_ok-value.told.now) (values_at h (c.args.first + 1) c.in_ok-digit.digits.now (cut 32 c.in_ok-secret.secrets.now)))) c.in-None.ensures)

pub chains_differ-requires : goal.chains_differ-requires
chains_differ-requires g t c κs within =
    let e = c.in_ok-digit.ensures.cases in
    let p = c.in_ok-value.ensures.cases in
    let q = c.in_ok-secret.ensures.cases in
    let one : length c.in_ok-digit.digits.now + 1 ≡ length c.args.digits.now = e.1 in
    let two : length c.in_ok-value.told.now + 32 ≡ length c.args.told.now = p.2 in
    let three : length c.in_ok-secret.secrets.now + 32 ≡ length c.args.secrets.now = q.2 in
    (search rules, (search rules, (omega arith, (small_rest c.in_ok-digit.digit.now c.args.digits.now c.in_ok-digit.digits.now e.0 c.requires.small, (omega arith, omega arith)))))
