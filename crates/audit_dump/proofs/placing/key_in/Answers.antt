use Rattle.std.proofs.Common.{◌≡◌, ◌^◌, ◌<◌, Ok, arith}
use Rattle.std.proofs.lemmas.Bool.{false≢true}
use Rattle.audit_dump.specs.Said.{said_by, said_of}
use Rattle.audit_dump.proofs.SaidKeys.{key_told, other_member, not_read}
use Rattle.audit_dump.proofs.placing.key_in.Goals as goal

pub returns-then-said-member : goal.returns-then-said-member
returns-then-said-member g c known =
    let fits : c.args.member < 2 ^ 32 = omega (arith, c.ranges.member.fits) in
    let view = c.said.view_is in
    let was = c.in-Ok.ensures in
    let read : Ok (said_by c.said.inside.member c.said.inside.proof.now) ≡ said_of c.args.who.now = cc in
    key_told (g.V.Verifier.shows c.args.verifier.now) known c.args.message.now.0 c.args.member c.args.who.now c.said.inside.member c.said.inside.proof.now c.key_of.result
    (λ i. omega (arith, c.type_inv.who i)) fits read c.if-said-member.true c.key_of.ensures

pub returns-else-said-member : goal.returns-else-said-member
returns-else-said-member g c known =
    let fits : c.args.member < 2 ^ 32 = omega (arith, c.ranges.member.fits) in
    let view = c.said.view_is in
    let was = c.in-Ok.ensures in
    let read : Ok (said_by c.said.inside.member c.said.inside.proof.now) ≡ said_of c.args.who.now = cc in (
      λ never. absurd (false≢true never),
      λ of. absurd (other_member (g.V.Verifier.shows c.args.verifier.now) known c.args.message.now.0 c.args.member c.args.who.now c.said.inside.member c.said.inside.proof.now read fits c.if-said-member.false of),
    )

pub returns-in-Err : goal.returns-in-Err
returns-in-Err g c known =
    let fits : c.args.member < 2 ^ 32 = omega (arith, c.ranges.member.fits) in (
      λ never. absurd (false≢true never),
      λ of. absurd (not_read (g.V.Verifier.shows c.args.verifier.now) known c.args.message.now.0 c.args.member c.args.who.now c.in-Err.field-0 c.in-Err.ensures fits of),
    )
