use Rattle.std.specs.Prelude.{List, ◌<◌, get_or, length, IsSome}
use Rattle.std.proofs.Common.{◌≡◌, ◌-◌, arith, sym, ap, ◌∙◌, subst}
use Rattle.std.proofs.lemmas.Bool.{false≢true}
use Rattle.block_file.specs.declared.place.PlaceAt.{PlaceAt}
use Rattle.ledger_open.proofs.CutLaws.{is_there, cut_is}
use Rattle.ledger_open.proofs.purging.cut_of.Goals as goal

pub returns-in_default : goal.returns-in_default
returns-in_default c place floor front behind falls less =
    let at : c.args.book.now.point - c.args.book.now.floor ≡ c.point-point.result - c.floor-floor.result = omega (arith, c.point-point.ensures.value, c.floor-floor.ensures) in
    let r = (is_there _ _ place floor front behind falls _ at).0 in
    let some = c.get.ensures.lookup.2 (subst (λ (l : List PlaceAt). c.point-point.result - c.floor-floor.result < length l) (sym c.as_slice.ensures) r) in
    false≢true (subst IsSome c.in_default.is some)

pub returns-in_default-gate : goal.returns-in_default-gate
returns-in_default-gate c place floor front behind falls less =
    let at : c.args.book.now.point - c.args.book.now.floor ≡ c.point-point.result - c.floor-floor.result = omega (arith, c.point-point.ensures.value, c.floor-floor.ensures) in
    let r = (is_there _ _ place floor front behind falls _ at).1 c.in-Some.place.now (c.in-Some.ensures.lookup.1 ∙ ap (λ (l : List PlaceAt). get_or l (c.point-point.result - c.floor-floor.result) c.in-Some.place.now) c.as_slice.ensures) in
    let no : ⊥ = omega (arith, r, c.in_default-gate.ensures.none) in no

pub returns : goal.returns
returns c =
    cut_is _ _ c.point-point.result c.floor-floor.result c.in-Some-gate.gate c.in-Some.place.now c.point-point.ensures.value c.floor-floor.ensures c.if-point-floor.false
    (omega (arith, c.if-sealed_size-point.false, c.sealed_size.ensures.value)) (omega (arith, c.if-sealed_size-point.false, c.sealed_size.ensures.most)) (subst (λ (l : List PlaceAt). c.point-point.result - c.floor-floor.result < length l) c.as_slice.ensures c.in-Some.ensures.lookup.3.0)
    (c.in-Some.ensures.lookup.1 ∙ ap (λ (l : List PlaceAt). get_or l (c.point-point.result - c.floor-floor.result) c.in-Some.place.now) c.as_slice.ensures) c.in-Some-gate.ensures.some
