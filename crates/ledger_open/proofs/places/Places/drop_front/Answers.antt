use Rattle.std.proofs.Common.{◌≡◌, refl, arith, ap, ◌∙◌, map, drop, set}
use Rattle.std.proofs.lemmas.List.Edits.{map_over_more}
use Rattle.block_file.specs.Places.{moved_place}
use Rattle.ledger_open.specs.Places.{PlaceList}
use Rattle.block_file.specs.declared.place.PlaceAt.{PlaceAt}
use Rattle.ledger_open.proofs.PlaceMoves.{moved_all}
use Rattle.ledger_open.proofs.places.Places.drop_front.Goals as goal

pub loop-index-init : goal.loop-index-init
loop-index-init c = refl

pub loop-index-preserved : goal.loop-index-preserved
loop-index-preserved c =
    ap (λ (p : PlaceAt). set c.loop-index.self-inside.kept.items c.loop-index.index p) c.moved.ensures
    ∙ map_over_more (moved_place c.args.old c.args.new) c.keep_from.new.values.items c.loop-index.self-inside.kept.items c.loop-index.index c.index.result.now (omega (arith, c.loop-index-test.true, c.len-index-end.ensures)) c.loop-index.invariant c.index.ensures

pub returns : goal.returns
returns c =
    let same : c.keep_from.new.values.items ≡ drop c.args.count c.self.inside.kept.items = c.keep_from.ensures.items in
    moved_all c.args.old c.args.new c.loop-index.index c.keep_from.new.values.items c.loop-index.self-inside.kept.items c.loop-index.invariant (omega (arith, c.loop-index-test.false, c.len-index-end.ensures))
    ∙ ap (map (moved_place c.args.old c.args.new)) (same ∙ ap (λ (p : PlaceList). drop c.args.count p.list) c.self.view_is)
