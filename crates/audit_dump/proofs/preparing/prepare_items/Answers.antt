use Rattle.std.proofs.Common.{◌≡◌, ◌<◌, ◌++◌, List, ℕ, length, take, take_at, drop, All, arith, sym, ap, subst, rules, ◌∙◌}
use Rattle.std.specs.List.{flat_map}
use Rattle.std.specs.Prelude.{slice_index_or}
use denote.Ref.{Bor}
use Rattle.audit_dump.specs.Journals.{IsOfItem}
use Rattle.audit_dump.specs.Prepared.{ArePrepared, IsPreparedWhole}
use Rattle.audit_dump.specs.declared.preparing.Prepared.{Prepared}
use Rattle.audit_dump.proofs.Ahead.{each_of, lent, prepared_each}
use Rattle.audit_dump.proofs.preparing.prepare_items.Goals as goal

pub for_each_mut-requires-clause-accepts : goal.for_each_mut-requires-clause-accepts
for_each_mut-requires-clause-accepts g c κs within i p lt is =
    let items : List (Bor (List ℕ)) = c.as_slice-items.result.now in
    let each : All IsOfItem (lent items) = subst (λ (l : List (Bor (List ℕ))). All IsOfItem (lent l)) (sym c.as_slice-items.ensures.value) c.in_ok-items.ensures.cut.each in
    let below : i < length items = omega (arith, lt, c.as_mut_slice.ensures.len, c.in_ok-list.ensures.len, c.as_slice-items.ensures.len) in
    ((below, λ d. each_of items i d each below), search)

pub returns-clause-prepared : goal.returns-clause-prepared
returns-clause-prepared g c =
    let items : List (Bor (List ℕ)) = c.as_slice-items.result.now in
    let list : List Prepared = c.for_each_mut.new.s in
    let scheme = g.V.Verifier.shows c.args.verifier.now in
    let id = c.args.id.now.0 in
    let cut = c.in_ok-items.ensures.cut in
    let same : length list ≡ length items = omega (arith, c.for_each_mut.auto.s, c.as_mut_slice.ensures.len, c.in_ok-list.ensures.len, c.as_slice-items.ensures.len) in
    let all : take c.in_ok-list.list.len (list ++ drop (length list) c.in_ok-list.list.items) ≡ list = take_at list (drop (length list) c.in_ok-list.list.items) c.in_ok-list.list.len (omega (arith, same, c.in_ok-list.ensures.len, c.as_slice-items.ensures.len)) in
    let parts : c.args.bytes.now ≡ flat_map (λ (item : List ℕ). item) (lent items) ++ cut.rest =
    cut.parts ∙ ap (λ (l : List (Bor (List ℕ))). flat_map (λ (item : List ℕ). item) (lent l) ++ cut.rest) (sym c.as_slice-items.ensures.value) in
    subst (ArePrepared scheme id c.args.bytes.now) (sym all) (subst (λ (bytes : List ℕ). ArePrepared scheme id bytes list) (sym parts)
    (prepared_each scheme id items list cut.rest same (λ i d e lt.
    let changed = c.for_each_mut.ensures i e (omega (arith, lt, c.as_mut_slice.ensures.len, c.in_ok-list.ensures.len, c.as_slice-items.ensures.len)) in
    let call = changed.1.call in
    subst (λ (p : Prepared). IsPreparedWhole scheme id (slice_index_or items i d).now p) changed.1.left (search rules))))
