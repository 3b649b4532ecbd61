use Rattle.std.proofs.Common.{◌≡◌, true, refl, sym, ap, subst, [], inl, inr}
use Rattle.std.proofs.lemmas.Result.{IfOk-weaker, IfErr-weaker}
use Rattle.block_file.specs.declared.failure.Damage.TheVariants as damages
use Rattle.ledger_open.specs.Ahead.{IsAhead, blocks_in}
use Rattle.ledger_open.specs.Opening.{HasRead, known_from}
use Rattle.ledger_open.specs.declared.reading.Read.{Read}
use Rattle.ledger_open.proofs.AheadLaws.{after_all, end_bad, end_shut, end_too_long, whole_ahead}
use Rattle.ledger_open.proofs.MoreLaws.{cut_short}
use Rattle.ledger_open.proofs.reading.read_last.Goals as goal

pub take_all-requires-clause-ahead : goal.take_all-requires-clause-ahead
take_all-requires-clause-ahead c =
    let a = c.requires.ahead in
    let n = a.3 in
    (a.0, a.1, n.at, [], c.args.ahead.stop, whole_ahead a.0 a.1 (known_from c.args.read.book c.args.read.places.list n.at) c.as_slice.result.now c.args.ahead.blocks.items c.args.ahead.stop c.as_slice.ensures.value n.are)

pub returns-in-Err-clause-err : goal.returns-in-Err-clause-err
returns-in-Err-clause-err c = elim c.in-Err.ensures.err [
  | inl none ↦ inl none
  | inr why ↦ inr (
    why.0,
    why.1,
    λ tells file place n told inside.
        why.2.bad tells file n.at [] c.args.ahead.stop (whole_ahead tells file (known_from c.args.read.book c.args.read.places.list n.at) c.as_slice.result.now c.args.ahead.blocks.items c.args.ahead.stop c.as_slice.ensures.value n.are) told,
  )
]

pub returns-in-Shut-clause-ok : goal.returns-in-Shut-clause-ok
returns-in-Shut-clause-ok c = IfOk-weaker c.end_at_tail.result _ _ (λ known both. (
  subst (λ (r : Read). r.book.reached ≡ true) (sym both.0) both.1,
  λ tells file place n.
      let k = known_from c.take_all.new.book c.take_all.new.places.list place in
      let a = subst (IsAhead tells file k []) c.in-Shut.is (let n = n in after_all tells file c.take_all.new.book c.take_all.new.places.list n.at place (blocks_in c.args.ahead.blocks.items) (blocks_in c.as_slice.result.now) c.args.ahead.stop n.place_is (ap blocks_in c.as_slice.ensures.value) (c.in_default.ensures.ok.goes tells file n.at [] c.args.ahead.stop (whole_ahead tells file (known_from c.args.read.book c.args.read.places.list n.at) c.as_slice.result.now c.args.ahead.blocks.items c.args.ahead.stop c.as_slice.ensures.value n.are))) in
      (subst (λ (r : Read). HasRead tells file (known_from r.book r.places.list place)) (sym both.0) a.read, end_shut tells file k a),
)) c.end_at_tail.ensures.ok

pub returns-in-Shut-clause-err : goal.returns-in-Shut-clause-err
returns-in-Shut-clause-err c = IfErr-weaker c.end_at_tail.result _ _ (λ e why.
    inr (
      damages.Entry c.take_all.new.book.size,
      why.0,
      λ tells file place n told inside.
          let k = known_from c.take_all.new.book c.take_all.new.places.list place in
          let a = subst (IsAhead tells file k []) c.in-Shut.is (let n = n in after_all tells file c.take_all.new.book c.take_all.new.places.list n.at place (blocks_in c.args.ahead.blocks.items) (blocks_in c.as_slice.result.now) c.args.ahead.stop n.place_is (ap blocks_in c.as_slice.ensures.value) (c.in_default.ensures.ok.goes tells file n.at [] c.args.ahead.stop (whole_ahead tells file (known_from c.args.read.book c.args.read.places.list n.at) c.as_slice.result.now c.args.ahead.blocks.items c.args.ahead.stop c.as_slice.ensures.value n.are))) in
          cut_short tells file k c.take_all.new.book.size a.read refl why.1 told (inside, end_shut tells file k a told),
    )) c.end_at_tail.ensures.err

pub returns-in-Damaged-clause-err : goal.returns-in-Damaged-clause-err
returns-in-Damaged-clause-err c =
    inr (
      c.in-Damaged.damage,
      refl,
      λ tells file place n told inside.
          let k = known_from c.take_all.new.book c.take_all.new.places.list place in
          let a = subst (IsAhead tells file k []) c.in-Damaged.is (let n = n in after_all tells file c.take_all.new.book c.take_all.new.places.list n.at place (blocks_in c.args.ahead.blocks.items) (blocks_in c.as_slice.result.now) c.args.ahead.stop n.place_is (ap blocks_in c.as_slice.ensures.value) (c.in_default.ensures.ok.goes tells file n.at [] c.args.ahead.stop (whole_ahead tells file (known_from c.args.read.book c.args.read.places.list n.at) c.as_slice.result.now c.args.ahead.blocks.items c.args.ahead.stop c.as_slice.ensures.value n.are))) in
          end_bad tells file k c.in-Damaged.damage a told,
    )

pub unreachable-requires : goal.unreachable-requires
unreachable-requires c =
    let a = c.requires.ahead in
    let k = known_from c.take_all.new.book c.take_all.new.places.list a.2 in
    let n = a.3 in
    elim c.in-Full.is [
      | inl full ↦ c.requires.end full
      | inr long ↦
          end_too_long a.0 a.1 k
          (subst (IsAhead a.0 a.1 k []) long
          (after_all a.0 a.1 c.take_all.new.book c.take_all.new.places.list n.at a.2 (blocks_in c.args.ahead.blocks.items) (blocks_in c.as_slice.result.now) c.args.ahead.stop n.place_is (ap blocks_in c.as_slice.ensures.value)
          (c.in_default.ensures.ok.goes a.0 a.1 n.at [] c.args.ahead.stop (whole_ahead a.0 a.1 (known_from c.args.read.book c.args.read.places.list n.at) c.as_slice.result.now c.args.ahead.blocks.items c.args.ahead.stop c.as_slice.ensures.value n.are))))
    ]
