use Rattle.std.proofs.Common.{◌<◌, ◌/◌, length, sym, arith}
use Rattle.merkle_tree.specs.Strings.{pair_of}
use Rattle.merkle_tree.specs.Roots.{roots_of}
use Rattle.std.specs.Prelude.{option_map}
use Rattle.merkle_tree.proofs.Differing.{proof_all, proof_without, proof_front_none, proof_front_some, proof_front_below, proof_back_none, proof_back_some, proof_back_below}
use Rattle.merkle_tree.proofs.clashes.+proof_differs.Goals as goal

pub returns-then-m-size : goal.returns-then-m-size
returns-then-m-size g t c =
    sym (proof_all g.H.TreeHash.of c.args.width c.args.flat.now c.args.proof.now c.args.m c.args.known c.args.old.now.0 c.if-m-size.true)

pub returns-in_err-rest : goal.returns-in_err-rest
returns-in_err-rest g t c =
    rw c.from_residual.ensures (sym (proof_without g.H.TreeHash.of c.args.width c.args.flat.now c.args.proof.now c.args.m c.args.known c.args.old.now.0 c.in_err-rest.ensures.cases c.requires.digests))

pub returns-in_err-new : goal.returns-in_err-new
returns-in_err-new g t c =
    let parts = c.in_ok-rest.ensures.cases in
    rw c.from_residual-in_err-new.ensures
    (proof_front_none g.H.TreeHash.of c.args.width c.args.flat.now c.halves-count.result.0 c.halves-count.ensures.split c.halves-count.result.1.now c.halves-count.result.2.now c.halves-count.ensures.front c.halves-count.ensures.back
    c.args.proof.now c.in_ok-rest.rest.now c.in_ok-rest.side.now c.requires.digests parts.0 parts.1 parts.2 c.mth-left.result.0 c.mth-right.result.0 c.mth-left.ensures c.mth-right.ensures
    c.args.known c.args.old.now.0 c.args.m c.requires.some c.if-m-count.true c.in_err-new.ensures)

pub returns-in_err-new-2 : goal.returns-in_err-new-2
returns-in_err-new-2 g t c =
    let parts = c.in_ok-rest.ensures.cases in
    let part : c.args.m < length c.args.flat.now / c.args.width = omega (arith, c.requires.within, c.if-m-size.false) in
    rw c.from_residual-in_err-new-2.ensures
    (proof_back_none g.H.TreeHash.of c.args.width c.args.flat.now c.halves-count.result.0 c.halves-count.ensures.split c.halves-count.result.1.now c.halves-count.result.2.now c.halves-count.ensures.front c.halves-count.ensures.back
    c.args.proof.now c.in_ok-rest.rest.now c.in_ok-rest.side.now c.requires.digests parts.0 parts.1 parts.2 c.mth-left.result.0 c.mth-right.result.0 c.mth-left.ensures c.mth-right.ensures
    c.args.known c.args.old.now.0 c.args.m c.requires.some c.if-m-count.false part c.in_err-new-2.ensures)

pub returns-in-Some : goal.returns-in-Some
returns-in-Some g t c =
    let parts = c.in_ok-rest.ensures.cases in
    proof_front_some g.H.TreeHash.of c.args.width c.args.flat.now c.halves-count.result.0 c.halves-count.ensures.split c.halves-count.result.1.now c.halves-count.result.2.now c.halves-count.ensures.front c.halves-count.ensures.back
    c.args.proof.now c.in_ok-rest.rest.now c.in_ok-rest.side.now c.requires.digests parts.0 parts.1 parts.2 c.mth-left.result.0 c.mth-right.result.0 c.mth-left.ensures c.mth-right.ensures
    c.args.known c.args.old.now.0 c.args.m c.requires.some (roots_of (c.in_ok-new.field-0-0, c.in_ok-new.new)) (pair_of c.in-Some.clash) c.if-m-count.true c.in_ok-new.ensures c.in-Some.ensures

pub returns-in-None : goal.returns-in-None
returns-in-None g t c =
    let parts = c.in_ok-rest.ensures.cases in
    proof_front_below g.H.TreeHash.of c.args.width c.args.flat.now c.halves-count.result.0 c.halves-count.ensures.split c.halves-count.result.1.now c.halves-count.result.2.now c.halves-count.ensures.front c.halves-count.ensures.back
    c.args.proof.now c.in_ok-rest.rest.now c.in_ok-rest.side.now c.requires.digests parts.0 parts.1 parts.2 c.mth-left.result.0 c.mth-right.result.0 c.mth-left.ensures c.mth-right.ensures
    c.args.known c.args.old.now.0 c.args.m c.requires.some (roots_of (c.in_ok-new.field-0-0, c.in_ok-new.new)) (option_map pair_of c.proof_differs.result) c.if-m-count.true c.in_ok-new.ensures c.in-None.ensures c.proof_differs.ensures

pub returns-in-Some-differ : goal.returns-in-Some-differ
returns-in-Some-differ g t c =
    let parts = c.in_ok-rest.ensures.cases in
    let part : c.args.m < length c.args.flat.now / c.args.width = omega (arith, c.requires.within, c.if-m-size.false) in
    proof_back_some g.H.TreeHash.of c.args.width c.args.flat.now c.halves-count.result.0 c.halves-count.ensures.split c.halves-count.result.1.now c.halves-count.result.2.now c.halves-count.ensures.front c.halves-count.ensures.back
    c.args.proof.now c.in_ok-rest.rest.now c.in_ok-rest.side.now c.requires.digests parts.0 parts.1 parts.2 c.mth-left.result.0 c.mth-right.result.0 c.mth-left.ensures c.mth-right.ensures
    c.args.known c.args.old.now.0 c.args.m c.requires.some (roots_of (c.in_ok-new-2.field-0-0, c.in_ok-new-2.new)) (pair_of c.in-Some-differ.clash) c.if-m-count.false part c.in_ok-new-2.ensures c.in-Some-differ.ensures

pub returns-in-None-differ : goal.returns-in-None-differ
returns-in-None-differ g t c =
    let parts = c.in_ok-rest.ensures.cases in
    let part : c.args.m < length c.args.flat.now / c.args.width = omega (arith, c.requires.within, c.if-m-size.false) in
    proof_back_below g.H.TreeHash.of c.args.width c.args.flat.now c.halves-count.result.0 c.halves-count.ensures.split c.halves-count.result.1.now c.halves-count.result.2.now c.halves-count.ensures.front c.halves-count.ensures.back
    c.args.proof.now c.in_ok-rest.rest.now c.in_ok-rest.side.now c.requires.digests parts.0 parts.1 parts.2 c.mth-left.result.0 c.mth-right.result.0 c.mth-left.ensures c.mth-right.ensures
    c.args.known c.args.old.now.0 c.args.m c.requires.some (roots_of (c.in_ok-new-2.field-0-0, c.in_ok-new-2.new)) (option_map pair_of c.proof_differs-in-None-differ.result) c.if-m-count.false part c.in_ok-new-2.ensures c.in-None-differ.ensures c.proof_differs-in-None-differ.ensures
