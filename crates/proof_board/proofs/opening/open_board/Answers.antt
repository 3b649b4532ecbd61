use Rattle.std.specs.Prelude.{All}
use Rattle.std.proofs.Common.{arith, List, [], ◌∷◌, ◌++◌, length, map, sym, ap, ◌∙◌, subst}
use Rattle.ledger_bytes.specs.declared.digest.Digest.{Digest}
use Rattle.merkle_batch.specs.Stretches.{Leaves}
use Rattle.proof_board.specs.declared.view.Growth.{Growth}
use Rattle.proof_board.specs.History.{Digests, Mark, IsWide, head_of, leaves_of}
use Rattle.proof_board.proofs.Publishing.{waits}
use Rattle.proof_board.proofs.Opened.{one_batch, opened_list}
use Rattle.proof_board.proofs.opening.open_board.Goals as goal

pub writer_of-requires-clause-whole : goal.writer_of-requires-clause-whole
writer_of-requires-clause-whole g c =
    let batch : Digests = leaves_of c.in_ok-leaves.leaves.items in
    let log = c.if-not-add.ensures.log ∙ ap (λ (l : List Digests). l ++ batch ∷ []) c.new-at.ensures.empty in
    one_batch c.in_ok-first.first batch (ap (λ (x : Growth). x.leaves) c.in_ok-first.ensures ∙ ap leaves_of c.as_slice-held.ensures.value)
    (ap (λ (x : Growth). x.at.log) c.in_ok-first.ensures ∙ ap (λ (m : Mark). m.log) c.again.ensures ∙ log)

pub writer_of-requires-clause-wide : goal.writer_of-requires-clause-wide
writer_of-requires-clause-wide g c =
    subst (All IsWide) (sym (ap (λ (x : Growth). x.leaves) c.in_ok-first.ensures ∙ ap leaves_of c.as_slice-held.ensures.value))
    (subst (λ (l : List Leaves). All IsWide (leaves_of l)) c.as_slice.ensures.value c.are_all_wide.ensures)

pub split_all-requires-clause-whole : goal.split_all-requires-clause-whole
split_all-requires-clause-whole g c =
    let batch : Digests = leaves_of c.in_ok-leaves.leaves.items in
    let log = c.if-not-add.ensures.log ∙ ap (λ (l : List Digests). l ++ batch ∷ []) c.new-at.ensures.empty in
    let shown = c.in_ok-writer.ensures.shown ∙ c.in_ok-first.ensures in
    one_batch c.in_ok-writer.writer.desk.shown.value batch (ap (λ (x : Growth). x.leaves) shown ∙ ap leaves_of c.as_slice-held.ensures.value)
    (ap (λ (x : Growth). x.at.log) shown ∙ ap (λ (m : Mark). m.log) c.again.ensures ∙ log)

pub split_all-requires-clause-some : goal.split_all-requires-clause-some
split_all-requires-clause-some g c =
    let batch : Digests = leaves_of c.in_ok-leaves.leaves.items in
    let log = c.if-not-add.ensures.log ∙ ap (λ (l : List Digests). l ++ batch ∷ []) c.new-at.ensures.empty in
    let shown = c.in_ok-writer.ensures.shown ∙ c.in_ok-first.ensures in
    let leaves = ap (λ (x : Growth). x.leaves) shown ∙ ap leaves_of c.as_slice-held.ensures.value in
    let whole = one_batch c.in_ok-writer.writer.desk.shown.value batch leaves (ap (λ (x : Growth). x.at.log) shown ∙ ap (λ (m : Mark). m.log) c.again.ensures ∙ log) in
    omega (arith, ap length whole, ap length leaves, c.in_ok-leaves.ensures.count, c.requires.keeps)

pub split_all-requires-clause-wide : goal.split_all-requires-clause-wide
split_all-requires-clause-wide g c =
    let batch : Digests = leaves_of c.in_ok-leaves.leaves.items in
    let log = c.if-not-add.ensures.log ∙ ap (λ (l : List Digests). l ++ batch ∷ []) c.new-at.ensures.empty in
    let shown = c.in_ok-writer.ensures.shown ∙ c.in_ok-first.ensures in
    let leaves = ap (λ (x : Growth). x.leaves) shown ∙ ap leaves_of c.as_slice-held.ensures.value in
    let whole = one_batch c.in_ok-writer.writer.desk.shown.value batch leaves (ap (λ (x : Growth). x.at.log) shown ∙ ap (λ (m : Mark). m.log) c.again.ensures ∙ log) in
    subst (All IsWide) (sym leaves ∙ whole) (subst (λ (l : List Leaves). All IsWide (leaves_of l)) c.as_slice.ensures.value c.are_all_wide.ensures)

pub invariant_of-writer : goal.invariant_of-writer
invariant_of-writer g c =
    let batch : Digests = leaves_of c.in_ok-leaves.leaves.items in
    let log = c.if-not-add.ensures.log ∙ ap (λ (l : List Digests). l ++ batch ∷ []) c.new-at.ensures.empty in
    let shown = c.split_all.ensures.same ∙ c.in_ok-writer.ensures.shown ∙ c.in_ok-first.ensures in
    let book = ap (λ (x : Growth). x.at.book) shown ∙ ap (λ (m : Mark). m.book) c.again.ensures ∙ c.add.ensures.book in record {
      counted = c.new-at.ensures.head ∙ ap head_of (sym book);
      whole = one_batch c.split_all.new.writer.desk.shown.value batch (ap (λ (x : Growth). x.leaves) shown ∙ ap leaves_of c.as_slice-held.ensures.value)
          (ap (λ (x : Growth). x.at.log) shown ∙ ap (λ (m : Mark). m.log) c.again.ensures ∙ log);
      ready = λ _. c.split_all.ensures.log ∙ c.in_ok-writer.ensures.none;
    }

pub returns-in-Ok-split_all-clause-lists : goal.returns-in-Ok-split_all-clause-lists
returns-in-Ok-split_all-clause-lists g c = λ ds stands wide.
    let batch : Digests = leaves_of c.in_ok-leaves.leaves.items in
    let log = c.if-not-add.ensures.log ∙ ap (λ (l : List Digests). l ++ batch ∷ []) c.new-at.ensures.empty in
    let shown = c.split_all.ensures.same ∙ c.in_ok-writer.ensures.shown ∙ c.in_ok-first.ensures in
    opened_list c.args.tree.now ds (map (λ (d : Digest). d.0) c.as_slice-known.result.now) batch c.floor-floor.result stands c.requires.keeps wide c.floor-floor.ensures
    (ap (map (λ (d : Digest). d.0)) c.as_slice-known.ensures.value ∙ c.in-Ok.ensures.peaks ds stands) (c.in_ok-leaves.ensures.digests ds stands)
    c.split_all.new.writer.desk.shown.value (ap (λ (x : Growth). x.base) shown) (ap (λ (x : Growth). x.at.log) shown ∙ ap (λ (m : Mark). m.log) c.again.ensures ∙ log)

pub returns-in-Ok-split_all-clause-writer : goal.returns-in-Ok-split_all-clause-writer
returns-in-Ok-split_all-clause-writer g c =
    let batch : Digests = leaves_of c.in_ok-leaves.leaves.items in
    let log = c.if-not-add.ensures.log ∙ ap (λ (l : List Digests). l ++ batch ∷ []) c.new-at.ensures.empty in
    let shown = c.split_all.ensures.same ∙ c.in_ok-writer.ensures.shown ∙ c.in_ok-first.ensures in (
      ap (λ (x : Growth). x.at.book) shown ∙ ap (λ (m : Mark). m.book) c.again.ensures,
      waits _ _ (c.split_all.ensures.log ∙ c.in_ok-writer.ensures.none) ∙ ap leaves_of c.new-in-Ok-split_all.ensures.items,
      ap length (ap (λ (x : Growth). x.at.log) shown ∙ ap (λ (m : Mark). m.log) c.again.ensures ∙ log),
    )
