use Rattle.std.proofs.Common.{◌<◌, ap, ◌∙◌, drop, length, sym, arith}
use Rattle.ledger_io.specs.Memory.{Feed}
use Rattle.ledger_io.proofs.Pieces.{drop-take-drop, drop-nil}
use Rattle.ledger_io.proofs.memory.MemSourceSource.read.Goals as goal

pub returns-clause-bytes : goal.returns-clause-bytes
returns-clause-bytes c =
    let bytes = c.self.inside.bytes in
    let at = c.self.inside.at in
    let from = c.split_at.ensures.back ∙ ap (drop at) c.as_slice.ensures in (
      ap (λ (feed : Feed). feed.left) (sym c.self.view_is) ∙ drop-take-drop bytes _ _ at c.fill-count.result from c.fill-count.ensures.copied,
      λ none some. drop-nil bytes _ at c.fill-count.result _ from c.fill-count.ensures.count none (let room : 0 < length c.args.into.now = omega arith in room),
    )
