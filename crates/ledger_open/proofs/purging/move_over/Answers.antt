use Rattle.std.proofs.Common.{ap, ◌∙◌}
use Rattle.block_file.specs.FileView.{gate_of}
use Rattle.ledger_open.proofs.MoveLaws.{quiet, begun_pairs, copied_pairs, copying_at, on_ok, range_at, switch_failed, wiped_copy, wipe_left}
use Rattle.ledger_open.proofs.ByteLaws.{wiped_bytes}
use Rattle.ledger_open.proofs.purging.move_over.Goals as goal

pub returns-in_err-begin_copy-clause-images : goal.returns-in_err-begin_copy-clause-images
returns-in_err-begin_copy-clause-images g c told blocks m taken =
    begun_pairs _ _ _ _ m _ _ _ (c.begin_copy.ensures.kept.same told) (c.begin_copy.ensures.images told).passed

pub returns-in_err-copy_block-clause-images : goal.returns-in_err-copy_block-clause-images
returns-in_err-copy_block-clause-images g c told blocks m taken =
    let x = c.begin_copy.ensures.which.in_a in
    copied_pairs _ _ _ _ m _ _ _ _ _ _ x (c.begin_copy.ensures.kept.same told) (c.copy_block.ensures.kept.same told)
    (c.copy_block.ensures.copying told (copying_at _ _ x _ _ (c.in_ok-begin_copy.ensures.copying told (quiet _ _ _ _ m)))).shut

pub returns-in_err-switch-clause-images : goal.returns-in_err-switch-clause-images
returns-in_err-switch-clause-images g c told blocks m taken =
    switch_failed _ _ _ _ _ _ _ _ _ _ _ _ _ blocks _ _ _ _ c.begin_copy.ensures.which.in_a c.copy_block.ensures.which.in_a
    (c.begin_copy.ensures.kept.same told) (c.copy_block.ensures.kept.same told) (c.switch.ensures.kept.same told) (c.in_ok-begin_copy.ensures.begun.seen told) (c.in_ok-copy_block.ensures.extended.seen told) (range_at _ _ _ (c.tail-tail.ensures ∙ ap gate_of c.file.ensures.value) taken)
    m (c.in_ok-begin_copy.ensures.copying told) (λ copying. (c.copy_block.ensures.copying told copying).copying) (c.in_err-switch.ensures.images_err told)

pub returns-clause-copied : goal.returns-clause-copied
returns-clause-copied g c = on_ok c.wipe.result _ (λ told blocks taken.
    wiped_copy _ _ _ _ _ _ _ _ _ _ _ _ _ blocks _ _ _ _ c.begin_copy.ensures.which.in_a c.copy_block.ensures.which.in_a
    (c.begin_copy.ensures.kept.same told) (c.copy_block.ensures.kept.same told) (c.switch.ensures.kept.same told) (c.in_ok-begin_copy.ensures.begun.seen told) (c.in_ok-copy_block.ensures.extended.seen told) (range_at _ _ _ (c.tail-tail.ensures ∙ ap gate_of c.file.ensures.value) taken)
    _ _ _ _ c.in_ok-switch.ensures.which.in_a c.wipe.ensures.which.in_a (c.in_ok-switch.ensures.switched told).ok (c.wipe.ensures.kept.same told))

pub returns-clause-bytes : goal.returns-clause-bytes
returns-clause-bytes g c = on_ok c.wipe.result _ (λ told.
    wiped_bytes _ _ _ _ _ _ _ _ _ _ _ _ _ _ _ c.begin_copy.ensures.which.in_a c.copy_block.ensures.which.in_a
    (c.begin_copy.ensures.kept.same told) (c.in_ok-begin_copy.ensures.begun.seen told) (c.in_ok-copy_block.ensures.extended.longer told) (c.tail-tail.ensures ∙ ap gate_of c.file.ensures.value)
    _ _ _ _ _ _ c.in_ok-switch.ensures.which.in_a c.wipe.ensures.which.in_a (c.in_ok-switch.ensures.switched told).ok (c.wipe.ensures.kept.same told))

pub returns-clause-images : goal.returns-clause-images
returns-clause-images g c told blocks m taken =
    wipe_left _ _ _ _ _ _ _ _ _ _ _ _ _ blocks _ _ _ _ c.begin_copy.ensures.which.in_a c.copy_block.ensures.which.in_a
    (c.begin_copy.ensures.kept.same told) (c.copy_block.ensures.kept.same told) (c.switch.ensures.kept.same told) (c.in_ok-begin_copy.ensures.begun.seen told) (c.in_ok-copy_block.ensures.extended.seen told) (range_at _ _ _ (c.tail-tail.ensures ∙ ap gate_of c.file.ensures.value) taken)
    m (c.in_ok-begin_copy.ensures.copying told) (λ copying. (c.copy_block.ensures.copying told copying).copying) _ _ _ c.in_ok-switch.ensures.which.in_a (c.in_ok-switch.ensures.switched told).ok (c.wipe.ensures.kept.same told) (c.wipe.ensures.front told)
