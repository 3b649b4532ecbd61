use Rattle.std.proofs.Common.{inl, inr, [], ◌∷◌, List, ℕ, ◌∙◌, ap, subst, drop}
use Rattle.ledger_disk.specs.Disk.{State, MayLeave, settled_state}
use Rattle.ledger_disk.proofs.Guarding.{settled_image}
use Rattle.block_file.specs.File.{whole_file}
use Rattle.block_file.specs.Head.{front_of}
use Rattle.block_file.proofs.VeilLaws.{veiled_gate}
use Rattle.twin_file.proofs.OpenLaws.{shut_kept}
use Rattle.twin_file.proofs.parts.make_first.Goals as goal

pub returns-in_err-file-clause-images : goal.returns-in_err-file-clause-images
returns-in_err-file-clause-images g c told quiet shut image left = inl (shut_kept (g.D.Disk.state c.args.disk.now).bytes (g.D.Disk.state c.begin.new.disk).bytes image (c.begin.ensures.images told) quiet shut left)

pub returns-in_err-put_block-clause-images : goal.returns-in_err-put_block-clause-images
returns-in_err-put_block-clause-images g c told quiet shut image left = inl (inr (veiled_gate (g.D.Disk.state c.put_block.new.disk).bytes image (c.put_block.ensures.veiled told (c.in_ok-file.ensures.veiled told)) left))

pub returns-in_err-unveil-clause-images : goal.returns-in_err-unveil-clause-images
returns-in_err-unveil-clause-images g c told quiet shut image left =
    let seen = c.in_ok-put_block.ensures.seen told (front_of 0 1 []) [] (c.in_ok-file.ensures.begun.seen told).seen (c.in_ok-file.ensures.begun.seen told).ends in
    let veiled = c.put_block.ensures.veiled told (c.in_ok-file.ensures.veiled told) in
    elim (c.in_err-unveil.ensures.err told veiled image left) [
      | inl shut ↦ inl (inr shut)
      | inr is ↦ inr (is ∙ ap (λ (l : List ℕ). 1 ∷ drop 1 l) seen)
    ]

pub returns-clause-ok : goal.returns-clause-ok
returns-clause-ok g c told =
    let seen = c.in_ok-put_block.ensures.seen told (front_of 0 1 []) [] (c.in_ok-file.ensures.begun.seen told).seen (c.in_ok-file.ensures.begun.seen told).ends in
    c.in_ok-unveil.ensures.ok told ∙ ap (λ (l : List ℕ). settled_state (1 ∷ drop 1 l)) seen

pub returns-clause-images : goal.returns-clause-images
returns-clause-images g c told quiet shut image left =
    let seen = c.in_ok-put_block.ensures.seen told (front_of 0 1 []) [] (c.in_ok-file.ensures.begun.seen told).seen (c.in_ok-file.ensures.begun.seen told).ends in
    let now = c.in_ok-unveil.ensures.ok told ∙ ap (λ (l : List ℕ). settled_state (1 ∷ drop 1 l)) seen in
    inr (settled_image (whole_file (front_of 1 1 []) (c.args.block.now ∷ [])) image (subst (λ (s : State). MayLeave s image) now left))
