use Rattle.std.proofs.Common.{inr, sym, ap, ◌∙◌, subst, ℕ}
use Rattle.block_file.specs.FileView.{gate_of}
use Rattle.ledger_model.specs.Genesis.{new_ledger}
use Rattle.twin_file.specs.Which.{file_of, generation_in}
use Rattle.ledger_open.specs.Heads.{edition_from}
use Rattle.ledger_open.specs.Opening.{Knows, known_from}
use Rattle.std.specs.Prelude.{None}
use Rattle.ledger_open.proofs.FoundingLaws.{made_images, shut_now, first_tail}
use Rattle.ledger_open.proofs.founding.init.Goals as goal

pub returns-in-Ok-clause-ok : goal.returns-in-Ok-clause-ok
returns-in-Ok-clause-ok g c =
    let place = first_tail c.args.genesis.now c.as_slice.result.now (gate_of (file_of c.in-Ok.twin)) c.in_ok-made.ensures.keys (c.as_slice.ensures ∙ c.in_ok-made.ensures.block) c.in-Ok.ensures.twin.3 in
    (subst (λ (n : ℕ). Knows (known_from c.in_ok-made.made.book c.in_ok-made.made.places.list n) None (new_ledger c.args.genesis.now).closed) (sym place) c.in_ok-made.ensures.known, c.in-Ok.ensures.twin.0)

pub returns-in-Ok-clause-images : goal.returns-in-Ok-clause-images
returns-in-Ok-clause-images g c told shut_a shut_b quiet image_a image_b left_a left_b =
    made_images c.args.genesis.now c.as_slice.result.now image_a image_b c.in_ok-made.ensures.keys (c.as_slice.ensures ∙ c.in_ok-made.ensures.block)
    (c.in-Ok.ensures.images told
    (shut_now (g.D.Disk.state c.args.a.now).bytes (g.D.Disk.state c.args.b.now).bytes (g.D.Disk.state c.is_open.new.disk).bytes (g.D.Disk.state c.is_open-2.new.disk).bytes (c.in_ok-is_open.ensures.state told ∙ c.in_ok-sync.ensures.ok told) (c.in_ok-is_open-2.ensures.state told ∙ c.in_ok-sync-2.ensures.ok told) shut_a shut_b) image_a image_b left_a left_b)

pub returns-in-Err-clause-images : goal.returns-in-Err-clause-images
returns-in-Err-clause-images g c told shut_a shut_b quiet image_a image_b left_a left_b =
    made_images c.args.genesis.now c.as_slice.result.now image_a image_b c.in_ok-made.ensures.keys (c.as_slice.ensures ∙ c.in_ok-made.ensures.block)
    (c.in-Err.ensures.images told
    (shut_now (g.D.Disk.state c.args.a.now).bytes (g.D.Disk.state c.args.b.now).bytes (g.D.Disk.state c.is_open.new.disk).bytes (g.D.Disk.state c.is_open-2.new.disk).bytes (c.in_ok-is_open.ensures.state told ∙ c.in_ok-sync.ensures.ok told) (c.in_ok-is_open-2.ensures.state told ∙ c.in_ok-sync-2.ensures.ok told) shut_a shut_b) image_a image_b left_a left_b)

pub returns-in-Ok-clause-synced : goal.returns-in-Ok-clause-synced
returns-in-Ok-clause-synced g c told = inr (λ shut_a shut_b image_a image_b left_a left_b.
    made_images c.args.genesis.now c.as_slice.result.now image_a image_b c.in_ok-made.ensures.keys (c.as_slice.ensures ∙ c.in_ok-made.ensures.block)
    (c.in-Ok.ensures.images told
    (shut_now (g.D.Disk.state c.args.a.now).bytes (g.D.Disk.state c.args.b.now).bytes (g.D.Disk.state c.is_open.new.disk).bytes (g.D.Disk.state c.is_open-2.new.disk).bytes (c.in_ok-is_open.ensures.state told ∙ c.in_ok-sync.ensures.ok told) (c.in_ok-is_open-2.ensures.state told ∙ c.in_ok-sync-2.ensures.ok told) shut_a shut_b) image_a image_b left_a left_b))

pub returns-in-Err-clause-synced : goal.returns-in-Err-clause-synced
returns-in-Err-clause-synced g c told = inr (λ shut_a shut_b image_a image_b left_a left_b.
    made_images c.args.genesis.now c.as_slice.result.now image_a image_b c.in_ok-made.ensures.keys (c.as_slice.ensures ∙ c.in_ok-made.ensures.block)
    (c.in-Err.ensures.images told
    (shut_now (g.D.Disk.state c.args.a.now).bytes (g.D.Disk.state c.args.b.now).bytes (g.D.Disk.state c.is_open.new.disk).bytes (g.D.Disk.state c.is_open-2.new.disk).bytes (c.in_ok-is_open.ensures.state told ∙ c.in_ok-sync.ensures.ok told) (c.in_ok-is_open-2.ensures.state told ∙ c.in_ok-sync-2.ensures.ok told) shut_a shut_b) image_a image_b left_a left_b))

pub returns-in-Ok-clause-twin : goal.returns-in-Ok-clause-twin
returns-in-Ok-clause-twin g c =
    let t = c.in-Ok.ensures.twin in
    (ap (λ (n : ℕ). edition_from n (generation_in c.in-Ok.twin)) t.2 ∙ ap (edition_from 2) t.1, t.4)
