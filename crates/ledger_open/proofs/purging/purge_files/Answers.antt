use Rattle.std.specs.Prelude.{Bool, IsTrue}
use Rattle.std.proofs.Common.{◌≡◌, ◌+◌, List, ℕ, length, map, drop, refl, sym, ap, subst, arith, ◌∙◌}
use Rattle.twin_file.specs.Which.{file_of, format_in, generation_in}
use Rattle.ledger_open.specs.Heads.{edition_from, edition_in}
use Rattle.ledger_open.specs.Cutting.{IsPrepared}
use Rattle.block_file.specs.FileView.{gate_of}
use Rattle.ledger_open.specs.Places.{AreInOrder}
use Rattle.block_file.specs.Places.{moved_place}
use Rattle.block_file.specs.declared.place.PlaceAt.{PlaceAt}
use Rattle.ledger_open.specs.Purging.{Ledger, ledger_at, Purges, IsAtGate, IsDone, KeepsFrom}
use Rattle.ledger_open.specs.declared.opened.Opened.{Opened}
use Rattle.twin_file.specs.declared.twin.Twin.{Twin}
use Rattle.ledger_open.proofs.ByteLaws.{gate_copied, order_left}
use Rattle.ledger_open.proofs.FinishedLaws.{same_pairs, falls, floor_under, finished, moved_pairs, purged, tail_few}
use Rattle.ledger_open.proofs.PlaceMoves.{places_moved}
use Rattle.ledger_open.proofs.purging.purge_files.Goals as goal

edition_moved : (t : Twin) (next : ℕ) → generation_in t ≡ next → format_in t ≡ 2 → edition_in t ≡ edition_from 2 next
edition_moved t next number version = ap (λ (n : ℕ). edition_from n (generation_in t)) version ∙ ap (edition_from 2) number

finishes : (tells : Bool) (old new : Ledger) → Purges tells old new → (IsTrue tells → IsAtGate old → IsAtGate new) → (AreInOrder 64 old.known.gate old.known.places → AreInOrder 64 new.known.gate new.known.places) → IsDone tells old new
finishes tells old new purges gate order = record {
  purges = purges;
  clean = λ told below h s. finished old h s below tells new (purges _ _ _ (falls old h s below) (floor_under old h s below)) told;
  gate = gate;
  order = order;
}

pub returns-in_default-clause-done : goal.returns-in_default-clause-done
returns-in_default-clause-done g c later is =
    subst (λ (o : Opened). IsDone g.D.Disk.tells (ledger_at c.args.opened.now (g.D.Disk.state c.args.a.now).bytes (g.D.Disk.state c.args.b.now).bytes) (ledger_at o (g.D.Disk.state c.args.a.now).bytes (g.D.Disk.state c.args.b.now).bytes)) (sym is)
    (finishes _ _ _ (λ floor front behind gone less. absurd (subst (IsPrepared _ _) c.in_default.is c.requires.prepared _ floor front behind gone less)) (λ told at. at) (λ order. order))

pub returns-in_default-clause-left : goal.returns-in_default-clause-left
returns-in_default-clause-left g c = record { images = λ told h s. same_pairs _ h s _ _ refl refl; idle = λ told still. (refl, refl) }

pub returns-in-Ok-clause-done : goal.returns-in-Ok-clause-done
returns-in-Ok-clause-done g c later gone =
    let cut = c.in-Some.field-0.cut in
    let prepared = subst (IsPrepared _ _) c.in-Some.is c.requires.prepared in
    let point = prepared.0.0.point in
    let inside = prepared.0.0.gate _ c.requires.inside in
    let few = tail_few _ _ _ (file_of c.move_over.new.twin) c.in-Ok.ensures.told (g.met.D.Disk.bounded c.move_over.new.a) (g.met.D.Disk.bounded c.move_over.new.b) in
    let first : 64 + length c.as_slice-in-Ok.result.now ≡ 64 + length c.as_slice.result.now = ap (λ (l : List ℕ). 64 + length l) (c.as_slice-in-Ok.ensures ∙ sym c.as_slice.ensures) in
    let first_gate = 64 + length c.as_slice-in-Ok.result.now in
    subst (λ (t : Twin). IsDone g.D.Disk.tells (ledger_at c.args.opened.now (g.D.Disk.state c.args.a.now).bytes (g.D.Disk.state c.args.b.now).bytes) (ledger_at (record later { twin = t }) (g.D.Disk.state c.move_over.new.a).bytes (g.D.Disk.state c.move_over.new.b).bytes)) (sym gone.twin)
    (finishes _ _ _
    (λ floor front behind falls_away less.
    purged g.D.Disk.tells floor front behind _ _ cut c.in-Some.field-0.base c.as_slice.result.now falls_away c.as_slice.ensures prepared.1 (prepared.0.1 _ floor front behind falls_away)
    (subst (λ (n : ℕ). KeepsFrom n c.args.opened.now.book later.book) point gone.book) first_gate first
    (λ blocks are fits. gone.places ∙ ap (map (moved_place cut.gate first_gate)) are ∙ places_moved cut.gate first_gate blocks fits)
    c.in-Ok.ensures.twin.4 few c.in-Ok.ensures.twin.0 (edition_moved c.move_over.new.twin _ c.in-Ok.ensures.twin.1 c.in-Ok.ensures.twin.2) c.in-Ok.ensures.bytes c.in-Ok.ensures.wiped)
    (λ told at. gate_copied _ _ _ c.as_slice.result.now inside (c.in-Ok.ensures.bytes told) c.in-Ok.ensures.twin.4 (edition_moved c.move_over.new.twin _ c.in-Ok.ensures.twin.1 c.in-Ok.ensures.twin.2) at)
    (λ order.
    subst (λ (ps : List PlaceAt). AreInOrder 64 (gate_of (file_of c.move_over.new.twin)) ps) (sym gone.places)
    (subst (λ (n : ℕ). AreInOrder 64 n (map (moved_place cut.gate first_gate) (drop cut.count c.args.opened.now.places.list)))
    (omega (arith, first, c.in-Ok.ensures.twin.4))
    (order_left cut.gate (gate_of (file_of c.args.opened.now.twin)) first_gate (drop cut.count c.args.opened.now.places.list) inside (omega (arith, few, first, c.in-Ok.ensures.twin.4)) (omega arith) (prepared.0.0.behind 64 _ order)))))

pub returns-in-Ok-clause-may : goal.returns-in-Ok-clause-may
returns-in-Ok-clause-may g c =
    let inside = (subst (IsPrepared _ _) c.in-Some.is c.requires.prepared).0.0 in (
      omega (arith, inside.before, inside.point),
      omega (arith, inside.most, inside.point),
      omega (arith, inside.count),
    )

pub returns-in-Ok-clause-same : goal.returns-in-Ok-clause-same
returns-in-Ok-clause-same g c still = absurd (omega (arith, still, (subst (IsPrepared _ _) c.in-Some.is c.requires.prepared).0.0.before))

pub returns-clause-same : goal.returns-clause-same
returns-clause-same g c still = absurd (omega (arith, still, (subst (IsPrepared _ _) c.in-Some.is c.requires.prepared).0.0.before))

pub returns-in-Ok-clause-left : goal.returns-in-Ok-clause-left
returns-in-Ok-clause-left g c =
    let prepared = subst (IsPrepared _ _) c.in-Some.is c.requires.prepared in
    record {
      images = λ told h s.
          moved_pairs _ h s prepared.0.0.before c.in-Some.field-0.cut c.in-Some.field-0.base c.as_slice.result.now c.as_slice.ensures prepared.1 (prepared.0.1 _ _ _ _ (falls _ h s prepared.0.0.before)) _ _ (c.move_over.ensures.images told);
      idle = λ told still. absurd (omega (arith, still, prepared.0.0.before));
    }

pub returns-clause-left : goal.returns-clause-left
returns-clause-left g c =
    let prepared = subst (IsPrepared _ _) c.in-Some.is c.requires.prepared in
    record {
      images = λ told h s.
          moved_pairs _ h s prepared.0.0.before c.in-Some.field-0.cut c.in-Some.field-0.base c.as_slice.result.now c.as_slice.ensures prepared.1 (prepared.0.1 _ _ _ _ (falls _ h s prepared.0.0.before)) _ _ (c.move_over.ensures.images told);
      idle = λ told still. absurd (omega (arith, still, prepared.0.0.before));
    }
