use Rattle.std.specs.Prelude.{Bool, IsTrue, Option, None}
use Rattle.std.proofs.Common.{◌≡◌, ℕ, List, refl, sym, ap, subst, ◌∙◌}
use Rattle.ledger_disk.specs.Disk.{State, DiskState}
use Rattle.ledger_model.specs.History.{History}
use Rattle.block_file.specs.FileView.{gate_of}
use Rattle.twin_file.specs.Twin.{open_of}
use Rattle.twin_file.specs.Which.{in_a_of, file_of, format_in}
use Rattle.twin_file.specs.declared.twin.Twin.{Twin}
use Rattle.ledger_open.specs.Carrying.{IsBaseToCarry, MayCarry, StandsCarrying}
use Rattle.ledger_open.specs.Heads.{Edition, edition_in, edition_of}
use Rattle.ledger_open.specs.Opening.{AreUnchanged, Known, known_from}
use Rattle.ledger_open.specs.Reopened.{PairStandsStill, IsCleanStill, IsHere, IsMended, KnowsMended, Remembers}
use Rattle.ledger_open.specs.Standing.{IsCleanPair}
use Rattle.ledger_open.specs.declared.opened.Opened.{Opened}
use Rattle.ledger_open.proofs.CarryLaws.{may_carry, carrying_pairs, none_taken}
use Rattle.ledger_open.proofs.OpenLaws.{same_pair}
use Rattle.ledger_open.proofs.reopening.open_pair.Goals as goal

from_start : (P : State → State → Type 0) (a b a_now b_now : State) → a_now ≡ a → b_now ≡ b → P a_now b_now → P a b
from_start P a b a_now b_now ea eb p = subst (λ (s : State). P s b) ea (subst (λ (s : State). P a_now s) eb p)

both : (a b a1 b1 a2 b2 : State) → AreUnchanged a b a1 b1 → AreUnchanged a1 b1 a2 b2 → AreUnchanged a b a2 b2
both a b a1 b1 a2 b2 x y = (y.0 ∙ x.0, y.1 ∙ x.1)

-- a clean pair of which nothing was carried over is as it was
still_clean : (a b a_read b_read : State) (a1 b1 a2 b2 : DiskState) → AreUnchanged a b a_read b_read → IsCleanStill a_read b_read a1.bytes b1.bytes → (a2 ≡ a1) × (b2 ≡ b1) → IsCleanStill a b a2.bytes b2.bytes
still_clean a b a_read b_read a1 b1 a2 b2 same clean idle qa qb h is =
    let still = from_start (λ s t. IsCleanStill s t a1.bytes b1.bytes) a b a_read b_read same.0 same.1 clean qa qb h is in
    (ap (λ (d : DiskState). d.bytes) idle.0 ∙ still.0, ap (λ (d : DiskState). d.bytes) idle.1 ∙ still.1)

-- the file that was taken of a pair was read, and what a crash left undone was done
module _ (tells : Bool) (told : IsTrue tells) (twin : Twin) (o : Opened) (a b a_read b_read : State) (base : Option (List ℕ)) (here : IsHere (in_a_of twin) (edition_in twin) a b) (same : AreUnchanged a b a_read b_read)
    (bytes : IsBaseToCarry tells (format_in twin) (open_of (in_a_of twin) a b).seen base) where
  named : format_in twin ≡ (edition_of (open_of (in_a_of twin) a b).seen).version
  named = ap (λ (e : Edition). e.version) here.edition_is

  none : (h : History) → IsCleanPair a.seen b.seen h → base ≡ None
  none h clean = none_taken tells told (in_a_of twin) o.twin a b base here.taken (format_in twin) named bytes h clean

  abbrev k : Known
  k = known_from o.book o.places.list (gate_of (file_of o.twin))

  module _ (a1 b1 : State) (known : KnowsMended tells (in_a_of o.twin) k a_read b_read a1 b1) (edition : IsTrue tells → edition_in o.twin ≡ edition_of (open_of (in_a_of o.twin) a1 b1).seen) where
    mended : IsMended (in_a_of o.twin) k known.0 known.1 a b a1 b1
    mended = from_start (λ s t. IsMended (in_a_of o.twin) k known.0 known.1 s t a1 b1) a b a_read b_read same.0 same.1 (known.3 told)

    -- .. so it may be carried over
    may : MayCarry o.twin base a1 b1
    may = may_carry tells told (in_a_of twin) o.twin a b base here.taken (format_in twin) named bytes k known.0 known.1 a1 b1 refl known.2 mended (edition told)

    pairs : (a2 b2 : State) → StandsCarrying (in_a_of o.twin) a1 b1 a2 b2 → PairStandsStill a b a2 b2
    pairs = carrying_pairs tells told (in_a_of twin) o.twin a b base here.taken (format_in twin) named bytes k known.0 known.1 a1 b1 refl known.2 mended (edition told)

pub returns-in_err-base-clause-images : goal.returns-in_err-base-clause-images
returns-in_err-base-clause-images g c told h p image_a image_b la lb =
    let same = c.base_to_carry.ensures.bytes told in
    let here = c.requires.here told in
    same_pair h (g.D.Disk.state c.args.a.now).bytes (g.D.Disk.state c.args.b.now).bytes _ _ same.0 same.1 here.quiet_a here.quiet_b p image_a image_b la lb

pub returns-in_err-opened-clause-images : goal.returns-in_err-opened-clause-images
returns-in_err-opened-clause-images g c told h p image_a image_b la lb =
    let same = both _ _ _ _ _ _ (c.base_to_carry.ensures.bytes told) (c.read_pair.ensures.state told) in
    let here = c.requires.here told in
    same_pair h (g.D.Disk.state c.args.a.now).bytes (g.D.Disk.state c.args.b.now).bytes _ _ same.0 same.1 here.quiet_a here.quiet_b p image_a image_b la lb

pub returns-in_err-purge-clause-images : goal.returns-in_err-purge-clause-images
returns-in_err-purge-clause-images g c told h p image_a image_b la lb =
    let same = both _ _ _ _ _ _ (c.base_to_carry.ensures.bytes told) (c.read_pair.ensures.state told) in
    let here = c.requires.here told in
    same_pair h (g.D.Disk.state c.args.a.now).bytes (g.D.Disk.state c.args.b.now).bytes _ _ same.0 same.1 here.quiet_a here.quiet_b p image_a image_b la lb

pub returns-in_err-finish_open-clause-images : goal.returns-in_err-finish_open-clause-images
returns-in_err-finish_open-clause-images g c told =
    let same = both _ _ _ _ _ _ (c.base_to_carry.ensures.bytes told) (c.read_pair.ensures.state told) in
    from_start (λ a b. PairStandsStill a b (g.D.Disk.state c.finish_open.new.a).bytes (g.D.Disk.state c.finish_open.new.b).bytes) _ _ _ _ same.0 same.1 (c.finish_open.ensures.images told)

pub returns-in_err-finish_open-clause-clean : goal.returns-in_err-finish_open-clause-clean
returns-in_err-finish_open-clause-clean g c told =
    let same = both _ _ _ _ _ _ (c.base_to_carry.ensures.bytes told) (c.read_pair.ensures.state told) in
    from_start (λ a b. IsCleanStill a b (g.D.Disk.state c.finish_open.new.a).bytes (g.D.Disk.state c.finish_open.new.b).bytes) _ _ _ _ same.0 same.1 (c.finish_open.ensures.clean told)

pub returns-clause-ok : goal.returns-clause-ok
returns-clause-ok g c =
    let o = c.finish_open.new.opened in
    let all = c.in_ok-finish_open.ensures.ok in
    let gate = c.in_ok-carry.ensures.gate in (
      all.0,
      all.1,
      subst (λ (n : ℕ). Remembers (known_from o.book o.places.list n) all.0 all.1) (sym gate) all.2,
      λ told. record {
        in_a_then = in_a_of o.twin;
        a_then = (g.D.Disk.state c.finish_open.new.a).bytes;
        b_then = (g.D.Disk.state c.finish_open.new.b).bytes;
        mended =
            subst (λ (n : ℕ). IsMended (in_a_of o.twin) (known_from o.book o.places.list n) all.0 all.1 (g.D.Disk.state c.args.a.now).bytes (g.D.Disk.state c.args.b.now).bytes (g.D.Disk.state c.finish_open.new.a).bytes (g.D.Disk.state c.finish_open.new.b).bytes) (sym gate)
            (mended g.D.Disk.tells told c.args.twin c.finish_open.new.opened (g.D.Disk.state c.args.a.now).bytes (g.D.Disk.state c.args.b.now).bytes _ _ c.in_ok-base.base (c.requires.here told) (both _ _ _ _ _ _ (c.base_to_carry.ensures.bytes told) (c.read_pair.ensures.state told)) c.in_ok-base.ensures.base _ _ c.in_ok-finish_open.ensures.ok c.in_ok-finish_open.ensures.edition);
        left = c.in_ok-carry.ensures.ok told (may g.D.Disk.tells told c.args.twin c.finish_open.new.opened (g.D.Disk.state c.args.a.now).bytes (g.D.Disk.state c.args.b.now).bytes _ _ c.in_ok-base.base (c.requires.here told) (both _ _ _ _ _ _ (c.base_to_carry.ensures.bytes told) (c.read_pair.ensures.state told)) c.in_ok-base.ensures.base _ _ c.in_ok-finish_open.ensures.ok c.in_ok-finish_open.ensures.edition);
      },
    )

pub returns-clause-edition : goal.returns-clause-edition
returns-clause-edition g c told =
    c.in_ok-carry.ensures.edition told (may g.D.Disk.tells told c.args.twin c.finish_open.new.opened (g.D.Disk.state c.args.a.now).bytes (g.D.Disk.state c.args.b.now).bytes _ _ c.in_ok-base.base (c.requires.here told) (both _ _ _ _ _ _ (c.base_to_carry.ensures.bytes told) (c.read_pair.ensures.state told)) c.in_ok-base.ensures.base _ _ c.in_ok-finish_open.ensures.ok c.in_ok-finish_open.ensures.edition)

pub returns-clause-images : goal.returns-clause-images
returns-clause-images g c told =
    pairs g.D.Disk.tells told c.args.twin c.finish_open.new.opened (g.D.Disk.state c.args.a.now).bytes (g.D.Disk.state c.args.b.now).bytes _ _ c.in_ok-base.base (c.requires.here told) (both _ _ _ _ _ _ (c.base_to_carry.ensures.bytes told) (c.read_pair.ensures.state told)) c.in_ok-base.ensures.base _ _ c.in_ok-finish_open.ensures.ok c.in_ok-finish_open.ensures.edition _ _
    (c.carry.ensures.images told (may g.D.Disk.tells told c.args.twin c.finish_open.new.opened (g.D.Disk.state c.args.a.now).bytes (g.D.Disk.state c.args.b.now).bytes _ _ c.in_ok-base.base (c.requires.here told) (both _ _ _ _ _ _ (c.base_to_carry.ensures.bytes told) (c.read_pair.ensures.state told)) c.in_ok-base.ensures.base _ _ c.in_ok-finish_open.ensures.ok c.in_ok-finish_open.ensures.edition))

pub returns-in_err-carry-clause-images : goal.returns-in_err-carry-clause-images
returns-in_err-carry-clause-images g c told =
    pairs g.D.Disk.tells told c.args.twin c.finish_open.new.opened (g.D.Disk.state c.args.a.now).bytes (g.D.Disk.state c.args.b.now).bytes _ _ c.in_ok-base.base (c.requires.here told) (both _ _ _ _ _ _ (c.base_to_carry.ensures.bytes told) (c.read_pair.ensures.state told)) c.in_ok-base.ensures.base _ _ c.in_ok-finish_open.ensures.ok c.in_ok-finish_open.ensures.edition _ _
    (c.carry.ensures.images told (may g.D.Disk.tells told c.args.twin c.finish_open.new.opened (g.D.Disk.state c.args.a.now).bytes (g.D.Disk.state c.args.b.now).bytes _ _ c.in_ok-base.base (c.requires.here told) (both _ _ _ _ _ _ (c.base_to_carry.ensures.bytes told) (c.read_pair.ensures.state told)) c.in_ok-base.ensures.base _ _ c.in_ok-finish_open.ensures.ok c.in_ok-finish_open.ensures.edition))

pub returns-clause-clean : goal.returns-clause-clean
returns-clause-clean g c told qa qb h clean =
    let same = both _ _ _ _ _ _ (c.base_to_carry.ensures.bytes told) (c.read_pair.ensures.state told) in
    still_clean _ _ _ _ _ _ (g.D.Disk.state c.carry.new.a) (g.D.Disk.state c.carry.new.b) same (c.finish_open.ensures.clean told)
    (c.carry.ensures.idle (none g.D.Disk.tells told c.args.twin c.finish_open.new.opened (g.D.Disk.state c.args.a.now).bytes (g.D.Disk.state c.args.b.now).bytes _ _ c.in_ok-base.base (c.requires.here told) (both _ _ _ _ _ _ (c.base_to_carry.ensures.bytes told) (c.read_pair.ensures.state told)) c.in_ok-base.ensures.base h clean)) qa qb h clean

pub returns-in_err-carry-clause-clean : goal.returns-in_err-carry-clause-clean
returns-in_err-carry-clause-clean g c told qa qb h clean =
    let same = both _ _ _ _ _ _ (c.base_to_carry.ensures.bytes told) (c.read_pair.ensures.state told) in
    still_clean _ _ _ _ _ _ (g.D.Disk.state c.carry.new.a) (g.D.Disk.state c.carry.new.b) same (c.finish_open.ensures.clean told)
    (c.carry.ensures.idle (none g.D.Disk.tells told c.args.twin c.finish_open.new.opened (g.D.Disk.state c.args.a.now).bytes (g.D.Disk.state c.args.b.now).bytes _ _ c.in_ok-base.base (c.requires.here told) (both _ _ _ _ _ _ (c.base_to_carry.ensures.bytes told) (c.read_pair.ensures.state told)) c.in_ok-base.ensures.base h clean)) qa qb h clean
