-- What is known of a ledger that was made or opened, and of one that is held.
use Rattle.std.specs.Prelude.{Bool, true, false, IsTrue, IsSomeAnd, Option, None}
use Rattle.std.proofs.Common.{◌≡◌, inl, ℕ, ◌+◌, ◌≤◌, List, [], ◌++◌, length, refl, ap, sym, subst, ◌∙◌, arith, append-nil, length-append}
use Rattle.block_file.proofs.WriteLaws.{tail_shut}
use Rattle.block_file.specs.Head.{version_in}
use Rattle.block_file.specs.File.{IsSettled, IsShutAt}
use Rattle.journal_record.specs.Blocks.{body_of, written_blocks, AreFrom}
use Rattle.journal_record.specs.Entry.{Entry}
use Rattle.ledger_disk.specs.Disk.{DiskState, State, settled_state}
use Rattle.ledger_io.specs.Outside.{SinkState}
use Rattle.ledger_model.proofs.LawfulLaws.{some_journal}
use Rattle.ledger_model.specs.Genesis.{HasKeys, genesis_header, new_ledger}
use Rattle.ledger_model.specs.History.{History, history, journals, journals_of, size, point}
use Rattle.ledger_model.specs.Lawful.{AllGather, IsLawful}
use Rattle.ledger_model.specs.Targets.{is_hidden}
use Rattle.ledger_model.specs.Limits.{real_limits}
use Rattle.ledger_model.specs.declared.genesis.Genesis.{Genesis}
use Rattle.pseudo_genesis.specs.declared.base.Base.{Base}
use Rattle.ledger_book.specs.Books.{sealed_size}
use Rattle.ledger_book.proofs.OpenLaws.{opens_empty, opens_gather}
use Rattle.twin_file.proofs.HeadLaws.{generation_is}
use Rattle.twin_file.specs.Twin.{open_of}
use Rattle.ledger_open.specs.Heads.{Edition, edition_from, edition_of}
use Rattle.ledger_open.specs.Cutting.{gate_behind}
use Rattle.ledger_open.specs.Erasing.{EndsAs}
use Rattle.ledger_open.specs.Founding.{IsFounded}
use Rattle.ledger_open.specs.Growing.{new_file}
use Rattle.ledger_open.specs.Opening.{Known}
use Rattle.block_file.specs.Places.{body_from, places_in, places_at, after_at}
use Rattle.ledger_open.specs.Places.{places_from, AreInOrder}
use Rattle.ledger_open.specs.Reopened.{Remembers, IsReopened}
use Rattle.ledger_open.specs.Standing.{Floor, ground, floor_from, floor_behind, IsErased, IsClean, PairFor}
use Rattle.ledger_open.proofs.FoundingLaws.{founded_clean}
use Rattle.ledger_open.proofs.KnownLaws.{same_self}
use Rattle.ledger_open.proofs.OrderLaws.{order_low}
use Rattle.ledger_open.proofs.CarryLaws.{reopened_tidy}
use Rattle.batch_committer.specs.Opened.{kept_from, IsOpened, IsQuietFor}
use Rattle.batch_committer.specs.World.{World, Pair, world, Fits, HasRoom, IsCleanFor, Holds, sealed_part, stored_part}
use Rattle.batch_committer.proofs.Closing.{clean_image, clean_length, length_clean, tail_at, sealed_same}
use Rattle.batch_committer.proofs.Finishing.{gathers_none}
use Rattle.batch_committer.proofs.Grouped.{stored_split, tails_held, blocks_held}
use Rattle.batch_committer.proofs.OpenEnds.{opened_ends}
use Rattle.batch_committer.proofs.Ordering.{order_wider, order_blocks}
use Rattle.batch_committer.proofs.Parting.{TailsAt, tails_at}

-- ---- a ledger where no journal waits

held_at : (tells : Bool) (k : Known) (in_a : Bool) (edition : Edition) (disks : Pair) (sink : SinkState) (h : History) (e : EndsAs k.book k.places h) → k.book.floor ≡ point h → k.gate ≡ gate_behind (floor_behind h e.parts.gone) e.parts.kept → k.book.limits ≡ real_limits → IsTrue tells
    → IsCleanFor in_a k.gate h disks.a.bytes disks.b.bytes → Holds tells (world (kept_from k in_a edition) disks sink) h
held_at tells k in_a edition disks sink h e floor tail limits told clean =
    let same = sym (sealed_same h e.none) in record {
      told = told;
      keeps = record {
        serves = e.serves;
        limits = limits;
        floor = floor ∙ ap point same;
        dues = record { few = omega arith; told = tt; lines = λ f y settled. refl; waits = tt };
        body = ap body_of (sym e.none);
        next = subst (AreFrom (sealed_size h)) (sym e.none) tt;
        gathered = λ more. subst AllGather (sym e.none) refl;
        group = gathers_none (kept_from k in_a edition) h refl refl;
        located =
            let from = floor_behind (sealed_part h) e.parts.gone in
            let begins : floor_behind h e.parts.gone ≡ from = ap (λ (g : History). floor_behind g e.parts.gone) same in
            let kept : e.parts.kept ++ [] ≡ e.parts.kept = append-nil e.parts.kept in record {
              parts = record { gone = e.parts.gone; kept = e.parts.kept; are = e.parts.are; at = e.parts.at };
              places = e.places_are ∙ ap (λ (f : Floor). places_from f e.parts.kept) begins ∙ ap (places_from from) (sym kept)
                  ∙ sym (ap (λ (ws : List Entry). places_from from (e.parts.kept ++ []) ++ places_in (body_from k.gate) ws) e.none ∙ append-nil (places_from from (e.parts.kept ++ [])));
              tail = tail ∙ ap (λ (f : Floor). gate_behind f e.parts.kept) begins;
              next = tail ∙ ap (λ (f : Floor). gate_behind f e.parts.kept) begins ∙ ap (gate_behind from) (sym kept);
            };
      };
      disks = subst (λ (g : History). IsCleanFor in_a k.gate g disks.a.bytes disks.b.bytes) same clean;
    }

-- ---- a ledger that was opened

pub opened_held : (tells : Bool) (k : Known) (in_a : Bool) (edition : Edition) (start : Option Base) (blocks : List (List Entry)) (a b : State) (disks : Pair) (sink : SinkState) (h : History) → IsOpened k in_a disks start blocks → k.book.limits ≡ real_limits → IsTrue tells
    → IsReopened in_a k start blocks a b disks.a.bytes disks.b.bytes → PairFor a.seen b.seen h → Holds tells (world (kept_from k in_a edition) disks sink) h
opened_held tells k in_a edition start blocks a b disks sink h o limits told r p =
    let e = opened_ends k in_a start blocks a b disks.a.bytes disks.b.bytes o.knows r h p in
    let c = reopened_tidy k in_a start blocks a b disks.a.bytes disks.b.bytes r o.knows in
    held_at tells k in_a edition disks sink h e.ends e.floor e.tail limits told (record { quiet = c.quiet; empty = c.empty; erased = e.erased; newer = e.newer; ends = c.ends })

-- ---- what a call asks for

-- the contents of a ledger that was made or opened stand in their order in front of its tail gate
order_known : {start : Option Base} (k : Known) (blocks : List (List Entry)) → Remembers k start blocks → AreInOrder 64 (body_from k.gate + 0) k.places
order_known {start} k blocks x =
    let first = 64 + length (floor_from start).base in
    subst (AreInOrder 64 (body_from k.gate + 0)) (sym x.places)
    (order_low 64 first (body_from k.gate + 0) (places_at first blocks) (omega arith) (order_wider first (after_at first blocks) (body_from k.gate + 0) (places_at first blocks) (order_blocks first blocks) (omega (arith, x.tail))))

shut_at : (in_a : Bool) (place : ℕ) (disks : Pair) → IsShutAt place (open_of in_a disks.a.bytes disks.b.bytes).seen → IsShutAt place (open_of in_a disks.a disks.b).bytes.seen
shut_at true place disks s = s
shut_at false place disks s = s

edition_at : (in_a : Bool) (edition : Edition) (disks : Pair) → edition ≡ edition_of (open_of in_a disks.a.bytes disks.b.bytes).seen → edition ≡ edition_of (open_of in_a disks.a disks.b).bytes.seen
edition_at true edition disks is = is
edition_at false edition disks is = is

fits_of : (tells : Bool) (k : Known) (in_a : Bool) (edition : Edition) (disks : Pair) (sink : SinkState) (start : Option Base) (blocks : List (List Entry)) → IsOpened k in_a disks start blocks → (IsTrue tells → IsShutAt k.gate (open_of in_a disks.a.bytes disks.b.bytes).seen)
    → (IsTrue tells → edition ≡ edition_of (open_of in_a disks.a.bytes disks.b.bytes).seen)
    → Fits tells (world (kept_from k in_a edition) disks sink)
fits_of tells k in_a edition disks sink start blocks o shut is = record {
  reads = record { told = o.told; shut = λ told. shut_at in_a k.gate disks (shut told) };
  edition = λ told. edition_at in_a edition disks (is told);
  copy = refl;
  few = omega (arith, o.knows.settled);
  order = order_known k blocks o.knows;
  next = omega arith;
  some = λ more. absurd (more refl);
  room = omega arith;
  spelled = omega arith;
  owed = λ more. absurd (omega (arith, more, o.knows.settled));
  clear = λ _. refl;
}

pub opened_fits : (tells : Bool) (k : Known) (in_a : Bool) (edition : Edition) (start : Option Base) (blocks : List (List Entry)) (a b : State) (disks : Pair) (sink : SinkState) → IsOpened k in_a disks start blocks
    → (IsTrue tells → IsReopened in_a k start blocks a b disks.a.bytes disks.b.bytes) → (IsTrue tells → edition ≡ edition_of (open_of in_a disks.a.bytes disks.b.bytes).seen) → Fits tells (world (kept_from k in_a edition) disks sink)
opened_fits tells k in_a edition start blocks a b disks sink o r is =
    fits_of tells k in_a edition disks sink start blocks o (λ told. (reopened_tidy k in_a start blocks a b disks.a.bytes disks.b.bytes (r told) o.knows).shut) is

pub opened_room : (k : Known) (in_a : Bool) (edition : Edition) (start : Option Base) (blocks : List (List Entry)) (disks : Pair) → IsOpened k in_a disks start blocks → HasRoom (kept_from k in_a edition)
opened_room k in_a edition start blocks disks o = (omega (arith, o.knows.settled), opens_empty k.book o.knows.settled)

-- ---- a ledger that was made

-- no journal of a new ledger is a purge
new_point : (genesis : Genesis) → point (new_ledger genesis) ≡ 0
unfolding point genesis_header
new_point genesis = refl

module _ (k : Known) (genesis : Genesis) (disks : Pair) (keys : HasKeys genesis) (knows : Remembers k None (new_ledger genesis).closed) (f : IsFounded genesis disks.a.bytes disks.b.bytes) where
  seen_is : disks.a.bytes.seen ≡ new_file genesis
  seen_is = ap (λ (s : State). s.seen) f.first

  new_clean : IsClean (new_file genesis) (new_ledger genesis)
  new_clean = founded_clean genesis keys.operator keys.regulator

  -- its file begins with journal 0
  new_tail : TailsAt k.gate (new_ledger genesis)
  new_tail = tails_at (new_ledger genesis) k.gate 0 (record { gone = []; kept = (new_ledger genesis).closed; are = refl; at = refl }) (new_clean).erased.lawful.blocks_are (sym (new_point genesis)) knows.tail

  new_ends : EndsAs k.book k.places (new_ledger genesis)
  new_ends = record {
    serves = knows.serves refl (new_ledger genesis) (record {
      lawful = (new_clean).erased.lawful;
      none = refl;
      parts = record { gone = []; kept = (new_ledger genesis).closed; are = refl; at = refl };
      base = tt;
      same = same_self (is_hidden (new_ledger genesis)) (new_ledger genesis).closed;
    });
    begins = inl (knows.floor ∙ sym (new_point genesis));
    parts = record { gone = []; kept = (new_ledger genesis).closed; are = refl; at = sym knows.floor };
    places_are = knows.places;
    none = refl;
  }

  founded_for : IsCleanFor true k.gate (new_ledger genesis) disks.a.bytes disks.b.bytes
  founded_for = record {
    quiet = f.first ∙ ap settled_state (sym seen_is);
    empty = f.second;
    erased = subst (λ (l : List ℕ). IsErased l (new_ledger genesis)) (sym seen_is) (new_clean).erased;
    newer = ap version_in seen_is;
    ends = ap length seen_is ∙ clean_length (point (new_ledger genesis)) (is_hidden (new_ledger genesis)) (new_file genesis) (new_ledger genesis) k.gate (new_clean).erased (new_clean).ends (new_tail (new_clean).erased.parts);
  }

  founded_edition : edition_from 2 1 ≡ edition_of disks.a.bytes.seen
  founded_edition = sym (ap edition_of seen_is ∙ ap (edition_from 2) (generation_is 1 [] (written_blocks (ground).root [] (new_ledger genesis).closed) (omega arith)))

  founded_shut : IsShutAt k.gate disks.a.bytes.seen
  founded_shut =
      let x = (new_clean).erased in
      subst (λ (l : List ℕ). IsShutAt k.gate l) (sym seen_is)
      (subst (λ (n : ℕ). IsShutAt n (new_file genesis)) (tail_at (point (new_ledger genesis)) (is_hidden (new_ledger genesis)) (new_file genesis) (new_ledger genesis) x ∙ sym (new_tail x.parts))
      (tail_shut x.keeps.file.front (written_blocks (floor_behind (new_ledger genesis) x.parts.gone).root [] x.keeps.blocks) (new_file genesis) x.keeps.file.stands))

pub founded_held : (tells : Bool) (k : Known) (genesis : Genesis) (disks : Pair) (sink : SinkState) → HasKeys genesis → IsOpened k true disks None (new_ledger genesis).closed → k.book.limits ≡ real_limits → IsTrue tells → IsFounded genesis disks.a.bytes disks.b.bytes
    → Holds tells (world (kept_from k true (edition_from 2 1)) disks sink) (new_ledger genesis)
unfolding new_ends
founded_held tells k genesis disks sink keys o limits told f =
    held_at tells k true (edition_from 2 1) disks sink (new_ledger genesis) (new_ends k genesis disks keys o.knows f) (o.knows.floor ∙ sym (new_point genesis)) o.knows.tail limits told (founded_for k genesis disks keys o.knows f)

pub founded_fits : (tells : Bool) (k : Known) (genesis : Genesis) (disks : Pair) (sink : SinkState) → HasKeys genesis → IsOpened k true disks None (new_ledger genesis).closed → (IsTrue tells → IsFounded genesis disks.a.bytes disks.b.bytes)
    → Fits tells (world (kept_from k true (edition_from 2 1)) disks sink)
founded_fits tells k genesis disks sink keys o f =
    fits_of tells k true (edition_from 2 1) disks sink None (new_ledger genesis).closed o (λ told. founded_shut k genesis disks keys o.knows (f told)) (λ told. founded_edition k genesis disks keys o.knows (f told))

-- ---- a ledger that is held

settled_by : (s : State) → s ≡ settled_state [] → IsSettled s
settled_by s is = is ∙ ap settled_state (sym (ap (λ (t : State). t.seen) is))

quiet_for : (in_a : Bool) (place : ℕ) (disks : Pair) (h : History) → TailsAt place h → IsCleanFor in_a place h disks.a.bytes disks.b.bytes → IsQuietFor disks h
quiet_for true place disks h at x = record {
  a = x.quiet;
  b = settled_by disks.b.bytes x.empty;
  clean = record { in_a = true; clean = record { erased = x.erased; ends = length_clean (point h) (is_hidden h) disks.a.bytes.seen h place x.erased x.ends (at x.erased.parts) }; newer = x.newer; empty = ap (λ (s : State). length s.seen) x.empty };
  images = λ i j left_a left_b. (clean_image true place h disks.a.bytes disks.b.bytes i j x left_a left_b).pair;
}
quiet_for false place disks h at x = record {
  a = settled_by disks.a.bytes x.empty;
  b = x.quiet;
  clean = record { in_a = false; clean = record { erased = x.erased; ends = length_clean (point h) (is_hidden h) disks.b.bytes.seen h place x.erased x.ends (at x.erased.parts) }; newer = x.newer; empty = ap (λ (s : State). length s.seen) x.empty };
  images = λ i j left_a left_b. (clean_image false place h disks.a.bytes disks.b.bytes i j x left_a left_b).pair;
}

pub held_quiet : (tells : Bool) (w : World) (h : History) → Holds tells w h → IsQuietFor w.disks (stored_part w.kept h)
held_quiet tells w h p =
    subst (IsQuietFor w.disks) (sym (stored_split w.kept h p.keeps.group)) (quiet_for w.kept.in_a w.kept.gate w.disks (history p.keeps.group.stored []) (tails_held tells w h p) p.disks)

pub held_lawful : (tells : Bool) (w : World) (h : History) → Holds tells w h → HasRoom w.kept → IsLawful h
held_lawful tells w h p room = record {
  journals_are = p.keeps.serves.stands.lawful;
  blocks_are = blocks_held tells w h p;
  waiting_is = record {
    room = omega (arith, room.0, p.keeps.serves.stands.counts.size, p.keeps.serves.stands.counts.sealed_is, length-append (journals_of h.closed) h.waiting);
    gathered = opens_gather w.kept.book h p.keeps.serves.stands room.1;
  };
}

pub held_some : (tells : Bool) (w : World) (h : History) → Holds tells w h → 1 ≤ size h
held_some tells w h p = some_journal (journals h) p.keeps.serves.stands.lawful

-- the length that is told of the open one of two disks
pub told_at : (in_a : Bool) (a b : DiskState) (place : ℕ) → IsSomeAnd (open_of in_a a.told b.told) (λ n. place + 1 ≤ n) → IsSomeAnd (open_of in_a a b).told (λ n. place + 1 ≤ n)
told_at true a b place told = told
told_at false a b place told = told
