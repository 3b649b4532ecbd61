-- The blocks that a committer has gathered, behind those that are stored.
use Rattle.std.specs.Prelude.{All, Bool}
use Rattle.std.proofs.Common.{◌≡◌, ◌⊎◌, inl, inr, ℕ, ◌+◌, ◌-◌, ◌≤◌, List, [], ◌∷◌, ◌++◌, length, take, drop, refl, ap, sym, subst, ◌∙◌, arith, append_assoc, append-nil, length-append}
use Rattle.std.proofs.lemmas.List.{take_all, take-append-le, take-append-drop}
use Rattle.std.proofs.lemmas.List.Concat.{flat_map-append}
use Rattle.sha2.specs.Sha256.{sha256}
use Rattle.tree_model.specs.Tree.{mth}
use Rattle.ledger_bytes.specs.Begins.{Begins}
use Rattle.ledger_bytes.specs.declared.limits.TheConstants.{BLOCK_LIMIT}
use Rattle.journal_record.specs.Blocks.{leaves_of, written_blocks, block_bytes}
use Rattle.journal_record.specs.Blocks as record_
use Rattle.journal_record.specs.Entry.{Entry}
use Rattle.block_file.specs.File.{IsFileOf, IsGroupOf, HasGroup, tail_of, IsSettled}
use Rattle.block_file.specs.Places.{body_from, places_in}
use Rattle.ledger_disk.specs.Disk.{MayLeave, settled_state}
use Rattle.ledger_model.specs.History.{History, history, journals, journals_of, size, point, close}
use Rattle.ledger_model.specs.Lawful.{AreNext, IsBlock}
use Rattle.ledger_model.specs.Targets.{is_hidden}
use Rattle.ledger_model.proofs.BaseLaws.{front_next}
use Rattle.ledger_model.proofs.GrowLaws.{size_closed}
use Rattle.ledger_model.proofs.LawfulLaws.{some_journal}
use Rattle.twin_file.specs.Twin.{open_of, other_of}
use Rattle.ledger_open.specs.Cutting.{gate_behind}
use Rattle.ledger_open.specs.Places.{places_from}
use Rattle.ledger_open.specs.Standing.{Floor, floor_behind, hidden_before, point_before, Parts, StandsBy, IsErased, PairOpen}
use Rattle.ledger_open.proofs.FloorLaws.{floor_kept}
use Rattle.ledger_open.proofs.GrowLaws.{erased_stands, grown, begins}
use Rattle.batch_committer.specs.Committed.{IsCommitted, IsUncommitted, open_bytes}
use Rattle.batch_committer.specs.Steps.{last_bytes}
use Rattle.batch_committer.specs.World.{CommitterState, World, Pair, IsGathering, Keeps, Holds, IsErasedPair, sealed_part, stored_part}
use Rattle.batch_committer.proofs.Closing.{closed_is, sealed_close, leaves_parts, next_rest, next_block_is, tail_at, stands_from, erased_of, pair_alone, open_left, places_more, after_more, bytes_len}
use Rattle.batch_committer.proofs.Grouping.{IsErasedBy, AreNextAll, with_blocks, bytes_behind, next_all, point_all, floor_all, more_all, erased_by}
use Rattle.batch_committer.proofs.Parting.{TailsAt, tails_at, gone_few}

-- ---- what is stored

pub stored_split : (k : CommitterState) (h : History) (g : IsGathering k h) → stored_part k h ≡ history g.stored []
stored_split k h g =
    let count : length h.closed - k.ended ≡ length g.stored = omega (arith, ap length g.are, length-append g.stored g.blocks, g.count) in
    ap (λ (bs : List (List Entry)). history bs [])
    (ap (λ (n : ℕ). take n h.closed) count ∙ ap (take (length g.stored)) g.are ∙ take-append-le (length g.stored) g.stored g.blocks (omega arith) ∙ take_all (length g.stored) g.stored (omega arith))

-- where no block is gathered all that ended are stored
pub stored_all : (k : CommitterState) (h : History) → k.ended ≡ 0 → stored_part k h ≡ sealed_part h
stored_all k h none = ap (λ (bs : List (List Entry)). history bs []) (ap (λ (n : ℕ). take (length h.closed - n) h.closed) none ∙ take_all (length h.closed - 0) h.closed (omega arith))

pub stored_whole : (k : CommitterState) (h : History) → k.ended ≡ 0 → h.waiting ≡ [] → stored_part k h ≡ h
stored_whole k h none settled = stored_all k h none ∙ ap (history h.closed) (sym settled)

pub stored_begins : (k : CommitterState) (h : History) → Begins (stored_part k h).closed h.closed
stored_begins k h = let n = length h.closed - k.ended in record { rest = drop n h.closed; is = sym (take-append-drop n h.closed) }

pub none_gathered : (k : CommitterState) (h : History) (g : IsGathering k h) → k.ended ≡ 0 → history g.stored [] ≡ sealed_part h
none_gathered k h g none = sym (stored_split k h g) ∙ stored_all k h none

-- the stored blocks are known by how many are gathered
pub stored_one : (old new : CommitterState) (h g : History) (x : IsGathering old h) (y : IsGathering new g) → g.closed ≡ h.closed → new.ended ≡ old.ended → y.stored ≡ x.stored
stored_one old new h g x y closed ended =
    ap (λ (k : History). k.closed)
    (sym (stored_split new g y) ∙ ap (λ (bs : List (List Entry)). history (take (length bs - new.ended) bs) []) closed ∙ ap (λ (n : ℕ). history (take (length h.closed - n) h.closed) []) ended ∙ stored_split old h x)

-- a call that has the same blocks stored
pub stored_stays : (old new : CommitterState) (h g : History) (x : IsGathering old h) (y : IsGathering new g) → y.stored ≡ x.stored → Begins (stored_part old h).closed (stored_part new g).closed
stored_stays old new h g x y same = record {
  rest = [];
  is = ap (λ (k : History). k.closed) (stored_split new g y) ∙ same ∙ sym (ap (λ (k : History). k.closed) (stored_split old h x)) ∙ sym (append-nil (stored_part old h).closed);
}

pub written_count : (root : List (List ℕ) → List ℕ) (seen : List (List ℕ)) (bs : List (List Entry)) → length (written_blocks root seen bs) ≡ length bs
written_count root seen [] = refl
written_count root seen (b ∷ bs) = omega (arith, written_count root (seen ++ leaves_of b) bs)

-- where all blocks that ended are stored, in the words of the whole history
pub record LocatedAll (k : CommitterState) (h : History) : Type 0 where
  pub parts : Parts k.book.floor (sealed_part h)
  pub places : k.places ≡ places_from (floor_behind (sealed_part h) parts.gone) parts.kept ++ places_in (body_from k.next) h.waiting
  pub tail : k.next ≡ gate_behind (floor_behind (sealed_part h) parts.gone) parts.kept

module _ (k : CommitterState) (h : History) (p : Keeps k h) where
  abbrev stored : History
  stored = history p.group.stored []

  pub next_blocks : AreNextAll (stored) p.group.blocks
  next_blocks =
      let before = journals_of p.group.stored in
      let all : journals h ≡ before ++ (journals_of p.group.blocks ++ h.waiting) =
      ap (λ (bs : List (List Entry)). journals_of bs ++ h.waiting) p.group.are ∙ ap (λ (l : List Entry). l ++ h.waiting) (flat_map-append (λ (b : List Entry). b) p.group.stored p.group.blocks)
      ∙ append_assoc before (journals_of p.group.blocks) h.waiting in
      next_all (stored) p.group.blocks refl (subst (λ (n : ℕ). record_.AreBlocks n p.group.blocks) (sym (size_closed (stored) refl)) p.group.follow) p.group.alike
      (subst (λ (l : List Entry). AreNext l (journals_of p.group.blocks)) (sym (append-nil before))
      (front_next before (journals_of p.group.blocks) h.waiting (next_rest [] before (journals_of p.group.blocks ++ h.waiting) (subst (AreNext []) all p.serves.stands.lawful.next))))

  pub sealed_is : with_blocks p.group.blocks (stored) ≡ sealed_part h
  sealed_is = ap (λ (bs : List (List Entry)). history bs []) (sym p.group.are)

  pub floor_stored : k.book.floor ≡ point (stored)
  floor_stored = p.floor ∙ ap point (sym sealed_is) ∙ point_all (stored) p.group.blocks refl next_blocks

  -- where the tail gate stands
  pub tails_kept : All IsBlock p.group.stored → TailsAt k.gate (stored)
  tails_kept all = tails_at (stored) k.gate k.book.floor p.located.parts all floor_stored p.located.tail

  pub located_all : 1 ≤ size (stored) → LocatedAll k h
  located_all some =
      let parts = p.located.parts in
      let blocks = p.group.blocks in
      let few : length (journals_of parts.gone) ≤ size (stored) = omega (arith, parts.at, gone_few k.book.floor (stored) refl parts) in
      let floor : floor_behind (sealed_part h) parts.gone ≡ floor_behind (stored) parts.gone =
      ap (λ (g : History). floor_behind g parts.gone) (sym sealed_is) ∙ floor_all (stored) blocks parts.gone refl next_blocks few some in
      record {
        parts = record { gone = parts.gone; kept = parts.kept ++ blocks; are = p.group.are ∙ ap (λ (l : List (List Entry)). l ++ blocks) parts.are ∙ append_assoc parts.gone parts.kept blocks; at = parts.at };
        places = p.located.places ∙ ap (λ (f : Floor). places_from f (parts.kept ++ blocks) ++ places_in (body_from k.next) h.waiting) (sym floor);
        tail = p.located.next ∙ ap (λ (f : Floor). gate_behind f (parts.kept ++ blocks)) (sym floor);
      }

-- ---- a file with all blocks that ended

-- the blocks that are gathered, as they stand in a file
abbrev pub group_of : {k : CommitterState} {h : History} → IsGathering k h → List (List ℕ)
group_of g = written_blocks (mth sha256) (leaves_of (journals_of g.stored)) g.blocks

module _ (tells : Bool) (w : World) (h : History) (p : Holds tells w h) where
  abbrev stored_held : History
  stored_held = history p.keeps.group.stored []

  abbrev pub front_held : List ℕ
  front_held = p.disks.erased.keeps.file.front

  abbrev pub written_held : List (List ℕ)
  written_held = written_blocks (floor_behind (stored_held) p.disks.erased.parts.gone).root [] p.disks.erased.keeps.blocks

  pub tails_held : TailsAt w.kept.gate (stored_held)
  tails_held = tails_kept w.kept h p.keeps p.disks.erased.lawful.blocks_are

  pub tail_held : tail_of front_held written_held ≡ w.kept.gate
  tail_held = tail_at (point (stored_held)) (is_hidden (stored_held)) _ (stored_held) p.disks.erased ∙ sym (tails_held p.disks.erased.parts)

  pub begun : 1 ≤ size (stored_held)
  begun = some_journal (journals (stored_held)) p.disks.erased.lawful.journals_are

  pub all_erased : IsErasedBy front_held (written_held ++ group_of p.keeps.group) (sealed_part h)
  all_erased =
      subst (IsErasedBy front_held (written_held ++ group_of p.keeps.group)) (sealed_is w.kept h p.keeps)
      (more_all front_held written_held (stored_held) p.keeps.group.blocks refl (record { image = (open_of w.kept.in_a w.disks.a.bytes w.disks.b.bytes).seen; erased = p.disks.erased; front_is = refl; written_is = refl }) (next_blocks w.kept h p.keeps))

  pub blocks_held : All IsBlock h.closed
  blocks_held = (all_erased).erased.lawful.blocks_are

  pub all_stands : (new : List ℕ) → IsFileOf front_held (written_held ++ group_of p.keeps.group) new → IsErased new (sealed_part h)
  all_stands new stands = erased_by front_held (written_held ++ group_of p.keeps.group) (sealed_part h) (all_erased) new stands

  pub located_held : LocatedAll w.kept h
  located_held = located_all w.kept h p.keeps begun

  -- ---- the gathered blocks are committed

  -- that was done
  pub group_quiet : (bytes : List ℕ) (disks : Pair) → IsGroupOf (group_of p.keeps.group) bytes → IsCommitted tells w.kept.in_a w.kept.gate bytes w.disks disks → IsSettled (open_bytes w.kept.in_a disks)
  group_quiet bytes disks g c = (c.has p.told (group_of p.keeps.group) g front_held written_held p.disks.erased.keeps.file.stands tail_held).nothing_pending

  pub group_erased : (bytes : List ℕ) (disks : Pair) → IsGroupOf (group_of p.keeps.group) bytes → IsCommitted tells w.kept.in_a w.kept.gate bytes w.disks disks → IsErased (open_bytes w.kept.in_a disks).seen (sealed_part h)
  group_erased bytes disks g c = all_stands (open_bytes w.kept.in_a disks).seen (c.has p.told (group_of p.keeps.group) g front_held written_held p.disks.erased.keeps.file.stands tail_held).stands

  -- an image that is erased, of one of two disks of which the other is empty
  pub left_erased : (disks : Pair) (i j : List ℕ) (g : History) → other_of w.kept.in_a disks.a.bytes disks.b.bytes ≡ settled_state [] → MayLeave disks.a.bytes i → MayLeave disks.b.bytes j
      → IsErased (open_of w.kept.in_a i j) g → PairOpen i j g × IsErasedPair i j g
  left_erased disks i j g empty left_a left_b erased =
      let in_a = w.kept.in_a in (
        pair_alone in_a disks.a.bytes disks.b.bytes i j g empty left_a left_b (erased_stands (open_of in_a i j) g erased),
        erased_of in_a disks.a.bytes disks.b.bytes i j g empty left_a left_b erased,
      )

  same_erased : (new : List ℕ) → IsFileOf front_held written_held new → IsErased new (stored_held)
  same_erased new stands = erased_by front_held written_held (stored_held) (record { image = (open_of w.kept.in_a w.disks.a.bytes w.disks.b.bytes).seen; erased = p.disks.erased; front_is = refl; written_is = refl }) new stands

  -- .. or that failed
  pub group_left : (bytes i j : List ℕ) (disks : Pair) → IsGroupOf (group_of p.keeps.group) bytes → IsUncommitted tells w.kept.in_a w.kept.gate bytes w.disks disks → MayLeave disks.a.bytes i → MayLeave disks.b.bytes j
      → (PairOpen i j (stored_held) × IsErasedPair i j (stored_held)) ⊎ (PairOpen i j (sealed_part h) × IsErasedPair i j (sealed_part h))
  group_left bytes i j disks g c left_a left_b =
      let in_a = w.kept.in_a in
      let empty : other_of in_a disks.a.bytes disks.b.bytes ≡ settled_state [] = c.other ∙ p.disks.empty in
      elim (c.may p.told (group_of p.keeps.group) g p.disks.quiet front_held written_held p.disks.erased.keeps.file.stands tail_held (open_of in_a i j) (open_left in_a disks.a.bytes disks.b.bytes i j left_a left_b)) [
        | inl s ↦ inl (left_erased disks i j (stored_held) empty left_a left_b (same_erased (open_of in_a i j) s))
        | inr s ↦ inr (left_erased disks i j (sealed_part h) empty left_a left_b (all_stands (open_of in_a i j) s))
      ]

  -- ---- the open block ends, and is committed with them

  module _ (some : 1 ≤ length h.waiting) (most : length h.waiting ≤ BLOCK_LIMIT) where
    abbrev pub group_last : List (List ℕ)
    group_last = group_of p.keeps.group ++ last_bytes h ∷ []

    -- the image stands for the history with the open block ended
    pub last_stands : (new : List ℕ) → IsFileOf front_held (written_held ++ group_last) new → StandsBy (point (sealed_part h)) (hidden_before (sealed_part (close h))) new (sealed_part (close h))
    last_stands new stands =
        let e = all_erased in
        let n = next_block_is w.kept h p.keeps some most in
        let bytes = block_bytes (mth sha256 (leaves_of (journals_of h.closed) ++ leaves_of h.waiting)) h.waiting in
        let is : last_bytes h ≡ bytes = ap (λ (l : List (List ℕ)). block_bytes (mth sha256 l) h.waiting) (leaves_parts h) in
        let own = written_blocks (floor_behind (sealed_part h) e.erased.parts.gone).root [] e.erased.keeps.blocks in
        subst (λ (g : History). StandsBy (point (sealed_part h)) (hidden_before g) new g) (sealed_close h some)
        (grown e.image new (sealed_part h) h.waiting e.erased n.entries n.shape n.next
        (subst (λ (b : List ℕ). IsFileOf e.erased.keeps.file.front (own ++ b ∷ []) new) (is ∙ bytes_behind e.image (sealed_part h) h.waiting e.erased)
        (subst (λ (l : List ℕ). IsFileOf l (own ++ last_bytes h ∷ []) new) (sym e.front_is)
        (subst (λ (l : List (List ℕ)). IsFileOf front_held (l ++ last_bytes h ∷ []) new) (sym e.written_is)
        (subst (λ (l : List (List ℕ)). IsFileOf front_held l new) (sym (append_assoc written_held (group_of p.keeps.group) (last_bytes h ∷ []))) stands)))))

    -- .. where that is the point, or the point before a purge
    pub last_begins : (point (sealed_part h) ≡ point (sealed_part (close h))) ⊎ (point (sealed_part h) ≡ point_before (sealed_part (close h)))
    last_begins =
        let e = all_erased in
        let n = next_block_is w.kept h p.keeps some most in
        subst (λ (g : History). (point (sealed_part h) ≡ point g) ⊎ (point (sealed_part h) ≡ point_before g)) (sealed_close h some)
        (begins e.image e.image (sealed_part h) h.waiting e.erased n.entries n.shape n.next)

    module _ (bytes : List ℕ) (g : IsGroupOf group_last bytes) (disks : Pair) where
      has_group : IsCommitted tells w.kept.in_a w.kept.gate bytes w.disks disks → HasGroup front_held written_held group_last (open_bytes w.kept.in_a disks)
      has_group c = c.has p.told group_last g front_held written_held p.disks.erased.keeps.file.stands tail_held

      -- that was done
      pub commit_quiet : IsCommitted tells w.kept.in_a w.kept.gate bytes w.disks disks → IsSettled (open_bytes w.kept.in_a disks)
      commit_quiet c = (has_group c).nothing_pending

      pub commit_stands : IsCommitted tells w.kept.in_a w.kept.gate bytes w.disks disks
          → StandsBy (point (sealed_part h)) (hidden_before (sealed_part (close h))) (open_bytes w.kept.in_a disks).seen (sealed_part (close h))
      commit_stands c = last_stands (open_bytes w.kept.in_a disks).seen (has_group c).stands

      -- .. or that failed
      pub commit_left : (i j : List ℕ) → IsUncommitted tells w.kept.in_a w.kept.gate bytes w.disks disks → MayLeave disks.a.bytes i → MayLeave disks.b.bytes j
          → (PairOpen i j (stored_held) × IsErasedPair i j (stored_held)) ⊎ PairOpen i j (sealed_part (close h))
      commit_left i j c left_a left_b =
          let in_a = w.kept.in_a in
          let empty : other_of in_a disks.a.bytes disks.b.bytes ≡ settled_state [] = c.other ∙ p.disks.empty in
          elim (c.may p.told group_last g p.disks.quiet front_held written_held p.disks.erased.keeps.file.stands tail_held (open_of in_a i j) (open_left in_a disks.a.bytes disks.b.bytes i j left_a left_b)) [
            | inl s ↦ inl (left_erased disks i j (stored_held) empty left_a left_b (same_erased (open_of in_a i j) s))
            | inr s ↦
                let f = sealed_part (close h) in
                inr (pair_alone in_a disks.a.bytes disks.b.bytes i j f empty left_a left_b (stands_from (point (sealed_part h)) (open_of in_a i j) f last_begins (last_stands (open_of in_a i j) s)))
          ]

    -- ---- places

    -- the file begins where it began
    same_floor : (gone : List (List Entry)) → length (journals_of gone) ≤ size (sealed_part h) → floor_behind (sealed_part (close h)) gone ≡ floor_behind (sealed_part h) gone
    same_floor gone few = ap (λ (g : History). floor_behind g gone) (sym (sealed_close h some)) ∙ floor_kept (sealed_part h) h.waiting refl some gone few (omega (arith, all_begun)) where
      all_begun : 1 ≤ size (sealed_part h)
      all_begun = some_journal (journals (sealed_part h)) (all_erased).erased.lawful.journals_are

    floor_close : floor_behind (sealed_part (close h)) (located_held).parts.gone ≡ floor_behind (sealed_part h) (located_held).parts.gone
    floor_close = let x = (located_held).parts in same_floor x.gone (omega (arith, x.at, gone_few w.kept.book.floor (sealed_part h) refl x))

    abbrev pub parts_close : Parts w.kept.book.floor (sealed_part (close h))
    parts_close = let x = (located_held).parts in record {
      gone = x.gone;
      kept = x.kept ++ h.waiting ∷ [];
      are = closed_is h some ∙ ap (λ (l : List (List Entry)). l ++ h.waiting ∷ []) x.are ∙ append_assoc x.gone x.kept (h.waiting ∷ []);
      at = x.at;
    }

    pub places_close : w.kept.places ≡ places_from (floor_behind (sealed_part (close h)) (located_held).parts.gone) ((located_held).parts.kept ++ h.waiting ∷ [])
    places_close =
        let l = located_held in
        let from = floor_behind (sealed_part h) l.parts.gone in
        l.places ∙ ap (λ (n : ℕ). places_from from l.parts.kept ++ places_in (body_from n) h.waiting) l.tail
        ∙ sym (places_more (64 + length from.base) l.parts.kept h.waiting) ∙ ap (λ (f : Floor). places_from f (l.parts.kept ++ h.waiting ∷ [])) (sym floor_close)

    pub tail_close : (next : ℕ) → next ≡ w.kept.next + 1 + length (last_bytes h) → next ≡ gate_behind (floor_behind (sealed_part (close h)) (located_held).parts.gone) ((located_held).parts.kept ++ h.waiting ∷ [])
    tail_close next at =
        let l = located_held in
        let from = floor_behind (sealed_part h) l.parts.gone in
        let is : next ≡ gate_behind from (l.parts.kept ++ h.waiting ∷ []) = omega (arith, at, bytes_len h p.keeps.next, l.tail, after_more (64 + length from.base) l.parts.kept h.waiting) in
        is ∙ ap (λ (f : Floor). gate_behind f (l.parts.kept ++ h.waiting ∷ [])) (sym floor_close)
