-- What a block's end does to a history, to what is kept of it, and to what the disks may leave.
use Rattle.std.specs.Prelude.{Bool, true, false, sum_by}
use Rattle.std.proofs.Common.{◌≡◌, ◌⊎◌, inl, ℕ, ◌+◌, ◌≤◌, List, [], ◌∷◌, ◌++◌, length, map, refl, ap, sym, subst, ◌∙◌, arith, append_assoc, append-nil, length-append}
use Rattle.std.proofs.lemmas.List.{map-append, length-map, nil_from_length, take_all}
use Rattle.std.proofs.lemmas.List.Sums.{sum_by-cons}
use Rattle.sha2.specs.Sha256.{sha256}
use Rattle.tree_model.specs.Tree.{mth}
use Rattle.ledger_bytes.specs.declared.limits.TheConstants.{BLOCK_LIMIT}
use Rattle.journal_record.specs.Blocks.{body_of, leaves_of, written_blocks, AreFrom}
use Rattle.journal_record.specs.Entry.{Entry}
use Rattle.journal_record.specs.Header.{spelling}
use Rattle.block_file.specs.Head.{version_in}
use Rattle.block_file.specs.declared.block.TheConstants.{BLOCK_HEAD_LEN}
use Rattle.block_file.specs.File.{IsFileOf, tail_of, open_blocks}
use Rattle.ledger_disk.proofs.Guarding.{settled_image}
use Rattle.ledger_disk.specs.Disk.{State, MayLeave, settled_state}
use Rattle.ledger_model.specs.declared.due.Due.{Due}
use Rattle.ledger_model.specs.History.{History, history, journals, journals_of, size, leaves, root, point, close, close_by}
use Rattle.ledger_model.specs.Targets.{is_hidden}
use Rattle.ledger_model.specs.Lawful.{AreNext}
use Rattle.ledger_model.proofs.GrowLaws.{close_none, size_closed}
use Rattle.ledger_model.proofs.KeepLaws.{journals_close}
use Rattle.ledger_book.specs.Books.{sealed_size}
use Rattle.twin_file.specs.Twin.{open_of, other_of}
use Rattle.ledger_open.specs.Cutting.{gate_behind}
use Rattle.ledger_open.specs.Growing.{with_block, IsNextBlock}
use Rattle.block_file.specs.Places.{body_from, record_len, place_at, places_in, places_at, after_at}
use Rattle.block_file.specs.declared.place.PlaceAt.{PlaceAt}
use Rattle.ledger_open.specs.Standing.{floor_behind, hidden_before, point_before, StandsBy, StandsFor, IsErased, IsClean, PairFor, PairOpen, IsCleanPair}
use Rattle.ledger_open.proofs.FloorLaws.{floor_digests}
use Rattle.ledger_open.proofs.GrowLaws.{erased_stands, begins}
use Rattle.ledger_open.proofs.PlaceLaws.{after_kept, tail_place}
use Rattle.ledger_open.proofs.SizeLaws.{mth_size, block_size, body_size, readable}
use Rattle.batch_committer.specs.Steps.{last_bytes}
use Rattle.batch_committer.specs.declared.failure.CommitErr.{CommitErr}
use Rattle.batch_committer.specs.declared.failure.CommitErr.TheVariants.{DiskFault, WriteFault, NoMemory, Closed}
use Rattle.batch_committer.specs.World.{CommitterState, Keeps, IsCleanFor, IsErasedPair, IsLeftClean, sealed_part}
use Rattle.batch_committer.proofs.Parting.{TailsAt}

-- ---- the history

pub close_some : (blocks : List (List Entry)) (waiting : List Entry) → 1 ≤ length waiting → close_by blocks waiting ≡ history (blocks ++ waiting ∷ []) []
close_some blocks [] some = absurd (omega (arith, some))
close_some blocks (journal ∷ rest) some = refl

-- the history with its open block ended
pub close_is : (h : History) → 1 ≤ length h.waiting → close h ≡ history (h.closed ++ h.waiting ∷ []) []
unfolding close
close_is h some = close_some h.closed h.waiting some

pub closed_is : (h : History) → 1 ≤ length h.waiting → (close h).closed ≡ h.closed ++ h.waiting ∷ []
closed_is h some = ap (λ (k : History). k.closed) (close_is h some)

-- its blocks alone are all of it
pub sealed_close : (h : History) → 1 ≤ length h.waiting → with_block h.waiting (sealed_part h) ≡ sealed_part (close h)
sealed_close h some = ap (λ (bs : List (List Entry)). history bs []) (sym (closed_is h some))

pub sealed_same : (h : History) → h.waiting ≡ [] → sealed_part h ≡ h
sealed_same h none = ap (λ (l : List Entry). history h.closed l) (sym none)

pub journals_sealed : (h : History) → journals (sealed_part h) ≡ journals_of h.closed
journals_sealed h = append-nil (journals_of h.closed)

pub size_sealed : (h : History) → size (sealed_part h) ≡ sealed_size h
size_sealed h = ap length (journals_sealed h)

-- the leaves of a history are those of its blocks and of its open block
pub leaves_parts : (h : History) → leaves h ≡ leaves_of (journals_of h.closed) ++ leaves_of h.waiting
leaves_parts h = map-append (λ (e : Entry). spelling e.header) (journals_of h.closed) h.waiting

pub sealed_all : (h : History) → h.waiting ≡ [] → sealed_size h ≡ size h
sealed_all h none = sym (size_closed h none)

-- the root at the end of the open block
pub root_closed : (h : History) → root (close h) (sealed_size (close h)) ≡ mth sha256 (leaves h)
unfolding root
root_closed h =
    let g = close h in
    ap (mth sha256)
    (take_all (sealed_size g) (leaves g) (omega (arith, sealed_all g (close_none h), length-map (journals g) (λ (j : Entry). spelling j.header)))
    ∙ ap (map (λ (j : Entry). spelling j.header)) (journals_close h))

-- ---- the open block may be the next one

pub next_rest : (before es fs : List Entry) → AreNext before (es ++ fs) → AreNext (before ++ es) fs
next_rest before [] fs next = subst (λ (l : List Entry). AreNext l fs) (sym (append-nil before)) next
next_rest before (e ∷ es) fs next = subst (λ (l : List Entry). AreNext l fs) (append_assoc before (e ∷ []) es) (next_rest (before ++ e ∷ []) es fs next.1)

pub next_block_is : (k : CommitterState) (h : History) → Keeps k h → 1 ≤ length h.waiting → length h.waiting ≤ BLOCK_LIMIT → IsNextBlock (sealed_part h) h.waiting
next_block_is k h p some most = record {
  entries = record { some = some; most = most; entries = subst (λ (n : ℕ). AreFrom n h.waiting) (sym (size_sealed h)) p.next };
  shape = record { some = some; most = most; gathered = p.gathered };
  next = subst (λ (l : List Entry). AreNext l h.waiting) (sym (journals_sealed h)) (next_rest [] (journals_of h.closed) h.waiting p.serves.stands.lawful.next);
}

-- ---- the open file

-- where the tail gate of a file stands that stands for a history
pub tail_at : (floor : ℕ) (zeros : ℕ → Bool) (image : List ℕ) (h : History) (x : StandsBy floor zeros image h) → tail_of x.keeps.file.front (written_blocks (floor_behind h x.parts.gone).root [] x.keeps.blocks) ≡ gate_behind (floor_behind h x.parts.gone) x.parts.kept
tail_at floor zeros image h x =
    let from = floor_behind h x.parts.gone in
    tail_place from (floor_digests h x.parts.gone x.parts.kept x.parts.are) x.keeps.file.front (64 + length from.base) x.keeps.blocks x.keeps.file.lawful x.keeps.file.head.size
    ∙ sym (after_kept (is_hidden h) zeros (64 + length from.base) x.parts.kept x.keeps.blocks x.keeps.same)

-- another image with the same front and blocks
pub stands_by : (image new : List ℕ) (h : History) (x : IsErased image h) → IsFileOf x.keeps.file.front (written_blocks (floor_behind h x.parts.gone).root [] x.keeps.blocks) new → IsErased new h
stands_by image new h x stands = record {
  edition = x.edition;
  parts = x.parts;
  keeps = record {
    blocks = x.keeps.blocks;
    file = record { front = x.keeps.file.front; head = x.keeps.file.head; lawful = x.keeps.file.lawful; stands = stands };
    same = x.keeps.same;
  };
  early = x.early;
  none = x.none;
  lawful = x.lawful;
  wide = x.wide;
}

pub stands_from : (floor : ℕ) (image : List ℕ) (h : History) → (floor ≡ point h) ⊎ (floor ≡ point_before h) → StandsBy floor (hidden_before h) image h → StandsFor image h
stands_from floor image h begins x = record { floor = floor; begins = begins; file = x }

-- ---- images of a pair

-- an empty file that nothing is pending on
empty_image : (s : State) (image : List ℕ) → s ≡ settled_state [] → MayLeave s image → length image ≡ 0
empty_image s image is left = ap length (settled_image [] image (subst (λ (t : State). MayLeave t image) is left))

abbrev pair_of : (in_a : Bool) (a b : State) (i j : List ℕ) (h : History) → other_of in_a a b ≡ settled_state [] → MayLeave a i → MayLeave b j → StandsFor (open_of in_a i j) h → PairFor i j h
pair_of true a b i j h empty left_a left_b x = record { in_a = true; stands = x; beside = inl (empty_image b j empty left_b) }
pair_of false a b i j h empty left_a left_b x = record { in_a = false; stands = x; beside = inl (empty_image a i empty left_a) }

-- .. as a session leaves it
pub pair_alone : (in_a : Bool) (a b : State) (i j : List ℕ) (h : History) → other_of in_a a b ≡ settled_state [] → MayLeave a i → MayLeave b j → StandsFor (open_of in_a i j) h → PairOpen i j h
pair_alone true a b i j h empty left_a left_b x = record { pair = pair_of true a b i j h empty left_a left_b x; alone = inl (empty_image b j empty left_b) }
pair_alone false a b i j h empty left_a left_b x = record { pair = pair_of false a b i j h empty left_a left_b x; alone = inl (empty_image a i empty left_a) }

pub open_left : (in_a : Bool) (a b : State) (i j : List ℕ) → MayLeave a i → MayLeave b j → MayLeave (open_of in_a a b) (open_of in_a i j)
open_left true a b i j left_a left_b = left_a
open_left false a b i j left_a left_b = left_b

-- a clean pair leaves what it stands for
pub clean_image : (in_a : Bool) (place : ℕ) (h : History) (a b : State) (i j : List ℕ) → IsCleanFor in_a place h a b → MayLeave a i → MayLeave b j → PairOpen i j h
clean_image in_a place h a b i j x left_a left_b =
    let seen = (open_of in_a a b).seen in
    let is : open_of in_a i j ≡ seen = settled_image seen (open_of in_a i j) (subst (λ (s : State). MayLeave s (open_of in_a i j)) x.quiet (open_left in_a a b i j left_a left_b)) in
    pair_alone in_a a b i j h x.empty left_a left_b (subst (λ (l : List ℕ). StandsFor l h) (sym is) (erased_stands seen h x.erased))

-- how long a clean file is
pub clean_length : (floor : ℕ) (zeros : ℕ → Bool) (image : List ℕ) (h : History) (place : ℕ) (x : StandsBy floor zeros image h) → x.keeps.file.stands.rest ≡ [] → place ≡ gate_behind (floor_behind h x.parts.gone) x.parts.kept → length image ≡ place + 1
clean_length floor zeros image h place x none at =
    let f = x.keeps.file in
    let written = written_blocks (floor_behind h x.parts.gone).root [] x.keeps.blocks in
    omega (arith, at, tail_at floor zeros image h x, ap length none, ap length f.stands.is, length-append (f.front ++ open_blocks written) (f.stands.gate ∷ f.stands.rest))

-- .. and that one of such a length is clean
pub length_clean : (floor : ℕ) (zeros : ℕ → Bool) (image : List ℕ) (h : History) (place : ℕ) (x : StandsBy floor zeros image h) → length image ≡ place + 1 → place ≡ gate_behind (floor_behind h x.parts.gone) x.parts.kept → x.keeps.file.stands.rest ≡ []
length_clean floor zeros image h place x long at =
    let f = x.keeps.file in
    let written = written_blocks (floor_behind h x.parts.gone).root [] x.keeps.blocks in
    nil_from_length f.stands.rest (omega (arith, at, tail_at floor zeros image h x, long, ap length f.stands.is, length-append (f.front ++ open_blocks written) (f.stands.gate ∷ f.stands.rest)))

-- .. and so are the images that it leaves
pub clean_pair : (in_a : Bool) (place : ℕ) (h : History) (a b : State) (i j : List ℕ) → TailsAt place h → IsCleanFor in_a place h a b → MayLeave a i → MayLeave b j → IsCleanPair i j h
clean_pair true place h a b i j at x left_a left_b =
    let is : i ≡ a.seen = settled_image a.seen i (subst (λ (s : State). MayLeave s i) x.quiet left_a) in
    record {
      in_a = true;
      clean = subst (λ (l : List ℕ). IsClean l h) (sym is) (record { erased = x.erased; ends = length_clean (point h) (is_hidden h) a.seen h place x.erased x.ends (at x.erased.parts) });
      newer = ap version_in is ∙ x.newer;
      empty = empty_image b j x.empty left_b;
    }
clean_pair false place h a b i j at x left_a left_b =
    let is : j ≡ b.seen = settled_image b.seen j (subst (λ (s : State). MayLeave s j) x.quiet left_b) in
    record {
      in_a = false;
      clean = subst (λ (l : List ℕ). IsClean l h) (sym is) (record { erased = x.erased; ends = length_clean (point h) (is_hidden h) b.seen h place x.erased x.ends (at x.erased.parts) });
      newer = ap version_in is ∙ x.newer;
      empty = empty_image a i x.empty left_a;
    }

pub erased_of : (in_a : Bool) (a b : State) (i j : List ℕ) (h : History) → other_of in_a a b ≡ settled_state [] → MayLeave a i → MayLeave b j → IsErased (open_of in_a i j) h → IsErasedPair i j h
erased_of true a b i j h empty left_a left_b x = record { in_a = true; erased = x; empty = empty_image b j empty left_b }
erased_of false a b i j h empty left_a left_b x = record { in_a = false; erased = x; empty = empty_image a i empty left_a }

-- images that are clean are so at each end
pub left_clean : (end : CommitErr) (h kept : History) (done : List Due) (a b : List ℕ) → IsCleanPair a b kept → IsLeftClean end h kept done a b
left_clean DiskFault h kept done a b c = inl (record { in_a = c.in_a; erased = c.clean.erased; empty = c.empty })
left_clean WriteFault h kept done a b c = c
left_clean NoMemory h kept done a b c = c
left_clean Closed h kept done a b c = c

-- ---- places

pub places_more : (at : ℕ) (bs : List (List Entry)) (b : List Entry) → places_at at (bs ++ b ∷ []) ≡ places_at at bs ++ places_in (body_from (after_at at bs)) b
places_more at [] b = append-nil (places_in (body_from at) b)
places_more at (x ∷ bs) b =
    let next = body_from at + sum_by record_len x in
    ap (λ (l : List PlaceAt). places_in (body_from at) x ++ l) (places_more next bs b) ∙ sym (append_assoc (places_in (body_from at) x) (places_at next bs) (places_in (body_from (after_at next bs)) b))

pub after_more : (at : ℕ) (bs : List (List Entry)) (b : List Entry) → after_at at (bs ++ b ∷ []) ≡ body_from (after_at at bs) + sum_by record_len b
after_more at [] b = refl
after_more at (x ∷ bs) b = after_more (body_from at + sum_by record_len x) bs b

pub places_in_more : (at : ℕ) (es : List Entry) (e : Entry) → places_in at (es ++ e ∷ []) ≡ places_in at es ++ place_at (at + sum_by record_len es) e ∷ []
places_in_more at [] e = ap (λ (n : ℕ). place_at n e ∷ []) (omega arith)
places_in_more at (x ∷ es) e =
    ap (λ (l : List PlaceAt). place_at at x ∷ l)
    (places_in_more (at + record_len x) es e ∙ ap (λ (n : ℕ). places_in (at + record_len x) es ++ place_at n e ∷ []) (omega (arith, sum_by-cons record_len x es)))

-- the bytes of gathered journals are as many as their places say
pub body_len : (n : ℕ) (es : List Entry) → AreFrom n es → length (body_of es) ≡ sum_by record_len es
body_len n es a = body_size es (readable n es a)

pub bytes_len : (h : History) → AreFrom (sealed_size h) h.waiting → length (last_bytes h) ≡ BLOCK_HEAD_LEN + sum_by record_len h.waiting
bytes_len h a = block_size (mth sha256 (leaves h)) h.waiting (mth_size (leaves h)) (readable (sealed_size h) h.waiting a)
