-- Blocks are gathered, committed without a new end, and what is due for them is written.
use Rattle.std.specs.Prelude.{Bool, Some}
use Rattle.std.specs.Io.KnownBytes.{Appends}
use Rattle.std.proofs.Common.{◌≡◌, ◌≢◌, inl, inr, ℕ, ◌+◌, ◌-◌, ◌<◌, ◌≤◌, List, [], ◌∷◌, ◌++◌, length, take, drop, refl, ap, sym, subst, ◌∙◌, arith, append_assoc, append-nil, length-append, length-take, take-append-drop}
use Rattle.std.proofs.KnownBytes.{Appends-nil}
use Rattle.std.proofs.lemmas.List.{map-append, length-drop, nil_from_length, take_all, take-append-le}
use Rattle.std.proofs.lemmas.List.Concat.{flat_map-append}
use Rattle.sha2.specs.Sha256.{sha256}
use Rattle.tree_model.specs.Tree.{mth}
use Rattle.ledger_bytes.specs.Begins.{Begins}
use Rattle.ledger_bytes.specs.declared.limits.TheConstants.{BLOCK_LIMIT}
use Rattle.journal_record.specs.Blocks.{body_of, block_bytes, leaves_of, AreFrom}
use Rattle.journal_record.specs.Entry.{Entry}
use Rattle.journal_record.specs.Header.{spelling}
use Rattle.block_file.specs.File.{IsGroupOf}
use Rattle.block_file.specs.Places.{body_from, places_in}
use Rattle.block_file.specs.Writing.{ended_blocks}
use Rattle.ledger_io.specs.Outside.{SinkState, MeetsNone, MeetsOne}
use Rattle.ledger_model.specs.Dues.{due_lines, AllWaiting, AllIn}
use Rattle.ledger_model.specs.History.{History, history, journals_of, leaves, point, close}
use Rattle.ledger_model.specs.Lawful.{AllGather}
use Rattle.ledger_model.proofs.GrowLaws.{grows_not, grows_close, close_none, close_settled}
use Rattle.ledger_book.specs.Books as books
use Rattle.ledger_book.specs.Books.{Serves, sealed_size}
use Rattle.ledger_book.specs.Steps.{IsSame}
use Rattle.twin_file.specs.Twin.{open_of}
use Rattle.ledger_open.specs.Cutting.{gate_behind}
use Rattle.ledger_open.specs.Heads.{Edition, edition_of}
use Rattle.ledger_open.specs.Places.{places_from, AreInOrder}
use Rattle.ledger_open.specs.Standing.{floor_behind}
use Rattle.ledger_open.proofs.GrowLaws.{blocks_more, written_more}
use Rattle.ledger_open.proofs.OldLaws.{same_edition}
use Rattle.batch_committer.specs.Committed.{IsCommitted, IsUncommitted}
use Rattle.batch_committer.specs.Steps.{last_bytes}
use Rattle.batch_committer.specs.World.{CommitterState, Pair, world, ReadsAsLeft, Fits, IsGathering, Located, Owes, Keeps, IsCleanFor, Holds, Goes, LeftAtTheEnd, EndsOnTheWay, sealed_part, stored_part}
use Rattle.batch_committer.specs.declared.failure.CommitErr.TheVariants.{DiskFault, WriteFault}
use Rattle.batch_committer.proofs.Closing.{closed_is, sealed_close, leaves_parts, clean_image, clean_pair, places_more, after_more, bytes_len}
use Rattle.batch_committer.proofs.Ending.{stored_of, group_same, located_same, says_first, edition_stays}
use Rattle.batch_committer.proofs.Grouped.{stored_split, stored_all, stored_begins, stored_stays, none_gathered, written_count, group_of, located_held, group_quiet, group_erased, group_left, tails_held}
use Rattle.batch_committer.proofs.Grouping.{gather_join, point_block}
use Rattle.batch_committer.proofs.Ordering.{order_wider}
use Rattle.batch_committer.proofs.Parting.{TailsAt}
use Rattle.batch_committer.proofs.Spelling.{told_ended, lines_later}
use Rattle.batch_committer.proofs.WayLaws.{begins_not}

pub drop_all : {A : Type 0} (xs : List A) → drop (length xs) xs ≡ []
drop_all xs = nil_from_length (drop (length xs) xs) (omega (arith, length-drop (length xs) xs))

-- what is left of a list whose first were turned behind the others and cut off
pub rest_left : {A : Type 0} (xs turned cut : List A) (n left : ℕ) → n ≤ length xs → left ≡ length xs - n → turned ≡ drop n xs ++ take n xs → cut ≡ take left turned → cut ≡ drop n xs
rest_left xs turned cut n left few left_is turned_is cut_is =
    let rest = drop n xs in
    let count : left ≡ length rest = left_is ∙ sym (length-drop n xs) in
    cut_is ∙ ap (λ (m : ℕ). take m turned) count ∙ ap (take (length rest)) turned_is ∙ take-append-le (length rest) rest (take n xs) (omega arith) ∙ take_all (length rest) rest (omega arith)

-- all that is due is spelled, where the open block has ended
owes_all : (k new : CommitterState) (h : History) → Owes k h → new.dues ≡ k.dues → new.spelled ≡ length k.dues → new.lines ≡ k.lines ++ due_lines (close h) (drop k.spelled k.dues) → Owes new (close h)
owes_all k new h o dues spelled lines =
    let all : take new.spelled new.dues ≡ k.dues = ap (λ (n : ℕ). take n new.dues) spelled ∙ ap (take (length k.dues)) dues ∙ take_all (length k.dues) k.dues (omega arith) in
    let none : drop new.spelled new.dues ≡ [] = ap (λ (n : ℕ). drop n new.dues) spelled ∙ ap (drop (length k.dues)) dues ∙ drop_all k.dues in record {
      few = omega (arith, spelled, ap length dues);
      told = subst (AllIn (close h).closed) (sym all) (told_ended k h o);
      lines = λ f y settled. lines ∙ lines_later k h f o y settled ∙ ap (due_lines f) (sym all);
      waits = subst (AllWaiting (close h)) (sym none) tt;
    }

-- ---- what is due is spelled

module _ (tells : Bool) (k : CommitterState) (text : List ℕ) (none : (h : History) → Serves k.book h → h.waiting ≡ []) (text_is : (h : History) → Keeps k h → text ≡ k.lines ++ due_lines h (drop k.spelled k.dues)) (disks : Pair) (sink : SinkState) where
  abbrev spelled_all : CommitterState
  spelled_all = record k { spelled = length k.dues; lines = text }

  owes_spelled : (h : History) → Keeps k h → Owes (spelled_all) h
  owes_spelled h p =
      let same = close_settled h (none h p.serves) in
      subst (Owes (spelled_all)) (sym same) (owes_all k (spelled_all) h p.dues refl refl (text_is h p ∙ ap (λ (g : History). k.lines ++ due_lines g (drop k.spelled k.dues)) same))

  pub spell_goes : Goes tells (world k disks sink) (λ h. h) (λ h. []) (world (spelled_all) disks sink)
  spell_goes = record {
    holds = λ h p. let x = p.keeps in record {
      told = p.told;
      keeps = record {
        serves = x.serves;
        limits = x.limits;
        floor = x.floor;
        dues = owes_spelled h x;
        body = x.body;
        next = x.next;
        gathered = x.gathered;
        group = group_same {old = k} {new = spelled_all} {h = h} {g = h} refl refl refl x.group;
        located = located_same k (spelled_all) h x.group.stored x.group.blocks refl refl refl refl x.located;
      };
      disks = p.disks;
    };
    grows = λ h p. grows_not h;
    stays = λ h p. begins_not (stored_part k h).closed;
    sofar = [];
    appended = Appends-nil sink.held;
    writes = λ h p. record { done = []; split = append-nil k.dues; kept = tt; text = λ f y z. refl };
    no_fault = record { a = refl; b = refl; sink = (refl, refl) };
  }

-- ---- the gathered blocks are committed

-- the tail gate stands where the open block's was to stand
pub gate_then : (gate : ℕ) (before bytes : List ℕ) → bytes ≡ take (length before - 1) before → 1 ≤ length before → gate + 1 + length bytes ≡ gate + length before
gate_then gate before bytes is some = omega (arith, ap length is, length-take (length before - 1) before, some)

-- a sink that holds nothing
pub no_sink : SinkState
no_sink = record { held = Some []; faults = 0; idles = 0 }

-- what a call asks for is the same with another sink
pub fits_any : (tells : Bool) (k : CommitterState) (disks : Pair) (sink other : SinkState) → Fits tells (world k disks sink) → Fits tells (world k disks other)
fits_any tells k disks sink other f =
    record { reads = f.reads; edition = f.edition; copy = f.copy; few = f.few; order = f.order; next = f.next; some = f.some; room = f.room; spelled = f.spelled; owed = f.owed; clear = f.clear }

module _ (tells : Bool) (k : CommitterState) (disks after : Pair) (sink : SinkState) (ended : k.ended ≢ 0) (is_group : (group : List (List ℕ)) → k.before ≡ ended_blocks group → 1 ≤ length group → IsGroupOf group (take (length k.before - 1) k.before)) where
  abbrev bytes : List ℕ
  bytes = take (length k.before - 1) k.before

  abbrev committed_kept : CommitterState
  committed_kept = record k { gate = k.gate + length k.before; ended = 0; before = [] }

  group_is : (h : History) (g : IsGathering k h) → IsGroupOf (group_of g) bytes
  group_is h g = is_group (group_of g) g.bytes (omega (arith, written_count (mth sha256) (leaves_of (journals_of g.stored)) g.blocks, g.count, ended))

  module _ (f : Fits tells (world k disks sink)) (c : IsCommitted tells k.in_a k.gate bytes disks after) where
    longer : k.gate + length k.before ≡ k.gate + 1 + length bytes
    longer = omega (arith, length-take (length k.before - 1) k.before, f.some ended)

    clean_committed : (h : History) → Holds tells (world k disks sink) h → IsCleanFor k.in_a (k.gate + length k.before) (sealed_part h) after.a.bytes after.b.bytes
    clean_committed h p =
        let w = world k disks sink in
        let g = group_is h p.keeps.group in record {
          quiet = group_quiet tells w h p bytes after g c;
          empty = c.other ∙ p.disks.empty;
          erased = group_erased tells w h p bytes after g c;
          newer = ap (λ (e : Edition). e.version) (same_edition _ _ (c.head p.told)) ∙ p.disks.newer;
          ends = c.ends p.told p.disks.ends ∙ ap (λ (n : ℕ). n + 1) (sym longer);
        }

    located_committed : (h : History) → Holds tells (world k disks sink) h → Located committed_kept h h.closed []
    located_committed h p =
        let l = located_held tells (world k disks sink) h p in
        let from = floor_behind (sealed_part h) l.parts.gone in
        let kept : l.parts.kept ++ [] ≡ l.parts.kept = append-nil l.parts.kept in record {
          parts = l.parts;
          places = l.places ∙ ap (λ (bs : List (List Entry)). places_from from bs ++ places_in (body_from k.next) h.waiting) (sym kept);
          tail = sym f.next ∙ l.tail;
          next = l.tail ∙ ap (gate_behind from) (sym kept);
        }

    pub commit_goes : Goes tells (world k disks sink) (λ h. h) (λ h. []) (world committed_kept after sink)
    commit_goes = record {
      holds = λ h p. let x = p.keeps in record {
        told = p.told;
        keeps = record {
          serves = x.serves;
          limits = x.limits;
          floor = x.floor;
          dues = record { few = x.dues.few; told = x.dues.told; lines = x.dues.lines; waits = x.dues.waits };
          body = x.body;
          next = x.next;
          gathered = x.gathered;
          group = record { stored = h.closed; blocks = []; are = sym (append-nil h.closed); count = refl; follow = tt; alike = refl; bytes = refl };
          located = located_committed h p;
        };
        disks = clean_committed h p;
      };
      grows = λ h p. grows_not h;
      stays = λ h p. subst (λ (g : History). Begins (stored_part k h).closed g.closed) (sym (stored_all committed_kept h refl)) (stored_begins k h);
      sofar = [];
      appended = Appends-nil sink.held;
      writes = λ h p. record { done = []; split = append-nil k.dues; kept = tt; text = λ g y z. refl };
      no_fault = record { a = c.faults_a; b = c.faults_b; sink = (refl, refl) };
    }

    pub commit_fits : Fits tells (world committed_kept after sink)
    commit_fits = record {
      reads = subst (λ (n : ℕ). ReadsAsLeft tells n (open_of k.in_a after.a after.b)) (sym longer) c.reads;
      edition = λ told. f.edition told ∙ sym (edition_stays tells k.in_a k.gate bytes disks after c told);
      copy = f.copy;
      few = f.few;
      order = f.order;
      next = omega (arith, f.next);
      some = λ more. absurd (more refl);
      room = omega arith;
      spelled = f.spelled;
      owed = f.owed;
      clear = λ _. refl;
    }

  pub commit_ended : (t : CommitterState) → IsUncommitted tells k.in_a k.gate bytes disks after → EndsOnTheWay tells (world k disks sink) (λ h. h) (λ h. []) DiskFault (world t after sink)
  commit_ended t c = record {
    grows = λ h p. grows_not h;
    part = [];
    appended = Appends-nil sink.held;
    stops = λ h p.
        let s = history p.keeps.group.stored [] in
        let from = stored_of k h h p.keeps.group (grows_not h) in
        subst (λ (g : History). LeftAtTheEnd g h (k.dues ++ []) DiskFault [] after) (sym (stored_split k h p.keeps.group))
        (record {
          done = [];
          rest = k.dues ++ [];
          split = refl;
          said = λ f y none. refl;
          images = λ i j left_a left_b.
              elim (group_left tells (world k disks sink) h p bytes i j after (group_is h p.keeps.group) c left_a left_b) [
                | inl x ↦ record { kept = s; stands = x.0; no_shorter = begins_not s.closed; no_longer = from; receipts = tt; clean = inl x.1 }
                | inr x ↦ record { kept = sealed_part h; stands = x.0; no_shorter = from; no_longer = begins_not h.closed; receipts = tt; clean = inl x.1 }
              ];
        });
    cause = (c.failed, (refl, refl));
  }

-- ---- the lines are written

module _ (tells : Bool) (k : CommitterState) (disks : Pair) (sink after : SinkState) (ended : k.ended ≡ 0) where
  abbrev written_kept : CommitterState
  written_kept = record k { dues = drop k.spelled k.dues; spelled = 0; lines = [] }

  pub write_goes : Appends sink.held after.held k.lines → MeetsNone sink after → Goes tells (world k disks sink) (λ h. h) (λ h. []) (world written_kept disks after)
  write_goes appended met = record {
    holds = λ h p. let x = p.keeps in record {
      told = p.told;
      keeps = record {
        serves = x.serves;
        limits = x.limits;
        floor = x.floor;
        dues = record { few = omega arith; told = tt; lines = λ f y z. refl; waits = x.dues.waits };
        body = x.body;
        next = x.next;
        gathered = x.gathered;
        group = group_same {old = k} {new = written_kept} {h = h} {g = h} refl refl refl x.group;
        located = located_same k written_kept h x.group.stored x.group.blocks refl refl refl refl x.located;
      };
      disks = p.disks;
    };
    grows = λ h p. grows_not h;
    stays = λ h p. begins_not (stored_part k h).closed;
    sofar = k.lines;
    appended = appended;
    writes = λ h p. record {
      done = take k.spelled k.dues;
      split = append-nil k.dues ∙ sym (take-append-drop k.spelled k.dues);
      kept = subst (λ (g : History). AllIn g.closed (take k.spelled k.dues)) (sym (stored_all written_kept h ended)) p.keeps.dues.told;
      text = p.keeps.dues.lines;
    };
    no_fault = record { a = refl; b = refl; sink = met };
  }

  clean_whole : (h : History) → Holds tells (world k disks sink) h → IsCleanFor k.in_a k.gate (sealed_part h) disks.a.bytes disks.b.bytes
  clean_whole h p = subst (λ (g : History). IsCleanFor k.in_a k.gate g disks.a.bytes disks.b.bytes) (none_gathered k h p.keeps.group ended) p.disks

  tails_whole : (h : History) → Holds tells (world k disks sink) h → TailsAt k.gate (sealed_part h)
  tails_whole h p = subst (λ (g : History). TailsAt k.gate g) (none_gathered k h p.keeps.group ended) (tails_held tells (world k disks sink) h p)

  pub write_ended : (t : CommitterState) (taken : ℕ) → taken < length k.lines → Appends sink.held after.held (take taken k.lines) → MeetsOne sink after → EndsOnTheWay tells (world k disks sink) (λ h. h) (λ h. []) WriteFault (world t disks after)
  write_ended t taken few appended one = record {
    grows = λ h p. grows_not h;
    part = take taken k.lines;
    appended = appended;
    stops = λ h p.
        subst (λ (g : History). LeftAtTheEnd g h (k.dues ++ []) WriteFault (take taken k.lines) disks) (sym (stored_all k h ended))
        (record {
          done = take k.spelled k.dues;
          rest = drop k.spelled k.dues;
          split = append-nil k.dues ∙ sym (take-append-drop k.spelled k.dues);
          said = λ f y none. says_first k.lines (due_lines f (take k.spelled k.dues)) taken (p.keeps.dues.lines f y none) few;
          images = λ i j left_a left_b. record {
            kept = sealed_part h;
            stands = clean_image k.in_a k.gate (sealed_part h) disks.a.bytes disks.b.bytes i j (clean_whole h p) left_a left_b;
            no_shorter = begins_not h.closed;
            no_longer = begins_not h.closed;
            receipts = p.keeps.dues.told;
            clean = clean_pair k.in_a k.gate (sealed_part h) disks.a.bytes disks.b.bytes i j (tails_whole h p) (clean_whole h p) left_a left_b;
          };
        });
    cause = (refl, refl, one);
  }

  pub write_fits : Fits tells (world k disks sink) → Fits tells (world written_kept disks after)
  write_fits f = record { reads = f.reads; edition = f.edition; copy = f.copy; few = f.few; order = f.order; next = f.next; some = f.some; room = f.room; spelled = omega arith; owed = λ some. omega (arith, f.owed some, length-drop k.spelled k.dues); clear = λ _. ended }

-- ---- the open block ends, and is gathered

module _ (k : CommitterState) (book : books.Kept) (block before text : List ℕ) (same : IsSame k.book book) (some : (h : History) → Serves k.book h → 1 ≤ length h.waiting) (most : (h : History) → Serves k.book h → length h.waiting ≤ BLOCK_LIMIT)
    (alike : (h : History) → Serves k.book h → AllGather h.waiting) (serves : (h : History) → Serves k.book h → Serves book (close h)) (block_is : (h : History) → Serves k.book h → k.body ≡ body_of h.waiting → block ≡ last_bytes h)
    (before_is : (ended : List (List ℕ)) → k.before ≡ ended_blocks ended → before ≡ ended_blocks (ended ++ block ∷ []))
    (text_is : (h : History) → Serves k.book h → k.book.floor ≡ point (sealed_part h) → 1 ≤ length h.waiting → AllWaiting h (drop k.spelled k.dues) → text ≡ k.lines ++ due_lines (close h) (drop k.spelled k.dues)) where
  abbrev gathered_kept : CommitterState
  gathered_kept = record k { book = book; ended = k.ended + 1; before = before; next = k.next + (length block + 1); body = []; spelled = length k.dues; lines = text }

  module _ (h : History) (p : Keeps k h) where
    abbrev one : 1 ≤ length h.waiting
    one = some h p.serves

    abbrev blocks_then : List (List Entry)
    blocks_then = p.group.blocks ++ h.waiting ∷ []

    -- the leaves in front of the open block
    leaves_before : leaves h ≡ (leaves_of (journals_of p.group.stored) ++ leaves_of (journals_of p.group.blocks)) ++ leaves_of h.waiting
    leaves_before =
        leaves_parts h
        ∙ ap (λ (l : List (List ℕ)). l ++ leaves_of h.waiting)
        (ap leaves_of (ap journals_of p.group.are ∙ flat_map-append (λ (b : List Entry). b) p.group.stored p.group.blocks)
        ∙ map-append (λ (e : Entry). spelling e.header) (journals_of p.group.stored) (journals_of p.group.blocks))

    sealed_count : sealed_size h ≡ length (journals_of p.group.stored) + length (journals_of p.group.blocks)
    sealed_count = ap length (ap journals_of p.group.are ∙ flat_map-append (λ (b : List Entry). b) p.group.stored p.group.blocks) ∙ length-append (journals_of p.group.stored) (journals_of p.group.blocks)

    abbrev group_then : IsGathering gathered_kept (close h)
    group_then =
        let seen = leaves_of (journals_of p.group.stored) in record {
          stored = p.group.stored;
          blocks = blocks_then;
          are = closed_is h one ∙ ap (λ (l : List (List Entry)). l ++ h.waiting ∷ []) p.group.are ∙ append_assoc p.group.stored p.group.blocks (h.waiting ∷ []);
          count = omega (arith, length-append p.group.blocks (h.waiting ∷ []), p.group.count);
          follow = blocks_more (length (journals_of p.group.stored)) p.group.blocks h.waiting p.group.follow (record { some = one; most = most h p.serves; entries = subst (λ (n : ℕ). AreFrom n h.waiting) sealed_count p.next });
          alike = subst AllGather (sym (flat_map-append (λ (b : List Entry). b) p.group.blocks (h.waiting ∷ []) ∙ ap (λ (l : List Entry). journals_of p.group.blocks ++ l) (append-nil h.waiting)))
              (gather_join (journals_of p.group.blocks) h.waiting p.group.alike (alike h p.serves));
          bytes = before_is (group_of p.group) p.group.bytes
              ∙ ap ended_blocks (ap (λ (l : List ℕ). group_of p.group ++ l ∷ []) (block_is h p.serves p.body ∙ ap (λ (l : List (List ℕ)). block_bytes (mth sha256 l) h.waiting) leaves_before)
              ∙ sym (written_more (mth sha256) seen p.group.blocks h.waiting));
        }

    located_then : Located gathered_kept (close h) p.group.stored blocks_then
    located_then =
        let parts = p.located.parts in
        let from = floor_behind (history p.group.stored []) parts.gone in
        let all : (parts.kept ++ p.group.blocks) ++ h.waiting ∷ [] ≡ parts.kept ++ blocks_then = append_assoc parts.kept p.group.blocks (h.waiting ∷ []) in
        let next = k.next + (length block + 1) in
        let is : next ≡ gate_behind from ((parts.kept ++ p.group.blocks) ++ h.waiting ∷ []) =
        omega (arith, ap length (block_is h p.serves p.body), bytes_len h p.next, p.located.next, after_more (64 + length from.base) (parts.kept ++ p.group.blocks) h.waiting) in record {
          parts = record { gone = parts.gone; kept = parts.kept; are = parts.are; at = parts.at ∙ sym same.floor };
          places = p.located.places ∙ ap (λ (n : ℕ). places_from from (parts.kept ++ p.group.blocks) ++ places_in (body_from n) h.waiting) p.located.next
              ∙ sym (places_more (64 + length from.base) (parts.kept ++ p.group.blocks) h.waiting) ∙ ap (places_from from) all
              ∙ sym (append-nil (places_from from (parts.kept ++ blocks_then))) ∙ ap (λ (es : List Entry). places_from from (parts.kept ++ blocks_then) ++ places_in (body_from next) es) (sym (close_none h));
          tail = p.located.tail;
          next = is ∙ ap (gate_behind from) all;
        }

    keeps_then : Keeps gathered_kept (close h)
    keeps_then =
        let none = close_none h in record {
          serves = serves h p.serves;
          limits = same.limits ∙ p.limits;
          floor = same.floor ∙ p.floor ∙ sym (ap point (sym (sealed_close h one)) ∙ point_block (sealed_part h) h.waiting refl one (alike h p.serves));
          dues = owes_all k gathered_kept h p.dues refl refl (text_is h p.serves p.floor one p.dues.waits);
          body = sym (ap body_of none);
          next = subst (AreFrom (sealed_size (close h))) (sym none) tt;
          gathered = λ more. subst AllGather (sym none) refl;
          group = group_then;
          located = located_then;
        }

  pub gather_goes : (tells : Bool) (disks : Pair) (sink : SinkState) → Goes tells (world k disks sink) close (λ h. []) (world gathered_kept disks sink)
  unfolding keeps_then
  gather_goes tells disks sink = record {
    holds = λ h p. record { told = p.told; keeps = keeps_then h p.keeps; disks = p.disks };
    grows = λ h p. grows_close h;
    stays = λ h p. stored_stays k gathered_kept h (close h) p.keeps.group (group_then h p.keeps) refl;
    sofar = [];
    appended = Appends-nil sink.held;
    writes = λ h p. record { done = []; split = append-nil k.dues; kept = tt; text = λ f y z. refl };
    no_fault = record { a = refl; b = refl; sink = (refl, refl) };
  }

-- how many journals wait
pub some_wait : (b : books.Kept) (h : History) → Serves b h → b.sealed < b.size → 1 ≤ length h.waiting
some_wait b h s some = omega (arith, some, s.stands.counts.size, s.stands.counts.sealed_is, length-append (journals_of h.closed) h.waiting)

pub few_wait : (b : books.Kept) (h : History) → Serves b h → b.size ≤ b.sealed + BLOCK_LIMIT → length h.waiting ≤ BLOCK_LIMIT
few_wait b h s few = omega (arith, few, s.stands.counts.size, s.stands.counts.sealed_is, length-append (journals_of h.closed) h.waiting)

-- what the next call asks for
pub gather_fits : (k new : CommitterState) (head body : List ℕ) → k.ended + 1 < 64 → k.spelled < length k.dues → length head ≡ 44 → body ≡ k.body → new.book.size ≡ new.book.sealed → new.gate ≡ k.gate → new.in_a ≡ k.in_a → new.edition ≡ k.edition → new.copy ≡ k.copy → new.ended ≡ k.ended + 1 → new.before ≡ k.before ++ (head ++ body) ++ 1 ∷ []
    → new.next ≡ k.next + (length (head ++ body) + 1) → new.body ≡ [] → new.places ≡ k.places → new.dues ≡ k.dues → new.spelled ≡ length k.dues → (tells : Bool) (disks : Pair) (sink : SinkState) → Fits tells (world k disks sink) → Fits tells (world new disks sink)
gather_fits k new head body room owed head_is body_is size gate in_a edition copy ended before next none places dues spelled tells disks sink f = record {
  reads = subst (λ v. ReadsAsLeft tells new.gate (open_of v disks.a disks.b)) (sym in_a) (subst (λ (n : ℕ). ReadsAsLeft tells n (open_of k.in_a disks.a disks.b)) (sym gate) f.reads);
  edition = λ told. edition ∙ f.edition told ∙ sym (ap (λ v. edition_of (open_of v disks.a disks.b).bytes.seen) in_a);
  copy = copy ∙ f.copy;
  few = omega (arith, size);
  order = subst (AreInOrder 64 (body_from new.next + length new.body)) (sym places)
      (order_wider 64 (body_from k.next + length k.body) (body_from new.next + length new.body) k.places f.order (omega (arith, next, ap length none, length-append head body, head_is, ap length body_is)));
  next = omega (arith, f.next, next, gate, ap length before, length-append (k.before ++ (head ++ body)) (1 ∷ []), length-append k.before (head ++ body));
  some = λ more. omega (arith, ap length before, length-append (k.before ++ (head ++ body)) (1 ∷ []), length-append k.before (head ++ body));
  room = omega (arith, ended, room);
  spelled = omega (arith, spelled, ap length dues);
  owed = λ some. absurd (omega (arith, some, size));
  clear = λ none. absurd (omega (arith, owed, ap length dues, ap length none));
}
