-- The open block ends: it is committed, and then all that is due is written.
use Rattle.std.specs.Prelude.{Bool, true, false, IsTrue, Option, None}
use Rattle.std.specs.Int.{w32, w64, to_be_bytes}
use Rattle.std.specs.Io.KnownBytes.{Appends}
use Rattle.std.proofs.Common.{◌≡◌, inl, inr, ℕ, ◌+◌, ◌-◌, ◌<◌, ◌≤◌, List, [], ◌∷◌, ◌++◌, length, take, drop, refl, ap, sym, subst, ◌∙◌, arith, append_assoc, length-append, length-take, take-append-drop}
use Rattle.std.proofs.KnownBytes.{Appends-nil}
use Rattle.std.proofs.lemmas.List.{nil_from_length, take_all, take-append-le}
use Rattle.block_file.specs.declared.block.TheConstants.{BLOCK_HEAD_LEN}
use Rattle.block_file.specs.File.{IsShutAt, IsGroupOf}
use Rattle.journal_record.specs.Entry.{Entry}
use Rattle.sha2.specs.Sha256.{sha256}
use Rattle.tree_model.specs.Tree.{mth}
use Rattle.ledger_bytes.specs.Begins.{Begins}
use Rattle.ledger_bytes.specs.declared.limits.TheConstants.{BLOCK_LIMIT}
use Rattle.journal_record.specs.Blocks.{body_of, block_bytes, AreFrom}
use Rattle.ledger_io.specs.Outside.{SinkState, MeetsNone, MeetsOne}
use Rattle.ledger_io.specs.Writing.{WritesFirst}
use Rattle.ledger_io.specs.declared.writer.WriteErr.{WriteErr}
use Rattle.ledger_io.specs.declared.writer.WriteErr.TheVariants as failed
use Rattle.ledger_model.specs.Dues.{due_lines, AllWaiting, AllIn}
use Rattle.ledger_model.specs.Growing.{Grows}
use Rattle.ledger_model.specs.History.{History, history, journals_of, leaves, root, point, close}
use Rattle.ledger_model.specs.Lawful.{AllGather}
use Rattle.ledger_model.specs.Limits.{real_limits}
use Rattle.ledger_model.specs.declared.due.Due.{Due}
use Rattle.ledger_model.proofs.GrowLaws.{grows_close, close_none}
use Rattle.ledger_model.proofs.WaitLaws.{begins_closed}
use Rattle.ledger_book.specs.Books as books
use Rattle.ledger_book.specs.Books.{Stands, Serves, sealed_size}
use Rattle.ledger_book.specs.Steps.{IsSame}
use Rattle.twin_file.specs.Twin.{open_of}
use Rattle.ledger_open.proofs.OldLaws.{same_edition}
use Rattle.ledger_open.specs.Heads.{Edition, edition_of}
use Rattle.ledger_open.specs.Opening.{known_from}
use Rattle.block_file.specs.Places.{body_from, places_in}
use Rattle.ledger_open.specs.Places.{places_from, AreInOrder}
use Rattle.ledger_open.specs.Purging.{Ledger, IsCleanOpen, IsAtGate}
use Rattle.ledger_open.specs.Standing.{floor_behind}
use Rattle.block_file.specs.declared.file.BlockFile.{BlockFile}
use Rattle.block_file.specs.declared.place.PlaceAt.{PlaceAt}
use Rattle.batch_committer.specs.Committed.{IsCommitted, IsUncommitted, IsStanding, IsFinished, IsUnfinished, open_bytes}
use Rattle.block_file.specs.Writing as spell
use Rattle.block_file.specs.Writing.{ended_blocks}
use Rattle.batch_committer.specs.Steps.{last_bytes}
use Rattle.batch_committer.specs.World.{CommitterState, World, Pair, world, first_kept, Fits, IsGathering, Located, Owes, Keeps, Holds, Writes, Goes, Says, LeftAtTheEnd, EndsOnTheWay, IsUnanswered, sealed_part, stored_part}
use Rattle.batch_committer.specs.declared.failure.CommitErr.{CommitErr}
use Rattle.batch_committer.specs.declared.failure.CommitErr.TheVariants.{DiskFault, WriteFault, NoMemory}
use Rattle.batch_committer.proofs.Closing.{root_closed, closed_is, clean_image, clean_pair, left_clean, sealed_same}
use Rattle.batch_committer.proofs.Finishing.{held_ledger, tails_clean, clean_for, gathers_none, located_clean, standing}
use Rattle.batch_committer.proofs.Grouped.{stored_split, stored_all, stored_begins, group_of, tails_held, commit_left}
use Rattle.batch_committer.proofs.Ordering.{order_wider}
use Rattle.batch_committer.proofs.Spelling.{told_ended, lines_later}
use Rattle.batch_committer.proofs.WayLaws.{begins_not, begins_then, failed_from}

-- what is stored begins each history that comes of the one that is held
pub stored_of : (k : CommitterState) (h whole : History) (g : IsGathering k h) → Grows h whole → Begins g.stored whole.closed
stored_of k h whole g x = begins_then g.stored h.closed whole.closed (record { rest = g.blocks; is = g.are }) (begins_closed h whole x)

-- nothing was written yet, and the disks are what they were
pub stops_before : (tells : Bool) (w : World) (h whole : History) (ds : List Due) (end : CommitErr) → Says end [] [] → Grows h whole → Holds tells w h → LeftAtTheEnd (stored_part w.kept h) whole ds end [] w.disks
stops_before tells w h whole ds end says x p =
    let s = history p.keeps.group.stored [] in
    subst (λ (k : History). LeftAtTheEnd k whole ds end [] w.disks) (sym (stored_split w.kept h p.keeps.group))
    (record {
      done = [];
      rest = ds;
      split = refl;
      said = λ f y none. says;
      images = λ i j left_a left_b. record {
        kept = s;
        stands = clean_image w.kept.in_a w.kept.gate s w.disks.a.bytes w.disks.b.bytes i j p.disks left_a left_b;
        no_shorter = begins_not p.keeps.group.stored;
        no_longer = stored_of w.kept h whole p.keeps.group x;
        receipts = tt;
        clean = left_clean end s s [] i j (clean_pair w.kept.in_a w.kept.gate s w.disks.a.bytes w.disks.b.bytes i j (tails_held tells w h p) p.disks left_a left_b);
      };
    })

-- memory was short before anything was done on the way to a history
pub no_memory : (tells : Bool) (w : World) (k : CommitterState) (f : History → History) (d : History → List Due) → ((h : History) → Holds tells w h → Grows h (f h)) → EndsOnTheWay tells w f d NoMemory (world k w.disks w.sink)
no_memory tells w k f d grows = record {
  grows = grows;
  part = [];
  appended = Appends-nil w.sink.held;
  stops = λ h p. stops_before tells w h (f h) (w.kept.dues ++ d h) NoMemory refl (grows h p) p;
  cause = record { a = refl; b = refl; sink = (refl, refl) };
}

pub end_unspelled : (tells : Bool) (w : World) (k : CommitterState) → EndsOnTheWay tells w close (λ h. []) NoMemory (world k w.disks w.sink)
end_unspelled tells w k = no_memory tells w k close (λ h. []) (λ h p. grows_close h)

-- all that was due is written
pub writes_ended : (k new : CommitterState) (h : History) (text : List ℕ) → Owes k h → new.ended ≡ 0 → text ≡ k.lines ++ due_lines (close h) (drop k.spelled k.dues) → Writes (close h) (stored_part new (close h)) k.dues [] [] text
writes_ended k new h text o none is = record {
  done = k.dues;
  split = refl;
  kept = subst (λ (g : History). AllIn g.closed k.dues) (sym (stored_all new (close h) none)) (told_ended k h o);
  text = λ f y settled. is ∙ lines_later k h f o y settled;
}

-- the first of what is due, up to a fault of the sink
pub says_first : (text lines : List ℕ) (taken : ℕ) → text ≡ lines → taken < length text → Says WriteFault (take taken text) lines
says_first text lines taken is few = subst (Says WriteFault (take taken text)) is (record { rest = drop taken text; is = sym (take-append-drop taken text) }, omega (arith, few, length-take taken text))

-- ---- a block that is committed

-- an open ledger by its parts
abbrev pub ledger_of : books.Kept → List PlaceAt → Pair → ℕ → Bool → Edition → Ledger
ledger_of book places disks place in_a edition = record { known = known_from book places place; in_a = in_a; edition = edition; a = disks.a.bytes; b = disks.b.bytes }

-- what is kept once the open block has ended, and what its journal hides or purges was given up
pub keeps_closed : (book : books.Kept) (places : List PlaceAt) (gate : ℕ) (in_a : Bool) (edition : Edition) (copy : Option BlockFile) (disks : Pair) (h : History) → book.limits ≡ real_limits → IsCleanOpen (ledger_of book places disks gate in_a edition) (sealed_part (close h)) → Keeps (first_kept book places gate in_a edition copy) (close h)
keeps_closed book places gate in_a edition copy disks h limits c =
    let none = close_none h in
    let k = first_kept book places gate in_a edition copy in record {
      serves = subst (Serves book) (sealed_same (close h) none) c.ends.serves;
      limits = limits;
      floor = c.floor;
      dues = record { few = omega arith; told = tt; lines = λ f y settled. refl; waits = tt };
      body = sym (ap body_of none);
      next = subst (AreFrom (sealed_size (close h))) (sym none) tt;
      gathered = λ more. subst AllGather (sym none) refl;
      group = gathers_none k (close h) refl refl;
      located = located_clean k disks (close h) none refl c;
    }

-- the bytes and the lines of the group, at the end of its last block
pub record AtEnd (tells : Bool) (w : World) (bytes text : List ℕ) : Type 0 where
  pub some : (h : History) → Holds tells w h → 1 ≤ length h.waiting
  pub most : (h : History) → Holds tells w h → length h.waiting ≤ BLOCK_LIMIT
  pub group_is : (h : History) (p : Holds tells w h) → IsGroupOf (group_of p.keeps.group ++ last_bytes h ∷ []) bytes
  pub behind : (h : History) → Holds tells w h → w.kept.gate + 1 + length bytes ≡ w.kept.next + 1 + length (last_bytes h)
  pub text_is : (h : History) → Holds tells w h → text ≡ w.kept.lines ++ due_lines (close h) (drop w.kept.spelled w.kept.dues)

-- the ledger in front of what is given up: the group stands behind its file
abbrev pub mid_ledger : World → books.Kept → List ℕ → Pair → Ledger
mid_ledger w book bytes mid = held_ledger (record w.kept { book = book; gate = w.kept.gate + 1 + length bytes }) mid

-- .. and nothing else than that has happened
pub record IsAtEnd (tells : Bool) (w : World) (book : books.Kept) (bytes : List ℕ) (mid : Pair) : Type 0 where
  pub serves : (h : History) → Serves w.kept.book h → Serves book (close h)
  pub same : IsSame w.kept.book book
  pub committed : IsCommitted tells w.kept.in_a w.kept.gate bytes w.disks mid
  pub named : IsTrue tells → w.kept.edition ≡ edition_of (open_bytes w.kept.in_a mid).seen

module _ (tells : Bool) (w : World) (bytes text : List ℕ) (e : AtEnd tells w bytes text) where
  -- from what is stored to the history with its open block ended
  from_stored : (h : History) (p : Holds tells w h) → Begins p.keeps.group.stored (close h).closed
  from_stored h p = stored_of w.kept h (close h) p.keeps.group (grows_close h)

  -- the block is a new one, and nothing that is due was written
  pub unanswered : (h : History) (p : Holds tells w h) → IsUnanswered (history p.keeps.group.stored []) (sealed_part (close h)) []
  unanswered h p = record {
    added = omega (arith, ap (λ (bs : List (List Entry)). length bs) (closed_is h (e.some h p)), length-append h.closed (h.waiting ∷ []), ap (λ (bs : List (List Entry)). length bs) p.keeps.group.are, length-append p.keeps.group.stored p.keeps.group.blocks);
    unanswered = tt;
  }

  -- the commit failed
  pub end_uncommitted : (k : CommitterState) (disks : Pair) → IsUncommitted tells w.kept.in_a w.kept.gate bytes w.disks disks → EndsOnTheWay tells w close (λ h. []) DiskFault (world k disks w.sink)
  end_uncommitted k disks c = record {
    grows = λ h p. grows_close h;
    part = [];
    appended = Appends-nil w.sink.held;
    stops = λ h p.
        let s = history p.keeps.group.stored [] in
        subst (λ (k : History). LeftAtTheEnd k (close h) (w.kept.dues ++ []) DiskFault [] disks) (sym (stored_split w.kept h p.keeps.group))
        (record {
          done = [];
          rest = w.kept.dues ++ [];
          split = refl;
          said = λ f y none. refl;
          images = λ i j left_a left_b.
              elim (commit_left tells w h p (e.some h p) (e.most h p) bytes (e.group_is h p) disks i j c left_a left_b) [
                | inl x ↦ record { kept = s; stands = x.0; no_shorter = begins_not s.closed; no_longer = from_stored h p; receipts = tt; clean = inl x.1 }
                | inr x ↦ record { kept = sealed_part (close h); stands = x; no_shorter = from_stored h p; no_longer = begins_not (close h).closed; receipts = tt; clean = inr (unanswered h p) }
              ];
        });
    cause = (c.failed, (refl, refl));
  }

  module _ (book : books.Kept) (mid : Pair) (at : IsAtEnd tells w book bytes mid) where
    -- the file with the group stands for the history with its open block ended
    stands_then : (h : History) → Holds tells w h → IsStanding (mid_ledger w book bytes mid) (sealed_part (close h))
    stands_then h p =
        standing tells w h p (e.some h p) (e.most h p) book (at.serves h p.keeps.serves) at.same bytes (e.group_is h p) mid at.committed (w.kept.gate + 1 + length bytes) refl (e.behind h p) (at.named p.told)

    module _ (now : books.Kept) (places : List PlaceAt) (gate : ℕ) (in_a : Bool) (edition : Edition) (disks : Pair) (f : IsFinished tells (mid_ledger w book bytes mid) (ledger_of now places disks gate in_a edition) mid disks) where
      abbrev after : Ledger
      after = ledger_of now places disks gate in_a edition

      clean_then : (h : History) → Holds tells w h → IsCleanOpen after (sealed_part (close h))
      clean_then h p = f.clean p.told (sealed_part (close h)) (stands_then h p)

      -- all went well
      pub end_goes : (copy : Option BlockFile) (sink : SinkState) → Appends w.sink.held sink.held text → MeetsNone w.sink sink → Goes tells w close (λ h. []) (world (first_kept now places gate in_a edition copy) disks sink)
      unfolding keeps_closed
      end_goes copy sink appended none =
          let k = first_kept now places gate in_a edition copy in record {
            holds = λ h p. record {
              told = p.told;
              keeps = keeps_closed now places gate in_a edition copy disks h (f.limits ∙ at.same.limits ∙ p.keeps.limits) (clean_then h p);
              disks = clean_for after (sealed_part (close h)) (clean_then h p);
            };
            grows = λ h p. grows_close h;
            stays = λ h p.
                subst (λ (g : History). Begins (stored_part w.kept h).closed g.closed) (sym (stored_all k (close h) refl))
                (begins_then (stored_part w.kept h).closed h.closed (close h).closed (stored_begins w.kept h) (begins_closed h (close h) (grows_close h)));
            sofar = text;
            appended = appended;
            writes = λ h p. writes_ended w.kept k h text p.keeps.dues refl (e.text_is h p);
            no_fault = record { a = f.faults_a ∙ at.committed.faults_a; b = f.faults_b ∙ at.committed.faults_b; sink = none };
          }

      -- the sink failed
      pub end_unwritten : (t : CommitterState) (sink : SinkState) (taken : ℕ) → taken < length text → Appends w.sink.held sink.held (take taken text) → MeetsOne w.sink sink → EndsOnTheWay tells w close (λ h. []) WriteFault (world t disks sink)
      end_unwritten t sink taken few appended one = record {
        grows = λ h p. grows_close h;
        part = take taken text;
        appended = appended;
        stops = λ h p.
            let c = clean_then h p in
            let x = clean_for after (sealed_part (close h)) c in
            subst (λ (g : History). LeftAtTheEnd g (close h) (w.kept.dues ++ []) WriteFault (take taken text) disks) (sym (stored_split w.kept h p.keeps.group))
            (record {
              done = w.kept.dues;
              rest = [];
              split = refl;
              said = λ f y none. says_first text (due_lines f w.kept.dues) taken (e.text_is h p ∙ lines_later w.kept h f p.keeps.dues y none) few;
              images = λ i j left_a left_b. record {
                kept = sealed_part (close h);
                stands = clean_image in_a gate (sealed_part (close h)) disks.a.bytes disks.b.bytes i j x left_a left_b;
                no_shorter = from_stored h p;
                no_longer = begins_not (close h).closed;
                receipts = told_ended w.kept h p.keeps.dues;
                clean = clean_pair in_a gate (sealed_part (close h)) disks.a.bytes disks.b.bytes i j (tails_clean after (sealed_part (close h)) c) x left_a left_b;
              };
            });
        cause = (f.faults_a ∙ at.committed.faults_a, f.faults_b ∙ at.committed.faults_b, one);
      }

    -- the block is on the disk, and what its journal hides or purges couldn't be given up
    pub end_unfinished : (k : CommitterState) (disks : Pair) → IsUnfinished tells (mid_ledger w book bytes mid) mid disks → EndsOnTheWay tells w close (λ h. []) DiskFault (world k disks w.sink)
    end_unfinished k disks u = record {
      grows = λ h p. grows_close h;
      part = [];
      appended = Appends-nil w.sink.held;
      stops = λ h p.
          subst (λ (g : History). LeftAtTheEnd g (close h) (w.kept.dues ++ []) DiskFault [] disks) (sym (stored_split w.kept h p.keeps.group))
          (record {
            done = [];
            rest = w.kept.dues ++ [];
            split = refl;
            said = λ f y none. refl;
            images = λ i j left_a left_b. record {
              kept = sealed_part (close h);
              stands = u.meanwhile p.told (sealed_part (close h)) (stands_then h p) i j left_a left_b;
              no_shorter = from_stored h p;
              no_longer = begins_not (close h).closed;
              receipts = tt;
              clean = inr (unanswered h p);
            };
          });
      cause = (failed_from w.disks mid disks at.committed.faults_a at.committed.faults_b u.failed, (refl, refl));
    }

-- what is gathered, where nothing that counts has changed
abbrev pub group_same : {old new : CommitterState} {h g : History} → g.closed ≡ h.closed → new.ended ≡ old.ended → new.before ≡ old.before → IsGathering old h → IsGathering new g
group_same closed ended before x = record { stored = x.stored; blocks = x.blocks; are = closed ∙ x.are; count = x.count ∙ sym ended; follow = x.follow; alike = x.alike; bytes = before ∙ x.bytes }

-- .. and the places
pub located_same : (old new : CommitterState) (h : History) (stored blocks : List (List Entry)) → new.book.floor ≡ old.book.floor → new.places ≡ old.places → new.gate ≡ old.gate → new.next ≡ old.next → Located old h stored blocks → Located new h stored blocks
located_same old new h stored blocks floor places place next l = record {
  parts = record { gone = l.parts.gone; kept = l.parts.kept; are = l.parts.are; at = l.parts.at ∙ sym floor };
  places = places ∙ l.places ∙ ap (λ (n : ℕ). places_from (floor_behind (history stored []) l.parts.gone) (l.parts.kept ++ blocks) ++ places_in (body_from n) h.waiting) (sym next);
  tail = place ∙ l.tail;
  next = next ∙ l.next;
}

-- ---- what the code gathered is the block at its end

pub block_spelled : (h : History) (count : ℕ) (root_is body : List ℕ) → count ≡ length h.waiting → root_is ≡ root (close h) (sealed_size (close h)) → body ≡ body_of h.waiting → spell.block_head count (length body) root_is ++ body ≡ last_bytes h
unfolding block_bytes
block_spelled h count root_is body c r b =
    ap (λ l. spell.block_head count (length l) root_is ++ l) b ∙ ap (λ n. spell.block_head n (length (body_of h.waiting)) root_is ++ body_of h.waiting) c
    ∙ ap (λ l. spell.block_head (length h.waiting) (length (body_of h.waiting)) l ++ body_of h.waiting) (r ∙ root_closed h)
    ∙ append_assoc (to_be_bytes w32 (length h.waiting)) (to_be_bytes w64 (length (body_of h.waiting)) ++ mth sha256 (leaves h)) (body_of h.waiting)
    ∙ ap (λ l. to_be_bytes w32 (length h.waiting) ++ l) (append_assoc (to_be_bytes w64 (length (body_of h.waiting))) (mth sha256 (leaves h)) (body_of h.waiting))

-- the bytes of the group that is committed
pub group_bytes : (before was block next bytes : List ℕ) → bytes ≡ take (length next - 1) next → next ≡ was ++ block ++ 1 ∷ [] → was ≡ before → bytes ≡ before ++ block
group_bytes before was block next bytes is next_is same =
    let all : next ≡ (before ++ block) ++ 1 ∷ [] = next_is ∙ ap (λ (l : List ℕ). l ++ block ++ 1 ∷ []) same in
    is ∙ ap (λ (l : List ℕ). take (length l - 1) l) all ∙ ap (λ (n : ℕ). take n ((before ++ block) ++ 1 ∷ [])) (omega (arith, length-append (before ++ block) (1 ∷ [])))
    ∙ take-append-le (length (before ++ block)) (before ++ block) (1 ∷ []) (omega arith) ∙ take_all (length (before ++ block)) (before ++ block) (omega arith)

-- .. and the group with the block that ended is the one that is committed
pub at_end : (tells : Bool) (w : World) (count : ℕ) (was block next bytes text : List ℕ) (due : List Due) → w.kept.next ≡ w.kept.gate + length w.kept.before → ((h : History) → Serves w.kept.book h → count ≡ length h.waiting)
    → bytes ≡ take (length next - 1) next → next ≡ was ++ block ++ 1 ∷ [] → was ≡ w.kept.before → ((ended : List (List ℕ)) → was ≡ ended_blocks ended → next ≡ ended_blocks (ended ++ block ∷ []))
    → ((ended : List (List ℕ)) → next ≡ ended_blocks ended → 1 ≤ length ended → IsGroupOf ended bytes)
    → ((h : History) → Serves w.kept.book h → w.kept.body ≡ body_of h.waiting → block ≡ last_bytes h)
    → ((h : History) → Serves w.kept.book h → w.kept.book.floor ≡ point (sealed_part h) → 1 ≤ length h.waiting → AllWaiting h due → text ≡ w.kept.lines ++ due_lines (close h) due) → due ≡ drop w.kept.spelled w.kept.dues
    → 1 ≤ count → count ≤ BLOCK_LIMIT → AtEnd tells w bytes text
at_end tells w count was block next bytes text due follows counts bytes_are next_is same ended_is group_is block_is text_is due_is some few = record {
  some = λ h p. subst (λ n. 1 ≤ n) (counts h p.keeps.serves) some;
  most = λ h p. subst (λ n. n ≤ BLOCK_LIMIT) (counts h p.keeps.serves) few;
  group_is = λ h p.
      let g = group_of p.keeps.group in
      subst (λ (l : List ℕ). IsGroupOf (g ++ l ∷ []) bytes) (block_is h p.keeps.serves p.keeps.body) (group_is (g ++ block ∷ []) (ended_is g (same ∙ p.keeps.group.bytes)) (omega (arith, length-append g (block ∷ []))));
  behind = λ h p. omega (arith, follows, ap length (group_bytes w.kept.before was block next bytes bytes_are next_is same), length-append w.kept.before block, ap length (block_is h p.keeps.serves p.keeps.body));
  text_is = λ h p.
      text_is h p.keeps.serves p.keeps.floor (subst (λ n. 1 ≤ n) (counts h p.keeps.serves) some) (subst (AllWaiting h) (sym due_is) p.keeps.dues.waits) ∙ ap (λ (l : List Due). w.kept.lines ++ due_lines (close h) l) due_is;
}

-- the book once the open block has ended
pub serves_closed : (old new : books.Kept) (h : History) → Serves old h → Stands new (close h) → IsSame old new → Serves new (close h)
serves_closed old new h s stands same = record { stands = stands; reached = same.reached ∙ s.reached; seen = omega (arith, s.seen, same.floor, same.point) }

-- how many journals wait
pub count_of : (k : books.Kept) (h : History) (count : ℕ) → Serves k h → count ≡ length h.waiting → k.size ≡ k.sealed + count
count_of k h count s is = omega (arith, is, s.stands.counts.size, s.stands.counts.sealed_is, length-append (journals_of h.closed) h.waiting)

pub count_few : (k : books.Kept) (count : ℕ) → k.size ≡ k.sealed + count → k.size ≤ k.sealed + BLOCK_LIMIT → count ≤ BLOCK_LIMIT
count_few k count is few = omega (arith, is, few)

pub none_waits : (k : books.Kept) (h : History) → k.size ≡ k.sealed → Serves k h → h.waiting ≡ []
none_waits k h same s = nil_from_length h.waiting (omega (arith, same, s.stands.counts.size, s.stands.counts.sealed_is, length-append (journals_of h.closed) h.waiting))

-- a commit leaves the open file's edition
pub edition_stays : (tells : Bool) (in_a : Bool) (place : ℕ) (block : List ℕ) (before after : Pair) → IsCommitted tells in_a place block before after → IsTrue tells
    → edition_of (open_of in_a after.a after.b).bytes.seen ≡ edition_of (open_of in_a before.a before.b).bytes.seen
edition_stays tells in_a place block before after c told = by in_a (c.head told) where
  by : (v : Bool) → take 64 (open_bytes v after).seen ≡ take 64 (open_bytes v before).seen → edition_of (open_of v after.a after.b).bytes.seen ≡ edition_of (open_of v before.a before.b).bytes.seen
  by true is = same_edition after.a.bytes.seen before.a.bytes.seen is
  by false is = same_edition after.b.bytes.seen before.b.bytes.seen is

-- where the contents of the open block end, once it has ended
pub order_ended : (k : CommitterState) (bytes head body : List ℕ) → bytes ≡ k.before ++ (head ++ body) → length head ≡ BLOCK_HEAD_LEN → body ≡ k.body → k.next ≡ k.gate + length k.before → AreInOrder 64 (body_from k.next + length k.body) k.places → AreInOrder 64 (k.gate + 1 + length bytes) k.places
order_ended k bytes head body is size same follows all =
    subst (λ (n : ℕ). AreInOrder 64 n k.places) (omega (arith, ap length is, size, ap length same, follows, length-append head body, length-append k.before (head ++ body))) all

shut_at : (in_a : Bool) (place : ℕ) (disks : Pair) → IsShutAt place (open_of in_a disks.a.bytes disks.b.bytes).seen → IsShutAt place (open_of in_a disks.a disks.b).bytes.seen
shut_at true place disks s = s
shut_at false place disks s = s

pub shut_bytes : (in_a : Bool) (place : ℕ) (disks : Pair) → IsShutAt place (open_of in_a disks.a disks.b).bytes.seen → IsShutAt place (open_bytes in_a disks).seen
shut_bytes true place disks s = s
shut_bytes false place disks s = s

pub named_at : (in_a : Bool) (edition : Edition) (disks : Pair) → edition ≡ edition_of (open_of in_a disks.a disks.b).bytes.seen → edition ≡ edition_of (open_bytes in_a disks).seen
named_at true edition disks is = is
named_at false edition disks is = is

edition_at : (in_a : Bool) (edition : Edition) (disks : Pair) → edition ≡ edition_of (open_bytes in_a disks).seen → edition ≡ edition_of (open_of in_a disks.a disks.b).bytes.seen
edition_at true edition disks is = is
edition_at false edition disks is = is

-- what the next call asks for, whatever stands in the files
pub fits_finished : (tells : Bool) (book : books.Kept) (places : List PlaceAt) (gate : ℕ) (in_a : Bool) (edition : Edition) (copy : Option BlockFile) (old : Ledger) (mid disks : Pair) (sink : SinkState) → (IsTrue tells → IsAtGate old) → AreInOrder 64 old.known.gate old.known.places → old.known.book.size ≡ old.known.book.sealed → copy ≡ None
    → IsFinished tells old (ledger_of book places disks gate in_a edition) mid disks → Fits tells (world (first_kept book places gate in_a edition copy) disks sink)
fits_finished tells book places gate in_a edition copy old mid disks sink shut order none begun f = record {
  reads = record { told = f.told; shut = λ told. shut_at in_a gate disks (f.gate told (shut told)).shut };
  edition = λ told. edition_at in_a edition disks (f.gate told (shut told)).edition;
  copy = begun;
  few = omega (arith, none, f.size, f.sealed);
  order = order_wider 64 gate (body_from gate + 0) places (f.order order) (omega arith);
  next = omega arith;
  some = λ more. absurd (more refl);
  room = omega arith;
  spelled = omega arith;
  owed = λ some. absurd (omega (arith, some, none, f.size, f.sealed));
  clear = λ _. refl;
}

-- the same for an open ledger that is known by equations
pub finished_as : (tells : Bool) (l0 l1 new : Ledger) (before after : Pair) → l0 ≡ l1 → IsFinished tells l0 new before after → IsFinished tells l1 new before after
finished_as tells l0 l1 new before after is f = subst (λ (l : Ledger). IsFinished tells l new before after) is f

pub unfinished_as : (tells : Bool) (l0 l1 : Ledger) (before after : Pair) → l0 ≡ l1 → IsUnfinished tells l0 before after → IsUnfinished tells l1 before after
unfinished_as tells l0 l1 before after is u = subst (λ (l : Ledger). IsUnfinished tells l before after) is u

pub ledger_is : (book : books.Kept) (places : List PlaceAt) (disks : Pair) (place0 place1 : ℕ) (in_a0 in_a1 : Bool) (edition0 edition1 : Edition) → place0 ≡ place1 → in_a0 ≡ in_a1 → edition0 ≡ edition1
    → ledger_of book places disks place0 in_a0 edition0 ≡ ledger_of book places disks place1 in_a1 edition1
ledger_is book places disks place0 place1 in_a0 in_a1 edition0 edition1 place in_a edition =
    ap (λ (n : ℕ). ledger_of book places disks n in_a0 edition0) place ∙ ap (λ (v : Bool). ledger_of book places disks place1 v edition0) in_a ∙ ap (ledger_of book places disks place1 in_a1) edition

-- how far a fault of the sink let the lines be written
pub first_of_text : (old new : SinkState) (text : List ℕ) (e : WriteErr) → WritesFirst old.held new.held text e → (taken : ℕ) × (taken < length text) × Appends old.held new.held (take taken text)
first_of_text old new text (failed.WriteFault taken) x = (taken, x.0, x.1)

-- ---- the same for a value that is known by an equation

module _ (tells : Bool) (k0 k1 : CommitterState) (is : k0 ≡ k1) (disks : Pair) (sink : SinkState) where
  pub fits_at : Fits tells (world k1 disks sink) → Fits tells (world k0 disks sink)
  fits_at f = subst (λ k. Fits tells (world k disks sink)) (sym is) f

  pub goes_at : (t : World) (f : History → History) (d : History → List Due) → Goes tells (world k0 disks sink) f d t → Goes tells (world k1 disks sink) f d t
  goes_at t f d x = subst (λ k. Goes tells (world k disks sink) f d t) is x

  pub ended_at : (t : World) (f : History → History) (d : History → List Due) (end : CommitErr) → EndsOnTheWay tells (world k0 disks sink) f d end t → EndsOnTheWay tells (world k1 disks sink) f d end t
  ended_at t f d end x = subst (λ k. EndsOnTheWay tells (world k disks sink) f d end t) is x

-- .. that a call leads to
module _ (tells : Bool) (w : World) (k0 k1 : CommitterState) (is : k0 ≡ k1) (disks : Pair) (sink : SinkState) where
  pub goes_to : (f : History → History) (d : History → List Due) → Goes tells w f d (world k1 disks sink) → Goes tells w f d (world k0 disks sink)
  goes_to f d x = subst (λ k. Goes tells w f d (world k disks sink)) (sym is) x
