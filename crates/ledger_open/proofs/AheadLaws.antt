-- Blocks that were read ahead, and what is known once they are taken.
use Rattle.std.specs.Prelude.{Bool, All, IsTrue, IfSome, Ok, Option, Some}
use Rattle.std.proofs.Common.{◌≡◌, ◌≢◌, ℕ, zero, suc, ◌+◌, ◌^◌, ◌<◌, ◌≤◌, List, [], ◌∷◌, ◌++◌, length, get_or, take, drop, map, refl, sym, ◌∙◌, ap, subst, arith, append-nil}
use Rattle.std.proofs.lemmas.List.{map-append, length-map, drop_all, take_all}
use Rattle.block_file.specs.Blocks.{AreBlock, IsRead, IsNextBlock, IsBlockErr}
use Rattle.block_file.specs.declared.block.BlockAt.{BlockAt}
use Rattle.block_file.specs.declared.block.RecordAt.{RecordAt}
use Rattle.block_file.specs.declared.failure.Damage.{Damage}
use Rattle.block_file.specs.declared.failure.FileErr.{FileErr}
use Rattle.block_file.specs.declared.failure.FileErr.TheVariants as files
use Rattle.journal_record.specs.Entry.{Entry}
use Rattle.ledger_model.specs.Behind.{next_number}
use Rattle.ledger_book.specs.Books.{Kept}
use Rattle.ledger_disk.specs.Disk.{State}
use Rattle.ledger_model.specs.History.{journals_of}
use Rattle.pseudo_genesis.specs.declared.base.Base.{Base}
use Rattle.ledger_open.specs.Ahead.{BlockWasRead, IsStop, WereRead, place_behind, number_behind, journals_in, blocks_in, AreLeaves, AreNextBlocks, IsAhead, IsStopOf}
use Rattle.ledger_open.specs.Damages.{IsDamage, IsReadTo}
use Rattle.ledger_open.specs.Opening.{Known, known_from, HasRead}
use Rattle.block_file.specs.Places.{place_of_record}
use Rattle.ledger_open.specs.Replaying.{Headed, Goes, TakesBlock, IsBadBlock}
use Rattle.ledger_open.specs.declared.ahead.Ahead.{Ahead}
use Rattle.ledger_open.specs.declared.ahead.Hashed.{Hashed}
use Rattle.ledger_open.specs.declared.ahead.Stop.{Stop}
use Rattle.ledger_open.specs.declared.ahead.Stop.TheVariants as stops
use Rattle.block_file.specs.declared.place.PlaceAt.{PlaceAt}
use Rattle.ledger_open.proofs.FirstLaws.{headed_read, err_read}
use Rattle.ledger_open.proofs.MoreLaws.{few, first_is, MoreHere, more_here, more_bad, more_read, more_count, read_of}
use Rattle.ledger_open.proofs.TakeLaws.{headed_size}

-- ---- blocks in a list

pub same_blocks : (xs ys : List Hashed) → length ys ≡ length xs → ((i : ℕ) (d : Hashed) → i < length xs → (get_or ys i d).block ≡ (get_or xs i d).block) → blocks_in ys ≡ blocks_in xs
same_blocks [] [] size each = refl
same_blocks [] (y ∷ ys) size each = absurd (omega (arith, size))
same_blocks (x ∷ xs) [] size each = absurd (omega (arith, size))
same_blocks (x ∷ xs) (y ∷ ys) size each =
    ap (λ (b : BlockAt). b ∷ blocks_in ys) (each 0 x (omega arith))
    ∙ ap (λ (l : List BlockAt). x.block ∷ l) (same_blocks xs ys (omega (arith, size)) (λ i d lt. each (suc i) d (omega (arith, lt))))

-- a vector that was written over through a slice of all of it
pub written_over : (old new : List Hashed) (n : ℕ) → n ≡ length old → blocks_in new ≡ blocks_in old → take n (new ++ drop (length new) old) ≡ new
written_over old new n all same =
    let size : length new ≡ length old = sym (length-map new (λ (h : Hashed). h.block)) ∙ ap length same ∙ length-map old (λ (h : Hashed). h.block) in
    ap (λ (l : List Hashed). take n (new ++ l)) (drop_all (length new) old (omega (arith, size))) ∙ ap (take n) (append-nil new) ∙ take_all n new (omega (arith, all, size))

pub blocks_push : (hs : List Hashed) (h : Hashed) → blocks_in (hs ++ h ∷ []) ≡ blocks_in hs ++ h.block ∷ []
blocks_push hs h = map-append (λ (h : Hashed). h.block) hs (h ∷ [])

listed : (hs items : List Hashed) (h : Hashed) (block : BlockAt) → items ≡ hs ++ h ∷ [] → h.block ≡ block → blocks_in items ≡ blocks_in hs ++ block ∷ []
listed hs items h block is same = ap blocks_in is ∙ blocks_push hs h ∙ ap (λ (b : BlockAt). blocks_in hs ++ b ∷ []) same

-- ---- one more is read

pub place_push : (at : ℕ) (bs : List BlockAt) (b : BlockAt) → place_behind at (bs ++ b ∷ []) ≡ place_behind at bs + 1 + b.len
place_push at [] b = refl
place_push at (c ∷ bs) b = place_push (at + 1 + c.len) bs b

pub place_more : (at : ℕ) (bs : List BlockAt) → at + length bs ≤ place_behind at bs
place_more at [] = omega arith
place_more at (b ∷ bs) = omega (arith, place_more (at + 1 + b.len) bs)

pub number_is : (first : ℕ) (bs : List BlockAt) → number_behind first bs ≡ first + journals_in bs
number_is first [] = omega arith
number_is first (b ∷ bs) =
    let more : number_behind first (b ∷ bs) ≡ number_behind (first + length b.records) bs = refl in
    let sum : journals_in (b ∷ bs) ≡ length b.records + journals_in bs = refl in
    omega (arith, number_is (first + length b.records) bs, sum, more)

pub read_push : (tells : Bool) (file : List ℕ) (at first : ℕ) (bs : List BlockAt) (b : BlockAt) → WereRead tells file at first bs → BlockWasRead tells file (place_behind at bs) (number_behind first bs) b
    → WereRead tells file at first (bs ++ b ∷ [])
read_push tells file at first [] b all one = (one, tt)
read_push tells file at first (c ∷ bs) b all one = (all.0, read_push tells file (at + 1 + c.len) (first + length c.records) bs b all.1 one)

pub read_both : (tells : Bool) (file : List ℕ) (at first : ℕ) (bs cs : List BlockAt) → WereRead tells file at first bs → WereRead tells file (place_behind at bs) (number_behind first bs) cs → WereRead tells file at first (bs ++ cs)
read_both tells file at first [] cs all more = more
read_both tells file at first (b ∷ bs) cs all more = (all.0, read_both tells file (at + 1 + b.len) (first + length b.records) bs cs all.1 more)

pub place_both : (at : ℕ) (bs cs : List BlockAt) → place_behind at (bs ++ cs) ≡ place_behind (place_behind at bs) cs
place_both at [] cs = refl
place_both at (b ∷ bs) cs = place_both (at + 1 + b.len) bs cs

pub number_both : (first : ℕ) (bs cs : List BlockAt) → number_behind first (bs ++ cs) ≡ number_behind (number_behind first bs) cs
number_both first [] cs = refl
number_both first (b ∷ bs) cs = number_both (first + length b.records) bs cs

-- the block that was found, where it stands
pub was_read : (tells : Bool) (old now : State) (at first : ℕ) (found : Option BlockAt) (block : BlockAt) → (IsTrue tells → now ≡ old) → found ≡ Some block → IfSome found (λ b. (es : List Entry) × AreBlock first es × IsRead at es b)
    → (IsTrue tells → IsNextBlock at now.seen first (Ok found)) → BlockWasRead tells old.seen at first block
was_read tells old now at first found block same is r answer = record {
  read = read_of found block at first is r;
  stands = λ told. subst (λ (s : State). IsNextBlock at s.seen first (Ok (Some block))) (same told) (subst (λ (o : Option BlockAt). IsNextBlock at now.seen first (Ok o)) is (answer told));
}

pub read_again : (tells : Bool) (file : List ℕ) (at first now next : ℕ) (hs items : List Hashed) (h : Hashed) (block : BlockAt) → WereRead tells file at first (blocks_in hs)
    → now ≡ place_behind at (blocks_in hs) → next ≡ first + journals_in (blocks_in hs) → items ≡ hs ++ h ∷ [] → h.block ≡ block → BlockWasRead tells file now next block → WereRead tells file at first (blocks_in items)
read_again tells file at first now next hs items h block all place number is same one =
    subst (WereRead tells file at first) (sym (listed hs items h block is same))
    (read_push tells file at first (blocks_in hs) block all
    (subst (λ (n : ℕ). BlockWasRead tells file n (number_behind first (blocks_in hs)) block) place (subst (λ (n : ℕ). BlockWasRead tells file now n block) (number ∙ sym (number_is first (blocks_in hs))) one)))

pub place_again : (at now new : ℕ) (hs items : List Hashed) (h : Hashed) (block : BlockAt) → now ≡ place_behind at (blocks_in hs) → items ≡ hs ++ h ∷ [] → h.block ≡ block → new ≡ now + 1 + block.len → new ≡ place_behind at (blocks_in items)
place_again at now new hs items h block place is same far =
    far ∙ ap (λ (n : ℕ). n + 1 + block.len) place ∙ sym (place_push at (blocks_in hs) block) ∙ ap (place_behind at) (sym (listed hs items h block is same))

pub count_again : (count : ℕ) (hs items : List Hashed) (h : Hashed) (block : BlockAt) (records : List RecordAt) → count ≡ journals_in (blocks_in hs) → items ≡ hs ++ h ∷ [] → h.block ≡ block → records ≡ block.records
    → count + length records ≡ journals_in (blocks_in items)
count_again count hs items h block records counted is same those =
    ap (λ (n : ℕ). n + length records) counted ∙ ap (λ (l : List RecordAt). journals_in (blocks_in hs) + length l) those ∙ sym (count_of_push (blocks_in hs) block) ∙ ap journals_in (sym (listed hs items h block is same)) where
      count_of_push : (bs : List BlockAt) (b : BlockAt) → journals_in (bs ++ b ∷ []) ≡ journals_in bs + length b.records
      count_of_push [] b = omega arith
      count_of_push (c ∷ bs) b =
          let one : journals_in (c ∷ bs) ≡ length c.records + journals_in bs = refl in
          let both : journals_in (c ∷ (bs ++ b ∷ [])) ≡ length c.records + journals_in (bs ++ b ∷ []) = refl in
          omega (arith, count_of_push bs b, one, both)

-- a block has few journals
pub few_records : (at first : ℕ) (block : BlockAt) → (es : List Entry) × AreBlock first es × IsRead at es block → length block.records ≤ 64
few_records at first block r = omega (arith, r.1.most, headed_size r.0 block.records (headed_read at r.0 block r.2))

-- the place only grows
pub place_grows : (at new : ℕ) (hs : List Hashed) → new ≡ place_behind at (blocks_in hs) → at + length hs ≤ new
place_grows at new hs is = omega (arith, is, place_more at (blocks_in hs), length-map hs (λ (h : Hashed). h.block))

-- the next block is damaged
pub stop_damaged : (tells : Bool) (old now : State) (place first next : ℕ) (e : FileErr) (stop : Stop) (hs : List Hashed) → next ≡ first + journals_in (blocks_in hs) → (IsTrue tells → now ≡ old)
    → IsStopOf e (Ok stop) → (IsTrue tells → IsBlockErr place now.seen next e) → IsStop tells old.seen place (number_behind first (blocks_in hs)) stop
stop_damaged tells old now place first next e stop hs number same (damage, e_is, stop_is) answer =
    subst (IsStop tells old.seen place (number_behind first (blocks_in hs))) (sym stop_is)
    (λ told. subst (λ (n : ℕ). IsBlockErr place old.seen n (files.Damaged damage)) (number ∙ sym (number_is first (blocks_in hs)))
    (subst (λ (s : State). IsBlockErr place s.seen next (files.Damaged damage)) (same told) (subst (IsBlockErr place now.seen next) e_is (answer told))))

-- ---- one is taken

pub more_ahead : (k : Known) (block : BlockAt) (book : Kept) (places : List PlaceAt) (place : ℕ) → places ≡ k.places ++ map place_of_record block.records → place ≡ k.gate + 1 + block.len
    → ((start : Option Base) (ks : List (List Entry)) (es : List Entry) → Headed es block.records → Goes k.book start ks [] → TakesBlock book start ks es block.root.0)
    → (tells : Bool) (file : List ℕ) (rest : List BlockAt) (stop : Stop) → IsAhead tells file k (block ∷ rest) stop → IsAhead tells file (known_from book places place) rest stop
more_ahead k block book places place listed tail takes tells file rest stop a =
    let first = next_number a.read.start (journals_of a.read.blocks) in
    let here : IsTrue tells → MoreHere file k.gate first block = λ told. more_here file k.gate first (Some block) block refl (a.ahead.0.stands told) in
    let count = sym (more_count k block book places place first listed tail takes tells file a.read a.ahead.0.read here) in
    record {
      read = more_read k block book places place first listed tail takes tells file a.read a.ahead.0.read here;
      ahead = subst (λ (n : ℕ). WereRead tells file place n rest) count (subst (λ (n : ℕ). WereRead tells file n (first + length block.records) rest) (sym tail) a.ahead.1);
      ends = subst (λ (n : ℕ). IsStop tells file (place_behind place rest) (number_behind n rest) stop) count
          (subst (λ (n : ℕ). IsStop tells file (place_behind n rest) (number_behind (first + length block.records) rest) stop) (sym tail) a.ends);
    }

pub bad_ahead : (tells : Bool) (file : List ℕ) (k : Known) (size : ℕ) (block : BlockAt) (damage : Damage) (rest : List BlockAt) (stop : Stop) → size ≡ k.book.size
    → ((start : Option Base) (ks : List (List Entry)) (es : List Entry) → Headed es block.records → size ≡ next_number start (journals_of ks) → Goes k.book start ks [] → IsBadBlock start ks es block.root.0 damage)
    → IsAhead tells file k (block ∷ rest) stop → IsTrue tells → IsDamage file damage
bad_ahead tells file k size block damage rest stop is bad a told =
    more_bad tells file k size block damage a.read is told
    (more_here file k.gate size (Some block) block refl (subst (λ (n : ℕ). IsNextBlock k.gate file n (Ok (Some block))) (sym (first_is tells file k size a.read is)) (a.ahead.0.stands told))) bad

-- what came of the first of some blocks that were read ahead, where these are left
pub record Taken (old_book : Kept) (old_places : List PlaceAt) (book : Kept) (places : List PlaceAt) (all rest : List Hashed) : Type 0 where
  pub goes : (tells : Bool) (file : List ℕ) (at : ℕ) (more : List BlockAt) (stop : Stop) → IsAhead tells file (known_from old_book old_places at) (blocks_in all ++ more) stop
      → (now : ℕ) × (place_behind now (blocks_in rest) ≡ place_behind at (blocks_in all)) × IsAhead tells file (known_from book places now) (blocks_in rest ++ more) stop

pub taken_none : (book : Kept) (places : List PlaceAt) (all : List Hashed) → Taken book places book places all all
taken_none book places all = record { goes = λ tells file at more stop a. (at, refl, a) }

drop_here : (hs : List Hashed) (i : ℕ) (d : Hashed) → i < length hs → drop i hs ≡ get_or hs i d ∷ drop (i + 1) hs
drop_here [] i d lt = absurd (omega (arith, lt))
drop_here (h ∷ hs) zero d lt = refl
drop_here (h ∷ hs) (suc i) d lt = let n : suc (i + 1) ≡ suc i + 1 = omega arith in drop_here hs i d (omega (arith, lt)) ∙ ap (λ (k : ℕ). get_or hs i d ∷ drop k (h ∷ hs)) n

-- the block at an index is the next one
pub taken_here : (old_book : Kept) (old_places : List PlaceAt) (book : Kept) (places : List PlaceAt) (all : List Hashed) (i : ℕ) (h : Hashed) → i < length all → h ≡ get_or all i h → Taken old_book old_places book places all (drop i all)
    → Taken old_book old_places book places all (h ∷ drop (i + 1) all)
taken_here old_book old_places book places all i h lt is t =
    subst (λ (x : Hashed). Taken old_book old_places book places all (x ∷ drop (i + 1) all)) (sym is) (subst (Taken old_book old_places book places all) (drop_here all i h lt) t)

pub taken_more : (old_book : Kept) (old_places : List PlaceAt) (book : Kept) (places : List PlaceAt) (new_book : Kept) (new_places : List PlaceAt) (all rest : List Hashed) (h : Hashed) → Taken old_book old_places book places all (h ∷ rest)
    → ((tells : Bool) (file : List ℕ) (at : ℕ) (bs : List BlockAt) (stop : Stop) → IsAhead tells file (known_from book places at) (h.block ∷ bs) stop → IsAhead tells file (known_from new_book new_places (at + 1 + h.block.len)) bs stop)
    → Taken old_book old_places new_book new_places all rest
taken_more old_book old_places book places new_book new_places all rest h t step = record {
  goes = λ tells file at more stop a. let g = t.goes tells file at more stop a in (g.0 + 1 + h.block.len, g.1, step tells file g.0 (blocks_in rest ++ more) stop g.2);
}

pub taken_all : (old_book : Kept) (old_places : List PlaceAt) (book : Kept) (places : List PlaceAt) (all : List Hashed) (i : ℕ) → i ≡ length all → Taken old_book old_places book places all (drop i all)
    → (tells : Bool) (file : List ℕ) (at : ℕ) (more : List BlockAt) (stop : Stop) → IsAhead tells file (known_from old_book old_places at) (blocks_in all ++ more) stop → IsAhead tells file (known_from book places (place_behind at (blocks_in all))) more stop
taken_all old_book old_places book places all i end t tells file at more stop a =
    let none : drop i all ≡ [] = drop_all i all (omega (arith, end)) in
    let g = t.goes tells file at more stop a in
    subst (λ (n : ℕ). IsAhead tells file (known_from book places n) more stop) (ap (λ (l : List Hashed). place_behind g.0 (blocks_in l)) (sym none) ∙ g.1)
    (subst (λ (l : List Hashed). IsAhead tells file (known_from book places g.0) (blocks_in l ++ more) stop) none g.2)

-- ---- from what is known to what was read ahead, and back

pub ahead_of : (tells : Bool) (file : List ℕ) (k : Known) (size : ℕ) (bs : List BlockAt) (stop : Stop) → HasRead tells file k → size ≡ k.book.size → WereRead tells file k.gate size bs
    → IsStop tells file (place_behind k.gate bs) (number_behind size bs) stop → IsAhead tells file k bs stop
ahead_of tells file k size bs stop r is all end = record {
  read = r;
  ahead = subst (λ (n : ℕ). WereRead tells file k.gate n bs) (first_is tells file k size r is) all;
  ends = subst (λ (n : ℕ). IsStop tells file (place_behind k.gate bs) (number_behind n bs) stop) (first_is tells file k size r is) end;
}

-- the number behind those that were read ahead
pub number_ahead : (tells : Bool) (file : List ℕ) (k : Known) (size : ℕ) (count : ℕ) (bs : List BlockAt) (stop : Stop) → size ≡ k.book.size → count ≡ journals_in bs → (a : IsAhead tells file k bs stop)
    → size + count ≡ number_behind (next_number a.read.start (journals_of a.read.blocks)) bs
number_ahead tells file k size count bs stop is counted a = ap (λ (n : ℕ). n + count) (first_is tells file k size a.read is) ∙ ap (λ (n : ℕ). next_number a.read.start (journals_of a.read.blocks) + n) counted ∙ sym (number_is (next_number a.read.start (journals_of a.read.blocks)) bs)

pub number_below : (tells : Bool) (file : List ℕ) (k : Known) (size : ℕ) (count : ℕ) (bs : List BlockAt) (stop : Stop) → size ≡ k.book.size → count ≡ journals_in bs → stop ≡ stops.Full → IsAhead tells file k bs stop
    → size + count < 2 ^ 32
number_below tells file k size count bs stop is counted full a =
    subst (λ (n : ℕ). n < 2 ^ 32) (sym (number_ahead tells file k size count bs stop is counted a)) (subst (IsStop tells file (place_behind k.gate bs) (number_behind (next_number a.read.start (journals_of a.read.blocks)) bs)) full a.ends)

-- the next ones behind those that are ahead
pub ahead_both : (tells : Bool) (file : List ℕ) (k : Known) (size : ℕ) (count place : ℕ) (bs cs : List BlockAt) (stop next : Stop) → size ≡ k.book.size → count ≡ journals_in bs → place ≡ place_behind k.gate bs → IsAhead tells file k bs stop
    → WereRead tells file place (size + count) cs → IsStop tells file (place_behind place cs) (number_behind (size + count) cs) next → IsAhead tells file k (bs ++ cs) next
ahead_both tells file k size count place bs cs stop next is counted at a more end =
    let n = next_number a.read.start (journals_of a.read.blocks) in
    let number = number_ahead tells file k size count bs stop is counted a in
    record {
      read = a.read;
      ahead = read_both tells file k.gate n bs cs a.ahead (subst (λ (m : ℕ). WereRead tells file (place_behind k.gate bs) m cs) number (subst (λ (p : ℕ). WereRead tells file p (size + count) cs) at more));
      ends = subst (λ (p : ℕ). IsStop tells file p (number_behind n (bs ++ cs)) next) (sym (place_both k.gate bs cs))
          (subst (λ (m : ℕ). IsStop tells file (place_behind (place_behind k.gate bs) cs) m next) (sym (number_both n bs cs))
          (subst (λ (m : ℕ). IsStop tells file (place_behind (place_behind k.gate bs) cs) (number_behind m cs) next) number (subst (λ (p : ℕ). IsStop tells file (place_behind p cs) (number_behind (size + count) cs) next) at end)));
    }

-- ---- the end

pub end_bad : (tells : Bool) (file : List ℕ) (k : Known) (damage : Damage) → IsAhead tells file k [] (stops.Damaged damage) → IsTrue tells → IsDamage file damage
end_bad tells file k damage a told = err_read file a.read.start a.read.blocks k.gate (files.Damaged damage) (a.read.begun told) (a.ends told)

pub end_shut : (tells : Bool) (file : List ℕ) (k : Known) → IsAhead tells file k [] stops.Shut → IsTrue tells → get_or file k.gate 0 ≢ 1
end_shut tells file k a told = a.ends told

-- no ledger has so many journals
pub end_too_long : (tells : Bool) (file : List ℕ) (k : Known) → IsAhead tells file k [] stops.TooLong → ⊥
end_too_long tells file k a = omega (arith, a.ends, few a.read.start a.read.blocks a.read.taken.goes.base a.read.taken.legal)

-- all were taken, and the file stands behind them
pub after_all : (tells : Bool) (file : List ℕ) (book : Kept) (places : List PlaceAt) (at place : ℕ) (bs cs : List BlockAt) (stop : Stop) → place ≡ place_behind at bs → cs ≡ bs
    → IsAhead tells file (known_from book places (place_behind at cs)) [] stop → IsAhead tells file (known_from book places place) [] stop
after_all tells file book places at place bs cs stop is same a =
    subst (λ (n : ℕ). IsAhead tells file (known_from book places n) [] stop) (ap (place_behind at) same ∙ sym is) a

-- the last of them, as a slice
pub whole_ahead : (tells : Bool) (file : List ℕ) (k : Known) (now items : List Hashed) (stop : Stop) → now ≡ items → IsAhead tells file k (blocks_in items) stop → IsAhead tells file k (blocks_in now ++ []) stop
whole_ahead tells file k now items stop same a = subst (λ (l : List BlockAt). IsAhead tells file k l stop) (sym (append-nil (blocks_in now) ∙ ap blocks_in same)) a

-- the next blocks, once those before them are taken
pub next_blocks : (tells : Bool) (file : List ℕ) (book : Kept) (places : List PlaceAt) (at old place : ℕ) (bs now : List BlockAt) (next new : Ahead) → now ≡ bs → old ≡ place_behind at bs → place ≡ place_behind old (blocks_in next.blocks.items)
    → next.count ≡ journals_in (blocks_in next.blocks.items) → blocks_in new.blocks.items ≡ blocks_in next.blocks.items → new.count ≡ next.count → new.stop ≡ next.stop → All (λ (h : Hashed). AreLeaves h.block.records h.leaves.items) new.blocks.items
    → IsAhead tells file (known_from book places (place_behind at now)) (blocks_in next.blocks.items) next.stop → AreNextBlocks tells file book places new place
next_blocks tells file book places at old place bs now next new same old_is place_is counted blocks count stop leaves a = record {
  at = place_behind at now;
  place_is = place_is ∙ ap (λ (n : ℕ). place_behind n (blocks_in next.blocks.items)) (old_is ∙ ap (place_behind at) (sym same)) ∙ ap (place_behind (place_behind at now)) (sym blocks);
  are = subst (λ (l : List BlockAt). IsAhead tells file (known_from book places (place_behind at now)) l new.stop) (sym blocks) (subst (IsAhead tells file (known_from book places (place_behind at now)) (blocks_in next.blocks.items)) (sym stop) a);
  count_is = count ∙ counted ∙ ap journals_in (sym blocks);
  leaves = leaves;
}

-- ---- a disk that tells the same

were_again : (tells : Bool) (old new : List ℕ) (at first : ℕ) (bs : List BlockAt) → (IsTrue tells → old ≡ new) → WereRead tells old at first bs → WereRead tells new at first bs
were_again tells old new at first [] same all = tt
were_again tells old new at first (b ∷ bs) same all = (
  record { read = all.0.read; stands = λ told. subst (λ (f : List ℕ). IsNextBlock at f first (Ok (Some b))) (same told) (all.0.stands told) },
  were_again tells old new (at + 1 + b.len) (first + length b.records) bs same all.1,
)

stop_again : (tells : Bool) (old new : List ℕ) (at number : ℕ) (stop : Stop) → (IsTrue tells → old ≡ new) → IsStop tells old at number stop → IsStop tells new at number stop
stop_again tells old new at number stops.Full same s = s
stop_again tells old new at number stops.TooLong same s = s
stop_again tells old new at number stops.Shut same s = λ told. subst (λ (f : List ℕ). get_or f at 0 ≢ 1) (same told) (s told)
stop_again tells old new at number (stops.Damaged damage) same s = λ told. subst (λ (f : List ℕ). IsBlockErr at f number (files.Damaged damage)) (same told) (s told)

pub next_again : (tells : Bool) (old new : List ℕ) (book : Kept) (places : List PlaceAt) (ahead : Ahead) (place : ℕ) → (IsTrue tells → old ≡ new) → AreNextBlocks tells old book places ahead place → AreNextBlocks tells new book places ahead place
next_again tells old new book places ahead place same n =
    let r = n.are.read in
    record {
      at = n.at;
      place_is = n.place_is;
      are = record {
        read = record { start = r.start; blocks = r.blocks; taken = r.taken; begun = λ told. subst (λ (f : List ℕ). IsReadTo f r.start r.blocks n.at) (same told) (r.begun told) };
        ahead = were_again tells old new n.at (next_number r.start (journals_of r.blocks)) (blocks_in ahead.blocks.items) same n.are.ahead;
        ends = stop_again tells old new (place_behind n.at (blocks_in ahead.blocks.items)) (number_behind (next_number r.start (journals_of r.blocks)) (blocks_in ahead.blocks.items)) ahead.stop same n.are.ends;
      };
      count_is = n.count_is;
      leaves = n.leaves;
    }

-- one more where there may be more blocks
abbrev pub more_after : Stop → ℕ
more_after stops.Full = 1
more_after stops.TooLong = 0
more_after stops.Shut = 0
more_after (stops.Damaged damage) = 0
