-- What a book keeps of a base, blocks and waiting journals, where one journal more waits, and where their block ends.
use Rattle.std.specs.Prelude.{All, Bool, false, cond, filter, nat_le, nat_lt, Option, Some, None}
use Rattle.std.proofs.Common.{◌≡◌, ℕ, zero, suc, ◌+◌, ◌≤◌, List, [], ◌∷◌, ◌++◌, length, get_or, map, take, drop, refl, sym, ◌∙◌, ap, subst, arith, append_assoc, append-nil, length-append}
use Rattle.std.proofs.lemmas.Bool.{lt-leb, ltb-false}
use Rattle.std.proofs.lemmas.List.{length-map, take-map, take-append-le}
use Rattle.std.proofs.lemmas.List.Concat.{flat_map-append}
use Rattle.std.proofs.lemmas.List.Elements.{filter-append, All-nil, All-cons, All-head, All-tail}
use Rattle.sha2.specs.Sha256.{sha256}
use Rattle.tree_model.specs.Peaks.{peaks}
use Rattle.clue_index.specs.Added.{states_at}
use Rattle.clue_index.specs.declared.state.ClueState.{ClueState}
use Rattle.journal_record.specs.Entry.{Entry}
use Rattle.journal_record.specs.declared.header.Header.{Header}
use Rattle.journal_record.specs.declared.member.Member.{Member}
use Rattle.ledger_bytes.specs.Digests.{digest}
use Rattle.ledger_bytes.specs.declared.digest.Digest.{Digest}
use Rattle.ledger_model.specs.Behind.{first_of, next_number}
use Rattle.ledger_book.specs.Books.{Kept, Stands, Serves}
use Rattle.ledger_book.specs.Reading.{StandsBehind, EndsWith}
use Rattle.ledger_book.specs.Replaying.{begun_with, IsPlaced}
use Rattle.ledger_book.specs.Steps.{MayPlace}
use Rattle.ledger_model.proofs.EndLaws.{ends_push}
use Rattle.ledger_model.proofs.HideLaws.{first_shown}
use Rattle.ledger_model.specs.Bases.{base_of, clues_added, front}
use Rattle.ledger_model.specs.History as model
use Rattle.ledger_model.specs.History.{History, history, journals, journals_of, size, ends, close, leaf_digest, first_leaf_digest}
use Rattle.ledger_model.specs.Lawful.{AreNext, AreLawful, IsBlock}
use Rattle.ledger_model.specs.Members.{members}
use Rattle.ledger_model.specs.Targets.{is_hidden}
use Rattle.pseudo_genesis.specs.declared.base.Base.{Base}
use Rattle.ledger_open.specs.Opening.{GoesOn}
use Rattle.ledger_open.specs.Standing.{AllKept, SameButHidden, Parts, floor_from}
use Rattle.ledger_open.specs.Starts.{IsBaseOf, IsDecoded}
use Rattle.ledger_open.specs.Replaying.{GoesAs, Goes}
use Rattle.ledger_open.proofs.KeptLaws.{all_kept, same_back, same_weaker, header_map_same}
use Rattle.ledger_open.proofs.LikeLaws.{serves_alike, count_kept}
use Rattle.ledger_open.proofs.NextLaws.{lawful_front, next_one}
use Rattle.ledger_open.proofs.PartLaws.{none_gone}
use Rattle.ledger_open.proofs.StartLaws.{first_same, point_some}

-- ---- the first of some blocks, and the last

all_front : (bs cs : List (List Entry)) → All IsBlock (bs ++ cs) → All IsBlock bs
all_front [] cs all = All-nil IsBlock
all_front (b ∷ bs) cs all = All-cons IsBlock b bs (All-head IsBlock b (bs ++ cs) all) (all_front bs cs (All-tail IsBlock b (bs ++ cs) all))

all_last : (bs : List (List Entry)) (b : List Entry) → All IsBlock (bs ++ b ∷ []) → IsBlock b
all_last [] b all = All-head IsBlock b [] all
all_last (a ∷ bs) b all = all_last bs b (All-tail IsBlock a (bs ++ b ∷ []) all)

-- ---- the base of a history that begins like another

base : Digest → ℕ → ℕ → List Digest → List Digest → List ClueState → Base
base id point blocks ps keys clues = record { id = id; point = point; blocks = blocks; peaks = ps; keys = keys; clues = clues }

first_taken : (p : ℕ) (js : List Entry) → 1 ≤ p → first_leaf_digest (take p js) ≡ first_leaf_digest js
first_taken zero js some = absurd (omega (arith, some))
first_taken (suc p) [] some = refl
first_taken (suc p) (j ∷ js) some = refl

pub base_alike : (h k : History) (p : ℕ) → 1 ≤ p → take p (journals h) ≡ take p (journals k) → filter (λ end. nat_le end p) (ends h) ≡ filter (λ end. nat_le end p) (ends k) → base_of h p ≡ base_of k p
unfolding model.id base
base_alike h k p some fronts ended =
    let ids : model.id h ≡ model.id k = sym (first_taken p (journals h) some) ∙ ap first_leaf_digest fronts ∙ first_taken p (journals k) some in
    let leaves : take p (map leaf_digest (journals h)) ≡ take p (map leaf_digest (journals k)) = take-map leaf_digest p (journals h) ∙ ap (map leaf_digest) fronts ∙ sym (take-map leaf_digest p (journals k)) in
    ap (λ x. base (digest x) p (length (filter (λ end. nat_le end p) (ends h))) (map digest (peaks sha256 (take p (map leaf_digest (journals h))))) (map (λ (m : Member). m.key) (members (front h p))) (states_at p (clues_added 0 (take p (journals h))))) ids
    ∙ ap (λ x. base (digest (model.id k)) p (length x) (map digest (peaks sha256 (take p (map leaf_digest (journals h))))) (map (λ (m : Member). m.key) (members (front h p))) (states_at p (clues_added 0 (take p (journals h))))) ended
    ∙ ap (λ x. base (digest (model.id k)) p (length (filter (λ end. nat_le end p) (ends k))) (map digest (peaks sha256 x)) (map (λ (m : Member). m.key) (members (front h p))) (states_at p (clues_added 0 (take p (journals h))))) leaves
    ∙ ap (λ (js : List Entry). base (digest (model.id k)) p (length (filter (λ end. nat_le end p) (ends k))) (map digest (peaks sha256 (take p (map leaf_digest (journals k))))) (map (λ (m : Member). m.key) (members (history [] js))) (states_at p (clues_added 0 js))) fronts

module _ (b : Base) (h k : History) (some : 1 ≤ b.point) (more : List Entry) (are : journals h ≡ journals k ++ more) (far : b.point ≤ size k) where
  fronts : take b.point (journals k) ≡ take b.point (journals h)
  fronts = sym (ap (take b.point) are ∙ take-append-le b.point (journals k) more far)

  pub base_front : filter (λ end. nat_le end b.point) (ends k) ≡ filter (λ end. nat_le end b.point) (ends h) → base_of h b.point ≡ b → base_of k b.point ≡ b
  base_front ended is = base_alike k h b.point some fronts ended ∙ is

-- ---- the last of the journals that wait

record Last (ws es : List Entry) (x : Header) : Type 0 where
  pub init : List Entry
  pub last : Entry
  pub are : ws ≡ init ++ last ∷ []
  pub front : map (λ (e : Entry). e.header) init ≡ map (λ (e : Entry). e.header) es
  pub header : last.header ≡ x

last_of : (ws es : List Entry) (e : Entry) → map (λ (x : Entry). x.header) ws ≡ map (λ (x : Entry). x.header) (es ++ e ∷ []) → Last ws es e.header
last_of [] [] e is = absurd cc
last_of [] (x ∷ es) e is = absurd cc
last_of (w ∷ []) [] e is = record { init = []; last = w; are = refl; front = refl; header = ap (λ (l : List Header). get_or l 0 w.header) is }
last_of (w ∷ v ∷ ws) [] e is = absurd (omega (arith, ap length is))
last_of (w ∷ ws) (x ∷ es) e is =
    let l = last_of ws es e (ap (λ (l : List Header). drop 1 l) is) in
    record {
      init = w ∷ l.init;
      last = l.last;
      are = ap (λ (k : List Entry). w ∷ k) l.are;
      front = ap (λ (h : Header). h ∷ map (λ (e : Entry). e.header) l.init) (ap (λ (l : List Header). get_or l 0 w.header) is) ∙ ap (λ (k : List Header). x.header ∷ k) l.front;
      header = l.header;
    }

-- ---- how many journals a history has that goes on so

abbrev hid : ℕ → Bool
hid = λ n. nat_lt 0 n

abbrev none : ℕ → Bool
none = λ n. false

count_waits : (ws es : List Entry) → map (λ (e : Entry). e.header) ws ≡ map (λ (e : Entry). e.header) es → length ws ≡ length es
count_waits ws es is = sym (length-map ws (λ (e : Entry). e.header)) ∙ ap length is ∙ length-map es (λ (e : Entry). e.header)

closed_size : (start : Option Base) (blocks : List (List Entry)) (h : History) (x : Parts (floor_from start).first h) → SameButHidden hid none x.kept blocks → length (journals_of h.closed) ≡ first_of start + length (journals_of blocks)
closed_size start blocks h x same =
    ap (λ (bs : List (List Entry)). length (journals_of bs)) x.are
    ∙ omega (arith, ap length (flat_map-append (λ (b : List Entry). b) x.gone x.kept), length-append (journals_of x.gone) (journals_of x.kept), x.at, first_same start, count_kept hid none (journals_of x.kept) (journals_of blocks) (all_kept hid none x.kept blocks same))

-- ---- one journal more

module _ (start : Option Base) (blocks : List (List Entry)) (es : List Entry) (decoded : IsDecoded start) (some : 1 ≤ next_number start (journals_of blocks)) where
  module _ (e : Entry) (h : History) (g : GoesAs start blocks (es ++ e ∷ []) h) where
    l : Last h.waiting es e.header
    l = last_of h.waiting es e g.waits

    before : History
    before = history h.closed l.init

    journals_are : journals h ≡ journals before ++ l.last ∷ []
    unfolding before
    journals_are = ap (λ (ws : List Entry). journals_of h.closed ++ ws) l.are ∙ sym (append_assoc (journals_of h.closed) l.init (l.last ∷ []))

    size_is : size before ≡ next_number start (journals_of blocks ++ es)
    unfolding before
    size_is = omega (arith, length-append (journals_of h.closed) l.init, length-append (journals_of blocks) es, closed_size start blocks h g.parts g.same, count_waits l.init es l.front)

    lawful : AreLawful (journals before)
    lawful = lawful_front (journals before) (l.last ∷ []) (omega (arith, size_is, some, length-append (journals_of blocks) es)) (subst AreLawful journals_are g.lawful)

    based : (s : Option Base) → s ≡ start → IsBaseOf s h → IsBaseOf s before
    unfolding before
    based None is b = tt
    based (Some c) is b = base_front c h before (point_some c (subst IsDecoded (sym is) decoded)) (l.last ∷ []) journals_are (omega (arith, size_is, ap first_of is, length-append (journals_of blocks) es)) refl b

    goes_before : GoesAs start blocks es before
    unfolding before
    goes_before = record {
      lawful = lawful;
      blocks_are = g.blocks_are;
      parts = record { gone = g.parts.gone; kept = g.parts.kept; are = g.parts.are; at = g.parts.at };
      base = based start refl g.base;
      same = g.same;
      waits = l.front;
    }

    -- the book that has the others has it
    stands_more : (old new : Kept) → Stands old before → IsPlaced old e.header new → Stands new h
    unfolding before
    stands_more old new s placed =
        subst (λ (ws : List Entry). Stands new (history h.closed ws)) (sym l.are)
        (placed.stands before l.last s (subst (MayPlace before) l.header (next_one [] (journals before) l.last [] (subst (AreNext []) journals_are g.lawful.next))) l.header)

  -- a journal more is in the book
  pub goes_more : (old new : Kept) (e : Entry) → Goes old start blocks es → IsPlaced old e.header new → new.blocks ≡ old.blocks → Goes new start blocks (es ++ e ∷ [])
  goes_more old new e g placed count = record {
    base = decoded;
    some = some;
    stands = λ h x. stands_more e h x old new (g.stands (before e h x) (goes_before e h x)) placed;
    behind = subst (StandsBehind new start) (append_assoc (journals_of blocks) es (e ∷ [])) (placed.stands_behind start (journals_of blocks ++ es) e g.behind refl);
    number = count ∙ g.number;
  }

-- ---- the end of a block

-- the last of some blocks
record LastBlock (hid gone : ℕ → Bool) (bs cs : List (List Entry)) (c : List Entry) : Type 0 where
  pub init : List (List Entry)
  pub last : List Entry
  pub are : bs ≡ init ++ last ∷ []
  pub front : SameButHidden hid gone init cs
  pub kept : AllKept hid gone last c

last_block : (hid gone : ℕ → Bool) (bs cs : List (List Entry)) (c : List Entry) → SameButHidden hid gone bs (cs ++ c ∷ []) → LastBlock hid gone bs cs c
last_block hid gone [] [] c s = absurd s
last_block hid gone [] (d ∷ cs) c s = absurd s
last_block hid gone (b ∷ []) [] c s = record { init = []; last = b; are = refl; front = tt; kept = s.0 }
last_block hid gone (b ∷ a ∷ bs) [] c s = absurd s.1
last_block hid gone (b ∷ bs) (d ∷ cs) c s =
    let l = last_block hid gone bs cs c s.1 in
    record { init = b ∷ l.init; last = l.last; are = ap (λ (k : List (List Entry)). b ∷ k) l.are; front = (s.0, l.front); kept = l.kept }

no_waits : (ws : List Entry) → map (λ (e : Entry). e.header) ws ≡ [] → ws ≡ []
no_waits [] is = refl
no_waits (w ∷ ws) is = absurd cc

pub close_some : (blocks : List (List Entry)) (es : List Entry) → 1 ≤ length es → close (history blocks es) ≡ history (blocks ++ es ∷ []) []
unfolding close
close_some blocks [] some = absurd (omega (arith, some))
close_some blocks (e ∷ es) some = refl

module _ (start : Option Base) (blocks : List (List Entry)) (es : List Entry) (decoded : IsDecoded start) where
  module _ (h : History) (g : GoesAs start (blocks ++ es ∷ []) [] h) where
    lb : LastBlock hid none g.parts.kept blocks es
    lb = last_block hid none g.parts.kept blocks es g.same

    closed : List (List Entry)
    closed = g.parts.gone ++ lb.init

    open_ : History
    open_ = history closed lb.last

    waits : h.waiting ≡ []
    waits = no_waits h.waiting g.waits

    closed_is : h.closed ≡ closed ++ lb.last ∷ []
    unfolding closed
    closed_is = g.parts.are ∙ ap (λ (l : List (List Entry)). g.parts.gone ++ l) lb.are ∙ sym (append_assoc g.parts.gone lb.init (lb.last ∷ []))

    all_is : journals h ≡ journals open_
    unfolding open_
    all_is =
        ap (λ (ws : List Entry). journals_of h.closed ++ ws) waits ∙ append-nil (journals_of h.closed) ∙ ap journals_of closed_is
        ∙ flat_map-append (λ (b : List Entry). b) closed (lb.last ∷ []) ∙ ap (λ (l : List Entry). journals_of closed ++ l) (append-nil lb.last)

    last_some : 1 ≤ length lb.last
    last_some = (all_last closed lb.last (subst (All IsBlock) closed_is g.blocks_are)).some

    gone_count : length (journals_of closed) ≡ (floor_from start).first + length (journals_of lb.init)
    unfolding closed
    gone_count = omega (arith, ap length (flat_map-append (λ (b : List Entry). b) g.parts.gone lb.init), length-append (journals_of g.parts.gone) (journals_of lb.init), g.parts.at)

    ended : (p : ℕ) → p ≡ (floor_from start).first → filter (λ end. nat_le end p) (ends open_) ≡ filter (λ end. nat_le end p) (ends h)
    unfolding open_
    ended p at =
        let far : nat_le (0 + length (journals_of closed) + length lb.last) p ≡ false = lt-leb (0 + length (journals_of closed) + length lb.last) p (omega (arith, gone_count, at, last_some)) in
        sym (ap (λ (bs : List (List Entry)). filter (λ end. nat_le end p) (Rattle.ledger_model.specs.Ends.ends_from 0 bs)) closed_is
        ∙ ap (filter (λ end. nat_le end p)) (ends_push 0 closed lb.last)
        ∙ filter-append (λ end. nat_le end p) (ends open_) ((0 + length (journals_of closed) + length lb.last) ∷ [])
        ∙ ap (λ v. filter (λ end. nat_le end p) (ends open_) ++ cond v ((0 + length (journals_of closed) + length lb.last) ∷ []) []) far
        ∙ append-nil (filter (λ end. nat_le end p) (ends open_)))

    based_open : (s : Option Base) → s ≡ start → IsBaseOf s h → IsBaseOf s open_
    unfolding open_
    based_open None is b = tt
    based_open (Some c) is b =
        base_front c h open_ (point_some c (subst IsDecoded (sym is) decoded)) [] (all_is ∙ sym (append-nil (journals open_))) (point_far c is) (ended c.point (ap first_of is ∙ first_same start)) b
      where
        point_far : (c : Base) → Some c ≡ start → c.point ≤ size open_
        point_far c is = omega (arith, gone_count, ap first_of is, first_same start, length-append (journals_of closed) lb.last)

    goes_open : GoesAs start blocks es open_
    unfolding open_ closed
    goes_open = record {
      lawful = subst AreLawful all_is g.lawful;
      blocks_are = all_front closed (lb.last ∷ []) (subst (All IsBlock) closed_is g.blocks_are);
      parts = record { gone = g.parts.gone; kept = lb.init; are = refl; at = g.parts.at };
      base = based_open start refl g.base;
      same = lb.front;
      waits = header_map_same hid none (λ (x : Header). x) lb.last es lb.kept;
    }

    close_open : close open_ ≡ h
    unfolding open_
    close_open = close_some closed lb.last last_some ∙ ap (λ (bs : List (List Entry)). history bs []) (sym closed_is) ∙ ap (λ (ws : List Entry). history h.closed ws) (sym waits)

  -- the block's end is in the book
  pub goes_closed : (mid new : Kept) → Goes mid start blocks es → ((h : History) → Stands mid h → Stands new (close h)) → StandsBehind new start (journals_of blocks ++ es) → new.blocks ≡ mid.blocks + 1 → Goes new start (blocks ++ es ∷ []) []
  goes_closed mid new g closes behind count =
      let parts : journals_of (blocks ++ es ∷ []) ≡ journals_of blocks ++ es = flat_map-append (λ (b : List Entry). b) blocks (es ∷ []) ∙ ap (λ (l : List Entry). journals_of blocks ++ l) (append-nil es) in
      record {
        base = decoded;
        some = omega (arith, g.some, ap length parts, length-append (journals_of blocks) es);
        stands = λ h x. subst (Stands new) (close_open h x) (closes (open_ h x) (g.stands (open_ h x) (goes_open h x)));
        behind = subst (StandsBehind new start) (sym (append-nil (journals_of (blocks ++ es ∷ [])) ∙ parts)) behind;
        number = omega (arith, count, g.number, length-append blocks (es ∷ []));
      }

-- ---- where it begins

-- no journal stands behind the base
pub ends_with : (b : Base) (h : History) → GoesAs (Some b) [] [] h → EndsWith b h
ends_with b h g =
    let waits : h.waiting ≡ [] = no_waits h.waiting g.waits in
    record {
      lawful = g.lawful;
      none = waits;
      size_is = omega (arith, length-append (journals_of h.closed) h.waiting, ap length waits, closed_size (Some b) [] h g.parts g.same);
      base_is = g.base;
    }

pub begun_goes : (k : Kept) (b : Base) → IsDecoded (Some b) → ((h : History) → EndsWith b h → Stands k h) → StandsBehind k (Some b) [] → k.blocks ≡ b.blocks → Goes k (Some b) [] []
begun_goes k b d stands behind count = record {
  base = d;
  some = omega (arith, point_some b d);
  stands = λ h g. stands h (ends_with b h g);
  behind = behind;
  number = omega (arith, count);
}

-- journal 0 alone
pub first_goes : (k : Kept) (j : Entry) → Serves k (begun_with j) → StandsBehind k None (j ∷ []) → Goes k None ((j ∷ []) ∷ []) []
first_goes k j s behind = record {
  base = tt;
  some = omega arith;
  stands = λ h g.
      let gone : g.parts.gone ≡ [] = none_gone h g.blocks_are g.parts in
      let whole : g.parts.kept ≡ h.closed = sym (g.parts.are ∙ ap (λ (l : List (List Entry)). l ++ g.parts.kept) gone) in
      (serves_alike hid none (begun_with j) h (same_back hid none h.closed ((j ∷ []) ∷ []) (subst (λ (bs : List (List Entry)). SameButHidden hid none bs ((j ∷ []) ∷ [])) whole g.same)) refl (no_waits h.waiting g.waits) refl g.lawful k s).stands;
  behind = behind;
  number = s.stands.counts.blocks;
}

-- ---- a history that goes on with these blocks

pub goes_as : (start : Option Base) (blocks : List (List Entry)) (h : History) → GoesOn start blocks h → GoesAs start blocks [] h
goes_as start blocks h g = record {
  lawful = g.lawful.journals_are;
  blocks_are = g.lawful.blocks_are;
  parts = g.parts;
  base = g.base;
  same = same_weaker (is_hidden h) none hid none (λ n is. let zero_is : n ≡ 0 = omega (arith, ltb-false 0 n is) in ap (is_hidden h) zero_is ∙ first_shown h g.lawful.journals_are) (λ n z. z) g.parts.kept blocks g.same;
  waits = ap (map (λ (e : Entry). e.header)) g.none;
}
