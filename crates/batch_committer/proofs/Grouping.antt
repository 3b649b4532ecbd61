-- Blocks that gather, one behind the other: a file that has them too is as clean as it was.
use Rattle.std.specs.Prelude.{Bool, true, false, cond, max, slice_get, ◌||◌, ◌&&◌, ◌==◌}
use Rattle.std.specs.List.{list_any, list_all}
use Rattle.std.proofs.Common.{◌≡◌, ℕ, ◌+◌, ◌≤◌, List, [], ◌∷◌, ◌++◌, length, refl, ap, sym, subst, ◌∙◌, arith, append_assoc, append-nil, length-append}
use Rattle.std.proofs.lemmas.Bool.{and_parts, eq-eqb, true≢false}
use Rattle.std.proofs.lemmas.Option.{slice_get_past}
use Rattle.std.proofs.lemmas.List.{map-append}
use Rattle.std.proofs.lemmas.List.Concat.{flat_map-append}
use Rattle.sha2.specs.Sha256.{sha256}
use Rattle.tree_model.specs.Tree.{mth}
use Rattle.journal_record.specs.Blocks.{block_bytes, leaves_of, written_blocks, AreFrom, IsBlock, AreBlocks}
use Rattle.journal_record.specs.Entry.{Entry}
use Rattle.journal_record.specs.Header.{spelling}
use Rattle.journal_record.specs.declared.header.Kind.{Kind}
use Rattle.journal_record.specs.declared.header.Kind.TheVariants.{Genesis, Content, Member, Time, Occult, Purge, ClueOccult}
use Rattle.block_file.specs.File.{IsFileOf, whole_file}
use Rattle.ledger_model.specs.History.{History, history, journals, journals_of, size, point, greatest_point, is_purge}
use Rattle.ledger_model.specs.Lawful.{AreNext, AllGather, gathers}
use Rattle.ledger_model.specs.Targets.{hides, is_hidden, is_hidden_by}
use Rattle.ledger_model.proofs.BaseLaws.{front_next, more_journals}
use Rattle.ledger_model.proofs.HideLaws.{gathered_show}
use Rattle.ledger_model.proofs.LawfulLaws.{hide_none, lawful_from, some_journal, two_points}
use Rattle.ledger_open.specs.Growing.{with_block, IsNextBlock}
use Rattle.ledger_open.specs.Standing.{Floor, floor_behind, HasBlocks, AllKept, SameButHidden, StandsBy, IsErased}
use Rattle.ledger_open.proofs.FloorLaws.{floor_first, floor_kept, floor_root}
use Rattle.ledger_open.proofs.GrowLaws.{grown, blocks_more, written_more}
use Rattle.ledger_open.proofs.HidingLaws.{none_hides, hidden_among, hidden_push, journals_closed}
use Rattle.ledger_open.proofs.KeptLaws.{all_kept, header_map_same, same_more, same_weaker}
use Rattle.ledger_open.proofs.LikeLaws.{count_kept}
use Rattle.ledger_open.proofs.PartLaws.{size_parts}
use Rattle.batch_committer.proofs.Closing.{next_rest, stands_by}

-- ---- journals that gather

pub gather_parts : (xs ys : List Entry) → AllGather (xs ++ ys) → AllGather xs × AllGather ys
gather_parts [] ys g = (refl, g)
gather_parts (x ∷ xs) ys g =
    let both = and_parts (gathers x.header.kind) (list_all (λ (e : Entry). gathers e.header.kind) (xs ++ ys)) g in
    let rest = gather_parts xs ys both.1 in
    (ap (λ (v : Bool). v && list_all (λ (e : Entry). gathers e.header.kind) xs) both.0 ∙ rest.0, rest.1)

pub gather_join : (xs ys : List Entry) → AllGather xs → AllGather ys → AllGather (xs ++ ys)
gather_join [] ys a b = b
gather_join (x ∷ xs) ys a b =
    let both = and_parts (gathers x.header.kind) (list_all (λ (e : Entry). gathers e.header.kind) xs) a in
    ap (λ (v : Bool). v && list_all (λ (e : Entry). gathers e.header.kind) (xs ++ ys)) both.0 ∙ gather_join xs ys both.1 b

plain_kind : (k : Kind) → gathers k ≡ true → is_purge k ≡ false
plain_kind Genesis g = refl
plain_kind Content g = refl
plain_kind Member g = refl
plain_kind Time g = refl
plain_kind Occult g = refl
plain_kind Purge g = absurd (let no : ⊥ = cc g in no)
plain_kind ClueOccult g = refl

-- they purge nothing
no_points : (es : List Entry) → AllGather es → greatest_point es ≡ 0
no_points [] g = refl
no_points (e ∷ es) g =
    let both = and_parts (gathers e.header.kind) (list_all (λ (x : Entry). gathers x.header.kind) es) g in
    let here : cond (is_purge e.header.kind) e.header.a 0 ≡ 0 = ap (λ (v : Bool). cond v e.header.a 0) (plain_kind e.header.kind both.0) in
    omega (arith, two_points (e ∷ []) es, ap (λ n. max 0 n) here, no_points es both.1)

pub same_point : (js es : List Entry) → AllGather es → greatest_point (js ++ es) ≡ greatest_point js
same_point js es g = omega (arith, two_points js es, no_points es g)

-- ---- one block more

-- an image has a history with each hidden content gone, behind this front and with these blocks
pub record IsErasedBy (front : List ℕ) (written : List (List ℕ)) (h : History) : Type 0 where
  pub image : List ℕ
  pub erased : IsErased image h
  pub front_is : erased.keeps.file.front ≡ front
  pub written_is : written_blocks (floor_behind h erased.parts.gone).root [] erased.keeps.blocks ≡ written

-- the leaves of a history's blocks are those of the ones in front of a file's, and of the file's
leaves_are : (image : List ℕ) (h : History) (x : IsErased image h) → leaves_of (journals_of h.closed) ≡ leaves_of (journals_of x.parts.gone) ++ leaves_of (journals_of x.keeps.blocks)
leaves_are image h x =
    ap (λ (bs : List (List Entry)). leaves_of (journals_of bs)) x.parts.are ∙ ap leaves_of (flat_map-append (λ (l : List Entry). l) x.parts.gone x.parts.kept)
    ∙ map-append (λ (e : Entry). spelling e.header) (journals_of x.parts.gone) (journals_of x.parts.kept)
    ∙ ap (λ (l : List (List ℕ)). leaves_of (journals_of x.parts.gone) ++ l)
    (header_map_same (is_hidden h) (is_hidden h) spelling (journals_of x.parts.kept) (journals_of x.keeps.blocks) (all_kept (is_hidden h) (is_hidden h) x.parts.kept x.keeps.blocks x.keeps.same))

-- the bytes of a block, as the file has them behind its blocks
pub bytes_behind : (image : List ℕ) (h : History) (b : List Entry) (x : IsErased image h)
    → block_bytes (mth sha256 (leaves_of (journals_of h.closed) ++ leaves_of b)) b ≡ block_bytes ((floor_behind h x.parts.gone).root (leaves_of (journals_of x.keeps.blocks) ++ leaves_of b)) b
bytes_behind image h b x =
    ap (λ (l : List (List ℕ)). block_bytes (mth sha256 l) b)
    (ap (λ (l : List (List ℕ)). l ++ leaves_of b) (leaves_are image h x) ∙ append_assoc (leaves_of (journals_of x.parts.gone)) (leaves_of (journals_of x.keeps.blocks)) (leaves_of b))
    ∙ ap (λ (r : List ℕ). block_bytes r b) (sym (floor_root h x.parts.gone x.parts.kept x.parts.are (leaves_of (journals_of x.keeps.blocks) ++ leaves_of b)))

pub point_block : (h : History) (b : List Entry) → h.waiting ≡ [] → 1 ≤ length b → AllGather b → point (with_block b h) ≡ point h
unfolding point
point_block h b none some g = ap greatest_point (more_journals h b none some) ∙ same_point (journals h) b g

-- a block whose contents are all kept
all_self : (hid gone : ℕ → Bool) (m : ℕ) (es : List Entry) → AreFrom m es → ((n : ℕ) → m ≤ n → gone n ≡ false) → AllKept hid gone es es
all_self hid gone m [] a none = tt
all_self hid gone m (e ∷ es) a none = (
  record { header = refl; who = refl; shown = λ s. refl; zeroed = λ z. let no : ⊥ = true≢false (sym z ∙ none e.header.jsn (omega (arith, a.0.jsn))) in absurd no },
  all_self hid gone (m + 1) es a.1 (λ n le. none n (omega (arith, le))),
)

module _ (image : List ℕ) (h : History) (b : List Entry) (x : IsErased image h) (n : IsNextBlock h b) (g : AllGather b) where
  abbrev more : History
  more = with_block b h

  abbrev from : Floor
  from = floor_behind h x.parts.gone

  none_later : (t : Entry) → size h ≤ t.header.jsn → list_any (hides t) (journals_of h.closed) ≡ false
  none_later t le = ap (list_any (hides t)) (sym (journals_closed h x.none)) ∙ none_hides t 0 (journals h) (lawful_from (journals h) x.lawful.journals_are) (omega (arith, le))

  -- what is hidden was hidden before
  hidden_same : (m : ℕ) → is_hidden more m ≡ is_hidden h m
  hidden_same m =
      let target = slice_get (journals_of h.closed ++ b) m in
      let front = is_hidden_by (journals_of h.closed) target in
      hidden_push h.closed b m ∙ ap (λ (v : Bool). front || v) (hide_none b target (λ t. gathered_show t b g)) ∙ or_false front
      ∙ hidden_among (journals_of h.closed) (size h) none_later m (journals_of h.closed) b n.entries.entries
      ∙ ap (λ (l : List Entry). is_hidden_by l (slice_get l m)) (sym (journals_closed h x.none)) where
        or_false : (v : Bool) → (v || false) ≡ v
        or_false true = refl
        or_false false = refl

  none_new : (m : ℕ) → size h ≤ m → is_hidden more m ≡ false
  none_new m le = hidden_same m ∙ ap (is_hidden_by (journals h)) (slice_get_past (journals h) m le)

  same_then : SameButHidden (is_hidden more) (is_hidden more) (x.parts.kept ++ b ∷ []) (x.keeps.blocks ++ b ∷ [])
  same_then =
      same_more (is_hidden more) (is_hidden more) x.parts.kept x.keeps.blocks b b
      (same_weaker (is_hidden h) (is_hidden h) (is_hidden more) (is_hidden more) (λ m s. sym (hidden_same m) ∙ s) (λ m z. sym (hidden_same m) ∙ z) x.parts.kept x.keeps.blocks x.keeps.same)
      (all_self (is_hidden more) (is_hidden more) (size h) b n.entries.entries none_new)

  number : (from).first + length (journals_of x.keeps.blocks) ≡ size h
  number =
      omega (
        arith,
        floor_first h x.parts.gone,
        x.parts.at,
        size_parts (point h) h x.none x.parts,
        count_kept (is_hidden h) (is_hidden h) (journals_of x.parts.kept) (journals_of x.keeps.blocks) (all_kept (is_hidden h) (is_hidden h) x.parts.kept x.keeps.blocks x.keeps.same),
      )

  pub floor_same : floor_behind more x.parts.gone ≡ from
  floor_same = floor_kept h b x.none n.entries.some x.parts.gone (omega (arith, x.parts.at, size_parts (point h) h x.none x.parts)) (omega (arith, some_journal (journals h) x.lawful.journals_are))

  early_then : x.edition.number + cond (point h == point h) 0 1 + 1 ≤ size more + x.edition.version
  early_then = omega (arith, x.early, ap length (more_journals h b x.none n.entries.some), length-append (journals h) b)

  module _ (new : List ℕ) (stands : IsFileOf x.keeps.file.front (written_blocks (from).root [] x.keeps.blocks ++ block_bytes ((from).root (leaves_of (journals_of x.keeps.blocks) ++ leaves_of b)) b ∷ []) new) where
    abbrev HasFile : Floor → Type 0
    HasFile f = (y : HasBlocks f x.edition (x.keeps.blocks ++ b ∷ []) new) × (y.front ≡ x.keeps.file.front)

    file_old : HasFile from
    file_old = (
      record {
        front = x.keeps.file.front;
        head = x.keeps.file.head;
        lawful = blocks_more (from).first x.keeps.blocks b x.keeps.file.lawful (subst (λ (m : ℕ). IsBlock m b) (sym number) n.entries);
        stands = subst (λ (bs : List (List ℕ)). IsFileOf x.keeps.file.front bs new) (sym (written_more (from).root [] x.keeps.blocks b)) stands;
      },
      refl,
    )

    file : HasFile (floor_behind more x.parts.gone)
    file = subst HasFile (sym floor_same) file_old

    abbrev Erased : ℕ → Type 0
    Erased p =
        (y : StandsBy p (is_hidden more) new more) × (y.keeps.file.front ≡ x.keeps.file.front)
        × (written_blocks (floor_behind more y.parts.gone).root [] y.keeps.blocks ≡ written_blocks (from).root [] (x.keeps.blocks ++ b ∷ []))

    -- the point and the floor are as they were
    erased_at : (p : ℕ) → p ≡ point h → p ≡ point more → Erased p
    erased_at p at same = (
      record {
        edition = x.edition;
        parts = record { gone = x.parts.gone; kept = x.parts.kept ++ b ∷ []; are = ap (λ (l : List (List Entry)). l ++ b ∷ []) x.parts.are ∙ append_assoc x.parts.gone x.parts.kept (b ∷ []); at = x.parts.at ∙ sym at };
        keeps = record { blocks = x.keeps.blocks ++ b ∷ []; file = (file).0; same = same_then };
        early = subst (λ (v : Bool). x.edition.number + cond v 0 1 + 1 ≤ size more + x.edition.version) (eq-eqb (point h) (point h) refl ∙ sym (eq-eqb p (point more) same)) early_then;
        none = refl;
        lawful = (grown image new h b x n.entries n.shape n.next stands).lawful;
        wide = x.wide;
      },
      (file).1,
      ap (λ (f : Floor). written_blocks f.root [] (x.keeps.blocks ++ b ∷ [])) floor_same,
    )

    pub erased_more : Erased (point more)
    erased_more = erased_at (point more) (point_block h b x.none n.entries.some g) refl

-- ---- many blocks more

-- each of some blocks may be the next one behind those in front of it, and gathers
abbrev pub AreNextAll : History → List (List Entry) → Type 0
AreNextAll h [] = Unit {0}
AreNextAll h (b ∷ bs) = IsNextBlock h b × AllGather b × AreNextAll (with_block b h) bs

pub next_all : (h : History) (bs : List (List Entry)) → h.waiting ≡ [] → AreBlocks (size h) bs → AllGather (journals_of bs) → AreNext (journals h) (journals_of bs) → AreNextAll h bs
next_all h [] none blocks g next = tt
next_all h (b ∷ bs) none blocks g next =
    let both = gather_parts b (journals_of bs) g in
    let joined = more_journals h b none blocks.0.some in (
      record { entries = blocks.0; shape = record { some = blocks.0.some; most = blocks.0.most; gathered = λ more. both.0 }; next = front_next (journals h) b (journals_of bs) next },
      both.0,
      next_all (with_block b h) bs refl (subst (λ (m : ℕ). AreBlocks m bs) (sym (ap length joined ∙ length-append (journals h) b)) blocks.1) both.1
          (subst (λ (l : List Entry). AreNext l (journals_of bs)) (sym joined) (next_rest (journals h) b (journals_of bs) next)),
    )

-- the history with these blocks more
abbrev pub with_blocks : List (List Entry) → History → History
with_blocks bs h = history (h.closed ++ bs) []

blocks_one : (h : History) (b : List Entry) (bs : List (List Entry)) → with_blocks bs (with_block b h) ≡ with_blocks (b ∷ bs) h
blocks_one h b bs = ap (λ (l : List (List Entry)). history l []) (append_assoc h.closed (b ∷ []) bs)

blocks_none : (h : History) → h.waiting ≡ [] → h ≡ with_blocks [] h
blocks_none h none = ap (history h.closed) none ∙ ap (λ (l : List (List Entry)). history l []) (sym (append-nil h.closed))

pub point_all : (h : History) (bs : List (List Entry)) → h.waiting ≡ [] → AreNextAll h bs → point (with_blocks bs h) ≡ point h
point_all h [] none next = ap point (sym (blocks_none h none))
point_all h (b ∷ bs) none next = ap point (sym (blocks_one h b bs)) ∙ point_all (with_block b h) bs refl next.2 ∙ point_block h b none next.0.entries.some next.1

pub floor_all : (h : History) (bs gone : List (List Entry)) → h.waiting ≡ [] → AreNextAll h bs → length (journals_of gone) ≤ size h → 1 ≤ size h → floor_behind (with_blocks bs h) gone ≡ floor_behind h gone
floor_all h [] gone none next le some = ap (λ (k : History). floor_behind k gone) (sym (blocks_none h none))
floor_all h (b ∷ bs) gone none next le some =
    let longer = ap length (more_journals h b none next.0.entries.some) ∙ length-append (journals h) b in
    ap (λ (k : History). floor_behind k gone) (sym (blocks_one h b bs)) ∙ floor_all (with_block b h) bs gone refl next.2 (omega (arith, longer, le)) (omega (arith, longer, some))
    ∙ floor_kept h b none next.0.entries.some gone le (omega (arith, some))

seen_more : (h : History) (b : List Entry) → leaves_of (journals_of h.closed) ++ leaves_of b ≡ leaves_of (journals_of (h.closed ++ b ∷ []))
seen_more h b =
    sym (ap leaves_of (flat_map-append (λ (l : List Entry). l) h.closed (b ∷ []) ∙ ap (λ (l : List Entry). journals_of h.closed ++ l) (append-nil b)) ∙ map-append (λ (e : Entry). spelling e.header) (journals_of h.closed) b)

-- a file with one block more, as it ends with its tail gate
one_more : (front : List ℕ) (written : List (List ℕ)) (h : History) (b : List Entry) → IsErasedBy front written h → IsNextBlock h b → AllGather b
    → IsErasedBy front (written ++ block_bytes (mth sha256 (leaves_of (journals_of h.closed) ++ leaves_of b)) b ∷ []) (with_block b h)
one_more front written h b e n g =
    let x = e.erased in
    let from = floor_behind h x.parts.gone in
    let own = written_blocks from.root [] x.keeps.blocks in
    let bytes = block_bytes (from.root (leaves_of (journals_of x.keeps.blocks) ++ leaves_of b)) b in
    let new = whole_file x.keeps.file.front (own ++ bytes ∷ []) in
    let y = erased_more e.image h b x n g new (record { gate = 0; rest = []; is = refl; shut = λ no. let never : ⊥ = cc no in never }) in record {
      image = new;
      erased = y.0;
      front_is = y.1 ∙ e.front_is;
      written_is = y.2 ∙ written_more from.root [] x.keeps.blocks b ∙ ap (λ (l : List (List ℕ)). l ++ bytes ∷ []) e.written_is
          ∙ ap (λ (l : List ℕ). written ++ l ∷ []) (sym (bytes_behind e.image h b x));
    }

pub more_all : (front : List ℕ) (written : List (List ℕ)) (h : History) (bs : List (List Entry)) → h.waiting ≡ [] → IsErasedBy front written h → AreNextAll h bs
    → IsErasedBy front (written ++ written_blocks (mth sha256) (leaves_of (journals_of h.closed)) bs) (with_blocks bs h)
more_all front written h [] none e next = subst (λ (l : List (List ℕ)). IsErasedBy front l (with_blocks [] h)) (sym (append-nil written)) (subst (IsErasedBy front written) (blocks_none h none) e)
more_all front written h (b ∷ bs) none e next =
    let seen = leaves_of (journals_of h.closed) in
    let bytes = block_bytes (mth sha256 (seen ++ leaves_of b)) b in
    subst (IsErasedBy front (written ++ written_blocks (mth sha256) seen (b ∷ bs))) (blocks_one h b bs)
    (subst (λ (l : List (List ℕ)). IsErasedBy front l (with_blocks bs (with_block b h)))
    (append_assoc written (bytes ∷ []) (written_blocks (mth sha256) (leaves_of (journals_of (h.closed ++ b ∷ []))) bs)
    ∙ ap (λ (l : List (List ℕ)). written ++ bytes ∷ written_blocks (mth sha256) l bs) (sym (seen_more h b)))
    (more_all front (written ++ bytes ∷ []) (with_block b h) bs refl (one_more front written h b e next.0 next.1) next.2))

-- any image with the same front and blocks is as clean
pub erased_by : (front : List ℕ) (written : List (List ℕ)) (h : History) (e : IsErasedBy front written h) (new : List ℕ) → IsFileOf front written new → IsErased new h
erased_by front written h e new stands =
    stands_by e.image new h e.erased (subst (λ (l : List ℕ). IsFileOf l (written_blocks (floor_behind h e.erased.parts.gone).root [] e.erased.keeps.blocks) new) (sym e.front_is) (subst (λ (l : List (List ℕ)). IsFileOf front l new) (sym e.written_is) stands))
