-- What a file stands for when it is read, and when a block is added.
use Rattle.std.specs.List.{list_any, list_all}
use Rattle.std.specs.Prelude.{◌==◌, cond, max, slice_get}
use Rattle.std.proofs.Common.{◌≡◌, ◌≢◌, ◌⊎◌, inl, inr, ℕ, ◌+◌, ◌-◌, ◌≤◌, Bool, true, false, ◌||◌, List, [], ◌∷◌, ◌++◌, length, take, drop, Option, refl, sym, ◌∙◌, ap, subst, arith, append_assoc, append-nil, length-append}
use Rattle.std.proofs.lemmas.Bool.{eqb-true, eq-eqb, true≢false, false_from_ne_true, and_parts}
use Rattle.std.proofs.lemmas.List.{map-append, take-append-drop}
use Rattle.std.proofs.lemmas.List.Elements.{All-push}
use Rattle.std.proofs.lemmas.Option.{slice_get_past}
use Rattle.block_file.specs.File.{IsFileOf}
use Rattle.journal_record.specs.Blocks.{block_bytes, leaves_of, AreFrom, IsBlock, AreBlocks, written_blocks}
use Rattle.journal_record.specs.Entry.{Entry}
use Rattle.journal_record.specs.Header.{spelling}
use Rattle.journal_record.specs.declared.header.Kind.{Kind}
use Rattle.journal_record.specs.declared.header.Kind.TheVariants.{Genesis, Content, Member, Time, Occult, Purge, ClueOccult}
use Rattle.ledger_model.specs.History.{History, history, journals_of, journals, size, point, greatest_point, is_purge}
use Rattle.ledger_model.specs.Lawful as lawful
use Rattle.ledger_model.specs.Lawful.{AreNext, gathers, AllGather, IsFounded, IsLawful}
use Rattle.ledger_model.specs.Targets.{hides, is_hidden_by, is_hidden}
use Rattle.ledger_model.proofs.BaseLaws.{more_journals}
use Rattle.ledger_model.proofs.HideLaws.{gathered_show}
use Rattle.ledger_model.proofs.LawfulLaws.{hide_none, lawful_from, some_journal, two_points}
use Rattle.ledger_open.specs.Heads.{Edition}
use Rattle.ledger_open.specs.Growing.{HasBlockMore}
use Rattle.ledger_open.specs.Standing.{Floor, floor_behind, HasBlocks, AllKept, SameButHidden, hidden_before, point_before, StandsFor, IsErased, StandsBy, Reads}
use Rattle.ledger_open.proofs.FloorLaws.{floor_first, floor_kept}
use Rattle.ledger_open.proofs.HidingLaws.{none_hides, any_take, hidden_among, journals_closed, hidden_push, take_over, before_push, before_hidden}
use Rattle.ledger_open.proofs.KeptLaws.{all_kept, same_more, same_weaker}
use Rattle.ledger_open.proofs.LikeLaws.{count_kept}
use Rattle.ledger_open.proofs.PartLaws.{size_parts, stands_whole, early_most}

-- an image that has a history with more zeros has it with fewer
pub stands_weaker : (floor : ℕ) (gone gone′ : ℕ → Bool) (image : List ℕ) (h : History) → ((n : ℕ) → gone′ n ≡ true → gone n ≡ true) → StandsBy floor gone image h → StandsBy floor gone′ image h
stands_weaker floor gone gone′ image h fewer x = record {
  edition = x.edition;
  parts = x.parts;
  keeps = record {
    blocks = x.keeps.blocks;
    file = x.keeps.file;
    same = same_weaker (is_hidden h) gone (is_hidden h) gone′ (λ n s. s) fewer x.parts.kept x.keeps.blocks x.keeps.same;
  };
  early = x.early;
  none = x.none;
  lawful = x.lawful;
  wide = x.wide;
}

pub reads : (gone : ℕ → Bool) (image : List ℕ) (h : History) → StandsBy (point h) gone image h → Reads image h
reads gone image h x = stands_weaker (point h) gone (λ n. false) image h (λ n z. let no : ⊥ = true≢false (sym z) in absurd no) x

-- a clean image stands for its history
pub erased_stands : (image : List ℕ) (h : History) → IsErased image h → StandsFor image h
erased_stands image h x = record { floor = point h; begins = inl refl; file = stands_weaker (point h) (is_hidden h) (hidden_before h) image h (λ n z. before_hidden h n z) x }

-- .. from the point on
pub erased_floor : (image : List ℕ) (h : History) (x : IsErased image h) → (erased_stands image h x).floor ≡ point h
unfolding erased_stands
erased_floor image h x = refl

-- an image that begins at the point is clean where the last journal hides nothing new
pub stands_erased : (image : List ℕ) (h : History) (x : StandsFor image h) → x.floor ≡ point h → ((n : ℕ) → is_hidden h n ≡ true → hidden_before h n ≡ true) → IsErased image h
stands_erased image h x at old = stands_weaker (point h) (hidden_before h) (is_hidden h) image h old (stands_whole image h x at)

-- the leaves of more blocks
leaves_from : (seen : List (List ℕ)) (b : List Entry) (bs : List (List Entry)) → (seen ++ leaves_of b) ++ leaves_of (journals_of bs) ≡ seen ++ leaves_of (journals_of (b ∷ bs))
leaves_from seen b bs = append_assoc seen (leaves_of b) (leaves_of (journals_of bs)) ∙ ap (λ (l : List (List ℕ)). seen ++ l) (sym (map-append (λ (e : Entry). spelling e.header) b (journals_of bs)))

pub written_more : (root : List (List ℕ) → List ℕ) (seen : List (List ℕ)) (bs : List (List Entry)) (b : List Entry)
    → written_blocks root seen (bs ++ b ∷ []) ≡ written_blocks root seen bs ++ block_bytes (root ((seen ++ leaves_of (journals_of bs)) ++ leaves_of b)) b ∷ []
written_more root seen [] b = ap (λ (l : List (List ℕ)). block_bytes (root (l ++ leaves_of b)) b ∷ []) (sym (append-nil seen))
written_more root seen (c ∷ cs) b =
    ap (λ (l : List (List ℕ)). block_bytes (root (seen ++ leaves_of c)) c ∷ l)
    (written_more root (seen ++ leaves_of c) cs b ∙ ap (λ (l : List (List ℕ)). written_blocks root (seen ++ leaves_of c) cs ++ block_bytes (root (l ++ leaves_of b)) b ∷ []) (leaves_from seen c cs))

pub blocks_more : (n : ℕ) (bs : List (List Entry)) (b : List Entry) → AreBlocks n bs → IsBlock (n + length (journals_of bs)) b → AreBlocks n (bs ++ b ∷ [])
blocks_more n [] b a bb = (subst (λ (m : ℕ). IsBlock m b) (omega arith) bb, tt)
blocks_more n (c ∷ cs) b a bb = (a.0, blocks_more (n + length c) cs b a.1 (subst (λ (m : ℕ). IsBlock m b) (omega (arith, length-append c (journals_of cs))) bb))

-- a file that has a block more
pub file_more : (floor : Floor) (edition : Edition) (bs : List (List Entry)) (b : List Entry) (image new : List ℕ) (x : HasBlocks floor edition bs image)
    → IsBlock (floor.first + length (journals_of bs)) b
    → IsFileOf x.front (written_blocks floor.root [] bs ++ block_bytes (floor.root (leaves_of (journals_of bs) ++ leaves_of b)) b ∷ []) new
    → HasBlocks floor edition (bs ++ b ∷ []) new
file_more floor edition bs b image new x bb stands = record {
  front = x.front;
  head = x.head;
  lawful = blocks_more floor.first bs b x.lawful bb;
  stands = subst (λ (bs : List (List ℕ)). IsFileOf x.front bs new) (sym (written_more floor.root [] bs b)) stands;
}

-- a block whose contents are all kept
all_self : (hid gone : ℕ → Bool) (m : ℕ) (es : List Entry) → AreFrom m es → ((n : ℕ) → m ≤ n → gone n ≡ false) → AllKept hid gone es es
all_self hid gone m [] a g = tt
all_self hid gone m (e ∷ es) a g = (
  record { header = refl; who = refl; shown = λ s. refl; zeroed = λ z. let no : ⊥ = true≢false (sym z ∙ g e.header.jsn (omega (arith, a.0.jsn))) in absurd no },
  all_self hid gone (m + 1) es a.1 (λ n le. g n (omega (arith, le))),
)

-- what gathers hides nothing
all_shows : (target : Entry) (k : ℕ) (es : List Entry) → AllGather es → list_any (hides target) (take k es) ≡ false
all_shows target k es g = false_from_ne_true (list_any (hides target) (take k es)) (λ is. true≢false (sym (any_take (hides target) k es is) ∙ gathered_show target es g))

-- no journal of a block but its last hides another
hides_last : (target : Entry) (b : List Entry) → (length b ≢ 1 → AllGather b) → list_any (hides target) (take (length b - 1) b) ≡ false
hides_last target b alone = elim (length b == 1) as (λ v. (length b == 1) ≡ v → list_any (hides target) (take (length b - 1) b) ≡ false) [
  | true ↦ λ is. let one : length b - 1 ≡ 0 = omega (arith, eqb-true (length b) 1 is) in ap (λ (k : ℕ). list_any (hides target) (take k b)) one
  | false ↦ λ is. all_shows target (length b - 1) b (alone (λ one. let no : ⊥ = true≢false (sym (eq-eqb (length b) 1 one) ∙ is) in no))
] refl

-- ---- points

gathers_none : (k : Kind) (a : ℕ) → gathers k ≡ true → cond (is_purge k) a 0 ≡ 0
gathers_none Genesis a g = refl
gathers_none Content a g = refl
gathers_none Member a g = refl
gathers_none Time a g = refl
gathers_none Occult a g = refl
gathers_none ClueOccult a g = refl
gathers_none Purge a g = absurd (true≢false (sym g))

-- journals that gather purge nothing
no_points : (es : List Entry) → AllGather es → greatest_point es ≡ 0
no_points [] g = refl
no_points (e ∷ es) g =
    let both = and_parts (gathers e.header.kind) (list_all (λ (x : Entry). gathers x.header.kind) es) g in
    let here = gathers_none e.header.kind e.header.a both.0 in
    omega (arith, two_points (e ∷ []) es, ap (λ n. max 0 n) here, no_points es both.1)

-- ---- a block more

founded_more : (es fs : List Entry) → IsFounded es → IsFounded (es ++ fs)
founded_more [] fs f = absurd f
founded_more (e ∷ es) fs f = f

pub next_more : (before es fs : List Entry) → AreNext before es → AreNext (before ++ es) fs → AreNext before (es ++ fs)
next_more before [] fs a b = subst (λ (l : List Entry). AreNext l fs) (append-nil before) b
next_more before (e ∷ es) fs a b = (a.0, next_more (before ++ e ∷ []) es fs a.1 (subst (λ (l : List Entry). AreNext l fs) (sym (append_assoc before (e ∷ []) es)) b))

module _ (image new : List ℕ) (h : History) (b : List Entry) (x : IsErased image h) (bb : IsBlock (size h) b) (alone : lawful.IsBlock b) (next : AreNext (journals h) b) where
  rule : (target : Option Entry) → is_hidden_by (take (length b - 1) b) target ≡ false
  rule target = hide_none (take (length b - 1) b) target (λ t. hides_last t b alone.gathered)

  abbrev more : History
  more = history (h.closed ++ b ∷ []) []

  joined : journals more ≡ journals h ++ b
  joined = more_journals h b x.none bb.some

  lawful_then : IsLawful more
  lawful_then = record {
    journals_are = record {
      next = subst (AreNext []) (sym joined) (next_more [] (journals h) b x.lawful.journals_are.next next);
      founded = subst IsFounded (sym joined) (founded_more (journals h) b x.lawful.journals_are.founded);
    };
    blocks_are = All-push lawful.IsBlock h.closed b x.lawful.blocks_are alone;
    waiting_is = record { room = omega arith; gathered = refl };
  }

  -- ---- what is hidden

  abbrev target : ℕ → Option Entry
  target n = slice_get (journals_of h.closed ++ b) n

  none_later : (t : Entry) → size h ≤ t.header.jsn → list_any (hides t) (journals_of h.closed) ≡ false
  none_later t le =
      ap (list_any (hides t)) (sym (journals_closed h x.none)) ∙ none_hides t 0 (journals h) (lawful_from (journals h) x.lawful.journals_are) (omega (arith, le))

  old : (n : ℕ) → is_hidden_by (journals_of h.closed) (target n) ≡ is_hidden h n
  old n =
      hidden_among (journals_of h.closed) (size h) none_later n (journals_of h.closed) b bb.entries
      ∙ ap (λ (l : List Entry). is_hidden_by l (slice_get l n)) (sym (journals_closed h x.none))

  new_before : (n : ℕ) → hidden_before more n ≡ is_hidden h n
  new_before n = before_push h.closed b n bb.some ∙ ap (λ (v : Bool). is_hidden_by (journals_of h.closed) (target n) || v) (rule (target n)) ∙ or_false (is_hidden_by (journals_of h.closed) (target n)) ∙ old n where
    or_false : (v : Bool) → (v || false) ≡ v
    or_false true = refl
    or_false false = refl

  new_hidden : (n : ℕ) → is_hidden more n ≡ false → is_hidden h n ≡ false
  new_hidden n s = sym (old n) ∙ left_of (is_hidden_by (journals_of h.closed) (target n)) (is_hidden_by b (target n)) (sym (hidden_push h.closed b n) ∙ s) where
    left_of : (v w : Bool) → (v || w) ≡ false → v ≡ false
    left_of true w e = e
    left_of false w e = refl

  none_new : (n : ℕ) → size h ≤ n → is_hidden h n ≡ false
  none_new n le = ap (is_hidden_by (journals h)) (slice_get_past (journals h) n le)

  same_then : SameButHidden (is_hidden more) (hidden_before more) (x.parts.kept ++ b ∷ []) (x.keeps.blocks ++ b ∷ [])
  same_then =
      same_more (is_hidden more) (hidden_before more) x.parts.kept x.keeps.blocks b b
      (same_weaker (is_hidden h) (is_hidden h) (is_hidden more) (hidden_before more) new_hidden (λ n z. sym (new_before n) ∙ z) x.parts.kept x.keeps.blocks x.keeps.same)
      (all_self (is_hidden more) (hidden_before more) (size h) b bb.entries (λ n le. new_before n ∙ none_new n le))

  -- ---- where the file begins

  count : length (journals_of x.keeps.blocks) ≡ length (journals_of x.parts.kept)
  count = sym (count_kept (is_hidden h) (is_hidden h) (journals_of x.parts.kept) (journals_of x.keeps.blocks) (all_kept (is_hidden h) (is_hidden h) x.parts.kept x.keeps.blocks x.keeps.same))

  number : (floor_behind h x.parts.gone).first + length (journals_of x.keeps.blocks) ≡ size h
  number = omega (arith, floor_first h x.parts.gone, x.parts.at, count, size_parts (point h) h x.none x.parts)

  new_point : point more ≡ max (point h) (greatest_point b)
  unfolding point
  new_point = ap greatest_point joined ∙ two_points (journals h) b

  before_is : point_before more ≡ max (point h) (greatest_point (take (length b - 1) b))
  unfolding point
  before_is =
      let less : size more - 1 ≡ length (journals h) + (length b - 1) = omega (arith, bb.some, ap length joined, length-append (journals h) b) in
      ap (λ n. greatest_point (take n (journals more))) less ∙ ap (λ (l : List Entry). greatest_point (take (length (journals h) + (length b - 1)) l)) joined
      ∙ ap greatest_point (take_over (journals h) b (length b - 1)) ∙ two_points (journals h) (take (length b - 1) b)

  -- which is the point, or the point before a purge
  pub begins : (point h ≡ point more) ⊎ (point h ≡ point_before more)
  begins = elim (length b == 1) as (λ v. (length b == 1) ≡ v → (point h ≡ point more) ⊎ (point h ≡ point_before more)) [
    | true ↦ λ is.
        let less : length b - 1 ≡ 0 = omega (arith, eqb-true (length b) 1 is) in
        inr (sym (before_is ∙ ap (λ n. max (point h) (greatest_point (take n b))) less ∙ omega arith))
    | false ↦ λ is.
        let none = no_points b (alone.gathered (λ one. let no : ⊥ = true≢false (sym (eq-eqb (length b) 1 one) ∙ is) in no)) in
        inl (omega (arith, new_point, none))
  ] refl

  early_then : x.edition.number + cond (point h == point more) 0 1 + 1 ≤ size more + x.edition.version
  early_then =
      let before = early_most (point h == point h) x.edition.number (size h + x.edition.version) x.early in
      omega (arith, bb.some, ap length joined, length-append (journals h) b, before, most (point h == point more)) where
        most : (v : Bool) → cond v 0 1 ≤ 1
        most true = omega arith
        most false = omega arith

  floor_same : floor_behind more x.parts.gone ≡ floor_behind h x.parts.gone
  floor_same = floor_kept h b x.none bb.some x.parts.gone (omega (arith, x.parts.at, size_parts (point h) h x.none x.parts)) (omega (arith, some_journal (journals h) x.lawful.journals_are))

  -- A block more behind a file of which all is gone that was purged or is hidden: the image has the history with the block from
  -- where it began on, and only what the last journal hides may stand in it still.
  pub grown : HasBlockMore x.keeps.file b new → StandsBy (point h) (hidden_before more) new more
  grown stands =
      let floor = floor_behind h x.parts.gone in
      let has : HasBlocks (floor_behind h x.parts.gone) x.edition (x.keeps.blocks ++ b ∷ []) new =
      file_more (floor_behind h x.parts.gone) x.edition x.keeps.blocks b image new x.keeps.file (subst (λ (m : ℕ). IsBlock m b) (sym number) bb) stands in
      record {
        edition = x.edition;
        parts = record { gone = x.parts.gone; kept = x.parts.kept ++ b ∷ []; are = ap (λ (l : List (List Entry)). l ++ b ∷ []) x.parts.are ∙ append_assoc x.parts.gone x.parts.kept (b ∷ []); at = x.parts.at };
        keeps = record { blocks = x.keeps.blocks ++ b ∷ []; file = subst (λ (f : Floor). HasBlocks f x.edition (x.keeps.blocks ++ b ∷ []) new) (sym floor_same) has; same = same_then };
        early = early_then;
        none = refl;
        lawful = lawful_then;
        wide = x.wide;
      }

  -- .. so it stands for it
  pub grows : HasBlockMore x.keeps.file b new → StandsFor new more
  grows stands = record { floor = point h; begins = begins; file = grown stands }

  at_point : point more ≡ point h → (floor : ℕ) → (floor ≡ point more) ⊎ (floor ≡ point_before more) → floor ≡ point more
  at_point same floor (inl at) = at
  at_point same floor (inr at) = at ∙ omega (arith, same, before_is, new_point, parts) where
    parts : greatest_point b ≡ max (greatest_point (take (length b - 1) b)) (greatest_point (drop (length b - 1) b))
    parts = ap greatest_point (sym (take-append-drop (length b - 1) b)) ∙ two_points (take (length b - 1) b) (drop (length b - 1) b)

  -- .. and it is clean, where no journal of the block hides another or purges
  pub grows_erased : ((target : Entry) → list_any (hides target) b ≡ false) → point more ≡ point h → StandsFor new more → IsErased new more
  grows_erased none same y = stands_erased new more y (at_point same y.floor y.begins) (λ n t. new_before n ∙ shown n t) where
    shown : (n : ℕ) → is_hidden more n ≡ true → is_hidden h n ≡ true
    shown n t = sym (old n) ∙ right_none (is_hidden_by (journals_of h.closed) (target n)) (is_hidden_by b (target n)) (hide_none b (target n) none) (sym (hidden_push h.closed b n) ∙ t) where
      right_none : (v w : Bool) → w ≡ false → (v || w) ≡ true → v ≡ true
      right_none true w e t = refl
      right_none false w e t = sym e ∙ t
