-- Histories of which one file keeps the same, and which a pair of files stands for.
use Rattle.std.specs.List.{list_any}
use Rattle.std.specs.Prelude.{All, Bool, false, slice_get, suc, Option, Some, None}
use Rattle.std.proofs.Common.{◌≡◌, ◌≢◌, ◌⊎◌, ℕ, ◌+◌, ◌-◌, ◌≤◌, ◌||◌, List, [], ◌∷◌, ◌++◌, length, refl, sym, ◌∙◌, ap, subst, arith, length-append}
use Rattle.std.proofs.lemmas.List.Elements.{All-head}
use Rattle.std.proofs.lemmas.List.Folds.{list_any-append}
use Rattle.journal_record.specs.Blocks as blocks
use Rattle.journal_record.specs.Blocks.{AreBlocks}
use Rattle.journal_record.specs.Entry.{Entry}
use Rattle.journal_record.specs.declared.header.Header.{Header}
use Rattle.pseudo_genesis.specs.Bases.{base_spelling, front_text}
use Rattle.pseudo_genesis.specs.declared.base.Base.{Base}
use Rattle.ledger_model.specs.Bases.{base_of}
use Rattle.ledger_model.specs.History.{History, history, journals, journals_of, point}
use Rattle.ledger_model.specs.Lawful.{IsBlock}
use Rattle.ledger_model.specs.Targets.{hides, is_hidden_by, is_hidden}
use Rattle.ledger_model.proofs.BaseLaws.{one_spelling}
use Rattle.ledger_model.proofs.HideLaws.{number_at}
use Rattle.ledger_model.proofs.LawfulLaws.{AreFrom, lawful_from}
use Rattle.twin_file.specs.Twin.{choice}
use Rattle.ledger_open.specs.Standing.{Floor, floor_of, floor_behind, HasBlocks, AllKept, SameButHidden, StandsBy, StandsFor, PairFor, Alike, hidden_before, point_before}
use Rattle.ledger_open.proofs.AgainLaws.{blocks_unique, front_again, flat}
use Rattle.ledger_open.proofs.FloorLaws.{floor_first, floor_digests}
use Rattle.ledger_open.proofs.HeadLaws.{pair_takes, taken_is}
use Rattle.ledger_open.proofs.HidingLaws.{none_hides}
use Rattle.ledger_open.proofs.KeptLaws.{all_kept, same_alike}
use Rattle.ledger_open.proofs.LikeLaws.{hidden_same}
use Rattle.ledger_open.proofs.PartLaws.{halves, first_ones, floor_few}
use Rattle.ledger_open.proofs.WidthLaws.{base_rules}

from_front : (m : ℕ) (es fs : List Entry) → AreFrom m (es ++ fs) → AreFrom m es
from_front m [] fs from = tt
from_front m (e ∷ es) fs from = (from.0, from.1, from_front (m + 1) es fs from.2)

-- one of the journals behind others, by its number among them
got_behind : (es fs : List Entry) (k : ℕ) → slice_get (es ++ fs) (length es + k) ≡ slice_get fs k
got_behind [] fs k = let same : 0 + k ≡ k = omega arith in ap (slice_get fs) same
got_behind (e ∷ es) fs k = let same : length (e ∷ es) + k ≡ suc (length es + k) = omega arith in ap (slice_get (e ∷ es ++ fs)) same ∙ got_behind es fs k

-- those in front of it don't hide it
hidden_behind : (es fs : List Entry) (k : ℕ) → AreFrom 0 (es ++ fs) → is_hidden (history [] (es ++ fs)) (length es + k) ≡ is_hidden (history [] fs) k
hidden_behind es fs k from = ap (is_hidden_by (es ++ fs)) (got_behind es fs k) ∙ by_target (slice_get fs k) refl where
  by_target : (target : Option Entry) → slice_get fs k ≡ target → is_hidden_by (es ++ fs) target ≡ is_hidden_by fs target
  by_target None at = refl
  by_target (Some target) at =
      list_any-append (hides target) es fs
      ∙ ap (λ (v : Bool). v || list_any (hides target) fs) (none_hides target 0 es (from_front 0 es fs from) (omega (arith, number_at 0 (length es + k) (es ++ fs) target from (got_behind es fs k ∙ at))))

-- what hides a journal that a file has stands in the file
pub hidden_here : (floor : ℕ) (zeros : ℕ → Bool) (image : List ℕ) (h : History) (x : StandsBy floor zeros image h) (n : ℕ) → floor ≤ n → is_hidden h n ≡ is_hidden (history [] (journals_of x.keeps.blocks)) (n - floor)
hidden_here floor zeros image h x n le =
    let both = halves floor h x.none x.parts in
    let at : n ≡ length (journals_of x.parts.gone) + (n - floor) = omega (arith, le, x.parts.at) in
    ap (λ (es : List Entry). is_hidden (history [] es) n) both
    ∙ ap (is_hidden (history [] (journals_of x.parts.gone ++ journals_of x.parts.kept))) at
    ∙ hidden_behind (journals_of x.parts.gone) (journals_of x.parts.kept) (n - floor) (subst (AreFrom 0) both (lawful_from (journals h) x.lawful.journals_are))
    ∙ hidden_same (is_hidden h) zeros (journals_of x.parts.kept) (journals_of x.keeps.blocks) (n - floor) (all_kept (is_hidden h) zeros x.parts.kept x.keeps.blocks x.keeps.same)

-- what is kept depends on what is hidden of the journals that are there
all_from : (hid hid′ gone : ℕ → Bool) (p m : ℕ) (es fs : List Entry) → blocks.AreFrom m fs → p ≤ m → ((n : ℕ) → p ≤ n → hid′ n ≡ false → hid n ≡ false) → AllKept hid gone es fs → AllKept hid′ gone es fs
all_from hid hid′ gone p m [] [] from le shown a = tt
all_from hid hid′ gone p m [] (f ∷ fs) from le shown a = absurd a
all_from hid hid′ gone p m (e ∷ es) [] from le shown a = absurd a
all_from hid hid′ gone p m (e ∷ es) (f ∷ fs) from le shown a = (
  record { header = a.0.header; who = a.0.who; shown = λ s. a.0.shown (shown e.header.jsn (omega (arith, le, from.0.jsn, ap (λ (x : Header). x.jsn) a.0.header)) s); zeroed = a.0.zeroed },
  all_from hid hid′ gone p (m + 1) es fs from.1 (omega (arith, le)) shown a.1,
)

same_from : (hid hid′ gone : ℕ → Bool) (p m : ℕ) (bs cs : List (List Entry)) → AreBlocks m cs → p ≤ m → ((n : ℕ) → p ≤ n → hid′ n ≡ false → hid n ≡ false) → SameButHidden hid gone bs cs → SameButHidden hid′ gone bs cs
same_from hid hid′ gone p m [] [] are le shown s = tt
same_from hid hid′ gone p m [] (c ∷ cs) are le shown s = absurd s
same_from hid hid′ gone p m (b ∷ bs) [] are le shown s = absurd s
same_from hid hid′ gone p m (b ∷ bs) (c ∷ cs) are le shown s = (
  all_from hid hid′ gone p m b c are.0.entries le shown s.0,
  same_from hid hid′ gone p (m + length c) bs cs are.1 (omega (arith, le)) shown s.1,
)

some_spelled : (b : Base) → 1 ≤ length (base_spelling b)
unfolding base_spelling front_text
some_spelled b = omega arith

-- one spelling, one base
abbrev OneBase : History → ℕ → History → ℕ → Type 0
OneBase h p k q = 1 ≤ p → 1 ≤ q → base_spelling (base_of h p) ≡ base_spelling (base_of k q) → base_of h p ≡ base_of k q

-- where there are blocks there are journals
abbrev HasSome : List (List Entry) → Type 0
HasSome g = g ≢ [] → 1 ≤ length (journals_of g)

cons_some : (b : List Entry) (bs : List (List Entry)) → HasSome (b ∷ bs) → 1 ≤ length (journals_of (b ∷ bs))
cons_some b bs some = some (λ none. omega (arith, ap length none))

blocks_some : (bs : List (List Entry)) → All IsBlock bs → HasSome bs
blocks_some [] all apart = absurd (apart refl)
blocks_some (b ∷ bs) all apart = omega (arith, (All-head IsBlock b bs all).some, length-append b (journals_of bs))

floors_same : (h k : History) (g i : List (List Entry)) → HasSome g → HasSome i → OneBase h (length (journals_of g)) k (length (journals_of i)) → (floor_behind h g).base ≡ (floor_behind k i).base → (floor_behind h g ≡ floor_behind k i) × (length (journals_of g) ≡ length (journals_of i))
floors_same h k [] [] sg si one is = (refl, refl)
floors_same h k [] (c ∷ cs) sg si one is = absurd (omega (arith, some_spelled (base_of k (length (journals_of (c ∷ cs)))), ap length is))
floors_same h k (b ∷ bs) [] sg si one is = absurd (omega (arith, some_spelled (base_of h (length (journals_of (b ∷ bs)))), ap length is))
floors_same h k (b ∷ bs) (c ∷ cs) sg si one is =
    let same = one (cons_some b bs sg) (cons_some c cs si) is in (ap floor_of same, ap (λ (x : Base). x.point) same)

bases_same : (h k : History) (g i : List (List Entry)) → HasSome g → HasSome i → OneBase h (length (journals_of g)) k (length (journals_of i)) → (floor_behind h g).base ≡ (floor_behind k i).base → (floor : ℕ) → length (journals_of g) ≡ floor → length (journals_of i) ≡ floor → floor ≢ 0 → base_of h floor ≡ base_of k floor
bases_same h k [] i sg si one is floor at there some = absurd (some (sym at))
bases_same h k (b ∷ bs) [] sg si one is floor at there some = absurd (some (sym there))
bases_same h k (b ∷ bs) (c ∷ cs) sg si one is floor at there some =
    ap (base_of h) (sym at) ∙ one (cons_some b bs sg) (cons_some c cs si) is ∙ ap (base_of k) there

-- Histories that one image has agree in what it keeps.
one_history : (p q : ℕ) (zeros zeros′ : ℕ → Bool) (image : List ℕ) (h k : History) (x : StandsBy p zeros image h) (y : StandsBy q zeros′ image k) → (p ≡ point h) ⊎ (p ≡ point_before h) → OneBase h (length (journals_of x.parts.gone)) k (length (journals_of y.parts.gone)) → Alike h k
one_history p q zeros zeros′ image h k x y begins one =
    let fx = x.keeps.file in
    let fy = y.keeps.file in
    let heads = front_again x.edition y.edition (floor_behind h x.parts.gone).base (floor_behind k y.parts.gone).base fx.front fy.front _ _ fx.head fy.head (sym (flat fx.front _ image fx.stands) ∙ flat fy.front _ image fy.stands) in
    let floors = floors_same h k x.parts.gone y.parts.gone (blocks_some x.parts.gone (first_ones p h x.lawful.blocks_are x.parts)) (blocks_some y.parts.gone (first_ones q k y.lawful.blocks_are y.parts)) one heads.1 in
    let at : p ≡ q = sym x.parts.at ∙ floors.1 ∙ y.parts.at in
    let fy′ : HasBlocks (floor_behind h x.parts.gone) y.edition y.keeps.blocks image = subst (λ (f : Floor). HasBlocks f y.edition y.keeps.blocks image) (sym floors.0) fy in
    let same : x.keeps.blocks ≡ y.keeps.blocks = (blocks_unique (floor_behind h x.parts.gone) x.edition y.edition x.keeps.blocks y.keeps.blocks image (floor_digests h x.parts.gone x.parts.kept x.parts.are) fx fy′).1 in
    let kept : SameButHidden (is_hidden k) zeros′ y.parts.kept x.keeps.blocks = subst (λ (bs : List (List Entry)). SameButHidden (is_hidden k) zeros′ y.parts.kept bs) (sym same) y.keeps.same in
    let hide : (n : ℕ) → p ≤ n → is_hidden h n ≡ is_hidden k n =
    λ n le.
    hidden_here p zeros image h x n le ∙ ap (λ (bs : List (List Entry)). is_hidden (history [] (journals_of bs)) (n - p)) same
    ∙ ap (λ (m : ℕ). is_hidden (history [] (journals_of y.keeps.blocks)) (n - m)) at ∙ sym (hidden_here q zeros′ image k y n (omega (arith, le, at))) in
    let first : (floor_behind h x.parts.gone).first ≡ p = floor_first h x.parts.gone ∙ x.parts.at in
    let there : SameButHidden (is_hidden h) zeros′ y.parts.kept x.keeps.blocks =
    same_from (is_hidden k) (is_hidden h) zeros′ p (floor_behind h x.parts.gone).first y.parts.kept x.keeps.blocks fx.lawful (omega (arith, first)) (λ n le s. sym (hide n le) ∙ s) kept in
    record {
      floor = p;
      begins = begins;
      first = x.parts;
      second = record { gone = y.parts.gone; kept = y.parts.kept; are = y.parts.are; at = y.parts.at ∙ sym at };
      base = bases_same h k x.parts.gone y.parts.gone (blocks_some x.parts.gone (first_ones p h x.lawful.blocks_are x.parts)) (blocks_some y.parts.gone (first_ones q k y.lawful.blocks_are y.parts)) one heads.1 p x.parts.at (y.parts.at ∙ sym at);
      blocks = same_alike (is_hidden h) zeros zeros′ x.parts.kept y.parts.kept x.keeps.blocks x.keeps.same there;
    }

one_base : (image : List ℕ) (h k : History) (s : StandsFor image h) (t : StandsFor image k) → OneBase h (length (journals_of s.file.parts.gone)) k (length (journals_of t.file.parts.gone))
one_base image h k s t some_p some_q is =
    one_spelling (base_of h (length (journals_of s.file.parts.gone))) (base_of k (length (journals_of t.file.parts.gone)))
    (base_rules s.floor (hidden_before h) image h s.file some_p (floor_few image h s)) (base_rules t.floor (hidden_before k) image k t.file some_q (floor_few image k t)) is

-- an image stands for one history at most, but for what isn't kept
pub one_image : (image : List ℕ) (h k : History) → StandsFor image h → StandsFor image k → Alike h k
one_image image h k s t = one_history s.floor t.floor (hidden_before h) (hidden_before k) image h k s.file t.file s.begins (one_base image h k s t)

-- .. and so does a pair
pub one_pair : (a b : List ℕ) (h k : History) → PairFor a b h → PairFor a b k → Alike h k
one_pair a b h k p q =
    let same : p.in_a ≡ q.in_a = taken_is p.in_a a b k (pair_takes a b h p) q in
    one_image (choice p.in_a a b) h k p.stands (subst (λ (v : Bool). StandsFor (choice v a b) k) (sym same) q.stands)
