-- A file that stands for a history begins with its base, and its history goes on with what is read of it.
use Rattle.std.specs.Prelude.{All, true, false, Option, Some, None}
use Rattle.std.specs.List.{list_any}
use Rattle.std.proofs.Common.{◌≡◌, ◌≢◌, ◌⊎◌, inl, inr, ℕ, ◌<◌, ◌≤◌, List, [], ◌∷◌, ◌++◌, ◌-◌, length, get_or, map, take, drop, take-append-drop, refl, sym, ◌∙◌, ap, subst, arith, length-append}
use Rattle.std.proofs.lemmas.Bool.{true≢false}
use Rattle.std.proofs.lemmas.List.{get_or_append_left, map-append, length-map, take_at}
use Rattle.std.proofs.lemmas.List.Elements.{All-head, All-tail}
use Rattle.journal_record.specs.Entry.{Entry}
use Rattle.journal_record.specs.declared.header.Kind.{Kind}
use Rattle.journal_record.specs.declared.header.Kind.TheVariants as kind
use Rattle.journal_record.specs.declared.member.Member.{Member}
use Rattle.block_file.specs.declared.failure.Damage.{Damage}
use Rattle.clue_index.specs.Added.{states_at}
use Rattle.ledger_book.proofs.SeenLaws.{all_behind}
use Rattle.ledger_model.specs.Behind.{AreBehind, is_purge_to}
use Rattle.ledger_model.specs.Bases.{base_of, clues_added}
use Rattle.ledger_model.specs.Members.{members}
use Rattle.ledger_model.proofs.PointLaws.{point_is_time}
use Rattle.ledger_model.proofs.HideLaws.{first_shown}
use Rattle.ledger_model.specs.History.{History, history, journals, journals_of, size, point, greatest_point}
use Rattle.ledger_model.specs.Lawful.{AreLawful, IsBlock}
use Rattle.ledger_model.specs.Targets.{is_hidden, kind_at}
use Rattle.pseudo_genesis.specs.declared.base.Base.{Base}
use Rattle.ledger_open.specs.Heads.{Edition}
use Rattle.ledger_open.specs.Damages.{IsDamage}
use Rattle.ledger_open.specs.Opening.{GoesOn, HasWhole, HasLawfulBlocks}
use Rattle.ledger_open.specs.Standing.{Floor, floor_from, floor_behind, HasBlocks, SameButHidden, StandsBy, StandsFor, AllKept, hidden_before, point_before}
use Rattle.ledger_open.specs.Starts.{IsDecoded, IsBaseOf, AreFounded, HasOwnPurge}
use Rattle.ledger_open.proofs.AgainLaws.{blocks_unique}
use Rattle.ledger_open.proofs.DamageLaws.{starts, none_damaged}
use Rattle.ledger_open.proofs.FloorLaws.{floor_first}
use Rattle.ledger_open.proofs.KeptLaws.{all_kept, same_weaker, header_any_same}
use Rattle.ledger_open.proofs.NextLaws.{lawful_front}
use Rattle.ledger_open.proofs.OwnLaws.{founded_kept, blocks_kept}
use Rattle.ledger_book.proofs.OwnLaws.{leads_to}
use Rattle.ledger_open.proofs.OwnPurges.{reaches}
use Rattle.ledger_open.proofs.PartLaws.{first_ones, floor_few, halves, kept_from}
use Rattle.ledger_open.proofs.SeenLaws.{all_ground, behind_kept}
use Rattle.ledger_open.proofs.StartLaws.{digests_from, start_once}
use Rattle.ledger_open.proofs.WidthLaws.{base_rules}

-- the base of a history with which a file begins that doesn't have these blocks, or none
pub record HasStart (h : History) (gone : List (List Entry)) : Type 0 where
  pub start : Option Base
  pub decoded : IsDecoded start
  pub floor : floor_behind h gone ≡ floor_from start
  pub base : IsBaseOf start h

module _ (image : List ℕ) (h : History) (s : StandsFor image h) where
  abbrev x : StandsBy s.floor (hidden_before h) image h
  x = s.file

  gone_there : (g : List Entry) (gs : List (List Entry)) → g ∷ gs ≡ x.parts.gone → 1 ≤ length (journals_of (g ∷ gs))
  gone_there g gs is =
      let blocks : All IsBlock (g ∷ gs) = subst (All IsBlock) (sym is) (first_ones s.floor h x.lawful.blocks_are x.parts) in
      omega (arith, (All-head IsBlock g gs blocks).some, length-append g (journals_of gs))

  own_start : (gone : List (List Entry)) → gone ≡ x.parts.gone → HasStart h gone
  own_start [] is = record { start = None; decoded = tt; floor = refl; base = tt }
  own_start (g ∷ gs) is = record { start = Some (base_of h (length (journals_of (g ∷ gs)))); decoded = rules; floor = refl; base = refl } where
    some : 1 ≤ length (journals_of x.parts.gone)
    some = subst (λ (l : List (List Entry)). 1 ≤ length (journals_of l)) is (gone_there g gs is)

    rules : IsDecoded (Some (base_of h (length (journals_of (g ∷ gs)))))
    rules = subst (λ (l : List (List Entry)). IsDecoded (Some (base_of h (length (journals_of l))))) (sym is) (base_rules s.floor (hidden_before h) image h x some (floor_few image h s))

  pub start_of : HasStart h x.parts.gone
  start_of = own_start x.parts.gone refl

  pub own_blocks : HasBlocks (floor_from start_of.start) x.edition x.keeps.blocks image
  own_blocks = subst (λ (f : Floor). HasBlocks f x.edition x.keeps.blocks image) start_of.floor x.keeps.file

  start_is : (start : Option Base) (blocks : List (List Entry)) (edition : Edition) → IsDecoded start → HasBlocks (floor_from start) edition blocks image → start_of.start ≡ start
  start_is start blocks edition decoded y = start_once image start_of.start start (starts start_of.start x.edition x.keeps.blocks image own_blocks start_of.decoded) (starts start edition blocks image y decoded)

  -- a file with this base, or none, begins there
  pub floor_same : (start : Option Base) (blocks : List (List Entry)) (edition : Edition) → IsDecoded start → HasBlocks (floor_from start) edition blocks image → floor_behind h x.parts.gone ≡ floor_from start
  floor_same start blocks edition decoded y = start_of.floor ∙ ap floor_from (start_is start blocks edition decoded y)

  pub floor_there : (start : Option Base) (blocks : List (List Entry)) (edition : Edition) → IsDecoded start → HasBlocks (floor_from start) edition blocks image → s.floor ≡ (floor_from start).first
  floor_there start blocks edition decoded y = sym (floor_first h x.parts.gone ∙ x.parts.at) ∙ ap (λ (f : Floor). f.first) (floor_same start blocks edition decoded y)

  -- a history that a file with these blocks stands for goes on with them
  pub goes_by : (start : Option Base) (blocks : List (List Entry)) (edition : Edition) → IsDecoded start → HasBlocks (floor_from start) edition blocks image → GoesOn start blocks h
  goes_by start blocks edition decoded y =
      let is : start_of.start ≡ start = start_is start blocks edition decoded y in
      let fx : HasBlocks (floor_from start) x.edition x.keeps.blocks image = subst (λ (t : Option Base). HasBlocks (floor_from t) x.edition x.keeps.blocks image) is own_blocks in
      let one : x.keeps.blocks ≡ blocks = (blocks_unique (floor_from start) x.edition edition x.keeps.blocks blocks image (digests_from start decoded) fx y).1 in
      record {
        lawful = x.lawful;
        none = x.none;
        parts = record { gone = x.parts.gone; kept = x.parts.kept; are = x.parts.are; at = sym (floor_first h x.parts.gone) ∙ ap (λ (f : Floor). f.first) (start_of.floor ∙ ap floor_from is) };
        base = subst (λ (t : Option Base). IsBaseOf t h) is start_of.base;
        same = subst (λ (bs : List (List Entry)). SameButHidden (is_hidden h) (λ n. false) x.parts.kept bs) one
            (same_weaker (is_hidden h) (hidden_before h) (is_hidden h) (λ n. false) (λ n s. s) (λ n z. let no : ⊥ = true≢false (sym z) in absurd no) x.parts.kept x.keeps.blocks x.keeps.same);
      }

pub goes_on : (image : List ℕ) (h : History) (start : Option Base) (blocks : List (List Entry)) (edition : Edition) → StandsFor image h → IsDecoded start → HasBlocks (floor_from start) edition blocks image → GoesOn start blocks h
goes_on image h start blocks edition s decoded y = goes_by image h s start blocks edition decoded y

-- ---- what a file has of a history is whole

last_ones : (bs cs : List (List Entry)) → All IsBlock (bs ++ cs) → All IsBlock cs
last_ones [] cs all = all
last_ones (b ∷ bs) cs all = last_ones bs cs (All-tail IsBlock b (bs ++ cs) all)

module _ (image : List ℕ) (h : History) (s : StandsFor image h) where
  abbrev y : StandsBy s.floor (hidden_before h) image h
  y = s.file

  own : HasStart h y.parts.gone
  own = start_of image h s

  kept_all : AllKept (is_hidden h) (hidden_before h) (journals_of y.parts.kept) (journals_of y.keeps.blocks)
  kept_all = all_kept (is_hidden h) (hidden_before h) y.parts.kept y.keeps.blocks y.keeps.same

  both : journals h ≡ journals_of y.parts.gone ++ journals_of y.parts.kept
  both = halves s.floor h y.none y.parts

  lawful_both : AreLawful (journals_of y.parts.gone ++ journals_of y.parts.kept)
  lawful_both = subst AreLawful both y.lawful.journals_are

  -- the purge to the floor is there, where that isn't 0
  led : s.floor ≢ 0 → list_any (leads_to s.floor) (journals_of y.keeps.blocks) ≡ true
  led some =
      sym (header_any_same (is_hidden h) (hidden_before h) (is_purge_to s.floor) (journals_of y.parts.kept) (journals_of y.keeps.blocks) kept_all)
      ∙ ap (list_any (leads_to s.floor)) (kept_from s.floor h y.none y.parts)
      ∙ reaches h s.floor y.lawful.journals_are s.begins some

-- a floor that isn't 0 is the number of a time journal
floor_time : (h : History) (floor : ℕ) → AreLawful (journals h) → (floor ≡ point h) ⊎ (floor ≡ point_before h) → 0 < floor → kind_at h floor ≡ kind.Time
unfolding point
floor_time h floor lawful (inl at) some = ap (kind_at h) at ∙ (point_is_time (journals h) lawful (omega (arith, at, some))).1
floor_time h floor lawful (inr at) some = by_some (take (size h - 1) (journals h)) refl where
  by_some : (es : List Entry) → es ≡ take (size h - 1) (journals h) → kind_at h floor ≡ kind.Time
  by_some [] is = let none : floor ≡ 0 = at ∙ ap greatest_point (sym is) in absurd (omega (arith, none, some))
  by_some (e ∷ es) is =
      let front = e ∷ es in
      let rest = drop (size h - 1) (journals h) in
      let parts : journals h ≡ front ++ rest = sym (take-append-drop (size h - 1) (journals h)) ∙ ap (λ (l : List Entry). l ++ rest) (sym is) in
      let own : AreLawful front = lawful_front front rest (omega arith) (subst AreLawful parts lawful) in
      let same : floor ≡ greatest_point front = at ∙ ap greatest_point (sym is) in
      let time = point_is_time front own (omega (arith, same, some)) in
      ap (λ (l : List Entry). get_or (map (λ (j : Entry). j.header.kind) l) floor kind.Genesis) parts
      ∙ ap (λ (l : List Kind). get_or l floor kind.Genesis) (map-append (λ (j : Entry). j.header.kind) front rest)
      ∙ get_or_append_left (map (λ (j : Entry). j.header.kind) front) (map (λ (j : Entry). j.header.kind) rest) kind.Genesis floor (omega (arith, same, time.0, length-map front (λ (j : Entry). j.header.kind)))
      ∙ ap (λ n. get_or (map (λ (j : Entry). j.header.kind) front) n kind.Genesis) same ∙ time.1

first_kind : (low es : List Entry) (e : Entry) (more : List Entry) → es ≡ e ∷ more → get_or (map (λ (j : Entry). j.header.kind) (low ++ es)) (length low) kind.Genesis ≡ e.header.kind
first_kind [] es e more is = ap (λ (l : List Entry). get_or (map (λ (j : Entry). j.header.kind) l) 0 kind.Genesis) is
first_kind (x ∷ low) es e more is = first_kind low es e more is

module _ (image : List ℕ) (h : History) (s : StandsFor image h) where
  -- each journal that it has is the next one
  next_there : (gone : List (List Entry)) (is : gone ≡ s.file.parts.gone) → AreBehind (own_start image h s gone is).start [] (journals_of s.file.parts.kept)
  unfolding own_start
  next_there [] is = all_ground (journals_of s.file.parts.kept) (subst (λ (l : List (List Entry)). AreLawful (journals_of l ++ journals_of s.file.parts.kept)) (sym is) (lawful_both image h s))
  next_there (g ∷ gs) is =
      let low = journals_of (g ∷ gs) in
      let es = journals_of s.file.parts.kept in
      let p = length low in
      let parts : journals h ≡ low ++ es = both image h s ∙ ap (λ (l : List (List Entry)). journals_of l ++ es) (sym is) in
      let fronts : take p (journals h) ≡ low = ap (take p) parts ∙ take_at low es p refl in
      let at : p ≡ s.floor = ap (λ (l : List (List Entry)). length (journals_of l)) is ∙ s.file.parts.at in
      let some : 1 ≤ p = gone_there image h s g gs is in
      all_behind (base_of h p) low some refl (ap (λ (l : List Entry). map (λ (m : Member). m.key) (members (history [] l))) fronts) (ap (λ (l : List Entry). states_at p (clues_added 0 l)) fronts) es (subst AreLawful parts s.file.lawful.journals_are)
      (λ e more first. sym (first_kind low es e more first) ∙ ap (λ (l : List Entry). get_or (map (λ (j : Entry). j.header.kind) l) p kind.Genesis) (sym parts) ∙ ap (kind_at h) at ∙ floor_time h s.floor s.file.lawful.journals_are s.begins (omega (arith, some, at)))

  founded_there : (gone : List (List Entry)) (is : gone ≡ s.file.parts.gone) → AreFounded (own_start image h s gone is).start (journals_of s.file.keeps.blocks)
  unfolding own_start
  founded_there [] is =
      founded_kept (is_hidden h) (hidden_before h) (journals_of s.file.parts.kept) (journals_of s.file.keeps.blocks) (kept_all image h s) (first_shown h s.file.lawful.journals_are)
      (subst (λ (l : List (List Entry)). AreLawful (journals_of l ++ journals_of s.file.parts.kept)) (sym is) (lawful_both image h s))
  founded_there (g ∷ gs) is = tt

  own_there : (gone : List (List Entry)) (is : gone ≡ s.file.parts.gone) → HasOwnPurge (own_start image h s gone is).start (journals_of s.file.keeps.blocks)
  unfolding own_start
  own_there [] is = refl
  own_there (g ∷ gs) is =
      let at : length (journals_of (g ∷ gs)) ≡ s.floor = ap (λ (l : List (List Entry)). length (journals_of l)) is ∙ s.file.parts.at in
      let some : 1 ≤ length (journals_of (g ∷ gs)) = gone_there image h s g gs is in
      ap (λ (n : ℕ). list_any (leads_to n) (journals_of s.file.keeps.blocks)) at ∙ led image h s (λ none. omega (arith, some, at, none))

  pub stands_whole : HasWhole image (start_of image h s).start s.file.keeps.blocks
  unfolding start_of own_start
  stands_whole = record {
    edition = s.file.edition;
    has = own_blocks image h s;
    base = (start_of image h s).decoded;
    legal = record {
      next = behind_kept (start_of image h s).start (is_hidden h) (hidden_before h) [] [] (journals_of s.file.parts.kept) (journals_of s.file.keeps.blocks) tt (kept_all image h s) (next_there s.file.parts.gone refl);
      blocks_are = blocks_kept (is_hidden h) (hidden_before h) s.file.parts.kept s.file.keeps.blocks s.file.keeps.same (last_ones s.file.parts.gone s.file.parts.kept (subst (All IsBlock) s.file.parts.are s.file.lawful.blocks_are));
      founded = founded_there s.file.parts.gone refl;
    };
    reached = own_there s.file.parts.gone refl;
  }

pub stands_lawful : (image : List ℕ) (h : History) → StandsFor image h → HasLawfulBlocks image
stands_lawful image h s = ((start_of image h s).start, s.file.keeps.blocks, stands_whole image h s)

-- it has no damage
pub stands_undamaged : (image : List ℕ) (h : History) (damage : Damage) → StandsFor image h → IsDamage image damage → ⊥
stands_undamaged image h damage s = none_damaged image (start_of image h s).start s.file.keeps.blocks (stands_whole image h s) damage
