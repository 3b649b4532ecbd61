-- A file that has lawful blocks has no damage.
use Rattle.std.specs.Prelude.{Option, Some, None, Err, ◌⊎◌}
use Rattle.std.proofs.Common.{◌≡◌, ◌≢◌, inl, inr, ℕ, ◌+◌, ◌<◌, ◌≤◌, List, [], ◌∷◌, ◌++◌, length, get_or, take, drop, refl, sym, ◌∙◌, ap, subst, arith, append-nil, length-append, length-drop}
use Rattle.std.proofs.lemmas.List.Concat.{flat_map-append}
use Rattle.std.proofs.lemmas.List.{get_or-drop, take-append-le, drop-append-le, take_at}
use Rattle.block_file.specs.Blocks.{IsOpenBlock, AreBlock}
use Rattle.block_file.specs.File.{open_blocks}
use Rattle.block_file.specs.Head.{digest_of, number_at}
use Rattle.block_file.specs.declared.failure.Damage.{Damage}
use Rattle.block_file.specs.declared.failure.Damage.TheVariants.{Magic, BaseForm, Base, Length, Entry as Entries, Root, Content}
use Rattle.block_file.specs.declared.failure.FileErr.TheVariants.{Damaged}
use Rattle.block_file.proofs.ParseLaws.{given}
use Rattle.journal_record.specs.Blocks.{leaves_of, IsBlock, written_blocks}
use Rattle.journal_record.specs.Entry.{Entry, content_digest_of}
use Rattle.ledger_model.specs.Behind.{next_number, IsNextBehind, AreBehind}
use Rattle.ledger_model.specs.History.{journals_of}
use Rattle.ledger_model.specs.Lawful as lawful
use Rattle.ledger_model.specs.Lawful.{IsFounded}
use Rattle.pseudo_genesis.specs.Bases.{base_spelling}
use Rattle.pseudo_genesis.specs.declared.base.Base.{Base as Begins}
use Rattle.ledger_open.specs.Heads.{Edition}
use Rattle.ledger_open.specs.Damages.{IsReadTo, IsNextHere, IsNotNext, CanShare, IsOtherRoot, IsOtherContent, IsBlockDamage, EndsEarly, IsCutShort, IsDamage}
use Rattle.ledger_open.specs.Opening.{HasWhole}
use Rattle.ledger_open.specs.Standing.{Floor, ground, floor_of, floor_from, HasBlocks}
use Rattle.ledger_open.specs.Starts.{IsDecoded, AreFounded, AreLegal, HasBase, IsStart, base_in, HasOwnPurge}
use Rattle.ledger_open.proofs.AgainLaws.{flat, number_front}
use Rattle.ledger_open.proofs.FollowLaws.{IsBehind, behind, behind_none, behind_open, behind_block, are_block, open_same}
use Rattle.ledger_open.proofs.HeadLaws.{has_head}
use Rattle.ledger_open.proofs.NextLaws.{behind_rest, behind_front, behind_index, share_take}
use Rattle.ledger_open.proofs.SizeLaws.{GivesDigests}
use Rattle.ledger_open.proofs.StartLaws.{digests_from, first_same, spelled_some, start_once, form_begins, digest_begins}

pub gate_open : (at : ℕ) (file root : List ℕ) (es : List Entry) → IsOpenBlock at root es file → get_or file at 0 ≡ 1
gate_open at file root es o =
    let e : at ≡ at + 0 = omega arith in
    ap (λ (k : ℕ). get_or file k 0) e ∙ sym (get_or-drop at file 0 0) ∙ ap (λ (l : List ℕ). get_or l 0 0) o.is

-- one of some journals
pub some_entry : (es : List Entry) (i : ℕ) → i < length es → Entry
some_entry [] i lt = absurd (omega (arith, lt))
some_entry (e ∷ es) i lt = e

-- what can be said of the next block of lawful blocks
pub record IsNextOf (start : Option Begins) (ks : List (List Entry)) (b : List Entry) : Type 0 where
  pub next : AreBehind start (journals_of ks) b
  pub block : lawful.IsBlock b

pub next_of : (start : Option Begins) (ks : List (List Entry)) (b : List Entry) (bs : List (List Entry)) → AreLegal start (ks ++ b ∷ bs) → IsNextOf start ks b
next_of start ks b bs l =
    let next : AreBehind start [] (journals_of ks ++ (b ++ journals_of bs)) = subst (AreBehind start []) (flat_map-append (λ (x : List Entry). x) ks (b ∷ bs)) l.next in
    let size : length ks < length (ks ++ b ∷ bs) = omega (arith, length-append ks (b ∷ bs)) in
    record {
      next = behind_front start (journals_of ks) b (journals_of bs) (behind_rest start [] (journals_of ks) (b ++ journals_of bs) next);
      block = subst lawful.IsBlock (get_or_here ks b bs) (l.blocks_are (length ks) [] size);
    } where
      get_or_here : (ks : List (List Entry)) (b : List Entry) (bs : List (List Entry)) → get_or (ks ++ b ∷ bs) (length ks) [] ≡ b
      get_or_here [] b bs = refl
      get_or_here (k ∷ ks) b bs = get_or_here ks b bs

-- ---- a file with blocks begins with its base

module _ (floor : Floor) (edition : Edition) (cs : List (List Entry)) (file : List ℕ) (x : HasBlocks floor edition cs file) where
  tail : List ℕ
  tail = open_blocks (written_blocks floor.root [] cs) ++ x.stands.gate ∷ x.stands.rest

  file_is : file ≡ x.front ++ tail
  unfolding tail
  file_is = flat x.front (written_blocks floor.root [] cs) file x.stands

  room : 1 ≤ length tail
  unfolding tail
  room = omega (arith, length-append (open_blocks (written_blocks floor.root [] cs)) (x.stands.gate ∷ x.stands.rest))

  pub number_is : number_at 18 file ≡ length floor.base
  number_is = ap (number_at 18) file_is ∙ number_front 18 x.front tail (omega (arith, x.head.size)) ∙ x.head.base_len

  pub fits_there : HasBase file
  fits_there = omega (arith, number_is, ap length file_is, length-append x.front tail, room, x.head.size)

  digest_there : length floor.base ≢ 0 → take 32 (drop 26 file) ≡ digest_of floor.base
  digest_there some =
      ap (λ (l : List ℕ). take 32 (drop 26 l)) file_is ∙ ap (λ (l : List ℕ). take 32 l) (drop-append-le 26 x.front tail (omega (arith, x.head.size)))
      ∙ take-append-le 32 (drop 26 x.front) tail (omega (arith, x.head.size, length-drop 26 x.front)) ∙ x.head.digest some

  pub base_there : base_in file ≡ floor.base
  base_there =
      ap (λ (n : ℕ). take n (drop 64 file)) number_is ∙ ap (λ (l : List ℕ). take (length floor.base) (drop 64 l)) file_is
      ∙ ap (take (length floor.base)) (drop-append-le 64 x.front tail (omega (arith, x.head.size)) ∙ ap (λ (l : List ℕ). l ++ tail) x.head.base_is) ∙ take_at floor.base tail (length floor.base) refl

pub starts : (start : Option Begins) (edition : Edition) (cs : List (List Entry)) (file : List ℕ) → HasBlocks (floor_from start) edition cs file → IsDecoded start → IsStart file start
starts None edition cs file x d = (has_head ground edition cs file x, number_is ground edition cs file x)
starts (Some b) edition cs file x d =
    let floor = floor_of b in
    let some : length (base_spelling b) ≢ 0 = λ none. let n = spelled_some b in omega (arith, n, none) in
    let bytes = base_there floor edition cs file x in
    let digest = digest_there floor edition cs file x some in (
      has_head floor edition cs file x,
      record {
        some = λ none. some (sym (number_is floor edition cs file x) ∙ none);
        there = fits_there floor edition cs file x;
        digest = digest ∙ ap digest_of (sym bytes);
      },
      d,
      bytes,
    )

module _ (file : List ℕ) (start : Option Begins) (cs : List (List Entry)) (w : HasWhole file start cs) where
  abbrev floor : Floor
  floor = floor_from start

  begins : IsStart file start
  begins = starts start w.edition cs file w.has w.base

  digests : GivesDigests floor.root
  digests = digests_from start w.base

  -- it is read from there
  same_start : (s : Option Begins) (ks : List (List Entry)) (at : ℕ) → IsReadTo file s ks at → s ≡ start
  same_start s ks at r = start_once file s start r.begins begins

  -- what follows behind the blocks that were read
  back : (ks : List (List Entry)) (at : ℕ) → IsReadTo file start ks at → IsBehind floor file ks cs at
  back ks at r = behind floor digests w.edition file ks cs at r.begun w.has

  block_here : (ks : List (List Entry)) (at : ℕ) (x : IsBehind floor file ks cs at) (b : List Entry) (bs : List (List Entry)) → x.more ≡ b ∷ bs → AreBlock (next_number start (journals_of ks)) b
  block_here ks at x b bs is = are_block (next_number start (journals_of ks)) b (subst (λ (n : ℕ). IsBlock n b) (omega (arith, first_same start)) (behind_block floor digests file ks cs at x b bs is))

  no_block : (ks : List (List Entry)) (at : ℕ) (damage : Damage) → IsBlockDamage file start ks at damage → ⊥
  no_block ks at damage d = by_more (back ks at d.read).more refl where
    by_more : (more : List (List Entry)) → (back ks at d.read).more ≡ more → ⊥
    by_more [] is = behind_none floor file ks cs at (back ks at d.read) is d.why.0
    by_more (b ∷ bs) is =
        given at (next_number start (journals_of ks)) file (floor.root (leaves_of (journals_of ks) ++ leaves_of b)) b (behind_open floor digests file ks cs at (back ks at d.read) b bs is)
        (block_here ks at (back ks at d.read) b bs is) (Err (Damaged damage)) d.why

  -- the block that was read is the next one
  record Same (ks : List (List Entry)) (at : ℕ) (root : List ℕ) (es : List Entry) : Type 0 where
    pub of : IsNextOf start ks es
    pub root_is : root ≡ floor.root (leaves_of (journals_of ks) ++ leaves_of es)
    pub bs : List (List Entry)
    pub are : cs ≡ ks ++ es ∷ bs

  same : (ks : List (List Entry)) (at : ℕ) (root : List ℕ) (es : List Entry) → IsNextHere file start ks at root es → Same ks at root es
  same ks at root es n = by_more (back ks at n.read).more refl where
    by_more : (more : List (List Entry)) → (back ks at n.read).more ≡ more → Same ks at root es
    by_more [] is = absurd (behind_none floor file ks cs at (back ks at n.read) is (gate_open at file root es n.stands))
    by_more (b ∷ bs) is =
        let m = next_number start (journals_of ks) in
        let o = open_same at m m file root (floor.root (leaves_of (journals_of ks) ++ leaves_of b)) es b n.stands
        (behind_open floor digests file ks cs at (back ks at n.read) b bs is) n.are (block_here ks at (back ks at n.read) b bs is) in
        let are : cs ≡ ks ++ b ∷ bs = (back ks at n.read).are ∙ ap (λ (m : List (List Entry)). ks ++ m) is in
        record {
          of = subst (IsNextOf start ks) (sym o.1) (next_of start ks b bs (subst (AreLegal start) are w.legal));
          root_is = o.0 ∙ ap (λ (l : List Entry). floor.root (leaves_of (journals_of ks) ++ leaves_of l)) (sym o.1);
          bs = bs;
          are = are ∙ ap (λ (l : List Entry). ks ++ l ∷ bs) (sym o.1);
        }

  no_other : (ks : List (List Entry)) (at : ℕ) (root : List ℕ) (es : List Entry) (jsn : ℕ) → IsNextHere file start ks at root es → IsNotNext start (journals_of ks) es jsn → ⊥
  no_other ks at root es jsn n o = by_why o.why where
    s : Same ks at root es
    s = same ks at root es n

    by_why : ((e : Entry) → IsNextBehind start (journals_of ks ++ take o.index es) (get_or es o.index e).header → ⊥) ⊎ (CanShare (take (o.index + 1) es) → ⊥) → ⊥
    by_why (inl refused) = refused (some_entry es o.index o.inside) (behind_index start (journals_of ks) es o.index (some_entry es o.index o.inside) s.of.next o.inside)
    by_why (inr apart) = apart (share_take (o.index + 1) es s.of.block (omega arith))

  no_first : start ≡ None → (root kept found : List ℕ) (es : List Entry) → IsNextHere file start [] 64 root es → IsOtherContent es root kept found → ⊥
  no_first none root kept found es n o =
      let s = same [] 64 root es n in
      let founded : AreFounded None (journals_of (es ∷ s.bs)) = subst (λ (l : List (List Entry)). AreFounded None (journals_of l)) s.are (subst (λ (t : Option Begins). AreFounded t (journals_of cs)) none w.legal.founded) in
      let first : o.first.header.content_digest.0 ≡ content_digest_of o.first.content = subst (λ (l : List Entry). IsFounded (journals_of (l ∷ s.bs))) o.alone founded in
      o.other (o.found_is ∙ sym first ∙ sym o.kept_is)

  -- nothing is missing
  no_early : (s : Option Begins) → s ≡ start → EndsEarly s cs → ⊥
  no_early None is early = subst (λ (l : List (List Entry)). IsFounded (journals_of l)) early (subst (λ (t : Option Begins). AreFounded t (journals_of cs)) (sym is) w.legal.founded)
  no_early (Some b) is early = early (subst (λ (t : Option Begins). HasOwnPurge t (journals_of cs)) (sym is) w.reached)

  no_end : (ks : List (List Entry)) (at : ℕ) → IsCutShort file start ks at → ⊥
  no_end ks at c = by_more (back ks at c.read).more refl where
    by_more : (more : List (List Entry)) → (back ks at c.read).more ≡ more → ⊥
    by_more [] is =
        let all : cs ≡ ks = (back ks at c.read).are ∙ ap (λ (m : List (List Entry)). ks ++ m) is ∙ append-nil ks in
        no_early start refl (subst (EndsEarly start) (sym all) c.early)
    by_more (b ∷ bs) is = c.shut.1 (gate_open at file _ b (behind_open floor digests file ks cs at (back ks at c.read) b bs is))

  pub none_damaged : (damage : Damage) → IsDamage file damage → ⊥
  none_damaged Magic d = d
  none_damaged (BaseForm place) d = form_begins file place start d.0 d.1 begins
  none_damaged (Base kept found) d = digest_begins file kept found start begins d.0
  none_damaged (Length place kept found) d = no_block d.1 d.2 (Length place kept found) (subst (λ (s : Option Begins). IsBlockDamage file s d.1 d.2 (Length place kept found)) (same_start d.0 d.1 d.2 d.3.read) d.3)
  none_damaged (Entries jsn) (inl d) = no_end d.1 d.2 (subst (λ (s : Option Begins). IsCutShort file s d.1 d.2) (same_start d.0 d.1 d.2 d.4.read) d.4)
  none_damaged (Entries jsn) (inr (inl d)) = no_block d.1 d.2 (Entries jsn) (subst (λ (s : Option Begins). IsBlockDamage file s d.1 d.2 (Entries jsn)) (same_start d.0 d.1 d.2 d.3.read) d.3)
  none_damaged (Entries jsn) (inr (inr d)) =
      let is = same_start d.0 d.1 d.2 d.5.read in
      no_other d.1 d.2 d.3 d.4 jsn (subst (λ (s : Option Begins). IsNextHere file s d.1 d.2 d.3 d.4) is d.5) (subst (λ (s : Option Begins). IsNotNext s (journals_of d.1) d.4 jsn) is d.6)
  none_damaged (Root block kept found) d =
      let is = same_start d.0 d.1 d.2 d.5.read in
      let other = subst (λ (s : Option Begins). IsOtherRoot s d.1 d.3 kept.0 found.0) is d.6 in
      let s = same d.1 d.2 kept.0 d.3 (subst (λ (s : Option Begins). IsNextHere file s d.1 d.2 kept.0 d.3) is d.5) in
      other.other (other.found_is ∙ sym s.root_is)
  none_damaged (Content jsn kept found) d =
      let is = same_start None [] 64 d.3.read in
      no_first (sym is) d.0 kept.0 found.0 d.1 (subst (λ (s : Option Begins). IsNextHere file s [] 64 d.0 d.1) is d.3) d.4
