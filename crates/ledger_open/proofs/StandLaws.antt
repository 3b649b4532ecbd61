-- The copy of a file that stands for a history, from the point on, stands for it too.
use Rattle.std.specs.Prelude.{All, Bool, true, false, if◌then◌else◌}
use Rattle.std.proofs.Common.{◌≡◌, inl, inr, ℕ, ◌+◌, ◌-◌, ◌^◌, ◌<◌, ◌≤◌, ◌==◌, List, [], ◌∷◌, ◌++◌, length, take, drop, refl, sym, ◌∙◌, ap, subst, arith}
use Rattle.std.proofs.lemmas.Bool.{eqb-true}
use Rattle.std.proofs.lemmas.List.{take_at, drop_at}
use Rattle.std.proofs.lemmas.List.Elements.{All-take}
use Rattle.block_file.specs.File.{IsFileOf, open_blocks, tail_of, whole_file}
use Rattle.block_file.specs.Head.{front_of}
use Rattle.journal_record.specs.Blocks as blocks
use Rattle.journal_record.specs.Blocks.{AreBlocks, leaves_of, written_blocks}
use Rattle.journal_record.specs.Entry.{Entry}
use Rattle.journal_record.specs.Header.{HasWidths}
use Rattle.journal_record.specs.Rules.{content_len_ok}
use Rattle.journal_record.specs.declared.header.Header.{Header}
use Rattle.journal_record.specs.declared.header.Kind.{Kind}
use Rattle.ledger_model.proofs.HideLaws.{first_shown}
use Rattle.ledger_model.proofs.LawfulLaws.{genesis_first}
use Rattle.ledger_model.proofs.PointLaws.{points_few}
use Rattle.ledger_model.specs.Bases.{base_of}
use Rattle.ledger_model.specs.History.{History, journals, journals_of, size, point}
use Rattle.ledger_model.specs.Lawful.{AreLawful}
use Rattle.ledger_model.specs.Targets.{is_hidden}
use Rattle.pseudo_genesis.specs.Bases as bases
use Rattle.pseudo_genesis.specs.Bases.{IsBase, base_spelling}
use Rattle.ledger_open.specs.Cutting.{first_gate, gate_behind}
use Rattle.ledger_open.specs.Heads.{edition_from, IsFront}
use Rattle.ledger_open.specs.Standing.{Floor, HasBlocks, SameButHidden, AllKept, HasFounders, AreWide, StandsBy, floor_behind}
use Rattle.ledger_open.proofs.CopyLaws.{Halves, copied, halves, same_leaves, same_count, written_parts, length_written}
use Rattle.ledger_open.proofs.FloorLaws.{floor_digests}
use Rattle.ledger_open.proofs.FrontLaws.{front_is, whole_stands}
use Rattle.ledger_open.proofs.HidingLaws.{from_blocks}
use Rattle.ledger_open.proofs.KeptLaws.{all_kept}
use Rattle.ledger_open.proofs.PartLaws as parts
use Rattle.ledger_open.proofs.HeadLaws.{one_or_two}
use Rattle.ledger_open.proofs.PartLaws.{early_at}
use Rattle.ledger_open.proofs.PlaceLaws.{after_kept, tail_place}
use Rattle.ledger_open.proofs.PlaceMoves.{copied_bytes}
use Rattle.ledger_open.proofs.SplitLaws as split
use Rattle.ledger_open.proofs.WidthLaws.{standing_wide, rules_at}

-- ---- the first journal's content

founders_front : (es fs : List Entry) → HasFounders (es ++ fs) → HasFounders es
founders_front [] fs f = tt
founders_front (e ∷ es) fs f = f

long_by : (hid gone : ℕ → Bool) (m : ℕ) (es fs : List Entry) → blocks.AreFrom m fs → AllKept hid gone es fs → hid 0 ≡ false → AreLawful es → HasFounders es
long_by hid gone m [] fs from a shown lawful = tt
long_by hid gone m (e ∷ es) [] from a shown lawful = absurd a
long_by hid gone m (e ∷ es) (f ∷ fs) from a shown lawful =
    let first = lawful.next.0 in
    let genesis = genesis_first e.header.kind e.header.jsn first.jsn first.layout.jsn in
    let long : e.header.content_len ≡ 64 = eqb-true e.header.content_len 64 (subst (λ (k : Kind). content_len_ok k e.header.content_len ≡ true) genesis first.layout.content_len) in
    let same = a.0.shown (ap hid first.jsn ∙ shown) in
    sym (ap length same) ∙ from.0.content ∙ ap (λ (x : Header). x.content_len) a.0.header ∙ long

blocks_front : (n : ℕ) (as_ bs : List (List Entry)) → AreBlocks n (as_ ++ bs) → AreBlocks n as_
blocks_front n [] bs are = tt
blocks_front n (a ∷ as_) bs are = (are.0, blocks_front (n + length a) as_ bs are.1)

module _ (floor : ℕ) (zeros : ℕ → Bool) (image : List ℕ) (h : History) (x : StandsBy floor zeros image h) (below : floor < point h) where
  abbrev hid : ℕ → Bool
  hid = is_hidden h

  abbrev front : List (List Entry)
  front = split.front h x.lawful x.none floor x.parts below

  abbrev behind : List (List Entry)
  behind = split.behind h x.lawful x.none floor x.parts below

  abbrev old : Floor
  old = floor_behind h x.parts.gone

  two : Halves hid zeros front behind x.keeps.blocks
  two = halves hid zeros front behind x.keeps.blocks (subst (λ (l : List (List Entry)). SameButHidden hid zeros l x.keeps.blocks) (split.kept_are h x.lawful x.none floor x.parts below) x.keeps.same)

  -- the blocks of the copy, as they are written
  pub rest : List (List ℕ)
  rest = drop (length two.first) (written_blocks old.root [] x.keeps.blocks)

  halves_are : journals h ≡ journals_of x.parts.gone ++ journals_of x.parts.kept
  halves_are = parts.halves floor h x.none x.parts

  first_long : HasFounders (journals h)
  first_long = by_gone (journals_of x.parts.gone) refl x.wide.founders where
    kept_long : journals_of x.parts.gone ≡ [] → HasFounders (journals h)
    kept_long none =
        let same : journals h ≡ journals_of x.parts.kept = halves_are ∙ ap (λ (l : List Entry). l ++ journals_of x.parts.kept) none in
        subst HasFounders (sym same) (long_by hid zeros _ (journals_of x.parts.kept) (journals_of x.keeps.blocks) (from_blocks _ x.keeps.blocks x.keeps.file.lawful) (all_kept hid zeros x.parts.kept x.keeps.blocks x.keeps.same)
        (first_shown h x.lawful.journals_are) (subst AreLawful same x.lawful.journals_are))

    by_gone : (es : List Entry) → journals_of x.parts.gone ≡ es → HasFounders (journals_of x.parts.gone) → HasFounders (journals h)
    by_gone [] is f = kept_long is
    by_gone (e ∷ es) is f = subst HasFounders (sym (halves_are ∙ ap (λ (l : List Entry). l ++ journals_of x.parts.kept) is)) (subst HasFounders is f)

  wide_front : (es fs : List Entry) → journals h ≡ es ++ fs → AreWide es
  wide_front es fs is = record {
    headers = subst (All (λ (e : Entry). HasWidths e.header)) (ap (take (length es)) is ∙ take_at es fs (length es) refl) (All-take (λ (e : Entry). HasWidths e.header) (length es) (journals h) (standing_wide floor zeros image h x));
    founders = founders_front es fs (subst HasFounders is first_long);
  }

  -- the base there keeps the rules of one
  pub base_there : IsBase (base_of h (point h)) × bases.HasWidths (base_of h (point h))
  base_there =
      let gone = x.parts.gone ++ front in
      rules_at h gone behind (point h) x.lawful x.none (split.closed_are h x.lawful x.none floor x.parts below) (split.gone_at h x.lawful x.none floor x.parts below) (omega (arith, below)) (points_few h 0 x.lawful.journals_are).0 (standing_wide floor zeros image h x)
      (wide_front (journals_of gone) (journals_of behind) (parts.halves (point h) h x.none (split.parts_there h x.lawful x.none floor x.parts below))).founders

  -- its generation is at most the size
  pub lower : x.edition.number ≤ size h
  lower = by_floor (floor == point h) refl x.early where
    version : x.edition.version ≤ 2
    version = elim (one_or_two x.edition.version x.keeps.file.head.format) [ inl one ↦ omega (arith, one) | inr two ↦ omega (arith, two) ]

    by_floor : (v : Bool) → (floor == point h) ≡ v → x.edition.number + (if v then 0 else 1) + 1 ≤ size h + x.edition.version → x.edition.number ≤ size h
    by_floor true is early = let same : floor ≡ point h = eqb-true floor (point h) is in absurd (omega (arith, same, below))
    by_floor false is early = omega (arith, early, version)

  -- the copy stands for the history
  pub copy_stands : (base : List ℕ) (next : ℕ) → base ≡ base_spelling (base_of h (point h)) → next ≡ x.edition.number + 1 → next < 2 ^ 64 → length base < 2 ^ 64 → StandsBy (point h) zeros (whole_file (front_of 1 next base) rest) h
  unfolding rest
  copy_stands base next spelled is fits short =
      let t = two in
      let there = split.parts_there h x.lawful x.none floor x.parts below in
      let whole : h.closed ≡ x.parts.gone ++ (front ++ behind) = x.parts.are ∙ ap (λ (l : List (List Entry)). x.parts.gone ++ l) (split.kept_are h x.lawful x.none floor x.parts below) in
      let new_floor = split.floor_there h x.lawful x.none floor x.parts below in
      let file : HasBlocks old x.edition (t.first ++ t.second) image = subst (λ (l : List (List Entry)). HasBlocks old x.edition l image) t.are x.keeps.file in
      let new = whole_file (front_of 1 next base) (drop (length t.first) (written_blocks old.root [] x.keeps.blocks)) in
      let stands : IsFileOf (front_of 1 next base) (drop (length t.first) (written_blocks old.root [] (t.first ++ t.second))) new =
      subst (λ (l : List (List Entry)). IsFileOf (front_of 1 next base) (drop (length t.first) (written_blocks old.root [] l)) new) t.are (whole_stands (front_of 1 next base) (drop (length t.first) (written_blocks old.root [] x.keeps.blocks))) in
      let head : IsFront (edition_from 2 next) (floor_behind h (x.parts.gone ++ front)).base (front_of 1 next base) =
      subst (λ (l : List ℕ). IsFront (edition_from 2 next) l (front_of 1 next base)) (spelled ∙ ap (λ (f : Floor). f.base) (sym new_floor)) (front_is 1 next base refl fits short) in
      record {
        edition = edition_from 2 next;
        parts = there;
        keeps = record {
          blocks = t.second;
          file = copied h x.parts.gone front behind whole t.first t.second (same_leaves hid zeros front t.first t.one) x.edition (edition_from 2 next) image new (front_of 1 next base) file (same_count hid zeros front t.first t.one) head stands;
          same = t.two;
        };
        early = early_at (point h) (point h) next (size h + 2) refl (omega (arith, is, lower));
        none = x.none;
        lawful = x.lawful;
        wide = wide_front (journals_of (x.parts.gone ++ front)) (journals_of behind) (parts.halves (point h) h x.none there);
      }

  -- what is copied of the file
  pub rest_taken : take (gate_behind old x.parts.kept - gate_behind old front) (drop (gate_behind old front) image) ≡ open_blocks rest
  unfolding rest
  rest_taken =
      let t = two in
      let f = x.keeps.file in
      let digests = floor_digests h x.parts.gone x.parts.kept x.parts.are in
      let ws = written_blocks old.root [] x.keeps.blocks in
      let as_ = written_blocks old.root [] t.first in
      let bs = written_blocks old.root (leaves_of (journals_of t.first)) t.second in
      let cut : ws ≡ as_ ++ bs = ap (written_blocks old.root []) t.are ∙ written_parts old.root [] t.first t.second in
      let rest_is : drop (length t.first) ws ≡ bs = ap (drop (length t.first)) cut ∙ drop_at as_ bs (length t.first) (length_written old.root [] t.first) in
      let lawful : AreBlocks old.first t.first = blocks_front old.first t.first t.second (subst (AreBlocks old.first) t.are f.lawful) in
      let low : tail_of f.front as_ ≡ gate_behind old front = tail_place old digests f.front (first_gate old) t.first lawful f.head.size ∙ sym (after_kept hid zeros (first_gate old) front t.first t.one) in
      let high : tail_of f.front (as_ ++ bs) ≡ gate_behind old x.parts.kept =
      ap (tail_of f.front) (sym cut) ∙ tail_place old digests f.front (first_gate old) x.keeps.blocks f.lawful f.head.size ∙ sym (after_kept hid zeros (first_gate old) x.parts.kept x.keeps.blocks x.keeps.same) in
      ap (λ (n : ℕ). take (n - gate_behind old front) (drop (gate_behind old front) image)) (sym high)
      ∙ ap (λ (n : ℕ). take (tail_of f.front (as_ ++ bs) - n) (drop n image)) (sym low)
      ∙ copied_bytes f.front image as_ bs (subst (λ (l : List (List ℕ)). IsFileOf f.front l image) cut f.stands)
      ∙ ap open_blocks (sym rest_is)
