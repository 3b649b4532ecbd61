-- A file that is read no further has one damage, and a pair that isn't opened one cause.
use Rattle.std.specs.Prelude.{Err, Bool, Option, Some, None}
use Rattle.std.proofs.Common.{◌≡◌, ◌≢◌, ◌⊎◌, inl, inr, ℕ, ◌+◌, ◌-◌, ◌<◌, ◌≤◌, List, [], ◌∷◌, ◌++◌, length, get_or, take, drop, refl, sym, ◌∙◌, ap, subst, arith, append-nil, length-append, length-take, length-drop}
use Rattle.std.proofs.lemmas.Bool.{cases_lt}
use Rattle.std.proofs.lemmas.List.{take-take, get_or-drop, get_or-take}
use Rattle.block_file.proofs.OnceLaws.{block_once, length_same}
use Rattle.block_file.proofs.ParseLaws.{given}
use Rattle.block_file.specs.Blocks.{AreBlock, IsOpenBlock, IsBlockErr}
use Rattle.block_file.specs.File.{IsShutAt, open_blocks}
use Rattle.block_file.specs.Head.{IsShut, IsHeadErr, IsResumeErr, number_at}
use Rattle.block_file.specs.declared.failure.Damage.{Damage}
use Rattle.block_file.specs.declared.failure.Damage.TheVariants.{Magic, BaseForm, Base, Length, Entry as Entries, Root, Content}
use Rattle.block_file.specs.declared.failure.FileErr.{FileErr}
use Rattle.block_file.specs.declared.failure.FileErr.TheVariants as files
use Rattle.journal_record.specs.Blocks.{leaves_of, IsBlock, AreBlocks, written_blocks}
use Rattle.journal_record.specs.Entry.{Entry, content_digest_of}
use Rattle.ledger_model.specs.Behind.{next_number, IsNextBehind, AreBehind}
use Rattle.ledger_bytes.specs.declared.digest.Digest.{Digest}
use Rattle.ledger_model.specs.History.{journals_of}
use Rattle.pseudo_genesis.specs.declared.base.Base.{Base as Begins}
use Rattle.twin_file.specs.Twin.{choice, IsTaken, IsReopenErr}
use Rattle.twin_file.proofs.TakeLaws.{taken_once, head_err, side_a, side_b}
use Rattle.ledger_open.specs.Damages.{Begun, IsReadTo, IsNotNext, CanShare, IsOtherRoot, IsOtherContent, EndsEarly, IsDamage}
use Rattle.ledger_open.specs.Opening.{IsOpenErr, IsOutside}
use Rattle.block_file.specs.Places.{after_at}
use Rattle.ledger_open.specs.Standing.{Floor, ground, floor_from}
use Rattle.ledger_open.specs.Starts.{AreFounded, AreLegal, HasBase, HasDigest, IsStart, IsBadForm, base_in, blocks_before}
use Rattle.ledger_open.specs.declared.failure.OpenErr.{OpenErr}
use Rattle.ledger_open.specs.declared.failure.OpenErr.TheVariants as errors
use Rattle.ledger_open.proofs.DamageLaws.{some_entry, gate_open, next_of}
use Rattle.ledger_open.proofs.FirstLaws.{first_next}
use Rattle.ledger_open.proofs.FollowLaws.{GoesOn, readings, follows_open, are_block, open_same}
use Rattle.ledger_open.proofs.NextLaws.{behind_index, gather_take}
use Rattle.ledger_open.proofs.OpenLaws.{shut_empty}
use Rattle.ledger_open.proofs.PlaceLaws.{tail_place}
use Rattle.ledger_open.proofs.SizeLaws.{GivesDigests}
use Rattle.ledger_open.proofs.StartLaws.{digests_from, decoded, first_same, start_once, form_begins, form_once, other_digest, digest_begins}

-- ---- the journals of a block

share_front : (k : ℕ) (es : List Entry) → 1 ≤ k → CanShare es → CanShare (take k es)
share_front k es some s = λ one. gather_take k es (s (λ is. one (length-take k es ∙ omega (arith, is, some))))

module _ (start : Option Begins) where
  -- where a journal is told as one that can't follow, the journals up to it don't all follow
  not_first : (before es : List Entry) (jsn : ℕ) (x : IsNotNext start before es jsn) → AreBehind start before es → CanShare es → ⊥
  not_first before es jsn x next share = by x.why where
    by : ((e : Entry) → IsNextBehind start (before ++ take x.index es) (get_or es x.index e).header → ⊥) ⊎ (CanShare (take (x.index + 1) es) → ⊥) → ⊥
    by (inl refused) = refused (some_entry es x.index x.inside) (behind_index start before es x.index (some_entry es x.index x.inside) next x.inside)
    by (inr apart) = apart (share_front (x.index + 1) es (omega arith) share)

  -- .. also where these are the first of more
  not_before : (before es : List Entry) (jsn m : ℕ) (x : IsNotNext start before es jsn) → x.index < m → AreBehind start before (take m es) → CanShare (take m es) → ⊥
  not_before before es jsn m x less next share =
      not_first before (take m es) jsn (record {
        index = x.index;
        inside = omega (arith, x.inside, less, length-take m es);
        number = x.number;
        next = subst (AreBehind start before) (sym front) x.next;
        share = subst CanShare (sym front) x.share;
        why = by x.why;
      }) next share where
        front : take x.index (take m es) ≡ take x.index es
        front = take-take x.index m es (omega (arith, less))

        more : take (x.index + 1) (take m es) ≡ take (x.index + 1) es
        more = take-take (x.index + 1) m es (omega (arith, less))

        by : ((e : Entry) → IsNextBehind start (before ++ take x.index es) (get_or es x.index e).header → ⊥) ⊎ (CanShare (take (x.index + 1) es) → ⊥)
            → ((e : Entry) → IsNextBehind start (before ++ take x.index (take m es)) (get_or (take m es) x.index e).header → ⊥) ⊎ (CanShare (take (x.index + 1) (take m es)) → ⊥)
        by (inl refused) = inl (λ e is.
            refused e (subst (λ (y : Entry). IsNextBehind start (before ++ take x.index es) y.header) (get_or-take m es x.index e less) (subst (λ (l : List Entry). IsNextBehind start (before ++ l) (get_or (take m es) x.index e).header) front is)))
        by (inr apart) = inr (λ can. apart (subst CanShare more can))

  not_once : (before es : List Entry) (i j : ℕ) → IsNotNext start before es i → IsNotNext start before es j → i ≡ j
  not_once before es i j x y =
      elim (cases_lt x.index y.index) [
        | inl less ↦ absurd (not_before before es i y.index x less y.next y.share)
        | inr le ↦ elim (cases_lt y.index x.index) [
          | inl less ↦ absurd (not_before before es j x.index y less x.next x.share)
          | inr other ↦ omega (arith, le, other, x.number, y.number)
        ]
      ]

-- ---- why the block behind those that were read isn't taken

-- these journals stand there under this root
record Here (file : List ℕ) (start : Option Begins) (ks : List (List Entry)) (at : ℕ) (root : List ℕ) (es : List Entry) : Type 0 where
  pub are : AreBlock (next_number start (journals_of ks)) es
  pub stands : IsOpenBlock at root es file

record IsRefused (file : List ℕ) (start : Option Begins) (ks : List (List Entry)) (at : ℕ) (d : Damage) : Type 0 where
  pub jsn : ℕ
  pub told : d ≡ Entries jsn
  pub root : List ℕ
  pub es : List Entry
  pub here : Here file start ks at root es
  pub other : IsNotNext start (journals_of ks) es jsn

record HasRoot (file : List ℕ) (start : Option Begins) (ks : List (List Entry)) (at : ℕ) (d : Damage) : Type 0 where
  pub kept : Digest
  pub found : Digest
  pub told : d ≡ Root (blocks_before start + length ks) kept found
  pub es : List Entry
  pub here : Here file start ks at kept.0 es
  pub other : IsOtherRoot start ks es kept.0 found.0

record HasContent (file : List ℕ) (start : Option Begins) (ks : List (List Entry)) (at : ℕ) (d : Damage) : Type 0 where
  pub kept : Digest
  pub found : Digest
  pub told : d ≡ Content 0 kept found
  pub first : start ≡ None
  pub none : ks ≡ []
  pub root : List ℕ
  pub es : List Entry
  pub here : Here file start ks at root es
  pub other : IsOtherContent es root kept.0 found.0

record IsShutAway (file : List ℕ) (start : Option Begins) (ks : List (List Entry)) (at : ℕ) (d : Damage) : Type 0 where
  pub told : d ≡ Entries (next_number start (journals_of ks))
  pub shut : IsShutAt at file
  pub early : EndsEarly start ks

abbrev Why : List ℕ → Option Begins → List (List Entry) → ℕ → Damage → Type 0
Why file start ks at d =
    IsShutAway file start ks at d
    ⊎ (IsBlockErr at file (next_number start (journals_of ks)) (files.Damaged d)
    ⊎ (IsRefused file start ks at d ⊎ (HasRoot file start ks at d ⊎ HasContent file start ks at d)))

digest_same : (a b : Digest) → a.0 ≡ b.0 → a ≡ b
digest_same a b is = ap (λ (x : List ℕ). let d : Digest = record { 0 = x } in d) is

first_entry : (a b : Entry) → a ∷ [] ≡ b ∷ [] → a ≡ b
first_entry a b is = ap (λ (l : List Entry). get_or l 0 a) is

some_behind : (file : List ℕ) (at : ℕ) → get_or file at 0 ≡ 1 → 1 ≤ length (drop at file)
some_behind file at is = by (drop at file) (sym is ∙ here_is) where
  here_is : get_or file at 0 ≡ get_or (drop at file) 0 0
  here_is = let e : at ≡ at + 0 = omega arith in ap (λ (k : ℕ). get_or file k 0) e ∙ sym (get_or-drop at file 0 0)

  by : (l : List ℕ) → 1 ≡ get_or l 0 0 → 1 ≤ length l
  by [] one = absurd (omega (arith, one))
  by (x ∷ xs) one = omega arith

module _ (file : List ℕ) (start : Option Begins) (ks : List (List Entry)) (at : ℕ) where
  abbrev number : ℕ
  number = next_number start (journals_of ks)

  abbrev root_of : List Entry → List ℕ
  root_of es = (floor_from start).root (leaves_of (journals_of ks) ++ leaves_of es)

  -- what stands there is one thing
  here_once : (root root′ : List ℕ) (es fs : List Entry) → Here file start ks at root es → Here file start ks at root′ fs → (root ≡ root′) × (es ≡ fs)
  here_once root root′ es fs x y = open_same at number number file root root′ es fs x.stands y.stands x.are y.are

  -- .. and it was read
  here_read : {P : Type 0} (root : List ℕ) (es : List Entry) (d : Damage) → Here file start ks at root es → IsBlockErr at file number (files.Damaged d) → P
  here_read root es d x err = absurd (given at number file root es x.stands x.are (Err (files.Damaged d)) err)

  here_open : {P : Type 0} (root : List ℕ) (es : List Entry) → Here file start ks at root es → get_or file at 0 ≢ 1 → P
  here_open root es x shut = absurd (shut (gate_open at file root es x.stands))

  module _ (d e : Damage) where
    refused_once : IsRefused file start ks at d → IsRefused file start ks at e → d ≡ e
    refused_once x y =
        let same = (here_once x.root y.root x.es y.es x.here y.here).1 in
        x.told ∙ ap Entries (not_once start (journals_of ks) y.es x.jsn y.jsn (subst (λ (l : List Entry). IsNotNext start (journals_of ks) l x.jsn) same x.other) y.other) ∙ sym y.told

    root_once : HasRoot file start ks at d → HasRoot file start ks at e → d ≡ e
    root_once x y =
        let same = here_once x.kept.0 y.kept.0 x.es y.es x.here y.here in
        let found : x.found.0 ≡ y.found.0 = x.other.found_is ∙ ap (λ (l : List Entry). root_of l) same.1 ∙ sym y.other.found_is in
        x.told ∙ ap (λ (k : Digest). Root (blocks_before start + length ks) k x.found) (digest_same x.kept y.kept same.0) ∙ ap (λ (f : Digest). Root (blocks_before start + length ks) y.kept f) (digest_same x.found y.found found) ∙ sym y.told

    content_once : HasContent file start ks at d → HasContent file start ks at e → d ≡ e
    content_once x y =
        let same = (here_once x.root y.root x.es y.es x.here y.here).1 in
        let first = first_entry x.other.first y.other.first (sym x.other.alone ∙ same ∙ y.other.alone) in
        let kept : x.kept.0 ≡ y.kept.0 = x.other.kept_is ∙ ap (λ (f : Entry). f.header.content_digest.0) first ∙ sym y.other.kept_is in
        let found : x.found.0 ≡ y.found.0 = x.other.found_is ∙ ap (λ (f : Entry). content_digest_of f.content) first ∙ sym y.other.found_is in
        x.told ∙ ap (λ (k : Digest). Content 0 k x.found) (digest_same x.kept y.kept kept) ∙ ap (λ (f : Digest). Content 0 y.kept f) (digest_same x.found y.found found) ∙ sym y.told

    refused_root : {P : Type 0} → IsRefused file start ks at d → HasRoot file start ks at e → P
    refused_root x y =
        let same = (here_once x.root y.kept.0 x.es y.es x.here y.here).1 in
        absurd (not_first start (journals_of ks) y.es x.jsn (subst (λ (l : List Entry). IsNotNext start (journals_of ks) l x.jsn) same x.other) y.other.next y.other.share)

    refused_content : {P : Type 0} → IsRefused file start ks at d → HasContent file start ks at e → P
    refused_content x y =
        let same : x.es ≡ y.other.first ∷ [] = (here_once x.root y.root x.es y.es x.here y.here).1 ∙ y.other.alone in
        let there : number ≡ 0 = ap (λ (s : Option Begins). next_number s (journals_of ks)) y.first ∙ ap (λ (l : List (List Entry)). next_number None (journals_of l)) y.none in
        let are : AreBlock 0 (y.other.first ∷ []) = subst (λ (n : ℕ). AreBlock n (y.other.first ∷ [])) there (subst (AreBlock number) same x.here.are) in
        let other : IsNotNext None [] (y.other.first ∷ []) x.jsn =
        subst (λ (l : List (List Entry)). IsNotNext None (journals_of l) (y.other.first ∷ []) x.jsn) y.none
        (subst (λ (s : Option Begins). IsNotNext s (journals_of ks) (y.other.first ∷ []) x.jsn) y.first (subst (λ (l : List Entry). IsNotNext start (journals_of ks) l x.jsn) same x.other)) in
        absurd (not_first None [] (y.other.first ∷ []) x.jsn other (first_next y.other.first [] are) (λ more. absurd (more refl)))

    root_content : {P : Type 0} → HasRoot file start ks at d → HasContent file start ks at e → P
    root_content x y =
        let same = here_once x.kept.0 y.root x.es y.es x.here y.here in
        let plain : (floor_from start).root (leaves_of (journals_of ks) ++ leaves_of x.es) ≡ (ground).root (leaves_of x.es) =
        ap (λ (s : Option Begins). (floor_from s).root (leaves_of (journals_of ks) ++ leaves_of x.es)) y.first ∙ ap (λ (l : List (List Entry)). (ground).root (leaves_of (journals_of l) ++ leaves_of x.es)) y.none in
        absurd (x.other.other (x.other.found_is ∙ plain ∙ ap (λ (l : List Entry). (ground).root (leaves_of l)) same.1 ∙ sym y.other.root_is ∙ sym same.0))

  stands_in : (d : Damage) → IsRefused file start ks at d ⊎ (HasRoot file start ks at d ⊎ HasContent file start ks at d) → (root : List ℕ) × (es : List Entry) × Here file start ks at root es
  stands_in d (inl x) = (x.root, x.es, x.here)
  stands_in d (inr (inl x)) = (x.kept.0, x.es, x.here)
  stands_in d (inr (inr x)) = (x.root, x.es, x.here)

  standing_once : (d e : Damage) → IsRefused file start ks at d ⊎ (HasRoot file start ks at d ⊎ HasContent file start ks at d) → IsRefused file start ks at e ⊎ (HasRoot file start ks at e ⊎ HasContent file start ks at e) → d ≡ e
  standing_once d e (inl x) (inl y) = refused_once d e x y
  standing_once d e (inl x) (inr (inl y)) = refused_root d e x y
  standing_once d e (inl x) (inr (inr y)) = refused_content d e x y
  standing_once d e (inr (inl x)) (inl y) = refused_root e d y x
  standing_once d e (inr (inl x)) (inr (inl y)) = root_once d e x y
  standing_once d e (inr (inl x)) (inr (inr y)) = root_content d e x y
  standing_once d e (inr (inr x)) (inl y) = refused_content e d y x
  standing_once d e (inr (inr x)) (inr (inl y)) = root_content e d y x
  standing_once d e (inr (inr x)) (inr (inr y)) = content_once d e x y

  -- one place, one damage
  why_once : (d e : Damage) → Why file start ks at d → Why file start ks at e → d ≡ e
  why_once d e (inl x) (inl y) = x.told ∙ sym y.told
  why_once d e (inl x) (inr (inl y)) = absurd (x.shut.1 y.0)
  why_once d e (inl x) (inr (inr y)) = let s = stands_in e y in here_open s.0 s.1 s.2 x.shut.1
  why_once d e (inr (inl x)) (inl y) = absurd (y.shut.1 x.0)
  why_once d e (inr (inl x)) (inr (inl y)) = block_once at number file d e x y
  why_once d e (inr (inl x)) (inr (inr y)) = let s = stands_in e y in here_read s.0 s.1 d s.2 x
  why_once d e (inr (inr x)) (inl y) = let s = stands_in d x in here_open s.0 s.1 s.2 y.shut.1
  why_once d e (inr (inr x)) (inr (inl y)) = let s = stands_in d x in here_read s.0 s.1 e s.2 y
  why_once d e (inr (inr x)) (inr (inr y)) = standing_once d e x y

  -- a byte stands there
  there_of : (d : Damage) → Why file start ks at d → 1 ≤ length (drop at file)
  there_of d (inl x) = omega (arith, x.shut.0, length-drop at file)
  there_of d (inr (inl x)) = some_behind file at x.0
  there_of d (inr (inr x)) = let s = stands_in d x in some_behind file at (gate_open at file s.0 s.1 s.2.stands)

-- ---- nothing is read beyond a damage

module _ (file : List ℕ) (start : Option Begins) (digests : GivesDigests (floor_from start).root) (ks : List (List Entry)) (at : ℕ) (b : List Entry) (bs : List (List Entry)) (end : List ℕ)
    (left : drop at file ≡ open_blocks (written_blocks (floor_from start).root (leaves_of (journals_of ks)) (b ∷ bs)) ++ end) (some : 1 ≤ length end) (block : IsBlock (next_number start (journals_of ks)) b) (legal : AreLegal start (ks ++ b ∷ bs)) where
  abbrev own : List ℕ
  own = (floor_from start).root (leaves_of (journals_of ks) ++ leaves_of b)

  here : Here file start ks at own b
  here = record { are = are_block (next_number start (journals_of ks)) b block; stands = follows_open (floor_from start) digests file (leaves_of (journals_of ks)) at end b bs left some }

  passed : (d : Damage) → Why file start ks at d → ⊥
  passed d (inl x) = here_open file start ks at own b here x.shut.1
  passed d (inr (inl x)) = here_read file start ks at own b d here x
  passed d (inr (inr (inl x))) =
      let same = (here_once file start ks at x.root own x.es b x.here here).1 in
      let of = next_of start ks b bs legal in
      not_first start (journals_of ks) b x.jsn (subst (λ (l : List Entry). IsNotNext start (journals_of ks) l x.jsn) same x.other) of.next (λ more. of.block.gathered more)
  passed d (inr (inr (inr (inl x)))) =
      let same = here_once file start ks at x.kept.0 own x.es b x.here here in
      x.other.other (x.other.found_is ∙ ap (λ (l : List Entry). (floor_from start).root (leaves_of (journals_of ks) ++ leaves_of l)) same.1 ∙ sym same.0)
  passed d (inr (inr (inr (inr x)))) =
      let same : b ≡ x.other.first ∷ [] = sym (here_once file start ks at x.root own x.es b x.here here).1 ∙ x.other.alone in
      let founded : AreFounded None (journals_of ((x.other.first ∷ []) ∷ bs)) =
      subst (λ (l : List Entry). AreFounded None (journals_of (l ∷ bs))) same (subst (λ (l : List (List Entry)). AreFounded None (journals_of (l ++ b ∷ bs))) x.none (subst (λ (s : Option Begins). AreFounded s (journals_of (ks ++ b ∷ bs))) x.first legal.founded)) in
      x.other.other (x.other.found_is ∙ sym founded ∙ sym x.other.kept_is)

not_none : (ks : List (List Entry)) (b : List Entry) (bs : List (List Entry)) → ks ++ b ∷ bs ≢ []
not_none ks b bs is = let n = length-append ks (b ∷ bs) in omega (arith, n, ap length is)

module _ (file : List ℕ) (start : Option Begins) (begins : IsStart file start) where
  abbrev floor : Floor
  floor = floor_from start

  digests : GivesDigests floor.root
  digests = digests_from start (decoded file start begins)

  -- a reading that goes on from a damage has none, since it can't
  none_beyond : (ks cs : List (List Entry)) (at place : ℕ) (d e : Damage) (g : GoesOn floor file ks cs at (drop place file)) → IsReadTo file start cs place → Why file start ks at d → Why file start cs place e → g.more ≡ []
  none_beyond ks cs at place d e g read x y = by g.more refl where
    by : (more : List (List Entry)) → g.more ≡ more → g.more ≡ []
    by [] is = is
    by (b ∷ bs) is =
        let are : cs ≡ ks ++ b ∷ bs = g.are ∙ ap (λ (m : List (List Entry)). ks ++ m) is in
        let some : cs ≢ [] = λ none. not_none ks b bs (sym are ∙ none) in
        absurd (passed file start digests ks at b bs (drop place file) (g.left ∙ ap (λ (m : List (List Entry)). open_blocks (written_blocks floor.root (leaves_of (journals_of ks)) m) ++ drop place file) is)
        (there_of file start cs place e y)
        (subst (λ (n : ℕ). IsBlock n b) (omega (arith, first_same start)) (subst (λ (m : List (List Entry)). AreBlocks (floor.first + length (journals_of ks)) m) is g.lawful).0)
        (subst (AreLegal start) are (read.legal some)) d x)

  begun_place : (ks : List (List Entry)) (at : ℕ) → Begun floor file ks at → at ≡ after_at (64 + length floor.base) ks
  begun_place ks at b = sym b.place ∙ tail_place floor digests b.front (64 + length floor.base) ks b.lawful b.head.size

  same_reading : (ks cs : List (List Entry)) (at place : ℕ) (e : Damage) → cs ≡ ks → IsReadTo file start ks at → IsReadTo file start cs place → Why file start cs place e → Why file start ks at e
  same_reading ks cs at place e is x y why =
      let there : place ≡ at = begun_place cs place y.begun ∙ ap (after_at (64 + length floor.base)) is ∙ sym (begun_place ks at x.begun) in
      subst (λ (n : ℕ). Why file start ks n e) there (subst (λ (l : List (List Entry)). Why file start l place e) is why)

  read_once : (ks cs : List (List Entry)) (at place : ℕ) (d e : Damage) → IsReadTo file start ks at → IsReadTo file start cs place → Why file start ks at d → Why file start cs place e → d ≡ e
  read_once ks cs at place d e r t x y =
      elim (readings floor digests file ks cs at place r.begun t.begun) [
        | inl g ↦
            let is : cs ≡ ks = g.are ∙ ap (λ (m : List (List Entry)). ks ++ m) (none_beyond ks cs at place d e g t x y) ∙ append-nil ks in
            why_once file start ks at d e x (same_reading ks cs at place e is r t y)
        | inr g ↦
            let is : ks ≡ cs = g.are ∙ ap (λ (m : List (List Entry)). cs ++ m) (none_beyond cs ks place at e d g r y x) ∙ append-nil cs in
            why_once file start cs place d e (same_reading cs ks place at d is t r x) y
      ]

-- ---- a file

-- its base is wrong
abbrev IsOfBase : List ℕ → Damage → Type 0
IsOfBase file (BaseForm place) = HasDigest file × IsBadForm (base_in file) place
IsOfBase file (Base kept found) = IsDamage file (Base kept found)
IsOfBase file Magic = ⊥
IsOfBase file (Length place kept found) = ⊥
IsOfBase file (Entries jsn) = ⊥
IsOfBase file (Root block kept found) = ⊥
IsOfBase file (Content jsn kept found) = ⊥

-- or some blocks were read, and the next isn't taken
record IsOfBlock (file : List ℕ) (d : Damage) : Type 0 where
  pub start : Option Begins
  pub ks : List (List Entry)
  pub at : ℕ
  pub read : IsReadTo file start ks at
  pub why : Why file start ks at d

split_damage : (file : List ℕ) (d : Damage) → IsDamage file d → IsOfBase file d ⊎ IsOfBlock file d
split_damage file Magic x = absurd x
split_damage file (BaseForm place) x = inl x
split_damage file (Base kept found) x = inl x
split_damage file (Length place kept found) x = inr (record { start = x.0; ks = x.1; at = x.2; read = x.3.read; why = inr (inl x.3.why) })
split_damage file (Entries jsn) (inl x) = inr (record { start = x.0; ks = x.1; at = x.2; read = x.4.read; why = inl (record { told = ap Entries x.3; shut = x.4.shut; early = x.4.early }) })
split_damage file (Entries jsn) (inr (inl x)) = inr (record { start = x.0; ks = x.1; at = x.2; read = x.3.read; why = inr (inl x.3.why) })
split_damage file (Entries jsn) (inr (inr x)) =
    inr (record {
      start = x.0;
      ks = x.1;
      at = x.2;
      read = x.5.read;
      why = inr (inr (inl (record { jsn = jsn; told = refl; root = x.3; es = x.4; here = record { are = x.5.are; stands = x.5.stands }; other = x.6 })));
    })
split_damage file (Root block kept found) x =
    inr (record {
      start = x.0;
      ks = x.1;
      at = x.2;
      read = x.5.read;
      why = inr (inr (inr (inl (record { kept = kept; found = found; told = ap (λ (n : ℕ). Root n kept found) x.4; es = x.3; here = record { are = x.5.are; stands = x.5.stands }; other = x.6 }))));
    })
split_damage file (Content jsn kept found) x =
    inr (record {
      start = None;
      ks = [];
      at = 64;
      read = x.3.read;
      why = inr (inr (inr (inr (record { kept = kept; found = found; told = ap (λ (n : ℕ). Content n kept found) x.2; first = refl; none = refl; root = x.0; es = x.1; here = record { are = x.3.are; stands = x.3.stands }; other = x.4 }))));
    })

-- a file whose base is wrong wasn't read
base_block : {P : Type 0} (file : List ℕ) (d e : Damage) → IsOfBase file d → IsOfBlock file e → P
base_block file Magic e x y = absurd x
base_block file (BaseForm place) e x y = form_begins file place y.start x.0 x.1 y.read.begins
base_block file (Base kept found) e x y = digest_begins file kept found y.start y.read.begins x.0
base_block file (Length place kept found) e x y = absurd x
base_block file (Entries jsn) e x y = absurd x
base_block file (Root block kept found) e x y = absurd x
base_block file (Content jsn kept found) e x y = absurd x

base_once : (file : List ℕ) (d e : Damage) → IsOfBase file d → IsOfBase file e → d ≡ e
base_once file Magic e x y = absurd x
base_once file (Length place kept found) e x y = absurd x
base_once file (Entries jsn) e x y = absurd x
base_once file (Root block kept found) e x y = absurd x
base_once file (Content jsn kept found) e x y = absurd x
base_once file (BaseForm p) (BaseForm q) x y = ap BaseForm (form_once (base_in file) p q x.1 y.1)
base_once file (BaseForm p) (Base kept found) x y = other_digest file kept found x.0 y.0
base_once file (BaseForm p) Magic x y = absurd y
base_once file (BaseForm p) (Length place′ kept′ found′) x y = absurd y
base_once file (BaseForm p) (Entries jsn′) x y = absurd y
base_once file (BaseForm p) (Root block′ kept′ found′) x y = absurd y
base_once file (BaseForm p) (Content jsn′ kept′ found′) x y = absurd y
base_once file (Base kept found) (BaseForm p) x y = other_digest file kept found y.0 x.0
base_once file (Base kept found) (Base k f) x y =
    ap (λ (d : Digest). Base d found) (digest_same kept k (x.0.1 ∙ sym y.0.1)) ∙ ap (λ (d : Digest). Base k d) (digest_same found f (x.0.2 ∙ sym y.0.2))
base_once file (Base kept found) Magic x y = absurd y
base_once file (Base kept found) (Length place′ kept′ found′) x y = absurd y
base_once file (Base kept found) (Entries jsn′) x y = absurd y
base_once file (Base kept found) (Root block′ kept′ found′) x y = absurd y
base_once file (Base kept found) (Content jsn′ kept′ found′) x y = absurd y

block_damage_once : (file : List ℕ) (d e : Damage) → IsOfBlock file d → IsOfBlock file e → d ≡ e
block_damage_once file d e a b =
    let is : b.start ≡ a.start = start_once file b.start a.start b.read.begins a.read.begins in
    read_once file a.start a.read.begins a.ks b.ks a.at b.at d e a.read (subst (λ (s : Option Begins). IsReadTo file s b.ks b.at) is b.read) a.why (subst (λ (s : Option Begins). Why file s b.ks b.at e) is b.why)

pub one_damage : (file : List ℕ) (d e : Damage) → IsDamage file d → IsDamage file e → d ≡ e
one_damage file d e x y = by (split_damage file d x) (split_damage file e y) where
  by : IsOfBase file d ⊎ IsOfBlock file d → IsOfBase file e ⊎ IsOfBlock file e → d ≡ e
  by (inl a) (inl b) = base_once file d e a b
  by (inl a) (inr b) = base_block file d e a b
  by (inr a) (inl b) = base_block file e d b a
  by (inr a) (inr b) = block_damage_once file d e a b

-- its base fits it
start_fits : (file : List ℕ) (start : Option Begins) → IsStart file start → HasBase file
start_fits file None s = omega (arith, s.1)
start_fits file (Some b) s = s.1.there

of_base_fits : (file : List ℕ) (d : Damage) → IsOfBase file d → HasBase file
of_base_fits file (BaseForm place) x = x.0.there
of_base_fits file (Base kept found) x = x.1
of_base_fits file Magic x = absurd x
of_base_fits file (Length place kept found) x = absurd x
of_base_fits file (Entries jsn) x = absurd x
of_base_fits file (Root block kept found) x = absurd x
of_base_fits file (Content jsn kept found) x = absurd x

base_fits : (file : List ℕ) (d : Damage) → IsDamage file d → HasBase file
base_fits file d x = by (split_damage file d x) where
  by : IsOfBase file d ⊎ IsOfBlock file d → HasBase file
  by (inl a) = of_base_fits file d a
  by (inr b) = start_fits file b.start b.read.begins

-- ---- a pair

heads_once : (file : List ℕ) (e f : FileErr) → e ≢ files.DiskFault → f ≢ files.DiskFault → IsHeadErr file e → IsHeadErr file f → e ≡ f
heads_once file files.DiskFault f ne nf x y = absurd (ne refl)
heads_once file files.NoMemory f ne nf x y = absurd x
heads_once file (files.NewerFormat v) files.DiskFault ne nf x y = absurd (nf refl)
heads_once file (files.NewerFormat v) files.NoMemory ne nf x y = absurd y
heads_once file (files.NewerFormat v) (files.NewerFormat w) ne nf x y = ap files.NewerFormat (x.2 ∙ sym y.2)
heads_once file (files.NewerFormat v) (files.Damaged Magic) ne nf x y = absurd (y.1 x.1)
heads_once file (files.Damaged Magic) files.DiskFault ne nf x y = absurd (nf refl)
heads_once file (files.Damaged Magic) files.NoMemory ne nf x y = absurd y
heads_once file (files.Damaged Magic) (files.NewerFormat w) ne nf x y = absurd (x.1 y.1)
heads_once file (files.Damaged Magic) (files.Damaged Magic) ne nf x y = refl
heads_once file (files.NewerFormat v) (files.Damaged (BaseForm place)) ne nf x y = absurd y
heads_once file (files.Damaged Magic) (files.Damaged (BaseForm place)) ne nf x y = absurd y
heads_once file (files.Damaged (BaseForm place)) f ne nf x y = absurd x
heads_once file (files.NewerFormat v) (files.Damaged (Base kept found)) ne nf x y = absurd y
heads_once file (files.Damaged Magic) (files.Damaged (Base kept found)) ne nf x y = absurd y
heads_once file (files.Damaged (Base kept found)) f ne nf x y = absurd x
heads_once file (files.NewerFormat v) (files.Damaged (Length place kept found)) ne nf x y = absurd y
heads_once file (files.Damaged Magic) (files.Damaged (Length place kept found)) ne nf x y = absurd y
heads_once file (files.Damaged (Length place kept found)) f ne nf x y = absurd x
heads_once file (files.NewerFormat v) (files.Damaged (Entries jsn)) ne nf x y = absurd y
heads_once file (files.Damaged Magic) (files.Damaged (Entries jsn)) ne nf x y = absurd y
heads_once file (files.Damaged (Entries jsn)) f ne nf x y = absurd x
heads_once file (files.NewerFormat v) (files.Damaged (Root block kept found)) ne nf x y = absurd y
heads_once file (files.Damaged Magic) (files.Damaged (Root block kept found)) ne nf x y = absurd y
heads_once file (files.Damaged (Root block kept found)) f ne nf x y = absurd x
heads_once file (files.NewerFormat v) (files.Damaged (Content jsn kept found)) ne nf x y = absurd y
heads_once file (files.Damaged Magic) (files.Damaged (Content jsn kept found)) ne nf x y = absurd y
heads_once file (files.Damaged (Content jsn kept found)) f ne nf x y = absurd x

-- a base that reaches too far is told as it is
far_length : (file : List ℕ) (n : ℕ) (e : FileErr) → e ≢ files.DiskFault → IsResumeErr file n e → (e ≡ files.Damaged (Length 18 n (length file - 65))) × (length file - 65 < n)
far_length file n files.DiskFault ne x = absurd (ne refl)
far_length file n files.NoMemory ne x = absurd x
far_length file n (files.NewerFormat v) ne x = absurd x
far_length file n (files.Damaged (Length place kept found)) ne x = (ap files.Damaged (length_same place 18 kept n found (length file - 65) x.0 x.1 x.2), omega (arith, x.1, x.2, x.3))
far_length file n (files.Damaged Magic) ne x = absurd x
far_length file n (files.Damaged (BaseForm place)) ne x = absurd x
far_length file n (files.Damaged (Base kept found)) ne x = absurd x
far_length file n (files.Damaged (Entries jsn)) ne x = absurd x
far_length file n (files.Damaged (Root block kept found)) ne x = absurd x
far_length file n (files.Damaged (Content jsn kept found)) ne x = absurd x

module _ (a b : List ℕ) where
  reopened_once : (e f : FileErr) → e ≢ files.DiskFault → f ≢ files.DiskFault → IsReopenErr a b e → IsReopenErr a b f → e ≡ f
  reopened_once e f ne nf (inl x) (inl y) = heads_once a e f ne nf x y
  reopened_once e f ne nf (inl x) (inr (inl y)) = absurd (ne (head_err a e y.0 x))
  reopened_once e f ne nf (inl x) (inr (inr y)) = absurd (ne (head_err a e (side_a a b y.0 y.1) x))
  reopened_once e f ne nf (inr (inl x)) (inl y) = absurd (nf (head_err a f x.0 y))
  reopened_once e f ne nf (inr (inl x)) (inr (inl y)) = heads_once b e f ne nf x.1 y.1
  reopened_once e f ne nf (inr (inl x)) (inr (inr y)) = absurd (ne (head_err b e (side_b a b y.0 y.1) x.1))
  reopened_once e f ne nf (inr (inr x)) (inl y) = absurd (nf (head_err a f (side_a a b x.0 x.1) y))
  reopened_once e f ne nf (inr (inr x)) (inr (inl y)) = absurd (nf (head_err b f (side_b a b x.0 x.1) y.1))
  reopened_once e f ne nf (inr (inr x)) (inr (inr y)) =
      let same = taken_once a b x.0 y.0 x.1 y.1 in
      (far_length (choice x.0 a b) (number_at 18 (choice x.0 a b)) e ne x.2).0
      ∙ ap (λ (z : Bool). files.Damaged (Length 18 (number_at 18 (choice z a b)) (length (choice z a b) - 65))) same
      ∙ sym (far_length (choice y.0 a b) (number_at 18 (choice y.0 a b)) f nf y.2).0

  -- a file that is taken and damaged has no other cause in front
  taken_only : {P : Type 0} (in_a : Bool) → IsTaken in_a a b → (d : Damage) → IsDamage (choice in_a a b) d → (e : FileErr) → e ≢ files.DiskFault → IsReopenErr a b e → P
  taken_only in_a t d x e ne (inl y) = absurd (ne (head_err a e (side_a a b in_a t) y))
  taken_only in_a t d x e ne (inr (inl y)) = absurd (ne (head_err b e (side_b a b in_a t) y.1))
  taken_only in_a t d x e ne (inr (inr y)) =
      let same = taken_once a b y.0 in_a y.1 t in
      let far = (far_length (choice y.0 a b) (number_at 18 (choice y.0 a b)) e ne y.2).1 in
      let fits = base_fits (choice in_a a b) d x in
      absurd (let far′ : length (choice in_a a b) - 65 < number_at 18 (choice in_a a b) = subst (λ (z : Bool). length (choice z a b) - 65 < number_at 18 (choice z a b)) same far in omega (arith, far′, fits))

  damages_once : (d e : Damage) → IsOpenErr a b (errors.Damaged d) → IsOpenErr a b (errors.Damaged e) → d ≡ e
  damages_once d e (inl x) (inl y) = let same = reopened_once (files.Damaged d) (files.Damaged e) (λ is. let no : ⊥ = cc is in no) (λ is. let no : ⊥ = cc is in no) x y in cc
  damages_once d e (inl x) (inr y) = taken_only y.0 y.1 e y.2 (files.Damaged d) (λ is. let no : ⊥ = cc is in no) x
  damages_once d e (inr x) (inl y) = taken_only x.0 x.1 d x.2 (files.Damaged e) (λ is. let no : ⊥ = cc is in no) y
  damages_once d e (inr x) (inr y) = one_damage (choice x.0 a b) d e x.2 (subst (λ (z : Bool). IsDamage (choice z a b) e) (sym (taken_once a b x.0 y.0 x.1 y.1)) y.2)

  newer_damaged : {P : Type 0} (v : ℕ) (d : Damage) → IsOpenErr a b (errors.NewerFormat v) → IsOpenErr a b (errors.Damaged d) → P
  newer_damaged v d x (inl y) = absurd (let no : ⊥ = cc (reopened_once (files.NewerFormat v) (files.Damaged d) (λ is. let no : ⊥ = cc is in no) (λ is. let no : ⊥ = cc is in no) x y) in no)
  newer_damaged v d x (inr y) = taken_only y.0 y.1 d y.2 (files.NewerFormat v) (λ is. let no : ⊥ = cc is in no) x

  -- both shut, and nothing else
  empty_once : (f : OpenErr) → (IsOutside f → ⊥) → IsShut a × IsShut b → IsOpenErr a b f → errors.Empty ≡ f
  empty_once f not s y = elim (shut_empty a b s.0 s.1 f y) [ inl out ↦ absurd (not out) | inr is ↦ sym is ]

  pub one_cause : (e f : OpenErr) → (IsOutside e → ⊥) → (IsOutside f → ⊥) → IsOpenErr a b e → IsOpenErr a b f → e ≡ f
  one_cause errors.DiskFault f ne nf x y = absurd (ne tt)
  one_cause errors.NoMemory f ne nf x y = absurd (ne tt)
  one_cause errors.Exists f ne nf x y = absurd x
  one_cause errors.Empty f ne nf x y = empty_once f nf x y
  one_cause (errors.NewerFormat v) errors.DiskFault ne nf x y = absurd (nf tt)
  one_cause (errors.NewerFormat v) errors.NoMemory ne nf x y = absurd (nf tt)
  one_cause (errors.NewerFormat v) errors.Exists ne nf x y = absurd y
  one_cause (errors.NewerFormat v) errors.Empty ne nf x y = sym (empty_once (errors.NewerFormat v) ne y x)
  one_cause (errors.NewerFormat v) (errors.NewerFormat w) ne nf x y =
      let same = reopened_once (files.NewerFormat v) (files.NewerFormat w) (λ is. let no : ⊥ = cc is in no) (λ is. let no : ⊥ = cc is in no) x y in
      let number : v ≡ w = cc in ap errors.NewerFormat number
  one_cause (errors.NewerFormat v) (errors.Damaged d) ne nf x y = newer_damaged v d x y
  one_cause (errors.Damaged d) errors.DiskFault ne nf x y = absurd (nf tt)
  one_cause (errors.Damaged d) errors.NoMemory ne nf x y = absurd (nf tt)
  one_cause (errors.Damaged d) errors.Exists ne nf x y = absurd y
  one_cause (errors.Damaged d) errors.Empty ne nf x y = sym (empty_once (errors.Damaged d) ne y x)
  one_cause (errors.Damaged d) (errors.NewerFormat v) ne nf x y = newer_damaged v d y x
  one_cause (errors.Damaged d) (errors.Damaged e) ne nf x y = ap errors.Damaged (damages_once d e x y)
