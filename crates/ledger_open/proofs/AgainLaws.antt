-- What is written is read again: one file has one list of blocks.
use Rattle.std.specs.Int.{from_be_bytes, to_be_bytes, w32, w64}
use Rattle.std.specs.Prelude.{Result, Ok, Err}
use Rattle.std.proofs.Common.{◌≡◌, ◌≢◌, ℕ, ◌+◌, List, [], ◌∷◌, ◌++◌, length, get_or, take, drop, refl, sym, ◌∙◌, ap, subst, arith, append_assoc, length-drop, ◌≤◌}
use Rattle.std.proofs.lemmas.List.{take_at, drop_at, take-append-le, drop-append-le}
use Rattle.std.proofs.lemmas.Nat.{from_be_bytes-to_be_bytes_4}
use Rattle.ledger_bytes.specs.declared.failure.Bad.{Bad}
use Rattle.journal_record.specs.Entry.{Entry}
use Rattle.journal_record.specs.Header.{spelling}
use Rattle.journal_record.specs.declared.header.Header.{Header}
use Rattle.journal_record.proofs.Spelling.{length-spelling}
use Rattle.journal_record.proofs.ReadingLaws.{header_of_only}
use Rattle.journal_record.specs.Blocks.{record_bytes, body_of, block_bytes, leaves_of, AreBlocks, written_blocks}
use Rattle.journal_record.specs.Records.{IsReadable, AreReadable}
use Rattle.ledger_bytes.specs.declared.limits.TheConstants.{BLOCK_LIMIT}
use Rattle.block_file.specs.File.{open_blocks, IsFileOf}
use Rattle.block_file.specs.Head.{version_in, number_at}
use Rattle.ledger_open.specs.Heads.{Edition, edition_from, IsFront}
use Rattle.ledger_open.specs.Standing.{Floor, HasBlocks}
use Rattle.ledger_open.proofs.SizeLaws.{GivesDigests, readable}

-- fronts of one length are the same
pub same_fronts : {A : Type 0} (a b c d : List A) → length a ≡ length b → a ++ c ≡ b ++ d → (a ≡ b) × (c ≡ d)
same_fronts {A = A} a b c d size is = (
  sym (take_at a c (length a) refl) ∙ ap (λ (l : List A). take (length a) l) is ∙ take_at b d (length a) (sym size),
  sym (drop_at a c (length a) refl) ∙ ap (λ (l : List A). drop (length a) l) is ∙ drop_at b d (length a) (sym size),
)

read_or : Header → Result Header Bad → Header
read_or h (Ok k) = k
read_or h (Err e) = h

-- one spelling, one header
spelled_same : (e f : Entry) → IsReadable e → IsReadable f → spelling e.header ≡ spelling f.header → e.header ≡ f.header
unfolding read_or
spelled_same e f ee ff is =
    ap (read_or e.header) (sym (header_of_only (spelling e.header) e.header ee.rules ee.widths refl) ∙ header_of_only (spelling e.header) f.header ff.rules ff.widths is)

abbrev entry : Header → List ℕ → List ℕ → Entry
entry h c w = record { header = h; content = c; who = w }

pub entry_is : (e f : Entry) → e.header ≡ f.header → e.content ≡ f.content → e.who ≡ f.who → e ≡ f
entry_is e f h c w =
    ap (λ (x : Header). entry x e.content e.who) h ∙ ap (λ (x : List ℕ). entry f.header x e.who) c ∙ ap (λ (x : List ℕ). entry f.header f.content x) w

regroup : (a b c d r : List ℕ) → (a ++ (b ++ (c ++ d))) ++ r ≡ a ++ (b ++ (c ++ (d ++ r)))
regroup a b c d r = append_assoc a (b ++ (c ++ d)) r ∙ ap (λ (l : List ℕ). a ++ l) (append_assoc b (c ++ d) r) ∙ ap (λ (l : List ℕ). a ++ (b ++ l)) (append_assoc c d r)

pub record_again : (e f : Entry) (r s : List ℕ) → IsReadable e → IsReadable f → record_bytes e ++ r ≡ record_bytes f ++ s → (e ≡ f) × (r ≡ s)
record_again e f r s ee ff is =
    let flat = sym (regroup (spelling e.header) (to_be_bytes w32 (length e.who)) e.content e.who r) ∙ is ∙ regroup (spelling f.header) (to_be_bytes w32 (length f.who)) f.content f.who s in
    let one = same_fronts (spelling e.header) (spelling f.header) _ _ (length-spelling e.header ee.widths ∙ sym (length-spelling f.header ff.widths)) flat in
    let head = spelled_same e f ee ff one.0 in
    let two = same_fronts (to_be_bytes w32 (length e.who)) (to_be_bytes w32 (length f.who)) _ _ refl one.1 in
    let count : length e.who ≡ length f.who =
    sym (from_be_bytes-to_be_bytes_4 (length e.who) (omega (arith, ee.who))) ∙ ap (λ (l : List ℕ). from_be_bytes w32 l) two.0 ∙ from_be_bytes-to_be_bytes_4 (length f.who) (omega (arith, ff.who)) in
    let size : length e.content ≡ length f.content = ee.content ∙ ap (λ (x : Header). x.content_len) head ∙ sym ff.content in
    let three = same_fronts e.content f.content _ _ size two.1 in
    let four = same_fronts e.who f.who _ _ count three.1 in
    (entry_is e f head three.0 four.0, four.1)

pub records_again : (es fs : List Entry) (r s : List ℕ) → length es ≡ length fs → AreReadable es → AreReadable fs → body_of es ++ r ≡ body_of fs ++ s → (es ≡ fs) × (r ≡ s)
records_again [] [] r s size ee ff is = (refl, is)
records_again [] (f ∷ fs) r s size ee ff is = absurd cc
records_again (e ∷ es) [] r s size ee ff is = absurd cc
records_again (e ∷ es) (f ∷ fs) r s size ee ff is =
    let one = record_again e f (body_of es ++ r) (body_of fs ++ s) ee.0 ff.0 (sym (append_assoc (record_bytes e) (body_of es) r) ∙ is ∙ append_assoc (record_bytes f) (body_of fs) s) in
    let two = records_again es fs r s (omega (arith, size)) ee.1 ff.1 one.1 in
    (ap (λ (x : Entry). x ∷ es) one.0 ∙ ap (λ (xs : List Entry). f ∷ xs) two.0, two.1)

pub block_again : (a b : List ℕ) (es fs : List Entry) (r s : List ℕ) → length a ≡ 32 → length b ≡ 32 → length es ≤ BLOCK_LIMIT → length fs ≤ BLOCK_LIMIT → AreReadable es → AreReadable fs
    → block_bytes a es ++ r ≡ block_bytes b fs ++ s → (a ≡ b) × (es ≡ fs) × (r ≡ s)
unfolding block_bytes
block_again a b es fs r s aa bb few_es few_fs ee ff is =
    let flat = sym (regroup (to_be_bytes w32 (length es)) (to_be_bytes w64 (length (body_of es))) a (body_of es) r) ∙ is ∙ regroup (to_be_bytes w32 (length fs)) (to_be_bytes w64 (length (body_of fs))) b (body_of fs) s in
    let one = same_fronts (to_be_bytes w32 (length es)) (to_be_bytes w32 (length fs)) _ _ refl flat in
    let count : length es ≡ length fs =
    sym (from_be_bytes-to_be_bytes_4 (length es) (omega (arith, few_es))) ∙ ap (λ (l : List ℕ). from_be_bytes w32 l) one.0 ∙ from_be_bytes-to_be_bytes_4 (length fs) (omega (arith, few_fs)) in
    let two = same_fronts (to_be_bytes w64 (length (body_of es))) (to_be_bytes w64 (length (body_of fs))) _ _ refl one.1 in
    let three = same_fronts a b _ _ (aa ∙ sym bb) two.1 in
    let four = records_again es fs r s count ee ff three.1 in
    (three.0, four.0, four.1)

pub blocks_again : (root : List (List ℕ) → List ℕ) → GivesDigests root → (seen : List (List ℕ)) (n : ℕ) (h k : List (List Entry)) (g i : ℕ) (r s : List ℕ) → AreBlocks n h → AreBlocks n k → g ≢ 1 → i ≢ 1
    → open_blocks (written_blocks root seen h) ++ g ∷ r ≡ open_blocks (written_blocks root seen k) ++ i ∷ s → h ≡ k
blocks_again root size seen n [] [] g i r s hh kk gg ii is = refl
blocks_again root size seen n [] (c ∷ cs) g i r s hh kk gg ii is = absurd (gg (ap (λ (l : List ℕ). get_or l 0 0) is))
blocks_again root size seen n (b ∷ bs) [] g i r s hh kk gg ii is = absurd (ii (sym (ap (λ (l : List ℕ). get_or l 0 0) is)))
blocks_again root size seen n (b ∷ bs) (c ∷ cs) g i r s hh kk gg ii is =
    let behind = ap (λ (l : List ℕ). drop 1 l) is in
    let x = block_bytes (root (seen ++ leaves_of b)) b in
    let y = block_bytes (root (seen ++ leaves_of c)) c in
    let one = block_again (root (seen ++ leaves_of b)) (root (seen ++ leaves_of c)) b c (open_blocks (written_blocks root (seen ++ leaves_of b) bs) ++ g ∷ r) (open_blocks (written_blocks root (seen ++ leaves_of c) cs) ++ i ∷ s) (size (seen ++ leaves_of b)) (size (seen ++ leaves_of c)) hh.0.most kk.0.most (readable n b hh.0.entries) (readable n c kk.0.entries)
    (sym (append_assoc (block_bytes (root (seen ++ leaves_of b)) b) (open_blocks (written_blocks root (seen ++ leaves_of b) bs)) (g ∷ r)) ∙ behind ∙ append_assoc (block_bytes (root (seen ++ leaves_of c)) c) (open_blocks (written_blocks root (seen ++ leaves_of c) cs)) (i ∷ s)) in
    let there : AreBlocks (n + length b) cs = subst (λ (x : List Entry). AreBlocks (n + length x) cs) (sym one.1) kk.1 in
    let two = blocks_again root size (seen ++ leaves_of b) (n + length b) bs cs g i r s hh.1 there gg ii
    (one.2 ∙ ap (λ (x : List Entry). open_blocks (written_blocks root (seen ++ leaves_of x) cs) ++ i ∷ s) (sym one.1)) in
    ap (λ (x : List Entry). x ∷ bs) one.1 ∙ ap (λ (xs : List (List Entry)). c ∷ xs) two

pub number_front : (at : ℕ) (x r : List ℕ) → at + 8 ≤ length x → number_at at (x ++ r) ≡ number_at at x
number_front at x r long =
    ap (λ (l : List ℕ). from_be_bytes w64 (take 8 l)) (drop-append-le at x r (omega (arith, long)))
    ∙ ap (λ (l : List ℕ). from_be_bytes w64 l) (take-append-le 8 (drop at x) r (omega (arith, long, length-drop at x)))

-- the head of a file tells its edition and its base
pub front_again : (g i : Edition) (b c f e r s : List ℕ) → IsFront g b f → IsFront i c e → f ++ r ≡ e ++ s → (g ≡ i) × (b ≡ c) × (r ≡ s)
front_again g i b c f e r s ff ee is =
    let count : length b ≡ length c =
    sym ff.base_len ∙ sym (number_front 18 f r (omega (arith, ff.size))) ∙ ap (number_at 18) is ∙ number_front 18 e s (omega (arith, ee.size)) ∙ ee.base_len in
    let one = same_fronts f e r s (omega (arith, ff.size, ee.size, count)) is in
    let version = sym ff.version ∙ ap version_in one.0 ∙ ee.version in
    let number = sym ff.generation_is ∙ ap (number_at 10) one.0 ∙ ee.generation_is in
    (ap (λ (v : ℕ). edition_from v g.number) version ∙ ap (edition_from i.version) number, sym ff.base_is ∙ ap (λ (l : List ℕ). drop 64 l) one.0 ∙ ee.base_is, one.1)

-- a file by its front, and what is behind it
pub flat : (front : List ℕ) (blocks : List (List ℕ)) (file : List ℕ) (s : IsFileOf front blocks file) → file ≡ front ++ (open_blocks blocks ++ s.gate ∷ s.rest)
flat front blocks file s = s.is ∙ append_assoc front (open_blocks blocks) (s.gate ∷ s.rest)

-- a file has one list of blocks
pub blocks_unique : (floor : Floor) (g i : Edition) (bs cs : List (List Entry)) (image : List ℕ) → GivesDigests floor.root → HasBlocks floor g bs image → HasBlocks floor i cs image → (g ≡ i) × (bs ≡ cs)
blocks_unique floor g i bs cs image size x y =
    let one = front_again g i floor.base floor.base x.front y.front _ _ x.head y.head (sym (flat x.front _ image x.stands) ∙ flat y.front _ image y.stands) in
    (one.0, blocks_again floor.root size [] floor.first bs cs x.stands.gate y.stands.gate x.stands.rest y.stands.rest x.lawful y.lawful x.stands.shut y.stands.shut one.2)
