-- The file of a new ledger is clean for its history.
use Rattle.std.proofs.Common.{◌≡◌, inl, inr, ℕ, zero, suc, ◌+◌, true, false, List, [], ◌∷◌, ◌++◌, length, refl, sym, ◌∙◌, ap, subst, arith, length-append, append_assoc, append-nil}
use Rattle.std.proofs.lemmas.Bool.{true≢false}
use Rattle.sha2.proofs.Facts256.{length-sha256}
use Rattle.journal_record.specs.Entry.{Entry}
use Rattle.ledger_model.specs.Genesis.{founders_content, genesis_header, genesis_journal, new_ledger}
use Rattle.ledger_model.specs.History.{point, size, root}
use Rattle.ledger_model.specs.Targets.{is_hidden}
use Rattle.ledger_model.specs.declared.genesis.Genesis.{Genesis}
use Rattle.journal_record.specs.Blocks.{IsEntry, written_blocks, body_of, record_bytes, block_bytes, leaves_of}
use Rattle.block_file.specs.File.{whole_file}
use Rattle.block_file.specs.Head.{IsShut, front_of, digest_of, version_in}
use Rattle.ledger_open.specs.Heads.{edition_from, IsFront}
use Rattle.std.specs.Int.{to_be_bytes, w32, w64}
use Rattle.std.specs.Prelude.{None}
use Rattle.std.proofs.lemmas.List.Elements.{All-nil}
use Rattle.journal_record.specs.Header.{HasWidths, spelling}
use Rattle.journal_record.specs.Records.{AreReadable}
use Rattle.ledger_book.specs.Books.{Kept, Stands, Serves, sealed_size}
use Rattle.ledger_open.proofs.SeenLaws.{all_ground}
use Rattle.sha2.specs.Sha256.{sha256}
use Rattle.tree_model.specs.Tree.{mth}
use Rattle.ledger_open.specs.Starts.{AreLegal}
use Rattle.ledger_book.specs.Seals.{head_of}
use Rattle.ledger_model.specs.History.{History}
use Rattle.merkle_tree.specs.declared.head.Head.{Head}
use Rattle.ledger_open.specs.Opening.{known_from, Knows}
use Rattle.block_file.specs.Places.{after_at, body_from, place_of_lengths, places_at}
use Rattle.block_file.specs.Writing.{block_head, record_with}
use Rattle.block_file.specs.declared.place.PlaceAt.{PlaceAt}
use Rattle.ledger_disk.specs.Disk.{State, settled_state}
use Rattle.ledger_model.specs.Genesis.{HasKeys}
use Rattle.twin_file.specs.Images.{AreShut, IsMadeOrShut}
use Rattle.ledger_open.specs.Founding.{IsFounded, IsFoundedOrShut}
use Rattle.ledger_open.specs.Growing.{new_file}
use Rattle.ledger_open.proofs.GrowLaws.{erased_stands}
use Rattle.ledger_open.proofs.KnownLaws.{knows_whole}
use Rattle.ledger_open.proofs.PartLaws.{early_at, sides_pair}
use Rattle.ledger_open.proofs.SizeLaws.{block_size, mth_size}
use Rattle.twin_file.proofs.HeadLaws.{tail_size}
use Rattle.std.proofs.lemmas.List.{drop_all}
use Rattle.ledger_model.proofs.KeepLaws.{founded_lawful}
use Rattle.ledger_open.specs.Standing.{ground, IsKept, IsClean, IsCleanPair, StandsFor}

-- the front of a file of generation 1 without a base
first_front : IsFront (edition_from 2 1) [] (front_of 1 1 [])
first_front =
    let size : length (digest_of []) ≡ 32 = length-sha256 (7 ∷ []) in record {
      size = omega (arith, tail_size 1 1 [], length-append (front_of 1 1 []) []);
      gate = refl;
      magic_is = refl;
      version = refl;
      format = refl;
      generation_is = refl;
      base_len = refl;
      digest = λ some. absurd (some refl);
      base_is = drop_all 64 (front_of 1 1 []) (omega (arith, tail_size 1 1 [], length-append (front_of 1 1 []) []));
    }

module _ (genesis : Genesis) (operator : length genesis.operator.0 ≡ 32) (regulator : length genesis.regulator.0 ≡ 32) where
  abbrev blocks : List (List Entry)
  blocks = (genesis_journal genesis ∷ []) ∷ []

  entry_is : IsEntry 0 (genesis_journal genesis)
  unfolding genesis_header
  entry_is = record {
    jsn = refl;
    rules = record { version = refl; jsn = refl; member = refl; clue = refl; clue_ord = refl; clue_prev = refl; a = refl; b = refl; link = refl; content_len = refl };
    widths = record {
      version = omega arith;
      jsn = omega arith;
      member = omega arith;
      clue_ord = omega arith;
      clue_prev = omega arith;
      a = omega arith;
      b = omega arith;
      content_len = omega arith;
      clue = refl;
      link = length-sha256 _;
      content_digest = length-sha256 _;
      who_digest = length-sha256 _;
    };
    content = omega (arith, operator, regulator, length-append genesis.operator.0 genesis.regulator.0);
    who = omega arith;
  }

  shown_all : (n : ℕ) → is_hidden (new_ledger genesis) n ≡ false
  unfolding genesis_header
  shown_all zero = refl
  shown_all (suc n) = refl

  floor_is : point (new_ledger genesis) ≡ 0
  unfolding point genesis_header
  floor_is = refl

  kept_is : IsKept (is_hidden (new_ledger genesis)) (is_hidden (new_ledger genesis)) (genesis_journal genesis) (genesis_journal genesis)
  kept_is = record { header = refl; who = refl; shown = λ s. refl; zeroed = λ z. let no : ⊥ = true≢false (sym z ∙ shown_all _) in absurd no }

  -- the file that a new ledger is given: a head of generation 1, block 0 behind an open gate, and a shut tail gate
  pub founded_clean : IsClean (whole_file (front_of 1 1 []) (written_blocks (ground).root [] blocks)) (new_ledger genesis)
  founded_clean = record {
    erased = record {
      edition = edition_from 2 1;
      parts = record { gone = []; kept = (new_ledger genesis).closed; are = refl; at = sym floor_is };
      keeps = record {
        blocks = blocks;
        file = record {
          front = front_of 1 1 [];
          head = first_front;
          lawful = (record { some = omega arith; most = omega arith; entries = (entry_is, tt) }, tt);
          stands = record { gate = 0; rest = []; is = refl; shut = λ e. cc };
        };
        same = ((kept_is, tt), tt);
      };
      early = early_at (point (new_ledger genesis)) (point (new_ledger genesis)) 1 (size (new_ledger genesis) + 2) refl (omega arith);
      none = refl;
      lawful = founded_lawful genesis;
      wide = record { headers = All-nil (λ (e : Entry). HasWidths e.header); founders = tt };
    };
    ends = refl;
  }

  block_readable : AreReadable (genesis_journal genesis ∷ [])
  block_readable = (record { rules = entry_is.rules; widths = entry_is.widths; content = entry_is.content; who = entry_is.who }, tt)

  -- the bytes of block 0
  pub first_bytes : (root header content body head : List ℕ) → header ≡ spelling (genesis_header genesis) → content ≡ founders_content genesis → body ≡ record_with header content [] → head ≡ block_head 1 (length body) root
      → head ++ body ≡ block_bytes root (genesis_journal genesis ∷ [])
  unfolding block_bytes
  first_bytes root header content body head header_is content_is body_is head_is =
      let all_bytes = body_of (genesis_journal genesis ∷ []) in
      let len = to_be_bytes w64 (length all_bytes) in
      let all : body ≡ all_bytes =
      body_is ∙ ap (λ (h : List ℕ). record_with h content []) header_is ∙ ap (λ (l : List ℕ). record_with (spelling (genesis_header genesis)) l []) content_is ∙ sym (append-nil (record_bytes (genesis_journal genesis))) in
      ap (λ (l : List ℕ). l ++ body) head_is ∙ ap (λ (l : List ℕ). block_head 1 (length l) root ++ l) all
      ∙ append_assoc (to_be_bytes w32 1) (len ++ root) all_bytes ∙ ap (λ (l : List ℕ). to_be_bytes w32 1 ++ l) (append_assoc len root all_bytes)

  first_block_size : (root : List ℕ) → length root ≡ 32 → 65 + length (block_bytes root (genesis_journal genesis ∷ [])) ≡ after_at 64 blocks
  first_block_size root size = omega (arith, block_size root (genesis_journal genesis ∷ []) size block_readable)

  -- the place of journal 0
  pub first_place : (place : PlaceAt) (before content : List ℕ) → before ≡ [] → content ≡ founders_content genesis → place ≡ place_of_lengths (body_from 64 + length before) (length content) 0 → places_at 64 blocks ≡ place ∷ []
  unfolding genesis_header
  first_place place before content none content_is is =
      let size : length content ≡ 64 = omega (arith, ap length content_is, operator, regulator, length-append genesis.operator.0 genesis.regulator.0) in
      sym (ap (λ (p : PlaceAt). p ∷ []) (is ∙ ap (λ (l : List ℕ). place_of_lengths (body_from 64 + length l) (length content) 0) none ∙ ap (λ (n : ℕ). place_of_lengths (body_from 64) n 0) size))

  pub first_knows : (book : Kept) (places : List PlaceAt) → Serves book (new_ledger genesis) → book.floor ≡ 0 → places ≡ places_at 64 blocks → Knows (known_from book places (after_at 64 blocks)) None (new_ledger genesis).closed
  first_knows book places serves floor listed =
      let lawful = founded_lawful genesis in
      let legal : AreLegal None blocks = record { next = all_ground (genesis_journal genesis ∷ []) lawful.journals_are; blocks_are = lawful.blocks_are; founded = lawful.journals_are.founded } in
      knows_whole (known_from book places (after_at 64 blocks)) blocks (record { some = omega arith; most = omega arith; entries = (entry_is, tt) }, tt) legal serves floor listed refl

-- the root of block 0
root_first : (genesis : Genesis) → root (new_ledger genesis) (sealed_size (new_ledger genesis)) ≡ mth sha256 (leaves_of (genesis_journal genesis ∷ []))
unfolding root
root_first genesis = refl

pub first_root_is : (book : Kept) (head : Head) (genesis : Genesis) → Serves book (new_ledger genesis) → ((h : History) → Stands book h → head ≡ head_of h) → head.root.0 ≡ (ground).root (leaves_of (genesis_journal genesis ∷ []))
first_root_is book head genesis serves is = ap (λ (x : Head). x.root.0) (is (new_ledger genesis) serves.stands) ∙ root_first genesis

-- what a crash may leave of a new ledger
pub made_images : (genesis : Genesis) (block image_a image_b : List ℕ) → HasKeys genesis → block ≡ block_bytes ((ground).root (leaves_of (genesis_journal genesis ∷ []))) (genesis_journal genesis ∷ []) → IsMadeOrShut block image_a image_b → IsFoundedOrShut genesis image_a image_b
made_images genesis block image_a image_b keys is (shut, inl both) = inl (both, shut)
made_images genesis block image_a image_b keys is (shut, inr made) =
    let new : image_a ≡ new_file genesis = made.0 ∙ ap (λ (l : List ℕ). whole_file (front_of 1 1 []) (l ∷ [])) is in
    inr (sides_pair image_a image_b (new_ledger genesis) (inl (subst (λ (l : List ℕ). StandsFor l (new_ledger genesis)) (sym new) (erased_stands (new_file genesis) (new_ledger genesis) (founded_clean genesis keys.operator keys.regulator).erased), ap length made.1)))

-- the states when the ledger is made, behind both syncs
pub shut_now : (a b a_now b_now : State) → a_now ≡ settled_state a.seen → b_now ≡ settled_state b.seen → IsShut a.seen → IsShut b.seen → AreShut a_now b_now
shut_now a b a_now b_now same_a same_b shut_a shut_b =
    subst (λ (s : State). AreShut s b_now) (sym same_a)
    (subst (λ (s : State). AreShut (settled_state a.seen) s) (sym same_b) (record { quiet_a = refl; quiet_b = refl; shut_a = shut_a; shut_b = shut_b }))

-- the place of the tail gate
pub first_tail : (genesis : Genesis) (block : List ℕ) (place : ℕ) → HasKeys genesis → block ≡ block_bytes ((ground).root (leaves_of (genesis_journal genesis ∷ []))) (genesis_journal genesis ∷ []) → place ≡ 65 + length block → place ≡ after_at 64 (new_ledger genesis).closed
first_tail genesis block place keys is at =
    at ∙ ap (λ (l : List ℕ). 65 + length l) is ∙ first_block_size genesis keys.operator keys.regulator _ (mth_size (leaves_of (genesis_journal genesis ∷ [])))

-- a pair of a new ledger is clean
pub founded_pair : (genesis : Genesis) (a b : State) → HasKeys genesis → IsFounded genesis a b → IsCleanPair a.seen b.seen (new_ledger genesis)
founded_pair genesis a b keys f =
    record {
      in_a = true;
      clean = subst (λ (l : List ℕ). IsClean l (new_ledger genesis)) (sym (ap (λ (s : State). s.seen) f.first)) (founded_clean genesis keys.operator keys.regulator);
      newer = ap (λ (s : State). version_in s.seen) f.first;
      empty = ap (λ (s : State). length s.seen) f.second;
    }
