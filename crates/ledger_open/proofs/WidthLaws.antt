-- The headers of a history that a file stands for have the widths of their layout, and its base keeps the rules of one.
use Rattle.std.specs.Int.{w16, w32, w64, to_be_bytes}
use Rattle.std.specs.Prelude.{All, nat_le}
use Rattle.std.proofs.Common.{◌≡◌, ℕ, ◌+◌, ◌*◌, ◌^◌, ◌<◌, ◌≤◌, Bool, List, [], ◌∷◌, ◌++◌, length, refl, sym, ap, ◌∙◌, subst, arith, append-nil, length-append}
use Rattle.std.proofs.lemmas.Bool.{and_parts, leb-true}
use Rattle.std.proofs.lemmas.List.Concat.{flat_map-append}
use Rattle.std.proofs.lemmas.List.Elements.{All-nil, All-cons, All-append, All-head, All-tail}
use Rattle.std.proofs.lemmas.Nat.{ones_le_self}
use Rattle.clue_index.specs.declared.state.ClueState.{ClueState}
use Rattle.journal_record.specs.Blocks.{AreFrom, AreBlocks}
use Rattle.journal_record.specs.Entry.{Entry}
use Rattle.journal_record.specs.Header.{HasWidths}
use Rattle.ledger_bytes.specs.declared.digest.Digest.{Digest}
use Rattle.ledger_bytes.specs.declared.limits.TheConstants.{MEMBER_LIMIT}
use Rattle.ledger_model.specs.Bases.{base_of}
use Rattle.ledger_model.specs.History.{History, journals, journals_of, size}
use Rattle.ledger_model.specs.Lawful.{IsLawful}
use Rattle.ledger_model.proofs.BaseLaws.{founders_wide, is_base, has_widths}
use Rattle.pseudo_genesis.specs.Bases as bases
use Rattle.pseudo_genesis.specs.Bases.{IsBase, HasStateWidths, digests_text, state_text, states_text, front_text, keys_text, clues_text, base_spelling}
use Rattle.pseudo_genesis.specs.declared.base.Base.{Base}
use Rattle.pseudo_genesis.specs.declared.base.TheConstants.{POINT_LIMIT, CLUE_LIMIT}
use Rattle.ledger_open.specs.Standing.{AllKept, SameButHidden, HasFounders, StandsBy}

abbrev IsWide : Entry → Type 0
IsWide e = HasWidths e.header

module _ (hid gone : ℕ → Bool) where
  -- what is kept of a journal has its header
  entries_wide : (n : ℕ) (es fs : List Entry) → AllKept hid gone es fs → AreFrom n fs → All IsWide es
  entries_wide n [] [] same from = All-nil IsWide
  entries_wide n [] (f ∷ fs) same from = absurd same
  entries_wide n (e ∷ es) [] same from = absurd same
  entries_wide n (e ∷ es) (f ∷ fs) same from = All-cons IsWide e es (subst HasWidths same.0.header from.0.widths) (entries_wide (n + 1) es fs same.1 from.1)

  blocks_wide : (n : ℕ) (bs cs : List (List Entry)) → SameButHidden hid gone bs cs → AreBlocks n cs → All IsWide (journals_of bs)
  blocks_wide n [] [] same blocks = All-nil IsWide
  blocks_wide n [] (c ∷ cs) same blocks = absurd same
  blocks_wide n (b ∷ bs) [] same blocks = absurd same
  blocks_wide n (b ∷ bs) (c ∷ cs) same blocks = All-append IsWide b (journals_of bs) (entries_wide n b c same.0 blocks.0.entries) (blocks_wide (n + length c) bs cs same.1 blocks.1)

pub standing_wide : (floor : ℕ) (zeros : ℕ → Bool) (image : List ℕ) (h : History) → StandsBy floor zeros image h → All (λ (e : Entry). HasWidths e.header) (journals h)
standing_wide floor zeros image h s =
    let kept = s.keeps in
    subst (All IsWide)
    (sym (ap (λ es. journals_of h.closed ++ es) s.none ∙ append-nil (journals_of h.closed) ∙ ap journals_of s.parts.are ∙ flat_map-append (λ (b : List Entry). b) s.parts.gone s.parts.kept))
    (All-append IsWide (journals_of s.parts.gone) (journals_of s.parts.kept) s.wide.headers (blocks_wide _ zeros _ s.parts.kept kept.blocks kept.same kept.file.lawful))

founder_keys : (es : List Entry) → HasFounders es → (e : Entry) (rest : List Entry) → es ≡ e ∷ rest → length e.content ≡ 64
founder_keys [] has e rest is = absurd (omega (arith, ap length is))
founder_keys (x ∷ es) has e rest is = let same : x ≡ e = cc is in subst (λ (y : Entry). length y.content ≡ 64) same has

-- the base of a lawful history at a journal keeps the rules of one
pub rules_at : (h : History) (gone kept : List (List Entry)) (p : ℕ) → IsLawful h → h.waiting ≡ [] → h.closed ≡ gone ++ kept → length (journals_of gone) ≡ p → 1 ≤ p → p < size h
    → All (λ (e : Entry). HasWidths e.header) (journals h) → HasFounders (journals_of gone) → IsBase (base_of h p) × bases.HasWidths (base_of h p)
rules_at h gone kept p lawful none are at some less wide founders =
    let keys = founders_wide (journals_of gone) (founder_keys (journals_of gone) founders) in
    (is_base h gone kept p lawful none are at some less wide keys, has_widths h gone kept p lawful none are at some less wide keys)

-- .. so does that which a file begins with
pub base_rules : (floor : ℕ) (zeros : ℕ → Bool) (image : List ℕ) (h : History) (x : StandsBy floor zeros image h) → 1 ≤ length (journals_of x.parts.gone) → floor < size h
    → IsBase (base_of h (length (journals_of x.parts.gone))) × bases.HasWidths (base_of h (length (journals_of x.parts.gone)))
base_rules floor zeros image h x some more =
    rules_at h x.parts.gone x.parts.kept (length (journals_of x.parts.gone)) x.lawful x.none x.parts.are refl some (omega (arith, more, x.parts.at)) (standing_wide floor zeros image h x) x.wide.founders

-- ---- how long a base is

digests_size : (ds : List Digest) → All bases.IsWide ds → length (digests_text ds) ≡ 32 * length ds
digests_size [] all = refl
digests_size (d ∷ ds) all = omega (arith, length-append d.0 (digests_text ds), All-head bases.IsWide d ds all, digests_size ds (All-tail bases.IsWide d ds all))

states_size : (ss : List ClueState) → All HasStateWidths ss → length (states_text ss) ≡ 44 * length ss
states_size [] all = refl
states_size (s ∷ ss) all =
    let four : length (to_be_bytes w32 s.count) ≡ 4 = refl in
    let eight : length (to_be_bytes w64 s.last) ≡ 8 = refl in
    omega (
      arith,
      length-append (state_text s) (states_text ss),
      length-append s.clue.0 (to_be_bytes w32 s.count ++ to_be_bytes w64 s.last),
      length-append (to_be_bytes w32 s.count) (to_be_bytes w64 s.last),
      (All-head HasStateWidths s ss all).clue,
      states_size ss (All-tail HasStateWidths s ss all),
    )

-- the length of one that keeps its rules fits its field
pub spelling_fits : (b : Base) → IsBase b → bases.HasWidths b → length (base_spelling b) < 2 ^ 64
unfolding base_spelling front_text keys_text clues_text
spelling_fits b rules widths =
    let point : b.point ≤ POINT_LIMIT = leb-true b.point POINT_LIMIT (and_parts (nat_le 1 b.point) (nat_le b.point POINT_LIMIT) rules.point).1 in
    let keys : length b.keys ≤ MEMBER_LIMIT = leb-true (length b.keys) MEMBER_LIMIT (and_parts (nat_le 2 (length b.keys)) (nat_le (length b.keys) MEMBER_LIMIT) rules.members).1 in
    let clues : length b.clues ≤ CLUE_LIMIT = leb-true (length b.clues) CLUE_LIMIT rules.clue_count in
    let two : length (to_be_bytes w16 (length b.keys)) ≡ 2 = refl in
    let four : length (to_be_bytes w32 (length b.clues)) ≡ 4 = refl in
    let point_bytes : length (to_be_bytes w64 b.point) ≡ 8 = refl in
    let block_bytes : length (to_be_bytes w64 b.blocks) ≡ 8 = refl in
    let states = clues_text b.clues in
    omega (
      arith,
      point,
      keys,
      clues,
      rules.peaks,
      ones_le_self b.point,
      widths.id,
      length-append (front_text b.id b.point b.blocks) (digests_text b.peaks ++ (keys_text b.keys ++ states)),
      length-append b.id.0 (to_be_bytes w64 b.point ++ to_be_bytes w64 b.blocks),
      length-append (to_be_bytes w64 b.point) (to_be_bytes w64 b.blocks),
      length-append (digests_text b.peaks) (keys_text b.keys ++ states),
      length-append (keys_text b.keys) states,
      length-append (to_be_bytes w16 (length b.keys)) (digests_text b.keys),
      length-append (to_be_bytes w32 (length b.clues)) (states_text b.clues),
      digests_size b.peaks widths.peaks,
      digests_size b.keys widths.keys,
      states_size b.clues widths.clues,
      two,
      four,
      point_bytes,
      block_bytes,
    )
