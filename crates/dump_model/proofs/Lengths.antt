-- How long a base is.
use Rattle.std.specs.Int.{w16, w32, w64, to_be_bytes}
use Rattle.std.specs.Prelude.{nat_le}
use Rattle.std.proofs.Common.{◌≡◌, ◌*◌, ◌^◌, ◌<◌, ◌≤◌, List, [], ◌∷◌, ◌++◌, length, All, refl, arith, length-append}
use Rattle.std.proofs.lemmas.Bool.{and_parts, leb-true}
use Rattle.std.proofs.lemmas.List.Elements.{All-head, All-tail}
use Rattle.std.proofs.lemmas.Nat.{ones_le_self}
use Rattle.clue_index.specs.declared.state.ClueState.{ClueState}
use Rattle.ledger_bytes.specs.declared.digest.Digest.{Digest}
use Rattle.ledger_bytes.specs.declared.limits.TheConstants.{MEMBER_LIMIT}
use Rattle.pseudo_genesis.specs.Bases as bases
use Rattle.pseudo_genesis.specs.Bases.{IsBase, HasStateWidths, IsWide, digests_text, state_text, states_text, front_text, keys_text, clues_text, base_spelling}
use Rattle.pseudo_genesis.specs.declared.base.Base.{Base}
use Rattle.pseudo_genesis.specs.declared.base.TheConstants.{POINT_LIMIT, CLUE_LIMIT}

digests_size : (digests : List Digest) → All IsWide digests → length (digests_text digests) ≡ 32 * length digests
digests_size [] wide = refl
digests_size (d ∷ digests) wide = omega (arith, length-append d.0 (digests_text digests), All-head IsWide d digests wide, digests_size digests (All-tail IsWide d digests wide))

states_size : (states : List ClueState) → All HasStateWidths states → length (states_text states) ≡ 44 * length states
states_size [] wide = refl
states_size (s ∷ states) wide =
    let four : length (to_be_bytes w32 s.count) ≡ 4 = refl in
    let eight : length (to_be_bytes w64 s.last) ≡ 8 = refl in
    omega (
      arith,
      length-append (state_text s) (states_text states),
      length-append s.clue.0 (to_be_bytes w32 s.count ++ to_be_bytes w64 s.last),
      length-append (to_be_bytes w32 s.count) (to_be_bytes w64 s.last),
      (All-head HasStateWidths s states wide).clue,
      states_size states (All-tail HasStateWidths s states wide),
    )

-- its length fits its field
pub base_fits : (b : Base) → IsBase b → bases.HasWidths b → length (base_spelling b) < 2 ^ 64
unfolding base_spelling front_text keys_text clues_text
base_fits b rules widths =
    let point : b.point ≤ POINT_LIMIT = leb-true b.point POINT_LIMIT (and_parts (nat_le 1 b.point) (nat_le b.point POINT_LIMIT) rules.point).1 in
    let keys : length b.keys ≤ MEMBER_LIMIT = leb-true (length b.keys) MEMBER_LIMIT (and_parts (nat_le 2 (length b.keys)) (nat_le (length b.keys) MEMBER_LIMIT) rules.members).1 in
    let clues : length b.clues ≤ CLUE_LIMIT = leb-true (length b.clues) CLUE_LIMIT rules.clue_count in
    let two : length (to_be_bytes w16 (length b.keys)) ≡ 2 = refl in
    let four : length (to_be_bytes w32 (length b.clues)) ≡ 4 = refl in
    let point_bytes : length (to_be_bytes w64 b.point) ≡ 8 = refl in
    let block_bytes : length (to_be_bytes w64 b.blocks) ≡ 8 = refl in
    let states = clues_text b.clues in
    omega (
      arith,
      point,
      keys,
      clues,
      rules.peaks,
      ones_le_self b.point,
      widths.id,
      length-append (front_text b.id b.point b.blocks) (digests_text b.peaks ++ (keys_text b.keys ++ states)),
      length-append b.id.0 (to_be_bytes w64 b.point ++ to_be_bytes w64 b.blocks),
      length-append (to_be_bytes w64 b.point) (to_be_bytes w64 b.blocks),
      length-append (digests_text b.peaks) (keys_text b.keys ++ states),
      length-append (keys_text b.keys) states,
      length-append (to_be_bytes w16 (length b.keys)) (digests_text b.keys),
      length-append (to_be_bytes w32 (length b.clues)) (states_text b.clues),
      digests_size b.peaks widths.peaks,
      digests_size b.keys widths.keys,
      states_size b.clues widths.clues,
      two,
      four,
      point_bytes,
      block_bytes,
    )

-- a base has bytes
pub base_some : (b : Base) → 1 ≤ length (base_spelling b)
unfolding base_spelling front_text
base_some b = omega arith
