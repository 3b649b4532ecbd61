-- What is read as a base is spelled so, and what is spelled so is read.
use Rattle.std.proofs.Common.{◌≡◌, ◌≢◌, ◌⊎◌, inl, inr, ℕ, ◌+◌, ◌*◌, ◌^◌, ◌<◌, true, eqb, List, [], ◌∷◌, ◌++◌, length, take, Result, Ok, Err, refl, sym, ap, subst, ◌∙◌, append-nil, arith, ◌-◌}
use Rattle.std.specs.Prelude.{All, IfOk, count_ones, nat_le, ⊤}
use Rattle.ledger_bytes.specs.declared.failure.NoMemory.{NoMemory}
use Rattle.ledger_bytes.specs.declared.limits.TheConstants.{MEMBER_LIMIT}
use Rattle.pseudo_genesis.specs.declared.base.TheConstants.{CLUE_LIMIT}
use Rattle.std.specs.Int.{w8, w16, w32, w64, to_be_bytes}
use Rattle.std.proofs.lemmas.Bool.{eqb-true, leb-true, and_parts}
use Rattle.std.proofs.lemmas.List.{nil_from_length}
use Rattle.std.proofs.lemmas.List.Elements.{All-nil, All-cons, All-head, All-tail}
use Rattle.ledger_bytes.specs.Digests.{zero_digest}
use Rattle.ledger_bytes.specs.declared.digest.Digest.{Digest}
use Rattle.ledger_bytes.specs.declared.failure.Bad.{Bad}
use Rattle.ledger_bytes.specs.declared.failure.Bad.TheVariants.{Short, Trailing, BadFixedField, NewerFormat}
use Rattle.ledger_bytes.specs.Fields.{Unread, left_from, ◌>>=◌, number_at, digest_at, end_at, IsBytes, Took, ReadsBack}
use Rattle.ledger_bytes.proofs.Fields.{bind_ok, check_ok, Took-then, wide16, wide32, wide64, number_back, byte_back, digest_back, IsTextOf, text_none, text_then, digest_text, number_text, byte_text, cut_told, trailing_told}
use Rattle.journal_record.proofs.ReadingSteps.{ruled, plain_takes, field_takes, field_text, answered}
use Rattle.clue_index.specs.declared.state.ClueState.{ClueState}
use Rattle.pseudo_genesis.specs.declared.base.Base.{Base}
use Rattle.pseudo_genesis.specs.Bases.{version_ok, point_ok, blocks_ok, members_ok, clues_ok, is_behind, is_inside, IsState, AreStates, IsBase, digests_text, state_text, states_text, front_text, keys_text, clues_text, base_spelling, IsWide, HasStateWidths, HasWidths}
use Rattle.pseudo_genesis.specs.declared.base.BaseErr.{BaseErr}
use Rattle.pseudo_genesis.specs.declared.base.BaseErr.TheVariants as base_err
use Rattle.pseudo_genesis.specs.Reading.{any_digest_at, still, digests_at, base_front_at, keys_at, Before, state_at, behind, states_at, clues_at, base_at, base_of, ReadsBase}
use Rattle.pseudo_genesis.proofs.Many.{AreFit, many_takes, many_text, text_last, text_end}

abbrev back16 : ReadsBack (number_at w16) (to_be_bytes w16) (λ n. n < 2 ^ 16)
back16 = number_back w16 (2 ^ 16) wide16

abbrev back32 : ReadsBack (number_at w32) (to_be_bytes w32) (λ n. n < 2 ^ 32)
back32 = number_back w32 (2 ^ 32) wide32

abbrev back64 : ReadsBack (number_at w64) (to_be_bytes w64) (λ n. n < 2 ^ 64)
back64 = number_back w64 (2 ^ 64) wide64

abbrev at_place : {A : Type 0} → ℕ → A → Bad
at_place at v = BadFixedField at

-- ---- digests

abbrev fits_digest : ⊤ → Digest → Type 0
fits_digest known d = IsWide d

are_wide : (digests : List Digest) → AreFit any_digest_at still (λ d. d.0) fits_digest tt digests → All IsWide digests
are_wide [] fit = All-nil IsWide
are_wide (d ∷ digests) fit = All-cons IsWide d digests fit.0 (are_wide digests fit.1)

fit_wide : (digests : List Digest) → All IsWide digests → AreFit any_digest_at still (λ d. d.0) fits_digest tt digests
fit_wide [] wide = tt
fit_wide (d ∷ digests) wide = (All-head IsWide d digests wide, fit_wide digests (All-tail IsWide d digests wide))

digests_takes : (n : ℕ) (l : Unread) (digests : List Digest) (after : Unread) → IsBytes l.rest → digests_at n l ≡ Ok (digests, after) → Took l (digests_text digests) after × All IsWide digests × (length digests ≡ n)
unfolding digests_at
digests_takes n l digests after bytes e =
    let t = many_takes any_digest_at still (λ (d : Digest). d.0) fits_digest (λ known. digest_back.takes) n tt l digests after bytes e in (t.0, are_wide digests t.1, t.2)

digests_is : (whole : ℕ) (digests : List Digest) → All IsWide digests → IsTextOf (digests_at (length digests)) whole (digests_text digests) digests
unfolding digests_at
digests_is whole digests wide = many_text any_digest_at still (λ (d : Digest). d.0) fits_digest whole (λ known d wide. digest_text d whole wide) tt digests (fit_wide digests wide)

-- ---- version, id, point and blocks

abbrev Front : Type 0
Front = Digest × ℕ × ℕ

record IsFront (f : Front) : Type 0 where
  id : IsWide f.0
  point_width : f.1 < 2 ^ 64
  blocks_width : f.2 < 2 ^ 64
  point : point_ok f.1 ≡ true
  blocks : blocks_ok f.1 f.2 ≡ true

abbrev front_bytes : Front → List ℕ
front_bytes f = 1 ∷ (f.0.0 ++ (to_be_bytes w64 f.1 ++ to_be_bytes w64 f.2))

abbrev from_blocks : Digest → ℕ → ℕ × Unread → Result (Front × Unread) Bad
from_blocks id point blocks = Ok ((id, point, blocks.0), blocks.1)

abbrev from_point : Digest → ℕ × Unread → Result (Front × Unread) Bad
from_point id point = number_at w64 point.1 >>= ruled (blocks_ok point.0) (at_place 41) (from_blocks id point.0)

abbrev from_id : Digest × Unread → Result (Front × Unread) Bad
from_id id = number_at w64 id.1 >>= ruled point_ok (at_place 33) (from_point id.0)

abbrev from_version : ℕ × Unread → Result (Front × Unread) Bad
from_version version = digest_at version.1 >>= from_id

front_takes : (l : Unread) (f : Front) (after : Unread) → IsBytes l.rest → base_front_at l ≡ Ok (f, after) → Took l (front_bytes f) after × IsFront f
unfolding base_front_at
front_takes l f after bytes e =
    let v = field_takes (number_at w8) (λ n. n ∷ []) (λ n. n < 2 ^ 8) byte_back version_ok NewerFormat from_version l (f, after) bytes e in
    let i = plain_takes digest_at (λ d. d.0) (λ d. length d.0 ≡ 32) digest_back from_id v.0.1 (f, after) v.1.bytes v.4 in
    let p = field_takes (number_at w64) (to_be_bytes w64) (λ n. n < 2 ^ 64) back64 point_ok (at_place 33) (from_point i.0.0) i.0.1 (f, after) i.1.bytes i.3 in
    let b = field_takes (number_at w64) (to_be_bytes w64) (λ n. n < 2 ^ 64) back64 (blocks_ok p.0.0) (at_place 41) (from_blocks i.0.0 p.0.0) p.0.1 (f, after) p.1.bytes p.4 in
    let one : Took l (1 ∷ []) v.0.1 = subst (λ n. Took l (n ∷ []) v.0.1) (eqb-true v.0.0 1 v.3) v.1 in
    let t3 = Took-then i.0.1 (to_be_bytes w64 p.0.0) p.0.1 (to_be_bytes w64 b.0.0) b.0.1 p.1 b.1 in
    let t2 = Took-then v.0.1 i.0.0.0 i.0.1 (to_be_bytes w64 p.0.0 ++ to_be_bytes w64 b.0.0) b.0.1 i.1 t3 in
    let t1 = Took-then l (1 ∷ []) v.0.1 (i.0.0.0 ++ (to_be_bytes w64 p.0.0 ++ to_be_bytes w64 b.0.0)) b.0.1 one t2 in
    let value : Front = (i.0.0, p.0.0, b.0.0) in
    let fits : IsFront value = record { id = i.2; point_width = p.2; blocks_width = b.2; point = p.3; blocks = b.3 } in
    answered front_bytes IsFront l value f b.0.1 after b.4 t1 fits

front_is : (f : Front) (whole : ℕ) → IsFront f → IsTextOf base_front_at whole (front_bytes f) f
unfolding base_front_at
front_is f whole fits =
    let blocks_text : List ℕ = to_be_bytes w64 f.2 in
    let point_text : List ℕ = to_be_bytes w64 f.1 ++ blocks_text in
    let blocks = text_end (number_at w64) (blocks_ok f.1) (at_place 41) (from_blocks f.0 f.1) whole blocks_text f.2 f (number_text w64 (2 ^ 64) wide64 f.2 whole fits.blocks_width) fits.blocks (text_none whole f) in
    let point = field_text (number_at w64) point_ok (at_place 33) (from_point f.0) whole (to_be_bytes w64 f.1) blocks_text f.1 f (number_text w64 (2 ^ 64) wide64 f.1 whole fits.point_width) fits.point blocks in
    let id = text_then digest_at from_id whole f.0.0 point_text f.0 f (digest_text f.0 whole fits.id) point in
    field_text (number_at w8) version_ok NewerFormat from_version whole (1 ∷ []) (f.0.0 ++ point_text) 1 f (byte_text 1 whole) refl id

-- ---- keys

record AreKeys (keys : List Digest) : Type 0 where
  wide : All IsWide keys
  count : length keys < 2 ^ 16
  members : members_ok (length keys) ≡ true

keys_takes : (at : ℕ) (l : Unread) (keys : List Digest) (after : Unread) → IsBytes l.rest → keys_at at l ≡ Ok (keys, after) → Took l (keys_text keys) after × (members_ok (length keys) ≡ true) × All IsWide keys
unfolding keys_at keys_text
keys_takes at l keys after bytes e =
    let n = field_takes (number_at w16) (to_be_bytes w16) (λ n. n < 2 ^ 16) back16 members_ok (at_place at) (λ count. digests_at count.0 count.1) l (keys, after) bytes e in
    let ks = digests_takes n.0.0 n.0.1 keys after n.1.bytes n.4 in
    let count : Took l (to_be_bytes w16 (length keys)) n.0.1 = subst (λ m. Took l (to_be_bytes w16 m) n.0.1) (sym ks.2) n.1 in
    (Took-then l (to_be_bytes w16 (length keys)) n.0.1 (digests_text keys) after count ks.0, ap members_ok ks.2 ∙ n.3, ks.1)

keys_is : (at whole : ℕ) (keys : List Digest) → AreKeys keys → IsTextOf (keys_at at) whole (keys_text keys) keys
unfolding keys_at keys_text
keys_is at whole keys fits =
    field_text (number_at w16) members_ok (at_place at) (λ count. digests_at count.0 count.1) whole (to_be_bytes w16 (length keys)) (digests_text keys) (length keys) keys
    (number_text w16 (2 ^ 16) wide16 (length keys) whole fits.count) fits.members (digests_is whole keys fits.wide)

-- ---- the states of clues

record FitsState (point : ℕ) (before : Before) (s : ClueState) : Type 0 where
  rules : IsState point before.clue s
  widths : HasStateWidths s

abbrev from_last : Digest → ℕ → ℕ × Unread → Result (ClueState × Unread) Bad
from_last clue count last = Ok (record { clue = clue; count = count; last = last.0 }, last.1)

abbrev from_count : ℕ → Before → Digest → ℕ × Unread → Result (ClueState × Unread) Bad
from_count point before clue count = number_at w64 count.1 >>= ruled (is_inside point) (at_place (before.place + 36)) (from_last clue count.0)

abbrev from_clue : ℕ → Before → Digest × Unread → Result (ClueState × Unread) Bad
from_clue point before clue = number_at w32 clue.1 >>= ruled (is_inside point) (at_place (before.place + 32)) (from_count point before clue.0)

state_takes : (point : ℕ) (before : Before) (l : Unread) (s : ClueState) (after : Unread) → IsBytes l.rest → state_at point before l ≡ Ok (s, after) → Took l (state_text s) after × FitsState point before s
unfolding state_at
state_takes point before l s after bytes e =
    let c = field_takes digest_at (λ d. d.0) (λ d. length d.0 ≡ 32) digest_back (is_behind before.clue) (at_place before.place) (from_clue point before) l (s, after) bytes e in
    let n = field_takes (number_at w32) (to_be_bytes w32) (λ n. n < 2 ^ 32) back32 (is_inside point) (at_place (before.place + 32)) (from_count point before c.0.0) c.0.1 (s, after) c.1.bytes c.4 in
    let k = field_takes (number_at w64) (to_be_bytes w64) (λ n. n < 2 ^ 64) back64 (is_inside point) (at_place (before.place + 36)) (from_last c.0.0 n.0.0) n.0.1 (s, after) n.1.bytes n.4 in
    let t2 = Took-then c.0.1 (to_be_bytes w32 n.0.0) n.0.1 (to_be_bytes w64 k.0.0) k.0.1 n.1 k.1 in
    let t1 = Took-then l c.0.0.0 c.0.1 (to_be_bytes w32 n.0.0 ++ to_be_bytes w64 k.0.0) k.0.1 c.1 t2 in
    let value : ClueState = record { clue = c.0.0; count = n.0.0; last = k.0.0 } in
    let fits : FitsState point before value = record { rules = record { clue = c.3; count = n.3; last = k.3 }; widths = record { clue = c.2; count = n.2; last = k.2 } } in
    answered state_text (FitsState point before) l value s k.0.1 after k.4 t1 fits

state_is : (point whole : ℕ) (before : Before) (s : ClueState) → FitsState point before s → IsTextOf (state_at point before) whole (state_text s) s
unfolding state_at
state_is point whole before s fits =
    let last_text : List ℕ = to_be_bytes w64 s.last in
    let last = text_end (number_at w64) (is_inside point) (at_place (before.place + 36)) (from_last s.clue s.count) whole last_text s.last s (number_text w64 (2 ^ 64) wide64 s.last whole fits.widths.last) fits.rules.last (text_none whole s) in
    let count = field_text (number_at w32) (is_inside point) (at_place (before.place + 32)) (from_count point before s.clue) whole (to_be_bytes w32 s.count) last_text s.count s (number_text w32 (2 ^ 32) wide32 s.count whole fits.widths.count) fits.rules.count last in
    field_text digest_at (is_behind before.clue) (at_place before.place) (from_clue point before) whole s.clue.0 (to_be_bytes w32 s.count ++ last_text) s.clue s (digest_text s.clue whole fits.widths.clue) fits.rules.clue count

are_states : (point : ℕ) (before : Before) (states : List ClueState) → AreFit (state_at point) behind state_text (FitsState point) before states → AreStates point before.clue states
are_states point before [] fit = tt
are_states point before (s ∷ states) fit = (fit.0.rules, are_states point (behind before s) states fit.1)

fit_states : (point : ℕ) (before : Before) (states : List ClueState) → AreStates point before.clue states → All HasStateWidths states → AreFit (state_at point) behind state_text (FitsState point) before states
fit_states point before [] are wide = tt
fit_states point before (s ∷ states) are wide =
    (record { rules = are.0; widths = All-head HasStateWidths s states wide }, fit_states point (behind before s) states are.1 (All-tail HasStateWidths s states wide))

states_wide : (point : ℕ) (before : Before) (states : List ClueState) → AreFit (state_at point) behind state_text (FitsState point) before states → All HasStateWidths states
states_wide point before [] fit = All-nil HasStateWidths
states_wide point before (s ∷ states) fit = All-cons HasStateWidths s states fit.0.widths (states_wide point (behind before s) states fit.1)

record AreClues (point : ℕ) (states : List ClueState) : Type 0 where
  count : length states < 2 ^ 32
  few : clues_ok (length states) ≡ true
  states_are : AreStates point zero_digest states
  wide : All HasStateWidths states

abbrev first_before : ℕ → Before
first_before at = record { clue = zero_digest; place = at + 4 }

clues_takes : (point at : ℕ) (l : Unread) (states : List ClueState) (after : Unread) → IsBytes l.rest → clues_at point at l ≡ Ok (states, after)
    → Took l (clues_text states) after × (clues_ok (length states) ≡ true) × AreStates point zero_digest states × All HasStateWidths states
unfolding clues_at clues_text states_at
clues_takes point at l states after bytes e =
    let n = field_takes (number_at w32) (to_be_bytes w32) (λ n. n < 2 ^ 32) back32 clues_ok (at_place at) (λ count. states_at point count.0 (first_before at) count.1) l (states, after) bytes e in
    let ss = many_takes (state_at point) behind state_text (FitsState point) (state_takes point) n.0.0 (first_before at) n.0.1 states after n.1.bytes n.4 in
    let count : Took l (to_be_bytes w32 (length states)) n.0.1 = subst (λ m. Took l (to_be_bytes w32 m) n.0.1) (sym ss.2) n.1 in
    (Took-then l (to_be_bytes w32 (length states)) n.0.1 (states_text states) after count ss.0, ap clues_ok ss.2 ∙ n.3, are_states point (first_before at) states ss.1, states_wide point (first_before at) states ss.1)

clues_is : (point at whole : ℕ) (states : List ClueState) → AreClues point states → IsTextOf (clues_at point at) whole (clues_text states) states
unfolding clues_at clues_text states_at
clues_is point at whole states fits =
    field_text (number_at w32) clues_ok (at_place at) (λ count. states_at point count.0 (first_before at) count.1) whole (to_be_bytes w32 (length states)) (states_text states) (length states) states
    (number_text w32 (2 ^ 32) wide32 (length states) whole fits.count) fits.few
    (many_text (state_at point) behind state_text (FitsState point) whole (state_is point whole) (first_before at) states (fit_states point (first_before at) states fits.states_are fits.wide))

-- ---- the whole

abbrev base_from : Front → List Digest → List Digest → List ClueState → Base
base_from f peaks keys clues = record { id = f.0; point = f.1; blocks = f.2; peaks = peaks; keys = keys; clues = clues }

abbrev from_clues : Front → List Digest → List Digest → List ClueState × Unread → Result (Base × Unread) Bad
from_clues f peaks keys clues = Ok (base_from f peaks keys clues.0, clues.1)

abbrev from_keys : Front → List Digest → List Digest × Unread → Result (Base × Unread) Bad
from_keys f peaks keys = clues_at f.1 (51 + 32 * count_ones f.1 + 32 * length keys.0) keys.1 >>= from_clues f peaks keys.0

abbrev from_peaks : Front → List Digest × Unread → Result (Base × Unread) Bad
from_peaks f peaks = keys_at (49 + 32 * count_ones f.1) peaks.1 >>= from_keys f peaks.0

abbrev from_front : Front × Unread → Result (Base × Unread) Bad
from_front front = digests_at (count_ones front.0.1) front.1 >>= from_peaks front.0

record IsSpelled (b : Base) : Type 0 where
  rules : IsBase b
  widths : HasWidths b

base_takes : (l : Unread) (b : Base) (after : Unread) → IsBytes l.rest → base_at l ≡ Ok (b, after) → Took l (base_spelling b) after × IsSpelled b
unfolding base_at base_spelling front_text
base_takes l b after bytes e =
    let f = bind_ok (base_front_at l) from_front (b, after) e in
    let front = front_takes l f.0.0 f.0.1 bytes f.1 in
    let p = bind_ok (digests_at (count_ones f.0.0.1) f.0.1) (from_peaks f.0.0) (b, after) f.2 in
    let peaks = digests_takes (count_ones f.0.0.1) f.0.1 p.0.0 p.0.1 front.0.bytes p.1 in
    let k = bind_ok (keys_at (49 + 32 * count_ones f.0.0.1) p.0.1) (from_keys f.0.0 p.0.0) (b, after) p.2 in
    let keys = keys_takes (49 + 32 * count_ones f.0.0.1) p.0.1 k.0.0 k.0.1 peaks.0.bytes k.1 in
    let at : ℕ = 51 + 32 * count_ones f.0.0.1 + 32 * length k.0.0 in
    let c = bind_ok (clues_at f.0.0.1 at k.0.1) (from_clues f.0.0 p.0.0 k.0.0) (b, after) k.2 in
    let clues = clues_takes f.0.0.1 at k.0.1 c.0.0 c.0.1 keys.0.bytes c.1 in
    let t2 = Took-then p.0.1 (keys_text k.0.0) k.0.1 (clues_text c.0.0) c.0.1 keys.0 clues.0 in
    let t1 = Took-then f.0.1 (digests_text p.0.0) p.0.1 (keys_text k.0.0 ++ clues_text c.0.0) c.0.1 peaks.0 t2 in
    let t0 = Took-then l (front_bytes f.0.0) f.0.1 (digests_text p.0.0 ++ (keys_text k.0.0 ++ clues_text c.0.0)) c.0.1 front.0 t1 in
    let value : Base = base_from f.0.0 p.0.0 k.0.0 c.0.0 in
    let fits : IsSpelled value = record {
      rules = record { point = front.1.point; blocks = front.1.blocks; peaks = peaks.2; members = keys.1; clue_count = clues.1; clues = clues.2 };
      widths = record { id = front.1.id; point = front.1.point_width; blocks = front.1.blocks_width; peaks = peaks.1; keys = keys.2; clues = clues.3 };
    } in
    answered base_spelling IsSpelled l value b c.0.1 after c.2 t0 fits

few_keys : (n : ℕ) → members_ok n ≡ true → n < 2 ^ 16
few_keys n is = let most = leb-true n MEMBER_LIMIT (and_parts (nat_le 2 n) (nat_le n MEMBER_LIMIT) is).1 in omega (arith, most)

few_clues : (n : ℕ) → clues_ok n ≡ true → n < 2 ^ 32
few_clues n is = let most = leb-true n CLUE_LIMIT is in omega (arith, most)

pub base_text : (b : Base) (whole : ℕ) → IsBase b → HasWidths b → IsTextOf base_at whole (base_spelling b) b
unfolding base_at base_spelling front_text
base_text b whole rules widths =
    let f : Front = (b.id, b.point, b.blocks) in
    let keys_place : ℕ = 49 + 32 * count_ones b.point in
    let clues_place : ℕ = 51 + 32 * count_ones b.point + 32 * length b.keys in
    let are_clues : AreClues b.point b.clues = record { count = few_clues (length b.clues) rules.clue_count; few = rules.clue_count; states_are = rules.clues; wide = widths.clues } in
    let are_keys : AreKeys b.keys = record { wide = widths.keys; count = few_keys (length b.keys) rules.members; members = rules.members } in
    let fits : IsFront f = record { id = widths.id; point_width = widths.point; blocks_width = widths.blocks; point = rules.point; blocks = rules.blocks } in
    let clues = text_last (clues_at b.point clues_place) (from_clues f b.peaks b.keys) whole (clues_text b.clues) b.clues b (clues_is b.point clues_place whole b.clues are_clues) (text_none whole b) in
    let keys = text_then (keys_at keys_place) (from_keys f b.peaks) whole (keys_text b.keys) (clues_text b.clues) b.keys b (keys_is keys_place whole b.keys are_keys) clues in
    let peaks_is = subst (λ n. IsTextOf (digests_at n) whole (digests_text b.peaks) b.peaks) rules.peaks (digests_is whole b.peaks widths.peaks) in
    let peaks = text_then (digests_at (count_ones b.point)) (from_peaks f) whole (digests_text b.peaks) (keys_text b.keys ++ clues_text b.clues) b.peaks b peaks_is keys in
    text_then base_front_at from_front whole (front_bytes f) (digests_text b.peaks ++ (keys_text b.keys ++ clues_text b.clues)) f b (front_is f whole fits) peaks

-- ---- all of the bytes

base_of_takes : (bytes : List ℕ) (b : Base) → IsBytes bytes → base_of bytes ≡ Ok b → IsBase b × HasWidths b × (bytes ≡ base_spelling b)
unfolding base_of
base_of_takes bytes b fits e =
    let start : Unread = left_from (length bytes) bytes in
    let r = bind_ok (base_at start) (λ read. end_at read.0 read.1) b e in
    let c = check_ok (eqb (length r.0.1.rest) 0) (Trailing (r.0.1.whole - length r.0.1.rest)) r.0.0 b r.2 in
    let took = base_takes start r.0.0 r.0.1 fits r.1 in
    let nothing : r.0.1.rest ≡ [] = nil_from_length r.0.1.rest (eqb-true _ _ c.0) in
    let whole : bytes ≡ base_spelling r.0.0 = took.0.parts ∙ ap (λ (t : List ℕ). base_spelling r.0.0 ++ t) nothing ∙ append-nil (base_spelling r.0.0) in
    subst (λ (x : Base). IsBase x × HasWidths x × (bytes ≡ base_spelling x)) c.1 (took.1.rules, took.1.widths, whole)

pub base_of_only : (bytes : List ℕ) (b : Base) → IsBase b → HasWidths b → bytes ≡ base_spelling b → base_of bytes ≡ Ok b
unfolding base_of
base_of_only bytes b rules widths e =
    let read : base_at (left_from (length bytes) bytes) ≡ Ok (b, left_from (length bytes) []) =
    ap (λ (t : List ℕ). base_at (left_from (length bytes) t)) (e ∙ sym (append-nil (base_spelling b))) ∙ (base_text b (length bytes) rules widths).again [] in
    ap (λ r. r >>= λ read. end_at read.0 read.1) read

pub base_of_cut : (bytes : List ℕ) (b : Base) (k : ℕ) → IsBase b → HasWidths b → k < length (base_spelling b) → bytes ≡ take k (base_spelling b) → base_of bytes ≡ Err (Short k)
unfolding base_of
base_of_cut bytes b k rules widths lt e = cut_told base_at bytes (base_spelling b) b k (base_text b (length bytes) rules widths) lt e

pub base_of_trailing : (bytes : List ℕ) (b : Base) (rest : List ℕ) → IsBase b → HasWidths b → rest ≢ [] → bytes ≡ base_spelling b ++ rest → base_of bytes ≡ Err (Trailing (length (base_spelling b)))
unfolding base_of
base_of_trailing bytes b rest rules widths some e = trailing_told base_at bytes (base_spelling b) rest b (base_text b (length bytes) rules widths) some e

-- ---- what a call that reads answers

pub read_found : (bytes : List ℕ) (read : Result Base BaseErr) → IsBytes bytes → ReadsBase read (base_of bytes) → IfOk read (λ b. IsBase b × HasWidths b × (bytes ≡ base_spelling b))
read_found bytes (Ok b) fits e = base_of_takes bytes b fits e
read_found bytes (Err failure) fits e = tt

pub read_only : (bytes : List ℕ) (read : Result Base BaseErr) (b : Base) → base_of bytes ≡ Ok b → ReadsBase read (base_of bytes) → (read ≡ Ok b) ⊎ (read ≡ Err base_err.NoMemory)
read_only bytes (Ok x) b is e = inl (let same : x ≡ b = cc in ap (λ y. Ok y) same)
read_only bytes (Err (base_err.Bad bad)) b is e = absurd cc
read_only bytes (Err base_err.NoMemory) b is e = inr refl

pub written_again : (b : Base) (made : Result (List ℕ) NoMemory) → IsBase b → HasWidths b → IfOk made (λ bytes. bytes ≡ base_spelling b) → IfOk made (λ bytes. base_of bytes ≡ Ok b)
written_again b (Ok bytes) rules widths text = base_of_only bytes b rules widths text
written_again b (Err e) rules widths text = tt
