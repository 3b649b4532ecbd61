-- Which breaks the bytes of a base may have.
use Rattle.std.proofs.Common.{◌-◌, ◌≡◌, ℕ, ◌+◌, ◌*◌, Bool, true, false, cond, eqb, ltb, List, length, Result, Ok, Err, subst}
use Rattle.std.specs.Prelude.{IfErr, count_ones}
use Rattle.std.specs.Int.{Width, w8, w16, w32, w64, byte_len}
use Rattle.ledger_bytes.specs.Digests.{zero_digest}
use Rattle.ledger_bytes.specs.declared.failure.Bad.{Bad}
use Rattle.ledger_bytes.specs.declared.failure.Bad.TheVariants.{Short, Trailing, NewerFormat}
use Rattle.ledger_bytes.specs.Fields.{Unread, left_from, number_at, digest_at, check, end_at}
use Rattle.pseudo_genesis.specs.declared.base.Base.{Base}
use Rattle.pseudo_genesis.specs.declared.base.BaseErr.{BaseErr}
use Rattle.pseudo_genesis.specs.declared.base.BaseErr.TheVariants as base_err
use Rattle.pseudo_genesis.specs.Bases.{version_ok, point_ok, blocks_ok, members_ok, clues_ok, is_behind, is_inside}
use Rattle.pseudo_genesis.specs.Reading.{any_digest_at, still, digests_at, known_version, base_front_at, keys_at, Before, state_at, behind, states_at, clues_at, base_at, base_of, ReadsBase, IsBreak, IsFailure}
use Rattle.pseudo_genesis.proofs.Many.{then_breaks, many_breaks}

short_breaks : {A : Type 0} (b : Bool) (at : ℕ) (x : A) → IfErr (cond b (Err (Short at)) (Ok x)) IsBreak
short_breaks true at x = tt
short_breaks false at x = tt

check_breaks : (ok : Bool) (at : ℕ) → IfErr (check ok at) IsBreak
check_breaks true at = tt
check_breaks false at = tt

end_breaks : {A : Type 0} (b : Bool) (at : ℕ) (x : A) → IfErr (cond b (Ok x) (Err (Trailing at))) IsBreak
end_breaks true at x = tt
end_breaks false at x = tt

number_breaks : (w : Width) (l : Unread) → IfErr (number_at w l) IsBreak
number_breaks w l = short_breaks (ltb (length l.rest) (byte_len w)) l.whole _

digest_breaks : (l : Unread) → IfErr (digest_at l) IsBreak
digest_breaks l = short_breaks (ltb (length l.rest) 32) l.whole _

digests_breaks : (n : ℕ) (l : Unread) → IfErr (digests_at n l) IsBreak
unfolding digests_at
digests_breaks n l = many_breaks any_digest_at still (λ known. digest_breaks) n tt l

abbrev tested : Bool → ℕ → Result (Unit {0}) Bad
tested ok version = cond ok (Ok tt) (Err (NewerFormat version))

test_breaks : (ok : Bool) (version : ℕ) → IfErr (tested ok version) IsBreak
test_breaks true version = tt
test_breaks false version = tt

version_breaks : (version : ℕ) → IfErr (known_version version) IsBreak
version_breaks version = test_breaks (version_ok version) version

front_breaks : (l : Unread) → IfErr (base_front_at l) IsBreak
unfolding base_front_at
front_breaks l =
    then_breaks (number_at w8 l) _ (number_breaks w8 l)
    (λ version. then_breaks (known_version version.0) _ (version_breaks version.0)
    (λ _. then_breaks (digest_at version.1) _ (digest_breaks version.1)
    (λ id. then_breaks (number_at w64 id.1) _ (number_breaks w64 id.1)
    (λ point. then_breaks (check (point_ok point.0) 33) _ (check_breaks (point_ok point.0) 33)
    (λ _. then_breaks (number_at w64 point.1) _ (number_breaks w64 point.1)
    (λ blocks. then_breaks (check (blocks_ok point.0 blocks.0) 41) _ (check_breaks (blocks_ok point.0 blocks.0) 41) (λ _. tt)))))))

keys_breaks : (at : ℕ) (l : Unread) → IfErr (keys_at at l) IsBreak
unfolding keys_at
keys_breaks at l =
    then_breaks (number_at w16 l) _ (number_breaks w16 l)
    (λ count. then_breaks (check (members_ok count.0) at) _ (check_breaks (members_ok count.0) at) (λ _. digests_breaks count.0 count.1))

state_breaks : (point : ℕ) (before : Before) (l : Unread) → IfErr (state_at point before l) IsBreak
unfolding state_at
state_breaks point before l =
    then_breaks (digest_at l) _ (digest_breaks l)
    (λ clue. then_breaks (check (is_behind before.clue clue.0) before.place) _ (check_breaks (is_behind before.clue clue.0) before.place)
    (λ _. then_breaks (number_at w32 clue.1) _ (number_breaks w32 clue.1)
    (λ count. then_breaks (check (is_inside point count.0) (before.place + 32)) _ (check_breaks (is_inside point count.0) (before.place + 32))
    (λ _. then_breaks (number_at w64 count.1) _ (number_breaks w64 count.1)
    (λ last. then_breaks (check (is_inside point last.0) (before.place + 36)) _ (check_breaks (is_inside point last.0) (before.place + 36)) (λ _. tt))))))

clues_breaks : (point at : ℕ) (l : Unread) → IfErr (clues_at point at l) IsBreak
unfolding clues_at states_at
clues_breaks point at l =
    then_breaks (number_at w32 l) _ (number_breaks w32 l)
    (λ count. then_breaks (check (clues_ok count.0) at) _ (check_breaks (clues_ok count.0) at)
    (λ _. many_breaks (state_at point) behind (state_breaks point) count.0 (record { clue = zero_digest; place = at + 4 }) count.1))

base_breaks : (l : Unread) → IfErr (base_at l) IsBreak
unfolding base_at
base_breaks l =
    then_breaks (base_front_at l) _ (front_breaks l)
    (λ f. then_breaks (digests_at (count_ones f.0.1) f.1) _ (digests_breaks (count_ones f.0.1) f.1)
    (λ p. then_breaks (keys_at (49 + 32 * count_ones f.0.1) p.1) _ (keys_breaks (49 + 32 * count_ones f.0.1) p.1)
    (λ k. then_breaks (clues_at f.0.1 (51 + 32 * count_ones f.0.1 + 32 * length k.0) k.1) _ (clues_breaks f.0.1 (51 + 32 * count_ones f.0.1 + 32 * length k.0) k.1) (λ c. tt))))

base_of_breaks : (bytes : List ℕ) → IfErr (base_of bytes) IsBreak
unfolding base_of
base_of_breaks bytes =
    let start : Unread = left_from (length bytes) bytes in
    then_breaks (base_at start) (λ read. end_at read.0 read.1) (base_breaks start)
    (λ read. end_breaks (eqb (length read.1.rest) 0) (read.1.whole - length read.1.rest) read.0)

broken : (read : Result Base Bad) (bad : Bad) → IfErr read IsBreak → read ≡ Err bad → IsBreak bad
broken read bad breaks e = subst (λ r. IfErr r IsBreak) e breaks

pub read_breaks : (bytes : List ℕ) (read : Result Base BaseErr) → ReadsBase read (base_of bytes) → IfErr read IsFailure
read_breaks bytes (Ok b) e = tt
read_breaks bytes (Err (base_err.Bad bad)) e = broken (base_of bytes) bad (base_of_breaks bytes) e
read_breaks bytes (Err base_err.NoMemory) e = tt
