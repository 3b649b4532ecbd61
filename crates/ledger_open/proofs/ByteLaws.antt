-- What a copy has, whatever stands in the file that is copied.
use Rattle.std.specs.Prelude.{Bool, not, Option, Some, None}
use Rattle.std.proofs.Common.{◌≡◌, ℕ, ◌+◌, ◌-◌, ◌^◌, ◌<◌, ◌≤◌, List, [], ◌∷◌, ◌++◌, length, take, drop, get_or, map, sym, ◌∙◌, ap, subst, arith, append-nil, length-append, length-take, length-drop}
use Rattle.std.proofs.Math.Seq.{get_or-append_seam}
use Rattle.std.proofs.lemmas.List.{take_at}
use Rattle.block_file.specs.File.{IsShutAt}
use Rattle.block_file.specs.Head.{front_of, generation_of}
use Rattle.block_file.specs.FileView.{gate_of}
use Rattle.block_file.specs.declared.file.BlockFile.{BlockFile}
use Rattle.ledger_disk.specs.Disk.{State, settled_state}
use Rattle.ledger_open.specs.Heads.{edition_from, edition_of}
use Rattle.ledger_open.specs.Places.{AreInOrder}
use Rattle.block_file.specs.Places.{moved_place}
use Rattle.ledger_open.specs.Purging.{Ledger, IsAtGate, copied_file, open_disk}
use Rattle.block_file.specs.declared.place.PlaceAt.{PlaceAt}
use Rattle.ledger_open.proofs.MoveLaws.{turned}
use Rattle.ledger_open.proofs.OrderLaws.{order_low, order_moved}
use Rattle.twin_file.proofs.HeadLaws.{generation_before, tail_size}
use Rattle.twin_file.specs.Places.{IsBuiltCopy, IsLonger}
use Rattle.twin_file.specs.Twin.{choice, next_generation}

-- a copy that was begun, with a piece behind its front
longer_bytes : (front piece old new : List ℕ) (copy : Option BlockFile) → IsBuiltCopy front [] old copy → IsLonger piece old new copy → new ≡ front ++ piece ++ 0 ∷ []
longer_bytes front piece old new None built longer = absurd built
longer_bytes front piece old new (Some file) built longer =
    let seen : old ≡ (front ++ []) ++ 0 ∷ [] = built.seen in
    let place : gate_of file ≡ length (front ++ []) = sym built.ends in
    let first : take (gate_of file) old ≡ front ++ [] = ap (take (gate_of file)) seen ∙ take_at (front ++ []) (0 ∷ []) (gate_of file) (sym place) in
    longer (omega (arith, ap length seen, place, length-append (front ++ []) (0 ∷ []))) ∙ ap (λ (l : List ℕ). (l ++ piece) ++ 0 ∷ []) (first ∙ append-nil front)

-- A copy was begun, a range was added to it, it was opened, and the old file was wiped. x, y, z, w and v tell the place of the
-- open file at these calls.
pub wiped_bytes : (x y z : Bool) (g : ℕ) (a b a1 b1 a2 b2 : State) (base : List ℕ) (gate place tail : ℕ) (begun : Option BlockFile) → y ≡ x → z ≡ y → choice x a1 b1 ≡ choice x a b
    → IsBuiltCopy (front_of 0 (next_generation g) base) [] (choice x b1 a1).seen begun → IsLonger (take (tail - gate) (drop gate (choice y a1 b1).seen)) (choice y b1 a1).seen (choice y b2 a2).seen begun → tail ≡ place
    → (w v : Bool) (a3 b3 a4 b4 : State) → w ≡ not z → v ≡ w → choice z b3 a3 ≡ settled_state (1 ∷ drop 1 (choice z b2 a2).seen) → choice w a4 b4 ≡ choice w a3 b3
    → choice v a4 b4 ≡ settled_state (copied_file (next_generation g) base gate place (choice x a b).seen)
wiped_bytes x y z g a b a1 b1 a2 b2 base gate place tail begun e f same1 built longer at w v a3 b3 a4 b4 turns stays now same =
    let front = front_of 0 (next_generation g) base in
    let piece = take (place - gate) (drop gate (choice x a b).seen) in
    let source : (choice y a1 b1).seen ≡ (choice x a b).seen = ap (λ (u : Bool). (choice u a1 b1).seen) e ∙ ap (λ (s : State). s.seen) same1 in
    let taken : take (tail - gate) (drop gate (choice y a1 b1).seen) ≡ piece = ap (λ (n : ℕ). take (n - gate) (drop gate (choice y a1 b1).seen)) at ∙ ap (λ (l : List ℕ). take (place - gate) (drop gate l)) source in
    let bytes : (choice y b2 a2).seen ≡ front ++ piece ++ 0 ∷ [] =
    longer_bytes front piece (choice y b1 a1).seen (choice y b2 a2).seen begun (subst (λ (u : Bool). IsBuiltCopy front [] (choice u b1 a1).seen begun) (sym e) built)
    (subst (λ (l : List ℕ). IsLonger l (choice y b1 a1).seen (choice y b2 a2).seen begun) taken longer) in
    ap (λ (u : Bool). choice u a4 b4) stays ∙ same ∙ ap (λ (u : Bool). choice u a3 b3) turns ∙ turned z a3 b3 ∙ now
    ∙ ap (λ (l : List ℕ). settled_state (1 ∷ drop 1 l)) (ap (λ (u : Bool). (choice u b2 a2).seen) f ∙ bytes)

-- ---- what it keeps to

module _ (generation from to : ℕ) (base file : List ℕ) (inside : from ≤ to) (long : to ≤ length file) where
  abbrev piece : List ℕ
  piece = take (to - from) (drop from file)

  abbrev front : List ℕ
  front = front_of 1 generation base

  before : length (front ++ piece) ≡ 64 + length base + (to - from)
  before = omega (arith, inside, long, length-append front piece, length-take (to - from) (drop from file), length-drop from file, ap length (append-nil front), tail_size 1 generation base)

  pub copied_length : length (copied_file generation base from to file) ≡ 64 + length base + (to - from) + 1
  copied_length = omega (arith, before, length-append (front ++ piece) (0 ∷ []))

  -- its tail gate is shut
  pub copied_shut : IsShutAt (64 + length base + (to - from)) (copied_file generation base from to file)
  copied_shut = (
    omega (arith, before, length-append (front ++ piece) (0 ∷ [])),
    λ one. let none : 0 ≡ 1 = sym (last_is (front ++ piece) (64 + length base + (to - from)) before) ∙ one in omega (arith, none),
  ) where
    last_is : (xs : List ℕ) (n : ℕ) → length xs ≡ n → get_or (xs ++ 0 ∷ []) n 0 ≡ 0
    last_is xs n is = ap (λ (k : ℕ). get_or (xs ++ 0 ∷ []) k 0) (sym is) ∙ get_or-append_seam xs 0 [] 0

pub copied_generation : (g from to : ℕ) (base file : List ℕ) → next_generation g ≡ generation_of (copied_file (next_generation g) base from to file)
copied_generation g from to base file = sym (generation_before (next_generation g) base (take (to - from) (drop from file)) (omega arith))

pub copied_edition : (g from to : ℕ) (base file : List ℕ) → edition_from 2 (next_generation g) ≡ edition_of (copied_file (next_generation g) base from to file)
copied_edition g from to base file = ap (edition_from 2) (copied_generation g from to base file)

-- the places of what stays
pub order_left : (gate place first : ℕ) (places : List PlaceAt) → gate ≤ place → first + (place - gate) < 2 ^ 64 → 64 ≤ first → AreInOrder gate place places → AreInOrder 64 (first + (place - gate)) (map (moved_place gate first) places)
order_left gate place first places inside fits low order =
    let o = order_moved gate first gate place places (omega arith) (omega (arith, fits, inside)) order in
    order_low 64 (gate - gate + first) (first + (place - gate)) (map (moved_place gate first) places) (omega (arith, low)) (subst (λ (n : ℕ). AreInOrder (gate - gate + first) n (map (moved_place gate first) places)) (omega (arith, inside)) o)

-- a ledger whose open file is such a copy
pub gate_copied : (l m : Ledger) (from : ℕ) (base : List ℕ) → from ≤ l.known.gate → open_disk m ≡ settled_state (copied_file (next_generation l.edition.number) base from l.known.gate (open_disk l).seen)
    → m.known.gate ≡ 64 + length base + (l.known.gate - from) → m.edition ≡ edition_from 2 (next_generation l.edition.number) → IsAtGate l → IsAtGate m
gate_copied l m from base inside is at next g =
    let seen : (open_disk m).seen ≡ copied_file (next_generation l.edition.number) base from l.known.gate (open_disk l).seen = ap (λ (s : State). s.seen) is in record {
      shut = subst (λ (n : ℕ). IsShutAt n (open_disk m).seen) (sym at) (subst (IsShutAt (64 + length base + (l.known.gate - from))) (sym seen) (copied_shut (next_generation l.edition.number) from l.known.gate base (open_disk l).seen inside (omega (arith, g.shut.0))));
      edition = next ∙ copied_edition l.edition.number from l.known.gate base (open_disk l).seen ∙ sym (ap edition_of seen);
    }
