use Rattle.std.specs.Prelude.{IsSomeAnd, Option, Some}
use Rattle.std.proofs.Common.{◌≡◌, ◌+◌, ◌-◌, ℕ, List, length, take, drop, sym, ap, subst, arith, ◌∙◌}
use Rattle.block_file.specs.File.{open_blocks, whole_file}
use Rattle.block_file.specs.FileView.{gate_of}
use Rattle.block_file.specs.Head.{front_of}
use Rattle.ledger_disk.specs.Disk.{State}
use Rattle.twin_file.specs.Twin.{open_of, next_generation}
use Rattle.twin_file.specs.Which.{in_a_of, format_in, generation_in, file_of}
use Rattle.twin_file.specs.declared.twin.Twin.{Twin}
use Rattle.ledger_open.specs.Carrying.{MayCarry, StandsCarrying}
use Rattle.ledger_open.specs.Heads.{Edition}
use Rattle.ledger_open.specs.Purging.{MayMove, AllEither}
use Rattle.ledger_open.specs.Starts.{base_in}
use Rattle.ledger_open.proofs.CarryLaws.{quiet_pairs, moving}
use Rattle.ledger_open.proofs.carrying.carry.Goals as goal

pub returns-in_default-clause-images : goal.returns-in_default-clause-images
returns-in_default-clause-images g c told may = quiet_pairs (in_a_of c.args.twin.now) (g.D.Disk.state c.args.a.now).bytes (g.D.Disk.state c.args.b.now).bytes

pub returns-then-version-ne1-clause-images : goal.returns-then-version-ne1-clause-images
returns-then-version-ne1-clause-images g c told may = quiet_pairs (in_a_of c.args.twin.now) (g.D.Disk.state c.args.a.now).bytes (g.D.Disk.state c.args.b.now).bytes

over : (t u : Twin) → u ≡ t → (base : Option (List ℕ)) (bytes slice : List ℕ) (gate : ℕ) (a b a_new b_new : State) → MayCarry t base a b → format_in t ≡ 1 → base ≡ Some bytes → slice ≡ bytes → gate ≡ 64 + length slice
    → ((blocks : List (List ℕ)) → MayMove (in_a_of u) (generation_in u) a b → take (gate_of (file_of u) - gate) (drop gate (open_of (in_a_of u) a b).seen) ≡ open_blocks blocks
    → AllEither (in_a_of u) (open_of (in_a_of u) a b).seen (whole_file (front_of 1 (next_generation (generation_in u)) slice) blocks) a_new b_new)
    → StandsCarrying (in_a_of t) a b a_new b_new
over t u same base bytes slice gate a b a_new b_new may one some slice_is gate_is each =
    let now : MayCarry u base a b = subst (λ (v : Twin). MayCarry v base a b) (sym same) may in
    let older : format_in u ≡ 1 = ap format_in same ∙ one in
    let taken = subst (λ (o : Option (List ℕ)). IsSomeAnd o (λ l. l ≡ base_in (open_of (in_a_of u) a b).seen)) some (now.taken older) in
    subst (λ (v : Twin). StandsCarrying (in_a_of v) a b a_new b_new) same
    (moving (in_a_of u) (generation_in u) gate (gate_of (file_of u)) slice a b a_new b_new (sym (ap (λ (e : Edition). e.version) now.edition) ∙ older) (ap (λ (e : Edition). e.number) now.edition) (slice_is ∙ taken) gate_is now.ends each)

pub returns-in-Ok-clause-images : goal.returns-in-Ok-clause-images
returns-in-Ok-clause-images g c told may =
    over c.args.twin.now c.tail_gate.new.twin c.tail_gate.ensures.same c.args.base c.in-Some.base c.as_slice-2.result.now _ _ _ _ _ may (omega (arith, c.version.ensures, c.if-version-ne1.false)) c.in-Some.is c.as_slice-2.ensures
    (ap (λ (l : List ℕ). 64 + length l) (c.as_slice.ensures ∙ sym c.as_slice-2.ensures)) (c.move_over.ensures.images told)

pub returns-clause-images : goal.returns-clause-images
returns-clause-images g c told may =
    over c.args.twin.now c.tail_gate.new.twin c.tail_gate.ensures.same c.args.base c.in-Some.base c.as_slice-2.result.now _ _ _ _ _ may (omega (arith, c.version.ensures, c.if-version-ne1.false)) c.in-Some.is c.as_slice-2.ensures
    (ap (λ (l : List ℕ). 64 + length l) (c.as_slice.ensures ∙ sym c.as_slice-2.ensures)) (c.move_over.ensures.images told)
