use Rattle.std.specs.Prelude.{Some, IsTrue}
use Rattle.std.proofs.Common.{arith, sym, ◌∙◌, ap, subst, ℕ, List, length, get_or, take, drop, ◌≡◌}
use Rattle.ledger_disk.specs.Disk.{State}
use Rattle.block_file.specs.Head.{number_at, is_format}
use Rattle.block_file.proofs.file.BlockFile.head.Goals as goal

some_same : (n m : ℕ) → Some n ≡ Some m → n ≡ m
some_same n m is = cc

pub returns-clause-answer : goal.returns-clause-answer
returns-clause-answer g c told =
    let seen = (g.D.Disk.state c.args.disk.now).bytes.seen in
    let first : (g.D.Disk.state c.len.new.self).bytes.seen ≡ seen = ap (λ (s : State). s.seen) (c.len.ensures.state told) in
    let second : (g.D.Disk.state c.read_byte.new.disk).bytes.seen ≡ seen = ap (λ (s : State). s.seen) (c.read_byte.ensures.state told) ∙ first in
    let third : (g.D.Disk.state c.check_form.new.disk).bytes.seen ≡ seen = ap (λ (s : State). s.seen) (c.check_form.ensures.state told) ∙ second in
    let size : c.in_ok-len.field-0 ≡ length (g.D.Disk.state c.len.new.self).bytes.seen = some_same _ _ (sym c.in_ok-len.ensures.value ∙ g.met.D.Disk.length_is c.len.new.self told) in
    let form = c.in_ok-version.ensures.ok told in
    record {
      has = record {
        is_open = record {
          long = omega (arith, size, ap length first, c.if-branch-lt65.false);
          gate = sym (ap (λ (l : List ℕ). get_or l 0 0) first) ∙ sym (c.in_ok-read_byte.ensures.value told) ∙ c.if-branch-ne1.false;
        };
        magic_is = sym (ap (λ (l : List ℕ). take 8 (drop 1 l)) second) ∙ form.0;
        version = subst (λ (v : ℕ). IsTrue (is_format v)) (form.1 ∙ ap (λ (l : List ℕ). get_or l 9 0) second) form.2;
      };
      version = c.in_ok-head.ensures.version ∙ form.1 ∙ ap (λ (l : List ℕ). get_or l 9 0) second;
      generation = c.in_ok-head.ensures.generation told ∙ ap (λ (l : List ℕ). number_at 10 l) third;
      base_len = c.in_ok-head.ensures.base_len told ∙ ap (λ (l : List ℕ). number_at 18 l) third;
      base_digest = c.in_ok-head.ensures.base_digest told ∙ ap (λ (l : List ℕ). take 32 (drop 26 l)) third;
    }
