use Rattle.std.proofs.Common.{arith, ◌∙◌, ap, sym, ℕ, List, [], ◌∷◌, ◌+◌, ◌≤◌, ◌≡◌, length, take, drop, length-take, length-drop}
use Rattle.ledger_disk.specs.Disk.{overlay}
use Rattle.block_file.proofs.WriteLaws.{told_within_some}
use Rattle.block_file.proofs.VeilLaws.{over_the_tail}
use Rattle.block_file.proofs.copying.put_copy.Goals as goal

pub returns-in_err-copy_range-clause-veiled : goal.returns-in_err-copy_range-clause-veiled
returns-in_err-copy_range-clause-veiled g c told veiled = c.copy_range.ensures.guards told (0 ∷ []) veiled c.requires.behind

pub returns-in_err-end_copy-clause-veiled : goal.returns-in_err-end_copy-clause-veiled
returns-in_err-end_copy-clause-veiled g c told veiled = c.end_copy.ensures.veiled told (c.copy_range.ensures.guards told (0 ∷ []) veiled c.requires.behind)

pub returns-clause-veiled : goal.returns-clause-veiled
returns-clause-veiled g c told veiled = c.end_copy.ensures.veiled told (c.copy_range.ensures.guards told (0 ∷ []) veiled c.requires.behind)

pub returns-clause-seen : goal.returns-clause-seen
returns-clause-seen g c told size =
    let from = (g.D.Disk.state c.args.from.now).bytes.seen in
    let file = (g.D.Disk.state c.args.to.now).bytes.seen in
    let long : c.args.at + c.args.len ≤ length from = told_within_some _ (length from) (c.args.at + c.args.len) (g.met.D.Disk.length_is c.args.from.now told) c.requires.from in
    let piece = take c.args.len (drop c.args.at from) in
    let len : length piece ≡ c.args.len = omega (arith, length-take c.args.len (drop c.args.at from), length-drop c.args.at from) in
    c.in_ok-end_copy.ensures.seen told
    ∙ ap (λ (l : List ℕ). overlay (c.args.place + c.args.len) (0 ∷ []) l) (c.in_ok-copy_range.ensures.ok told)
    ∙ ap (λ (k : ℕ). overlay (c.args.place + k) (0 ∷ []) (overlay c.args.place piece file)) (sym len)
    ∙ over_the_tail file piece c.args.place size
