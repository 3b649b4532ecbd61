use Rattle.std.proofs.Common.{sym, ◌∙◌, ap, subst, All, length}
use Rattle.ledger_open.specs.Ahead.{AreLeaves, blocks_in}
use Rattle.ledger_open.specs.declared.ahead.Hashed.{Hashed}
use Rattle.ledger_open.proofs.AheadLaws.{written_over}
use Rattle.ledger_open.proofs.ahead.Ahead.hash.Goals as goal

pub returns-clause-blocks : goal.returns-clause-blocks
returns-clause-blocks c =
    let same = c.hash_all.ensures.blocks ∙ ap blocks_in c.as_mut_slice.ensures.value in
    ap blocks_in (written_over c.args.self.now.blocks.items c.hash_all.new.blocks c.args.self.now.blocks.len (sym c.as_mut_slice.ensures.len ∙ ap length c.as_mut_slice.ensures.value) same) ∙ same

pub returns-clause-leaves : goal.returns-clause-leaves
returns-clause-leaves c =
    let same = c.hash_all.ensures.blocks ∙ ap blocks_in c.as_mut_slice.ensures.value in
    subst (All (λ (h : Hashed). AreLeaves h.block.records h.leaves.items))
    (sym (written_over c.args.self.now.blocks.items c.hash_all.new.blocks c.args.self.now.blocks.len (sym c.as_mut_slice.ensures.len ∙ ap length c.as_mut_slice.ensures.value) same)) c.hash_all.ensures.leaves
