use Rattle.std.proofs.Common.{arith, ap, ◌∙◌, ◌∷◌, ◌++◌, [], ℕ, List}
use Rattle.notary_ledger.proofs.LocalLaws.{has_times_push}
use Rattle.notary_ledger.proofs.memory.MemNotaryNotary.stamp.Goals as goal

pub invariant_of-self-2 : goal.invariant_of-self-2
invariant_of-self-2 c =
    has_times_push _ _ _ c.len-index.result c.self.invariant c.len-index.ensures (omega (arith, c.if-index-ge-NOTARY_LIMIT.false)) c.new_entry-entry.ensures.width c.new_entry-entry.ensures.time
    (c.push.ensures ∙ ap (λ (l : List (List ℕ)). l ++ c.new_entry-entry.result ∷ []) c.in-Ok.ensures.entries)

pub returns-clause-lawful : goal.returns-clause-lawful
returns-clause-lawful c =
    (has_times_push _ _ _ c.len-index.result c.self.invariant c.len-index.ensures (omega (arith, c.if-index-ge-NOTARY_LIMIT.false)) c.new_entry-entry.ensures.width c.new_entry-entry.ensures.time
    (c.push.ensures ∙ ap (λ (l : List (List ℕ)). l ++ c.new_entry-entry.result ∷ []) c.in-Ok.ensures.entries)).list
