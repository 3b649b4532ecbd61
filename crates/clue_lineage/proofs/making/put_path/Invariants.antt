use Rattle.std.proofs.Common.{◌≡◌, ◌∷◌, ◌++◌, length, map, take}
use Rattle.std.specs.List.{concat}
use Rattle.ledger_bytes.specs.declared.digest.Digest.{Digest}
use Rattle.clue_lineage.proofs.making.put_path.Given as goal

abbrev pub invariant-loop-digest : goal.invariant-loop-digest
invariant-loop-digest l = l.writer ≡ l.fn.writer ++ length l.digests ∷ concat (map (λ (d : Digest). d.0) (take l.digest-index l.digests))
