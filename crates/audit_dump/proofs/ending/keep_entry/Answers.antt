use Rattle.std.specs.Prelude.{map}
use Rattle.std.proofs.Common.{List, ℕ, ◌∷◌, ◌++◌, [], subst}
use Rattle.sha2.specs.Sha256.{sha256}
use Rattle.tree_model.specs.Tree.{leaf}
use Rattle.merkle_batch.specs.Rows.{StandsFor}
use Rattle.audit_dump.proofs.Pieces.{kept_more}
use Rattle.audit_dump.proofs.ending.keep_entry.Goals as goal

pub returns : goal.returns
returns c = λ es k.
    let stands = subst (λ (t : List ℕ). StandsFor sha256 c.add_entry.new.tree (map (leaf sha256) (es ++ t ∷ []))) c.as_slice.ensures (c.in_ok-add_entry.ensures.stands es k.stands) in
    kept_more es c.args.entry.now c.args.entries.now (record { tree = c.add_entry.new.tree; last = c.time_of-time.result; never_falls = c.still-entries.result }) k stands c.in_ok-add_entry.ensures.size c.in_ok-add_entry.ensures.few c.time_of-time.ensures c.still-entries.ensures
