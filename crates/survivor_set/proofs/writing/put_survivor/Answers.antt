use Rattle.std.proofs.Common.{List, ℕ, ◌≡◌, ◌++◌, ◌∷◌, ◌/◌, length, subst, ◌∙◌}
use Rattle.std.specs.Prelude.{OnOk}
use Rattle.survivor_set.specs.Sets.{saved_text}
use Rattle.survivor_set.proofs.writing.put_survivor.Goals as goal

pub returns : goal.returns
unfolding saved_text
returns c =
    subst (λ (t : List ℕ). OnOk c.put_spelled.result (c.put_spelled.new.fields ≡ c.args.fields.now ++ (t ++ (length c.args.path.now / 32 ∷ c.args.path.now)))) (c.as_slice.ensures ∙ c.in_ok-item.ensures.text) c.put_spelled.ensures
