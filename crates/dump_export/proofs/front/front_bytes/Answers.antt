use Rattle.std.proofs.Common.{ℕ, ◌-◌, ap₂, ◌∙◌}
use Rattle.std.proofs.lemmas.Result.{IfOk-weaker}
use Rattle.dump_export.proofs.Texts.{front_is}
use Rattle.dump_export.proofs.front.front_bytes.Goals as goal

pub returns : goal.returns
returns c =
    IfOk-weaker c.spell_front.result _ _
    (λ bytes is h entries of.
    is ∙ front_is c.args.book.now h entries c.id.result.0 c.as_slice.result.now c.saturating_sub-count.result of
    (c.id.ensures h of.serves.stands) (c.as_slice.ensures ∙ c.in_ok-base.ensures h of)
    (c.saturating_sub-count.ensures ∙ ap₂ (λ (m n : ℕ). m - n) c.size.ensures.size c.floor.ensures))
    c.spell_front.ensures
