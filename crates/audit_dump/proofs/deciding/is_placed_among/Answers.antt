use Rattle.std.proofs.Common.{ap, sym, ◌∙◌}
use Rattle.journal_record.specs.Items.{Item}
use Rattle.journal_record.specs.Members.{keys}
use Rattle.journal_record.specs.declared.header.Kind.TheVariants as kind
use Rattle.audit_dump.proofs.Decisions.{as_its_kind}
use Rattle.audit_dump.proofs.deciding.is_placed_among.Goals as goal

pub returns-in-Occult : goal.returns-in-Occult
returns-in-Occult g c =
    as_its_kind (g.V.Verifier.shows c.args.verifier.now) c.args.id.now.0 (keys c.args.known.now) c.args.needed.now c.args.root c.args.journal.now kind.Occult c.is_placed_occult.result
    (sym (ap (λ (x : Item). x.header.kind) c.journal.view_is) ∙ c.in-Occult.is) c.is_placed_occult.ensures

pub returns-in-Purge : goal.returns-in-Purge
returns-in-Purge g c =
    as_its_kind (g.V.Verifier.shows c.args.verifier.now) c.args.id.now.0 (keys c.args.known.now) c.args.needed.now c.args.root c.args.journal.now kind.Purge c.is_placed_purge.result
    (sym (ap (λ (x : Item). x.header.kind) c.journal.view_is) ∙ c.in-Purge.is) c.is_placed_purge.ensures

pub returns-in-ClueOccult : goal.returns-in-ClueOccult
returns-in-ClueOccult g c =
    as_its_kind (g.V.Verifier.shows c.args.verifier.now) c.args.id.now.0 (keys c.args.known.now) c.args.needed.now c.args.root c.args.journal.now kind.ClueOccult c.is_placed_clue_occult.result
    (sym (ap (λ (x : Item). x.header.kind) c.journal.view_is) ∙ c.in-ClueOccult.is) c.is_placed_clue_occult.ensures
