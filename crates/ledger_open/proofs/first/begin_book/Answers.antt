use Rattle.std.proofs.Common.{sym, ◌∙◌, ap, List}
use Rattle.journal_record.specs.Entry.{content_digest_of}
use Rattle.std.proofs.Common.{◌++◌, ◌∷◌, [], ℕ, take, drop}
use Rattle.block_file.specs.Places.{place_of_record}
use Rattle.block_file.specs.declared.place.PlaceAt.{PlaceAt}
use Rattle.ledger_open.proofs.first.begin_book.Goals as goal

pub returns-clause-ok : goal.returns-clause-ok
returns-clause-ok c = (
  c.in-Ok-add.ensures.ok ∙ ap (λ (l : List PlaceAt). l ++ place_of_record c.args.first.now ∷ []) c.new-places.ensures,
  λ e header content. (c.in-Ok.ensures.serves e (record { header_is = header; operator_is = c.keys_of.ensures.0 ∙ ap (λ (l : List ℕ). take 32 l) (sym content); regulator_is = c.keys_of.ensures.1 ∙ ap (λ (l : List ℕ). drop 32 l) (sym content); digest_is = c.requires.digest ∙ ap content_digest_of (sym content) }), c.in-Ok.ensures.behind e header),
)
