use Rattle.std.proofs.Common.{rules, arith, ◌∙◌, [], List, length, map, refl, sym, subst, ap}
use Rattle.journal_record.specs.declared.header.Header.{Header}
use Rattle.ledger_book.specs.Numbered.{IndexesNumbers}
use Rattle.sha2.specs.Sha256.{sha256}
use Rattle.ledger_bytes.specs.declared.digest.Digest.{Digest}
use Rattle.merkle_batch.specs.Over.{StandsOver}
use Rattle.clue_index.specs.Added.{added_at_first, with_floor}
use Rattle.clue_index.specs.Index as index
use Rattle.ledger_book.specs.Basing.{member_with}
use Rattle.ledger_book.proofs.BaseLaws.{based_stands, based_behind, some_point}
use Rattle.ledger_book.proofs.NamedLaws.{clues_begun}
use Rattle.ledger_book.proofs.book.Book.from_base.Goals as goal

pub returns-clause-stands : goal.returns-clause-stands
returns-clause-stands c = λ h ends.
    let b = c.args.base.now in
    let clues : index.StandsForTrails c.drop_below.new.self (with_floor b.point (added_at_first b.clues)) =
    clues_begun b c.as_slice-2.result.now c.in_ok-clues.clues c.drop_below.new.self c.requires.base c.requires.widths c.as_slice-2.ensures c.in_ok-clues.ensures c.drop_below.ensures in
    based_stands b _ h (record {
      floor = refl;
      size_is = refl;
      point = refl;
      reached = refl;
      blocks = refl;
      sealed = refl;
      ends = c.new.ensures.items;
      id = refl;
      members_are = c.in_ok-members.ensures ∙ ap (map member_with) c.as_slice.ensures;
      clues = clues;
      hiders = c.new-2.ensures.items;
      fronts = c.new-3.ensures;
      times = c.new-5.ensures;
      headers_are = c.new-6.ensures.items;
      tree_is = λ ds size peaks. c.in_ok-tree.ensures.stands ds size (ap (map (λ (d : Digest). d.0)) c.as_slice-3.ensures ∙ peaks);
      root_is = c.root-root.ensures.list;
    }) ends (some_point b c.requires.base)

pub returns-clause-behind : goal.returns-clause-behind
returns-clause-behind c =
    let b = c.args.base.now in
    let clues : index.StandsForTrails c.drop_below.new.self (with_floor b.point (added_at_first b.clues)) =
    clues_begun b c.as_slice-2.result.now c.in_ok-clues.clues c.drop_below.new.self c.requires.base c.requires.widths c.as_slice-2.ensures c.in_ok-clues.ensures c.drop_below.ensures in
    based_behind b _ c.requires.base (record {
      floor = refl;
      size_is = refl;
      point = refl;
      reached = refl;
      blocks = refl;
      sealed = refl;
      ends = c.new.ensures.items;
      id = refl;
      members_are = c.in_ok-members.ensures ∙ ap (map member_with) c.as_slice.ensures;
      clues = clues;
      hiders = c.new-2.ensures.items;
      fronts = c.new-3.ensures;
      times = c.new-5.ensures;
      headers_are = c.new-6.ensures.items;
      tree_is = λ ds size peaks. c.in_ok-tree.ensures.stands ds size (ap (map (λ (d : Digest). d.0)) c.as_slice-3.ensures ∙ peaks);
      root_is = c.root-root.ensures.list;
    })
    (subst (λ (ds : List Digest). StandsOver sha256 c.in_ok-tree.tree b.point (map (λ (d : Digest). d.0) ds) []) c.as_slice-3.ensures (c.in_ok-tree.ensures.over (ap length c.as_slice-3.ensures ∙ c.requires.base.peaks)))

pub invariant_of-result : goal.invariant_of-result
invariant_of-result c = (
  search (rules, arith),
  search (rules, arith),
  c.requires.limits,
  search (rules, arith),
  search (rules, arith),
  search (rules, arith),
  search (rules, arith),
  search (rules, arith),
  search (rules, arith),
  search (rules, arith),
  subst (λ (xs : List Header). IndexesNumbers c.new-4.result c.args.base.now.point xs) (sym c.new-6.ensures.items) (c.new-4.ensures c.args.base.now.point),
  search (rules, arith),
)
