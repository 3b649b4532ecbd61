-- Where the headers of a dump are those of a ledger from some journal on, each has the journals that the other has.
use Rattle.std.proofs.Common.{◌≡◌, ℕ, ◌+◌, ◌-◌, ◌<◌, List, [], ◌++◌, length, map, get_or, drop, All, None, sym, ap, ◌∙◌, subst, arith, length-drop}
use Rattle.std.specs.List.{Any}
use Rattle.std.proofs.lemmas.List.{length-map, get_or-drop, get_or-map, get_or_default}
use Rattle.journal_record.specs.Header.{spelling}
use Rattle.journal_record.specs.Items.{Item, IsItem}
use Rattle.journal_record.specs.Reading.{header_at}
use Rattle.journal_record.specs.declared.header.Header.{Header}
use Rattle.journal_record.proofs.ReadingLaws.{IsWhole, header_back}
use Rattle.dump_model.specs.Truth.{HasJournal}
use Rattle.dump_model.proofs.Same.{same_spelled}

-- headers that are spelled alike are the same
pub same_header : (x y : Header) → IsWhole x → IsWhole y → spelling x ≡ spelling y → x ≡ y
same_header x y whole_x whole_y same =
    (same_spelled header_at spelling IsWhole header_back x y [] [] whole_x whole_y (ap (λ bytes. bytes ++ []) same)).0

module _ (headers : List (List ℕ)) (first : ℕ) (items : List Item) (fit : All IsItem items) (are : map (λ item. spelling item.header) items ≡ drop first headers) (IsSo : Header → Type 0) where
  count : length items ≡ length headers - first
  count = sym (length-map items (λ item. spelling item.header)) ∙ ap length are ∙ length-drop first headers

  -- the header of a journal of the dump is that of the ledger's journal
  stands_at : (place : ℕ) (item : Item) → place < length items → get_or headers (first + place) [] ≡ spelling (get_or items place item).header
  stands_at place item below =
      sym (get_or-drop first headers place []) ∙ ap (λ leaves. get_or leaves place []) (sym are) ∙ get_or-map (λ x. spelling x.header) items place item [] below

  pub in_ledger : Any (λ item. IsSo item.header) items → HasJournal headers first IsSo
  in_ledger (place, item, below, is, so) =
      let fits : IsItem item = subst IsItem is (fit place item below) in
      record {
        number = first + place;
        header = item.header;
        behind = omega arith;
        within = omega (arith, below, count);
        stands = stands_at place item below ∙ ap (λ x. spelling x.header) is;
        rules = fits.rules;
        widths = fits.widths;
        so = so;
      }

  pub in_dump : HasJournal headers first IsSo → Any (λ item. IsSo item.header) items
  in_dump journal =
      let place : ℕ = journal.number - first in
      let below : place < length items = omega (arith, journal.behind, journal.within, count) in
      let other : Item = record { header = journal.header; body = None; who = [] } in
      let item : Item = get_or items place other in
      let fits : IsItem item = fit place other below in
      let number : first + place ≡ journal.number = omega (arith, journal.behind) in
      let spelled : spelling item.header ≡ spelling journal.header = sym (stands_at place other below) ∙ ap (λ n. get_or headers n []) number ∙ journal.stands in
      let same : item.header ≡ journal.header =
      same_header item.header journal.header (record { rules = fits.rules; widths = fits.widths }) (record { rules = journal.rules; widths = journal.widths }) spelled in
      (place, item, below, get_or_default items place item other below, subst IsSo (sym same) journal.so)
