-- What an open file has of a journal can stand in a set as its ledger shows it.
use Rattle.std.specs.Prelude.{All, if◌then◌else◌, slice_get, option_map}
use Rattle.std.proofs.Common.{◌≡◌, ℕ, ◌+◌, ◌-◌, ◌≤◌, Bool, true, false, List, [], ◌∷◌, length, map, get_or, drop, Some, None, refl, sym, ap, ◌∙◌, subst, arith}
use Rattle.std.proofs.lemmas.List.Elements.{All-nil, All-cons, All-append, All-map}
use Rattle.std.proofs.lemmas.Option.{get_or_from_slice_get, slice_get-get_or, slice_get-map, slice_get_within}
use Rattle.journal_record.specs.Blocks.{IsEntry, AreFrom, AreBlocks}
use Rattle.journal_record.specs.Entry.{Entry}
use Rattle.journal_record.specs.Header.{HasWidths}
use Rattle.journal_record.specs.Items.{IsItem, FitsHeader, may_be_erased}
use Rattle.journal_record.specs.Rules.{IsHeader}
use Rattle.journal_record.specs.declared.approval.TheConstants.{WHO_LIMIT}
use Rattle.journal_record.specs.declared.header.Header.{Header}
use Rattle.journal_record.specs.declared.header.Kind.TheVariants as kind
use Rattle.dump_model.specs.Shown.{shown}
use Rattle.ledger_model.specs.History.{History, journals, journals_of, point}
use Rattle.ledger_model.specs.Lawful.{AreLawful}
use Rattle.ledger_model.specs.Targets.{is_hidden, kind_at}
use Rattle.ledger_model.proofs.HideLaws.{hidden_record, number_at}
use Rattle.ledger_model.proofs.LawfulLaws.{lawful_from}
use Rattle.ledger_open.specs.Standing.{floor_behind, IsKept, AllKept, SameButHidden, IsErased}
use Rattle.ledger_open.proofs.PartLaws.{kept_from}
use Rattle.ledger_open.proofs.PieceLaws.{get_drop}
use Rattle.survivor_set.specs.Keeping.{AreShowable}

-- ---- in a file

-- a journal's header keeps its rules, and its parts have the lengths that there may be; of a hidden content nothing is said
record IsFitting (hid : ℕ → Bool) (e : Entry) : Type 0 where
  rules : IsHeader e.header
  widths : HasWidths e.header
  content : hid e.header.jsn ≡ false → length e.content ≡ e.header.content_len
  who : length e.who ≤ WHO_LIMIT

module _ (hid gone : ℕ → Bool) where
  fits_one : (n : ℕ) (e f : Entry) → IsKept hid gone e f → IsEntry n f → IsFitting hid e
  fits_one n e f kept is = record {
    rules = subst IsHeader kept.header is.rules;
    widths = subst HasWidths kept.header is.widths;
    content = λ seen. ap length (sym (kept.shown seen)) ∙ is.content ∙ ap (λ (x : Header). x.content_len) kept.header;
    who = subst (λ (w : List ℕ). length w ≤ WHO_LIMIT) kept.who is.who;
  }

  fit_each : (n : ℕ) (es fs : List Entry) → AllKept hid gone es fs → AreFrom n fs → All (IsFitting hid) es
  fit_each n [] [] same from = All-nil (IsFitting hid)
  fit_each n [] (f ∷ fs) same from = absurd same
  fit_each n (e ∷ es) [] same from = absurd same
  fit_each n (e ∷ es) (f ∷ fs) same from = All-cons (IsFitting hid) e es (fits_one n e f same.0 from.0) (fit_each (n + 1) es fs same.1 from.1)

  fit_blocks : (n : ℕ) (bs cs : List (List Entry)) → SameButHidden hid gone bs cs → AreBlocks n cs → All (IsFitting hid) (journals_of bs)
  fit_blocks n [] [] same blocks = All-nil (IsFitting hid)
  fit_blocks n [] (c ∷ cs) same blocks = absurd same
  fit_blocks n (b ∷ bs) [] same blocks = absurd same
  fit_blocks n (b ∷ bs) (c ∷ cs) same blocks =
      All-append (IsFitting hid) b (journals_of bs) (fit_each n b c same.0 blocks.0.entries) (fit_blocks (n + length c) bs cs same.1 blocks.1)

-- all that a file has fit
fit_kept : (image : List ℕ) (h : History) → IsErased image h → All (IsFitting (is_hidden h)) (drop (point h) (journals h))
fit_kept image h s =
    subst (All (IsFitting (is_hidden h))) (kept_from (point h) h s.none s.parts)
    (fit_blocks (is_hidden h) (is_hidden h) (floor_behind h s.parts.gone).first s.parts.kept s.keeps.blocks s.keeps.same s.keeps.file.lawful)

-- ---- as it is shown

-- only a record is hidden
hidden_there : (h : History) (n : ℕ) (e : Entry) → AreLawful (journals h) → slice_get (journals h) n ≡ Some e → is_hidden h e.header.jsn ≡ true → e.header.kind ≡ kind.Content
hidden_there h n e lawful there hid =
    let number : e.header.jsn ≡ n = number_at 0 n (journals h) e (lawful_from (journals h) lawful) there ∙ (omega arith) in
    let own : kind_at h n ≡ e.header.kind =
    get_or_from_slice_get (map (λ (j : Entry). j.header.kind) (journals h)) n e.header.kind kind.Genesis (slice_get-map (λ (j : Entry). j.header.kind) (journals h) n ∙ ap (option_map (λ (j : Entry). j.header.kind)) there) in
    sym own ∙ ap (kind_at h) (sym number) ∙ hidden_record h e.header.jsn lawful hid

is_item : (h : History) (n : ℕ) (e : Entry) → AreLawful (journals h) → slice_get (journals h) n ≡ Some e → IsFitting (is_hidden h) e → IsItem (shown h e)
is_item h n e lawful there fits = record { rules = fits.rules; widths = fits.widths; body = by_hidden (is_hidden h e.header.jsn) refl; who = fits.who }
  where
    by_hidden : (hidden : Bool) → is_hidden h e.header.jsn ≡ hidden → FitsHeader e.header (if hidden then None else Some e.content)
    by_hidden true hid = ap may_be_erased (hidden_there h n e lawful there hid)
    by_hidden false seen = fits.content seen

pub showable : (image : List ℕ) (h : History) → AreLawful (journals h) → IsErased image h → AreShowable h
showable image h lawful erased = All-map IsItem (shown h) (drop (point h) (journals h)) (λ k d lt.
    let e = get_or (drop (point h) (journals h)) k d in
    let place : point h + k - point h ≡ k = omega arith in
    let there : slice_get (journals h) (point h + k) ≡ Some e =
    sym (get_drop (point h) (point h + k) (journals h) (omega arith)) ∙ ap (slice_get (drop (point h) (journals h))) place ∙ slice_get-get_or (drop (point h) (journals h)) k d lt in
    is_item h (point h + k) e lawful there (fit_kept image h erased k d lt))

-- and each that is shown is one
pub shown_item : (h : History) (n : ℕ) (e : Entry) → AreShowable h → point h ≤ n → slice_get (journals h) n ≡ Some e → IsItem (shown h e)
shown_item h n e shows kept there =
    let js = drop (point h) (journals h) in
    let k = n - point h in
    let at : slice_get (map (shown h) js) k ≡ Some (shown h e) = slice_get-map (shown h) js k ∙ ap (option_map (shown h)) (get_drop (point h) n (journals h) kept ∙ there) in
    subst IsItem (get_or_from_slice_get (map (shown h) js) k (shown h e) (shown h e) at) (shows k (shown h e) (slice_get_within (map (shown h) js) k (shown h e) at))
