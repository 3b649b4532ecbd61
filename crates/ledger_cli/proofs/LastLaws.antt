-- Where the last journal of a history is neither an occult, of one record or of a clue's, nor a purge, nothing is left undone behind it.
use Rattle.std.specs.Prelude.{◌-◌, get_or}
use Rattle.std.proofs.Common.{◌≡◌, ℕ, ◌<◌, inl, inr, Bool, false, cond, List, [], ◌∷◌, ◌++◌, length, length-append, map, take, slice_get, Some, refl, ap, sym, ◌∙◌, arith}
use Rattle.std.proofs.lemmas.Bool.{true≢false}
use Rattle.std.proofs.lemmas.List.{take_at}
use Rattle.batch_committer.specs.World.{IsErasedPair}
use Rattle.journal_record.specs.Entry.{Entry}
use Rattle.journal_record.specs.declared.header.Header.{Header}
use Rattle.journal_record.specs.declared.header.Kind.{Kind}
use Rattle.journal_record.specs.declared.header.Kind.TheVariants as kind
use Rattle.ledger_model.specs.History.{History, journals, size, point, greatest_point, is_purge}
use Rattle.ledger_model.specs.Lawful.{AreLawful}
use Rattle.ledger_model.specs.Targets.{hides_as, kind_at}
use Rattle.ledger_model.proofs.PlaceLaws.{point_same}
use Rattle.ledger_open.specs.Erasing.{is_given_up}
use Rattle.ledger_open.specs.Standing.{PairOpen, point_before}
use Rattle.ledger_open.proofs.ErasingLaws.{nothing_open}
use Rattle.ledger_open.proofs.TargetLaws.{given_only}
use Rattle.twin_file.specs.Twin.{open_of}
use Rattle.ledger_cli.specs.Leaving.{is_erasure, ends_in_erasure}

-- ---- kinds

no_purge : (k : Kind) → is_erasure k ≡ false → is_purge k ≡ false
no_purge kind.Genesis is = refl
no_purge kind.Content is = refl
no_purge kind.Member is = refl
no_purge kind.Time is = refl
no_purge kind.Occult is = refl
no_purge kind.Purge is = absurd (true≢false is)
no_purge kind.ClueOccult is = absurd (true≢false is)

no_occult : (k : Kind) → is_erasure k ≡ false → (x target : Header) → hides_as k x target ≡ false
no_occult kind.Genesis is x target = refl
no_occult kind.Content is x target = refl
no_occult kind.Member is x target = refl
no_occult kind.Time is x target = refl
no_occult kind.Occult is x target = absurd (true≢false is)
no_occult kind.Purge is x target = absurd (true≢false is)
no_occult kind.ClueOccult is x target = absurd (true≢false is)

-- ---- the last of some journals

record HasLast (es : List Entry) : Type 0 where
  before : List Entry
  last : Entry
  is : es ≡ before ++ last ∷ []

has_last : (es : List Entry) → 0 < length es → HasLast es
has_last [] some = absurd (omega (arith, some))
has_last (e ∷ []) some = record { before = []; last = e; is = refl }
has_last (e ∷ f ∷ es) some = let more = has_last (f ∷ es) (omega arith) in record { before = e ∷ more.before; last = more.last; is = ap (λ (l : List Entry). e ∷ l) more.is }

got_last : (before : List Entry) (last : Entry) → slice_get (before ++ last ∷ []) (length before) ≡ Some last
got_last [] last = refl
got_last (e ∷ before) last = got_last before last

kind_last : (before : List Entry) (last : Entry) → get_or (map (λ (j : Entry). j.header.kind) (before ++ last ∷ [])) (length before) kind.Genesis ≡ last.header.kind
kind_last [] last = refl
kind_last (e ∷ before) last = kind_last before last

module _ (h : History) (l : HasLast (journals h)) (none : ends_in_erasure h ≡ false) where
  at : size h - 1 ≡ length l.before
  at = omega (arith, ap length l.is, length-append l.before (l.last ∷ []))

  kind_is : kind_at h (size h - 1) ≡ l.last.header.kind
  kind_is =
      ap (λ (js : List Entry). get_or (map (λ (j : Entry). j.header.kind) js) (size h - 1) kind.Genesis) l.is
      ∙ ap (λ n. get_or (map (λ (j : Entry). j.header.kind) (l.before ++ l.last ∷ [])) n kind.Genesis) at ∙ kind_last l.before l.last

  plain : is_erasure l.last.header.kind ≡ false
  plain = sym (ap is_erasure kind_is) ∙ none

  -- it gives no point
  point_is : point_before h ≡ point h
  unfolding point
  point_is =
      ap (λ (js : List Entry). greatest_point (take (size h - 1) js)) l.is ∙ ap (λ n. greatest_point (take n (l.before ++ l.last ∷ []))) at
      ∙ ap greatest_point (take_at l.before (l.last ∷ []) (length l.before) refl)
      ∙ sym (point_same l.before l.last (ap (λ v. cond v l.last.header.a 0) (no_purge l.last.header.kind plain))) ∙ sym (ap greatest_point l.is)

  -- it hides nothing, so no content is given up
  last_at : slice_get (journals h) (size h - 1) ≡ Some l.last
  last_at = ap (λ (js : List Entry). slice_get js (size h - 1)) l.is ∙ ap (λ n. slice_get (l.before ++ l.last ∷ []) n) at ∙ got_last l.before l.last

  none_given : AreLawful (journals h) → (n : ℕ) → is_given_up h n ≡ false
  none_given lawful n = given_only h lawful l.last last_at n (λ e numbered. no_occult l.last.header.kind plain l.last.header e.header)

  erased_pair : (a b : List ℕ) → PairOpen a b h → IsErasedPair a b h
  erased_pair a b p = record {
    in_a = p.pair.in_a;
    erased = nothing_open (open_of p.pair.in_a a b) h p.pair.stands (none_given p.pair.stands.file.lawful.journals_are) (elim p.pair.stands.begins [ inl same ↦ same | inr before ↦ before ∙ point_is ]);
    empty = elim p.alone [ inl empty ↦ empty | inr purge ↦ absurd (purge point_is) ];
  }

-- of two images that stand for such a history one has it with all that is hidden gone, and the other is empty
pub erased_then : (a b : List ℕ) (h : History) → 0 < size h → ends_in_erasure h ≡ false → PairOpen a b h → IsErasedPair a b h
erased_then a b h some none p = erased_pair h (has_last (journals h) some) none a b p
