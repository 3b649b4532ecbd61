-- A journal of which a receipt was written is shown from each image that a crash may leave.
use Rattle.std.specs.Prelude.{nat_lt}
use Rattle.std.proofs.Common.{◌≡◌, ℕ, zero, suc, inl, inr, Bool, true, false, cond, List, [], ◌∷◌, ◌++◌, slice_get, Some, refl, ap, sym, subst, ◌∙◌, append_assoc, append-nil}
use Rattle.std.proofs.lemmas.Bool.{lt-leb, ltb-true}
use Rattle.std.proofs.lemmas.List.{take_at}
use Rattle.std.proofs.lemmas.List.Concat.{flat_map-append}
use Rattle.std.proofs.lemmas.List.Elements.{All-take}
use Rattle.std.proofs.lemmas.Option.{slice_get_within}
use Rattle.std.specs.Prelude.{All}
use Rattle.journal_record.specs.Entry.{Entry}
use Rattle.ledger_bytes.specs.Begins.{Begins}
use Rattle.ledger_bytes.specs.Digests.{digest}
use Rattle.ledger_bytes.specs.declared.digest.Digest.{Digest}
use Rattle.ledger_model.specs.Dues.{digests_of}
use Rattle.ledger_model.specs.History.{History, journals, journals_of, size, point, leaf_digest}
use Rattle.ledger_model.specs.Lawful.{IsSound, IsWhole}
use Rattle.ledger_model.specs.Outcomes.{view}
use Rattle.ledger_model.specs.Targets.{is_hidden}
use Rattle.ledger_model.specs.Getting.{get_reply, shown_reply}
use Rattle.ledger_model.specs.declared.view.View.{View}
use Rattle.ledger_model.specs.declared.view.View.TheVariants.{Absent, Purged, Occulted, Whole}
use Rattle.ledger_bytes.specs.declared.refusal.Refusal.TheVariants as refusals
use Rattle.script_lines.specs.declared.reply.Reply.TheVariants.{Refused}
use Rattle.ledger_model.proofs.GetLaws.{sound_shown, sound_occulted}
use Rattle.script_lines.specs.Receipts.{IsReceipted}
use Rattle.time_peg.specs.Entries.{NotaryState}
use Rattle.ledger_cli.specs.Runs.{MayStand}
use Rattle.ledger_cli.specs.Shown.{IsShown}

-- the journal whose digest stands in a list of digests
record HasEntry (es : List Entry) (n : ℕ) (leaf : Digest) : Type 0 where
  entry : Entry
  there : slice_get es n ≡ Some entry
  is : digest (leaf_digest entry) ≡ leaf

entry_at : (es : List Entry) (n : ℕ) (leaf : Digest) → slice_get (digests_of es) n ≡ Some leaf → HasEntry es n leaf
entry_at [] n leaf at = absurd (let no : ⊥ = cc at in no)
entry_at (e ∷ es) zero leaf at = record { entry = e; there = refl; is = cc at }
entry_at (e ∷ es) (suc n) leaf at = let more = entry_at es n leaf at in record { entry = more.entry; there = more.there; is = more.is }

-- what is kept in the first blocks of a sound history is sound
kept_sound : (kept whole : History) → IsSound whole → kept.waiting ≡ [] → Begins kept.closed whole.closed → IsSound kept
kept_sound kept whole sound none b =
    let more = journals_of b.rest ++ whole.waiting in
    let is : journals whole ≡ journals kept ++ more =
    ap (λ bs. journals_of bs ++ whole.waiting) b.is ∙ ap (λ js. js ++ whole.waiting) (flat_map-append (λ (x : List Entry). x) kept.closed b.rest)
    ∙ append_assoc (journals_of kept.closed) (journals_of b.rest) whole.waiting
    ∙ ap (λ js. js ++ more) (sym (append-nil (journals_of kept.closed)) ∙ ap (λ w. journals_of kept.closed ++ w) (sym none)) in
    subst (All IsWhole) (take_at (journals kept) more (size kept) refl) (All-take IsWhole (size kept) (journals kept ++ more) (subst (All IsWhole) is sound))

module _ (h : History) (jsn : ℕ) (leaf : Digest) (sound : IsSound h) (x : HasEntry (journals h) jsn leaf) where
  -- how it is shown where it is kept
  abbrev kept_view : View
  kept_view = cond (is_hidden h jsn) Occulted Whole

  view_is : (v : Bool) → nat_lt jsn (point h) ≡ v → view h jsn ≡ cond v (Purged (point h)) kept_view
  unfolding view
  view_is v is =
      ap (λ (w : Bool). cond w Absent (cond (nat_lt jsn (point h)) (Purged (point h)) kept_view)) (lt-leb (size h) jsn (slice_get_within (journals h) jsn x.entry x.there))
      ∙ ap (λ (w : Bool). cond w (Purged (point h)) kept_view) is

  taken : nat_lt jsn (point h) ≡ true → get_reply h jsn ≡ Refused (refusals.Purged (point h))
  unfolding get_reply
  taken is = ap (shown_reply h jsn) (view_is true is)

  kept : (v : Bool) → is_hidden h jsn ≡ v → nat_lt jsn (point h) ≡ false → IsShown h jsn leaf
  kept true hid is = record {
    entry = x.entry;
    there = x.there;
    leaf_is = x.is;
    told = inr (inl (hid, sound_occulted h jsn x.entry sound x.there (view_is false is ∙ ap (λ v. cond v Occulted Whole) hid)));
  }
  kept false hid is = record {
    entry = x.entry;
    there = x.there;
    leaf_is = x.is;
    told = inl (sound_shown h jsn x.entry sound x.there (view_is false is ∙ ap (λ v. cond v Occulted Whole) hid));
  }

  shown_by : (v : Bool) → nat_lt jsn (point h) ≡ v → IsShown h jsn leaf
  shown_by true is = record { entry = x.entry; there = x.there; leaf_is = x.is; told = inr (inr (ltb-true jsn (point h) is, taken is)) }
  shown_by false is = kept (is_hidden h jsn) refl is

  shown : IsShown h jsn leaf
  shown = shown_by (nat_lt jsn (point h)) refl

pub receipt_shown : (h whole : History) (first last : NotaryState) (replies : List ℕ) (IsSoClean : History → List ℕ → List ℕ → Type 0) (a b : List ℕ) (m : MayStand h whole first last replies IsSoClean a b) (jsn : ℕ) (leaf : Digest)
    → IsSound whole → IsReceipted replies jsn leaf → IsShown m.kept jsn leaf
receipt_shown h whole first last replies IsSoClean a b m jsn leaf sound r =
    let file = m.stands.stands.file in
    let x = entry_at (journals_of m.kept.closed) jsn leaf (m.receipts jsn leaf r) in
    let all : journals m.kept ≡ journals_of m.kept.closed = ap (λ w. journals_of m.kept.closed ++ w) file.none ∙ append-nil (journals_of m.kept.closed) in
    shown m.kept jsn leaf (kept_sound m.kept whole sound file.none m.no_longer) (subst (λ es. HasEntry es jsn leaf) (sym all) x)
