-- Lemmas on the commands over sets of survivors.
use Rattle.std.specs.Prelude.{IsErr, IsErrAnd, slice_get}
use Rattle.std.specs.List.{flat_map, list_any}
use Rattle.std.proofs.lemmas.Option.{same_Some, slice_get_cases}
use Rattle.std.specs.Io.KnownBytes.{Consumes}
use Rattle.std.proofs.Common.{◌≡◌, ◌≢◌, ℕ, ◌+◌, ◌≤◌, inl, inr, length, arith, Bool, true, false, List, [], ◌∷◌, ◌++◌, drop, Option, Some, None, Result, Ok, Err, refl, ap, sym, subst, ◌∙◌}
use Rattle.std.proofs.lemmas.List.{append_assoc}
use Rattle.std.proofs.lemmas.List.Elements.{All-cons, All-head, All-tail}
use Rattle.sha2.specs.Sha256.{sha256}
use Rattle.audit_core.specs.Acceptance.{IsAccepted}
use Rattle.audit_core.specs.Trust.{Trust}
use Rattle.batch_committer.specs.World.{Pair}
use Rattle.dump_export.specs.Exports as dumps
use Rattle.ledger_bytes.specs.declared.failure.Bad.{Bad}
use Rattle.ledger_io.specs.Outside.{SourceState, SinkState}
use Rattle.ledger_io.specs.Runs.{Output}
use Rattle.ledger_io.specs.declared.ending.Ending.{Ending}
use Rattle.ledger_io.specs.declared.ending.Ending.TheVariants as run
use Rattle.ledger_model.specs.Bounds.{has_bound}
use Rattle.ledger_model.specs.History.{History}
use Rattle.ledger_model.specs.Pegs.{Pegged}
use Rattle.ledger_model.specs.Proofs.{shown_of}
use Rattle.proof_codec.specs.Claims.{claim_of}
use Rattle.proof_codec.specs.Proofs as proofs
use Rattle.proof_codec.specs.declared.claim.Claim.{Claim}
use Rattle.proof_maker.specs.declared.made.Made.{Made}
use Rattle.ledger_open.specs.declared.failure.OpenErr.{OpenErr}
use Rattle.ledger_open.specs.declared.failure.OpenErr.TheVariants as open_err
use Rattle.proof_maker.specs.Making.{TrustsHead, TrustsList}
use Rattle.survivor_set.specs.Keeping.{CountsDisk, IsDiskless, KeepsSet, StopsBy, keep_refusal}
use Rattle.survivor_set.specs.Outcomes.{CarriesOn, CarryEnds, IsOwn, IsSurvivorOf, Revives, RevivesNot, Tells, carry_refusal, set_refusal}
use Rattle.survivor_set.specs.Reading.{set_of}
use Rattle.survivor_set.specs.Sets.{Saved, SavedSet}
use Rattle.survivor_set.specs.declared.failure.SetErr.{SetErr}
use Rattle.survivor_set.specs.declared.failure.SetErr.TheVariants as set_err
use Rattle.time_peg.specs.Entries.{NotaryState}
use Rattle.twin_file.specs.Twin.{open_of, other_of}
use Rattle.ledger_cli.specs.Asking.{WritesBy}
use Rattle.ledger_cli.specs.Endings.{ending_of_opening, ending_of_set}
use Rattle.ledger_cli.specs.Runs.{Handed, handed, FaultsBy, Signs}
use Rattle.ledger_cli.specs.Surviving.{AsksBy, AsksFor, AsksNotary, HasCarried, HasReadInput, HasRevived, IsAcceptedIn, IsCarriedText, IsKeptText, IsRevivedText, IsUncarried, IsUnkept, IsUnrevived, IsWholeInput, PutsRevived, PutsSurvivor, RefusedBy, UnreadBy, UnrevivedBy, input_refusal, proof_line, read_refusal, revived_lines, shown_line, uncarried, view_line}
use Rattle.survivor_set.proofs.Checked.{drop_here}
use Rattle.survivor_set.proofs.Growth.{set_refuses}
use Rattle.ledger_cli.specs.declared.denial.Denial.TheVariants.{Said}
use Rattle.ledger_cli.specs.declared.ending.LedgerEnding.{LedgerEnding}
use Rattle.ledger_cli.specs.declared.ending.LedgerEnding.TheVariants.{Run}
use Rattle.ledger_cli.proofs.AskLaws.{signed_met}
use Rattle.ledger_cli.proofs.CarryLaws.{faults_from}
use Rattle.ledger_cli.proofs.DumpLaws.{none_failed, one_failed}

-- ---- keep

-- no set is written of a call that failed
pub unkept : (h : History) (p : ℕ) (ns : List ℕ) (e : SetErr) → StopsBy (keep_refusal h p ns) e → WritesBy (IsKeptText p ns h) (IsUnkept p ns h) (ending_of_set e) []
unkept h p ns (set_err.Refused refusal) is = (refl, (set_err.Refused refusal, is, refl))
unkept h p ns (set_err.Bad bad) is = absurd is
unkept h p ns (set_err.NotBelow q) is = (refl, (set_err.NotBelow q, is, refl))
unkept h p ns (set_err.OtherLedger kept) is = absurd is
unkept h p ns set_err.LeafPath is = absurd is
unkept h p ns set_err.DiskFault is = (refl, tt)
unkept h p ns set_err.NoMemory is = (refl, tt)

module _ (in_a : Bool) (source : SourceState) (sink : SinkState) (n : NotaryState) (now last : Pair) (other : other_of in_a last.a last.b ≡ other_of in_a now.a now.b) where
  -- .. which met what it tells
  pub unkept_faults : (e : SetErr) → CountsDisk {A = List ℕ} (Err e) (open_of in_a now.a now.b).faults (open_of in_a last.a last.b).faults → FaultsBy (ending_of_set e) (handed source sink now n) (handed source sink last n)
  unkept_faults (set_err.Refused refusal) c = record { source_is = refl; sink_is = (refl, refl); disks_are = none_failed in_a now now last c other refl refl }
  unkept_faults (set_err.Bad bad) c = record { source_is = refl; sink_is = (refl, refl); disks_are = none_failed in_a now now last c other refl refl }
  unkept_faults (set_err.NotBelow q) c = record { source_is = refl; sink_is = (refl, refl); disks_are = none_failed in_a now now last c other refl refl }
  unkept_faults (set_err.OtherLedger kept) c = record { source_is = refl; sink_is = (refl, refl); disks_are = none_failed in_a now now last c other refl refl }
  unkept_faults set_err.LeafPath c = record { source_is = refl; sink_is = (refl, refl); disks_are = none_failed in_a now now last c other refl refl }
  unkept_faults set_err.DiskFault c = record { source_is = inl refl; sink_is = (refl, refl); disks_are = one_failed in_a now now last c other refl refl }
  unkept_faults set_err.NoMemory c = record { source_is = inl refl; sink_is = (refl, refl); disks_are = none_failed in_a now now last c other refl refl }

  -- a set that was kept met what the writing of its text met
  pub kept_faults : (t : SinkState) (text : List ℕ) (ending : LedgerEnding) → (open_of in_a last.a last.b).faults ≡ (open_of in_a now.a now.b).faults → Signs text ending (handed source sink last n) (handed source t last n)
      → FaultsBy ending (handed source sink now n) (handed source t last n)
  kept_faults t text ending same w =
      let none = none_failed in_a now now last same other refl refl in
      faults_from source sink n last now (handed source t last n) none.a none.b ending (signed_met text ending source sink t last n w source refl last n n)

-- the text of a set that was kept
pub kept_text : (h : History) (p : ℕ) (ns text : List ℕ) → KeepsSet h p ns (Ok text) → IsKeptText p ns h text
kept_text h p ns text k = record { unrefused = k.0; set = k.1; is_set = k.2; text_is = k.3; read_back = k.4 }

-- ---- the input

-- nothing is read of an input
pub none_read : (left : Option (List ℕ)) → Consumes left left []
none_read None = tt
none_read (Some bytes) = refl

-- .. where the ledger isn't opened
pub unopened_read : (e : OpenErr) → e ≢ open_err.Exists → (after : SourceState) → HasReadInput (ending_of_opening e) after []
unopened_read open_err.DiskFault other after = refl
unopened_read (open_err.Damaged damage) other after = refl
unopened_read open_err.Empty other after = refl
unopened_read open_err.Exists other after = absurd (other refl)
unopened_read (open_err.NewerFormat found) other after = refl
unopened_read open_err.NoMemory other after = tt

-- how far an input was read whose text was written, by how its writing ended
plain_read : (text written_text : List ℕ) (before now : SinkState) (after : SourceState) (read : List ℕ) → IsWholeInput after read → (plain : Ending) → Output text plain written_text before now → HasReadInput (Run plain) after read
plain_read text w before now after read whole run.Done o = whole
plain_read text w before now after read whole run.Usage o = absurd o
plain_read text w before now after read whole run.ReadFault o = tt
plain_read text w before now after read whole run.WriteFault o = whole
plain_read text w before now after read whole run.NoMemory o = tt
plain_read text w before now after read whole run.LineTooLong o = absurd o
plain_read text w before now after read whole run.ScriptTooLong o = absurd o

pub signed_read : (text : List ℕ) (ending : LedgerEnding) (x y : Handed) (after : SourceState) (read : List ℕ) → IsWholeInput after read → Signs text ending x y → HasReadInput ending after read
signed_read text ending x y after read whole w =
    subst (λ (e : LedgerEnding). HasReadInput e after read) (sym w.ending_is) (plain_read text w.wrote.written x.sink y.sink after read whole w.plain w.wrote.output)

-- an input that wasn't read whole
module _ (before after : SourceState) (read : List ℕ) where
  pub unread_read : (ending : Ending) → UnreadBy ending before after read → HasReadInput (Run ending) after read
  unread_read run.Done u = absurd u
  unread_read run.Usage u = absurd u
  unread_read run.ReadFault u = tt
  unread_read run.WriteFault u = absurd u
  unread_read run.NoMemory u = tt
  unread_read run.LineTooLong u = absurd u
  unread_read run.ScriptTooLong u = u.1

  pub unread_faults : (ending : Ending) → UnreadBy ending before after read → (sink : SinkState) (disks : Pair) (n m : NotaryState) → FaultsBy (Run ending) (handed before sink disks n) (handed after sink disks m)
  unread_faults run.Done u sink disks n m = absurd u
  unread_faults run.Usage u sink disks n m = absurd u
  unread_faults run.ReadFault u sink disks n m = record { source_is = u; sink_is = (refl, refl); disks_are = record { a = refl; b = refl } }
  unread_faults run.WriteFault u sink disks n m = absurd u
  unread_faults run.NoMemory u sink disks n m = record { source_is = inl u; sink_is = (refl, refl); disks_are = record { a = refl; b = refl } }
  unread_faults run.LineTooLong u sink disks n m = absurd u
  unread_faults run.ScriptTooLong u sink disks n m = record { source_is = u.0; sink_is = (refl, refl); disks_are = record { a = refl; b = refl } }

  pub unread_carried : (q : ℕ) (h : History) (ending : Ending) → UnreadBy ending before after read → WritesBy (IsCarriedText q read h) (IsUncarried q read h) (Run ending) []
  unread_carried q h run.Done u = absurd u
  unread_carried q h run.Usage u = absurd u
  unread_carried q h run.ReadFault u = (refl, tt)
  unread_carried q h run.WriteFault u = absurd u
  unread_carried q h run.NoMemory u = (refl, tt)
  unread_carried q h run.LineTooLong u = absurd u
  unread_carried q h run.ScriptTooLong u = (refl, tt)

  pub unread_revived : (es : List (List ℕ)) (h : History) (ending : Ending) → UnreadBy ending before after read → WritesBy (IsRevivedText es read h) (IsUnrevived read h) (Run ending) []
  unread_revived es h run.Done u = absurd u
  unread_revived es h run.Usage u = absurd u
  unread_revived es h run.ReadFault u = (refl, tt)
  unread_revived es h run.WriteFault u = absurd u
  unread_revived es h run.NoMemory u = (refl, tt)
  unread_revived es h run.LineTooLong u = absurd u
  unread_revived es h run.ScriptTooLong u = (refl, tt)

-- ---- carry

module _ (h : History) (q : ℕ) (read : List ℕ) where
  -- no set is written of one that isn't carried on
  pub uncarried_written : (e : SetErr) → RefusedBy (input_refusal (uncarried h q) read) e → WritesBy (IsCarriedText q read h) (IsUncarried q read h) (ending_of_set e) []
  uncarried_written (set_err.Refused refusal) is = (refl, (set_err.Refused refusal, is, refl))
  uncarried_written (set_err.Bad bad) is = (refl, (set_err.Bad bad, is, refl))
  uncarried_written (set_err.NotBelow p) is = (refl, (set_err.NotBelow p, is, refl))
  uncarried_written (set_err.OtherLedger kept) is = (refl, (set_err.OtherLedger kept, is, refl))
  uncarried_written set_err.LeafPath is = (refl, (set_err.LeafPath, is, refl))
  uncarried_written set_err.DiskFault is = absurd is
  uncarried_written set_err.NoMemory is = (refl, tt)

  -- bytes that spell no set
  pub carried_bad : (bad : Bad) → set_of read ≡ Err bad → HasCarried h q read (Err (set_err.Bad bad))
  carried_bad bad is = ap (read_refusal (uncarried h q)) is

  module _ (s : SavedSet) (spells : set_of read ≡ Ok s) where
    -- the same error of the bytes as of the set
    carried_err : (e : SetErr) → CarryEnds (carry_refusal h s q) e → RefusedBy (input_refusal (uncarried h q) read) e
    carried_err (set_err.Refused refusal) is = ap (read_refusal (uncarried h q)) spells ∙ is
    carried_err (set_err.Bad bad) is = absurd is
    carried_err (set_err.NotBelow p) is = ap (read_refusal (uncarried h q)) spells ∙ is
    carried_err (set_err.OtherLedger kept) is = ap (read_refusal (uncarried h q)) spells ∙ is
    carried_err set_err.LeafPath is = ap (read_refusal (uncarried h q)) spells ∙ is
    carried_err set_err.DiskFault is = absurd is
    carried_err set_err.NoMemory is = tt

    pub carried_of : (result : Result (List ℕ) SetErr) → CarriesOn h s q result → HasCarried h q read result
    carried_of (Ok text) c = record { set = s; read_is = spells; unrefused = c.0; text_is = c.1; read_back = c.2 }
    carried_of (Err e) c = carried_err e c

-- how far an input was read of which nothing was made
pub refused_read : (e : SetErr) → IsDiskless e → (after : SourceState) (read : List ℕ) → IsWholeInput after read → HasReadInput (ending_of_set e) after read
refused_read (set_err.Refused refusal) own after read whole = whole
refused_read (set_err.Bad bad) own after read whole = whole
refused_read (set_err.NotBelow p) own after read whole = whole
refused_read (set_err.OtherLedger kept) own after read whole = whole
refused_read set_err.LeafPath own after read whole = whole
refused_read set_err.DiskFault own after read whole = absurd own
refused_read set_err.NoMemory own after read whole = tt

-- which faults were met where nothing was made of an input
pub refused_faults : (e : SetErr) → IsDiskless e → (before after : SourceState) → after.faults ≡ before.faults → (sink : SinkState) (disks : Pair) (n m : NotaryState) → FaultsBy (ending_of_set e) (handed before sink disks n) (handed after sink disks m)
refused_faults (set_err.Refused refusal) own before after same sink disks n m = record { source_is = same; sink_is = (refl, refl); disks_are = record { a = refl; b = refl } }
refused_faults (set_err.Bad bad) own before after same sink disks n m = record { source_is = same; sink_is = (refl, refl); disks_are = record { a = refl; b = refl } }
refused_faults (set_err.NotBelow p) own before after same sink disks n m = record { source_is = same; sink_is = (refl, refl); disks_are = record { a = refl; b = refl } }
refused_faults (set_err.OtherLedger kept) own before after same sink disks n m = record { source_is = same; sink_is = (refl, refl); disks_are = record { a = refl; b = refl } }
refused_faults set_err.LeafPath own before after same sink disks n m = record { source_is = same; sink_is = (refl, refl); disks_are = record { a = refl; b = refl } }
refused_faults set_err.DiskFault own before after same sink disks n m = absurd own
refused_faults set_err.NoMemory own before after same sink disks n m = record { source_is = inl same; sink_is = (refl, refl); disks_are = record { a = refl; b = refl } }

-- ---- revive: one survivor behind the other

-- a place has one survivor
pub same_survivor : (xs : List Saved) (i : ℕ) (x y : Saved) → slice_get xs i ≡ Some x → Some y ≡ slice_get xs i → x ≡ y
same_survivor xs i x y here got = same_Some x y (sym here ∙ sym got)

module _ (h : History) (es : List (List ℕ)) (p : ℕ) where
  -- a survivor that isn't proved
  not_put : (x : Saved) (e : SetErr) → RevivesNot None (has_bound h x.item.header.jsn) e → (old new : List ℕ) → PutsSurvivor h es p x (Err e) old new
  not_put x (set_err.Refused refusal) (inl is) old new = absurd (let no : ⊥ = cc is in no)
  not_put x (set_err.Refused refusal) (inr is) old new = (is.0, is.1)
  not_put x (set_err.Bad bad) is old new = absurd is
  not_put x (set_err.NotBelow q) is old new = absurd (let no : ⊥ = cc is in no)
  not_put x (set_err.OtherLedger kept) is old new = absurd (let no : ⊥ = cc is in no)
  not_put x set_err.LeafPath is old new = absurd (let no : ⊥ = cc is in no)
  not_put x set_err.DiskFault is old new = absurd is
  not_put x set_err.NoMemory is old new = tt

  pub put_err : (x : Saved) (result : Result (Unit {0}) SetErr) (e : SetErr) → IsErr result × IsErrAnd result (λ f. f ≡ e) → RevivesNot None (has_bound h x.item.header.jsn) e → (old new : List ℕ) → PutsSurvivor h es p x result old new
  put_err x (Ok done) e is not old new = absurd (cc is.0)
  put_err x (Err f) e is not old new = subst (λ (k : SetErr). PutsSurvivor h es p x (Err k) old new) (sym is.1) (not_put x e not old new)

  -- one that is
  pub put_ok : (x y : Saved) (made : Made) → x ≡ y → Revives h es None p x (Ok made) → (IsSurvivorOf h p x → Pegged h es → (trust : Trust) → TrustsHead trust h → (has_bound h x.item.header.jsn ≡ true → TrustsList trust es) → IsAccepted sha256 made.proof made.claim trust)
      → (old mid new : List ℕ) → mid ≡ old ++ view_line y.item → new ≡ mid ++ proof_line made.claim made.proof → PutsSurvivor h es p x (Ok _) old new
  put_ok x y made same revives accepted old mid new first second = λ is.
      let m = revives.1 is in
      let shown = shown_of h es x.item.header.jsn in
      let line : proof_line made.claim made.proof ≡ shown_line shown = ap (λ (a : Claim). proof_line a made.proof) m.claim_is ∙ ap (proof_line (claim_of shown)) m.proof_is in (
        second ∙ ap (λ (l : List ℕ). l ++ proof_line made.claim made.proof) (first ∙ ap (λ (z : Saved). old ++ view_line z.item) (sym same)) ∙ append_assoc old (view_line x.item) (proof_line made.claim made.proof)
            ∙ ap (λ (l : List ℕ). old ++ (view_line x.item ++ l)) line,
        λ pegged trust head list. subst (λ (a : Claim). IsAccepted sha256 (proofs.spelling shown) a trust) m.claim_is (subst (λ (l : List ℕ). IsAccepted sha256 l made.claim trust) m.proof_is (accepted is pegged trust head list)),
      )

  abbrev is_bound : Saved → Bool
  is_bound x = has_bound h x.item.header.jsn

  any_first : (x : Saved) (xs : List Saved) → is_bound x ≡ true → list_any is_bound (x ∷ xs) ≡ true
  any_first x xs is = rw is refl

  any_later : (b : Bool) (x : Saved) (xs : List Saved) → is_bound x ≡ b → list_any is_bound xs ≡ true → list_any is_bound (x ∷ xs) ≡ true
  any_later true x xs is later = rw is refl
  any_later false x xs is later = rw (is, later) refl

  -- the first of some wasn't appended
  pub first_err : (x : Saved) (xs : List Saved) (e : SetErr) (old new : List ℕ) → PutsSurvivor h es p x (Err e) old new → PutsRevived h es p (x ∷ xs) (Err e) old new
  first_err x xs (set_err.Refused refusal) old new put = (put.0, any_first x xs put.1)
  first_err x xs (set_err.Bad bad) old new put = absurd put
  first_err x xs (set_err.NotBelow q) old new put = absurd put
  first_err x xs (set_err.OtherLedger kept) old new put = absurd put
  first_err x xs set_err.LeafPath old new put = absurd put
  first_err x xs set_err.DiskFault old new put = absurd put
  first_err x xs set_err.NoMemory old new put = tt

  -- it was, and the others were or weren't
  pub first_put : (x : Saved) (xs : List Saved) (result : Result (Unit {0}) SetErr) (old mid new : List ℕ) → PutsSurvivor h es p x (Ok _) old mid → PutsRevived h es p xs result mid new → PutsRevived h es p (x ∷ xs) result old new
  first_put x xs (Ok done) old mid new put puts = λ are.
      let one = put (All-head (IsSurvivorOf h p) x xs are) in
      let others = puts (All-tail (IsSurvivorOf h p) x xs are) in (
        others.0 ∙ ap (λ (l : List ℕ). l ++ flat_map (revived_lines h es) xs) one.0 ∙ append_assoc old (revived_lines h es x) (flat_map (revived_lines h es) xs),
        λ pegged. All-cons (IsAcceptedIn h es) x xs (one.1 pegged) (others.1 pegged),
      )
  first_put x xs (Err (set_err.Refused refusal)) old mid new put puts = (puts.0, any_later (is_bound x) x xs refl puts.1)
  first_put x xs (Err (set_err.Bad bad)) old mid new put puts = absurd puts
  first_put x xs (Err (set_err.NotBelow q)) old mid new put puts = absurd puts
  first_put x xs (Err (set_err.OtherLedger kept)) old mid new put puts = absurd puts
  first_put x xs (Err set_err.LeafPath) old mid new put puts = absurd puts
  first_put x xs (Err set_err.DiskFault) old mid new put puts = absurd puts
  first_put x xs (Err set_err.NoMemory) old mid new put puts = tt

-- the survivor at a place that isn't the end
pub at_place : (xs : List Saved) (i count : ℕ) → i ≤ length xs → count ≡ length xs → (i ≡ count → ⊥) → (x : Saved) × (slice_get xs i ≡ Some x)
at_place xs i count within is not = elim (slice_get_cases xs i).1 [
  | inl there ↦ (there.0, there.2)
  | inr past ↦ absurd (not (omega (arith, within, is, past.0)))
]

module _ (h : History) (es : List (List ℕ)) (p : ℕ) (xs : List Saved) (i : ℕ) (x : Saved) (here : slice_get xs i ≡ Some x) where
  -- it wasn't appended, and so none behind it
  pub put_first_err : (result : Result (Unit {0}) SetErr) (e : SetErr) → IsErr result × IsErrAnd result (λ f. f ≡ e) → (old new : List ℕ) → PutsSurvivor h es p x (Err e) old new → PutsRevived h es p (drop i xs) result old new
  put_first_err (Ok done) e is old new put = absurd (cc is.0)
  put_first_err (Err f) e is old new put =
      subst (λ (ys : List Saved). PutsRevived h es p ys (Err f) old new) (sym (drop_here xs i x here)) (first_err h es p x (drop (i + 1) xs) f old new (subst (λ (k : SetErr). PutsSurvivor h es p x (Err k) old new) (sym is.1) put))

  -- it was, and those behind it came so
  pub put_first_ok : (result : Result (Unit {0}) SetErr) (old mid new : List ℕ) → PutsSurvivor h es p x (Ok _) old mid → PutsRevived h es p (drop (i + 1) xs) result mid new → PutsRevived h es p (drop i xs) result old new
  put_first_ok result old mid new put puts =
      subst (λ (ys : List Saved). PutsRevived h es p ys result old new) (sym (drop_here xs i x here)) (first_put h es p x (drop (i + 1) xs) result old mid new put puts)

-- ---- revive: the whole

module _ (h : History) (es : List (List ℕ)) (read : List ℕ) where
  pub unrevived_written : (e : SetErr) → UnrevivedBy h read e → WritesBy (IsRevivedText es read h) (IsUnrevived read h) (ending_of_set e) []
  unrevived_written (set_err.Refused refusal) (inl is) = (refl, inl (set_err.Refused refusal, is, refl))
  unrevived_written (set_err.Refused refusal) (inr is) = (refl, inr (ap Said is.0, is.1))
  unrevived_written (set_err.Bad bad) is = (refl, inl (set_err.Bad bad, is, refl))
  unrevived_written (set_err.NotBelow p) is = (refl, inl (set_err.NotBelow p, is, refl))
  unrevived_written (set_err.OtherLedger kept) is = (refl, inl (set_err.OtherLedger kept, is, refl))
  unrevived_written set_err.LeafPath is = (refl, inl (set_err.LeafPath, is, refl))
  unrevived_written set_err.DiskFault is = absurd is
  unrevived_written set_err.NoMemory is = (refl, tt)

  pub revived_bad : (bad : Bad) → set_of read ≡ Err bad → HasRevived h es read (Err (set_err.Bad bad))
  revived_bad bad is = ap (read_refusal (set_refusal h)) is

  module _ (s : SavedSet) (spells : set_of read ≡ Ok s) where
    -- a set that is refused
    pub judged_err : (e : SetErr) → Tells {A = Unit {0}} (Err e) (set_refusal h s) → IsOwn e → UnrevivedBy h read e
    judged_err (set_err.Refused refusal) is own = inl (ap (read_refusal (set_refusal h)) spells ∙ is)
    judged_err (set_err.Bad bad) is own = ap (read_refusal (set_refusal h)) spells ∙ is
    judged_err (set_err.NotBelow p) is own = ap (read_refusal (set_refusal h)) spells ∙ is
    judged_err (set_err.OtherLedger kept) is own = ap (read_refusal (set_refusal h)) spells ∙ is
    judged_err set_err.LeafPath is own = ap (read_refusal (set_refusal h)) spells ∙ is
    judged_err set_err.DiskFault is own = absurd (set_refuses h s set_err.DiskFault is)
    judged_err set_err.NoMemory is own = tt

    -- one of its survivors isn't revived
    pub survivors_err : set_refusal h s ≡ None → (e : SetErr) (old new : List ℕ) → PutsRevived h es s.point s.survivors (Err e) old new → UnrevivedBy h read e
    survivors_err none (set_err.Refused refusal) old new puts = inr (puts.0, subst (AsksNotary h) (sym spells) (none, puts.1))
    survivors_err none (set_err.Bad bad) old new puts = absurd puts
    survivors_err none (set_err.NotBelow p) old new puts = absurd puts
    survivors_err none (set_err.OtherLedger kept) old new puts = absurd puts
    survivors_err none set_err.LeafPath old new puts = absurd puts
    survivors_err none set_err.DiskFault old new puts = absurd puts
    survivors_err none set_err.NoMemory old new puts = tt

    -- all are
    pub survivors_ok : set_refusal h s ≡ None → (text : List ℕ) → PutsRevived h es s.point s.survivors (Ok _) [] text → IsRevivedText es read h text
    survivors_ok none text puts = record { set = s; read_is = spells; unrefused = none; text_is = λ are. (puts are).0; accepted = λ are. (puts are).1 }

-- ---- the notary

-- one that was only asked
pub unasked : (n : NotaryState) → dumps.IsOnlyAsked n n
unasked n = record { entries = refl; origin = refl }

-- what an ending tells of the notary, where something was made
pub signed_asks : {A : Type 0} (made : A) (text : List ℕ) (ending : LedgerEnding) (x y : Handed) (n m : NotaryState) → AsksFor {A = A} (Ok made) n m → Signs text ending x y → AsksBy ending n m
signed_asks made text ending x y n m f w = subst (λ (e : LedgerEnding). AsksBy e n m) (sym w.ending_is) (record { asked = f.asked; counts = f.counts })

-- .. and where nothing was
pub failed_asks : {A : Type 0} (e : SetErr) (n m : NotaryState) → AsksFor {A = A} (Err e) n m → AsksBy (ending_of_set e) n m
failed_asks (set_err.Refused why) n m f = record { asked = f.asked; counts = f.counts }
failed_asks (set_err.Bad bad) n m f = record { asked = f.asked; counts = f.counts }
failed_asks (set_err.NotBelow p) n m f = record { asked = f.asked; counts = f.counts }
failed_asks (set_err.OtherLedger kept) n m f = record { asked = f.asked; counts = f.counts }
failed_asks set_err.LeafPath n m f = record { asked = f.asked; counts = f.counts }
failed_asks set_err.DiskFault n m f = record { asked = f.asked; counts = f.counts }
failed_asks set_err.NoMemory n m f = record { asked = f.asked; counts = f.counts }

-- .. and where the ledger isn't opened
pub unopened_asks : (e : OpenErr) (n : NotaryState) → AsksBy (ending_of_opening e) n n
unopened_asks open_err.DiskFault n = record { asked = unasked n; counts = refl }
unopened_asks (open_err.Damaged damage) n = record { asked = unasked n; counts = refl }
unopened_asks open_err.Empty n = record { asked = unasked n; counts = refl }
unopened_asks open_err.Exists n = record { asked = unasked n; counts = refl }
unopened_asks (open_err.NewerFormat found) n = record { asked = unasked n; counts = refl }
unopened_asks open_err.NoMemory n = record { asked = unasked n; counts = refl }
