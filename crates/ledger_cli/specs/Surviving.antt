-- What the commands did that keep journals in a set of survivors, carry a set on, and revive its survivors.
use Rattle.std.specs.Prelude.{◌≡◌, ◌⊎◌, ℕ, ◌<◌, ◌≤◌, Bool, true, false, if◌then◌else◌, List, [], ◌∷◌, ◌++◌, length, All, codes, decimal, Option, Some, None, Result, Ok, Err, ⊤}
use Rattle.std.specs.List.{flat_map, list_any}
use Rattle.std.specs.Io.KnownBytes.{Consumes, IsAtEnd}
use Rattle.sha2.specs.Sha256.{sha256}
use Rattle.audit_core.specs.Acceptance.{IsAccepted}
use Rattle.audit_core.specs.Trust.{Trust}
use Rattle.dump_export.specs.Exports as dumps
use Rattle.journal_record.specs.Header as headers
use Rattle.journal_record.specs.Items.{Item}
use Rattle.journal_record.specs.declared.header.Header.{Header}
use Rattle.ledger_book.specs.Books.{Kept}
use Rattle.ledger_bytes.specs.Causes.{count_after}
use Rattle.ledger_bytes.specs.declared.failure.Bad.{Bad}
use Rattle.ledger_bytes.specs.declared.refusal.Refusal.TheVariants as refusals
use Rattle.ledger_io.specs.Outside.{SourceState, Outside}
use Rattle.ledger_io.specs.declared.ending.Ending.{Ending}
use Rattle.ledger_io.specs.declared.ending.Ending.TheVariants as run
use Rattle.ledger_model.specs.Bounds.{has_bound}
use Rattle.ledger_model.specs.History.{History}
use Rattle.ledger_model.specs.Pegs.{Pegged}
use Rattle.ledger_model.specs.Proofs.{shown_of}
use Rattle.proof_codec.specs.Claims.{claim_of}
use Rattle.proof_codec.specs.Proofs as proofs
use Rattle.proof_codec.specs.Proofs.{Shown}
use Rattle.proof_codec.specs.declared.claim.Claim.{Claim}
use Rattle.proof_maker.specs.Making.{TrustsHead, TrustsList, is_fault}
use Rattle.script_lines.specs.Words.{hex_of, hex_or_dash, mark_text}
use Rattle.survivor_set.specs.Keeping.{IsSetOf, keep_refusal}
use Rattle.survivor_set.specs.Outcomes.{AreJournalsOf, CountsFaults, IsSurvivorOf, carried_set, carry_refusal, set_refusal}
use Rattle.survivor_set.specs.Reading.{set_of}
use Rattle.survivor_set.specs.Sets.{Saved, SavedSet, set_text}
use Rattle.survivor_set.specs.declared.failure.SetErr.{SetErr}
use Rattle.survivor_set.specs.declared.failure.SetErr.TheVariants as set_err
use Rattle.time_peg.specs.Entries.{NotaryState}
use Rattle.ledger_cli.specs.Asking.{OpensAndWrites, TellsOne}
use Rattle.ledger_cli.specs.Endings.{ending_of_set, line_of}
use Rattle.ledger_cli.specs.Runs.{Handed}
use Rattle.ledger_cli.specs.declared.denial.Denial.TheVariants.{NoLineage, Said, NoSet, NotBelow, OtherLedger, LeafPath}
use Rattle.ledger_cli.specs.declared.ending.LedgerEnding.{LedgerEnding}
use Rattle.ledger_cli.specs.declared.ending.LedgerEnding.TheVariants.{Run, DiskFault, Damaged, Empty, Exists, NewerFormat, NotaryFault, Refused}

-- something is refused, and the ending tells why
abbrev pub TellsRefusal : Option SetErr → LedgerEnding → Type 0
TellsRefusal why ending = (e : SetErr) × (why ≡ Some e) × (ending ≡ ending_of_set e)

-- ---- keep

-- a text is the set of the journals with these numbers in front of journal p, which nothing refuses, and the set is read back from it
pub record IsKeptText (p : ℕ) (ns : List ℕ) (h : History) (written_text : List ℕ) : Type 0 where
  pub unrefused : keep_refusal h p ns ≡ None
  pub set : SavedSet
  pub is_set : IsSetOf h p ns set
  pub text_is : written_text ≡ set_text set
  pub read_back : set_of written_text ≡ Ok set

-- why no set is written: the point or a journal is refused, a disk failed, or memory was missing
abbrev pub IsUnkept : ℕ → List ℕ → History → LedgerEnding → Type 0
IsUnkept p ns h (Run run.Done) = ⊥
IsUnkept p ns h (Run run.Usage) = ⊥
IsUnkept p ns h (Run run.ReadFault) = ⊥
IsUnkept p ns h (Run run.WriteFault) = ⊥
IsUnkept p ns h (Run run.NoMemory) = ⊤
IsUnkept p ns h (Run run.LineTooLong) = ⊥
IsUnkept p ns h (Run run.ScriptTooLong) = ⊥
IsUnkept p ns h DiskFault = ⊤
IsUnkept p ns h (Damaged damage) = ⊥
IsUnkept p ns h Empty = ⊥
IsUnkept p ns h Exists = ⊥
IsUnkept p ns h (NewerFormat found) = ⊥
IsUnkept p ns h NotaryFault = ⊥
IsUnkept p ns h (Refused why) = TellsRefusal (keep_refusal h p ns) (Refused why)

-- what `keep` does: the ledger that is there is opened, and the set of some journals in front of a time journal is written
pub record KeepsJournals (p : ℕ) (ns : List ℕ) (tells : Bool) (ending : LedgerEnding) (before after_all : Handed) : Type 0 where
  pub opens : OpensAndWrites (IsKeptText p ns) (IsUnkept p ns) tells ending before after_all
  pub unread : after_all.source ≡ before.source
  pub unasked : after_all.notary ≡ before.notary

-- ---- the input of the other two

-- the most bytes that an input with a set may have
abbrev pub set_limit : ℕ
set_limit = 268435456

-- the input was read to its end, and isn't too long
abbrev pub IsWholeInput : SourceState → List ℕ → Type 0
IsWholeInput after read = IsAtEnd after.left × (length read ≤ set_limit)

-- How far the input was read, by the ending: to its end; further than an input may reach; not at all, where the ledger isn't opened; and
-- somehow far, where reading failed or memory was missing.
abbrev pub HasReadInput : LedgerEnding → SourceState → List ℕ → Type 0
HasReadInput (Run run.Done) after read = IsWholeInput after read
HasReadInput (Run run.Usage) after read = ⊥
HasReadInput (Run run.ReadFault) after read = ⊤
HasReadInput (Run run.WriteFault) after read = IsWholeInput after read
HasReadInput (Run run.NoMemory) after read = ⊤
HasReadInput (Run run.LineTooLong) after read = ⊥
HasReadInput (Run run.ScriptTooLong) after read = set_limit < length read
HasReadInput DiskFault after read = read ≡ []
HasReadInput (Damaged damage) after read = read ≡ []
HasReadInput Empty after read = read ≡ []
HasReadInput Exists after read = ⊥
HasReadInput (NewerFormat found) after read = read ≡ []
HasReadInput NotaryFault after read = ⊥
HasReadInput (Refused why) after read = IsWholeInput after read

-- the input was read whole, without a fault
pub record IsRead (before after : SourceState) (read : List ℕ) : Type 0 where
  pub consumed : Consumes before.left after.left read
  pub whole : IsWholeInput after read
  pub counts : after.faults ≡ before.faults

-- why the input wasn't read whole, of which so much was read: a read failed, memory was missing, or more bytes came than may be
abbrev pub UnreadBy : Ending → SourceState → SourceState → List ℕ → Type 0
UnreadBy run.Done before after read = ⊥
UnreadBy run.Usage before after read = ⊥
UnreadBy run.ReadFault before after read = after.faults ≡ count_after before.faults
UnreadBy run.WriteFault before after read = ⊥
UnreadBy run.NoMemory before after read = after.faults ≡ before.faults
UnreadBy run.LineTooLong before after read = ⊥
UnreadBy run.ScriptTooLong before after read = (after.faults ≡ before.faults) × (set_limit < length read)

-- the input wasn't read whole, and the ending tells why
pub record IsUnread (before after : SourceState) (ending : Ending) : Type 0 where
  pub read : List ℕ
  pub consumed : Consumes before.left after.left read
  pub why : UnreadBy ending before after read

-- why an input is refused: it spells no set, or its set is refused
abbrev pub read_refusal : (SavedSet → Option SetErr) → Result SavedSet Bad → Option SetErr
read_refusal why (Ok set) = why set
read_refusal why (Err bad) = Some (set_err.Bad bad)

-- the same of the bytes of the input
abbrev pub input_refusal : (SavedSet → Option SetErr) → List ℕ → Option SetErr
input_refusal why read = read_refusal why (set_of read)

-- why set s isn't carried on to journal q
abbrev pub uncarried : History → ℕ → SavedSet → Option SetErr
uncarried h q s = carry_refusal h s q

-- ---- carry

-- The input spells a set that nothing refuses. Where its survivors are journals of this history, a text is the set that is carried on from
-- it to journal q, and that set is read back from it.
pub record IsCarriedText (q : ℕ) (read : List ℕ) (h : History) (written_text : List ℕ) : Type 0 where
  pub set : SavedSet
  pub read_is : set_of read ≡ Ok set
  pub unrefused : carry_refusal h set q ≡ None
  pub text_is : AreJournalsOf h set → written_text ≡ set_text (carried_set h q set)
  pub read_back : AreJournalsOf h set → set_of written_text ≡ Ok (carried_set h q set)

-- why no set is written: the input or the later journal is refused, it couldn't be read, it is too long, or memory was missing
abbrev pub IsUncarried : ℕ → List ℕ → History → LedgerEnding → Type 0
IsUncarried q read h (Run run.Done) = ⊥
IsUncarried q read h (Run run.Usage) = ⊥
IsUncarried q read h (Run run.ReadFault) = ⊤
IsUncarried q read h (Run run.WriteFault) = ⊥
IsUncarried q read h (Run run.NoMemory) = ⊤
IsUncarried q read h (Run run.LineTooLong) = ⊥
IsUncarried q read h (Run run.ScriptTooLong) = ⊤
IsUncarried q read h DiskFault = ⊥
IsUncarried q read h (Damaged damage) = ⊥
IsUncarried q read h Empty = ⊥
IsUncarried q read h Exists = ⊥
IsUncarried q read h (NewerFormat found) = ⊥
IsUncarried q read h NotaryFault = ⊥
IsUncarried q read h (Refused why) = TellsRefusal (input_refusal (uncarried h q) read) (Refused why)

-- a call that asks no disk ends with an error: that of a refusal, or for want of memory
abbrev pub RefusedBy : Option SetErr → SetErr → Type 0
RefusedBy why (set_err.Refused refusal) = why ≡ Some (set_err.Refused refusal)
RefusedBy why (set_err.Bad bad) = why ≡ Some (set_err.Bad bad)
RefusedBy why (set_err.NotBelow p) = why ≡ Some (set_err.NotBelow p)
RefusedBy why (set_err.OtherLedger kept) = why ≡ Some (set_err.OtherLedger kept)
RefusedBy why set_err.LeafPath = why ≡ Some set_err.LeafPath
RefusedBy why set_err.DiskFault = ⊥
RefusedBy why set_err.NoMemory = ⊤

-- what comes of carrying on the set that bytes spell
abbrev pub HasCarried : History → ℕ → List ℕ → Result (List ℕ) SetErr → Type 0
HasCarried h q bytes (Ok text) = IsCarriedText q bytes h text
HasCarried h q bytes (Err e) = RefusedBy (input_refusal (uncarried h q) bytes) e

-- an input was read so far, and its set was carried on in a book to journal q
pub record CarriesIn (book : Kept) (q : ℕ) (ending : LedgerEnding) (before now : Outside) : Type 0 where
  pub read : List ℕ
  pub consumed : Consumes before.source.left now.source.left read
  pub has_read : HasReadInput ending now.source read
  pub carries : TellsOne book (IsCarriedText q read) (IsUncarried q read) ending before now

-- what `carry` does: the ledger that is there is opened, and the set of the input is written again for a later time journal
pub record CarriesSet (q : ℕ) (tells : Bool) (ending : LedgerEnding) (before after_all : Handed) : Type 0 where
  pub read : List ℕ
  pub consumed : Consumes before.source.left after_all.source.left read
  pub has_read : HasReadInput ending after_all.source read
  pub opens : OpensAndWrites (IsCarriedText q read) (IsUncarried q read) tells ending before after_all
  pub unasked : after_all.notary ≡ before.notary

-- ---- revive

-- the line of a journal's view with this header and who: its content is there, or it was erased
abbrev pub body_line : Header → List ℕ → Option (List ℕ) → List ℕ
body_line header who None = line_of (codes "occulted") (hex_or_dash (headers.spelling header) ∷ hex_or_dash who ∷ [])
body_line header who (Some content) = line_of (codes "whole") (hex_or_dash (headers.spelling header) ∷ hex_or_dash content ∷ hex_or_dash who ∷ [])

-- the line of a journal's view, as a ledger shows it
abbrev pub view_line : Item → List ℕ
view_line item = body_line item.header item.who item.body

-- the line of a proof with what it claims
abbrev pub proof_line : Claim → List ℕ → List ℕ
proof_line claim proof =
    line_of (codes "proof") (decimal claim.n ∷ hex_of claim.leaf ∷ mark_text claim.lo ∷ mark_text claim.hi ∷ hex_or_dash proof ∷ [])

-- the same of what a proof shows
abbrev pub shown_line : Shown → List ℕ
shown_line shown = proof_line (claim_of shown) (proofs.spelling shown)

-- the two lines of a survivor: its view as it was kept, and its proof in this history, where the notary's list is this
abbrev pub revived_lines : History → List (List ℕ) → Saved → List ℕ
revived_lines h es x = view_line x.item ++ shown_line (shown_of h es x.item.header.jsn)

-- the proof of a survivor is accepted by an auditor who trusts the ledger's head and, where the journal has a bound, the list's
abbrev pub IsAcceptedIn : History → List (List ℕ) → Saved → Type 0
IsAcceptedIn h es x =
    let n = x.item.header.jsn in (trust : Trust) → TrustsHead trust h → (has_bound h n ≡ true → TrustsList trust es)
    → IsAccepted sha256 (proofs.spelling (shown_of h es n)) (claim_of (shown_of h es n)) trust

-- The input spells a set that nothing refuses. Where its survivors are journals of this history, a text is their lines, and each proof
-- in it is accepted where the notary's list has what the history's time journals name.
pub record IsRevivedText (es : List (List ℕ)) (read : List ℕ) (h : History) (written_text : List ℕ) : Type 0 where
  pub set : SavedSet
  pub read_is : set_of read ≡ Ok set
  pub unrefused : set_refusal h set ≡ None
  pub text_is : AreJournalsOf h set → written_text ≡ flat_map (revived_lines h es) set.survivors
  pub accepted : AreJournalsOf h set → Pegged h es → All (IsAcceptedIn h es) set.survivors

-- some survivor of a set lies behind a time journal, or in front of one, so that the notary is asked
abbrev pub has_bounds : History → SavedSet → Bool
has_bounds h s = list_any (λ x. has_bound h x.item.header.jsn) s.survivors

-- the input spells a set that nothing refuses, of which some survivor has a bound
abbrev pub AsksNotary : History → Result SavedSet Bad → Type 0
AsksNotary h (Ok set) = (set_refusal h set ≡ None) × (has_bounds h set ≡ true)
AsksNotary h (Err bad) = ⊥

-- Why nothing is written: the input is refused, it couldn't be read, it is too long, or memory was missing; or the notary failed, which
-- is asked where a survivor has a bound.
abbrev pub IsUnrevived : List ℕ → History → LedgerEnding → Type 0
IsUnrevived read h (Run run.Done) = ⊥
IsUnrevived read h (Run run.Usage) = ⊥
IsUnrevived read h (Run run.ReadFault) = ⊤
IsUnrevived read h (Run run.WriteFault) = ⊥
IsUnrevived read h (Run run.NoMemory) = ⊤
IsUnrevived read h (Run run.LineTooLong) = ⊥
IsUnrevived read h (Run run.ScriptTooLong) = ⊤
IsUnrevived read h DiskFault = ⊥
IsUnrevived read h (Damaged damage) = ⊥
IsUnrevived read h Empty = ⊥
IsUnrevived read h Exists = ⊥
IsUnrevived read h (NewerFormat found) = ⊥
IsUnrevived read h NotaryFault = ⊥
IsUnrevived read h (Refused why) =
    TellsRefusal (input_refusal (set_refusal h) read) (Refused why) ⊎ ((why ≡ Said refusals.NotaryFault) × AsksNotary h (set_of read))

-- what comes of a survivor whose two lines are appended: they are, where it is a journal of this history; or the notary failed, which is
-- asked where the journal has a bound; or memory was missing
abbrev pub PutsSurvivor : History → List (List ℕ) → ℕ → Saved → Result (Unit {0}) SetErr → List ℕ → List ℕ → Type 0
PutsSurvivor h es p x (Ok done) old new = IsSurvivorOf h p x → (new ≡ old ++ revived_lines h es x) × (Pegged h es → IsAcceptedIn h es x)
PutsSurvivor h es p x (Err (set_err.Refused refusal)) old new = (refusal ≡ refusals.NotaryFault) × (has_bound h x.item.header.jsn ≡ true)
PutsSurvivor h es p x (Err (set_err.Bad bad)) old new = ⊥
PutsSurvivor h es p x (Err (set_err.NotBelow q)) old new = ⊥
PutsSurvivor h es p x (Err (set_err.OtherLedger kept)) old new = ⊥
PutsSurvivor h es p x (Err set_err.LeafPath) old new = ⊥
PutsSurvivor h es p x (Err set_err.DiskFault) old new = ⊥
PutsSurvivor h es p x (Err set_err.NoMemory) old new = ⊤

-- the same of some survivors, one behind the other
abbrev pub PutsRevived : History → List (List ℕ) → ℕ → List Saved → Result (Unit {0}) SetErr → List ℕ → List ℕ → Type 0
PutsRevived h es p xs (Ok done) old new =
    All (IsSurvivorOf h p) xs → (new ≡ old ++ flat_map (revived_lines h es) xs) × (Pegged h es → All (IsAcceptedIn h es) xs)
PutsRevived h es p xs (Err (set_err.Refused refusal)) old new =
    (refusal ≡ refusals.NotaryFault) × (list_any (λ x. has_bound h x.item.header.jsn) xs ≡ true)
PutsRevived h es p xs (Err (set_err.Bad bad)) old new = ⊥
PutsRevived h es p xs (Err (set_err.NotBelow q)) old new = ⊥
PutsRevived h es p xs (Err (set_err.OtherLedger kept)) old new = ⊥
PutsRevived h es p xs (Err set_err.LeafPath) old new = ⊥
PutsRevived h es p xs (Err set_err.DiskFault) old new = ⊥
PutsRevived h es p xs (Err set_err.NoMemory) old new = ⊤

-- why the lines of the survivors aren't made of the set that bytes spell: they are refused, or the notary failed, or memory was missing
abbrev pub UnrevivedBy : History → List ℕ → SetErr → Type 0
UnrevivedBy h bytes (set_err.Refused refusal) =
    (input_refusal (set_refusal h) bytes ≡ Some (set_err.Refused refusal)) ⊎ ((refusal ≡ refusals.NotaryFault) × AsksNotary h (set_of bytes))
UnrevivedBy h bytes (set_err.Bad bad) = input_refusal (set_refusal h) bytes ≡ Some (set_err.Bad bad)
UnrevivedBy h bytes (set_err.NotBelow p) = input_refusal (set_refusal h) bytes ≡ Some (set_err.NotBelow p)
UnrevivedBy h bytes (set_err.OtherLedger kept) = input_refusal (set_refusal h) bytes ≡ Some (set_err.OtherLedger kept)
UnrevivedBy h bytes set_err.LeafPath = input_refusal (set_refusal h) bytes ≡ Some set_err.LeafPath
UnrevivedBy h bytes set_err.DiskFault = ⊥
UnrevivedBy h bytes set_err.NoMemory = ⊤

-- what comes of reviving the survivors of the set that bytes spell
abbrev pub HasRevived : History → List (List ℕ) → List ℕ → Result (List ℕ) SetErr → Type 0
HasRevived h es bytes (Ok text) = IsRevivedText es bytes h text
HasRevived h es bytes (Err e) = UnrevivedBy h bytes e

-- the notary was only asked, and failed once where the answer tells it, and else not
pub record AsksFor {A : Type 0} (result : Result A SetErr) (before now : NotaryState) : Type 0 where
  pub asked : dumps.IsOnlyAsked before now
  pub counts : CountsFaults result before.faults now.faults

-- an ending tells that the notary failed
abbrev pub tells_notary : LedgerEnding → Bool
tells_notary (Run plain) = false
tells_notary DiskFault = false
tells_notary (Damaged damage) = false
tells_notary Empty = false
tells_notary Exists = false
tells_notary (NewerFormat found) = false
tells_notary NotaryFault = false
tells_notary (Refused NoLineage) = false
tells_notary (Refused (Said refusal)) = is_fault refusal
tells_notary (Refused (NoSet bad)) = false
tells_notary (Refused (NotBelow point)) = false
tells_notary (Refused (OtherLedger kept)) = false
tells_notary (Refused LeafPath) = false

-- the notary failed once where the ending tells it, and else not; it was only asked
pub record AsksBy (ending : LedgerEnding) (before now : NotaryState) : Type 0 where
  pub asked : dumps.IsOnlyAsked before now
  pub counts : now.faults ≡ (if tells_notary ending then count_after before.faults else before.faults)

-- an input was read so far, and the survivors of its set were revived in a book
pub record RevivesIn (book : Kept) (es : List (List ℕ)) (ending : LedgerEnding) (before now : Outside) : Type 0 where
  pub read : List ℕ
  pub consumed : Consumes before.source.left now.source.left read
  pub has_read : HasReadInput ending now.source read
  pub revives : TellsOne book (IsRevivedText es read) (IsUnrevived read) ending before now

-- What `revive` does: the ledger that is there is opened, and the views and the proofs of the survivors of the input's set are
-- written. The notary is only asked.
pub record RevivesSet (tells : Bool) (ending : LedgerEnding) (before after_all : Handed) : Type 0 where
  pub read : List ℕ
  pub consumed : Consumes before.source.left after_all.source.left read
  pub has_read : HasReadInput ending after_all.source read
  pub opens : OpensAndWrites (IsRevivedText before.notary.entries read) (IsUnrevived read) tells ending before after_all
  pub asks : AsksBy ending before.notary after_all.notary
