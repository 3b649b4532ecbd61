-- What a set has of a history, why it is refused, and what is made of it.
use Rattle.std.specs.Prelude.{◌≡◌, ◌⊎◌, ℕ, nat_le, nat_lt, not, Bool, true, false, if◌then◌else◌, List, [], ◌∷◌, map, take, slice_get, All, Option, Some, None, option_map, bytes_eq, Result, Ok, Err, ⊤}
use Rattle.std.specs.List.{concat}
use Rattle.std.specs.Option.{option_or}
use Rattle.sha2.specs.Sha256.{sha256}
use Rattle.tree_model.specs.Path.{path, fold_bytes}
use Rattle.tree_model.specs.Tree.{leaf}
use Rattle.merkle_batch.specs.declared.tree.TreeErr.{TreeErr}
use Rattle.merkle_batch.specs.declared.tree.TreeErr.TheVariants as tree_err
use Rattle.ledger_bytes.specs.Causes.{count_after}
use Rattle.ledger_bytes.specs.Digests.{digest}
use Rattle.ledger_bytes.specs.declared.digest.Digest.{Digest}
use Rattle.ledger_bytes.specs.declared.refusal.Refusal.{Refusal}
use Rattle.ledger_bytes.specs.declared.refusal.Refusal.TheVariants.{NoJournal, Purged, NotTime, RootDiffers, NotaryFault}
use Rattle.journal_record.specs.Entry.{Entry}
use Rattle.journal_record.specs.Header.{spelling, code_of}
use Rattle.journal_record.specs.declared.header.Header.{Header}
use Rattle.journal_record.specs.declared.header.Kind.{Kind}
use Rattle.proof_codec.specs.Reading.{is_time}
use Rattle.ledger_model.specs.Bounds.{has_bound}
use Rattle.ledger_model.specs.Getting.{content_damage, who_damage}
use Rattle.ledger_model.specs.History.{History, journals, id, size, point, root, leaf_digest}
use Rattle.ledger_model.specs.Proofs.{shown_of}
use Rattle.proof_maker.specs.Making.{IsMade, is_fault}
use Rattle.proof_maker.specs.declared.made.Made.{Made}
use Rattle.proof_maker.specs.declared.made.MakeErr.{MakeErr}
use Rattle.proof_maker.specs.declared.made.MakeErr.TheVariants as make_err
use Rattle.survivor_set.specs.Reading.{set_of}
use Rattle.survivor_set.specs.Sets.{Saved, SavedSet, set_text}
use Rattle.survivor_set.specs.declared.failure.SetErr.{SetErr}
use Rattle.survivor_set.specs.declared.failure.SetErr.TheVariants.{Refused, Bad, NotBelow, OtherLedger, LeafPath, DiskFault, NoMemory}

-- the answer to a tree that has no such leaf or size, or to its want of memory
abbrev pub of_tree : TreeErr → SetErr
of_tree (tree_err.Below p) = Refused (Purged p)
of_tree (tree_err.Beyond size) = Refused (NoJournal size)
of_tree tree_err.NoMemory = NoMemory

-- the answer where no proof was made
abbrev pub of_make : MakeErr → SetErr
of_make (make_err.Refused why) = Refused why
of_make make_err.NoMemory = NoMemory

-- ---- what a set has of a history

-- the digests of the path of journal n under the root over the first p journals, one after the other
abbrev pub path_below : History → ℕ → ℕ → List ℕ
path_below h p n = concat (path sha256 n (take p (map leaf_digest (journals h))))

-- A survivor is a journal of this history: its header is the journal's, and its path leads to the root over the first p. Of its
-- content and its who nothing is said: they are those of the day on which it was kept, and its header names their digests.
pub record IsSurvivorOf (h : History) (p : ℕ) (x : Saved) : Type 0 where
  pub e : Entry
  pub there : slice_get (journals h) x.item.header.jsn ≡ Some e
  pub header_is : x.item.header ≡ e.header
  pub path_is : x.path ≡ path_below h p x.item.header.jsn

-- each survivor of a set is a journal of this history
abbrev pub AreJournalsOf : History → SavedSet → Type 0
AreJournalsOf h s = All (IsSurvivorOf h s.point) s.survivors

-- ---- why a set is refused

-- the root to which a path leads is the one that it has to lead to
abbrev pub is_root : Digest → Option (List ℕ) → Bool
is_root root None = false
is_root root (Some found) = bytes_eq found root.0

-- the path of a journal with this header doesn't lead to the set's root
abbrev pub path_refusal : SavedSet → Header → List ℕ → Option SetErr
path_refusal s header path =
    if is_root s.root (fold_bytes sha256 (leaf sha256 (spelling header)) header.jsn s.point path) then None else Some LeafPath

-- a content that is there has another digest than its header names
abbrev pub body_damage : Header → Option (List ℕ) → Option Refusal
body_damage header None = None
body_damage header (Some content) = content_damage header content

-- why a survivor is refused: its path leads elsewhere, or its content, where it's there, or its who has another digest
unfoldable pub survivor_refusal : SavedSet → Saved → Option SetErr
survivor_refusal s x =
    option_or (path_refusal s x.item.header x.path)
    (option_or (option_map Refused (body_damage x.item.header x.item.body))
    (option_map Refused (who_damage x.item.header x.item.who)))

-- why the first survivor is refused that is
abbrev pub survivors_refusal : SavedSet → List Saved → Option SetErr
survivors_refusal s [] = None
survivors_refusal s (x ∷ xs) = option_or (survivor_refusal s x) (survivors_refusal s xs)

-- why a set's id, point or root is refused
unfoldable pub front_refusal : History → SavedSet → Option SetErr
front_refusal h s =
    if not (bytes_eq s.id.0 (id h)) then Some (OtherLedger (digest (id h)))
    else if nat_le (size h) s.point then Some (Refused (NoJournal (size h)))
    else if nat_lt s.point (point h) then Some (Refused (Purged (point h)))
    else if not (bytes_eq s.root.0 (root h s.point)) then Some (Refused (RootDiffers (digest (root h s.point))))
    else None

-- why a set is refused by the ledger with this history
unfoldable pub set_refusal : History → SavedSet → Option SetErr
set_refusal h s = option_or (front_refusal h s) (survivors_refusal s s.survivors)

-- a journal of this kind tells no time
abbrev pub kind_refusal : Kind → Option SetErr
kind_refusal kind = if is_time kind then None else Some (Refused (NotTime (code_of kind)))

-- the journal at a point, where there is one, tells no time
abbrev pub time_refusal : Option Entry → Option SetErr
time_refusal None = None
time_refusal (Some e) = kind_refusal e.header.kind

-- why a set isn't carried on to journal q
unfoldable pub later_refusal : History → SavedSet → ℕ → Option SetErr
later_refusal h s q =
    if nat_le (size h) q then Some (Refused (NoJournal (size h)))
    else if nat_lt q s.point then Some (NotBelow s.point)
    else time_refusal (slice_get (journals h) q)

-- a call is refused so, or isn't refused
abbrev pub Tells : {A : Type 0} → Result A SetErr → Option SetErr → Type 0
Tells (Ok x) why = why ≡ None
Tells (Err e) why = why ≡ Some e

-- ---- what is made of a set

-- a survivor with its path under the root over the first q journals
abbrev pub carried_in : History → ℕ → Saved → Saved
carried_in h q x = record { item = x.item; path = path_below h q x.item.header.jsn }

-- The set that is carried on to journal q: the same journals, with the root over the first q and the paths that lead to it.
unfoldable pub carried_set : History → ℕ → SavedSet → SavedSet
carried_set h q s = record { id = s.id; point = q; root = digest (root h q); survivors = map (carried_in h q) s.survivors }

-- why a set isn't carried on to journal q: the set is refused, or the journal is
abbrev pub carry_refusal : History → SavedSet → ℕ → Option SetErr
carry_refusal h s q = option_or (set_refusal h s) (later_refusal h s q)

-- a call that takes memory ends with an error: that of a refusal, or for want of memory where nothing is refused
abbrev pub CarryEnds : Option SetErr → SetErr → Type 0
CarryEnds why (Refused refusal) = why ≡ Some (Refused refusal)
CarryEnds why (Bad bad) = ⊥
CarryEnds why (NotBelow p) = why ≡ Some (NotBelow p)
CarryEnds why (OtherLedger kept) = why ≡ Some (OtherLedger kept)
CarryEnds why LeafPath = why ≡ Some LeafPath
CarryEnds why DiskFault = ⊥
CarryEnds why NoMemory = why ≡ None

-- What comes of carrying a set on to journal q: the bytes of the carried set, which is read back from them, where its survivors are
-- journals of this history; and why there are none where something refuses it.
abbrev pub CarriesOn : History → SavedSet → ℕ → Result (List ℕ) SetErr → Type 0
CarriesOn h s q (Ok bytes) =
    (carry_refusal h s q ≡ None) × (AreJournalsOf h s → bytes ≡ set_text (carried_set h q s)) × (AreJournalsOf h s → set_of bytes ≡ Ok (carried_set h q s))
CarriesOn h s q (Err e) = CarryEnds (carry_refusal h s q) e

-- ---- what is still proved

-- a failure of the notary or of a disk is no refusal of a set
abbrev pub IsOwn : SetErr → Type 0
IsOwn (Refused why) = is_fault why ≡ false
IsOwn (Bad bad) = ⊤
IsOwn (NotBelow p) = ⊤
IsOwn (OtherLedger kept) = ⊤
IsOwn LeafPath = ⊤
IsOwn DiskFault = ⊥
IsOwn NoMemory = ⊤

-- why no proof is made of a survivor, where a set is refused or isn't: the refusal; or the notary failed, which is asked only
-- where the journal has a bound; or memory was short
abbrev pub RevivesNot : Option SetErr → Bool → SetErr → Type 0
RevivesNot why bound (Refused refusal) = (why ≡ Some (Refused refusal)) ⊎ ((refusal ≡ NotaryFault) × (bound ≡ true) × (why ≡ None))
RevivesNot why bound (Bad bad) = ⊥
RevivesNot why bound (NotBelow p) = why ≡ Some (NotBelow p)
RevivesNot why bound (OtherLedger kept) = why ≡ Some (OtherLedger kept)
RevivesNot why bound LeafPath = why ≡ Some LeafPath
RevivesNot why bound DiskFault = ⊥
RevivesNot why bound NoMemory = why ≡ None

-- What comes of reviving a survivor of a set, where the notary's list is this: the proof of the journal, where it's a journal of this
-- history; and why there is none.
abbrev pub Revives : History → List (List ℕ) → Option SetErr → ℕ → Saved → Result Made SetErr → Type 0
Revives h es why p x (Ok made) = (why ≡ None) × (IsSurvivorOf h p x → IsMade (shown_of h es x.item.header.jsn) made)
Revives h es why p x (Err e) = RevivesNot why (has_bound h x.item.header.jsn) e

-- the count of the notary's faults rises by one exactly where its failure is answered; at the end of its type it stays
abbrev pub CountsFaults : {A : Type 0} → Result A SetErr → ℕ → ℕ → Type 0
CountsFaults (Ok x) before now = now ≡ before
CountsFaults (Err (Refused why)) before now = now ≡ (if is_fault why then count_after before else before)
CountsFaults (Err (Bad bad)) before now = now ≡ before
CountsFaults (Err (NotBelow p)) before now = now ≡ before
CountsFaults (Err (OtherLedger kept)) before now = now ≡ before
CountsFaults (Err LeafPath) before now = now ≡ before
CountsFaults (Err DiskFault) before now = now ≡ before
CountsFaults (Err NoMemory) before now = now ≡ before
